-- What the queries of the staged and of the excluded kinds say, over the words. Assumes nothing.
use Rattle.std.specs.Prelude.{List, [], ◌∷◌, ◌++◌, ℕ, Option, Some, None}
use Rattle.model.specs.Model.{Storage}
use Rattle.layout.specs.Layout.{Arrays}
use Rattle.memory.specs.Meaning.{layout_arrays, meaning}
use Rattle.group_info.specs.Describes.{DescribesQuery, Scattered}
use Rattle.group_info.specs.declared.QueryGroupInfo.{QueryGroupInfo}

-- a query info describes the kinds; without one, they are of no one family
abbrev pub QuerySays : Arrays → Storage → List ℕ → Option QueryGroupInfo → Type 0
QuerySays a s hs (Some q) = DescribesQuery a s hs q
QuerySays a s hs None = Scattered a hs

-- of the layout in force and the storage that the words mean
abbrev pub QueryOf : List ℕ → List ℕ → Option QueryGroupInfo → Type 0
QueryOf w hs r = QuerySays (layout_arrays w) (meaning w).storage hs r

-- what a kind more makes of it
abbrev pub KindAdded : List ℕ → Option QueryGroupInfo → ℕ → Option QueryGroupInfo → Type 0
KindAdded w q k r = (hs : List ℕ) → QueryOf w hs q → QueryOf w (hs ++ (k ∷ [])) r
