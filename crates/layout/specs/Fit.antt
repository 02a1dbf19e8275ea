-- How staged kinds stand to the families of a layout: the cases of the rule for a new group (02, No. 1). Assumes nothing.
use Rattle.std.specs.Prelude.{Bool, true, false, cond, List, [], ◌∷◌, ◌++◌, ℕ, suc, ◌+◌, length}
use Rattle.model.specs.Model.{Family, meets, within, kinds_of, is_group, chains}
use Rattle.layout.specs.Layout.{Arrays, WellFormed, KindSet, AritiesRising}
use Rattle.layout.specs.ByValue.{ArraysSized}
use Rattle.layout.specs.declared.group_layout.Part.{Part}
use Rattle.layout.specs.declared.group_layout.Part.TheVariants.{Apart, Same, At, Cross}
use Rattle.layout.specs.declared.group_layout.Fit.{Fit}
use Rattle.layout.specs.declared.group_layout.Fit.TheVariants.{Fresh, Present, Onto, Clash}

-- p where the test holds, else q
abbrev pub pick_part : Bool → Part → Part → Part
pick_part true p q = p
pick_part false p q = q

-- "it may go below, between or above": ks goes behind the groups that it holds, which are so many; acc are the kinds of the group before
abbrev pub place_in : List ℕ → List ℕ → Family → ℕ
place_in ks acc [] = 0
place_in ks acc (r ∷ rs) =
    let further = suc (place_in ks (acc ++ r.new_kinds) rs) in
    cond (within (acc ++ r.new_kinds) ks) further 0

-- "all groups of that family, with it, are a chain": then ks has a place among them; else it crosses the family
abbrev pub chain_place : List ℕ → Family → Part
chain_place ks f = pick_part (chains ks [] f) (At (place_in ks [] f)) Cross

-- equal to a group of the family; else sharing no kind with it; else at a place among its groups or crossing it
abbrev pub part_of : List ℕ → Family → Part
part_of ks f = pick_part (is_group ks [] f) Same (pick_part (meets ks (kinds_of f)) (chain_place ks f) Apart)

-- at a place of family f, after acc: "shares kinds with one family at most", which is f unless there was another
abbrev pub join_at : ℕ → ℕ → Fit → Fit
join_at f at Fresh = Onto f at
join_at f at Present = Present
join_at f at (Onto g p) = Clash
join_at f at Clash = Clash

-- a family is crossed, after acc: "CLASH shrinks to what is left", which is this and a second family, but for an equal group
abbrev pub join_cross : Fit → Fit
join_cross Fresh = Clash
join_cross Present = Present
join_cross (Onto g p) = Clash
join_cross Clash = Clash

-- after family f: an equal group settles it, and sharing kinds with two families clashes
abbrev pub join_fit : Fit → ℕ → Part → Fit
join_fit acc f Apart = acc
join_fit acc f Same = Present
join_fit acc f (At p) = join_at f p acc
join_fit acc f Cross = join_cross acc

-- how the kinds stand to the families from number f on, after acc
unfoldable pub fit_from : List ℕ → ℕ → Fit → List Family → Fit
fit_from ks f acc [] = acc
fit_from ks f acc (x ∷ xs) = fit_from ks (f + 1) (join_fit acc f (part_of ks x)) xs

-- ---- what the functions on one family and on all ask

-- a family of kinds ks whose groups have the arities ars, and the staged kinds hs
pub record FamilyAsk (ks ars hs : List ℕ) : Type 0 where
  pub rising : AritiesRising 0 (length ks) ars
  pub kinds : KindSet ks
  pub staged : KindSet hs

-- a well-formed layout, and the staged kinds hs
pub record FitAsk (a : Arrays) (hs : List ℕ) : Type 0 where
  pub sized : ArraysSized a
  pub good : WellFormed a
  pub staged : KindSet hs
