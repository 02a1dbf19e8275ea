-- What the functions answer, in the model's terms. Assumes nothing.
use Rattle.std.specs.Prelude.{◌≡◌, Bool, true, false, List, ℕ, ◌≤◌, get_or}
use Rattle.model.specs.Lists.{place}
use Rattle.model.specs.Model.{Entity, Entities, no_entity, same_entity, is_live, create, entity}
use Rattle.words.specs.declared.Entity.{Entity as Answer}
use Rattle.words.specs.declared.Found.{Found}
use Rattle.words.specs.declared.Found.TheVariants.{At, Nothing}
use Rattle.entity.specs.Meaning.{entities_of, entities_in}
use Rattle.entity.specs.Change.{Idle, EntitiesChanged, EntityChange, unqueued, numbered, allocated}

-- the answered entity, as the model has it
abbrev pub entity_of_answer : Answer → Entity
entity_of_answer r = entity r.index r.version

abbrev pub pick_found : Bool → ℕ → Found
pick_found true p = At p
pick_found false p = Nothing

-- a lookup finds an entity only with equal version: its place in the live list, or nothing
abbrev pub found_of : Entity → Entities → Found
found_of e s = pick_found (is_live e s) (place same_entity e s.live)

-- e is live, and its lookup says the place p
abbrev pub LiveAt : Entity → ℕ → Entities → Type 0
LiveAt e p s = found_of e s ≡ At p

-- a number taken for a new entity
pub record Allocated (n : ℕ) (w w' : List ℕ) (r : Answer) : Type 0 where
  pub changed : EntitiesChanged n allocated w w'
  pub entity : entity_of_answer r ≡ (create (entities_of n w)).entity
  pub idle : Idle n w' r.index
  pub positive : 1 ≤ r.version

-- a new entity: the model's, which joins the live list
abbrev pub with_created : Entities → Entities
with_created s = (create s).entities

pub record EntityCreated (n : ℕ) (w w' : List ℕ) (r : Answer) : Type 0 where
  pub changed : EntitiesChanged n with_created w w'
  pub entity : entity_of_answer r ≡ (create (entities_of n w)).entity

pub record CreatedIn (n : ℕ) (w w' : List ℕ) (r : Answer) : Type 0 where
  pub changed : EntityChange n with_created w w'
  pub entity : entity_of_answer r ≡ (create (entities_in n w)).entity

-- the longest waiting number, taken
pub record Unqueued (n : ℕ) (w w' : List ℕ) (r : Answer) : Type 0 where
  pub changed : EntitiesChanged n unqueued w w'
  pub entity : entity_of_answer r ≡ get_or (entities_of n w).recycled 0 no_entity
  pub idle : Idle n w' r.index
  pub positive : 1 ≤ r.version

-- the next index, issued
pub record Issued (n : ℕ) (w w' : List ℕ) (r : Answer) : Type 0 where
  pub changed : EntitiesChanged n numbered w w'
  pub entity : entity_of_answer r ≡ entity (entities_of n w).issued 1
  pub idle : Idle n w' r.index
  pub positive : 1 ≤ r.version
