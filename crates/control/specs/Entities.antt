-- What the functions on entities answer, in the model's terms. Assumes nothing.
use Rattle.std.specs.Prelude.{◌≡◌, List, ℕ, ◌+◌, ◌*◌, ◌≤◌, ◌<◌, length}
use Rattle.model.specs.Numbers.{ENTITY_LEN, MAX_ENTITIES}
use Rattle.words.specs.Offsets.{ENTITIES}
use Rattle.model.specs.Model.{create}
use Rattle.model.specs.Store.{with_entities}
use Rattle.words.specs.declared.Entity.{Entity}
use Rattle.entity.specs.declared.entity_part.EntityPart.{EntityPart}
use Rattle.entity.specs.Lent.{entities}
use Rattle.entity.specs.Answers.{entity_of_answer}
use Rattle.memory.specs.Header.{capacity_of}
use Rattle.memory.specs.Meaning.{meaning}
use Rattle.memory.specs.Arranged.{Becomes}

-- 01: "capacity N (cards)"; the words have the part of N entities
pub record Capacity (w : List ℕ) (n : ℕ) : Type 0 where
  pub is : n ≡ (meaning w).settings.capacity
  pub some : 1 ≤ n
  pub most : n ≤ MAX_ENTITIES
  pub word : n ≡ capacity_of w
  pub fits : ENTITIES + ENTITY_LEN * n ≤ length w

-- the entity part, with its capacity: what it means are the store's entities
pub record PartLent (w : List ℕ) (p : EntityPart) : Type 0 where
  pub capacity : p.capacity ≡ (meaning w).settings.capacity
  pub entities : entities p ≡ (meaning w).entities

-- 01: "A new card takes the longest waiting number, else the next index at version 1, and joins the live list at its end"
pub record Creates (w w' : List ℕ) (r : Entity) : Type 0 where
  pub becomes : Becomes w w' (with_entities (meaning w) (create (meaning w).entities).entities)
  pub entity : entity_of_answer r ≡ (create (meaning w).entities).entity
  pub below : r.index < (meaning w).settings.capacity
  pub positive : 1 ≤ r.version
