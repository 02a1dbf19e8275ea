-- What a creation and a destruction leave: the store that the model has. Assumes nothing.
use Rattle.std.specs.Prelude.{◌≡◌, List, ℕ}
use Rattle.model.specs.Model.{Entity, insert_components, remove, create, destroy}
use Rattle.model.specs.Store.{Store, with_all}
use Rattle.words.specs.declared.Entity.{Entity as Answer}
use Rattle.entity.specs.Answers.{entity_of_answer}
use Rattle.memory.specs.Meaning.{meaning}
use Rattle.memory.specs.Arranged.{Becomes}

-- NEW: "create with the hand; index 4, version 4"
abbrev pub created : Store → Store
created s = with_all s (create s.entities).entities (insert_components (create s.entities).entity s.control.staged s.storage) s.control

pub record NewEntity (w w' : List ℕ) (r : Answer) : Type 0 where
  pub becomes : Becomes w w' (created (meaning w))
  pub entity : entity_of_answer r ≡ (create (meaning w).entities).entity

-- KILL: "destroy"; "A destroyed card leaves all groups"
abbrev pub killed : Entity → Store → Store
killed e s = with_all s (destroy e s.entities) (remove e s.kinds s.storage) s.control
