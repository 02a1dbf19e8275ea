-- The entities of a store in the whole words, and what is known of a live one. Assumes nothing.
use mathlib.Core.Path.{◌≡◌, ap, ◌∙◌, subst}
use mathlib.Core.Bool.{true}
use mathlib.Core.List.{List}
use Prim.Native.Nat.{ℕ}
use native.Mathlib.Omega.{arith}
use Rattle.model.specs.Model.{Entities, is_live, create}
use Rattle.model.specs.Store.{with_entities}
use Rattle.model.proofs.Operations.{create_is_live}
use Rattle.words.specs.Offsets.{CAPACITY}
use Rattle.words.proofs.Offsets.{column_start_mono, column_start_first}
use Rattle.words.specs.declared.Entity.{Entity as Answer}
use Rattle.entity.specs.Meaning.{entity_part, entities_in}
use Rattle.entity.specs.Change.{SoundIn, EntityChange}
use Rattle.entity.specs.Answers.{entity_of_answer, with_created, CreatedIn}
use Rattle.entity.proofs.Known.{known_live}
use Rattle.memory.specs.Header.{kind_capacity_of}
use Rattle.words.specs.Word.{Word}
use Rattle.words.specs.Shape.{shape_of}
use Rattle.memory.specs.Meaning.{meaning}
use Rattle.memory.specs.Arranged.{Arranged, Becomes}
use Rattle.memory.proofs.Becomes.{entities_become}
use Rattle.control.specs.Entities.{Capacity, Creates}

pub capacity_is : (w : List ℕ) → Arranged w → (n : ℕ) → Word w CAPACITY n → Capacity w n
unfolding meaning
capacity_is w A n r =
    record {
      is = r.is;
      some = omega (arith, r.is, A.limits.some);
      most = omega (arith, r.is, A.limits.most);
      word = r.is;
      fits = omega (arith, r.is, A.enough, column_start_first (shape_of w), column_start_mono (shape_of w) 0 (kind_capacity_of w) (omega arith));
    }

-- what `entity` reads is the store's, and sound
module _ (w : List ℕ) (n : ℕ) (C : Capacity w n) where
  pub entities_read : entities_in n w ≡ (meaning w).entities
  unfolding meaning
  entities_read = rw C.word

  pub sound_in : Arranged w → SoundIn n w
  sound_in A = record { fits = C.fits; sound = rw C.word A.entities }

  pub changed_becomes : Arranged w → (w' : List ℕ) (f : Entities → Entities) → EntityChange n f w w' → Becomes w w' (with_entities (meaning w) (f (meaning w).entities))
  changed_becomes A w' f c = entities_become w w' A f (subst (λ (m : ℕ). EntityChange m f w w') C.word c)

-- ---- live entities

pub created_becomes : (w : List ℕ) → Arranged w → (n : ℕ) → Capacity w n → (w' : List ℕ) (r : Answer) → CreatedIn n w w' r → Creates w w' r
created_becomes w A n C w' r c =
    let live : is_live (entity_of_answer r) (entities_in n w') ≡ true = rw (c.changed.becomes, c.entity) (create_is_live (entities_in n w)) in
    let small = known_live n (entity_part n w') c.changed.sound (entity_of_answer r) live in
    record {
      becomes = changed_becomes w n C A w' with_created c.changed;
      entity = c.entity ∙ ap (λ (x : Entities). (create x).entity) (entities_read w n C);
      below = omega (arith, small.below, C.is);
      positive = small.positive;
    }
