-- Changes of the entities: of the model, of the part, and of the whole words that hold the part. Assumes nothing.
use Rattle.std.specs.Prelude.{◌≡◌, cond, List, [], ◌∷◌, ◌++◌, ℕ, suc, ◌+◌, ◌*◌, ◌≤◌, ◌<◌, ltb, length, take, drop}
use Rattle.model.specs.Numbers.{ENTITY_LEN}
use Rattle.words.specs.Offsets.{ENTITIES}
use Rattle.model.specs.Lists.{cut_at}
use Rattle.model.specs.Model.{Entity, Entities, no_entity, last_version, entity}
use Rattle.entity.specs.Meaning.{EntityPartSound, entities_of, issued_of, held_of, queue_slot, entity_part, entities_in}

-- ---- the steps of create and destroy

-- e joins the live list at its end
abbrev pub joined : Entity → Entities → Entities
joined e s = record { live = s.live ++ (e ∷ []); recycled = s.recycled; issued = s.issued }

-- the live list's last takes the place p
abbrev pub left : ℕ → Entities → Entities
left p s = record { live = cut_at no_entity p s.live; recycled = s.recycled; issued = s.issued }

-- the number e waits, behind all that wait
abbrev pub queued : Entity → Entities → Entities
queued e s = record { live = s.live; recycled = s.recycled ++ (e ∷ []); issued = s.issued }

-- the longest waiting number waits no more
abbrev pub unqueued : Entities → Entities
unqueued s = record { live = s.live; recycled = drop 1 s.recycled; issued = s.issued }

-- the next index is issued
abbrev pub numbered : Entities → Entities
numbered s = record { live = s.live; recycled = s.recycled; issued = suc s.issued }

-- a number is taken for a new entity: the longest waiting one, else the next index
abbrev pub allocated_from : List Entity → Entities → Entities
allocated_from [] s = numbered s
allocated_from (e ∷ es) s = unqueued s

abbrev pub allocated : Entities → Entities
allocated s = allocated_from s.recycled s

-- a destroyed entity's number waits with its version plus one, or is retired if there is none
abbrev pub recycled_as : Entity → Entities → Entities
recycled_as e s =
    let again = queued (entity e.index (suc e.version)) s in
    cond (ltb e.version last_version) again s

-- ---- the part

-- the entities have become f of what they were, and the part is sound
pub record EntitiesChanged (n : ℕ) (f : Entities → Entities) (w w' : List ℕ) : Type 0 where
  pub sound : EntityPartSound n w'
  pub size : length w' ≡ length w
  pub becomes : entities_of n w' ≡ f (entities_of n w)

-- ---- the whole words

-- the words have a sound entity part
pub record SoundIn (n : ℕ) (w : List ℕ) : Type 0 where
  pub fits : ENTITIES + ENTITY_LEN * n ≤ length w
  pub sound : EntityPartSound n (entity_part n w)

-- the entities have become f of what they were; the words before and after their part are as they were
pub record EntityChange (n : ℕ) (f : Entities → Entities) (w w' : List ℕ) : Type 0 where
  pub sound : EntityPartSound n (entity_part n w')
  pub size : length w' ≡ length w
  pub becomes : entities_in n w' ≡ f (entities_in n w)
  pub front : take ENTITIES w' ≡ take ENTITIES w
  pub rest : drop (ENTITIES + ENTITY_LEN * n) w' ≡ drop (ENTITIES + ENTITY_LEN * n) w

-- index x is issued, and neither live nor waiting: retired, or between the two
pub record Idle (n : ℕ) (w : List ℕ) (x : ℕ) : Type 0 where
  pub below : x < issued_of w
  pub free : held_of n w x ≡ 0
  pub unlisted : queue_slot n w x ≡ 0
