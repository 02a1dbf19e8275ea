-- What each command does, as laws to rewrite by: one for each line of its table, and one where no line holds. Assumes nothing.
use mathlib.Core.Path.{◌≡◌, refl}
use mathlib.Core.Bool.{true, false}
use mathlib.Core.List.{[], ◌∷◌, ◌++◌}
use Prim.Native.Nat.{ℕ}
use lib.Dec.{leb, ltb}
use lib.ListN.{length}
use Rattle.model.specs.Numbers.{AGAIN, CALLER, DEAD, FULL, HANDFUL, KIND, KINDS, LAST_CALLER, LAST_KIND, LIST_CAPACITY, MAX_GROUP_ARITY, MAX_GROUP_COUNT}
use Rattle.model.specs.Model.{Entity, mem, is_full, free_numbers, is_live, groups_of, adds_nothing, joins, destroy, insert_components, remove}
use Rattle.model.specs.Adding.{add_group}
use Rattle.model.specs.Store.{Store, bytes_of, staged_kinds, is_kind, with_control, with_storage, with_all, with_kinds, with_staged, with_excluded, with_caller, own_refusals, empty_staged, empty_both}
use Rattle.model.specs.Commands.{REG, HOLD, NEW, PUT, TAKE, DROP, KILL, WIPE, GROUP, APPLY, BAR, RANGE, EMPTY, TALLY, TRAY, SETCALLER, held_bytes, accepted}
use Rattle.model.specs.Refusals.{lines_of, unknown_kind}
use Rattle.model.specs.Run.{refuses, accepts, does}
use Rattle.model.proofs.BoolLaws.{bool_cases}
use Rattle.model.specs.Theorems.{grouped}

module _ (s : Store) where
  -- ---- REG

  pub reg_above : (k : ℕ) → ltb LAST_KIND k ≡ true → does (REG k) s ≡ refuses KIND
  unfolding does lines_of
  reg_above k h = rw h

  pub reg_full : (k : ℕ) → ltb LAST_KIND k ≡ false → is_kind k s ≡ false → leb s.settings.kind_capacity (length s.kinds) ≡ true → does (REG k) s ≡ refuses KINDS
  unfolding does lines_of
  reg_full k h i j = rw (h, i, j)

  pub reg_known : (k : ℕ) → ltb LAST_KIND k ≡ false → is_kind k s ≡ true → does (REG k) s ≡ accepts s (0 ∷ [])
  unfolding does lines_of accepted
  reg_known k h i = rw (h, i)

  pub reg_new : (k : ℕ) → ltb LAST_KIND k ≡ false → is_kind k s ≡ false → leb s.settings.kind_capacity (length s.kinds) ≡ false → does (REG k) s ≡ accepts (with_kinds s (s.kinds ++ (k ∷ []))) (1 ∷ [])
  unfolding does lines_of accepted
  reg_new k h i j = rw (h, i, j)

  -- ---- HOLD

  pub hold_unknown : (k v : ℕ) → unknown_kind k s ≡ true → does (HOLD k v) s ≡ refuses KIND
  unfolding does lines_of
  hold_unknown k v h = rw h

  pub hold_again : (k v : ℕ) → unknown_kind k s ≡ false → mem k (staged_kinds s) ≡ true → does (HOLD k v) s ≡ refuses AGAIN
  unfolding does lines_of
  hold_again k v h i = rw (h, i)

  pub hold_full : (k v : ℕ) → unknown_kind k s ≡ false → mem k (staged_kinds s) ≡ false → leb LIST_CAPACITY (length s.control.staged) ≡ true → does (HOLD k v) s ≡ refuses HANDFUL
  unfolding does lines_of
  hold_full k v h i j = rw (h, i, j)

  pub hold_staged : (k v : ℕ) → unknown_kind k s ≡ false → mem k (staged_kinds s) ≡ false → leb LIST_CAPACITY (length s.control.staged) ≡ false → does (HOLD k v) s ≡ accepts (with_control s (with_staged s.control (s.control.staged ++ (record { kind = k; value = v } ∷ [])))) []
  unfolding does lines_of accepted
  hold_staged k v h i j = rw (h, i, j)

  -- ---- BAR

  pub bar_unknown : (k : ℕ) → unknown_kind k s ≡ true → does (BAR k) s ≡ refuses KIND
  unfolding does lines_of
  bar_unknown k h = rw h

  pub bar_again : (k : ℕ) → unknown_kind k s ≡ false → mem k s.control.excluded ≡ true → does (BAR k) s ≡ refuses AGAIN
  unfolding does lines_of
  bar_again k h i = rw (h, i)

  pub bar_full : (k : ℕ) → unknown_kind k s ≡ false → mem k s.control.excluded ≡ false → leb LIST_CAPACITY (length s.control.excluded) ≡ true → does (BAR k) s ≡ refuses HANDFUL
  unfolding does lines_of
  bar_full k h i j = rw (h, i, j)

  pub bar_excluded : (k : ℕ) → unknown_kind k s ≡ false → mem k s.control.excluded ≡ false → leb LIST_CAPACITY (length s.control.excluded) ≡ false → does (BAR k) s ≡ accepts (with_control s (with_excluded s.control (s.control.excluded ++ (k ∷ [])))) []
  unfolding does lines_of accepted
  bar_excluded k h i j = rw (h, i, j)

  -- ---- NEW

  pub new_full : is_full s.settings.capacity s.entities ≡ true → does NEW s ≡ refuses FULL
  unfolding does lines_of
  new_full h = rw h

  pub new_created : is_full s.settings.capacity s.entities ≡ false → does NEW s ≡ accepts (accepted NEW s).store (accepted NEW s).answer
  unfolding does lines_of
  new_created h = rw h

  -- ---- TRAY

  pub tray_full : (n : ℕ) → ltb (free_numbers s.settings.capacity s.entities) n ≡ true → does (TRAY n) s ≡ refuses FULL
  unfolding does lines_of
  tray_full n h = rw h

  pub tray_made : (n : ℕ) → ltb (free_numbers s.settings.capacity s.entities) n ≡ false → does (TRAY n) s ≡ accepts (accepted (TRAY n) s).store (accepted (TRAY n) s).answer
  unfolding does lines_of
  tray_made n h = rw h

  -- ---- PUT, TAKE, DROP, KILL

  pub put_dead : (e : Entity) → is_live e s.entities ≡ false → does (PUT e) s ≡ refuses DEAD
  unfolding does lines_of
  put_dead e h = rw h

  pub put_live : (e : Entity) → is_live e s.entities ≡ true → does (PUT e) s ≡ accepts (with_control (with_storage s (insert_components e s.control.staged s.storage)) (empty_staged s.control)) []
  unfolding does lines_of accepted
  put_live e h = rw h

  pub take_dead : (e : Entity) → is_live e s.entities ≡ false → does (TAKE e) s ≡ refuses DEAD
  unfolding does lines_of
  take_dead e h = rw h

  pub take_live : (e : Entity) → is_live e s.entities ≡ true → does (TAKE e) s ≡ accepts (with_control (with_storage s (remove e (staged_kinds s) s.storage)) (empty_staged s.control)) (held_bytes s.settings.value_bytes e (staged_kinds s) s.storage)
  unfolding does lines_of accepted
  take_live e h = rw h

  pub drop_dead : (e : Entity) → is_live e s.entities ≡ false → does (DROP e) s ≡ refuses DEAD
  unfolding does lines_of
  drop_dead e h = rw h

  pub drop_live : (e : Entity) → is_live e s.entities ≡ true → does (DROP e) s ≡ accepts (with_control (with_storage s (remove e (staged_kinds s) s.storage)) (empty_staged s.control)) []
  unfolding does lines_of accepted
  drop_live e h = rw h

  pub kill_dead : (e : Entity) → is_live e s.entities ≡ false → does (KILL e) s ≡ refuses DEAD
  unfolding does lines_of
  kill_dead e h = rw h

  pub kill_live : (e : Entity) → is_live e s.entities ≡ true → does (KILL e) s ≡ accepts (with_all s (destroy e s.entities) (remove e s.kinds s.storage) s.control) []
  unfolding does lines_of accepted
  kill_live e h = rw h

  -- ---- SETCALLER

  pub caller_above : (c : ℕ) → ltb LAST_CALLER c ≡ true → does (SETCALLER c) s ≡ refuses CALLER
  unfolding does lines_of
  caller_above c h = rw h

  pub caller_set : (c : ℕ) → ltb LAST_CALLER c ≡ false → does (SETCALLER c) s ≡ accepts (with_control s (with_caller s.control c)) []
  unfolding does lines_of accepted
  caller_set c h = rw h

  -- ---- commands that are never refused

  pub wipe_does : does WIPE s ≡ accepts (accepted WIPE s).store []
  unfolding does lines_of accepted
  wipe_does = refl

  pub apply_does : does APPLY s ≡ accepts (accepted APPLY s).store []
  unfolding does lines_of accepted
  apply_does = refl

  pub range_does : does RANGE s ≡ accepts (accepted RANGE s).store (accepted RANGE s).answer
  unfolding does lines_of
  range_does = refl

  pub empty_does : does EMPTY s ≡ accepts (with_control s (empty_both s.control)) []
  unfolding does lines_of accepted
  empty_does = refl

  pub tally_does : does TALLY s ≡ accepts s (bytes_of 4 (own_refusals s.control))
  unfolding does lines_of accepted
  tally_does = refl

-- ---- GROUP, by the layout's own add_group

pub group_does : (s : Store) → does GROUP s ≡ grouped s (add_group (staged_kinds s) s.control.draft)
unfolding does lines_of accepted add_group
group_does s =
    bool_cases (ltb MAX_GROUP_ARITY (length (staged_kinds s))) (λ a. rw a)
    (λ a. bool_cases (adds_nothing (staged_kinds s) s.control.draft) (λ b. rw (a, b))
    (λ b. bool_cases (joins (staged_kinds s) s.control.draft)
    (λ c. bool_cases (leb MAX_GROUP_COUNT (groups_of s.control.draft)) (λ d. rw (a, b, c, d)) (λ d. rw (a, b, c, d)))
    (λ c. rw (a, b, c))))
