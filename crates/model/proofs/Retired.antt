-- "From an empty store, numbers issued = live + waiting + retired; retired counts past destructions at the last version." Assumes nothing.
use mathlib.Core.Path.{◌≡◌, refl, ap, sym, ◌∙◌, subst}
use mathlib.Core.Bool.{true, ◌&&◌}
use mathlib.Core.List.{List, [], ◌∷◌}
use Prim.Native.Nat.{ℕ, zero, suc, ◌+◌, ◌-◌, ◌<◌}
use native.Mathlib.Omega.{arith}
use native.Mathlib.Nat.{add-zero, zero-add}
use borrow.Author.Tests.{ltb-true, ltb-false, le-leb, lt-leb, not-false}
use lib.Dec.{ltb, leb}
use lib.ListN.{length, take, drop, get_or, set, length-append, length-set}
use lib.Seq.{length-take-le}
use Rattle.model.specs.Lists.{one, place}
use Rattle.model.specs.Model.{Entity, Entities, same_entity, no_entity, is_live, adds_nothing, last_version, Component, Storage, Extended, create, create_with, extend, destroy}
use Rattle.model.specs.Store.{Settings, Store, empty_with, staged_kinds, is_kind}
use Rattle.model.specs.Commands.{Command, REG, HOLD, NEW, PUT, TAKE, DROP, KILL, WIPE, GROUP, APPLY, BAR, RANGE, EMPTY, TALLY, TRAY, SETCALLER, Done, accepted, command_on, operands_len}
use Rattle.model.specs.Refusals.{NoneHolds, lines_of}
use Rattle.model.specs.Run.{Outcome, refuses, accepts, does, Step, stops, goes, step_of, step, Ran, halt, more, run_for, run}
use Rattle.model.specs.History.{retires, retired_for, retired}
use Rattle.model.proofs.BoolLaws.{cond_case, bool_cases}
use Rattle.model.proofs.Lines.{accepted_exact}
use Rattle.model.proofs.Lengths.{step_case, clash}
use Rattle.model.proofs.Extending.{each_created, new_keeps}
use Rattle.model.specs.Theorems.{Balanced, IfGoes}

-- ---- creation and destruction

create_with_law : (w : List Entity) (c : Entities) (r : ℕ) → c.recycled ≡ w → Balanced c r → Balanced (create_with w c).entities r
create_with_law [] c r p b = omega (arith, b, ap length p, length-append c.live (record { index = c.issued; version = 1 } ∷ []))
create_with_law (e ∷ es) c r p b = omega (arith, b, ap length p, length-append c.live (e ∷ []))

create_balanced : (c : Entities) (r : ℕ) → Balanced c r → Balanced (create c).entities r
unfolding create
create_balanced c r b = create_with_law c.recycled c r refl b

extend_balanced : (n : ℕ) (h : List Component) (c : Entities) (p : Storage) (r : ℕ) → Balanced c r → Balanced (extend n h c p).entities r
unfolding extend
extend_balanced n h c p r b =
    subst (λ (x : Extended). Balanced x.entities r) (sym (each_created n h c p)) (new_keeps (λ (d : Entities). Balanced d r) (λ (d : Entities). create_balanced d r) n c b)

destroy_balanced : (e : Entity) (c : Entities) (r : ℕ) → is_live e c ≡ true → Balanced c r → Balanced (destroy e c) (r + one (is_live e c && leb last_version e.version))
unfolding destroy
destroy_balanced e c r live b =
    let at : place same_entity e c.live < length c.live = ltb-true (place same_entity e c.live) (length c.live) live in
    let n : length (take (length c.live - 1) (set c.live (place same_entity e c.live) (get_or c.live (length c.live - 1) no_entity))) ≡ length c.live - 1 = length-take-le (length c.live - 1) (set c.live (place same_entity e c.live) (get_or c.live (length c.live - 1) no_entity)) (rw (length-set c.live (place same_entity e c.live) (get_or c.live (length c.live - 1) no_entity)) (omega arith)) in
    rw live
    (bool_cases (ltb e.version last_version)
    (λ t. rw (t, lt-leb last_version e.version (ltb-true e.version last_version t)) (omega (arith, b, n, at, length-append c.recycled (record { index = e.index; version = suc e.version } ∷ []))))
    (λ t. rw (t, le-leb last_version e.version (ltb-false e.version last_version t)) (omega (arith, b, n, at))))

-- ---- commands

kept : (c : Entities) (r : ℕ) → Balanced c r → Balanced c (r + 0)
kept c r b = rw (add-zero r) b

accepted_balanced : (c : Command) (s : Store) (r : ℕ) → NoneHolds (lines_of c) s → Balanced s.entities r → Balanced (accepted c s).store.entities (r + retires c s)
unfolding accepted lines_of
accepted_balanced (REG k) s r n b = cond_case (λ (d : Done). Balanced d.store.entities (r + 0)) (is_kind k s) _ _ (λ t. kept s.entities r b) (λ t. kept s.entities r b)
accepted_balanced (HOLD k v) s r n b = kept s.entities r b
accepted_balanced NEW s r n b = kept (create s.entities).entities r (create_balanced s.entities r b)
accepted_balanced (PUT e) s r n b = kept s.entities r b
accepted_balanced (TAKE e) s r n b = kept s.entities r b
accepted_balanced (DROP e) s r n b = kept s.entities r b
accepted_balanced (KILL e) s r n b = destroy_balanced e s.entities r (not-false (is_live e s.entities) n.0) b
accepted_balanced WIPE s r n b = kept s.entities r b
accepted_balanced GROUP s r n b = cond_case (λ (d : Done). Balanced d.store.entities (r + 0)) (adds_nothing (staged_kinds s) s.control.draft) _ _ (λ t. kept s.entities r b) (λ t. kept s.entities r b)
accepted_balanced APPLY s r n b = kept s.entities r b
accepted_balanced (BAR k) s r n b = kept s.entities r b
accepted_balanced RANGE s r n b = kept s.entities r b
accepted_balanced EMPTY s r n b = kept s.entities r b
accepted_balanced TALLY s r n b = kept s.entities r b
accepted_balanced (SETCALLER k) s r n b = kept s.entities r b
accepted_balanced (TRAY k) s r n b = kept (extend k s.control.staged s.entities s.storage).entities r (extend_balanced k s.control.staged s.entities s.storage r b)

-- a refused command retires nothing
refused_retires : (c : Command) (s : Store) → (NoneHolds (lines_of c) s → ⊥) → retires c s ≡ 0
unfolding lines_of
refused_retires (REG k) s f = refl
refused_retires (HOLD k v) s f = refl
refused_retires NEW s f = refl
refused_retires (PUT e) s f = refl
refused_retires (TAKE e) s f = refl
refused_retires (DROP e) s f = refl
refused_retires (KILL e) s f = bool_cases (is_live e s.entities) (λ t. absurd (f (rw t, tt))) (λ t. rw t)
refused_retires WIPE s f = refl
refused_retires GROUP s f = refl
refused_retires APPLY s f = refl
refused_retires (BAR k) s f = refl
refused_retires RANGE s f = refl
refused_retires EMPTY s f = refl
refused_retires TALLY s f = refl
refused_retires (TRAY n) s f = refl
refused_retires (SETCALLER c) s f = refl

-- ---- steps and runs

step_balanced : (b : ℕ) (t : List ℕ) (room : ℕ) (s : Store) (r : ℕ) → Balanced s.entities r → IfGoes (λ w a s'. Balanced s'.entities (r + retires (command_on b t s) s)) (step b t room s)
step_balanced b t room s r h = step_case (IfGoes (λ w a s'. Balanced s'.entities (r + retires (command_on b t s) s))) b t room s (λ n. tt) (λ q. go (does (command_on b t s) s) refl)
  where
    go : (o : Outcome) → does (command_on b t s) s ≡ o → IfGoes (λ w a s'. Balanced s'.entities (r + retires (command_on b t s) s)) (step_of (suc (operands_len b s)) s o)
    go (refuses n) e = rw (refused_retires (command_on b t s) s (λ nh. clash (does (command_on b t s) s) n (accepted (command_on b t s) s).store (accepted (command_on b t s) s).answer e ((accepted_exact (command_on b t s) s _ _).1 (nh, refl, refl)))) (kept s.entities r h)
    go (accepts s' a) e =
        let x = (accepted_exact (command_on b t s) s s' a).0 e in
        ap (λ (z : Store). z.entities.issued) (sym x.1) ∙ accepted_balanced (command_on b t s) s r x.0 h ∙ ap (λ (z : Store). length z.entities.live + length z.entities.recycled + (r + retires (command_on b t s) s)) x.1

run_balanced_for : (fuel : ℕ) (t : List ℕ) (room : ℕ) (s : Store) (r : ℕ) → Balanced s.entities r → Balanced (run_for fuel t room s).store.entities (r + retired_for fuel t room s)
unfolding run_for retired_for
run_balanced_for zero t room s r h = kept s.entities r h
run_balanced_for (suc fuel) [] room s r h = kept s.entities r h
run_balanced_for (suc fuel) (b ∷ t) room s r h = go (step b t room s) (step_balanced b t room s r h) (λ w m s' q. run_balanced_for fuel (drop w (b ∷ t)) m s' q)
  where
    k : ℕ
    k = retires (command_on b t s) s

    go : (p : Step) → IfGoes (λ w a s'. Balanced s'.entities (r + k)) p → ((w m : ℕ) (s' : Store) (q : ℕ) → Balanced s'.entities q → Balanced (run_for fuel (drop w (b ∷ t)) m s').store.entities (q + retired_for fuel (drop w (b ∷ t)) m s')) → Balanced (elim p as (λ p. Ran) [ stops n ↦ halt n s | goes w a s' ↦ more w a (run_for fuel (drop w (b ∷ t)) (room - length a) s') ]).store.entities (r + elim p as (λ p. ℕ) [ stops n ↦ 0 | goes w a s' ↦ k + retired_for fuel (drop w (b ∷ t)) (room - length a) s' ])
    go (stops n) g rec = kept s.entities r h
    go (goes w a s') g rec = omega (arith, rec w (room - length a) s' (r + k) g)

-- a run more
pub run_balanced : (t : List ℕ) (room : ℕ) (s : Store) (r : ℕ) → Balanced s.entities r → Balanced (run t room s).store.entities (r + retired t room s)
unfolding run retired
run_balanced t room s r h = run_balanced_for (length t) t room s r h

-- after every tape from an empty store
pub issued_balance : (t : List ℕ) (room : ℕ) (c : Settings) → Balanced (run t room (empty_with c)).store.entities (retired t room (empty_with c))
unfolding empty_with
issued_balance t room c = rw (zero-add (retired t room (empty_with c))) at (run_balanced t room (empty_with c) 0 refl)
