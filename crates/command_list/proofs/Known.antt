-- What a list's lines decide of HOLD and BAR, kinds below 128, and slots left for one kind more. Assumes nothing.
use mathlib.Core.Path.{◌≡◌}
use mathlib.Core.Bool.{false, not}
use mathlib.Core.List.{List, [], ◌∷◌, ◌++◌}
use Prim.Native.Nat.{ℕ, ◌<◌}
use native.Mathlib.Omega.{arith}
use borrow.Author.Tests.{ltb-false}
use lib.Dec.{leb, ltb}
use lib.ListN.{length}
use Rattle.std.proofs.Math.Option.{some, none}
use Rattle.model.specs.Numbers.{LAST_KIND, MAX_KINDS}
use Rattle.model.specs.Store.{Store, is_kind, staged_kinds, with_control, with_staged, with_excluded}
use Rattle.model.specs.Refusals.{first_line, lines_of, unknown_kind}
use Rattle.model.specs.Commands.{HOLD, BAR, accepted}
use Rattle.model.specs.Run.{does, refuses, accepts}
use Rattle.model.proofs.BoolLaws.{or_false}
use Rattle.memory.specs.Header.{kind_capacity_of, registered_of}
use Rattle.memory.specs.Meaning.{meaning}
use Rattle.memory.proofs.Becomes.{kinds_count}
use Rattle.command_list.specs.Listing.{list_lines}

pub known_small : (k : ℕ) (s : Store) → unknown_kind k s ≡ false → k < MAX_KINDS
known_small k s h = omega (arith, ltb-false LAST_KIND k (or_false (ltb LAST_KIND k) (not (is_kind k s)) h))

module _ (s : Store) (k v : ℕ) where
  pub hold_refused : (n : ℕ) → first_line (list_lines staged_kinds (λ t. length t.control.staged) k) s ≡ some n → does (HOLD k v) s ≡ refuses n
  unfolding does lines_of
  hold_refused n e = rw e

  pub hold_taken : first_line (list_lines staged_kinds (λ t. length t.control.staged) k) s ≡ none → does (HOLD k v) s ≡ accepts (with_control s (with_staged s.control (s.control.staged ++ (record { kind = k; value = v } ∷ [])))) []
  unfolding does lines_of accepted
  hold_taken e = rw e

module _ (s : Store) (k : ℕ) where
  pub bar_refused : (n : ℕ) → first_line (list_lines (λ t. t.control.excluded) (λ t. length t.control.excluded) k) s ≡ some n → does (BAR k) s ≡ refuses n
  unfolding does lines_of
  bar_refused n e = rw e

  pub bar_taken : first_line (list_lines (λ t. t.control.excluded) (λ t. length t.control.excluded) k) s ≡ none → does (BAR k) s ≡ accepts (with_control s (with_excluded s.control (s.control.excluded ++ (k ∷ [])))) []
  unfolding does lines_of accepted
  bar_taken e = rw e

pub slots_told : (w : List ℕ) (most count : ℕ) → most ≡ kind_capacity_of w → count ≡ registered_of w → leb most count ≡ leb (meaning w).settings.kind_capacity (length (meaning w).kinds)
unfolding meaning
slots_told w most count m c = rw (m, c, kinds_count w)
