-- An entry's number by its table: the lines of soundness first, then the entry's own. Assumes nothing.
use mathlib.Core.Path.{◌≡◌, refl, sym, ap, ◌∙◌}
use mathlib.Core.Bool.{Bool, true, false}
use mathlib.Core.Option.{Option, some, none}
use mathlib.Core.List.{List}
use Prim.Native.Nat.{suc, ◌<◌, ◌≤◌, ℕ}
use native.Mathlib.Omega.{arith}
use Rattle.model.specs.Store.{Settings, Store, empty_with}
use Rattle.model.specs.Refusals.{Line, first_line, number_of, start_lines, other_lines}
use Rattle.model.specs.Entries.{started_by, start_told, start_with}
use Rattle.model.proofs.Lines.{first_exact, none_exact, NumbersIn, first_number}
use Rattle.model.specs.Numbers.{UNSOUND}
use Rattle.words.specs.Decides.{Decides}
use Rattle.memory.specs.Arranged.{Sound}
use Rattle.store.specs.Entries.{start_number, first_refusal}
use Rattle.store.specs.Theorems.{Tabled, Judged}

module _ {A : Type 0} (ls : List (Line A)) (x : A) where
  number_some : (o : Option ℕ) (m : ℕ) → number_of o ≡ suc m → o ≡ some (suc m)
  number_some (some n) m e = ap {B = Option ℕ} some e
  number_some none m e = absurd (omega (arith, e))

  -- of any table whose numbers are 1 or more
  pub tabled : (lo hi : ℕ) → 1 ≤ lo → NumbersIn lo hi ls → (r : ℕ) → r ≡ number_of (first_line ls x) → Tabled ls x r
  tabled lo hi l h r e =
      record {
        refused = λ m. ((λ q. (first_exact ls x (suc m)).0 (number_some (first_line ls x) m (sym e ∙ q))), (λ f. e ∙ ap number_of ((first_exact ls x (suc m)).1 f)));
        accepted = ((λ q. (none_exact ls x).0 (number_none (first_line ls x) refl (sym e ∙ q))), (λ n. e ∙ ap number_of ((none_exact ls x).1 n)));
      }
    where
      number_none : (o : Option ℕ) → first_line ls x ≡ o → number_of o ≡ 0 → first_line ls x ≡ none
      number_none none p z = p
      number_none (some n) p z = absurd (omega (arith, l, z, (first_number ls x lo hi n h p).0))

pub judged : {A : Type 0} (w : List ℕ) (ls : List (Line A)) (x : A) (r : ℕ) (b : Bool) (lo hi : ℕ) → UNSOUND < lo → NumbersIn lo hi ls → Decides b (Sound w) → r ≡ number_of (first_refusal (first_line other_lines b) (first_line ls x)) → Judged w ls x r
judged w ls x r false lo hi l h d e = record { unsound = ((λ q. d), (λ n. e)); sound = λ S. absurd (d S) }
judged w ls x r true lo hi l h d e =
    record {
      unsound = ((λ q. absurd (other (first_line ls x) refl (sym e ∙ q))), (λ n. absurd (n d)));
      sound = λ S. tabled ls x lo hi (omega (arith, l)) h r e;
    }
  where
    other : (o : Option ℕ) → first_line ls x ≡ o → number_of o ≡ UNSOUND → ⊥
    other none p z = omega (arith, z)
    other (some n) p z = omega (arith, l, z, (first_number ls x lo hi n h p).0)

-- ---- start's number is its table's

start_by : (o : Option ℕ) (s : Store) → start_number (started_by o s) ≡ number_of o
start_by (some n) s = refl
start_by none s = refl

pub start_tabled : (c : Settings) (words : ℕ) → start_number (start_with c words) ≡ number_of (first_line start_lines (start_told c words))
unfolding start_with
start_tabled c words = start_by (first_line start_lines (start_told c words)) (empty_with c)
