-- Why the program plays its reader's bytes. Assumes nothing.
use Rattle.std.proofs.Common.{◌≡◌, ℕ, List, length, take, drop, None, Some, IfSome, ap, ◌∙◌, subst}
use Rattle.std.specs.Prelude.{Option}
use Rattle.input.specs.Input.{Taken}

-- what holds of the bytes that were read holds of the reader's next 16,384, of as many as it had, and the rest are left
pub of_next : (P : List ℕ → Type 0) (read left : Option (List ℕ)) (b : List ℕ) (n : ℕ) → length b ≡ 16384 → Taken read left b n → P (take n b)
    → IfSome read (λ xs. P (take 16384 xs) × (left ≡ Some (drop 16384 xs)))
of_next P None left b n size h p = tt
of_next P (Some xs) left b n size h p = (subst P (h.0 ∙ ap (λ k. take k xs) size) p, h.1 ∙ ap (λ k. Some (drop k xs)) size)
