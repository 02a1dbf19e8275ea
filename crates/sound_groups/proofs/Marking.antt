-- A table that marks the kinds of a list as they are passed. Assumes nothing.
use mathlib.Core.Path.{◌≡◌, ap, sym, ◌∙◌}
use mathlib.Core.Bool.{Bool, true, false, ◌||◌, or-false, or-true}
use mathlib.Core.List.{List, [], ◌∷◌}
use Prim.Native.Nat.{ℕ, ◌+◌, ◌<◌}
use native.Mathlib.Numerals.{add-one}
use native.Mathlib.Omega.{arith}
use borrow.Author.Tests.{eq-eqb, ne_eqb}
use lib.Dec.{eqb}
use lib.ListN.{length, take, get_or, set, replicate, get_or-replicate}
use lib.Seq.{take-suc, get_or-set_same, get_or-set_other}
use Rattle.model.specs.Numbers.{MAX_KINDS}
use Rattle.model.specs.Model.{mem}
use Rattle.model.proofs.KindLists.{mem_append}
use Rattle.model.proofs.BoolLaws.{by-eq}

-- the table marks what stands before i
abbrev pub Marks : List Bool → List ℕ → ℕ → Type 0
Marks seen l i = (k : ℕ) → k < MAX_KINDS → get_or seen k false ≡ mem k (take i l)

pub marks_more : (seen : List Bool) (l : List ℕ) (i : ℕ) → length seen ≡ MAX_KINDS → i < length l → get_or l i 0 < MAX_KINDS → Marks seen l i → Marks (set seen (get_or l i 0) true) l (i + 1)
marks_more seen l i e h s m k hk =
    let v = get_or l i 0 in
    let to : mem k (take (i + 1) l) ≡ (mem k (take i l) || (eqb k v || false)) =
    ap (λ (n : ℕ). mem k (take n l)) (add-one i) ∙ ap (mem k) (take-suc l i 0 h) ∙ mem_append k (take i l) (v ∷ []) in
    by-eq k v
    (λ p.
    ap (λ (x : ℕ). get_or (set seen v true) x false) p ∙ get_or-set_same seen v true false (omega arith)
    ∙ sym (to ∙ rw (eq-eqb k v p) (or-true (mem k (take i l)))))
    (λ n. get_or-set_other seen v k true false n ∙ m k hk ∙ sym (to ∙ rw (ne_eqb k v n) (or-false (mem k (take i l)))))

pub marks_none : (l : List ℕ) → Marks (replicate MAX_KINDS false) l 0
marks_none l k h = rw (get_or-replicate {A = Bool} MAX_KINDS k false false h)
