use mathlib.Core.Path.{◌≡◌, refl, ap, ◌∙◌}
use mathlib.Core.List.{List, [], ◌∷◌}
use Prim.Native.Nat.{ℕ, ◌+◌}
use borrow.Author.Rules.{rules}
use lib.Seq.{sets}
use Rattle.model.specs.Store.{bytes_of}
use Rattle.words.specs.declared.Width.TheVariants.{Long}
use Rattle.values.proofs.Numbers.{Words, written, written_number}
use Rattle.values.proofs.put_bytes.Goals as goal

pub returns-then-eq : goal.returns-then-eq
returns-then-eq c =
    let a = c.args in
    let x = a.x in
    let e : a.width ≡ Long = search rules in
    let h : Words (x.first ∷ x.second ∷ x.third ∷ x.fourth ∷ []) = (search rules, (search rules, (search rules, (search rules, tt)))) in
    c.put-then-eq-2.ensures
    ∙ ap (λ (l : List ℕ). sets l (a.at + 12) (bytes_of 4 x.fourth)) c.put-then-eq.ensures
    ∙ ap (λ (l : List ℕ). sets (sets l (a.at + 8) (bytes_of 4 x.third)) (a.at + 12) (bytes_of 4 x.fourth)) c.put-2.ensures
    ∙ ap (λ (l : List ℕ). written l a.at 4 (x.second ∷ x.third ∷ x.fourth ∷ [])) c.put.ensures
    ∙ rw e (written_number a.out.now a.at 4 x.first (x.second ∷ x.third ∷ x.fourth ∷ []) refl h)
