-- The values after one was put, and after two were exchanged. Assumes nothing.
use mathlib.Core.Path.{◌≡◌, ap, ◌∙◌}
use mathlib.Core.List.{List}
use Prim.Native.Nat.{ℕ, ◌<◌}
use lib.ListN.{length}
use lib.Seq.{sets}
use Rattle.words.specs.declared.Shape.{Shape}
use Rattle.words.specs.Shape.{value_place}
use Rattle.values.specs.declared.Value.{Value}
use Rattle.values.specs.Values.{words_of, value_of}
use Rattle.values.proofs.Numbers.{length_words_of}
use Rattle.values.proofs.Places.{value_hit, value_miss, links_miss}
use Rattle.component.specs.Stored.{ColumnSized, PutsValue}

pub puts_value : (z : Shape) (w w' : List ℕ) (i v : ℕ) (x : Value) → ColumnSized z w → i < z.capacity → v ≡ value_place z i → length w' ≡ length w
    → w' ≡ sets w v (words_of z.stride x) → PutsValue z i (value_of z.stride x) w w'
puts_value z w w' i v x l h p size e =
    let q : w' ≡ sets w (value_place z i) (words_of z.stride x) = e ∙ ap (λ (k : ℕ). sets w k (words_of z.stride x)) p in
    let n = length_words_of z.stride x l.shaped.words.most in
    record {
      front = record { size = size; same = λ j b. rw q (links_miss z w (words_of z.stride x) i j b) };
      here = rw q (value_hit z w (words_of z.stride x) i n l.size h);
      others = λ j b ne. rw q (value_miss z w (words_of z.stride x) i n j ne);
    }
