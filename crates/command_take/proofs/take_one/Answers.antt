use Rattle.std.proofs.Common.{rules, ◌≡◌, false, ap, ap₂, ◌∙◌, ◌∷◌, ℕ, ◌*◌, get_or}
use lib.Seq.{sets}
use mathlib.Core.Path.{sym, subst}
use mathlib.Core.List.{List}
use Rattle.world.specs.Remove.{Staged}
use Rattle.model.specs.Store.{staged_kinds, bytes_of}
use Rattle.model.specs.Model.{held, entity}
use Rattle.words.specs.declared.Shape.{Shape}
use Rattle.words.specs.Shape.{TwoOrFour, shape_of}
use Rattle.values.specs.Values.{value_of}
use Rattle.memory.proofs.Becomes.{stride_bytes}
use Rattle.component.specs.Answers.{Gave}
use Rattle.memory.specs.Meaning.{meaning}
use Rattle.kinds.specs.Kinds.{kind_set}
use Rattle.command_take.proofs.Taking.{bytes_none, bytes_held}
use Rattle.command_take.proofs.take_one.Goals as goal

-- two words or four
narrow : (w : List ℕ) (z : Shape) → Staged w → z ≡ shape_of w → TwoOrFour z.stride
narrow w z S e = subst (λ (y : Shape). TwoOrFour y.stride) (sym e) S.arranged.columns.shaped.words

pub width-requires : goal.width-requires
width-requires c = narrow c.args.words.now c.args.z c.requires.staged c.requires.shape_is

pub width-requires-in-None : goal.width-requires-in-None
width-requires-in-None c = narrow c.args.words.now c.args.z c.requires.staged c.requires.shape_is

pub returns-in-Some : goal.returns-in-Some
returns-in-Some c =
    let a = c.args in
    let w = a.words.now in
    let e = entity a.e.index a.e.version in
    let k = get_or (staged_kinds (meaning w)) a.i 0 in
    let v = (meaning w).settings.value_bytes in
    let wide : 4 * a.z.stride ≡ v = ap (λ (y : Shape). 4 * y.stride) c.requires.shape_is ∙ stride_bytes w c.requires.staged.arranged in
    let g : Gave (shape_of w).stride e (kind_set w k) c.in-Some.x = search rules in
    record {
      becomes = c.remove_one.ensures.becomes;
      bytes =
          (rw c.width.ensures at c.put_held.ensures)
          ∙ ap₂ (λ (n : ℕ) (y : Shape). sets a.out.now a.at (1 ∷ bytes_of n (value_of y.stride c.in-Some.x))) wide c.requires.shape_is
          ∙ ap (sets a.out.now a.at) (bytes_held v e (kind_set w k) _ g.holds g.value);
    }

pub returns-in-None : goal.returns-in-None
returns-in-None c =
    let a = c.args in
    let w = a.words.now in
    let e = entity a.e.index a.e.version in
    let k = get_or (staged_kinds (meaning w)) a.i 0 in
    let v = (meaning w).settings.value_bytes in
    let wide : 4 * a.z.stride ≡ v = ap (λ (y : Shape). 4 * y.stride) c.requires.shape_is ∙ stride_bytes w c.requires.staged.arranged in
    let g : held e (kind_set w k) ≡ false = search rules in
    record {
      becomes = c.remove_one.ensures.becomes;
      bytes =
          (rw c.width-in-None.ensures at c.put_held-in-None.ensures)
          ∙ ap₂ (λ (n x : ℕ). sets a.out.now a.at (0 ∷ bytes_of n x)) wide (c.zero.ensures a.z.stride)
          ∙ ap (sets a.out.now a.at) (bytes_none v e (kind_set w k) g);
    }
