-- The staged kinds: bytes, kinds once each. Assumes nothing.
use mathlib.Core.Path.{◌≡◌, sym, ◌∙◌}
use mathlib.Core.List.{[], ◌∷◌, ◌++◌}
use Prim.Native.Nat.{ℕ, ◌+◌, ◌<◌}
use native.Mathlib.Numerals.{add-one}
use native.Mathlib.Omega.{arith}
use lib.ListN.{length, get_or, take, length-map, get_or-map}
use lib.Seq.{take-suc, take_all}
use Rattle.model.specs.Model.{kind_of, mem}
use Rattle.model.specs.Sound.{no_component, StoreSound}
use Rattle.model.specs.Store.{Store, staged_kinds}
use Rattle.model.proofs.BoolLaws.{bool_cases}
use Rattle.model.proofs.KindLists.{out_count}
use Rattle.layout.specs.Layout.{KindSet}
use Rattle.layout_block.proofs.Transfer.{kind_small_law}

module _ (s : Store) where
  -- 01, "sound": a hand of distinct registered kinds
  pub staged_set : StoreSound s → KindSet (staged_kinds s)
  staged_set S =
      record {
        once = S.staged.once;
        known = λ k h. out_count (staged_kinds s) k (bool_cases (mem k (staged_kinds s)) (λ t. absurd (omega (arith, S.kinds.small k (S.staged.known k t)))) (λ t. t));
      }

  pub staged_width : length (staged_kinds s) ≡ length s.control.staged
  staged_width = length-map s.control.staged kind_of

  -- the kind k is read at place i
  module _ (i k : ℕ) (h : i < length s.control.staged) (e : k ≡ (get_or s.control.staged i no_component).kind) where
    kind_read : k ≡ get_or (staged_kinds s) i 0
    kind_read = e ∙ sym (get_or-map kind_of s.control.staged i no_component)

    pub kind_byte : StoreSound s → k < 256
    kind_byte S = omega (arith, kind_read, kind_small_law (staged_kinds s) (staged_set S) i (omega (arith, staged_width)))

    -- a turn of the loop
    pub kind_more : take i (staged_kinds s) ++ (k ∷ []) ≡ take (i + 1) (staged_kinds s)
    kind_more =
        let hs : i < length (staged_kinds s) = omega (arith, staged_width) in
        rw (add-one i, take-suc (staged_kinds s) i 0, kind_read)

  pub kinds_all : (n : ℕ) → n ≡ length s.control.staged → take n (staged_kinds s) ≡ staged_kinds s
  kinds_all n e = take_all n (staged_kinds s) (omega (arith, staged_width))
