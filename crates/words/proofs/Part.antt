-- A part of a list, between two places, and the list with another part there. Assumes nothing.
use mathlib.Core.Path.{◌≡◌, refl, sym, ap, ◌∙◌, ap₂, subst}
use mathlib.Core.List.{List, [], ◌∷◌, ◌++◌}
use native.Mathlib.Decide.{dec_le}
use Prim.Native.Nat.{ℕ, zero, suc, ◌+◌, ◌-◌, ◌≤◌, ◌<◌}
use native.Mathlib.Omega.{arith}
use lib.ListN.{length, get_or, take, drop, length-append, length-drop, take-append-drop}
use lib.Seq.{length-take-le, take_at, drop_at, drop-drop, take-take, get_or-take, get_or-drop, take-add, take-append-le, drop-append_seam, take-length, take-nil, take-suc, drop-cons, ext_get_or}
use native.Mathlib.Nat.{sub-zero, suc-sub-suc}
use native.Mathlib.Numerals.{add-one}
use lib.Dec.{eqb}
use Rattle.model.specs.Lists.{count_of}
use Rattle.model.proofs.ListLaws.{count_append, drop_later, all_take}
use Rattle.model.specs.Sound.{In}
use Rattle.model.proofs.KindLists.{at_in}
use Rattle.words.specs.Part.{between}

module _ {A : Type 0} where
  -- w with ys in the place of the elements from a up to e; this is what w is when `&mut w[a..e]` is back
  abbrev pub patch : ℕ → ℕ → List A → List A → List A
  patch a e w ys = take a w ++ (ys ++ drop (e - a) (drop a w))

  -- an element of a part
  pub get_d_between : (a e i : ℕ) (w : List A) (d : A) → a + i < e → get_or (between a e w) i d ≡ get_or w (a + i) d
  get_d_between a e i w d h = get_or-take (e - a) (drop a w) i d (omega arith) ∙ get_or-drop a w i d

  pub length_between : (a e : ℕ) (w : List A) → e ≤ length w → length (between a e w) ≡ e - a
  length_between a e w g = length-take-le (e - a) (drop a w) (omega (arith, length-drop a w))

  take_drop_take : (c m a : ℕ) (u : List A) → c + m ≤ a → take m (drop c (take a u)) ≡ take m (drop c u)
  take_drop_take zero m a u h = take-take m a u (omega arith)
  take_drop_take (suc c) m zero u h = absurd (omega arith)
  take_drop_take (suc c) m (suc a) [] h = refl
  take_drop_take (suc c) m (suc a) (x ∷ u) h = take_drop_take c m a u (omega arith)

  -- a part before a, of lists that agree before a; and one from e on, of lists that agree from e on
  pub between_front : (a c d : ℕ) (w v : List A) → d ≤ a → take a v ≡ take a w → between c d v ≡ between c d w
  between_front a c d w v h e = cut v ∙ ap (between c d) e ∙ sym (cut w)
    where
      cut : (u : List A) → between c d u ≡ between c d (take a u)
      cut u =
          elim (dec_le c d) [
            | yes q ↦ sym (take_drop_take c (d - c) a u (omega arith))
            | no q ↦ let z : d - c ≡ 0 = omega arith in rw z
          ]

  pub between_rest : (e c d : ℕ) (w v : List A) → e ≤ c → drop e v ≡ drop e w → between c d v ≡ between c d w
  between_rest e c d w v h q = ap (take (d - c)) (drop_later e c w v h q)

  module _ (a e : ℕ) (w ys : List A) (h : a ≤ e) (g : e ≤ length w) (l : length ys ≡ e - a) where
    pub patch_front : take a (patch a e w ys) ≡ take a w
    patch_front = take_at (take a w) (ys ++ drop (e - a) (drop a w)) a (length-take-le a w (omega arith))

    pub patch_from : drop a (patch a e w ys) ≡ ys ++ drop (e - a) (drop a w)
    patch_from = drop_at (take a w) (ys ++ drop (e - a) (drop a w)) a (length-take-le a w (omega arith))

    pub patch_between : between a e (patch a e w ys) ≡ ys
    patch_between = ap (take (e - a)) patch_from ∙ take_at ys (drop (e - a) (drop a w)) (e - a) l

    pub patch_rest : drop e (patch a e w ys) ≡ drop e w
    patch_rest =
        let k : e ≡ a + (e - a) = omega arith in
        ap (λ (i : ℕ). drop i (patch a e w ys)) k
        ∙ sym (drop-drop (e - a) a (patch a e w ys))
        ∙ ap (drop (e - a)) patch_from
        ∙ drop_at ys (drop (e - a) (drop a w)) (e - a) l
        ∙ drop-drop (e - a) a w
        ∙ ap (λ (i : ℕ). drop i w) (sym k)

    pub patch_length : length (patch a e w ys) ≡ length w
    patch_length =
        omega (
          arith,
          length-append (take a w) (ys ++ drop (e - a) (drop a w)),
          length-append ys (drop (e - a) (drop a w)),
          length-drop (e - a) (drop a w),
          length-drop a w,
          length-take-le a w (omega arith),
        )

pub between_none : (a : ℕ) (l : List ℕ) → between a a l ≡ []
between_none a l = let z : a - a ≡ 0 = omega arith in rw z

pub between_join : (ks : List ℕ) (b a : ℕ) → b ≤ a → take b ks ++ between b a ks ≡ take a ks
between_join ks b a h = let e : b + (a - b) ≡ a = omega arith in sym (take-add b (a - b) ks) ∙ ap (λ (n : ℕ). take n ks) e

pub between_drop : (ks : List ℕ) (b a : ℕ) → b ≤ a → between b a ks ++ drop a ks ≡ drop b ks
between_drop ks b a h =
    let e : b + (a - b) ≡ a = omega arith in
    ap (λ (l : List ℕ). between b a ks ++ l) (ap (λ (n : ℕ). drop n ks) (sym e) ∙ sym (drop-drop (a - b) b ks)) ∙ take-append-drop (a - b) (drop b ks)

pub same_front : (ks more : List ℕ) (b a : ℕ) → a ≤ length ks → between b a (ks ++ more) ≡ between b a ks
same_front ks more b a h =
    between_front (length ks) b a ks (ks ++ more) h (take-append-le (length ks) ks more (omega arith))

pub last_part : (ks more : List ℕ) → between (length ks) (length ks + length more) (ks ++ more) ≡ more
last_part ks more =
    let e : length ks + length more - length ks ≡ length more = omega arith in
    ap₂ (λ (n : ℕ) (l : List ℕ). take n l) e (drop-append_seam ks more) ∙ take-length more

pub drop_take : (l : List ℕ) (k e : ℕ) → k ≤ e → between k e l ≡ drop k (take e l)
drop_take l zero e h = ap (λ (n : ℕ). take n l) (sub-zero e)
drop_take [] (suc k) e h = take-nil (e - suc k) ∙ sym (ap (drop (suc k)) (take-nil e))
drop_take (x ∷ l) (suc k) zero h = absurd (omega arith)
drop_take (x ∷ l) (suc k) (suc e) h = ap (λ (n : ℕ). take n (drop k l)) (suc-sub-suc e k) ∙ drop_take l k e (omega arith)

pub between_split : (a b c : ℕ) (l : List ℕ) → a ≤ b → b ≤ c → between a b l ++ between b c l ≡ between a c l
between_split a b c l h k =
    let e : a + (b - a) ≡ b = omega arith in
    let d : drop b l ≡ drop (b - a) (drop a l) = ap (λ (n : ℕ). drop n l) (sym e) ∙ sym (drop-drop (b - a) a l) in
    let n : (b - a) + (c - b) ≡ c - a = omega arith in
    ap (λ (r : List ℕ). between a b l ++ take (c - b) r) d ∙ sym (take-add (b - a) (c - b) (drop a l)) ∙ ap (λ (m : ℕ). take m (drop a l)) n

-- a part of a part
pub between_part : (x y s e : ℕ) (l : List ℕ) → s + y ≤ e → between x y (between s e l) ≡ between (s + x) (s + y) l
between_part x y s e l h =
    let n : y - x ≡ s + y - (s + x) = omega arith in
    between_front (e - s) x y (drop s l) (between s e l) (omega arith) (take-take (e - s) (e - s) (drop s l) (omega arith))
    ∙ ap (take (y - x)) (drop-drop x s l)
    ∙ ap (λ (m : ℕ). take m (drop (s + x) l)) n

-- a part with one place more, and one with one place less in front
pub between_more : (a p : ℕ) (l : List ℕ) → a ≤ p → p < length l → between a (p + 1) l ≡ between a p l ++ (get_or l p 0 ∷ [])
between_more a p l h k =
    let n : p + 1 - a ≡ suc (p - a) = omega arith in
    let e : a + (p - a) ≡ p = omega arith in
    ap (λ (m : ℕ). take m (drop a l)) n
    ∙ take-suc (drop a l) (p - a) 0 (omega (arith, length-drop a l))
    ∙ ap (λ (x : ℕ). between a p l ++ (x ∷ [])) (get_or-drop a l (p - a) 0 ∙ ap (λ (m : ℕ). get_or l m 0) e)

pub between_step : (p e : ℕ) (l : List ℕ) → p < e → e ≤ length l → between p e l ≡ get_or l p 0 ∷ between (p + 1) e l
between_step p e l h k =
    let n : e - p ≡ suc (e - (p + 1)) = omega arith in
    ap₂ (λ (m : ℕ) (r : List ℕ). take m r) n (drop-cons l p 0 (omega arith)) ∙ ap (λ (m : ℕ). get_or l p 0 ∷ take (e - (p + 1)) (drop m l)) (sym (add-one p))

pub count_part : (k : ℕ) (ks : List ℕ) (s e n : ℕ) → s ≤ e → e ≤ n → count_of eqb k (between s e ks) ≤ count_of eqb k (take n ks)
count_part k ks s e n h l =
    let a = count_append eqb k (take s ks) (between s e ks) in
    let b = ap (count_of eqb k) (between_join ks s e h) in
    let c = count_append eqb k (take e ks) (between e n ks) in
    let d = ap (count_of eqb k) (between_join ks e n l) in
    omega arith

pub between_below : (b a e : ℕ) (w : List ℕ) → 1 ≤ b → ((i : ℕ) → get_or w i 0 < b) → (i : ℕ) → get_or (between a e w) i 0 < b
between_below b a e w h f = all_take (λ (x : ℕ). x < b) 0 h (e - a) (drop a w) (λ i. subst (λ (x : ℕ). x < b) (sym (get_or-drop a w i 0)) (f (a + i)))

-- a part of n elements, by its ends
pub part_size : (f : List ℕ) (a n : ℕ) → take (a + n - a) (drop a f) ≡ take n (drop a f)
part_size f a n = let e : a + n - a ≡ n = omega arith in ap (λ (k : ℕ). take k (drop a f)) e

-- parts of lists that agree there
pub between_same : (a e : ℕ) (w v : List ℕ) → e ≤ length w → e ≤ length v → ((i : ℕ) → a ≤ i → i < e → get_or v i 0 ≡ get_or w i 0) → between a e v ≡ between a e w
between_same a e w v hw hv same =
    ext_get_or 0 (between a e v) (between a e w) (length_between a e v hv ∙ sym (length_between a e w hw))
    (λ i l.
    let b : a + i < e = omega (arith, length_between a e v hv) in
    get_d_between a e i v 0 b ∙ same (a + i) (omega arith) b ∙ sym (get_d_between a e i w 0 b))

pub between_in : (a e p : ℕ) (l : List ℕ) → a ≤ p → p < e → e ≤ length l → In (between a e l) (get_or l p 0)
between_in a e p l h k n =
    let q : a + (p - a) ≡ p = omega arith in
    subst (In (between a e l)) (get_d_between a e (p - a) l 0 (omega arith) ∙ ap (λ (m : ℕ). get_or l m 0) q)
    (at_in (between a e l) (p - a) (omega (arith, length_between a e l n)))
