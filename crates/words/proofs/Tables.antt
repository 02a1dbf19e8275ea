-- A list given by a function of the place: its length, its elements, and what it becomes where the function changes at one place.
-- Assumes nothing.
use mathlib.Core.Path.{◌≡◌, refl, sym, ap, ◌∙◌, subst}
use mathlib.Core.Logic.{◌≢◌}
use mathlib.Core.List.{List, [], ◌∷◌, ◌++◌, map}
use Prim.Native.Nat.{ℕ, zero, suc, ◌+◌, ◌-◌, ◌<◌, ◌≤◌}
use native.Mathlib.Nat.{le_of_suc-le-suc, not-suc-le-zero}
use native.Mathlib.Omega.{arith}
use borrow.Author.Tests.{eqb-true}
use lib.Dec.{eqb}
use lib.ListN.{length, get_or, set, take, length-set, length-append, get_or-append}
use lib.Seq.{ext_get_or, get_or-set_same, get_or-set_other, get_or_at, get_or-take, length-take-le}
use Rattle.model.specs.Lists.{swap, cut_at}
use Rattle.model.proofs.BoolLaws.{by-eq}
use Rattle.model.proofs.ListLaws.{apart_once}
use Rattle.model.specs.Sound.{In, Distinct}
use Rattle.model.proofs.KindLists.{at_in, in_at}
use Rattle.words.specs.Table.{table}
use Rattle.words.specs.Part.{between}
use Rattle.words.proofs.Part.{length_between, get_d_between}

module _ {A : Type 0} where
  pub length_table : (k : ℕ) (f : ℕ → A) → length (table k f) ≡ k
  unfolding table
  length_table zero f = refl
  length_table (suc k) f = ap suc (length_table k (λ i. f (suc i)))

  pub get_d_table : (k : ℕ) (f : ℕ → A) (i : ℕ) (d : A) → i < k → get_or (table k f) i d ≡ f i
  unfolding table
  get_d_table zero f i d h = absurd (not-suc-le-zero h)
  get_d_table (suc k) f zero d h = refl
  get_d_table (suc k) f (suc i) d h = get_d_table k (λ j. f (suc j)) i d (le_of_suc-le-suc h)

  -- a list is a table if it is as long and has the table's elements
  pub is_table : (d : A) (k : ℕ) (g : ℕ → A) (xs : List A) → length xs ≡ k → ((i : ℕ) → i < k → g i ≡ get_or xs i d) → table k g ≡ xs
  is_table d k g xs l h =
      ext_get_or d (table k g) xs (length_table k g ∙ sym l)
      (λ i b. let q : i < k = omega (arith, length_table k g) in get_d_table k g i d q ∙ h i q)

  pub table_same : (d : A) (k : ℕ) (f g : ℕ → A) → ((i : ℕ) → i < k → g i ≡ f i) → table k g ≡ table k f
  table_same d k f g h = is_table d k g (table k f) (length_table k f) (λ i q. h i q ∙ sym (get_d_table k f i d q))

  pub table_set : (d v : A) (k : ℕ) (f g : ℕ → A) (a : ℕ) → a < k → g a ≡ v → ((i : ℕ) → i < k → i ≢ a → g i ≡ f i) → table k g ≡ set (table k f) a v
  table_set d v k f g a ha e o =
      is_table d k g (set (table k f) a v) (length-set (table k f) a v ∙ length_table k f)
      (λ i q.
      by-eq i a
      (λ ia. rw ia (e ∙ sym (get_or-set_same (table k f) a v d (omega (arith, length_table k f)))))
      (λ ne. o i q ne ∙ sym (get_d_table k f i d q) ∙ sym (get_or-set_other (table k f) a i v d ne)))

  pub table_swap : (d : A) (k : ℕ) (f g : ℕ → A) (a b : ℕ) → a < k → b < k → g a ≡ f b → g b ≡ f a → ((i : ℕ) → i < k → i ≢ a → i ≢ b → g i ≡ f i) → table k g ≡ swap d a b (table k f)
  table_swap d k f g a b ha hb ea eb o =
      is_table d k g (swap d a b (table k f)) (simp length-set (length_table k f))
      (λ i q.
      by-eq i b
      (λ ib. rw ib (eb ∙ sym (get_d_table k f a d ha) ∙ sym (get_or-set_same (set (table k f) a (get_or (table k f) b d)) b (get_or (table k f) a d) d (omega (arith, length_table k f, length-set (table k f) a (get_or (table k f) b d))))))
      (λ nb.
      by-eq i a
      (λ ia.
      rw ia
      (ea ∙ sym (get_d_table k f b d hb) ∙ sym (get_or-set_same (table k f) a (get_or (table k f) b d) d (omega (arith, length_table k f)))
      ∙ sym (get_or-set_other (set (table k f) a (get_or (table k f) b d)) b a (get_or (table k f) a d) d (λ ab. nb (ia ∙ ab)))))
      (λ na.
      o i q na nb ∙ sym (get_d_table k f i d q) ∙ sym (get_or-set_other (table k f) a i (get_or (table k f) b d) d na)
      ∙ sym (get_or-set_other (set (table k f) a (get_or (table k f) b d)) b i (get_or (table k f) a d) d nb))))

  pub table_snoc : (d v : A) (k : ℕ) (f g : ℕ → A) → g k ≡ v → ((i : ℕ) → i < k → g i ≡ f i) → table (k + 1) g ≡ table k f ++ (v ∷ [])
  table_snoc d v k f g e o =
      is_table d (k + 1) g (table k f ++ (v ∷ [])) (length-append (table k f) (v ∷ []) ∙ ap (λ (m : ℕ). m + 1) (length_table k f))
      (λ i q.
      by-eq i k
      (λ ik. rw ik (e ∙ sym (get_or_at (table k f) v [] d k (length_table k f))))
      (λ ne. let h : i < k = omega arith in o i h ∙ sym (get_d_table k f i d h) ∙ sym (get_or-append (table k f) (v ∷ []) d i (omega (arith, length_table k f)))))

  pub table_removed : (d : A) (k : ℕ) (f g : ℕ → A) (p : ℕ) → p < k → (p < k - 1 → g p ≡ f (k - 1)) → ((i : ℕ) → i < k - 1 → i ≢ p → g i ≡ f i) → table (k - 1) g ≡ cut_at d p (table k f)
  table_removed d k f g p hp e o =
      let xs = table k f in
      let l : length xs ≡ k = length_table k f in
      let v = get_or xs (length xs - 1) d in
      is_table d (k - 1) g (take (length xs - 1) (set xs p v))
      (length-take-le (length xs - 1) (set xs p v) (omega (arith, length-set xs p v)) ∙ omega arith)
      (λ i q.
      let t : get_or (take (length xs - 1) (set xs p v)) i d ≡ get_or (set xs p v) i d = get_or-take (length xs - 1) (set xs p v) i d (omega arith) in
      by-eq i p
      (λ ip.
      rw t
      (rw ip
      (e (omega arith) ∙ sym (get_d_table k f (k - 1) d (omega arith)) ∙ ap (λ (m : ℕ). get_or xs m d) (omega arith)
      ∙ sym (get_or-set_same xs p v d (omega arith)))))
      (λ np. rw t (o i q np ∙ sym (get_d_table k f i d (omega arith)) ∙ sym (get_or-set_other xs p i v d np))))

-- k words from a on, as a part
pub words_table : (w : List ℕ) (a k : ℕ) → a + k ≤ length w → table k (λ (i : ℕ). get_or w (a + i) 0) ≡ between a (a + k) w
words_table w a k fits =
    is_table 0 k (λ (i : ℕ). get_or w (a + i) 0) (between a (a + k) w) (length_between a (a + k) w fits ∙ omega arith)
    (λ i h. sym (get_d_between a (a + k) i w 0 (omega arith)))

pub map_table : {A B : Type 0} (f : A → B) (k : ℕ) (g : ℕ → A) → map f (table k g) ≡ table k (λ (i : ℕ). f (g i))
unfolding table
map_table f zero g = refl
map_table {B} f (suc k) g = ap {B = List B} (λ r. f (g zero) ∷ r) (map_table f k (λ i. g (suc i)))

pub table_none : {A : Type 0} (k : ℕ) (f : ℕ → A) → k ≡ 0 → table k f ≡ []
unfolding table
table_none k f e = rw e

pub table_in : (m : ℕ) (f : ℕ → ℕ) (k i : ℕ) → i < m → f i ≡ k → In (table m f) k
table_in m f k i h e = subst (In (table m f)) (get_d_table m f i 0 h ∙ e) (at_in (table m f) i (omega (arith, length_table m f)))

pub in_table : (m : ℕ) (f : ℕ → ℕ) (k : ℕ) → In (table m f) k → (i : ℕ) × (i < m) × (f i ≡ k)
in_table m f k t =
    let r = in_at (table m f) k t in
    let h : r.0 < m = omega (arith, r.1, length_table m f) in
    (r.0, h, sym (get_d_table m f r.0 0 h) ∙ r.2)

-- different numbers stand once each
pub table_once : (k : ℕ) (f : ℕ → ℕ) → ((i j : ℕ) → i < k → j < k → i ≢ j → f i ≢ f j) → Distinct (table k f)
table_once k f apart x =
    apart_once eqb eqb-true x 0 (table k f)
    (λ i j hi hj ne e.
    let p : i < k = omega (arith, length_table k f) in
    let q : j < k = omega (arith, length_table k f) in
    apart i j p q ne (sym (get_d_table k f i 0 p) ∙ e ∙ get_d_table k f j 0 q))
