-- How many numbers pass a test: the loop that counts them, and the pigeonhole principle by such a count. Assumes nothing.
use mathlib.Core.Path.{◌≡◌, refl, sym, ap, ◌∙◌}
use mathlib.Core.Logic.{◌≢◌}
use mathlib.Core.Bool.{Bool, true, false, cond, true≢false}
use mathlib.Core.List.{List, [], ◌∷◌}
use Prim.Native.Nat.{ℕ, zero, suc, ◌+◌, ◌≤◌, ◌<◌}
use native.Mathlib.Nat.{le_antisymm}
use native.Mathlib.Numerals.{add-one}
use native.Mathlib.Omega.{arith}
use mir.Val.{Fits, bool_byte}
use mir.Syntax.{w32}
use borrow.Author.Tests.{eq-eqb, ne_eqb}
use lib.Dec.{eqb}
use lib.ListN.{length}
use Rattle.model.specs.Lists.{one, count_of}
use Rattle.model.proofs.BoolLaws.{by-eq, by_lt}
use Rattle.model.proofs.ListLaws.{shorter}
use Rattle.model.proofs.KindLists.{in_count, count_in}
use Rattle.words.specs.Counted.{how_many}
use Rattle.words.specs.Table.{table}
use Rattle.words.proofs.Tables.{length_table, in_table, table_in, table_once}

byte_one : (b : Bool) → bool_byte b ≡ one b
byte_one true = refl
byte_one false = refl

one_most : (b : Bool) → one b ≤ 1
one_most true = omega arith
one_most false = omega arith

-- ---- `while i < n { c += test(i) as u32; i += 1; }`

pub record Counting (t : ℕ → Bool) (n i c : ℕ) : Type 0 where
  pub is : c ≡ how_many i t
  pub most : c ≤ i
  pub inside : i ≤ n

module _ {t : ℕ → Bool} {n : ℕ} where
  pub counts_none : Counting t n 0 0
  counts_none = record { is = refl; most = omega arith; inside = omega arith }

  pub counts_on : {i c : ℕ} → Counting t n i c → i < n → Counting t n (i + 1) (c + bool_byte (t i))
  counts_on {i} {c} p h =
      let b = byte_one (t i) in
      let m = one_most (t i) in
      let s : how_many (i + 1) t ≡ how_many i t + one (t i) = ap (λ (k : ℕ). how_many k t) (add-one i) in
      record { is = omega (arith, p.is); most = omega (arith, p.most); inside = omega arith }

  -- the next sum fits
  pub counts_fit : {i c : ℕ} → Counting t n i c → i < n → n < 4294967296 → Fits w32 (c + bool_byte (t i))
  counts_fit {i} {c} p h l = let b = byte_one (t i) in let m = one_most (t i) in omega (arith, p.most)

  pub counts_all : {i c : ℕ} → Counting t n i c → n ≤ i → c ≡ how_many n t
  counts_all {i} p h = let e : i ≡ n = omega (arith, p.inside) in p.is ∙ ap (λ (k : ℕ). how_many k t) e

-- ---- none passes

pub none_counted : (t : ℕ → Bool) (n : ℕ) → how_many n t ≡ 0 → (i : ℕ) → i < n → t i ≡ false
none_counted t zero e i h = absurd (omega arith)
none_counted t (suc n) e i h = by-eq i n (λ q. ap t q ∙ none (t n) (omega arith)) (λ q. none_counted t n (omega arith) i (omega arith))
  where
    none : (b : Bool) → one b ≡ 0 → b ≡ false
    none true z = absurd (omega arith)
    none false z = refl

pub counted_none : (t : ℕ → Bool) (n : ℕ) → ((i : ℕ) → i < n → t i ≡ false) → how_many n t ≡ 0
counted_none t zero h = refl
counted_none t (suc n) h = omega (arith, counted_none t n (λ i l. h i (omega arith)), ap one (h n (omega arith)))

-- ---- pigeonholes

-- what stands once each in l, and in m too
covered : (l m : List ℕ) → ((x : ℕ) → count_of eqb x l ≤ 1) → ((x : ℕ) → 1 ≤ count_of eqb x l → 1 ≤ count_of eqb x m) → length l ≤ length m
covered l m once h = shorter l m (λ x. by_lt 0 (count_of eqb x l) (λ q. omega (arith, once x, h x q)) (λ q. omega arith))

module _ (t : ℕ → Bool) where
  -- those below n that pass
  abbrev those : ℕ → List ℕ
  those zero = []
  those (suc n) = cond (t n) (n ∷ those n) (those n)

  length_those : (n : ℕ) → length (those n) ≡ how_many n t
  length_those zero = refl
  length_those (suc n) = go (t n) (length_those n)
    where
      go : (b : Bool) → length (those n) ≡ how_many n t → length (cond b (n ∷ those n) (those n)) ≡ how_many n t + one b
      go true e = omega arith
      go false e = omega arith

  those_in : (n x : ℕ) → 1 ≤ count_of eqb x (those n) → (x < n) × (t x ≡ true)
  those_in zero x h = absurd (omega arith)
  those_in (suc n) x h = go (t n) refl (those_in n x) h
    where
      go : (b : Bool) → t n ≡ b → (1 ≤ count_of eqb x (those n) → (x < n) × (t x ≡ true)) → 1 ≤ count_of eqb x (cond b (n ∷ those n) (those n)) → (x < suc n) × (t x ≡ true)
      go true e r h = by-eq x n (λ q. (omega arith, ap t q ∙ e)) (λ q. let p = r (omega (arith, ap one (ne_eqb x n q))) in (omega (arith, p.0), p.1))
      go false e r h = let p = r h in (omega (arith, p.0), p.1)

  in_those : (n x : ℕ) → x < n → t x ≡ true → 1 ≤ count_of eqb x (those n)
  in_those zero x h e = absurd (omega arith)
  in_those (suc n) x h e = go (t n) refl (λ l. in_those n x l e)
    where
      go : (b : Bool) → t n ≡ b → (x < n → 1 ≤ count_of eqb x (those n)) → 1 ≤ count_of eqb x (cond b (n ∷ those n) (those n))
      go true q r = by-eq x n (λ p. omega (arith, ap one (eq-eqb x n p))) (λ p. omega (arith, r (omega arith)))
      go false q r = by-eq x n (λ p. absurd (true≢false (sym e ∙ ap t p ∙ q))) (λ p. r (omega arith))

  those_once : (n x : ℕ) → count_of eqb x (those n) ≤ 1
  those_once zero x = omega arith
  those_once (suc n) x = go (t n) (those_once n x) (those_in n x)
    where
      go : (b : Bool) → count_of eqb x (those n) ≤ 1 → (1 ≤ count_of eqb x (those n) → (x < n) × (t x ≡ true)) → count_of eqb x (cond b (n ∷ those n) (those n)) ≤ 1
      go true l r =
          by-eq x n
          (λ e. by_lt 0 (count_of eqb x (those n)) (λ q. absurd (let p = r q in omega (arith, p.0))) (λ q. omega (arith, ap one (eq-eqb x n e))))
          (λ ne. omega (arith, ap one (ne_eqb x n ne)))
      go false l r = l

-- k different numbers below n pass. All that pass are among them exactly if k pass
module _ (n k : ℕ) (f : ℕ → ℕ) (t : ℕ → Bool) (below : (i : ℕ) → i < k → f i < n) (apart : (i j : ℕ) → i < k → j < k → i ≢ j → f i ≢ f j)
    (pass : (i : ℕ) → i < k → t (f i) ≡ true) where
  found : (x : ℕ) → 1 ≤ count_of eqb x (table k f) → (i : ℕ) × (i < k) × (f i ≡ x)
  found x h = in_table k f x (count_in (table k f) x h)

  passes : (x : ℕ) → 1 ≤ count_of eqb x (table k f) → 1 ≤ count_of eqb x (those t n)
  passes x h = let q = found x h in rw (sym q.2) (in_those t n (f q.0) (below q.0 q.1) (pass q.0 q.1))

  pub counted_all : ((x : ℕ) → x < n → t x ≡ true → (i : ℕ) × (i < k) × (f i ≡ x)) → how_many n t ≡ k
  counted_all all =
      let a = covered (table k f) (those t n) (table_once k f apart) passes in
      let b = covered (those t n) (table k f) (those_once t n)
      (λ x h. let p = those_in t n x h in let q = all x p.0 p.1 in in_count (table k f) x (table_in k f x q.0 q.1 q.2)) in
      le_antisymm (omega (arith, length_those t n, length_table k f)) (omega (arith, length_those t n, length_table k f))

  pub all_counted : how_many n t ≡ k → (x : ℕ) → x < n → t x ≡ true → (i : ℕ) × (i < k) × (f i ≡ x)
  all_counted e x hx h =
      by_lt 0 (count_of eqb x (table k f))
      (found x)
      (λ none. absurd (let m = covered (x ∷ table k f) (those t n) (once none) (there x hx h) in omega (arith, length_those t n, length_table k f)))
    where
      once : count_of eqb x (table k f) ≤ 0 → (y : ℕ) → count_of eqb y (x ∷ table k f) ≤ 1
      once none y =
          by-eq y x
          (λ q. omega (arith, ap one (eq-eqb y x q), ap (λ (z : ℕ). count_of eqb z (table k f)) q))
          (λ q. omega (arith, ap one (ne_eqb y x q), table_once k f apart y))

      there : (x : ℕ) → x < n → t x ≡ true → (y : ℕ) → 1 ≤ count_of eqb y (x ∷ table k f) → 1 ≤ count_of eqb y (those t n)
      there x hx h y q = by-eq y x (λ e. rw e (in_those t n x hx h)) (λ ne. passes y (omega (arith, ap one (ne_eqb y x ne))))
