-- A mask is a number; what it means is the rising list of the positions of its set bits, and the operations are told on such lists.
use Rattle.std.specs.Prelude.{Bool, true, false, not, ◌&&◌, ◌||◌, List, [], ◌∷◌, ℕ, zero, suc, ◌/◌, ◌%◌, ◌≤◌, eqb, leb, ltb}

-- p in front, where the binary digit is 1
abbrev pub put_if : ℕ → ℕ → List ℕ → List ℕ
put_if zero p l = l
put_if (suc d) p l = p ∷ l

-- the positions of the set bits among the w lowest of m, rising, counted from p
unfoldable pub positions : ℕ → ℕ → ℕ → List ℕ
positions zero p m = []
positions (suc w) p m = put_if (m % 2) p (positions w (suc p) (m / 2))

-- what a mask of w bits means (01: one bit a group, one bit a place in a family)
abbrev pub bits_of : ℕ → ℕ → List ℕ
bits_of w m = positions w 0 m

-- p, p + 1, .., k of them; `from_to(a, b)` is `up_from a (b - a)` (01: bits a to b-1)
unfoldable pub up_from : ℕ → ℕ → List ℕ
up_from p zero = []
up_from p (suc k) = p ∷ up_from (suc p) k

-- is i in the list?
unfoldable pub has : ℕ → List ℕ → Bool
has i [] = false
has i (j ∷ l) = eqb i j || has i l

abbrev pub keep_if : Bool → ℕ → List ℕ → List ℕ
keep_if true p l = p ∷ l
keep_if false p l = l

-- those of the list that pass the test, in its order
unfoldable pub keep : (ℕ → Bool) → List ℕ → List ℕ
keep f [] = []
keep f (p ∷ l) = keep_if (f p) p (keep f l)

-- a ≤ i < b
abbrev pub is_between : ℕ → ℕ → ℕ → Bool
is_between a b i = leb a i && ltb i b

-- below w, and in one of the two
abbrev pub union_of : ℕ → List ℕ → List ℕ → List ℕ
union_of w xs ys = keep (λ i. has i xs || has i ys) (up_from 0 w)

-- in both
abbrev pub common_of : List ℕ → List ℕ → List ℕ
common_of xs ys = keep (λ i. has i ys) xs

-- below w, and not from a to b - 1
abbrev pub skipping : ℕ → ℕ → ℕ → List ℕ
skipping w a b = keep (λ i. not (is_between a b i)) (up_from 0 w)

-- what the mask makers ask of their ends; 02, No. 3: "Masks must be built up to and including the end of their width"
pub record Ordered (w from to : ℕ) : Type 0 where
  pub rising : from ≤ to
  pub inside : to ≤ w
