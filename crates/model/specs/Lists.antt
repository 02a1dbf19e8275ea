-- Lists over a type with a Boolean equality: counts, places and swaps. Assumes nothing.
use Rattle.std.specs.Prelude.{Bool, true, false, List, [], ◌∷◌, ℕ, suc, ◌+◌, ◌-◌, length, take, get_or, set}

-- the items at i and j change places
abbrev pub swap : {A : Type 0} → A → ℕ → ℕ → List A → List A
swap d i j l = set (set l i (get_or l j d)) j (get_or l i d)

-- 1 where the test holds
abbrev pub one : Bool → ℕ
one true = 1
one false = 0

-- a place one further on, unless it is here
abbrev pub after : Bool → ℕ → ℕ
after true n = 0
after false n = suc n

module _ {A : Type 0} (same : A → A → Bool) where
  -- how often x stands in the list
  abbrev pub count_of : A → List A → ℕ
  count_of x [] = 0
  count_of x (y ∷ l) = one (same x y) + count_of x l

  -- the first place of x, or the length where it has none
  abbrev pub place : A → List A → ℕ
  place x [] = 0
  place x (y ∷ l) = after (same x y) (place x l)

-- the element at p goes, and the last takes its place
abbrev pub cut_at : {A : Type 0} → A → ℕ → List A → List A
cut_at d p l = take (length l - 1) (set l p (get_or l (length l - 1) d))
