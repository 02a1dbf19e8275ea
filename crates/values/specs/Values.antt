-- A value as words and as a number. Assumes nothing.
use Rattle.std.specs.Prelude.{List, [], ◌∷◌, ℕ, ◌+◌, ◌*◌, take, drop}
use Rattle.words.specs.declared.Shape.{Shape}
use Rattle.words.specs.Shape.{value_place}
use Rattle.values.specs.declared.Value.{Value}

-- the number in words, lowest first. 01: "(low word, high word)", a word having 32 bits
abbrev pub digits : List ℕ → ℕ
digits [] = 0
digits (x ∷ xs) = x + 4294967296 * digits xs

-- a value's d words: two, which is 01's "eight bytes", or four, 02's "value columns (four words)"
abbrev pub words_of : ℕ → Value → List ℕ
words_of d x = take d (x.first ∷ x.second ∷ x.third ∷ x.fourth ∷ [])

-- and the number that they are
abbrev pub value_of : ℕ → Value → ℕ
value_of d x = digits (words_of d x)

-- the value of row i, among the words of a column
abbrev pub value_at : Shape → List ℕ → ℕ → ℕ
value_at z w i = digits (take z.stride (drop (value_place z i) w))
