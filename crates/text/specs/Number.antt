-- Whole numbers at the front of a text.
use Rattle.std.specs.Prelude.{ℕ, ◌+◌, ◌-◌, ◌*◌, ◌≡◌, List, [], ◌∷◌, Bool, true, cond, ◌&&◌, length, take, drop, eqb, ltb, leb}
use Rattle.std.proofs.Math.Option.{Option, none, some}
use Rattle.text.specs.Bytes.{byte}
use Rattle.text.specs.Reader.{Parse, miss, got, Reader}

abbrev pub is_digit : ℕ → Bool
is_digit b = leb (byte "0") b && leb b (byte "9")

-- a text of digits alone
abbrev pub AllDigits : List ℕ → Type 0
AllDigits [] = Unit {0}
AllDigits (b ∷ l) = (is_digit b ≡ true) × AllDigits l

-- the digits that a text begins with, and the text after them
abbrev pub leading_digits : List ℕ → List ℕ
leading_digits [] = []
leading_digits (b ∷ l) = cond (is_digit b) (b ∷ leading_digits l) []

abbrev pub after_digits : List ℕ → List ℕ
after_digits [] = []
after_digits (b ∷ l) = cond (is_digit b) (after_digits l) (b ∷ l)

-- the number that digits write, where `n` was written before them
abbrev pub value_from : ℕ → List ℕ → ℕ
value_from n [] = n
value_from n (b ∷ l) = value_from (n * 10 + (b - byte "0")) l

-- the digits that a text begins with, as a number that goes on from `n`, up to `max`
unfoldable pub number_from : ℕ → ℕ → Reader ℕ
number_from max n l = cond (leb (value_from n (leading_digits l)) max) (got (value_from n (leading_digits l)) (after_digits l)) miss

-- number: one or more digits, however many, that write a number up to `max`
unfoldable pub number : ℕ → Reader ℕ
number max l = cond (ltb 0 (length (leading_digits l))) (number_from max 0 l) miss

-- one or more digits and nothing else
abbrev pub only_digits : List ℕ → Bool
only_digits l = ltb 0 (length (leading_digits l)) && eqb (length (after_digits l)) 0

abbrev pub written : List ℕ → Option ℕ
written l = cond (only_digits l) (some (value_from 0 l)) none

-- parse_num: as Rust reads an unsigned number, digits, or `+` and digits
abbrev pub unsigned : List ℕ → Option ℕ
unsigned [] = none
unsigned (b ∷ l) = cond (eqb b (byte "+")) (written l) (written (b ∷ l))

abbrev pub up_to : ℕ → Option ℕ → List ℕ → Parse ℕ
up_to max none l = miss
up_to max (some v) l = cond (leb v max) (got v l) miss

-- map_res(take(n), parse_num): the next `n` bytes as a number up to `max`
unfoldable pub fixed : ℕ → ℕ → Reader ℕ
fixed n max l = cond (leb n (length l)) (up_to max (unsigned (take n l)) (drop n l)) miss

abbrev pub two_bytes : Reader ℕ
two_bytes = fixed 2 255

abbrev pub three_bytes : Reader ℕ
three_bytes = fixed 3 255
