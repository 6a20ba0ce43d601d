-- A checksum can always be written: that of ASCII bytes is below 128, and each half of it is a digit. Assumes nothing.
use Prim.Native.Nat.{ℕ, ◌+◌, ◌-◌, ◌*◌, ◌/◌, ◌%◌, ◌<◌}
use native.Mathlib.Omega.{arith}
use mathlib.Core.Path.{◌≡◌, refl, ap, ◌∙◌}
use mathlib.Core.Bool.{Bool, true, false, and-eq-true_iff}
use mathlib.Core.List.{List, [], ◌∷◌}
use mathlib.Core.Option.{some}
use lib.Bits.{bit_xor, xor_lt}
use lib.Dec.{ltb}
use borrow.Author.Tests.{ltb-true, ltb-false, ne_eqb}
use Rattle.utf8.specs.Utf8.{ascii}
use Rattle.text.specs.Bytes.{byte}
use Rattle.frame.specs.Checksum.{checksum_from}
use Rattle.frame.specs.Digits.{digit, lead_digit, hex}
use Rattle.frame.proofs.Units.{decimal, upper}

-- a byte that is the digit of a number below sixteen, also in front
record Digit (k : ℕ) : Type 0 where
  pub letter : ℕ
  pub value : digit letter ≡ some k
  pub first : lead_digit letter ≡ some k
  pub above : byte "+" < letter
  pub low : letter < 128

as-digit : (k b : ℕ) → digit b ≡ some k → byte "+" < b → b < 128 → Digit k
as-digit k b e l h = record { letter = b; value = e; first = rw (ne_eqb b (byte "+") (λ z. omega arith)) e; above = l; low = h }

digit-for : (k : ℕ) → k < 16 → Digit k
digit-for k h = by (ltb k 10) refl
  where
    by : (t : Bool) → ltb k 10 ≡ t → Digit k
    by true e =
        let g : k < 10 = ltb-true k 10 e in
        let z : byte "0" + k - byte "0" ≡ k = omega arith in
        as-digit k (byte "0" + k) (decimal (byte "0" + k) (omega arith) (omega arith) ∙ ap some z) (omega arith) (omega arith)
    by false e =
        let g = ltb-false k 10 e in
        let z : byte "A" + (k - 10) - byte "A" + 10 ≡ k = omega arith in
        as-digit k (byte "A" + (k - 10)) (upper (byte "A" + (k - 10)) (omega arith) (omega arith) ∙ ap some z) (omega arith) (omega arith)

-- two bytes that are the digits of a number
pub record Digits (x : ℕ) : Type 0 where
  pub high : ℕ
  pub low : ℕ
  pub is : hex (high ∷ low ∷ []) ≡ some x
  pub high-above : byte "+" < high
  pub low-above : byte "+" < low
  pub high-ascii : high < 128
  pub low-ascii : low < 128

pub digits-for : (x : ℕ) → x < 256 → Digits x
unfolding hex
digits-for x h =
    let a = digit-for (x / 16) (omega arith) in
    let b = digit-for (x % 16) (omega arith) in
    let z : x / 16 * 16 + x % 16 ≡ x = omega arith in
    record {
      high = a.letter;
      low = b.letter;
      is = rw (a.first, b.value) (ap some z);
      high-above = a.above;
      low-above = b.above;
      high-ascii = a.low;
      low-ascii = b.low;
    }

pub sum-below : (x : ℕ) (l : List ℕ) → x < 128 → ascii l ≡ true → checksum_from x l < 128
unfolding checksum_from ascii
sum-below x [] h p = h
sum-below x (b ∷ l) h p =
    let w = (and-eq-true_iff (ltb b 128) (ascii l)).0 p in
    sum-below (bit_xor x b) l (xor_lt 7 x b h (ltb-true b 128 w.0)) w.1
