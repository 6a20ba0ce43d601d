-- Several numbers' bits, or'ed, are at most 8191, whose bits are all set, exactly where each number is: so one test tells whether entries are
-- short. Assumes nothing.
use Prim.Native.Nat.{ℕ, ◌+◌, ◌-◌, ◌≤◌, ◌<◌}
use native.Mathlib.Omega.{arith}
use mathlib.Core.Path.{◌≡◌, refl, ap, sym, ◌∙◌}
use mathlib.Core.List.{List}
use mathlib.Core.Bool.{Bool, true, false, ◌&&◌, cond}
use mathlib.Core.Option.{Option, none, some}
use lib.Bits.{bit_or, or_lt, or_add_and, and_le_l, and_le_r}
use lib.Dec.{eqb, leb}
use borrow.Author.Tests.{le-leb, lt-leb, leb-true, leb-false, eqb-true}
use Rattle.gsv.specs.Gsv.{Satellite}
use Rattle.rows.specs.Leave.{upto}
use Rattle.gather.specs.Words.{absent_word, number_of, sat_at, sats_from}
use Rattle.gather.specs.Code.{sat_within, all_within, short_max, raised, sat_bits}
use Rattle.gather.proofs.Greedy.{cell-first}

-- the bits of two numbers
or-small : (a b : ℕ) → leb (bit_or a b) 8191 ≡ leb a 8191 && leb b 8191
or-small a b = by (leb a 8191) (leb b 8191) refl refl
  where
    by : (t u : Bool) → leb a 8191 ≡ t → leb b 8191 ≡ u → leb (bit_or a b) 8191 ≡ t && u
    by true true e f =
        let h : a < 8192 = omega (arith, leb-true a 8191 e) in
        let k : b < 8192 = omega (arith, leb-true b 8191 f) in
        le-leb (bit_or a b) 8191 (omega (arith, or_lt 13 a b h k))
    by true false e f = lt-leb (bit_or a b) 8191 (omega (arith, leb-false b 8191 f, or_add_and a b, and_le_l a b))
    by false u e f = lt-leb (bit_or a b) 8191 (omega (arith, leb-false a 8191 e, or_add_and a b, and_le_r a b))

raised-small : (o : Option ℕ) → leb (raised o) 8191 ≡ upto short_max o
raised-small none = refl
raised-small (some n) = by (leb n short_max) refl
  where
    by : (t : Bool) → leb n short_max ≡ t → leb (n + 1) 8191 ≡ t
    by true e = le-leb (n + 1) 8191 (omega (arith, leb-true n short_max e))
    by false e = lt-leb (n + 1) 8191 (omega (arith, leb-false n short_max e))

and-false : (b : Bool) → b && false ≡ false
and-false true = refl
and-false false = refl

-- a satellite's number by itself and raised: the word of what is absent is too large
id-small : (n : ℕ) → leb (bit_or n (raised (number_of n))) 8191 ≡ leb n short_max
id-small n = or-small n (raised (number_of n)) ∙ ap (λ (b : Bool). leb n 8191 && b) (raised-small (number_of n)) ∙ by (eqb n absent_word) (leb n short_max) refl refl
  where
    by : (t u : Bool) → eqb n absent_word ≡ t → leb n short_max ≡ u → leb n 8191 && upto short_max (cond t none (some n)) ≡ u
    by true true e f = absurd (omega (arith, eqb-true n absent_word e, leb-true n short_max f))
    by true false e f = ap (λ (b : Bool). b && true) (lt-leb n 8191 (omega (arith, eqb-true n absent_word e)))
    by false true e f = (λ j. le-leb n 8191 (omega (arith, leb-true n short_max f)) j && f j)
    by false false e f = ap (λ (b : Bool). leb n 8191 && b) f ∙ and-false (leb n 8191)

and-4 : (a b c d : Bool) → ((a && b) && c) && d ≡ a && (b && (c && d))
and-4 true true c d = refl
and-4 true false c d = refl
and-4 false b c d = refl

-- the bits of four numbers
or-4 : (a b c d : ℕ) → leb (bit_or (bit_or (bit_or a b) c) d) 8191 ≡ leb a 8191 && (leb b 8191 && (leb c 8191 && leb d 8191))
or-4 a b c d =
    or-small (bit_or (bit_or a b) c) d
    ∙ ap (λ (t : Bool). t && leb d 8191) (or-small (bit_or a b) c ∙ ap (λ (t : Bool). t && leb c 8191) (or-small a b))
    ∙ and-4 (leb a 8191) (leb b 8191) (leb c 8191) (leb d 8191)

-- those of a cell
bits-small : (s : Satellite) → leb (sat_bits s) 8191 ≡ sat_within short_max short_max s
bits-small s =
    or-4 (bit_or s.id (raised (number_of s.id))) (raised s.elevation) (raised s.azimuth) (raised s.signal)
    ∙ (λ j. id-small s.id j && (raised-small s.elevation j && (raised-small s.azimuth j && raised-small s.signal j)))

and-behind : (a b c d r : Bool) → a && (b && (c && (d && r))) ≡ (a && (b && (c && d))) && r
and-behind true true true d r = refl
and-behind true true false d r = refl
and-behind true false c d r = refl
and-behind false b c d r = refl

-- a test of cells by their bits, and what is left
pub record Tested (t : Bool) (bits : ℕ) (rest : Bool) : Type 0 where
  pub is : t ≡ leb bits 8191 && rest

module _ {t : Bool} {bits : ℕ} {rest : Bool} (c : Tested t bits rest) where
  pub fails : 8191 < bits → t ≡ false
  fails h = c.is ∙ ap (λ (b : Bool). b && rest) (lt-leb bits 8191 h)

  pub goes : bits ≤ 8191 → t ≡ rest
  goes h = c.is ∙ ap (λ (b : Bool). b && rest) (le-leb bits 8191 h)

-- the cells from i on, of which the first, or the first four, are tested
module _ (ws : List ℕ) (count : ℕ) where
  abbrev from : ℕ → Bool
  from i = all_within short_max short_max (sats_from i (count - i) ws)

  next-cell : (i j : ℕ) {a : ℕ} → i < count → i + 1 ≡ j → a ≡ sat_bits (sat_at ws i) → from i ≡ leb a 8191 && from j
  next-cell i j {a} h n e =
      ap (all_within short_max short_max) (cell-first ws count i h)
      ∙ ap (λ (t : Bool). t && from (i + 1)) (sym (ap (λ (x : ℕ). leb x 8191) e ∙ bits-small (sat_at ws i)))
      ∙ ap (λ (k : ℕ). leb a 8191 && from k) n

  pub one-cell : (i : ℕ) {a : ℕ} → i < count → a ≡ sat_bits (sat_at ws i) → Tested (from i) a (from (i + 1))
  one-cell i h e = record { is = next-cell i (i + 1) h refl e }

  pub four-cells : (i : ℕ) {a b c d : ℕ} → i + 4 ≤ count → a ≡ sat_bits (sat_at ws i) → b ≡ sat_bits (sat_at ws (i + 1)) → c ≡ sat_bits (sat_at ws (i + 2))
      → d ≡ sat_bits (sat_at ws (i + 3)) → Tested (from i) (bit_or (bit_or (bit_or a b) c) d) (from (i + 4))
  four-cells i {a} {b} {c} {d} h e f g k =
      record {
        is =
            next-cell i (i + 1) (omega arith) refl e
            ∙ ap (λ (t : Bool). leb a 8191 && t)
            (next-cell (i + 1) (i + 2) (omega arith) (omega arith) f
            ∙ ap (λ (t : Bool). leb b 8191 && t)
            (next-cell (i + 2) (i + 3) (omega arith) (omega arith) g
            ∙ ap (λ (t : Bool). leb c 8191 && t) (next-cell (i + 3) (i + 4) (omega arith) (omega arith) k)))
            ∙ and-behind (leb a 8191) (leb b 8191) (leb c 8191) (leb d 8191) (from (i + 4))
            ∙ ap (λ (t : Bool). t && from (i + 4)) (sym (or-4 a b c d));
      }
