-- A decimal place as the code reads it, the sign and then the digits, is the decimal that its whole text writes: a minus sign is no comma,
-- so that the text goes on behind it, and no digit, so that without one the text is as it was. Assumes nothing.
use Prim.Native.Nat.{ℕ}
use native.Mathlib.Omega.{arith}
use mathlib.Core.Path.{◌≡◌, refl, ap, ◌∙◌}
use mathlib.Core.Bool.{Bool, true, false, cond}
use mathlib.Core.List.{List, [], ◌∷◌}
use mathlib.Core.Option.{Option, none, some, map}
use lib.ListN.{length, drop}
use lib.Dec.{eqb}
use borrow.Author.Tests.{eqb-true, ne_eqb}
use Rattle.std.specs.Prelude.{Option as Maybe, Some, None, Result, Ok, Err}
use Rattle.text.specs.Bytes.{byte}
use Rattle.text.specs.Reader.{Parse, miss, refuse, got, Reader, after, ◌>>=◌, char}
use Rattle.text.specs.Answer.{Finds, itself, next, seen, held_as}
use Rattle.text.specs.declared.Fault.{Fault}
use Rattle.text.specs.declared.Fault.TheVariants.{Number as BadNumber}
use Rattle.text.proofs.Places.{took, a-read, bad-read, alike}
use Rattle.text.proofs.Faults.{never-char}
use Rattle.text.proofs.Finding.{not-found}
use Rattle.decimal.specs.Decimal.{Limits, Decimal, negative, text, from_comma, digits, plain, or_number, decimal}
use Rattle.decimal.specs.Answer.{unsigned, a_decimal}
use Rattle.decimal.specs.declared.Run.{Run}
use Rattle.decimal.specs.Code.{minus_sign, unsigned_place, with_sign}

-- a minus sign is the byte
pub sign-there : (l m : List ℕ) {u : Unit {0}} → char (byte "-") l ≡ got u m → minus_sign l ≡ got true m
unfolding char minus_sign
sign-there [] m e = let y : ◌≡◌ {A = ℕ} 0 1 = cc in absurd (omega arith)
sign-there (b ∷ l) m {u} e = by (eqb b (byte "-")) e
  where
    by : (t : Bool) → cond {A = Parse (Unit {0})} t (got tt l) miss ≡ got u m → cond {A = Parse Bool} t (got true l) (got false (b ∷ l)) ≡ got true m
    by true e = let h : l ≡ m = cc in ap (got true) h
    by false e = let y : ◌≡◌ {A = ℕ} 0 1 = cc in absurd (omega arith)

pub sign-not : (l : List ℕ) → char (byte "-") l ≡ miss → minus_sign l ≡ got false l
unfolding char minus_sign
sign-not [] e = refl
sign-not (b ∷ l) e = by (eqb b (byte "-")) e
  where
    by : (t : Bool) → cond {A = Parse (Unit {0})} t (got tt l) miss ≡ miss → cond {A = Parse Bool} t (got true l) (got false (b ∷ l)) ≡ got false (b ∷ l)
    by true e = let y : ◌≡◌ {A = ℕ} 0 1 = cc in absurd (omega arith)
    by false e = refl

abbrev pub in_order : Limits → Reader (Option Decimal)
in_order lim = minus_sign >>= λ minus. unsigned_place lim >>= with_sign minus

-- no sign changes nothing
unsigned-is : (r : Parse (Option Decimal)) → r ≡ after r (with_sign false)
unfolding with_sign
unsigned-is miss = refl
unsigned-is (refuse f) = refl
unsigned-is (got o l) = refl

-- a minus sign stands before digits
signed-is : (o : Option Decimal) (l : List ℕ) → or_number (map negative o) l ≡ after (or_number o l) (with_sign true)
unfolding with_sign
signed-is none l = refl
signed-is (some d) l = refl

module _ (lim : Limits) where
  -- a place with this text, and what is left behind it
  abbrev holding : (List ℕ → Option Decimal) → List ℕ → List ℕ → Parse (Option Decimal)
  holding read t m = cond (eqb (length t) 0) (got none m) (or_number (read t) m)

  empty : (t : List ℕ) → eqb (length t) 0 ≡ true → digits lim t ≡ none
  empty [] e = refl
  empty (b ∷ t) e = let h = eqb-true (length (b ∷ t)) 0 e in absurd (omega arith)

  -- behind a minus sign an empty text is no decimal
  behind : (t m : List ℕ) (u : Bool) → eqb (length t) 0 ≡ u
      → or_number (map negative (digits lim t)) m ≡ after (cond u (got none m) (or_number (digits lim t) m)) (with_sign true)
  unfolding with_sign
  behind t m true e = ap (λ (o : Option Decimal). or_number (map negative o) m) (empty t e)
  behind t m false e = signed-is (digits lim t) m

  minus-first : (l : List ℕ) → decimal lim (byte "-" ∷ l) ≡ after (unsigned_place lim l) (with_sign true)
  unfolding decimal unsigned_place
  minus-first l =
      ap (λ (u : Bool). cond u (got none (from_comma l)) (or_number (map negative (digits lim (text l))) (from_comma l))) (ne_eqb (length (byte "-" ∷ text l)) 0 (λ e. omega arith))
      ∙ behind (text l) (from_comma l) (eqb (length (text l)) 0) refl

  -- a text that does not begin with one, as it ends at once or not
  bare : (b : ℕ) (t m : List ℕ) (u : Bool) → eqb b (byte "-") ≡ false → holding (plain lim) (cond u [] (b ∷ t)) m ≡ holding (digits lim) (cond u [] (b ∷ t)) m
  bare b t m true e = refl
  bare b t m false e =
      ap (λ (u : Bool). cond (eqb (length (b ∷ t)) 0) (got none m) (or_number (cond u (map negative (digits lim t)) (digits lim (b ∷ t))) m)) e

  no-minus : (b : ℕ) (l : List ℕ) → eqb b (byte "-") ≡ false → decimal lim (b ∷ l) ≡ unsigned_place lim (b ∷ l)
  unfolding decimal unsigned_place
  no-minus b l e = bare b (text l) (from_comma (b ∷ l)) (eqb b (byte ",")) e

  pub in-order : (l : List ℕ) → decimal lim l ≡ in_order lim l
  unfolding ◌>>=◌ minus_sign decimal unsigned_place with_sign
  in-order [] = refl
  in-order (b ∷ l) = by (eqb b (byte "-")) refl
    where
      by : (t : Bool) → eqb b (byte "-") ≡ t
          → decimal lim (b ∷ l) ≡ after (cond t (got true l) (got false (b ∷ l))) (λ minus m. after (unsigned_place lim m) (with_sign minus))
      by true e = ap (λ (x : ℕ). decimal lim (x ∷ l)) (eqb-true b (byte "-") e) ∙ minus-first l
      by false e = no-minus b l e ∙ unsigned-is (unsigned_place lim (b ∷ l))

-- what the code finds: the sign, if there is one, and then the digits. For `search`
module _ {s : List ℕ} {at : ℕ} where
  pub sign-found : {p : ℕ} → Finds s at (char (byte "-")) next (Ok p) → Finds s at minus_sign itself (Ok (true, p))
  sign-found t = let k = took t.reads refl in record { reads = a-read (sign-there _ _ k.reads) k.after k.within }

  pub sign-none : {e : Fault} → Finds s at (char (byte "-")) next (Err e) → Finds s at minus_sign itself (Ok (false, at))
  sign-none t = record { reads = a-read (sign-not _ (not-found (λ f. never-char _) refl t)) (omega arith) (omega arith) }

  pub in-turn : {R : Type 0} {see : R → Option Decimal × ℕ} {r : Result R Fault} (lim : Limits) → Finds s at (in_order lim) see r → Finds s at (decimal lim) see r
  in-turn lim t = record { reads = alike t.reads (in-order lim (drop at s)) }

  pub sign-alone : {R : Type 0} {see : R → Option Decimal × ℕ} (minus : Bool) (o : Maybe Run) → minus ≡ true → o ≡ None → Finds s at (with_sign minus (held_as unsigned o)) see (Err BadNumber)
  unfolding with_sign
  sign-alone minus o e f = record { reads = bad-read (rw (e, f)) }

  pub nothing : (minus : Bool) (o : Maybe Run) → minus ≡ false → o ≡ None → Finds s at (with_sign minus (held_as unsigned o)) (seen (held_as a_decimal)) (Ok (None, at))
  unfolding with_sign
  nothing minus o e f = record { reads = a-read (rw (e, f)) (omega arith) (omega arith) }

  pub some-digits : (minus : Bool) (o : Maybe Run) {d : Run} → o ≡ Some d
      → Finds s at (with_sign minus (held_as unsigned o)) (seen (held_as a_decimal)) (Ok (Some (record { minus = minus; size = d.value; decimals = d.count }), at))
  unfolding with_sign
  some-digits true o e = record { reads = a-read (rw e) (omega arith) (omega arith) }
  some-digits false o e = record { reads = a-read (rw e) (omega arith) (omega arith) }

pub ruleset ordering = (in-turn, sign-alone, nothing, some-digits)
