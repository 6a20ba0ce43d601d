-- The ranges of the decimals that a place can hold, for readers that go on from them. They follow from the digit limits.
-- Assumes nothing.
use Prim.Native.Nat.{ℕ, zero, suc, ◌*◌, ◌-◌, ◌^◌, ◌≤◌, ◌<◌}
use native.Mathlib.Omega.{arith}
use mathlib.Core.Path.{◌≡◌, refl, subst}
use mathlib.Core.Bool.{Bool, true, false}
use mathlib.Core.List.{List}
use mathlib.Core.Option.{Option, none, some, map}
use lib.ListN.{drop}
use lib.IntN.{nat_abs}
use Rattle.std.specs.Prelude.{Option as Maybe, Some, Ok}
use Rattle.text.specs.Answer.{Finds, seen, held_as}
use Rattle.text.proofs.Places.{took}
use Rattle.decimal.specs.Answer.{a_short, a_long}
use Rattle.decimal.specs.declared.ShortDecimal.{ShortDecimal}
use Rattle.decimal.specs.declared.LongDecimal.{LongDecimal}
use Rattle.text.specs.Reader.{Parse, miss, refuse, got, after, ◌>>=◌, pure}
use Rattle.decimal.specs.Decimal.{Limits, Decimal, text, decimal, short, long}
use Rattle.decimal.specs.Places.{Short, Long, short_of, long_of, signed, short_decimal, long_decimal}
use Rattle.decimal.proofs.Power.{minutes-lt}
use Rattle.decimal.specs.Plain.{Plain}
use Rattle.decimal.proofs.Bounds.{Bounded, bounded}
use Rattle.decimal.proofs.Exactly.{decimal-only}

-- what a place reads, where the decimal is taken over by `f`: the decimal itself, which its text writes, with its bounds
pub record From {A : Type 0} (lim : Limits) (f : Decimal → A) (l : List ℕ) (a : A) : Type 0 where
  pub of : Decimal
  pub written : Plain lim (text l) of
  pub same : f of ≡ a
  pub known : Bounded lim of

pub from : {A : Type 0} (lim : Limits) (f : Decimal → A) (l : List ℕ) {a : A} {m : List ℕ}
    → (decimal lim >>= (λ d. pure (map f d))) l ≡ got (some a) m → From lim f l a
unfolding ◌>>=◌ pure
from {A} lim f l {a} {m} e = by (decimal lim l) refl e
  where
    by : (r : Parse (Option Decimal)) → decimal lim l ≡ r → after r (λ d. pure (map f d)) ≡ got (some a) m → From lim f l a
    by miss g e = let y : ◌≡◌ {A = ℕ} 0 1 = cc in absurd (omega arith)
    by (refuse x) g e = let y : ◌≡◌ {A = ℕ} 0 1 = cc in absurd (omega arith)
    by (got none k) g e = let y : ◌≡◌ {A = ℕ} 0 1 = cc in absurd (omega arith)
    by (got (some d) k) g e = let h : f d ≡ a = cc in record { of = d; written = (decimal-only lim l g).0; same = h; known = bounded lim l g }

pub record ShortFacts (d : Short) : Type 0 where
  pub small : nat_abs d.whole < 10000000
  pub few : d.decimals ≤ 6

pub record LongFacts (d : Long) : Type 0 where
  pub few : d.decimals ≤ 9
  pub front : d.size < 1000 * 10 ^ d.decimals
  pub small : d.billionths < 1000000000000
  pub scaled : d.billionths ≡ d.size * 10 ^ (9 - d.decimals)

-- a sign leaves the size
pub size-of : (n : ℕ) (minus : Bool) → nat_abs (signed n minus) ≡ n
size-of n false = refl
size-of zero true = refl
size-of (suc n) true = refl

short-known : (d : Decimal) → Bounded short d → ShortFacts (short_of d)
short-known d b = record { small = rw (size-of d.size d.minus) b.small; few = omega (arith, b.fewer) }

long-known : (d : Decimal) → Bounded long d → LongFacts (long_of d)
long-known d b = record { few = b.few; front = b.front; small = minutes-lt d.size d.decimals b.front b.few; scaled = refl }

pub short-facts : (l : List ℕ) {d : Short} {m : List ℕ} → short_decimal l ≡ got (some d) m → ShortFacts d
unfolding short_decimal
short-facts l e = let h = from short short_of l e in subst (λ (x : Short). ShortFacts x) h.same (short-known h.of h.known)

pub long-facts : (l : List ℕ) {d : Long} {m : List ℕ} → long_decimal l ≡ got (some d) m → LongFacts d
unfolding long_decimal
long-facts l e = let h = from long long_of l e in subst (λ (x : Long). LongFacts x) h.same (long-known h.of h.known)

-- the same of the code's answers
pub short-held : {s : List ℕ} {at p : ℕ} {o : Maybe ShortDecimal} {d : ShortDecimal} → Finds s at short_decimal (seen (held_as a_short)) (Ok (o, p)) → o ≡ Some d → ShortFacts (a_short d)
short-held {s} {at} {p} {d = d} t e =
    let u : Finds s at short_decimal (seen (held_as a_short)) (Ok (Some d, p)) = rw e at t in
    short-facts (drop at s) (took u.reads refl).reads

pub long-held : {s : List ℕ} {at p : ℕ} {o : Maybe LongDecimal} {d : LongDecimal} → Finds s at long_decimal (seen (held_as a_long)) (Ok (o, p)) → o ≡ Some d → LongFacts (a_long d)
long-held {s} {at} {p} {d = d} t e =
    let u : Finds s at long_decimal (seen (held_as a_long)) (Ok (Some d, p)) = rw e at t in
    long-facts (drop at s) (took u.reads refl).reads
