-- WHERE THE CODE HAS COME in a decimal place without its sign, and what each answer from there is: the digits before the point, the point,
-- the digits behind it. Each case is one of `Decimals`, at a place of a text. Assumes nothing.
use Prim.Native.Nat.{ℕ, ◌+◌, ◌-◌, ◌*◌, ◌^◌, ◌≤◌, min}
use native.Mathlib.Omega.{arith}
use mathlib.Core.Path.{◌≡◌, refl, sym}
use mathlib.Core.Bool.{true, false}
use mathlib.Core.List.{List}
use lib.ListN.{drop}
use Rattle.std.specs.Prelude.{Option, Some, None, Result, Ok, Err, IsErr, IsErrAnd}
use Rattle.text.specs.Bytes.{byte}
use Rattle.text.specs.Reader.{refuse, char, Number as IsNumber}
use Rattle.text.specs.Answer.{Finds, seen, next, held_as}
use Rattle.text.specs.declared.Fault.{Fault}
use Rattle.text.specs.declared.Fault.TheVariants.{Number}
use Rattle.text.proofs.Places.{Took, took, a-read, bad-read}
use Rattle.text.proofs.Faults.{never-char}
use Rattle.text.proofs.Finding.{handed, not-found}
use Rattle.decimal.specs.Decimal.{Limits}
use Rattle.decimal.specs.Code.{run, at_end, unsigned_place}
use Rattle.decimal.specs.Answer.{a_run, unsigned}
use Rattle.decimal.specs.declared.Run.{Run}
use Rattle.decimal.proofs.Decimals.{Ran, ran-got, ran-over, ran-lt, run-fault, absent, over, case-zero, case-whole, case-other, case-long, case-no-digits, case-junk, case-good, room-after, too-long}

-- an answer for such a place
abbrev Answers : Limits → List ℕ → ℕ → Result (Option Run × ℕ) Fault → Type 0
Answers lim s at r = Finds s at (unsigned_place lim) (seen (held_as unsigned)) r

module _ (lim : Limits) (s : List ℕ) (at : ℕ) where
  -- no comma and no end, but digits up to i
  pub record Begun (whole : Run) (i : ℕ) : Type 0 where
    pub more : at_end (drop at s) ≡ false
    pub digits : Took s at (run lim.before 0 0) (a_run whole) i
    pub fits : (lim.before ≤ lim.all) × (lim.all ≤ 19)

  -- a point behind them, and room for r digits more
  pub record Pointed (whole : Run) (i j r : ℕ) : Type 0 where
    pub begun : Begun whole i
    pub point : Took s i (char (byte ".")) tt j
    pub room : (r ≤ lim.after) × (r ≤ lim.all - whole.count) × (r ≡ min lim.after (lim.all - whole.count))

  -- and these up to e
  pub record Closed (whole : Run) (i j r : ℕ) (all : Run) (e : ℕ) : Type 0 where
    pub pointed : Pointed whole i j r
    pub digits : Took s j (run r whole.value 0) (a_run all) e

module _ (lim : Limits) {s : List ℕ} {at : ℕ} where
  pub begun : {whole : Run} {i : ℕ} → false ≡ at_end (drop at s) → Finds s at (run lim.before 0 0) (seen a_run) (Ok (whole, i)) → lim.before ≤ lim.all → lim.all ≤ 19
      → Begun lim s at whole i
  begun e t h k = record { more = sym e; digits = took t.reads refl; fits = (h, k) }

  pub pointed : {whole : Run} {i j r : ℕ} → Begun lim s at whole i → Finds s i (char (byte ".")) next (Ok j) → r ≡ min lim.after (lim.all - whole.count)
      → Pointed lim s at whole i j r
  pointed b t m = record { begun = b; point = took t.reads refl; room = (omega arith, omega arith, m) }

  pub closed : {whole all : Run} {i j r e : ℕ} → Pointed lim s at whole i j r → Finds s j (run r whole.value 0) (seen a_run) (Ok (all, e)) → Closed lim s at whole i j r all e
  closed p t = record { pointed = p; digits = took t.reads refl }

  pub none-at : true ≡ at_end (drop at s) → Answers lim s at (Ok (None, at))
  none-at e = record { reads = a-read (absent lim (drop at s) (sym e)) (omega arith) (omega arith) }

  -- what a fault of the digits says
  number-by : {b : Result (Option Run × ℕ) Fault} {x : Fault} → IsErr b × IsErrAnd b (λ y. y ≡ x) → x ≡ Number → unsigned_place lim (drop at s) ≡ refuse IsNumber → Answers lim s at b
  number-by {b} h e f = record { reads = rw (handed b h, e) (bad-read f) }

  pub over-at : {x : Fault} {b : Result (Option Run × ℕ) Fault} → false ≡ at_end (drop at s) → Finds s at (run lim.before 0 0) (seen a_run) (Err x) → IsErr b × IsErrAnd b (λ y. y ≡ x)
      → Answers lim s at b
  over-at {x = x} e t h =
      let w = run-fault lim.before 0 x t.reads in
      number-by h w.1 (over lim (drop at s) (sym e) (ran-over lim.before 0 (drop at s) w.0))

  number-at : unsigned_place lim (drop at s) ≡ refuse IsNumber → Answers lim s at (Err Number)
  number-at e = record { reads = bad-read e }

  module _ {whole : Run} {i : ℕ} (b : Begun lim s at whole i) where
    front : Ran lim.before 0 (drop at s) whole.value whole.count (drop i s)
    front = ran-got lim.before 0 (drop at s) b.digits.reads

    pub few-before : whole.count ≤ lim.all
    few-before = omega (arith, front.few, front.count-is, b.fits)

    pub zero-at : whole.count ≡ 0 → Answers lim s at (Err Number)
    zero-at z = number-at (case-zero lim (drop at s) (drop i s) b.more front z)

    pub whole-at : (whole.count ≡ 0 → ⊥) → true ≡ at_end (drop i s) → Answers lim s at (Ok (Some (record { value = whole.value; count = 0 }), i))
    whole-at z e = record { reads = a-read (case-whole lim (drop at s) (drop i s) b.more front z b.fits.0 (sym e)) b.digits.after b.digits.within }

    pub other-at : {x : Fault} → false ≡ at_end (drop i s) → Finds s i (char (byte ".")) next (Err x) → Answers lim s at (Err Number)
    other-at e t = number-at (case-other lim (drop at s) (drop i s) b.more front (sym e) (not-found (λ x. never-char _) refl t))

  module _ {whole : Run} {i j r : ℕ} (p : Pointed lim s at whole i j r) where
    -- the digits behind the point fit a number of the code
    pub room-at : (whole.value + 1) * 10 ^ r ≤ 10000000000000000000
    room-at =
        let b = p.begun in
        room-after whole.value whole.count r lim.all (omega (arith, ran-lt (front b))) (omega (arith, few-before b, p.room)) b.fits.1

    pub long-at : {x : Fault} {b : Result (Option Run × ℕ) Fault} → Finds s j (run r whole.value 0) (seen a_run) (Err x) → IsErr b × IsErrAnd b (λ y. y ≡ x) → Answers lim s at b
    long-at {x = x} t h =
        let b = p.begun in
        let w = run-fault r whole.value x t.reads in
        number-by h w.1
        (case-long lim (drop at s) (drop i s) b.more (front b) (drop j s) p.point.reads
        (too-long lim.after lim.all whole.count r _ p.room (few-before b) (ran-over r whole.value (drop j s) w.0)))

  module _ {whole all : Run} {i j r e : ℕ} (c : Closed lim s at whole i j r all e) where
    back : Ran r whole.value (drop j s) all.value all.count (drop e s)
    back = ran-got r whole.value (drop j s) c.digits.reads

    pub no-digits-at : all.count ≡ 0 → Answers lim s at (Err Number)
    no-digits-at z =
        let p = c.pointed in
        number-at (case-no-digits lim (drop at s) (drop i s) p.begun.more (front p.begun) (drop j s) p.point.reads back z)

    pub good-at : (whole.count ≡ 0 → ⊥) → (all.count ≡ 0 → ⊥) → true ≡ at_end (drop e s) → Answers lim s at (Ok (Some all, e))
    good-at z z' f =
        let p = c.pointed in
        let b = p.begun in
        record {
          reads = a-read
              (case-good lim (drop at s) (drop i s) b.more (front b) (drop j s) p.point.reads back z z' p.room.0 (omega (arith, few-before b, p.room)) (sym f))
              (omega (arith, b.digits.after, p.point.after, c.digits.after))
              (omega (arith, b.digits, p.point, c.digits));
        }

    pub junk-at : false ≡ at_end (drop e s) → Answers lim s at (Err Number)
    junk-at f =
        let p = c.pointed in
        number-at (case-junk lim (drop at s) (drop i s) p.begun.more (front p.begun) (drop j s) p.point.reads back (sym f))
