-- The ranges of a time, test by test, and then BadTime. Assumes nothing.
use Prim.Native.Nat.{ℕ, ◌+◌, ◌*◌, ◌-◌, ◌/◌, ◌%◌, ◌^◌, ◌≤◌, ◌<◌}
use native.Mathlib.Nat.{mul-lt-mul_of_pos_right, mod-lt, mul_assoc, add-mul, div-add-mod'}
use native.Mathlib.Omega.{arith}
use mathlib.Core.Path.{◌≡◌, ap, sym, ◌∙◌, subst}
use mathlib.Core.Bool.{Bool, cond, ◌&&◌, and-false}
use mathlib.Core.List.{List}
use lib.Dec.{ltb}
use borrow.Author.Tests.{le-ltb, lt-ltb}
use Rattle.text.specs.Reader.{Fault, Parse, miss, refuse, got, BadTime}
use Rattle.text.proofs.Faults.{Clear, clear-miss, clear-got, clear-cond}
use Rattle.decimal.proofs.Power.{ten-pos, parts}
use Rattle.fields.specs.Time.{Time, timed, clock, second_of, nanosecond_of}

-- fewer than ten digits after the point are fewer than 1,000,000,000 nanoseconds
pub nanoseconds-lt : (size k : ℕ) → k ≤ 9 → nanosecond_of size k < 1000000000
nanoseconds-lt size k h =
    let p : size % 10 ^ k * 10 ^ (9 - k) < 10 ^ k * 10 ^ (9 - k) = mul-lt-mul_of_pos_right (mod-lt size (ten-pos k)) (ten-pos (9 - k)) in
    let q : 10 ^ k * 10 ^ (9 - k) ≡ 10 ^ 9 = parts k 9 h in
    omega arith

-- billionths are whole seconds and the nanoseconds
scaled : (size k : ℕ) → k ≤ 9 → size * 10 ^ (9 - k) ≡ second_of size k * 1000000000 + nanosecond_of size k
scaled size k h =
    let a = size / 10 ^ k in
    let b = size % 10 ^ k in
    let q = 10 ^ (9 - k) in
    ap (λ (n : ℕ). n * q) (sym (div-add-mod' size (10 ^ k)))
    ∙ add-mul (a * 10 ^ k) b q
    ∙ ap (λ (n : ℕ). n + b * q) (mul_assoc a (10 ^ k) q ∙ ap (λ (n : ℕ). a * n) (parts k 9 h))

module _ (size k n : ℕ) (h : k ≤ 9) (e : n ≡ size * 10 ^ (9 - k)) where
  pub whole-second : n / 1000000000 ≡ second_of size k
  whole-second = omega (arith, e ∙ scaled size k h, nanoseconds-lt size k h)

  pub rest-second : n % 1000000000 ≡ nanosecond_of size k
  rest-second = omega (arith, e ∙ scaled size k h, nanoseconds-lt size k h)

module _ (h m size d : ℕ) (l : List ℕ) where
  abbrev pub time : Time
  time = record { hour = h; minute = m; second = second_of size d; nanosecond = nanosecond_of size d }

  abbrev tested : Bool → Parse Time
  tested t = cond t (timed time l) miss

  pub late-hour : 24 ≤ h → clock h m size d l ≡ miss
  unfolding clock
  late-hour k = rw (le-ltb h 24 k)

  pub late-minute : 60 ≤ m → clock h m size d l ≡ miss
  unfolding clock
  late-minute k =
      ap (λ (t : Bool). tested (ltb h 24 && t && ltb (second_of size d) 60)) (le-ltb m 60 k)
      ∙ ap (λ (t : Bool). tested (t && ltb (second_of size d) 60)) (and-false (ltb h 24))

  pub late-second : 60 ≤ second_of size d → clock h m size d l ≡ miss
  unfolding clock
  late-second k =
      ap (λ (t : Bool). tested (ltb h 24 && ltb m 60 && t)) (le-ltb (second_of size d) 60 k)
      ∙ ap tested (and-false (ltb h 24 && ltb m 60))

  in-ranges : h < 24 → m < 60 → second_of size d < 60 → clock h m size d l ≡ timed time l
  unfolding clock
  in-ranges j k n =
      ap (λ (t : Bool). tested (t && ltb m 60 && ltb (second_of size d) 60)) (lt-ltb h 24 j)
      ∙ ap (λ (t : Bool). tested (t && ltb (second_of size d) 60)) (lt-ltb m 60 k)
      ∙ ap tested (lt-ltb (second_of size d) 60 n)

  pub in-time : h < 24 → m < 60 → second_of size d < 60 → nanosecond_of size d < 1000000000 → clock h m size d l ≡ got time l
  unfolding timed
  in-time j k n b =
      in-ranges j k n ∙ ap (λ (t : Bool). cond t (got time l) (refuse BadTime)) (lt-ltb (nanosecond_of size d) 1000000000 b)

  -- with at most nine decimals it is not BadTime
  pub clear-clock : {f : Fault} → d ≤ 9 → Clear f (clock h m size d l)
  unfolding clock timed
  clear-clock {f} few =
      clear-cond (ltb h 24 && ltb m 60 && ltb (second_of size d) 60)
      (subst (λ (t : Bool). Clear f (cond t (got time l) (refuse BadTime)))
      (sym (lt-ltb (nanosecond_of size d) 1000000000 (nanoseconds-lt size d few))) (clear-got time l))
      clear-miss
