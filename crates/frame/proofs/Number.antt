-- A line whose frame is refused has one of the numbers 1 to 6: framing ends in no fault but UnknownType, having neither a decimal place
-- nor a time. Assumes nothing.
use Prim.Native.Nat.{ℕ, ◌≤◌}
use native.Mathlib.Omega.{arith}
use mathlib.Core.Path.{◌≡◌, refl}
use mathlib.Core.Bool.{Bool, true, false, cond}
use mathlib.Core.List.{List}
use mathlib.Core.Logic.{◌≢◌}
use lib.Dec.{eqb, leb}
use lib.ListN.{length, take, drop}
use Rattle.utf8.specs.Utf8.{utf8, ascii}
use Rattle.text.specs.Bytes.{byte}
use Rattle.text.specs.Reader.{Fault, UnknownType, Number, BadTime, Parse, miss, refuse, got}
use Rattle.text.proofs.Faults.{Clear, Never, clear-miss, clear-got, clear-cond, clear-refuse, never-bind, never-pure, never-or_miss, never-char, never-until}
use Rattle.frame.specs.Refused.{bad_utf8, not_ascii, too_long, bad_checksum}
use Rattle.frame.specs.Types.{types, listed}
use Rattle.frame.specs.Digits.{hex}
use Rattle.frame.specs.Frame.{max_length, Parts, taken, known, sentence_type, checksum_field, sentence, Outcome, accepted, refused, calculated, judged, sized, frame}

module _ {f : Fault} where
  never-taken : (n : ℕ) → Never f (taken n)
  unfolding taken
  never-taken n l = clear-cond (leb n (length l)) (clear-got (take n l) (drop n l)) clear-miss

  never-sentence : UnknownType ≢ f → Never f sentence
  unfolding sentence sentence_type checksum_field known
  never-sentence other =
      never-bind (never-char (byte "$"))
      (λ _. never-bind (never-taken 2)
      (λ t. never-bind (never-bind (never-taken 3) (λ k l. clear-cond (listed types k) (clear-got k l) (clear-refuse other)))
      (λ k. never-bind (never-char (byte ","))
      (λ _. never-bind (never-until (byte "*"))
      (λ x. never-bind (never-bind (never-char (byte "*")) (λ _. never-bind (never-taken 2) (λ d. never-or_miss (hex d)))) (λ c. never-pure _))))))

-- if an outcome is a refusal, its number is one of 1 to 6
abbrev pub Framed : Outcome → Type 0
Framed (accepted p) = Unit {0}
Framed (refused x) = (1 ≤ x.number) × (x.number ≤ 6)

pub framed-number : (l : List ℕ) → Framed (frame l)
unfolding frame sized
framed-number l = by (utf8 l) (ascii l) (leb (length l) max_length) (sentence l) (λ f other. never-sentence other l)
  where
    last : (t : Bool) (p : Parts) → Framed (cond t (accepted p) (refused (bad_checksum (calculated p) p.checksum)))
    last true p = tt
    last false p = (omega arith, omega arith)

    by : (u a s : Bool) (p : Parse Parts) → ((f : Fault) → UnknownType ≢ f → Clear f p)
        → Framed (cond u (cond a (cond s (judged p) (refused (too_long (length l)))) (refused not_ascii)) (refused bad_utf8))
    by true true true miss h = (omega arith, omega arith)
    by true true true (refuse UnknownType) h = (omega arith, omega arith)
    by true true true (refuse Number) h = absurd (h Number (λ e. let z : ◌≡◌ {A = ℕ} 0 1 = cc in omega arith) refl)
    by true true true (refuse BadTime) h = absurd (h BadTime (λ e. let z : ◌≡◌ {A = ℕ} 0 1 = cc in omega arith) refl)
    by true true true (got p m) h = last (eqb (calculated p) p.checksum) p
    by true true false p h = (omega arith, omega arith)
    by true false s p h = (omega arith, omega arith)
    by false a s p h = (omega arith, omega arith)
