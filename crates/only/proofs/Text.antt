-- No second answer of `text`. Assumes nothing.
use Rattle.std.specs.Prelude.{Option, Result, Ok}
use Rattle.std.proofs.Common.{◌≡◌, ℕ, List}
use Rattle.text.specs.Reader.{char, one_of, letter_of, opt}
use Rattle.text.specs.Reader as Reader
use Rattle.text.specs.Number as Number
use Rattle.text.specs.Code as Units
use Rattle.text.specs.Answer.{Finds, held, itself, seen, next, part}
use Rattle.text.specs.declared.Fault.{Fault}
use Rattle.only.proofs.Laws.{same, finds, always-finds, held-apart, itself-apart, seen-apart, next-apart, part-apart}

pub byte : (s : List ℕ) (at b : ℕ) {r q : Result ℕ Fault} → Finds s at (char b) next r → Finds s at (char b) next q → r ≡ q
byte s at b = finds next-apart

pub one-of : (s : List ℕ) (at a b : ℕ) {r q : Result (ℕ × ℕ) Fault} → Finds s at (one_of a b) itself r → Finds s at (one_of a b) itself q → r ≡ q
one-of s at a b = finds itself-apart

pub one-among : (s : List ℕ) (at : ℕ) (letters : List ℕ) {r q : Result (ℕ × ℕ) Fault} → Finds s at (letter_of letters) itself r → Finds s at (letter_of letters) itself q → r ≡ q
one-among s at letters = finds itself-apart

pub until : (s : List ℕ) (at b : ℕ) {r q : Result ℕ Fault} → Finds s at (Reader.until b) (part s at) r → Finds s at (Reader.until b) (part s at) q → r ≡ q
until s at b = finds (part-apart s at)

pub number : (s : List ℕ) (at max : ℕ) {r q : Result (ℕ × ℕ) Fault} → Finds s at (Number.number max) itself r → Finds s at (Number.number max) itself q → r ≡ q
number s at max = finds itself-apart

pub opt-number : (s : List ℕ) (at max : ℕ) {r q : Option ℕ × ℕ} → Finds s at (opt (Number.number max)) (seen held) (Ok r) → Finds s at (opt (Number.number max)) (seen held) (Ok q) → r ≡ q
opt-number s at max = always-finds (seen-apart held-apart)

pub unit : (b : ℕ) {r q : ℕ} → r ≡ Units.unit b → q ≡ Units.unit b → r ≡ q
unit b = same

pub two : (s : List ℕ) (at : ℕ) {r q : Result (ℕ × ℕ) Fault} → Finds s at Number.two_bytes itself r → Finds s at Number.two_bytes itself q → r ≡ q
two s at = finds itself-apart

pub three : (s : List ℕ) (at : ℕ) {r q : Result (ℕ × ℕ) Fault} → Finds s at Number.three_bytes itself r → Finds s at Number.three_bytes itself q → r ≡ q
three s at = finds itself-apart
