-- No second answer of `held`. A struct with a reference is determined by its plain fields and the bytes that it holds. Assumes nothing.
use Rattle.std.specs.Prelude.{Result, Ok, Err}
use Rattle.std.proofs.Common.{◌≡◌, ℕ, List, ap}
use Rattle.frame.specs.Frame.{frame}
use Rattle.frame.specs.Answer.{data_of}
use Rattle.frame.specs.declared.refusal.Talker.{Talker}
use Rattle.frame.specs.declared.refusal.Kind.{Kind}
use Rattle.frame.specs.declared.refusal.Refusal.{Refusal}
use Rattle.frame.specs.declared.sentence.Sentence.{Sentence}
use Rattle.held.specs.Calculated.{sum_in}
use Rattle.held.specs.Answer.{sum_of, summed}
use Rattle.only.proofs.Laws.{same, TellsApart, tells}
use Rattle.only.proofs.Frame.{refusal-apart}

summed-one : (r q : Result ℕ Refusal) → summed r ≡ summed q → r ≡ q
summed-one (Ok a) (Ok b) e = cc
summed-one (Ok a) (Err r) e = cc
summed-one (Err r) (Ok a) e = cc
summed-one (Err r) (Err q) e = ap Err (refusal-apart.one cc)

summed-apart : TellsApart summed
summed-apart = record { one = λ {x} {y}. summed-one x y }

pub sum-of : (talker : Talker) (kind : Kind) (text : List ℕ) {r q : ℕ} → r ≡ sum_of talker kind text → q ≡ sum_of talker kind text → r ≡ q
sum-of talker kind text = same

-- what the contract says of an answer: its three plain fields, and the bytes of its data
pub record Holds (framed : Sentence) (line : List ℕ) (talker : Talker) (kind : Kind) (checksum : ℕ) (bytes : List ℕ) : Type 0 where
  pub its-talker : talker ≡ framed.talker
  pub its-kind : kind ≡ framed.kind
  pub its-checksum : checksum ≡ framed.checksum
  pub its-bytes : bytes ≡ data_of framed line

pub nmea-sentence : (line : List ℕ) (framed : Sentence) {t t' : Talker} {k k' : Kind} {c c' : ℕ} {d d' : List ℕ}
    → Holds framed line t k c d → Holds framed line t' k' c' d' → (t ≡ t') × (k ≡ k') × (c ≡ c') × (d ≡ d')
nmea-sentence line framed x y =
    (same x.its-talker y.its-talker, same x.its-kind y.its-kind, same x.its-checksum y.its-checksum, same x.its-bytes y.its-bytes)

-- the reference itself, whatever its type
pub NmeaSentence-data : {A : Type 0} (data-held : A) {r q : A} → r ≡ data-held → q ≡ data-held → r ≡ q
NmeaSentence-data d = same

pub NmeaSentence-calc-checksum : (talker : Talker) (kind : Kind) (text : List ℕ) {r q : ℕ} → r ≡ sum_of talker kind text → q ≡ sum_of talker kind text → r ≡ q
NmeaSentence-calc-checksum talker kind text = same

pub line-checksum : (line : List ℕ) (framed : Sentence) {r q : ℕ}
    → r ≡ sum_of framed.talker framed.kind (data_of framed line)
    → q ≡ sum_of framed.talker framed.kind (data_of framed line)
    → r ≡ q
line-checksum line framed = same

pub calculate : (line : List ℕ) {r q : Result ℕ Refusal} → summed r ≡ sum_in (frame line) → summed q ≡ sum_in (frame line) → r ≡ q
calculate line = tells summed-apart
