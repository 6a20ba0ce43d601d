-- No second answer of `sentence`. Assumes nothing.
use Rattle.std.specs.Prelude.{Result, Ok, Err}
use Rattle.std.proofs.Common.{◌≡◌, ℕ, List, refl, ap}
use Rattle.text.specs.Bytes.{bytes}
use Rattle.frame.specs.Answer.{talker_bytes, letters}
use Rattle.frame.specs.declared.refusal.Kind.{Kind}
use Rattle.frame.specs.declared.refusal.Refusal.{Refusal}
use Rattle.answer.specs.Sentence.{OtherSentence, formatter_of, answer, parse_as}
use Rattle.sentence.specs.Answer.{formatter, sentence, record_of, answer_of}
use Rattle.sentence.specs.declared.Record.{Record}
use Rattle.sentence.specs.declared.Record.TheVariants.{Rmc as ARmc, Gsa as AGsa, Gsv as AGsv, Gga as AGga, Gll as AGll, Vtg as AVtg, Other as AnOther}
use Rattle.sentence.specs.declared.Formatter.{Formatter}
use Rattle.sentence.specs.declared.Formatter.TheVariants.{Rmc as TypeRmc, Gsa as TypeGsa, Gsv as TypeGsv, Gga as TypeGga, Gll as TypeGll, Vtg as TypeVtg, Other as TypeOther}
use Rattle.only.proofs.Laws.{TellsApart, tells}
use Rattle.only.proofs.Frame.{talker-apart, kind-apart, refusal-apart}
use Rattle.only.proofs.Gsv.{gsv-record-apart}
use Rattle.only.proofs.Gsa.{gsa-apart}
use Rattle.only.proofs.Rmc.{rmc-apart}
use Rattle.only.proofs.Gga.{gga-apart}
use Rattle.only.proofs.Gll.{gll-apart}
use Rattle.only.proofs.Vtg.{vtg-apart}

-- a talker, and data that are told apart
message-apart : {T A : Type 0} {f : T → A} → TellsApart f → TellsApart (sentence f)
message-apart u = record {
  one = λ e i. record { talker = talker-apart.one (λ j. (e j).talker) i; «data» = u.one (λ j. (e j).body) i };
}

record-one : (r q : Record) → record_of r ≡ record_of q → r ≡ q
record-one (ARmc x) (ARmc y) e = ap ARmc ((message-apart rmc-apart).one cc)
record-one (AGsa x) (AGsa y) e = ap AGsa ((message-apart gsa-apart).one cc)
record-one (AGsv x) (AGsv y) e = ap AGsv (gsv-record-apart.one cc)
record-one (AGga x) (AGga y) e = ap AGga ((message-apart gga-apart).one cc)
record-one (AGll x) (AGll y) e = ap AGll ((message-apart gll-apart).one cc)
record-one (AVtg x) (AVtg y) e = ap AVtg ((message-apart vtg-apart).one cc)
record-one (AnOther t k) (AnOther u l) e =
    let o : ◌≡◌ {A = OtherSentence} (record { talker = talker_bytes t; kind = letters k }) (record { talker = talker_bytes u; kind = letters l }) = cc in
    λ i. AnOther (talker-apart.one (λ j. (o j).talker) i) (kind-apart.one (λ j. (o j).kind) i)
record-one r q e = cc

-- a record is none of the refusals
answer-one : (r q : Result Record Refusal) → answer_of r ≡ answer_of q → r ≡ q
answer-one (Ok (ARmc x)) (Err y) e = cc
answer-one (Err y) (Ok (ARmc x)) e = cc
answer-one (Ok r) (Ok q) e = ap Ok (record-one r q e)
answer-one (Err r) (Err q) e = ap Err (refusal-apart.one cc)
answer-one r q e = cc

pub answer-apart : TellsApart answer_of
answer-apart = record { one = λ {x} {y}. answer-one x y }

formatter-one : (r q : Formatter) → formatter r ≡ formatter q → r ≡ q
formatter-one TypeRmc TypeRmc e = refl
formatter-one TypeGsa TypeGsa e = refl
formatter-one TypeGsv TypeGsv e = refl
formatter-one TypeGga TypeGga e = refl
formatter-one TypeGll TypeGll e = refl
formatter-one TypeVtg TypeVtg e = refl
formatter-one TypeOther TypeOther e = refl
formatter-one r q e = cc

formatter-apart : TellsApart formatter
formatter-apart = record { one = λ {x} {y}. formatter-one x y }

pub formatter-of : (kind : Kind) {r q : Formatter} → formatter r ≡ formatter_of (letters kind) → formatter q ≡ formatter_of (letters kind) → r ≡ q
formatter-of kind = tells formatter-apart

pub parse-bytes : (line : List ℕ) {r q : Result Record Refusal} → answer_of r ≡ answer line → answer_of q ≡ answer line → r ≡ q
parse-bytes line = tells answer-apart

pub parse-rmc : (line : List ℕ) {r q : Result Record Refusal} → answer_of r ≡ parse_as (bytes "RMC") line → answer_of q ≡ parse_as (bytes "RMC") line → r ≡ q
parse-rmc line = tells answer-apart

pub parse-gsa : (line : List ℕ) {r q : Result Record Refusal} → answer_of r ≡ parse_as (bytes "GSA") line → answer_of q ≡ parse_as (bytes "GSA") line → r ≡ q
parse-gsa line = tells answer-apart

pub parse-gsv : (line : List ℕ) {r q : Result Record Refusal} → answer_of r ≡ parse_as (bytes "GSV") line → answer_of q ≡ parse_as (bytes "GSV") line → r ≡ q
parse-gsv line = tells answer-apart

pub parse-gga : (line : List ℕ) {r q : Result Record Refusal} → answer_of r ≡ parse_as (bytes "GGA") line → answer_of q ≡ parse_as (bytes "GGA") line → r ≡ q
parse-gga line = tells answer-apart

pub parse-gll : (line : List ℕ) {r q : Result Record Refusal} → answer_of r ≡ parse_as (bytes "GLL") line → answer_of q ≡ parse_as (bytes "GLL") line → r ≡ q
parse-gll line = tells answer-apart

pub parse-vtg : (line : List ℕ) {r q : Result Record Refusal} → answer_of r ≡ parse_as (bytes "VTG") line → answer_of q ≡ parse_as (bytes "VTG") line → r ≡ q
parse-vtg line = tells answer-apart
