-- No second answer of `frame`. A refusal is determined by its number and what it carries, and a framed line by its outcome.
-- Assumes nothing.
use Rattle.std.specs.Prelude.{Result, Ok, Err}
use Rattle.std.proofs.Common.{◌≡◌, ℕ, Bool, List, get_or, refl, ap}
use Rattle.std.proofs.Math.Seq.{slice}
use Rattle.text.specs.Bytes.{byte}
use Rattle.text.specs.Reader.{until}
use Rattle.text.specs.Answer.{Finds, part}
use Rattle.text.specs.declared.Fault.{Fault}
use Rattle.frame.specs.Types.{types, listed}
use Rattle.frame.specs.Checksum as Checksum
use Rattle.frame.specs.Frame.{checksum_field, frame, data_in}
use Rattle.frame.specs.Answer.{talker_bytes, letters, refused, number_of, parts, data_of, field, framed}
use Rattle.frame.specs.declared.refusal.Talker.{Talker}
use Rattle.frame.specs.declared.refusal.Kind.{Kind}
use Rattle.frame.specs.declared.refusal.Refusal.{Refusal}
use Rattle.frame.specs.declared.refusal.Refusal.TheVariants as variant
use Rattle.frame.specs.declared.sentence.Sentence.{Sentence}
use Rattle.only.proofs.Laws.{same, TellsApart, tells, part-apart, finds}

pub talker-apart : TellsApart talker_bytes
talker-apart = record { one = λ e i. (get_or (e i) 0 0, get_or (e i) 1 0) }

pub kind-apart : TellsApart letters
kind-apart = record { one = λ e i. (get_or (e i) 0 0, get_or (e i) 1 0, get_or (e i) 2 0) }

-- by its number, and what it carries
refusal-one : (r q : Refusal) → number_of r ≡ number_of q → (refused r).carries ≡ (refused q).carries → r ≡ q
refusal-one variant.BadUtf8 variant.BadUtf8 n c = refl
refusal-one variant.NotAscii variant.NotAscii n c = refl
refusal-one (variant.TooLong a) (variant.TooLong b) n c = cc
refusal-one variant.Syntax variant.Syntax n c = refl
refusal-one variant.UnknownType variant.UnknownType n c = refl
refusal-one (variant.Checksum a f) (variant.Checksum b g) n c = cc
refusal-one (variant.UnknownTalker t) (variant.UnknownTalker u) n c = ap variant.UnknownTalker (talker-apart.one c)
refusal-one (variant.SystemMismatch a f) (variant.SystemMismatch b g) n c = cc
refusal-one variant.Number variant.Number n c = refl
refusal-one (variant.WrongHeader a f) (variant.WrongHeader b g) n c =
    λ i.
    variant.WrongHeader (get_or (c i) 0 0, get_or (c i) 1 0, get_or (c i) 2 0) (get_or (c i) 3 0, get_or (c i) 4 0, get_or (c i) 5 0)
refusal-one variant.BadTime variant.BadTime n c = refl
refusal-one (variant.LogTooLong a) (variant.LogTooLong b) n c = cc
refusal-one (variant.BadPlace a) (variant.BadPlace b) n c = cc
refusal-one r q n c = cc

pub refusal-apart : TellsApart refused
refusal-apart = record { one = λ {x} {y} e. refusal-one x y (ap (λ r. r.number) e) (ap (λ r. r.carries) e) }

framed-one : (s : List ℕ) (r q : Result Sentence Refusal) → framed s r ≡ framed s q → r ≡ q
framed-one s (Ok x) (Ok y) e =
    let p : parts s x ≡ parts s y = cc in
    ap Ok (λ i. record { talker = talker-apart.one (λ j. (p j).talker) i; kind = kind-apart.one (λ j. (p j).kind) i; checksum = (p i).checksum; from = (p i).from; to = (p i).to })
framed-one s (Ok x) (Err r) e = cc
framed-one s (Err r) (Ok x) e = cc
framed-one s (Err r) (Err q) e = ap Err (refusal-apart.one cc)

framed-apart : (s : List ℕ) → TellsApart (framed s)
framed-apart s = record { one = λ {x} {y}. framed-one s x y }

field-apart : (at : ℕ) → TellsApart (field at)
field-apart at = record { one = λ e i. (e i).0 }

pub Refusal-number : (self : Refusal) {r q : ℕ} → r ≡ number_of self → q ≡ number_of self → r ≡ q
Refusal-number self = same

pub Sentence-new : (talker : Talker) (kind : Kind) (checksum from to : ℕ) {r q : Sentence}
    → r ≡ record { talker = talker; kind = kind; checksum = checksum; from = from; to = to }
    → q ≡ record { talker = talker; kind = kind; checksum = checksum; from = from; to = to }
    → r ≡ q
Sentence-new talker kind checksum from to = same

-- the answer is a part of the caller's bytes: the contract fixes the bytes, and not which of several equal parts they stand in
pub Sentence-data : (self : Sentence) (s : List ℕ) {r q : List ℕ} → r ≡ data_of self s → q ≡ data_of self s → r ≡ q
Sentence-data self s = same

pub known : (kind : Kind) {r q : Bool} → r ≡ listed types (letters kind) → q ≡ listed types (letters kind) → r ≡ q
known kind = same

pub star : (s : List ℕ) (at : ℕ) {r q : Result ℕ Fault} → Finds s at (until (byte "*")) (part s at) r → Finds s at (until (byte "*")) (part s at) q → r ≡ q
star s at = finds (part-apart s at)

pub checksum : (s : List ℕ) (from to : ℕ) {r q : ℕ} → r ≡ Checksum.checksum (slice from to s) → q ≡ Checksum.checksum (slice from to s) → r ≡ q
checksum s from to = same

pub checksum-field : (s : List ℕ) (at : ℕ) {r q : Result ℕ Fault} → Finds s at checksum_field (field at) r → Finds s at checksum_field (field at) q → r ≡ q
checksum-field s at = finds (field-apart at)

pub parse-nmea-sentence : (s : List ℕ) {r q : Result Sentence Refusal} → framed s r ≡ frame s → framed s q ≡ frame s → r ≡ q
parse-nmea-sentence s = tells (framed-apart s)

-- here too the contract fixes the bytes
pub data-of : (line : List ℕ) {r q : List ℕ} → r ≡ data_in (frame line) → q ≡ data_in (frame line) → r ≡ q
data-of line = same
