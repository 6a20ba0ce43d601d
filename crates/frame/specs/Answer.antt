-- What each answer of the code says.
use Rattle.std.specs.Prelude.{ℕ, ◌+◌, List, [], ◌∷◌, cond, leb, length, Result, Ok, Err}
use Rattle.std.proofs.Math.Seq.{slice}
use Rattle.text.specs.declared.Fault.{Fault}
use Rattle.text.specs.declared.Fault.TheVariants.{NoMatch, UnknownType, Number, BadTime}
use Rattle.frame.specs.Refused.{Refused, bad_utf8, not_ascii, too_long, syntax_error, unknown_type, bad_checksum, unknown_talker, system_mismatch, bad_number, wrong_header, bad_time, log_too_long, bad_place}
use Rattle.frame.specs.Frame.{Parts, Outcome, accepted}
use Rattle.frame.specs.Frame.{refused as refusal}
use Rattle.frame.specs.declared.refusal.Talker.{Talker}
use Rattle.frame.specs.declared.refusal.Kind.{Kind}
use Rattle.frame.specs.declared.refusal.Refusal.{Refusal}
use Rattle.frame.specs.declared.refusal.Refusal.TheVariants as variant
use Rattle.frame.specs.declared.sentence.Sentence.{Sentence}

abbrev pub talker_bytes : Talker → List ℕ
talker_bytes t = t.0 ∷ t.1 ∷ []

abbrev pub letters : Kind → List ℕ
letters k = k.0 ∷ k.1 ∷ k.2 ∷ []

-- 01's table, case by case
abbrev pub refused : Refusal → Refused
refused variant.BadUtf8 = bad_utf8
refused variant.NotAscii = not_ascii
refused (variant.TooLong n) = too_long n
refused variant.Syntax = syntax_error
refused variant.UnknownType = unknown_type
refused (variant.Checksum c f) = bad_checksum c f
refused (variant.UnknownTalker t) = unknown_talker (talker_bytes t)
refused (variant.SystemMismatch a b) = system_mismatch a b
refused variant.Number = bad_number
refused (variant.WrongHeader e f) = wrong_header (letters e) (letters f)
refused variant.BadTime = bad_time
refused (variant.LogTooLong n) = log_too_long n
refused (variant.BadPlace p) = bad_place p

abbrev pub number_of : Refusal → ℕ
number_of r = (refused r).number

-- a reader's fault, at the top: no match is Syntax
abbrev pub refusal_of : Fault → Refusal
refusal_of NoMatch = variant.Syntax
refusal_of UnknownType = variant.UnknownType
refusal_of Number = variant.Number
refusal_of BadTime = variant.BadTime

-- a sentence of the line `s`
abbrev pub parts : List ℕ → Sentence → Parts
parts s x =
    record { talker = talker_bytes x.talker; kind = letters x.kind; checksum = x.checksum; from = x.from; to = x.to; text = slice x.from x.to s }

-- the data's part of a text; empty where the range does not lie in it
abbrev pub data_of : Sentence → List ℕ → List ℕ
data_of x s = cond (leb x.to (length s)) (slice x.from x.to s) []

-- what a reader of the code found, and the next place
abbrev pub field : ℕ → ℕ → ℕ × ℕ
field at v = (v, at + 3)

abbrev pub talker_at : ℕ → Talker → List ℕ × ℕ
talker_at at t = (talker_bytes t, at + 2)

abbrev pub kind_at : ℕ → Kind → List ℕ × ℕ
kind_at at k = (letters k, at + 3)

abbrev pub read : List ℕ → Sentence → Parts × ℕ
read s x = (parts s x, x.to + 3)

abbrev pub framed : List ℕ → Result Sentence Refusal → Outcome
framed s (Ok x) = accepted (parts s x)
framed s (Err r) = refusal (refused r)
