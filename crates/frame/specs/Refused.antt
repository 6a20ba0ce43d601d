-- The table of 01, "Refusal numbers": each refusal's number, and the values that it carries, letters as bytes.
use Rattle.std.specs.Prelude.{ℕ, List, [], ◌∷◌, ◌++◌}
use Rattle.text.specs.Reader.{Fault, UnknownType, Number, BadTime}

pub record Refused : Type 0 where
  pub number : ℕ
  pub carries : List ℕ

abbrev refusal : ℕ → List ℕ → Refused
refusal n vs = record { number = n; carries = vs }

abbrev pub bad_utf8 : Refused
bad_utf8 = refusal 1 []

abbrev pub not_ascii : Refused
not_ascii = refusal 2 []

-- the length
abbrev pub too_long : ℕ → Refused
too_long n = refusal 3 (n ∷ [])

abbrev pub syntax_error : Refused
syntax_error = refusal 4 []

abbrev pub unknown_type : Refused
unknown_type = refusal 5 []

-- calculated, found
abbrev pub bad_checksum : ℕ → ℕ → Refused
bad_checksum c f = refusal 6 (c ∷ f ∷ [])

-- the two bytes
abbrev pub unknown_talker : List ℕ → Refused
unknown_talker t = refusal 7 t

-- the talker's, the tail's
abbrev pub system_mismatch : ℕ → ℕ → Refused
system_mismatch a b = refusal 8 (a ∷ b ∷ [])

abbrev pub bad_number : Refused
bad_number = refusal 9 []

-- expected, found
abbrev pub wrong_header : List ℕ → List ℕ → Refused
wrong_header e f = refusal 10 (e ++ f)

abbrev pub bad_time : Refused
bad_time = refusal 11 []

-- the length
abbrev pub log_too_long : ℕ → Refused
log_too_long n = refusal 12 (n ∷ [])

-- the place
abbrev pub bad_place : ℕ → Refused
bad_place p = refusal 13 (p ∷ [])

-- what a reader ends in at once
abbrev pub faulted : Fault → Refused
faulted UnknownType = unknown_type
faulted Number = bad_number
faulted BadTime = bad_time
