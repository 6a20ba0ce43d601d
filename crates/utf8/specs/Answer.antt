-- What each state of the code means.
use Rattle.std.specs.Prelude.{[], ◌∷◌}
use Rattle.std.proofs.Math.Option.{none, some}
use Rattle.utf8.specs.Rfc3629.{utf8_tail}
use Rattle.utf8.specs.Utf8.{State}
use Rattle.utf8.specs.declared.Utf8.{Utf8}
use Rattle.utf8.specs.declared.Utf8.TheVariants.{Whole, Broken, Tail1, Tail2, Tail3, AfterE0, AfterED, AfterF0, AfterF4}

-- the ranges of the octets that must come next: what is left of a row of RFC 3629, section 4
abbrev pub pending : Utf8 → State
pending Whole = some []
pending Broken = none
pending Tail1 = some (utf8_tail ∷ [])
pending Tail2 = some (utf8_tail ∷ utf8_tail ∷ [])
pending Tail3 = some (utf8_tail ∷ utf8_tail ∷ utf8_tail ∷ [])
pending AfterE0 = some ((0xA0, 0xBF) ∷ utf8_tail ∷ [])
pending AfterED = some ((0x80, 0x9F) ∷ utf8_tail ∷ [])
pending AfterF0 = some ((0x90, 0xBF) ∷ utf8_tail ∷ utf8_tail ∷ [])
pending AfterF4 = some ((0x80, 0x8F) ∷ utf8_tail ∷ utf8_tail ∷ [])
