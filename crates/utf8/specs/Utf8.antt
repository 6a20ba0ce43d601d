-- The grammar of RFC 3629, section 4, read from left to right: a state, a step for each octet, and the test of a whole text.
use Rattle.std.specs.Prelude.{ℕ, List, [], ◌∷◌, Bool, true, false, cond, ◌&&◌, leb, ltb}
use Rattle.std.proofs.Math.Option.{Option, none, some}
use Rattle.utf8.specs.Rfc3629.{Range, utf8_char}

-- none: broken; else the ranges of the octets that must come before the next character, which is what is left of a row of UTF8-char
abbrev pub State : Type 0
State = Option (List Range)

-- whether an octet lies in a range
abbrev pub within : Range → ℕ → Bool
within r b = leb r.0 b && leb b r.1

-- what is left of the row that the octet begins: the first of the rows whose first range has it
unfoldable pub follow : List (List Range) → ℕ → State
follow [] b = none
follow ([] ∷ rows) b = follow rows b
follow ((r ∷ rs) ∷ rows) b = cond (within r b) (some rs) (follow rows b)

-- the state after one octet more, which begins a row of UTF8-char or is the next of the row begun
unfoldable pub step : State → ℕ → State
step none b = none
step (some []) b = follow utf8_char b
step (some (r ∷ rs)) b = cond (within r b) (some rs) none

-- the state after the octets of a text
unfoldable pub after : State → List ℕ → State
after st [] = st
after st (b ∷ l) = after (step st b) l

-- whether no row is left open: only whole characters so far
abbrev pub may_end : State → Bool
may_end none = false
may_end (some []) = true
may_end (some (r ∷ rs)) = false

-- whether a text is UTF8-octets; `proofs/Grammar.antt` shows that it is this and nothing else
abbrev pub utf8 : List ℕ → Bool
utf8 l = may_end (after (some []) l)

-- whether a text is US-ASCII: each octet is a UTF8-1, %x00-7F
unfoldable pub ascii : List ℕ → Bool
ascii [] = true
ascii (b ∷ l) = ltb b 0x80 && ascii l
