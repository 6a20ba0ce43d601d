-- 01, "Framing": "the XOR of talker, type, comma and data".
use Rattle.std.specs.Prelude.{ℕ}
use Rattle.frame.specs.Refused.{Refused}
use Rattle.frame.specs.Frame.{Outcome, accepted, calculated}
use Rattle.frame.specs.Frame.{refused as barred}

-- what a line's checksum should be, or why the line is refused
pub data Sum : Type 0 where
  comes_to : ℕ → Sum
  refused : Refused → Sum

abbrev pub sum_in : Outcome → Sum
sum_in (accepted p) = comes_to (calculated p)
sum_in (barred why) = refused why
