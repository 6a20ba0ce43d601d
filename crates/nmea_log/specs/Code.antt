-- For the code, not for a reader of the scope.
use Rattle.std.specs.Prelude.{ℕ, List, Option}
use Rattle.std.specs.Io.KnownBytes.{Keeps}
use Rattle.nmea_log.specs.declared.Failure.{Failure}
use Rattle.nmea_log.specs.declared.Failure.TheVariants.{Input, Output}

-- where a read failed, nothing is written
abbrev pub TellsNothing : Failure → Option (List ℕ) → Option (List ℕ) → Type 0
TellsNothing (Input why) old new = Keeps old new
TellsNothing (Output why) old new = Unit {0}
