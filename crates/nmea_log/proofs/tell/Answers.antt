-- The pieces of the line are those of the format.
use Rattle.std.proofs.Common.{append_assoc}
use Rattle.nmea_log.proofs.tell.Goals as goal

pub returns-in-Ok : goal.returns-in-Ok
returns-in-Ok g c = rw (← c.in-Ok.ensures) (simp append_assoc c.writeln.ensures.bytes)
