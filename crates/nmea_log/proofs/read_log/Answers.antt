-- A read that brings bytes goes on where the one before it ended.
use Rattle.std.proofs.Common.{rules}
use Rattle.nmea_log.proofs.Behind.{behind}
use Rattle.nmea_log.proofs.read_log.Goals as goal

pub loop-done-preserved : goal.loop-done-preserved
loop-done-preserved g c =
    record {
      room = search rules;
      bytes = behind _ _ _ c.loop-done.done c.in_ok-n.n c.loop-done.space c.read.new.buf (search rules) (search rules) c.loop-done.invariant.bytes (c.in_ok-n.ensures.bytes.0);
    }
