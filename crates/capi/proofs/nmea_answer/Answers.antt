-- `nmea_answer` meets its contract: without room nothing is written, else the words of the answer are. Assumes nothing.
use Rattle.capi.proofs.Says.{no-room, written}
use Rattle.capi.proofs.nmea_answer.Goals as goal

pub returns-then-out-lt-WORDS : goal.returns-then-out-lt-WORDS
returns-then-out-lt-WORDS c = let a = c.args in no-room a.line.now a.out.now c.if-out-lt-WORDS.true

pub returns : goal.returns
returns c = let a = c.args in written a.line.now a.out.now _ c.if-out-lt-WORDS.false c.take.ensures.words
