-- `nmea_gather` meets its contract: the line is taken, with its words and its row. Assumes nothing.
use Rattle.capi.proofs.Lending.{few-words, no-table, line-taken}
use Rattle.capi.proofs.lend.nmea_gather.Goals as goal

pub returns-then-out-lt-WORDS : goal.returns-then-out-lt-WORDS
returns-then-out-lt-WORDS c = let a = c.args in few-words a.line.now a.out.now a.table.now c.if-out-lt-WORDS.true

pub returns-then-table-ne-WORDS : goal.returns-then-table-ne-WORDS
returns-then-table-ne-WORDS c = let a = c.args in no-table a.line.now a.out.now a.table.now c.if-out-lt-WORDS.false c.if-table-ne-WORDS.true

pub returns : goal.returns
returns c =
    let a = c.args in
    let k = c.take in
    line-taken a.line.now a.out.now a.table.now _ _ k.result _ c.if-out-lt-WORDS.false c.if-table-ne-WORDS.false k.ensures c.taken_code.ensures
