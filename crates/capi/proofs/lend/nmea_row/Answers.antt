-- `nmea_row` meets its contract: the part that is read is the row. Assumes nothing.
use Rattle.std.proofs.Common.{◌≡◌, ◌+◌, ◌-◌, ◌*◌, take, drop, arith}
use Rattle.capi.proofs.Lending.{few-row-words, no-row-table, no-such-row, row-taken}
use Rattle.capi.proofs.lend.nmea_row.Goals as goal

pub returns-then-out-lt-ROW_WORDS : goal.returns-then-out-lt-ROW_WORDS
returns-then-out-lt-ROW_WORDS c = let a = c.args in few-row-words a.table.now a.row a.out.now c.if-out-lt-ROW_WORDS.true

pub returns-then-table-ne-WORDS : goal.returns-then-table-ne-WORDS
returns-then-table-ne-WORDS c = let a = c.args in no-row-table a.table.now a.row a.out.now c.if-out-lt-ROW_WORDS.false c.if-table-ne-WORDS.true

pub returns-then-row-ge-ROWS : goal.returns-then-row-ge-ROWS
returns-then-row-ge-ROWS c =
    let a = c.args in
    no-such-row a.table.now a.row a.out.now c.if-out-lt-ROW_WORDS.false c.if-table-ne-WORDS.false c.if-row-ge-ROWS.true

pub returns : goal.returns
returns c =
    let a = c.args in
    let z : a.row * 148 + 148 - a.row * 148 ≡ 148 = omega arith in
    row-taken a.table.now a.row a.out.now _ _ _ c.if-out-lt-ROW_WORDS.false c.if-table-ne-WORDS.false c.if-row-ge-ROWS.false
    (λ j. take (z j) (drop (a.row * 148) a.table.now)) c.read_row.ensures
