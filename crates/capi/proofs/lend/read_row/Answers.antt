-- `read_row` meets its contract: head, entries and zeros, one behind the other. Assumes nothing.
use Rattle.capi.proofs.Lending.{too-many, all-read}
use Rattle.capi.proofs.lend.read_row.Goals as goal

pub returns-then-count-gt-CELLS : goal.returns-then-count-gt-CELLS
returns-then-count-gt-CELLS c = too-many c.args.number c.args.row.now c.args.out.now c.requires.room c.if-count-gt-CELLS.true

pub returns : goal.returns
returns c = all-read c.args.number c.args.row.now c.args.out.now c.requires.room _ _ _ c.if-count-gt-CELLS.false c.put_head.ensures c.put_entries.ensures c.put_zeros.ensures
