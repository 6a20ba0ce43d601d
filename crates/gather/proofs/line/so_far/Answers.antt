-- `so_far` meets its contract: a line that goes on with a row that stands has the row's entries before it. Assumes nothing.
use Rattle.gather.proofs.Tests.{passed}
use Rattle.gather.proofs.Runs.{goes}
use Rattle.gather.proofs.line.so_far.Goals as goal

pub returns : goal.returns
returns c =
    let h = c.args.head in
    goes c.args.row.now h.count h.index h.view c.if-head-eq1.false (passed _ _ c.runs.ensures c.if-not-runs.false)
    (passed _ _ c.row_stands.ensures c.if-not-row_stands.false)
