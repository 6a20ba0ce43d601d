-- `put_entries` meets its contract. The loop's invariant: the first `i` entries are put. Assumes nothing.
use Rattle.capi.proofs.Lending.{one-entry}
use Rattle.capi.proofs.lend.put_entries.Goals as goal

pub loop-i-preserved : goal.loop-i-preserved
loop-i-preserved c =
    let a = c.args in
    let w = c.loop-i in
    one-entry a.out.now w.out _ a.row.now w.i w.invariant c.put_entry.ensures
