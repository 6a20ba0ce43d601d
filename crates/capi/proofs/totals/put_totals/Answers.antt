-- `put_totals` meets its contract: five words are stored one after the other. Assumes nothing.
use Rattle.std.proofs.Common.{arith, length-set}
use Rattle.capi.proofs.Walks.{five-stored}
use Rattle.capi.proofs.totals.put_totals.Goals as goal

pub bounds-out-1 : goal.bounds-out-1
bounds-out-1 c = simp length-set (omega arith)

pub bounds-out-2 : goal.bounds-out-2
bounds-out-2 c = simp length-set (omega arith)

pub bounds-out-3 : goal.bounds-out-3
bounds-out-3 c = simp length-set (omega arith)

pub returns : goal.returns
returns c = five-stored c.args.out.now _ _ _ _ _ c.requires
