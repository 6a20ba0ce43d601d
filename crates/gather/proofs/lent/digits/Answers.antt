-- `digits` meets its contract: a digit more than the power of ten has zeros. Assumes nothing.
use Rattle.std.proofs.Common.{rules}
use Rattle.gather.proofs.Greedy.{counted}
use Rattle.gather.proofs.lent.digits.Goals as goal

pub returns : goal.returns
returns c =
    let p = c.checked_ilog10.ensures in
    counted c.args.x c.map_or.result c.checked_ilog10.result _ (λ k e. search rules) p.none p.power_le p.next_power_gt p.bound c.map_or.ensures
