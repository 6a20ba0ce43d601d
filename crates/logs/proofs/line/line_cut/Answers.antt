-- `line_cut` meets its contract: the line is its stretch, without the carriage return that stands at its end. Assumes nothing.
use Rattle.std.proofs.Common.{arith}
use Rattle.lines.proofs.Next.{long-within}
use Rattle.lines.proofs.Scan.{cut-empty, cut-cr, cut-plain}
use Rattle.logs.proofs.line.line_cut.Goals as goal

pub returns-then-end-at : goal.returns-then-end-at
returns-then-end-at c =
    let a = c.args in
    record {
      after = omega arith;
      within = omega (arith, long-within a.log.now a.at c.requires.within, c.requires);
      line = cut-empty a.log.now a.at a.end c.requires.at_end c.if-end-at.true;
    }

pub bounds-log-end : goal.bounds-log-end
bounds-log-end c =
    let a = c.args in
    omega (arith, long-within a.log.now a.at c.requires.within, c.requires)

pub returns-then-log-end-eq13 : goal.returns-then-log-end-eq13
returns-then-log-end-eq13 c =
    let a = c.args in
    record {
      after = omega arith;
      within = omega (arith, long-within a.log.now a.at c.requires.within, c.requires);
      line = cut-cr a.log.now a.at a.end c.requires.at_end c.if-end-at.false c.if-log-end-eq13.true;
    }

pub returns : goal.returns
returns c =
    let a = c.args in
    record {
      after = omega arith;
      within = omega (arith, long-within a.log.now a.at c.requires.within, c.requires);
      line = cut-plain a.log.now a.at a.end c.requires.at_end c.if-end-at.false c.if-log-end-eq13.false;
    }
