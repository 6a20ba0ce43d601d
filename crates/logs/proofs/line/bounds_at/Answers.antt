-- `bounds_at` meets its contract: the cut is before a carriage return, and the next line behind the line feed. Assumes nothing.
use Rattle.logs.proofs.AtPlace.{next-right}
use Rattle.logs.proofs.line.bounds_at.Goals as goal

pub returns : goal.returns
returns c =
    record {
      cut = c.line_cut-cut.ensures;
      next = next-right c.args.log.now c.args.at c.line_end-end.result c.line_next-next.result c.requires c.line_end-end.ensures c.line_next-next.ensures;
    }
