-- `count_line` meets its contract: the core takes the line without a table, and a GSV line's head goes on with the run of its row. Assumes nothing.
use Rattle.logs.proofs.Taken.{gsv-counted}
use Rattle.logs.proofs.walk.count_line.Goals as goal

pub returns : goal.returns
returns c =
    let t = c.taken_at-line in
    let a = c.in-Some in
    gsv-counted c.args.log.now c.args.at t.result.0 t.result.1 t.ensures a.gsv a.ensures c.count-outcome.ensures c.line_taken-2.ensures
