-- `put` meets its contract: what `Runs` has for a line that starts a run or goes on with one. Assumes nothing.
use Prim.Native.Nat.{◌+◌}
use native.Mathlib.Omega.{arith}
use mathlib.Core.Path.{◌≡◌}
use Rattle.gsv.specs.Answer.{gsv_sentence}
use Rattle.gsv.proofs.Present.{at-most-four}
use Rattle.rows.specs.Line.{line_of}
use Rattle.gather.proofs.Runs.{begun, waits}
use Rattle.gather.proofs.line.put.Goals as goal
use Rattle.gather.proofs.line.put.Goals.{then-complete, else-complete}

pub put_slots-count-requires-clause-cells : goal.put_slots-count-requires-clause-cells
put_slots-count-requires-clause-cells c =
    omega (arith, (begun c.args.row.now (line_of (gsv_sentence c.args.line)) c.if-row-ne-ROW.false c.in-Some.before c.in-Some.ensures).few)

pub overflow_cast-row : goal.overflow_cast-row
overflow_cast-row c =
    let s = gsv_sentence c.args.line in
    omega (arith, (begun c.args.row.now (line_of s) c.if-row-ne-ROW.false c.in-Some.before c.in-Some.ensures).few, c.put_slots-count.ensures.count, at-most-four s.body)

pub returns-else-complete-2 : goal.returns-else-complete-2
returns-else-complete-2 c =
    let g = line_of (gsv_sentence c.args.line) in
    let x = begun c.args.row.now g c.if-row-ne-ROW.false c.in-Some.before c.in-Some.ensures in
    let next : c.if-complete.row ≡ c.args.line.data.index + 1 = elim c.if-complete.branch [ then-complete w ↦ absurd (c.if-complete-2.false w.if-complete.true) | else-complete w ↦ w.row-is ] in
    waits c.args.row.now g c.if-row-ne-ROW.false x c.put_slots-count.ensures c.if-complete-2.false next
