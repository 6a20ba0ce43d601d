-- What each turn of the loop keeps: the bytes that are left are read on from the number so far.
use Prim.Native.Nat.{◌+◌, ◌≤◌}
use mathlib.Core.Path.{◌≡◌}
use lib.ListN.{drop}
use lib.Seq.{slice}
use Rattle.text.specs.Number.{fixed, up_to}
use Rattle.text.proofs.Fixed.{go_on}
use Rattle.text.proofs.fixed_width.Given as goal

abbrev pub invariant-loop-i : goal.invariant-loop-i
invariant-loop-i g l =
    let end = l.at + g.row.N in
    (l.value ≤ 255) × (fixed g.row.N 255 (drop l.at l.s) ≡ up_to 255 (go_on l.value (slice l.i end l.s)) (drop end l.s))
