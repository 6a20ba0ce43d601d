-- What each turn of the loop keeps: the cells that are left decide.
use Prim.Native.Nat.{◌-◌}
use mathlib.Core.Path.{◌≡◌}
use Rattle.gather.specs.Words.{sats_from}
use Rattle.gather.specs.Code.{all_within}
use Rattle.gather.proofs.lent.all_within.Given as goal

abbrev pub invariant-loop-i : goal.invariant-loop-i
invariant-loop-i l = all_within l.ids l.max (sats_from 0 l.count l.row) ≡ all_within l.ids l.max (sats_from l.i (l.count - l.i) l.row)
