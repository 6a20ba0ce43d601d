-- What each turn of the loops keeps: the cells that are left decide.
use Prim.Native.Nat.{◌-◌, ◌*◌}
use mathlib.Core.Path.{◌≡◌}
use Rattle.gather.specs.Words.{sats_from}
use Rattle.gather.specs.Code.{all_within, short_max}
use Rattle.gather.proofs.lent.all_short.Given as goal

abbrev pub invariant-loop-line : goal.invariant-loop-line
invariant-loop-line l = all_within short_max short_max (sats_from 0 l.count l.row) ≡ all_within short_max short_max (sats_from (l.line * 4) (l.count - l.line * 4) l.row)

abbrev pub invariant-loop-i : goal.invariant-loop-i
invariant-loop-i l = all_within short_max short_max (sats_from 0 l.count l.row) ≡ all_within short_max short_max (sats_from l.i (l.count - l.i) l.row)
