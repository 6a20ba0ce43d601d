-- What each turn of the loop keeps.
use Prim.Native.Nat.{◌-◌}
use mathlib.Core.Path.{◌≡◌}
use lib.ListN.{length}
use Rattle.short.specs.Digits.{digits_of}
use Rattle.gather.proofs.Greedy.{Small, Packing}
use Rattle.gather.proofs.lent.pieces.Given as goal

abbrev pub invariant-loop-i : goal.invariant-loop-i
invariant-loop-i l = record {
  space : l.room ≡ 88 - length (digits_of l.view);
  small : Small l.i l.p;
  packed : Packing l.room l.row l.count l.i l.p;
}
