-- A line has at most four entries. Assumes nothing.
use Prim.Native.Nat.{suc, ◌≤◌}
use native.Mathlib.Omega.{arith}
use mathlib.Core.List.{List, []}
use mathlib.Core.Option.{Option, none, some}
use lib.ListN.{length}
use Rattle.gsv.specs.Gsv.{Satellite, Gsv, keep, present}

kept : (o : Option Satellite) (es : List Satellite) → length (keep o es) ≤ suc (length es)
kept none es = omega arith
kept (some s) es = omega arith

pub at-most-four : (g : Gsv) → length (present g) ≤ 4
at-most-four g =
    omega (
      arith,
      kept g.first (keep g.second (keep g.third (keep g.fourth []))),
      kept g.second (keep g.third (keep g.fourth [])),
      kept g.third (keep g.fourth []),
      kept g.fourth [],
    )
