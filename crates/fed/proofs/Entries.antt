-- A group that is handed out has at most 36 entries: a run has at most nine lines, and each line at most four. Assumes nothing.
use Prim.Native.Nat.{ℕ, zero, suc, ◌*◌, ◌≤◌}
use native.Mathlib.Omega.{arith}
use mathlib.Core.Path.{ap, subst}
use mathlib.Core.Bool.{Bool, true, false}
use mathlib.Core.List.{List, [], ◌∷◌, ◌++◌}
use mathlib.Core.Option.{Option, none, some}
use lib.Dec.{eqb}
use lib.ListN.{length, take, length-append}
use Rattle.groups.specs.Log.{Gsv, Handed, own, keep, entries}
use Rattle.groups.specs.Group.{HandedOut}
use Rattle.groups.specs.Left.{All}
use Rattle.gsv.specs.Gsv.{Satellite, GsvSentence}
use Rattle.gsv.proofs.Present.{at-most-four}
use Rattle.rows.specs.Key.{key_of}
use Rattle.rows.specs.Line.{line_of}
use Rattle.fed.specs.Line.{LogLine, accepted_gsv}
use Rattle.fed.specs.Seen.{seen, seen_of}

abbrev Four : Gsv Satellite → Type 0
Four g = length g.sats ≤ 4

-- each accepted GSV line has at most four
lines-four : (κ n : ℕ) (ss : List LogLine) → All Four (own κ (take n (seen_of ss)))
lines-four κ zero ss = tt
lines-four κ (suc n) [] = tt
lines-four κ (suc n) (s ∷ ss) = go (accepted_gsv s) (lines-four κ n ss)
  where
    kept : (b : Bool) (x : GsvSentence) (gs : List (Gsv Satellite)) → All Four gs → All Four (keep b (line_of x) gs)
    kept true x gs a = (at-most-four x.body, a)
    kept false x gs a = a

    go : (f : Option GsvSentence) → All Four (own κ (take n (seen_of ss))) → All Four (own κ (seen f ∷ take n (seen_of ss)))
    go none a = a
    go (some x) a = kept (eqb (key_of x) κ) x (own κ (take n (seen_of ss))) a

last-four : (a b : List (Gsv Satellite)) → All Four (a ++ b) → All Four b
last-four [] b h = h
last-four (g ∷ a) b h = last-four a b h.1

entries-few : (gs : List (Gsv Satellite)) → All Four gs → length (entries gs) ≤ length gs * 4
entries-few [] h = omega arith
entries-few (g ∷ gs) h = omega (arith, h.0, length-append g.sats (entries gs), entries-few gs h.1)

-- THE THEOREM
pub at-most-36 : (ss : List LogLine) (i : ℕ) (h : Handed Satellite) → HandedOut (seen_of ss) i h → length h.group.sats ≤ 36
at-most-36 ss i h d =
    let e = d.ends in
    let four : All Four e.run = last-four e.earlier e.run (subst (All Four) e.lasts (lines-four h.key (suc i) ss)) in
    omega (arith, entries-few e.run four, ap length e.sats, e.whole.long, e.whole.high)
