-- From place 0 and a fresh gatherer, and for a log of any length, steps feed the gatherer the log's lines one by one: so a step answers the next line, and hands out a group
-- exactly where the definition says. Assumes nothing.
use Rattle.std.proofs.Common.{◌≡◌, ℕ, zero, suc, ◌-◌, ◌<◌, ◌≤◌, true, ◌↔◌, List, [], ◌∷◌, length, get_or, take, drop, sym, refl, ap, ◌∙◌, subst, ⊎_elim, arith, length-drop, drop-cons}
use mathlib.Core.Option.{Option, some}
use lib.ListN.{length-map, get_or-map}
use Rattle.lines.specs.Lines.{lines}
use Rattle.lines.specs.Places.{is_place, line_at, next_place}
use Rattle.lines.proofs.Next.{next-place, lines-here, lines-end}
use Rattle.groups.specs.Log.{Handed}
use Rattle.groups.specs.Group.{HandedOut}
use Rattle.gsv.specs.Gsv.{Satellite}
use Rattle.gather.specs.Table.{fresh_table}
use Rattle.fed.specs.Line.{LogLine, blank, said_of, said_all, accepted_gsv, Gatherer, gathers}
use Rattle.fed.specs.Seen.{given_by, given_at}
use Rattle.fed.specs.Fed.{gathered, fed_at}
use Rattle.fed.proofs.Handing.{hands-list}
use Rattle.logs.specs.Step.{Stepped, line, step_at}
use Rattle.logs.specs.Walk.{Going, begin, steps}
use Rattle.logs.specs.Told.{says, told, step_after, line_in, gsv_in, Gives}
use Rattle.logs.proofs.Places.{place-within, place-zero}
use Rattle.logs.proofs.OneStep.{at-line}
use Rattle.logs.proofs.Sums.{upto}
use Rattle.logs.proofs.Goes.{going, going-next, onward-line}

-- where i steps from w have come, at v
record Came (log : List ℕ) (w : Going) (i : ℕ) (v : Going) : Type 0 where
  place : is_place log v.counts.next ≡ true
  left : lines (drop v.counts.next log) ≡ drop i (lines (drop w.counts.next log))
  holding : v.gatherer ≡ gathered w.gatherer (take i (said_all (lines (drop w.counts.next log))))

module _ (log : List ℕ) where
  -- where a line is left, the log has not ended
  not-ended : (p : ℕ) → 0 < length (lines (drop p log)) → p < length log
  not-ended p h = ⊎_elim (λ k. k) (λ k. let e = ap length (lines-end log p k) in absurd (omega arith)) (upto p (length log))

  one-further : (i : ℕ) (w v : Going) → w.counts.next < length log → Came log (going log w) i v → Came log w (suc i) v
  one-further i w v h c =
      let p = w.counts.next in
      let n : lines (drop (going log w).counts.next log) ≡ lines (drop (next_place log p) log) = ap (λ (k : ℕ). lines (drop k log)) (going-next log w) in
      record {
        place = c.place;
        left = c.left ∙ ap (drop i) n ∙ sym (ap (drop (suc i)) (lines-here log p h));
        holding = c.holding
            ∙ ap (λ (ls : List (List ℕ)). gathered (going log w).gatherer (take i (said_all ls))) n
            ∙ sym (ap (λ (ls : List (List ℕ)). gathered w.gatherer (take (suc i) (said_all ls))) (lines-here log p h));
      }

  came : (i : ℕ) (w : Going) → is_place log w.counts.next ≡ true → i ≤ length (lines (drop w.counts.next log)) → Came log w i (steps (step_at log) i w)
  unfolding steps
  came zero w e h = record { place = e; left = refl; holding = refl }
  came (suc i) w e h =
      let p = w.counts.next in
      let in' : p < length log = not-ended p (omega arith) in
      let e' : is_place log (going log w).counts.next ≡ true = ap (is_place log) (going-next log w) ∙ next-place log p (place-within log p e) in
      let n : length (lines (drop (going log w).counts.next log)) ≡ length (lines (drop (next_place log p) log)) = ap (λ (k : ℕ). length (lines (drop k log))) (going-next log w) in
      let l : length (lines (drop p log)) ≡ suc (length (lines (drop (next_place log p) log))) = ap length (lines-here log p in') in
      subst (λ (v : Going). Came log w (suc i) (steps (step_at log) i v)) (sym (onward-line log w (λ q. omega arith)))
      (one-further i w (steps (step_at log) i (going log w)) in' (came i (going log w) e' (omega arith)))

module _ (log : List ℕ) (i : ℕ) (within : i < length (says log)) where
  -- where the walk has come
  abbrev there : Going
  there = steps (step_at log) i (begin 0 fresh_table)

  enough : i < length (lines log)
  enough = omega (arith, length-map (lines log) said_of)

  reached : Came log (begin 0 fresh_table) i there
  reached = came log i (begin 0 fresh_table) (place-zero log 0 refl) (omega (arith, enough))

  still : there.counts.next < length log
  still =
      let e : length (lines (drop there.counts.next log)) ≡ length (lines log) - i = ap length reached.left ∙ length-drop i (lines log) in
      not-ended log there.counts.next (omega (arith, enough))

  -- the line there is the i-th
  its-line : line_at log there.counts.next ≡ get_or (lines log) i []
  its-line =
      let e : line_at log there.counts.next ∷ lines (drop (next_place log there.counts.next) log) ≡ get_or (lines log) i [] ∷ drop (suc i) (lines log) =
      sym (lines-here log there.counts.next still) ∙ reached.left ∙ drop-cons (lines log) i [] enough in
      cc

  its-said : said_of (line_at log there.counts.next) ≡ get_or (says log) i blank
  its-said = ap said_of its-line ∙ sym (get_or-map said_of (lines log) i [])

  by-step : step_after i log
      ≡ record {
        answer = line (said_of (line_at log there.counts.next)) (next_place log there.counts.next);
        gathered = gathers there.gatherer (accepted_gsv (said_of (line_at log there.counts.next)));
      }
  by-step =
      let s = still in
      sym (at-line log there.counts.next there.gatherer (λ q. omega arith))

  -- THE THEOREM: it answers the line behind the i lines that the steps before it answered
  pub says-line : line_in (step_after i log).answer ≡ some (get_or (says log) i blank)
  says-line = ap (λ (s : Stepped). line_in s.answer) by-step ∙ ap (λ (s : LogLine). some s) its-said

  -- THE THEOREM: it does what that line does to a gatherer that is fed the log's lines
  pub feeds-line : (step_after i log).gathered ≡ fed_at (says log) i
  feeds-line =
      ap (λ (s : Stepped). s.gathered) by-step
      ∙ ap (λ (g : Gatherer). gathers g (accepted_gsv (said_of (line_at log there.counts.next)))) reached.holding
      ∙ ap (λ (s : LogLine). gathers (gathered fresh_table (take i (says log))) (accepted_gsv s)) its-said

  its-given : given_by (gsv_in (step_after i log).answer) (step_after i log).gathered ≡ given_at (says log) i
  its-given =
      ap (λ (s : Stepped). given_by (gsv_in s.answer) s.gathered) by-step
      ∙ (λ j. given_by (accepted_gsv (its-said j)) (gathers (reached.holding j) (accepted_gsv (its-said j))))

  -- THE THEOREM: so it hands out a group exactly where the definition says
  pub hands-out : (h : Handed Satellite) → Gives (step_after i log) h ↔ HandedOut (told log) i h
  hands-out h =
      subst (λ (a : Option (Handed Satellite)). (a ≡ some h) ↔ HandedOut (told log) i h) (sym its-given) (hands-list (lines log) i h)
