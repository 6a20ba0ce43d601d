-- THE LIMIT: of a log that is not too long, the steps that `step` answers from a place on are the steps of any log, and a walk is as many of
-- them as it may take. What is proved of logs of any length so holds of both. Assumes nothing.
use Rattle.std.proofs.Common.{◌≡◌, ℕ, zero, suc, ◌+◌, ◌≤◌, min, Bool, true, false, cond, ltb, List, length, drop, sym, refl, ap, ◌∙◌, subst, arith, ltb-false, le-ltb}
use Rattle.frame.specs.Refused.{log_too_long, bad_place}
use Rattle.lines.specs.Lines.{lines}
use Rattle.lines.specs.Places.{is_place}
use Rattle.gather.specs.Table.{fresh_table}
use Rattle.fed.specs.Line.{Gatherer}
use Rattle.fed.proofs.Counts.{every-line}
use Rattle.logs.specs.declared.walk.Counts.{Counts}
use Rattle.logs.specs.Step.{longest, end, Stepped, idle, step_at, step_of}
use Rattle.logs.specs.Walk.{Going, counted, onward, steps, begin, barred, went, Walked, gone, walk_of}
use Rattle.logs.specs.Told.{after, step_after}
use Rattle.logs.specs.Totals.{said, totals}
use Rattle.logs.proofs.Places.{place-zero, place-end}
use Rattle.logs.proofs.OneStep.{at-end, good-place}
use Rattle.logs.proofs.Goes.{go_on}
use Rattle.logs.proofs.Sums.{on-top, sums}
use Rattle.logs.proofs.Again.{steps-add, onward-place, enough}

module _ (log : List ℕ) (short : length log ≤ longest) where
  one-step : (w : Going) → is_place log w.counts.next ≡ true → onward (step_of log) w ≡ onward (step_at log) w
  one-step w e = sym (ap (λ (s : Stepped). counted w s.gathered s.answer) (good-place log w.counts.next w.gatherer short e))

  -- where k steps have come
  record Come (k : ℕ) (w : Going) : Type 0 where
    same : steps (step_of log) k w ≡ steps (step_at log) k w
    place : is_place log (steps (step_at log) k w).counts.next ≡ true

  come : (k : ℕ) (w : Going) → is_place log w.counts.next ≡ true → Come k w
  unfolding steps
  come zero w e = record { same = refl; place = e }
  come (suc k) w e =
      let r = come k (onward (step_at log) w) (onward-place log w e) in
      record { same = ap (steps (step_of log) k) (one-step w e) ∙ r.same; place = r.place }

  -- THE THEOREM: what `step` answers after i steps from place 0 is what the theorems on logs of any length speak of
  pub as-answered : (i : ℕ) → after (step_of log) i ≡ step_after i log
  as-answered i =
      let r = come i (begin 0 fresh_table) (place-zero log 0 refl) in
      let w = steps (step_at log) i (begin 0 fresh_table) in
      ap (λ (v : Going). step_of log v.counts.next v.gatherer) r.same
      ∙ sym (good-place log w.counts.next w.gatherer short r.place)

  -- THE THEOREM: at the length a step answers End, and place and gatherer are unchanged
  pub step-at-end : (g : Gatherer) → step_of log (length log) g ≡ idle (end (length log)) g
  step-at-end g = sym (at-end log (length log) g refl ∙ good-place log (length log) g short (place-end log (length log) refl))

  module _ (p n : ℕ) (g : Gatherer) (e : is_place log p ≡ true) where
    pub walk-is : walk_of log p n g ≡ gone (go_on log n (begin p g))
    unfolding walk_of
    walk-is =
        simp (le-ltb longest (length log) short, e)
        (ap gone (come (min n (length (lines (drop p log)))) (begin p g) e).same)

    -- THE THEOREM: where it is not refused, a walk answers the totals of the smaller of its allowance and the lines left
    pub walk-totals : walk_of log p n g ≡ gone (totals log p n g)
    walk-totals = walk-is ∙ ap gone (sums log p n g e)

    -- THE THEOREM: a walk is as many steps as its allowance, each counted: those at the end change nothing
    pub walk-steps : walk_of log p n g ≡ gone (steps (step_of log) n (begin p g))
    walk-steps = walk-is ∙ ap gone (enough log n (begin p g) e ∙ sym (come n (begin p g) e).same)

module _ (log : List ℕ) (p n : ℕ) (g : Gatherer) (c : Counts) (e : (walk_of log p n g).answer ≡ went c) where
  -- where it answers counts, neither the log nor the place was refused
  pub not-barred : (length log ≤ longest) × (is_place log p ≡ true)
  unfolding walk_of
  not-barred = go (ltb longest (length log)) (is_place log p) refl refl _ e
    where
      go : (t u : Bool) → ltb longest (length log) ≡ t → is_place log p ≡ u → (w : Walked)
          → (cond t (record { answer = barred (log_too_long (length log)); gatherer = g }) (cond u w (record { answer = barred (bad_place p); gatherer = g }))).answer
          ≡ went c
          → (length log ≤ longest) × (is_place log p ≡ true)
      go true u et eu w q = let z : ◌≡◌ {A = ℕ} 0 1 = cc in absurd (omega arith)
      go false true et eu w q = (ltb-false longest (length log) et, eu)
      go false false et eu w q = let z : ◌≡◌ {A = ℕ} 0 1 = cc in absurd (omega arith)

  -- the counts are the totals of the lines that it took
  pub counts-are : (totals log p n g).counts ≡ c
  counts-are =
      let q : went (totals log p n g).counts ≡ went c = ap (λ (w : Walked). w.answer) (sym (walk-totals log not-barred.0 p n g not-barred.1)) ∙ e in
      cc

  -- THE THEOREM: its lines are the sum of blank, accepted and refused
  pub walk-lines : c.lines ≡ c.blank + c.accepted + c.refused
  unfolding totals
  walk-lines = subst (λ (d : Counts). d.lines ≡ d.blank + d.accepted + d.refused) counts-are (sym (every-line (said log p n)))

-- the counts of two walks, the second from where the first came
abbrev pub added : Counts → Counts → Counts
added c d =
    record {
      lines = c.lines + d.lines;
      blank = c.blank + d.blank;
      accepted = c.accepted + d.accepted;
      refused = c.refused + d.refused;
      groups = c.groups + d.groups;
      next = d.next;
    }

-- THE THEOREM: the counts of a walk, and of one that goes on from its next place with its gatherer, add to those of one walk over both
pub walks-add : (log : List ℕ) (p m k : ℕ) (g : Gatherer) (c d : Counts) → (walk_of log p m g).answer ≡ went c
    → (walk_of log c.next k (walk_of log p m g).gatherer).answer ≡ went d
    → walk_of log p (m + k) g ≡ record { answer = went (added c d); gatherer = (walk_of log c.next k (walk_of log p m g).gatherer).gatherer }
unfolding totals
walks-add log p m k g c d ec ed =
    let (short, place) = not-barred log p m g c ec in
    let a = (walk_of log p m g).gatherer in
    let (_, there) = not-barred log c.next k a d ed in
    let v = steps (step_at log) m (begin p g) in
    let w : Going = record { counts = c; gatherer = a } in
    let first : walk_of log p m g ≡ gone v = walk-is log short p m g place ∙ ap gone (enough log m (begin p g) place) in
    let second : walk_of log c.next k a ≡ gone (totals log c.next k a) = walk-totals log short c.next k a there in
    let vc : v.counts ≡ c = went-same (sym (ap (λ (x : Walked). x.answer) first) ∙ ec) in
    let va : v.gatherer ≡ a = sym (ap (λ (x : Walked). x.gatherer) first) in
    walk-is log short p (m + k) g place
    ∙ ap gone (enough log (m + k) (begin p g) place ∙ steps-add (step_at log) m k (begin p g))
    ∙ (λ i. gone (steps (step_at log) k (record { counts = vc i; gatherer = va i })))
    ∙ ap gone (sym (enough log k w there) ∙ on-top log k w there)
    ∙ (λ i. record { answer = went (added c (counts-are log c.next k a d ed i)); gatherer = sym (ap (λ (x : Walked). x.gatherer) second) i })
  where
    went-same : {x y : Counts} → went x ≡ went y → x ≡ y
    went-same q = cc
