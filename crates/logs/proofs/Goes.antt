-- How a walk goes on: what holds whenever the loop is at its head, and why a turn keeps it: a turn of the code is one step of the walk.
-- Assumes nothing.
use Rattle.std.proofs.Common.{◌≡◌, ℕ, suc, ◌+◌, ◌-◌, ◌<◌, ◌≤◌, min, Bool, true, false, List, length, drop, sym, refl, ap, ◌∙◌, subst, arith}
use mathlib.Core.Option.{Option, none, some}
use Rattle.lines.specs.Lines.{lines}
use Rattle.lines.specs.Places.{is_place, line_at, next_place}
use Rattle.lines.proofs.Next.{next-within, next-more, next-place, lines-here, lines-end}
use Rattle.rows.specs.Line.{line_of}
use Rattle.gsv.specs.Gsv.{GsvSentence}
use Rattle.gather.proofs.Tables.{table-long}
use Rattle.fed.specs.Line.{said_of, accepted_gsv, Gatherer, Gathered, gathers}
use Rattle.fed.specs.Fed.{is_handed}
use Rattle.fed.proofs.Counts.{one-of-three}
use Rattle.logs.specs.declared.walk.Counts.{Counts}
use Rattle.logs.specs.declared.walk.LineTaken.{LineTaken}
use Rattle.logs.specs.Step.{longest, Stepped, step_at}
use Rattle.logs.specs.Walk.{tallied, grouped, Going, counted, onward, steps, begin}
use Rattle.logs.specs.Code.{tallied_by, Within, Takes}
use Rattle.logs.proofs.Places.{place-within}
use Rattle.logs.proofs.Adds.{by-sort}
use Rattle.logs.proofs.OneStep.{at-line, at-end}

-- the counts with a line more, and what it does to the gatherer
abbrev going_by : Counts → Gathered → Going
going_by c a = record { counts = grouped c (is_handed a.handed); gatherer = a.gatherer }

abbrev line_tallied : List ℕ → Counts → Counts
line_tallied log c = tallied c (said_of (line_at log c.next)) (next_place log c.next)

abbrev line_gathered : List ℕ → Going → Gathered
line_gathered log w = gathers w.gatherer (accepted_gsv (said_of (line_at log w.counts.next)))

-- a step at a line
abbrev pub going : List ℕ → Going → Going
going log w = going_by (line_tallied log w.counts) (line_gathered log w)

pub onward-line : (log : List ℕ) (w : Going) → (w.counts.next ≡ length log → ⊥) → onward (step_at log) w ≡ going log w
onward-line log w n = sym (ap (λ (s : Stepped). counted w s.gathered s.answer) (at-line log w.counts.next w.gatherer n))

-- and at the end
pub onward-end : (log : List ℕ) (w : Going) → w.counts.next ≡ length log → onward (step_at log) w ≡ w
onward-end log w e = sym (ap (λ (s : Stepped). counted w s.gathered s.answer) (at-end log w.counts.next w.gatherer e))

-- a group more changes neither the lines nor the place
grouped-next : (c : Counts) (b : Bool) → (grouped c b).next ≡ c.next
grouped-next c true = refl
grouped-next c false = refl

grouped-lines : (c : Counts) (b : Bool) → (grouped c b).lines ≡ c.lines
grouped-lines c true = refl
grouped-lines c false = refl

pub going-next : (log : List ℕ) (w : Going) → (going log w).counts.next ≡ next_place log w.counts.next
going-next log w = grouped-next (line_tallied log w.counts) (is_handed (line_gathered log w).handed)

-- the counts of a walk that stands within the log: every line is one of the three, and took a byte or more
pub record Fit (log : List ℕ) (c : Counts) : Type 0 where
  pub place : is_place log c.next ≡ true
  pub inside : c.next ≤ length log
  pub few : c.lines ≤ c.next
  pub sum : c.blank + c.accepted + c.refused ≡ c.lines
  pub handed : c.groups ≤ c.lines

fit-grouped : (log : List ℕ) (c : Counts) (b : Bool) → Fit log c → c.groups < c.lines → Fit log (grouped c b)
fit-grouped log c false f h = f
fit-grouped log c true f h = record { place = f.place; inside = f.inside; few = f.few; sum = f.sum; handed = omega arith }

fit-tallied : (log : List ℕ) (c : Counts) (b : Bool) → Fit log c → c.next < length log → Fit log (grouped (line_tallied log c) b)
fit-tallied log c b f h =
    let e = one-of-three (said_of (line_at log c.next)) in
    let m = next-more log c.next h in
    fit-grouped log (line_tallied log c) b
    (record { place = next-place log c.next (omega arith); inside = next-within log c.next; few = omega arith; sum = omega arith; handed = omega arith })
    (omega arith)

pub fit-within : (log : List ℕ) (c : Counts) → Fit log c → length log ≤ longest → Within c
fit-within log c f h = record { lines = omega arith; blank = omega arith; accepted = omega arith; refused = omega arith }

module _ (log : List ℕ) where
  -- as many steps as are left, or as the allowance has
  abbrev pub go_on : ℕ → Going → Going
  go_on n w = steps (step_at log) (min n (length (lines (drop w.counts.next log)))) w

  pub go-none : (n : ℕ) (w : Going) → n ≡ 0 → go_on n w ≡ w
  unfolding steps
  go-none n w e =
      let z : min n (length (lines (drop w.counts.next log))) ≡ 0 = omega arith in
      ap (λ (k : ℕ). steps (step_at log) k w) z

  pub go-end : (n : ℕ) (w : Going) → length log ≤ w.counts.next → go_on n w ≡ w
  unfolding steps
  go-end n w h =
      let l : length (lines (drop w.counts.next log)) ≡ 0 = ap length (lines-end log w.counts.next h) in
      let z : min n (length (lines (drop w.counts.next log))) ≡ 0 = omega arith in
      ap (λ (k : ℕ). steps (step_at log) k w) z

  pub go-more : (n : ℕ) (w : Going) → 0 < n → w.counts.next < length log → go_on n w ≡ go_on (n - 1) (going log w)
  unfolding steps
  go-more n w pos h =
      let p = w.counts.next in
      let l : length (lines (drop p log)) ≡ suc (length (lines (drop (next_place log p) log))) = ap length (lines-here log p h) in
      let z : min n (length (lines (drop p log))) ≡ suc (min (n - 1) (length (lines (drop (next_place log p) log)))) = omega arith in
      ap (λ (k : ℕ). steps (step_at log) k w) z
      ∙ ap (steps (step_at log) (min (n - 1) (length (lines (drop (next_place log p) log))))) (onward-line log w (λ q. omega arith))
      ∙ ap (λ (k : ℕ). steps (step_at log) (min (n - 1) (length (lines (drop k log)))) (going log w)) (sym (going-next log w))

-- the loop's invariant
pub record Goes (log : List ℕ) (place allowance : ℕ) (g : Gatherer) (c : Counts) (a : Gatherer) : Type 0 where
  pub short : length log ≤ longest
  pub fit : Fit log c
  pub within : c.lines ≤ allowance
  pub rows : length a ≡ length g
  pub same : go_on log allowance (begin place g) ≡ go_on log (allowance - c.lines) (record { counts = c; gatherer = a })

pub goes-first : (log : List ℕ) (place allowance : ℕ) (g : Gatherer) → length log ≤ longest → is_place log place ≡ true
    → Goes log place allowance g (begin place g).counts g
goes-first log place allowance g short h =
    let z : allowance ≡ allowance - 0 = omega arith in
    record {
      short = short;
      fit = record { place = h; inside = place-within log place h; few = omega arith; sum = refl; handed = omega arith };
      within = omega arith;
      rows = refl;
      same = ap (λ (k : ℕ). go_on log k (begin place g)) z;
    }

module _ (log : List ℕ) (place allowance : ℕ) (g : Gatherer) (c : Counts) (a : Gatherer) (now' : Goes log place allowance g c a)
    (more : c.lines < allowance) (in' : c.next < length log) where
  abbrev w : Going
  w = record { counts = c; gatherer = a }

  goes-on : (c' : Counts) (a' : Gatherer) → ◌≡◌ {A = Going} (record { counts = c'; gatherer = a' }) (going log w) → length a' ≡ length g
      → Goes log place allowance g c' a'
  goes-on c' a' e r =
      let b = is_handed (line_gathered log w).handed in
      let l : c'.lines ≡ c.lines + 1 = ap (λ (v : Going). v.counts.lines) e ∙ grouped-lines (line_tallied log c) b in
      let k : allowance - c.lines - 1 ≡ allowance - c'.lines = omega arith in
      let pos : 0 < allowance - c.lines = omega arith in
      record {
        short = now'.short;
        fit = subst (λ (v : Going). Fit log v.counts) (sym e) (fit-tallied log c b now'.fit in');
        within = omega arith;
        rows = r;
        same = now'.same
            ∙ go-more log (allowance - c.lines) w pos in'
            ∙ ap (go_on log (allowance - c.lines - 1)) (sym e)
            ∙ ap (λ (j : ℕ). go_on log j (record { counts = c'; gatherer = a' })) k;
      }

  -- a turn of the code is a step at a line
  module _ (a' : Gatherer) (t : LineTaken) (x : Takes log c.next a a' t) (u : Counts) (eu : u ≡ tallied_by c t.sort t.next) where
    right : u ≡ line_tallied log c
    right = eu ∙ (λ i. tallied_by c (x.sort i) (x.next i)) ∙ by-sort c (next_place log c.next) (said_of (line_at log c.next))

    pub few-groups : u.groups ≤ longest
    few-groups =
        let e : u.groups ≡ c.groups = ap (λ (y : Counts). y.groups) right in
        omega (arith, now'.short, now'.fit)

    module _ (c' : Counts) (ec : c' ≡ grouped u t.handed) where
      pub line-more : c'.lines ≡ c.lines + 1
      line-more = ap (λ (y : Counts). y.lines) ec ∙ grouped-lines u t.handed ∙ ap (λ (y : Counts). y.lines) right

      -- the place grows
      pub further : length log - c'.next < length log - c.next
      further =
          let e : u.next ≡ next_place log c.next = ap (λ (y : Counts). y.next) right in
          let z : c'.next ≡ u.next = ap (λ (y : Counts). y.next) ec ∙ grouped-next u t.handed in
          omega (arith, next-more log c.next in', next-within log c.next)

      pub after-turn : Goes log place allowance g c' a'
      after-turn =
          goes-on c' a' (λ i. record { counts = (ec ∙ (λ j. grouped (right j) (x.handed j))) i; gatherer = x.words i })
          (ap length x.words ∙ long (accepted_gsv (said_of (line_at log c.next))) ∙ now'.rows)
        where
          long : (f : Option GsvSentence) → length (gathers a f).gatherer ≡ length a
          long none = refl
          long (some s) = table-long a (line_of s)
