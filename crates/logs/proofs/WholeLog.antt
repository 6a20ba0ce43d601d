-- A walk of the whole log: an allowance of as many lines as bytes takes every line, since each has a byte, and comes to the log's end. So its
-- counts are those of all lines, and its groups those that the definition hands out. Assumes nothing.
use Rattle.std.proofs.Common.{◌≡◌, ℕ, zero, suc, ◌-◌, ◌≤◌, List, [], ◌∷◌, length, drop, sym, refl, ap, ◌∙◌, subst, arith, drop_of_length-le, take_all}
use lib.ListN.{length-map}
use Rattle.lines.specs.Lines.{lines}
use Rattle.lines.specs.Places.{rest}
use Rattle.lines.proofs.Split.{first-line, no-lines}
use Rattle.lines.proofs.Few.{at-most-bytes}
use Rattle.groups.specs.Log.{Handed}
use Rattle.groups.specs.Group.{HandedOut}
use Rattle.groups.specs.Count.{Many}
use Rattle.gsv.specs.Gsv.{Satellite}
use Rattle.gather.specs.Table.{fresh_table}
use Rattle.fed.specs.Line.{LogLine, said_of, said_all, is_blank, is_accepted, is_refusal, Gatherer}
use Rattle.fed.specs.Fed.{how_many, gathered, groups_of}
use Rattle.fed.proofs.Groups.{groups-counted}
use Rattle.logs.specs.declared.walk.Counts.{Counts}
use Rattle.logs.specs.Step.{longest}
use Rattle.logs.specs.Walk.{Going, went, Walked, gone, walk_of}
use Rattle.logs.specs.Totals.{behind, said, totals}
use Rattle.logs.specs.Told.{says, told}
use Rattle.logs.proofs.Places.{place-zero}
use Rattle.logs.proofs.Limit.{walk-totals, not-barred}

-- all lines of the log
abbrev pub whole_of : List ℕ → Gatherer → Going
whole_of log g =
    record {
      counts = record {
        lines = length (lines log);
        blank = how_many is_blank (says log);
        accepted = how_many is_accepted (says log);
        refused = how_many is_refusal (says log);
        groups = groups_of g (says log);
        next = length log;
      };
      gatherer = gathered g (says log);
    }

-- behind as many lines as there are nothing is left
behind-lines : (n : ℕ) (l : List ℕ) → lines (behind n l) ≡ drop n (lines l)
unfolding rest
behind-lines zero l = refl
behind-lines (suc n) [] = behind-lines n [] ∙ ap (drop n) no-lines ∙ sym (ap (drop (suc n)) no-lines ∙ nothing n)
  where
    nothing : (n : ℕ) → ◌≡◌ {A = List (List ℕ)} (drop (suc n) []) (drop n [])
    nothing zero = refl
    nothing (suc n) = refl
behind-lines (suc n) (b ∷ l) = behind-lines n (rest (b ∷ l)) ∙ sym (ap (drop (suc n)) (first-line (b ∷ l) (omega arith)))

no-text : (l : List ℕ) → lines l ≡ [] → l ≡ []
no-text [] e = refl
no-text (b ∷ l) e = let z = ap length (sym e ∙ first-line (b ∷ l) (omega arith)) in absurd (omega arith)

module _ (log : List ℕ) where
  module _ (n : ℕ) (enough : length (lines log) ≤ n) where
    all-said : said log 0 n ≡ says log
    all-said = ap said_all (take_all n (lines log) enough)

    nothing-left : length log - length (behind n log) ≡ length log
    nothing-left =
        let e = ap length (no-text (behind n log) (behind-lines n log ∙ drop_of_length-le (lines log) enough)) in
        omega arith

    all-totals : (g : Gatherer) → totals log 0 n g ≡ whole_of log g
    unfolding totals
    all-totals g = λ i.
        let ss : List LogLine = all-said i in
        record {
          counts = record {
            lines = (ap length all-said ∙ length-map (lines log) said_of) i;
            blank = how_many is_blank ss;
            accepted = how_many is_accepted ss;
            refused = how_many is_refusal ss;
            groups = groups_of g ss;
            next = nothing-left i;
          };
          gatherer = gathered g ss;
        }

    -- THE THEOREM: with such an allowance a walk takes every line
    pub whole-walk : length log ≤ longest → (g : Gatherer) → walk_of log 0 n g ≡ gone (whole_of log g)
    whole-walk short g = walk-totals log short 0 n g (place-zero log 0 refl) ∙ ap gone (all-totals g)

  -- and with as many lines as bytes, as `totals` walks
  pub whole-log : length log ≤ longest → (g : Gatherer) → walk_of log 0 (length log) g ≡ gone (whole_of log g)
  whole-log = whole-walk (length log) (at-most-bytes log)

  -- THE THEOREM: the groups of the log's totals are the indices of lines at which the definition hands one out
  pub whole-groups : (c : Counts) → (walk_of log 0 (length log) fresh_table).answer ≡ went c
      → Many (λ i. (h : Handed Satellite) × HandedOut (told log) i h) c.groups
  whole-groups c e =
      let (short, _) = not-barred log 0 (length log) fresh_table c e in
      let q : went (whole_of log fresh_table).counts ≡ went c = ap (λ (w : Walked). w.answer) (sym (whole-log short fresh_table)) ∙ e in
      let z : (whole_of log fresh_table).counts ≡ c = cc in
      subst (λ (d : Counts). Many (λ i. (h : Handed Satellite) × HandedOut (told log) i h) d.groups) z (groups-counted (lines log))
