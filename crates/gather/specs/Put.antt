-- What an accepted GSV line does to the words of its row, to the last word, and what it says.
use Rattle.std.specs.Prelude.{ℕ, ◌+◌, ◌≡◌, List, [], ◌∷◌, cond, eqb, length, set}
use Rattle.std.proofs.Math.Option.{Option, none, some}
use Rattle.std.proofs.lemmas.List.Edits.{sets}
use Rattle.groups.specs.Log.{Gsv, Group}
use Rattle.groups.specs.Step.{Open, Out, sofar, step}
use Rattle.gsv.specs.Gsv.{Satellite}
use Rattle.gather.specs.Words.{row_words, cell_at, flat, meant}
use Rattle.gather.specs.declared.line.Outcome.{Outcome}
use Rattle.gather.specs.declared.line.Outcome.TheVariants.{NoRow, Nothing, Waiting, Complete}

-- the number that is waited for; none behind the last
abbrev pub next_of : Gsv Satellite → ℕ
next_of g = cond (eqb g.number g.n) 0 (g.number + 1)

-- a line that breaks a run sets `next` to 0, and no other word; one that starts or goes on writes its own cells and the head
abbrev pub written : List ℕ → Gsv Satellite → Option (List Satellite) → List ℕ
written ws g none = set ws 1 0
written ws g (some es) =
    sets (sets ws (cell_at (length es)) (flat g.sats)) 0
    (g.n ∷ next_of g ∷ g.view ∷ (length es + length g.sats) ∷ [])

-- words that are no row stand unchanged
abbrev pub row_after : List ℕ → Gsv Satellite → List ℕ
row_after ws g = cond (eqb (length ws) row_words) (written ws g (sofar (meant ws) g)) ws

abbrev pub told_by : Option (Group Satellite) → Option (Open Satellite) → Outcome
told_by (some p) r = Complete
told_by none (some o) = Waiting
told_by none none = Nothing

abbrev pub told : Out Satellite → Outcome
told o = told_by o.group o.row

abbrev pub outcome_of : List ℕ → Gsv Satellite → Outcome
outcome_of ws g = cond (eqb (length ws) row_words) (told (step (meant ws) g)) NoRow

pub record Put (ws ws' : List ℕ) (g : Gsv Satellite) (r : Outcome) : Type 0 where
  pub words : ws' ≡ row_after ws g
  pub says : r ≡ outcome_of ws g
