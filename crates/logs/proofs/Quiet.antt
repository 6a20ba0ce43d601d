-- 01, demand 1: "a refusal hands back no record and no group; .. the gatherer stand[s] as before". A step changes the gatherer at an accepted
-- GSV line alone. Assumes nothing.
use Rattle.std.proofs.Common.{◌≡◌, ℕ, Bool, true, false, cond, eqb, ltb, List, [], ◌∷◌, length, refl, ap}
use mathlib.Core.Option.{none}
use Rattle.utf8.specs.Utf8.{after, ascii}
use Rattle.text.specs.Reader.{◌>>=◌, char}
use Rattle.frame.specs.Refused.{Refused, log_too_long, bad_place}
use Rattle.frame.specs.Frame.{sentence, sized, frame}
use Rattle.answer.specs.Sentence.{is_refused, answer}
use Rattle.lines.specs.Places.{is_place, line_at, next_place}
use Rattle.fed.specs.Line.{LogLine, blank, read, said_of, accepted_gsv, Gatherer, untouched, gathers}
use Rattle.logs.specs.Step.{longest, Step, refused, end, line, Stepped, idle, step_at, step_of}

-- a step's answer that is no accepted GSV line
abbrev pub NoGsv : Step → Type 0
NoGsv (refused r) = Unit {0}
NoGsv (end p) = Unit {0}
NoGsv (line s p) = accepted_gsv s ≡ none

pub quiet : (log : List ℕ) (p : ℕ) (g : Gatherer) → NoGsv (step_of log p g).answer → (step_of log p g).gathered ≡ untouched g
unfolding step_of step_at
quiet log p g = go (ltb longest (length log)) (is_place log p) (eqb p (length log))
  where
    s : LogLine
    s = said_of (line_at log p)

    here : Stepped
    here = record { answer = line (said_of (line_at log p)) (next_place log p); gathered = gathers g (accepted_gsv (said_of (line_at log p))) }

    go : (a b c : Bool)
        → NoGsv
        (cond a (idle (refused (log_too_long (length log))) g) (cond b (cond c (idle (end p) g) here) (idle (refused (bad_place p)) g))).answer
        → (cond a (idle (refused (log_too_long (length log))) g) (cond b (cond c (idle (end p) g) here) (idle (refused (bad_place p)) g))).gathered
        ≡ untouched g
    go true b c n = refl
    go false true true n = refl
    go false true false n = ap (gathers g) n
    go false false c n = refl

-- a refused line is such an answer, and so is a blank one
pub refused-line : (r : Refused) → accepted_gsv (read (is_refused r)) ≡ none
refused-line r = refl

pub blank-line : accepted_gsv blank ≡ none
blank-line = refl

-- who reads a blank line too is answered a refusal: it does as little
pub blank-or-read : (l : List ℕ) → accepted_gsv (read (answer l)) ≡ accepted_gsv (said_of l)
unfolding answer frame sized sentence ◌>>=◌ char after ascii
blank-or-read [] = refl
blank-or-read (b ∷ l) = refl
