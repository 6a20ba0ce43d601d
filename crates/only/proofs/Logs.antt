-- No second answer of `logs`, and no other words of a table that is lent. Assumes nothing.
use Rattle.std.specs.Prelude.{Option, Some, None, Result, Ok, Err}
use Rattle.std.proofs.Common.{◌≡◌, ℕ, Bool, List, length, refl, ap}
use Rattle.frame.specs.declared.refusal.Refusal.{Refusal}
use Rattle.lines.specs.Places.{is_place}
use Rattle.gather.specs.Table.{fresh_table}
use Rattle.gather.specs.declared.line.Outcome.{Outcome}
use Rattle.sentence.specs.Answer.{answer_of}
use Rattle.sentence.specs.declared.Record.{Record}
use Rattle.fed.specs.Line.{read, accepted_gsv}
use Rattle.logs.specs.Step.{step_of}
use Rattle.logs.specs.Walk.{walk_of}
use Rattle.logs.specs.Answer.{line_in, Follows, step_in, handed_in, SaysStep, walk_in, SaysWalk}
use Rattle.logs.specs.declared.step.Stepped.{Stepped}
use Rattle.logs.specs.declared.step.Stepped.TheVariants.{End, Line}
use Rattle.logs.specs.declared.walk.Counts.{Counts}
use Rattle.only.proofs.Laws.{same, TellsApart, tells}
use Rattle.only.proofs.Frame.{refusal-apart}
use Rattle.only.proofs.Sentence.{answer-apart}

line-one : (r q : Option (Result Record Refusal)) → line_in r ≡ line_in q → r ≡ q
line-one None None e = refl
line-one None (Some a) e = cc
line-one (Some a) None e = cc
line-one (Some a) (Some b) e = ap Some (answer-apart.one cc)

-- by its line and place, and what it says of the row
step-one : (r q : Result Stepped Refusal) → step_in r ≡ step_in q → handed_in r ≡ handed_in q → r ≡ q
step-one (Ok (End a)) (Ok (End b)) e h = cc
step-one (Ok (Line l o a)) (Ok (Line m p b)) e h =
    let s : l ≡ m = line-one l m cc in
    let n : a ≡ b = cc in
    λ i. Ok (Line (s i) (h i) (n i))
step-one (Err r) (Ok (End a)) e h = cc
step-one (Err r) (Err q) e h = ap Err (refusal-apart.one cc)
step-one r q e h = cc

walk-one : (r q : Result Counts Refusal) → walk_in r ≡ walk_in q → r ≡ q
walk-one (Ok c) (Ok d) e = cc
walk-one (Ok c) (Err r) e = cc
walk-one (Err r) (Ok c) e = cc
walk-one (Err r) (Err q) e = ap Err (refusal-apart.one cc)

walk-apart : TellsApart walk_in
walk-apart = record { one = λ {x} {y}. walk-one x y }

pub is-place : (log : List ℕ) (place : ℕ) {r q : Bool} → r ≡ is_place log place → q ≡ is_place log place → r ≡ q
is-place log place = same

pub follow : (answer : Result Record Refusal) (words : List ℕ) {l m : List ℕ} {r q : Outcome}
    → Follows (accepted_gsv (read (answer_of answer))) words l r
    → Follows (accepted_gsv (read (answer_of answer))) words m q
    → (r ≡ q) × (l ≡ m)
follow answer words x y = (same x.says y.says, same x.words y.words)

pub step : (log : List ℕ) (place : ℕ) (words : List ℕ) {l m : List ℕ} {r q : Result Stepped Refusal}
    → SaysStep (step_of log place words) l r
    → SaysStep (step_of log place words) m q
    → (r ≡ q) × (l ≡ m)
step log place words {r = r} {q} x y =
    let gathered = same x.gathered y.gathered in
    (step-one r q (same x.says y.says) (λ i. (gathered i).handed), λ i. (gathered i).gatherer)

pub walk : (log : List ℕ) (place allowance : ℕ) (words : List ℕ) {l m : List ℕ} {r q : Result Counts Refusal}
    → SaysWalk (walk_of log place allowance words) l r
    → SaysWalk (walk_of log place allowance words) m q
    → (r ≡ q) × (l ≡ m)
walk log place allowance words x y = (tells walk-apart x.says y.says, same x.gatherer y.gatherer)

pub totals : (log : List ℕ) {r q : Result Counts Refusal}
    → walk_in r ≡ (walk_of log 0 (length log) fresh_table).answer
    → walk_in q ≡ (walk_of log 0 (length log) fresh_table).answer
    → r ≡ q
totals log = tells walk-apart
