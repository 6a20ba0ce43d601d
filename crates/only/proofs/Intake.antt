-- No second answer of `intake`: neither another word, nor another row, nor another brief answer. Assumes nothing.
use Rattle.std.specs.Prelude.{Option, Some, None, Result, Ok, Err}
use Rattle.std.proofs.Common.{◌≡◌, ℕ, List, refl, ap}
use Rattle.frame.specs.declared.refusal.Refusal.{Refusal}
use Rattle.gsv.specs.Answer.{talker, head_of}
use Rattle.answer.specs.Sentence.{answer}
use Rattle.intake.specs.Answer.{brief, outcome_of, Takes}
use Rattle.intake.specs.declared.GsvLine.{GsvLine}
use Rattle.only.proofs.Laws.{same}
use Rattle.only.proofs.Frame.{refusal-apart}
use Rattle.only.proofs.Gsv.{talker-apart, head-apart}

-- by what is said in brief, and of the row
taken-one : (r q : Result (Option GsvLine) Refusal) → brief r ≡ brief q → outcome_of r ≡ outcome_of q → r ≡ q
taken-one (Ok None) (Ok None) b o = refl
taken-one (Ok (Some g)) (Ok (Some h)) b o =
    let t : talker g.talker ≡ talker h.talker = cc in
    let e : head_of g.head ≡ head_of h.head = cc in
    λ i. Ok (Some (record { talker = talker-apart.one t i; head = head-apart.one e i; outcome = o i }))
taken-one (Err r) (Ok None) b o = cc
taken-one (Err r) (Err q) b o = ap Err (refusal-apart.one cc)
taken-one r q b o = cc

pub take : (line out table : List ℕ) {l m : List ℕ} {t u : List ℕ} {r q : Result (Option GsvLine) Refusal}
    → Takes (answer line) out l table t r
    → Takes (answer line) out m table u q
    → (r ≡ q) × (l ≡ m) × (t ≡ u)
take line out table {r = r} {q} x y =
    (taken-one r q (same x.says y.says) (same x.handed y.handed), same x.words y.words, same x.table y.table)
