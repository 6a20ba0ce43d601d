-- `take_gsa` meets its contract: the count and the cells of a record are the words of its satellites. Assumes nothing.
use native.Mathlib.Omega.{arith}
use Rattle.std.specs.Prelude.{◌≡◌, List, ℕ}
use mathlib.Core.Path.{refl, ap, ◌∙◌}
use Rattle.std.proofs.lemmas.Grind.{common_steps}
use Rattle.frame.specs.Answer.{parts}
use Rattle.answer.specs.Sentence.{gsa_of, is_gsa}
use Rattle.words.specs.Answer.{gsa_sentence}
use Rattle.words.specs.Words.{into}
use Rattle.words.proofs.Cells.{gsa_as_put}
use Rattle.intake.proofs.take_gsa.Goals as goal

pub returns-in-Ok : goal.returns-in-Ok
returns-in-Ok c =
    let d = c.with_system-data.result in
    let e : is_gsa (gsa_sentence c.args.x.talker d) ≡ gsa_of (parts c.args.line.now c.args.x) = grind (arith, common_steps) in
    rw (← e)
    (λ t. record {
      says = refl;
      words = c.put_gsa.ensures ∙ ap (λ (ws : List ℕ). into ws c.args.out.now) (gsa_as_put c.args.x.talker d);
      table = refl;
      handed = refl;
    })
