-- `take_gsv` meets its contract: the head alone tells whether the sentence is accepted, since no entry makes it fail. Assumes nothing.
use native.Mathlib.Omega.{arith}
use Rattle.std.specs.Prelude.{◌≡◌, drop}
use mathlib.Core.Path.{ap, sym, ◌∙◌}
use Rattle.std.proofs.lemmas.Grind.{common_steps}
use Rattle.text.specs.Value.{Value}
use Rattle.frame.specs.Answer.{parts}
use Rattle.gsv.specs.Gsv.{Gsv}
use Rattle.gsv.specs.Answer.{talker, head_of, gsv_sentence}
use Rattle.gsv.specs.declared.GsvRecord.{GsvRecord}
use Rattle.gsv.proofs.Heads.{filled, no-head, behind-head}
use Rattle.answer.specs.Sentence.{or_refused, as_gsv, gsv_of, is_gsv}
use Rattle.intake.specs.Brief.{brief_of}
use Rattle.intake.proofs.take_gsv.Goals as goal

pub returns-in_err-head : goal.returns-in_err-head
returns-in_err-head c = let h = no-head c.do_parse_head.ensures c.in_err-head.was in grind (arith, common_steps, h)

pub returns-then-not-wanted : goal.returns-then-not-wanted
returns-then-not-wanted c =
    let f = filled (head_of c.in_ok-head.head) (drop c.in_ok-head.at c.data-data.result.now) in
    let h = f.reads ∙ behind-head c.do_parse_head.ensures c.in_ok-head.was in
    grind (arith, common_steps, h)

pub returns : goal.returns
returns c =
    let f = filled (head_of c.in_ok-head.head) (drop c.in_ok-head.at c.data-data.result.now) in
    let h = c.with_entries.ensures ∙ behind-head c.do_parse_head.ensures c.in_ok-head.was in
    let g : GsvRecord = record { talker = c.in-Some.talker; «data» = c.with_entries.result } in
    let e : is_gsv (gsv_sentence g) ≡ gsv_of (parts c.args.line.now c.args.x) = grind (arith, common_steps, h) in
    rw (← e)
    (record {
      says = ap (λ (v : Value Gsv). brief_of (or_refused (as_gsv (talker c.in-Some.talker)) v)) (f.reads ∙ sym c.with_entries.ensures);
      words = c.put_gsv.ensures;
      table = c.gather-outcome.ensures.words;
      handed = c.gather-outcome.ensures.says;
    })
