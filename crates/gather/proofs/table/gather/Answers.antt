-- `gather` meets its contract: the part that is lent is the row of the line's source. Assumes nothing.
use mathlib.Core.Path.{ap, ◌∙◌}
use Rattle.gsv.specs.Answer.{gsv_sentence}
use Rattle.rows.specs.Key.{Source, source_of, row_from}
use Rattle.rows.specs.Line.{line_of}
use Rattle.gather.proofs.Tables.{row-below, gathers}
use Rattle.gather.proofs.table.gather.Goals as goal

pub returns : goal.returns
returns c =
    let mine = c.row_of-key.ensures ∙ ap (λ (s : Source). row_from s) c.source_of.ensures in
    let s = gsv_sentence c.args.line in
    gathers c.args.table.now (line_of s) c.row_of-key.result _ _ mine (row-below (source_of s)) c.if-table-ne-WORDS.false c.put.ensures
