-- `row_stands` meets its contract: short entries are only counted, by `Quick`. Assumes nothing.
use mathlib.Core.Path.{sym, ◌∙◌}
use Rattle.gather.proofs.Tests.{failed, passed}
use Rattle.gather.proofs.Quick.{may-stand, no-run, many-fails, short-stands, unreadable, exact}
use Rattle.gather.proofs.lent.row_stands.Goals as goal

pub returns-then-not-stands : goal.returns-then-not-stands
returns-then-not-stands c = no-run c.args.row.now (failed _ _ c.stands.ensures c.if-not-stands.true)

pub returns-then-count-gt-CELLS : goal.returns-then-count-gt-CELLS
returns-then-count-gt-CELLS c = many-fails c.args.row.now c.if-count-gt-CELLS.true

pub returns-then-all_short : goal.returns-then-all_short
returns-then-all_short c =
    let head = may-stand c.args.row.now c.if-row-ne-ROW.false (passed _ _ c.stands.ensures c.if-not-stands.false) c.if-run-gt-COUNT_MAX.false in
    short-stands _ head (sym c.all_short.ensures ∙ c.if-all_short.true)

pub returns-then-not-all_within : goal.returns-then-not-all_within
returns-then-not-all_within c =
    let head = may-stand c.args.row.now c.if-row-ne-ROW.false (passed _ _ c.stands.ensures c.if-not-stands.false) c.if-run-gt-COUNT_MAX.false in
    unreadable _ head (failed _ _ c.all_within.ensures c.if-not-all_within.true)

pub returns : goal.returns
returns c =
    let head = may-stand c.args.row.now c.if-row-ne-ROW.false (passed _ _ c.stands.ensures c.if-not-stands.false) c.if-run-gt-COUNT_MAX.false in
    exact _ _ head (passed _ _ c.all_within.ensures c.if-not-all_within.false) c.pieces-k.ensures
