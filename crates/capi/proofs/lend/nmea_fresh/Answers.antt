-- `nmea_fresh` meets its contract: a table's words are filled with zeros. Assumes nothing.
use Rattle.capi.proofs.Lending.{all-cleared, not-cleared}
use Rattle.capi.proofs.lend.nmea_fresh.Goals as goal

pub returns-then-table-ne-WORDS : goal.returns-then-table-ne-WORDS
returns-then-table-ne-WORDS c = not-cleared c.args.table.now c.if-table-ne-WORDS.true

pub returns : goal.returns
returns c = all-cleared c.args.table.now c.fill.new.self c.if-table-ne-WORDS.false (c.fill.ensures.after (λ y h. h))
