-- `taken_code` meets its contract: a GSV line's row is that of its talker's source. Assumes nothing.
use Rattle.std.proofs.Common.{arith}
use Rattle.gather.specs.Answer.{source}
use Rattle.gather.proofs.Tables.{row-below}
use Rattle.capi.proofs.lend.taken_code.Goals as goal

pub row_code-requires : goal.row_code-requires
row_code-requires c = omega (arith, c.row_of-row.ensures, row-below (source c.source_of.result))
