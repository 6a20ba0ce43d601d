-- `with_entries` meets its contract: four entries that may be absent. Assumes nothing.
use Rattle.std.specs.Prelude.{Ok}
use Rattle.text.proofs.Texts.{whole}
use Rattle.text.proofs.Finding.{finding}
use Rattle.gsv.specs.Gsv.{with_entries}
use Rattle.gsv.specs.Answer.{head_of, gsv_data}
use Rattle.gsv.proofs.with_entries.Goals as goal

pub returns : goal.returns
returns c = whole _ c.args.at (with_entries (head_of c.args.h)) gsv_data {r = Ok _} c.opt_entry-fourth.result.1 (search finding depth 14)
