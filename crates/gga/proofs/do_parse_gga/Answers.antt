-- `do_parse_gga` meets its contract: the two parts, one after another. Assumes nothing.
use Rattle.text.proofs.Finding.{finding}
use Rattle.text.proofs.Texts.{whole}
use Rattle.gga.specs.Gga.{gga}
use Rattle.gga.specs.Answer.{gga_data}
use Rattle.std.specs.Prelude.{Ok}
use Rattle.gga.proofs.do_parse_gga.Goals as goal

pub returns-in_err-fix : goal.returns-in_err-fix
unfolding gga
returns-in_err-fix c = whole _ 0 gga gga_data 0 (search finding depth 14 fits 5000)

pub returns-in_err-height : goal.returns-in_err-height
unfolding gga
returns-in_err-height c = whole _ 0 gga gga_data 0 (search finding depth 14 fits 5000)

pub returns : goal.returns
unfolding gga
returns c = whole _ 0 gga gga_data {r = Ok (record { fix = c.in_ok-fix.fix; height = c.in_ok-height.height })} c.in_ok-height.field-0-1 (search finding depth 14 fits 5000)
