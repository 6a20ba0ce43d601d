-- `do_parse_rmc` meets its contract: the three parts, one after another. Assumes nothing.
use Rattle.text.proofs.Finding.{finding}
use Rattle.text.proofs.Texts.{whole}
use Rattle.rmc.specs.Rmc.{rmc}
use Rattle.rmc.specs.Answer.{rmc_data}
use Rattle.std.specs.Prelude.{Ok}
use Rattle.rmc.proofs.do_parse_rmc.Goals as goal

pub returns-in_err-fix : goal.returns-in_err-fix
unfolding rmc
returns-in_err-fix c = whole _ 0 rmc rmc_data 0 (search finding depth 14 fits 5000)

pub returns-in_err-motion : goal.returns-in_err-motion
unfolding rmc
returns-in_err-motion c = whole _ 0 rmc rmc_data 0 (search finding depth 14 fits 5000)

pub returns-in_err-ending : goal.returns-in_err-ending
unfolding rmc
returns-in_err-ending c = whole _ 0 rmc rmc_data 0 (search finding depth 14 fits 5000)

pub returns : goal.returns
unfolding rmc
returns c = whole _ 0 rmc rmc_data {r = Ok (record { fix = c.in_ok-fix.fix; motion = c.in_ok-motion.motion; ending = c.in_ok-ending.ending })} c.in_ok-ending.field-0-1 (search finding depth 14 fits 5000)
