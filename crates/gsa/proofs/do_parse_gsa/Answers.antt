-- `do_parse_gsa` meets its contract: it calls the readers of the definition in their order. Assumes nothing.
use Rattle.std.specs.Prelude.{Ok}
use Rattle.text.proofs.Texts.{whole}
use Rattle.text.proofs.Finding.{finding}
use Rattle.gsa.specs.Gsa.{gsa}
use Rattle.gsa.specs.Answer.{gsa_of}
use Rattle.gsa.proofs.do_parse_gsa.Goals as goal

pub returns-in_err-mode : goal.returns-in_err-mode
unfolding gsa
returns-in_err-mode c = whole _ 0 gsa gsa_of 0 (search finding depth 14 fits 5000)

pub returns-in_err-at : goal.returns-in_err-at
unfolding gsa
returns-in_err-at c = whole _ 0 gsa gsa_of 0 (search finding depth 14 fits 5000)

pub returns-in_err-fix : goal.returns-in_err-fix
unfolding gsa
returns-in_err-fix c = whole _ 0 gsa gsa_of 0 (search finding depth 14 fits 5000)

pub returns-in_err-at-2 : goal.returns-in_err-at-2
unfolding gsa
returns-in_err-at-2 c = whole _ 0 gsa gsa_of 0 (search finding depth 14 fits 5000)

pub returns-in_err-tail : goal.returns-in_err-tail
unfolding gsa
returns-in_err-tail c = whole _ 0 gsa gsa_of 0 (search finding depth 14 fits 5000)

pub returns : goal.returns
unfolding gsa
returns c =
    let t = c.in_ok-tail.tail in
    whole _ 0 gsa gsa_of
    {r = Ok (record { mode = c.in_ok-mode.mode; fix = c.in_ok-fix.fix; satellites = t.satellites; dops = t.dops; system = t.system })}
    c.in_ok-tail.field-0-1
    (search finding depth 14 fits 5000)
