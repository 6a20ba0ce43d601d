-- Two bytes are there where the text goes on for two more. Assumes nothing.
use native.Mathlib.Omega.{arith}
use mathlib.Core.Path.{refl, ap, ◌∙◌}
use Rattle.text.proofs.Places.{a-read, no-read}
use Rattle.frame.specs.Frame.{taken}
use Rattle.frame.proofs.Taken.{two-of, taken-short, rest-of, rest-two}
use Rattle.frame.proofs.parse.talker.Goals as goal

pub returns-in_default : goal.returns-in_default
returns-in_default c =
    let r = rest-of c.args.s.now c.args.at _ _ c.get.ensures.lookup c.unwrap_or.ensures refl in
    record { reads = no-read (taken-short c.args.s.now c.args.at 2 (omega (arith, r.long))) }

pub returns : goal.returns
returns c =
    let r = rest-of c.args.s.now c.args.at _ _ c.get.ensures.lookup c.unwrap_or.ensures refl in
    let two = c.in-len2-up.len_at_least in
    record { reads = a-read (ap (taken 2) (rest-two r two) ∙ two-of _ _ _) (omega arith) (omega (arith, r.long)) }
