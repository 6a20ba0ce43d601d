-- Three bytes are there where the text goes on for three more, and `known` tells whether they are a type. Assumes nothing.
use native.Mathlib.Omega.{arith}
use mathlib.Core.Path.{refl, ap, sym, ◌∙◌}
use Rattle.text.proofs.Places.{a-read, no-read, bad-read}
use Rattle.frame.specs.Frame.{sentence_type}
use Rattle.frame.proofs.Taken.{rest-of, rest-three}
use Rattle.frame.proofs.Fields.{short-type, type-known, type-unknown}
use Rattle.frame.proofs.parse.sentence_type.Goals as goal

pub returns-in_default : goal.returns-in_default
returns-in_default c =
    let r = rest-of c.args.s.now c.args.at _ _ c.get.ensures.lookup c.unwrap_or.ensures refl in
    record { reads = no-read (short-type c.args.s.now c.args.at (omega (arith, r.long))) }

pub returns-then-known : goal.returns-then-known
returns-then-known c =
    let r = rest-of c.args.s.now c.args.at _ _ c.get.ensures.lookup c.unwrap_or.ensures refl in
    let three = c.in-len3-up.len_at_least in
    record { reads = a-read (ap sentence_type (rest-three r three) ∙ type-known _ _ _ _ (sym c.known.ensures ∙ c.if-known.true)) (omega arith) (omega (arith, r.long)) }

pub returns : goal.returns
returns c =
    let r = rest-of c.args.s.now c.args.at _ _ c.get.ensures.lookup c.unwrap_or.ensures refl in
    let three = c.in-len3-up.len_at_least in
    record { reads = bad-read (ap sentence_type (rest-three r three) ∙ type-unknown _ _ _ _ (sym c.known.ensures ∙ c.if-known.false)) }
