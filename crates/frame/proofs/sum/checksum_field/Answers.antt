-- The field is there where the text goes on for three bytes: `*` and two digits; each byte that is none is no match. Assumes nothing.
use native.Mathlib.Omega.{arith}
use mathlib.Core.Path.{refl, sym}
use Rattle.text.proofs.Places.{a-read, no-read}
use Rattle.frame.proofs.Units.{digit-low, lead-low}
use Rattle.frame.proofs.Taken.{rest-of}
use Rattle.frame.proofs.Fields.{short-field, other-field, lead-field, later-field, got-field}
use Rattle.frame.proofs.sum.checksum_field.Goals as goal

pub returns-in_default : goal.returns-in_default
returns-in_default c =
    let r = rest-of c.args.s.now c.args.at _ _ c.get.ensures.lookup c.unwrap_or.ensures refl in
    record { reads = no-read (short-field c.args.s.now c.args.at (omega (arith, r.long))) }

pub returns-in_default-3 : goal.returns-in_default-3
returns-in_default-3 c =
    let r = rest-of c.args.s.now c.args.at _ _ c.get.ensures.lookup c.unwrap_or.ensures refl in
    record { reads = no-read (other-field r c.in_default.len_at_least (λ e. omega arith)) }

pub overflow_mul-result : goal.overflow_mul-result
overflow_mul-result c = omega (arith, lead-low _ _ (sym c.in-Some-Some.ensures))

pub overflow_add-result : goal.overflow_add-result
overflow_add-result c = omega (arith, lead-low _ _ (sym c.in-Some-Some.ensures), digit-low _ _ (sym c.in-Some-Some.ensures'))

pub returns-in-Some-Some : goal.returns-in-Some-Some
returns-in-Some-Some c =
    let r = rest-of c.args.s.now c.args.at _ _ c.get.ensures.lookup c.unwrap_or.ensures refl in
    let three = c.in-42.len_at_least in
    record {
      reads = a-read (got-field r three (omega arith) (sym c.in-Some-Some.ensures) (sym c.in-Some-Some.ensures'))
          (omega arith)
          (omega (arith, r.long));
    }

pub returns-in_default-2 : goal.returns-in_default-2
returns-in_default-2 c =
    let r = rest-of c.args.s.now c.args.at _ _ c.get.ensures.lookup c.unwrap_or.ensures refl in
    record { reads = no-read (later-field r c.in-42.len_at_least (omega arith) (sym c.in_default-2.ensures')) }

pub returns-in_default-2-2 : goal.returns-in_default-2-2
returns-in_default-2-2 c =
    let r = rest-of c.args.s.now c.args.at _ _ c.get.ensures.lookup c.unwrap_or.ensures refl in
    record { reads = no-read (lead-field r c.in-42.len_at_least (omega arith) (sym (rw c.in_default-2.is-0 at c.lead_digit.ensures))) }
