-- `utf8::lead` meets its contract: on each arm's bytes the table has one answer, which antt computes, and the tests that led to the
-- arm put the byte among them. Assumes nothing.
use native.Mathlib.Omega.{arith}
use mathlib.Core.Path.{refl, sym}
use Rattle.utf8.specs.Rfc3629.{utf8_char}
use Rattle.utf8.proofs.Table.{regional}
use Rattle.utf8.proofs.lead.Goals as goal

pub returns-in-224 : goal.returns-in-224
returns-in-224 c = sym (regional 0xE0 0xE0 utf8_char _ refl (omega arith) (omega arith))

pub returns-in-237 : goal.returns-in-237
returns-in-237 c = sym (regional 0xED 0xED utf8_char _ refl (omega arith) (omega arith))

pub returns-in-240 : goal.returns-in-240
returns-in-240 c = sym (regional 0xF0 0xF0 utf8_char _ refl (omega arith) (omega arith))

pub returns-in-244 : goal.returns-in-244
returns-in-244 c = sym (regional 0xF4 0xF4 utf8_char _ refl (omega arith) (omega arith))

pub returns-in-0-to-127 : goal.returns-in-0-to-127
returns-in-0-to-127 c = sym (regional 0x00 0x7F utf8_char _ refl (omega arith) (omega arith))

pub returns-in-194-to-223 : goal.returns-in-194-to-223
returns-in-194-to-223 c = sym (regional 0xC2 0xDF utf8_char _ refl (omega arith) (omega arith))

pub returns-in-225-to-236 : goal.returns-in-225-to-236
returns-in-225-to-236 c = sym (regional 0xE1 0xEC utf8_char _ refl (omega arith) (omega arith))

pub returns-in-238-to-239 : goal.returns-in-238-to-239
returns-in-238-to-239 c = sym (regional 0xEE 0xEF utf8_char _ refl (omega arith) (omega arith))

pub returns-in-241-to-243 : goal.returns-in-241-to-243
returns-in-241-to-243 c = sym (regional 0xF1 0xF3 utf8_char _ refl (omega arith) (omega arith))

pub returns-in_default : goal.returns-in_default
returns-in_default c = sym (regional 0x80 0xC1 utf8_char _ refl (omega arith) (omega arith))

pub returns-in_default-2 : goal.returns-in_default-2
returns-in_default-2 c = sym (regional 0xF5 0xFF utf8_char _ refl (omega arith) (omega arith))
