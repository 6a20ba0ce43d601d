-- `short_decimal` meets its contract: the decimal is taken over, and digits within the short limits fit an i32 and an f32 exactly. Assumes nothing.
use native.Mathlib.Omega.{arith}
use mathlib.Core.Path.{◌≡◌, refl}
use mir.Syntax.{w32}
use mir.Val.{to_z, of_z}
use borrow.Author.Rules.{rules}
use Rattle.text.proofs.Finding.{finding, go-on, done}
use Rattle.decimal.specs.Places.{short_decimal}
use Rattle.decimal.proofs.Bounds.{kept}
use Rattle.decimal.proofs.short_decimal.Goals as goal

pub returns-in_err-d : goal.returns-in_err-d
unfolding short_decimal
returns-in_err-d c = search finding

pub returns-in_default : goal.returns-in_default
unfolding short_decimal
returns-in_default c = go-on _ c.in_ok-d.ensures (done (rw c.in_default.is) refl)

pub overflow_cast-size : goal.overflow_cast-size
overflow_cast-size c = let known = kept _ c.in_ok-d.ensures c.in-Some.is in omega (arith, known.small)

pub whole_of-requires : goal.whole_of-requires
whole_of-requires c = (kept _ c.in_ok-d.ensures c.in-Some.is).small

pub nearest_f32-requires-clause-size : goal.nearest_f32-requires-clause-size
nearest_f32-requires-clause-size c = (kept _ c.in_ok-d.ensures c.in-Some.is).small

pub nearest_f32-requires-clause-decimals : goal.nearest_f32-requires-clause-decimals
nearest_f32-requires-clause-decimals c = let known = kept _ c.in_ok-d.ensures c.in-Some.is in omega (arith, known.fewer)

pub returns : goal.returns
unfolding short_decimal
returns c =
    let e : to_z w32 (of_z w32 c.whole_of.result) ≡ c.whole_of.result = search rules in
    rw (e, c.whole_of.ensures, c.nearest_f32.ensures) (go-on _ c.in_ok-d.ensures (done (rw c.in-Some.is) refl))
