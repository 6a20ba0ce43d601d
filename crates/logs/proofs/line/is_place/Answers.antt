-- `is_place` meets its contract, test by test. Assumes nothing.
use Rattle.std.proofs.Common.{sym}
use Rattle.logs.proofs.Places.{place-zero, place-end, place-past, place-feed}
use Rattle.logs.proofs.line.is_place.Goals as goal

pub returns-then-place-eq0 : goal.returns-then-place-eq0
returns-then-place-eq0 c = sym (place-zero _ _ c.if-place-eq0.true)

pub returns-then-place-log : goal.returns-then-place-log
returns-then-place-log c = sym (place-end _ _ c.if-place-log.true)

pub returns-then-log-place : goal.returns-then-log-place
returns-then-log-place c = sym (place-past _ _ c.if-place-eq0.false c.if-log-place.true)

pub returns : goal.returns
returns c = sym (place-feed _ _ c.if-place-eq0.false c.if-place-log.false)
