-- `put_option` meets its contract: the word of what is absent has two zeros, any other a 1 before it. Assumes nothing.
use Rattle.capi.proofs.Lending.{put-absent, put-known}
use Rattle.capi.proofs.lend.put_option.Goals as goal

pub returns-then-x-eq-ABSENT : goal.returns-then-x-eq-ABSENT
returns-then-x-eq-ABSENT c = let a = c.args in put-absent a.out.now a.at a.x c.if-x-eq-ABSENT.true

pub returns : goal.returns
returns c = let a = c.args in put-known a.out.now a.at a.x c.if-x-eq-ABSENT.false
