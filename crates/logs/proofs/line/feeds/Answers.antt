-- `feeds` meets its contract: while none was seen, the line goes on behind the bytes looked at. Assumes nothing.
use Rattle.std.proofs.Common.{◌<◌, ◌∙◌, arith}
use Rattle.logs.proofs.Blocks.{block-long, block-byte, clear-more}
use Rattle.logs.proofs.line.feeds.Goals as goal

pub loop-b-preserved : goal.loop-b-preserved
loop-b-preserved c =
    let l = c.args.log.now in
    let at = c.args.at in
    let i = c.loop-b.b-index in
    let h : i < 16 = omega (arith, c.loop-b-test.true, block-long l at 16 c.requires) in
    λ e.
    let (f, n) = c.saw-feed.ensures e in
    clear-more l at i (omega (arith, c.requires)) (λ q. n (block-byte l at 16 i h ∙ q)) (c.loop-b.invariant f)
