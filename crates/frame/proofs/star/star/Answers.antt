-- Either the checksum's `*` is the first one, or the first one is looked for byte by byte. Assumes nothing.
use Prim.Native.Nat.{◌-◌}
use native.Mathlib.Omega.{arith}
use mathlib.Core.Path.{sym, ◌∙◌, ap}
use lib.ListN.{length}
use Rattle.text.specs.Bytes.{byte}
use Rattle.text.specs.Reader.{among}
use Rattle.text.proofs.Letters.{among-any}
use Rattle.text.proofs.Places.{a-read}
use Rattle.frame.proofs.Ranges.{lent}
use Rattle.frame.proofs.Stars.{ends-there}
use Rattle.frame.proofs.star.star.Goals as goal

pub returns-then-not-contains : goal.returns-then-not-contains
returns-then-not-contains c =
    let a = c.args in
    let s = a.s.now in
    let clear =
    ap (among (byte "*")) (lent s a.at (length s - 3) (omega arith) (omega arith))
    ∙ sym (among-any (byte "*") _)
    ∙ sym c.contains.ensures.value
    ∙ c.if-not-contains.true in
    record { reads = a-read (ends-there s a.at (length s - 3) (omega arith) (omega arith) c.if-s-to-eq42.true clear) (omega arith) (omega arith) }
