-- The bytes before the data, and then the data's own checksum. Assumes nothing.
use Rattle.text.specs.Bytes.{byte}
use Rattle.held.proofs.Xor.{six-then}
use Rattle.held.proofs.sum_of.Goals as goal

pub returns : goal.returns
returns c =
    let a = c.args in
    six-then a.talker.0 a.talker.1 a.kind.0 a.kind.1 a.kind.2 (byte ",") a.text.now c.checksum.ensures
