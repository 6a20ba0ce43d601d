-- `put` meets its contract: three decimals, one behind the other. Assumes nothing.
use Prim.Native.Nat.{◌+◌}
use native.Mathlib.Omega.{arith}
use mathlib.Core.Path.{refl}
use Rattle.decimal.specs.Answer.{a_short}
use Rattle.text.proofs.Stores.{three}
use Rattle.words.specs.Part.{dop_words}
use Rattle.words.proofs.gsa_words.DopsWords.put.Goals as goal

pub returns : goal.returns
returns c =
    let a = c.args in
    let d = a.self in
    three a.out.now _ _ _ (dop_words (a_short d.pdop)) (dop_words (a_short d.hdop)) (dop_words (a_short d.vdop)) a.at (a.at + 4) (a.at + 8)
    c.put.ensures refl c.put-2.ensures (omega arith) c.put-3.ensures
