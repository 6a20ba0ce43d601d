-- `put_entries` meets its contract: four entries of eight words. Assumes nothing.
use Prim.Native.Nat.{ℕ, ◌+◌}
use mathlib.Core.Path.{ap}
use Rattle.gsv.specs.Answer.{slot}
use Rattle.text.proofs.Stores.{four}
use Rattle.words.specs.Gsv.{entry_words}
use Rattle.words.specs.Lengths.{entry-eight}
use Rattle.words.proofs.gsv_words.put_entries.Goals as goal

pub returns : goal.returns
returns c =
    let a = c.args in
    let p = slot a.g.first in
    let q = slot a.g.second in
    let r = slot a.g.third in
    four a.out.now _ _ _ _ (entry_words p) (entry_words q) (entry_words r) (entry_words (slot a.g.fourth))
    7 15 23 31
    c.put_option.ensures (ap (λ (n : ℕ). 7 + n) (entry-eight p)) c.put_option-2.ensures (ap (λ (n : ℕ). 15 + n) (entry-eight q)) c.put_option-3.ensures (ap (λ (n : ℕ). 23 + n) (entry-eight r)) c.put_option-4.ensures
