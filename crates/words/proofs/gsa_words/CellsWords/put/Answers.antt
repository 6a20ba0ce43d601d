-- `put` meets its contract: the count, and the cells one behind the other. Assumes nothing.
use Prim.Native.Nat.{ℕ, ◌+◌, ◌<◌}
use native.Mathlib.Numerals.{add-one}
use native.Mathlib.Omega.{arith}
use mathlib.Core.Path.{◌≡◌, ap, sym, ◌∙◌}
use mathlib.Core.List.{[], ◌∷◌}
use lib.ListN.{length, take, set, get_or}
use lib.Seq.{sets, take-suc, length-take-le}
use Rattle.text.proofs.Stores.{behind}
use Rattle.gsa.specs.Gsa.{kept}
use Rattle.words.proofs.Cells.{stored}
use Rattle.words.proofs.gsa_words.CellsWords.put.Goals as goal

pub loop-i-preserved : goal.loop-i-preserved
loop-i-preserved c =
    let a = c.args in
    let xs = a.self.items in
    let w = c.loop-i in
    let l = set a.out.now a.at a.self.count in
    let all : length xs ≡ kept = a.self.all in
    let inside : w.i < length xs = omega arith in
    behind l w.out _ (take w.i xs) (get_or xs w.i 0 ∷ []) (a.at + 1) (a.at + 1 + w.i) w.invariant (ap (λ (n : ℕ). a.at + 1 + n) (length-take-le w.i xs (omega arith))) (rw c.from.ensures)
    ∙ ap (sets l (a.at + 1)) (sym (take-suc xs w.i 0 inside) ∙ ap (λ (n : ℕ). take n xs) (sym (add-one w.i)))

pub returns : goal.returns
returns c =
    let s = c.args.self in
    stored s.items c.args.out.now c.loop-i.out s.count c.args.at c.loop-i.i s.all c.loop-i-test.false c.loop-i.invariant
