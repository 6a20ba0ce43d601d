-- The data of an accepted line lie in the line: its `*` and two digits stand behind them. Assumes nothing.
use Prim.Native.Nat.{ℕ, ◌+◌, ◌≤◌}
use native.Mathlib.Omega.{arith}
use mathlib.Core.Path.{◌≡◌, ap}
use mathlib.Core.Bool.{Bool, cond}
use mathlib.Core.List.{List, [], ◌∷◌}
use lib.ListN.{length, length-append}
use lib.Seq.{slice}
use borrow.Author.Tests.{le-leb}
use Rattle.text.specs.Bytes.{byte}
use Rattle.frame.specs.Frame.{Parts, accepted, frame, data_from}
use Rattle.frame.specs.Answer.{parts, data_of}
use Rattle.frame.specs.declared.sentence.Sentence.{Sentence}
use Rattle.frame.proofs.Shape.{shaped}
use Rattle.frame.proofs.OneByte.{was-accepted}

pub within : (l : List ℕ) (p : Parts) → frame l ≡ accepted p → p.to ≤ length l
within l p e =
    let w = was-accepted l p e in
    let s = shaped l p w.rest w.reads in
    let to = ap (λ (x : Parts). x.to) s.parts in
    let long = ap length s.line in
    omega (arith, length-append s.text (byte "*" ∷ s.y ∷ s.z ∷ w.rest))

-- `*` and two digits stand behind them
pub star-within : (l : List ℕ) (p : Parts) → frame l ≡ accepted p → data_from + length p.text + 3 ≤ length l
star-within l p e =
    let w = was-accepted l p e in
    let s = shaped l p w.rest w.reads in
    let text = ap (λ (x : Parts). length x.text) s.parts in
    let long = ap length s.line in
    omega (arith, length-append s.text (byte "*" ∷ s.y ∷ s.z ∷ w.rest))

-- so that the part of the line which the code hands over is the text read
pub data-within : (l : List ℕ) (x : Sentence) → frame l ≡ accepted (parts l x) → data_of x l ≡ slice x.from x.to l
data-within l x e = ap (λ (t : Bool). cond t (slice x.from x.to l) []) (le-leb x.to (length l) (within l (parts l x) e))
