-- 01, demand 3, its last clause, of a line's whole answer: what framing refuses is refused. Assumes nothing.
use Prim.Native.Nat.{ℕ, ◌+◌, ◌<◌}
use mathlib.Core.Path.{◌≡◌, ap}
use mathlib.Core.List.{List}
use lib.ListN.{length, get_or, set}
use Rattle.text.specs.Bytes.{byte}
use Rattle.frame.specs.Refused.{Refused}
use Rattle.frame.specs.Frame.{Parts, accepted, frame, data_from}
use Rattle.frame.proofs.OneByte.{one-byte-changed}
use Rattle.answer.specs.Sentence.{Answer, is_refused, framed_by, dispatch, answer}

-- the answer is a refusal
pub record Refuses (a : Answer) : Type 0 where
  pub why : Refused
  pub is : a ≡ is_refused why

-- a line that passed its checksum, with one byte between its `$` and its closing `*` changed to another that is not `*`
pub one-byte-refused : (l : List ℕ) (p : Parts) → frame l ≡ accepted p → (i b : ℕ) → 0 < i → i < data_from + length p.text
    → (b ≡ get_or l i 0 → ⊥) → (b ≡ byte "*" → ⊥) → Refuses (answer (set l i b))
unfolding answer
one-byte-refused l p e i b h k n star =
    let c = one-byte-changed l p e i b h k n star in
    record { why = c.why; is = ap (framed_by dispatch) c.is }
