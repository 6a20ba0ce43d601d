-- `mode` meets its contract: past the end there is none, and within the text it is a letter of the modes. Assumes nothing.
use Prim.Native.Nat.{ℕ, ◌<◌}
use native.Mathlib.Omega.{arith}
use mathlib.Core.List.{List}
use mathlib.Core.Option.{Option, some}
use lib.ListN.{length}
use Rattle.std.specs.Prelude.{Result}
use Rattle.text.specs.Reader.{◌>>=◌, pure, letter_of}
use Rattle.text.specs.Answer.{Finds}
use Rattle.text.specs.declared.Fault.{Fault}
use Rattle.text.proofs.Places.{here, ended, a-read, alike}
use Rattle.text.proofs.Finding.{finding}
use Rattle.fields.specs.Letter.{mode_letters}
use Rattle.gll.specs.Gll.{mode}
use Rattle.gll.proofs.mode.Goals as goal

within : {R : Type 0} {s : List ℕ} {at : ℕ} {see : R → Option ℕ × ℕ} {r : Result R Fault} → at < length s
    → Finds s at (letter_of mode_letters >>= λ m. pure (some m)) see r
    → Finds s at mode see r
unfolding mode
within {s = s} {at = at} h t = record { reads = alike t.reads (rw (here s at h)) }

pub returns-then-s-at : goal.returns-then-s-at
unfolding mode
returns-then-s-at c = record { reads = a-read (rw (ended _ _ c.if-s-at.true)) (omega arith) (omega arith) }

pub returns-in_err-letter : goal.returns-in_err-letter
returns-in_err-letter c = within c.if-s-at.false (search finding depth 14)

pub returns : goal.returns
returns c = within c.if-s-at.false (search finding depth 14)
