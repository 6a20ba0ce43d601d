-- What is read of a text from a place on, from what is read at that place: of a whole text, at its first. Assumes nothing.
use Prim.Native.Nat.{ℕ}
use mathlib.Core.Path.{◌≡◌}
use mathlib.Core.List.{List}
use lib.ListN.{drop}
use Rattle.std.specs.Prelude.{Result, Ok, Err}
use Rattle.text.specs.Reader.{Fault as Refusal, Reader}
use Rattle.text.specs.Placed.{unread, refused, upto, Reads}
use Rattle.text.specs.Value.{value, syntax, fault, is}
use Rattle.text.specs.Answer.{told, valued, Finds}
use Rattle.text.specs.declared.Fault.{Fault}
use Rattle.text.specs.declared.Fault.TheVariants.{NoMatch, UnknownType, Number, BadTime}

module _ {A : Type 0} (s : List ℕ) (q : Reader A) where
  pub text-none : Reads s 0 q unread → syntax ≡ value (q s)
  text-none t = rw t.leaves

  pub text-bad : {f : Refusal} → Reads s 0 q (refused f) → fault f ≡ value (q s)
  text-bad t = rw t.leaves

  pub text-some : {a : A} (p : ℕ) → Reads s 0 q (upto a p) → is a ≡ value (q s)
  text-some p t = rw t.leaves

  pub some-at : {at : ℕ} {a : A} (p : ℕ) → Reads s at q (upto a p) → is a ≡ value (q (drop at s))
  some-at p t = rw t.leaves

-- what an answer says of the text from a place on, whatever place it ends at
pub whole : {A T : Type 0} (s : List ℕ) (at : ℕ) (q : Reader A) (f : T → A) {r : Result T Fault} (p : ℕ)
    → Finds s at q (λ x. (f x, p)) r
    → valued f r ≡ value (q (drop at s))
whole {T = T} s at q f {r = r} p t = by r t.reads
  where
    by : (r : Result T Fault) → Reads s at q (told (λ x. (f x, p)) r) → valued f r ≡ value (q (drop at s))
    by (Ok x) t = rw t.leaves
    by (Err NoMatch) t = rw t.leaves
    by (Err UnknownType) t = rw t.leaves
    by (Err Number) t = rw t.leaves
    by (Err BadTime) t = rw t.leaves
