-- No second answer of `utf8`. Assumes nothing.
use Rattle.std.proofs.Common.{◌≡◌, ℕ, Bool, cond, eqb, List, [], ◌∷◌, refl}
use Rattle.std.proofs.Math.Option.{none, some}
use Rattle.utf8.specs.Utf8.{State, utf8, ascii}
use Rattle.utf8.specs.Utf8 as Spec
use Rattle.utf8.specs.Answer.{pending}
use Rattle.utf8.specs.declared.Utf8.{Utf8}
use Rattle.utf8.specs.declared.Utf8.TheVariants.{Whole, Broken, Tail1, Tail2, Tail3, AfterE0, AfterED, AfterF0, AfterF4}
use Rattle.only.proofs.Laws.{same, TellsApart, undone, tells}

-- how many octets must follow tells the states apart, and then the range of the next
state-of : State → Utf8
state-of none = Broken
state-of (some []) = Whole
state-of (some (r ∷ [])) = Tail1
state-of (some (r ∷ s ∷ [])) = cond (eqb r.0 0xA0) AfterE0 (cond (eqb r.1 0x9F) AfterED Tail2)
state-of (some (r ∷ s ∷ t ∷ l)) = cond (eqb r.0 0x90) AfterF0 (cond (eqb r.1 0x8F) AfterF4 Tail3)

state-is : (r : Utf8) → state-of (pending r) ≡ r
unfolding state-of
state-is Whole = refl
state-is Broken = refl
state-is Tail1 = refl
state-is Tail2 = refl
state-is Tail3 = refl
state-is AfterE0 = refl
state-is AfterED = refl
state-is AfterF0 = refl
state-is AfterF4 = refl

pending-apart : TellsApart pending
pending-apart = undone state-of state-is

pub step : (state : Utf8) (b : ℕ) {r q : Utf8} → pending r ≡ Spec.step (pending state) b → pending q ≡ Spec.step (pending state) b → r ≡ q
step state b = tells pending-apart

pub whole : (state : Utf8) {r q : Bool} → r ≡ Spec.may_end (pending state) → q ≡ Spec.may_end (pending state) → r ≡ q
whole state = same

pub is-utf8 : (s : List ℕ) {r q : Bool} → r ≡ utf8 s → q ≡ utf8 s → r ≡ q
is-utf8 s = same

pub is-ascii : (s : List ℕ) {r q : Bool} → r ≡ ascii s → q ≡ ascii s → r ≡ q
is-ascii s = same
