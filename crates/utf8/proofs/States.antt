-- The nine states of the code are exactly those that a text can leave, and no two have one meaning: `named` finds a state from its
-- meaning, and what is left of each row of the table has a name. Assumes nothing.
use Prim.Native.Nat.{ℕ}
use mathlib.Core.Path.{◌≡◌, refl, sym, ap, ◌∙◌}
use mathlib.Core.List.{List, [], ◌∷◌}
use mathlib.Core.Option.{none, some}
use mathlib.Core.Bool.{Bool, true, false, cond}
use lib.Dec.{eqb}
use Rattle.utf8.specs.Rfc3629.{Range, utf8_tail, utf8_char}
use Rattle.utf8.specs.Utf8.{State, within, follow, step, after}
use Rattle.utf8.specs.Answer.{pending}
use Rattle.utf8.specs.declared.Utf8.{Utf8}
use Rattle.utf8.specs.declared.Utf8.TheVariants.{Whole, Broken, Tail1, Tail2, Tail3, AfterE0, AfterED, AfterF0, AfterF4}
use Rattle.utf8.proofs.Table.{taken, All, of-row}

abbrev named : State → Utf8
named none = Broken
named (some []) = Whole
named (some (r ∷ [])) = Tail1
named (some (r ∷ q ∷ [])) = cond (eqb r.0 0xA0) AfterE0 (cond (eqb r.1 0x9F) AfterED Tail2)
named (some (r ∷ q ∷ p ∷ rs)) = cond (eqb r.0 0x90) AfterF0 (cond (eqb r.1 0x8F) AfterF4 Tail3)

named-pending : (u : Utf8) → named (pending u) ≡ u
named-pending Whole = refl
named-pending Broken = refl
named-pending Tail1 = refl
named-pending Tail2 = refl
named-pending Tail3 = refl
named-pending AfterE0 = refl
named-pending AfterED = refl
named-pending AfterF0 = refl
named-pending AfterF4 = refl

-- two states with the same meaning are one
pub pending-injective : (u v : Utf8) → pending u ≡ pending v → u ≡ v
pending-injective u v e = sym (named-pending u) ∙ ap named e ∙ named-pending v

-- each state is left by some text
pub state-text : (u : Utf8) → (l : List ℕ) × (after (some []) l ≡ pending u)
unfolding after step follow
state-text Whole = ([], refl)
state-text Broken = (0xFF ∷ [], refl)
state-text Tail1 = (0xC2 ∷ [], refl)
state-text Tail2 = (0xE1 ∷ [], refl)
state-text Tail3 = (0xF1 ∷ [], refl)
state-text AfterE0 = (0xE0 ∷ [], refl)
state-text AfterED = (0xED ∷ [], refl)
state-text AfterF0 = (0xF0 ∷ [], refl)
state-text AfterF4 = (0xF4 ∷ [], refl)

abbrev Named : List Range → Type 0
Named [] = Unit {0}
Named (r ∷ rs) = some rs ≡ pending (named (some rs))

rows-named : All Named utf8_char
rows-named = (refl, (refl, (refl, (refl, (refl, (refl, (refl, (refl, (refl, tt)))))))))

-- a state of the code that means `st`
abbrev Meant : State → Type 0
Meant st = (u : Utf8) × (st ≡ pending u)

lead-state : (b : ℕ) → Meant (follow utf8_char b)
lead-state b = by (follow utf8_char b) refl
  where
    by : (st : State) → follow utf8_char b ≡ st → Meant (follow utf8_char b)
    by none e = (Broken, e)
    by (some rs) e = (named (some rs), e ∙ of-row Named rows-named (taken utf8_char b e).row)

tail-state : (t : Bool) (u : Utf8) → Meant (cond t (pending u) none)
tail-state true u = (u, refl)
tail-state false u = (Broken, refl)

step-state : (u : Utf8) (b : ℕ) → Meant (step (pending u) b)
unfolding step
step-state Whole b = lead-state b
step-state Broken b = (Broken, refl)
step-state Tail1 b = tail-state (within utf8_tail b) Whole
step-state Tail2 b = tail-state (within utf8_tail b) Tail1
step-state Tail3 b = tail-state (within utf8_tail b) Tail2
step-state AfterE0 b = tail-state (within (0xA0, 0xBF) b) Tail1
step-state AfterED b = tail-state (within (0x80, 0x9F) b) Tail1
step-state AfterF0 b = tail-state (within (0x90, 0xBF) b) Tail2
step-state AfterF4 b = tail-state (within (0x80, 0x8F) b) Tail2

-- each text, from any state, leaves one of the states
pub text-state : (u : Utf8) (l : List ℕ) → (v : Utf8) × (after (pending u) l ≡ pending v)
unfolding after
text-state u [] = (u, refl)
text-state u (b ∷ l) =
    let (v, e) = step-state u b in
    let (w, f) = text-state v l in
    (w, ap (λ (st : State). after st l) e ∙ f)
