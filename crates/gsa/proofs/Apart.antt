-- An item whose comma is asked for first: that it is empty, and that there is none. Assumes nothing.
use Prim.Native.Nat.{ℕ}
use mathlib.Core.Path.{◌≡◌, refl, sym, subst, ap, ◌∙◌}
use mathlib.Core.Bool.{Bool, true, false, cond}
use mathlib.Core.List.{List, [], ◌∷◌}
use mathlib.Core.Option.{none}
use native.Mathlib.Omega.{arith}
use lib.Dec.{eqb}
use lib.ListN.{drop}
use borrow.Author.Tests.{eqb-true}
use Rattle.text.specs.Bytes.{byte}
use Rattle.text.specs.Reader.{miss, got, char}
use Rattle.text.specs.Number.{number}
use Rattle.text.specs.Placed.{Reads, unread, upto, placed}
use Rattle.text.specs.Answer.{Finds, told, faulted, held, next, itself, seen}
use Rattle.text.specs.declared.Fault.{Fault}
use Rattle.text.specs.declared.Fault.TheVariants.{NoMatch, UnknownType, Number, BadTime}
use Rattle.text.proofs.Faults.{never-char, never-number}
use Rattle.text.proofs.Finding.{handed, not-found}
use Rattle.std.specs.Prelude.{Option, Result, Err, IsErr, IsErrAnd}
use Rattle.text.proofs.Places.{took, no-read, stop, go, done, opt-none}
use Rattle.gsa.specs.Gsa.{comma, item, item_max}

-- where a comma stands there is no number
no-number : (max : ℕ) (l : List ℕ) {u : Unit {0}} {m : List ℕ} → comma l ≡ got u m → number max l ≡ miss
unfolding char number
no-number max [] e = refl
no-number max (b ∷ l) {u} {m} e = by (eqb b (byte ",")) refl e
  where
    by : (t : Bool) → eqb b (byte ",") ≡ t → cond t (got tt l) miss ≡ got u m → number max (b ∷ l) ≡ miss
    by true f e = subst (λ (x : ℕ). number max (x ∷ l) ≡ miss) (sym (eqb-true b (byte ",") f)) refl
    by false f e = let z : ◌≡◌ {A = ℕ} 0 1 = cc in absurd (omega arith)

pub empty-item : {s : List ℕ} {at p : ℕ} → Reads s at comma (upto tt p) → Reads s at item (upto none p)
unfolding item
empty-item t = go _ (opt-none _ (no-read (no-number item_max _ (took t refl).reads)) refl) refl (go _ t refl (done _ _ _))

-- a fault that says of one reader that it does not match says so of any
nothing : {A B : Type 0} (e : Fault) → faulted {A = A} e ≡ unread → faulted {A = B} e ≡ unread
nothing NoMatch o = refl
nothing UnknownType o = let z : ◌≡◌ {A = ℕ} 0 1 = cc in absurd (omega arith)
nothing Number o = let z : ◌≡◌ {A = ℕ} 0 1 = cc in absurd (omega arith)
nothing BadTime o = let z : ◌≡◌ {A = ℕ} 0 1 = cc in absurd (omega arith)

-- neither a comma nor a number
pub no-item : {s : List ℕ} {at : ℕ} {x : Result ℕ Fault} {r : Result (ℕ × ℕ) Fault} {b : Result (Option ℕ × ℕ) Fault} {e f : Fault}
    → x ≡ Err f
    → Finds s at comma next x
    → r ≡ Err e
    → Finds s at (number item_max) itself r
    → IsErr b × IsErrAnd b (λ y. y ≡ e)
    → Finds s at item (seen held) b
unfolding item
no-item {s} {at} {b = b} {e} g t h u k =
    let m = not-found (λ f. never-number item_max) h u in
    let o : faulted {A = ℕ} e ≡ unread = sym (ap (told itself) h) ∙ u.reads.answer ∙ ap (placed at (drop at s)) m in
    let n : told (seen held) b ≡ unread = ap (told (seen held)) (handed b k) ∙ nothing e o in
    let t : Reads s at item unread
    = go _ (opt-none _ (no-read m) refl) refl (stop _ (no-read (not-found (λ f. never-char _) g t)) refl) in
    record { reads = subst (λ x. Reads s at item x) (sym n) t }
