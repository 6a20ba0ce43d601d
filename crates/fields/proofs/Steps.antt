-- The laws of reading that the fields alone need: seconds without a sign, a last part whose place stays, a unit's letter. Assumes nothing.
use Prim.Native.Nat.{ℕ}
use mathlib.Core.Path.{◌≡◌, refl}
use mathlib.Core.Bool.{Bool, true, false}
use mathlib.Core.List.{List}
use Rattle.std.specs.Prelude.{Result, Ok, Err}
use Rattle.std.specs.Result.{result_unwrap_or}
use Rattle.text.specs.Reader.{Reader, ◌>>=◌, char}
use Rattle.text.specs.Answer.{Finds, next}
use Rattle.text.specs.declared.Fault.{Fault}
use Rattle.text.specs.declared.Fault.TheVariants.{NoMatch}
use Rattle.text.proofs.Places.{no-read, alike}
use Rattle.text.proofs.Faults.{never-char}
use Rattle.text.proofs.Finding.{go-on, done, opt-found, opt-not}
use Rattle.fields.specs.Time.{no_sign}
use Rattle.fields.specs.Letter.{unit_letter}

module _ {B S : Type 0} {s : List ℕ} {at : ℕ} {look : S → B × ℕ} (k : Unit {0} → Reader B) (minus : Bool) where
  pub signed : minus ≡ true → Finds s at (no_sign minus >>= k) look (Err NoMatch)
  unfolding ◌>>=◌ no_sign
  signed e = record { reads = no-read (rw e) }

  pub unsigned : {b : Result S Fault} → minus ≡ false → Finds s at (k tt) look b → Finds s at (no_sign minus >>= k) look b
  unfolding ◌>>=◌ no_sign
  unsigned e t = record { reads = alike t.reads (rw e) }

-- a letter that stands there or not: nothing is kept of it
pub letter-or-not : {s : List ℕ} {at : ℕ} (letter : ℕ) (r : Result ℕ Fault) {p : ℕ} → Finds s at (char letter) next r → p ≡ result_unwrap_or r at → Finds s at (unit_letter letter) next (Ok p)
unfolding unit_letter
letter-or-not letter (Ok p) t e = go-on _ (opt-found {look = λ x. x} refl refl refl t) (done refl e)
letter-or-not letter (Err x) t e = go-on _ (opt-not {look = λ x. x} (λ f. never-char letter) refl refl refl t) (done refl e)
