-- What each answer of the code says.
use Rattle.std.specs.Prelude.{ℕ, List, Option, Some, None, Result, Ok, Err}
use Rattle.std.proofs.Math.Seq.{slice}
use Rattle.std.proofs.Math.Option.{Option as Maybe, none, some}
use Rattle.text.specs.Reader.{Reader, UnknownType as IsUnknown, Number as IsNumber, BadTime as IsBadTime}
use Rattle.text.specs.Placed.{Placed, unread, refused, upto, Reads}
use Rattle.text.specs.Value.{Value, syntax, fault, is}
use Rattle.text.specs.declared.Fault.{Fault}
use Rattle.text.specs.declared.Fault.TheVariants.{NoMatch, UnknownType, Number, BadTime}

-- what may be absent, and the same of what a value means
abbrev pub held : {T : Type 0} → Option T → Maybe T
held None = none
held (Some x) = some x

abbrev pub held_as : {T A : Type 0} → (T → A) → Option T → Maybe A
held_as f None = none
held_as f (Some x) = some (f x)

-- what an answer says was read, and the next place: both as they stand, what a value means, and nothing but the place
abbrev pub itself : {A : Type 0} → A × ℕ → A × ℕ
itself r = r

abbrev pub seen : {T A : Type 0} → (T → A) → T × ℕ → A × ℕ
seen f r = (f r.0, r.1)

abbrev pub next : ℕ → Unit {0} × ℕ
next p = (tt, p)

-- a part of the text `s`, from `at` up to the place
abbrev pub part : List ℕ → ℕ → ℕ → List ℕ × ℕ
part s at p = (slice at p s, p)

abbrev pub faulted : {A : Type 0} → Fault → Placed A
faulted NoMatch = unread
faulted UnknownType = refused IsUnknown
faulted Number = refused IsNumber
faulted BadTime = refused IsBadTime

abbrev pub told : {R A : Type 0} → (R → A × ℕ) → Result R Fault → Placed A
told see (Ok r) = upto (see r).0 (see r).1
told see (Err e) = faulted e

-- an answer, seen so, is what the reader `q` reads of the text `s` at the place `at`
pub record Finds {R A : Type 0} (s : List ℕ) (at : ℕ) (q : Reader A) (see : R → A × ℕ) (r : Result R Fault) : Type 0 where
  pub reads : Reads s at q (told see r)

-- the same of a whole text, where the next place does not matter
abbrev pub failed : {A : Type 0} → Fault → Value A
failed NoMatch = syntax
failed UnknownType = fault IsUnknown
failed Number = fault IsNumber
failed BadTime = fault IsBadTime

abbrev pub valued : {T A : Type 0} → (T → A) → Result T Fault → Value A
valued f (Ok d) = is (f d)
valued f (Err e) = failed e
