-- What makes an answer the only one: its contract is an equation, and no two answers look the same in what it says of them. So the
-- file of a crate says of each of its types that what its values mean tells them apart, and has a theorem for each function.
-- Assumes nothing.
use Rattle.std.specs.Prelude.{Option, Some, None, Result, Ok, Err}
use Rattle.std.specs.Result.{result_unwrap_or}
use Rattle.std.proofs.Common.{◌≡◌, ℕ, List, sym, refl, ap, ◌∙◌}
use Rattle.text.specs.Reader.{Reader}
use Rattle.text.specs.Value.{Value, is}
use Rattle.text.specs.Answer.{held, held_as, itself, seen, next, part, told, valued, Finds}
use Rattle.text.specs.declared.Fault.{Fault}
use Rattle.text.specs.declared.Fault.TheVariants.{NoMatch, UnknownType, Number, BadTime}

-- the contract says what the answer is
pub same : {A : Type 0} {a x y : A} → x ≡ a → y ≡ a → x ≡ y
same e f = e ∙ sym f

-- no two values mean the same
pub record TellsApart {R A : Type 0} (see : R → A) : Type 0 where
  pub one : {x y : R} → see x ≡ see y → x ≡ y

-- where what two answers say is the same, and each can be had back from it, so are they
pub undone : {R A : Type 0} {see : R → A} (back : A → R) → ((r : R) → back (see r) ≡ r) → TellsApart see
undone back undoes = record { one = λ {x} {y} e. sym (undoes x) ∙ ap back e ∙ undoes y }

-- two values that mean the same
pub tells : {R A : Type 0} {see : R → A} {a : A} {x y : R} → TellsApart see → see x ≡ a → see y ≡ a → x ≡ y
tells u e f = u.one (same e f)

-- what may be absent
held-one : {T : Type 0} (o p : Option T) → held o ≡ held p → o ≡ p
held-one None None e = refl
held-one None (Some y) e = cc
held-one (Some x) None e = cc
held-one (Some x) (Some y) e = cc

pub held-apart : {T : Type 0} → TellsApart (held {T = T})
held-apart = record { one = λ {x} {y}. held-one x y }

held-as-one : {T A : Type 0} {f : T → A} → TellsApart f → (o p : Option T) → held_as f o ≡ held_as f p → o ≡ p
held-as-one u None None e = refl
held-as-one u None (Some y) e = cc
held-as-one u (Some x) None e = cc
held-as-one u (Some x) (Some y) e = ap Some (u.one cc)

pub held-as-apart : {T A : Type 0} {f : T → A} → TellsApart f → TellsApart (held_as f)
held-as-apart u = record { one = λ {x} {y}. held-as-one u x y }

-- what was read, and the next place
pub itself-apart : {A : Type 0} → TellsApart (itself {A = A})
itself-apart = record { one = λ e. e }

pub seen-apart : {T A : Type 0} {f : T → A} → TellsApart f → TellsApart (seen f)
seen-apart u = record { one = λ e i. (u.one (λ j. (e j).0) i, (e i).1) }

pub next-apart : TellsApart next
next-apart = record { one = λ e i. (e i).1 }

pub part-apart : (s : List ℕ) (at : ℕ) → TellsApart (part s at)
part-apart s at = record { one = λ e i. (e i).1 }

-- An answer, which may be a fault. Each pair that the last equation stands for means two things: for that, faults are named one by one.
told-one : {R A : Type 0} {see : R → A × ℕ} → TellsApart see → (r q : Result R Fault) → told see r ≡ told see q → r ≡ q
told-one {see = see} u (Ok x) (Ok y) e =
    let a : (see x).0 ≡ (see y).0 = cc in
    let p : (see x).1 ≡ (see y).1 = cc in
    ap Ok (u.one (λ i. (a i, p i)))
told-one u (Ok x) (Err NoMatch) e = cc
told-one u (Err NoMatch) (Err NoMatch) e = refl
told-one u (Err UnknownType) (Err UnknownType) e = refl
told-one u (Err Number) (Err Number) e = refl
told-one u (Err BadTime) (Err BadTime) e = refl
told-one u r q e = cc

valued-one : {T A : Type 0} {f : T → A} → TellsApart f → (r q : Result T Fault) → valued f r ≡ valued f q → r ≡ q
valued-one u (Ok x) (Ok y) e = ap Ok (u.one cc)
valued-one u (Ok x) (Err NoMatch) e = cc
valued-one u (Err NoMatch) (Err NoMatch) e = refl
valued-one u (Err UnknownType) (Err UnknownType) e = refl
valued-one u (Err Number) (Err Number) e = refl
valued-one u (Err BadTime) (Err BadTime) e = refl
valued-one u r q e = cc

pub valued-apart : {T A : Type 0} {f : T → A} → TellsApart f → TellsApart (valued f)
valued-apart u = record { one = λ {x} {y}. valued-one u x y }

-- what a reader finds at a place of a text
pub finds : {R A : Type 0} {s : List ℕ} {at : ℕ} {q : Reader A} {see : R → A × ℕ} {x y : Result R Fault} → TellsApart see → Finds s at q see x → Finds s at q see y → x ≡ y
finds {x = x} {y = y} u a b = told-one u x y (same a.reads.answer b.reads.answer)

-- where it always finds something, and where a whole text always means something
pub always-finds : {R A : Type 0} {s : List ℕ} {at : ℕ} {q : Reader A} {see : R → A × ℕ} {x y : R} → TellsApart see → Finds s at q see (Ok x) → Finds s at q see (Ok y) → x ≡ y
always-finds {x = x} u a b = ap (λ r. result_unwrap_or r x) (finds u a b)

pub always-is : {T A : Type 0} {f : T → A} {a : Value A} {x y : T} → TellsApart f → is (f x) ≡ a → is (f y) ≡ a → x ≡ y
always-is {f = f} {x = x} {y = y} u a b =
    let e : is (f x) ≡ is (f y) = same a b in
    u.one cc
