-- One reader and then another, where the code goes on by `?` with what the first found, or hands its fault on. For `search`. Assumes nothing.
use Prim.Native.Nat.{ℕ}
use native.Mathlib.Omega.{arith}
use mathlib.Core.Path.{◌≡◌, refl, ap, ◌∙◌}
use mathlib.Core.List.{List}
use mathlib.Core.Option.{Option, none, some}
use lib.ListN.{drop}
use Rattle.text.proofs.Faults.{Faultless}
use Rattle.std.specs.Prelude.{Option as Maybe, Some, None, Result, Ok, Err, IsErr, IsErrAnd, ok_or}
use Rattle.std.specs.Result.{result_from_control_flow}
use Rattle.std.proofs.Common.{Continue, Break}
use Rattle.text.specs.Reader.{Reader, miss, ◌>>=◌, pure, opt, alt, or_miss, UnknownType as IsUnknown, Number as IsNumber, BadTime as IsBadTime}
use Rattle.text.specs.Placed.{Placed, Reads}
use Rattle.text.specs.Answer.{held_as, told, faulted, Finds}
use Rattle.text.proofs.Places.{stop as stop-at, fail as fail-at, go as go-at, done-as, miss-none, miss-some, missed, barred, no-read, opt-some, opt-none, opt-bad, alt-first, alt-second}
use Rattle.text.specs.declared.Fault.{Fault}
use Rattle.text.specs.declared.Fault.TheVariants.{NoMatch, UnknownType, Number, BadTime}

-- what a `?` says of the result that it takes apart, and of the one that it returns
went : {T : Type 0} {r : Result T Fault} {w : _} {x : T} → r ≡ result_from_control_flow w → w ≡ Continue x → r ≡ Ok x
went e f = e ∙ ap result_from_control_flow f

broke : {T : Type 0} {r : Result T Fault} {w : _} {x : _} → r ≡ result_from_control_flow w → w ≡ Break x → r ≡ Err x.0
broke e f = e ∙ ap result_from_control_flow f

pub handed : {U : Type 0} (r : Result U Fault) {e : Fault} → IsErr r × IsErrAnd r (λ x. x ≡ e) → r ≡ Err e
handed (Ok v) (a, b) = absurd b
handed (Err x) (a, b) = ap Err b

module _ {A B : Type 0} {s : List ℕ} {at : ℕ} {q : Reader A} (k : A → Reader B) where
  pub halts : (e : Fault) {r : Placed A} → Reads s at q r → r ≡ faulted e → Reads s at (q >>= k) (faulted e)
  halts NoMatch t e = stop-at k t e
  halts UnknownType t e = fail-at k t e
  halts Number t e = fail-at k t e
  halts BadTime t e = fail-at k t e

  module _ {R S : Type 0} {see : R → A × ℕ} {look : S → B × ℕ} {r : Result R Fault} {b : Result S Fault} where
    pub stop : {w : _} {x : _} → r ≡ result_from_control_flow w → w ≡ Break x → IsErr b × IsErrAnd b (λ y. y ≡ x.0) → Finds s at q see r
        → Finds s at (q >>= k) look b
    stop {x = x} e f h t = record { reads = rw (handed b h) (halts x.0 t.reads (ap (told see) (broke e f))) }

    pub go : {w : _} {x : R} → r ≡ result_from_control_flow w → w ≡ Continue x → Finds s at q see r → Finds s (see x).1 (k (see x).0) look b
        → Finds s at (q >>= k) look b
    go e f t u = record { reads = go-at k t.reads (ap (told see) (went e f)) u.reads }

  -- a reader that always finds something
  pub go-on : {R S : Type 0} {see : R → A × ℕ} {look : S → B × ℕ} {x : R} {b : Result S Fault} → Finds s at q see (Ok x)
      → Finds s (see x).1 (k (see x).0) look b
      → Finds s at (q >>= k) look b
  go-on t u = record { reads = go-at k t.reads refl u.reads }

  -- a reader whose fault is known, which is handed on
  pub stop-on : {R S : Type 0} {see : R → A × ℕ} {look : S → B × ℕ} {x : Fault} {b : Result S Fault} → Finds s at q see (Err x) → IsErr b × IsErrAnd b (λ y. y ≡ x)
      → Finds s at (q >>= k) look b
  stop-on {x = x} {b = b} t h = record { reads = rw (handed b h) (halts x t.reads refl) }

-- what may be absent, and must be there
module _ {A B T S : Type 0} {s : List ℕ} {at : ℕ} (k : A → Reader B) (f : T → A) (o : Maybe T) {look : S → B × ℕ} {r : Result T Fault} {b : Result S Fault} where
  pub absent : {w : _} {x : _} → r ≡ ok_or o NoMatch → r ≡ result_from_control_flow w → w ≡ Break x → IsErr b × IsErrAnd b (λ y. y ≡ x.0) → Finds s at (or_miss (held_as f o) >>= k) look b
  absent {x = x} h e g u = by o h
    where
      by : (o : Maybe T) → r ≡ ok_or o NoMatch → Finds s at (or_miss (held_as f o) >>= k) look b
      by None h =
          let z : NoMatch ≡ x.0 = let v = broke e g in cc in
          record { reads = rw (handed b u, ← z) (stop-at k (miss-none refl) refl) }
      by (Some y) h = let v = broke e g in let z : ◌≡◌ {A = ℕ} 0 1 = cc in absurd (omega arith)

  pub present : {w : _} {x : T} → r ≡ ok_or o NoMatch → r ≡ result_from_control_flow w → w ≡ Continue x → Finds s at (k (f x)) look b → Finds s at (or_miss (held_as f o) >>= k) look b
  present {x = x} h e g t = by o h
    where
      by : (o : Maybe T) → r ≡ ok_or o NoMatch → Finds s at (or_miss (held_as f o) >>= k) look b
      by None h = let v = went e g in let z : ◌≡◌ {A = ℕ} 0 1 = cc in absurd (omega arith)
      by (Some y) h =
          let z : y ≡ x = let v = went e g in cc in
          record { reads = go-at k (miss-some (rw z)) refl t.reads }

module _ {B S : Type 0} {s : List ℕ} {at : ℕ} {look : S → B × ℕ} where
  pub done : {x : S} {a : B} → (look x).0 ≡ a → (look x).1 ≡ at → Finds s at (pure a) look (Ok x)
  done {x} {a} e f = record { reads = rw f (done-as e) }

  -- what was read means something, or there is no match
  pub means : {x : S} {o : Option B} → o ≡ some (look x).0 → (look x).1 ≡ at → Finds s at (or_miss o) look (Ok x)
  means e f = record { reads = rw f (miss-some e) }

  pub means-not : {o : Option B} → o ≡ none → Finds s at (or_miss o) look (Err NoMatch)
  means-not e = record { reads = miss-none e }

-- a reader that never refuses does not match, where it finds nothing
module _ {A : Type 0} {s : List ℕ} {at : ℕ} {q : Reader A} where
  unmatched : Faultless q → (e : Fault) → Reads s at q (faulted e) → q (drop at s) ≡ miss
  unmatched n NoMatch t = missed t refl
  unmatched n UnknownType t = absurd (n IsUnknown _ (barred t refl))
  unmatched n Number t = absurd (n IsNumber _ (barred t refl))
  unmatched n BadTime t = absurd (n IsBadTime _ (barred t refl))

  pub not-found : {R : Type 0} {see : R → A × ℕ} {r : Result R Fault} {e : Fault} → Faultless q → r ≡ Err e → Finds s at q see r → q (drop at s) ≡ miss
  not-found {e = e} n h t = let u : Reads s at q (faulted e) = rw h at t.reads in unmatched n e u

  pub opt-found : {R R' : Type 0} {see : R → A × ℕ} {look : R' → Option A × ℕ} {r : Result R Fault} {x : R} {y : R'} → r ≡ Ok x → (look y).0 ≡ some (see x).0
      → (look y).1 ≡ (see x).1
      → Finds s at q see r
      → Finds s at (opt q) look (Ok y)
  opt-found {see = see} e f g t = record { reads = rw (f, g) (opt-some q t.reads (ap (told see) e)) }

  pub opt-not : {R R' : Type 0} {see : R → A × ℕ} {look : R' → Option A × ℕ} {r : Result R Fault} {e : Fault} {y : R'} → Faultless q → r ≡ Err e → (look y).0 ≡ none
      → (look y).1 ≡ at
      → Finds s at q see r
      → Finds s at (opt q) look (Ok y)
  opt-not n h f g t = record { reads = rw (f, g) (opt-none q (no-read (not-found n h t)) refl) }

  -- one that may refuse
  pub opt-missed : {R R' : Type 0} {see : R → A × ℕ} {look : R' → Option A × ℕ} {r : Result R Fault} {y : R'} → r ≡ Err NoMatch → (look y).0 ≡ none → (look y).1 ≡ at
      → Finds s at q see r
      → Finds s at (opt q) look (Ok y)
  opt-missed {see = see} h f g t = record { reads = rw (f, g) (opt-none q t.reads (ap (told see) h)) }

  pub opt-fault : {R R' : Type 0} {see : R → A × ℕ} {look : R' → Option A × ℕ} {r : Result R Fault} (e : Fault) → r ≡ Err e → (e ≡ NoMatch → ⊥) → Finds s at q see r
      → Finds s at (opt q) look (Err e)
  opt-fault NoMatch h n t = absurd (n refl)
  opt-fault {see = see} UnknownType h n t = record { reads = opt-bad q t.reads (ap (told see) h) }
  opt-fault {see = see} Number h n t = record { reads = opt-bad q t.reads (ap (told see) h) }
  opt-fault {see = see} BadTime h n t = record { reads = opt-bad q t.reads (ap (told see) h) }

-- one reader or else another, where the first goes on with what it found
module _ {B S : Type 0} {s : List ℕ} {at : ℕ} {look : S → B × ℕ} (q' : Reader B) where
  pub alt-found : {r : Reader B} {y : S} → Finds s at r look (Ok y) → Finds s at (alt r q') look (Ok y)
  alt-found t = record { reads = alt-first q' t.reads }

  pub alt-not : {A R : Type 0} {q : Reader A} {see : R → A × ℕ} (k : A → Reader B) {b : Result S Fault} {e : Fault} → Faultless q → Finds s at q see (Err e) → Finds s at q' look b
      → Finds s at (alt (q >>= k) q') look b
  alt-not k n t u = record { reads = alt-second q' _ (stop-at k (no-read (not-found n refl t)) refl) u.reads }

pub ruleset finding = (stop, go, go-on, absent, present, done, means, means-not)
