-- Where a reader answers Number: at one of its decimal places, if all that stands before the place is read and a text stands there
-- that is no plain decimal within its limits. Of a reader of parts the places are those of each part, behind what the parts before
-- it read, since nothing recovers from Number. And no part ends in another fault, so that the whole does not. Assumes nothing.
use Prim.Native.Nat.{ℕ}
use native.Mathlib.Omega.{arith}
use mathlib.Core.Path.{◌≡◌, refl, ap, sym, ◌∙◌, subst}
use mathlib.Core.List.{List, [], ◌∷◌, ◌++◌}
use mathlib.Core.Logic.{◌≢◌, ◌⊎◌, inl, inr}
use mathlib.Core.Option.{Option, none, some, map}
use lib.Dec.{eqb}
use lib.ListN.{length}
use Rattle.text.specs.Reader.{Fault, Parse, miss, refuse, got, Reader, Number, BadTime, ◌>>=◌, ◌>>◌, pure, opt, alt, or_try}
use Rattle.text.proofs.Binds.{bind-refuse, bind-got, unbind, pure-is}
use Rattle.text.proofs.Faults.{Clear, Never, Faultless, clear-got, clear-cond, clear-refuse, in-parts, never-bind, never-pure, opt-only, opt-there, never-opt, never-alt}
use Rattle.decimal.specs.Decimal.{Limits, Decimal, text, from_comma, plain, or_number, decimal, short, long}
use Rattle.decimal.specs.Places.{short_of, long_of, short_decimal, long_decimal}
use Rattle.decimal.proofs.Exactly.{NoDecimal, number-where, number-only}

-- a decimal place of a sentence: what is read before it, and its limits
pub record Place : Type 0 where
  pub before : Reader (Unit {0})
  pub limits : Limits

abbrev pub place : Limits → Reader (Unit {0}) → Place
place lim r = record { before = r; limits = lim }

-- nothing more is read before the place
unfoldable pub here : Reader (Unit {0})
here = pure tt

-- nom's not: a reader does not match here, and nothing is eaten
abbrev pub or_not : {A : Type 0} → Parse A → List ℕ → Parse (Unit {0})
or_not miss l = got tt l
or_not (refuse f) l = refuse f
or_not (got a m) l = miss

unfoldable pub unless : {A : Type 0} → Reader A → Reader (Unit {0})
unless r l = or_not (r l) l

-- then nothing was eaten
unmatched : {A : Type 0} (r : Reader A) (l : List ℕ) {u : Unit {0}} {m : List ℕ} → unless r l ≡ got u m → (r l ≡ miss) × (m ≡ l)
unfolding unless
unmatched {A} r l {u} {m} e = by (r l) refl e
  where
    by : (p : Parse A) → r l ≡ p → or_not p l ≡ got u m → (r l ≡ miss) × (m ≡ l)
    by miss f e = (f, cc)
    by (refuse x) f e = let z : ◌≡◌ {A = ℕ} 0 1 = cc in absurd (omega arith)
    by (got a k) f e = let z : ◌≡◌ {A = ℕ} 0 1 = cc in absurd (omega arith)

-- the place is reached, and the text there, up to the next comma or the end, is not empty and no plain decimal within the limits
pub record Bad (p : Place) (l : List ℕ) : Type 0 where
  pub rest : List ℕ
  pub reached : p.before l ≡ got tt rest
  pub no-decimal : NoDecimal p.limits (text rest)

-- one of the places is
abbrev pub OneBad : List Place → List ℕ → Type 0
OneBad [] l = ⊥
OneBad (p ∷ ps) l = Bad p l ⊎ OneBad ps l

-- the reader answers Number exactly where one of these places is bad, and ends in no other fault
pub record NumberAt {A : Type 0} (r : Reader A) (ps : List Place) : Type 0 where
  pub only : (l : List ℕ) → r l ≡ refuse Number → OneBad ps l
  pub there : (l : List ℕ) → OneBad ps l → r l ≡ refuse Number
  pub other : (f : Fault) → Number ≢ f → Never f r

-- so not in BadTime
pub no-bad-time : {A : Type 0} {r : Reader A} {ps : List Place} → NumberAt r ps → Never BadTime r
no-bad-time h = h.other BadTime (λ e. let z : ◌≡◌ {A = ℕ} 0 1 = cc in omega arith)

-- places that stand behind what a reader reads
abbrev pub behind : {A : Type 0} → Reader A → List Place → List Place
behind r [] = []
behind r (p ∷ ps) = place p.limits (r >> p.before) ∷ behind r ps

append : (ps qs : List Place) (l : List ℕ) → OneBad ps l ⊎ OneBad qs l → OneBad (ps ++ qs) l
append [] qs l (inl x) = absurd x
append [] qs l (inr y) = y
append (p ∷ ps) qs l (inl (inl x)) = inl x
append (p ∷ ps) qs l (inl (inr x)) = inr (append ps qs l (inl x))
append (p ∷ ps) qs l (inr y) = inr (append ps qs l (inr y))

unappend : (ps qs : List Place) (l : List ℕ) → OneBad (ps ++ qs) l → OneBad ps l ⊎ OneBad qs l
unappend [] qs l y = inr y
unappend (p ∷ ps) qs l (inl x) = inl (inl x)
unappend (p ∷ ps) qs l (inr y) = by (unappend ps qs l y)
  where
    by : OneBad ps l ⊎ OneBad qs l → OneBad (p ∷ ps) l ⊎ OneBad qs l
    by (inl x) = inl (inr x)
    by (inr z) = inr z

module _ {A : Type 0} (r : Reader A) (l : List ℕ) where
  -- what the reader read, and a bad place behind it
  record Then (ps : List Place) : Type 0 where
    value : A
    rest : List ℕ
    reads : r l ≡ got value rest
    bad : OneBad ps rest

  go-on : (ps : List Place) (a : A) (m : List ℕ) → r l ≡ got a m → OneBad ps m → OneBad (behind r ps) l
  go-on [] a m e x = elim x [ ]
  go-on (p ∷ ps) a m e (inl b) =
      inl (record { rest = b.rest; reached = bind-got r (λ _. p.before) l e ∙ b.reached; no-decimal = b.no-decimal })
  go-on (p ∷ ps) a m e (inr b) = inr (go-on ps a m e b)

  come-from : (ps : List Place) → OneBad (behind r ps) l → Then ps
  come-from [] x = elim x [ ]
  come-from (p ∷ ps) (inl b) =
      let u = unbind r (λ _. p.before) l b.reached in
      record {
        value = u.value;
        rest = u.between;
        reads = u.one;
        bad = inl (record { rest = b.rest; reached = u.then; no-decimal = b.no-decimal });
      }
  come-from (p ∷ ps) (inr b) =
      let t = come-from ps b in
      record { value = t.value; rest = t.rest; reads = t.reads; bad = inr t.bad }

-- a reader with no decimal place
pub never : {A : Type 0} {r : Reader A} → Faultless r → NumberAt r []
never h = record { only = h Number; there = λ l x. absurd x; other = λ f n. h f }

module _ {A B : Type 0} {r : Reader A} {k : A → Reader B} {ps : List Place} (h : NumberAt r ps) where
  -- one reader and then another
  pub both : {qs : List Place} → ((a : A) → NumberAt (k a) qs) → NumberAt (r >>= k) (ps ++ behind r qs)
  both {qs} g =
      record {
        only = only;
        there = λ l x. there l (unappend ps (behind r qs) l x);
        other = λ f n. never-bind (h.other f n) (λ a. (g a).other f n);
      }
    where
      only : (l : List ℕ) → (r >>= k) l ≡ refuse Number → OneBad (ps ++ behind r qs) l
      only l e =
          in-parts r k l (OneBad (ps ++ behind r qs) l)
          (λ x. append ps (behind r qs) l (inl (h.only l x)))
          (λ a m x y. append ps (behind r qs) l (inr (go-on r l qs a m x ((g a).only m y))))
          e

      there : (l : List ℕ) → OneBad ps l ⊎ OneBad (behind r qs) l → (r >>= k) l ≡ refuse Number
      there l (inl x) = bind-refuse r k l (h.there l x)
      there l (inr y) =
          let t = come-from r l qs y in
          bind-got r k l t.reads ∙ (g t.value).there t.rest t.bad

  -- what follows ends in no fault, which may go by what was read
  pub first-at : ((l : List ℕ) (a : A) (m : List ℕ) → r l ≡ got a m → (f : Fault) → Clear f (k a m)) → NumberAt (r >>= k) ps
  first-at g =
      record {
        only = λ l. in-parts r k l (OneBad ps l) (h.only l) (λ a m x y. absurd (g l a m x Number y));
        there = λ l x. bind-refuse r k l (h.there l x);
        other = λ f n l. in-parts r k l ⊥ (h.other f n l) (λ a m x. g l a m x f);
      }

  pub first : ((a : A) → Faultless (k a)) → NumberAt (r >>= k) ps
  first g = first-at (λ l a m x f. g a f m)

module _ {A : Type 0} where
  pub optional : {r : Reader A} {ps : List Place} → NumberAt r ps → NumberAt (opt r) ps
  optional {r} h =
      record {
        only = λ l e. h.only l (opt-only r l e);
        there = λ l x. opt-there r l (h.there l x);
        other = λ f n. never-opt (h.other f n);
      }

  module _ {r q : Reader A} {qs : List Place} (n : Faultless r) (h : NumberAt q qs) where
    -- of two readers, where the first does not match: the second's places
    second-only : (l : List ℕ) (p : Parse A) → r l ≡ p → or_try p (q l) ≡ refuse Number → (r l ≡ miss) × OneBad qs l
    second-only l miss f e = (f, h.only l e)
    second-only l (refuse x) f e = absurd (n Number l (f ∙ e))
    second-only l (got a m) f e = absurd (clear-got a m e)

    second-there : (l : List ℕ) → r l ≡ miss → OneBad qs l → alt r q l ≡ refuse Number
    unfolding alt
    second-there l f x = ap (λ (p : Parse A). or_try p (q l)) f ∙ h.there l x

    pub otherwise : NumberAt (alt r q) (behind (unless r) qs)
    unfolding alt unless
    otherwise =
        record {
          only = λ l e. only l (second-only l (r l) refl e);
          there = there;
          other = λ f x. never-alt (n f) (h.other f x);
        }
      where
        only : (l : List ℕ) → (r l ≡ miss) × OneBad qs l → OneBad (behind (unless r) qs) l
        only l w = go-on (unless r) l qs tt l (ap (λ (p : Parse A). or_not p l) w.0) w.1

        there : (l : List ℕ) → OneBad (behind (unless r) qs) l → alt r q l ≡ refuse Number
        there l y =
            let t = come-from (unless r) l qs y in
            let w = unmatched r l t.reads in
            second-there l w.0 (subst (OneBad qs) w.1 t.bad)

    -- where no text at such a place lets the first match
    pub apart : ((l : List ℕ) → OneBad qs l → r l ≡ miss) → NumberAt (alt r q) qs
    unfolding alt
    apart g =
        record {
          only = λ l e. (second-only l (r l) refl e).1;
          there = λ l x. second-there l (g l x) x;
          other = λ f x. never-alt (n f) (h.other f x);
        }

-- a decimal place by itself
pub decimal-number : (lim : Limits) → NumberAt (decimal lim) (place lim here ∷ [])
unfolding here pure decimal
decimal-number lim =
    record {
      only = λ l e. inl (record { rest = l; reached = refl; no-decimal = number-only lim l e });
      there = there;
      other = λ f n l. clear-cond (eqb (length (text l)) 0) (clear-got none (from_comma l)) (no-other f n (plain lim (text l)) (from_comma l));
    }
  where
    there : (l : List ℕ) → OneBad (place lim here ∷ []) l → decimal lim l ≡ refuse Number
    there l (inl b) = number-where lim l (subst (λ (m : List ℕ). NoDecimal lim (text m)) (sym (pure-is b.reached).1) b.no-decimal)
    there l (inr x) = absurd x

    no-other : (f : Fault) → Number ≢ f → (o : Option Decimal) (m : List ℕ) → Clear f (or_number o m)
    no-other f n none m = clear-refuse n
    no-other f n (some d) m = clear-got (some d) m

pub short-number : NumberAt short_decimal (place short here ∷ [])
unfolding short_decimal
short-number = first (decimal-number short) (λ d f. never-pure (map short_of d))

pub long-number : NumberAt long_decimal (place long here ∷ [])
unfolding long_decimal
long-number = first (decimal-number long) (λ d f. never-pure (map long_of d))
