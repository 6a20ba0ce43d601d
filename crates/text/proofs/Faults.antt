-- Where a reader ends in one fault: a reader of parts does where one of its parts does, on the text that those before it left, since
-- nothing recovers from a fault. So a reader whose parts never end in it never does. Assumes nothing.
use Prim.Native.Nat.{ℕ, zero, suc}
use native.Mathlib.Omega.{arith}
use mathlib.Core.Path.{◌≡◌, refl, ap, ◌∙◌}
use mathlib.Core.Logic.{◌≢◌}
use mathlib.Core.Bool.{Bool, true, false, cond, ◌||◌}
use mathlib.Core.List.{List, [], ◌∷◌, ◌++◌}
use mathlib.Core.Option.{Option, none, some}
use lib.Dec.{eqb, leb, ltb}
use lib.ListN.{length, take, drop}
use Rattle.text.specs.Reader.{Fault, Parse, miss, refuse, got, Reader, after, ◌>>=◌, pure, opt, or_none, alt, or_try, or_miss, char, one_of, among, letter_of, prepend, until}
use Rattle.text.specs.Many.{again, many, past, skip, take_while1, eof, all_consuming, one_of3}
use Rattle.text.specs.Number.{unsigned, up_to, fixed, leading_digits, after_digits, value_from, number_from, number}

-- no end in `f`, of one text and of any
abbrev pub Clear : Fault → {A : Type 0} → Parse A → Type 0
Clear f p = p ≡ refuse f → ⊥

abbrev pub Never : Fault → {A : Type 0} → Reader A → Type 0
Never f r = (l : List ℕ) → Clear f (r l)

-- no end in any fault
abbrev pub Faultless : {A : Type 0} → Reader A → Type 0
Faultless r = (f : Fault) → Never f r

module _ {f : Fault} where
  module _ {A : Type 0} where
    pub clear-miss : Clear f {A = A} miss
    clear-miss e = let z : ◌≡◌ {A = ℕ} 0 1 = cc in omega arith

    pub clear-got : (a : A) (l : List ℕ) → Clear f (got a l)
    clear-got a l e = let z : ◌≡◌ {A = ℕ} 0 1 = cc in omega arith

    pub clear-cond : (t : Bool) {p q : Parse A} → Clear f p → Clear f q → Clear f (cond t p q)
    clear-cond true h k = h
    clear-cond false h k = k

  -- an end in another
  pub clear-refuse : {A : Type 0} {x : Fault} → x ≢ f → Clear f {A = A} (refuse x)
  clear-refuse n e = n cc

  -- a fault that is handed on
  same : {A B : Type 0} {x : Fault} → ◌≡◌ {A = Parse B} (refuse x) (refuse f) → ◌≡◌ {A = Parse A} (refuse x) (refuse f)
  same e = cc

  clear-prepend : {A : Type 0} (xs : List A) (q : Parse (List A)) → Clear f q → Clear f (prepend xs q)
  clear-prepend xs miss g e = clear-miss e
  clear-prepend xs (refuse x) g e = g (same e)
  clear-prepend xs (got ys m) g e = clear-got (xs ++ ys) m e

  -- one reader and then another
  module _ {A B : Type 0} (r : Reader A) (k : A → Reader B) where
    pub in-parts : (l : List ℕ) (C : Type 0) → (r l ≡ refuse f → C) → ((a : A) (m : List ℕ) → r l ≡ got a m → k a m ≡ refuse f → C)
        → (r >>= k) l ≡ refuse f → C
    unfolding ◌>>=◌
    in-parts l C first second e = by (r l) refl e
      where
        by : (p : Parse A) → r l ≡ p → after p k ≡ refuse f → C
        by miss g e = absurd (clear-miss e)
        by (refuse x) g e = first (g ∙ same e)
        by (got a m) g e = second a m g e

  pub never-bind : {A B : Type 0} {r : Reader A} {k : A → Reader B} → Never f r → ((a : A) → Never f (k a)) → Never f (r >>= k)
  never-bind {r = r} {k = k} h g l e = in-parts r k l ⊥ (h l) (λ a m _. g a m) e

  module _ {A : Type 0} where
    pub never-pure : (a : A) → Never f (pure a)
    unfolding pure
    never-pure a l e = clear-got a l e

    pub never-or_miss : (o : Option A) → Never f (or_miss o)
    unfolding or_miss
    never-or_miss none l e = clear-miss e
    never-or_miss (some a) l e = clear-got a l e

    pub opt-only : (r : Reader A) (l : List ℕ) → opt r l ≡ refuse f → r l ≡ refuse f
    unfolding opt
    opt-only r l e = by (r l) e
      where
        by : (p : Parse A) → or_none p l ≡ refuse f → p ≡ refuse f
        by miss e = absurd (clear-got none l e)
        by (refuse x) e = cc
        by (got a m) e = absurd (clear-got (some a) m e)

    pub opt-there : (r : Reader A) (l : List ℕ) → r l ≡ refuse f → opt r l ≡ refuse f
    unfolding opt
    opt-there r l e = ap (λ (p : Parse A). or_none p l) e

    pub never-opt : {r : Reader A} → Never f r → Never f (opt r)
    never-opt {r} h l e = h l (opt-only r l e)

    pub never-alt : {r q : Reader A} → Never f r → Never f q → Never f (alt r q)
    unfolding alt
    never-alt {r} {q} h k l e = by (r l) (h l) e
      where
        by : (p : Parse A) → Clear f p → Clear f (or_try p (q l))
        by miss g = k l
        by (refuse x) g = g
        by (got a m) g = g

    pub never-many : {r : Reader A} → Never f r → (n : ℕ) → Never f (many n r)
    unfolding many
    never-many h zero l e = clear-got [] l e
    never-many {r} h (suc n) l e = by (r l) (h l) (never-many h n) e
      where
        by : (p : Parse A) → Clear f p → Never f (many n r) → Clear f (again p l (many n r))
        by miss g rest e = clear-got [] l e
        by (refuse x) g rest e = g (same e)
        by (got a m) g rest e = clear-prepend (a ∷ []) (many n r m) (rest m) e

  pub never-char : (c : ℕ) → Never f (char c)
  unfolding char
  never-char c [] e = clear-miss e
  never-char c (b ∷ l) e = clear-cond (eqb b c) (clear-got tt l) clear-miss e

  pub never-one_of : (a b : ℕ) → Never f (one_of a b)
  unfolding one_of
  never-one_of a b [] e = clear-miss e
  never-one_of a b (c ∷ l) e = clear-cond (eqb c a || eqb c b) (clear-got c l) clear-miss e

  pub never-one_of3 : (a b c : ℕ) → Never f (one_of3 a b c)
  unfolding one_of3
  never-one_of3 a b c [] e = clear-miss e
  never-one_of3 a b c (d ∷ l) e = clear-cond (eqb d a || (eqb d b || eqb d c)) (clear-got d l) clear-miss e

  pub never-letter_of : (letters : List ℕ) → Never f (letter_of letters)
  unfolding letter_of
  never-letter_of letters [] e = clear-miss e
  never-letter_of letters (b ∷ l) e = clear-cond (among b letters) (clear-got b l) clear-miss e

  pub never-number : (max : ℕ) → Never f (number max)
  unfolding number number_from
  never-number max l e =
      clear-cond (ltb 0 (length (leading_digits l)))
      (clear-cond (leb (value_from 0 (leading_digits l)) max) (clear-got (value_from 0 (leading_digits l)) (after_digits l)) clear-miss)
      clear-miss
      e

  pub never-fixed : (n max : ℕ) → Never f (fixed n max)
  unfolding fixed
  never-fixed n max l e = clear-cond (leb n (length l)) (in-range (unsigned (take n l)) (drop n l)) clear-miss e
    where
      in-range : (o : Option ℕ) (m : List ℕ) → Clear f (up_to max o m)
      in-range none m e = clear-miss e
      in-range (some v) m e = clear-cond (leb v max) (clear-got v m) clear-miss e

  pub never-take_while1 : (c : ℕ) → Never f (take_while1 c)
  unfolding take_while1 skip
  never-take_while1 c = never-bind (never-char c) (λ _ l. clear-got tt (past c l))

  pub never-all_consuming : {A : Type 0} {r : Reader A} → Never f r → Never f (all_consuming r)
  unfolding all_consuming eof
  never-all_consuming h = never-bind h (λ a. never-bind never-eof (λ _. never-pure a))
    where
      never-eof : Never f eof
      never-eof [] e = clear-got tt [] e
      never-eof (b ∷ l) e = clear-miss e

  pub never-until : (c : ℕ) → Never f (until c)
  unfolding until
  never-until c [] e = clear-miss e
  never-until c (b ∷ l) e = clear-cond (eqb b c) (clear-got [] (b ∷ l)) (clear-prepend (b ∷ []) (until c l) (never-until c l)) e
