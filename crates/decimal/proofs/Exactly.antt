-- "A non-empty text that is not a plain decimal within limits is Number, exactly then": a decimal place answers Number where,
-- and only where, a text stands that 01's words do not call a plain decimal; a decimal where, and only where, they do. The
-- digits at a text's front and what follows them are put together again, and taken apart. Assumes nothing.
use Prim.Native.Nat.{ℕ, ◌<◌}
use native.Mathlib.Omega.{arith}
use mathlib.Core.Path.{◌≡◌, refl, ap, sym, ◌∙◌, subst}
use mathlib.Core.Bool.{Bool, true, false, cond, ◌&&◌}
use mathlib.Core.List.{List, [], ◌∷◌, ◌++◌, append-nil}
use mathlib.Core.Option.{Option, none, some, map}
use lib.ListN.{length, length-append}
use lib.Dec.{ltb, eqb}
use borrow.Author.Tests.{lt-ltb, ltb-true, eqb-true, ne_eqb}
use Rattle.text.specs.Bytes.{byte}
use Rattle.text.specs.Reader.{Parse, refuse, got, Number}
use Rattle.text.specs.Number.{AllDigits, is_digit, leading_digits, after_digits, value_from, only_digits}
use Rattle.text.proofs.Runs.{together, begin-digits, digits-front, after-front, value-append}
use Rattle.decimal.specs.Decimal.{Limits, Decimal, without_sign, negative, text, from_comma, fraction, in_limits, within, digits, plain, or_number, decimal}
use Rattle.decimal.specs.Plain.{Digits, Unsigned, unpointed, pointed, Plain, bare, minus}
use Rattle.decimal.proofs.Decimals.{fit}
use Rattle.decimal.proofs.Bounds.{Fit, fitting}

-- digits alone
alone : (ds : List ℕ) → AllDigits ds → leading_digits ds ≡ ds
alone ds h = ap leading_digits (sym (append-nil ds)) ∙ digits-front ds [] h refl

nothing-after : (ds : List ℕ) → AllDigits ds → after_digits ds ≡ []
nothing-after ds h = ap after_digits (sym (append-nil ds)) ∙ after-front ds [] h refl

no-length : (l : List ℕ) → length l ≡ 0 → l ≡ []
no-length [] e = refl
no-length (b ∷ l) e = absurd (omega arith)

-- what stands after the digits at the front
data Behind : List ℕ → List ℕ → Type 0 where
  end : Behind [] []
  point : {es : List ℕ} → Digits es → Behind (byte "." ∷ es) es

behind : (m : List ℕ) {es : List ℕ} → fraction m ≡ some es → Behind m es
behind [] {es} e = let h : [] ≡ es = cc in subst (λ (x : List ℕ). Behind [] x) h end
behind (b ∷ l) {es} e = by (eqb b (byte ".")) (ltb 0 (length (leading_digits l))) (eqb (length (after_digits l)) 0) refl refl refl e
  where
    by : (t u v : Bool) → eqb b (byte ".") ≡ t → ltb 0 (length (leading_digits l)) ≡ u → eqb (length (after_digits l)) 0 ≡ v
        → cond {A = Option (List ℕ)} (t && (u && v)) (some (leading_digits l)) none ≡ some es → Behind (b ∷ l) es
    by true true true p q r e =
        let h : leading_digits l ≡ es = cc in
        let z = no-length (after_digits l) (eqb-true (length (after_digits l)) 0 r) in
        let k : leading_digits l ≡ l = sym (append-nil (leading_digits l)) ∙ ap (λ (x : List ℕ). leading_digits l ++ x) (sym z) ∙ together l in
        let d : Digits (leading_digits l) = record { at_least_one = ltb-true 0 (length (leading_digits l)) q; all = begin-digits l } in
        let w : Behind (byte "." ∷ leading_digits l) (leading_digits l) = point d in
        subst (λ (x : List ℕ). Behind (b ∷ l) x) h
        (subst (λ (x : List ℕ). Behind x (leading_digits l)) (ap (λ (x : ℕ). x ∷ leading_digits l) (sym (eqb-true b (byte ".") p)) ∙ ap (λ (x : List ℕ). b ∷ x) k) w)
    by true true false p q r e = let y : ◌≡◌ {A = ℕ} 0 1 = cc in absurd (omega arith)
    by true false v p q r e = let y : ◌≡◌ {A = ℕ} 0 1 = cc in absurd (omega arith)
    by false u v p q r e = let y : ◌≡◌ {A = ℕ} 0 1 = cc in absurd (omega arith)

-- what the definition takes is digits within the limits
digits-says : (lim : Limits) (t : List ℕ) {d : Decimal} → digits lim t ≡ some d → Unsigned lim t d
digits-says lim t {d} e = by (ltb 0 (length (leading_digits t))) (fraction (after_digits t)) refl refl e
  where
    joined : {m es : List ℕ} → after_digits t ≡ m → Behind m es → 0 < length (leading_digits t) → Fit lim (length (leading_digits t)) (length es)
        → Unsigned lim t (without_sign (value_from (value_from 0 (leading_digits t)) es) (length es))
    joined g end z f =
        let k : leading_digits t ≡ t = sym (append-nil (leading_digits t)) ∙ ap (λ (x : List ℕ). leading_digits t ++ x) (sym g) ∙ together t in
        subst (λ (x : List ℕ). Unsigned lim x (without_sign (value_from 0 (leading_digits t)) 0)) k
        (unpointed (record { at_least_one = z; all = begin-digits t }) f.before (omega (arith, f.all)))
    joined {es = es} g (point p) z f =
        let k : leading_digits t ++ (byte "." ∷ es) ≡ t = ap (λ (x : List ℕ). leading_digits t ++ x) (sym g) ∙ together t in
        let w : Unsigned lim (leading_digits t ++ (byte "." ∷ es)) (without_sign (value_from 0 (leading_digits t ++ es)) (length es)) = pointed {ds = leading_digits t} {es = es} (record { at_least_one = z; all = begin-digits t }) p f.before f.after f.all in
        subst (λ (x : List ℕ). Unsigned lim x (without_sign (value_from (value_from 0 (leading_digits t)) es) (length es))) k
        (subst (λ (n : ℕ). Unsigned lim (leading_digits t ++ (byte "." ∷ es)) (without_sign n (length es))) (value-append 0 (leading_digits t) es) w)

    within-limits : (es : List ℕ) (u : Bool) → in_limits lim (length (leading_digits t)) (length es) ≡ u → 0 < length (leading_digits t) → Behind (after_digits t) es
        → cond {A = Option Decimal} u (some (without_sign (value_from (value_from 0 (leading_digits t)) es) (length es))) none ≡ some d → Unsigned lim t d
    within-limits es true f z g e =
        let h : without_sign (value_from (value_from 0 (leading_digits t)) es) (length es) ≡ d = cc in
        subst (λ (x : Decimal). Unsigned lim t x) h (joined refl g z (fitting lim (length (leading_digits t)) (length es) f))
    within-limits es false f z g e = let y : ◌≡◌ {A = ℕ} 0 1 = cc in absurd (omega arith)

    by : (u : Bool) (f : Option (List ℕ)) → ltb 0 (length (leading_digits t)) ≡ u → fraction (after_digits t) ≡ f
        → cond u (within lim (leading_digits t) f) none ≡ some d → Unsigned lim t d
    by true none g h e = let y : ◌≡◌ {A = ℕ} 0 1 = cc in absurd (omega arith)
    by true (some es) g h e = within-limits es (in_limits lim (length (leading_digits t)) (length es)) refl (ltb-true 0 (length (leading_digits t)) g) (behind (after_digits t) h) e
    by false f g h e = let y : ◌≡◌ {A = ℕ} 0 1 = cc in absurd (omega arith)

-- and such digits are what it takes
module _ (lim : Limits) where
  taken : (t ds m es : List ℕ) → leading_digits t ≡ ds → after_digits t ≡ m → fraction m ≡ some es → 0 < length ds → in_limits lim (length ds) (length es) ≡ true
      → digits lim t ≡ some (without_sign (value_from (value_from 0 ds) es) (length es))
  taken t ds m es e f g z h =
      ap (λ (x : List ℕ). cond (ltb 0 (length x)) (within lim x (fraction (after_digits t))) none) e
      ∙ ap (λ (x : List ℕ). cond (ltb 0 (length ds)) (within lim ds (fraction x)) none) f
      ∙ ap (λ (x : Option (List ℕ)). cond (ltb 0 (length ds)) (within lim ds x) none) g
      ∙ ap (λ (u : Bool). cond u (within lim ds (some es)) none) (lt-ltb 0 (length ds) z)
      ∙ ap (λ (u : Bool). cond u (some (without_sign (value_from (value_from 0 ds) es) (length es))) none) h

  says-digits : {t : List ℕ} {d : Decimal} → Unsigned lim t d → digits lim t ≡ some d
  says-digits (unpointed {ds} p h k) =
      taken ds ds [] [] (alone ds p.all) (nothing-after ds p.all) refl p.at_least_one (fit lim (length ds) 0 h (omega arith) (omega arith))
  says-digits (pointed {ds} {es} p q h k j) =
      let digit-run : only_digits es ≡ true = ap (λ (x : List ℕ). ltb 0 (length x) && eqb (length (after_digits es)) 0) (alone es q.all) ∙ ap (λ (x : List ℕ). ltb 0 (length es) && eqb (length x) 0) (nothing-after es q.all) ∙ ap (λ (u : Bool). u && true) (lt-ltb 0 (length es) q.at_least_one) in
      let part : fraction (byte "." ∷ es) ≡ some es = ap (λ (u : Bool). cond u (some (leading_digits es)) none) digit-run ∙ ap (λ (x : List ℕ). some x) (alone es q.all) in
      taken (ds ++ (byte "." ∷ es)) ds (byte "." ∷ es) es (digits-front ds (byte "." ∷ es) p.all refl) (after-front ds (byte "." ∷ es) p.all refl) part p.at_least_one (fit lim (length ds) (length es) h k j)
      ∙ ap (λ (n : ℕ). some (without_sign n (length es))) (sym (value-append 0 ds es))

  -- digits do not begin with a sign
  no-sign : (t : List ℕ) {d : Decimal} → digits lim t ≡ some d → plain lim t ≡ some d
  no-sign [] e = e
  no-sign (b ∷ t) {d} e = by (eqb b (byte "-")) refl
    where
      by : (u : Bool) → eqb b (byte "-") ≡ u → cond u (map negative (digits lim t)) (digits lim (b ∷ t)) ≡ some d
      by true f =
          let g : is_digit b ≡ false = ap is_digit (eqb-true b (byte "-") f) in
          let h : digits lim (b ∷ t) ≡ none = ap (λ (u : Bool). cond (ltb 0 (length (cond u (b ∷ leading_digits t) []))) (within lim (cond u (b ∷ leading_digits t) []) (fraction (cond u (after_digits t) (b ∷ t)))) none) g in
          let y : ◌≡◌ {A = ℕ} 0 1 = cc in
          absurd (omega arith)
      by false f = e

  -- what the definition takes is a plain decimal
  plain-says : (t : List ℕ) {d : Decimal} → plain lim t ≡ some d → Plain lim t d
  plain-says [] e = let y : ◌≡◌ {A = ℕ} 0 1 = cc in absurd (omega arith)
  plain-says (b ∷ t) {d} e = by (eqb b (byte "-")) refl e
    where
      behind : (o : Option Decimal) → b ≡ byte "-" → digits lim t ≡ o → map negative o ≡ some d → Plain lim (b ∷ t) d
      behind none f g e = let y : ◌≡◌ {A = ℕ} 0 1 = cc in absurd (omega arith)
      behind (some d') f g e =
          let h : negative d' ≡ d = cc in
          let w : Plain lim (byte "-" ∷ t) (negative d') = minus (digits-says lim t g) in
          subst (λ (x : Decimal). Plain lim (b ∷ t) x) h (subst (λ (x : ℕ). Plain lim (x ∷ t) (negative d')) (sym f) w)

      by : (u : Bool) → eqb b (byte "-") ≡ u → cond u (map negative (digits lim t)) (digits lim (b ∷ t)) ≡ some d → Plain lim (b ∷ t) d
      by true f e = behind (digits lim t) (eqb-true b (byte "-") f) refl e
      by false f e = bare (digits-says lim (b ∷ t) e)

  -- a plain decimal is what the definition takes
  says-plain : {t : List ℕ} {d : Decimal} → Plain lim t d → plain lim t ≡ some d
  says-plain (bare {t} u) = no-sign t (says-digits u)
  says-plain (minus u) = ap (λ (o : Option Decimal). map negative o) (says-digits u)

-- what stands at a place is a text, and no plain decimal within the limits
pub record NoDecimal (lim : Limits) (t : List ℕ) : Type 0 where
  pub stands : 0 < length t
  pub not-plain : (d : Decimal) → Plain lim t d → ⊥

module _ (lim : Limits) (l : List ℕ) where
  abbrev by-text : Bool → Parse (Option Decimal)
  by-text t = cond t (got none (from_comma l)) (or_number (plain lim (text l)) (from_comma l))

  abbrev by-plain : Option Decimal → Parse (Option Decimal)
  by-plain o = or_number o (from_comma l)

  standing : 0 < length (text l) → decimal lim l ≡ by-plain (plain lim (text l))
  unfolding decimal
  standing z = ap by-text (ne_eqb (length (text l)) 0 (λ e. omega arith))

  -- Number where no plain decimal stands
  pub number-where : NoDecimal lim (text l) → decimal lim l ≡ refuse Number
  number-where n = standing n.stands ∙ by (plain lim (text l)) refl
    where
      by : (o : Option Decimal) → plain lim (text l) ≡ o → by-plain (plain lim (text l)) ≡ refuse Number
      by none e = ap by-plain e
      by (some d) e = absurd (n.not-plain d (plain-says lim (text l) e))

  -- Number only there
  pub number-only : decimal lim l ≡ refuse Number → NoDecimal lim (text l)
  unfolding decimal
  number-only e = by (eqb (length (text l)) 0) refl e
    where
      no : (d : Decimal) → by-plain (plain lim (text l)) ≡ refuse Number → Plain lim (text l) d → ⊥
      no d e p =
          let h : by-plain (some d) ≡ refuse Number = ap by-plain (sym (says-plain lim p)) ∙ e in
          let y : ◌≡◌ {A = ℕ} 0 1 = cc in
          omega arith

      by : (t : Bool) → eqb (length (text l)) 0 ≡ t → by-text t ≡ refuse Number → NoDecimal lim (text l)
      by true f e = let y : ◌≡◌ {A = ℕ} 0 1 = cc in absurd (omega arith)
      by false f e = record { stands = some-length (text l) f; not-plain = λ d p. no d e p }
        where
          some-length : (t : List ℕ) → eqb (length t) 0 ≡ false → 0 < length t
          some-length [] g = let y : ◌≡◌ {A = ℕ} 0 1 = cc in absurd (omega arith)
          some-length (b ∷ t) g = omega arith

  -- a decimal where a plain one stands, and what is left begins at the comma
  pub decimal-where : {d : Decimal} → Plain lim (text l) d → decimal lim l ≡ got (some d) (from_comma l)
  decimal-where p = standing (length-of p) ∙ ap by-plain (says-plain lim p)
    where
      some-digits : {t : List ℕ} {d : Decimal} → Unsigned lim t d → 0 < length t
      some-digits (unpointed q h k) = q.at_least_one
      some-digits (pointed {ds} {es} q r h k j) = omega (arith, length-append ds (byte "." ∷ es), q.at_least_one)

      length-of : {t : List ℕ} {d : Decimal} → Plain lim t d → 0 < length t
      length-of (bare u) = some-digits u
      length-of (minus {t} u) = omega arith

  -- a decimal only there
  pub decimal-only : {d : Decimal} {m : List ℕ} → decimal lim l ≡ got (some d) m → Plain lim (text l) d × (m ≡ from_comma l)
  unfolding decimal
  decimal-only {d} {m} e = by (eqb (length (text l)) 0) e
    where
      plainly : (o : Option Decimal) → plain lim (text l) ≡ o → by-plain o ≡ got (some d) m → Plain lim (text l) d × (m ≡ from_comma l)
      plainly none f e = let y : ◌≡◌ {A = ℕ} 0 1 = cc in absurd (omega arith)
      plainly (some d') f e =
          let h : d' ≡ d = cc in
          let k : m ≡ from_comma l = cc in
          (plain-says lim (text l) (f ∙ ap (λ (x : Decimal). some x) h), k)

      by : (t : Bool) → by-text t ≡ got (some d) m → Plain lim (text l) d × (m ≡ from_comma l)
      by true e = let y : ◌≡◌ {A = ℕ} 0 1 = cc in absurd (omega arith)
      by false e = plainly (plain lim (text l)) refl e
