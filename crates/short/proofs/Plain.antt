-- The shortest data are digits and commas: so they are ASCII, have no `*`, and nothing in them ends a line. Assumes nothing.
use Prim.Native.Nat.{ℕ, zero, suc, ◌≤◌, ◌<◌}
use native.Mathlib.Omega.{arith}
use mathlib.Core.Path.{◌≡◌, refl}
use mathlib.Core.Bool.{true, and-eq-true_iff}
use mathlib.Core.List.{List, [], ◌∷◌, ◌++◌}
use mathlib.Core.Option.{Option, none, some}
use lib.Dec.{ltb}
use lib.ListN.{get_or}
use borrow.Author.Tests.{lt-ltb}
use Rattle.utf8.specs.Utf8.{ascii}
use Rattle.lines.specs.Lines.{carriage_return, Lined}
use Rattle.text.specs.Bytes.{byte}
use Rattle.frame.proofs.Until.{Clear, none as clear-none, more as clear-more}
use Rattle.gsv.specs.Gsv.{Satellite}
use Rattle.text.specs.Number.{AllDigits}
use Rattle.short.specs.Digits.{digits_of}
use Rattle.short.specs.Texts.{opt_text, entry_text, entries_text, data_text}
use Rattle.short.proofs.Digits.{digit-range, are-digits}

-- each byte is one from the comma to the digit 9
abbrev Plain : List ℕ → Type 0
Plain [] = Unit {0}
Plain (b ∷ l) = ((byte "," ≤ b) × (b ≤ byte "9")) × Plain l

digits-plain : (ds : List ℕ) → AllDigits ds → Plain ds
digits-plain [] p = tt
digits-plain (b ∷ ds) p = let r = digit-range b p.0 in ((omega arith, omega arith), digits-plain ds p.1)

number-plain : (n : ℕ) → Plain (digits_of n)
number-plain n = digits-plain (digits_of n) (are-digits n)

opt-plain : (o : Option ℕ) → Plain (opt_text o)
opt-plain none = tt
opt-plain (some n) = number-plain n

-- a text, a comma and a text
joined : (a b : List ℕ) → Plain a → Plain b → Plain (a ++ byte "," ∷ b)
joined [] b p q = ((omega arith, omega arith), q)
joined (x ∷ a) b p q = (p.0, joined a b p.1 q)

entry-plain : (s : Satellite) → Plain (entry_text s)
unfolding entry_text
entry-plain s =
    let c : List ℕ = opt_text s.azimuth ++ byte "," ∷ opt_text s.signal in
    let b : List ℕ = opt_text s.elevation ++ byte "," ∷ c in
    joined (digits_of s.id) b (number-plain s.id)
    (joined (opt_text s.elevation) c (opt-plain s.elevation)
    (joined (opt_text s.azimuth) (opt_text s.signal) (opt-plain s.azimuth) (opt-plain s.signal)))

entries-plain : (es : List Satellite) → Plain (entries_text es)
entries-plain [] = tt
entries-plain (s ∷ []) = entry-plain s
entries-plain (s ∷ t ∷ ts) = joined (entry_text s) (entries_text (t ∷ ts)) (entry-plain s) (entries-plain (t ∷ ts))

data-plain : (n k v : ℕ) (es : List Satellite) → Plain (data_text n k v es)
unfolding data_text
data-plain n k v es =
    let c : List ℕ = digits_of v ++ byte "," ∷ entries_text es in
    let b : List ℕ = digits_of k ++ byte "," ∷ c in
    joined (digits_of n) b (number-plain n)
    (joined (digits_of k) c (number-plain k) (joined (digits_of v) (entries_text es) (number-plain v) (entries-plain es)))

low-byte : (b : ℕ) (l : List ℕ) → b < 128 → ascii l ≡ true → ascii (b ∷ l) ≡ true
unfolding ascii
low-byte b l h e = (and-eq-true_iff (ltb b 128) (ascii l)).1 (lt-ltb b 128 h, e)

plain-ascii : (l : List ℕ) → Plain l → ascii l ≡ true
unfolding ascii
plain-ascii [] p = refl
plain-ascii (b ∷ l) p = low-byte b l (omega arith) (plain-ascii l p.1)

plain-clear : (l : List ℕ) → Plain l → Clear (byte "*") l
plain-clear [] p = clear-none
plain-clear (b ∷ l) p =
    let other : b ≡ byte "*" → ⊥ = λ e. omega arith in
    clear-more other (plain-clear l p.1)

-- each byte is above the carriage return, and so above the line feed
abbrev pub Above : List ℕ → Type 0
Above [] = Unit {0}
Above (b ∷ l) = (carriage_return < b) × Above l

pub above-append : (a b : List ℕ) → Above a → Above b → Above (a ++ b)
above-append [] b p q = q
above-append (x ∷ a) b p q = (p.0, above-append a b p.1 q)

plain-above : (l : List ℕ) → Plain l → Above l
plain-above [] p = tt
plain-above (b ∷ l) p = (omega arith, plain-above l p.1)

no-such : (c : ℕ) → 0 < c → c ≤ carriage_return → (l : List ℕ) → Above l → (i : ℕ) → get_or l i 0 ≡ c → ⊥
no-such c z h [] p zero e = omega arith
no-such c z h [] p (suc i) e = omega arith
no-such c z h (b ∷ l) p zero e = omega (arith, p.0)
no-such c z h (b ∷ l) p (suc i) e = no-such c z h l p.1 i e

-- such bytes are a line that a log can have
pub above-lined : (l : List ℕ) → Above l → Lined l
above-lined l p = record { no-feed = no-such 10 (omega arith) (omega arith) l p; no_return = no-such 13 (omega arith) (omega arith) l p _ }

module _ (n k v : ℕ) (es : List Satellite) where
  pub data-ascii : ascii (data_text n k v es) ≡ true
  data-ascii = plain-ascii (data_text n k v es) (data-plain n k v es)

  pub data-above : Above (data_text n k v es)
  data-above = plain-above (data_text n k v es) (data-plain n k v es)

  pub data-clear : Clear (byte "*") (data_text n k v es)
  data-clear = plain-clear (data_text n k v es) (data-plain n k v es)

pub ascii-append : (a b : List ℕ) → ascii a ≡ true → ascii b ≡ true → ascii (a ++ b) ≡ true
unfolding ascii
ascii-append [] b p q = q
ascii-append (x ∷ a) b p q =
    let w = (and-eq-true_iff (ltb x 128) (ascii a)).0 p in
    (and-eq-true_iff (ltb x 128) (ascii (a ++ b))).1 (w.0, ascii-append a b w.1 q)
