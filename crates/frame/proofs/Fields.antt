-- The checksum field, byte by byte: `*`, and two bytes that are digits, or not. And the type: three bytes that are known, or not.
-- Assumes nothing.
use Prim.Native.Nat.{ℕ, ◌+◌, ◌-◌, ◌*◌, ◌≤◌, ◌<◌}
use native.Mathlib.Omega.{arith}
use mathlib.Core.Path.{◌≡◌, refl, ap, ◌∙◌}
use mathlib.Core.Bool.{true, false}
use mathlib.Core.List.{List, [], ◌∷◌}
use mathlib.Core.Option.{Option, none, some}
use lib.ListN.{length, drop, get_or, length-drop}
use Rattle.text.specs.Bytes.{byte}
use Rattle.text.specs.Reader.{UnknownType, miss, refuse, got, char, or_miss}
use Rattle.frame.specs.Types.{types, listed}
use Rattle.frame.specs.Digits.{digit, lead_digit, sixteens, hex}
use Rattle.frame.specs.Frame.{taken, known, sentence_type, checksum_field}
use Rattle.text.proofs.Binds.{bind-miss, bind-got, char-here, char-other, miss-after}
use Rattle.frame.proofs.Taken.{two-of, three-of, taken-short, Rest, rest-three}

later-none : (o p : Option ℕ) → p ≡ none → sixteens o p ≡ none
later-none none p e = refl
later-none (some a) p e = rw e

field-short : (l : List ℕ) → length l < 3 → checksum_field l ≡ miss
unfolding checksum_field char
field-short [] h = bind-miss (char (byte "*")) _ [] refl
field-short (x ∷ l) h = miss-after (byte "*") _ x l (bind-miss (taken 2) _ l (short l (omega arith)))
  where
    short : (m : List ℕ) → length m < 2 → taken 2 m ≡ miss
    short m k = taken-short m 0 2 (omega arith)

pub field-of : (y z : ℕ) (l : List ℕ) → checksum_field (byte "*" ∷ y ∷ z ∷ l) ≡ or_miss (hex (y ∷ z ∷ [])) l
unfolding checksum_field
field-of y z l = bind-got (char (byte "*")) _ _ (char-here (byte "*") (y ∷ z ∷ l)) ∙ bind-got (taken 2) _ _ (two-of y z l)

field-other : (x : ℕ) (l : List ℕ) → (x ≡ byte "*" → ⊥) → checksum_field (x ∷ l) ≡ miss
unfolding checksum_field
field-other x l n = bind-miss (char (byte "*")) _ _ (char-other (byte "*") x l n)

module _ (y z : ℕ) (l : List ℕ) where
  field-got : {a b : ℕ} → lead_digit y ≡ some a → digit z ≡ some b → checksum_field (byte "*" ∷ y ∷ z ∷ l) ≡ got (a * 16 + b) l
  unfolding or_miss hex
  field-got e f = field-of y z l ∙ rw (e, f)

  field-lead : lead_digit y ≡ none → checksum_field (byte "*" ∷ y ∷ z ∷ l) ≡ miss
  unfolding or_miss hex
  field-lead e = field-of y z l ∙ rw e

  field-later : digit z ≡ none → checksum_field (byte "*" ∷ y ∷ z ∷ l) ≡ miss
  unfolding or_miss hex
  field-later e = field-of y z l ∙ rw (later-none (lead_digit y) (digit z) e)

-- at a place of a text
pub short-field : (s : List ℕ) (at : ℕ) → length s - at < 3 → checksum_field (drop at s) ≡ miss
short-field s at h = field-short (drop at s) (simp length-drop h)

-- three bytes of it, as `get` lends them
module _ {s : List ℕ} {at : ℕ} {p : List ℕ} (r : Rest s at p) (h : 3 ≤ length p) where
  pub other-field : (get_or p 0 0 ≡ byte "*" → ⊥) → checksum_field (drop at s) ≡ miss
  other-field n = ap checksum_field (rest-three r h) ∙ field-other _ _ n

  module _ (star : get_or p 0 0 ≡ byte "*") where
    starred : drop at s ≡ byte "*" ∷ get_or p 1 0 ∷ get_or p 2 0 ∷ drop (at + 3) s
    starred = rest-three r h ∙ ap (λ (x : ℕ). x ∷ get_or p 1 0 ∷ get_or p 2 0 ∷ drop (at + 3) s) star

    pub lead-field : lead_digit (get_or p 1 0) ≡ none → checksum_field (drop at s) ≡ miss
    lead-field e = ap checksum_field starred ∙ field-lead _ _ _ e

    pub later-field : digit (get_or p 2 0) ≡ none → checksum_field (drop at s) ≡ miss
    later-field e = ap checksum_field starred ∙ field-later _ _ _ e

    pub got-field : {a b : ℕ} → lead_digit (get_or p 1 0) ≡ some a → digit (get_or p 2 0) ≡ some b → checksum_field (drop at s) ≡ got (a * 16 + b) (drop (at + 3) s)
    got-field e f = ap checksum_field starred ∙ field-got _ _ _ e f

-- three bytes
type-of : (a b c : ℕ) (l : List ℕ) → sentence_type (a ∷ b ∷ c ∷ l) ≡ known (a ∷ b ∷ c ∷ []) l
unfolding sentence_type
type-of a b c l = bind-got (taken 3) _ _ (three-of a b c l)

module _ (a b c : ℕ) (l : List ℕ) where
  pub type-known : listed types (a ∷ b ∷ c ∷ []) ≡ true → sentence_type (a ∷ b ∷ c ∷ l) ≡ got (a ∷ b ∷ c ∷ []) l
  unfolding known
  type-known e = type-of a b c l ∙ rw e

  pub type-unknown : listed types (a ∷ b ∷ c ∷ []) ≡ false → sentence_type (a ∷ b ∷ c ∷ l) ≡ refuse UnknownType
  unfolding known
  type-unknown e = type-of a b c l ∙ rw e

pub short-type : (s : List ℕ) (at : ℕ) → length s - at < 3 → sentence_type (drop at s) ≡ miss
unfolding sentence_type
short-type s at h = bind-miss (taken 3) _ _ (taken-short s at 3 h)
