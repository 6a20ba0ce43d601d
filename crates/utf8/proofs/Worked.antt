-- Worked texts, by computation; and a text of any length that is cut inside its last character, from the law on pieces.
-- Assumes nothing.
use Prim.Native.Nat.{ℕ}
use mathlib.Core.Path.{◌≡◌, refl}
use mathlib.Core.Bool.{true, false}
use mathlib.Core.List.{List, [], ◌∷◌, ◌++◌}
use mathlib.Core.Option.{some}
use lib.ListN.{replicate}
use Rattle.utf8.specs.Utf8.{follow, step, after, utf8, ascii}
use Rattle.utf8.proofs.Pieces.{after-append}
use Rattle.utf8.proofs.Ascii.{ascii-whole}

pub empty-text : utf8 [] ≡ true
unfolding after
empty-text = refl

-- U+00E9, a letter e with an acute accent
pub e-acute : utf8 (0xC3 ∷ 0xA9 ∷ []) ≡ true
unfolding after step follow
e-acute = refl

-- its first octet, and a parenthesis
pub no-tail : utf8 (0xC3 ∷ 0x28 ∷ []) ≡ false
unfolding after step follow
no-tail = refl

-- U+0000 in three octets
pub overlong : utf8 (0xE0 ∷ 0x80 ∷ 0x80 ∷ []) ≡ false
unfolding after step follow
overlong = refl

-- U+D800
pub surrogate : utf8 (0xED ∷ 0xA0 ∷ 0x80 ∷ []) ≡ false
unfolding after step follow
surrogate = refl

-- U+10FFFF
pub last : utf8 (0xF4 ∷ 0x8F ∷ 0xBF ∷ 0xBF ∷ []) ≡ true
unfolding after step follow
last = refl

-- U+110000
pub past-last : utf8 (0xF4 ∷ 0x90 ∷ 0x80 ∷ 0x80 ∷ []) ≡ false
unfolding after step follow
past-last = refl

-- any ASCII text, and the first octet of U+00E9
pub cut : (l : List ℕ) → ascii l ≡ true → utf8 (l ++ (0xC3 ∷ [])) ≡ false
unfolding after step follow
cut l e = rw (after-append (some []) l (0xC3 ∷ []), ascii-whole l e)

-- so 299 times x, and that octet
pub cut-300 : utf8 (replicate 299 0x78 ++ (0xC3 ∷ [])) ≡ false
unfolding ascii
cut-300 = cut (replicate 299 0x78) refl
