-- RFC 3629, section 4, "Syntax of UTF-8 Byte Sequences": its ABNF by its own names and in its order, and the texts that it derives.
use Rattle.std.specs.Prelude.{ℕ, ◌≤◌}
use mathlib.Core.List.{List, [], ◌∷◌, ◌++◌, Memᴰ}

-- the octets from the first number to the second: %x80-BF is (0x80, 0xBF), and %xE0 is (0xE0, 0xE0)
abbrev pub Range : Type 0
Range = ℕ × ℕ

-- UTF8-tail = %x80-BF
abbrev pub utf8_tail : Range
utf8_tail = (0x80, 0xBF)

-- UTF8-1 = %x00-7F; here and below an alternative is a row, which has the range of each of its octets
abbrev pub utf8_1 : List (List Range)
utf8_1 = ((0x00, 0x7F) ∷ []) ∷ []

-- UTF8-2 = %xC2-DF UTF8-tail
abbrev pub utf8_2 : List (List Range)
utf8_2 = ((0xC2, 0xDF) ∷ utf8_tail ∷ []) ∷ []

-- UTF8-3 = %xE0 %xA0-BF UTF8-tail / %xE1-EC 2( UTF8-tail ) / %xED %x80-9F UTF8-tail / %xEE-EF 2( UTF8-tail )
abbrev pub utf8_3 : List (List Range)
utf8_3 =
    ((0xE0, 0xE0) ∷ (0xA0, 0xBF) ∷ utf8_tail ∷ [])
    ∷ ((0xE1, 0xEC) ∷ utf8_tail ∷ utf8_tail ∷ [])
    ∷ ((0xED, 0xED) ∷ (0x80, 0x9F) ∷ utf8_tail ∷ [])
    ∷ ((0xEE, 0xEF) ∷ utf8_tail ∷ utf8_tail ∷ [])
    ∷ []

-- UTF8-4 = %xF0 %x90-BF 2( UTF8-tail ) / %xF1-F3 3( UTF8-tail ) / %xF4 %x80-8F 2( UTF8-tail )
abbrev pub utf8_4 : List (List Range)
utf8_4 =
    ((0xF0, 0xF0) ∷ (0x90, 0xBF) ∷ utf8_tail ∷ utf8_tail ∷ [])
    ∷ ((0xF1, 0xF3) ∷ utf8_tail ∷ utf8_tail ∷ utf8_tail ∷ [])
    ∷ ((0xF4, 0xF4) ∷ (0x80, 0x8F) ∷ utf8_tail ∷ utf8_tail ∷ [])
    ∷ []

-- UTF8-char = UTF8-1 / UTF8-2 / UTF8-3 / UTF8-4
abbrev pub utf8_char : List (List Range)
utf8_char = utf8_1 ++ utf8_2 ++ utf8_3 ++ utf8_4

-- ABNF's concatenation: the octets match a row where there is one for each of its ranges, and it lies in that range
pub data Matches : List Range → List ℕ → Type 0 where
  end : Matches [] []
  octet : {r : Range} {row : List Range} {b : ℕ} {c : List ℕ} → r.0 ≤ b → b ≤ r.1 → Matches row c → Matches (r ∷ row) (b ∷ c)

-- UTF8-octets = *( UTF8-char ): no octets, or octets that match a member (`List.Memᴰ`) of UTF8-char, and then UTF8-octets
pub data Octets : List ℕ → Type 0 where
  empty : Octets []
  char : {row : List Range} {c l : List ℕ} → Memᴰ row utf8_char → Matches row c → Octets l → Octets (c ++ l)
