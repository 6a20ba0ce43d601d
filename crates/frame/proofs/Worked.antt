-- Worked lines of 01, and a few more, as rows of one statement: computed from the definition. A text of 300 bytes that ends inside a
-- character is not valid, whatever its length. Assumes nothing.
use Prim.Native.Nat.{ℕ}
use mathlib.Core.Path.{◌≡◌, refl}
use mathlib.Core.List.{List, [], ◌∷◌, ◌++◌, map}
use lib.ListN.{replicate}
use Rattle.utf8.specs.Utf8.{follow, step, after, ascii}
use Rattle.utf8.proofs.Worked.{cut-300}
use Rattle.text.specs.Bytes.{byte, bytes}
use Rattle.text.specs.Reader.{◌>>=◌, pure, or_miss, char, until}
use Rattle.frame.specs.Refused.{bad_utf8, not_ascii, too_long, syntax_error, unknown_type, bad_checksum}
use Rattle.frame.specs.Types.{types, alike, listed}
use Rattle.frame.specs.Checksum.{checksum_from}
use Rattle.frame.specs.Digits.{digit, hex}
use Rattle.frame.specs.Frame.{Outcome, accepted, refused, taken, known, sentence_type, checksum_field, sentence, sized, frame}
use Rattle.frame.proofs.Judged.{frame-bad}

-- a line, and its outcome
abbrev Row : Type 0
Row = List ℕ × Outcome

abbrev rows : List Row
rows =
    ([], refused syntax_error)
    ∷ (replicate 102 (byte "x"), refused syntax_error)
    ∷ (replicate 103 (byte "x"), refused (too_long 103))
    ∷ (0xC3 ∷ 0xA9 ∷ [], refused not_ascii)
    ∷ (0xC3 ∷ 0x28 ∷ [], refused bad_utf8)
    ∷ (0xED ∷ 0xA0 ∷ 0x80 ∷ [], refused bad_utf8)
    ∷ (bytes "$GPGSA,A,1,,,,*32", accepted (record { talker = bytes "GP"; kind = bytes "GSA"; checksum = 0x32; from = 7; to = 14; text = bytes "A,1,,,," }))
    ∷ (bytes "$GPGSA,A,1,,,,*33", refused (bad_checksum 50 51))
    ∷ (bytes "$GPXYZ", refused unknown_type)
    ∷ (bytes "$GPGS", refused syntax_error)
    ∷ (bytes "$GPTXT,i*+A", accepted (record { talker = bytes "GP"; kind = bytes "TXT"; checksum = 10; from = 7; to = 8; text = bytes "i" }))
    ∷ (bytes "$GPTXT,i*0a, and more", accepted (record { talker = bytes "GP"; kind = bytes "TXT"; checksum = 10; from = 7; to = 8; text = bytes "i" }))
    ∷ (bytes "$GPTXT,i*-A", refused syntax_error)
    ∷ (bytes "$GPTXT,i*0+", refused syntax_error)
    ∷ (bytes "$**TXT,t*00", accepted (record { talker = bytes "**"; kind = bytes "TXT"; checksum = 0; from = 7; to = 8; text = bytes "t" }))
    ∷ []

pub worked : map (λ (r : Row). frame r.0) rows ≡ map (λ (r : Row). r.1) rows
unfolding frame sized sentence sentence_type known checksum_field taken listed alike types checksum_from hex digit ◌>>=◌ pure or_miss char until ascii after step follow
worked = refl

-- 299 times x, and the first byte of U+00E9: 1, not 3
pub cut-line : frame (replicate 299 (byte "x") ++ (0xC3 ∷ [])) ≡ refused bad_utf8
cut-line = frame-bad _ cut-300
