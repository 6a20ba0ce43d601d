-- A line that begins and ends as a sentence does, and has no `*` before that of its end, is a sentence: its data are what stands between.
-- Where it is ASCII, its checksum decides. And a line that begins with `$` and an unknown type is refused. Assumes nothing.
use Prim.Native.Nat.{ℕ, ◌+◌, ◌-◌, ◌≤◌}
use native.Mathlib.Omega.{arith}
use mathlib.Core.Path.{◌≡◌, refl, ap, ◌∙◌}
use mathlib.Core.Bool.{true, false, ◌&&◌}
use mathlib.Core.List.{List, [], ◌∷◌, ◌++◌}
use mathlib.Core.Option.{Option, none, some}
use Rattle.std.specs.Prelude.{Ok}
use lib.Dec.{ltb}
use lib.ListN.{length, take, drop, get_or, length-drop, length-take}
use lib.Seq.{slice}
use borrow.Author.Tests.{lt-ltb}
use Rattle.utf8.specs.Utf8.{ascii}
use Rattle.text.specs.Bytes.{byte}
use Rattle.text.specs.Reader.{UnknownType, among, got}
use Rattle.text.specs.Answer.{Finds}
use Rattle.text.proofs.Places.{here, ended, took}
use Rattle.frame.specs.Refused.{unknown_type}
use Rattle.frame.specs.Types.{types, listed}
use Rattle.frame.specs.Checksum.{checksum}
use Rattle.frame.specs.Digits.{digit, lead_digit, sixteens, hex}
use Rattle.frame.specs.Frame.{max_length, data_from, Parts, refused, checksum_field, sentence, compared, frame}
use Rattle.frame.specs.Code.{Headed}
use Rattle.frame.specs.Answer.{field}
use Rattle.frame.proofs.Units.{digit-ascii, lead-ascii}
use Rattle.frame.proofs.Taken.{next-three}
use Rattle.frame.proofs.Until.{Clear, clear-drop}
use Rattle.frame.proofs.Stars.{unmarked, cut}
use Rattle.frame.proofs.Shape.{Digits, was-field, line-of, unknown-line, line-back}
use Rattle.frame.proofs.Judged.{frame-ascii, sized-refuse, sized-got}

-- the checksum's bytes are ASCII
ascii-digits : (y z : ℕ) {v : ℕ} → hex (y ∷ z ∷ []) ≡ some v → ascii (byte "*" ∷ y ∷ z ∷ []) ≡ true
unfolding hex ascii
ascii-digits y z {v} e = by (lead_digit y) (digit z) refl refl e
  where
    by : (o p : Option ℕ) → lead_digit y ≡ o → digit z ≡ p → sixteens o p ≡ some v → ascii (byte "*" ∷ y ∷ z ∷ []) ≡ true
    by (some a) (some b) f g e = rw (lead-ascii y f, digit-ascii z g)
    by (some a) none f g e = let z : ◌≡◌ {A = ℕ} 0 1 = cc in absurd (omega arith)
    by none p f g e = let z : ◌≡◌ {A = ℕ} 0 1 = cc in absurd (omega arith)

-- digits that end a line leave nothing
pub ends-with : {s : List ℕ} {to v : ℕ} → Finds s to checksum_field (field to) (Ok v) → length s ≤ to + 3 → checksum_field (drop to s) ≡ got v []
ends-with {s} {to} {v} t h = (took t.reads refl).reads ∙ ap (got v) (ended s (to + 3) h)

-- a line that begins as a sentence does, and ends at `to` with `*` and digits of the number `found`
pub record Enclosed (s kind : List ℕ) (found to : ℕ) : Type 0 where
  pub head : Headed s kind
  pub comma : get_or s 6 0 ≡ byte ","
  pub end : to + 3 ≡ length s
  pub digits : checksum_field (drop to s) ≡ got found []

-- past `$`, and then past the head
past-head : (l : List ℕ) → drop 6 (drop 1 l) ≡ drop data_from l
past-head [] = refl
past-head (x ∷ l) = refl

module _ (s : List ℕ) where
  -- the first six bytes
  headed : 6 ≤ length s → get_or s 0 0 ≡ byte "$"
      → s ≡ byte "$" ∷ get_or s 1 0 ∷ get_or s 2 0 ∷ get_or s 3 0 ∷ get_or s 4 0 ∷ get_or s 5 0 ∷ drop 6 s
  headed h e =
      next-three s 0 (omega arith)
      ∙ ap (λ (x : ℕ). x ∷ get_or s 1 0 ∷ get_or s 2 0 ∷ drop 3 s) e
      ∙ ap (λ (l : List ℕ). byte "$" ∷ get_or s 1 0 ∷ get_or s 2 0 ∷ l) (next-three s 3 (omega arith))

  pub unknown-frame : 6 ≤ length s → length s ≤ max_length → ascii s ≡ true → get_or s 0 0 ≡ byte "$"
      → listed types (get_or s 3 0 ∷ get_or s 4 0 ∷ get_or s 5 0 ∷ []) ≡ false → frame s ≡ refused unknown_type
  unknown-frame h short a e n =
      frame-ascii s a ∙ sized-refuse s short {f = UnknownType} (ap sentence (headed h e) ∙ unknown-line _ _ _ _ _ _ n)

  module _ {kind : List ℕ} {found to : ℕ} (h : Enclosed s kind found to) where
    -- what is read of it
    abbrev pub parts-in : Parts
    parts-in = record { talker = get_or s 1 0 ∷ get_or s 2 0 ∷ []; kind = kind; checksum = found; from = data_from; to = to; text = slice data_from to s }

    room : data_from ≤ to
    room = omega (arith, h.end, h.head.long)

    tail : Digits (drop to s) found []
    tail = was-field (drop to s) found [] h.digits

    data-clear : among (byte "*") (slice 1 to s) ≡ false → Clear (byte "*") (slice data_from to s)
    data-clear m = rw (← past-head (take to s)) (clear-drop (byte "*") 6 (unmarked (byte "*") (slice 1 to s) m))

    data-on : drop 6 s ≡ byte "," ∷ (slice data_from to s ++ (byte "*" ∷ tail.y ∷ tail.z ∷ []))
    data-on =
        here s 6 (omega (arith, h.head.long))
        ∙ ap (λ (x : ℕ). x ∷ drop data_from s) h.comma
        ∙ ap (λ (l : List ℕ). byte "," ∷ l) (cut s data_from to room (omega (arith, h.end)) ∙ ap (λ (l : List ℕ). slice data_from to s ++ l) tail.line)

    lined : s ≡ line-of (get_or s 1 0) (get_or s 2 0) (get_or s 3 0) (get_or s 4 0) (get_or s 5 0) (slice data_from to s) tail.y tail.z []
    lined =
        headed (omega (arith, h.head.long)) h.head.dollar
        ∙ ap (λ (l : List ℕ). byte "$" ∷ get_or s 1 0 ∷ get_or s 2 0 ∷ get_or s 3 0 ∷ get_or s 4 0 ∷ get_or s 5 0 ∷ l) data-on

    data-long : data_from + length (slice data_from to s) ≡ to
    data-long =
        let g : length (slice data_from to s) ≡ to - data_from = simp (length-drop, length-take) (omega (arith, h.end)) in
        omega (arith, room)

    read-whole : among (byte "*") (slice 1 to s) ≡ false → sentence s ≡ got parts-in []
    read-whole m =
        ap sentence lined
        ∙ line-back _ _ _ _ _ (rw h.head.letters at h.head.known) tail.y tail.z [] (data-clear m) tail.digits
        ∙ rw (data-long, h.head.letters)

    low : {top : ℕ} → top ≤ 127 → ascii s ≡ (ltb top 0x80 && ascii (drop to s)) → ascii s ≡ true
    low {top} k a = a ∙ rw (lt-ltb top 0x80 (omega arith), tail.line) (ascii-digits tail.y tail.z tail.digits)

    -- what one pass finds decides
    pub enclosed-frame : {top : ℕ} → among (byte "*") (slice 1 to s) ≡ false → top ≤ 127 → ascii s ≡ (ltb top 0x80 && ascii (drop to s))
        → frame s ≡ compared (checksum (slice 1 to s)) parts-in
    enclosed-frame m k a = frame-ascii s (low k a) ∙ sized-got s h.head.short (read-whole m)
