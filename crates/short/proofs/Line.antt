-- WHAT AN ACCEPTED GSV LINE HAS ROOM FOR. Its framing takes ten bytes and its data no fewer than their shortest text, so there is room
-- for its entries; and where there is room the shortest text, with its checksum, is such a line. Assumes nothing.
use Prim.Native.Nat.{ℕ, ◌+◌, ◌≤◌}
use native.Mathlib.Omega.{arith}
use mathlib.Core.Path.{◌≡◌, refl, ap, ◌∙◌}
use mathlib.Core.Bool.{true}
use mathlib.Core.List.{List, [], ◌∷◌, ◌++◌}
use mathlib.Core.Option.{Option, some}
use lib.ListN.{length, length-append}
use borrow.Author.Tests.{le-leb, lt-ltb, eq-eqb}
use Rattle.utf8.specs.Utf8.{ascii}
use Rattle.lines.specs.Lines.{Lined}
use Rattle.text.specs.Bytes.{byte, bytes}
use Rattle.text.specs.Reader.{Parse, got}
use Rattle.text.specs.Value.{value}
use Rattle.frame.specs.Types.{types, alike, listed}
use Rattle.frame.specs.Checksum.{checksum}
use Rattle.frame.specs.Frame.{max_length, Parts, accepted, judged, sized, frame}
use Rattle.frame.proofs.Shape.{line-of as line-with, parts-of, shaped, line-back}
use Rattle.frame.proofs.Until.{Clear}
use Rattle.frame.proofs.OneByte.{was-accepted}
use Rattle.frame.proofs.Judged.{frame-ascii}
use Rattle.gsv.specs.Talker.{Talker, talker_of}
use Rattle.gsv.specs.Gsv.{Satellite, Gsv, gsv, present, GsvSentence}
use Rattle.gsv.proofs.Present.{at-most-four}
use Rattle.answer.specs.Sentence.{is_gsv, or_refused, as_gsv, gsv_by, framed_by, formatter_of, dispatch, answer}
use Rattle.short.specs.Texts.{data_text, body_of}
use Rattle.short.specs.Room.{Room, Written}
use Rattle.short.proofs.Digits.{some-digit, digit-one}
use Rattle.short.proofs.Texts.{gsv-back, gsv-eats, data-length}
use Rattle.short.proofs.Plain.{Above, above-append, above-lined, ascii-append, data-above, data-ascii, data-clear}
use Rattle.short.proofs.Hex.{Digits, digits-for, sum-below}
use Rattle.short.proofs.Answered.{answered}

-- the framing of an accepted line takes ten bytes beside its data
ten-bytes : (l : List ℕ) (p : Parts) → frame l ≡ accepted p → 10 + length p.text ≤ max_length
ten-bytes l p e =
    let w = was-accepted l p e in
    let s = shaped l p w.rest w.reads in
    let text = ap (λ (x : Parts). length x.text) s.parts in
    let long = ap length s.line in
    omega (arith, w.short, length-append s.text (byte "*" ∷ s.y ∷ s.z ∷ w.rest))

-- every accepted GSV line leaves this room
pub room : (l : List ℕ) (h : GsvSentence) → answer l ≡ is_gsv h → Room h.body.view (present h.body)
room l h e =
    let a = answered l h e in
    let g = h.body in
    let s = gsv-eats a.parts.text a.reads in
    record {
      view = s.view;
      each = s.each;
      four = at-most-four g;
      bytes =
          omega (
            arith,
            ten-bytes l a.parts a.framed,
            s.bytes,
            data-length g.count g.index g.view (present g),
            some-digit g.count,
            some-digit g.index,
          );
    }

known : listed types (bytes "GSV") ≡ true
unfolding types listed alike
known = refl

-- a letter of a talker
abbrev pub Letter : ℕ → Type 0
Letter b = (byte "A" ≤ b) × (b ≤ byte "Z")

-- a GSV line with a talker and data of ASCII bytes
module _ (a b : ℕ) (text : List ℕ) (first : Letter a) (second : Letter b) (low : ascii text ≡ true) where
  -- what the checksum is taken of, before some text
  headed : (l : List ℕ) → ascii l ≡ true → ascii (a ∷ b ∷ (bytes "GSV" ++ (byte "," ∷ l))) ≡ true
  unfolding ascii
  headed l e = rw (lt-ltb a 128 (omega (arith, first)), lt-ltb b 128 (omega (arith, second))) e

  abbrev summed : ℕ
  summed = checksum (a ∷ b ∷ (bytes "GSV" ++ (byte "," ∷ text)))

  abbrev parts : Parts
  parts = parts-of a b (byte "G") (byte "S") (byte "V") text summed

  digits : Digits summed
  digits = digits-for summed (omega (arith, sum-below 0 (a ∷ b ∷ (bytes "GSV" ++ (byte "," ∷ text))) (omega arith) (headed text low)))

  -- `*` and the two checksum bytes
  abbrev ending : List ℕ
  ending = byte "*" ∷ digits.high ∷ digits.low ∷ []

  abbrev line : List ℕ
  line = line-with a b (byte "G") (byte "S") (byte "V") text digits.high digits.low []

  line-ascii : ascii line ≡ true
  unfolding ascii
  line-ascii =
      headed (text ++ ending)
      (ascii-append text ending low (rw (lt-ltb digits.high 128 digits.high-ascii, lt-ltb digits.low 128 digits.low-ascii)))

  line-lined : Above text → Lined line
  line-lined h =
      let d = digits in
      let end : Above ending = (omega arith, (omega (arith, d.high-above), (omega (arith, d.low-above), tt))) in
      let more : Above (text ++ ending) = above-append text ending h end in
      above-lined line (omega arith, (omega (arith, first), (omega (arith, second), (omega arith, (omega arith, (omega arith, (omega arith, more)))))))

  framed : Clear (byte "*") text → 10 + length text ≤ max_length → frame line ≡ accepted parts
  unfolding sized
  framed clear h =
      let short : length line ≤ max_length = simp length-append (omega arith) in
      frame-ascii line line-ascii
      ∙ rw (le-leb (length line) max_length short)
      (ap judged (line-back a b (byte "G") (byte "S") (byte "V") known digits.high digits.low [] clear digits.is)
      ∙ rw (eq-eqb summed summed refl))

  read : {t : Talker} {g : Gsv} {m : List ℕ} → frame line ≡ accepted parts → talker_of a b ≡ some t → gsv text ≡ got g m
      → answer line ≡ is_gsv (record { talker = t; body = g })
  unfolding answer dispatch formatter_of alike
  read {t} f e r =
      ap (framed_by dispatch) f ∙ ap (λ (o : Option Talker). gsv_by o parts) e ∙ ap (λ (x : Parse Gsv). or_refused (as_gsv t) (value x)) r

-- where there is room some line is accepted
pub line-of : (a b : ℕ) (t : Talker) (n k v : ℕ) (es : List Satellite) → talker_of a b ≡ some t → Letter a → Letter b → n ≤ 9 → k ≤ 9 → Room v es
    → Written (record { talker = t; body = body_of n k v es })
line-of a b t n k v es e ha hb hn hk r =
    let text = data_text n k v es in
    let low = data-ascii n k v es in
    let one = ap length (digit-one n (omega arith)) in
    let other = ap length (digit-one k (omega arith)) in
    let short : 10 + length text ≤ max_length = omega (arith, data-length n k v es, r.bytes) in
    record {
      line = line a b text ha hb low;
      lined = line-lined a b text ha hb low (data-above n k v es);
      accepted =
          read a b text ha hb low (framed a b text ha hb low (data-clear n k v es) short) e
          (gsv-back n k v es (omega arith) (omega arith) r.view r.each);
    }
