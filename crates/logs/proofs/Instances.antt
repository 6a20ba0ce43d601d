-- 01, demand 3, on small logs: the conditions of its theorems hold together, and what they conclude is no empty word. The groups and the
-- lines are found by computing. Assumes nothing.
use Rattle.std.proofs.Common.{◌≡◌, ℕ, ◌+◌, true, List, [], ◌∷◌, ◌++◌, length, get_or, set, sym, refl, ap, ◌∙◌, subst, inl, inr, arith}
use mathlib.Core.Option.{none, some}
use Rattle.utf8.specs.Utf8.{follow, step as utf8_step, after, ascii}
use Rattle.text.specs.Bytes.{byte, bytes}
use Rattle.text.specs.Reader.{◌>>=◌, pure, opt, alt, or_miss, char, one_of, among, letter_of, until}
use Rattle.text.specs.Number.{number, number_from}
use Rattle.text.specs.Many.{many, skip, take_while1, eof, all_consuming, one_of3}
use Rattle.frame.specs.Refused.{Refused}
use Rattle.frame.specs.Types.{types, alike, listed}
use Rattle.frame.specs.Checksum.{checksum_from}
use Rattle.frame.specs.Digits.{digit, hex}
use Rattle.frame.specs.Frame.{Parts, accepted, taken, known, sentence_type, checksum_field, sentence, sized, frame}
use Rattle.gsv.specs.Talker.{row_for as row_of}
use Rattle.gsv.specs.Gsv.{Satellite, gsv as gsv_data, entry, counted, cell, closing}
use Rattle.answer.specs.Sentence.{formatter_of, dispatch, answer, is_refused}
use Rattle.pack.specs.Cut.{more}
use Rattle.short.specs.Digits.{digits_of, digits_for}
use Rattle.short.specs.Texts.{entry_text}
use Rattle.groups.specs.Log.{Gsv, gsv, other, Handed}
use Rattle.groups.specs.Group.{HandedOut}
use Rattle.lines.specs.Lines.{stretches, trim, lines, Whole}
use Rattle.lines.specs.Places.{is_place, stretch, rest, line_at, next_place}
use Rattle.gather.specs.declared.line.Outcome.TheVariants.{Nothing}
use Rattle.fed.specs.Line.{read}
use Rattle.logs.specs.Step.{step_at}
use Rattle.logs.specs.Walk.{steps}
use Rattle.logs.specs.Told.{says, told, step_after, line_in, Gives}
use Rattle.logs.proofs.Handing.{hands-out}
use Rattle.logs.proofs.Demand.{keeps-before, keeps-after, groups-after, why, line-refused, others-keep}

-- a run begins, and ends; in its place one that it breaks off in, and a blank line; then two lines of a group
abbrev begun : List ℕ
begun = bytes "$GPGSV,2,1,02,01,,,*79\n"

abbrev ended : List ℕ
ended = bytes "$GPGSV,2,2,02,02,,,*79\n"

abbrev broken : List ℕ
broken = bytes "$GPGSV,2,2,03,02,,,*78\n\n"

abbrev later : List ℕ
later = bytes "$GPGSV,2,1,02,08,,,*70\n$GPGSV,2,2,02,09,,,*72\n"

abbrev log : List ℕ
log = begun ++ (ended ++ later)

abbrev damaged : List ℕ
damaged = begun ++ (broken ++ later)

abbrev satellite : ℕ → Satellite
satellite n = record { id = n; elevation = none; azimuth = none; signal = none }

abbrev group : ℕ → ℕ → Handed Satellite
group a b = record { key = 0; group = record { n = 2; view = 2; sats = satellite a ∷ satellite b ∷ [] } }

begun-whole : Whole (bytes "$GPGSV,2,1,02,01,,,*79\n")
unfolding Whole
begun-whole = inr (bytes "$GPGSV,2,1,02,01,,,*79", refl)

ended-whole : Whole (bytes "$GPGSV,2,2,02,02,,,*79\n")
unfolding Whole
ended-whole = inr (bytes "$GPGSV,2,2,02,02,,,*79", refl)

broken-whole : Whole (bytes "$GPGSV,2,2,03,02,,,*78\n\n")
unfolding Whole
broken-whole = inr (bytes "$GPGSV,2,2,03,02,,,*78\n", refl)

-- how many lines they have
begun-one : length (says begun) ≡ 1
unfolding lines stretches trim
begun-one = refl

ended-one : length (says ended) ≡ 1
unfolding lines stretches trim
ended-one = refl

broken-two : length (says broken) ≡ 2
unfolding lines stretches trim
broken-two = refl

later-two : length (says later) ≡ 2
unfolding lines stretches trim
later-two = refl

log-four : length (says log) ≡ 4
unfolding lines stretches trim
log-four = refl

-- THE FIRST CLAUSE: the step hands out the group, so the definition does
gives-first : Gives (step_after 1 log) (group 1 2)
unfolding lines stretches trim answer dispatch formatter_of frame sized sentence sentence_type checksum_field taken known hex digit checksum_from types alike listed follow utf8_step after ascii until char one_of among letter_of ◌>>=◌ pure opt alt or_miss number number_from row_of gsv_data entry counted cell closing many skip take_while1 eof all_consuming one_of3 is_place stretch rest line_at next_place steps step_at more digits_of digits_for entry_text
gives-first = refl

first-handed : HandedOut (told log) 1 (group 1 2)
first-handed = (hands-out log 1 (omega (arith, log-four)) (group 1 2)).0 gives-first

-- THE SECOND CLAUSE, whole lines replaced: the run that was to end there hands out nothing
broken-off : (step_after 1 damaged).gathered.handed ≡ Nothing
unfolding lines stretches trim answer dispatch formatter_of frame sized sentence sentence_type checksum_field taken known hex digit checksum_from types alike listed follow utf8_step after ascii until char one_of among letter_of ◌>>=◌ pure opt alt or_miss number number_from row_of gsv_data entry counted cell closing many skip take_while1 eof all_consuming one_of3 is_place stretch rest line_at next_place steps step_at more digits_of digits_for entry_text
broken-off = refl

-- and from the system's next number 1 the groups are the same
gives-later : Gives (step_after 3 log) (group 8 9)
unfolding lines stretches trim answer dispatch formatter_of frame sized sentence sentence_type checksum_field taken known hex digit checksum_from types alike listed follow utf8_step after ascii until char one_of among letter_of ◌>>=◌ pure opt alt or_miss number number_from row_of gsv_data entry counted cell closing many skip take_while1 eof all_consuming one_of3 is_place stretch rest line_at next_place steps step_at more digits_of digits_for entry_text
gives-later = refl

abbrev anew : Gsv Satellite
anew = record { key = 0; n = 2; number = 1; view = 2; sats = satellite 8 ∷ [] }

anew-stands : get_or (told (bytes "$GPGSV,2,1,02,08,,,*70\n$GPGSV,2,2,02,09,,,*72\n")) 0 other ≡ gsv anew
unfolding lines stretches trim answer dispatch formatter_of frame sized sentence sentence_type checksum_field taken known hex digit checksum_from types alike listed follow utf8_step after ascii until char one_of among letter_of ◌>>=◌ pure opt alt or_miss number number_from row_of gsv_data entry counted cell closing many skip take_while1 eof all_consuming one_of3
anew-stands = refl

log-index : length (says begun) + length (says ended) + 1 ≡ 3
log-index = omega (arith, begun-one, ended-one)

damaged-index : length (says begun) + length (says broken) + 1 ≡ 4
damaged-index = omega (arith, begun-one, broken-two)

later-handed : Gives (step_after 4 damaged) (group 8 9)
later-handed =
    subst (λ (i : ℕ). Gives (step_after i damaged) (group 8 9)) damaged-index
    ((groups-after begun later ended broken begun-whole (inl ended-whole) (inl broken-whole) 0 anew anew-stands refl 1 (omega arith) (omega (arith, later-two)) (group 8 9) refl).0
    (subst (λ (i : ℕ). Gives (step_after i log) (group 8 9)) (sym log-index) gives-later))

-- the lines outside keep their answers: the one before, and one after
first-kept : line_in (step_after 0 log).answer ≡ line_in (step_after 0 damaged).answer
first-kept = keeps-before begun later ended broken begun-whole (inl ended-whole) (inl broken-whole) 0 (omega (arith, begun-one))

last-kept : line_in (step_after 3 log).answer ≡ line_in (step_after 4 damaged).answer
last-kept =
    ap (λ (i : ℕ). line_in (step_after i log).answer) (sym log-index)
    ∙ keeps-after begun later ended broken begun-whole (inl ended-whole) (inl broken-whole) 1 (omega (arith, later-two))
    ∙ ap (λ (i : ℕ). line_in (step_after i damaged).answer) damaged-index

-- at the log's end a line may lack its line feed, and be replaced by nothing
end-kept : line_in (step_after 0 (begun ++ (bytes "abc" ++ []))).answer ≡ line_in (step_after 0 (begun ++ ([] ++ []))).answer
end-kept = keeps-before begun [] (bytes "abc") [] begun-whole (inr refl) (inr refl) 0 (omega (arith, begun-one))

-- THE THIRD CLAUSE, one byte: the A behind the type's comma becomes M
abbrev fix : List ℕ
fix = bytes "$GPGSA,A,1,,,,*32\n\n"

abbrev parts : Parts
parts = record { talker = bytes "GP"; kind = bytes "GSA"; checksum = 50; from = 7; to = 14; text = bytes "A,1,,,," }

passes : frame (line_at (bytes "$GPGSA,A,1,,,,*32\n\n") 0) ≡ accepted parts
unfolding line_at stretch trim frame sized sentence sentence_type checksum_field taken known hex digit checksum_from types alike listed follow utf8_step after ascii until char one_of among letter_of ◌>>=◌ pure opt alt or_miss
passes = refl

seventh : get_or (line_at (bytes "$GPGSA,A,1,,,,*32\n\n") 0) 7 0 ≡ byte "A"
unfolding line_at stretch trim
seventh = refl

begins : is_place (bytes "$GPGSA,A,1,,,,*32\n\n") 0 ≡ true
unfolding is_place
begins = refl

fix-two : length (says fix) ≡ 2
unfolding lines stretches trim
fix-two = refl

another : byte "M" ≡ get_or (line_at (bytes "$GPGSA,A,1,,,,*32\n\n") 0) 7 0 → ⊥
another e = omega (arith, e, seventh)

abbrev reason : Refused
reason = why fix 0 begins parts passes 7 (byte "M") (omega arith) (omega arith) another (λ e. omega arith) (λ e. omega arith)

byte-refused : line_in (step_after 0 (set fix 7 (byte "M"))).answer ≡ some (read (is_refused reason))
unfolding lines stretches
byte-refused = line-refused fix 0 begins parts passes 7 (byte "M") (omega arith) (omega arith) another (λ e. omega arith) (λ e. omega arith)

others-kept : line_in (step_after 1 (set fix 7 (byte "M"))).answer ≡ line_in (step_after 1 fix).answer
unfolding lines stretches
others-kept =
    others-keep fix 0 begins parts passes 7 (byte "M") (omega arith) (omega arith) another (λ e. omega arith) (λ e. omega arith) 1 (omega (arith, fix-two))
    (λ e. omega arith)
