-- 01's rules on logs at work, by computing: the worked log, allowances and places, and runs of every kind. Assumes nothing.
use Rattle.std.proofs.Common.{◌≡◌, ℕ, List, [], ◌∷◌, ◌++◌, map, refl}
use mathlib.Core.Option.{Option, none, some}
use Rattle.utf8.specs.Utf8.{follow, step as utf8_step, after, ascii}
use Rattle.text.specs.Bytes.{bytes}
use Rattle.text.specs.Reader.{◌>>=◌, pure, opt, alt, or_miss, char, one_of, among, letter_of, until}
use Rattle.text.specs.Number.{number, number_from}
use Rattle.frame.specs.Refused.{bad_place}
use Rattle.frame.specs.Types.{types, alike, listed}
use Rattle.frame.specs.Checksum.{checksum_from}
use Rattle.frame.specs.Digits.{digit, hex}
use Rattle.frame.specs.Frame.{taken, known, sentence_type, checksum_field, sentence, sized, frame}
use Rattle.gsv.specs.Talker.{row_for as row_of}
use Rattle.gsv.specs.Gsv.{Satellite, gsv, entry, counted, cell, closing}
use Rattle.text.specs.Many.{many, skip, take_while1, eof, all_consuming, one_of3}
use Rattle.gsa.specs.Gsa.{gsa, empty_tail, last_system, full_tail, prn_fields, item, dop, dops, after_comma as system_after_comma, opt_system}
use Rattle.answer.specs.Sentence.{formatter_of, dispatch, answer}
use Rattle.groups.specs.Log.{Handed}
use Rattle.groups.specs.Step.{fresh, answers}
use Rattle.lines.specs.Lines.{stretches, trim, lines}
use Rattle.lines.specs.Places.{is_place, stretch, rest, line_at, next_place}
use Rattle.pack.specs.Cut.{more}
use Rattle.short.specs.Digits.{digits_of, digits_for}
use Rattle.short.specs.Texts.{entry_text}
use Rattle.gather.specs.Table.{fresh_table}
use Rattle.logs.specs.Told.{told}
use Rattle.logs.specs.Step.{refused, end, step_at, step_of}
use Rattle.logs.specs.Walk.{steps, barred, went, Walked, walk_of}
use Rattle.logs.specs.declared.walk.Counts.{Counts}

-- what is handed out at each line: row, n, in-view count and satellites
record Brief : Type 0 where
  key : ℕ
  n : ℕ
  view : ℕ
  ids : List ℕ

abbrev brief : ℕ → ℕ → ℕ → List ℕ → Brief
brief κ n v ids = record { key = κ; n = n; view = v; ids = ids }

abbrev in_brief : Option (Handed Satellite) → Option Brief
in_brief none = none
in_brief (some h) =
    some (brief h.key h.group.n h.group.view (map (λ (s : Satellite). s.id) h.group.sats))

abbrev gives : List ℕ → List (Option Brief)
gives log = map in_brief (answers fresh (told log))

-- a group of one line
one-line : gives
    (bytes "$GPGSV,1,1,02,07,,,,08,,,*74\n")
    ≡ some (brief 0 1 2 (7 ∷ 8 ∷ [])) ∷ []
unfolding lines stretches trim answer dispatch formatter_of frame sized sentence sentence_type checksum_field taken known hex digit checksum_from types alike listed follow utf8_step after ascii until char one_of among letter_of ◌>>=◌ pure opt alt or_miss number number_from row_of gsv entry counted cell closing many skip take_while1 eof all_consuming one_of3 gsa empty_tail last_system full_tail prn_fields item dop dops system_after_comma opt_system
one-line = refl

-- two systems in turn
in-turn : gives
    (bytes "$GPGSV,2,1,05,01,,,,02,,,,03,,,,04,,,*7B\n"
    ++ bytes "$GLGSV,2,1,05,65,,,,66,,,,67,,,,68,,,*6F\n"
    ++ bytes "$GPGSV,2,2,05,05,,,*79\n"
    ++ bytes "$GLGSV,2,2,05,69,,,*6F\n")
    ≡ none ∷ none ∷ some (brief 0 2 5 (1 ∷ 2 ∷ 3 ∷ 4 ∷ 5 ∷ [])) ∷ some (brief 1 2 5 (65 ∷ 66 ∷ 67 ∷ 68 ∷ 69 ∷ [])) ∷ []
unfolding lines stretches trim answer dispatch formatter_of frame sized sentence sentence_type checksum_field taken known hex digit checksum_from types alike listed follow utf8_step after ascii until char one_of among letter_of ◌>>=◌ pure opt alt or_miss number number_from row_of gsv entry counted cell closing many skip take_while1 eof all_consuming one_of3 gsa empty_tail last_system full_tail prn_fields item dop dops system_after_comma opt_system
in-turn = refl

-- BD and GB are one system
one-system : gives
    (bytes "$BDGSV,2,1,02,01,,,*68\n"
    ++ bytes "$GBGSV,2,2,02,02,,,*6B\n")
    ≡ none ∷ some (brief 3 2 2 (1 ∷ 2 ∷ [])) ∷ []
unfolding lines stretches trim answer dispatch formatter_of frame sized sentence sentence_type checksum_field taken known hex digit checksum_from types alike listed follow utf8_step after ascii until char one_of among letter_of ◌>>=◌ pure opt alt or_miss number number_from row_of gsv entry counted cell closing many skip take_while1 eof all_consuming one_of3 gsa empty_tail last_system full_tail prn_fields item dop dops system_after_comma opt_system
one-system = refl

-- a number missing
missing : gives
    (bytes "$GPGSV,3,1,02,01,,,*78\n"
    ++ bytes "$GPGSV,3,3,02,02,,,*79\n")
    ≡ none ∷ none ∷ []
unfolding lines stretches trim answer dispatch formatter_of frame sized sentence sentence_type checksum_field taken known hex digit checksum_from types alike listed follow utf8_step after ascii until char one_of among letter_of ◌>>=◌ pure opt alt or_miss number number_from row_of gsv entry counted cell closing many skip take_while1 eof all_consuming one_of3 gsa empty_tail last_system full_tail prn_fields item dop dops system_after_comma opt_system
missing = refl

-- a number twice
twice : gives
    (bytes "$GPGSV,3,1,03,01,,,*79\n"
    ++ bytes "$GPGSV,3,2,03,02,,,*79\n"
    ++ bytes "$GPGSV,3,2,03,02,,,*79\n"
    ++ bytes "$GPGSV,3,3,03,03,,,*79\n")
    ≡ none ∷ none ∷ none ∷ none ∷ []
unfolding lines stretches trim answer dispatch formatter_of frame sized sentence sentence_type checksum_field taken known hex digit checksum_from types alike listed follow utf8_step after ascii until char one_of among letter_of ◌>>=◌ pure opt alt or_miss number number_from row_of gsv entry counted cell closing many skip take_while1 eof all_consuming one_of3 gsa empty_tail last_system full_tail prn_fields item dop dops system_after_comma opt_system
twice = refl

-- another n
another-n : gives
    (bytes "$GPGSV,2,1,02,01,,,*79\n"
    ++ bytes "$GPGSV,3,2,02,02,,,*78\n")
    ≡ none ∷ none ∷ []
unfolding lines stretches trim answer dispatch formatter_of frame sized sentence sentence_type checksum_field taken known hex digit checksum_from types alike listed follow utf8_step after ascii until char one_of among letter_of ◌>>=◌ pure opt alt or_miss number number_from row_of gsv entry counted cell closing many skip take_while1 eof all_consuming one_of3 gsa empty_tail last_system full_tail prn_fields item dop dops system_after_comma opt_system
another-n = refl

-- another in-view count
another-view : gives
    (bytes "$GPGSV,2,1,02,01,,,*79\n"
    ++ bytes "$GPGSV,2,2,03,02,,,*78\n")
    ≡ none ∷ none ∷ []
unfolding lines stretches trim answer dispatch formatter_of frame sized sentence sentence_type checksum_field taken known hex digit checksum_from types alike listed follow utf8_step after ascii until char one_of among letter_of ◌>>=◌ pure opt alt or_miss number number_from row_of gsv entry counted cell closing many skip take_while1 eof all_consuming one_of3 gsa empty_tail last_system full_tail prn_fields item dop dops system_after_comma opt_system
another-view = refl

-- another line of the system between, that is a group itself
between : gives
    (bytes "$GPGSV,2,1,02,01,,,*79\n"
    ++ bytes "$GPGSV,1,1,01,09,,,*71\n"
    ++ bytes "$GPGSV,2,2,02,02,,,*79\n")
    ≡ none ∷ some (brief 0 1 1 (9 ∷ [])) ∷ none ∷ []
unfolding lines stretches trim answer dispatch formatter_of frame sized sentence sentence_type checksum_field taken known hex digit checksum_from types alike listed follow utf8_step after ascii until char one_of among letter_of ◌>>=◌ pure opt alt or_miss number number_from row_of gsv entry counted cell closing many skip take_while1 eof all_consuming one_of3 gsa empty_tail last_system full_tail prn_fields item dop dops system_after_comma opt_system
between = refl

-- a number 0
zero : gives
    (bytes "$GPGSV,2,1,02,01,,,*79\n"
    ++ bytes "$GPGSV,2,0,02,02,,,*7B\n"
    ++ bytes "$GPGSV,2,2,02,02,,,*79\n")
    ≡ none ∷ none ∷ none ∷ []
unfolding lines stretches trim answer dispatch formatter_of frame sized sentence sentence_type checksum_field taken known hex digit checksum_from types alike listed follow utf8_step after ascii until char one_of among letter_of ◌>>=◌ pure opt alt or_miss number number_from row_of gsv entry counted cell closing many skip take_while1 eof all_consuming one_of3 gsa empty_tail last_system full_tail prn_fields item dop dops system_after_comma opt_system
zero = refl

-- a number above its n
above : gives
    (bytes "$GPGSV,2,1,02,01,,,*79\n"
    ++ bytes "$GPGSV,2,3,02,02,,,*78\n"
    ++ bytes "$GPGSV,2,2,02,02,,,*79\n")
    ≡ none ∷ none ∷ none ∷ []
unfolding lines stretches trim answer dispatch formatter_of frame sized sentence sentence_type checksum_field taken known hex digit checksum_from types alike listed follow utf8_step after ascii until char one_of among letter_of ◌>>=◌ pure opt alt or_miss number number_from row_of gsv entry counted cell closing many skip take_while1 eof all_consuming one_of3 gsa empty_tail last_system full_tail prn_fields item dop dops system_after_comma opt_system
above = refl

-- n of 0, and of 10
outside : gives
    (bytes "$GPGSV,0,1,01,01,,,*78\n"
    ++ bytes "$GPGSV,10,1,01,01,,,*49\n")
    ≡ none ∷ none ∷ []
unfolding lines stretches trim answer dispatch formatter_of frame sized sentence sentence_type checksum_field taken known hex digit checksum_from types alike listed follow utf8_step after ascii until char one_of among letter_of ◌>>=◌ pure opt alt or_miss number number_from row_of gsv entry counted cell closing many skip take_while1 eof all_consuming one_of3 gsa empty_tail last_system full_tail prn_fields item dop dops system_after_comma opt_system
outside = refl

-- a number 1 where a run stands
anew : gives
    (bytes "$GPGSV,2,1,02,01,,,*79\n"
    ++ bytes "$GPGSV,2,1,02,08,,,*70\n"
    ++ bytes "$GPGSV,2,2,02,02,,,*79\n")
    ≡ none ∷ none ∷ some (brief 0 2 2 (8 ∷ 2 ∷ [])) ∷ []
unfolding lines stretches trim answer dispatch formatter_of frame sized sentence sentence_type checksum_field taken known hex digit checksum_from types alike listed follow utf8_step after ascii until char one_of among letter_of ◌>>=◌ pure opt alt or_miss number number_from row_of gsv entry counted cell closing many skip take_while1 eof all_consuming one_of3 gsa empty_tail last_system full_tail prn_fields item dop dops system_after_comma opt_system
anew = refl

-- a refused line, a blank one, and lines of other types and systems break nothing
kept : gives
    (bytes "$GPGSV,2,1,02,01,,,*79\n"
    ++ bytes "$GPGSV,2,9,02,01,,,*00\n"
    ++ bytes "\n"
    ++ bytes "$GPGSA,A,1,,,,*32\n"
    ++ bytes "$GLGSV,3,2,07,70,,,*64\n"
    ++ bytes "$GPGSV,2,2,02,02,,,*79\n")
    ≡ none ∷ none ∷ none ∷ none ∷ none ∷ some (brief 0 2 2 (1 ∷ 2 ∷ [])) ∷ []
unfolding lines stretches trim answer dispatch formatter_of frame sized sentence sentence_type checksum_field taken known hex digit checksum_from types alike listed follow utf8_step after ascii until char one_of among letter_of ◌>>=◌ pure opt alt or_miss number number_from row_of gsv entry counted cell closing many skip take_while1 eof all_consuming one_of3 gsa empty_tail last_system full_tail prn_fields item dop dops system_after_comma opt_system
kept = refl

-- only present entries are gathered
absent : gives
    (bytes "$GPGSV,2,1,03,01,,,,02,,,,03,-5,,,04,,,*65\n"
    ++ bytes "$GPGSV,2,2,03,*56\n")
    ≡ none ∷ some (brief 0 2 3 (1 ∷ 2 ∷ [])) ∷ []
unfolding lines stretches trim answer dispatch formatter_of frame sized sentence sentence_type checksum_field taken known hex digit checksum_from types alike listed follow utf8_step after ascii until char one_of among letter_of ◌>>=◌ pure opt alt or_miss number number_from row_of gsv entry counted cell closing many skip take_while1 eof all_consuming one_of3 gsa empty_tail last_system full_tail prn_fields item dop dops system_after_comma opt_system
absent = refl

-- two clones on one cable, of which each cuts the other
clones : gives
    (bytes "$GPGSV,2,1,05,01,,,,02,,,*7C\n"
    ++ bytes "$GPGSV,2,1,06,11,,,,12,,,*7F\n"
    ++ bytes "$GPGSV,2,2,05,05,,,*79\n"
    ++ bytes "$GPGSV,2,2,06,15,,,*7B\n")
    ≡ none ∷ none ∷ none ∷ none ∷ []
unfolding lines stretches trim answer dispatch formatter_of frame sized sentence sentence_type checksum_field taken known hex digit checksum_from types alike listed follow utf8_step after ascii until char one_of among letter_of ◌>>=◌ pure opt alt or_miss number number_from row_of gsv entry counted cell closing many skip take_while1 eof all_consuming one_of3 gsa empty_tail last_system full_tail prn_fields item dop dops system_after_comma opt_system
clones = refl

-- 01's worked log
abbrev worked : List ℕ
worked =
    bytes "$GPGSV,3,1,11,03,03,111,00,04,15,270,00,06,01,010,00,13,06,292,00*74\n"
    ++ bytes "$GPGSV,3,2,11,14,25,170,00,16,57,208,39,18,67,296,40,19,40,246,00*74\n"
    ++ bytes "$GPGSV,3,3,11,22,42,067,42,24,14,311,43,27,05,244,00,,,,*4D\n"
    ++ bytes "\n"
    ++ bytes "$GPGSA,A,1,,,,*33\n"

abbrev counts : ℕ → ℕ → ℕ → ℕ → ℕ → ℕ → Counts
counts l b a r g p = record { lines = l; blank = b; accepted = a; refused = r; groups = g; next = p }

worked-log : (walk_of worked 0 9 fresh_table).answer ≡ went (counts 5 1 3 1 1 217)
unfolding lines stretches trim answer dispatch formatter_of frame sized sentence sentence_type checksum_field taken known hex digit checksum_from types alike listed follow utf8_step after ascii until char one_of among letter_of ◌>>=◌ pure opt alt or_miss number number_from row_of gsv entry counted cell closing many skip take_while1 eof all_consuming one_of3 gsa empty_tail last_system full_tail prn_fields item dop dops system_after_comma opt_system is_place stretch rest line_at next_place steps step_at step_of walk_of more digits_of digits_for entry_text
worked-log = refl

-- nothing allowed, nothing taken
allowed-none : (walk_of worked 0 0 fresh_table).answer ≡ went (counts 0 0 0 0 0 0)
unfolding lines stretches trim answer dispatch formatter_of frame sized sentence sentence_type checksum_field taken known hex digit checksum_from types alike listed follow utf8_step after ascii until char one_of among letter_of ◌>>=◌ pure opt alt or_miss number number_from row_of gsv entry counted cell closing many skip take_while1 eof all_consuming one_of3 gsa empty_tail last_system full_tail prn_fields item dop dops system_after_comma opt_system is_place stretch rest line_at next_place steps step_at step_of walk_of more digits_of digits_for entry_text
allowed-none = refl

-- two lines, and the others from there on with the gatherer that they left: the group is handed out in the second walk
abbrev two : Walked
two = walk_of worked 0 2 fresh_table

allowed-two : two.answer ≡ went (counts 2 0 2 0 0 138)
unfolding lines stretches trim answer dispatch formatter_of frame sized sentence sentence_type checksum_field taken known hex digit checksum_from types alike listed follow utf8_step after ascii until char one_of among letter_of ◌>>=◌ pure opt alt or_miss number number_from row_of gsv entry counted cell closing many skip take_while1 eof all_consuming one_of3 gsa empty_tail last_system full_tail prn_fields item dop dops system_after_comma opt_system is_place stretch rest line_at next_place steps step_at step_of walk_of more digits_of digits_for entry_text
allowed-two = refl

carried : (walk_of worked 138 9 two.gatherer).answer ≡ went (counts 3 1 1 1 1 217)
unfolding lines stretches trim answer dispatch formatter_of frame sized sentence sentence_type checksum_field taken known hex digit checksum_from types alike listed follow utf8_step after ascii until char one_of among letter_of ◌>>=◌ pure opt alt or_miss number number_from row_of gsv entry counted cell closing many skip take_while1 eof all_consuming one_of3 gsa empty_tail last_system full_tail prn_fields item dop dops system_after_comma opt_system is_place stretch rest line_at next_place steps step_at step_of walk_of more digits_of digits_for entry_text
carried = refl

-- with a fresh gatherer it is not
not-carried : (walk_of worked 138 9 fresh_table).answer ≡ went (counts 3 1 1 1 0 217)
unfolding lines stretches trim answer dispatch formatter_of frame sized sentence sentence_type checksum_field taken known hex digit checksum_from types alike listed follow utf8_step after ascii until char one_of among letter_of ◌>>=◌ pure opt alt or_miss number number_from row_of gsv entry counted cell closing many skip take_while1 eof all_consuming one_of3 gsa empty_tail last_system full_tail prn_fields item dop dops system_after_comma opt_system is_place stretch rest line_at next_place steps step_at step_of walk_of more digits_of digits_for entry_text
not-carried = refl

-- no places: within a line, and past the end
within-a-line : ((walk_of worked 3 9 fresh_table).answer ≡ barred (bad_place 3)) × ((step_of worked 3 fresh_table).answer ≡ refused (bad_place 3))
unfolding lines stretches trim answer dispatch formatter_of frame sized sentence sentence_type checksum_field taken known hex digit checksum_from types alike listed follow utf8_step after ascii until char one_of among letter_of ◌>>=◌ pure opt alt or_miss number number_from row_of gsv entry counted cell closing many skip take_while1 eof all_consuming one_of3 gsa empty_tail last_system full_tail prn_fields item dop dops system_after_comma opt_system is_place stretch rest line_at next_place steps step_at step_of walk_of more digits_of digits_for entry_text
within-a-line = (refl, refl)

past-the-end : (step_of worked 218 fresh_table).answer ≡ refused (bad_place 218)
unfolding lines stretches trim answer dispatch formatter_of frame sized sentence sentence_type checksum_field taken known hex digit checksum_from types alike listed follow utf8_step after ascii until char one_of among letter_of ◌>>=◌ pure opt alt or_miss number number_from row_of gsv entry counted cell closing many skip take_while1 eof all_consuming one_of3 gsa empty_tail last_system full_tail prn_fields item dop dops system_after_comma opt_system is_place stretch rest line_at next_place steps step_at step_of walk_of more digits_of digits_for entry_text
past-the-end = refl

-- at the length
at-the-length : ((step_of worked 217 fresh_table).answer ≡ end 217) × ((walk_of worked 217 9 fresh_table).answer ≡ went (counts 0 0 0 0 0 217))
unfolding lines stretches trim answer dispatch formatter_of frame sized sentence sentence_type checksum_field taken known hex digit checksum_from types alike listed follow utf8_step after ascii until char one_of among letter_of ◌>>=◌ pure opt alt or_miss number number_from row_of gsv entry counted cell closing many skip take_while1 eof all_consuming one_of3 gsa empty_tail last_system full_tail prn_fields item dop dops system_after_comma opt_system is_place stretch rest line_at next_place steps step_at step_of walk_of more digits_of digits_for entry_text
at-the-length = (refl, refl)
