-- DEMAND 3, of a caller in C: `nmea_gather` on each line of any list, from a fresh table, answers 4 and a row exactly where the definition hands
-- out a group of that row, and `nmea_row` then has the group's words. Assumes nothing.
use Rattle.std.proofs.Common.{◌≡◌, ℕ, ◌+◌, ◌-◌, ◌*◌, ◌↔◌, List, [], ◌∷◌, ◌++◌, length, get_or, take, sym, refl, ap, ◌∙◌, arith}
use mathlib.Core.Option.{Option, none, some, none-ne-some}
use lib.ListN.{get_or-map}
use Rattle.groups.specs.Log.{Group, Handed}
use Rattle.groups.specs.Group.{HandedOut}
use Rattle.gsv.specs.Gsv.{Satellite, GsvSentence}
use Rattle.rows.specs.Key.{key_of}
use Rattle.answer.specs.Sentence.{answer}
use Rattle.gather.specs.Words.{sats_from, group_of}
use Rattle.gather.specs.Table.{fresh_table, row_of}
use Rattle.gather.specs.declared.line.Outcome.{Outcome}
use Rattle.gather.specs.declared.line.Outcome.TheVariants.{NoRow, Nothing, Waiting, Complete}
use Rattle.gather.proofs.Quick.{sats-long}
use Rattle.intake.specs.Brief.{gsv_in}
use Rattle.fed.specs.Line.{blank, said_of, said_all, accepted_gsv, Gathered, gathers}
use Rattle.fed.specs.Fed.{gathered}
use Rattle.fed.specs.Seen.{seen_of, handed_in, given_by, given_at}
use Rattle.fed.proofs.Accepted.{some-same}
use Rattle.fed.proofs.Handing.{map-take, hands-list}
use Rattle.logs.proofs.Quiet.{blank-or-read}
use Rattle.words.specs.Part.{zeros}
use Rattle.capi.specs.Lend.{code, line_code, row_room, entries_words, row_read}

-- what stands in the row that a number names
abbrev pub handed_at : ℕ → List ℕ → Handed Satellite
handed_at κ t = record { key = κ; group = group_of (row_of t κ) }

by-outcome : (o : Outcome) (k κ : ℕ) (t : List ℕ) → (code o k ≡ 3 + κ) ↔ (handed_in o k t ≡ some (handed_at κ t))
by-outcome NoRow k κ t = (λ e. absurd (omega arith), λ e. absurd (none-ne-some _ e))
by-outcome Nothing k κ t = (λ e. absurd (omega arith), λ e. absurd (none-ne-some _ e))
by-outcome Waiting k κ t = (λ e. absurd (omega arith), λ e. absurd (none-ne-some _ e))
by-outcome Complete k κ t = (
  λ e. let z : k ≡ κ = omega arith in ap (λ (n : ℕ). some (handed_at n t)) z,
  λ e. let z : k ≡ κ = ap (λ (h : Handed Satellite). h.key) (some-same e) in ap (λ (n : ℕ). 3 + n) z,
)

-- THE THEOREM, of a line that was taken
pub complete-gives : (x : Option GsvSentence) (a : Gathered) (κ : ℕ) → (line_code x a ≡ 3 + κ) ↔ (given_by x a ≡ some (handed_at κ a.gatherer))
complete-gives none a κ = (λ e. absurd (omega arith), λ e. absurd (none-ne-some _ e))
complete-gives (some s) a κ = by-outcome a.handed (key_of s) κ a.gatherer

-- the table after a call for each of some lines
abbrev pub called : List ℕ → List (List ℕ) → List ℕ
called t [] = t
called t (l ∷ ls) = called (gathers t (gsv_in (answer l))).gatherer ls

called-is : (t : List ℕ) (ls : List (List ℕ)) → called t ls ≡ gathered t (said_all ls)
called-is t [] = refl
called-is t (l ∷ ls) =
    ap (λ (x : Option GsvSentence). called (gathers t x).gatherer ls) (blank-or-read l) ∙ called-is (gathers t (accepted_gsv (said_of l))).gatherer ls

module _ (ls : List (List ℕ)) (i : ℕ) where
  -- the line at i, and what its call does behind the calls before it
  abbrev pub its : Option GsvSentence
  its = gsv_in (answer (get_or ls i []))

  abbrev pub its_call : Gathered
  its_call = gathers (called fresh_table (take i ls)) its

  its-said : its ≡ accepted_gsv (get_or (said_all ls) i blank)
  its-said = blank-or-read (get_or ls i []) ∙ ap accepted_gsv (sym (get_or-map said_of ls i []))

  table-is : called fresh_table (take i ls) ≡ gathered fresh_table (take i (said_all ls))
  table-is = called-is fresh_table (take i ls) ∙ ap (gathered fresh_table) (map-take said_of i ls)

  -- THE THEOREM
  pub calls-hand-out : (κ : ℕ) → (line_code its its_call ≡ 3 + κ) ↔ HandedOut (seen_of (said_all ls)) i (handed_at κ its_call.gatherer)
  calls-hand-out κ =
      let h = handed_at κ its_call.gatherer in
      let e : given_by its its_call ≡ given_at (said_all ls) i = λ j. given_by (its-said j) (gathers (table-is j) (its-said j)) in
      let c = complete-gives its its_call κ in
      let d = hands-list ls i h in
      (λ q. d.0 (sym e ∙ c.0 q), λ q. c.1 (e ∙ d.1 q))

-- the words of a group, with the number that is waited for
abbrev pub group_words : ℕ → ℕ → Group Satellite → List ℕ
group_words κ next p =
    (κ + 1) ∷ p.n ∷ next ∷ p.view ∷ length p.sats ∷ (entries_words p.sats ++ zeros (row_room - (5 + length p.sats * 8)))

-- THE THEOREM, of a row that is read
pub row-group : (κ : ℕ) (ws : List ℕ) → row_read κ ws ≡ group_words κ (get_or ws 1 0) (group_of ws)
row-group κ ws =
    ap
    (λ (m : ℕ). (κ + 1) ∷ get_or ws 0 0 ∷ get_or ws 1 0 ∷ get_or ws 2 0 ∷ m ∷ (entries_words (sats_from 0 (get_or ws 3 0) ws) ++ zeros (row_room - (5 + m * 8))))
    (sym (sats-long 0 (get_or ws 3 0) ws))
