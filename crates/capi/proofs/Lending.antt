-- What the calls over a lent table answer, from what their parts do. Assumes nothing.
use Rattle.std.proofs.Common.{◌≡◌, ℕ, suc, ◌+◌, ◌-◌, ◌*◌, ◌<◌, ◌≤◌, Bool, true, false, cond, ◌&&◌, eqb, ltb, leb, List, [], ◌∷◌, ◌++◌, length, get_or, drop, set, replicate, sym, refl, ap, ◌∙◌, append_assoc, append-nil, arith, length-append, length-set, le-ltb, lt-ltb, eq-eqb, ne_eqb, le-leb, Option, Some, None, Result, Ok, Err}
use mathlib.Core.Option.{Option as Maybe, none, some}
use borrow.Author.Tests.{lt-leb}
use lib.ListN.{length-replicate}
use lib.Seq.{sets, sets-eq}
use Rattle.frame.specs.declared.refusal.Refusal.{Refusal}
use Rattle.gsv.specs.Gsv.{Satellite}
use Rattle.gsv.specs.Talker.{system_number}
use Rattle.answer.specs.Sentence.{Answer, is_rmc, is_gsa, is_gsv, is_gga, is_gll, is_vtg, is_other, is_refused, answer}
use Rattle.rows.specs.Key.{Source, source_from, row_from, row_count}
use Rattle.gather.specs.Words.{cell_count, number_of, sat_at, sats_from}
use Rattle.gather.specs.Table.{table_words, fresh_table, row_of}
use Rattle.gather.specs.declared.line.Outcome.{Outcome}
use Rattle.gather.specs.declared.line.Outcome.TheVariants.{Complete}
use Rattle.text.proofs.Stores.{behind, three, four}
use Rattle.gather.proofs.Cells.{sats-append}
use Rattle.gather.proofs.Quick.{sats-long}
use Rattle.gather.proofs.Tables.{number-within}
use Rattle.fed.specs.Line.{gathers}
use Rattle.intake.specs.Brief.{Brief, accepted, gsv_line, refusal, brief_of, gsv_in}
use Rattle.intake.specs.Answer.{brief, outcome_of, Takes}
use Rattle.intake.specs.declared.GsvLine.{GsvLine}
use Rattle.words.specs.Part.{zeros, option_words}
use Rattle.words.specs.Gsv.{entry_words}
use Rattle.words.specs.Words.{word_count, words}
use Rattle.words.proofs.Lengths.{option-two, entry-eight}
use Rattle.capi.specs.Answer.{done, undone}
use Rattle.capi.specs.Lend.{Freshened, code, line_code, takes, GatheredLine, row_room, row_head, entries_words, row_read, reads, RowRead}
use Rattle.capi.specs.Code.{taken_code, ReadAs}

pub last-code : (o : Outcome) (k : ℕ) → o ≡ Complete → 3 + k ≡ code o k
last-code o k e = sym (ap (λ (o : Outcome). code o k) e)

-- the number of a row's system is that of GSV's word 3
pub row-system : (s : Source) → row_from s + 1 ≡ system_number s.system
row-system s = let h = number-within s.system in omega (arith, h.0)

-- what a line that was taken did, by its answer
abbrev code_in : Brief → Outcome → ℕ
code_in accepted o = 0
code_in (gsv_line t h) o = code o (row_from (source_from t))
code_in (refusal x) o = 0

by-brief : (r : Result (Option GsvLine) Refusal) → taken_code r ≡ code_in (brief r) (outcome_of r)
by-brief (Ok None) = refl
by-brief (Ok (Some g)) = refl
by-brief (Err x) = refl

by-answer : (a : Answer) (t : List ℕ) → code_in (brief_of a) (gathers t (gsv_in a)).handed ≡ line_code (gsv_in a) (gathers t (gsv_in a))
by-answer (is_rmc r) t = refl
by-answer (is_gsa g) t = refl
by-answer (is_gsv s) t = refl
by-answer (is_gga g) t = refl
by-answer (is_gll g) t = refl
by-answer (is_vtg v) t = refl
by-answer (is_other k) t = refl
by-answer (is_refused x) t = refl

module _ (line out t : List ℕ) where
  nothing-taken : takes out t ≡ false → GatheredLine line out out t t undone
  nothing-taken e =
      record {
        words = sym (ap (λ (b : Bool). cond b (words (answer line) ++ drop word_count out) out) e);
        table = sym (ap (λ (b : Bool). cond b (gathers t (gsv_in (answer line))).gatherer t) e);
        says = sym (ap (λ (b : Bool). cond b (line_code (gsv_in (answer line)) (gathers t (gsv_in (answer line)))) undone) e);
      }

  pub few-words : length out < word_count → GatheredLine line out out t t undone
  few-words h = nothing-taken (λ j. lt-leb word_count (length out) h j && eqb (length t) table_words)

  pub no-table : word_count ≤ length out → (length t ≡ table_words → ⊥) → GatheredLine line out out t t undone
  no-table h n = nothing-taken (λ j. le-leb word_count (length out) h j && ne_eqb (length t) table_words n j)

  pub line-taken : (out' t' : List ℕ) (x : Result (Option GsvLine) Refusal) (r : ℕ) → word_count ≤ length out → length t ≡ table_words → Takes (answer line) out out' t t' x
      → r ≡ taken_code x → GatheredLine line out out' t t' r
  line-taken out' t' x r h long k q =
      let e : takes out t ≡ true = λ j. le-leb word_count (length out) h j && eq-eqb (length t) table_words long j in
      record {
        words =
            k.words
            ∙ ap (λ (b : Bool). cond b (words (answer line) ++ drop word_count out) out) (le-leb word_count (length out) h)
            ∙ sym (ap (λ (b : Bool). cond b (words (answer line) ++ drop word_count out) out) e);
        table = k.table ∙ sym (ap (λ (b : Bool). cond b (gathers t (gsv_in (answer line))).gatherer t) e);
        says =
            q
            ∙ by-brief x
            ∙ (λ j. code_in (k.says j) (k.handed j))
            ∙ by-answer (answer line) t
            ∙ sym (ap (λ (b : Bool). cond b (line_code (gsv_in (answer line)) (gathers t (gsv_in (answer line)))) undone) e);
      }

-- a row that is not read, and one that is
module _ (t : List ℕ) (κ : ℕ) (out : List ℕ) where
  unread : reads t κ out ≡ false → RowRead t κ out out undone
  unread e =
      record {
        words = sym (ap (λ (b : Bool). cond b (row_read κ (row_of t κ) ++ drop row_room out) out) e);
        says = sym (ap (λ (b : Bool). cond b done undone) e);
      }

  pub few-row-words : length out < row_room → RowRead t κ out out undone
  few-row-words h =
      unread (λ j. lt-leb row_room (length out) h j && (eqb (length t) table_words && (ltb κ row_count && leb (get_or (row_of t κ) 3 0) cell_count)))

  pub no-row-table : row_room ≤ length out → (length t ≡ table_words → ⊥) → RowRead t κ out out undone
  no-row-table h n =
      unread (λ j. le-leb row_room (length out) h j && (ne_eqb (length t) table_words n j && (ltb κ row_count && leb (get_or (row_of t κ) 3 0) cell_count)))

  pub no-such-row : row_room ≤ length out → length t ≡ table_words → row_count ≤ κ → RowRead t κ out out undone
  no-such-row h long n =
      unread (λ j. le-leb row_room (length out) h j && (eq-eqb (length t) table_words long j && (le-ltb κ row_count n j && leb (get_or (row_of t κ) 3 0) cell_count)))

  pub row-taken : (ws out' : List ℕ) (r : ℕ) → row_room ≤ length out → length t ≡ table_words → κ < row_count → ws ≡ row_of t κ
      → ReadAs ws κ out out' r → RowRead t κ out out' r
  row-taken ws out' r h long n e k =
      let b : leb (get_or ws 3 0) cell_count ≡ reads t κ out =
      ap (λ (l : List ℕ). leb (get_or l 3 0) cell_count) e
      ∙ sym (λ j. le-leb row_room (length out) h j && (eq-eqb (length t) table_words long j && (lt-ltb κ row_count n j && leb (get_or (row_of t κ) 3 0) cell_count)))
      in
      record {
        words = k.words ∙ (λ j. cond (b j) (row_read κ (e j) ++ drop row_room out) out);
        says = k.says ∙ (λ j. cond (b j) done undone);
      }

-- words stored one after the other
pub two-stored : (l : List ℕ) (at a b : ℕ) → set (set l at a) (at + 1) b ≡ sets l at (a ∷ b ∷ [])
two-stored l at a b = let z : at + 1 ≡ suc at = omega arith in λ j. set (set l at a) (z j) b

pub put-absent : (l : List ℕ) (at x : ℕ) → x ≡ 4294967295 → set (set l at 0) (at + 1) 0 ≡ sets l at (option_words (number_of x))
put-absent l at x e =
    two-stored l at 0 0 ∙ ap (λ (b : Bool). sets l at (option_words (cond b none (some x)))) (sym (eq-eqb x 4294967295 e))

pub put-known : (l : List ℕ) (at x : ℕ) → (x ≡ 4294967295 → ⊥) → set (set l at 1) (at + 1) x ≡ sets l at (option_words (number_of x))
put-known l at x e =
    two-stored l at 1 x ∙ ap (λ (b : Bool). sets l at (option_words (cond b none (some x)))) (sym (ne_eqb x 4294967295 e))

-- stores change no length
pub two-long : (l : List ℕ) (i a j b : ℕ) → length (set (set l i a) j b) ≡ length l
two-long l i a j b = length-set (set l i a) j b ∙ length-set l i a

pub entry-room : (l : List ℕ) (i id k : ℕ) → i < cell_count → row_room ≤ length l → k ≤ 6 → 5 + i * 8 + k + 2 ≤ length (set (set l (5 + i * 8) 1) (5 + i * 8 + 1) id)
entry-room l i id k h r f = omega (arith, two-long l (5 + i * 8) 1 (5 + i * 8 + 1) id)

-- an entry's eight words: two, and three times two
pub entry-stored : (l a b c d : List ℕ) (to id : ℕ) (e f g : Maybe ℕ) → a ≡ set (set l to 1) (to + 1) id → b ≡ sets a (to + 2) (option_words e)
    → c ≡ sets b (to + 4) (option_words f) → d ≡ sets c (to + 6) (option_words g)
    → d ≡ sets l to (entry_words (some (record { id = id; elevation = e; azimuth = f; signal = g })))
entry-stored l a b c d to id e f g ea eb ec ed =
    four l a b c d (1 ∷ id ∷ []) (option_words e) (option_words f) (option_words g) to (to + 2) (to + 4) (to + 6)
    (ea ∙ two-stored l to 1 id) refl eb (omega (arith, option-two e)) ec (omega (arith, option-two f)) ed

-- a table that is made fresh, and one that is none
pub all-cleared : (t t' : List ℕ) → length t ≡ table_words → t' ≡ replicate (length t) 0 → Freshened t t' done
all-cleared t t' long e =
    let b : eqb (length t) table_words ≡ true = eq-eqb (length t) table_words long in
    record {
      table = e ∙ ap (λ (n : ℕ). replicate n 0) long ∙ sym (ap (λ (b : Bool). cond b fresh_table t) b);
      says = sym (ap (λ (b : Bool). cond b done undone) b);
    }

pub not-cleared : (t : List ℕ) → (length t ≡ table_words → ⊥) → Freshened t t undone
not-cleared t n =
    let b : eqb (length t) table_words ≡ false = ne_eqb (length t) table_words n in
    record { table = sym (ap (λ (b : Bool). cond b fresh_table t) b); says = sym (ap (λ (b : Bool). cond b done undone) b) }

-- a row is read: its head, its entries one by one, and zeros
entries-long : (es : List Satellite) → length (entries_words es) ≡ length es * 8
entries-long [] = refl
entries-long (s ∷ es) = omega (arith, length-append (entry_words (some s)) (entries_words es), entry-eight (some s), entries-long es)

entries-append : (a b : List Satellite) → entries_words (a ++ b) ≡ entries_words a ++ entries_words b
entries-append [] b = refl
entries-append (s ∷ a) b =
    ap (λ (l : List ℕ). entry_words (some s) ++ l) (entries-append a b) ∙ sym (append_assoc (entry_words (some s)) (entries_words a) (entries_words b))

entries-next : (i : ℕ) (ws : List ℕ) → entries_words (sats_from 0 i ws) ++ entry_words (some (sat_at ws i)) ≡ entries_words (sats_from 0 (i + 1) ws)
entries-next i ws =
    let z : 0 + i ≡ i = omega arith in
    ap (λ (l : List ℕ). entries_words (sats_from 0 i ws) ++ l) (sym (append-nil (entry_words (some (sat_at ws i)))))
    ∙ sym (entries-append (sats_from 0 i ws) (sat_at ws i ∷ []))
    ∙ ap entries_words (sym (sats-append 0 i 1 ws ∙ ap (λ (k : ℕ). sats_from 0 i ws ++ (sat_at ws k ∷ [])) z))

wide : (i : ℕ) (ws : List ℕ) → length (entries_words (sats_from 0 i ws)) ≡ i * 8
wide i ws = omega (arith, entries-long (sats_from 0 i ws), sats-long 0 i ws)

pub one-entry : (l m o ws : List ℕ) (i : ℕ) → m ≡ sets l 5 (entries_words (sats_from 0 i ws)) → o ≡ sets m (5 + i * 8) (entry_words (some (sat_at ws i)))
    → o ≡ sets l 5 (entries_words (sats_from 0 (i + 1) ws))
one-entry l m o ws i e f =
    behind l m o (entries_words (sats_from 0 i ws)) (entry_words (some (sat_at ws i))) 5 (5 + i * 8) e (omega (arith, wide i ws)) f
    ∙ ap (sets l 5) (entries-next i ws)

module _ (κ : ℕ) (ws out : List ℕ) (room : row_room ≤ length out) where
  pub too-many : cell_count < get_or ws 3 0 → ReadAs ws κ out out undone
  too-many h =
      let e : leb (get_or ws 3 0) cell_count ≡ false = lt-leb (get_or ws 3 0) cell_count h in
      record {
        words = sym (ap (λ (b : Bool). cond b (row_read κ ws ++ drop row_room out) out) e);
        says = sym (ap (λ (b : Bool). cond b done undone) e);
      }

  pub all-read : (a b c : List ℕ) → get_or ws 3 0 ≤ cell_count → a ≡ sets out 0 (row_head κ ws) → b ≡ sets a 5 (entries_words (sats_from 0 (get_or ws 3 0) ws))
      → c ≡ sets b (5 + get_or ws 3 0 * 8) (zeros (row_room - (5 + get_or ws 3 0 * 8))) → ReadAs ws κ out c done
  all-read a b c few ea eb ec =
      let m = get_or ws 3 0 in
      let es = entries_words (sats_from 0 m ws) in
      let zs = zeros (row_room - (5 + m * 8)) in
      let test : leb m cell_count ≡ true = le-leb m cell_count few in
      let n : length es ≡ m * 8 = wide m ws in
      let long : 0 + length (row_read κ ws) ≡ row_room =
      omega (arith, length-append (row_head κ ws) (es ++ zs), length-append es zs, length-replicate {A = ℕ} (row_room - (5 + m * 8)) 0)
      in
      record {
        words =
            three out a b c (row_head κ ws) es zs 0 5 (5 + m * 8) ea refl eb (omega arith) ec
            ∙ sets-eq (row_read κ ws) out 0 (omega arith)
            ∙ ap (λ (k : ℕ). row_read κ ws ++ drop k out) long
            ∙ sym (ap (λ (b : Bool). cond b (row_read κ ws ++ drop row_room out) out) test);
        says = sym (ap (λ (b : Bool). cond b done undone) test);
      }
