-- THE TABLE after an accepted line is what the theory's table is after it, and the words of a row that is complete are its group.
-- Assumes nothing.
use Prim.Native.Nat.{ℕ, suc, ◌+◌, ◌-◌, ◌*◌, ◌≤◌, ◌<◌}
use native.Mathlib.Omega.{arith}
use mathlib.Core.Path.{◌≡◌, refl, ap, sym, ◌∙◌}
use mathlib.Core.List.{List, [], ◌∷◌, ◌++◌, append_assoc}
use mathlib.Core.Bool.{Bool, true, false, cond}
use mathlib.Core.Option.{Option, none, some}
use borrow.Author.Tests.{eq-eqb, ne_eqb, eqb-true, eqb-false, ltb-true, ltb-false}
use lib.Dec.{eqb, ltb}
use lib.ListN.{length, get_or, take, drop, replicate, length-set, length-take, length-drop}
use lib.Seq.{sets, sets-eq, length-sets, ext_get_or, get_or-take, get_or-drop, drop-drop}
use Rattle.groups.specs.Log.{Gsv, Line, gsv, Group}
use Rattle.groups.specs.Left.{All}
use Rattle.groups.specs.Step.{Table, sofar, step, next, fresh, after}
use Rattle.gsv.specs.Gsv.{Satellite, GsvSentence}
use Rattle.gsv.specs.Talker.{System, gps, glonass, galileo, beidou, qzss, navic, system_number}
use Rattle.short.specs.Room.{Written}
use Rattle.answer.specs.Sentence.{answer, is_gsv}
use Rattle.rows.specs.Key.{Source, source_of, row_from, row_count}
use Rattle.rows.specs.Line.{line_of}
use Rattle.gather.specs.Words.{group_of, meant, flat}
use Rattle.gather.specs.Put.{next_of, written, row_after, told, outcome_of, Put}
use Rattle.gather.specs.Table.{table_words, row_of, fresh_table, table_of, table_after, said_by, Gathers}
use Rattle.gather.specs.Run.{run}
use Rattle.gather.specs.declared.line.Outcome.{Outcome}
use Rattle.gather.specs.declared.line.Outcome.TheVariants.{NoRow}
use Rattle.gather.proofs.Cells.{below, above, inside}
use Rattle.gather.proofs.Decode.{none-at, put-meaning, put-group}

-- a system's number is one of 1 to 6, so that its row is one of the table's
pub number-within : (s : System) → (1 ≤ system_number s) × (system_number s ≤ row_count)
number-within gps = (omega arith, omega arith)
number-within glonass = (omega arith, omega arith)
number-within galileo = (omega arith, omega arith)
number-within beidou = (omega arith, omega arith)
number-within qzss = (omega arith, omega arith)
number-within navic = (omega arith, omega arith)

pub row-below : (s : Source) → row_from s < row_count
row-below s = let h = number-within s.system in omega (arith, h.0, h.1)

-- a line leaves as many words as there were
pub after-long : (ws : List ℕ) (g : Gsv Satellite) → length (row_after ws g) ≡ length ws
after-long ws g = by (eqb (length ws) 148) (sofar (meant ws) g)
  where
    by : (b : Bool) (x : Option (List Satellite)) → length (cond b (written ws g x) ws) ≡ length ws
    by true none = length-set ws 1 0
    by true (some es) =
        length-sets (sets ws (4 + length es * 4) (flat g.sats)) 0 (g.n ∷ next_of g ∷ g.view ∷ (length es + length g.sats) ∷ [])
        ∙ length-sets ws (4 + length es * 4) (flat g.sats)
    by false x = refl

-- the code's part of the table
-- the code's part of the table: one of another length is left as it is
pub no-table : (t : List ℕ) (g : Gsv Satellite) → (length t ≡ table_words → ⊥) → Gathers t t g NoRow
no-table t g h =
    let e : false ≡ eqb (length t) table_words = sym (ne_eqb (length t) table_words h) in
    record {
      words = λ j. cond (e j) (sets t (g.key * 148) (row_after (row_of t g.key) g)) t;
      says = λ j. cond (e j) (outcome_of (row_of t g.key) g) NoRow;
    }

row-long : (t : List ℕ) (κ : ℕ) → κ * 148 + 148 ≤ length t → length (row_of t κ) ≡ 148
row-long t κ h = simp (length-take, length-drop) (omega arith)

module _ (t : List ℕ) (g : Gsv Satellite) (key : ℕ) (x : List ℕ) (r : Outcome) where
  pub gathers : key ≡ g.key → g.key < row_count → length t ≡ table_words → Put (take (key * 148 + 148 - key * 148) (drop (key * 148) t)) x g r
      → Gathers t (take (key * 148) t ++ (x ++ drop (key * 148 + 148 - key * 148) (drop (key * 148) t))) g r
  gathers ek h long p =
      let z : key * 148 + 148 - key * 148 ≡ 148 = omega arith in
      let same : row_after (take (key * 148 + 148 - key * 148) (drop (key * 148) t)) g ≡ row_after (row_of t g.key) g =
      λ j. row_after (take (z j) (drop (ek j * 148) t)) g
      in
      let xs : x ≡ row_after (row_of t g.key) g = p.words ∙ same in
      let xl : length x ≡ 148 = ap length xs ∙ after-long (row_of t g.key) g ∙ row-long t g.key (omega arith) in
      let y : key * 148 + (key * 148 + 148 - key * 148) ≡ key * 148 + length x = omega arith in
      let e : eqb (length t) table_words ≡ true = eq-eqb (length t) table_words long in
      record {
        words =
            sym (append_assoc (take (key * 148) t) x (drop (key * 148 + 148 - key * 148) (drop (key * 148) t)))
            ∙ ap (λ (l : List ℕ). take (key * 148) t ++ x ++ l) (drop-drop (key * 148 + 148 - key * 148) (key * 148) t ∙ ap (λ (n : ℕ). drop n t) y)
            ∙ sym (sets-eq x t (key * 148) (omega arith))
            ∙ (λ j. sets t (ek j * 148) (xs j))
            ∙ sym (λ j. cond (e j) (sets t (g.key * 148) (row_after (row_of t g.key) g)) t);
        says =
            p.says
            ∙ (λ j. outcome_of (take (z j) (drop (ek j * 148) t)) g)
            ∙ sym (λ j. cond (e j) (outcome_of (row_of t g.key) g) NoRow);
      }

-- a row that is put is read, and the others stand
module _ (t : List ℕ) (κ : ℕ) (ws : List ℕ) (h : length ws ≡ 148) (l : κ * 148 + 148 ≤ length t) where
  own-row : row_of (sets t (κ * 148) ws) κ ≡ ws
  own-row =
      let n : length (row_of (sets t (κ * 148) ws) κ) ≡ 148 = row-long (sets t (κ * 148) ws) κ (omega (arith, length-sets t (κ * 148) ws)) in
      ext_get_or 0 (row_of (sets t (κ * 148) ws) κ) ws (n ∙ sym h)
      (λ i q.
      get_or-take 148 (drop (κ * 148) (sets t (κ * 148) ws)) i 0 (omega arith)
      ∙ get_or-drop (κ * 148) (sets t (κ * 148) ws) i 0
      ∙ inside ws t (κ * 148) i (omega arith) (omega arith))

  other-row : (ι : ℕ) → (κ ≡ ι → ⊥) → row_of (sets t (κ * 148) ws) ι ≡ row_of t ι
  other-row ι ne =
      let n : length (sets t (κ * 148) ws) ≡ length t = length-sets t (κ * 148) ws in
      ext_get_or 0 (row_of (sets t (κ * 148) ws) ι) (row_of t ι) (simp (length-take, length-drop) (omega arith))
      (λ i q.
      let k : i < 148 = omega (arith, length-take 148 (drop (ι * 148) (sets t (κ * 148) ws))) in
      get_or-take 148 (drop (ι * 148) (sets t (κ * 148) ws)) i 0 k
      ∙ get_or-drop (ι * 148) (sets t (κ * 148) ws) i 0
      ∙ away i k
      ∙ sym (get_or-take 148 (drop (ι * 148) t) i 0 k ∙ get_or-drop (ι * 148) t i 0))
    where
      strict : (b : Bool) → eqb κ ι ≡ b → κ ≤ ι → κ < ι
      strict true q f = absurd (ne (eqb-true κ ι q))
      strict false q f = let n : κ ≡ ι → ⊥ = eqb-false κ ι q in omega (arith, n)

      by : (i : ℕ) → i < 148 → (b : Bool) → ltb ι κ ≡ b → get_or (sets t (κ * 148) ws) (ι * 148 + i) 0 ≡ get_or t (ι * 148 + i) 0
      by i k true e =
          let f : ι < κ = ltb-true ι κ e in
          below ws t (κ * 148) (ι * 148 + i) (omega arith)
      by i k false e =
          let f : κ < ι = strict (eqb κ ι) refl (ltb-false ι κ e) in
          above ws t (κ * 148) (ι * 148 + i) (omega arith)

      away : (i : ℕ) → i < 148 → get_or (sets t (κ * 148) ws) (ι * 148 + i) 0 ≡ get_or t (ι * 148 + i) 0
      away i k = by i k (ltb ι κ) refl

-- an accepted line
module _ (t l : List ℕ) (h : GsvSentence) (read : answer l ≡ is_gsv h) (long : length t ≡ table_words) where
  abbrev g : Gsv Satellite
  g = line_of h

  fits : g.key * 148 + 148 ≤ length t
  fits = omega (arith, row-below (source_of h))

  row : length (row_of t g.key) ≡ 148
  row = row-long t g.key fits

  is : table_after t g ≡ sets t (g.key * 148) (row_after (row_of t g.key) g)
  is = λ j. cond (eq-eqb (length t) table_words long j) (sets t (g.key * 148) (row_after (row_of t g.key) g)) t

  mine : row_of (table_after t g) g.key ≡ row_after (row_of t g.key) g
  mine =
      ap (λ (l : List ℕ). row_of l g.key) is
      ∙ own-row t g.key (row_after (row_of t g.key) g) (after-long (row_of t g.key) g ∙ row) fits

  pub table-meaning : table_of (table_after t g) ≡ next (table_of t) (gsv g)
  table-meaning = λ j κ. at κ j
    where
      at : (κ : ℕ) → table_of (table_after t g) κ ≡ next (table_of t) (gsv g) κ
      at κ = by (eqb g.key κ) refl
        where
          by : (b : Bool) → eqb g.key κ ≡ b → table_of (table_after t g) κ ≡ cond b (step (table_of t g.key) g).row (table_of t κ)
          by true e =
              let q : g.key ≡ κ = eqb-true g.key κ e in
              ap (table_of (table_after t g)) (sym q) ∙ ap meant mine ∙ put-meaning (row_of t g.key) l h read row
          by false e =
              ap (λ (l : List ℕ). meant (row_of l κ)) is
              ∙ ap meant (other-row t g.key (row_after (row_of t g.key) g) (after-long (row_of t g.key) g ∙ row) fits κ (eqb-false g.key κ e))

  -- what is said is what the theory hands out
  pub table-says : said_by t g ≡ told (step (table_of t g.key) g)
  table-says =
      λ j. cond (eq-eqb (length t) table_words long j) (cond (eq-eqb (length (row_of t g.key)) 148 row j) (told (step (table_of t g.key) g)) NoRow) NoRow

  pub table-group : (p : Group Satellite) → (step (table_of t g.key) g).group ≡ some p → group_of (row_of (table_after t g) g.key) ≡ p
  table-group p e = ap group_of mine ∙ put-group (row_of t g.key) l h read row p e

  pub same-words : length (table_after t g) ≡ table_words
  same-words = ap length is ∙ length-sets t (g.key * 148) (row_after (row_of t g.key) g) ∙ long

-- lines one after the other
abbrev pub log_of : List GsvSentence → List (Line Satellite)
log_of [] = []
log_of (h ∷ hs) = gsv (line_of h) ∷ log_of hs

pub run-meaning : (t : List ℕ) (hs : List GsvSentence) → All Written hs → length t ≡ table_words → table_of (run t hs) ≡ after (table_of t) (log_of hs)
run-meaning t [] w long = refl
run-meaning t (h ∷ hs) w long =
    run-meaning (table_after t (line_of h)) hs w.1 (same-words t w.0.line h w.0.accepted long)
    ∙ ap (λ (x : Table Satellite). after x (log_of hs)) (table-meaning t w.0.line h w.0.accepted long)

-- a table before any line means that every row is empty
pub zero-fresh : table_of fresh_table ≡ fresh
zero-fresh = λ j κ. at κ j
  where
    zeros : (n i : ℕ) → ◌≡◌ {A = ℕ} (get_or (replicate n 0) i 0) 0
    zeros ℕ.zero i = refl
    zeros (suc n) ℕ.zero = refl
    zeros (suc n) (suc i) = zeros n i

    at : (κ : ℕ) → table_of fresh_table κ ≡ none
    at κ =
        none-at (row_of fresh_table κ)
        (get_or-take 148 (drop (κ * 148) fresh_table) 1 0 (omega arith) ∙ get_or-drop (κ * 148) fresh_table 1 0 ∙ zeros table_words (κ * 148 + 1))

pub table-long : (t : List ℕ) (g : Gsv Satellite) → length (table_after t g) ≡ length t
table-long t g = by (eqb (length t) table_words)
  where
    by : (b : Bool) → length (cond b (sets t (g.key * 148) (row_after (row_of t g.key) g)) t) ≡ length t
    by true = length-sets t (g.key * 148) (row_after (row_of t g.key) g)
    by false = refl
