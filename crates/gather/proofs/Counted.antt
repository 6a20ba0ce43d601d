-- Runs by their heads and a table of words, line by line: where each head is that of the table's run, a line says the same of both, and
-- leaves them so. So who only counts groups needs no table. Assumes nothing.
use Prim.Native.Nat.{ℕ, ◌+◌, ◌*◌, ◌≤◌, ◌<◌}
use native.Mathlib.Omega.{arith}
use mathlib.Core.Path.{◌≡◌, refl, ap, sym, ◌∙◌, subst}
use mathlib.Core.List.{List, [], ◌++◌}
use mathlib.Core.Bool.{Bool, true, false, ◌&&◌, cond, and-eq-true_iff}
use mathlib.Core.Option.{Option, none, some}
use borrow.Author.Tests.{eqb-true, eqb-false, leb-true, le-leb}
use lib.Dec.{eqb, leb}
use lib.ListN.{length, get_or, set, replicate, length-set, length-replicate, get_or-replicate}
use lib.Seq.{get_or-set_same, get_or-set_other}
use Rattle.groups.specs.Log.{line_max, Gsv}
use Rattle.groups.specs.Step.{Open, Out, goes_on, onward, sofar, taken, step}
use Rattle.gsv.specs.Gsv.{Satellite, Head, GsvSentence}
use Rattle.answer.specs.Sentence.{answer, is_gsv}
use Rattle.rows.specs.Key.{source_of, key_of, row_count}
use Rattle.rows.specs.Line.{line_of}
use Rattle.gather.specs.Heads.{head_line, run_stands, run_meant, run_of, run_after, no_run, bare, head_words, run_at, set_run, Matches}
use Rattle.gather.specs.Code.{runs_on}
use Rattle.gather.specs.Put.{told}
use Rattle.gather.specs.Table.{table_words, fresh_table, table_of, table_after, said_by}
use Rattle.gather.specs.declared.run.Run.{Run}
use Rattle.gather.specs.declared.run.RunAfter.{RunAfter}
use Rattle.gather.proofs.Heads.{before-is}
use Rattle.gather.proofs.Tables.{row-below, table-meaning, table-says, same-words, zero-fresh}

abbrev emptied : Option (List Satellite) → Option (List Satellite)
emptied none = none
emptied (some es) = some []

abbrev head_in : Gsv Satellite → Head
head_in g = record { count = g.n; index = g.number; view = g.view }

-- a step does not turn on entries
module _ (r : Option (Open Satellite)) (g : Gsv Satellite) where
  same-before : sofar (bare r) (head_line (head_in g)) ≡ emptied (sofar r g)
  same-before = by (eqb g.number 1) (leb 1 g.n && leb g.n line_max) r
    where
      go : (b : Bool) (es : List Satellite) → cond b (some []) none ≡ emptied (cond b (some es) none)
      go true es = refl
      go false es = refl

      by : (one range : Bool) (r : Option (Open Satellite))
          → cond one (cond range (some []) none) (onward (bare r) (head_line (head_in g))) ≡ emptied (cond one (cond range (some []) none) (onward r g))
      by true range r = go range []
      by false range none = refl
      by false range (some o) = go (goes_on o g) o.sats

  record SameOut (x y : Out Satellite) : Type 0 where
    row : x.row ≡ bare y.row
    says : told x ≡ told y

  abbrev outs : List Satellite → Bool → Out Satellite
  outs sats b =
      cond b (record { row = none; group = some (record { n = g.n; view = g.view; sats = sats }) })
      (record { row = some (record { n = g.n; next = g.number + 1; view = g.view; sats = sats }); group = none })

  same-out : (x : Option (List Satellite)) → SameOut (taken (emptied x) (head_line (head_in g))) (taken x g)
  same-out none = record { row = refl; says = refl }
  same-out (some es) = by (eqb g.number g.n)
    where
      by : (b : Bool) → SameOut (outs [] b) (outs (es ++ g.sats) b)
      by true = record { row = refl; says = refl }
      by false = record { row = refl; says = refl }

  same-step : SameOut (step (bare r) (head_line (head_in g))) (step r g)
  same-step =
      subst (λ (x : Option (List Satellite)). SameOut (taken x (head_line (head_in g))) (step r g)) (sym same-before) (same-out (sofar r g))

-- what a line leaves by heads is a run that it can leave
left-stands : (r : Run) (h : Head) → run_meant (run_after r h).run ≡ (step (run_meant r) (head_line h)).row
left-stands r h =
    ap (λ (x : Option (List Satellite)). run_meant (run_of (taken x (head_line h)).row)) (before-is r h)
    ∙ by (runs_on r h) refl (eqb h.index h.count) refl
    ∙ ap (λ (x : Option (List Satellite)). (taken x (head_line h)).row) (sym (before-is r h))
  where
    range : runs_on r h ≡ true → (h.index ≡ h.count → ⊥) → run_stands (record { n = h.count; next = h.index + 1; view = h.view }) ≡ true
    range e q = go (eqb h.index 1) refl e
      where
        within : 2 ≤ h.index + 1 → h.index + 1 ≤ h.count → h.count ≤ line_max → run_stands (record { n = h.count; next = h.index + 1; view = h.view }) ≡ true
        within a b c = λ j. le-leb 2 (h.index + 1) a j && (le-leb (h.index + 1) h.count b j && le-leb h.count line_max c j)

        go : (one : Bool) → eqb h.index 1 ≡ one
            → cond one (leb 1 h.count && leb h.count line_max) (run_stands r && (eqb h.count r.n && (eqb h.index r.next && eqb h.view r.view))) ≡ true
            → run_stands (record { n = h.count; next = h.index + 1; view = h.view }) ≡ true
        go true z e =
            let (low, high) = (and-eq-true_iff (leb 1 h.count) _).0 e in
            let i : h.index ≡ 1 = eqb-true h.index 1 z in
            let l : 1 ≤ h.count = leb-true 1 h.count low in
            let k : h.count ≤ line_max = leb-true h.count line_max high in
            let n : h.count ≡ 1 → ⊥ = λ w. q (i ∙ sym w) in
            within (omega arith) (omega arith) k
        go false z e =
            let (s, t) = (and-eq-true_iff (run_stands r) _).0 e in
            let (count, t₁) = (and-eq-true_iff (eqb h.count r.n) _).0 t in
            let (index, _) = (and-eq-true_iff (eqb h.index r.next) _).0 t₁ in
            let (two, s₁) = (and-eq-true_iff (leb 2 r.next) _).0 s in
            let (below, few) = (and-eq-true_iff (leb r.next r.n) _).0 s₁ in
            let c : h.count ≡ r.n = eqb-true h.count r.n count in
            let i : h.index ≡ r.next = eqb-true h.index r.next index in
            let a : 2 ≤ r.next = leb-true 2 r.next two in
            let b : r.next ≤ r.n = leb-true r.next r.n below in
            let f : r.n ≤ line_max = leb-true r.n line_max few in
            within (omega arith) (omega arith) (omega arith)

    by : (b : Bool) → runs_on r h ≡ b → (d : Bool) → eqb h.index h.count ≡ d
        → run_meant (run_of (taken (cond b (some []) none) (head_line h)).row) ≡ (taken (cond b (some []) none) (head_line h)).row
    by false e d f = refl
    by true e true f = simp f refl
    by true e false f = simp (f, range e (eqb-false h.index h.count f)) refl

-- a run that is set, and the others
module _ (ws : List ℕ) (κ : ℕ) (r : Run) where
  run-same : κ * 3 + 2 < length ws → run_at (set_run ws κ r) κ ≡ r
  run-same h =
      let w₁ = set ws (κ * 3) r.n in
      let w₂ = set w₁ (κ * 3 + 1) r.next in
      let l₁ : length w₁ ≡ length ws = length-set ws (κ * 3) r.n in
      let l₂ : length w₂ ≡ length w₁ = length-set w₁ (κ * 3 + 1) r.next in
      λ j.
      record {
        n = (get_or-set_other w₂ (κ * 3 + 2) (κ * 3) r.view 0 (λ q. omega arith)
            ∙ get_or-set_other w₁ (κ * 3 + 1) (κ * 3) r.next 0 (λ q. omega arith)
            ∙ get_or-set_same ws (κ * 3) r.n 0 (omega arith)) j;
        next = (get_or-set_other w₂ (κ * 3 + 2) (κ * 3 + 1) r.view 0 (λ q. omega arith) ∙ get_or-set_same w₁ (κ * 3 + 1) r.next 0 (omega arith)) j;
        view = get_or-set_same w₂ (κ * 3 + 2) r.view 0 (omega arith) j;
      }

  run-other : (ι : ℕ) → (ι ≡ κ → ⊥) → run_at (set_run ws κ r) ι ≡ run_at ws ι
  run-other ι q = λ j. record { n = at (ι * 3) (λ e. omega arith) (λ e. omega arith) (λ e. omega arith) j; next = at (ι * 3 + 1) (λ e. omega arith) (λ e. omega arith) (λ e. omega arith) j; view = at (ι * 3 + 2) (λ e. omega arith) (λ e. omega arith) (λ e. omega arith) j }
    where
      at : (i : ℕ) → (i ≡ κ * 3 → ⊥) → (i ≡ κ * 3 + 1 → ⊥) → (i ≡ κ * 3 + 2 → ⊥) → get_or (set_run ws κ r) i 0 ≡ get_or ws i 0
      at i a b c =
          get_or-set_other (set (set ws (κ * 3) r.n) (κ * 3 + 1) r.next) (κ * 3 + 2) i r.view 0 c
          ∙ get_or-set_other (set ws (κ * 3) r.n) (κ * 3 + 1) i r.next 0 b
          ∙ get_or-set_other ws (κ * 3) i r.n 0 a

  run-long : length (set_run ws κ r) ≡ length ws
  run-long =
      length-set (set (set ws (κ * 3) r.n) (κ * 3 + 1) r.next) (κ * 3 + 2) r.view
      ∙ length-set (set ws (κ * 3) r.n) (κ * 3 + 1) r.next
      ∙ length-set ws (κ * 3) r.n

pub matches-fresh : Matches (replicate head_words 0) fresh_table
matches-fresh =
    record {
      long = length-replicate {A = ℕ} table_words 0;
      few = refl;
      each = λ κ h. ap run_meant (zero κ h) ∙ sym (λ j. bare (zero-fresh j κ));
    }
  where
    zero : (κ : ℕ) → κ < row_count → run_at (replicate head_words 0) κ ≡ no_run
    zero κ h =
        λ j. record { n = get_or-replicate head_words (κ * 3) 0 0 (omega arith) j; next = get_or-replicate head_words (κ * 3 + 1) 0 0 (omega arith) j; view = get_or-replicate head_words (κ * 3 + 2) 0 0 (omega arith) j }

-- an accepted line
module _ (ws t : List ℕ) (m : Matches ws t) (l : List ℕ) (s : GsvSentence) (read : answer l ≡ is_gsv s) where
  abbrev g : Gsv Satellite
  g = line_of s

  abbrev mine : RunAfter
  mine = run_after (run_at ws (key_of s)) (head_in g)

  within : key_of s < row_count
  within = row-below (source_of s)

  stepped : SameOut (table_of t (key_of s)) g (step (run_meant (run_at ws (key_of s))) (head_line (head_in g))) (step (table_of t (key_of s)) g)
  stepped =
      subst (λ (r : Option (Open Satellite)). SameOut (table_of t (key_of s)) g (step r (head_line (head_in g))) (step (table_of t (key_of s)) g))
      (sym (m.each (key_of s) within)) (same-step (table_of t (key_of s)) g)

  pub same-said : mine.handed ≡ said_by t g
  same-said = stepped.says ∙ sym (table-says t l s read m.long)

  pub still : Matches (set_run ws (key_of s) mine.run) (table_after t g)
  still =
      record {
        long = same-words t l s read m.long;
        few = run-long ws (key_of s) mine.run ∙ m.few;
        each = λ κ h. at κ h (eqb (key_of s) κ) refl ∙ sym (λ j. bare (table-meaning t l s read m.long j κ));
      }
    where
      at : (κ : ℕ) → κ < row_count → (b : Bool) → eqb (key_of s) κ ≡ b
          → run_meant (run_at (set_run ws (key_of s) mine.run) κ) ≡ bare (cond (eqb (key_of s) κ) (step (table_of t (key_of s)) g).row (table_of t κ))
      at κ h true e =
          let q : key_of s ≡ κ = eqb-true (key_of s) κ e in
          ap (λ (i : ℕ). run_meant (run_at (set_run ws (key_of s) mine.run) i)) (sym q)
          ∙ ap run_meant (run-same ws (key_of s) mine.run (omega (arith, within, m.few)))
          ∙ left-stands (run_at ws (key_of s)) (head_in g)
          ∙ stepped.row
          ∙ sym (ap (λ (b : Bool). bare (cond b (step (table_of t (key_of s)) g).row (table_of t κ))) e)
      at κ h false e =
          let n : κ ≡ key_of s → ⊥ = λ q. eqb-false (key_of s) κ e (sym q) in
          ap run_meant (run-other ws (key_of s) mine.run κ n)
          ∙ m.each κ h
          ∙ sym (ap (λ (b : Bool). bare (cond b (step (table_of t (key_of s)) g).row (table_of t κ))) e)
