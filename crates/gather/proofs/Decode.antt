-- What the words of a row mean after a line. Assumes nothing.
use Prim.Native.Nat.{ℕ, ◌+◌, ◌*◌, ◌≤◌, ◌<◌}
use native.Mathlib.Omega.{arith}
use mathlib.Core.Path.{◌≡◌, refl, ap, sym, ◌∙◌, subst}
use mathlib.Core.Logic.{◌↔◌}
use mathlib.Core.List.{List, [], ◌∷◌, ◌++◌}
use mathlib.Core.Bool.{Bool, true, false, ◌&&◌, cond}
use mathlib.Core.Option.{Option, none, some, none-ne-some}
use borrow.Author.Tests.{eq-eqb}
use lib.Dec.{eqb, leb}
use lib.ListN.{length, get_or, set}
use lib.Seq.{sets, length-sets, get_or-set_same}
use Rattle.groups.specs.Log.{Gsv, Group}
use Rattle.groups.specs.Step.{Open, sofar, taken, step}
use Rattle.gsv.specs.Gsv.{Satellite, GsvSentence}
use Rattle.gsv.proofs.Present.{at-most-four}
use Rattle.short.specs.Texts.{AllReadable}
use Rattle.short.proofs.Line.{room}
use Rattle.answer.specs.Sentence.{answer, is_gsv}
use Rattle.rows.specs.Key.{row_count}
use Rattle.rows.specs.Line.{line_of}
use Rattle.rows.specs.Leave.{Leavable, leavable, Stands}
use Rattle.rows.proofs.Row.{row-exactly, stands-step}
use Rattle.gather.specs.Words.{sats_from, open_of, group_of, stands, meant, flat}
use Rattle.gather.specs.Put.{next_of, written, row_after}
use Rattle.gather.proofs.Cells.{below, above, inside, sats-same, sats-append, cells-back}
use Rattle.gather.proofs.Runs.{GoesOn, goes-on, by-head, after-is, handed, waited}

-- a row that waits for no line means nothing
pub none-at : (ws : List ℕ) → get_or ws 1 0 ≡ 0 → meant ws ≡ none
none-at ws h = by (eqb (length ws) 148) (leb 2 (get_or ws 1 0)) _ (ap (leb 2) h)
  where
    by : (a b c : Bool) → b ≡ false → cond (a && (b && c)) (some (open_of ws)) none ≡ none
    by a true c e = let z : ◌≡◌ {A = ℕ} 0 1 = cc in absurd (omega arith)
    by true false c e = refl
    by false false c e = refl

pub meant-stands : (ws : List ℕ) → Stands (meant ws)
meant-stands ws = by (eqb (length ws) 148) (leavable (open_of ws)) refl
  where
    by : (a b : Bool) → leavable (open_of ws) ≡ b → Stands (cond (a && b) (some (open_of ws)) none)
    by true true e = e
    by true false e = tt
    by false b e = tt

module _ (ws : List ℕ) (g : Gsv Satellite) (es : List Satellite) (long : length ws ≡ 148) (few : length es ≤ 32)
    (read : sats_from 0 (length es) ws ≡ es) (each : AllReadable g.sats) (four : length g.sats ≤ 4) where
  abbrev k : ℕ
  k = length es

  abbrev m : ℕ
  m = length g.sats

  abbrev cells : List ℕ
  cells = sets ws (4 + k * 4) (flat g.sats)

  abbrev head : List ℕ
  head = g.n ∷ next_of g ∷ g.view ∷ (k + m) ∷ []

  abbrev W : List ℕ
  W = written ws g (some es)

  wide : length cells ≡ 148
  wide = length-sets ws (4 + k * 4) (flat g.sats) ∙ long

  pub W-long : length W ≡ 148
  W-long = length-sets cells 0 head ∙ wide

  at : (i : ℕ) → i < 4 → get_or W i 0 ≡ get_or head i 0
  at i h = let z : i ≡ 0 + i = omega arith in ap (λ (n : ℕ). get_or W n 0) z ∙ inside head cells 0 i h (omega (arith, wide))

  pub next-is : get_or W 1 0 ≡ next_of g
  next-is = at 1 (omega arith)

  W-sats : sats_from 0 (get_or W 3 0) W ≡ es ++ g.sats
  W-sats =
      ap (λ (n : ℕ). sats_from 0 n W) (at 3 (omega arith))
      ∙ sats-append 0 k m W
      ∙ (λ j. first j ++ second j)
    where
      first : sats_from 0 k W ≡ es
      first =
          sats-same 0 k W ws (λ n p q. above head cells 0 n (omega arith) ∙ below (flat g.sats) ws (4 + k * 4) n (omega arith)) ∙ read

      second : sats_from (0 + k) m W ≡ g.sats
      second =
          let z : 0 + k ≡ k = omega arith in
          ap (λ (i : ℕ). sats_from i m W) z
          ∙ sats-same k m W cells (λ n p q. above head cells 0 n (omega arith))
          ∙ cells-back g.sats ws k each (omega arith)

  pub W-open : open_of W ≡ record { n = g.n; next = next_of g; view = g.view; sats = es ++ g.sats }
  W-open = λ j. record { n = at 0 (omega arith) j; next = at 1 (omega arith) j; view = at 2 (omega arith) j; sats = W-sats j }

  pub W-group : group_of W ≡ record { n = g.n; view = g.view; sats = es ++ g.sats }
  W-group = λ j. record { n = at 0 (omega arith) j; view = at 2 (omega arith) j; sats = W-sats j }

-- THE MEANING of a row after an accepted line is what the theory's step leaves
module _ (ws l : List ℕ) (h : GsvSentence) (read : answer l ≡ is_gsv h) (long : length ws ≡ 148) where
  abbrev g : Gsv Satellite
  g = line_of h

  after : Stands (step (meant ws) g).row
  after = stands-step (meant ws) l h read (meant-stands ws)

  each : AllReadable g.sats
  each = (room l h read).each

  finds : (es : List Satellite) → sofar (meant ws) g ≡ some es → GoesOn ws g.n g.number g.view es
  finds es e = goes-on ws g.n g.number g.view es (by-head (meant ws) g ∙ e)

  pub put-meaning : meant (row_after ws g) ≡ (step (meant ws) g).row
  put-meaning = by (sofar (meant ws) g) refl
    where
      last : (es : List Satellite) → sofar (meant ws) g ≡ some es → (b : Bool) → eqb g.number g.n ≡ b
          → meant (written ws g (some es)) ≡ (cond b (handed g es) (waited g es)).row
      last es e true q =
          let f = finds es e in
          none-at (written ws g (some es))
          (next-is ws g es long f.few f.read each (at-most-four h.body) ∙ ap (λ (b : Bool). cond b 0 (g.number + 1)) q)
      last es e false q =
          let f = finds es e in
          let o : Open Satellite = record { n = g.n; next = g.number + 1; view = g.view; sats = es ++ g.sats } in
          let is : open_of (written ws g (some es)) ≡ o =
          W-open ws g es long f.few f.read each (at-most-four h.body)
          ∙ ap (λ (b : Bool). record { n = g.n; next = cond b 0 (g.number + 1); view = g.view; sats = es ++ g.sats }) q
          in
          let st : leavable o ≡ true =
          subst (λ (r : Option (Open Satellite)). Stands r)
          ((λ j. (taken (e j) g).row) ∙ ap (λ (b : Bool). (cond b (handed g es) (waited g es)).row) q) after
          in
          let el : eqb (length (written ws g (some es))) 148 ≡ true =
          eq-eqb _ _ (W-long ws g es long f.few f.read each (at-most-four h.body))
          in
          (λ j. cond (el j && leavable (is j)) (some (is j)) none) ∙ ap (λ (b : Bool). cond b (some o) none) st

      by : (x : Option (List Satellite)) → sofar (meant ws) g ≡ x → meant (row_after ws g) ≡ (step (meant ws) g).row
      by none e =
          ap meant (after-is ws g long none e)
          ∙ none-at (set ws 1 0) (get_or-set_same ws 1 0 0 (omega arith))
          ∙ sym (λ j. (taken (e j) g).row)
      by (some es) e =
          ap meant (after-is ws g long (some es) e)
          ∙ last es e (eqb g.number g.n) refl
          ∙ sym (λ j. (taken (e j) g).row)

  -- a group that is handed out stands in the words of the row, until the next line of its key
  pub put-group : (p : Group Satellite) → (step (meant ws) g).group ≡ some p → group_of (row_after ws g) ≡ p
  put-group p e = by (sofar (meant ws) g) refl e
    where
      last : (es : List Satellite) → sofar (meant ws) g ≡ some es → (b : Bool) → (cond b (handed g es) (waited g es)).group ≡ some p
          → group_of (row_after ws g) ≡ p
      last es q true f =
          let d = finds es q in
          let z : record { n = g.n; view = g.view; sats = es ++ g.sats } ≡ p = cc in
          ap group_of (after-is ws g long (some es) q) ∙ W-group ws g es long d.few d.read each (at-most-four h.body) ∙ z
      last es q false f = absurd (none-ne-some _ f)

      by : (x : Option (List Satellite)) → sofar (meant ws) g ≡ x → (taken (sofar (meant ws) g) g).group ≡ some p → group_of (row_after ws g) ≡ p
      by none q f = absurd (none-ne-some _ (sym (λ j. (taken (q j) g).group) ∙ f))
      by (some es) q f = last es q (eqb g.number g.n) (sym (λ j. (taken (q j) g).group) ∙ f)

-- the test of a row is true exactly of the runs that lines of its key leave in it
pub stands-exactly : (κ : ℕ) → κ < row_count → (ws : List ℕ) → length ws ≡ 148 → (stands ws ≡ true) ↔ Leavable κ (open_of ws)
stands-exactly κ h ws long =
    let e : eqb (length ws) 148 ≡ true = eq-eqb (length ws) 148 long in
    let r = row-exactly κ h (open_of ws) in
    let s : stands ws ≡ leavable (open_of ws) = λ j. e j && leavable (open_of ws) in
    (λ q. r.1 (sym s ∙ q), λ l. s ∙ r.0 l)

-- cells behind the count are not looked at
pub unread : (ws vs : List ℕ) → length ws ≡ length vs → ((i : ℕ) → i < 4 + get_or ws 3 0 * 4 → get_or ws i 0 ≡ get_or vs i 0) → meant ws ≡ meant vs
unread ws vs l h =
    let is : open_of ws ≡ open_of vs =
    λ j.
    record {
      n = h 0 (omega arith) j;
      next = h 1 (omega arith) j;
      view = h 2 (omega arith) j;
      sats =
          (sats-same 0 (get_or ws 3 0) ws vs (λ n p q. h n (omega arith)) ∙ ap (λ (k : ℕ). sats_from 0 k vs) (h 3 (omega arith))) j;
    }
    in
    λ j. cond (eqb (l j) 148 && leavable (is j)) (some (is j)) none
