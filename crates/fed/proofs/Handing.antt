-- A gatherer that is fed lines hands out a group exactly where the definition says: its words mean the theory's table after the lines before.
-- There is no bound on how many lines there are. Assumes nothing.
use Prim.Native.Nat.{ℕ, zero, suc}
use mathlib.Core.Path.{◌≡◌, refl, ap, sym, ◌∙◌, subst}
use mathlib.Core.Logic.{◌↔◌}
use mathlib.Core.List.{List, [], ◌∷◌, map}
use mathlib.Core.Option.{Option, none, some}
use lib.ListN.{length, length-replicate, take, get_or, get_or-map}
use Rattle.groups.specs.Log.{other, Group, Handed as Out}
use Rattle.groups.specs.Group.{HandedOut}
use Rattle.groups.specs.Step.{Open, Table, fresh, next, named, answer, after, answers, step}
use Rattle.groups.proofs.Fold.{answers-at}
use Rattle.groups.proofs.Handed.{exact}
use Rattle.gsv.specs.Gsv.{Satellite, GsvSentence}
use Rattle.rows.specs.Key.{key_of}
use Rattle.rows.specs.Line.{line_of}
use Rattle.gather.specs.Words.{group_of}
use Rattle.gather.specs.Put.{told_by}
use Rattle.gather.specs.Table.{table_words, fresh_table, row_of, table_of, table_after}
use Rattle.gather.specs.declared.line.Outcome.{Outcome}
use Rattle.gather.proofs.Tables.{table-meaning, table-says, table-group, same-words, zero-fresh}
use Rattle.fed.specs.Line.{LogLine, blank, said_of, said_all, accepted_gsv, Gatherer, gathers}
use Rattle.fed.specs.Seen.{seen, seeing, seen_of, handed_in, given_by, given_at}
use Rattle.fed.specs.Fed.{gathered}
use Rattle.fed.proofs.Accepted.{accepted-as}

-- the words after some lines mean the theory's table after them
pub holds : (t : Gatherer) (ls : List (List ℕ)) → length t ≡ table_words
    → (table_of (gathered t (said_all ls)) ≡ after (table_of t) (seen_of (said_all ls))) × (length (gathered t (said_all ls)) ≡ table_words)
holds t [] s = (refl, s)
holds t (l ∷ ls) s = go (accepted_gsv (said_of l)) refl (λ u su. holds u ls su)
  where
    go : (f : Option GsvSentence) → accepted_gsv (said_of l) ≡ f
        → ((u : Gatherer) → length u ≡ table_words
        → (table_of (gathered u (said_all ls)) ≡ after (table_of u) (seen_of (said_all ls))) × (length (gathered u (said_all ls)) ≡ table_words))
        → (table_of (gathered (gathers t f).gatherer (said_all ls)) ≡ after (next (table_of t) (seen f)) (seen_of (said_all ls)))
        × (length (gathered (gathers t f).gatherer (said_all ls)) ≡ table_words)
    go none q ih = ih t s
    go (some x) q ih =
        let w = accepted-as l x q in
        let (e, r) = ih (table_after t (line_of x)) (same-words t l x w s) in
        (e ∙ ap (λ (u : Table Satellite). after u (seen_of (said_all ls))) (table-meaning t l x w s), r)

-- what a line says, with the words of its row, is what the theory hands out
gives-group : (κ : ℕ) (t : Gatherer) (x : Option (Group Satellite)) (r : Option (Open Satellite))
    → ((p : Group Satellite) → x ≡ some p → group_of (row_of t κ) ≡ p) → handed_in (told_by x r) κ t ≡ named κ x
gives-group κ t none none h = refl
gives-group κ t none (some o) h = refl
gives-group κ t (some p) r h = ap (λ (q : Group Satellite). some (record { key = κ; group = q })) (h p refl)

pub gives : (t : Gatherer) (l : List ℕ) → length t ≡ table_words → (f : Option GsvSentence) → accepted_gsv (said_of l) ≡ f
    → given_by f (gathers t f) ≡ answer (table_of t) (seen f)
gives t l s none q = refl
gives t l s (some x) q =
    let w = accepted-as l x q in
    let κ = key_of x in
    let o = step (table_of t κ) (line_of x) in
    ap (λ (a : Outcome). handed_in a κ (table_after t (line_of x))) (table-says t l x w s)
    ∙ gives-group κ (table_after t (line_of x)) o.group o.row (table-group t l x w s)

pub map-take : {A B : Type 0} (f : A → B) (i : ℕ) (l : List A) → map f (take i l) ≡ take i (map f l)
map-take f zero l = refl
map-take f (suc i) [] = refl
map-take f (suc i) (x ∷ l) = ap (λ (r : List _). f x ∷ r) (map-take f i l)

-- the line at i, as the theory sees it, and those before it
seen-at : (ss : List LogLine) (i : ℕ) → seen (accepted_gsv (get_or ss i blank)) ≡ get_or (seen_of ss) i other
seen-at ss i = sym (get_or-map seeing ss i blank)

seen-before : (ss : List LogLine) (i : ℕ) → seen_of (take i ss) ≡ take i (seen_of ss)
seen-before ss i = map-take seeing i ss

module _ (ls : List (List ℕ)) (i : ℕ) where
  abbrev ss : List LogLine
  ss = said_all ls

  abbrev its : Option GsvSentence
  its = accepted_gsv (get_or ss i blank)

  abbrev table : Gatherer
  table = gathered fresh_table (take i ss)

  holding : (table_of table ≡ after fresh (take i (seen_of ss))) × (length table ≡ table_words)
  holding =
      let (e, q) = holds fresh_table (take i ls) (length-replicate {A = ℕ} table_words 0) in
      let a = map-take said_of i ls in
      let b : seen_of (said_all (take i ls)) ≡ take i (seen_of ss) = ap seen_of a ∙ seen-before ss i in (
        sym (ap (λ (x : List LogLine). table_of (gathered fresh_table x)) a) ∙ e ∙ (λ j. after (zero-fresh j) (b j)),
        subst (λ (x : List LogLine). length (gathered fresh_table x) ≡ table_words) a q,
      )

  its-answer : given_at ss i ≡ get_or (answers fresh (seen_of ss)) i none
  its-answer =
      gives table (get_or ls i []) holding.1 its (ap accepted_gsv (sym (get_or-map said_of ls i [])))
      ∙ (λ j. answer (holding.0 j) (seen-at ss i j))
      ∙ sym (answers-at fresh (seen_of ss) i)

  -- THE THEOREM
  pub hands-list : (h : Out Satellite) → (given_at ss i ≡ some h) ↔ HandedOut (seen_of ss) i h
  hands-list h = (λ q. (exact (seen_of ss) i h).0 (sym its-answer ∙ q), λ d. its-answer ∙ (exact (seen_of ss) i h).1 d)
