-- How many lines hand out a group: as many as the theory's answers that are one, since the words mean its table. Assumes nothing.
use Prim.Native.Nat.{ℕ, ◌+◌}
use native.Mathlib.Omega.{arith}
use mathlib.Core.Path.{◌≡◌, refl, ap, sym, ◌∙◌, subst}
use mathlib.Core.List.{List, [], ◌∷◌}
use mathlib.Core.Option.{Option, none, some}
use lib.ListN.{length, length-replicate}
use Rattle.groups.specs.Log.{Group, Handed as Out}
use Rattle.groups.specs.Group.{HandedOut}
use Rattle.groups.specs.Step.{Open, Table, fresh, next, named, answer, answers, step}
use Rattle.groups.specs.Count.{Many}
use Rattle.groups.proofs.Counted.{some_count, handed-count}
use Rattle.gsv.specs.Gsv.{Satellite, GsvSentence}
use Rattle.rows.specs.Key.{key_of}
use Rattle.rows.specs.Line.{line_of}
use Rattle.gather.specs.Put.{told_by}
use Rattle.gather.specs.Table.{table_words, fresh_table, table_of, table_after}
use Rattle.gather.specs.declared.line.Outcome.{Outcome}
use Rattle.gather.proofs.Tables.{table-meaning, table-says, same-words, zero-fresh}
use Rattle.fed.specs.Line.{said_of, said_all, accepted_gsv, Gatherer, gathers}
use Rattle.fed.specs.Seen.{seen, seen_of}
use Rattle.fed.specs.Fed.{once_if, is_handed, groups_of}
use Rattle.fed.proofs.Accepted.{accepted-as}

once : (g : Option (Group Satellite)) (r : Option (Open Satellite)) (k n : ℕ) (rest : List (Option (Out Satellite))) → n ≡ some_count rest
    → once_if (is_handed (told_by g r)) + n ≡ some_count (named k g ∷ rest)
once none none k n rest e = omega arith
once none (some o) k n rest e = omega arith
once (some p) r k n rest e = omega arith

-- from any table
pub groups-are : (t : Gatherer) (ls : List (List ℕ)) → length t ≡ table_words
    → groups_of t (said_all ls) ≡ some_count (answers (table_of t) (seen_of (said_all ls)))
groups-are t [] s = refl
groups-are t (l ∷ ls) s = go (accepted_gsv (said_of l)) refl (λ u su. groups-are u ls su)
  where
    go : (f : Option GsvSentence) → accepted_gsv (said_of l) ≡ f
        → ((u : Gatherer) → length u ≡ table_words → groups_of u (said_all ls) ≡ some_count (answers (table_of u) (seen_of (said_all ls))))
        → once_if (is_handed (gathers t f).handed) + groups_of (gathers t f).gatherer (said_all ls)
        ≡ some_count (answer (table_of t) (seen f) ∷ answers (next (table_of t) (seen f)) (seen_of (said_all ls)))
    go none q ih = let e = ih t s in omega arith
    go (some x) q ih =
        let w = accepted-as l x q in
        let κ = key_of x in
        let o = step (table_of t κ) (line_of x) in
        let u = table_after t (line_of x) in
        ap (λ (a : Outcome). once_if (is_handed a) + groups_of u (said_all ls)) (table-says t l x w s)
        ∙ once o.group o.row κ (groups_of u (said_all ls)) (answers (next (table_of t) (seen (some x))) (seen_of (said_all ls)))
        (ih u (same-words t l x w s)
        ∙ ap (λ (y : Table Satellite). some_count (answers y (seen_of (said_all ls)))) (table-meaning t l x w s))

-- THE THEOREM: from a fresh table, the groups counted are the indices at which the definition hands one out
pub groups-counted : (ls : List (List ℕ))
    → Many (λ i. (h : Out Satellite) × HandedOut (seen_of (said_all ls)) i h) (groups_of fresh_table (said_all ls))
groups-counted ls =
    let e : groups_of fresh_table (said_all ls) ≡ some_count (answers fresh (seen_of (said_all ls))) =
    groups-are fresh_table ls (length-replicate {A = ℕ} table_words 0) ∙ ap (λ (t : Table Satellite). some_count (answers t (seen_of (said_all ls)))) zero-fresh
    in
    subst (Many (λ i. (h : Out Satellite) × HandedOut (seen_of (said_all ls)) i h)) (sym e) (handed-count (seen_of (said_all ls)))
