-- How a count of the whole log goes on: as a walk with a table of words does, of which the heads are kept. Assumes nothing.
use Rattle.std.proofs.Common.{◌≡◌, ℕ, ◌-◌, ◌<◌, ◌≤◌, true, List, length, replicate, sym, refl, subst, arith, Ok}
use mathlib.Core.Option.{none}
use Rattle.gather.specs.Heads.{head_words, Matches}
use Rattle.gather.specs.Table.{fresh_table}
use Rattle.gather.proofs.Counted.{matches-fresh}
use Rattle.lines.specs.Places.{is_place}
use Rattle.fed.specs.Line.{Gatherer}
use Rattle.logs.specs.declared.walk.Counts.{Counts}
use Rattle.logs.specs.declared.walk.LineTaken.{LineTaken}
use Rattle.logs.specs.Step.{longest}
use Rattle.logs.specs.Walk.{begin, grouped, walk_of}
use Rattle.logs.specs.Answer.{walk_in}
use Rattle.logs.specs.Code.{barred_by, tallied_by, Within, TakesHead}
use Rattle.logs.proofs.Goes as goes
use Rattle.logs.proofs.Goes.{Goes, goes-first, fit-within}
use Rattle.logs.proofs.Answers.{walk-ended}

-- the loop's invariant: some table goes with the counts, and its heads are kept
pub record Counting (log : List ℕ) (c : Counts) (heads : List ℕ) : Type 0 where
  pub table : Gatherer
  pub going : Goes log 0 (length log) fresh_table c table
  pub kept : Matches heads table

first : (log : List ℕ) → is_place log 0 ≡ true
unfolding is_place
first log = refl

pub counting-first : (log : List ℕ) {c : Counts} → length log ≤ longest → c ≡ (begin 0 fresh_table).counts → Counting log c (replicate head_words 0)
counting-first log {c} short e =
    record {
      table = fresh_table;
      going = subst (λ (x : Counts). Goes log 0 (length log) fresh_table x fresh_table) (sym e) (goes-first log 0 (length log) fresh_table short (first log));
      kept = matches-fresh;
    }

module _ (log heads : List ℕ) (c : Counts) (now' : Counting log c heads) (in' : c.next < length log) where
  more : c.lines < length log
  more = omega (arith, now'.going.fit.few)

  pub counts-within : Within c
  counts-within = fit-within log c now'.going.fit now'.going.short

  module _ (heads' : List ℕ) (t : LineTaken) (x : TakesHead log c.next heads heads' t) (u : Counts) (eu : u ≡ tallied_by c t.sort t.next) where
    pub few-groups : u.groups ≤ longest
    few-groups =
        let y = x now'.table now'.kept in
        goes.few-groups log 0 (length log) fresh_table c now'.table now'.going more in' _ t y.takes u eu

    module _ (c' : Counts) (ec : c' ≡ grouped u t.handed) where
      pub further : length log - c'.next < length log - c.next
      further =
          let y = x now'.table now'.kept in
          goes.further log 0 (length log) fresh_table c now'.table now'.going more in' _ t y.takes u eu c' ec

      pub after-turn : Counting log c' heads'
      after-turn =
          let y = x now'.table now'.kept in
          record {
            table = _;
            going = goes.after-turn log 0 (length log) fresh_table c now'.table now'.going more in' _ t y.takes u eu c' ec;
            kept = y.matches;
          }

-- no line is left
pub counted-all : (log heads : List ℕ) (c : Counts) → none ≡ barred_by log 0 → Counting log c heads → length log ≤ c.next
    → walk_in (Ok c) ≡ (walk_of log 0 (length log) fresh_table).answer
counted-all log heads c free w h = (walk-ended log 0 (length log) fresh_table free c w.table w.going h).says
