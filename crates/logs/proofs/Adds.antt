-- What a line does and what it adds to the counts, case by case. Assumes nothing.
use Rattle.std.proofs.Common.{◌≡◌, ℕ, ◌+◌, List, arith, Result, Ok}
use Rattle.rows.specs.Line.{line_of}
use Rattle.gather.specs.Table.{Gathers}
use Rattle.gather.specs.declared.line.Outcome.{Outcome}
use Rattle.gsv.specs.Answer.{gsv_sentence}
use Rattle.frame.specs.declared.refusal.Refusal.{Refusal}
use Rattle.sentence.specs.Answer.{answer_of}
use Rattle.sentence.specs.declared.Record.{Record}
use Rattle.gsv.specs.declared.GsvRecord.{GsvRecord}
use Rattle.answer.specs.Sentence.{is_rmc, is_gsa, is_gsv, is_gga, is_gll, is_vtg, is_other, is_refused}
use Rattle.sentence.specs.declared.Record.TheVariants.{Gsv}
use Rattle.fed.specs.Line.{LogLine, blank, read, accepted_gsv}
use Rattle.logs.specs.declared.walk.Counts.{Counts}
use Rattle.logs.specs.Walk.{tallied}
use Rattle.logs.specs.Answer.{Follows}
use Rattle.logs.specs.Code.{sort_of, tallied_by}

module _ (c : Counts) (next : ℕ) where
  zero' : (x : ℕ) → x ≡ x + 0
  zero' x = omega arith

  one-accepted : ◌≡◌ {A = Counts} (record { lines = c.lines + 1; blank = c.blank; accepted = c.accepted + 1; refused = c.refused; groups = c.groups; next = next })
      (record { lines = c.lines + 1; blank = c.blank + 0; accepted = c.accepted + 1; refused = c.refused + 0; groups = c.groups; next = next })
  one-accepted = λ i. record { lines = c.lines + 1; blank = zero' c.blank i; accepted = c.accepted + 1; refused = zero' c.refused i; groups = c.groups; next = next }

  pub by-sort : (s : LogLine) → tallied_by c (sort_of s) next ≡ tallied c s next
  by-sort blank = λ i. record { lines = c.lines + 1; blank = c.blank + 1; accepted = zero' c.accepted i; refused = zero' c.refused i; groups = c.groups; next = next }
  by-sort (read (is_rmc r)) = one-accepted
  by-sort (read (is_gsa g)) = one-accepted
  by-sort (read (is_gsv s)) = one-accepted
  by-sort (read (is_gga g)) = one-accepted
  by-sort (read (is_gll g)) = one-accepted
  by-sort (read (is_vtg v)) = one-accepted
  by-sort (read (is_other k)) = one-accepted
  by-sort (read (is_refused r)) = λ i. record { lines = c.lines + 1; blank = zero' c.blank i; accepted = zero' c.accepted i; refused = c.refused + 1; groups = c.groups; next = next }

-- a GSV record
pub follows-gsv : (a : Result Record Refusal) (g : GsvRecord) (t t' : List ℕ) (o : Outcome) → a ≡ Ok (Gsv g) → Gathers t t' (line_of (gsv_sentence g)) o
    → Follows (accepted_gsv (read (answer_of a))) t t' o
follows-gsv a g t t' o e x = rw e (record { words = x.words; says = x.says })
