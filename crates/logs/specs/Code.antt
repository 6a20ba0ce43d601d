-- For the code, not for a reader of the scope: what its parts answer.
use Rattle.std.specs.Prelude.{◌≡◌, ℕ, ◌+◌, ◌-◌, ◌≤◌, Bool, false, cond, nat_lt, List, length, take, drop, ◌≢◌, Option, Some, None, Result, Ok, Err}
use Rattle.std.proofs.Math.Option.{Option as Maybe, none, some}
use Rattle.frame.specs.Refused.{Refused, log_too_long, bad_place}
use Rattle.frame.specs.Answer.{refused}
use Rattle.frame.specs.declared.refusal.Refusal.{Refusal}
use Rattle.sentence.specs.declared.Record.{Record}
use Rattle.answer.specs.Sentence.{is_rmc, is_gsa, is_gsv, is_gga, is_gll, is_vtg, is_other, is_refused, answer}
use Rattle.lines.specs.Lines.{line_feed}
use Rattle.lines.specs.Places.{is_place, line_at, next_place, stretch}
use Rattle.gather.specs.Heads.{Matches}
use Rattle.fed.specs.Line.{LogLine, blank, read, said_of, accepted_gsv, gathers}
use Rattle.fed.specs.Fed.{is_handed}
use Rattle.gather.specs.declared.line.Outcome.{Outcome}
use Rattle.gather.specs.declared.line.Outcome.TheVariants.{Nothing}
use Rattle.intake.specs.Answer.{outcome_of, Takes as TakesText}
use Rattle.intake.specs.declared.GsvLine.{GsvLine}
use Rattle.logs.specs.Step.{longest}
use Rattle.logs.specs.Answer.{line_in}
use Rattle.logs.specs.declared.line.Bounds.{Bounds}
use Rattle.logs.specs.declared.walk.Counts.{Counts}
use Rattle.logs.specs.declared.walk.LineTaken.{LineTaken}
use Rattle.logs.specs.declared.walk.Sort.{Sort}
use Rattle.logs.specs.declared.walk.Sort.TheVariants.{Blank, Accepted, Refused as Refusing}

-- the line at p runs to r
pub record CutAt (log : List ℕ) (p r : ℕ) : Type 0 where
  pub after : p ≤ r
  pub within : r ≤ length log
  pub line : line_at log p ≡ take (r - p) (drop p log)

-- and the place after it
pub record Bounded (log : List ℕ) (p : ℕ) (r : Bounds) : Type 0 where
  pub cut : CutAt log p r.cut
  pub next : r.next ≡ next_place log p

-- none was seen only where none is
abbrev pub Saw : Bool → ℕ → Bool → Type 0
Saw feed b r = r ≡ false → (feed ≡ false) × (b ≢ line_feed)

-- and then the line goes on behind these n bytes
abbrev pub Clear : List ℕ → ℕ → ℕ → Bool → Type 0
Clear log p n r = r ≡ false → length (stretch (drop p log)) ≡ n + length (stretch (drop (p + n) log))

-- what bars a walk from a place, if something does: the two checks, in their order
abbrev pub barred_by : List ℕ → ℕ → Maybe Refused
barred_by log p =
    cond (nat_lt longest (length log)) (some (log_too_long (length log)))
    (cond (is_place log p) none (some (bad_place p)))

abbrev pub bar_in : Result (Unit {0}) Refusal → Maybe Refused
bar_in (Ok u) = none
bar_in (Err r) = some (refused r)

abbrev pub sort_of : LogLine → Sort
sort_of blank = Blank
sort_of (read (is_rmc r)) = Accepted
sort_of (read (is_gsa g)) = Accepted
sort_of (read (is_gsv s)) = Accepted
sort_of (read (is_gga g)) = Accepted
sort_of (read (is_gll g)) = Accepted
sort_of (read (is_vtg v)) = Accepted
sort_of (read (is_other k)) = Accepted
sort_of (read (is_refused r)) = Refusing

abbrev pub tallied_by : Counts → Sort → ℕ → Counts
tallied_by c Blank next =
    record { lines = c.lines + 1; blank = c.blank + 1; accepted = c.accepted; refused = c.refused; groups = c.groups; next = next }
tallied_by c Accepted next =
    record { lines = c.lines + 1; blank = c.blank; accepted = c.accepted + 1; refused = c.refused; groups = c.groups; next = next }
tallied_by c Refusing next =
    record { lines = c.lines + 1; blank = c.blank; accepted = c.accepted; refused = c.refused + 1; groups = c.groups; next = next }

-- counts of a log that is not too long
pub record Within (c : Counts) : Type 0 where
  pub lines : c.lines ≤ longest
  pub blank : c.blank ≤ longest
  pub accepted : c.accepted ≤ longest
  pub refused : c.refused ≤ longest

-- a line that was taken, or none where it is blank: what it counts as, and what it did to its row
abbrev pub sort_in : Option (Result (Option GsvLine) Refusal) → Sort
sort_in None = Blank
sort_in (Some (Ok g)) = Accepted
sort_in (Some (Err r)) = Refusing

abbrev pub outcome_in : Option (Result (Option GsvLine) Refusal) → Outcome
outcome_in None = Nothing
outcome_in (Some r) = outcome_of r

-- the accepted GSV line that it is
abbrev pub gsv_in : Option (Result (Option GsvLine) Refusal) → Option GsvLine
gsv_in None = None
gsv_in (Some (Ok g)) = g
gsv_in (Some (Err r)) = None

-- some bytes that say this, as they are taken, and the words before and after
pub record Took (said : LogLine) (t t' : List ℕ) (r : Result (Option GsvLine) Refusal) : Type 0 where
  pub line : List ℕ
  pub out : List ℕ
  pub out' : List ℕ
  pub says : read (answer line) ≡ said
  pub takes : TakesText (answer line) out out' t t' r

abbrev pub TakesAs : LogLine → List ℕ → List ℕ → Option (Result (Option GsvLine) Refusal) → Type 0
TakesAs said t t' None = (blank ≡ said) × (t' ≡ t)
TakesAs said t t' (Some r) = Took said t t' r

-- the line at p, and the place after it
pub record TakenAt (log : List ℕ) (p : ℕ) (t t' : List ℕ) (r : Option (Result (Option GsvLine) Refusal) × ℕ) : Type 0 where
  pub takes : TakesAs (said_of (line_at log p)) t t' r.0
  pub next : r.1 ≡ next_place log p

-- what the line at a place counts as and does to the words, and the place after it
pub record Takes (log : List ℕ) (p : ℕ) (t t' : List ℕ) (r : LineTaken) : Type 0 where
  pub sort : r.sort ≡ sort_of (said_of (line_at log p))
  pub handed : r.handed ≡ is_handed (gathers t (accepted_gsv (said_of (line_at log p)))).handed
  pub words : t' ≡ (gathers t (accepted_gsv (said_of (line_at log p)))).gatherer
  pub next : r.next ≡ next_place log p

-- the line at a place that is not the end, and the place after it
pub record SaysLine (log : List ℕ) (p : ℕ) (r : Option (Result Record Refusal) × ℕ) : Type 0 where
  pub says : line_in r.0 ≡ said_of (line_at log p)
  pub next : r.1 ≡ next_place log p

-- the same by heads: whatever table has runs with these heads, the line counts as it does there, and leaves its heads
pub record CountsAs (log : List ℕ) (p : ℕ) (t heads : List ℕ) (r : LineTaken) : Type 0 where
  pub takes : Takes log p t (gathers t (accepted_gsv (said_of (line_at log p)))).gatherer r
  pub matches : Matches heads (gathers t (accepted_gsv (said_of (line_at log p)))).gatherer

abbrev pub TakesHead : List ℕ → ℕ → List ℕ → List ℕ → LineTaken → Type 0
TakesHead log p heads heads' r = (t : List ℕ) → Matches heads t → CountsAs log p t heads' r
