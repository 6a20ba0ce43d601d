-- A line that was taken: what it counts as, what it does to the words, and to heads of the same runs. Assumes nothing.
use Rattle.std.proofs.Common.{◌≡◌, ℕ, Bool, true, cond, eqb, List, length, sym, refl, ap, ◌∙◌, subst, arith, eq-eqb, Option, Some, None, Result, Ok, Err}
use mathlib.Core.Option.{none, some}
use Rattle.frame.specs.declared.refusal.Refusal.{Refusal}
use Rattle.gsv.specs.Talker.{Talker}
use Rattle.gsv.specs.Gsv.{Head, GsvSentence}
use Rattle.gsv.specs.Answer.{talker, head_of}
use Rattle.answer.specs.Sentence.{Answer, is_rmc, is_gsa, is_gsv, is_gga, is_gll, is_vtg, is_other, is_refused, answer}
use Rattle.lines.specs.Places.{line_at}
use Rattle.rows.specs.Key.{source_from, row_from}
use Rattle.rows.specs.Line.{line_of}
use Rattle.gather.specs.Table.{table_after}
use Rattle.gather.specs.Heads.{run_after, head_words, run_at, set_run, GathersHead, Matches}
use Rattle.gather.specs.declared.run.RunAfter.{RunAfter}
use Rattle.gather.specs.declared.line.Outcome.{Outcome}
use Rattle.gather.specs.declared.line.Outcome.TheVariants.{NoRow}
use Rattle.gather.proofs.Counted.{same-said, still}
use Rattle.fed.specs.Line.{LogLine, read, said_of, accepted_gsv, gathers}
use Rattle.fed.specs.Fed.{is_handed}
use Rattle.intake.specs.Brief.{Brief, accepted, gsv_line, refusal, brief_of}
use Rattle.intake.specs.Answer.{brief}
use Rattle.intake.specs.declared.GsvLine.{GsvLine}
use Rattle.logs.specs.declared.walk.LineTaken.{LineTaken}
use Rattle.logs.specs.declared.walk.Sort.{Sort}
use Rattle.logs.specs.declared.walk.Sort.TheVariants.{Accepted, Refused}
use Rattle.logs.specs.Code.{sort_of, sort_in, outcome_in, gsv_in, TakesAs, TakenAt, Takes, CountsAs}

-- a line that was taken, or none where it is blank
abbrev pub Taken : Type 0
Taken = Option (Result (Option GsvLine) Refusal)

-- what a brief answer counts as
abbrev sort_by : Brief → Sort
sort_by accepted = Accepted
sort_by (gsv_line t h) = Accepted
sort_by (refusal x) = Refused

sort-by : (a : Answer) → sort_by (brief_of a) ≡ sort_of (read a)
sort-by (is_rmc r) = refl
sort-by (is_gsa g) = refl
sort-by (is_gsv s) = refl
sort-by (is_gga g) = refl
sort-by (is_gll g) = refl
sort-by (is_vtg v) = refl
sort-by (is_other k) = refl
sort-by (is_refused x) = refl

-- no GSV line
abbrev NoGsv : Brief → Type 0
NoGsv accepted = Unit {0}
NoGsv (gsv_line t h) = ⊥
NoGsv (refusal x) = Unit {0}

no-gsv : (a : Answer) → NoGsv (brief_of a) → none ≡ accepted_gsv (read a)
no-gsv (is_rmc r) n = refl
no-gsv (is_gsa g) n = refl
no-gsv (is_gsv s) n = absurd n
no-gsv (is_gga g) n = refl
no-gsv (is_gll g) n = refl
no-gsv (is_vtg v) n = refl
no-gsv (is_other k) n = refl
no-gsv (is_refused x) n = refl

-- a GSV line
record IsGsv (a : Answer) (t : Talker) (h : Head) : Type 0 where
  sentence : GsvSentence
  is : a ≡ is_gsv sentence
  talks : t ≡ sentence.talker
  heads : h ≡ record { count = sentence.body.count; index = sentence.body.index; view = sentence.body.view }

is-gsv : (a : Answer) {t : Talker} {h : Head} → gsv_line t h ≡ brief_of a → IsGsv a t h
is-gsv (is_rmc r) e = let z : ◌≡◌ {A = ℕ} 0 1 = cc in absurd (omega arith)
is-gsv (is_gsa g) e = let z : ◌≡◌ {A = ℕ} 0 1 = cc in absurd (omega arith)
is-gsv (is_gsv s) e = record { sentence = s; is = refl; talks = cc; heads = cc }
is-gsv (is_gga g) e = let z : ◌≡◌ {A = ℕ} 0 1 = cc in absurd (omega arith)
is-gsv (is_gll g) e = let z : ◌≡◌ {A = ℕ} 0 1 = cc in absurd (omega arith)
is-gsv (is_vtg v) e = let z : ◌≡◌ {A = ℕ} 0 1 = cc in absurd (omega arith)
is-gsv (is_other k) e = let z : ◌≡◌ {A = ℕ} 0 1 = cc in absurd (omega arith)
is-gsv (is_refused x) e = let z : ◌≡◌ {A = ℕ} 0 1 = cc in absurd (omega arith)

-- its brief answer counts as it does
brief-sort : (r : Result (Option GsvLine) Refusal) → sort_in (Some r) ≡ sort_by (brief r)
brief-sort (Ok None) = refl
brief-sort (Ok (Some g)) = refl
brief-sort (Err x) = refl

-- an accepted GSV line, or none
gsv-line : (l : Taken) {g : GsvLine} → Some g ≡ gsv_in l → l ≡ Some (Ok (Some g))
gsv-line None e = let z : ◌≡◌ {A = ℕ} 0 1 = cc in absurd (omega arith)
gsv-line (Some (Ok o)) e = cc
gsv-line (Some (Err x)) e = let z : ◌≡◌ {A = ℕ} 0 1 = cc in absurd (omega arith)

module _ (said : LogLine) (t t' : List ℕ) where
  sorted : (l : Taken) → TakesAs said t t' l → sort_in l ≡ sort_of said
  sorted None x = ap sort_of x.0
  sorted (Some r) x = brief-sort r ∙ ap sort_by x.takes.says ∙ sort-by (answer x.line) ∙ ap sort_of x.says

  handed : (l : Taken) → TakesAs said t t' l → outcome_in l ≡ (gathers t (accepted_gsv said)).handed
  handed None x = λ i. (gathers t (accepted_gsv (x.0 i))).handed
  handed (Some r) x = x.takes.handed ∙ (λ i. (gathers t (accepted_gsv (x.says i))).handed)

  gathered : (l : Taken) → TakesAs said t t' l → t' ≡ (gathers t (accepted_gsv said)).gatherer
  gathered None x = x.1 ∙ (λ i. (gathers t (accepted_gsv (x.0 i))).gatherer)
  gathered (Some r) x = x.takes.table ∙ (λ i. (gathers t (accepted_gsv (x.says i))).gatherer)

  no-gsv-said : (l : Taken) → None ≡ gsv_in l → TakesAs said t t' l → none ≡ accepted_gsv said
  no-gsv-said None n x = ap accepted_gsv x.0
  no-gsv-said (Some (Ok None)) n x = no-gsv (answer x.line) (subst NoGsv x.takes.says tt) ∙ ap accepted_gsv x.says
  no-gsv-said (Some (Ok (Some g))) n x = let z : ◌≡◌ {A = ℕ} 0 1 = cc in absurd (omega arith)
  no-gsv-said (Some (Err y)) n x = no-gsv (answer x.line) (subst NoGsv x.takes.says tt) ∙ ap accepted_gsv x.says

module _ (log : List ℕ) (p : ℕ) {t t' : List ℕ} (l : Taken) (next : ℕ) (x : TakenAt log p t t' (l, next)) where
  pub takes : {k : LineTaken} → k ≡ record { sort = sort_in l; handed = is_handed (outcome_in l); next = next } → Takes log p t t' k
  takes e =
      record {
        sort = ap (λ (y : LineTaken). y.sort) e ∙ sorted _ _ _ l x.takes;
        handed = ap (λ (y : LineTaken). y.handed) e ∙ ap is_handed (handed _ _ _ l x.takes);
        words = gathered _ _ _ l x.takes;
        next = ap (λ (y : LineTaken). y.next) e ∙ x.next;
      }

  -- by heads: no GSV line touches none of them
  pub quiet-counted : {heads : List ℕ} {k : LineTaken} → None ≡ gsv_in l → k ≡ record { sort = sort_in l; handed = is_handed (outcome_in l); next = next }
      → (u : List ℕ) → Matches heads u → CountsAs log p u heads k
  quiet-counted {heads} n e u m =
      let z : none ≡ accepted_gsv (said_of (line_at log p)) = no-gsv-said _ _ _ l n x.takes in
      let w : u ≡ (gathers u (accepted_gsv (said_of (line_at log p)))).gatherer = λ i. (gathers u (z i)).gatherer in
      let h : outcome_in l ≡ (gathers u (accepted_gsv (said_of (line_at log p)))).handed =
      handed _ _ _ l x.takes ∙ (λ i. (gathers t (sym z i)).handed) ∙ (λ i. (gathers u (z i)).handed) in
      record {
        takes =
            record {
              sort = ap (λ (y : LineTaken). y.sort) e ∙ sorted _ _ _ l x.takes;
              handed = ap (λ (y : LineTaken). y.handed) e ∙ ap is_handed h;
              words = refl;
              next = ap (λ (y : LineTaken). y.next) e ∙ x.next;
            };
        matches = subst (Matches heads) w m;
      }

  -- and a GSV line the head of its own run
  pub gsv-counted : (g : GsvLine) → Some g ≡ gsv_in l → {heads heads' : List ℕ} {o : Outcome} {k : LineTaken}
      → GathersHead heads heads' (talker g.talker) (head_of g.head) o
      → k ≡ record { sort = Accepted; handed = is_handed o; next = next }
      → (u : List ℕ) → Matches heads u → CountsAs log p u heads' k
  gsv-counted g is {heads} {heads'} {o} c e u m =
      let took : TakesAs (said_of (line_at log p)) t t' (Some (Ok (Some g))) = subst (TakesAs (said_of (line_at log p)) t t') (gsv-line l is) x.takes in
      let line = took.line in
      let s = is-gsv (answer line) took.takes.says in
      let z : some s.sentence ≡ accepted_gsv (said_of (line_at log p)) = sym (ap (λ (a : Answer). accepted_gsv (read a)) s.is) ∙ ap accepted_gsv took.says in
      let long : eqb (length heads) head_words ≡ true = eq-eqb (length heads) head_words m.few in
      let ran : Talker → Head → RunAfter = λ t h. run_after (run_at heads (row_from (source_from t))) h in
      let words : heads' ≡ set_run heads (row_from (source_from (talker g.talker))) (ran (talker g.talker) (head_of g.head)).run =
      c.words ∙ ap (λ (b : Bool). cond b (set_run heads (row_from (source_from (talker g.talker))) (ran (talker g.talker) (head_of g.head)).run) heads) long
      in
      let says : o ≡ (ran (talker g.talker) (head_of g.head)).handed = c.says ∙ ap (λ (b : Bool). cond b (ran (talker g.talker) (head_of g.head)).handed NoRow) long in
      record {
        takes =
            record {
              sort = ap (λ (y : LineTaken). y.sort) e ∙ sorted _ _ _ (Some (Ok (Some g))) took;
              handed =
                  ap (λ (y : LineTaken). y.handed) e
                  ∙ ap is_handed (says ∙ (λ i. (ran (s.talks i) (s.heads i)).handed) ∙ same-said heads u m line s.sentence s.is)
                  ∙ (λ i. is_handed (gathers u (z i)).handed);
              words = refl;
              next = ap (λ (y : LineTaken). y.next) e ∙ x.next;
            };
        matches =
            subst (Matches heads') (λ i. (gathers u (z i)).gatherer)
            (subst (λ (h : List ℕ). Matches h (table_after u (line_of s.sentence))) (sym (words ∙ (λ i. set_run heads (row_from (source_from (s.talks i))) (ran (s.talks i) (s.heads i)).run)))
            (still heads u m line s.sentence s.is));
      }
