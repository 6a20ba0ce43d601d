-- What follows from the core's answer to a line: its refusal's number, and its words. Assumes nothing.
use Rattle.std.proofs.Common.{◌≡◌, ℕ, ◌<◌, ◌≤◌, Bool, false, cond, leb, ◌↔◌, List, ◌++◌, length, drop, sym, refl, ap, ◌∙◌, arith, le-leb, Option, Some, None, Result, Ok}
use mathlib.Core.Option.{none}
use borrow.Author.Tests.{lt-leb}
use Rattle.answer.specs.Sentence.{Answer, is_rmc, is_gsa, is_gsv, is_gga, is_gll, is_vtg, is_other, is_refused, verdict_of, answer}
use Rattle.answer.proofs.Numbered.{Numbered, numbered as numbered-line}
use Rattle.words.specs.Words.{word_count, refusal_number, words, into}
use Rattle.intake.specs.Brief as briefs
use Rattle.intake.specs.Brief.{Brief, gsv_line, refusal, brief_of}
use Rattle.intake.specs.Answer.{brief}
use Rattle.intake.specs.declared.GsvLine.{GsvLine}
use Rattle.frame.specs.declared.refusal.Refusal.{Refusal}
use Rattle.capi.specs.Answer.{done, undone, Answered}

-- the number of a brief answer
abbrev pub number_in : Brief → ℕ
number_in briefs.accepted = 0
number_in (gsv_line t h) = 0
number_in (refusal r) = r.number

number-is : (a : Answer) → number_in (brief_of a) ≡ refusal_number a
number-is (is_rmc r) = refl
number-is (is_gsa g) = refl
number-is (is_gsv g) = refl
number-is (is_gga g) = refl
number-is (is_gll g) = refl
number-is (is_vtg v) = refl
number-is (is_other k) = refl
number-is (is_refused r) = refl

none-zero : (a : Answer) → verdict_of a ≡ none → refusal_number a ≡ 0
none-zero (is_rmc r) e = refl
none-zero (is_gsa g) e = refl
none-zero (is_gsv g) e = refl
none-zero (is_gga g) e = refl
none-zero (is_gll g) e = refl
none-zero (is_vtg v) e = refl
none-zero (is_other k) e = refl
none-zero (is_refused r) e = let z : ◌≡◌ {A = ℕ} 0 1 = cc in absurd (omega arith)

accepted : (a : Answer) → Numbered 9 a → refusal_number a ≡ 0 → verdict_of a ≡ none
accepted (is_rmc r) h e = refl
accepted (is_gsa g) h e = refl
accepted (is_gsv g) h e = refl
accepted (is_gga g) h e = refl
accepted (is_gll g) h e = refl
accepted (is_vtg v) h e = refl
accepted (is_other k) h e = refl
accepted (is_refused r) h e = absurd (omega (arith, h.0, e))

at-most : (a : Answer) → Numbered 9 a → refusal_number a ≤ 9
at-most (is_rmc r) h = omega arith
at-most (is_gsa g) h = omega arith
at-most (is_gsv g) h = omega arith
at-most (is_gga g) h = omega arith
at-most (is_gll g) h = omega arith
at-most (is_vtg v) h = omega arith
at-most (is_other k) h = omega arith
at-most (is_refused r) h = h.1

-- an accepted line has none
pub accepted-none : (o : Option GsvLine) → 0 ≡ number_in (brief (Ok o))
accepted-none None = refl
accepted-none (Some g) = refl

-- the number of a line that was taken: it says whether there is a refusal, and is one of a line's
module _ (l : List ℕ) {n : ℕ} (r : Result (Option GsvLine) Refusal) (says : brief r ≡ brief_of (answer l)) (number : n ≡ number_in (brief r)) where
  pub number-said : n ≡ refusal_number (answer l)
  number-said = number ∙ ap number_in says ∙ number-is (answer l)

  pub accepted-said : (n ≡ 0) ↔ (verdict_of (answer l) ≡ none)
  accepted-said = (λ z. accepted (answer l) (numbered-line l) (sym number-said ∙ z), λ z. number-said ∙ none-zero (answer l) z)

  pub most-said : n ≤ 11
  most-said = omega (arith, number-said, at-most (answer l) (numbered-line l))

-- the whole answer in a buffer
module _ (line out : List ℕ) where
  pub no-room : length out < word_count → Answered line out out undone
  no-room h =
      let e : leb word_count (length out) ≡ false = lt-leb word_count (length out) h in
      record {
        words = sym (ap (λ (b : Bool). cond b (words (answer line) ++ drop word_count out) out) e);
        says = sym (ap (λ (b : Bool). cond b done undone) e);
      }

  pub written : (out' : List ℕ) → word_count ≤ length out → out' ≡ into (words (answer line)) out → Answered line out out' done
  written out' h w = record { words = w; says = sym (ap (λ (b : Bool). cond b done undone) (le-leb word_count (length out) h)) }
