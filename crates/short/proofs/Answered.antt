-- A line that is answered as a GSV sentence passed its framing, and its data are read as the sentence's: nothing else is answered so.
-- Assumes nothing.
use Prim.Native.Nat.{ℕ}
use native.Mathlib.Omega.{arith}
use mathlib.Core.Path.{◌≡◌, refl, ap, ◌∙◌}
use mathlib.Core.List.{List}
use mathlib.Core.Option.{Option, none, some}
use Rattle.text.specs.Reader.{Parse, miss, refuse, got}
use Rattle.text.specs.Value.{Value, value, syntax, fault, is}
use Rattle.frame.specs.Frame.{Parts, Outcome, accepted, refused, frame}
use Rattle.gsv.specs.Talker.{Talker}
use Rattle.gsv.specs.Gsv.{Gsv, gsv, GsvSentence}
use Rattle.gsa.specs.System.{Settled, is as settled_as, mismatch, settle}
use Rattle.gsa.specs.Gsa.{Gsa, gsa}
use Rattle.rmc.specs.Rmc.{rmc}
use Rattle.gga.specs.Gga.{gga}
use Rattle.gll.specs.Gll.{gll}
use Rattle.vtg.specs.Vtg.{vtg}
use Rattle.answer.specs.Sentence.{Answer, is_gsv, or_refused, as_rmc, as_gga, as_gll, as_vtg, settled_gsa, gsa_names, as_gsa, gsv_names, as_gsv, gsv_by, framed_by, Formatter, rmc_type, gsa_type, gsv_type, gga_type, gll_type, vtg_type, other_type, formatter_of, read_as, dispatch, answer}

-- the parts of the line, and what is left of its data
pub record Answered (l : List ℕ) (h : GsvSentence) : Type 0 where
  pub parts : Parts
  pub framed : frame l ≡ accepted parts
  pub rest : List ℕ
  pub reads : gsv parts.text ≡ got h.body rest

-- an answer that is no GSV sentence, whatever is read
never : {A : Type 0} (f : A → Answer) (h : GsvSentence) → ((a : A) → f a ≡ is_gsv h → ⊥) → (v : Value A) → or_refused f v ≡ is_gsv h → ⊥
never f h n syntax e = let z : ◌≡◌ {A = ℕ} 0 1 = cc in omega arith
never f h n (fault x) e = let z : ◌≡◌ {A = ℕ} 0 1 = cc in omega arith
never f h n (is a) e = n a e

no-gsa : (h : GsvSentence) (t : List ℕ) (g : Gsa) (s : Settled) → settled_gsa t g s ≡ is_gsv h → ⊥
no-gsa h t g (settled_as s) e = let z : ◌≡◌ {A = ℕ} 0 1 = cc in omega arith
no-gsa h t g (mismatch m n) e = let z : ◌≡◌ {A = ℕ} 0 1 = cc in omega arith

module _ (l : List ℕ) (h : GsvSentence) (p : Parts) (f : frame l ≡ accepted p) where
  by-talker : (o : Option Talker) → gsv_by o p ≡ is_gsv h → Answered l h
  by-talker none e = let z : ◌≡◌ {A = ℕ} 0 1 = cc in absurd (omega arith)
  by-talker (some t) e = by (gsv p.text) refl e
    where
      by : (r : Parse Gsv) → gsv p.text ≡ r → or_refused (as_gsv t) (value r) ≡ is_gsv h → Answered l h
      by miss g e = let z : ◌≡◌ {A = ℕ} 0 1 = cc in absurd (omega arith)
      by (refuse x) g e = let z : ◌≡◌ {A = ℕ} 0 1 = cc in absurd (omega arith)
      by (got b m) g e =
          let same : record { talker = t; body = b } ≡ h = cc in
          record { parts = p; framed = f; rest = m; reads = g ∙ ap (λ (x : GsvSentence). got x.body m) same }

  by-type : (f : Formatter) → read_as f p ≡ is_gsv h → Answered l h
  by-type rmc_type e = absurd (never (as_rmc p.talker) h (λ r e. let z : ◌≡◌ {A = ℕ} 0 1 = cc in omega arith) (value (rmc p.text)) e)
  by-type gsa_type e =
      absurd (never (as_gsa p.talker) h (λ g e. no-gsa h p.talker g (settle (gsa_names p.talker) g.system) e) (value (gsa p.text)) e)
  by-type gsv_type e = by-talker (gsv_names p.talker) e
  by-type gga_type e = absurd (never (as_gga p.talker) h (λ r e. let z : ◌≡◌ {A = ℕ} 0 1 = cc in omega arith) (value (gga p.text)) e)
  by-type gll_type e = absurd (never (as_gll p.talker) h (λ r e. let z : ◌≡◌ {A = ℕ} 0 1 = cc in omega arith) (value (gll p.text)) e)
  by-type vtg_type e = absurd (never (as_vtg p.talker) h (λ r e. let z : ◌≡◌ {A = ℕ} 0 1 = cc in omega arith) (value (vtg p.text)) e)
  by-type other_type e = let z : ◌≡◌ {A = ℕ} 0 1 = cc in absurd (omega arith)

pub answered : (l : List ℕ) (h : GsvSentence) → answer l ≡ is_gsv h → Answered l h
unfolding answer dispatch
answered l h e = by (frame l) refl e
  where
    by : (o : Outcome) → frame l ≡ o → framed_by dispatch o ≡ is_gsv h → Answered l h
    by (accepted p) f e = by-type l h p f (formatter_of p.kind) e
    by (refused x) f e = let z : ◌≡◌ {A = ℕ} 0 1 = cc in absurd (omega arith)
