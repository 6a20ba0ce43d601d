-- A line's refusal has one of the numbers 1 to 9, and that of a reader of one type one of 1 to 10: 10 is theirs alone, 11 is never
-- met, 12 and 13 are a log's. So the number 0 says that a line is accepted. Framing has 1 to 6, and the data ends in no fault but
-- Number, GSV's in none. Assumes nothing.
use Prim.Native.Nat.{ℕ, ◌≤◌}
use native.Mathlib.Omega.{arith}
use mathlib.Core.Path.{◌≡◌, refl, subst}
use mathlib.Core.Logic.{◌≢◌}
use mathlib.Core.Bool.{Bool, true, false, cond}
use mathlib.Core.List.{List}
use mathlib.Core.Option.{Option, none, some}
use Rattle.text.specs.Reader.{UnknownType, Number, BadTime, Parse, miss, refuse, got}
use Rattle.text.specs.Value.{value}
use Rattle.text.proofs.Faults.{Clear}
use Rattle.decimal.proofs.Number.{no-bad-time}
use Rattle.frame.specs.Refused.{bad_time, wrong_header}
use Rattle.frame.specs.Types.{alike}
use Rattle.frame.specs.Frame.{Parts, Outcome, accepted, refused, frame}
use Rattle.frame.proofs.Number.{Framed, framed-number}
use Rattle.gsv.specs.Talker.{Talker}
use Rattle.gsv.specs.Gsv.{gsv}
use Rattle.gsv.proofs.Never.{never-gsv}
use Rattle.gsa.specs.System.{Settled, is as settled_as, mismatch, settle}
use Rattle.gsa.specs.Gsa.{Gsa, gsa}
use Rattle.gsa.proofs.Number.{gsa-number}
use Rattle.rmc.specs.Rmc.{rmc}
use Rattle.rmc.proofs.Number.{rmc-number}
use Rattle.gga.specs.Gga.{gga}
use Rattle.gga.proofs.Number.{gga-number}
use Rattle.gll.specs.Gll.{gll}
use Rattle.gll.proofs.Number.{gll-number}
use Rattle.vtg.specs.Vtg.{vtg}
use Rattle.vtg.proofs.Number.{vtg-number}
use Rattle.answer.specs.Sentence.{Answer, is_rmc, is_gsa, is_gsv, is_gga, is_gll, is_vtg, is_other, is_refused, or_refused, as_rmc, rmc_of, as_gga, gga_of, as_gll, gll_of, as_vtg, vtg_of, gsa_names, settled_gsa, as_gsa, gsa_of, gsv_names, as_gsv, gsv_by, gsv_of, framed_by, Formatter, rmc_type, gsa_type, gsv_type, gga_type, gll_type, vtg_type, other_type, formatter_of, read_as, dispatch, answer, of_type, parse_as}

-- if an answer is a refusal, its number is one of 1 to `top`
abbrev pub Numbered : ℕ → Answer → Type 0
Numbered top (is_rmc r) = Unit {0}
Numbered top (is_gsa g) = Unit {0}
Numbered top (is_gsv g) = Unit {0}
Numbered top (is_gga g) = Unit {0}
Numbered top (is_gll g) = Unit {0}
Numbered top (is_vtg v) = Unit {0}
Numbered top (is_other k) = Unit {0}
Numbered top (is_refused r) = (1 ≤ r.number) × (r.number ≤ top)

module _ (top : ℕ) (room : 9 ≤ top) where
  framed : (r : Parts → Answer) → ((p : Parts) → Numbered top (r p)) → (l : List ℕ) → Numbered top (framed_by r (frame l))
  framed r h l = by (frame l) (framed-number l)
    where
      by : (o : Outcome) → Framed o → Numbered top (framed_by r o)
      by (accepted p) n = h p
      by (refused x) n = (n.0, omega (arith, room, n.1))

  reads : {A : Type 0} (f : A → Answer) → ((a : A) → Numbered top (f a)) → (p : Parse A) → Clear BadTime p → Numbered top (or_refused f (value p))
  reads f h miss k = (omega arith, omega arith)
  reads f h (refuse UnknownType) k = (omega arith, omega arith)
  reads f h (refuse Number) k = (omega arith, omega arith)
  reads f h (refuse BadTime) k = absurd (k refl)
  reads f h (got a l) k = h a

  of-rmc : (p : Parts) → Numbered top (rmc_of p)
  of-rmc p = reads (as_rmc p.talker) (λ d. tt) (rmc p.text) (no-bad-time rmc-number p.text)

  of-gga : (p : Parts) → Numbered top (gga_of p)
  of-gga p = reads (as_gga p.talker) (λ d. tt) (gga p.text) (no-bad-time gga-number p.text)

  of-gll : (p : Parts) → Numbered top (gll_of p)
  of-gll p = reads (as_gll p.talker) (λ d. tt) (gll p.text) (no-bad-time gll-number p.text)

  of-vtg : (p : Parts) → Numbered top (vtg_of p)
  of-vtg p = reads (as_vtg p.talker) (λ d. tt) (vtg p.text) (no-bad-time vtg-number p.text)

  settled : (t : List ℕ) (g : Gsa) (s : Settled) → Numbered top (settled_gsa t g s)
  settled t g (settled_as s) = tt
  settled t g (mismatch m n) = (omega arith, omega arith)

  of-gsa : (p : Parts) → Numbered top (gsa_of p)
  of-gsa p =
      reads (as_gsa p.talker) (λ g. settled p.talker g (settle (gsa_names p.talker) g.system)) (gsa p.text)
      (no-bad-time gsa-number p.text)

  named : (o : Option Talker) (p : Parts) → Numbered top (gsv_by o p)
  named none p = (omega arith, omega arith)
  named (some t) p = reads (as_gsv t) (λ g. tt) (gsv p.text) (never-gsv BadTime p.text)

  of-gsv : (p : Parts) → Numbered top (gsv_of p)
  of-gsv p = named (gsv_names p.talker) p

  of-any : (p : Parts) → Numbered top (dispatch p)
  unfolding dispatch
  of-any p = by (formatter_of p.kind)
    where
      by : (f : Formatter) → Numbered top (read_as f p)
      by rmc_type = of-rmc p
      by gsa_type = of-gsa p
      by gsv_type = of-gsv p
      by gga_type = of-gga p
      by gll_type = of-gll p
      by vtg_type = of-vtg p
      by other_type = tt

of-type : (name : List ℕ) (p : Parts) → Numbered 10 (of_type name p)
of-type name p = by (alike p.kind name)
  where
    by : (t : Bool) → Numbered 10 (cond t (dispatch p) (is_refused (wrong_header name p.kind)))
    by true = of-any 10 (omega arith) p
    by false = (omega arith, omega arith)

module _ (l : List ℕ) where
  pub numbered : Numbered 9 (answer l)
  unfolding answer
  numbered = framed 9 (omega arith) dispatch (of-any 9 (omega arith)) l

  pub numbered-as : (name : List ℕ) → Numbered 10 (parse_as name l)
  unfolding parse_as
  numbered-as name = framed 10 (omega arith) (of_type name) (of-type name) l

  -- so none of them is BadTime
  pub never-eleven : (answer l ≢ is_refused bad_time) × ((name : List ℕ) → parse_as name l ≢ is_refused bad_time)
  never-eleven = (λ e. above 9 (omega arith) (answer l) numbered e, λ name e. above 10 (omega arith) (parse_as name l) (numbered-as name) e)
    where
      above : (top : ℕ) → top ≤ 10 → (a : Answer) → Numbered top a → a ≡ is_refused bad_time → ⊥
      above top h a k e = let g = subst (λ (b : Answer). Numbered top b) e k in absurd (omega (arith, g.1))
