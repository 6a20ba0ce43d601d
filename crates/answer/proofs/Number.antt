-- 01: "A non-empty text that is not a plain decimal within limits is Number, exactly then .. Checks run left to right." Of a line: it is
-- answered 9 where, and only where, its frame is accepted and one of the decimal places of its type is reached and bad. Framing, GSV and
-- the types that are not read have no decimal place, and each other refusal has another number. Assumes nothing.
use Prim.Native.Nat.{ℕ}
use native.Mathlib.Omega.{arith}
use mathlib.Core.Path.{◌≡◌, refl, ap, ◌∙◌}
use mathlib.Core.Bool.{Bool, true, false, cond}
use mathlib.Core.List.{List, []}
use mathlib.Core.Logic.{◌↔◌}
use mathlib.Core.Option.{Option, none, some}
use Rattle.text.specs.Reader.{UnknownType, Number, BadTime, Parse, miss, refuse, got, Reader}
use Rattle.text.specs.Value.{value}
use Rattle.decimal.proofs.Number.{Place, OneBad, NumberAt, never}
use Rattle.frame.specs.Refused.{Refused, bad_number, wrong_header}
use Rattle.frame.specs.Types.{alike}
use Rattle.frame.specs.Frame.{Parts, Outcome, accepted, refused, frame}
use Rattle.frame.proofs.Texts.{alike-equal, alike-self}
use Rattle.frame.proofs.Number.{Framed, framed-number}
use Rattle.gsv.specs.Talker.{Talker}
use Rattle.gsv.proofs.Never.{never-gsv}
use Rattle.gsa.specs.System.{Settled, is as settled_as, mismatch, settle}
use Rattle.gsa.specs.Gsa.{Gsa}
use Rattle.gsa.proofs.Number.{gsa_places, gsa-number}
use Rattle.rmc.proofs.Number.{rmc_places, rmc-number}
use Rattle.gga.proofs.Number.{gga_places, gga-number}
use Rattle.gll.proofs.Number.{gll_places, gll-number}
use Rattle.vtg.proofs.Number.{vtg_places, vtg-number}
use Rattle.answer.specs.Sentence.{Answer, is_rmc, is_gsa, is_gsv, is_gga, is_gll, is_vtg, is_other, is_refused, or_refused, as_rmc, gsa_names, settled_gsa, as_gsa, gsv_names, as_gsv, gsv_by, as_gga, as_gll, as_vtg, framed_by, Formatter, rmc_type, gsa_type, gsv_type, gga_type, gll_type, vtg_type, other_type, formatter_of, read_as, dispatch, answer, of_type, parse_as}

-- the decimal places of each type
abbrev pub places_of : Formatter → List Place
places_of rmc_type = rmc_places
places_of gsa_type = gsa_places
places_of gsv_type = []
places_of gga_type = gga_places
places_of gll_type = gll_places
places_of vtg_type = vtg_places
places_of other_type = []

-- a line that is framed, with one of its type's places reached and bad
pub record Nine (l : List ℕ) : Type 0 where
  pub parts : Parts
  pub framed : frame l ≡ accepted parts
  pub bad : OneBad (places_of (formatter_of parts.kind)) parts.text

-- and of the type of this name
pub record NineAs (name l : List ℕ) : Type 0 where
  pub line : Nine l
  pub is-kind : line.parts.kind ≡ name

-- an answer whose number is 9
numbered : Answer → ℕ
numbered (is_rmc r) = 0
numbered (is_gsa g) = 0
numbered (is_gsv g) = 0
numbered (is_gga g) = 0
numbered (is_gll g) = 0
numbered (is_vtg v) = 0
numbered (is_other k) = 0
numbered (is_refused r) = r.number

abbrev IsNine : Answer → Type 0
IsNine a = numbered a ≡ bad_number.number

-- it is 9 only where this is so, and Number where it is
abbrev NineAt : Answer → Type 0 → Type 0
NineAt a P = (IsNine a → P) × (P → a ≡ is_refused bad_number)

-- a reader of data, where no record of it is answered so
module _ {A : Type 0} (f : A → Answer) (h : (a : A) → IsNine (f a) → ⊥) {r : Reader A} {ps : List Place} (at : NumberAt r ps) (t : List ℕ) where
  data-nine : NineAt (or_refused f (value (r t))) (OneBad ps t)
  unfolding numbered
  data-nine = (λ e. at.only t (by (r t) e), λ x. ap (λ (p : Parse A). or_refused f (value p)) (at.there t x))
    where
      by : (p : Parse A) → IsNine (or_refused f (value p)) → p ≡ refuse Number
      by miss e = absurd (omega arith)
      by (refuse UnknownType) e = absurd (omega arith)
      by (refuse Number) e = refl
      by (refuse BadTime) e = absurd (omega arith)
      by (got a m) e = absurd (h a e)

settled-clear : (t : List ℕ) (g : Gsa) (x : Settled) → IsNine (settled_gsa t g x) → ⊥
unfolding numbered
settled-clear t g (settled_as s) e = omega arith
settled-clear t g (mismatch m n) e = omega arith

-- a framed sentence, by its type
module _ (p : Parts) where
  read-nine : (f : Formatter) → NineAt (read_as f p) (OneBad (places_of f) p.text)
  unfolding numbered
  read-nine rmc_type = data-nine (as_rmc p.talker) (λ d e. omega arith) rmc-number p.text
  read-nine gsa_type = data-nine (as_gsa p.talker) (λ g. settled-clear p.talker g (settle (gsa_names p.talker) g.system)) gsa-number p.text
  read-nine gsv_type = (λ e. by (gsv_names p.talker) e, λ x. absurd x)
    where
      by : (o : Option Talker) → IsNine (gsv_by o p) → ⊥
      by none e = omega arith
      by (some t) e = (data-nine (as_gsv t) (λ g e. omega arith) (never never-gsv) p.text).0 e
  read-nine gga_type = data-nine (as_gga p.talker) (λ d e. omega arith) gga-number p.text
  read-nine gll_type = data-nine (as_gll p.talker) (λ d e. omega arith) gll-number p.text
  read-nine vtg_type = data-nine (as_vtg p.talker) (λ d e. omega arith) vtg-number p.text
  read-nine other_type = (λ e. omega arith, λ x. absurd x)

  dispatch-nine : NineAt (dispatch p) (OneBad (places_of (formatter_of p.kind)) p.text)
  unfolding dispatch
  dispatch-nine = read-nine (formatter_of p.kind)

-- what is not framed is refused for another reason
framed-only : (r : Parts → Answer) (l : List ℕ) (C : Type 0) → ((p : Parts) → frame l ≡ accepted p → IsNine (r p) → C)
    → IsNine (framed_by r (frame l)) → C
unfolding numbered
framed-only r l C go e = by (frame l) refl (framed-number l) e
  where
    by : (o : Outcome) → frame l ≡ o → Framed o → IsNine (framed_by r o) → C
    by (accepted p) f n e = go p f e
    by (refused x) f n e = absurd (omega (arith, n.1, e))

module _ (l : List ℕ) where
  -- Number where one of the places is bad
  pub nine-where : Nine l → answer l ≡ is_refused bad_number
  unfolding answer
  nine-where b = ap (framed_by dispatch) b.framed ∙ (dispatch-nine b.parts).1 b.bad

  -- a refusal of the number 9 only there
  pub nine-only : (r : Refused) → answer l ≡ is_refused r → r.number ≡ bad_number.number → Nine l
  unfolding answer numbered
  nine-only r e nine =
      framed-only dispatch l (Nine l) (λ p f k. record { parts = p; framed = f; bad = (dispatch-nine p).0 k }) (ap numbered e ∙ nine)

  -- and so of a line that must be of one type: of GSV never
  pub nine-as : (name : List ℕ) → (parse_as name l ≡ is_refused bad_number) ↔ NineAs name l
  unfolding parse_as numbered
  nine-as name = (λ e. framed-only (of_type name) l (NineAs name l) (λ p f. by p f (alike p.kind name) refl) (ap numbered e), there)
    where
      by : (p : Parts) → frame l ≡ accepted p → (t : Bool) → alike p.kind name ≡ t
          → IsNine (cond t (dispatch p) (is_refused (wrong_header name p.kind))) → NineAs name l
      by p f true g e = record { line = record { parts = p; framed = f; bad = (dispatch-nine p).0 e }; is-kind = alike-equal p.kind name g }
      by p f false g e = absurd (omega arith)

      there : NineAs name l → framed_by (of_type name) (frame l) ≡ is_refused bad_number
      there b =
          let p = b.line.parts in
          ap (framed_by (of_type name)) b.line.framed
          ∙ ap (λ (t : Bool). cond t (dispatch p) (is_refused (wrong_header name p.kind))) (ap (λ (k : List ℕ). alike k name) b.is-kind ∙ alike-self name)
          ∙ (dispatch-nine p).1 b.line.bad
