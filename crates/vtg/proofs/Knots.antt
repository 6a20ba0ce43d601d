-- The speed of a VTG sentence in knots: written in knots it is the decimal's f32; written in kilometres an hour it is the f32 nearest to
-- the quotient of two floats, the decimal's f32 and that of 1.852. Each is rounded once: the decimal's digits over their power of ten
-- (`short-read-nearest`), and that float over 1.852. Assumes nothing.
use Prim.Native.Nat.{ℕ}
use native.Mathlib.Omega.{arith}
use mathlib.Core.Path.{◌≡◌, refl, ap, ◌∙◌, subst}
use mathlib.Core.Bool.{false}
use mathlib.Core.List.{List}
use mathlib.Core.Option.{Option, none, some}
use lib.Dec.{lit≤}
use lib.IntN.{negsuc}
use lib.Count.{count_trailing_zeros}
use lib.Ieee.{Float, fin, binary32, round, div, odd, units, size, span, climb}
use Rattle.text.specs.Bytes.{byte}
use Rattle.text.specs.Reader.{got}
use Rattle.text.proofs.Binds.{unbind, pure-is}
use Rattle.decimal.specs.Places.{Short, short_decimal}
use Rattle.decimal.proofs.Quotient.{Quotient, short-quotient}
use Rattle.fields.specs.Place.{with_comma, short_place}
use Rattle.fields.specs.Letter.{unit_letter}
use Rattle.vtg.specs.Vtg.{Speed, knot, knots_of, in_knots, in_kmh, speed_of, courses, speed, Vtg, vtg}

-- the f32 of 1.852 is 7,767,851 / 2 ^ 22
knot-is : fin false 7767851 (negsuc 21) ≡ knot
unfolding round odd units size span climb count_trailing_zeros
knot-is = refl

-- a short decimal that is read, in kilometres an hour
kmh-nearest : (l : List ℕ) {d : Short} {m : List ℕ} → short_decimal l ≡ got (some d) m → Quotient binary32 d.value knot (knots_of d.value)
kmh-nearest l {d} e =
    subst (λ (k : Float). Quotient binary32 d.value k (div binary32 d.value k)) knot-is
    (short-quotient l e false 7767851 (negsuc 21) (lit≤ tt) (lit≤ tt))

-- and with its comma
place-nearest : (w : List ℕ) {d : Short} {r : List ℕ} → short_place w ≡ got (some d) r → Quotient binary32 d.value knot (knots_of d.value)
unfolding with_comma
place-nearest w {d} g =
    let b = unbind short_decimal _ w g in
    let a = unbind _ _ b.between b.then in
    let same : b.value ≡ some d = (pure-is a.then).0 in
    kmh-nearest w (subst (λ (x : Option Short). short_decimal w ≡ got x b.between) same b.one)

-- what the knots of a speed are
pub record InKnots (s : Speed) : Type 0 where
  pub as-written : s.unit ≡ byte "N" → s.knots ≡ s.written.value
  pub divided : s.unit ≡ byte "K" → Quotient binary32 s.written.value knot s.knots

-- of every VTG sentence that is read
pub speed-in-knots : (l : List ℕ) {v : Vtg} {m : List ℕ} {s : Speed} → vtg l ≡ got v m → v.speed ≡ some s → InKnots s
unfolding vtg speed
speed-in-knots l {v} {m} {s} e f =
    let c = unbind courses _ l e in
    let p = unbind speed _ c.between c.then in
    let k = unbind short_place _ c.between p.one in
    let n = unbind (unit_letter (byte "N")) _ k.between k.then in
    let h = unbind short_place _ n.between n.then in
    let u = unbind (unit_letter (byte "K")) _ h.between h.then in
    let one : speed_of k.value h.value ≡ p.value = (pure-is u.then).0 in
    let two : p.value ≡ v.speed = ap (λ (x : Vtg). x.speed) (pure-is p.then).0 in
    by k.value h.value n.between h.one (one ∙ two ∙ f)
  where
    by : (knots kmh : Option Short) (w : List ℕ) {r : List ℕ} → short_place w ≡ got kmh r → speed_of knots kmh ≡ some s → InKnots s
    by (some d) kmh w g q =
        let same : in_knots d ≡ s = cc in
        subst InKnots same (record { as-written = λ z. refl; divided = λ z. absurd (omega (arith, z)) })
    by none (some d) w g q =
        let same : in_kmh d ≡ s = cc in
        subst InKnots same (record { as-written = λ z. absurd (omega (arith, z)); divided = λ z. place-nearest w g })
    by none none w g q = let z : ◌≡◌ {A = ℕ} 0 1 = cc in absurd (omega arith)
