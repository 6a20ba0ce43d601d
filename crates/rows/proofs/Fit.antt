-- The room that a line has for entries is a sum of their sizes: each has a byte for a comma, and the last needs none. Assumes nothing.
use Prim.Native.Nat.{ℕ, ◌-◌, ◌≤◌}
use native.Mathlib.Omega.{arith}
use mathlib.Core.Path.{◌≡◌, refl}
use mathlib.Core.Logic.{◌↔◌}
use mathlib.Core.List.{List, [], ◌∷◌, ◌++◌, flatten}
use mathlib.Core.Option.{Option, none, some}
use lib.ListN.{length, length-append}
use Rattle.gsv.specs.Gsv.{Satellite}
use Rattle.groups.specs.Left.{All}
use Rattle.short.specs.Digits.{digits_of}
use Rattle.short.specs.Texts.{opt_text, entries_text, Upto, Readable, AllReadable}
use Rattle.short.specs.Room.{Room}
use Rattle.short.proofs.Digits.{few-digits}
use Rattle.short.proofs.Texts.{entry-length}
use Rattle.pack.specs.Cut.{Cut, weight, Light}
use Rattle.rows.specs.Leave.{entry_size, space}

-- the bytes of some entries are their sizes, less one comma
texts : (es : List Satellite) → length (entries_text es) ≡ weight entry_size es - 1
texts [] = refl
texts (s ∷ []) = omega arith
texts (s ∷ t ∷ ts) = simp length-append (omega (arith, texts (t ∷ ts)))

view-digits : (v : ℕ) → v ≤ 65535 → length (digits_of v) ≤ 5
view-digits v h = few-digits v 5 (omega arith) (omega arith)

opt-digits : (o : Option ℕ) → Upto 2147483647 o → length (opt_text o) ≤ 10
opt-digits none h = omega arith
opt-digits (some n) h = few-digits n 10 (omega arith) (omega arith)

-- no entry is larger than 43 bytes and a comma
pub small-entry : (s : Satellite) → Readable s → entry_size s ≤ 44
small-entry s h =
    omega (
      arith,
      entry-length s,
      few-digits s.id 10 (omega arith) (omega (arith, h.id)),
      opt-digits s.elevation h.elevation,
      opt-digits s.azimuth h.azimuth,
      opt-digits s.signal h.signal,
    )

-- each entry has room alone
pub alone : (v : ℕ) (es : List Satellite) → v ≤ 65535 → AllReadable es → All (λ s. entry_size s ≤ space v) es
alone v [] h p = tt
alone v (s ∷ es) h p = (omega (arith, small-entry s p.0, view-digits v h), alone v es h p.1)

readable-append : (a b : List Satellite) → AllReadable a → AllReadable b → AllReadable (a ++ b)
readable-append [] b p q = q
readable-append (s ∷ a) b p q = (p.0, readable-append a b p.1 q)

front-readable : (a b : List Satellite) → AllReadable (a ++ b) → AllReadable a × AllReadable b
front-readable [] b p = (tt, p)
front-readable (s ∷ a) b p = let (q, r) = front-readable a b p.1 in ((p.0, q), r)

room-light : (v : ℕ) (es : List Satellite) → Room v es ↔ ((v ≤ 65535) × AllReadable es × Light entry_size (space v) es)
room-light v es = (
  λ r. (r.view, r.each, record { few = r.four; light = omega (arith, r.bytes, texts es) }),
  λ h. record { view = h.0; each = h.1; four = h.2.few; bytes = omega (arith, h.2.light, texts es, view-digits v h.0) },
)

all-rooms : (v : ℕ) (ps : List (List Satellite)) → v ≤ 65535 → AllReadable (flatten ps) → All (Light entry_size (space v)) ps → All (Room v) ps
unfolding flatten
all-rooms v [] h p l = tt
all-rooms v (q ∷ ps) h p l =
    let (x, y) = front-readable q (flatten ps) p in
    ((room-light v q).1 (h, x, l.0), all-rooms v ps h y l.1)

rooms-light : (v : ℕ) (ps : List (List Satellite)) → All (Room v) ps → AllReadable (flatten ps) × All (Light entry_size (space v)) ps
unfolding flatten
rooms-light v [] r = (tt, tt)
rooms-light v (q ∷ ps) r =
    let (x, y) = rooms-light v ps r.1 in
    let z = (room-light v q).0 r.0 in
    (readable-append q (flatten ps) z.1 x, (z.2, y))

first-view : (v j : ℕ) (ps : List (List Satellite)) → length ps ≡ j → 1 ≤ j → All (Room v) ps → v ≤ 65535
first-view v j [] e h r = absurd (omega arith)
first-view v j (p ∷ ps) e h r = r.0.view

-- a cut into lines is a cut by sizes
pub room-cut : (v j : ℕ) (es : List Satellite) → 1 ≤ j → Cut (Room v) j es ↔ ((v ≤ 65535) × AllReadable es × Cut (Light entry_size (space v)) j es)
room-cut v j es h = (
  λ c.
      let (x, y) = rooms-light v c.pieces c.each in (
        first-view v j c.pieces c.count h c.each,
        rw c.whole at x,
        record { pieces = c.pieces; count = c.count; whole = c.whole; each = y },
      ),
  λ d.
      let c = d.2 in
      record { pieces = c.pieces; count = c.count; whole = c.whole; each = all-rooms v c.pieces d.0 (rw c.whole d.1) c.each },
)
