-- Greedy packing of a row's cells, a cell at a time. Assumes nothing.
use Prim.Native.Nat.{ℕ, suc, ◌+◌, ◌-◌, ◌*◌, ◌/◌, ◌^◌, ◌≤◌, ◌<◌}
use native.Mathlib.Nat.{pow-zero, pow-suc, one-le-pow}
use native.Mathlib.Omega.{arith}
use native.Mathlib.Numerals.{add-one}
use mathlib.Core.Path.{◌≡◌, refl, ap, sym, ◌∙◌}
use mathlib.Core.List.{List, [], ◌∷◌}
use mathlib.Core.Bool.{Bool, true, false, ◌&&◌, cond}
use lib.Dec.{leb, ltb}
use lib.ListN.{length}
use borrow.Author.Tests.{leb-true}
use Rattle.std.specs.Prelude.{Option, Some, None, IfNone, IfSome, MatchOption}
use Rattle.short.specs.Digits.{digits_of}
use Rattle.short.proofs.Digits.{digit-one, count-tenth}
use Rattle.short.proofs.Texts.{entry-length}
use Rattle.pack.specs.Cut.{more, piece_count}
use Rattle.gsv.specs.Gsv.{Satellite}
use Rattle.rows.specs.Leave.{entry_size}
use Rattle.gather.specs.Words.{sat_at, sats_from}
use Rattle.gather.specs.Code.{Digits, OptDigits, Sized, put_on}
use Rattle.gather.specs.declared.lent.Pile.{Pile}

one : (n : ℕ) → n < 10 → length (digits_of n) ≡ 1
one n h = ap length (digit-one n h)

-- a number from a power of ten up, and below the next, has a digit more than the power has zeros
power-digits : (k n : ℕ) → 10 ^ k ≤ n → n < 10 * 10 ^ k → length (digits_of n) ≡ k + 1
power-digits ℕ.zero n a b = one n (omega (arith, pow-zero 10))
power-digits (suc k) n a b =
    let z = pow-suc 10 k in
    let y = one-le-pow k 10 (omega arith) in
    omega (arith, count-tenth n (omega arith), power-digits k (n / 10) (omega arith) (omega arith))

-- so the power's count decides
pub counted : (x r : ℕ) (o : Option ℕ) (P : ℕ → Type 0) → ((k : ℕ) → P k → r ≡ k + 1) → IfNone o (x ≡ 0) → IfSome o (λ k. 10 ^ k ≤ x)
    → IfSome o (λ k. x < 10 * 10 ^ k) → IfSome o (λ k. k < 10) → MatchOption o (r ≡ 1) P → Digits x r
counted x r (Some k) P f z a b h e = record { count = f k e ∙ sym (power-digits k x a b); few = omega (arith, f k e) }
counted x r None P f z a b h e = record { count = e ∙ sym (one x (omega arith)); few = omega arith }

-- the pile after an entry, and those that are left
put-more : (p : Pile) (s : Satellite) (ss : List Satellite) (room : ℕ)
    → p.lines + more entry_size room p.count p.used (s ∷ ss)
    ≡ (put_on p (entry_size s) room).lines + more entry_size room (put_on p (entry_size s) room).count (put_on p (entry_size s) room).used ss
unfolding more
put-more p s ss room = by (ltb p.count 4 && leb (p.used + entry_size s) room)
  where
    q : Bool → Pile
    q t = cond t (record { lines = p.lines; count = p.count + 1; used = p.used + entry_size s }) (record { lines = p.lines + 1; count = 1; used = entry_size s })

    by : (t : Bool)
        → p.lines + (cond t 0 1 + more entry_size room (cond t (suc p.count) 1) (cond t (p.used + entry_size s) (entry_size s)) ss)
        ≡ (q t).lines + more entry_size room (q t).count (q t).used ss
    by true =
        let z : suc p.count ≡ p.count + 1 = omega arith in
        rw z (omega arith)
    by false = omega arith

-- a pile stays small
pub record Small (i : ℕ) (p : Pile) : Type 0 where
  pub lines : p.lines ≤ i
  pub used : p.used ≤ 88

small-put : (i : ℕ) (p : Pile) (w room : ℕ) → Small i p → w ≤ 44 → room ≤ 88 → Small (i + 1) (put_on p w room)
small-put i p w room h k l = by (ltb p.count 4) (leb (p.used + w) room) refl
  where
    by : (a b : Bool) → leb (p.used + w) room ≡ b
        → Small (i + 1) (cond (a && b) (record { lines = p.lines; count = p.count + 1; used = p.used + w }) (record { lines = p.lines + 1; count = 1; used = w }))
    by true true e =
        let f : p.used + w ≤ room = leb-true _ _ e in
        record { lines = omega (arith, h.lines); used = omega arith }
    by true false e = record { lines = omega (arith, h.lines); used = omega arith }
    by false b e = record { lines = omega (arith, h.lines); used = omega arith }

pub sized : (s : Satellite) (a b c d : ℕ) → Digits s.id a → OptDigits s.elevation b → OptDigits s.azimuth c
    → OptDigits s.signal d → Sized s (a + b + c + d + 4)
sized s a b c d p q r t =
    record { bytes = omega (arith, entry-length s, p.count, q.count, r.count, t.count); few = omega (arith, p.few, q.few, r.few, t.few) }

-- a cell and those after it
pub cell-first : (ws : List ℕ) (count i : ℕ) → i < count → sats_from i (count - i) ws ≡ sat_at ws i ∷ sats_from (i + 1) (count - (i + 1)) ws
cell-first ws count i h =
    let z : count - i ≡ suc (count - (i + 1)) = omega arith in
    ap (λ (k : ℕ). sats_from i k ws) z ∙ ap (λ (j : ℕ). sat_at ws i ∷ sats_from j (count - (i + 1)) ws) (sym (add-one i))

pub cells-none : (ws : List ℕ) (count i : ℕ) → count ≤ i → sats_from i (count - i) ws ≡ []
cells-none ws count i h = let z : count - i ≡ 0 = omega arith in ap (λ (k : ℕ). sats_from i k ws) z

-- what greedy makes of the cells, where i of them are in the pile
unfoldable pub Packing : ℕ → List ℕ → ℕ → ℕ → Pile → Type 0
Packing room ws count i p = piece_count entry_size room (sats_from 0 count ws) ≡ p.lines + more entry_size room p.count p.used (sats_from i (count - i) ws)

pub start : (room : ℕ) (ws : List ℕ) (count : ℕ) → Packing room ws count 0 (record { lines = 0; count = 4; used = 0 })
unfolding Packing
start room ws count =
    let z : count ≡ count - 0 = omega arith in
    let y : more entry_size room 4 0 (sats_from 0 count ws) ≡ more entry_size room 4 0 (sats_from 0 (count - 0) ws) = ap (λ (k : ℕ). more entry_size room 4 0 (sats_from 0 k ws)) z in
    omega arith

-- one turn of the loop
pub small-turn : (i : ℕ) (p q : Pile) (w room : ℕ) → q ≡ put_on p w room → Small i p → w ≤ 44 → room ≤ 88 → Small (i + 1) q
small-turn i p q w room e h k l = rw e (small-put i p w room h k l)

pub pack-turn : (room : ℕ) (ws : List ℕ) (count i : ℕ) (p q : Pile) (w : ℕ) → q ≡ put_on p w room → w ≡ entry_size (sat_at ws i)
    → i < count → Packing room ws count i p → Packing room ws count (i + 1) q
unfolding Packing
pack-turn room ws count i p q w e f h g =
    g
    ∙ ap (λ (l : List Satellite). p.lines + more entry_size room p.count p.used l) (cell-first ws count i h)
    ∙ put-more p (sat_at ws i) rest room
    ∙ ap (λ (q : Pile). q.lines + more entry_size room q.count q.used rest) (ap (λ (v : ℕ). put_on p v room) (sym f) ∙ sym e)
  where
    rest : List Satellite
    rest = sats_from (i + 1) (count - (i + 1)) ws

pub pack-end : (room : ℕ) (ws : List ℕ) (count i : ℕ) (p : Pile) → count ≤ i → Packing room ws count i p
    → p.lines ≡ piece_count entry_size room (sats_from 0 count ws)
unfolding Packing more
pack-end room ws count i p h e =
    let z : p.lines + more entry_size room p.count p.used (sats_from i (count - i) ws) ≡ p.lines + 0 =
    ap (λ (l : List Satellite). p.lines + more entry_size room p.count p.used l) (cells-none ws count i h)
    in
    omega arith
