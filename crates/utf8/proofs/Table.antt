-- What a table of rows says of an octet. `regional`: of all octets from `lo` to `hi` at once, by computation. A row whose first range
-- lies apart from them is passed over, one whose first range holds them all is taken, and where it holds only some there is no answer.
-- `taken`: what is left after an octet is left of a row that has it first. `All`: a fact of each row, computed row by row.
-- Assumes nothing.
use Prim.Native.Nat.{ℕ, ◌≤◌}
use native.Mathlib.Omega.{arith}
use mathlib.Core.Path.{◌≡◌, refl}
use mathlib.Core.List.{List, [], ◌∷◌, Memᴰ}
use mathlib.Core.Option.{Option, none, some, none-ne-some}
use mathlib.Core.Bool.{Bool, true, false, cond, ◌&&◌, and-eq-true_iff}
use lib.Dec.{leb, ltb}
use borrow.Author.Tests.{ltb-true, leb-true}
use Rattle.utf8.specs.Rfc3629.{Range}
use Rattle.utf8.specs.Utf8.{State, within, follow}
use Rattle.utf8.proofs.Ranges.{below, above, inside, bounds}

abbrev pub pick : Bool → Bool → Bool → State → Option State → Option State
pick true q i x y = y
pick false true i x y = y
pick false false true x y = some x
pick false false false x y = none

-- the state that each octet from `lo` to `hi` leaves, where it is one
abbrev pub region : ℕ → ℕ → List (List Range) → Option State
region lo hi [] = some none
region lo hi ([] ∷ rows) = region lo hi rows
region lo hi ((r ∷ rs) ∷ rows) =
    pick (ltb r.1 lo) (ltb hi r.0) (leb r.0 lo && leb hi r.1) (some rs) (region lo hi rows)

pub regional : (lo hi : ℕ) (rows : List (List Range)) {x : State} (b : ℕ) → region lo hi rows ≡ some x → lo ≤ b → b ≤ hi
    → follow rows b ≡ x
unfolding follow
regional lo hi [] b e h k = cc
regional lo hi ([] ∷ rows) b e h k = regional lo hi rows b e h k
regional lo hi ((r ∷ rs) ∷ rows) {x} b e h k =
    by (ltb r.1 lo) (ltb hi r.0) (leb r.0 lo && leb hi r.1) refl refl refl e (λ e. regional lo hi rows b e h k)
  where
    by : (p q i : Bool) → ltb r.1 lo ≡ p → ltb hi r.0 ≡ q → (leb r.0 lo && leb hi r.1) ≡ i
        → pick p q i (some rs) (region lo hi rows) ≡ some x → (region lo hi rows ≡ some x → follow rows b ≡ x)
        → cond (within r b) (some rs) (follow rows b) ≡ x
    by true q i ep eq ei e f = rw (above r b (omega (arith, ltb-true r.1 lo ep))) (f e)
    by false true i ep eq ei e f = rw (below r b (omega (arith, ltb-true hi r.0 eq))) (f e)
    by false false true ep eq ei e f =
        let w = (and-eq-true_iff (leb r.0 lo) (leb hi r.1)).0 ei in
        rw (inside r b (omega (arith, leb-true r.0 lo w.0)) (omega (arith, leb-true hi r.1 w.1))) (cc)
    by false false false ep eq ei e f = cc

-- the row that the octet `b` begins and that leaves `rs`
pub record Taken (rows : List (List Range)) (b : ℕ) (rs : List Range) : Type 0 where
  pub first : Range
  pub row : Memᴰ (first ∷ rs) rows
  pub low : first.0 ≤ b
  pub high : b ≤ first.1

later : {row : List Range} {rows : List (List Range)} {b : ℕ} {rs : List Range} → Taken rows b rs → Taken (row ∷ rows) b rs
later t = record { first = t.first; row = Memᴰ.tail t.row; low = t.low; high = t.high }

pub taken : (rows : List (List Range)) (b : ℕ) {rs : List Range} → follow rows b ≡ some rs → Taken rows b rs
unfolding follow
taken [] b {rs} e = absurd (none-ne-some rs e)
taken ([] ∷ rows) b e = later (taken rows b e)
taken ((r ∷ qs) ∷ rows) b {rs} e = by (within r b) refl e (taken rows b)
  where
    by : (t : Bool) → within r b ≡ t → cond t (some qs) (follow rows b) ≡ some rs → (follow rows b ≡ some rs → Taken rows b rs)
        → Taken ((r ∷ qs) ∷ rows) b rs
    by true w e f =
        let (low, high) = bounds r b w in
        let same : r ∷ rs ≡ r ∷ qs = cc in
        record { first = r; row = Memᴰ.head same; low = low; high = high }
    by false w e f = later (f e)

module _ (P : List Range → Type 0) where
  abbrev pub All : List (List Range) → Type 0
  All [] = Unit {0}
  All (row ∷ rows) = P row × All rows

  pub of-row : {row : List Range} {rows : List (List Range)} → All rows → Memᴰ row rows → P row
  of-row a (Memᴰ.head e) = rw e a.0
  of-row a (Memᴰ.tail m) = of-row a.1 m
