-- Cells that are stored are read back, and the others stand. Assumes nothing.
use Prim.Native.Nat.{ℕ, suc, ◌+◌, ◌*◌, ◌≤◌, ◌<◌}
use native.Mathlib.Omega.{arith}
use mathlib.Core.Path.{◌≡◌, refl, ap, sym, ◌∙◌}
use mathlib.Core.List.{List, [], ◌∷◌, ◌++◌}
use mathlib.Core.Bool.{Bool, cond}
use mathlib.Core.Option.{Option, none, some}
use lib.ListN.{length, get_or, set, length-set}
use lib.Seq.{sets, length-sets, get_or-set_same, get_or-set_other}
use borrow.Author.Tests.{ne_eqb}
use Rattle.text.proofs.Stores.{sets-append}
use Rattle.gsv.specs.Gsv.{Satellite}
use Rattle.short.specs.Texts.{Upto, Readable, AllReadable}
use Rattle.gather.specs.Words.{number_of, sat_at, sats_from, word_of, cell_words, flat}

pub below : (vs l : List ℕ) (i j : ℕ) → j < i → get_or (sets l i vs) j 0 ≡ get_or l j 0
below [] l i j h = refl
below (v ∷ vs) l i j h = below vs (set l i v) (suc i) j (omega arith) ∙ get_or-set_other l i j v 0 (λ e. omega arith)

pub above : (vs l : List ℕ) (i j : ℕ) → i + length vs ≤ j → get_or (sets l i vs) j 0 ≡ get_or l j 0
above [] l i j h = refl
above (v ∷ vs) l i j h = above vs (set l i v) (suc i) j (omega arith) ∙ get_or-set_other l i j v 0 (λ e. omega arith)

pub inside : (vs l : List ℕ) (i j : ℕ) → j < length vs → i + length vs ≤ length l → get_or (sets l i vs) (i + j) 0 ≡ get_or vs j 0
inside [] l i j h k = absurd (omega arith)
inside (v ∷ vs) l i ℕ.zero h k =
    let z : i + 0 ≡ i = omega arith in
    ap (λ (n : ℕ). get_or (sets (set l i v) (suc i) vs) n 0) z ∙ below vs (set l i v) (suc i) i (omega arith) ∙ get_or-set_same l i v 0 (omega arith)
inside (v ∷ vs) l i (suc j) h k =
    let z : i + suc j ≡ suc i + j = omega arith in
    ap (λ (n : ℕ). get_or (sets (set l i v) (suc i) vs) n 0) z ∙ inside vs (set l i v) (suc i) j (omega arith) (omega (arith, length-set l i v))

pub flat-long : (es : List Satellite) → length (flat es) ≡ length es * 4
flat-long [] = refl
flat-long (s ∷ es) = omega (arith, flat-long es)

-- a number that a line can have is read back
back : (o : Option ℕ) → Upto 2147483647 o → number_of (word_of o) ≡ o
back none h = refl
back (some n) h = ap (λ (b : Bool). cond b none (some n)) (ne_eqb n 4294967295 (λ e. omega arith))

-- cells agree where their words do
same-at : (ws vs : List ℕ) (i : ℕ) → ((j : ℕ) → j < 4 → get_or ws (4 + i * 4 + j) 0 ≡ get_or vs (4 + i * 4 + j) 0) → sat_at ws i ≡ sat_at vs i
same-at ws vs i h =
    let z : 4 + i * 4 + 0 ≡ 4 + i * 4 = omega arith in
    let a : get_or ws (4 + i * 4) 0 ≡ get_or vs (4 + i * 4) 0 = sym (ap (λ (n : ℕ). get_or ws n 0) z) ∙ h 0 (omega arith) ∙ ap (λ (n : ℕ). get_or vs n 0) z in
    let b = h 1 (omega arith) in
    let c = h 2 (omega arith) in
    let d = h 3 (omega arith) in
    λ j. record { id = a j; elevation = number_of (b j); azimuth = number_of (c j); signal = number_of (d j) }

pub sats-same : (i k : ℕ) (ws vs : List ℕ) → ((n : ℕ) → 4 + i * 4 ≤ n → n < 4 + (i + k) * 4 → get_or ws n 0 ≡ get_or vs n 0) → sats_from i k ws ≡ sats_from i k vs
sats-same i ℕ.zero ws vs h = refl
sats-same i (suc k) ws vs h =
    λ j. same-at ws vs i (λ j l. h (4 + i * 4 + j) (omega arith) (omega arith)) j ∷ sats-same (suc i) k ws vs (λ n p q. h n (omega arith) (omega arith)) j

pub sats-append : (i k m : ℕ) (ws : List ℕ) → sats_from i (k + m) ws ≡ sats_from i k ws ++ sats_from (i + k) m ws
sats-append i ℕ.zero m ws =
    let z : i ≡ i + 0 = omega arith in
    let y : 0 + m ≡ m = omega arith in
    (λ j. sats_from (z j) (y j) ws)
sats-append i (suc k) m ws =
    let y : suc k + m ≡ suc (k + m) = omega arith in
    let z : suc i + k ≡ i + suc k = omega arith in
    ap (λ (n : ℕ). sats_from i n ws) y
    ∙ ap (λ (ss : List Satellite). sat_at ws i ∷ ss) (sats-append (suc i) k m ws ∙ ap (λ (n : ℕ). sats_from (suc i) k ws ++ sats_from n m ws) z)

-- the cell that is stored
cell-back : (l : List ℕ) (k : ℕ) (s : Satellite) → Readable s → 4 + k * 4 + 4 ≤ length l → sat_at (sets l (4 + k * 4) (cell_words s)) k ≡ s
cell-back l k s r h =
    let z : 4 + k * 4 + 0 ≡ 4 + k * 4 = omega arith in
    let at : (j : ℕ) → j < 4 → get_or (sets l (4 + k * 4) (cell_words s)) (4 + k * 4 + j) 0 ≡ get_or (cell_words s) j 0 = λ j q. inside (cell_words s) l (4 + k * 4) j q h in
    let a = sym (ap (λ (n : ℕ). get_or (sets l (4 + k * 4) (cell_words s)) n 0) z) ∙ at 0 (omega arith) in
    let b = ap number_of (at 1 (omega arith)) ∙ back s.elevation r.elevation in
    let c = ap number_of (at 2 (omega arith)) ∙ back s.azimuth r.azimuth in
    let d = ap number_of (at 3 (omega arith)) ∙ back s.signal r.signal in
    λ j. record { id = a j; elevation = b j; azimuth = c j; signal = d j }

pub cells-back : (es : List Satellite) (l : List ℕ) (k : ℕ) → AllReadable es → 4 + (k + length es) * 4 ≤ length l
    → sats_from k (length es) (sets l (4 + k * 4) (flat es)) ≡ es
cells-back [] l k r h = refl
cells-back (s ∷ es) l k r h =
    let z : 4 + k * 4 + 4 ≡ 4 + suc k * 4 = omega arith in
    let ws = sets l (4 + k * 4) (cell_words s) in
    let e : sets l (4 + k * 4) (cell_words s ++ flat es) ≡ sets ws (4 + suc k * 4) (flat es) =
    sets-append (cell_words s) (flat es) l (4 + k * 4) ∙ ap (λ (n : ℕ). sets ws n (flat es)) z
    in
    ap (sats_from k (suc (length es))) e
    ∙ (λ j.
    (same-at (sets ws (4 + suc k * 4) (flat es)) ws k (λ i q. below (flat es) ws (4 + suc k * 4) (4 + k * 4 + i) (omega arith))
    ∙ cell-back l k s r.0 (omega arith)) j
    ∷ cells-back es ws (suc k) r.1 (omega (arith, length-sets l (4 + k * 4) (cell_words s))) j)
