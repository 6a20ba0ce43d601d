-- The exclusive or of a text is that of its parts, and a byte that differs changes it: taken twice, a number cancels itself. Assumes nothing.
use Prim.Native.Nat.{ℕ, zero, suc, ◌+◌, ◌*◌, ◌/◌, ◌%◌, ◌<◌}
use native.Mathlib.Omega.{arith}
use mathlib.Core.Path.{◌≡◌, refl, sym, ◌∙◌, ap}
use mathlib.Core.List.{List, [], ◌∷◌}
use lib.ListN.{length, get_or, set}
use lib.Arith.{bin_ind}
use lib.Bits.{bit_xor, differ, xor_step, xor_comm, xor_self, xor_zero_r}
use Rattle.frame.specs.Checksum.{checksum_from, checksum}

bit : (x p : ℕ) → x < 2 → p < 2 → differ x p < 2
bit zero p h k = k
bit (suc x) zero h k = h
bit (suc x) (suc p) h k = bit x p (omega arith) (omega arith)

bit-assoc : (x p q : ℕ) → x < 2 → p < 2 → q < 2 → differ (differ x p) q ≡ differ x (differ p q)
bit-assoc zero p q h k l = refl
bit-assoc (suc zero) zero q h k l = refl
bit-assoc (suc zero) (suc zero) zero h k l = refl
bit-assoc (suc zero) (suc zero) (suc zero) h k l = refl
bit-assoc (suc zero) (suc zero) (suc (suc q)) h k l = absurd (omega arith)
bit-assoc (suc zero) (suc (suc p)) q h k l = absurd (omega arith)
bit-assoc (suc (suc x)) p q h k l = absurd (omega arith)

xor-assoc : (x y z : ℕ) → bit_xor (bit_xor x y) z ≡ bit_xor x (bit_xor y z)
xor-assoc =
    bin_ind (λ (x : ℕ). (y z : ℕ) → bit_xor (bit_xor x y) z ≡ bit_xor x (bit_xor y z)) (λ y z. refl)
    (λ x ih y z.
    let b = bit (x % 2) (y % 2) (omega arith) (omega arith) in
    let c = bit (y % 2) (z % 2) (omega arith) (omega arith) in
    let p = xor_step x y in
    let q = xor_step y z in
    let ph : bit_xor x y / 2 ≡ bit_xor (x / 2) (y / 2) = omega arith in
    let pl : bit_xor x y % 2 ≡ differ (x % 2) (y % 2) = omega arith in
    let qh : bit_xor y z / 2 ≡ bit_xor (y / 2) (z / 2) = omega arith in
    let ql : bit_xor y z % 2 ≡ differ (y % 2) (z % 2) = omega arith in
    xor_step (bit_xor x y) z
    ∙ ap (λ (h : ℕ). bit_xor h (z / 2) * 2 + differ (bit_xor x y % 2) (z % 2)) ph
    ∙ ap (λ (d : ℕ). bit_xor (bit_xor (x / 2) (y / 2)) (z / 2) * 2 + differ d (z % 2)) pl
    ∙ ap (λ (h : ℕ). h * 2 + differ (differ (x % 2) (y % 2)) (z % 2)) (ih (y / 2) (z / 2))
    ∙ ap (λ (d : ℕ). bit_xor (x / 2) (bit_xor (y / 2) (z / 2)) * 2 + d) (bit-assoc (x % 2) (y % 2) (z % 2) (omega arith) (omega arith) (omega arith))
    ∙ ap (λ (d : ℕ). bit_xor (x / 2) (bit_xor (y / 2) (z / 2)) * 2 + differ (x % 2) d) (sym ql)
    ∙ ap (λ (h : ℕ). bit_xor (x / 2) h * 2 + differ (x % 2) (bit_xor y z % 2)) (sym qh)
    ∙ sym (xor_step x (bit_xor y z)))

twice : (x a : ℕ) → bit_xor x (bit_xor x a) ≡ a
twice x a = sym (xor-assoc x x a) ∙ ap (λ (n : ℕ). bit_xor n a) (xor_self x)

xor-cancel : (x a b : ℕ) → bit_xor x a ≡ bit_xor x b → a ≡ b
xor-cancel x a b e = sym (twice x a) ∙ ap (bit_xor x) e ∙ twice x b

from-xor : (x y : ℕ) (l : List ℕ) → checksum_from (bit_xor x y) l ≡ bit_xor x (checksum_from y l)
unfolding checksum_from
from-xor x y [] = refl
from-xor x y (b ∷ l) = ap (λ (n : ℕ). checksum_from n l) (xor-assoc x y b) ∙ from-xor x (bit_xor y b) l

-- a text that follows what was summed before
pub from-then : (x : ℕ) (l : List ℕ) → checksum_from x l ≡ bit_xor x (checksum l)
from-then x l = sym (ap (λ (n : ℕ). checksum_from n l) (xor_zero_r x)) ∙ from-xor x 0 l

from-cancel : (x y : ℕ) (l : List ℕ) → checksum_from x l ≡ checksum_from y l → x ≡ y
from-cancel x y l e =
    let c = checksum l in
    xor-cancel c x y (xor_comm c x ∙ sym (from-then x l) ∙ e ∙ from-then y l ∙ xor_comm y c)

-- another byte at a place of a text
pub one-byte : (x : ℕ) (l : List ℕ) (i b : ℕ) → i < length l → checksum_from x (set l i b) ≡ checksum_from x l → b ≡ get_or l i 0
unfolding checksum_from
one-byte x [] i b h e = absurd (omega arith)
one-byte x (a ∷ l) zero b h e = xor-cancel x b a (from-cancel (bit_xor x b) (bit_xor x a) l e)
one-byte x (a ∷ l) (suc i) b h e = one-byte (bit_xor x a) l i b (omega arith) e
