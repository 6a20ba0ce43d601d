-- An answer's words in the buffer that is lent. Assumes nothing.
use Prim.Native.Nat.{ℕ, ◌+◌, ◌≤◌, ◌<◌}
use native.Mathlib.Omega.{arith}
use mathlib.Core.Path.{◌≡◌, refl, ap, sym, ◌∙◌}
use mathlib.Core.List.{List, ◌++◌, append_assoc}
use mathlib.Core.Bool.{Bool, cond}
use borrow.Author.Tests.{le-leb, lt-leb}
use borrow.Rule.Slice.PartMut.{put_mid}
use lib.ListN.{length, drop}
use lib.Seq.{sets, sets-eq, drop-drop}
use Rattle.words.specs.Words.{word_count, into}

-- forty words from the first on, where there is room for them, and no room
pub whole : (ws out o : List ℕ) → length ws ≡ word_count → word_count ≤ length out → o ≡ sets out 0 ws → o ≡ into ws out
whole ws out o long room e =
    let n : 0 + length ws ≡ word_count = omega arith in
    e
    ∙ sets-eq ws out 0 (omega arith)
    ∙ ap (λ (k : ℕ). ws ++ drop k out) n
    ∙ sym (ap (λ (b : Bool). cond b (ws ++ drop word_count out) out) (le-leb word_count (length out) room))

pub no-room : (ws out : List ℕ) → length out < word_count → out ≡ into ws out
no-room ws out h = sym (ap (λ (b : Bool). cond b (ws ++ drop word_count out) out) (lt-leb word_count (length out) h))

-- a part of a list that was written over
pub over : (l : List ℕ) (at n k : ℕ) (ys zs : List ℕ) → ys ≡ zs → k ≡ n → length zs ≡ n → at + n ≤ length l → put_mid at k l ys ≡ sets l at zs
over l at n k ys zs e f g room = rw (e, f, sets-eq zs l at (omega arith), g, drop-drop, append_assoc) refl
