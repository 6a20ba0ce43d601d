-- A place in a text, and the text from there on: what a reader's answer says of one combinator after another.
-- Each law follows by rewriting with what the reader answered; the places are sums of lengths. Assumes nothing.
use Prim.Native.Nat.{ℕ, ◌+◌, ◌-◌, ◌≤◌, ◌<◌, max}
use native.Mathlib.Numerals.{add-one}
use native.Mathlib.Omega.{arith}
use mathlib.Core.Path.{◌≡◌, refl, ap, sym, ◌∙◌, subst}
use mathlib.Core.List.{List, [], ◌∷◌}
use mathlib.Core.Option.{Option, none, some}
use lib.ListN.{length, drop, get_or, length-drop, drop_of_length-le}
use lib.Seq.{drop-cons}
use lib.Dec.{ltb}
use borrow.Author.Tests.{ltb-false}
use Rattle.std.specs.Prelude.{Option as Found, None, is_some}
use Rattle.text.specs.Reader.{Fault, miss, refuse, got, Reader, ◌>>=◌, pure, opt, alt, or_miss}
use Rattle.text.specs.Placed.{Placed, unread, refused, upto, placed, Reads}

-- the text at a place within it begins with the byte there
pub here : (s : List ℕ) (i : ℕ) → i < length s → drop i s ≡ get_or s i 0 ∷ drop (i + 1) s
here s i h = rw (add-one, drop-cons s i 0)

-- past the end nothing is left
pub ended : (s : List ℕ) (i : ℕ) → length s ≤ i → drop i s ≡ []
ended s i h = drop_of_length-le s h

-- the reader `q` read `a` at `at`, up to the place `p`
pub record Took {A : Type 0} (s : List ℕ) (at : ℕ) (q : Reader A) (a : A) (p : ℕ) : Type 0 where
  pub reads : q (drop at s) ≡ got a (drop p s)
  pub after : at ≤ p
  pub within : p ≤ max at (length s)

module _ {A : Type 0} {s : List ℕ} {at : ℕ} {q : Reader A} where
  pub no-read : q (drop at s) ≡ miss → Reads s at q unread
  no-read e = record { answer = rw e; leaves = e }

  pub bad-read : {f : Fault} → q (drop at s) ≡ refuse f → Reads s at q (refused f)
  bad-read e = record { answer = rw e; leaves = e }

  -- what was read, where the place `p` is reached
  pub a-read : {a : A} {p : ℕ} → q (drop at s) ≡ got a (drop p s) → at ≤ p → p ≤ max at (length s) → Reads s at q (upto a p)
  a-read {a} {p} e h k =
      let g : p ≡ at + (length (drop at s) - length (drop p s)) = simp length-drop (omega arith) in
      record { answer = rw e (ap (upto a) g); leaves = e }

  -- from an answer: what the reader read, and where it stopped
  pub missed : {r : Placed A} → Reads s at q r → r ≡ unread → q (drop at s) ≡ miss
  missed t e = rw e at t.leaves

  pub barred : {r : Placed A} {f : Fault} → Reads s at q r → r ≡ refused f → q (drop at s) ≡ refuse f
  barred t e = rw e at t.leaves

  pub took : {r : Placed A} {a : A} {p : ℕ} → Reads s at q r → r ≡ upto a p → Took s at q a p
  took {r} {a} {p} t e =
      let h : q (drop at s) ≡ got a (drop p s) = rw e at t.leaves in
      let g : upto a p ≡ placed at (drop at s) (got a (drop p s)) = sym e ∙ t.answer ∙ ap (placed at (drop at s)) h in
      let k : p ≡ at + (length (drop at s) - length (drop p s)) = cc in
      let k' : p ≡ at + (length s - at - (length s - p)) = simp length-drop at k in
      record { reads = h; after = omega arith; within = omega arith }

  -- another reader that reads the same there
  pub alike : {q' : Reader A} {r : Placed A} → Reads s at q r → q' (drop at s) ≡ q (drop at s) → Reads s at q' r
  alike t e = record { answer = rw e t.answer; leaves = e ∙ t.leaves }

-- a reader and then another
module _ {A B : Type 0} {s : List ℕ} {at : ℕ} {q : Reader A} (k : A → Reader B) where
  pub stop : {r : Placed A} → Reads s at q r → r ≡ unread → Reads s at (q >>= k) unread
  unfolding ◌>>=◌
  stop t e = no-read (rw (missed t e))

  pub fail : {r : Placed A} {f : Fault} → Reads s at q r → r ≡ refused f → Reads s at (q >>= k) (refused f)
  unfolding ◌>>=◌
  fail t e = bad-read (rw (barred t e))

  then : {a : A} {p : ℕ} (b : Placed B) → Took s at q a p → Reads s p (k a) b → Reads s at (q >>= k) b
  unfolding ◌>>=◌
  then unread t u = no-read (rw t.reads (missed u refl))
  then (refused f) t u = bad-read (rw t.reads (barred u refl))
  then (upto b p') t u =
      let v = took u refl in
      a-read (rw t.reads v.reads) (omega arith) (omega arith)

  pub go : {r : Placed A} {a : A} {p : ℕ} {b : Placed B} → Reads s at q r → r ≡ upto a p → Reads s p (k a) b → Reads s at (q >>= k) b
  go {b = b} t e u = then b (took t e) u

pub done : {A : Type 0} (s : List ℕ) (at : ℕ) (a : A) → Reads s at (pure a) (upto a at)
unfolding pure
done s at a = a-read refl (omega arith) (omega arith)

pub done-as : {A : Type 0} {s : List ℕ} {at : ℕ} {a a' : A} → a' ≡ a → Reads s at (pure a) (upto a' at)
done-as {A} {s} {at} {a} {a'} e = subst (λ (x : A). Reads s at (pure a) (upto x at)) (sym e) (done s at a)

-- a reader that may not match
module _ {A : Type 0} {s : List ℕ} {at : ℕ} (q : Reader A) {r : Placed A} where
  pub opt-some : {a : A} {p : ℕ} → Reads s at q r → r ≡ upto a p → Reads s at (opt q) (upto (some a) p)
  unfolding opt
  opt-some t e = let k = took t e in a-read (rw k.reads) k.after k.within

  pub opt-none : Reads s at q r → r ≡ unread → Reads s at (opt q) (upto none at)
  unfolding opt
  opt-none t e = a-read (rw (missed t e)) (omega arith) (omega arith)

  pub opt-bad : {f : Fault} → Reads s at q r → r ≡ refused f → Reads s at (opt q) (refused f)
  unfolding opt
  opt-bad t e = bad-read (rw (barred t e))

-- one reader or else another
module _ {A : Type 0} {s : List ℕ} {at : ℕ} {r : Reader A} (q : Reader A) where
  pub alt-first : {a : A} {p : ℕ} → Reads s at r (upto a p) → Reads s at (alt r q) (upto a p)
  unfolding alt
  alt-first t = let k = took t refl in a-read (rw k.reads) k.after k.within

  pub alt-second : (b : Placed A) → Reads s at r unread → Reads s at q b → Reads s at (alt r q) b
  unfolding alt
  alt-second unread t u = no-read (rw (missed t refl) (missed u refl))
  alt-second (refused f) t u = bad-read (rw (missed t refl) (barred u refl))
  alt-second (upto a p) t u = let k = took u refl in a-read (rw (missed t refl) k.reads) k.after k.within

-- what was read means something, or there is no match
pub miss-none : {A : Type 0} {s : List ℕ} {p : ℕ} {o : Option A} → o ≡ none → Reads s p (or_miss o) unread
unfolding or_miss
miss-none e = no-read (rw e)

pub miss-some : {A : Type 0} {s : List ℕ} {p : ℕ} {a : A} {o : Option A} → o ≡ some a → Reads s p (or_miss o) (upto a p)
unfolding or_miss
miss-some e = a-read (rw e) (omega arith) (omega arith)

-- what `get` does not find
pub not-there : {T : Type 0} (s : List ℕ) (at : ℕ) (o : Found T) → is_some o ≡ ltb at (length s) → o ≡ None → length s ≤ at
not-there s at o a b = ltb-false _ _ (sym a ∙ ap is_some b)
