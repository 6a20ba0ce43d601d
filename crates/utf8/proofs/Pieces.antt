-- A text may come in pieces: the state after two of them is the one after the second, from where the first left it. A text once broken
-- stays broken. And what is left of a text from a place on, an octet at a time, as a loop reads it. Assumes nothing.
use Prim.Native.Nat.{ℕ, ◌+◌, ◌≤◌, ◌<◌}
use native.Mathlib.Numerals.{add-one}
use mathlib.Core.Path.{◌≡◌, refl}
use mathlib.Core.List.{List, [], ◌∷◌, ◌++◌}
use mathlib.Core.Option.{none}
use lib.ListN.{length, drop, get_or, drop_of_length-le}
use lib.Seq.{drop-cons}
use Rattle.utf8.specs.Utf8.{State, step, after}

pub after-append : (st : State) (a b : List ℕ) → after st (a ++ b) ≡ after (after st a) b
unfolding after
after-append st [] b = refl
after-append st (x ∷ a) b = after-append (step st x) a b

pub stays-broken : (l : List ℕ) → after none l ≡ none
unfolding after step
stays-broken [] = refl
stays-broken (b ∷ l) = stays-broken l

pub here : (s : List ℕ) (i : ℕ) → i < length s → drop i s ≡ get_or s i 0 ∷ drop (i + 1) s
here s i h = rw (add-one, drop-cons s i 0)

module _ (s : List ℕ) (i : ℕ) (st : State) where
  pub one-more : {next : State} → i < length s → next ≡ step st (get_or s i 0) → after st (drop i s) ≡ after next (drop (i + 1) s)
  unfolding after
  one-more h e = rw (here s i h, e)

  pub no-more : length s ≤ i → after st (drop i s) ≡ st
  unfolding after
  no-more h = rw (drop_of_length-le s h)
