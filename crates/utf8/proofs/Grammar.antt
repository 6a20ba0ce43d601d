-- The test `utf8` is the grammar of RFC 3629, section 4, both ways. A text that it takes splits into characters, since a state is what
-- is left of a row of the table. A text of the grammar is taken, since no two rows have a first octet in common. Assumes nothing.
use Prim.Native.Nat.{ℕ}
use mathlib.Core.Path.{◌≡◌, refl, sym, ap, subst, ◌∙◌}
use mathlib.Core.List.{List, [], ◌∷◌, ◌++◌, Memᴰ}
use mathlib.Core.Option.{none, some}
use mathlib.Core.Bool.{Bool, true, false, cond, false≢true}
use Rattle.utf8.specs.Rfc3629.{Range, utf8_char, Matches, end, octet, Octets, empty, char}
use Rattle.utf8.specs.Utf8.{State, within, follow, step, after, may_end, utf8}
use Rattle.utf8.proofs.Ranges.{inside, bounds}
use Rattle.utf8.proofs.Table.{region, regional, taken, All, of-row}
use Rattle.utf8.proofs.Pieces.{after-append, stays-broken}

-- octets that match `rs`, and then whole characters
record Split (rs : List Range) (l : List ℕ) : Type 0 where
  front : List ℕ
  rest : List ℕ
  joined : front ++ rest ≡ l
  matches : Matches rs front
  chars : Octets rest

broken : (l : List ℕ) → may_end (after none l) ≡ true → ⊥
broken l e = false≢true (sym (ap may_end (stays-broken l)) ∙ e)

split : (l : List ℕ) (rs : List Range) → may_end (after (some rs) l) ≡ true → Split rs l
unfolding after step
split [] [] e = record { front = []; rest = []; joined = refl; matches = end; chars = empty }
split [] (r ∷ rs) e = absurd (false≢true e)
split (b ∷ l) [] e = by (follow utf8_char b) refl e (split l)
  where
    by : (st : State) → follow utf8_char b ≡ st → may_end (after st l) ≡ true
        → ((rs : List Range) → may_end (after (some rs) l) ≡ true → Split rs l) → Split [] (b ∷ l)
    by none f e g = absurd (broken l e)
    by (some rs) f e g =
        let t = taken utf8_char b f in
        let s = g rs e in
        let one = char t.row (octet t.low t.high s.matches) s.chars in
        record {
          front = [];
          rest = b ∷ l;
          joined = refl;
          matches = end;
          chars = subst (λ (x : List ℕ). Octets (b ∷ x)) s.joined one;
        }
split (b ∷ l) (r ∷ rs) e = by (within r b) refl e (split l rs)
  where
    by : (t : Bool) → within r b ≡ t → may_end (after (cond t (some rs) none) l) ≡ true
        → (may_end (after (some rs) l) ≡ true → Split rs l) → Split (r ∷ rs) (b ∷ l)
    by true w e g =
        let s = g e in
        let (low, high) = bounds r b w in
        record {
          front = b ∷ s.front;
          rest = s.rest;
          joined = ap (λ (x : List ℕ). b ∷ x) s.joined;
          matches = octet low high s.matches;
          chars = s.chars;
        }
    by false w e g = absurd (broken l e)

no-octets : {c : List ℕ} → Matches [] c → [] ≡ c
no-octets end = refl

-- what the test takes is of the grammar
pub utf8-octets : (l : List ℕ) → utf8 l ≡ true → Octets l
utf8-octets l e =
    let s = split l [] e in
    subst Octets (ap (λ (c : List ℕ). c ++ s.rest) (no-octets s.matches) ∙ s.joined) s.chars

-- each octet of the row's first range leaves the rest of this row
abbrev Alone : List Range → Type 0
Alone [] = Unit {0}
Alone (r ∷ rs) = region r.0 r.1 utf8_char ≡ some (some rs)

alone : All Alone utf8_char
alone = (refl, (refl, (refl, (refl, (refl, (refl, (refl, (refl, (refl, tt)))))))))

row-rest : {rs : List Range} {c : List ℕ} → Matches rs c → after (some rs) c ≡ some []
unfolding after step
row-rest end = refl
row-rest (octet {r} {b} low high m) = rw (inside r b low high) (row-rest m)

one-char : {row : List Range} {c : List ℕ} → Memᴰ row utf8_char → Matches row c → after (some []) c ≡ some []
unfolding after step
one-char m end = refl
one-char m (octet {r} {b} low high n) =
    rw (regional r.0 r.1 utf8_char b (of-row Alone alone m) low high) (row-rest n)

-- what is of the grammar the test takes
pub octets-utf8 : {l : List ℕ} → Octets l → utf8 l ≡ true
unfolding after
octets-utf8 empty = refl
octets-utf8 (char {c} {l} m n o) = rw (after-append (some []) c l, one-char m n) (octets-utf8 o)
