-- The loop over items, turn by turn. What is read of the whole text is what has been read, and then what is read of the rest
-- again and again; the cells hold the satellites of the items that have been read and are kept. Assumes nothing.
use Prim.Native.Nat.{ℕ, zero, suc, ◌+◌, ◌-◌, ◌≤◌, ◌<◌, min, max}
use native.Mathlib.Omega.{arith}
use mathlib.Core.Path.{◌≡◌, refl, ap, sym, ◌∙◌}
use mathlib.Core.List.{List, [], ◌∷◌, ◌++◌, append_assoc, append-nil}
use mathlib.Core.Option.{Option, none, some}
use lib.ListN.{length, take, drop, set, length-append, length-drop}
use Rattle.text.specs.Reader.{Parse, miss, refuse, got, after, Reader, prepend, ◌>>=◌, pure}
use Rattle.text.specs.Placed.{Reads, upto}
use Rattle.text.proofs.Places.{Took, a-read}
use Rattle.text.specs.Many.{many, many0}
use Rattle.gsa.specs.Gsa.{item, prn_fields, filled, kept, row}
use Rattle.gsa.proofs.Eats.{item-eats}
use Rattle.gsa.proofs.Rows.{row-length, row-used, row-put, chosen, chosen-fewer, chosen-full, chosen-more}

module _ {A : Type 0} where
  prepend-nil : (r : Parse (List A)) → prepend [] r ≡ r
  prepend-nil miss = refl
  prepend-nil (refuse f) = refl
  prepend-nil (got es l) = refl

  prepend-more : (ds es : List A) (r : Parse (List A)) → prepend ds (prepend es r) ≡ prepend (ds ++ es) r
  prepend-more ds es miss = refl
  prepend-more ds es (refuse f) = refl
  prepend-more ds es (got fs l) = ap (λ (x : List A). got x l) (sym (append_assoc ds es fs))

  -- a reader that does not match ends the reading, one that matches is run again
  many-stop : (n : ℕ) (q : Reader A) (l : List ℕ) → q l ≡ miss → many n q l ≡ got [] l
  unfolding many
  many-stop zero q l e = refl
  many-stop (suc n) q l e = rw e

  many-turn : (n : ℕ) (q : Reader A) {a : A} (l m : List ℕ) → 0 < n → q l ≡ got a m → many n q l ≡ prepend (a ∷ []) (many (n - 1) q m)
  unfolding many
  many-turn n q {a} l m h e =
      let p : n ≡ suc (n - 1) = omega arith in
      ap (λ (k : ℕ). many k q l) p ∙ rw e

pub record Going (s : List ℕ) (at : ℕ) (cells : List ℕ) (count seen i : ℕ) : Type 0 where
  pub front : List (Option ℕ)
  pub fuel : ℕ
  pub enough : length s - i ≤ fuel
  pub past : at ≤ i
  pub within : i ≤ max at (length s)
  pub reads : many0 item (drop at s) ≡ prepend front (many fuel item (drop i s))
  pub holds : cells ≡ row (chosen front)
  pub filled : count ≡ length (chosen front)
  pub passed : seen ≡ min kept (length front)

pub start : (s : List ℕ) (at : ℕ) → Going s at (row []) 0 0 at
start s at =
    record {
      front = [];
      fuel = length (drop at s);
      enough = simp length-drop (omega arith);
      past = omega arith;
      within = omega arith;
      reads = sym (prepend-nil (many0 item (drop at s)));
      holds = refl;
      filled = refl;
      passed = omega arith;
    }

module _ {s : List ℕ} {at : ℕ} {cells : List ℕ} {count seen i : ℕ} (g : Going s at cells count seen i) where
  -- where there is no item, what has been read is all
  all-read : item (drop i s) ≡ miss → prn_fields (drop at s) ≡ got (chosen g.front) (drop i s)
  unfolding prn_fields ◌>>=◌ pure
  all-read e =
      ap (λ (r : Parse (List (Option ℕ))). after r (λ is. pure (chosen is)))
      (g.reads
      ∙ ap (prepend g.front) (many-stop g.fuel item (drop i s) e)
      ∙ ap (λ (is : List (Option ℕ)). got is (drop i s)) (append-nil g.front))

  first-cells : take count cells ≡ chosen g.front
  first-cells = row-used g.holds g.filled

  pub stop : item (drop i s) ≡ miss → Reads s at prn_fields (upto (take count cells) i)
  stop e = a-read (all-read e ∙ ap (λ (xs : List ℕ). got xs (drop i s)) (sym first-cells)) g.past g.within

  -- the cells are all there: what the type of a record's satellites asks
  pub most : count ≤ kept
  most = omega (arith, g.filled, chosen-fewer g.front)

  pub rest : cells ≡ row (take count cells)
  rest = g.holds ∙ ap row (sym first-cells)

  pub at-most : seen ≤ kept
  at-most = omega (arith, g.passed)

  -- before the eighteenth item a cell is free
  pub free : (seen ≡ kept → ⊥) → count < kept
  free h = omega (arith, g.filled, g.passed, chosen-fewer g.front)

  pub cells-length : length cells ≡ kept
  cells-length = ap length g.holds ∙ row-length (chosen g.front) (omega (arith, chosen-fewer g.front))

  -- an item more
  module _ {a : Option ℕ} {p : ℕ} (t : Took s i item a p) where
    pub moves : length s - p < length s - i
    moves = simp length-drop at (item-eats (drop i s) t.reads).eats

    longer : length (g.front ++ (a ∷ [])) ≡ length g.front + 1
    longer = length-append g.front (a ∷ [])

    turned : {cells' : List ℕ} {count' seen' : ℕ} → cells' ≡ row (chosen (g.front ++ (a ∷ [])))
        → count' ≡ length (chosen (g.front ++ (a ∷ []))) → seen' ≡ min kept (length (g.front ++ (a ∷ [])))
        → Going s at cells' count' seen' p
    turned e f h =
        record {
          front = g.front ++ (a ∷ []);
          fuel = g.fuel - 1;
          enough = omega (arith, moves, g.enough);
          past = omega (arith, g.past, t.after);
          within = omega (arith, g.within, t.within);
          reads =
              g.reads
              ∙ ap (prepend g.front) (many-turn g.fuel item (drop i s) (drop p s) (omega (arith, moves, g.enough)) t.reads)
              ∙ prepend-more g.front (a ∷ []) (many (g.fuel - 1) item (drop p s));
          holds = e;
          filled = f;
          passed = h;
        }

    -- past the eighteenth it is dropped
    pub dropped : seen ≡ kept → Going s at cells count seen p
    dropped h =
        let e = sym (chosen-full g.front a (omega (arith, g.passed))) in
        turned (g.holds ∙ ap row e) (g.filled ∙ ap length e) (omega (arith, g.passed, longer))

    -- up to there it is counted, and kept where it is filled
    module _ (h : seen ≡ kept → ⊥) where
      room : length g.front < kept
      room = omega (arith, g.passed)

      counted : seen + 1 ≡ min kept (length (g.front ++ (a ∷ [])))
      counted = omega (arith, g.passed, room, longer)

      pub skipped : a ≡ none → Going s at cells count (seen + 1) p
      skipped n =
          let e : chosen g.front ≡ chosen (g.front ++ (a ∷ [])) =
          sym (chosen-more g.front a room ∙ ap (λ (o : Option ℕ). chosen g.front ++ filled (o ∷ [])) n ∙ append-nil _) in
          turned (g.holds ∙ ap row e) (g.filled ∙ ap length e) counted

      pub taken : {v : ℕ} → a ≡ some v → Going s at (set cells count v) (count + 1) (seen + 1) p
      taken {v} n =
          let xs : List ℕ = chosen g.front in
          let e : xs ++ (v ∷ []) ≡ chosen (g.front ++ (a ∷ [])) =
          sym (chosen-more g.front a room ∙ ap (λ (o : Option ℕ). chosen g.front ++ filled (o ∷ [])) n) in
          turned
          (ap (λ (l : List ℕ). set l count v) g.holds
          ∙ ap (λ (k : ℕ). set (row xs) k v) g.filled
          ∙ row-put xs v (omega (arith, chosen-fewer g.front, room))
          ∙ ap row e)
          (omega (arith, g.filled, length-append xs (v ∷ []), ap length e))
          counted
