-- A row can be left by lines exactly where its entries can be cut into lines.
use Prim.Native.Nat.{ℕ, suc, ◌+◌, ◌-◌, ◌≤◌}
use native.Mathlib.Omega.{arith}
use mathlib.Core.Path.{◌≡◌, refl, sym, ap, ◌∙◌}
use mathlib.Core.Logic.{◌↔◌}
use mathlib.Core.List.{List, [], ◌∷◌, ◌++◌, append_assoc, append-nil, flatten}
use mathlib.Core.Bool.{Bool, true, false, ◌&&◌, cond}
use mathlib.Core.Option.{Option, none, some}
use borrow.Author.Tests.{eqb-true, eqb-false, eq-eqb, ne_eqb, leb-true, le-leb}
use lib.Dec.{eqb, leb}
use lib.ListN.{length, length-append}
use Rattle.groups.specs.Log.{Gsv, Group}
use Rattle.groups.specs.Step.{Open, Out, onward, sofar, taken, step}
use Rattle.groups.specs.Left.{All, left, LeftBy}
use Rattle.pack.specs.Cut.{Cut}
use Rattle.pack.specs.Rows.{Packs}
use Rattle.pack.proofs.Greedy.{all-append, flatten-append}

-- a piece more
one-more : {A : Type 0} (P : List A → Type 0) (i j : ℕ) (es p : List A) → Cut P i es → P p → j ≡ i + 1 → Cut P j (es ++ p)
unfolding flatten
one-more {A} P i j es p c h e =
    record {
      pieces = c.pieces ++ (p ∷ []);
      count = simp length-append (omega (arith, c.count));
      whole =
          flatten-append c.pieces (p ∷ [])
          ∙ ap (λ (l : List A). l ++ (p ++ [])) c.whole
          ∙ ap (λ (l : List A). es ++ l) (append-nil p);
      each = all-append P c.pieces (p ∷ []) c.each (h, tt);
    }

module _ {A : Type 0} (Q : Gsv A → Type 0) (R : ℕ → List A → Type 0) (down : (g : Gsv A) → Q g → R g.view g.sats) where
  abbrev pub Sound : Option (Open A) → Type 0
  Sound none = Unit {0}
  Sound (some o) = Packs R o

  -- of the entries before a line that starts anew or goes on
  record Before (g : Gsv A) (es : List A) : Type 0 where
    pub from : 1 ≤ g.number
    pub within : g.number ≤ g.n
    pub high : g.n ≤ 9
    pub cut : Cut (R g.view) (g.number - 1) es

  abbrev BeforeIf : Gsv A → Option (List A) → Type 0
  BeforeIf g none = Unit {0}
  BeforeIf g (some es) = Before g es

  before : (r : Option (Open A)) (g : Gsv A) → Sound r → BeforeIf g (sofar r g)
  unfolding flatten
  before r g s = by-number (eqb g.number 1) refl
    where
      by-range : (a b : Bool) → leb 1 g.n ≡ a → leb g.n 9 ≡ b → g.number ≡ 1 → BeforeIf g (cond (a && b) (some []) none)
      by-range true true ea eb e1 =
          let h : 1 ≤ g.n = leb-true _ _ ea in
          let k : g.n ≤ 9 = leb-true _ _ eb in
          record {
            from = omega arith;
            within = omega arith;
            high = k;
            cut = record { pieces = []; count = omega arith; whole = refl; each = tt };
          }
      by-range true false ea eb e1 = tt
      by-range false b ea eb e1 = tt

      by-tests : (o : Open A) (a b c : Bool) → Packs R o → eqb g.n o.n ≡ a → eqb g.number o.next ≡ b → eqb g.view o.view ≡ c
          → BeforeIf g (cond (a && (b && c)) (some o.sats) none)
      by-tests o true true true f ea eb ec =
          let en : g.n ≡ o.n = eqb-true _ _ ea in
          let ek : g.number ≡ o.next = eqb-true _ _ eb in
          let ev : g.view ≡ o.view = eqb-true _ _ ec in
          record {
            from = omega (arith, f.begun);
            within = omega (arith, f.open');
            high = omega (arith, f.high);
            cut = rw (ek, ev) f.cut;
          }
      by-tests o true true false f ea eb ec = tt
      by-tests o true false c f ea eb ec = tt
      by-tests o false b c f ea eb ec = tt

      by-row : (r : Option (Open A)) → Sound r → BeforeIf g (onward r g)
      by-row none s = tt
      by-row (some o) s = by-tests o (eqb g.n o.n) (eqb g.number o.next) (eqb g.view o.view) s refl refl refl

      by-number : (a : Bool) → eqb g.number 1 ≡ a → BeforeIf g (cond a (cond (leb 1 g.n && leb g.n 9) (some []) none) (onward r g))
      by-number true e1 = by-range (leb 1 g.n) (leb g.n 9) refl refl (eqb-true _ _ e1)
      by-number false e1 = by-row r s

  kept : (s : Option (List A)) (g : Gsv A) → BeforeIf g s → Q g → Sound (taken s g).row
  kept none g b q = tt
  kept (some es) g b q = by-last (eqb g.number g.n) refl
    where
      o : Open A
      o = record { n = g.n; next = g.number + 1; view = g.view; sats = es ++ g.sats }

      p : Group A
      p = record { n = g.n; view = g.view; sats = es ++ g.sats }

      fit : (g.number ≡ g.n → ⊥) → Packs R o
      fit h =
          record {
            begun = omega (arith, b.from);
            open' = omega (arith, b.within);
            high = b.high;
            cut = one-more (R g.view) (g.number - 1) (g.number + 1 - 1) es g.sats b.cut (down g q) (omega (arith, b.from));
          }

      by-last : (a : Bool) → eqb g.number g.n ≡ a → Sound (cond {A = Out A} a (record { row = none; group = some p }) (record { row = some o; group = none })).row
      by-last true e = tt
      by-last false e = fit (eqb-false _ _ e)

  pub sound-step : (r : Option (Open A)) (g : Gsv A) → Sound r → Q g → Sound (step r g).row
  sound-step r g s q = kept (sofar r g) g (before r g s) q

  left-sound : (r : Option (Open A)) (gs : List (Gsv A)) → Sound r → All Q gs → Sound (left r gs)
  left-sound r [] s q = s
  left-sound r (g ∷ gs) s q = left-sound (step r g).row gs (sound-step r g s q.0) q.1

  module _ (κ : ℕ) (up : (n k v : ℕ) (es : List A) → n ≤ 9 → k ≤ 9 → R v es → Q (record { key = κ; n = n; number = k; view = v; sats = es })) where
    line : (n v k : ℕ) → List A → Gsv A
    line n v k es = record { key = κ; n = n; number = k; view = v; sats = es }

    -- a line for each piece, from the number k on
    lines : (n v k : ℕ) → List (List A) → List (Gsv A)
    lines n v k [] = []
    lines n v k (p ∷ ps) = line n v k p ∷ lines n v (suc k) ps

    lines-given : (n v k : ℕ) (ps : List (List A)) → n ≤ 9 → k + length ps ≤ 10 → All (R v) ps → All Q (lines n v k ps)
    unfolding lines line
    lines-given n v k [] h j r = tt
    lines-given n v k (p ∷ ps) h j r = (up n k v p h (omega arith) r.0, lines-given n v (suc k) ps h (omega arith) r.1)

    abbrev standing : ℕ → ℕ → ℕ → List A → Option (Open A)
    standing n k v es = some (record { n = n; next = k; view = v; sats = es })

    first : (n v : ℕ) (es : List A) → 2 ≤ n → n ≤ 9 → (step none (line n v 1 es)).row ≡ standing n 2 v es
    unfolding line
    first n v es low high = simp (le-leb 1 n (omega arith), le-leb n 9 high, ne_eqb 1 n (λ e. omega arith))

    on : (n v k : ℕ) (acc es : List A) → 2 ≤ k → suc k ≤ n → (step (standing n k v acc) (line n v k es)).row ≡ standing n (suc k) v (acc ++ es)
    unfolding line
    on n v k acc es low high =
        let z : k + 1 ≡ suc k = omega arith in
        simp (ne_eqb k 1 (λ e. omega arith), eq-eqb n n refl, eq-eqb k k refl, eq-eqb v v refl, ne_eqb k n (λ e. omega arith))
        (ap (λ (i : ℕ). standing n i v (acc ++ es)) z)

    -- they go on with a run that waits for the first of them
    lines-leave : (n v k : ℕ) (acc : List A) (ps : List (List A)) → 2 ≤ k → k + length ps ≤ n
        → left (standing n k v acc) (lines n v k ps) ≡ standing n (k + length ps) v (acc ++ flatten ps)
    unfolding lines flatten
    lines-leave n v k acc [] low high =
        let z : k ≡ k + 0 = omega arith in
        ap (λ (i : ℕ). standing n i v acc) z ∙ ap (standing n (k + 0) v) (sym (append-nil acc))
    lines-leave n v k acc (p ∷ ps) low high =
        let z : suc k + length ps ≡ k + suc (length ps) = omega arith in
        ap (λ (r : Option (Open A)). left r (lines n v (suc k) ps)) (on n v k acc p low (omega arith))
        ∙ lines-leave n v (suc k) (acc ++ p) ps (omega arith) (omega arith)
        ∙ ap (λ (i : ℕ). standing n i v (acc ++ p ++ flatten ps)) z
        ∙ ap (standing n (k + suc (length ps)) v) (append_assoc acc p (flatten ps))

    -- the first line starts the run
    run-leaves : (n v j : ℕ) (ps : List (List A)) → n ≤ 9 → length ps ≡ j → 1 ≤ j → suc j ≤ n → left none (lines n v 1 ps) ≡ standing n (suc j) v (flatten ps)
    unfolding lines flatten
    run-leaves n v j [] h e low high = absurd (omega arith)
    run-leaves n v j (p ∷ ps) h e low high =
        let z : 2 + length ps ≡ suc j = omega arith in
        ap (λ (r : Option (Open A)). left r (lines n v 2 ps)) (first n v p (omega arith) h)
        ∙ lines-leave n v 2 p ps (omega arith) (omega arith)
        ∙ ap (λ (i : ℕ). standing n i v (p ++ flatten ps)) z

    -- A ROW IS LEFT BY SOME LINES exactly where its entries can be cut into its lines
    pub left-by : (o : Open A) → LeftBy Q o ↔ Packs R o
    left-by o = (
      λ r. rw r.leaves at (left-sound none r.lines tt r.given),
      λ f.
          let c = f.cut in
          let z : suc (o.next - 1) ≡ o.next = omega (arith, f.begun) in
          record {
            lines = lines o.n o.view 1 c.pieces;
            given = lines-given o.n o.view 1 c.pieces f.high (omega (arith, c.count, f.begun, f.open', f.high)) c.each;
            leaves =
                run-leaves o.n o.view (o.next - 1) c.pieces f.high c.count (omega (arith, f.begun)) (omega (arith, f.begun, f.open'))
                ∙ ap (λ (i : ℕ). standing o.n i o.view (flatten c.pieces)) z
                ∙ ap (standing o.n o.next o.view) c.whole;
          },
    )
