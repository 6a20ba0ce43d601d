-- Greedy packing decides whether a cut exists.
use Prim.Native.Nat.{ℕ, zero, suc, ◌+◌, ◌-◌, ◌≤◌}
use native.Mathlib.Omega.{arith}
use mathlib.Core.Path.{◌≡◌, refl, ap, sym, ◌∙◌}
use mathlib.Core.Logic.{◌↔◌}
use mathlib.Core.List.{List, [], ◌∷◌, ◌++◌, append_assoc, append-nil, flatten}
use mathlib.Core.Bool.{Bool, true, false, ◌&&◌, cond}
use lib.Dec.{ltb, leb}
use lib.ListN.{length, replicate, length-append, length-replicate}
use borrow.Author.Tests.{lt-ltb, le-leb, ltb-true, leb-true}
use Rattle.groups.specs.Left.{All}
use Rattle.pack.specs.Cut.{Cut, weight, has_room, more, piece_count, Light}

pub all-append : {A : Type 0} (P : A → Type 0) (a b : List A) → All P a → All P b → All P (a ++ b)
all-append P [] b p q = q
all-append P (x ∷ a) b p q = (p.0, all-append P a b p.1 q)

module _ {A : Type 0} where
  pub flatten-append : (ps qs : List (List A)) → flatten (ps ++ qs) ≡ flatten ps ++ flatten qs
  unfolding flatten
  flatten-append [] qs = refl
  flatten-append (p ∷ ps) qs = ap (λ (l : List A). p ++ l) (flatten-append ps qs) ∙ sym (append_assoc p (flatten ps) (flatten qs))

  flatten-none : (m : ℕ) → flatten {A = A} (replicate m []) ≡ []
  unfolding flatten
  flatten-none zero = refl
  flatten-none (suc m) = flatten-none m

  all-none : (P : List A → Type 0) (m : ℕ) → P [] → All P (replicate m [])
  all-none P zero h = tt
  all-none P (suc m) h = (h, all-none P m h)

  -- empty pieces fill a cut up
  pub wider : (P : List A → Type 0) (i j : ℕ) (es : List A) → P [] → i ≤ j → Cut P i es → Cut P j es
  wider P i j es none_is h c =
      record {
        pieces = c.pieces ++ replicate (j - i) [];
        count = simp (length-append, length-replicate) (omega (arith, c.count));
        whole =
            flatten-append c.pieces (replicate (j - i) []) ∙ ap (λ (l : List A). flatten c.pieces ++ l) (flatten-none (j - i))
            ∙ append-nil (flatten c.pieces) ∙ c.whole;
        each = all-append P c.pieces (replicate (j - i) []) c.each (all-none P (j - i) none_is);
      }

module _ {A : Type 0} (w : A → ℕ) (room : ℕ) where
  -- one way to go on with j more pieces, where the piece at hand has c entries of weight u
  data Way : ℕ → ℕ → ℕ → List A → Type 0 where
    done : {j c u : ℕ} → Way j c u []
    stay : {j c u : ℕ} {e : A} {es : List A} → suc c ≤ 4 → u + w e ≤ room → Way j (suc c) (u + w e) es → Way j c u (e ∷ es)
    turn : {j c u : ℕ} {es : List A} → Way j 0 0 es → Way (suc j) c u es

  -- what greedy does with one entry
  by-fit : (Q : ℕ → Type 0) (c u : ℕ) (e : A) (es : List A)
      → (suc c ≤ 4 → u + w e ≤ room → Q (more w room (suc c) (u + w e) es))
      → (has_room w room c u e ≡ false → Q (suc (more w room 1 (w e) es)))
      → Q (more w room c u (e ∷ es))
  unfolding more
  by-fit Q c u e es yes-fit no-fit = by (ltb c 4) (leb (u + w e) room) refl refl
    where
      by : (a b : Bool) → ltb c 4 ≡ a → leb (u + w e) room ≡ b
          → Q (cond (a && b) 0 1 + more w room (cond (a && b) (suc c) 1) (cond (a && b) (u + w e) (w e)) es)
      by true true ea eb =
          let z : 0 + more w room (suc c) (u + w e) es ≡ more w room (suc c) (u + w e) es = omega arith in
          rw z (yes-fit (ltb-true c 4 ea) (leb-true (u + w e) room eb))
      by true false ea eb =
          let z : 1 + more w room 1 (w e) es ≡ suc (more w room 1 (w e) es) = omega arith in
          rw z (no-fit (rw (ea, eb)))
      by false b ea eb =
          let z : 1 + more w room 1 (w e) es ≡ suc (more w room 1 (w e) es) = omega arith in
          rw z (no-fit (rw ea))

  fit-true : (c u : ℕ) (e : A) → suc c ≤ 4 → u + w e ≤ room → has_room w room c u e ≡ true
  fit-true c u e h k = simp (lt-ltb c 4 h, le-leb (u + w e) room k)

  -- greedy from a piece that is no fuller needs no more pieces; and from any piece one more at most
  ahead : {j c u : ℕ} {es : List A} → Way j c u es
      → ((c' u' : ℕ) → c' ≤ c → u' ≤ u → more w room c' u' es ≤ j) × ((c' u' : ℕ) → more w room c' u' es ≤ suc j)
  unfolding more
  ahead done = (λ c' u' h k. omega arith, λ c' u'. omega arith)
  ahead (stay {j = j} {c = c} {u = u} {e = e} {es = es} few light more') =
      let ih = ahead more' in (
        λ c' u' h k.
            by-fit (λ m. m ≤ j) c' u' e es (λ p q. ih.0 (suc c') (u' + w e) (omega arith) (omega arith))
            (λ f. let g : has_room w room c' u' e ≡ true = fit-true c' u' e (omega arith) (omega arith) in let z : ◌≡◌ {A = ℕ} 0 1 = cc in absurd (omega arith)),
        λ c' u'.
            by-fit (λ m. m ≤ suc j) c' u' e es (λ p q. ih.1 (suc c') (u' + w e))
            (λ f. omega (arith, ih.0 1 (w e) (omega arith) (omega arith))),
      )
  ahead (turn way) = let ih = ahead way in (λ c' u' h k. ih.1 c' u', λ c' u'. omega (arith, ih.1 c' u'))

  -- a cut is a way
  stays : (p : List A) (j c u : ℕ) (es : List A) → c + length p ≤ 4 → u + weight w p ≤ room → ((c u : ℕ) → Way j c u es) → Way j c u (p ++ es)
  stays [] j c u es h k f = f c u
  stays (e ∷ p) j c u es h k f = stay {c = c} {u = u} {e = e} (omega arith) (omega arith) (stays p j (suc c) (u + w e) es (omega arith) (omega arith) f)

  cut-way : (ps : List (List A)) → All (Light w room) ps → (c u : ℕ) → Way (length ps) c u (flatten ps)
  unfolding flatten
  cut-way [] h c u = done
  cut-way (p ∷ ps) h c u =
      turn (stays p (length ps) 0 0 (flatten ps) (omega (arith, h.0.few)) (omega (arith, h.0.light)) (cut-way ps h.1))

  -- greedy packs: into what goes on with the piece at hand, and m pieces more
  record Packed (c u : ℕ) (es : List A) (m : ℕ) : Type 0 where
    pub front : List A
    pub pieces : List (List A)
    pub whole : front ++ flatten pieces ≡ es
    pub few : c + length front ≤ 4
    pub light : u + weight w front ≤ room
    pub each : All (Light w room) pieces
    pub count : length pieces ≡ m

  packed : (es : List A) (c u : ℕ) → c ≤ 4 → u ≤ room → All (λ e. w e ≤ room) es → Packed c u es (more w room c u es)
  unfolding more flatten
  packed [] c u h k p = record { front = []; pieces = []; whole = refl; few = omega arith; light = omega arith; each = tt; count = refl }
  packed (e ∷ es) c u h k p =
      by-fit (Packed c u (e ∷ es)) c u e es
      (λ a b.
      let r = packed es (suc c) (u + w e) a b p.1 in
      record {
        front = e ∷ r.front;
        pieces = r.pieces;
        whole = ap (λ (l : List A). e ∷ l) r.whole;
        few = omega (arith, r.few);
        light = omega (arith, r.light);
        each = r.each;
        count = r.count;
      })
      (λ f.
      let r = packed es 1 (w e) (omega arith) p.0 p.1 in
      record {
        front = [];
        pieces = (e ∷ r.front) ∷ r.pieces;
        whole = ap (λ (l : List A). e ∷ l) r.whole;
        few = omega arith;
        light = omega arith;
        each = (record { few = omega (arith, r.few); light = omega (arith, r.light) }, r.each);
        count = ap suc r.count;
      })

  nothing : (p : List A) → 4 + length p ≤ 4 → p ≡ []
  nothing [] h = refl
  nothing (e ∷ p) h = absurd (omega arith)

  greedy-cut : (es : List A) → All (λ e. w e ≤ room) es → Cut (Light w room) (piece_count w room es) es
  greedy-cut es p =
      let r = packed es 4 0 (omega arith) (omega arith) p in
      record {
        pieces = r.pieces;
        count = r.count;
        whole = ap (λ (l : List A). l ++ flatten r.pieces) (sym (nothing r.front r.few)) ∙ r.whole;
        each = r.each;
      }

  -- GREEDY DECIDES: entries that each have room alone can be cut into j pieces exactly where greedy begins at most j
  pub greedy : (j : ℕ) (es : List A) → All (λ e. w e ≤ room) es → Cut (Light w room) j es ↔ (piece_count w room es ≤ j)
  greedy j es p = (
    λ c.
        let h : more w room 4 0 (flatten c.pieces) ≤ length c.pieces =
        (ahead (cut-way c.pieces c.each 4 0)).0 4 0 (omega arith) (omega arith)
        in
        rw (c.whole, c.count) at h,
    λ h.
        wider (Light w room) (piece_count w room es) j es (record { few = omega arith; light = omega arith }) h (greedy-cut es p),
  )
