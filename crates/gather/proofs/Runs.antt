-- A line starts a run, goes on with one, or does neither, and what it writes. Assumes nothing.
use Prim.Native.Nat.{ℕ, ◌+◌, ◌*◌, ◌≤◌}
use native.Mathlib.Omega.{arith}
use mathlib.Core.Path.{◌≡◌, refl, ap, sym, ◌∙◌}
use mathlib.Core.List.{List, [], ◌++◌}
use mathlib.Core.Bool.{Bool, true, false, ◌&&◌, cond, and-eq-true_iff}
use mathlib.Core.Option.{Option, none, some, none-ne-some}
use Rattle.std.specs.Prelude.{Option as Maybe, Some}
use borrow.Author.Tests.{eq-eqb, ne_eqb, eqb-true}
use lib.Dec.{eqb, leb}
use lib.ListN.{length, get_or, set}
use lib.Seq.{sets}
use Rattle.groups.specs.Log.{Gsv}
use Rattle.groups.specs.Step.{Open, Out, onward, sofar, taken}
use Rattle.gsv.specs.Gsv.{Satellite, Head}
use Rattle.pack.proofs.Few.{four-each}
use Rattle.rows.specs.Leave.{entry_size, space}
use Rattle.rows.proofs.Row.{passes}
use Rattle.gather.specs.Words.{sats_from, open_of, stands, meant, flat}
use Rattle.gather.specs.Put.{next_of, written, row_after, told, outcome_of, Put}
use Rattle.gather.specs.Heads.{run_stands}
use Rattle.gather.specs.Code.{headed, on_row, before_of, Stored, runs_on}
use Rattle.gather.specs.declared.run.Run.{Run}
use Rattle.gather.specs.declared.line.Outcome.TheVariants.{NoRow, Waiting}
use Rattle.gather.proofs.Quick.{sats-long}

-- another line
module _ (ws : List ℕ) (n k v : ℕ) where
  on-is : onward (meant ws) (headed n k v) ≡ cond (on_row ws n k v) (some (open_of ws).sats) none
  on-is = go (stands ws)
    where
      es : Option (List Satellite)
      es = some (open_of ws).sats

      tests : (a b c : Bool) → cond (a && (b && c)) es none ≡ cond (a && (b && (c && true))) es none
      tests true true true = refl
      tests true true false = refl
      tests true false c = refl
      tests false b c = refl

      fails : (a b c : Bool) → none ≡ cond (a && (b && (c && false))) es none
      fails true true true = refl
      fails true true false = refl
      fails true false c = refl
      fails false b c = refl

      go : (s : Bool) → onward (cond s (some (open_of ws)) none) (headed n k v)
          ≡ cond (eqb n (get_or ws 0 0) && (eqb k (get_or ws 1 0) && (eqb v (get_or ws 2 0) && s))) es none
      go true = tests (eqb n (get_or ws 0 0)) (eqb k (get_or ws 1 0)) (eqb v (get_or ws 2 0))
      go false = fails (eqb n (get_or ws 0 0)) (eqb k (get_or ws 1 0)) (eqb v (get_or ws 2 0))

  module _ (more : k ≡ 1 → ⊥) where
    answers : (b : Bool) → on_row ws n k v ≡ b → sofar (meant ws) (headed n k v) ≡ cond b (some (open_of ws).sats) none
    answers b e =
        ap
        (λ (t : Bool). cond t (cond (leb 1 n && leb n 9) (some []) none) (onward (meant ws) (headed n k v)))
        (ne_eqb k 1 more)
        ∙ on-is
        ∙ ap (λ (x : Bool). cond x (some (open_of ws).sats) none) e

    -- the code's count, where the line goes on with the row's run
    gone-on : on_row ws n k v ≡ true → ◌≡◌ {A = Maybe ℕ} (Some (get_or ws 3 0)) (before_of (sofar (meant ws) (headed n k v)))
    gone-on e =
        ap Some (sym (sats-long 0 (get_or ws 3 0) ws)) ∙ ap before_of (sym (answers true e))

  -- by the head of the row's run, which is asked first: a row that stands has one that lines can leave
  abbrev run : Run
  run = record { n = get_or ws 0 0; next = get_or ws 1 0; view = get_or ws 2 0 }

  abbrev head : Head
  head = record { count = n; index = k; view = v }

  -- the three numbers are the run's, and the row stands
  record OnRow : Type 0 where
    n-is : eqb n (get_or ws 0 0) ≡ true
    next-is : eqb k (get_or ws 1 0) ≡ true
    view-is : eqb v (get_or ws 2 0) ≡ true
    stood : stands ws ≡ true

  on-row : on_row ws n k v ≡ true → OnRow
  on-row e =
      let (a, f) = (and-eq-true_iff (eqb n (get_or ws 0 0)) _).0 e in
      let (b, g) = (and-eq-true_iff (eqb k (get_or ws 1 0)) _).0 f in
      let (c, d) = (and-eq-true_iff (eqb v (get_or ws 2 0)) _).0 g in
      record { n-is = a; next-is = b; view-is = c; stood = d }

  module _ (more : k ≡ 1 → ⊥) where
    pub goes : runs_on run head ≡ true → stands ws ≡ true
        → ◌≡◌ {A = Maybe ℕ} (Some (get_or ws 3 0)) (before_of (sofar (meant ws) (headed n k v)))
    goes e s =
        let f : (run_stands run && (eqb n (get_or ws 0 0) && (eqb k (get_or ws 1 0) && eqb v (get_or ws 2 0)))) ≡ true =
        sym (λ j. cond (ne_eqb k 1 more j) (leb 1 n && leb n 9) (run_stands run && (eqb n (get_or ws 0 0) && (eqb k (get_or ws 1 0) && eqb v (get_or ws 2 0))))) ∙ e in
        let (_, t) = (and-eq-true_iff (run_stands run) _).0 f in
        let (a, u) = (and-eq-true_iff (eqb n (get_or ws 0 0)) _).0 t in
        let (b, c) = (and-eq-true_iff (eqb k (get_or ws 1 0)) _).0 u in
        gone-on more (λ j. a j && (b j && (c j && s j)))

  -- the entries before a line are few, its number is small, and the cells hold them
  pub record GoesOn (es : List Satellite) : Type 0 where
    pub few : length es ≤ 32
    pub low : k ≤ 9
    pub read : sats_from 0 (length es) ws ≡ es

  good : on_row ws n k v ≡ true → (get_or ws 3 0 ≤ 32) × (k ≤ 9)
  good e =
      let o = on-row e in
      let p = (passes (open_of ws)).0 ((and-eq-true_iff (eqb (length ws) 148) _).0 o.stood).1 in
      let h : k ≡ get_or ws 1 0 = eqb-true _ _ o.next-is in (
        omega (
          arith,
          four-each entry_size (space (get_or ws 2 0)) (open_of ws).sats,
          sats-long 0 (get_or ws 3 0) ws,
          p.packed,
          p.begun,
          p.open',
          p.high,
        ),
        omega (arith, p.open', p.high),
      )

  pub goes-on : (es : List Satellite) → sofar (meant ws) (headed n k v) ≡ some es → GoesOn es
  goes-on es e = by-number (eqb k 1) refl e
    where
      by-range : (a : Bool) → k ≡ 1 → cond a (some []) none ≡ some es → GoesOn es
      by-range true one q =
          let z : [] ≡ es = cc in
          record { few = omega (arith, ap length z); low = omega arith; read = ap (λ (es : List Satellite). sats_from 0 (length es) ws) (sym z) ∙ z }
      by-range false one q = absurd (none-ne-some _ q)

      by-row : (a : Bool) → on_row ws n k v ≡ a → cond a (some (open_of ws).sats) none ≡ some es → GoesOn es
      by-row true h q =
          let (c, l) = good h in
          let z : (open_of ws).sats ≡ es = cc in
          let long : length es ≡ get_or ws 3 0 = sym (ap length z) ∙ sats-long 0 (get_or ws 3 0) ws in
          record { few = omega arith; low = l; read = ap (λ (m : ℕ). sats_from 0 m ws) long ∙ z }
      by-row false h q = absurd (none-ne-some _ q)

      by-number : (a : Bool) → eqb k 1 ≡ a → cond a (cond (leb 1 n && leb n 9) (some []) none) (onward (meant ws) (headed n k v)) ≡ some es → GoesOn es
      by-number true h q = by-range (leb 1 n && leb n 9) (eqb-true _ _ h) q
      by-number false h q = by-row (on_row ws n k v) refl (sym on-is ∙ q)

-- a line's n, number and in-view count decide alone
pub by-head : (r : Option (Open Satellite)) (g : Gsv Satellite) → sofar r (headed g.n g.number g.view) ≡ sofar r g
by-head none g = refl
by-head (some o) g = refl

-- the two ways to take a line
abbrev pub handed : Gsv Satellite → List Satellite → Out Satellite
handed g es = record { row = none; group = some (record { n = g.n; view = g.view; sats = es ++ g.sats }) }

abbrev pub waited : Gsv Satellite → List Satellite → Out Satellite
waited g es = record { row = some (record { n = g.n; next = g.number + 1; view = g.view; sats = es ++ g.sats }); group = none }

-- what a line writes and says
module _ (ws : List ℕ) (g : Gsv Satellite) (long : length ws ≡ 148) where
  pub after-is : (x : Option (List Satellite)) → sofar (meant ws) g ≡ x → row_after ws g ≡ written ws g x
  after-is x e = λ j. cond (eq-eqb (length ws) 148 long j) (written ws g (e j)) ws

  outcome-is : (x : Option (List Satellite)) → sofar (meant ws) g ≡ x → outcome_of ws g ≡ told (taken x g)
  outcome-is x e = λ j. cond (eq-eqb (length ws) 148 long j) (told (taken (e j) g)) NoRow

  pub record Begun (k : ℕ) : Type 0 where
    pub es : List Satellite
    pub is : sofar (meant ws) g ≡ some es
    pub count : k ≡ length es
    pub few : k ≤ 32
    pub low : g.number ≤ 9

  pub begun : (k : ℕ) → Some k ≡ before_of (sofar (meant ws) (headed g.n g.number g.view)) → Begun k
  begun k e = by (sofar (meant ws) g) refl (e ∙ ap before_of (by-head (meant ws) g))
    where
      by : (x : Option (List Satellite)) → sofar (meant ws) g ≡ x → Some k ≡ before_of x → Begun k
      by none q f = let z : ◌≡◌ {A = ℕ} 0 1 = cc in absurd (omega arith)
      by (some es) q f =
          let h = goes-on ws g.n g.number g.view es (by-head (meant ws) g ∙ q) in
          let c : k ≡ length es = cc in
          record { es = es; is = q; count = c; few = omega (arith, h.few); low = h.low }

  -- a line that is not the last leaves the run waiting
  pub waits : {k t q : ℕ} {m : List ℕ} (x : Begun k) → Stored ws m k g.sats t → (g.number ≡ g.n → ⊥) → q ≡ g.number + 1
      → Put ws (set (set (set (set m 0 g.n) 1 q) 2 g.view) 3 t) g Waiting
  waits {k} {t} {q} {m} x s more f =
      let e : eqb g.number g.n ≡ false = ne_eqb g.number g.n more in
      let mp : m ≡ sets ws (4 + length x.es * 4) (flat g.sats) = s.words ∙ (λ j. sets ws (4 + x.count j * 4) (flat g.sats)) in
      let tp : t ≡ length x.es + length g.sats = s.count ∙ (λ j. x.count j + length g.sats) in
      let qp : q ≡ next_of g = f ∙ sym (λ j. cond (e j) 0 (g.number + 1)) in
      record {
        words = (λ j. set (set (set (set (mp j) 0 g.n) 1 (qp j)) 2 g.view) 3 (tp j)) ∙ sym (after-is (some x.es) x.is);
        says = sym (outcome-is (some x.es) x.is ∙ (λ j. told (cond (e j) (handed g x.es) (waited g x.es))));
      }
