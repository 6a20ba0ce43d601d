-- Short entries: any four go into a line, so that the test of a row only counts them. Assumes nothing.
use Prim.Native.Nat.{ℕ, suc, ◌+◌, ◌-◌, ◌*◌, ◌≤◌, ◌<◌}
use native.Mathlib.Omega.{arith}
use mathlib.Core.Path.{◌≡◌, refl, ap, sym, ◌∙◌}
use mathlib.Core.List.{List, [], ◌∷◌}
use mathlib.Core.Bool.{Bool, true, false, ◌&&◌, cond, and-eq-true_iff}
use mathlib.Core.Option.{Option, none, some}
use lib.Dec.{eqb, leb, ltb}
use lib.ListN.{length, get_or}
use borrow.Author.Tests.{ltb-true, ltb-false, le-leb, lt-leb, leb-true, leb-false, eq-eqb}
use Rattle.short.specs.Texts.{opt_text}
use Rattle.short.proofs.Digits.{few-digits}
use Rattle.short.proofs.Texts.{entry-length}
use Rattle.pack.specs.Cut.{more, piece_count}
use Rattle.pack.proofs.Few.{four-each}
use Rattle.gsv.specs.Gsv.{Satellite}
use Rattle.rows.specs.Leave.{upto, readable, all_readable, entry_size, space, leavable}
use Rattle.rows.proofs.Row.{few-entries}
use Rattle.gather.specs.Words.{sats_from, open_of, stands}
use Rattle.gather.specs.Code.{sat_within, all_within, short_max}
use Rattle.gather.specs.Heads.{run_stands}
use Rattle.gather.specs.declared.run.Run.{Run}

-- at the largest numbers that a line can have
pub readable-is : (es : List Satellite) → all_within 4294967295 2147483647 es ≡ all_readable es
readable-is [] = refl
readable-is (s ∷ es) = ap (λ (b : Bool). readable s && b) (readable-is es)

record Short (s : Satellite) : Type 0 where
  pub id : s.id ≤ short_max
  pub elevation : upto short_max s.elevation ≡ true
  pub azimuth : upto short_max s.azimuth ≡ true
  pub signal : upto short_max s.signal ≡ true

short : (s : Satellite) → sat_within short_max short_max s ≡ true → Short s
short s e =
    let (a, e₁) = (and-eq-true_iff _ _).0 e in
    let (b, e₂) = (and-eq-true_iff _ _).0 e₁ in
    let (c, d) = (and-eq-true_iff _ _).0 e₂ in
    record { id = leb-true _ _ a; elevation = b; azimuth = c; signal = d }

wider : (o : Option ℕ) → upto short_max o ≡ true → upto 2147483647 o ≡ true
wider none e = refl
wider (some n) e = let h : n ≤ short_max = leb-true n short_max e in le-leb n 2147483647 (omega arith)

four-digits : (o : Option ℕ) → upto short_max o ≡ true → length (opt_text o) ≤ 4
four-digits none e = omega arith
four-digits (some n) e = let h : n ≤ short_max = leb-true n short_max e in few-digits n 4 (omega arith) (omega arith)

pub short-readable : (es : List Satellite) → all_within short_max short_max es ≡ true → all_readable es ≡ true
short-readable [] e = refl
short-readable (s ∷ es) e =
    let (f, g) = (and-eq-true_iff (sat_within short_max short_max s) _).0 e in
    let h = short s f in
    (and-eq-true_iff (readable s) _).1 (
      (and-eq-true_iff _ _).1 (
        le-leb s.id 4294967295 (omega (arith, h.id)),
        (and-eq-true_iff _ _).1 (
          wider s.elevation h.elevation,
          (and-eq-true_iff _ _).1 (wider s.azimuth h.azimuth, wider s.signal h.signal),
        ),
      ),
      short-readable es g,
    )

short-entry : (s : Satellite) → sat_within short_max short_max s ≡ true → entry_size s ≤ 20
short-entry s e =
    let h = short s e in
    omega (
      arith,
      entry-length s,
      few-digits s.id 4 (omega arith) (omega (arith, h.id)),
      four-digits s.elevation h.elevation,
      four-digits s.azimuth h.azimuth,
      four-digits s.signal h.signal,
    )

-- behind c short entries there is room for one more, until there are four
fours : (room : ℕ) → 80 ≤ room → (es : List Satellite) → all_within short_max short_max es ≡ true → (c u k : ℕ) → c ≤ 4 → u ≤ 20 * c
    → length es ≤ 4 - c + 4 * k → more entry_size room c u es ≤ k
unfolding more
fours room r [] e c u k hc hu h = omega arith
fours room r (s ∷ es) e c u k hc hu h =
    let (f, g) = (and-eq-true_iff (sat_within short_max short_max s) _).0 e in
    by (short-entry s f) (ltb c 4) (leb (u + entry_size s) room) refl refl (λ c' u' k'. fours room r es g c' u' k')
  where
    by : entry_size s ≤ 20 → (a b : Bool) → ltb c 4 ≡ a → leb (u + entry_size s) room ≡ b
        → ((c' u' k' : ℕ) → c' ≤ 4 → u' ≤ 20 * c' → length es ≤ 4 - c' + 4 * k' → more entry_size room c' u' es ≤ k')
        → cond (a && b) 0 1 + more entry_size room (cond (a && b) (suc c) 1) (cond (a && b) (u + entry_size s) (entry_size s)) es ≤ k
    by small true true p q ih =
        let h1 : c < 4 = ltb-true c 4 p in
        omega (arith, ih (suc c) (u + entry_size s) k (omega arith) (omega arith) (omega arith))
    by small true false p q ih =
        let h1 : c < 4 = ltb-true c 4 p in
        let h2 : room < u + entry_size s = leb-false (u + entry_size s) room q in
        absurd (omega arith)
    by small false b p q ih =
        let h1 : 4 ≤ c = ltb-false c 4 p in
        omega (arith, ih 1 (entry_size s) (k - 1) (omega arith) (omega arith) (omega arith))

pub short-room : (v : ℕ) → v ≤ 65535 → 80 ≤ space v
short-room v h = omega (arith, few-digits v 5 (omega arith) (omega arith))

-- so the test of the pieces counts
pub counts : (v : ℕ) (es : List Satellite) (j : ℕ) → v ≤ 65535 → all_within short_max short_max es ≡ true
    → leb (length es) (4 * j) ≡ leb (piece_count entry_size (space v) es) j
counts v es j h e = by (leb (length es) (4 * j)) refl
  where
    by : (b : Bool) → leb (length es) (4 * j) ≡ b → b ≡ leb (piece_count entry_size (space v) es) j
    by true q =
        let l : length es ≤ 4 * j = leb-true (length es) (4 * j) q in
        sym (le-leb (piece_count entry_size (space v) es) j (fours (space v) (short-room v h) es e 4 0 j (omega arith) (omega arith) (omega arith)))
    by false q =
        let l : 4 * j < length es = leb-false (length es) (4 * j) q in
        sym (lt-leb (piece_count entry_size (space v) es) j (omega (arith, four-each entry_size (space v) es)))

pub sats-long : (i k : ℕ) (ws : List ℕ) → length (sats_from i k ws) ≡ k
sats-long i ℕ.zero ws = refl
sats-long i (suc k) ws = ap suc (sats-long (suc i) k ws)

-- no line leaves more cells than a row has
pub too-many : (ws : List ℕ) → 36 < get_or ws 3 0 → leavable (open_of ws) ≡ false
too-many ws h = by (leavable (open_of ws)) refl
  where
    by : (b : Bool) → leavable (open_of ws) ≡ b → b ≡ false
    by true e = absurd (omega (arith, few-entries (open_of ws) e, sats-long 0 (get_or ws 3 0) ws))
    by false e = refl

and-false : (b : Bool) → false ≡ b && false
and-false true = refl
and-false false = refl

pub many-fails : (ws : List ℕ) → 36 < get_or ws 3 0 → false ≡ stands ws
many-fails ws h = and-false (eqb (length ws) 148) ∙ ap (λ (b : Bool). eqb (length ws) 148 && b) (sym (too-many ws h))

-- a row whose head may stand
pub record Head (ws : List ℕ) : Type 0 where
  pub long : length ws ≡ 148
  pub begun : 2 ≤ get_or ws 1 0
  pub open' : get_or ws 1 0 ≤ get_or ws 0 0
  pub high : get_or ws 0 0 ≤ 9
  pub view : get_or ws 2 0 ≤ 65535

abbrev run : List ℕ → Run
run ws = record { n = get_or ws 0 0; next = get_or ws 1 0; view = get_or ws 2 0 }

pub may-stand : (ws : List ℕ) → length ws ≡ 148 → run_stands (run ws) ≡ true → get_or ws 2 0 ≤ 65535 → Head ws
may-stand ws a r e =
    let (b, r₁) = (and-eq-true_iff (leb 2 (get_or ws 1 0)) _).0 r in
    let (c, d) = (and-eq-true_iff (leb (get_or ws 1 0) (get_or ws 0 0)) _).0 r₁ in
    record { long = a; begun = leb-true _ _ b; open' = leb-true _ _ c; high = leb-true _ _ d; view = e }

-- where its run does not stand, the row does not
pub no-run : (ws : List ℕ) → run_stands (run ws) ≡ false → false ≡ stands ws
no-run ws = by (eqb (length ws) 148) (leb 2 (get_or ws 1 0)) (leb (get_or ws 1 0) (get_or ws 0 0)) (leb (get_or ws 0 0) 9) _
  where
    by : (a b c d e : Bool) → b && (c && d) ≡ false → false ≡ a && (b && (c && (d && e)))
    by false b c d e h = refl
    by true false c d e h = refl
    by true true false d e h = refl
    by true true true false e h = refl
    by true true true true e h = let z : ◌≡◌ {A = ℕ} 0 1 = cc in absurd (omega arith)

abbrev sats : List ℕ → List Satellite
sats ws = sats_from 0 (get_or ws 3 0) ws

abbrev packed : List ℕ → Bool
packed ws = leb (piece_count entry_size (space (get_or ws 2 0)) (sats ws)) (get_or ws 1 0 - 1)

head-stands : (ws : List ℕ) → Head ws → stands ws ≡ all_readable (sats ws) && packed ws
head-stands ws h =
    λ j.
    eq-eqb (length ws) 148 h.long j
    && (le-leb 2 (get_or ws 1 0) h.begun j
    && (le-leb (get_or ws 1 0) (get_or ws 0 0) h.open' j
    && (le-leb (get_or ws 0 0) 9 h.high j && (le-leb (get_or ws 2 0) 65535 h.view j && (all_readable (sats ws) && packed ws)))))

pub short-stands : (ws : List ℕ) → Head ws → all_within short_max short_max (sats ws) ≡ true → leb (get_or ws 3 0) (4 * (get_or ws 1 0 - 1)) ≡ stands ws
short-stands ws h e =
    ap (λ (k : ℕ). leb k (4 * (get_or ws 1 0 - 1))) (sym (sats-long 0 (get_or ws 3 0) ws))
    ∙ counts (get_or ws 2 0) (sats ws) (get_or ws 1 0 - 1) h.view e
    ∙ sym (head-stands ws h ∙ ap (λ (b : Bool). b && packed ws) (short-readable (sats ws) e))

pub unreadable : (ws : List ℕ) → Head ws → all_within 4294967295 2147483647 (sats ws) ≡ false → false ≡ stands ws
unreadable ws h e = sym (head-stands ws h ∙ ap (λ (b : Bool). b && packed ws) (sym (readable-is (sats ws)) ∙ e))

pub exact : (ws : List ℕ) (r : ℕ) → Head ws → all_within 4294967295 2147483647 (sats ws) ≡ true
    → r ≡ piece_count entry_size (space (get_or ws 2 0)) (sats ws) → leb r (get_or ws 1 0 - 1) ≡ stands ws
exact ws r h e f =
    ap (λ (k : ℕ). leb k (get_or ws 1 0 - 1)) f ∙ sym (head-stands ws h ∙ ap (λ (b : Bool). b && packed ws) (sym (readable-is (sats ws)) ∙ e))
