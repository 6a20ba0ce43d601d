-- THE RULE ON LENT ROWS: the test is true exactly of the runs that accepted lines leave. Lines have room for what they hold, greedy
-- packing finds a cut wherever there is one, and each piece of a cut is the text of a line. Assumes nothing.
use Prim.Native.Nat.{ℕ, zero, suc, ◌-◌, ◌≤◌, ◌<◌}
use native.Mathlib.Omega.{arith}
use mathlib.Core.Path.{◌≡◌, refl, subst}
use mathlib.Core.Logic.{◌↔◌}
use mathlib.Core.List.{List, [], ◌∷◌}
use mathlib.Core.Bool.{true, and-eq-true_iff}
use mathlib.Core.Option.{Option, none, some}
use lib.ListN.{length}
use borrow.Author.Tests.{le-leb, leb-true}
use Rattle.text.specs.Bytes.{byte}
use Rattle.groups.specs.Log.{Gsv}
use Rattle.groups.specs.Step.{Open, step}
use Rattle.gsv.specs.Talker.{Talker as GsvTalker, ga, gp, gl, gb, gi, gq, row_for, talker_of}
use Rattle.gsv.specs.Gsv.{Satellite, GsvSentence}
use Rattle.answer.specs.Sentence.{answer, is_gsv}
use Rattle.short.specs.Texts.{Upto, Readable, AllReadable, body_of}
use Rattle.short.specs.Room.{Room}
use Rattle.short.proofs.Texts.{all-present}
use Rattle.short.proofs.Line.{Letter, room, line-of}
use Rattle.pack.specs.Cut.{piece_count}
use Rattle.pack.specs.Rows.{Packs}
use Rattle.pack.proofs.Few.{four-each}
use Rattle.pack.proofs.Greedy.{greedy}
use Rattle.pack.proofs.Rows.{Sound, sound-step, left-by}
use Rattle.rows.specs.Key.{source_from, row_from, row_count}
use Rattle.rows.specs.Line.{line_of}
use Rattle.rows.specs.Leave.{Line, Leavable, upto, readable, all_readable, entry_size, space, leavable, Stands}
use Rattle.rows.proofs.Fit.{alone, room-cut}

-- the tests, one by one
upto-is : (max : ℕ) (o : Option ℕ) → (upto max o ≡ true) ↔ Upto max o
upto-is max none = (λ e. tt, λ h. refl)
upto-is max (some n) = (λ e. leb-true n max e, λ h. le-leb n max h)

readable-is : (s : Satellite) → (readable s ≡ true) ↔ Readable s
readable-is s = (
  λ e.
      let (a, e₁) = (and-eq-true_iff _ _).0 e in
      let (b, e₂) = (and-eq-true_iff _ _).0 e₁ in
      let (c, d) = (and-eq-true_iff _ _).0 e₂ in
      record {
        id = leb-true _ _ a;
        elevation = (upto-is 2147483647 s.elevation).0 b;
        azimuth = (upto-is 2147483647 s.azimuth).0 c;
        signal = (upto-is 2147483647 s.signal).0 d;
      },
  λ r.
      (and-eq-true_iff _ _).1 (
        le-leb _ _ r.id,
        (and-eq-true_iff _ _).1 (
          (upto-is 2147483647 s.elevation).1 r.elevation,
          (and-eq-true_iff _ _).1
              ((upto-is 2147483647 s.azimuth).1 r.azimuth, (upto-is 2147483647 s.signal).1 r.signal),
        ),
      ),
)

pub all-readable-is : (es : List Satellite) → (all_readable es ≡ true) ↔ AllReadable es
all-readable-is [] = (λ e. tt, λ h. refl)
all-readable-is (s ∷ es) = (
  λ e. let (a, b) = (and-eq-true_iff _ _).0 e in ((readable-is s).0 a, (all-readable-is es).0 b),
  λ h. (and-eq-true_iff _ _).1 ((readable-is s).1 h.0, (all-readable-is es).1 h.1),
)

pub record Passes (o : Open Satellite) : Type 0 where
  pub begun : 2 ≤ o.next
  pub open' : o.next ≤ o.n
  pub high : o.n ≤ 9
  pub view : o.view ≤ 65535
  pub each : all_readable o.sats ≡ true
  pub packed : piece_count entry_size (space o.view) o.sats ≤ o.next - 1

pub passes : (o : Open Satellite) → (leavable o ≡ true) ↔ Passes o
passes o = (
  λ e.
      let (a, e₁) = (and-eq-true_iff _ _).0 e in
      let (b, e₂) = (and-eq-true_iff _ _).0 e₁ in
      let (c, e₃) = (and-eq-true_iff _ _).0 e₂ in
      let (d, e₄) = (and-eq-true_iff _ _).0 e₃ in
      let (r, p) = (and-eq-true_iff _ _).0 e₄ in
      record {
        begun = leb-true _ _ a;
        open' = leb-true _ _ b;
        high = leb-true _ _ c;
        view = leb-true _ _ d;
        each = r;
        packed = leb-true _ _ p;
      },
  λ p.
      let e₅ = (and-eq-true_iff _ _).1 (p.each, le-leb _ _ p.packed) in
      let e₄ = (and-eq-true_iff _ _).1 (le-leb _ _ p.view, e₅) in
      let e₃ = (and-eq-true_iff _ _).1 (le-leb _ _ p.high, e₄) in
      let e₂ = (and-eq-true_iff _ _).1 (le-leb _ _ p.open', e₃) in
      (and-eq-true_iff _ _).1 (le-leb _ _ p.begun, e₂),
)

-- the test decides whether the entries can be cut into lines
pub decides : (o : Open Satellite) → Packs Room o ↔ (leavable o ≡ true)
decides o = (
  λ p.
      let (v, r, c) = (room-cut o.view (o.next - 1) o.sats (omega (arith, p.begun))).0 p.cut in
      (passes o).1
      (record {
        begun = p.begun;
        open' = p.open';
        high = p.high;
        view = v;
        each = (all-readable-is o.sats).1 r;
        packed = (greedy entry_size (space o.view) (o.next - 1) o.sats (alone o.view o.sats v r)).0 c;
      }),
  λ e.
      let p = (passes o).0 e in
      let r = (all-readable-is o.sats).0 p.each in
      record {
        begun = p.begun;
        open' = p.open';
        high = p.high;
        cut =
            (room-cut o.view (o.next - 1) o.sats (omega (arith, p.begun))).1 (
              p.view,
              r,
              (greedy entry_size (space o.view) (o.next - 1) o.sats (alone o.view o.sats p.view r)).1 p.packed,
            );
      },
)

-- a line of any row has room for its entries
has-room : (κ : ℕ) (g : Gsv Satellite) → Line κ g → Room g.view g.sats
has-room κ g l = subst (λ (x : Gsv Satellite). Room x.view x.sats) l.says (room l.written.line l.sentence l.written.accepted)

-- each row has a talker
record Talker (κ : ℕ) : Type 0 where
  pub first : ℕ
  pub second : ℕ
  pub talker : GsvTalker
  pub names : talker_of first second ≡ some talker
  pub first-letter : Letter first
  pub second-letter : Letter second
  pub mine : row_from (source_from talker) ≡ κ

with-g : (b : ℕ) (t : GsvTalker) → talker_of (byte "G") b ≡ some t → Letter b → Talker (row_from (source_from t))
with-g b t e h = record { first = byte "G"; second = b; talker = t; names = e; first-letter = (omega arith, omega arith); second-letter = h; mine = refl }

talker : (κ : ℕ) → κ < row_count → Talker κ
unfolding row_for
talker zero h = with-g (byte "P") gp refl (omega arith, omega arith)
talker (suc zero) h = with-g (byte "L") gl refl (omega arith, omega arith)
talker (suc (suc zero)) h = with-g (byte "A") ga refl (omega arith, omega arith)
talker (suc (suc (suc zero))) h = with-g (byte "B") gb refl (omega arith, omega arith)
talker (suc (suc (suc (suc zero)))) h = with-g (byte "Q") gq refl (omega arith, omega arith)
talker (suc (suc (suc (suc (suc zero))))) h = with-g (byte "I") gi refl (omega arith, omega arith)
talker (suc (suc (suc (suc (suc (suc κ)))))) h = absurd (omega arith)

-- and a line wherever there is room
has-line : (κ : ℕ) → Talker κ → (n k v : ℕ) (es : List Satellite) → n ≤ 9 → k ≤ 9 → Room v es
    → Line κ (record { key = κ; n = n; number = k; view = v; sats = es })
has-line κ t n k v es hn hk r =
    record {
      sentence = record { talker = t.talker; body = body_of n k v es };
      written = line-of t.first t.second t.talker n k v es t.names t.first-letter t.second-letter hn hk r;
      says = λ i. record { key = t.mine i; n = n; number = k; view = v; sats = all-present n k v es r.four i };
      mine = refl;
    }

-- THE RULE
pub row-exactly : (κ : ℕ) → κ < row_count → (o : Open Satellite) → Leavable κ o ↔ (leavable o ≡ true)
row-exactly κ h o =
    let l : Leavable κ o ↔ Packs Room o = left-by (Line κ) Room (has-room κ) κ (has-line κ (talker κ h)) o in
    (λ x. (decides o).0 (l.0 x), λ x. l.1 ((decides o).1 x))

-- a line that has room for its entries
abbrev Roomy : Gsv Satellite → Type 0
Roomy g = Room g.view g.sats

roomy : (g : Gsv Satellite) → Roomy g → Room g.view g.sats
roomy g r = r

stands-sound : (r : Option (Open Satellite)) → Stands r → Sound Roomy Room roomy r
stands-sound none s = tt
stands-sound (some o) s = (decides o).1 s

sound-stands : (r : Option (Open Satellite)) → Sound Roomy Room roomy r → Stands r
sound-stands none s = tt
sound-stands (some o) s = (decides o).0 s

-- an accepted line leaves a row that stands, or an empty one
pub stands-step : (r : Option (Open Satellite)) (l : List ℕ) (h : GsvSentence) → answer l ≡ is_gsv h → Stands r → Stands (step r (line_of h)).row
stands-step r l h e s = sound-stands (step r (line_of h)).row (sound-step Roomy Room roomy r (line_of h) (stands-sound r s) (room l h e))

-- at most eight lines have come, of four entries each
pub few-entries : (o : Open Satellite) → leavable o ≡ true → length o.sats ≤ 36
few-entries o e =
    let p = (passes o).0 e in
    omega (arith, four-each entry_size (space o.view) o.sats, p.packed, p.begun, p.open', p.high)
