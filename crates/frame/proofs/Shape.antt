-- A line that `sentence` reads, byte by byte: each reader in turn tells what stood at its place. And such a line is read back.
-- Assumes nothing.
use Prim.Native.Nat.{ℕ, suc, ◌+◌}
use native.Mathlib.Omega.{arith}
use mathlib.Core.Path.{◌≡◌, refl, ap, sym, ◌∙◌}
use mathlib.Core.Bool.{Bool, true, false, cond}
use mathlib.Core.List.{List, [], ◌∷◌, ◌++◌}
use mathlib.Core.Option.{Option, none, some}
use lib.Dec.{eqb}
use lib.ListN.{length}
use lib.Seq.{slice, take-append_seam}
use borrow.Author.Tests.{eqb-true}
use Rattle.text.specs.Bytes.{byte}
use Rattle.text.specs.Reader.{UnknownType, Parse, miss, refuse, got, Reader, after, ◌>>=◌, char, until, pure, or_miss}
use Rattle.frame.specs.Types.{types, listed}
use Rattle.frame.specs.Digits.{hex}
use Rattle.frame.specs.Frame.{data_from, Parts, taken, known, sentence_type, checksum_field, sentence}
use Rattle.text.proofs.Binds.{bind-got, bind-refuse, bind-miss, char-here, char-other}
use Rattle.frame.proofs.Taken.{two-of, three-of}
use Rattle.frame.proofs.Fields.{field-of, type-known, type-unknown}
use Rattle.frame.proofs.Until.{Clear, Stopped, stopped, until-back}

-- what the first of two readers read, and what the second made of it
record Bound {A B : Type 0} (q : Reader A) (k : A → Reader B) (l : List ℕ) (b : B) (m : List ℕ) : Type 0 where
  one : A
  left : List ℕ
  first : q l ≡ got one left
  second : k one left ≡ got b m

bound : {A B : Type 0} (q : Reader A) (k : A → Reader B) (l : List ℕ) (b : B) (m : List ℕ) → (q >>= k) l ≡ got b m → Bound q k l b m
unfolding ◌>>=◌
bound {A} {B} q k l b m e = by (q l) refl e
  where
    by : (x : Parse A) → q l ≡ x → after x k ≡ got b m → Bound q k l b m
    by miss f e = let z : ◌≡◌ {A = ℕ} 0 1 = cc in absurd (omega arith)
    by (refuse g) f e = let z : ◌≡◌ {A = ℕ} 0 1 = cc in absurd (omega arith)
    by (got a n) f e = record { one = a; left = n; first = f; second = e }

was-char : (c : ℕ) (l m : List ℕ) → char c l ≡ got tt m → l ≡ c ∷ m
unfolding char
was-char c [] m e = let z : ◌≡◌ {A = ℕ} 0 1 = cc in absurd (omega arith)
was-char c (b ∷ l) m e = by (eqb b c) refl e
  where
    by : (t : Bool) → eqb b c ≡ t → cond {A = Parse (Unit {0})} t (got tt l) miss ≡ got tt m → b ∷ l ≡ c ∷ m
    by true f e = let g = eqb-true b c f in cc
    by false f e = let z : ◌≡◌ {A = ℕ} 0 1 = cc in absurd (omega arith)

record Two (l t m : List ℕ) : Type 0 where
  a : ℕ
  b : ℕ
  read : t ≡ a ∷ b ∷ []
  line : l ≡ a ∷ b ∷ m

was-two : (l t m : List ℕ) → taken 2 l ≡ got t m → Two l t m
unfolding taken
was-two [] t m e = let z : ◌≡◌ {A = ℕ} 0 1 = cc in absurd (omega arith)
was-two (a ∷ []) t m e = let z : ◌≡◌ {A = ℕ} 0 1 = cc in absurd (omega arith)
was-two (a ∷ b ∷ l) t m e =
    let f : got (a ∷ b ∷ []) l ≡ got t m = sym (two-of a b l) ∙ e in
    record { a = a; b = b; read = cc; line = cc }

record Three (l t m : List ℕ) : Type 0 where
  c : ℕ
  d : ℕ
  e : ℕ
  read : t ≡ c ∷ d ∷ e ∷ []
  line : l ≡ c ∷ d ∷ e ∷ m

was-three : (l t m : List ℕ) → taken 3 l ≡ got t m → Three l t m
unfolding taken
was-three [] t m e = let z : ◌≡◌ {A = ℕ} 0 1 = cc in absurd (omega arith)
was-three (a ∷ []) t m e = let z : ◌≡◌ {A = ℕ} 0 1 = cc in absurd (omega arith)
was-three (a ∷ b ∷ []) t m e = let z : ◌≡◌ {A = ℕ} 0 1 = cc in absurd (omega arith)
was-three (a ∷ b ∷ c ∷ l) t m e =
    let f : got (a ∷ b ∷ c ∷ []) l ≡ got t m = sym (three-of a b c l) ∙ e in
    record { c = a; d = b; e = c; read = cc; line = cc }

record Listed (l t m : List ℕ) : Type 0 where
  letters : Three l t m
  listed : listed types t ≡ true

was-type : (l t m : List ℕ) → sentence_type l ≡ got t m → Listed l t m
unfolding sentence_type known
was-type l t m e =
    let k = bound (taken 3) _ l t m e in
    by k.one k.left (was-three l k.one k.left k.first) (listed types k.one) refl k.second
  where
    by : (u n : List ℕ) → Three l u n → (x : Bool) → listed types u ≡ x
        → cond {A = Parse (List ℕ)} x (got u n) (refuse UnknownType) ≡ got t m → Listed l t m
    by u n h true f e =
        let g : u ≡ t = cc in
        let g' : n ≡ m = cc in
        record { letters = rw (← g, ← g') h; listed = rw (← g) f }
    by u n h false f e = let z : ◌≡◌ {A = ℕ} 0 1 = cc in absurd (omega arith)

pub record Digits (l : List ℕ) (v : ℕ) (m : List ℕ) : Type 0 where
  pub y : ℕ
  pub z : ℕ
  pub line : l ≡ byte "*" ∷ y ∷ z ∷ m
  pub digits : hex (y ∷ z ∷ []) ≡ some v

pub was-field : (l : List ℕ) (v : ℕ) (m : List ℕ) → checksum_field l ≡ got v m → Digits l v m
unfolding checksum_field or_miss
was-field l v m e =
    let star = bound (char (byte "*")) _ l v m e in
    let two = bound (taken 2) _ star.left v m star.second in
    by star.left two.one two.left (was-char (byte "*") l star.left star.first) (was-two star.left two.one two.left two.first)
    (hex two.one) refl two.second
  where
    by : (k t n : List ℕ) → l ≡ byte "*" ∷ k → Two k t n → (o : Option ℕ) → hex t ≡ o → or_miss o n ≡ got v m → Digits l v m
    by k t n f h none g e = let z : ◌≡◌ {A = ℕ} 0 1 = cc in absurd (omega arith)
    by k t n f h (some w) g e =
        let e' : n ≡ m = cc in
        let e'' : w ≡ v = cc in
        record { y = h.a; z = h.b; line = f ∙ ap (λ (x : List ℕ). byte "*" ∷ x) h.line ∙ ap (λ (x : List ℕ). byte "*" ∷ h.a ∷ h.b ∷ x) e'; digits = sym (ap hex h.read) ∙ g ∙ ap some e'' }

-- a line whose `$`, comma and `*` stand where they must
abbrev pub line-of : ℕ → ℕ → ℕ → ℕ → ℕ → List ℕ → ℕ → ℕ → List ℕ → List ℕ
line-of a b c d e text y z m = byte "$" ∷ a ∷ b ∷ c ∷ d ∷ e ∷ byte "," ∷ (text ++ (byte "*" ∷ y ∷ z ∷ m))

abbrev pub parts-of : ℕ → ℕ → ℕ → ℕ → ℕ → List ℕ → ℕ → Parts
parts-of a b c d e text v =
    record { talker = a ∷ b ∷ []; kind = c ∷ d ∷ e ∷ []; checksum = v; from = data_from; to = data_from + length text; text = text }

-- the bytes of a line of which `p` was read
pub record Shaped (l : List ℕ) (p : Parts) (m : List ℕ) : Type 0 where
  pub a : ℕ
  pub b : ℕ
  pub c : ℕ
  pub d : ℕ
  pub e : ℕ
  pub text : List ℕ
  pub y : ℕ
  pub z : ℕ
  pub v : ℕ
  pub clear : Clear (byte "*") text
  pub listed : listed types (c ∷ d ∷ e ∷ []) ≡ true
  pub digits : hex (y ∷ z ∷ []) ≡ some v
  pub line : l ≡ line-of a b c d e text y z m
  pub parts : p ≡ parts-of a b c d e text v

got-same : {A : Type 0} {a b : A} {l m : List ℕ} → got a l ≡ got b m → (a ≡ b) × (l ≡ m)
got-same e = (cc, cc)

-- from what each reader in turn read
joined : {l l1 l2 l3 l4 l5 l6 t k text m : List ℕ} {v : ℕ} {p : Parts} → l ≡ byte "$" ∷ l1 → Two l1 t l2 → Listed l2 k l3 → l3 ≡ byte "," ∷ l4
    → Stopped (byte "*") l4 text l5 → Digits l5 v l6
    → got (record { talker = t; kind = k; checksum = v; from = data_from; to = data_from + length text; text = text }) l6 ≡ got p m
    → Shaped l p m
joined {l} {text = text} {v = v} dollar two three comma stop field end =
    let f = two.read in
    let g = three.letters.read in
    let h = got-same end in
    record {
      a = two.a;
      b = two.b;
      c = three.letters.c;
      d = three.letters.d;
      e = three.letters.e;
      text = text;
      y = field.y;
      z = field.z;
      v = v;
      clear = stop.clear;
      listed = rw g at three.listed;
      digits = field.digits;
      line = cc (two.line, three.letters.line, stop.line, stop.left, field.line, h.1);
      parts = sym h.0 ∙ rw (f, g);
    }

pub shaped : (l : List ℕ) (p : Parts) (m : List ℕ) → sentence l ≡ got p m → Shaped l p m
unfolding sentence pure
shaped l p m eq =
    let dollar = bound (char (byte "$")) _ l p m eq in
    let talker = bound (taken 2) _ dollar.left p m dollar.second in
    let kind = bound sentence_type _ talker.left p m talker.second in
    let comma = bound (char (byte ",")) _ kind.left p m kind.second in
    let text = bound (until (byte "*")) _ comma.left p m comma.second in
    let sum = bound checksum_field _ text.left p m text.second in
    joined (was-char (byte "$") l dollar.left dollar.first) (was-two dollar.left talker.one talker.left talker.first)
    (was-type talker.left kind.one kind.left kind.first) (was-char (byte ",") kind.left comma.left comma.first)
    (stopped (byte "*") comma.left text.one text.left text.first)
    (was-field text.left sum.one sum.left sum.first) sum.second

-- the bytes between `$` and `*` are talker, type, comma and data
pub between : {l : List ℕ} {p : Parts} {m : List ℕ} → Shaped l p m → slice 1 p.to l ≡ p.talker ++ (p.kind ++ (byte "," ∷ p.text))
between {l} {p} {m} h =
    let n = length h.text in
    let e : data_from + n ≡ suc (suc (suc (suc (suc (suc (suc n)))))) = omega arith in
    ap (λ (q : Parts). slice 1 q.to l) h.parts
    ∙ ap (slice 1 (data_from + n)) h.line
    ∙ ap (λ (i : ℕ). slice 1 i (line-of h.a h.b h.c h.d h.e h.text h.y h.z m)) e
    ∙ ap (λ (x : List ℕ). h.a ∷ h.b ∷ h.c ∷ h.d ∷ h.e ∷ byte "," ∷ x) (take-append_seam h.text (byte "*" ∷ h.y ∷ h.z ∷ m))
    ∙ ap (λ (q : Parts). q.talker ++ (q.kind ++ (byte "," ∷ q.text))) (sym h.parts)

-- an unknown type is refused, whatever follows
pub unknown-line : (a b c d e : ℕ) (l : List ℕ) → listed types (c ∷ d ∷ e ∷ []) ≡ false → sentence (byte "$" ∷ a ∷ b ∷ c ∷ d ∷ e ∷ l) ≡ refuse UnknownType
unfolding sentence
unknown-line a b c d e l f =
    bind-got (char (byte "$")) _ _ (char-here (byte "$") (a ∷ b ∷ c ∷ d ∷ e ∷ l))
    ∙ bind-got (taken 2) _ _ (two-of a b (c ∷ d ∷ e ∷ l))
    ∙ bind-refuse sentence_type _ _ (type-unknown c d e l f)

module _ (a b c d e : ℕ) (known : listed types (c ∷ d ∷ e ∷ []) ≡ true) where
  -- after a known type there is a comma, or no match
  pub no-comma : (x : ℕ) (l : List ℕ) → (x ≡ byte "," → ⊥) → sentence (byte "$" ∷ a ∷ b ∷ c ∷ d ∷ e ∷ x ∷ l) ≡ miss
  unfolding sentence
  no-comma x l n =
      bind-got (char (byte "$")) _ _ (char-here (byte "$") (a ∷ b ∷ c ∷ d ∷ e ∷ x ∷ l))
      ∙ bind-got (taken 2) _ _ (two-of a b (c ∷ d ∷ e ∷ x ∷ l))
      ∙ bind-got sentence_type _ _ (type-known c d e (x ∷ l) known)
      ∙ bind-miss (char (byte ",")) _ _ (char-other (byte ",") x l n)

  -- a line of this shape is read back
  pub line-back : {text : List ℕ} {v : ℕ} (y z : ℕ) (m : List ℕ) → Clear (byte "*") text → hex (y ∷ z ∷ []) ≡ some v
      → sentence (line-of a b c d e text y z m) ≡ got (parts-of a b c d e text v) m
  unfolding sentence pure or_miss
  line-back {text} y z m clear digits =
      let l = text ++ (byte "*" ∷ y ∷ z ∷ m) in
      bind-got (char (byte "$")) _ _ (char-here (byte "$") (a ∷ b ∷ c ∷ d ∷ e ∷ byte "," ∷ l))
      ∙ bind-got (taken 2) _ _ (two-of a b (c ∷ d ∷ e ∷ byte "," ∷ l))
      ∙ bind-got sentence_type _ _ (type-known c d e (byte "," ∷ l) known)
      ∙ bind-got (char (byte ",")) _ _ (char-here (byte ",") l)
      ∙ bind-got (until (byte "*")) _ _ (until-back (byte "*") (y ∷ z ∷ m) clear)
      ∙ bind-got checksum_field _ _ (field-of y z m ∙ ap (λ (o : Option ℕ). or_miss o m) digits)
