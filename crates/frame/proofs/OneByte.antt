-- One byte of an accepted line, between `$` and the closing `*`, replaced by another that is no `*`: the line is refused.
-- Where `$`, comma and `*` still stand in their places, the checksum differs, since the exclusive or can be cancelled, unless the type
-- is not known any more; and without the comma there is no match. Assumes nothing.
use Prim.Native.Nat.{ℕ, zero, suc, ◌+◌, ◌≤◌, ◌<◌}
use native.Mathlib.Omega.{arith}
use mathlib.Core.Path.{◌≡◌, refl, ap, sym, ◌∙◌}
use mathlib.Core.Bool.{Bool, true, false, cond}
use mathlib.Core.List.Memᴰ.{head}
use mathlib.Core.List.Memᴰ.{tail}
use mathlib.Core.List.{List, [], ◌∷◌, ◌++◌, Memᴰ}
use mathlib.Core.Option.{some}
use lib.Dec.{eqb, leb}
use lib.ListN.{length, get_or, set, length-set, get_or-append}
use lib.Seq.{set-append_left}
use borrow.Author.Tests.{eqb-true, ne_eqb, le-leb, leb-true}
use Rattle.utf8.specs.Utf8.{utf8, ascii}
use Rattle.text.specs.Bytes.{byte}
use Rattle.text.specs.Reader.{Parse, miss, refuse, got}
use Rattle.frame.specs.Refused.{Refused, bad_utf8, not_ascii, too_long, syntax_error, unknown_type, bad_checksum}
use Rattle.frame.specs.Types.{types, listed}
use Rattle.frame.specs.Checksum.{checksum}
use Rattle.frame.specs.Digits.{hex}
use Rattle.frame.specs.Frame.{max_length, Parts, Outcome, accepted, refused, sentence, calculated, judged, sized, frame, data_from}
use Rattle.frame.proofs.Xor.{one-byte}
use Rattle.frame.proofs.Until.{Clear, clear-set}
use Rattle.frame.proofs.Shape.{line-of, shaped, unknown-line, no-comma, line-back}

-- a refusal by 1, 2, 4, 5 or 6
pub record Caught (o : Outcome) : Type 0 where
  pub why : Refused
  pub is : o ≡ refused why
  pub number : Memᴰ why.number (1 ∷ 2 ∷ 4 ∷ 5 ∷ 6 ∷ [])

-- an accepted line
pub record Accepted (l : List ℕ) (p : Parts) : Type 0 where
  pub rest : List ℕ
  pub reads : sentence l ≡ got p rest
  pub sum : calculated p ≡ p.checksum
  pub short : length l ≤ max_length

pub was-accepted : (l : List ℕ) (p : Parts) → frame l ≡ accepted p → Accepted l p
unfolding frame sized
was-accepted l p e = by (utf8 l) (ascii l) (leb (length l) max_length) refl (sentence l) refl e
  where
    last : (q : Parts) (m : List ℕ) → length l ≤ max_length → sentence l ≡ got q m → (t : Bool) → eqb (calculated q) q.checksum ≡ t
        → cond {A = Outcome} t (accepted q) (refused (bad_checksum (calculated q) q.checksum)) ≡ accepted p → Accepted l p
    last q m h f true g e =
        let k : q ≡ p = cc in
        record { rest = m; reads = f ∙ ap (λ (x : Parts). got x m) k; sum = rw k at (eqb-true (calculated q) q.checksum g); short = h }
    last q m h f false g e = let z : ◌≡◌ {A = ℕ} 0 1 = cc in absurd (omega arith)

    by : (u a s : Bool) → leb (length l) max_length ≡ s → (x : Parse Parts) → sentence l ≡ x
        → cond {A = Outcome} u (cond a (cond s (judged x) (refused (too_long (length l)))) (refused not_ascii)) (refused bad_utf8) ≡ accepted p
        → Accepted l p
    by true true true h (got q m) f e = last q m (leb-true (length l) max_length h) f (eqb (calculated q) q.checksum) refl e
    by true true true h miss f e = let z : ◌≡◌ {A = ℕ} 0 1 = cc in absurd (omega arith)
    by true true true h (refuse g) f e = let z : ◌≡◌ {A = ℕ} 0 1 = cc in absurd (omega arith)
    by true true false h x f e = let z : ◌≡◌ {A = ℕ} 0 1 = cc in absurd (omega arith)
    by true false s h x f e = let z : ◌≡◌ {A = ℕ} 0 1 = cc in absurd (omega arith)
    by false a s h x f e = let z : ◌≡◌ {A = ℕ} 0 1 = cc in absurd (omega arith)

-- a line that is refused for its parts is refused, though 1 or 2 may come first
caught-before : (l : List ℕ) → length l ≤ max_length → Caught (judged (sentence l)) → Caught (frame l)
unfolding frame sized
caught-before l h k = by (utf8 l) (ascii l)
  where
    by : (u a : Bool) → Caught (cond u (cond a (cond (leb (length l) max_length) (judged (sentence l)) (refused (too_long (length l)))) (refused not_ascii)) (refused bad_utf8))
    by true true = rw (le-leb (length l) max_length h) k
    by true false = record { why = not_ascii; is = refl; number = tail (head refl) }
    by false a = record { why = bad_utf8; is = refl; number = head refl }

-- a line of the right shape whose bytes do not come to its digits
line-caught : (a b c d e : ℕ) (text : List ℕ) {v : ℕ} (y z : ℕ) (m : List ℕ) → Clear (byte "*") text → hex (y ∷ z ∷ []) ≡ some v
    → (checksum (a ∷ b ∷ c ∷ d ∷ e ∷ byte "," ∷ text) ≡ v → ⊥)
    → Caught (judged (sentence (line-of a b c d e text y z m)))
line-caught a b c d e text {v} y z m clear digits n = by (listed types (c ∷ d ∷ e ∷ [])) refl
  where
    sum : ℕ
    sum = checksum (a ∷ b ∷ c ∷ d ∷ e ∷ byte "," ∷ text)

    by : (t : Bool) → listed types (c ∷ d ∷ e ∷ []) ≡ t → Caught (judged (sentence (line-of a b c d e text y z m)))
    by true f =
        record {
          why = bad_checksum sum v;
          is = ap judged (line-back a b c d e f y z m clear digits) ∙ rw (ne_eqb _ _ n);
          number = tail (tail (tail (tail (head refl))));
        }
    by false f =
        record {
          why = unknown_type;
          is = ap judged (unknown-line a b c d e (byte "," ∷ (text ++ (byte "*" ∷ y ∷ z ∷ m))) f);
          number = tail (tail (tail (head refl)));
        }

-- a line of the right shape, and the byte `x` in place of another
module _ (a b c d e : ℕ) (text : List ℕ) {v : ℕ} (y z : ℕ) (m : List ℕ) (x : ℕ)
    (clear : Clear (byte "*") text) (listed : listed types (c ∷ d ∷ e ∷ []) ≡ true) (digits : hex (y ∷ z ∷ []) ≡ some v)
    (sum : checksum (a ∷ b ∷ c ∷ d ∷ e ∷ byte "," ∷ text) ≡ v) (no-star : x ≡ byte "*" → ⊥) where
  abbrev body : List ℕ
  body = a ∷ b ∷ c ∷ d ∷ e ∷ byte "," ∷ text

  -- the checksum differs
  differs : (i : ℕ) → i < length body → (x ≡ get_or body i 0 → ⊥) → checksum (set body i x) ≡ v → ⊥
  differs i h n e = n (one-byte 0 body i x h (e ∙ sym sum))

  caught-at : (i : ℕ) → 0 < i → i < data_from + length text → (x ≡ get_or (line-of a b c d e text y z m) i 0 → ⊥)
      → Caught (judged (sentence (set (line-of a b c d e text y z m) i x)))
  caught-at zero h k n = absurd (omega arith)
  caught-at (suc zero) h k n = line-caught x b c d e text y z m clear digits (differs 0 (omega arith) n)
  caught-at (suc (suc zero)) h k n = line-caught a x c d e text y z m clear digits (differs 1 (omega arith) n)
  caught-at (suc (suc (suc zero))) h k n = line-caught a b x d e text y z m clear digits (differs 2 (omega arith) n)
  caught-at (suc (suc (suc (suc zero)))) h k n = line-caught a b c x e text y z m clear digits (differs 3 (omega arith) n)
  caught-at (suc (suc (suc (suc (suc zero))))) h k n = line-caught a b c d x text y z m clear digits (differs 4 (omega arith) n)
  caught-at (suc (suc (suc (suc (suc (suc zero)))))) h k n =
      record {
        why = syntax_error;
        is = ap judged (no-comma a b c d e listed x (text ++ (byte "*" ∷ y ∷ z ∷ m)) n);
        number = tail (tail (head refl));
      }
  caught-at (suc (suc (suc (suc (suc (suc (suc i))))))) h k n =
      let ends : List ℕ = byte "*" ∷ y ∷ z ∷ m in
      let g : i < length text = omega arith in
      let here = get_or-append text ends 0 i g in
      rw (set-append_left text ends i x g)
      (line-caught a b c d e (set text i x) y z m (clear-set (byte "*") i x clear no-star) digits
      (differs (suc (suc (suc (suc (suc (suc i)))))) (omega arith) (λ f. n (f ∙ sym here))))

-- the theorem, of every accepted line
pub one-byte-changed : (l : List ℕ) (p : Parts) → frame l ≡ accepted p → (i b : ℕ) → 0 < i → i < data_from + length p.text
    → (b ≡ get_or l i 0 → ⊥) → (b ≡ byte "*" → ⊥) → Caught (frame (set l i b))
one-byte-changed l p e i b h k n star =
    let w = was-accepted l p e in
    let s = shaped l p w.rest w.reads in
    let text-is : p.text ≡ s.text = ap (λ (q : Parts). q.text) s.parts in
    let sum : checksum (s.a ∷ s.b ∷ s.c ∷ s.d ∷ s.e ∷ byte "," ∷ s.text) ≡ s.v = rw s.parts at w.sum in
    caught-before (set l i b) (simp length-set w.short)
    (rw s.line
    (caught-at s.a s.b s.c s.d s.e s.text s.y s.z w.rest b s.clear s.listed s.digits sum star i h
    (rw text-is at k) (λ f. n (f ∙ sym (ap (λ (x : List ℕ). get_or x i 0) s.line)))))
