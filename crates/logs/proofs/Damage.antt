-- Whole lines replaced by other whole lines: what stands outside is read as before, and from a key's next accepted GSV line numbered 1 handed
-- out as before. Assumes nothing.
use Rattle.std.proofs.Common.{◌≡◌, ℕ, suc, ◌+◌, ◌<◌, ◌≤◌, ◌⊎◌, List, [], ◌++◌, map, length, get_or, sym, refl, ap, ◌∙◌, subst, inl, append_assoc, arith, length-append, get_or-append-add}
use mathlib.Core.List.{map-append}
use lib.ListN.{length-map, get_or-append}
use lib.Seq.{take-append-le}
use Rattle.lines.specs.Lines.{lines, Whole}
use Rattle.lines.proofs.Append.{lines-append}
use Rattle.groups.specs.Log.{Gsv, Line, gsv, other, Handed, own}
use Rattle.groups.specs.Group.{HandedOut, EndIn}
use Rattle.groups.proofs.Damage.{same-after-damage}
use Rattle.gsv.specs.Gsv.{Satellite}
use Rattle.fed.specs.Line.{LogLine, blank, said_of}
use Rattle.fed.specs.Seen.{seeing, seen_of}
use Rattle.logs.specs.Told.{says, told}

-- the lines of whole lines, and then of anything
says-append : (a b : List ℕ) → Whole a ⊎ (b ≡ []) → says (a ++ b) ≡ says a ++ says b
says-append a b w = ap (map said_of) (lines-append a b w) ∙ map-append said_of (lines a) (lines b)

told-append : (a b : List ℕ) → Whole a ⊎ (b ≡ []) → told (a ++ b) ≡ told a ++ told b
told-append a b w = ap seen_of (says-append a b w) ∙ map-append seeing (says a) (says b)

told-length : (a : List ℕ) → length (told a) ≡ length (says a)
told-length a = length-map (says a) seeing

moved : {x y : List (Line Satellite)} {p q : ℕ} {h : Handed Satellite} → x ≡ y → p ≡ q → HandedOut x p h → HandedOut y q h
moved {x} {q = q} {h = h} ex ep d = subst (λ (l : List (Line Satellite)). HandedOut l q h) ex (subst (λ (k : ℕ). HandedOut x k h) ep d)

-- what is handed out at a line turns on no later line
front : (x y y' : List (Line Satellite)) (i : ℕ) (h : Handed Satellite) → i < length x → HandedOut (x ++ y) i h → HandedOut (x ++ y') i h
front x y y' i h k d =
    record {
      line = d.line;
      stands = get_or-append x y' other i k ∙ sym (get_or-append x y other i k) ∙ d.stands;
      mine = d.mine;
      ends = subst (λ (l : List (Line Satellite)). EndIn (own h.key l) h.group) (take-append-le (suc i) x y k ∙ sym (take-append-le (suc i) x y' k)) d.ends;
    }

module _ (a b : List ℕ) (whole : Whole a) where
  says-parts : (m : List ℕ) → Whole m ⊎ (b ≡ []) → says (a ++ (m ++ b)) ≡ (says a ++ says m) ++ says b
  says-parts m w =
      says-append a (m ++ b) (inl whole)
      ∙ ap (λ (x : List LogLine). says a ++ x) (says-append m b w)
      ∙ sym (append_assoc (says a) (says m) (says b))

  told-parts : (m : List ℕ) → Whole m ⊎ (b ≡ []) → told (a ++ (m ++ b)) ≡ (told a ++ told m) ++ told b
  told-parts m w =
      told-append a (m ++ b) (inl whole)
      ∙ ap (λ (x : List (Line Satellite)). told a ++ x) (told-append m b w)
      ∙ sym (append_assoc (told a) (told m) (told b))

  before : (m : List ℕ) → length (told a ++ told m) ≡ length (says a) + length (says m)
  before m = let e = told-length a in let f = told-length m in length-append (told a) (told m) ∙ (omega arith)

  -- how many lines there are
  pub says-count : (m : List ℕ) → Whole m ⊎ (b ≡ []) → length (says (a ++ (m ++ b))) ≡ length (says a) + length (says m) + length (says b)
  says-count m w =
      ap length (says-parts m w) ∙ length-append (says a ++ says m) (says b) ∙ ap (λ (k : ℕ). k + length (says b)) (length-append (says a) (says m))

  -- the i-th line of a, and of b
  pub line-before : (m : List ℕ) (i : ℕ) → i < length (says a) → get_or (says (a ++ (m ++ b))) i blank ≡ get_or (says a) i blank
  line-before m i h =
      ap (λ (ss : List LogLine). get_or ss i blank) (says-append a (m ++ b) (inl whole)) ∙ get_or-append (says a) (says (m ++ b)) blank i h

  pub line-after : (m : List ℕ) → Whole m ⊎ (b ≡ []) → (i : ℕ)
      → get_or (says (a ++ (m ++ b))) (length (says a) + length (says m) + i) blank ≡ get_or (says b) i blank
  line-after m w i =
      ap (λ (ss : List LogLine). get_or ss (length (says a) + length (says m) + i) blank) (says-parts m w)
      ∙ ap (λ (k : ℕ). get_or ((says a ++ says m) ++ says b) (k + i) blank) (sym (length-append (says a) (says m)))
      ∙ get_or-append-add (says a ++ says m) (says b) i blank

  module _ (m m' : List ℕ) (w : Whole m ⊎ (b ≡ [])) (w' : Whole m' ⊎ (b ≡ [])) where
    -- what is handed out within a is handed out as before
    pub same-before : (i : ℕ) (h : Handed Satellite) → i < length (says a) → HandedOut (told (a ++ (m ++ b))) i h → HandedOut (told (a ++ (m' ++ b))) i h
    same-before i h k d =
        let k' : i < length (told a) = omega (arith, told-length a) in
        moved (sym (told-append a (m' ++ b) (inl whole))) refl
        (front (told a) (told (m ++ b)) (told (m' ++ b)) i h k' (moved (told-append a (m ++ b) (inl whole)) refl d))

    -- from an accepted GSV line of b numbered 1 on, what is handed out of that line's key within b is handed out as before
    pub same-after : (j : ℕ) (g : Gsv Satellite) → get_or (told b) j other ≡ gsv g → g.number ≡ 1
        → (i : ℕ) (h : Handed Satellite) → j ≤ i → h.key ≡ g.key
        → HandedOut (told (a ++ (m ++ b))) (length (says a) + length (says m) + i) h
        → HandedOut (told (a ++ (m' ++ b))) (length (says a) + length (says m') + i) h
    same-after j g e one i h le mine d =
        moved (sym (told-parts m' w')) (ap (λ (k : ℕ). k + i) (before m'))
        (same-after-damage (told a ++ told m) (told a ++ told m') (told b) j g e one i h le mine
        (moved (told-parts m w) (ap (λ (k : ℕ). k + i) (sym (before m))) d))
