-- 01, demand 3, over the bytes of logs of any length and the answers of steps from place 0 and a fresh gatherer. (Its first sentence is `hands-out` of
-- Handing.) Assumes nothing.
use Rattle.std.proofs.Common.{◌≡◌, ℕ, suc, ◌+◌, ◌<◌, ◌≤◌, true, ◌⊎◌, ◌↔◌, List, [], ◌∷◌, ◌++◌, map, length, get_or, take, drop, set, sym, refl, ap, ◌∙◌, arith, length-append, get_or-append-add}
use mathlib.Core.List.{map-append}
use mathlib.Core.Option.{some}
use Rattle.text.specs.Bytes.{byte}
use Rattle.frame.specs.Refused.{Refused}
use Rattle.frame.specs.Frame.{Parts, accepted, frame, data_from}
use Rattle.frame.proofs.Within.{star-within}
use Rattle.lines.specs.Lines.{lines, Whole}
use Rattle.lines.specs.Places.{is_place, rest, line_at}
use Rattle.lines.proofs.OneByte.{lines-around, one-byte}
use Rattle.groups.specs.Log.{Gsv, gsv, other, Handed}
use Rattle.gsv.specs.Gsv.{Satellite}
use Rattle.answer.specs.Sentence.{answer, is_refused}
use Rattle.answer.proofs.OneByte.{Refuses, one-byte-refused}
use Rattle.fed.specs.Line.{LogLine, blank, read, said_of}
use Rattle.logs.specs.Told.{says, told, step_after, line_in, Gives}
use Rattle.logs.proofs.Damage.{says-count, line-before, line-after, same-before, same-after}
use Rattle.logs.proofs.Handing.{says-line, hands-out}

-- WHOLE LINES m REPLACED BY WHOLE LINES m', between a and b. (Where nothing follows, the last line may lack its line feed.)
module _ (a b m m' : List ℕ) (whole : Whole a) (w : Whole m ⊎ (b ≡ [])) (w' : Whole m' ⊎ (b ≡ [])) where
  abbrev log : List ℕ
  log = a ++ (m ++ b)

  abbrev log' : List ℕ
  log' = a ++ (m' ++ b)

  -- where the lines of b begin
  abbrev pub from : ℕ
  from = length (says a) + length (says m)

  abbrev pub from' : ℕ
  from' = length (says a) + length (says m')

  -- "all lines outside keep their answers": those before
  pub keeps-before : (i : ℕ) → i < length (says a) → line_in (step_after i log).answer ≡ line_in (step_after i log').answer
  keeps-before i h =
      says-line log i (omega (arith, says-count a b whole m w))
      ∙ ap (λ (s : LogLine). some s) (line-before a b whole m i h ∙ sym (line-before a b whole m' i h))
      ∙ sym (says-line log' i (omega (arith, says-count a b whole m' w')))

  -- and those after
  pub keeps-after : (i : ℕ) → i < length (says b) → line_in (step_after (from + i) log).answer ≡ line_in (step_after (from' + i) log').answer
  keeps-after i h =
      says-line log (from + i) (omega (arith, says-count a b whole m w))
      ∙ ap (λ (s : LogLine). some s) (line-after a b whole m w i ∙ sym (line-after a b whole m' w' i))
      ∙ sym (says-line log' (from' + i) (omega (arith, says-count a b whole m' w')))

  -- groups that are handed out before are the same
  pub groups-before : (i : ℕ) → i < length (says a) → (h : Handed Satellite)
      → Gives (step_after i log) h ↔ Gives (step_after i log') h
  groups-before i k h =
      let x = hands-out log i (omega (arith, says-count a b whole m w)) h in
      let y = hands-out log' i (omega (arith, says-count a b whole m' w')) h in
      (λ g. y.1 (same-before a b whole m m' w w' i h k (x.0 g)), λ g. x.1 (same-before a b whole m' m w' w i h k (y.0 g)))

  -- "each system's groups are the same from its next accepted GSV numbered 1", which stands at j of b
  pub groups-after : (j : ℕ) (g : Gsv Satellite) → get_or (told b) j other ≡ gsv g → g.number ≡ 1
      → (i : ℕ) → j ≤ i → i < length (says b) → (h : Handed Satellite) → h.key ≡ g.key
      → Gives (step_after (from + i) log) h ↔ Gives (step_after (from' + i) log') h
  groups-after j g e one i le k h mine =
      let x = hands-out log (from + i) (omega (arith, says-count a b whole m w)) h in
      let y = hands-out log' (from' + i) (omega (arith, says-count a b whole m' w')) h in (
        λ q. y.1 (same-after a b whole m m' w w' j g e one i h le mine (x.0 q)),
        λ q. x.1 (same-after a b whole m' m w' w j g e one i h le mine (y.0 q)),
      )

-- ONE BYTE c AT k OF THE LINE AT p, between its `$` and its closing `*`, in place of another; c is neither `*` nor a line feed
module _ (log : List ℕ) (p : ℕ) (place : is_place log p ≡ true) (q : Parts)
    (passed : frame (line_at log p) ≡ accepted q) (k c : ℕ) (first : 0 < k) (last : k < data_from + length q.text)
    (another : c ≡ get_or (line_at log p) k 0 → ⊥) (star : c ≡ byte "*" → ⊥) (feed : c ≡ byte "\n" → ⊥) where
  abbrev pub damaged : List ℕ
  damaged = set log (p + k) c

  -- its index among the lines
  abbrev pub index : ℕ
  index = length (says (take p log))

  inside : suc k < length (line_at log p)
  inside = omega (arith, star-within (line_at log p) q passed)

  pub refuses : Refuses (answer (set (line_at log p) k c))
  refuses = one-byte-refused (line_at log p) q passed k c first last another star

  abbrev pub why : Refused
  why = refuses.why

  said-set : (l : List ℕ) → suc k < length l → said_of (set l k c) ≡ read (answer (set l k c))
  said-set [] h = absurd (omega arith)
  said-set (x ∷ l) h = by k
    where
      by : (k : ℕ) → said_of (set (x ∷ l) k c) ≡ read (answer (set (x ∷ l) k c))
      by ℕ.zero = refl
      by (suc k) = refl

  before : List LogLine
  before = says (take p log)

  after : List LogLine
  after = says (rest (drop p log))

  was : says log ≡ before ++ (said_of (line_at log p) ∷ after)
  unfolding before after
  was = ap (map said_of) (lines-around log p place (omega (arith, inside))) ∙ map-append said_of (lines (take p log)) _

  is : says damaged ≡ before ++ (read (is_refused why) ∷ after)
  unfolding before after
  is =
      ap (map said_of) (one-byte log p place k c inside feed)
      ∙ map-append said_of (lines (take p log)) _
      ∙ ap (λ (s : LogLine). before ++ (s ∷ after)) (said-set (line_at log p) inside ∙ ap read refuses.is)

  count : length (says damaged) ≡ length (says log)
  unfolding before after
  count = ap length is ∙ length-append before _ ∙ sym (ap length was ∙ length-append before _)

  index-in : index < length (says damaged)
  unfolding before after
  index-in = omega (arith, ap length is ∙ length-append before (read (is_refused why) ∷ after))

  -- "that line is refused"
  pub line-refused : line_in (step_after index damaged).answer ≡ some (read (is_refused why))
  unfolding before after
  line-refused =
      let z : index ≡ length before + 0 = omega arith in
      says-line damaged index index-in
      ∙ ap (λ (ss : List LogLine). some (get_or ss index blank)) is
      ∙ ap (λ (i : ℕ). some (get_or (before ++ (read (is_refused why) ∷ after)) i blank)) z
      ∙ ap (λ (s : LogLine). some s) (get_or-append-add before (read (is_refused why) ∷ after) 0 blank)

  -- and every other line keeps its answer
  other-line : (s t : LogLine) (i : ℕ) → (i ≡ index → ⊥) → get_or (before ++ (s ∷ after)) i blank ≡ get_or (before ++ (t ∷ after)) i blank
  unfolding before after
  other-line s t i n = go before i n
    where
      go : (b : List LogLine) (i : ℕ) → (i ≡ length b → ⊥) → get_or (b ++ (s ∷ after)) i blank ≡ get_or (b ++ (t ∷ after)) i blank
      go [] ℕ.zero n = absurd (n refl)
      go [] (suc i) n = refl
      go (x ∷ b) ℕ.zero n = refl
      go (x ∷ b) (suc i) n = go b i (λ e. n (ap suc e))

  pub others-keep : (i : ℕ) → i < length (says log) → (i ≡ index → ⊥) → line_in (step_after i damaged).answer ≡ line_in (step_after i log).answer
  others-keep i h n =
      says-line damaged i (omega (arith, count))
      ∙ ap (λ (ss : List LogLine). some (get_or ss i blank)) is
      ∙ ap (λ (s : LogLine). some s) (other-line (read (is_refused why)) (said_of (line_at log p)) i n)
      ∙ ap (λ (ss : List LogLine). some (get_or ss i blank)) (sym was)
      ∙ sym (says-line log i h)
