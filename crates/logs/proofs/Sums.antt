-- Totals are counts of the log's lines, whatever its length: each step counts the line that it answers. Assumes nothing.
use Rattle.std.proofs.Common.{◌≡◌, ℕ, zero, suc, ◌+◌, ◌-◌, ◌<◌, ◌≤◌, Bool, true, false, ltb, ◌⊎◌, List, [], length, take, drop, sym, refl, ap, ◌∙◌, inl, inr, ⊎_elim, arith, length-drop, drop_of_length-le, ltb-false, ltb-true}
use lib.Seq.{take-nil}
use Rattle.lines.specs.Places.{is_place, rest, line_at, next_place}
use Rattle.lines.proofs.Next.{next-place, drop-next, lines-here, lines-end}
use Rattle.fed.specs.Line.{LogLine, said_of, said_all, accepted_gsv, Gatherer, gathers, is_blank, is_accepted, is_refusal}
use Rattle.fed.specs.Fed.{once_if, is_handed, how_many, gathered, groups_of}
use Rattle.logs.specs.declared.walk.Counts.{Counts}
use Rattle.logs.specs.Walk.{tallied, grouped, Going, begin}
use Rattle.logs.specs.Totals.{behind, said, totals}
use Rattle.logs.proofs.Places.{place-within}
use Rattle.logs.proofs.Goes.{going, going-next, go_on, go-none, go-end, go-more}

-- totals on top of what was counted before
abbrev pub on_top : Going → List LogLine → ℕ → Going
on_top w ss next =
    record {
      counts = record {
        lines = w.counts.lines + length ss;
        blank = w.counts.blank + how_many is_blank ss;
        accepted = w.counts.accepted + how_many is_accepted ss;
        refused = w.counts.refused + how_many is_refusal ss;
        groups = w.counts.groups + groups_of w.gatherer ss;
        next = next;
      };
      gatherer = gathered w.gatherer ss;
    }

plus-zero : (x : ℕ) → x ≡ x + 0
plus-zero x = omega arith

on_top-none : (w : Going) (p : ℕ) → w.counts.next ≡ p → w ≡ on_top w [] p
on_top-none w p e =
    λ i.
    record {
      counts = record {
        lines = plus-zero w.counts.lines i;
        blank = plus-zero w.counts.blank i;
        accepted = plus-zero w.counts.accepted i;
        refused = plus-zero w.counts.refused i;
        groups = plus-zero w.counts.groups i;
        next = e i;
      };
      gatherer = w.gatherer;
    }

zero-plus : (x : ℕ) → 0 + x ≡ x
zero-plus x = omega arith

assoc : (x y z : ℕ) → x + y + z ≡ x + (y + z)
assoc x y z = omega arith

grouped-is : (c : Counts) (b : Bool)
    → grouped c b
    ≡ record {
      lines = c.lines;
      blank = c.blank;
      accepted = c.accepted;
      refused = c.refused;
      groups = c.groups + once_if b;
      next = c.next;
    }
grouped-is c true = refl
grouped-is c false =
    λ i.
    record {
      lines = c.lines;
      blank = c.blank;
      accepted = c.accepted;
      refused = c.refused;
      groups = plus-zero c.groups i;
      next = c.next;
    }

one-more : (x y : ℕ) → x + 1 + y ≡ x + suc y
one-more x y = omega arith

-- one line, and then others
on_top-more : (w : Going) (s : LogLine) (b : Bool) (g : Gatherer) (p q : ℕ) (ss : List LogLine) (k : ℕ) → once_if b + groups_of g ss ≡ k
    → on_top (record { counts = grouped (tallied w.counts s p) b; gatherer = g }) ss q
    ≡ record {
      counts = record {
        lines = w.counts.lines + suc (length ss);
        blank = w.counts.blank + (once_if (is_blank s) + how_many is_blank ss);
        accepted = w.counts.accepted + (once_if (is_accepted s) + how_many is_accepted ss);
        refused = w.counts.refused + (once_if (is_refusal s) + how_many is_refusal ss);
        groups = w.counts.groups + k;
        next = q;
      };
      gatherer = gathered g ss;
    }
on_top-more w s b g p q ss k e =
    ap (λ (c : Counts). on_top (record { counts = c; gatherer = g }) ss q) (grouped-is (tallied w.counts s p) b)
    ∙ (λ i.
    record {
      counts = record {
        lines = one-more w.counts.lines (length ss) i;
        blank = assoc w.counts.blank (once_if (is_blank s)) (how_many is_blank ss) i;
        accepted = assoc w.counts.accepted (once_if (is_accepted s)) (how_many is_accepted ss) i;
        refused = assoc w.counts.refused (once_if (is_refusal s)) (how_many is_refusal ss) i;
        groups = (assoc w.counts.groups (once_if b) (groups_of g ss) ∙ ap (λ (x : ℕ). w.counts.groups + x) e) i;
        next = q;
      };
      gatherer = gathered g ss;
    })

behind-nil : (n : ℕ) → behind n [] ≡ []
unfolding rest
behind-nil zero = refl
behind-nil (suc n) = behind-nil n

abbrev pub place : List ℕ → ℕ → ℕ → ℕ
place log p n = length log - length (behind n (drop p log))

pub upto : (m n : ℕ) → (m < n) ⊎ (n ≤ m)
upto m n = go (ltb m n) refl
  where
    go : (t : Bool) → ltb m n ≡ t → (m < n) ⊎ (n ≤ m)
    go true e = inl (ltb-true m n e)
    go false e = inr (ltb-false m n e)

module _ (log : List ℕ) where
  here-place : (p : ℕ) → p ≤ length log → p ≡ length log - length (drop p log)
  here-place p h = let e = length-drop p log in omega arith

  -- nothing is left
  at-the-end : (n : ℕ) (w : Going) → w.counts.next ≤ length log → length log ≤ w.counts.next
      → go_on log n w ≡ on_top w (said log w.counts.next n) (place log w.counts.next n)
  at-the-end n w h k =
      let p = w.counts.next in
      let none' : said log p n ≡ [] = ap (λ (ls : List (List ℕ)). said_all (take n ls)) (lines-end log p k) ∙ ap said_all (take-nil n) in
      let left : length (behind n (drop p log)) ≡ 0 = ap (λ (l : List ℕ). length (behind n l)) (drop_of_length-le log k) ∙ ap length (behind-nil n) in
      go-end log n w k
      ∙ on_top-none w (place log p n) (omega arith)
      ∙ ap (λ (ss : List LogLine). on_top w ss (place log p n)) (sym none')

  -- one line more
  one-line : (n : ℕ) (w : Going) → w.counts.next < length log
      → go_on log n (going log w) ≡ on_top (going log w) (said log (going log w).counts.next n) (place log (going log w).counts.next n)
      → go_on log (suc n) w ≡ on_top w (said log w.counts.next (suc n)) (place log w.counts.next (suc n))
  one-line n w h ih =
      let p = w.counts.next in
      let q = next_place log p in
      let s = said_of (line_at log p) in
      let z : suc n - 1 ≡ n = omega arith in
      let pos : 0 < suc n = omega arith in
      let h' : p ≤ length log = omega arith in
      go-more log (suc n) w pos h
      ∙ ap (λ (k : ℕ). go_on log k (going log w)) z
      ∙ ih
      ∙ ap (λ (k : ℕ). on_top (going log w) (said log k n) (place log k n)) (going-next log w)
      ∙ on_top-more w s (is_handed (gathers w.gatherer (accepted_gsv s)).handed) (gathers w.gatherer (accepted_gsv s)).gatherer q (place log q n) (said log q n) _ refl
      ∙ ap (λ (ls : List (List ℕ)). on_top w (said_all (take (suc n) ls)) (place log q n)) (sym (lines-here log p h))
      ∙ ap (λ (l : List ℕ). on_top w (said log p (suc n)) (length log - length (behind n l))) (drop-next log p h')

  pub on-top : (n : ℕ) (w : Going) → is_place log w.counts.next ≡ true
      → go_on log n w ≡ on_top w (said log w.counts.next n) (place log w.counts.next n)
  on-top zero w e =
      go-none log zero w refl ∙ on_top-none w (length log - length (drop w.counts.next log)) (here-place w.counts.next (place-within log w.counts.next e))
  on-top (suc n) w e = ⊎_elim
      (λ h. one-line n w h (on-top n (going log w) (ap (is_place log) (going-next log w) ∙ next-place log w.counts.next (place-within log w.counts.next e))))
      (λ k. at-the-end (suc n) w (place-within log w.counts.next e) k)
      (upto w.counts.next (length log))

  -- THE THEOREM: totals, next place and gatherer are those of the lines that were taken
  pub sums : (p n : ℕ) (g : Gatherer) → is_place log p ≡ true → go_on log n (begin p g) ≡ totals log p n g
  unfolding totals
  sums p n g e =
      let ss = said log p n in
      on-top n (begin p g) e
      ∙ (λ i.
      record {
        counts = record {
          lines = zero-plus (length ss) i;
          blank = zero-plus (how_many is_blank ss) i;
          accepted = zero-plus (how_many is_accepted ss) i;
          refused = zero-plus (how_many is_refusal ss) i;
          groups = zero-plus (groups_of g ss) i;
          next = place log p n;
        };
        gatherer = gathered g ss;
      })
