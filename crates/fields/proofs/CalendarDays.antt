-- The dates of the calendar, test by test. Assumes nothing.
use Prim.Native.Nat.{ℕ, ◌≤◌}
use mathlib.Core.Path.{◌≡◌, ap, sym, ◌∙◌}
use mathlib.Core.Bool.{Bool, true, cond, ◌&&◌}
use mathlib.Core.Option.{Option, none, some}
use lib.Dec.{leb}
use borrow.Author.Tests.{le-leb}
use Rattle.fields.specs.Date.{Date, date_of, days_in}

module _ (d m y : ℕ) where
  abbrev day-of : Bool → Option Date
  day-of t = cond t (some (record { year = y; month = m; day = d })) none

  pub good-day : 1 ≤ m → m ≤ 12 → 1 ≤ d → d ≤ days_in y m → day-of true ≡ date_of d m y
  good-day a b e f =
      sym (ap (λ (t : Bool). day-of (t && leb m 12 && leb 1 d && leb d (days_in y m))) (le-leb 1 m a)
      ∙ ap (λ (t : Bool). day-of (t && leb 1 d && leb d (days_in y m))) (le-leb m 12 b)
      ∙ ap (λ (t : Bool). day-of (t && leb d (days_in y m))) (le-leb 1 d e)
      ∙ ap day-of (le-leb d (days_in y m) f))
