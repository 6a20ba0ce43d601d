-- `parse_date` meets its contract: three numbers, and what the calendar says of them. Assumes nothing.
use mathlib.Core.Path.{refl, sym}
use Rattle.text.proofs.Places.{took}
use Rattle.text.proofs.Fixed.{fixed-limit}
use Rattle.text.proofs.Finding.{finding}
use Rattle.fields.specs.Date.{date}
use Rattle.fields.proofs.date.parse_date.Goals as goal

pub returns-in_err-day : goal.returns-in_err-day
unfolding date
returns-in_err-day c = search finding depth 14

pub returns-in_err-month : goal.returns-in_err-month
unfolding date
returns-in_err-month c = search finding depth 14

pub returns-in_err-year : goal.returns-in_err-year
unfolding date
returns-in_err-year c = search finding depth 14

pub full_year-requires : goal.full_year-requires
full_year-requires c = fixed-limit 2 _ (took c.in_ok-year.ensures.reads refl).reads

pub returns-in_default : goal.returns-in_default
unfolding date
returns-in_default c = let e = sym (rw c.full_year.ensures at c.in_default.ensures) in search finding depth 14

pub returns : goal.returns
unfolding date
returns c = let e = sym (rw c.full_year.ensures at c.in-Some.ensures) in search finding depth 14
