-- `last_system` meets its contract: a number if there is one, then the end, then what is known of the number. Assumes nothing.
use mathlib.Core.Path.{◌≡◌, refl}
use borrow.Author.Rules.{rules}
use Rattle.text.specs.Answer.{held}
use Rattle.text.proofs.Places.{stop, go, done, done-as}
use Rattle.text.specs.Many.{all_consuming}
use Rattle.gsa.specs.Gsa.{if_known, last_system}
use Rattle.gsa.proofs.Ends.{at-end, not-end}
use Rattle.gsa.proofs.last_system.Goals as goal

pub returns-then-at-s : goal.returns-then-at-s
unfolding all_consuming last_system
returns-then-at-s c = record { reads = stop _ (go _ c.opt_number-n.ensures.reads refl (stop _ (not-end c.if-at-s.true) refl)) refl }

pub returns : goal.returns
unfolding all_consuming last_system
returns c =
    let e : held c.and_then.result ≡ if_known (held c.opt_number-n.result.0) = search rules in
    record { reads = go _ (go _ c.opt_number-n.ensures.reads refl (go _ (at-end c.if-at-s.false) refl (done _ _ _))) refl (done-as e) }
