-- The parts of a GSA sentence that end in no fault: all but its decimal places. Assumes nothing.
use lib.ListN.{length}
use Rattle.text.specs.Bytes.{byte}
use Rattle.text.specs.Reader.{Fault}
use Rattle.text.proofs.Faults.{Never, never-bind, never-pure, never-opt, never-many, never-char, never-number, never-take_while1, never-all_consuming}
use Rattle.gsa.specs.Gsa.{item_max, system_max, comma, last_system, empty_tail, item, prn_fields, after_comma, opt_system}

module _ {f : Fault} where
  pub never-comma : Never f comma
  never-comma = never-char (byte ",")

  pub never-empty : Never f empty_tail
  unfolding empty_tail last_system
  never-empty =
      never-bind (never-take_while1 (byte ","))
      (λ _. never-bind (never-bind (never-all_consuming (never-opt (never-number system_max))) (λ n. never-pure _)) (λ s. never-pure _))

  pub never-item : Never f item
  unfolding item
  never-item = never-bind (never-opt (never-number item_max)) (λ n. never-bind never-comma (λ _. never-pure n))

  pub never-items : Never f prn_fields
  unfolding prn_fields
  never-items = never-bind (λ l. never-many never-item (length l) l) (λ is. never-pure _)

  pub never-after : Never f after_comma
  unfolding after_comma
  never-after = never-bind never-comma (λ _. never-number system_max)

  pub never-system : Never f opt_system
  unfolding opt_system
  never-system = never-bind (never-opt never-after) (λ n. never-pure _)
