-- 01: "A non-empty text that is not a plain decimal within limits is Number, exactly then .. Checks run left to right." The data of a
-- GSA sentence has three decimal places, unless its tail is the empty one, and is answered Number exactly where one of them is
-- reached and bad: each place stands behind what the parts before it read, and no other part ends in a fault. Assumes nothing.
use mathlib.Core.List.{List, [], ◌∷◌}
use Rattle.text.specs.Bytes.{byte}
use Rattle.text.specs.Reader.{Reader, ◌>>◌, one_of}
use Rattle.text.specs.Many.{one_of3}
use Rattle.text.proofs.Faults.{never-bind, never-pure, never-or_miss, never-one_of, never-one_of3}
use Rattle.decimal.specs.Decimal.{short}
use Rattle.decimal.proofs.Number.{Place, place, here, unless, NumberAt, behind, never, both, first, otherwise, short-number}
use Rattle.gsa.specs.Gsa.{comma, empty_tail, prn_fields, dop, dops, full_tail, gsa}
use Rattle.gsa.proofs.Never.{never-comma, never-empty, never-items, never-system}

-- behind mode and fix, each with its comma, where the tail is not the empty one, and behind the items: what is read of the dilutions
abbrev pub behind_items : Reader (Unit {0}) → Reader (Unit {0})
behind_items r = do
  one_of (byte "M") (byte "A")
  comma
  one_of3 (byte "1") (byte "2") (byte "3")
  comma
  unless empty_tail
  prn_fields
  r

abbrev pub before_hdop : Reader (Unit {0})
before_hdop = do
  dop
  comma
  here

abbrev pub before_vdop : Reader (Unit {0})
before_vdop = do
  dop
  comma
  dop
  comma
  here

abbrev pub gsa_places : List Place
gsa_places = place short (behind_items here) ∷ place short (behind_items before_hdop) ∷ place short (behind_items before_vdop) ∷ []

dop-number : NumberAt dop (place short here ∷ [])
unfolding dop
dop-number = first short-number (λ d f. never-or_miss d)

abbrev dop_places : List Place
dop_places = place short here ∷ place short before_hdop ∷ place short before_vdop ∷ []

dops-number : NumberAt dops dop_places
unfolding dops
dops-number =
    both dop-number
    (λ p. both (never (λ f. never-comma))
    (λ _. both dop-number (λ h. both (never (λ f. never-comma)) (λ _. first dop-number (λ v f. never-pure _)))))

full-number : NumberAt full_tail (behind prn_fields dop_places)
unfolding full_tail
full-number =
    both (never (λ f. never-items)) (λ xs. first dops-number (λ ds f. never-bind never-system (λ s. never-pure _)))

pub gsa-number : NumberAt gsa gsa_places
unfolding gsa
gsa-number =
    both (never (λ f. never-one_of (byte "M") (byte "A")))
    (λ m. both (never (λ f. never-comma))
    (λ _. both (never (λ f. never-one_of3 (byte "1") (byte "2") (byte "3")))
    (λ x. both (never (λ f. never-comma)) (λ _. first (otherwise (λ f. never-empty) full-number) (λ t f. never-pure _)))))
