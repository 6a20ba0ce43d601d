-- The data of a GSV sentence ends in no fault: it has no decimal place and no time. Assumes nothing.
use Prim.Native.Nat.{ℕ}
use mathlib.Core.List.{[], ◌∷◌}
use Rattle.text.specs.Bytes.{byte}
use Rattle.text.specs.Reader.{Fault, opt, char}
use Rattle.text.specs.Number.{number}
use Rattle.text.proofs.Faults.{Never, Faultless, clear-got, never-bind, never-pure, never-opt, never-char, never-number}
use Rattle.gsv.specs.Gsv.{count_max, id_max, place_max, closing, counted, cell, entry, gsv}

module _ {f : Fault} where
  never-comma : Never f (char (byte ","))
  never-comma = never-char (byte ",")

  never-closing : Never f closing
  unfolding closing
  never-closing [] e = clear-got tt [] e
  never-closing (b ∷ l) e = never-comma (b ∷ l) e

  never-counted : (max : ℕ) → Never f (counted max)
  unfolding counted
  never-counted max = never-bind (never-number max) (λ n. never-bind never-comma (λ _. never-pure n))

  never-opt-number : (max : ℕ) → Never f (opt (number max))
  never-opt-number max = never-opt (never-number max)

  never-cell : (max : ℕ) → Never f (cell max)
  unfolding cell
  never-cell max = never-bind (never-opt-number max) (λ n. never-bind never-comma (λ _. never-pure n))

  pub never-entry : Never f entry
  unfolding entry
  never-entry =
      never-bind (never-counted id_max)
      (λ i. never-bind (never-cell place_max)
      (λ e. never-bind (never-cell place_max)
      (λ a. never-bind (never-opt-number place_max) (λ s. never-bind never-closing (λ _. never-pure _)))))

  pub opt-entry : Never f (opt entry)
  opt-entry = never-opt never-entry

pub never-gsv : Faultless gsv
unfolding gsv
never-gsv f =
    never-bind
    (never-bind (never-counted count_max)
    (λ c. never-bind (never-counted count_max) (λ i. never-bind (never-counted count_max) (λ v. never-pure _))))
    (λ h. never-bind opt-entry (λ x. never-bind opt-entry (λ y. never-bind opt-entry (λ z. never-bind opt-entry (λ w. never-pure _)))))
