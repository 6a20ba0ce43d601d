-- A run whose entries can be cut into the lines that have come.
use Rattle.std.specs.Prelude.{ℕ, ◌≤◌, ◌-◌, List}
use Rattle.groups.specs.Log.{line_max}
use Rattle.groups.specs.Step.{Open}
use Rattle.pack.specs.Cut.{Cut}

-- R says which entries a line with that in-view count can have
pub record Packs {A : Type 0} (R : ℕ → List A → Type 0) (o : Open A) : Type 0 where
  pub begun : 2 ≤ o.next
  pub open' : o.next ≤ o.n
  pub high : o.n ≤ line_max
  pub cut : Cut (R o.view) (o.next - 1) o.sats
