-- What the arguments of the code mean, and what its answer says.
use Rattle.std.specs.Prelude.{ℕ, List, Result, Ok, Err}
use Rattle.frame.specs.Frame.{sum_over}
use Rattle.frame.specs.Answer.{talker_bytes, letters}
use Rattle.frame.specs.Answer.{refused as why}
use Rattle.frame.specs.declared.refusal.Talker.{Talker}
use Rattle.frame.specs.declared.refusal.Kind.{Kind}
use Rattle.frame.specs.declared.refusal.Refusal.{Refusal}
use Rattle.held.specs.Calculated.{Sum, comes_to, refused}

-- of a talker, a type and data
abbrev pub sum_of : Talker → Kind → List ℕ → ℕ
sum_of talker kind text = sum_over (talker_bytes talker) (letters kind) text

abbrev pub summed : Result ℕ Refusal → Sum
summed (Ok n) = comes_to n
summed (Err r) = refused (why r)
