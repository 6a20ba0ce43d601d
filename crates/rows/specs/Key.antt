-- What a run belongs to, and the row that it has. There is a row for each system, in the order of the systems' numbers.
use Rattle.std.specs.Prelude.{ℕ, ◌-◌}
use Rattle.gsv.specs.Talker.{Talker, System, system_of, system_number}
use Rattle.gsv.specs.Gsv.{GsvSentence}

-- what a group is gathered from
pub record Source : Type 0 where
  pub system : System

abbrev pub source_from : Talker → Source
source_from t = record { system = system_of t }

abbrev pub source_of : GsvSentence → Source
source_of s = source_from s.talker

abbrev pub row_from : Source → ℕ
row_from s = system_number s.system - 1

abbrev pub key_of : GsvSentence → ℕ
key_of s = row_from (source_of s)

abbrev pub row_count : ℕ
row_count = 6
