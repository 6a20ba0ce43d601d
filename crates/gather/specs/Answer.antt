-- What each answer of the code says.
use Rattle.gsv.specs.Answer.{gnss}
use Rattle.rows.specs.Key.{Source}
use Rattle.gather.specs.declared.table.Source as Code

abbrev pub source : Code.Source → Source
source s = record { system = gnss s.system }
