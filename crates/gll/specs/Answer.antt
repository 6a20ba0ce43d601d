-- What each answer of the code says.
use Rattle.fields.specs.Answer.{time_held, position_held, letter_held}
use Rattle.gll.specs.Gll.{Gll}
use Rattle.gll.specs.declared.GllData.{GllData}

abbrev pub gll_data : GllData → Gll
gll_data d =
    record { position = position_held d.position; time = time_held d.time; status = d.status; mode = letter_held d.mode }
