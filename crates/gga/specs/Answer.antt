-- What each answer of the code says.
use Rattle.text.specs.Answer.{held}
use Rattle.fields.specs.Answer.{time_held, position_held, short_held}
use Rattle.gga.specs.Gga.{Fix as FixOf, Height as HeightOf, Gga}
use Rattle.gga.specs.declared.Fix.{Fix}
use Rattle.gga.specs.declared.Height.{Height}
use Rattle.gga.specs.declared.GgaData.{GgaData}

abbrev pub fix_of : Fix → FixOf
fix_of f =
    record { time = time_held f.time; position = position_held f.position; quality = f.quality; satellites = held f.satellites }

abbrev pub height_of : Height → HeightOf
height_of h = record { hdop = short_held h.hdop; altitude = short_held h.altitude; geoid = short_held h.geoid }

abbrev pub gga_data : GgaData → Gga
gga_data d = record { fix = fix_of d.fix; height = height_of d.height }
