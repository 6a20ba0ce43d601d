-- What each answer of the code says.
use Rattle.std.specs.Prelude.{Option}
use Rattle.std.proofs.Math.Option.{Option as Maybe}
use Rattle.text.specs.Answer.{held, held_as}
use Rattle.gsv.specs.Talker.{Talker, ga, gp, gl, bd, gb, gi, gq, pq, qz, System, gps, glonass, galileo, beidou, qzss, navic}
use Rattle.gsv.specs.Gsv.{Satellite, Head, Gsv, GsvSentence}
use Rattle.gsv.specs.declared.GsvTalker.{GsvTalker}
use Rattle.gsv.specs.declared.GsvTalker.TheVariants.{Ga, Gp, Gl, Bd, Gb, Gi, Gq, Pq, Qz}
use Rattle.gsv.specs.declared.GnssType.{GnssType}
use Rattle.gsv.specs.declared.GnssType.TheVariants.{Gps, Glonass, Galileo, Beidou, Qzss, NavIC}
use Rattle.gsv.specs.declared.SatInfo.{SatInfo}
use Rattle.gsv.specs.declared.GsvHead.{GsvHead}
use Rattle.gsv.specs.declared.GsvData.{GsvData}
use Rattle.gsv.specs.declared.GsvRecord.{GsvRecord}

abbrev pub talker : GsvTalker → Talker
talker Ga = ga
talker Gp = gp
talker Gl = gl
talker Bd = bd
talker Gb = gb
talker Gi = gi
talker Gq = gq
talker Pq = pq
talker Qz = qz

abbrev pub gnss : GnssType → System
gnss Gps = gps
gnss Glonass = glonass
gnss Galileo = galileo
gnss Beidou = beidou
gnss Qzss = qzss
gnss NavIC = navic

abbrev pub satellite : SatInfo → Satellite
satellite t =
    record { id = t.id; elevation = held t.elevation; azimuth = held t.azimuth; signal = held t.signal }

abbrev pub slot : Option SatInfo → Maybe Satellite
slot = held_as satellite

abbrev pub head_of : GsvHead → Head
head_of h = record { count = h.count; index = h.index; view = h.view }

abbrev pub gsv_data : GsvData → Gsv
gsv_data g =
    record {
      count = g.count;
      index = g.index;
      view = g.view;
      first = slot g.first;
      second = slot g.second;
      third = slot g.third;
      fourth = slot g.fourth;
    }

abbrev pub gsv_sentence : GsvRecord → GsvSentence
gsv_sentence g = record { talker = talker g.talker; body = gsv_data g.data }
