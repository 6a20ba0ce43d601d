-- A GSV sentence as the theory of groups has it.
use Rattle.groups.specs.Log.{Gsv}
use Rattle.gsv.specs.Gsv.{Satellite, present, GsvSentence}
use Rattle.rows.specs.Key.{key_of}

-- its row, n, number, in-view count and present entries
abbrev pub line_of : GsvSentence → Gsv Satellite
line_of s =
    record {
      key = key_of s;
      n = s.body.count;
      number = s.body.index;
      view = s.body.view;
      sats = present s.body;
    }
