-- What each answer of the code says.
use Rattle.std.specs.Prelude.{ℕ, List, Option, Result, Ok, Err, take}
use Rattle.std.proofs.Math.Option.{Option as Maybe}
use Rattle.text.specs.Answer.{held, held_as}
use Rattle.decimal.specs.Answer.{a_short}
use Rattle.gsa.specs.System.{Settled, is as settled_as, mismatch}
use Rattle.gsa.specs.Gsa.{Dops, Gsa, Tail}
use Rattle.gsa.specs.declared.satellites.Satellites.{Satellites}
use Rattle.gsa.specs.declared.Dops.{Dops as CodeDops}
use Rattle.gsa.specs.declared.Tail.{Tail as CodeTail}
use Rattle.gsa.specs.declared.GsaData.{GsaData}
use Rattle.gsa.specs.declared.Mismatch.{Mismatch}

abbrev pub satellites_of : Satellites → List ℕ
satellites_of xs = take xs.count xs.items

abbrev pub three_dops : CodeDops → Dops
three_dops d = record { pdop = a_short d.pdop; hdop = a_short d.hdop; vdop = a_short d.vdop }

abbrev pub dops_of : Option CodeDops → Maybe Dops
dops_of = held_as three_dops

abbrev pub tail_of : CodeTail → Tail
tail_of t = record { satellites = satellites_of t.satellites; dops = dops_of t.dops; system = held t.system }

abbrev pub gsa_of : GsaData → Gsa
gsa_of g =
    record {
      mode = g.mode;
      fix = g.fix;
      satellites = satellites_of g.satellites;
      dops = dops_of g.dops;
      system = held g.system;
    }

abbrev pub settled : Result (Option ℕ) Mismatch → Settled
settled (Ok s) = settled_as (held s)
settled (Err e) = mismatch e.0 e.1
