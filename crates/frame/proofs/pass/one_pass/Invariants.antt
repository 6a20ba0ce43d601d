-- What each turn of the loop keeps: what the whole comes to is what the bytes that are left come to, from what was found so far.
use mathlib.Core.Path.{◌≡◌}
use mathlib.Core.Bool.{◌&&◌, ◌||◌}
use lib.Dec.{ltb}
use lib.ListN.{drop}
use lib.Seq.{slice}
use Rattle.utf8.specs.Utf8.{ascii}
use Rattle.text.specs.Bytes.{byte}
use Rattle.text.specs.Reader.{among}
use Rattle.frame.specs.Checksum.{checksum, checksum_from}
use Rattle.frame.proofs.pass.one_pass.Given as goal

abbrev pub invariant-loop-i : goal.invariant-loop-i
invariant-loop-i l = record {
  sum : checksum (slice 1 l.to l.s) ≡ checksum_from l.sum (slice l.i l.to l.s);
  star : among (byte "*") (slice 1 l.to l.s) ≡ (l.star || among (byte "*") (slice l.i l.to l.s));
  top : ascii l.s ≡ (ltb l.top 0x80 && ascii (drop l.i l.s));
}
