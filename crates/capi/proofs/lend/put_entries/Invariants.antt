-- What each turn of the loop keeps: the first `i` entries are put.
use Rattle.std.proofs.Common.{◌≡◌}
use lib.Seq.{sets}
use Rattle.gather.specs.Words.{sats_from}
use Rattle.capi.specs.Lend.{entries_words}
use Rattle.capi.proofs.lend.put_entries.Given as goal

abbrev pub invariant-loop-i : goal.invariant-loop-i
invariant-loop-i l = l.out ≡ sets l.initial.out 5 (entries_words (sats_from 0 l.i l.row))
