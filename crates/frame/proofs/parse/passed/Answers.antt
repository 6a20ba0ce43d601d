-- A line that ends with its checksum, has no `*` before that and is ASCII is a sentence, and its checksum decides; of any other nothing is
-- told. Assumes nothing.
use Prim.Native.Nat.{◌-◌}
use native.Mathlib.Omega.{arith}
use mathlib.Core.Path.{◌≡◌, sym, ◌∙◌}
use lib.ListN.{length}
use lib.Seq.{slice}
use Rattle.frame.specs.Checksum.{checksum}
use Rattle.frame.specs.Frame.{compared, frame}
use Rattle.frame.specs.Answer.{letters}
use Rattle.frame.proofs.Judged.{sums-equal, sums-differ}
use Rattle.frame.proofs.Quick.{Enclosed, ends-with, parts-in, enclosed-frame}
use Rattle.frame.proofs.parse.passed.Goals as goal

pub returns-then-x-found : goal.returns-then-x-found
returns-then-x-found c =
    let line = c.args.s.now in
    let enclosed : Enclosed line (letters c.args.kind) c.in-Ok.found (length line - 3) = record {
      head = c.requires;
      comma = c.if-s-ne44.false;
      end = omega (arith, c.requires.long);
      digits = ends-with c.in-Ok.ensures (omega arith);
    } in
    let pass = c.one_pass-x.ensures in
    let decided : frame line ≡ compared (checksum (slice 1 (length line - 3) line)) (parts-in line enclosed) =
    enclosed-frame line enclosed (sym pass.star ∙ c.if-x.false) c.if-x-gt127.false pass.top in
    rw c.new.ensures (sums-equal (parts-in line enclosed) pass.sum c.if-x-found.true ∙ sym decided)

pub returns : goal.returns
returns c =
    let line = c.args.s.now in
    let enclosed : Enclosed line (letters c.args.kind) c.in-Ok.found (length line - 3) = record {
      head = c.requires;
      comma = c.if-s-ne44.false;
      end = omega (arith, c.requires.long);
      digits = ends-with c.in-Ok.ensures (omega arith);
    } in
    let pass = c.one_pass-x.ensures in
    let decided : frame line ≡ compared (checksum (slice 1 (length line - 3) line)) (parts-in line enclosed) =
    enclosed-frame line enclosed (sym pass.star ∙ c.if-x.false) c.if-x-gt127.false pass.top in
    sums-differ (parts-in line enclosed) pass.sum c.if-x-found.false ∙ sym decided
