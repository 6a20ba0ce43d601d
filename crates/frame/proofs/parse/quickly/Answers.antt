-- A line that begins as a sentence does is handed on as such, and one of an unknown type is refused where it is ASCII; of any other nothing
-- is told. Assumes nothing.
use native.Mathlib.Omega.{arith}
use mathlib.Core.Path.{refl, sym, ◌∙◌}
use Rattle.frame.proofs.Quick.{unknown-frame}
use Rattle.frame.proofs.parse.quickly.Goals as goal

pub passed-requires : goal.passed-requires
passed-requires c =
    record {
      long = c.if-len-lt-SHORTEST.false;
      short = c.if-len-gt-MAX_LEN.false;
      dollar = c.if-s-ne36.false;
      letters = refl;
      known = sym c.known.ensures ∙ c.if-known.true;
    }

pub returns : goal.returns
returns c =
    let s = c.args.s.now in
    let low = sym c.is_ascii.ensures ∙ c.if-not-is_ascii.false in
    sym (unknown-frame s (omega arith) c.if-len-gt-MAX_LEN.false low c.if-s-ne36.false (sym c.known.ensures ∙ c.if-known.false))
