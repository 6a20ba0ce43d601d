-- `after_comma` meets its contract: without a comma nothing is eaten, after one a letter that may be absent. Assumes nothing.
use mathlib.Core.Path.{refl}
use mathlib.Core.Option.{none, some}
use Rattle.std.specs.Prelude.{Ok}
use Rattle.text.specs.Bytes.{byte}
use Rattle.text.specs.Reader.{opt, char}
use Rattle.text.specs.Answer.{Finds, itself}
use Rattle.text.proofs.Faults.{never-char, never-letter_of}
use Rattle.text.proofs.Finding.{go-on, done, opt-found, opt-not}
use Rattle.rmc.specs.Rmc.{opt_letter, if_comma}
use Rattle.rmc.proofs.after_comma.Goals as goal

pub returns-in_default : goal.returns-in_default
unfolding if_comma opt_letter
returns-in_default c =
    let comma : Finds c.args.s.now c.args.at (opt (char (byte ","))) itself (Ok (none, c.args.at))
    = opt-not (λ f. never-char _) c.in_default.is refl refl c.byte.ensures in
    go-on _ comma (done refl refl)

pub returns-in-Ok-one_among : goal.returns-in-Ok-one_among
unfolding if_comma opt_letter
returns-in-Ok-one_among c =
    let comma : Finds c.args.s.now c.args.at (opt (char (byte ","))) itself (Ok (some tt, c.in-Ok.next))
    = opt-found c.in-Ok.is refl refl c.byte.ensures in
    go-on _ comma (opt-found c.in-Ok-one_among.is refl refl c.one_among.ensures)

pub returns-in-Err : goal.returns-in-Err
unfolding if_comma opt_letter
returns-in-Err c =
    let comma : Finds c.args.s.now c.args.at (opt (char (byte ","))) itself (Ok (some tt, c.in-Ok.next))
    = opt-found c.in-Ok.is refl refl c.byte.ensures in
    go-on _ comma (opt-not (λ f. never-letter_of _) c.in-Err.is refl refl c.one_among.ensures)
