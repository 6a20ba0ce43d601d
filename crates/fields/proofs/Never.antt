-- BadTime is never answered: a long decimal has at most nine decimals, which are fewer than 1,000,000,000 nanoseconds (`clear-clock` of
-- Clock), so that a time ends in no fault but Number. Assumes nothing.
use Rattle.text.specs.Reader.{BadTime}
use Rattle.text.proofs.Faults.{Never}
use Rattle.decimal.proofs.Number.{no-bad-time}
use Rattle.fields.specs.Time.{hms}
use Rattle.fields.proofs.Number.{hms-number}

pub never-bad-time : Never BadTime hms
never-bad-time = no-bad-time hms-number
