-- What each answer of the code says.
use Rattle.decimal.specs.Decimal.{Limits, limits, Decimal, without_sign}
use Rattle.decimal.specs.Code.{Run}
use Rattle.decimal.specs.Places.{Short, Long}
use Rattle.decimal.specs.declared.Limits.{Limits as CodeLimits}
use Rattle.decimal.specs.declared.Run.{Run as CodeRun}
use Rattle.decimal.specs.declared.Decimal.{Decimal as CodeDecimal}
use Rattle.decimal.specs.declared.ShortDecimal.{ShortDecimal}
use Rattle.decimal.specs.declared.LongDecimal.{LongDecimal}

abbrev pub limits_of : CodeLimits → Limits
limits_of l = limits l.all l.before l.after

abbrev pub a_run : CodeRun → Run
a_run r = record { value = r.value; count = r.count }

abbrev pub unsigned : CodeRun → Decimal
unsigned r = without_sign r.value r.count

abbrev pub a_decimal : CodeDecimal → Decimal
a_decimal d = record { minus = d.minus; size = d.size; decimals = d.decimals }

abbrev pub a_short : ShortDecimal → Short
a_short d = record { whole = d.whole; decimals = d.decimals; value = d.value }

abbrev pub a_long : LongDecimal → Long
a_long d = record { minus = d.minus; size = d.size; decimals = d.decimals; billionths = d.billionths; value = d.value }
