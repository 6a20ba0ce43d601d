-- The measure of the recursion is the exponent, which falls by one.
use Rattle.decimal.proofs.+tens.Given as goal

abbrev pub decreases-tens : goal.decreases-tens
decreases-tens l = l.k
