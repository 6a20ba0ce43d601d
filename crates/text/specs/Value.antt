-- What is read of a whole text, where the text that is left does not matter.
use Rattle.text.specs.Reader.{Fault, Parse, miss, refuse, got}

pub data Value (A : Type 0) : Type 0 where
  syntax : Value A
  fault : Fault → Value A
  is : A → Value A

-- no match at the top is Syntax
abbrev pub value : {A : Type 0} → Parse A → Value A
value miss = syntax
value (refuse f) = fault f
value (got a l) = is a
