-- An answer in brief: what a caller asks who wants no words.
use Rattle.std.proofs.Math.Option.{Option}
use Rattle.frame.specs.Refused.{Refused}
use Rattle.gsv.specs.Talker.{Talker}
use Rattle.gsv.specs.Gsv.{Head, GsvSentence}
use Rattle.answer.specs.Sentence.{Answer, is_rmc, is_gsa, is_gsv, is_gga, is_gll, is_vtg, is_other, is_refused}
use Rattle.fed.specs.Line.{read, accepted_gsv}

-- accepted, an accepted GSV sentence with what stands in front of its entries, or refused
pub data Brief : Type 0 where
  accepted : Brief
  gsv_line : Talker → Head → Brief
  refusal : Refused → Brief

abbrev pub brief_of : Answer → Brief
brief_of (is_rmc r) = accepted
brief_of (is_gsa g) = accepted
brief_of (is_gsv g) = gsv_line g.talker (record { count = g.body.count; index = g.body.index; view = g.body.view })
brief_of (is_gga g) = accepted
brief_of (is_gll g) = accepted
brief_of (is_vtg v) = accepted
brief_of (is_other o) = accepted
brief_of (is_refused r) = refusal r

-- the GSV sentence that an answer is
abbrev pub gsv_in : Answer → Option GsvSentence
gsv_in a = accepted_gsv (read a)
