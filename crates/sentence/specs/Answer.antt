-- What each answer of the code says.
use Rattle.std.specs.Prelude.{Result, Ok, Err}
use Rattle.frame.specs.Answer.{talker_bytes, letters, refused}
use Rattle.frame.specs.declared.refusal.Refusal.{Refusal}
use Rattle.gsv.specs.Answer.{gsv_sentence}
use Rattle.gsa.specs.Answer.{gsa_of}
use Rattle.rmc.specs.Answer.{rmc_data}
use Rattle.gga.specs.Answer.{gga_data}
use Rattle.gll.specs.Answer.{gll_data}
use Rattle.vtg.specs.Answer.{vtg_data}
use Rattle.answer.specs.Sentence.{Answer, is_rmc, is_gsa, is_gsv, is_gga, is_gll, is_vtg, is_other, is_refused, Sentence, Formatter, rmc_type, gsa_type, gsv_type, gga_type, gll_type, vtg_type, other_type}
use Rattle.sentence.specs.declared.Message.{Message}
use Rattle.sentence.specs.declared.Record.{Record}
use Rattle.sentence.specs.declared.Record.TheVariants.{Rmc as ARmc, Gsa as AGsa, Gsv as AGsv, Gga as AGga, Gll as AGll, Vtg as AVtg, Other as AnOther}
use Rattle.sentence.specs.declared.Formatter as Code
use Rattle.sentence.specs.declared.Formatter.TheVariants.{Rmc as TypeRmc, Gsa as TypeGsa, Gsv as TypeGsv, Gga as TypeGga, Gll as TypeGll, Vtg as TypeVtg, Other as TypeOther}

abbrev pub formatter : Code.Formatter → Formatter
formatter TypeRmc = rmc_type
formatter TypeGsa = gsa_type
formatter TypeGsv = gsv_type
formatter TypeGga = gga_type
formatter TypeGll = gll_type
formatter TypeVtg = vtg_type
formatter TypeOther = other_type

-- a talker and what its data mean
abbrev pub sentence : {T A : Type 0} → (T → A) → Message T → Sentence A
sentence f m = record { talker = talker_bytes m.talker; body = f m.data }

abbrev pub record_of : Record → Answer
record_of (ARmc m) = is_rmc (sentence rmc_data m)
record_of (AGsa m) = is_gsa (sentence gsa_of m)
record_of (AGsv g) = is_gsv (gsv_sentence g)
record_of (AGga m) = is_gga (sentence gga_data m)
record_of (AGll m) = is_gll (sentence gll_data m)
record_of (AVtg m) = is_vtg (sentence vtg_data m)
record_of (AnOther t k) = is_other (record { talker = talker_bytes t; kind = letters k })

abbrev pub answer_of : Result Record Refusal → Answer
answer_of (Ok r) = record_of r
answer_of (Err x) = is_refused (refused x)
