-- What the arguments of the code mean.
use Rattle.std.specs.Prelude.{ℕ, List, ◌∷◌, ◌++◌}
use Rattle.std.proofs.Math.Option.{get_or}
use Rattle.text.specs.Answer.{held}
use Rattle.frame.specs.Answer.{talker_bytes, letters}
use Rattle.frame.specs.declared.refusal.Talker.{Talker}
use Rattle.frame.specs.declared.refusal.Kind.{Kind}
use Rattle.gsa.specs.Gsa.{Gsa}
use Rattle.gsa.specs.Answer.{dops_of, gsa_of}
use Rattle.gsa.specs.declared.GsaHead.{GsaHead}
use Rattle.gsa.specs.declared.GsaData.{GsaData}
use Rattle.rmc.specs.Answer.{rmc_data}
use Rattle.rmc.specs.declared.RmcData.{RmcData}
use Rattle.rmc.specs.Rmc.{Rmc}
use Rattle.gga.specs.Gga.{Gga}
use Rattle.gga.specs.Answer.{gga_data}
use Rattle.gga.specs.declared.GgaData.{GgaData}
use Rattle.gll.specs.Gll.{Gll}
use Rattle.gll.specs.Answer.{gll_data}
use Rattle.gll.specs.declared.GllData.{GllData}
use Rattle.vtg.specs.Vtg.{Vtg}
use Rattle.vtg.specs.Answer.{vtg_data}
use Rattle.vtg.specs.declared.VtgData.{VtgData}
use Rattle.answer.specs.Sentence.{Sentence, OtherSentence}
use Rattle.words.specs.Part.{zeros, padded, dops_words}
use Rattle.words.specs.Gsa.{row_words}

abbrev pub rmc_sentence : Talker → RmcData → Sentence Rmc
rmc_sentence t d = record { talker = talker_bytes t; body = rmc_data d }

abbrev pub gsa_sentence : Talker → GsaData → Sentence Gsa
gsa_sentence t d = record { talker = talker_bytes t; body = gsa_of d }

-- 3 to 37 of a GSA record with cells and their count as they are given
abbrev pub row_body : GsaHead → ℕ → List ℕ → List ℕ
row_body h count cells = h.mode ∷ h.fix ∷ get_or (held h.system) 0 ∷ (dops_words (dops_of h.dops) ++ row_words count cells)

-- and all of its words
abbrev pub gsa_row : Talker → GsaHead → List ℕ → ℕ → List ℕ
gsa_row t h cells count = 2 ∷ (padded 2 (talker_bytes t) ++ (row_body h count cells ++ zeros 2))

abbrev pub gga_sentence : Talker → GgaData → Sentence Gga
gga_sentence t d = record { talker = talker_bytes t; body = gga_data d }

abbrev pub gll_sentence : Talker → GllData → Sentence Gll
gll_sentence t d = record { talker = talker_bytes t; body = gll_data d }

abbrev pub vtg_sentence : Talker → VtgData → Sentence Vtg
vtg_sentence t d = record { talker = talker_bytes t; body = vtg_data d }

abbrev pub other_sentence : Talker → Kind → OtherSentence
other_sentence t k = record { talker = talker_bytes t; kind = letters k }
