-- Every answer has forty words. Assumes nothing.
use mathlib.Core.Path.{◌≡◌, refl}
use lib.ListN.{length}
use Rattle.gsa.specs.Gsa.{Gsa}
use Rattle.gsv.specs.Gsv.{GsvSentence}
use Rattle.frame.specs.Refused.{Refused}
use Rattle.rmc.specs.Rmc.{Rmc}
use Rattle.gga.specs.Gga.{Gga}
use Rattle.gll.specs.Gll.{Gll}
use Rattle.vtg.specs.Vtg.{Vtg}
use Rattle.answer.specs.Sentence.{Sentence, OtherSentence, Answer, is_rmc, is_gsa, is_gsv, is_gga, is_gll, is_vtg, is_other, is_refused}
use Rattle.words.specs.Rmc.{rmc_words}
use Rattle.words.specs.Gsv.{gsv_words}
use Rattle.words.specs.Gsa.{gsa_words}
use Rattle.words.specs.Gga.{gga_words}
use Rattle.words.specs.Gll.{gll_words}
use Rattle.words.specs.Vtg.{vtg_words}
use Rattle.words.specs.Other.{other_words}
use Rattle.words.specs.Refused.{refused_words}
use Rattle.words.specs.Lengths.{lengths}
use Rattle.words.specs.Words.{word_count, words}
pub use Rattle.words.specs.Lengths.{option-two, entry-eight}

pub rmc-forty : (r : Sentence Rmc) → length (rmc_words r) ≡ word_count
rmc-forty r = simp lengths refl

pub gsa-forty : (g : Sentence Gsa) → length (gsa_words g) ≡ word_count
gsa-forty g = simp lengths refl

pub gsv-forty : (g : GsvSentence) → length (gsv_words g) ≡ word_count
gsv-forty g = simp lengths refl

pub gga-forty : (g : Sentence Gga) → length (gga_words g) ≡ word_count
gga-forty g = simp lengths refl

pub gll-forty : (g : Sentence Gll) → length (gll_words g) ≡ word_count
gll-forty g = simp lengths refl

pub vtg-forty : (v : Sentence Vtg) → length (vtg_words v) ≡ word_count
vtg-forty v = simp lengths refl

pub other-forty : (o : OtherSentence) → length (other_words o) ≡ word_count
other-forty o = simp lengths refl

pub refused-forty : (r : Refused) → length (refused_words r) ≡ word_count
refused-forty r = simp lengths refl

-- and so has every answer
pub words-forty : (a : Answer) → length (words a) ≡ word_count
words-forty (is_rmc r) = rmc-forty r
words-forty (is_gsa g) = gsa-forty g
words-forty (is_gsv g) = gsv-forty g
words-forty (is_gga g) = gga-forty g
words-forty (is_gll g) = gll-forty g
words-forty (is_vtg v) = vtg-forty v
words-forty (is_other o) = other-forty o
words-forty (is_refused r) = refused-forty r
