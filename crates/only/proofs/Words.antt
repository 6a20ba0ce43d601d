-- No second answer of `words`: no other buffer after the call. Assumes nothing.
use Rattle.std.proofs.Common.{◌≡◌, ℕ, List}
use Rattle.frame.specs.Answer.{refused}
use Rattle.frame.specs.declared.refusal.Talker.{Talker}
use Rattle.frame.specs.declared.refusal.Kind.{Kind}
use Rattle.frame.specs.declared.refusal.Refusal.{Refusal}
use Rattle.gsa.specs.declared.GsaHead.{GsaHead}
use Rattle.gsv.specs.Answer.{gsv_sentence}
use Rattle.gsv.specs.declared.GsvRecord.{GsvRecord}
use Rattle.rmc.specs.declared.RmcData.{RmcData}
use Rattle.gga.specs.declared.GgaData.{GgaData}
use Rattle.gll.specs.declared.GllData.{GllData}
use Rattle.vtg.specs.declared.VtgData.{VtgData}
use Rattle.words.specs.Rmc.{rmc_words}
use Rattle.words.specs.Gsv.{gsv_words}
use Rattle.words.specs.Gga.{gga_words}
use Rattle.words.specs.Gll.{gll_words}
use Rattle.words.specs.Vtg.{vtg_words}
use Rattle.words.specs.Other.{other_words}
use Rattle.words.specs.Refused.{refused_words}
use Rattle.words.specs.Words.{into}
use Rattle.words.specs.Answer.{rmc_sentence, gsa_row, gga_sentence, gll_sentence, vtg_sentence, other_sentence}
use Rattle.only.proofs.Laws.{same}

pub put-rmc : (out : List ℕ) (talker : Talker) (d : RmcData) {l m : List ℕ}
    → l ≡ into (rmc_words (rmc_sentence talker d)) out
    → m ≡ into (rmc_words (rmc_sentence talker d)) out
    → l ≡ m
put-rmc out talker d = same

pub put-gsa : (out : List ℕ) (talker : Talker) (head : GsaHead) (items : List ℕ) (count : ℕ) {l m : List ℕ}
    → l ≡ into (gsa_row talker head items count) out
    → m ≡ into (gsa_row talker head items count) out
    → l ≡ m
put-gsa out talker head items count = same

pub put-gsv : (out : List ℕ) (g : GsvRecord) {l m : List ℕ}
    → l ≡ into (gsv_words (gsv_sentence g)) out
    → m ≡ into (gsv_words (gsv_sentence g)) out
    → l ≡ m
put-gsv out g = same

pub put-gga : (out : List ℕ) (talker : Talker) (d : GgaData) {l m : List ℕ}
    → l ≡ into (gga_words (gga_sentence talker d)) out
    → m ≡ into (gga_words (gga_sentence talker d)) out
    → l ≡ m
put-gga out talker d = same

pub put-gll : (out : List ℕ) (talker : Talker) (d : GllData) {l m : List ℕ}
    → l ≡ into (gll_words (gll_sentence talker d)) out
    → m ≡ into (gll_words (gll_sentence talker d)) out
    → l ≡ m
put-gll out talker d = same

pub put-vtg : (out : List ℕ) (talker : Talker) (d : VtgData) {l m : List ℕ}
    → l ≡ into (vtg_words (vtg_sentence talker d)) out
    → m ≡ into (vtg_words (vtg_sentence talker d)) out
    → l ≡ m
put-vtg out talker d = same

pub put-other : (out : List ℕ) (talker : Talker) (kind : Kind) {l m : List ℕ}
    → l ≡ into (other_words (other_sentence talker kind)) out
    → m ≡ into (other_words (other_sentence talker kind)) out
    → l ≡ m
put-other out talker kind = same

pub put-refused : (out : List ℕ) (why : Refusal) {l m : List ℕ}
    → l ≡ into (refused_words (refused why)) out
    → m ≡ into (refused_words (refused why)) out
    → l ≡ m
put-refused out why = same
