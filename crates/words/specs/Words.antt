-- The words of an answer, as docs/ABI.md has them, and a buffer that they are put into.
use Rattle.std.specs.Prelude.{ℕ, List, ◌++◌, cond, leb, length, drop}
use Rattle.answer.specs.Sentence.{Answer, is_rmc, is_gsa, is_gsv, is_gga, is_gll, is_vtg, is_other, is_refused}
use Rattle.words.specs.Rmc.{rmc_words}
use Rattle.words.specs.Gsa.{gsa_words}
use Rattle.words.specs.Gsv.{gsv_words}
use Rattle.words.specs.Gga.{gga_words}
use Rattle.words.specs.Gll.{gll_words}
use Rattle.words.specs.Vtg.{vtg_words}
use Rattle.words.specs.Other.{other_words}
use Rattle.words.specs.Refused.{refused_words}

-- how many words an answer has
abbrev pub word_count : ℕ
word_count = 40

-- word 0 says what follows
abbrev pub words : Answer → List ℕ
words (is_rmc r) = rmc_words r
words (is_gsa g) = gsa_words g
words (is_gsv g) = gsv_words g
words (is_gga g) = gga_words g
words (is_gll g) = gll_words g
words (is_vtg v) = vtg_words v
words (is_other o) = other_words o
words (is_refused r) = refused_words r

-- a refusal's number, 0 for any other answer
abbrev pub refusal_number : Answer → ℕ
refusal_number (is_rmc r) = 0
refusal_number (is_gsa g) = 0
refusal_number (is_gsv g) = 0
refusal_number (is_gga g) = 0
refusal_number (is_gll g) = 0
refusal_number (is_vtg v) = 0
refusal_number (is_other o) = 0
refusal_number (is_refused r) = r.number

-- a buffer after words are put into it: without room it is as it was, and what stands behind them stays
abbrev pub into : List ℕ → List ℕ → List ℕ
into ws out = cond (leb word_count (length out)) (ws ++ drop word_count out) out
