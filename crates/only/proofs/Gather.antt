-- No second answer of `gather`: neither another word nor another outcome. Assumes nothing.
use Rattle.std.proofs.Common.{◌≡◌, ℕ, Bool, List}
use Rattle.gsv.specs.Answer.{talker, talker as talker_is, head_of, gsv_sentence}
use Rattle.gsv.specs.declared.GsvTalker.{GsvTalker}
use Rattle.gsv.specs.declared.GsvHead.{GsvHead}
use Rattle.gsv.specs.declared.GsvRecord.{GsvRecord}
use Rattle.rows.specs.Key.{source_from, row_from}
use Rattle.rows.specs.Line.{line_of}
use Rattle.gather.specs.Answer.{source}
use Rattle.gather.specs.Words.{stands}
use Rattle.gather.specs.Put.{Put}
use Rattle.gather.specs.Table.{Gathers}
use Rattle.gather.specs.Heads.{GathersHead}
use Rattle.gather.specs.declared.line.Outcome.{Outcome}
use Rattle.gather.specs.declared.table.Source as Code
use Rattle.only.proofs.Laws.{same, TellsApart, tells}
use Rattle.only.proofs.Gsv.{system-apart}

pub row-stands : (row : List ℕ) {r q : Bool} → r ≡ stands row → q ≡ stands row → r ≡ q
row-stands row = same

pub put : (row : List ℕ) (line : GsvRecord) {l m : List ℕ} {r q : Outcome}
    → Put row l (line_of (gsv_sentence line)) r
    → Put row m (line_of (gsv_sentence line)) q
    → (r ≡ q) × (l ≡ m)
put row line x y = (same x.says y.says, same x.words y.words)

source-apart : TellsApart source
source-apart = record { one = λ e i. record { system = system-apart.one (λ j. (e j).system) i } }

pub source-of : (t : GsvTalker) {r q : Code.Source} → source r ≡ source_from (talker t) → source q ≡ source_from (talker t) → r ≡ q
source-of t = tells source-apart

pub row-of : (s : Code.Source) {r q : ℕ} → r ≡ row_from (source s) → q ≡ row_from (source s) → r ≡ q
row-of s = same

pub gather : (table : List ℕ) (line : GsvRecord) {l m : List ℕ} {r q : Outcome}
    → Gathers table l (line_of (gsv_sentence line)) r
    → Gathers table m (line_of (gsv_sentence line)) q
    → (r ≡ q) × (l ≡ m)
gather table line x y = (same x.says y.says, same x.words y.words)

pub count : (heads : List ℕ) (talker : GsvTalker) (head : GsvHead) {l m : List ℕ} {r q : Outcome}
    → GathersHead heads l (talker_is talker) (head_of head) r
    → GathersHead heads m (talker_is talker) (head_of head) q
    → (r ≡ q) × (l ≡ m)
count heads talker head x y = (same x.says y.says, same x.words y.words)
