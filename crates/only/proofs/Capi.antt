-- No second answer of `capi`: neither another number nor another buffer or table after the call. Assumes nothing.
use Rattle.std.proofs.Common.{◌≡◌, ℕ, ◌<◌, ◌≤◌, Bool, true, false, ltb, ◌↔◌, List, length, refl, ltb-false, ltb-true}
use mathlib.Core.Option.{none}
use Rattle.answer.specs.Sentence.{answer, verdict_of}
use Rattle.gather.specs.Table.{fresh_table}
use Rattle.logs.specs.Walk.{Walk, barred, went, walk_of}
use Rattle.words.specs.Words.{refusal_number}
use Rattle.capi.specs.Answer.{Answered}
use Rattle.capi.specs.Totals.{Tells, WalkedAll}
use Rattle.capi.specs.Lend.{Freshened, GatheredLine, RowRead}
use Rattle.only.proofs.Laws.{same}

-- each contract has two cases: the buffer has room for k words, or not
by-room : {P : Type 0} (k n : ℕ) → (k ≤ n → P) → (n < k → P) → P
by-room {P} k n room short = by (ltb n k) refl
  where
    by : (t : Bool) → ltb n k ≡ t → P
    by true e = short (ltb-true n k e)
    by false e = room (ltb-false n k e)

both : {a r q : ℕ} {b l m : List ℕ} → (r ≡ a) × (l ≡ b) → (q ≡ a) × (m ≡ b) → (r ≡ q) × (l ≡ m)
both x y = (same x.0 y.0, same x.1 y.1)

tells : (w : Walk) (before : List ℕ) {r q : ℕ} {l m : List ℕ} → Tells w before l r → Tells w before m q → (r ≡ q) × (l ≡ m)
tells (barred x) before = both
tells (went c) before = both

pub nmea-refusal : (line : List ℕ) {r q : ℕ}
    → (r ≡ refusal_number (answer line)) × ((r ≡ 0) ↔ (verdict_of (answer line) ≡ none)) × (r ≤ 11)
    → (q ≡ refusal_number (answer line)) × ((q ≡ 0) ↔ (verdict_of (answer line) ≡ none)) × (q ≤ 11)
    → r ≡ q
nmea-refusal line x y = same x.0 y.0

pub nmea-answer : (line out : List ℕ) {l m : List ℕ} {r q : ℕ} → Answered line out l r → Answered line out m q → (r ≡ q) × (l ≡ m)
nmea-answer line out x y = (same x.says y.says, same x.words y.words)

pub nmea-walk : (log out : List ℕ) {l m : List ℕ} {r q : ℕ} → WalkedAll log out l r → WalkedAll log out m q → (r ≡ q) × (l ≡ m)
nmea-walk log out x y =
    by-room 5 (length out)
    (λ h. tells (walk_of log 0 (length log) fresh_table).answer out (x.written h) (y.written h))
    (λ h. both (x.short h) (y.short h))

pub nmea-fresh : (table : List ℕ) {l m : List ℕ} {r q : ℕ} → Freshened table l r → Freshened table m q → (r ≡ q) × (l ≡ m)
nmea-fresh table x y = (same x.says y.says, same x.table y.table)

pub nmea-gather : (line out table : List ℕ) {l m : List ℕ} {t u : List ℕ} {r q : ℕ}
    → GatheredLine line out l table t r
    → GatheredLine line out m table u q
    → (r ≡ q) × (l ≡ m) × (t ≡ u)
nmea-gather line out table x y = (same x.says y.says, same x.words y.words, same x.table y.table)

pub nmea-row : (table : List ℕ) (row : ℕ) (out : List ℕ) {l m : List ℕ} {r q : ℕ} → RowRead table row out l r → RowRead table row out m q → (r ≡ q) × (l ≡ m)
nmea-row table row out x y = (same x.says y.says, same x.words y.words)
