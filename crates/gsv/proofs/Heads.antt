-- No entry makes a sentence fail: one that may be absent is always read, so that a head decides alone. Assumes nothing.
use Prim.Native.Nat.{ℕ}
use mathlib.Core.Path.{◌≡◌, refl, ap, sym, ◌∙◌}
use mathlib.Core.List.{List}
use lib.ListN.{drop}
use mathlib.Core.Option.{Option, none, some}
use Rattle.text.specs.Reader.{Parse, miss, refuse, got, opt, or_none, pure}
use Rattle.text.specs.Answer.{Finds, seen, told, failed}
use Rattle.text.specs.declared.Fault.{Fault}
use Rattle.std.specs.Prelude.{Result, Ok, Err}
use Rattle.text.specs.Value.{value, is}
use Rattle.text.proofs.Binds.{bind-got}
use Rattle.text.proofs.Places.{took}
use Rattle.text.proofs.Texts.{whole}
use Rattle.text.proofs.Finding.{halts}
use Rattle.gsv.specs.Gsv.{Satellite, Head, Gsv, entry, head, with_entries, gsv}
use Rattle.gsv.specs.Answer.{head_of, gsv_data}
use Rattle.gsv.specs.declared.GsvHead.{GsvHead}
use Rattle.gsv.proofs.Never.{opt-entry}

record Slot (l : List ℕ) : Type 0 where
  slot : Option Satellite
  rest : List ℕ
  reads : opt entry l ≡ got slot rest

slot-at : (l : List ℕ) → Slot l
unfolding opt
slot-at l = by (entry l) refl
  where
    by : (p : Parse Satellite) → entry l ≡ p → Slot l
    by miss e = record { slot = none; rest = l; reads = ap (λ (q : Parse Satellite). or_none q l) e }
    by (refuse f) e = absurd (opt-entry {f = f} l (ap (λ (q : Parse Satellite). or_none q l) e))
    by (got s m) e = record { slot = some s; rest = m; reads = ap (λ (q : Parse Satellite). or_none q l) e }

-- a head with four entries
abbrev pub made : Head → Option Satellite → Option Satellite → Option Satellite → Option Satellite → Gsv
made h a b c d = record { count = h.count; index = h.index; view = h.view; first = a; second = b; third = c; fourth = d }

pub record Filled (h : Head) (l : List ℕ) : Type 0 where
  pub a : Option Satellite
  pub b : Option Satellite
  pub c : Option Satellite
  pub d : Option Satellite
  pub reads : is (made h a b c d) ≡ value (with_entries h l)

pub filled : (h : Head) (l : List ℕ) → Filled h l
unfolding pure
filled h l =
    let a = slot-at l in
    let b = slot-at a.rest in
    let c = slot-at b.rest in
    let d = slot-at c.rest in
    let e : with_entries h l ≡ got (made h a.slot b.slot c.slot d.slot) d.rest =
    bind-got _ _ _ a.reads ∙ bind-got _ _ _ b.reads ∙ bind-got _ _ _ c.reads ∙ bind-got _ _ _ d.reads
    in
    record { a = a.slot; b = b.slot; c = c.slot; d = d.slot; reads = rw e }

-- what a head, or none, says of the whole data
module _ {s : List ℕ} {r : Result (GsvHead × ℕ) Fault} (reads : Finds s 0 head (seen head_of) r) where
  pub no-head : {e : Fault} → r ≡ Err e → failed e ≡ value (gsv s)
  unfolding gsv
  no-head {e} h = whole s 0 gsv gsv_data {r = Err e} 0 (record { reads = halts with_entries e reads.reads (ap (told (seen head_of)) h) })

  pub behind-head : {h : GsvHead} {p : ℕ} → r ≡ Ok (h, p) → value (with_entries (head_of h) (drop p s)) ≡ value (gsv s)
  unfolding gsv
  behind-head e = sym (ap (λ (q : Parse Gsv). value q) (bind-got head with_entries s (took reads.reads (ap (told (seen head_of)) e)).reads))
