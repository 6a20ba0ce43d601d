-- "an entry that does not match is absent and eats nothing, and so are all after it": the definition tries each of the four anew, and where
-- one is absent the next is tried at the same text. Assumes nothing.
use Prim.Native.Nat.{ℕ}
use native.Mathlib.Omega.{arith}
use mathlib.Core.Path.{◌≡◌, refl, sym, ap, ◌∙◌, subst}
use mathlib.Core.List.{List}
use mathlib.Core.Option.{Option, none, some}
use Rattle.text.specs.Reader.{Parse, miss, refuse, got, Reader, opt, or_none}
use Rattle.text.proofs.Binds.{unbind, pure-is}
use Rattle.gsv.specs.Gsv.{Gsv, entry, head, gsv}

-- where a reader may match and does not, it does not match there again
again : {A : Type 0} (r : Reader A) (l : List ℕ) {m n : List ℕ} {x o : Option A} → opt r l ≡ got x m → opt r m ≡ got o n → x ≡ none → o ≡ none
unfolding opt
again {A} r l {m} {n} {x} {o} e f q = by (r l) refl e
  where
    by : (p : Parse A) → r l ≡ p → or_none p l ≡ got x m → o ≡ none
    by miss g e =
        let h : l ≡ m = cc in
        let k : or_none miss m ≡ got o n = ap (λ (p : Parse A). or_none p m) (sym g ∙ ap r h) ∙ f in
        let z : none ≡ o = cc in
        sym z
    by (refuse y) g e = let z : ◌≡◌ {A = ℕ} 0 1 = cc in absurd (omega arith)
    by (got a k) g e =
        let h : some a ≡ x = cc in
        let z : ◌≡◌ {A = ℕ} 0 1 = cc in
        absurd (omega arith)

-- none behind one that is absent
pub record AllAfter (g : Gsv) : Type 0 where
  pub second : g.first ≡ none → g.second ≡ none
  pub third : g.second ≡ none → g.third ≡ none
  pub fourth : g.third ≡ none → g.fourth ≡ none

pub all-after : (l : List ℕ) {g : Gsv} {m : List ℕ} → gsv l ≡ got g m → AllAfter g
unfolding gsv
all-after l {g} e =
    let h = unbind head _ l e in
    let a = unbind (opt entry) _ h.between h.then in
    let b = unbind (opt entry) _ a.between a.then in
    let c = unbind (opt entry) _ b.between b.then in
    let d = unbind (opt entry) _ c.between c.then in
    let q = (pure-is d.then).0 in
    subst AllAfter q
    (record {
      second = again entry h.between a.one b.one;
      third = again entry a.between b.one c.one;
      fourth = again entry b.between c.one d.one;
    })
