-- The accepted GSV sentence that a line is was read from that line: no other answer has one. Assumes nothing.
use Prim.Native.Nat.{ℕ}
use mathlib.Core.Path.{◌≡◌, refl, ap, ◌∙◌}
use mathlib.Core.List.{List, [], ◌∷◌}
use mathlib.Core.Option.{some, none-ne-some}
use Rattle.gsv.specs.Gsv.{GsvSentence}
use Rattle.answer.specs.Sentence.{Answer, is_rmc, is_gsa, is_gsv, is_gga, is_gll, is_vtg, is_other, is_refused, answer}
use Rattle.fed.specs.Line.{read, said_of, accepted_gsv}

pub some-same : {A : Type 0} {x y : A} → some x ≡ some y → x ≡ y
some-same e = cc

pub accepted-as : (l : List ℕ) (s : GsvSentence) → accepted_gsv (said_of l) ≡ some s → answer l ≡ is_gsv s
accepted-as [] s e = absurd (none-ne-some _ e)
accepted-as (b ∷ l) s e = go (answer (b ∷ l)) refl e
  where
    go : (a : Answer) → answer (b ∷ l) ≡ a → accepted_gsv (read a) ≡ some s → answer (b ∷ l) ≡ is_gsv s
    go (is_rmc r) q e = absurd (none-ne-some _ e)
    go (is_gsa g) q e = absurd (none-ne-some _ e)
    go (is_gsv t) q e = q ∙ ap is_gsv (some-same e)
    go (is_gga g) q e = absurd (none-ne-some _ e)
    go (is_gll g) q e = absurd (none-ne-some _ e)
    go (is_vtg v) q e = absurd (none-ne-some _ e)
    go (is_other k) q e = absurd (none-ne-some _ e)
    go (is_refused r) q e = absurd (none-ne-some _ e)
