-- A read goes on where the one before it ended: what it brings stands in the space behind what was there, and in the input too.
-- Assumes nothing.
use Rattle.std.proofs.Common.{◌≡◌, ◌∙◌, ℕ, ◌+◌, ◌-◌, ◌≤◌, List, ◌++◌, Option, length, take, sym, ap}
use Rattle.std.proofs.KnownBytes.{Consumes-trans}
use Rattle.std.proofs.Math.Seq.{take-append-add}
use Rattle.std.proofs.lemmas.List.{length-take-le, take-append-le}
use Rattle.std.specs.Io.KnownBytes.{Consumes}
use borrow.Rule.Slice.PartMut.{put_mid, post_of}

pub behind : (a b c : Option (List ℕ)) (done n : ℕ) (space part : List ℕ) → done ≤ length space → n ≤ length part → Consumes a b (take done space)
    → Consumes b c (take n part) → Consumes a c (take (done + n) (put_mid done (length space - done) space part))
behind a b c done n space part fits within p q =
    let k = length space - done in
    let whole : take (done + n) (put_mid done k space part) ≡ take done space ++ take n part =
    ap (λ m. take (m + n) (put_mid done k space part)) (sym (length-take-le done space fits)) ∙ take-append-add (take done space) _ n
    ∙ ap (λ l. take done space ++ l) (take-append-le n part (post_of done k space) within) in
    rw whole (Consumes-trans a b c _ _ p q)
