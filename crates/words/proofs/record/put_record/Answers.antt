-- `put_record` meets its contract: three words, the body and zeros, or nothing without room. Assumes nothing.
use Rattle.std.proofs.Common.{◌≡◌, refl, [], ◌∷◌, ◌++◌, ◌-◌, length, arith, length-append}
use Rattle.std.proofs.lemmas.List.{length-replicate}
use Rattle.text.proofs.Stores.{three}
use Rattle.words.specs.Part.{zeros}
use Rattle.words.specs.Words.{word_count}
use Rattle.words.proofs.Stores.{whole}
use Rattle.words.proofs.record.put_record.Goals as goal

pub returns : goal.returns
returns g c =
    let a = c.args in
    let body = g.B.Body.words a.body in
    let end = g.B.Body.END in
    let ws = a.kind ∷ a.first ∷ a.second ∷ (body ++ zeros (word_count - end)) in
    let long = g.met.B.Body.long a.body in
    let within = g.met.B.Body.within in
    let all : length ws ≡ word_count = simp (length-append, length-replicate) (omega arith) in
    whole ws a.out.now _ all (omega arith)
    (three a.out.now _ _ _ (a.kind ∷ a.first ∷ a.second ∷ []) body (zeros (word_count - end)) 0 3 end refl refl c.put_body.ensures long (rw c.END-end.ensures at c.put_zeros.ensures))
