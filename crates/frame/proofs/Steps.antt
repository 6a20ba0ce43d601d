-- The parts of a sentence one after the other, for `search`: the laws of `Finding` of the crate text, and one for a byte, behind which the
-- place is the next one, so that the places of a sentence's head are numbers. Assumes nothing.
use Prim.Native.Nat.{ℕ, ◌+◌, ◌-◌}
use native.Mathlib.Omega.{arith}
use mathlib.Core.Path.{◌≡◌, ap, refl, ◌∙◌}
use mathlib.Core.List.{List}
use lib.ListN.{length, drop, length-drop, length-take}
use lib.Seq.{slice}
use Rattle.std.specs.Prelude.{Result, Ok}
use Rattle.std.specs.Result.{result_from_control_flow}
use Rattle.std.proofs.Common.{Continue}
use Rattle.text.specs.Reader.{got, Reader, ◌>>=◌, char, pure}
use Rattle.text.specs.Placed.{upto, placed, Reads}
use Rattle.text.specs.Answer.{told, next, part, Finds}
use Rattle.text.specs.declared.Fault.{Fault}
use Rattle.text.proofs.Places.{took}
use Rattle.text.proofs.Binds.{char-one}
use Rattle.text.proofs.Finding.{stop, go, done}
use Rattle.frame.specs.Frame.{data_from}
use Rattle.frame.specs.Answer.{talker_bytes, letters, read}
use Rattle.frame.specs.declared.refusal.Talker.{Talker}
use Rattle.frame.specs.declared.refusal.Kind.{Kind}
use Rattle.frame.specs.declared.sentence.Sentence.{Sentence}

module _ {s : List ℕ} {at : ℕ} where
  next-place : (c : ℕ) {p : ℕ} → Reads s at (char c) (upto tt p) → p ≡ at + 1
  next-place c {p} t =
      let k = took t refl in
      let one = char-one c (drop at s) (drop p s) k.reads in
      let e : upto tt p ≡ placed at (drop at s) (got tt (drop p s)) = t.answer ∙ ap (placed at (drop at s)) k.reads in
      let f : p ≡ at + (length (drop at s) - length (drop p s)) = cc in
      omega arith

  pub go-char : {B S : Type 0} {look : S → B × ℕ} (c : ℕ) (k : Unit {0} → Reader B) {r : Result ℕ Fault} {b : Result S Fault} {w : _} {p : ℕ}
      → r ≡ result_from_control_flow w
      → w ≡ Continue p
      → Finds s at (char c) next r
      → Finds s (at + 1) (k tt) look b
      → Finds s at (char c >>= k) look b
  go-char c k {r} {w = w} {p} e f t u =
      let g : r ≡ Ok p = e ∙ ap result_from_control_flow f in
      let t' : Reads s at (char c) (upto tt p) = rw g at t.reads in
      go k e f t (rw (next-place c t') u)

-- a whole sentence: the data end as far past 7 as they are long
pub done-sentence : {q : Reader (List ℕ)} {s : List ℕ} {r : Result ℕ Fault} {w : _} {to : ℕ} {t : Talker} {k : Kind} {v : ℕ} {x : Sentence}
    → x ≡ record { talker = t; kind = k; checksum = v; from = data_from; to = to }
    → r ≡ result_from_control_flow w
    → w ≡ Continue to
    → Finds s data_from q (part s data_from) r
    → Finds s (to + 3) (pure (record { talker = talker_bytes t; kind = letters k; checksum = v; from = data_from; to = data_from + length (slice data_from to s); text = slice data_from to s })) (read s) (Ok x)
done-sentence {s = s} {r} {w} {to} {t} {k} {v} {x} e f g u =
    let h : r ≡ Ok to = f ∙ ap result_from_control_flow g in
    let z = took u.reads (ap (told (part s data_from)) h) in
    let l : length (slice data_from to s) ≡ to - data_from = simp (length-drop, length-take) (omega (arith, z.after, z.within)) in
    let m : to ≡ data_from + length (slice data_from to s) = omega (arith, z.after) in
    done (rw e (ap (λ (n : ℕ). record { talker = talker_bytes t; kind = letters k; checksum = v; from = data_from; to = n; text = slice data_from to s }) m)) (rw e)

pub ruleset steps = (stop, go-char, go, done-sentence)
