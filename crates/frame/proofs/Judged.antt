-- The outcome of a line, by what each check found. The code asks for ASCII first: an ASCII text is valid UTF-8, so the order of 01
-- gives the same. Assumes nothing.
use Prim.Native.Nat.{ℕ, ◌≤◌, ◌<◌}
use mathlib.Core.Path.{◌≡◌, refl, ap, sym, ◌∙◌}
use mathlib.Core.Bool.{true, false}
use mathlib.Core.List.{List}
use Rattle.std.specs.Prelude.{Err}
use lib.ListN.{length}
use lib.Seq.{slice}
use borrow.Author.Tests.{le-leb, lt-leb, eq-eqb, ne_eqb}
use Rattle.utf8.specs.Utf8.{utf8, ascii}
use Rattle.utf8.proofs.Ascii.{ascii-utf8}
use Rattle.text.specs.Reader.{Fault, miss, refuse, got}
use Rattle.text.specs.Answer.{Finds}
use Rattle.text.specs.declared.Fault.{Fault as Found}
use Rattle.text.specs.declared.Fault.TheVariants.{NoMatch, UnknownType as IsUnknown, Number as IsNumber, BadTime as IsBadTime}
use Rattle.text.proofs.Places.{missed, barred}
use Rattle.frame.specs.Refused.{bad_utf8, not_ascii, too_long, syntax_error, bad_checksum, faulted}
use Rattle.frame.specs.Checksum.{checksum}
use Rattle.frame.specs.Frame.{max_length, Parts, accepted, refused, sentence, compared, judged, sized, frame}
use Rattle.frame.specs.Answer.{refused as why}
use Rattle.frame.specs.Answer.{refusal_of, read}
use Rattle.frame.proofs.Shape.{shaped, between}

module _ (s : List ℕ) where
  pub frame-ascii : ascii s ≡ true → frame s ≡ sized s
  unfolding frame
  frame-ascii e = rw (ascii-utf8 s e, e)

  pub frame-high : ascii s ≡ false → utf8 s ≡ true → frame s ≡ refused not_ascii
  unfolding frame
  frame-high e f = rw (f, e)

  pub frame-bad : utf8 s ≡ false → frame s ≡ refused bad_utf8
  unfolding frame
  frame-bad e = rw e

  pub sized-long : max_length < length s → sized s ≡ refused (too_long (length s))
  unfolding sized
  sized-long h = rw (lt-leb (length s) max_length h)

  module _ (h : length s ≤ max_length) where
    short : sized s ≡ judged (sentence s)
    unfolding sized
    short = rw (le-leb (length s) max_length h)

    pub sized-miss : sentence s ≡ miss → sized s ≡ refused syntax_error
    sized-miss e = short ∙ ap judged e

    pub sized-refuse : {f : Fault} → sentence s ≡ refuse f → sized s ≡ refused (faulted f)
    sized-refuse e = short ∙ ap judged e

    -- a fault, as the refusal that the code makes of it
    pub sized-fault : (e : Found) → Finds s 0 sentence (read s) (Err e) → sized s ≡ refused (why (refusal_of e))
    sized-fault NoMatch t = sized-miss (missed t.reads refl)
    sized-fault IsUnknown t = sized-refuse (barred t.reads refl)
    sized-fault IsNumber t = sized-refuse (barred t.reads refl)
    sized-fault IsBadTime t = sized-refuse (barred t.reads refl)

    pub sized-got : {p : Parts} {m : List ℕ} → sentence s ≡ got p m → sized s ≡ compared (checksum (slice 1 p.to s)) p
    sized-got {p} {m} e = short ∙ ap judged e ∙ sym (ap (λ (l : List ℕ). compared (checksum l) p) (between (shaped s p m e)))

-- the checksum calculated, as the code has it, against the one found
module _ (p : Parts) {c sum : ℕ} (e : c ≡ sum) where
  pub sums-equal : c ≡ p.checksum → accepted p ≡ compared sum p
  sums-equal f = rw (← e, eq-eqb c p.checksum f)

  pub sums-differ : (c ≡ p.checksum → ⊥) → refused (bad_checksum c p.checksum) ≡ compared sum p
  sums-differ n = rw (← e, ne_eqb c p.checksum n)
