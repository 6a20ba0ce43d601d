-- What is told of the bytes that were read is told of the whole input: of a space that is not full they are all of it, and a full one
-- holds more than a log may have. Assumes nothing.
use Rattle.std.proofs.Common.{◌≡◌, ◌∙◌, ℕ, ◌+◌, ◌≤◌, ◌<◌, List, [], ◌++◌, Option, None, Some, IfSome, length, take, true, refl, sym, ap, subst, inl, inr, append-nil, length-append, arith}
use Rattle.std.proofs.Math.Nat.{eq-or-lt_of_le}
use Rattle.std.proofs.lemmas.Bool.{lt-ltb}
use Rattle.std.proofs.Math.Dec.{ltb}
use Rattle.std.proofs.lemmas.List.{length-take-le}
use Rattle.std.specs.Io.KnownBytes.{Appends, Consumes, IsAtEnd}
use Rattle.frame.specs.Refused.{log_too_long}
use Rattle.logs.specs.Walk.{barred, walk_of}
use Rattle.nmea_log.specs.Told.{told, told_of}

-- the number alone is told, and not the length
long : (log : List ℕ) → 65536 < length log → told_of log ≡ told (barred (log_too_long 0))
unfolding walk_of
long log h = let e : ltb 65536 (length log) ≡ true = lt-ltb 65536 (length log) h in rw e refl

same : (xs ys : List ℕ) (n : ℕ) (space : List ℕ) → length space ≡ 65537 → n ≤ length space → xs ≡ take n space ++ ys → (n < length space → ys ≡ [])
    → told_of (take n space) ≡ told_of xs
same xs ys n space room fits is end =
    elim (eq-or-lt_of_le fits) [
      | inl full ↦
          let taken : length (take n space) ≡ n = length-take-le n space fits in
          let all : length xs ≡ length (take n space) + length ys = ap length is ∙ length-append (take n space) ys in
          long (take n space) (omega (arith, taken, full, room)) ∙ sym (long xs (omega (arith, all, taken, full, room)))
      | inr less ↦ ap told_of (sym (is ∙ ap (λ l. take n space ++ l) (end less) ∙ append-nil (take n space)))
    ]

pub whole : (a b old new : Option (List ℕ)) (n : ℕ) (space : List ℕ) → length space ≡ 65537 → n ≤ length space → Consumes a b (take n space)
    → (n < length space → IsAtEnd b) → Appends old new (told_of (take n space)) → IfSome a (λ log. Appends old new (told_of log))
whole None b old new n space room fits h end q = tt
whole (Some xs) None old new n space room fits h end q = absurd h
whole (Some xs) (Some ys) old new n space room fits h end q = subst (λ l. Appends old new l) (same xs ys n space room fits h end) q
