-- The cells of a GSA record are its satellites with zeros after them, so that count and cells are the words of the satellites. Assumes nothing.
use Prim.Native.Nat.{ℕ, zero, suc, ◌+◌, ◌-◌, ◌≤◌}
use native.Mathlib.Numerals.{add-one}
use native.Mathlib.Omega.{arith}
use mathlib.Core.Path.{◌≡◌, refl, ap, sym, ◌∙◌}
use mathlib.Core.List.{List, [], ◌∷◌, ◌++◌}
use lib.ListN.{length, take, set, replicate, length-append, length-replicate, length-take}
use lib.Seq.{sets, take_all, length-take-le}
use Rattle.gsa.specs.Gsa.{kept, row}
use Rattle.words.specs.Part.{zeros, padded, dops_words}
use Rattle.frame.specs.Answer.{talker_bytes}
use Rattle.frame.specs.declared.refusal.Talker.{Talker}
use Rattle.gsa.specs.Answer.{dops_of}
use Rattle.gsa.specs.declared.GsaData.{GsaData}
use Rattle.text.specs.Answer.{held}
use mathlib.Core.Option.{get_or}
use Rattle.words.specs.Gsa.{row_words, cell_words, gsa_words}
use Rattle.words.specs.Answer.{gsa_row, gsa_sentence}

padded-all : (l : List ℕ) → padded (length l) l ≡ l
padded-all [] = refl
padded-all (x ∷ l) = ap (λ (r : List ℕ). x ∷ r) (padded-all l)

padded-zeros : (n k : ℕ) → padded n (replicate k 0) ≡ padded n []
padded-zeros zero k = refl
padded-zeros (suc n) zero = refl
padded-zeros (suc n) (suc k) = ap (λ (l : List ℕ). 0 ∷ l) (padded-zeros n k)

padded-after : (n k : ℕ) (l : List ℕ) → padded n (l ++ replicate k 0) ≡ padded n l
padded-after zero k l = refl
padded-after (suc n) k [] = padded-zeros (suc n) k
padded-after (suc n) k (x ∷ l) = ap (λ (r : List ℕ). x ∷ r) (padded-after n k l)

-- behind the count, all of the cells
pub stored : (cells l o : List ℕ) (count at i : ℕ) → length cells ≡ kept → kept ≤ i → o ≡ sets (set l at count) (at + 1) (take i cells)
    → o ≡ sets l at (row_words count cells)
stored cells l o count at i all ended e =
    e
    ∙ ap (sets (set l at count) (at + 1)) (take_all i cells (omega arith))
    ∙ ap (λ (j : ℕ). sets (set l at count) j cells) (add-one at)
    ∙ ap (sets (set l at count) (suc at)) (sym (padded-all cells) ∙ ap (λ (n : ℕ). padded n cells) all)

-- put as they stand in a record, they are the words of its satellites
module _ (cells : List ℕ) (count : ℕ) (most : count ≤ kept) (rest : cells ≡ row (take count cells)) where
  all-kept : length cells ≡ kept
  all-kept =
      let e = ap length rest in
      let l = length-take count cells in
      let a = length-append (take count cells) (replicate (kept - length (take count cells)) 0) in
      let r = length-replicate {A = ℕ} (kept - length (take count cells)) 0 in
      omega arith

  cells-are : padded kept cells ≡ padded kept (take count cells)
  cells-are = ap (padded kept) rest ∙ padded-after kept (kept - length (take count cells)) (take count cells)

  row-is : row_words count cells ≡ cell_words (take count cells)
  row-is =
      let all = all-kept in
      let used : length (take count cells) ≡ count = length-take-le count cells (omega arith) in
      ap (λ (n : ℕ). row_words n cells) (sym used) ∙ ap (λ (xs : List ℕ). length (take count cells) ∷ xs) cells-are

-- the words of a record are those of the sentence
pub gsa_as_put : (t : Talker) (d : GsaData)
    → gsa_row t (record { mode = d.mode; fix = d.fix; dops = d.dops; system = d.system }) d.satellites.items d.satellites.count ≡ gsa_words (gsa_sentence t d)
gsa_as_put t d =
    let xs = d.satellites in
    ap (λ (ws : List ℕ). 2 ∷ (padded 2 (talker_bytes t) ++ ((d.mode ∷ d.fix ∷ get_or (held d.system) 0 ∷ (dops_words (dops_of d.dops) ++ ws)) ++ zeros 2)))
    (row-is xs.items xs.count xs.most xs.rest)
