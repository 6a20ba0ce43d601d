-- Words put into a list, one behind the other, are put there together. Assumes nothing.
use Prim.Native.Nat.{ℕ, suc, ◌+◌}
use native.Mathlib.Omega.{arith}
use mathlib.Core.Path.{◌≡◌, ap, sym, ◌∙◌}
use mathlib.Core.List.{List, [], ◌∷◌, ◌++◌}
use lib.ListN.{length, set}
use lib.Seq.{sets}

pub sets-append : (us vs l : List ℕ) (i : ℕ) → sets l i (us ++ vs) ≡ sets (sets l i us) (i + length us) vs
sets-append [] vs l i = let z : i ≡ i + 0 = omega arith in ap (λ (n : ℕ). sets l n vs) z
sets-append (u ∷ us) vs l i =
    let z : suc i + length us ≡ i + suc (length us) = omega arith in
    sets-append us vs (set l i u) (suc i) ∙ ap (λ (n : ℕ). sets (sets (set l i u) (suc i) us) n vs) z

-- at j, behind others that were put from i up to there
pub behind : (l m o us vs : List ℕ) (i j : ℕ) → m ≡ sets l i us → i + length us ≡ j → o ≡ sets m j vs → o ≡ sets l i (us ++ vs)
behind l m o us vs i j e h f =
    f ∙ (λ k. sets (e k) (sym h k) vs) ∙ sym (sets-append us vs l i)

-- three, four and five of them
pub three : (l a b o us vs ws : List ℕ) (i j k : ℕ) → a ≡ sets l i us → i + length us ≡ j → b ≡ sets a j vs → j + length vs ≡ k → o ≡ sets b k ws
    → o ≡ sets l i (us ++ (vs ++ ws))
three l a b o us vs ws i j k ea ja eb jb e = behind l a o us (vs ++ ws) i j ea ja (behind a b o vs ws j k eb jb e)

pub four : (l a b c o us vs ws xs : List ℕ) (i j k m : ℕ) → a ≡ sets l i us → i + length us ≡ j → b ≡ sets a j vs → j + length vs ≡ k
    → c ≡ sets b k ws → k + length ws ≡ m → o ≡ sets c m xs → o ≡ sets l i (us ++ (vs ++ (ws ++ xs)))
four l a b c o us vs ws xs i j k m ea ja eb jb ec jc e =
    behind l a o us (vs ++ (ws ++ xs)) i j ea ja (three a b c o vs ws xs j k m eb jb ec jc e)

pub five : (l a b c d o us vs ws xs ys : List ℕ) (i j k m n : ℕ) → a ≡ sets l i us → i + length us ≡ j → b ≡ sets a j vs → j + length vs ≡ k
    → c ≡ sets b k ws → k + length ws ≡ m → d ≡ sets c m xs → m + length xs ≡ n → o ≡ sets d n ys
    → o ≡ sets l i (us ++ (vs ++ (ws ++ (xs ++ ys))))
five l a b c d o us vs ws xs ys i j k m n ea ja eb jb ec jc ed jd e =
    behind l a o us (vs ++ (ws ++ (xs ++ ys))) i j ea ja (four a b c d o vs ws xs ys j k m n eb jb ec jc ed jd e)
