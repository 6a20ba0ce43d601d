-- Again and again, and to the end, as nom has them.
use Rattle.std.specs.Prelude.{ℕ, zero, suc, List, [], ◌∷◌, cond, ◌||◌, length, eqb}
use Rattle.text.specs.Reader.{Parse, miss, refuse, got, Reader, prepend, pure, char, ◌>>=◌, ◌>>◌}

abbrev pub again : {A : Type 0} → Parse A → List ℕ → Reader (List A) → Parse (List A)
again miss l k = got [] l
again (refuse f) l k = refuse f
again (got a m) l k = prepend (a ∷ []) (k m)

-- what a reader reads again and again while it matches, at most `n` times
unfoldable pub many : {A : Type 0} → ℕ → Reader A → Reader (List A)
many zero r l = got [] l
many (suc n) r l = again (r l) l (many n r)

-- nom's many0, of a reader that eats a byte or more each time: it matches no oftener than there are bytes
abbrev pub many0 : {A : Type 0} → Reader A → Reader (List A)
many0 r l = many (length l) r l

-- the text after the bytes `c` that it begins with
abbrev pub past : ℕ → List ℕ → List ℕ
past c [] = []
past c (b ∷ l) = cond (eqb b c) (past c l) (b ∷ l)

-- nom's take_while of one byte
unfoldable pub skip : ℕ → Reader (Unit {0})
skip c l = got tt (past c l)

-- nom's take_while1: one or more bytes `c`
unfoldable pub take_while1 : ℕ → Reader (Unit {0})
take_while1 c = do
  char c
  skip c

-- nothing is left
unfoldable pub eof : Reader (Unit {0})
eof [] = got tt []
eof (b ∷ l) = miss

-- nom's all_consuming: what a reader reads, if it reads to the end
unfoldable pub all_consuming : {A : Type 0} → Reader A → Reader A
all_consuming r = do
  a ← r
  eof
  pure a

-- one of three bytes
unfoldable pub one_of3 : ℕ → ℕ → ℕ → Reader ℕ
one_of3 a b c [] = miss
one_of3 a b c (d ∷ l) = cond (eqb d a || (eqb d b || eqb d c)) (got d l) miss
