-- Reading from the front of a text, as nom's parsers do: what was read, and the text that is left.
-- Three outcomes: `miss`, no match, from which `opt` and `alt` recover and which is Syntax at the top; `refuse`,
-- from which nothing recovers; `got`.
use Rattle.std.specs.Prelude.{ℕ, List, [], ◌∷◌, ◌++◌, Bool, true, false, cond, ◌||◌, eqb}
use Rattle.std.proofs.Math.Option.{Option, none, some}

infixl 40 ◌>>=◌
infixl 40 ◌>>◌
-- the refusals of 01 that a reader can end in at once, besides Syntax: 5, 9 and 11
pub data Fault : Type 0 where
  UnknownType : Fault
  Number : Fault
  BadTime : Fault

pub data Parse (A : Type 0) : Type 0 where
  miss : Parse A
  refuse : Fault → Parse A
  got : A → List ℕ → Parse A

abbrev pub Reader : Type 0 → Type 0
Reader A = List ℕ → Parse A

abbrev pub after : {A B : Type 0} → Parse A → (A → Reader B) → Parse B
after miss k = miss
after (refuse f) k = refuse f
after (got a l) k = k a l

-- one reader and then another: `do` is written with these
unfoldable pub ◌>>=◌ : {A B : Type 0} → Reader A → (A → Reader B) → Reader B
◌>>=◌ r k l = after (r l) k

abbrev pub ◌>>◌ : {A B : Type 0} → Reader A → Reader B → Reader B
◌>>◌ r q = r >>= (λ _. q)

unfoldable pub pure : {A : Type 0} → A → Reader A
pure a l = got a l

abbrev pub or_none : {A : Type 0} → Parse A → List ℕ → Parse (Option A)
or_none miss l = got none l
or_none (refuse f) l = refuse f
or_none (got a m) l = got (some a) m

-- nom's opt: what a reader reads, if it matches
unfoldable pub opt : {A : Type 0} → Reader A → Reader (Option A)
opt r l = or_none (r l) l

abbrev pub or_try : {A : Type 0} → Parse A → Parse A → Parse A
or_try miss q = q
or_try (refuse f) q = refuse f
or_try (got a l) q = got a l

-- nom's alt: one reader, or another where the first does not match
unfoldable pub alt : {A : Type 0} → Reader A → Reader A → Reader A
alt r q l = or_try (r l) (q l)

-- nom's map_res: what was read means something, or there is no match
unfoldable pub or_miss : {A : Type 0} → Option A → Reader A
or_miss none l = miss
or_miss (some a) l = got a l

-- the byte `c`
unfoldable pub char : ℕ → Reader (Unit {0})
char c [] = miss
char c (b ∷ l) = cond (eqb b c) (got tt l) miss

-- one of two bytes
unfoldable pub one_of : ℕ → ℕ → Reader ℕ
one_of a b [] = miss
one_of a b (c ∷ l) = cond (eqb c a || eqb c b) (got c l) miss

-- whether a byte stands in a list
unfoldable pub among : ℕ → List ℕ → Bool
among b [] = false
among b (c ∷ cs) = cond (eqb b c) true (among b cs)

-- nom's one_of: a byte that is one of `letters`
unfoldable pub letter_of : List ℕ → Reader ℕ
letter_of letters [] = miss
letter_of letters (b ∷ l) = cond (among b letters) (got b l) miss

abbrev pub prepend : {A : Type 0} → List A → Parse (List A) → Parse (List A)
prepend ds miss = miss
prepend ds (refuse f) = refuse f
prepend ds (got es l) = got (ds ++ es) l

-- nom's take_until: the text up to the first byte `c`, which is left
unfoldable pub until : ℕ → Reader (List ℕ)
until c [] = miss
until c (b ∷ l) = let r = until c l in cond (eqb b c) (got [] (b ∷ l)) (prepend (b ∷ []) r)
