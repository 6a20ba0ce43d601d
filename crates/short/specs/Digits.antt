-- The shortest text of a number: its decimal digits, with no leading zeros, and "0" for zero.
use Rattle.std.specs.Prelude.{ℕ, zero, suc, ◌+◌, ◌/◌, ◌%◌, cond, List, [], ◌∷◌, ◌++◌, ltb}
use Rattle.text.specs.Bytes.{byte}

-- the last digit stands behind the digits of a tenth; `k` bounds how often that is done
unfoldable pub digits_for : ℕ → ℕ → List ℕ
digits_for zero n = []
digits_for (suc k) n =
    let more = digits_for k (n / 10) ++ ((byte "0" + n % 10) ∷ []) in
    cond (ltb n 10) ((byte "0" + n) ∷ []) more

unfoldable pub digits_of : ℕ → List ℕ
digits_of n = digits_for (suc n) n
