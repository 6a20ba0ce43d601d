-- For the code, not for a reader of the scope: what one byte counts, in a number.
use Rattle.std.specs.Prelude.{ℕ, ◌+◌, ◌-◌, cond, ltb}
use Rattle.text.specs.Bytes.{byte}

-- the digit's number, more than nine where the byte is no digit: what a byte's difference from `0` wraps to
abbrev pub unit : ℕ → ℕ
unit b = cond (ltb b (byte "0")) (b + 208) (b - byte "0")
