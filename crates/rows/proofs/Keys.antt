-- Each source has a row of its own: its row's number gives it back. Assumes nothing.
use Prim.Native.Nat.{ℕ, zero, suc}
use mathlib.Core.Path.{◌≡◌, refl, ap, sym, ◌∙◌}
use Rattle.gsv.specs.Talker.{System, gps, glonass, galileo, beidou, qzss, navic}
use Rattle.rows.specs.Key.{Source, row_from}

system-of : ℕ → System
system-of zero = gps
system-of (suc zero) = glonass
system-of (suc (suc zero)) = galileo
system-of (suc (suc (suc zero))) = beidou
system-of (suc (suc (suc (suc zero)))) = qzss
system-of (suc (suc (suc (suc (suc κ))))) = navic

source-in : ℕ → Source
source-in κ = record { system = system-of κ }

back : (s : System) → source-in (row_from (record { system = s })) ≡ record { system = s }
unfolding source-in system-of
back gps = refl
back glonass = refl
back galileo = refl
back beidou = refl
back qzss = refl
back navic = refl

-- THE THEOREM: two sources never share a row
pub key-injective : (s t : Source) → row_from s ≡ row_from t → s ≡ t
key-injective s t e = sym (back s.system) ∙ ap source-in e ∙ back t.system
