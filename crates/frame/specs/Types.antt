-- The thirty known types of 01, "What is ported, and from where", and whether a text is one of a list of texts.
use Rattle.std.specs.Prelude.{ℕ, List, [], ◌∷◌, Bool, true, false, ◌&&◌, ◌||◌, eqb}
use Rattle.text.specs.Bytes.{bytes}

unfoldable pub types : List (List ℕ)
types =
    bytes "AAM"
    ∷ bytes "ALM"
    ∷ bytes "APA"
    ∷ bytes "BOD"
    ∷ bytes "BWC"
    ∷ bytes "BWW"
    ∷ bytes "DBK"
    ∷ bytes "DBS"
    ∷ bytes "DPT"
    ∷ bytes "GBS"
    ∷ bytes "GGA"
    ∷ bytes "GLL"
    ∷ bytes "GNS"
    ∷ bytes "GSA"
    ∷ bytes "GST"
    ∷ bytes "GSV"
    ∷ bytes "HDT"
    ∷ bytes "MDA"
    ∷ bytes "MTW"
    ∷ bytes "MWV"
    ∷ bytes "RMC"
    ∷ bytes "RMZ"
    ∷ bytes "TTM"
    ∷ bytes "TXT"
    ∷ bytes "VHW"
    ∷ bytes "VTG"
    ∷ bytes "WNC"
    ∷ bytes "ZDA"
    ∷ bytes "ZFO"
    ∷ bytes "ZTG"
    ∷ []

-- two texts are the same, byte by byte
unfoldable pub alike : List ℕ → List ℕ → Bool
alike [] [] = true
alike (a ∷ s) (b ∷ t) = eqb a b && alike s t
alike [] (b ∷ t) = false
alike (a ∷ s) [] = false

-- a text is one of these
unfoldable pub listed : List (List ℕ) → List ℕ → Bool
listed [] k = false
listed (t ∷ ts) k = alike k t || listed ts k
