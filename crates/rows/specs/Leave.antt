-- Which runs lines can leave. 01: "a row of a lent gatherer that no run of lines could leave counts as empty".
use Rattle.std.specs.Prelude.{ℕ, ◌+◌, ◌-◌, ◌≡◌, List, [], ◌∷◌, Bool, true, ◌&&◌, leb, length}
use Rattle.std.proofs.Math.Option.{Option, none, some}
use Rattle.frame.specs.Frame.{max_length}
use Rattle.groups.specs.Log.{line_max, Gsv}
use Rattle.groups.specs.Step.{Open}
use Rattle.groups.specs.Left.{LeftBy}
use Rattle.gsv.specs.Gsv.{count_max, id_max, place_max, Satellite, GsvSentence}
use Rattle.short.specs.Digits.{digits_of}
use Rattle.short.specs.Texts.{entry_text}
use Rattle.short.specs.Room.{beside, Written}
use Rattle.pack.specs.Cut.{piece_count}
use Rattle.rows.specs.Line.{line_of}

-- some line that a log can have is accepted as this line, and belongs to the row κ
pub record Line (κ : ℕ) (g : Gsv Satellite) : Type 0 where
  pub sentence : GsvSentence
  pub written : Written sentence
  pub says : line_of sentence ≡ g
  pub mine : g.key ≡ κ

-- AS THE SCOPE SAYS IT: some accepted lines leave the run o in the row κ, that was empty
abbrev pub Leavable : ℕ → Open Satellite → Type 0
Leavable κ o = LeftBy (Line κ) o

-- numbers that an entry can have
abbrev pub upto : ℕ → Option ℕ → Bool
upto max none = true
upto max (some n) = leb n max

abbrev pub readable : Satellite → Bool
readable s =
    leb s.id id_max && (upto place_max s.elevation && (upto place_max s.azimuth && upto place_max s.signal))

abbrev pub all_readable : List Satellite → Bool
all_readable [] = true
all_readable (s ∷ ss) = readable s && all_readable ss

-- an entry's bytes, with one for a comma
abbrev pub entry_size : Satellite → ℕ
entry_size s = length (entry_text s) + 1

-- what a line has left for its entries, and one more, since the last needs no comma
abbrev pub space : ℕ → ℕ
space v = max_length + 1 - beside - length (digits_of v)

-- THE TEST: the entries go greedily into as many lines as have come
abbrev pub leavable : Open Satellite → Bool
leavable o =
    leb 2 o.next
    && (leb o.next o.n
    && (leb o.n line_max
    && (leb o.view count_max && (all_readable o.sats && leb (piece_count entry_size (space o.view) o.sats) (o.next - 1)))))

-- of a row that may be empty
abbrev pub Stands : Option (Open Satellite) → Type 0
Stands none = Unit {0}
Stands (some o) = leavable o ≡ true
