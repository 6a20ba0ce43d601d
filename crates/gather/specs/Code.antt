-- For the code, not for a reader of the scope: how the test of a lent row counts, and what a line goes on with and stores.
use Rattle.std.specs.Prelude.{ℕ, ◌+◌, ◌≤◌, ◌≡◌, List, [], ◌∷◌, Bool, true, ◌&&◌, cond, eqb, leb, ltb, length, get_or, Option, Some, None}
use Rattle.std.proofs.Math.Option.{Option as Maybe, none, some}
use Rattle.std.specs.Int.Bits.{bit_or}
use Rattle.std.proofs.lemmas.List.Edits.{sets}
use Rattle.groups.specs.Log.{line_max, Gsv}
use Rattle.short.specs.Digits.{digits_of}
use Rattle.short.specs.Texts.{opt_text}
use Rattle.gsv.specs.Gsv.{Satellite, Head}
use Rattle.pack.specs.Cut.{entry_max}
use Rattle.rows.specs.Leave.{upto, entry_size}
use Rattle.gather.specs.Words.{cell_count, cell_at, number_of, flat, stands}
use Rattle.gather.specs.Heads.{run_stands}
use Rattle.gather.specs.declared.lent.Pile.{Pile}
use Rattle.gather.specs.declared.run.Run.{Run}

pub record Digits (x r : ℕ) : Type 0 where
  pub count : r ≡ length (digits_of x)
  pub few : r ≤ 10

pub record OptDigits (o : Maybe ℕ) (r : ℕ) : Type 0 where
  pub count : r ≡ length (opt_text o)
  pub few : r ≤ 10

pub record Sized (s : Satellite) (r : ℕ) : Type 0 where
  pub bytes : r ≡ entry_size s
  pub few : r ≤ 44

-- greedy: an entry of w bytes goes to the line at hand if there is room, or else to a new one
abbrev pub put_on : Pile → ℕ → ℕ → Pile
put_on p w room =
    cond (ltb p.count entry_max && leb (p.used + w) room) (record { lines = p.lines; count = p.count + 1; used = p.used + w })
    (record { lines = p.lines + 1; count = 1; used = w })

pub record Puts (p : Pile) (w : ℕ) : Type 0 where
  pub lines : p.lines ≤ cell_count
  pub used : p.used ≤ 88
  pub few : w ≤ 44

-- numbers within two limits; at the largest that a line can have, `readable`
abbrev pub sat_within : ℕ → ℕ → Satellite → Bool
sat_within a b s = leb s.id a && (upto b s.elevation && (upto b s.azimuth && upto b s.signal))

abbrev pub all_within : ℕ → ℕ → List Satellite → Bool
all_within a b [] = true
all_within a b (s ∷ ss) = sat_within a b s && all_within a b ss

-- the largest number of a short entry, any four of which go into one line
abbrev pub short_max : ℕ
short_max = 8190

-- the bits of a satellite's numbers, each raised by one, so that what is absent counts nothing; and its own number's, which is never absent
abbrev pub raised : Maybe ℕ → ℕ
raised none = 0
raised (some n) = n + 1

abbrev pub sat_bits : Satellite → ℕ
sat_bits s =
    bit_or (bit_or (bit_or (bit_or s.id (raised (number_of s.id))) (raised s.elevation)) (raised s.azimuth)) (raised s.signal)

-- a line's n, number and in-view count decide alone what it goes on with
abbrev pub headed : ℕ → ℕ → ℕ → Gsv Satellite
headed n k v = record { key = 0; n = n; number = k; view = v; sats = [] }

abbrev pub on_row : List ℕ → ℕ → ℕ → ℕ → Bool
on_row ws n k v = eqb n (get_or ws 0 0) && (eqb k (get_or ws 1 0) && (eqb v (get_or ws 2 0) && stands ws))

-- how many entries stand before a line, where it starts a run or goes on with one
abbrev pub before_of : Maybe (List Satellite) → Option ℕ
before_of none = None
before_of (some es) = Some (length es)

-- the words of k entries and some more
pub record Stored (ws ws' : List ℕ) (k : ℕ) (es : List Satellite) (r : ℕ) : Type 0 where
  pub words : ws' ≡ sets ws (cell_at k) (flat es)
  pub count : r ≡ k + length es

-- a line with this head starts a run or goes on with this one
abbrev pub runs_on : Run → Head → Bool
runs_on r h =
    cond (eqb h.index 1) (leb 1 h.count && leb h.count line_max)
    (run_stands r && (eqb h.count r.n && (eqb h.index r.next && eqb h.view r.view)))
