-- The totals of a walk, as counts over the list of the log's lines.
use Rattle.std.specs.Prelude.{ℕ, zero, suc, ◌-◌, List, length, take, drop}
use Rattle.lines.specs.Lines.{lines}
use Rattle.lines.specs.Places.{rest}
use Rattle.fed.specs.Line.{LogLine, said_all, is_blank, is_accepted, is_refusal, Gatherer}
use Rattle.fed.specs.Fed.{how_many, gathered, groups_of}
use Rattle.logs.specs.Walk.{Going}

-- what is left of a text behind its first k lines
abbrev pub behind : ℕ → List ℕ → List ℕ
behind zero l = l
behind (suc k) l = behind k (rest l)

-- what the next n lines from p on are
abbrev pub said : List ℕ → ℕ → ℕ → List LogLine
said log p n = said_all (take n (lines (drop p log)))

-- n lines from p on
unfoldable pub totals : List ℕ → ℕ → ℕ → Gatherer → Going
totals log p n g =
    record {
      counts = record {
        lines = length (said log p n);
        blank = how_many is_blank (said log p n);
        accepted = how_many is_accepted (said log p n);
        refused = how_many is_refusal (said log p n);
        groups = groups_of g (said log p n);
        next = length log - length (behind n (drop p log));
      };
      gatherer = gathered g (said log p n);
    }
