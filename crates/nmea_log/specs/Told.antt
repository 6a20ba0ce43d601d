-- What the program prints of a log.
use Rattle.std.specs.Prelude.{ℕ, List, length, ◌++◌, codes}
use Rattle.std.specs.Fmt.{decimal}
use Rattle.gather.specs.Table.{fresh_table}
use Rattle.logs.specs.Walk.{Walk, barred, went, walk_of}

-- "prints exactly `lines 5 blank 1 accepted 3 refused 1 groups 1`", or "`refused 12`"; "each output ends in one line feed"
abbrev pub told : Walk → List ℕ
told (barred r) = codes "refused " ++ decimal r.number ++ codes "\n"
told (went c) =
    codes "lines " ++ decimal c.lines ++ codes " blank " ++ decimal c.blank ++ codes " accepted " ++ decimal c.accepted
    ++ codes " refused " ++ decimal c.refused ++ codes " groups " ++ decimal c.groups ++ codes "\n"

-- the whole log's, from its start with a fresh gatherer
abbrev pub told_of : List ℕ → List ℕ
told_of log = told (walk_of log 0 (length log) fresh_table).answer
