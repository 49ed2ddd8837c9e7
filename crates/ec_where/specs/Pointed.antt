-- The text that points at an offset of a source.
use Rattle.std.specs.Prelude.{ℕ, List, ◌++◌, take, map, codes, if◌then◌else◌, ◌==◌}
use Rattle.std.specs.Fmt.{decimal}
use Rattle.ec_where.specs.Position.{line_number, column_number, line_at, indent}

-- a tab for a tab, and else a space
abbrev pub blank_for : ℕ → ℕ
blank_for b = if b == 9 then 9 else 32

-- `NAME:LINE:COLUMN: error: MESSAGE`, and an LF
abbrev pub heading : List ℕ → ℕ → ℕ → List ℕ → List ℕ
heading name line column message =
    name ++ (codes ":" ++ (decimal line
    ++ (codes ":" ++ (decimal column ++ (codes ": error: " ++ (message ++ codes "\n"))))))

-- a heading, the line of the offset, and a caret below its column
abbrev pub pointed_text : List ℕ → List ℕ → ℕ → List ℕ → List ℕ
pointed_text name text at message =
    heading name (line_number text at) (column_number text at) message
    ++ (line_at text at ++ (codes "\n" ++ (map blank_for (take (indent text at) (line_at text at)) ++ codes "^\n")))
