-- Where an offset of a text stands: its line and its column, both from 1. A line ends with LF alone, and columns count
-- bytes.
use Rattle.std.specs.Prelude.{ℕ, ◌+◌, ◌-◌, List, take, drop, count_by}
use Rattle.std.specs.List.{prefix_len, suffix_len}
use Rattle.ec_lex.specs.Bytes.{is_newline, is_in_line}

-- one more than the LFs before the offset
abbrev pub line_number : List ℕ → ℕ → ℕ
line_number text at = count_by is_newline (take at text) + 1

-- how many bytes of the offset's line stand before it
abbrev pub indent : List ℕ → ℕ → ℕ
indent text at = suffix_len is_in_line (take at text)

abbrev pub column_number : List ℕ → ℕ → ℕ
column_number text at = indent text at + 1

-- the first line of the bytes, without its LF
abbrev pub first_line : List ℕ → List ℕ
first_line bytes = take (prefix_len is_in_line bytes) bytes

-- the line that the offset stands in, without its LF
abbrev pub line_at : List ℕ → ℕ → List ℕ
line_at text at = first_line (drop (at - indent text at) text)
