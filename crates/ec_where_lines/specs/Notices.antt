-- What is said of a line that names no place of a source: a function of the line. The words stand in the tables of the
-- crate.
use Rattle.std.specs.Prelude.{ℕ, List, [], ◌∷◌, ◌++◌, map, codes, Option, Some, None, option_map, bytes_eq, if◌then◌else◌}
use Rattle.std.specs.Option.{option_and_then}
use Rattle.std.specs.Fmt.{decimal}
use Rattle.ec_where_lines.specs.declared.notices.Kind.{Kind}
use Rattle.ec_where_lines.specs.declared.notices.Kind.TheVariants.{CannotRead, Recursion, MapRule, Region, NoObject, NoNumber}
use Rattle.ec_where_lines.specs.declared.notices.Kind.TheVariants.{Clash, Limit, HexLine, ScriptLine, ScriptPort, ListingLine, Fault}
use Rattle.ec_where_lines.specs.declared.notices.FileNames.{FileNames}
use Rattle.ec_where_lines.specs.declared.rules.TheConstants.{COUNTED, HEADS, HEX_LINES, MACHINE, MAP_LINES, MAP_RULES}
use Rattle.ec_where_lines.specs.declared.rules.TheConstants.{LISTING_RULES, RECORDS, SCRIPT_RULES, TOOL_LINES}
use Rattle.ec_where_lines.specs.Parts.{around, behind, look_up, number_of, row_of}

-- the names of the files that the tool was given
pub record FileTexts : Type 0 where
  pub map_name : List ℕ
  pub hex_name : List ℕ
  pub script_name : List ℕ
  pub listing_name : List ℕ

abbrev pub texts_of : FileNames → FileTexts
texts_of names =
    record {
      map_name = names.map.now;
      hex_name = names.hex.now;
      script_name = names.script.now;
      listing_name = names.listing.now;
    }

-- ---- forms of notices

abbrev pub said : List ℕ → List ℕ → List ℕ
said place message = place ++ (codes ": error: " ++ (message ++ codes "\n"))

abbrev pub said_of : List ℕ → List ℕ → List ℕ → List ℕ → List ℕ
said_of place before name after =
    place ++ (codes ": error: " ++ (before ++ (codes " `" ++ (name ++ (codes "`" ++ (after ++ codes "\n"))))))

abbrev pub said_at : List ℕ → ℕ → List ℕ → List ℕ
said_at file line message =
    file ++ (codes ":" ++ (decimal line ++ (codes ":1: error: " ++ (message ++ codes "\n"))))

-- ---- the lines that go on with names or numbers, each behind its head

abbrev pub clash_text : List ℕ → List ℕ × List ℕ → List ℕ
clash_text place x =
    place ++ (codes ": error: the place of `" ++ (x.0 ++ (codes "` overlaps or leaves `" ++ (x.1 ++ codes "`\n"))))

abbrev pub clash_of : List ℕ → List ℕ → Option (List ℕ)
clash_of place rest = option_map (clash_text place) (around (codes " ") rest)

-- a region, what is needed of it and what it has
abbrev pub region_of : List ℕ → Option (List ℕ × ℕ × ℕ)
region_of rest =
    option_and_then (λ x. option_and_then (λ y. option_and_then (λ needs. option_map (λ has. (x.0, needs, has))
    (number_of y.1)) (number_of y.0)) (around (codes " has ") x.1)) (around (codes " needs ") rest)

abbrev pub region_text : List ℕ → List ℕ × ℕ × ℕ → List ℕ
region_text place x =
    place ++ (codes ": error: the region `" ++ (x.0 ++ (codes "` has " ++ (decimal x.2 ++ (codes " bytes, and the program needs "
    ++ (decimal x.1 ++ codes "\n"))))))

-- a line of a HEX file, and what is wrong there
abbrev pub record_of : List ℕ → Option (ℕ × List ℕ)
record_of rest =
    option_and_then (λ x. option_and_then (λ line. option_map (λ message. (line, message))
    (look_up x.1 (map (λ y. (y.0.now, y.1.now)) RECORDS))) (number_of x.0)) (around (codes ": ") rest)

-- a line of a file, and the rule of a table that it breaks
abbrev pub broken_of : List (List ℕ) → List ℕ → Option (ℕ × List ℕ)
broken_of rules rest =
    option_and_then (λ x. option_and_then (λ line. option_and_then (λ rule. option_map (λ message. (line, message))
    (row_of rules rule)) (number_of x.1)) (number_of x.0)) (around (codes ": rule ") rest)

-- a port of a script whose answers are no bytes of a list
abbrev pub hooked_text : List ℕ → List ℕ → List ℕ
hooked_text place port =
    place ++ (codes ": error: the port at 0x"
    ++ (port ++ codes " is hooked: a check takes the bytes that a port gives from a list\n"))

abbrev pub hooked_by : List ℕ → List ℕ × List ℕ → Option (List ℕ)
hooked_by place x = if bytes_eq x.1 (codes "hooked") then Some (hooked_text place x.0) else None

abbrev pub hooked_of : List ℕ → List ℕ → Option (List ℕ)
hooked_of place rest = option_and_then (hooked_by place) (around (codes ": ") rest)

-- what a limit counts, and the limit
abbrev pub limit_of : List ℕ → Option (List ℕ × ℕ)
limit_of rest =
    option_and_then (λ x. option_and_then (λ limit. option_and_then (λ what. option_map (λ most. (what, most))
    (number_of x.1)) (row_of (map (λ y. y.now) COUNTED) limit)) (number_of x.0)) (around (codes " ") rest)

abbrev pub limit_text : List ℕ × ℕ → List ℕ
limit_text x = codes "napledge: error: too many " ++ (x.0 ++ (codes ": the limit is " ++ (decimal x.1 ++ codes "\n")))

-- the place of an instruction, and why the machine stopped there
abbrev pub machine_of : List ℕ → Option (List ℕ × List ℕ)
machine_of rest =
    option_and_then (λ x. option_map (λ message. (x.1, message)) (look_up x.0 (map (λ y. (y.0.now, y.1.now)) MACHINE)))
    (around (codes " at ") rest)

abbrev pub machine_text : List ℕ × List ℕ → List ℕ
machine_text x = codes "napledge: error: the instruction at word 0x" ++ (x.0 ++ (codes " " ++ (x.1 ++ codes "\n")))

-- the rule of a map
abbrev pub rule_of : List ℕ → Option (List ℕ)
rule_of rest = option_and_then (row_of (map (λ y. y.now) MAP_RULES)) (number_of rest)

-- ---- all lines

abbrev pub headed_text : FileTexts → Kind → List ℕ → Option (List ℕ)
headed_text names CannotRead rest = Some (said rest (codes "this file could not be opened or read"))
headed_text names Recursion rest =
    Some (said_of (codes "napledge") (codes "the function") rest (codes " reaches itself by calls, and there is no recursion"))
headed_text names MapRule rest = option_map (said names.map_name) (rule_of rest)
headed_text names Region rest = option_map (region_text names.map_name) (region_of rest)
headed_text names NoObject rest =
    Some (said_of names.map_name (codes "`place` names") rest (codes ", which is no external object of the program"))
headed_text names NoNumber rest =
    Some (said_of (codes "napledge") (codes "there is no number") rest (codes
    " to watch: NAME is an external object in RAM, and LEAF one of its integers and fixed-point numbers, counted from 0 with its pointers"))
headed_text names Clash rest = clash_of names.map_name rest
headed_text names Limit rest = option_map limit_text (limit_of rest)
headed_text names HexLine rest = option_map (λ x. said_at names.hex_name x.0 x.1) (record_of rest)
headed_text names ScriptLine rest =
    option_map (λ x. said_at names.script_name x.0 x.1) (broken_of (map (λ y. y.now) SCRIPT_RULES) rest)
headed_text names ScriptPort rest = hooked_of names.script_name rest
headed_text names ListingLine rest =
    option_map (λ x. said_at names.listing_name x.0 x.1) (broken_of (map (λ y. y.now) LISTING_RULES) rest)
headed_text names Fault rest = option_map machine_text (machine_of rest)

-- the line begins with a head of the table, or else further heads may be its own
abbrev pub head_from : Option (List ℕ) → Kind → Option (Kind × List ℕ) → Option (Kind × List ℕ)
head_from (Some rest) kind later = Some (kind, rest)
head_from None kind later = later

-- how a line begins, by the first head of a table that it begins with, and what follows
abbrev pub head_of : List ℕ → List (List ℕ × Kind) → Option (Kind × List ℕ)
head_of line [] = None
head_of line (row ∷ rows) = head_from (behind row.0 line) row.1 (head_of line rows)

-- what is said of a line that is always the same
abbrev pub plain_of : List ℕ → List (List ℕ × List ℕ) → List ℕ → Option (List ℕ)
plain_of subject table line = option_map (said subject) (look_up line table)

abbrev pub or_else : Option (List ℕ) → Option (List ℕ) → Option (List ℕ)
or_else None later = later
or_else (Some text) later = Some text

-- what is said of a line, where it is one of the tool that names no place of a source
abbrev pub notice_of : FileTexts → List ℕ → Option (List ℕ)
notice_of names line =
    or_else (plain_of (codes "napledge") (map (λ x. (x.0.now, x.1.now)) TOOL_LINES) line)
    (or_else (plain_of names.map_name (map (λ x. (x.0.now, x.1.now)) MAP_LINES) line)
    (or_else (plain_of names.hex_name (map (λ x. (x.0.now, x.1.now)) HEX_LINES) line)
    (option_and_then (λ x. headed_text names x.0 x.1) (head_of line (map (λ x. (x.0.now, x.1)) HEADS)))))
