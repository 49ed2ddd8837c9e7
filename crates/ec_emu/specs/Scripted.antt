-- What ports answer by a script.
use Rattle.std.specs.Prelude.{ℕ, ◌≡◌, ◌<◌, ◌==◌, MatchBool, Option, Some, None, List}
use Rattle.std.specs.Prelude.{length, position, slice_get, slice_index, unwrap_or}
use Rattle.std.specs.List.{find}
use Rattle.ec_emu.specs.declared.ask.Ask.{Ask}
use Rattle.ec_emu.specs.declared.script.ScriptLine.{ScriptLine}

-- the line of a port
abbrev pub line_of : ℕ → List ScriptLine → Option ScriptLine
line_of port lines = find (λ line. line.port == port) lines

-- how many lines stand before it; all of them, where a port has none
abbrev pub place_of : ℕ → List ScriptLine → ℕ
place_of port lines = unwrap_or (position (λ line. line.port == port) lines) (length lines)

-- the line of each port stands at its place, and none where it has no line
abbrev pub ArePlaces : List ScriptLine → List ℕ → Type 0
ArePlaces lines places = (port : ℕ) → port < 256 → slice_get lines (slice_index places port) ≡ line_of port lines

-- on a hooked port what the hooks give, else the byte at the ask's place in the list; 0 past its end, and without a
-- line
abbrev pub IsByLine : (Ask → ℕ → Type 0) → Option ScriptLine → Ask → ℕ → Type 0
IsByLine hooks None ask byte = byte ≡ 0
IsByLine hooks (Some line) ask byte =
    MatchBool line.hook (hooks ask byte) (byte ≡ slice_index line.bytes.items ask.index)

abbrev pub IsScripted : (Ask → ℕ → Type 0) → List ScriptLine → Ask → ℕ → Type 0
IsScripted hooks lines ask byte = IsByLine hooks (line_of ask.port lines) ask byte
