use Rattle.std.proofs.Common.{◌≡◌, ◌∙◌, ◌==◌, ℕ, List, Bool, true, Some, None, sym, ap}
use Rattle.std.specs.Prelude.{map, if◌then◌else◌}
use Rattle.std.specs.List.{list_any}
use Rattle.ec_avr.specs.State.{is_port}
use Rattle.ec_space.specs.declared.Core.{Core}
use Rattle.ec_emu.specs.declared.script.ScriptLine.{ScriptLine}
use Rattle.ec_emu.specs.Forms.{Form as LineForm, Listed}
use Rattle.ec_emu.specs.Script.{Entry, entries, entry_of, broken}
use Rattle.ec_emu.proofs.Rules.{same_ports}
use Rattle.ec_emu.proofs.read.broken.Goals as goal

by_tests : (core : Core) (lines : List ScriptLine) (before : List LineForm) (port : ℕ) (hook : Bool) (bytes : List ℕ) (is has : Bool)
    → map entry_of lines ≡ entries before
    → is ≡ is_port core port → is ≡ true → has ≡ list_any (λ line. line.port == port) lines
    → broken core before (Listed port hook bytes) ≡ (if has then Some 3 else None)
by_tests core lines before port hook bytes is has same a b c =
    rw (← a, b) (ap (λ (any : Bool). if any then Some 3 else None)
    (ap (λ (es : List Entry). list_any (λ entry. entry.port == port) es) (sym same) ∙ sym (same_ports lines port) ∙ sym c))

pub returns-then-has_line : goal.returns-then-has_line
returns-then-has_line c = λ before same begun.
    rw c.in-Listed.is (sym (by_tests c.args.core c.args.lines.now before c.in-Listed.line.port c.in-Listed.line.hook c.in-Listed.line.bytes.items
    c.is_port.result c.has_line.result
    same c.is_port.ensures c.if-not-is_port.false c.has_line.ensures ∙ ap (λ (b : Bool). if b then Some 3 else None) c.if-has_line.true))

pub returns-else-has_line : goal.returns-else-has_line
returns-else-has_line c = λ before same begun.
    rw c.in-Listed.is (sym (by_tests c.args.core c.args.lines.now before c.in-Listed.line.port c.in-Listed.line.hook c.in-Listed.line.bytes.items
    c.is_port.result c.has_line.result
    same c.is_port.ensures c.if-not-is_port.false c.has_line.ensures ∙ ap (λ (b : Bool). if b then Some 3 else None) c.if-has_line.false))
