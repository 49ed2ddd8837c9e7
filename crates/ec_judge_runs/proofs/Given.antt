-- The ports and the bytes of the lines of a script, as the inputs of a run.
use mathlib.Core.Path.{fun_ext}
use Rattle.std.proofs.Common.{◌≡◌, ℕ, ◌∙◌, ◌==◌, Bool, true, false, if◌then◌else◌, List, [], ◌∷◌, map, Ok, Err, arith, ap, refl}
use Rattle.std.specs.Prelude.{Result, IfOk}
use Rattle.std.specs.List.{AllByRecursion}
use Rattle.ec_space.specs.Bytes.{AreBytes}
use Rattle.ec_space.specs.Listed.{Listed}
use Rattle.ec_core.specs.ValueTypes.{GiveBytes}
use Rattle.ec_emu.specs.Script.{entry_of}
use Rattle.ec_emu.specs.declared.script.ScriptLine.{ScriptLine}
use Rattle.ec_interp.specs.declared.behaviour.PortInput.{PortInput}
use Rattle.ec_interp.specs.Views.{inputs_of}
use Rattle.ec_judge_runs.specs.Inputs.{inputs_by, given_by_line, given_by_input}

same_port : (inputs : List PortInput) (lines : List ScriptLine) → map given_by_input inputs ≡ map given_by_line lines
    → (port : ℕ) → inputs_of inputs port ≡ inputs_by (map entry_of lines) port
same_port [] [] same port = refl
same_port [] (line ∷ lines) same port = cc
same_port (input ∷ inputs) [] same port = cc
same_port (input ∷ inputs) (line ∷ lines) same port =
    let here : given_by_input input ≡ given_by_line line = cc in
    let rest : map given_by_input inputs ≡ map given_by_line lines = cc in
    let number : input.port ≡ line.port = ap (λ (x : ℕ × List ℕ). x.0) here in
    let bytes : input.bytes.items ≡ line.bytes.items = ap (λ (x : ℕ × List ℕ). x.1) here in
    ap (λ (p : ℕ). if p == port then input.bytes.items else inputs_of inputs port) number
    ∙ ap (λ (xs : List ℕ). if line.port == port then xs else inputs_of inputs port) bytes
    ∙ ap (λ (xs : List ℕ). if line.port == port then line.bytes.items else xs) (same_port inputs lines rest port)

-- each port gives the same
same_inputs : (inputs : List PortInput) (lines : List ScriptLine) → map given_by_input inputs ≡ map given_by_line lines
    → inputs_of inputs ≡ inputs_by (map entry_of lines)
same_inputs inputs lines same = fun_ext (same_port inputs lines same)

either : (b : Bool) (xs ys : List ℕ) → AreBytes xs → AreBytes ys → AreBytes (if b then xs else ys)
either true xs ys p q = p
either false xs ys p q = q

no_bytes : AreBytes []
no_bytes k = omega arith

give_bytes : (inputs : List PortInput) → AllByRecursion (λ i. AreBytes i.bytes.items) inputs → GiveBytes (inputs_of inputs)
give_bytes [] all port = no_bytes
give_bytes (input ∷ inputs) all port =
    either (input.port == port) input.bytes.items (inputs_of inputs port) all.0 (give_bytes inputs all.1 port)

abbrev pub AreGiven : List ScriptLine → List PortInput → Type 0
AreGiven lines inputs = map given_by_input inputs ≡ map given_by_line lines

abbrev pub HoldBytes : List PortInput → Type 0
HoldBytes inputs = AllByRecursion (λ input. AreBytes input.bytes.items) inputs

pub given : {E : Type 0} (lines : List ScriptLine) (r : Result (Listed PortInput) E) → IfOk r (λ inputs. AreGiven lines inputs.items)
    → IfOk r (λ inputs. inputs_of inputs.items ≡ inputs_by (map entry_of lines))
given lines (Ok inputs) h = same_inputs inputs.items lines h
given lines (Err e) h = tt

pub bytes : {E : Type 0} (r : Result (Listed PortInput) E) → IfOk r (λ inputs. HoldBytes inputs.items)
    → IfOk r (λ inputs. GiveBytes (inputs_of inputs.items))
bytes (Ok inputs) h = give_bytes inputs.items h
bytes (Err e) h = tt
