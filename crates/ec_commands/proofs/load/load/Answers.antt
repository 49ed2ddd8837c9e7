use Rattle.std.proofs.Common.{◌≡◌, ◌∙◌, ℕ, List, Bool, subst, ap, inl, inr, map}
use Rattle.ec_space.specs.declared.Core.{Core}
use Rattle.ec_avr.specs.State.{State}
use Rattle.ec_avr.specs.Machine.{reset_with}
use Rattle.ec_hex.specs.Denotes.{Denotes}
use Rattle.ec_emu.specs.declared.script.ScriptLine.{ScriptLine}
use Rattle.ec_emu.specs.Script.{AreKept, core_of_text, entries, entry_of, forms_of}
use Rattle.ec_commands.specs.declared.stop.CommandError.{CommandError}
use Rattle.ec_commands.specs.Runs.{IsLoaded, HasTextFault, HasScriptFault}
use Rattle.ec_commands.proofs.load.load.Goals as goal

-- what is loaded for a core that is the one of the script
loaded : (core : Core) (fill : ℕ) (text lines : List ℕ) (machine : State) (answers : List ScriptLine) → core ≡ core_of_text lines
    → (bytes : List ℕ) × ((written : List Bool) × (Denotes core text bytes written × (machine ≡ reset_with core bytes fill)))
    → AreKept core (forms_of lines) → map entry_of answers ≡ entries (forms_of lines) → IsLoaded fill text lines machine answers
loaded core fill text lines machine answers is found kept scripted = record {
  bytes = found.0;
  written = found.1.0;
  denotes = subst (λ k. Denotes k text found.0 found.1.0) is found.1.1.0;
  reset = found.1.1.1 ∙ ap (λ k. reset_with k found.0 fill) is;
  kept = subst (λ k. AreKept k (forms_of lines)) is kept;
  scripted = scripted;
}

faulted : (core : Core) (text lines : List ℕ) (stop : CommandError) → core ≡ core_of_text lines
    → (bytes : List ℕ) (written : List Bool) → Denotes core text bytes written → HasScriptFault core lines stop → HasTextFault text lines stop
faulted core text lines stop is bytes written denotes fault =
    inr ((bytes, (written, subst (λ k. Denotes k text bytes written) is denotes)), subst (λ k. HasScriptFault k lines stop) is fault)

pub returns-in-Ok-load_script-clause-found : goal.returns-in-Ok-load_script-clause-found
returns-in-Ok-load_script-clause-found g c = (
  c.in-Ok.inputs.hex.items,
  c.in-Ok.inputs.script.items,
  (
    c.in-Ok.ensures.found,
    loaded c.script_core-core.result c.args.fill c.in-Ok.inputs.hex.items c.in-Ok.inputs.script.items c.in-Ok-load_machine.machine
        c.in-Ok-load_script.script.lines.items c.script_core-core.ensures c.in-Ok-load_machine.ensures.found
        c.in-Ok-load_script.ensures.kept c.in-Ok-load_script.ensures.lines,
  ),
)

pub returns-clause-stopped : goal.returns-clause-stopped
returns-clause-stopped g c =
    let machine = c.in-Ok-load_machine.ensures.found in
    elim c.in-Err-load_script.ensures.stopped [
      | inl e ↦ inl e
      | inr h ↦ inr (inr (
        c.in-Ok.inputs.hex.items,
        c.in-Ok.inputs.script.items,
        (
          c.in-Ok.ensures.found,
          faulted c.script_core-core.result c.in-Ok.inputs.hex.items c.in-Ok.inputs.script.items _ c.script_core-core.ensures
              machine.0 machine.1.0 machine.1.1.0 h,
        ),
      ))
    ]
