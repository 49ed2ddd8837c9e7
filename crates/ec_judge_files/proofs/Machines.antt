-- The machine of a build does what a judged run does.
use Rattle.std.proofs.Common.{◌≡◌, ◌∙◌, ℕ, List, [], ◌∷◌, ◌++◌, refl, sym, ap}
use Rattle.ec_space.specs.declared.space.Bank.TheVariants.{Flash as FlashBank, Data as DataBank}
use Rattle.ec_avr.specs.declared.machine.Access.{Access}
use Rattle.ec_avr.specs.declared.machine.Access.TheVariants.{Silent, In as PortIn, Out as PortOut, Read as ByteRead}
use Rattle.ec_avr.specs.declared.machine.Access.TheVariants.{Write as ByteWrite, Stack}
use Rattle.ec_avr.specs.Machine.{State, Inputs, IsReset}
use Rattle.ec_asm.specs.Change.{Env, Kind, Own, Object, Port, Stacked, Page, Barred}
use Rattle.ec_asm.specs.Shows.{noted_all, if_object}
use Rattle.ec_core.specs.declared.values.Value.{Value}
use Rattle.ec_core.specs.Meaning.{behaviour_of, run}
use Rattle.ec_core.specs.Plain.{PlainProgram, plain_program}
use Rattle.ec_core.specs.PortTable.{plain_table}
use Rattle.ec_core.specs.State.{Event, In, Out, Read, Write, Outcome, got, more, undefined}
use Rattle.ec_core.specs.ValueTypes.{GiveBytes}
use Rattle.ec_emu.specs.Lines.{port_line, port_lines}
use Rattle.ec_locate.specs.declared.placing.Located.{Located}
use Rattle.ec_build_laws.specs.Kinds.{placed, place_of}
use Rattle.ec_build_laws.specs.Shown.{ports_of, Comes, ShowsAll, ImagesShowTheirSources}
use Rattle.ec_build.specs.Builds.{IsBuilt}
use Rattle.ec_build.specs.declared.building.Built.{Built}
use Rattle.ec_commands_compile.specs.Kept.{port_events}
use Rattle.ec_commands_compile.proofs.Keeping.{ports_append, ports_events}
use Rattle.ec_judge_runs.specs.Judged.{event_line, event_lines}
use Rattle.ec_judge_files.specs.Machines.{most_steps, ComesAlike}

-- ---- lines

-- lines are printed of the accesses of ports alone
lines_of_ports : (trace : List Access) → port_lines trace ≡ port_lines (ports_of trace)
lines_of_ports [] = refl
lines_of_ports (PortIn port byte ∷ trace) = ap (λ (xs : List ℕ). port_line (PortIn port byte) ++ xs) (lines_of_ports trace)
lines_of_ports (PortOut port byte ∷ trace) = ap (λ (xs : List ℕ). port_line (PortOut port byte) ++ xs) (lines_of_ports trace)
lines_of_ports (Silent ∷ trace) = lines_of_ports trace
lines_of_ports (Stack ∷ trace) = lines_of_ports trace
lines_of_ports (ByteRead bank at byte ∷ trace) = lines_of_ports trace
lines_of_ports (ByteWrite at byte ∷ trace) = lines_of_ports trace

lines_of_events : (es : List Event) → port_lines (port_events es) ≡ event_lines es
lines_of_events [] = refl
lines_of_events (In port byte ∷ es) = ap (λ (xs : List ℕ). event_line (In port byte) ++ xs) (lines_of_events es)
lines_of_events (Out port byte ∷ es) = ap (λ (xs : List ℕ). event_line (Out port byte) ++ xs) (lines_of_events es)
lines_of_events (Read o k space told ∷ es) = lines_of_events es
lines_of_events (Write o k space told ∷ es) = lines_of_events es

-- ---- what is noted

no_read : (kind : Kind) (at byte : ℕ) (rest : List Access) → ports_of (if_object kind (ByteRead DataBank at byte) ++ rest) ≡ ports_of rest
no_read Own at byte rest = refl
no_read Object at byte rest = refl
no_read Port at byte rest = refl
no_read Stacked at byte rest = refl
no_read Page at byte rest = refl
no_read Barred at byte rest = refl

no_table : (kind : Kind) (at byte : ℕ) (rest : List Access) → ports_of (if_object kind (ByteRead FlashBank at byte) ++ rest) ≡ ports_of rest
no_table Own at byte rest = refl
no_table Object at byte rest = refl
no_table Port at byte rest = refl
no_table Stacked at byte rest = refl
no_table Page at byte rest = refl
no_table Barred at byte rest = refl

no_write : (kind : Kind) (at byte : ℕ) (rest : List Access) → ports_of (if_object kind (ByteWrite at byte) ++ rest) ≡ ports_of rest
no_write Own at byte rest = refl
no_write Object at byte rest = refl
no_write Port at byte rest = refl
no_write Stacked at byte rest = refl
no_write Page at byte rest = refl
no_write Barred at byte rest = refl

ports_noted : (e : Env) (trace : List Access) → ports_of (noted_all e trace) ≡ ports_of trace
ports_noted e [] = refl
ports_noted e (PortIn port byte ∷ trace) = ap (λ (xs : List Access). PortIn port byte ∷ xs) (ports_noted e trace)
ports_noted e (PortOut port byte ∷ trace) = ap (λ (xs : List Access). PortOut port byte ∷ xs) (ports_noted e trace)
ports_noted e (Silent ∷ trace) = ports_noted e trace
ports_noted e (Stack ∷ trace) = ports_noted e trace
ports_noted e (ByteRead FlashBank at byte ∷ trace) = no_table (e.table at) at byte (noted_all e trace) ∙ ports_noted e trace
ports_noted e (ByteRead DataBank at byte ∷ trace) = no_read (e.kind at) at byte (noted_all e trace) ∙ ports_noted e trace
ports_noted e (ByteWrite at byte ∷ trace) = no_write (e.kind at) at byte (noted_all e trace) ∙ ports_noted e trace

-- the accesses of ports of all that is shown print the lines of the events
lines_shown : (p : PlainProgram) (l : Located) (e : Env) (start trace : List Access) (es : List Event) → ports_of start ≡ []
    → ShowsAll p l (noted_all e) start es trace → port_lines trace ≡ event_lines es
lines_shown p l e start trace es quiet h =
    let ports : ports_of trace ≡ port_events es =
    ap ports_of h.is ∙ ports_append start h.after ∙ ap (λ (xs : List Access). xs ++ ports_of h.after) quiet
    ∙ sym (ports_noted e h.after) ∙ ap ports_of h.shown ∙ ports_events p (place_of l) es in
    lines_of_ports trace ∙ ap port_lines ports ∙ lines_of_events es

-- ---- a run

module _ (b : Built) (inputs : Inputs) (turns : ℕ) (s : State) (e : Env) (start : List Access) (quiet : ports_of start ≡ []) where
  comes_by : (o : Outcome Value)
      → Comes (plain_program b.program) b.located (noted_all e) s inputs start turns (most_steps b inputs turns s) (behaviour_of o)
      → ComesAlike b inputs turns s o
  comes_by (got x t) h =
      (h.0, h.1, h.2, h.3, lines_shown (plain_program b.program) b.located e start h.1 t.events quiet h.4)
  comes_by (more t) h =
      (h.0, h.1, h.2, h.3, h.4, h.5, lines_shown (plain_program b.program) b.located e start h.1 t.events quiet h.6)
  comes_by (undefined point t) h = tt

pub comes_alike : ImagesShowTheirSources
    → (sources : List (List ℕ)) (text : List ℕ) (b : Built) (inputs : Inputs) (turns : ℕ) (s : State)
    → IsBuilt sources text b → IsReset b.located.image.core b.located.image.bytes.items s → GiveBytes inputs
    → ComesAlike b inputs turns s (run (plain_program b.program) (plain_table b.map.io) inputs turns)
comes_alike law sources text b inputs turns s built reset bytes =
    let p = plain_program b.program in
    let shows = law p b.map built.asm b.located s inputs built.image.translated reset bytes in
    comes_by b inputs turns s (placed p b.map built.asm b.located) shows.start shows.quiet (run p (plain_table b.map.io) inputs turns)
    (shows.reached turns)
