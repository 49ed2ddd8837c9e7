-- What a run reports, and what it printed.
use Rattle.std.specs.Prelude.{Option, ◌≢◌}
use Rattle.std.specs.Io.KnownBytes.{Appends}
use Rattle.std.proofs.Common.{◌≡◌, ◌-◌, ◌≤◌, ◌<◌, ℕ, List, [], ◌∷◌, ◌++◌, length, take, refl, sym, ap, ◌∙◌, subst, arith, append-nil}
use Rattle.std.proofs.Common.{length-append}
use Rattle.ec_io.proofs.Sinks.{appends_more}
use Rattle.ec_avr.specs.declared.machine.Access.{Access}
use Rattle.ec_emu.specs.declared.run.EmuEnd.{EmuEnd}
use Rattle.ec_emu.specs.declared.run.EmuEnd.TheVariants.{Ended, StepsOut, Fault, WriteFault}
use Rattle.ec_emu.specs.Emulation.{CutsLast, IsPrinted, SinkCalm}
use Rattle.ec_emu.specs.Lines.{port_line, port_lines}
use Rattle.ec_emu.proofs.Traces.{port_lines-append}

pub port_lines-push : (trace : List Access) (a : Access) → port_lines (trace ++ a ∷ []) ≡ port_lines trace ++ port_line a
port_lines-push trace a = port_lines-append trace (a ∷ []) ∙ ap (λ (l : List ℕ). port_lines trace ++ l) (append-nil (port_line a))

pub printed_on : (old mid new : Option (List ℕ)) (trace : List Access) (a : Access) → Appends old mid (port_lines trace)
    → Appends mid new (port_line a)
    → Appends old new (port_lines (trace ++ a ∷ []))
printed_on old mid new trace a first then =
    subst (λ (bytes : List ℕ). Appends old new bytes) (sym (port_lines-push trace a))
    (appends_more old mid new (port_lines trace) (port_line a) first then)

pub cut_on : (old mid new : Option (List ℕ)) (trace : List Access) (a : Access) (n : ℕ) → Appends old mid (port_lines trace)
    → n < length (port_line a)
    → Appends mid new (take n (port_line a)) → CutsLast old new (trace ++ a ∷ [])
cut_on old mid new trace a n first below then =
    (trace, (a, (refl, (n, (below, appends_more old mid new (port_lines trace) (take n (port_line a)) first then)))))

-- a run that prints all its lines
abbrev pub IsWhole : EmuEnd → Type 0
IsWhole WriteFault = ⊥
IsWhole _ = Unit {0}

pub printed_end : (old new : Option (List ℕ)) (end : EmuEnd) (trace : List Access) → IsWhole end → Appends old new (port_lines trace)
    → IsPrinted old new end trace
printed_end old new (Ended result) trace whole h = h
printed_end old new StepsOut trace whole h = h
printed_end old new (Fault kind pc) trace whole h = h
printed_end old new WriteFault trace whole h = absurd whole

no_fault : (end : EmuEnd) → IsWhole end → end ≢ WriteFault
no_fault (Ended result) whole e = cc
no_fault StepsOut whole e = cc
no_fault (Fault kind pc) whole e = cc
no_fault WriteFault whole e = whole

pub calm_end : (before now : ℕ) (calm : ℕ → Type 0) (room : ℕ) (end : EmuEnd) (trace : List Access) → IsWhole end
    → (now ≡ before) × calm (room - length (port_lines trace)) → SinkCalm before now calm room end trace
calm_end before now calm room end trace whole h = record { written = no_fault end whole; same = h.0; left = h.1 }

pub room_on : (trace : List Access) (a : Access) (room : ℕ)
    → room - length (port_lines trace) - length (port_line a) ≡ room - length (port_lines (trace ++ a ∷ []))
room_on trace a room = omega (arith, ap length (port_lines-push trace a), length-append (port_lines trace) (port_line a))

pub fits_front : (trace : List Access) (a : Access) (room : ℕ) → length (port_lines (trace ++ a ∷ [])) ≤ room
    → length (port_lines trace) ≤ room
fits_front trace a room fits = omega (arith, fits, ap length (port_lines-push trace a), length-append (port_lines trace) (port_line a))

pub fits_last : (trace : List Access) (a : Access) (room : ℕ) → length (port_lines (trace ++ a ∷ [])) ≤ room
    → length (port_line a) ≤ room - length (port_lines trace)
fits_last trace a room fits = omega (arith, fits, ap length (port_lines-push trace a), length-append (port_lines trace) (port_line a))
