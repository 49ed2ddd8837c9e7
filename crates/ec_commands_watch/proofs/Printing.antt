-- What `out` received of a watched run, from its lines and from what writing its end did.
use Rattle.std.proofs.Common.{◌≡◌, ◌-◌, ◌≤◌, ℕ, List, [], ◌++◌, length, Some, None, Ok, Err, refl, sym, subst, arith, append-nil, append_assoc}
use Rattle.std.specs.Prelude.{Option, Result}
use Rattle.std.proofs.lemmas.List.{length-append}
use Rattle.std.specs.Io.KnownBytes.{Appends}
use Rattle.ec_io.specs.declared.store.Failed.{Failed}
use Rattle.ec_avr.specs.declared.machine.Access.{Access}
use Rattle.ec_emu.specs.Emulation.{IsPrinted, CutsLast}
use Rattle.ec_emu.specs.Lines.{port_lines}
use Rattle.ec_emu_watch.specs.Hits.{emulated}
use Rattle.ec_emu_watch.specs.declared.run.WatchEnd.{WatchEnd}
use Rattle.ec_emu_watch.specs.declared.run.WatchEnd.TheVariants.{Hit, Ended, StepsOut, Fault, WriteFault}
use Rattle.ec_commands.specs.Runs.{result_line}
use Rattle.ec_commands.specs.declared.stop.CommandError.{CommandError}
use Rattle.ec_commands.specs.declared.stop.CommandError.TheVariants.{CannotWrite}
use Rattle.ec_commands_watch.specs.Printed.{hit_line, Shows, WritesEnd, stop_at}

both : (a b c : Option (List ℕ)) (xs ys : List ℕ) → Appends a b xs → Appends b c ys → Appends a c (xs ++ ys)
both None b c xs ys h k = tt
both (Some x) None c xs ys h k = absurd h
both (Some x) (Some y) None xs ys h k = absurd k
both (Some x) (Some y) (Some z) xs ys h k = rw (k, h) (append_assoc x xs ys)

-- nothing behind the lines
alone : (old mid new : Option (List ℕ)) (xs : List ℕ) → Appends old mid xs → new ≡ mid → Appends old new (xs ++ [])
alone old mid new xs h same =
    subst (λ (l : List ℕ). Appends old new l) (sym (append-nil xs)) (subst (λ (m : Option (List ℕ)). Appends old m xs) (sym same) h)

module _ (old mid new : Option (List ℕ)) (trace : List Access) where
  whole : (end : WatchEnd) → IsPrinted old mid (emulated end) trace → WritesEnd mid new end (Ok tt) → Shows old new end trace (stop_at end)
  whole (Hit value) lines wrote = both old mid new (port_lines trace) (hit_line value) lines wrote
  whole (Ended result) lines wrote = both old mid new (port_lines trace) (result_line result) lines wrote
  whole StepsOut lines wrote = alone old mid new (port_lines trace) lines wrote.0
  whole (Fault kind pc) lines wrote = (refl, refl, alone old mid new (port_lines trace) lines wrote.0)
  whole WriteFault lines wrote = subst (λ (m : Option (List ℕ)). CutsLast old m trace) (sym wrote.0) lines

  -- all that it prints, and the stop that tells its end
  pub shown_whole : (end : WatchEnd) (r : Result Unit Failed) (x : Unit) (stop : Option CommandError) → IsPrinted old mid (emulated end) trace
      → WritesEnd mid new end r → r ≡ Ok x → stop ≡ stop_at end → Shows old new end trace stop
  shown_whole end r x stop lines wrote is same =
      subst (λ (s : Option CommandError). Shows old new end trace s) (sym same)
      (whole end lines (subst (λ (q : Result Unit Failed). WritesEnd mid new end q) is wrote))

  cut : (end : WatchEnd) (e : Failed) → IsPrinted old mid (emulated end) trace → WritesEnd mid new end (Err e)
      → Shows old new end trace (Some CannotWrite)
  cut (Hit value) e lines wrote = (wrote.0, both old mid new (port_lines trace) _ lines wrote.1)
  cut (Ended result) e lines wrote = (wrote.0, both old mid new (port_lines trace) _ lines wrote.1)
  cut StepsOut e lines wrote = let no = wrote.1 in cc
  cut (Fault kind pc) e lines wrote = let no = wrote.1 in cc
  cut WriteFault e lines wrote = let no = wrote.1 in cc

  -- a prefix of its end, after a failed write
  pub shown_cut : (end : WatchEnd) (r : Result Unit Failed) (e : Failed) → IsPrinted old mid (emulated end) trace → WritesEnd mid new end r
      → r ≡ Err e → Shows old new end trace (Some CannotWrite)
  shown_cut end r e lines wrote is =
      cut end e lines (subst (λ (q : Result Unit Failed). WritesEnd mid new end q) is wrote)

-- room for both parts
pub room_for_lines : (xs ys : List ℕ) (room : ℕ) → length (xs ++ ys) ≤ room → length xs ≤ room
room_for_lines xs ys room h = omega (arith, length-append xs ys, h)

pub room_for_end : (xs ys : List ℕ) (room : ℕ) → length (xs ++ ys) ≤ room → length ys ≤ room - length xs
room_for_end xs ys room h = omega (arith, length-append xs ys, h)
