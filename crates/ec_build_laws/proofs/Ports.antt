-- The port bytes of the operations of a placed program are ports of the machine.
use Rattle.std.proofs.Common.{◌≡◌, ℕ, true, ℤ, List, [], ◌∷◌, ◌++◌, ap, ◌∙◌, sym, subst, refl}
use Rattle.std.specs.Prelude.{Bool, ◌&&◌, IsTrue}
use Rattle.std.specs.List.{AllByRecursion}
use Rattle.ec_runs.specs.Behaviours.{Behaviour, Running as GoesOn, Ended as Ends, Failed, Reached, Reaches, IsWithin}
use Rattle.ec_avr.specs.State.{is_port}
use Rattle.ec_asm.specs.Change.{Env, Port}
use Rattle.ec_core.specs.PortTable.{PlainTable, plain_table}
use Rattle.ec_core.specs.State.{Event, In, Out, Read, Write}
use Rattle.ec_core.specs.declared.values.Undefined.{Undefined}
use Rattle.ec_core_accesses.specs.Ports.{IsPortByte, AccessesPorts, ShowsPorts, PortBytesPass}
use Rattle.ec_map.specs.Maps.{ValidMap}
use Rattle.ec_map.specs.declared.map.Map.{Map}
use Rattle.ec_select_functions.specs.Kept.{is_port_kind, is_on_port, are_on_ports, on_ports}

both : (a b : Bool) → a ≡ true → b ≡ true → (a && b) ≡ true
both a b h k = rw h k

front : {A : Type 0} (P : A → Type 0) (xs ys : List A) → AllByRecursion P (xs ++ ys) → AllByRecursion P xs
front P [] ys h = tt
front P (x ∷ xs) ys h = (h.0, front P xs ys h.1)

-- the bytes of a table are ports of an environment
abbrev pub StandAsPorts : Env → PlainTable → Type 0
StandAsPorts e table = (a : ℕ) → IsPortByte table a → e.kind a ≡ Port

-- those of a map are ports of the core
pub ports_of_map : PortBytesPass → (m : Map) → ValidMap m → (a : ℕ) → IsPortByte (plain_table m.io) a → IsTrue (is_port m.core a)
ports_of_map pass m valid a is = pass m.io (is_port m.core) valid.ports valid.writes a is

module _ (e : Env) (table : PlainTable) (stand : StandAsPorts e table) where
  one : (event : Event) → AccessesPorts table event → is_on_port e event ≡ true
  one (In port byte) h = ap is_port_kind (stand port h)
  one (Out port byte) h = ap is_port_kind (stand port h)
  one (Read o k space told) h = refl
  one (Write o k space told) h = refl

  all : (es : List Event) → AllByRecursion (AccessesPorts table) es → are_on_ports e es ≡ true
  all [] h = refl
  all (x ∷ xs) h = both (is_on_port e x) (are_on_ports e xs) (one x h.0) (all xs h.1)

  running : (es : List Event) → AllByRecursion (AccessesPorts table) es → on_ports e (GoesOn es) ≡ GoesOn es
  running es h = rw (all es h) refl

  ended : (es : List Event) (result : ℤ) → AllByRecursion (AccessesPorts table) es → on_ports e (Ends es result) ≡ Ends es result
  ended es result h = rw (all es h) refl

  abbrev Within : Behaviour Event ℤ Undefined → Behaviour Event ℤ Undefined → Type 0
  Within b c = IsWithin b c

  -- so what the operations come to that show a source has a meaning on the machine
  pub reaches_on : (allowed : ℕ → ℕ → Bool) (source meaning : ℕ → Behaviour Event ℤ Undefined) → ((n : ℕ) → ShowsPorts table (source n))
      → Reaches allowed source meaning → Reaches allowed source (λ n. on_ports e (meaning n))
  reaches_on allowed source meaning shows reaches n = by_shown (source n) (shows n) (reaches n) where
    by_shown : (b : Behaviour Event ℤ Undefined) → ShowsPorts table b → Reached (allowed n) meaning n b
        → Reached (allowed n) (λ n. on_ports e (meaning n)) n b
    by_shown (GoesOn es) h r = (r.0, r.1, r.2, ap (on_ports e) r.3 ∙ running es h)
    by_shown (Ends es result) h r = (r.0, r.1, ap (on_ports e) r.2 ∙ ended es result h)
    by_shown (Failed point) h r = tt

  -- and what the operations show that stay within a source
  pub within_on : (b c : Behaviour Event ℤ Undefined) → ShowsPorts table b → IsWithin b c → IsWithin b (on_ports e c)
  within_on (Failed point) c h w = tt
  within_on (GoesOn es) (GoesOn fs) h w =
      subst (Within (GoesOn es))
      (sym (running fs (front (AccessesPorts table) fs w.added (subst (AllByRecursion (AccessesPorts table)) w.is h)))) w
  within_on (GoesOn es) (Ends fs result) h w = absurd w
  within_on (GoesOn es) (Failed point) h w = absurd w
  within_on (Ends es result) (GoesOn fs) h w =
      subst (Within (Ends es result))
      (sym (running fs (front (AccessesPorts table) fs w.added (subst (AllByRecursion (AccessesPorts table)) w.is h)))) w
  within_on (Ends es result) (Ends fs other) h w =
      subst (Within (Ends es result)) (sym (ended fs other (subst (AllByRecursion (AccessesPorts table)) (sym w.0) h))) w
  within_on (Ends es result) (Failed point) h w = absurd w
