-- The bytes of ports and of groups that a run reads and writes are those of the table.
use Rattle.std.proofs.Common.{◌≡◌, ℕ, zero, suc, ◌+◌, ◌*◌, ◌/◌, ◌<◌, ◌≤◌, Bool, true, false, List, [], ◌∷◌, ◌++◌, Option}
use Rattle.std.proofs.Common.{Some, None, refl, subst, arith}
use Rattle.std.specs.Prelude.{nat_lt, option_map, option_and_then, slice_get}
use Rattle.std.specs.List.{AllByRecursion}
use Rattle.std.proofs.lemmas.Bool.{ltb-true}
use Rattle.std.proofs.lemmas.Nat.{row_fits_turned}
use Rattle.ec_iohw.specs.declared.operations.IoOp.{IoOp}
use Rattle.ec_iohw.specs.declared.table.Choice.{Choice}
use Rattle.ec_iohw.specs.declared.table.Pair.{Pair}
use Rattle.ec_core.specs.declared.values.Value.{Value}
use Rattle.ec_core.specs.Meaning.{state_of}
use Rattle.ec_core.specs.PortAccesses.{byte_read, bytes_read, bytes_written, port_accessed, is_open, within, opened}
use Rattle.ec_core.specs.PortAccesses.{bound, bound_port, standing_port, accessed, port_effect, pairs_written, pairs_of}
use Rattle.ec_core.specs.PortAccesses.{group_effect, bind_effect, choice_effect, dynamic_effect}
use Rattle.ec_core.specs.PortOperations.{PortAction, reads, writes, updates, port_operation}
use Rattle.ec_core.specs.PortTable.{PlainPort, PlainGroup, choices_of}
use Rattle.ec_core.specs.State.{Setting, Event, Out, State, with_event, chosen, Outcome}
use Rattle.ec_core_accesses.specs.Ports.{IsPortByte, of_port, of_choice, of_group, AccessesPorts}

pub all_added : (P : Event → Type 0) (es : List Event) (e : Event) → AllByRecursion P es → P e → AllByRecursion P (es ++ e ∷ [])
all_added P [] e all one = (one, tt)
all_added P (x ∷ xs) e all one = (all.0, all_added P xs e all.1 one)

module _ (w : Setting) where
  -- the events of a state are accesses of the table's ports
  abbrev pub OnPorts : State → Type 0
  OnPorts s = AllByRecursion (AccessesPorts w.table) s.events

  -- so are those of an outcome, where those of the state before it are
  pub record Keeps {A : Type 0} (s : State) (o : Outcome A) : Type 0 where
    pub kept : OnPorts s → OnPorts (state_of o)

  -- so many addresses from one on are bytes of the table
  abbrev AreBytes : ℕ → ℕ → Type 0
  AreBytes n at = (k : ℕ) → k < n → IsPortByte w.table (at + k)

  first_byte : (n at : ℕ) → AreBytes (suc n) at → IsPortByte w.table at
  first_byte n at b = let e : at + 0 ≡ at = omega arith in subst (IsPortByte w.table) e (b 0 (omega arith))

  rest_bytes : (n at : ℕ) → AreBytes (suc n) at → AreBytes n (at + 1)
  rest_bytes n at b k l = let e : at + suc k ≡ at + 1 + k = omega arith in subst (IsPortByte w.table) e (b (suc k) (omega arith))

  read_bytes : (n at : ℕ) (s : State) → AreBytes n at → OnPorts s → OnPorts (bytes_read w.inputs n at s)
  read_bytes zero at s b h = h
  read_bytes (suc n) at s b h =
      read_bytes n (at + 1) (byte_read w.inputs at s) (rest_bytes n at b)
      (all_added (AccessesPorts w.table) s.events _ h (first_byte n at b))

  written_bytes : (n at v : ℕ) (s : State) → AreBytes n at → OnPorts s → OnPorts (bytes_written n at v s)
  written_bytes zero at v s b h = h
  written_bytes (suc n) at v s b h =
      all_added (AccessesPorts w.table) _ _ (written_bytes n (at + 1) (v / 256) s (rest_bytes n at b) h) (first_byte n at b)

  accessed_bytes : (action : PortAction) (op : IoOp) (width at v : ℕ) (s : State) → AreBytes width at
      → Keeps s (port_accessed w.inputs action op width at v s)
  accessed_bytes reads op width at v s b = record { kept = read_bytes width at s b }
  accessed_bytes writes op width at v s b = record { kept = written_bytes width at v s b }
  accessed_bytes updates op width at v s b = record {
    kept = λ h. written_bytes width at _ (bytes_read w.inputs width at s) b
        (read_bytes width at s b h);
  }

  -- all bytes of a port, as it stands in a state, are bytes of the table
  abbrev Stands : PlainPort → Type 0
  Stands port = (a : ℕ) → port.address ≤ a → a < port.address + port.width * port.count → IsPortByte w.table a

  -- an element of a port's bytes whose number is below their count
  element_bytes : (port : PlainPort) (i : ℕ) → Stands port → i < port.count → AreBytes port.width (port.address + i * port.width)
  element_bytes port i b l k m =
      let f = row_fits_turned i port.width port.width port.count l (omega arith) in
      b (port.address + i * port.width + k) (omega arith) (omega (arith, f))

  within_bytes : (port : PlainPort) (b : Bool) (op : IoOp) (i v : ℕ) (s : State) → Stands port → nat_lt i port.count ≡ b
      → Keeps s (within w.inputs b op port i v s)
  within_bytes port true op i v s f l = accessed_bytes (port_operation op).action op port.width _ v s
      (element_bytes port i f (ltb-true i port.count l))
  within_bytes port false op i v s f l = record { kept = λ h. h }

  opened_bytes : (port : PlainPort) (b : Bool) (op : IoOp) (i v : ℕ) (s : State) → Stands port
      → Keeps s (opened w.inputs b op port i v s)
  opened_bytes port true op i v s f = within_bytes port (nat_lt i port.count) op i v s f refl
  opened_bytes port false op i v s f = record { kept = λ h. h }

  -- a port of a dynamic group stands from the base of the choice that it is bound to
  module _ (x d : ℕ) (port : PlainPort) (op : IoOp) (i v : ℕ) (s : State) where
    chosen_bytes : (k : ℕ) (c : Option Choice) → slice_get w.table.ports x ≡ Some port → port.dynamic ≡ Some d
        → slice_get (choices_of w.table d) k ≡ c → Keeps s (accessed w.inputs op (option_map (bound_port port) c) i v s)
    chosen_bytes k None e is q = record { kept = λ h. h }
    chosen_bytes k (Some c) e is q = opened_bytes (bound_port port c) (is_open (Some c.group) s) op i v s
        (λ a low high. of_choice x d k port c e is q low high)

    bound_bytes : (k : Option ℕ) → slice_get w.table.ports x ≡ Some port → port.dynamic ≡ Some d
        → Keeps s (accessed w.inputs op (option_map (bound_port port) (option_and_then (λ n. slice_get (choices_of w.table d) n) k)) i v s)
    bound_bytes None e is = record { kept = λ h. h }
    bound_bytes (Some k) e is = chosen_bytes k (slice_get (choices_of w.table d) k) e is refl

  standing_bytes : (x : ℕ) (port : PlainPort) (dynamic : Option ℕ) (op : IoOp) (i v : ℕ) (s : State)
      → slice_get w.table.ports x ≡ Some port → port.dynamic ≡ dynamic
      → Keeps s (accessed w.inputs op (standing_port w.table port dynamic s) i v s)
  standing_bytes x port None op i v s e is =
      opened_bytes port (is_open port.group s) op i v s (λ a low high. of_port x port e is low high)
  standing_bytes x port (Some d) op i v s e is = bound_bytes x d port op i v s (chosen d s) e is

  pub port_bytes : (x : ℕ) (port : Option PlainPort) (op : IoOp) (i v : Value) (s : State) → slice_get w.table.ports x ≡ port
      → Keeps s (port_effect w.inputs w.table op port i v s)
  port_bytes x None op i v s e = record { kept = λ h. h }
  port_bytes x (Some port) op i v s e = standing_bytes x port port.dynamic op _ _ s e refl

  -- ---- groups

  written_pairs : (pairs : List Pair) (s : State) → ((k : ℕ) (pair : Pair) → slice_get pairs k ≡ Some pair
      → IsPortByte w.table pair.port) → OnPorts s → OnPorts (pairs_written pairs s)
  written_pairs [] s b h = h
  written_pairs (pair ∷ pairs) s b h =
      written_pairs pairs (with_event (Out pair.port pair.byte) s) (λ k. b (suc k))
      (all_added (AccessesPorts w.table) s.events _ h (b 0 pair refl))

  pub group_bytes : (acquire : Bool) (g : ℕ) (group : Option PlainGroup) (s : State) → slice_get w.table.groups g ≡ group
      → Keeps s (group_effect acquire g group s)
  group_bytes acquire g None s e = record { kept = λ h. h }
  group_bytes acquire g (Some group) s e =
      record { kept = written_pairs (pairs_of acquire group) s (λ k pair f. of_group acquire g k group pair e f refl) }

  pub binding_bytes : (d choice : ℕ) (s : State) → Keeps s (bind_effect d choice s)
  binding_bytes d choice s = record { kept = λ h. h }

  choice_bytes : (acquire : Bool) (c : Option Choice) (s : State) → Keeps s (choice_effect acquire w.table c s)
  choice_bytes acquire None s = record { kept = λ h. h }
  choice_bytes acquire (Some c) s = group_bytes acquire c.group (slice_get w.table.groups c.group) s refl

  pub dynamic_bytes : (acquire : Bool) (d : ℕ) (s : State) → Keeps s (dynamic_effect acquire w.table d s)
  dynamic_bytes acquire d s = choice_bytes acquire (bound w.table d s) s
