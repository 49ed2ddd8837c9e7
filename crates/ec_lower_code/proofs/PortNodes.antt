-- Operations on ports of the table and on its groups do what the program does.
use Rattle.std.proofs.Common.{◌≡◌, ℕ, ◌+◌, ◌*◌, ◌<◌, ◌≤◌, Bool, true, false, not, List, Option, Some, None, refl, sym, subst, arith}
use Rattle.std.specs.Prelude.{nat_lt, length, option_map, unwrap_or}
use Rattle.std.proofs.lemmas.Bool.{ltb-true}
use Rattle.ec_fx.specs.declared.numbers.Mode.{Mode}
use Rattle.ec_iohw.specs.declared.operations.IoOp.{IoOp}
use Rattle.ec_core.specs.declared.values.Value.{Value}
use Rattle.ec_core.specs.Plain.{void, OptionPlainExpr, no_expr, an_expr}
use Rattle.ec_core.specs.PortAccesses.{unsigned, port_accessed, is_open, within, opened, bound, bound_port, standing_port, accessed}
use Rattle.ec_core.specs.PortAccesses.{port_effect, pairs_of, group_effect}
use Rattle.ec_core.specs.PortOperations.{PortAction, reads, writes, updates, is_read, takes_value, port_operation}
use Rattle.ec_core.specs.PortTable.{PlainPort, PlainGroup}
use Rattle.ec_core.specs.State.{GroupStates, State, chosen, Outcome}
use Rattle.ec_core.specs.Typing.{unsigned_int, IsOperandIf, port_value, port_result}
use Rattle.ec_core.specs.Words.{port_words, group_words}
use Rattle.ec_core.proofs.Growth.{some_then, some_map}
use Rattle.ec_ir.specs.Meaning.{Mach, Frame}
use Rattle.ec_ir.specs.Operations.{PlainIr}
use Rattle.ec_ir.specs.Temporaries.{Temps}
use Rattle.ec_lower_code.specs.Code.{place_behind, access_code, group_code}
use Rattle.ec_lower_code.proofs.Ops.{to_rest, Below, HasValue}
use Rattle.ec_lower_code.proofs.PortRuns.{value_type, IsHeld, value_held, IsAddress, HasValueAt, port_runs, pairs_run}
use Rattle.ec_lower_code.proofs.Scene.{World, ports, homes, spot}
use Rattle.ec_lower_code.proofs.Shown.{Match}
use Rattle.ec_lower_code.proofs.Steps.{Spot, around, Runs, less}
use Rattle.ec_lower_code.proofs.Tables.{LiesAt, LiesFromAll, IsOperated, AreOperated, ArePairs, element_within}

module _ (wd : World) (code : List PlainIr) (stack : List Frame) where
  abbrev w : Spot
  w = spot wd code stack

  value_at : (action : PortAction) (long : Bool) (e : OptionPlainExpr) (y : Value) (v : ℕ) (temps : Temps)
      → IsOperandIf (not (is_read action)) (value_type long) e → IsHeld w wd.program e y v temps
      → HasValueAt w wd.bytes wd.program action long (unsigned y) v temps
  value_at reads long e y v temps o h = tt
  value_at writes long e y v temps o h = value_held w wd.program long e y v temps o h
  value_at updates long e y v temps o h = value_held w wd.program long e y v temps o h

  not_before : (i : OptionPlainExpr) (t : ℕ) → t ≤ place_behind i t
  not_before no_expr t = omega arith
  not_before (an_expr e) t = omega arith

  -- ---- a port as it stands

  record IsStanding (port p : PlainPort) (dynamic : Option ℕ) (x : GroupStates) : Type 0 where
    address : IsAddress w dynamic x port.address p.address
    width : p.width ≡ port.width
    count : p.count ≡ port.count
    last : LiesAt port p.address

  standing_is : (port p : PlainPort) (dynamic : Option ℕ) (s : State) → LiesFromAll (ports wd) port dynamic
      → standing_port (ports wd) port dynamic s ≡ Some p → IsStanding port p dynamic s.groups
  standing_is port p None s h e =
      let is : port ≡ p = cc in
      subst (λ (z : PlainPort). IsStanding port z None s.groups) is
      (record { address = refl; width = refl; count = refl; last = h })
  standing_is port p (Some d) s h e =
      let c = some_map (bound (ports wd) d s) (bound_port port) p e in
      let k = some_then (chosen d s) _ c.0 c.1 in
      subst (λ (z : PlainPort). IsStanding port z (Some d) s.groups) c.2
      (record { address = (c.0, c.1, refl); width = refl; count = refl; last = h k.0 c.0 k.2 })

  -- ---- an operation on a port, from its operands

  module _ (n : ℕ) (op : IoOp) (mode : Mode) (port : PlainPort) (i e : OptionPlainExpr) (t d : ℕ) (b : Temps) (x y : Value) (s : State)
      (u : Mach) (rest : List PlainIr) (operated : IsOperated (ports wd) (port_operation op).long port)
      (oi : IsOperandIf (port_operation op).indexed unsigned_int i)
      (oe : IsOperandIf (takes_value (port_operation op)) (port_value (port_operation op)) e)
      (hx : IsHeld w wd.program i x t u.temps) (hy : IsHeld w wd.program e y (place_behind i t) u.temps)
      (m : Match (homes wd) (ports wd) (around w) (d + port_words (port_operation op).action port.width) s u) (same : Below w t b u) where
    abbrev AccessRuns : Outcome Value → Type 0
    AccessRuns o =
        Runs w n (access_code op mode (Some port) i t rest) u (to_rest w rest)
        (HasValue w (port_result (port_operation op).action (port_value (port_operation op))) t d b) o

    by_count : (p : PlainPort) → IsStanding port p port.dynamic s.groups → (c : Bool) → nat_lt (unsigned x) p.count ≡ c
        → AccessRuns (within wd.inputs c op p (unsigned x) (unsigned y) s)
    by_count p at_p false f = tt
    by_count p at_p true f =
        let long = (port_operation op).long in
        let below : unsigned x < port.count = subst (λ (k : ℕ). unsigned x < k) at_p.count (ltb-true (unsigned x) p.count f) in
        subst (λ (z : ℕ). AccessRuns (port_accessed wd.inputs (port_operation op).action op z (p.address + unsigned x * z) (unsigned y) s))
        (sym at_p.width)
        (port_runs w wd.bytes wd.program (port_operation op).action n t (place_behind i t) d b op long (port_operation op).indexed mode
        port p.address i x (unsigned y) s u rest at_p.address oi hx
        (value_at (port_operation op).action long e y (place_behind i t) u.temps oe hy) (not_before i t)
        (element_within port p.address operated.width at_p.last (unsigned x) below) operated m same)

    by_group : (p : PlainPort) → IsStanding port p port.dynamic s.groups → (c : Bool)
        → AccessRuns (opened wd.inputs c op p (unsigned x) (unsigned y) s)
    by_group p at_p false = tt
    by_group p at_p true = by_count p at_p (nat_lt (unsigned x) p.count) refl

    by_standing : (o : Option PlainPort) → standing_port (ports wd) port port.dynamic s ≡ o
        → AccessRuns (accessed wd.inputs op o (unsigned x) (unsigned y) s)
    by_standing None f = tt
    by_standing (Some p) f = by_group p (standing_is port p port.dynamic s operated.last f) (is_open p.group s)

  pub access_runs : (n : ℕ) (op : IoOp) (mode : Mode) (port : Option PlainPort) (i e : OptionPlainExpr) (t d : ℕ) (b : Temps)
      (x y : Value) (s : State) (u : Mach) (rest : List PlainIr)
      → AreOperated (ports wd) (port_operation op).long port → IsOperandIf (port_operation op).indexed unsigned_int i
      → IsOperandIf (takes_value (port_operation op)) (port_value (port_operation op)) e
      → IsHeld w wd.program i x t u.temps → IsHeld w wd.program e y (place_behind i t) u.temps
      → Match (homes wd) (ports wd) (around w) (d + port_words (port_operation op).action
      (unwrap_or (option_map (λ (p : PlainPort). p.width) port) 0)) s u
      → Below w t b u
      → Runs w n (access_code op mode port i t rest) u (to_rest w rest)
      (HasValue w (port_result (port_operation op).action (port_value (port_operation op))) t d b)
      (port_effect wd.inputs (ports wd) op port x y s)
  access_runs n op mode None i e t d b x y s u rest a oi oe hx hy m same = tt
  access_runs n op mode (Some port) i e t d b x y s u rest a oi oe hx hy m same =
      by_standing n op mode port i e t d b x y s u rest (a port refl) oi oe hx hy m same
      (standing_port (ports wd) port port.dynamic s) refl

  -- ---- groups

  -- the pairs of a group are written, which is acquired or released
  pub pairs_of_run : (n : ℕ) (acquire : Bool) (g : ℕ) (x : Option PlainGroup) (t d : ℕ) (b : Temps) (s : State) (u : Mach)
      (rest : List PlainIr) → ArePairs x
      → Match (homes wd) (ports wd) (around w)
      (d + 10 * unwrap_or (option_map (λ (y : PlainGroup). length (pairs_of acquire y)) x) 0) s u
      → Below w t b u
      → Runs w n (group_code acquire x t rest) u (to_rest w rest) (HasValue w void t d b) (group_effect acquire g x s)
  pairs_of_run n acquire g None t d b s u rest h m same = tt
  pairs_of_run n acquire g (Some x) t d b s u rest h m same =
      let r = pairs_run w n t d b (pairs_of acquire x) s u rest (h x refl acquire) m same in (
        r.0,
        record {
          match = record {
            objects = r.1.match.objects;
            cells = record { room = r.1.match.cells.room; bases = r.1.match.cells.bases };
            events = r.1.match.events;
            spent = r.1.match.spent;
          };
          value = λ z.
              absurd z;
          same = r.1.same;
        },
        r.2,
      )

  -- the acquire or the release of a group
  pub group_runs : (n : ℕ) (acquire : Bool) (g : ℕ) (x : Option PlainGroup) (t d : ℕ) (b : Temps) (s : State) (u : Mach)
      (rest : List PlainIr) → ArePairs x
      → Match (homes wd) (ports wd) (around w)
      (d + group_words (unwrap_or (option_map (λ (y : PlainGroup). length (pairs_of acquire y)) x) 0)) s u
      → Below w t b u
      → Runs w n (group_code acquire x t rest) u (to_rest w rest) (HasValue w void t d b) (group_effect acquire g x s)
  group_runs n acquire g x t d b s u rest h m same =
      let k = unwrap_or (option_map (λ (y : PlainGroup). length (pairs_of acquire y)) x) 0 in
      pairs_of_run n acquire g x t d b s u rest h (less (homes wd) (ports wd) (d + group_words k) (d + 10 * k) s u (omega arith) m) same
