-- The operations of a loop do what it does, with as many turns.
use Rattle.std.proofs.Common.{◌≡◌, ℕ, zero, suc, ◌+◌, ◌≤◌, Bool, true, false, List, ◌∷◌, Option, Some, None, refl, arith}
use Rattle.ec_core.specs.declared.values.Value.{Value}
use Rattle.ec_core.specs.Expressions.{Calls, condition}
use Rattle.ec_core.specs.Layout.{IsScalar, scalar_size}
use Rattle.ec_core.specs.Plain.{PlainExpr}
use Rattle.ec_core.specs.State.{State, worked, Outcome, got, more, undefined, next, choose}
use Rattle.ec_core.specs.Statements.{Exit, at_end, tested, turns, test_of, going_on}
use Rattle.ec_core.specs.Typing.{type_of_expr}
use Rattle.ec_core.specs.Valid.{ValidCondition, ValidOptional}
use Rattle.ec_core.specs.ValueTypes.{IsTypedState}
use Rattle.ec_core.specs.Words.{loop_words}
use Rattle.ec_ir.specs.Costs.{op_steps, branch_zero_words}
use Rattle.ec_ir.specs.Meaning.{Mach, machine, find}
use Rattle.ec_ir.specs.Operations.{PlainIr, label, jump}
use Rattle.ec_ir.specs.Temporaries.{Temps}
use Rattle.ec_lower_code.specs.Code.{optional_labels, unread_code, test_code, entry_code, last_code, Branch, where_not}
use Rattle.ec_lower_code.specs.Code.{branch_code}
use Rattle.ec_lower_code.proofs.Callees.{IsOther, CallsOfOptional}
use Rattle.ec_lower_code.proofs.Expressions.{W, value, Leaves, led, Leads, leads_past, branch_then}
use Rattle.ec_lower_code.proofs.Numbers.{scalar_bytes}
use Rattle.ec_lower_code.proofs.Ops.{to_rest, past_label, jumps, jump_steps}
use Rattle.ec_lower_code.proofs.Scene.{World, ports, homes, set, calls_to, Scene}
use Rattle.ec_lower_code.proofs.Shown.{Match, stopped_at}
use Rattle.ec_lower_code.proofs.Statements.{Returns, Left, Kept, left_to, Way, Typed, at_rest, bind_exit, unread_whole, branch_whole}
use Rattle.ec_lower_code.proofs.Steps.{at, Stands, around, here, Passes, passes, passes_come, Does, after, after_pass, fewer}
use Rattle.ec_lower_code.proofs.Steps.{credited, spent_on, less}

module _ (wd : World) (sc : Scene wd) (ret : Returns wd sc) where
  abbrev calls : Calls
  calls = calls_to wd sc.depth

  -- a loop: its condition, the last part of a turn, its body as the source has it, and its labels; what is left behind it
  -- and, within a function's own row, where a turn begins; then its places: the body, the test, and what follows
  module _ (c last : Option PlainExpr) (l d e : ℕ) (room : d ≤ e + 40) (body : State → Outcome Exit) (inner rest : List PlainIr)
      (body_at : find (l + 3) sc.code ≡ Some inner)
      (test_stands : Stands sc.code (test_code wd.program (ports wd) c l rest))
      (last_stands : Stands sc.code (last_code wd.program (ports wd) last (l + 5 + optional_labels c)
      (label l ∷ test_code wd.program (ports wd) c l rest)))
      (part : CallsOfOptional (IsOther wd.program) c) (valid_part : ValidCondition wd.program wd.io sc.f c)
      (last_part : CallsOfOptional (IsOther wd.program) last) (valid_last : ValidOptional wd.program wd.io sc.f last)
      (body_runs : (s : State) (m : Mach) → Match (homes wd) (ports wd) (around (W wd sc)) (e + 60) s m → IsTypedState wd.program s
      → Typed wd sc ret wd.n inner m (label (l + 2) ∷ last_code wd.program (ports wd) last (l + 5 + optional_labels c)
      (label l ∷ test_code wd.program (ports wd) c l rest)) rest (last_code wd.program (ports wd) last (l + 5 + optional_labels c)
      (label l ∷ test_code wd.program (ports wd) c l rest)) (e + 60) (body s))
    where
      abbrev test_place : List PlainIr
      test_place = test_code wd.program (ports wd) c l rest

      abbrev last_place : List PlainIr
      last_place = last_code wd.program (ports wd) last (l + 5 + optional_labels c) (label l ∷ test_place)

      -- the test, after which n turns are left of those from k on: the loop ends, or a turn begins
      module _ (n k f : ℕ) (le : n ≤ wd.n) (one : n ≤ suc k) (fits : e + 35 ≤ f) (out on : List PlainIr) (go : State → Outcome Exit)
          (runs : (s : State) (v : Mach) → Match (homes wd) (ports wd) (around (W wd sc)) e s v → IsTypedState wd.program s
          → Way wd sc ret k inner v rest out on d (go s)) where
        -- past an operation that counts, a turn begins
        begins : (s : State) (q : List PlainIr) (u v : Mach) → Passes (W wd sc) (here (W wd sc) q) u (at (here (W wd sc) inner)) v
            → Match (homes wd) (ports wd) (around (W wd sc)) e s v → IsTypedState wd.program s → Way wd sc ret n q u rest out on d (go s)
        begins s q u v p h st =
            fewer (W wd sc) (left_to wd sc ret rest out on) (Left wd sc ret d) (suc k) n (here (W wd sc) q) u (go s) one
            (after_pass (W wd sc) (left_to wd sc ret rest out on) (Left wd sc ret d) k (here (W wd sc) q) (here (W wd sc) inner) u v (go s)
            p (runs s v h st))

        selected : (x : PlainExpr) (b : Temps) (h : Bool) (s : State) (q : List PlainIr) (u : Mach) → IsScalar (type_of_expr x)
            → Leads wd sc 0 f (branch_zero_words (scalar_size (type_of_expr x)) + 5) b
            (led (where_not (l + 3) (l + 4)) h inner (label (l + 1) ∷ rest)) s q u
            → Way wd sc ret n q u rest out on d (choose h go (λ s1. got at_end (worked loop_words s1)) s)
        selected x b true s q u i r =
            let w = branch_zero_words (scalar_size (type_of_expr x)) + 5 in
            let size = (scalar_bytes (type_of_expr x) i).1 in
            let g = leads_past wd sc 0 f e w b inner s q u (omega (arith, size, fits)) r in
            begins s q u g.0 g.3 g.1 r.state
        selected x b false s q u i r =
            let w = branch_zero_words (scalar_size (type_of_expr x)) + 5 in
            let size = (scalar_bytes (type_of_expr x) i).1 in
            let g = r.comes (worked loop_words s) d (λ y k. less (homes wd) (ports wd) (f + y + 60) (d + w + y) (worked loop_words s) u
            (omega (arith, size, fits, room)) (credited (homes wd) (ports wd) loop_words (f + y) s u k)) in
            after (W wd sc) (left_to wd sc ret rest out on) (Left wd sc ret d) n (here (W wd sc) q) (here (W wd sc) (label (l + 1) ∷ rest))
            u g.0 (got at_end (worked loop_words s)) (passes_come (W wd sc) (here (W wd sc) q) u
            (at (here (W wd sc) (label (l + 1) ∷ rest))) g.0 g.3)
            (past_label (W wd sc) n (l + 1) rest g.0 (left_to wd sc ret rest out on) (Left wd sc ret d) (got at_end (worked loop_words s))
            (at_rest wd sc ret d rest out on n (worked loop_words s) g.0 g.1))

        test_runs : (c1 : Option PlainExpr) → CallsOfOptional (IsOther wd.program) c1 → ValidCondition wd.program wd.io sc.f c1
            → (s : State) (m : Mach) → Stands sc.code (test_code wd.program (ports wd) c1 l rest)
            → Match (homes wd) (ports wd) (around (W wd sc)) f s m → IsTypedState wd.program s
            → Way wd sc ret n (test_code wd.program (ports wd) c1 l rest) m rest out on d (tested (test_of (set wd) calls c1 s) go)
        test_runs None q v s m stands h st =
            let u : Mach = machine m.temps (worked (op_steps (jump (l + 3))) m.state) in
            begins s (jump (l + 3) ∷ label (l + 1) ∷ rest) m u
            (passes (W wd sc) (jump (l + 3) ∷ label (l + 1) ∷ rest) (here (W wd sc) inner) m u
            (jump_steps (W wd sc) (l + 3) (label (l + 1) ∷ rest) inner m body_at))
            (spent_on (homes wd) (ports wd) f e (jump (l + 3)) m.temps s m (omega (arith, fits)) h) st
        test_runs (Some x) q v s m stands h st =
            let to : Branch = where_not (l + 3) (l + 4) in
            let p : List PlainIr = label (l + 1) ∷ rest in
            branch_then wd sc n (branch_code wd.program (ports wd) x (l + 5) 0 to p) m to inner p 0 f
            (branch_zero_words (scalar_size (type_of_expr x)) + 5) m.temps (condition (set wd) x (value wd sc x s))
            (left_to wd sc ret rest out on) (Left wd sc ret d) (λ b s1. choose b go (λ s2. got at_end (worked loop_words s2)) s1)
            (branch_whole wd sc ret n x (l + 5) to f s m inner p le q v.0 v.1 st stands body_at h)
            (λ b s1 q1 u r. selected x m.temps b s1 q1 u v.1 r)

      -- the last part and the test
      going_runs : (k : ℕ) → suc k ≤ wd.n → (out on : List PlainIr) (go : State → Outcome Exit) → ((s : State) (v : Mach)
          → Match (homes wd) (ports wd) (around (W wd sc)) e s v → IsTypedState wd.program s
          → Way wd sc ret k inner v rest out on d (go s))
          → (s : State) (m : Mach) → Match (homes wd) (ports wd) (around (W wd sc)) (e + 60) s m → IsTypedState wd.program s
          → Way wd sc ret (suc k) last_place m rest out on d (tested (going_on (set wd) calls last c s) go)
      going_runs k le out on go runs s m h st = by_last last last_part valid_last last_stands
        where
          tests : (s1 : State) (u : Mach) → Match (homes wd) (ports wd) (around (W wd sc)) (e + 60) s1 u → IsTypedState wd.program s1
              → Way wd sc ret (suc k) (label l ∷ test_place) u rest out on d (tested (test_of (set wd) calls c s1) go)
          tests s1 u h1 st1 =
              past_label (W wd sc) (suc k) l test_place u (left_to wd sc ret rest out on) (Left wd sc ret d)
              (tested (test_of (set wd) calls c s1) go)
              (test_runs (suc k) k (e + 60) le (omega arith) (omega arith) out on go runs c part valid_part s1 u test_stands h1 st1)

          by_last : (y : Option PlainExpr) → CallsOfOptional (IsOther wd.program) y → ValidOptional wd.program wd.io sc.f y
              → Stands sc.code (last_code wd.program (ports wd) y (l + 5 + optional_labels c) (label l ∷ test_place))
              → Way wd sc ret (suc k) (last_code wd.program (ports wd) y (l + 5 + optional_labels c) (label l ∷ test_place)) m rest
              out on d (tested (going_on (set wd) calls y c s) go)
          by_last None q v stands = tests s m h st
          by_last (Some x) q v stands =
              let p : List PlainIr = label l ∷ test_place in
              value_then (value wd sc x s) (unread_whole wd sc ret (suc k) x (l + 5 + optional_labels c) (e + 60) s m p le q v st stands h)
            where
              value_then : (o : Outcome Value) → Does (W wd sc) (suc k)
                  (here (W wd sc) (unread_code wd.program (ports wd) x (l + 5 + optional_labels c) 0 (label l ∷ test_place))) m
                  (to_rest (W wd sc) (label l ∷ test_place)) (Leaves wd sc 0 (e + 60) m.temps) o
                  → Way wd sc ret (suc k) (unread_code wd.program (ports wd) x (l + 5 + optional_labels c) 0
                  (label l ∷ test_place)) m rest out on d (tested (next (next o (λ z s1. got at_end s1))
                  (λ z s1. test_of (set wd) calls c s1)) go)
              value_then (got z s1) r = after (W wd sc) (left_to wd sc ret rest out on) (Left wd sc ret d) (suc k)
                  (here (W wd sc) (unread_code wd.program (ports wd) x (l + 5 + optional_labels c) 0 (label l ∷ test_place)))
                  (here (W wd sc) (label l ∷ test_place)) m r.0 (tested (test_of (set wd) calls c s1) go) r.2
                  (tests s1 r.0 r.1.match r.1.state)
              value_then (more s1) r = r
              value_then (undefined point s1) r = tt

      -- at most k turns
      pub turns_run : (k : ℕ) → k ≤ wd.n → (out on : List PlainIr) (s : State) (v : Mach)
          → Match (homes wd) (ports wd) (around (W wd sc)) e s v → IsTypedState wd.program s → Way wd sc ret k inner v rest out on d
          (turns k body (λ s1. going_on (set wd) calls last c s1) s)
      turns_run zero le out on s v h st = (0, v, omega arith, stopped_at e s v h, refl)
      turns_run (suc k) le out on s v h st =
          let go_on = λ (s1 : State) (u1 : Mach) (h1 : Match (homes wd) (ports wd) (around (W wd sc)) (e + 60) s1 u1) (st1 : IsTypedState
          wd.program
          s1). going_runs k le
          out on (λ s2. turns k body (λ s1. going_on (set wd) calls last c s1) s2)
          (λ s2 z g t. turns_run k (omega (arith, le)) out on s2 z g t) s1 u1 h1 st1 in
          bind_exit wd sc ret (suc k) (e + 60) d inner v (label (l + 2) ∷ last_place) rest last_place rest out on
          (body (worked loop_words s)) _ (omega (arith, room)) (λ z s1. refl)
          (fewer (W wd sc) (left_to wd sc ret (label (l + 2) ∷ last_place) rest last_place) (Kept wd sc ret (e + 60)) wd.n (suc k)
          (here (W wd sc) inner) v (body (worked loop_words s)) le
          (body_runs (worked loop_words s) v (credited (homes wd) (ports wd) loop_words e s v h) st))
          (λ s1 u1 h1 st1. past_label (W wd sc) (suc k) (l + 2) last_place u1 (left_to wd sc ret rest out on) (Left wd sc ret d) _
          (go_on s1 u1 h1 st1))
          (λ s1 u1 h1 st1. at_rest wd sc ret d rest out on (suc k) s1 u1 (less (homes wd) (ports wd) (e + 60) d s1 u1
          (omega (arith, room)) h1))
          (λ s1 u1 h1 st1. go_on s1 u1 h1 st1)

      -- a loop that begins with its body
      pub do_runs : (out on : List PlainIr) (s : State) (m : Mach) → Match (homes wd) (ports wd) (around (W wd sc)) e s m
          → IsTypedState wd.program s → Way wd sc ret wd.n (label (l + 3) ∷ inner) m rest out on d
          (turns wd.n body (λ s2. going_on (set wd) calls last c s2) s)
      do_runs out on s m h st =
          past_label (W wd sc) wd.n (l + 3) inner m (left_to wd sc ret rest out on) (Left wd sc ret d)
          (turns wd.n body (λ s2. going_on (set wd) calls last c s2) s)
          (turns_run wd.n (omega arith) out on s m h st)

      -- and one that begins with its test: the jump to it and its branch are within the function's own row
      pub test_first : (out on skipped : List PlainIr) (s : State) (m : Mach) → find l sc.code ≡ Some test_place
          → Match (homes wd) (ports wd) (around (W wd sc)) (e + 40) s m → IsTypedState wd.program s
          → Way wd sc ret wd.n (jump l ∷ skipped) m rest out on d (tested (test_of (set wd) calls c s)
          (λ s1. turns wd.n body (λ s2. going_on (set wd) calls last c s2) s1))
      test_first out on skipped s m tested_at h st =
          let u : Mach = machine m.temps (worked (op_steps (jump l)) m.state) in
          let go = λ (s1 : State). turns wd.n body (λ s2. going_on (set wd) calls last c s2) s1 in
          after (W wd sc) (left_to wd sc ret rest out on) (Left wd sc ret d) wd.n (here (W wd sc) (jump l ∷ skipped))
          (here (W wd sc) test_place) m u (tested (test_of (set wd) calls c s) go)
          (jumps (W wd sc) l skipped test_place m tested_at)
          (test_runs wd.n wd.n (e + 35) (omega arith) (omega arith) (omega arith) out on go
          (λ s1 v g t. turns_run wd.n (omega arith) out on s1 v g t) c part valid_part s u test_stands
          (spent_on (homes wd) (ports wd) (e + 40) (e + 35) (jump l) m.temps s m (omega arith) h) st)

  -- a `for` or a `while`, which has a condition or none
  pub loop_runs : (c last : Option PlainExpr) (l d e : ℕ) → d ≤ e + 40 → (body : State → Outcome Exit) (inner rest : List PlainIr)
      → find (l + 3) sc.code ≡ Some inner → find l sc.code ≡ Some (test_code wd.program (ports wd) c l rest)
      → Stands sc.code (test_code wd.program (ports wd) c l rest)
      → Stands sc.code (last_code wd.program (ports wd) last (l + 5 + optional_labels c)
      (label l ∷ test_code wd.program (ports wd) c l rest))
      → CallsOfOptional (IsOther wd.program) c → ValidCondition wd.program wd.io sc.f c
      → CallsOfOptional (IsOther wd.program) last → ValidOptional wd.program wd.io sc.f last
      → ((s : State) (m : Mach) → Match (homes wd) (ports wd) (around (W wd sc)) (e + 60) s m → IsTypedState wd.program s
      → Typed wd sc ret wd.n inner m (label (l + 2) ∷ last_code wd.program (ports wd) last (l + 5 + optional_labels c)
      (label l ∷ test_code wd.program (ports wd) c l rest)) rest (last_code wd.program (ports wd) last (l + 5 + optional_labels c)
      (label l ∷ test_code wd.program (ports wd) c l rest)) (e + 60) (body s))
      → (out on : List PlainIr) (s : State) (m : Mach) → Match (homes wd) (ports wd) (around (W wd sc)) (e + 40) s m
      → IsTypedState wd.program s → Way wd sc ret wd.n (entry_code c l (label (l + 3) ∷ inner)) m rest out on d
      (tested (test_of (set wd) calls c s) (λ s1. turns wd.n body (λ s2. going_on (set wd) calls last c s2) s1))
  loop_runs None last l d e room body inner rest f3 f test_at last_at p v pl vl b out on s m h st =
      do_runs None last l d e room body inner rest f3 test_at last_at p v pl vl b out on s m
      (less (homes wd) (ports wd) (e + 40) e s m (omega arith) h) st
  loop_runs (Some x) last l d e room body inner rest f3 f test_at last_at p v pl vl b out on s m h st =
      test_first (Some x) last l d e room body inner rest f3 test_at last_at p v pl vl b out on (label (l + 3) ∷ inner) s m f h st
