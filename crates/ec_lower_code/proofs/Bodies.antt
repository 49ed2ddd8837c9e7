-- The operations of statements do what they do.
use Rattle.std.proofs.Common.{◌≡◌, ◌≢◌, ◌⊎◌, ℕ, ◌+◌, ◌-◌, ◌≤◌, Bool, true, List, [], ◌∷◌, Some, None, refl, sym, ap, ◌∙◌}
use Rattle.std.proofs.Common.{subst, inl, inr, arith}
use Rattle.std.specs.Prelude.{slice_get}
use Rattle.ec_core.specs.declared.values.Value.{Value}
use Rattle.ec_core.specs.Accesses.{begun}
use Rattle.ec_core.specs.Expressions.{Calls, condition}
use Rattle.ec_core.specs.Layout.{scalar_size, PlainLeaf, leaves_of_type}
use Rattle.ec_core.specs.Plain.{PlainType, void, PlainExpr, PlainExprs, last_expr, PlainStmt, statement, PlainKind, empty}
use Rattle.ec_core.specs.Plain.{evaluate, block, declare, branch, while_loop, do_loop, for_loop, break_loop, continue_loop}
use Rattle.ec_core.specs.Plain.{return_value, OptionPlainStmt, no_stmt, a_stmt, PlainStmts, last_stmt, next_stmt, local}
use Rattle.ec_core.specs.Plain.{PlainObject}
use Rattle.ec_core.specs.State.{State, worked, Outcome, got, next}
use Rattle.ec_core.specs.Statements.{Exit, at_end, by_return, in_order, tested, turns, declared, declared_first, test_of}
use Rattle.ec_core.specs.Statements.{going_on, initialising, effect_of, kind_effect, first_effect, effects_of}
use Rattle.ec_core.specs.Typing.{type_of_expr}
use Rattle.ec_core.specs.Valid.{AreLeafValues, IsDeclared, ValidStmt, ValidKind, ValidOptionStmt, ValidStmts}
use Rattle.ec_core.specs.ValueTypes.{IsTypedState, IsExitOf}
use Rattle.ec_core.specs.Words.{branch_words, jump_words, return_of, return_words}
use Rattle.ec_core.proofs.TypedValues.{some_and}
use Rattle.ec_ir.specs.Costs.{op_steps, branch_zero_words}
use Rattle.ec_ir.specs.Meaning.{is_kept, Mach, machine, Place, find}
use Rattle.ec_ir.specs.Operations.{PlainIr, label, jump, return_from}
use Rattle.ec_ir.specs.Temporaries.{Temps}
use Rattle.ec_lower_code.specs.Code.{temp, expr_labels, optional_labels, option_stmt_labels, stmt_labels, expr_code, init_code}
use Rattle.ec_lower_code.specs.Code.{test_code, entry_code, last_code, leaves_of_object, stmt_code, kind_code, option_stmt_code}
use Rattle.ec_lower_code.specs.Code.{stmts_code, where_zero, branch_code}
use Rattle.ec_lower_code.proofs.Callees.{IsOther, CallsOfExprs, CallsOfStmt, CallsOfKind, CallsOfOptionStmt, CallsOfStmts}
use Rattle.ec_lower_code.proofs.Behind.{branch_behind, test_behind, entry_behind, last_behind, stmt_behind, option_behind}
use Rattle.ec_lower_code.proofs.Expressions.{W, value, Has, branch_choose}
use Rattle.ec_lower_code.proofs.Facts.{local_home, leaves_are}
use Rattle.ec_lower_code.proofs.Loops.{loop_runs, do_runs}
use Rattle.ec_lower_code.proofs.Numbers.{scalar_bytes}
use Rattle.ec_lower_code.proofs.Ops.{to_rest, past_label, jumps}
use Rattle.ec_lower_code.proofs.Pays.{return_pays}
use Rattle.ec_lower_code.proofs.Scene.{World, ports, homes, set, calls_to, law, Scene}
use Rattle.ec_lower_code.proofs.Shown.{Match}
use Rattle.ec_lower_code.proofs.Statements.{Returns, Left, left_to, Way, Typed, typed_way, at_rest, bind_exit}
use Rattle.ec_lower_code.proofs.Statements.{joins, begun_match, ending_runs, whole_runs, branch_whole, done_runs, init_runs}
use Rattle.ec_lower_code.proofs.Steps.{Stands, behind, around, here, stays, after, bind, credited, spent_on, less}

module _ (wd : World) (sc : Scene wd) (ret : Returns wd sc) where
  abbrev calls : Calls
  calls = calls_to wd sc.depth

  abbrev Spots : List PlainIr → Place
  Spots rest = here (W wd sc) rest

  abbrev Goes : List PlainIr → Mach → (rest out on : List PlainIr) → ℕ → Outcome Exit → Type 0
  Goes p m rest out on d o = Way wd sc ret wd.n p m rest out on d o

  abbrev Keeps : List PlainIr → Mach → (rest out on : List PlainIr) → ℕ → Outcome Exit → Type 0
  Keeps p m rest out on d o = Typed wd sc ret wd.n p m rest out on d o

  -- a jump or a label behind a part
  jump_behind : (d l : ℕ) (after_code rest out on : List PlainIr) → find l sc.code ≡ Some rest → (s : State) (u : Mach)
      → Match (homes wd) (ports wd) (around (W wd sc)) (d + 5) s u → Goes (jump l ∷ after_code) u rest out on d (got at_end s)
  jump_behind d l after_code rest out on f s u h =
      after (W wd sc) (left_to wd sc ret rest out on) (Left wd sc ret d) wd.n (Spots (jump l ∷ after_code)) (Spots rest) u _ (got at_end s)
      (jumps (W wd sc) l after_code rest u f)
      (at_rest wd sc ret d rest out on wd.n s _ (spent_on (homes wd) (ports wd) (d + 5) d (jump l) u.temps s u (omega arith) h))

  label_behind : (d e l : ℕ) (rest out on : List PlainIr) → d ≤ e → (s : State) (u : Mach)
      → Match (homes wd) (ports wd) (around (W wd sc)) e s u
      → Goes (label l ∷ rest) u rest out on d (got at_end s)
  label_behind d e l rest out on le s u h =
      past_label (W wd sc) wd.n l rest u (left_to wd sc ret rest out on) (Left wd sc ret d) (got at_end s)
      (at_rest wd sc ret d rest out on wd.n s u (less (homes wd) (ports wd) e d s u le h))

  -- from a value to the return
  return_runs : (d : ℕ) (e : PlainExpr) (b : Temps) (v : Value) (s : State) (u : Mach) (rest out on more_code : List PlainIr)
      → ret.returns ≢ void → type_of_expr e ≡ ret.returns → Has wd sc (type_of_expr e) 0 (d + return_of (Some e)) b v s u
      → Goes (return_from (Some (temp 0 (type_of_expr e))) ∷ more_code) u rest out on d (got (by_return (Some v)) s)
  return_runs d e b v s u rest out on more_code nv t r =
      subst (λ (z : PlainType). Goes (return_from (Some (temp 0 z)) ∷ more_code) u rest out on d (got (by_return (Some v)) s)) (sym t)
      (let i = return_from (Some (temp 0 ret.returns)) in
      let scalar = ret.scalar nv in
      let a = return_pays (scalar_size ret.returns) in
      let size = ap scalar_size t in
      let held = subst (λ (z : PlainType). Has wd sc z 0 (d + return_of (Some e)) b v s u) t r in
      let g = ret.some v scalar held.typed more_code u (held.has.value scalar) in (
        g.0,
        record {
          match = g.1 d s
              (spent_on (homes wd) (ports wd) (d + return_of (Some e)) d i u.temps s u (omega (arith, a, size)) r.has.match);
          back = g.2;
        },
        g.3,
      ))

  -- a declaration, with a value for each leaf or none
  declared_runs : (o : ℕ) (es : PlainExprs) (l d : ℕ) (rest out on : List PlainIr) → CallsOfExprs (IsOther wd.program) es
      → ValidKind wd.program wd.io sc.f ret.returns true (declare o es)
      → Stands sc.code (kind_code wd.program (ports wd) (declare o es) l 0 0 rest) → (s : State) (m : Mach)
      → Match (homes wd) (ports wd) (around (W wd sc)) d s m
      → IsTypedState wd.program s → Goes (init_code wd.program (ports wd) (leaves_of_object wd.program o) o es l rest) m rest out on d
      (initialising (set wd) calls o 0 es (begun wd.program o s))
  declared_runs o es l d rest out on p v stands s m h st =
      let x = some_and (slice_get wd.program.objects o) (IsDeclared wd.program wd.io sc.f es) v.0 in
      by_values x.0 x.1 x.2.0 x.2.1 (leaves_are wd.program o x.0 x.1)
    where
      begins : Match (homes wd) (ports wd) (around (W wd sc)) d (begun wd.program o s) m
      begins = begun_match wd o d s m (λ y e. kept y e) h
        where
          kept : (y : PlainObject) → slice_get wd.program.objects o ≡ Some y → is_kept (around (W wd sc)) y.storage ≡ true
          kept y e =
              let x = some_and (slice_get wd.program.objects o) (IsDeclared wd.program wd.io sc.f es) v.0 in
              let g : Some x.0 ≡ Some y = sym x.1 ∙ e in
              let i : x.0 ≡ y = cc in
              ap (λ (z : PlainObject). is_kept (around (W wd sc)) z.storage) (sym i)
              ∙ ap (is_kept (around (W wd sc))) x.2.0 ∙ sc.runs

      typed : IsTypedState wd.program (begun wd.program o s)
      typed = (law wd).states.begun o s st

      none : (ls : List PlainLeaf) (k : ℕ) → Goes (init_code wd.program (ports wd) ls o last_expr k rest) m rest out on d
          (initialising (set wd) calls o 0 last_expr (begun wd.program o s))
      none [] k = at_rest wd sc ret d rest out on wd.n (begun wd.program o s) m begins
      none (leaf ∷ ls) k = at_rest wd sc ret d rest out on wd.n (begun wd.program o s) m begins

      by_values : (x : PlainObject) → slice_get wd.program.objects o ≡ Some x → x.storage ≡ local sc.f
          → (es ≡ last_expr) ⊎ AreLeafValues wd.program wd.io sc.f (leaves_of_type wd.program.structs x.ty) es
          → leaves_of_object wd.program o ≡ leaves_of_type wd.program.structs x.ty
          → Goes (init_code wd.program (ports wd) (leaves_of_object wd.program o) o es l rest) m rest out on d
          (initialising (set wd) calls o 0 es (begun wd.program o s))
      by_values x e t (inl z) g = subst (λ (q : PlainExprs). Goes (init_code wd.program (ports wd) (leaves_of_object wd.program o) o q l
          rest) m rest out on d (initialising (set wd) calls o 0 q (begun wd.program o s))) (sym z) (none (leaves_of_object wd.program o) l)
      by_values x e t (inr z) g =
          subst (λ (q : List PlainLeaf). Goes (init_code wd.program (ports wd) q o es l rest) m rest out on d
          (initialising (set wd) calls o 0 es (begun wd.program o s))) (sym g)
          (init_runs wd sc ret d o 0 x (leaves_of_type wd.program.structs x.ty) es l rest out on e
          (λ j leaf q. ap (slice_get (leaves_of_type wd.program.structs x.ty)) (let a : 0 + j ≡ j = omega arith in a) ∙ q)
          (local_home wd.program wd.io wd.valid o sc.f x e t) z p v.1
          (subst (λ (q : List PlainLeaf). Stands sc.code (init_code wd.program (ports wd) q o es l rest)) g stands) (begun wd.program o s) m
          begins typed)

  -- the function's own row is left for the return at its end: the first test of a loop is within it
  mutual
    pub stmt_runs : (a : PlainStmt) (in_loop : Bool) (l lo lc d : ℕ) (rest out on : List PlainIr) → 40 ≤ d
        → CallsOfStmt (IsOther wd.program) a
        → ValidStmt wd.program wd.io sc.f ret.returns in_loop a → Stands sc.code (stmt_code wd.program (ports wd) a l lo lc rest)
        → find lo sc.code ≡ Some out → find lc sc.code ≡ Some on → (s : State) (m : Mach)
        → Match (homes wd) (ports wd) (around (W wd sc)) d s m
        → IsTypedState wd.program s → Keeps (stmt_code wd.program (ports wd) a l lo lc rest) m rest out on d
        (effect_of (set wd) calls wd.n a s)
    stmt_runs (statement unit k kind) in_loop l lo lc d rest out on room p v stands fo fc s m h st =
        typed_way wd sc ret (IsExitOf wd.program ret.returns) wd.n (kind_code wd.program (ports wd) kind l lo lc rest) m rest out on d
        (effect_of (set wd) calls wd.n (statement unit k kind) s) ((law wd).statements wd.n sc.depth sc.f ret.returns in_loop
        (statement unit k kind) s v st)
        (kind_runs kind in_loop l lo lc d rest out on room p v stands fo fc s m h st)

    kind_runs : (kind : PlainKind) (in_loop : Bool) (l lo lc d : ℕ) (rest out on : List PlainIr) → 40 ≤ d
        → CallsOfKind (IsOther wd.program) kind
        → ValidKind wd.program wd.io sc.f ret.returns in_loop kind → Stands sc.code (kind_code wd.program (ports wd) kind l lo lc rest)
        → find lo sc.code ≡ Some out → find lc sc.code ≡ Some on → (s : State) (m : Mach)
        → Match (homes wd) (ports wd) (around (W wd sc)) d s m
        → IsTypedState wd.program s → Goes (kind_code wd.program (ports wd) kind l lo lc rest) m rest out on d
        (kind_effect (set wd) calls wd.n kind s)
    kind_runs empty in_loop l lo lc d rest out on room p v stands fo fc s m h st = at_rest wd sc ret d rest out on wd.n s m h
    kind_runs (evaluate e) in_loop l lo lc d rest out on room p v stands fo fc s m h st = done_runs wd sc ret wd.n e l d s m rest out on
        (omega arith) p v st stands h
    kind_runs (block ss) in_loop l lo lc d rest out on room p v stands fo fc s m h st =
        ending_runs wd sc ret wd.n d (stmts_code wd.program (ports wd) ss l lo lc rest) m rest out on (declared ss)
        (effects_of (set wd) calls wd.n ss s) (stmts_runs ss in_loop l lo lc d rest out on room p v stands fo fc s m h st)
    kind_runs (declare o es) in_loop l lo lc d rest out on room p v stands fo fc s m h st =
        declared_runs o es l d rest out on p v stands s m h st
    kind_runs (branch c a no_stmt) in_loop l lo lc d rest out on room p v stands fo fc s m h st =
        let then_code = stmt_code wd.program (ports wd) a (l + 2 + expr_labels c) lo lc (label l ∷ rest) in
        let then_at = branch_behind wd.program (ports wd) sc.code c (l + 2) 0 (where_zero l) then_code stands in
        let end = stmt_behind wd.program (ports wd) sc.code a (l + 2 + expr_labels c) lo lc (label l ∷ rest) then_at in
        let e = d + branch_words in
        let size = (scalar_bytes (type_of_expr c) v.0.1).1 in
        branch_choose wd sc wd.n (branch_code wd.program (ports wd) c (l + 2) 0 (where_zero l) then_code) m (where_zero l) rest then_code 0
        e d (branch_zero_words (scalar_size (type_of_expr c))) m.temps (condition (set wd) c (value wd sc c (worked branch_words s)))
        (left_to wd sc ret rest out on) (Left wd sc ret d) (λ s2. effect_of (set wd) calls wd.n a s2) (λ s2. got at_end s2)
        (omega (arith, size))
        (branch_whole wd sc ret wd.n c (l + 2) (where_zero l) e (worked branch_words s) m rest then_code (omega arith) p.0 v.0.0 v.0.1 st
        stands (sc.resolves l rest end) (credited (homes wd) (ports wd) branch_words d s m h))
        (λ s1 u1 st1 k below. joins wd sc ret wd.n d d then_code u1 (label l ∷ rest) rest out on (effect_of (set wd) calls wd.n a s1)
        (omega arith)
        (stmt_runs a in_loop (l + 2 + expr_labels c) lo lc d (label l ∷ rest) out on room p.1 v.1 then_at fo fc s1 u1 k st1)
        (λ s2 u2 h2. label_behind d d l rest out on (omega arith) s2 u2 h2))
        (λ s1 u1 st1 k below. at_rest wd sc ret d rest out on wd.n s1 u1 k)
    kind_runs (branch c a (a_stmt a2)) in_loop l lo lc d rest out on room p v stands fo fc s m h st =
        let lb = l + 2 + expr_labels c + stmt_labels a in
        let else_code = stmt_code wd.program (ports wd) a2 lb lo lc (label (l + 1) ∷ rest) in
        let then_code = stmt_code wd.program (ports wd) a (l + 2 + expr_labels c) lo lc (jump (l + 1) ∷ label l ∷ else_code) in
        let then_at = branch_behind wd.program (ports wd) sc.code c (l + 2) 0 (where_zero l) then_code stands in
        let then_end = stmt_behind wd.program (ports wd) sc.code a (l + 2 + expr_labels c) lo lc (jump (l + 1) ∷ label l ∷ else_code)
        then_at in
        let label_at = behind sc.code _ _ then_end in
        let else_at = behind sc.code _ _ label_at in
        let end = stmt_behind wd.program (ports wd) sc.code a2 lb lo lc (label (l + 1) ∷ rest) else_at in
        let e = d + branch_words in
        let size = (scalar_bytes (type_of_expr c) v.0.1).1 in
        branch_choose wd sc wd.n (branch_code wd.program (ports wd) c (l + 2) 0 (where_zero l) then_code) m (where_zero l) else_code
        then_code 0 e (d + 5) (branch_zero_words (scalar_size (type_of_expr c))) m.temps
        (condition (set wd) c (value wd sc c (worked branch_words s))) (left_to wd sc ret rest out on) (Left wd sc ret d)
        (λ s2. effect_of (set wd) calls wd.n a s2) (λ s2. effect_of (set wd) calls wd.n a2 s2) (omega (arith, size))
        (branch_whole wd sc ret wd.n c (l + 2) (where_zero l) e (worked branch_words s) m else_code then_code (omega arith) p.0 v.0.0 v.0.1
        st stands (sc.resolves l else_code label_at) (credited (homes wd) (ports wd) branch_words d s m h))
        (λ s1 u1 st1 k below. joins wd sc ret wd.n (d + 5) d then_code u1 (jump (l + 1) ∷ label l ∷ else_code) rest out on
        (effect_of (set wd) calls wd.n a s1) (omega arith) (stmt_runs a in_loop (l + 2 + expr_labels c) lo lc (d + 5) (jump (l + 1)
        ∷ label l ∷ else_code) out on (omega (arith, room)) p.1 v.1 then_at fo fc s1 u1 k st1)
        (λ s2 u2 h2. jump_behind d (l + 1) (label l ∷ else_code) rest out on (sc.resolves (l + 1) rest end) s2 u2 h2))
        (λ s1 u1 st1 k below. joins wd sc ret wd.n (d + 5) d else_code u1 (label (l + 1) ∷ rest) rest out on
        (effect_of (set wd) calls wd.n a2 s1)
        (omega arith) (stmt_runs a2 in_loop lb lo lc (d + 5) (label (l + 1) ∷ rest) out on (omega (arith, room)) p.2 v.2 else_at fo fc s1
        u1 k st1)
        (λ s2 u2 h2. label_behind d (d + 5) (l + 1) rest out on (omega arith) s2 u2 h2))
    kind_runs break_loop in_loop l lo lc d rest out on room p v stands fo fc s m h st = (
      machine m.temps (worked (op_steps (jump lo)) m.state),
      record {
        match = spent_on (homes wd) (ports wd) (d + 10) d (jump lo) m.temps
            (worked jump_words s) m (omega arith) (credited (homes wd) (ports wd) jump_words d s m h);
        back = tt;
      },
      jumps (W wd sc) lo rest out m fo,
    )
    kind_runs continue_loop in_loop l lo lc d rest out on room p v stands fo fc s m h st = (
      machine m.temps (worked (op_steps (jump lc)) m.state),
      record {
        match = spent_on (homes wd) (ports wd) (d + 10) d (jump lc) m.temps
            (worked jump_words s) m (omega arith) (credited (homes wd) (ports wd) jump_words d s m h);
        back = tt;
      },
      jumps (W wd sc) lc rest on m fc,
    )
    kind_runs (return_value None) in_loop l lo lc d rest out on room p v stands fo fc s m h st =
        let i = return_from None in
        let g = ret.none v.0 rest m in (
          g.0,
          record {
            match = g.1 d (worked (return_words 1) s)
                (spent_on (homes wd) (ports wd) (d + return_words 1) d i m.temps (worked (return_words 1) s) m (omega arith)
                (credited (homes wd) (ports wd) (return_words 1) d s m h));
            back = g.2;
          },
          g.3,
        )
    kind_runs (return_value (Some x)) in_loop l lo lc d rest out on room p v stands fo fc s m h st =
        let i = return_from (Some (temp 0 (type_of_expr x))) in
        let e = d + return_of (Some x) in
        bind (W wd sc) wd.n (Spots (expr_code wd.program (ports wd) x l 0 (i ∷ rest))) m (to_rest (W wd sc) (i ∷ rest))
        (Has wd sc (type_of_expr x) 0 e m.temps) (left_to wd sc ret rest out on) (Left wd sc ret d) (Spots (i ∷ rest))
        (value wd sc x (worked (return_of (Some x)) s)) _ (λ z. refl)
        (whole_runs wd sc ret wd.n x l e (worked (return_of (Some x)) s) m (i ∷ rest) (omega arith) p v.1 st stands
        (credited (homes wd) (ports wd) (return_of (Some x)) d s m h))
        (λ y s1 u r. return_runs d x m.temps y s1 u rest out on rest v.0.0 v.0.1 r)
    kind_runs (while_loop c a) in_loop l lo lc d rest out on room p v stands fo fc s m h st =
        let test = test_code wd.program (ports wd) (Some c) l rest in
        let q : List PlainIr = label l ∷ test in
        let after_code : List PlainIr = label (l + 2) ∷ q in
        let inner = stmt_code wd.program (ports wd) a (l + 5 + expr_labels c) (l + 1) (l + 2) after_code in
        let inner_label = behind sc.code (jump l) (label (l + 3) ∷ inner) stands in
        let inner_at = behind sc.code (label (l + 3)) inner inner_label in
        let end = stmt_behind wd.program (ports wd) sc.code a (l + 5 + expr_labels c) (l + 1) (l + 2) after_code inner_at in
        let q_at = behind sc.code (label (l + 2)) q end in
        let test_at = behind sc.code (label l) test q_at in
        let f1 = sc.resolves (l + 1) rest (test_behind wd.program (ports wd) sc.code (Some c) l rest test_at) in
        let e = d - 40 in
        loop_runs wd sc ret (Some c) None l d e (omega (arith, room)) (λ s1. effect_of (set wd) calls wd.n a s1) inner rest
        (sc.resolves (l + 3) inner inner_label) (sc.resolves l test q_at) test_at q_at p.0 v.0 tt tt
        (λ s1 u h1 st1. stmt_runs a true (l + 5 + expr_labels c) (l + 1) (l + 2) (e + 60) after_code rest q (omega arith) p.1 v.1 inner_at
        f1 (sc.resolves (l + 2) q end) s1 u h1 st1) out on s m (less (homes wd) (ports wd) d (e + 40) s m (omega (arith, room)) h) st
    kind_runs (do_loop a c) in_loop l lo lc d rest out on room p v stands fo fc s m h st =
        let test = test_code wd.program (ports wd) (Some c) l rest in
        let q : List PlainIr = label l ∷ test in
        let after_code : List PlainIr = label (l + 2) ∷ q in
        let inner = stmt_code wd.program (ports wd) a (l + 5 + expr_labels c) (l + 1) (l + 2) after_code in
        let inner_at = behind sc.code (label (l + 3)) inner stands in
        let end = stmt_behind wd.program (ports wd) sc.code a (l + 5 + expr_labels c) (l + 1) (l + 2) after_code inner_at in
        let q_at = behind sc.code (label (l + 2)) q end in
        let test_at = behind sc.code (label l) test q_at in
        let f1 = sc.resolves (l + 1) rest (test_behind wd.program (ports wd) sc.code (Some c) l rest test_at) in
        do_runs wd sc ret (Some c) None l d d (omega arith) (λ s1. effect_of (set wd) calls wd.n a s1) inner rest
        (sc.resolves (l + 3) inner stands) test_at q_at p.1 v.1 tt tt
        (λ s1 u h1 st1. stmt_runs a true (l + 5 + expr_labels c) (l + 1) (l + 2) (d + 60) after_code rest q (omega arith) p.0 v.0 inner_at
        f1 (sc.resolves (l + 2) q end) s1 u h1 st1) out on s m h st
    kind_runs (for_loop first c last a) in_loop l0 lo lc d rest out on room p v stands fo fc s m h st =
        let l = l0 + option_stmt_labels first in
        let ll = l + 5 + optional_labels c in
        let test = test_code wd.program (ports wd) c l rest in
        let q : List PlainIr = label l ∷ test in
        let last_at : List PlainIr = last_code wd.program (ports wd) last ll q in
        let after_code : List PlainIr = label (l + 2) ∷ last_at in
        let inner = stmt_code wd.program (ports wd) a (l + 5 + optional_labels c + optional_labels last) (l + 1) (l + 2) after_code in
        let entry = entry_code c l (label (l + 3) ∷ inner) in
        let inner_label = entry_behind wd.program (ports wd) sc.code c l (label (l + 3) ∷ inner)
        (option_behind wd.program (ports wd) sc.code first l0 lo lc entry stands) in
        let inner_at = behind sc.code (label (l + 3)) inner inner_label in
        let end = stmt_behind wd.program (ports wd) sc.code a (l + 5 + optional_labels c + optional_labels last) (l + 1)
        (l + 2) after_code inner_at in
        let l_at = behind sc.code (label (l + 2)) last_at end in
        let q_at = last_behind wd.program (ports wd) sc.code last ll q l_at in
        let test_at = behind sc.code (label l) test q_at in
        let f1 = sc.resolves (l + 1) rest (test_behind wd.program (ports wd) sc.code c l rest test_at) in
        let f2 = sc.resolves (l + 2) last_at end in
        let e = d - 40 in
        let loop = λ (s1 : State). tested (test_of (set wd) calls c s1) (λ s2. turns wd.n (λ s3. effect_of (set wd) calls wd.n a s3)
        (λ s3. going_on (set wd) calls last c s3) s2) in
        ending_runs wd sc ret wd.n d (option_stmt_code wd.program (ports wd) first l0 lo lc entry) m rest out on
        (declared_first first) (next (first_effect (set wd) calls wd.n first s) (λ x s1. in_order x s1 loop))
        (bind_exit wd sc ret wd.n d d (option_stmt_code wd.program (ports wd) first l0 lo lc entry) m entry out on
        rest out on (first_effect (set wd) calls wd.n first s) _ (omega arith) (λ z s1. refl)
        (typed_way wd sc ret (IsExitOf wd.program ret.returns) wd.n (option_stmt_code wd.program (ports wd) first l0 lo lc entry)
        m entry out on d (first_effect (set wd) calls wd.n first s) ((law wd).first_parts wd.n sc.depth sc.f ret.returns in_loop
        first s v.0 st)
        (first_runs first in_loop l0 lo lc d entry out on room p.0 v.0 stands fo fc s m h st))
        (λ s1 u h1 st1. loop_runs wd sc ret c last l d e (omega (arith, room)) (λ s3. effect_of (set wd) calls wd.n a s3) inner rest
        (sc.resolves (l + 3) inner inner_label) (sc.resolves l test q_at) test_at l_at p.1 v.1 p.2 v.2
        (λ s2 u2 h2 st2. stmt_runs a true (l + 5 + optional_labels c + optional_labels last) (l + 1) (l + 2) (e + 60) after_code rest
        last_at (omega arith) p.3 v.3 inner_at f1 f2 s2 u2 h2 st2) out on s1 u
        (less (homes wd) (ports wd) d (e + 40) s1 u (omega (arith, room)) h1) st1)
        (λ s1 u h1 st1. (u, record { match = h1; back = tt }, stays (W wd sc) (Spots out) u))
        (λ s1 u h1 st1. (u, record { match = h1; back = tt }, stays (W wd sc) (Spots on) u)))

    -- the first part of a `for`: the objects of a block live on
    first_runs : (a : OptionPlainStmt) (in_loop : Bool) (l lo lc d : ℕ) (rest out on : List PlainIr) → 40 ≤ d
        → CallsOfOptionStmt (IsOther wd.program) a → ValidOptionStmt wd.program wd.io sc.f ret.returns in_loop a
        → Stands sc.code (option_stmt_code wd.program (ports wd) a l lo lc rest) → find lo sc.code ≡ Some out → find lc sc.code ≡ Some on
        → (s : State) (m : Mach) → Match (homes wd) (ports wd) (around (W wd sc)) d s m → IsTypedState wd.program s
        → Goes (option_stmt_code wd.program (ports wd) a l lo lc rest) m rest out on d (first_effect (set wd) calls wd.n a s)
    first_runs no_stmt in_loop l lo lc d rest out on room p v stands fo fc s m h st = at_rest wd sc ret d rest out on wd.n s m h
    first_runs (a_stmt (statement unit k empty)) in_loop l lo lc d rest out on room p v stands fo fc s m h st =
        kind_runs empty in_loop l lo lc d rest out on room p v stands fo fc s m h st
    first_runs (a_stmt (statement unit k (evaluate e))) in_loop l lo lc d rest out on room p v stands fo fc s m h st =
        kind_runs (evaluate e) in_loop l lo lc d rest out on room p v stands fo fc s m h st
    first_runs (a_stmt (statement unit k (block ss))) in_loop l lo lc d rest out on room p v stands fo fc s m h st =
        stmts_runs ss in_loop l lo lc d rest out on room p v stands fo fc s m h st
    first_runs (a_stmt (statement unit k (declare o es))) in_loop l lo lc d rest out on room p v stands fo fc s m h st =
        kind_runs (declare o es) in_loop l lo lc d rest out on room p v stands fo fc s m h st
    first_runs (a_stmt (statement unit k (branch c x y))) in_loop l lo lc d rest out on room p v stands fo fc s m h st =
        kind_runs (branch c x y) in_loop l lo lc d rest out on room p v stands fo fc s m h st
    first_runs (a_stmt (statement unit k (while_loop c x))) in_loop l lo lc d rest out on room p v stands fo fc s m h st =
        kind_runs (while_loop c x) in_loop l lo lc d rest out on room p v stands fo fc s m h st
    first_runs (a_stmt (statement unit k (do_loop x c))) in_loop l lo lc d rest out on room p v stands fo fc s m h st =
        kind_runs (do_loop x c) in_loop l lo lc d rest out on room p v stands fo fc s m h st
    first_runs (a_stmt (statement unit k (for_loop i c e x))) in_loop l lo lc d rest out on room p v stands fo fc s m h st =
        kind_runs (for_loop i c e x) in_loop l lo lc d rest out on room p v stands fo fc s m h st
    first_runs (a_stmt (statement unit k break_loop)) in_loop l lo lc d rest out on room p v stands fo fc s m h st =
        kind_runs break_loop in_loop l lo lc d rest out on room p v stands fo fc s m h st
    first_runs (a_stmt (statement unit k continue_loop)) in_loop l lo lc d rest out on room p v stands fo fc s m h st =
        kind_runs continue_loop in_loop l lo lc d rest out on room p v stands fo fc s m h st
    first_runs (a_stmt (statement unit k (return_value e))) in_loop l lo lc d rest out on room p v stands fo fc s m h st =
        kind_runs (return_value e) in_loop l lo lc d rest out on room p v stands fo fc s m h st

    stmts_runs : (ss : PlainStmts) (in_loop : Bool) (l lo lc d : ℕ) (rest out on : List PlainIr) → 40 ≤ d
        → CallsOfStmts (IsOther wd.program) ss
        → ValidStmts wd.program wd.io sc.f ret.returns in_loop ss → Stands sc.code (stmts_code wd.program (ports wd) ss l lo lc rest)
        → find lo sc.code ≡ Some out → find lc sc.code ≡ Some on → (s : State) (m : Mach)
        → Match (homes wd) (ports wd) (around (W wd sc)) d s m
        → IsTypedState wd.program s → Goes (stmts_code wd.program (ports wd) ss l lo lc rest) m rest out on d
        (effects_of (set wd) calls wd.n ss s)
    stmts_runs last_stmt in_loop l lo lc d rest out on room p v stands fo fc s m h st = at_rest wd sc ret d rest out on wd.n s m h
    stmts_runs (next_stmt a ss) in_loop l lo lc d rest out on room p v stands fo fc s m h st =
        let more_code = stmts_code wd.program (ports wd) ss (l + stmt_labels a) lo lc rest in
        bind_exit wd sc ret wd.n d d (stmt_code wd.program (ports wd) a l lo lc more_code) m more_code out on rest out on
        (effect_of (set wd) calls wd.n a s) _ (omega arith) (λ z s1. refl)
        (stmt_runs a in_loop l lo lc d more_code out on room p.0 v.0 stands fo fc s m h st)
        (λ s1 u h1 st1. stmts_runs ss in_loop (l + stmt_labels a) lo lc d rest out on room p.1 v.1
        (stmt_behind wd.program (ports wd) sc.code a l lo lc more_code stands) fo fc s1 u h1 st1)
        (λ s1 u h1 st1. (u, record { match = h1; back = tt }, stays (W wd sc) (Spots out) u))
        (λ s1 u h1 st1. (u, record { match = h1; back = tt }, stays (W wd sc) (Spots on) u))
