-- The operations of a valid program keep the rules of operations.
use Rattle.std.proofs.Common.{◌≡◌, ◌≢◌, ◌⊎◌, ℕ, suc, ◌+◌, ◌<◌, ◌≤◌, Bool, true, false, List, [], ◌∷◌, length, map, Option, Some}
use Rattle.std.proofs.Common.{None, refl, sym, ap, ◌∙◌, subst, inl, inr, arith}
use Rattle.std.specs.Prelude.{IsSomeAnd, slice_get, option_map, unwrap_or}
use Rattle.std.specs.List.{AllByRecursion}
use Rattle.std.proofs.lemmas.List.{length-map}
use Rattle.std.proofs.lemmas.Option.{slice_get_within}
use Rattle.ec_iohw.specs.declared.table.IoTable.{IoTable}
use Rattle.ec_core.specs.declared.programs.LeafInit.{LeafInit}
use Rattle.ec_core.specs.Layout.{PlainLeaf, IsScalar, leaves_of_type, scalar_size}
use Rattle.ec_core.specs.Needs.{expr_need, exprs_needs, most, option_need, stmt_need, kind_need, option_stmt_need, stmts_need}
use Rattle.ec_core.specs.PortTable.{plain_table}
use Rattle.ec_core.specs.Plain.{PlainType, void, PlainExpr, PlainExprs, last_expr, next_expr, PlainStmt, statement, PlainKind}
use Rattle.ec_core.specs.Plain.{empty, evaluate, block, declare, branch, while_loop, do_loop, for_loop, break_loop}
use Rattle.ec_core.specs.Plain.{continue_loop, return_value, OptionPlainStmt, no_stmt, a_stmt, PlainStmts, last_stmt, next_stmt}
use Rattle.ec_core.specs.Plain.{PlainStorage, static, local, param, register, PlainObject, PlainFunction, PlainProgram}
use Rattle.ec_core.specs.Typing.{int, type_of_expr}
use Rattle.ec_core.specs.Valid.{EachFrom, IsObject, IsStored, IsInitialValue, AreInitialValues, IsNamedIn, ValidExpr}
use Rattle.ec_core.specs.Valid.{ValidExprs, ValidCondition, ValidOptional, IsDeclared, ValidStmt, ValidKind, ValidOptionStmt}
use Rattle.ec_core.specs.Valid.{ValidStmts, IsFunction, AreLeafValues, Valid}
use Rattle.ec_core.proofs.Filled.{leaves_fill_their_types}
use Rattle.ec_core.proofs.TypedValues.{some_and}
use Rattle.ec_ir.specs.Operations.{PlainIr, store_object, label, jump, return_from, idle_function, data_of}
use Rattle.ec_ir.specs.Valid.{count, called_in, HasLeafOf, IsParameterOf, ValidOperation, ValidIrFunction, ValidIr}
use Rattle.ec_lower_code.specs.Code.{temp, expr_labels, optional_labels, option_stmt_labels, stmt_labels, expr_code, init_code}
use Rattle.ec_lower_code.specs.Code.{test_code, entry_code, last_code, leaves_of_object, loop_code, stmt_code, kind_code}
use Rattle.ec_lower_code.specs.Code.{option_stmt_code, stmts_code, body_returns, end_of, end_code, function_code, lowered_function, lowered}
use Rattle.ec_lower_code.specs.Code.{unread_code}
use Rattle.ec_lower_code.specs.Code.{Branch, where_zero, where_not, branch_label, branch_code}
use Rattle.ec_lower_code.specs.Correct.{GroupsHaveBytes}
use Rattle.ec_lower_code.proofs.Behind.{expr_behind, branch_behind, test_behind, entry_behind, last_behind, stmt_behind, option_behind}
use Rattle.ec_lower_code.proofs.Facts.{result_scalar, leaves_are}
use Rattle.ec_lower_code.proofs.Labels.{function_counts}
use Rattle.ec_lower_code.proofs.Reached.{reached_source}
use Rattle.ec_lower_code.proofs.Tables.{HaveFewChoices, few_choices}
use Rattle.ec_lower_code.proofs.Steps.{Stands, behind}
use Rattle.ec_lower_code.proofs.Wellformed.{result_bytes, some_is, some_need, label_once, temp_ok, expr_ok, unread_ok}
use Rattle.ec_lower_code.proofs.Wellformed.{branch_ok}

module _ (program : PlainProgram) (table : IoTable) (valid : Valid program table) (pairs : GroupsHaveBytes table) (f : ℕ) (slots : ℕ)
    (all : List PlainIr) (once : (j : ℕ) → count j all ≤ 1) where
  abbrev Good : List PlainIr → Type 0
  Good code =
      AllByRecursion (ValidOperation (length table.dynamics.items) (lowered program (plain_table table)) (result_bytes program) f
      slots all) code

  one : (l : ℕ) (rest : List PlainIr) → Stands all (label l ∷ rest) → count l all ≡ 1
  one l rest s = label_once program table valid pairs f slots all once l rest s

  good : (e : PlainExpr) (l : ℕ) (rest : List PlainIr) → ValidExpr program table f e → expr_need e ≤ slots
      → Stands all (expr_code program (plain_table table) e l 0 rest) → Good rest → Good (expr_code program (plain_table table) e l 0 rest)
  good e l rest v le s r = expr_ok program table valid pairs f slots all once e l 0 rest v (omega (arith, le)) s r

  unread_good : (e : PlainExpr) (l : ℕ) (rest : List PlainIr) → ValidExpr program table f e → expr_need e ≤ slots
      → Stands all (unread_code program (plain_table table) e l 0 rest) → Good rest
      → Good (unread_code program (plain_table table) e l 0 rest)
  unread_good e l rest v le s r = unread_ok program table valid pairs f slots all once e l 0 rest v (omega (arith, le)) s r

  -- the leaves from number i on
  init_ok : (ls : List PlainLeaf) (o i : ℕ) (x : PlainObject) (es : PlainExprs) (l : ℕ) (rest : List PlainIr)
      → slice_get program.objects o ≡ Some x → x.storage ≡ local f → ((j : ℕ) (leaf : PlainLeaf) → slice_get ls j ≡ Some leaf
      → slice_get (leaves_of_type program.structs x.ty) (i + j) ≡ Some leaf)
      → AreLeafValues program table f ls es → ValidExprs program table f es → most (exprs_needs es) ≤ slots
      → Stands all (init_code program (plain_table table) ls o es l rest) → Good rest
      → Good (init_code program (plain_table table) ls o es l rest)
  init_ok [] o i x last_expr l rest e st at ty v le s r = r
  init_ok (leaf ∷ ls) o i x last_expr l rest e st at ty v le s r = absurd ty
  init_ok [] o i x (next_expr a es) l rest e st at ty v le s r = absurd ty
  init_ok (leaf ∷ ls) o i x (next_expr a es) l rest e st at ty v le s r =
      let q = init_code program (plain_table table) ls o es (l + expr_labels a) rest in
      let op = store_object o leaf.at (temp 0 (type_of_expr a)) in
      let item : slice_get (leaves_of_type program.structs x.ty) i ≡ Some leaf = ap (slice_get (leaves_of_type program.structs x.ty))
      (let z : i ≡ i + 0 = omega arith in z) ∙ at 0 leaf refl in
      let scalar : IsScalar (type_of_expr a) = subst IsScalar (sym ty.0) ((leaves_fill_their_types.objects program table o x valid e).each i
      leaf item).scalar.scalar in
      let need = some_need a in
      let s1 = behind all op q (expr_behind program (plain_table table) all a l 0 (op ∷ q) s) in
      let named : IsNamedIn f x.storage = subst (IsNamedIn f) (sym st) refl in
      let has : HasLeafOf (data_of (lowered program (plain_table table))) x leaf.at (scalar_size (type_of_expr a)) =
      record { k = i; leaf = leaf; is = item; at = refl; size = ap scalar_size (sym ty.0) } in
      good a l (op ∷ q) v.0 (omega (arith, le)) s (
        (
          temp_ok program table valid pairs f slots all once 0 (type_of_expr a) (omega (arith, le, need)) scalar,
          some_is (slice_get program.objects o) (λ x. (IsNamedIn f x.storage ⊎ IsParameterOf (called_in all) x.storage) × HasLeafOf
              (data_of (lowered program (plain_table table))) x leaf.at (scalar_size (type_of_expr a))) x e (inl named, has),
        ),
        init_ok ls o (i + 1) x es (l + expr_labels a) rest e st (λ j z q. ap (slice_get (leaves_of_type program.structs x.ty))
            (let a : i + 1 + j ≡ i + suc j = omega arith in a) ∙ at (suc j) z q) ty.1 v.1 (omega (arith, le)) s1 r,
      )

  declared_ok : (o : ℕ) (es : PlainExprs) (l : ℕ) (rest : List PlainIr) → IsSomeAnd (slice_get program.objects o)
      (IsDeclared program table f es) → ValidExprs program table f es → most (exprs_needs es) ≤ slots
      → Stands all (init_code program (plain_table table) (leaves_of_object program o) o es l rest) → Good rest
      → Good (init_code program (plain_table table) (leaves_of_object program o) o es l rest)
  declared_ok o es l rest d v le s r =
      let x = some_and (slice_get program.objects o) (IsDeclared program table f es) d in
      by_values x.0 x.1 x.2.0 x.2.1 (leaves_are program o x.0 x.1)
    where
      none : (ls : List PlainLeaf) → Good (init_code program (plain_table table) ls o last_expr l rest)
      none [] = r
      none (leaf ∷ ls) = r

      by_values : (x : PlainObject) → slice_get program.objects o ≡ Some x → x.storage ≡ local f
          → (es ≡ last_expr) ⊎ AreLeafValues program table f (leaves_of_type program.structs x.ty) es
          → leaves_of_object program o ≡ leaves_of_type program.structs x.ty
          → Good (init_code program (plain_table table) (leaves_of_object program o) o es l rest)
      by_values x e t (inl z) g = subst (λ (q : PlainExprs). Good (init_code program (plain_table table) (leaves_of_object program o) o q l
          rest)) (sym z) (none (leaves_of_object program o))
      by_values x e t (inr z) g =
          subst (λ (q : List PlainLeaf). Good (init_code program (plain_table table) q o es l rest)) (sym g)
          (init_ok (leaves_of_type program.structs x.ty) o 0 x es l rest e t
          (λ j leaf q. ap (slice_get (leaves_of_type program.structs x.ty)) (let a : 0 + j ≡ j = omega arith in a) ∙ q) z v le
          (subst (λ (q : List PlainLeaf). Stands all (init_code program (plain_table table) q o es l rest)) g s) r)

  -- a branch on a condition
  condition_ok : (c : PlainExpr) (l : ℕ) (to : Branch) (rest : List PlainIr) → ValidCondition program table f (Some c)
      → expr_need c ≤ slots → count (branch_label to) all ≡ 1 → Stands all (branch_code program (plain_table table) c l 0 to rest)
      → Good rest → Good (branch_code program (plain_table table) c l 0 to rest)
  condition_ok c l to rest v le h s r =
      branch_ok program table valid pairs f slots all once c l 0 to rest v.0 (omega (arith, le)) v.1 h s r

  test_ok : (c : Option PlainExpr) (l : ℕ) (rest : List PlainIr) → ValidCondition program table f c → option_need c ≤ slots
      → count (l + 3) all ≡ 1 → Stands all (test_code program (plain_table table) c l rest) → Good rest
      → Good (test_code program (plain_table table) c l rest)
  test_ok None l rest v le h s r = (h, (tt, r))
  test_ok (Some c) l rest v le h s r =
      condition_ok c (l + 5) (where_not (l + 3) (l + 4)) (label (l + 1) ∷ rest) v le h s (tt, r)

  last_ok : (e : Option PlainExpr) (l : ℕ) (rest : List PlainIr) → ValidOptional program table f e → option_need e ≤ slots
      → Stands all (last_code program (plain_table table) e l rest) → Good rest → Good (last_code program (plain_table table) e l rest)
  last_ok None l rest v le s r = r
  last_ok (Some e) l rest v le s r = unread_good e l rest v le s r

  module _ (returns : PlainType) (scalar : returns ≢ void → IsScalar returns) (bytes : result_bytes program f ≡ scalar_size returns) where
    -- a loop, of whose body this is known
    loop_ok : (c last : Option PlainExpr) (l : ℕ) (body : List PlainIr → List PlainIr) (rest : List PlainIr)
        → ((q : List PlainIr) → Stands all (body q) → Stands all q) → ((q : List PlainIr) → count (l + 1) all ≡ 1 → count (l + 2) all ≡ 1
        → Stands all (body q) → Good q → Good (body q))
        → ValidCondition program table f c → option_need c ≤ slots → ValidOptional program table f last → option_need last ≤ slots
        → Stands all (loop_code program (plain_table table) c last l body rest) → Good rest → (count l all ≡ 1) × Good
        (loop_code program (plain_table table) c last l body rest)
    loop_ok c last l body rest behind_body body_ok vc lc vl ll s r =
        let test = test_code program (plain_table table) c l rest in
        let end : List PlainIr = label l ∷ test in
        let p = last_code program (plain_table table) last (l + 5 + optional_labels c) end in
        let q : List PlainIr = label (l + 2) ∷ p in
        let s1 = behind all (label (l + 3)) (body q) s in
        let s2 = behind_body q s1 in
        let s3 = behind all (label (l + 2)) p s2 in
        let s4 = last_behind program (plain_table table) all last (l + 5 + optional_labels c) end s3 in
        let s5 = behind all (label l) test s4 in
        let at_end = one (l + 1) rest (test_behind program (plain_table table) all c l rest s5) in (
          one l test s4,
          (
            tt,
            body_ok q at_end (one (l + 2) p s2) s1
                (tt, last_ok last (l + 5 + optional_labels c) end vl ll s3 (tt, test_ok c l rest vc lc (one (l + 3) (body q) s) s5 r)),
          ),
        )

    entry_ok : (c : Option PlainExpr) (l : ℕ) (rest : List PlainIr) → (count l all ≡ 1) × Good rest → Good (entry_code c l rest)
    entry_ok None l rest h = h.1
    entry_ok (Some c) l rest h = (h.0, h.1)

    mutual
      stmt_ok : (a : PlainStmt) (in_loop : Bool) (l lo lc : ℕ) (rest : List PlainIr) → ValidStmt program table f returns in_loop a
          → stmt_need a ≤ slots → count lo all ≡ 1 → count lc all ≡ 1 → Stands all (stmt_code program (plain_table table) a l lo lc rest)
          → Good rest → Good (stmt_code program (plain_table table) a l lo lc rest)
      stmt_ok (statement unit at kind) in_loop l lo lc rest v le go gc s r = kind_ok kind in_loop l lo lc rest v le go gc s r

      kind_ok : (kind : PlainKind) (in_loop : Bool) (l lo lc : ℕ) (rest : List PlainIr) → ValidKind program table f returns in_loop kind
          → kind_need kind ≤ slots → count lo all ≡ 1 → count lc all ≡ 1
          → Stands all (kind_code program (plain_table table) kind l lo lc rest) → Good rest
          → Good (kind_code program (plain_table table) kind l lo lc rest)
      kind_ok empty in_loop l lo lc rest v le go gc s r = r
      kind_ok (evaluate e) in_loop l lo lc rest v le go gc s r = unread_good e l rest v le s r
      kind_ok (block ss) in_loop l lo lc rest v le go gc s r = stmts_ok ss in_loop l lo lc rest v le go gc s r
      kind_ok (declare o es) in_loop l lo lc rest v le go gc s r = declared_ok o es l rest v.0 v.1 le s r
      kind_ok (branch c a no_stmt) in_loop l lo lc rest v le go gc s r =
          let ac = stmt_code program (plain_table table) a (l + 2 + expr_labels c) lo lc (label l ∷ rest) in
          let s1 = branch_behind program (plain_table table) all c (l + 2) 0 (where_zero l) ac s in
          let s2 = stmt_behind program (plain_table table) all a (l + 2 + expr_labels c) lo lc (label l ∷ rest) s1 in
          condition_ok c (l + 2) (where_zero l) ac v.0 (omega (arith, le)) (one l rest s2) s
          (stmt_ok a in_loop (l + 2 + expr_labels c) lo lc (label l ∷ rest) v.1 (omega (arith, le)) go gc s1 (tt, r))
      kind_ok (branch c a (a_stmt b)) in_loop l lo lc rest v le go gc s r =
          let lb = l + 2 + expr_labels c + stmt_labels a in
          let bc = stmt_code program (plain_table table) b lb lo lc (label (l + 1) ∷ rest) in
          let q : List PlainIr = jump (l + 1) ∷ label l ∷ bc in
          let ac = stmt_code program (plain_table table) a (l + 2 + expr_labels c) lo lc q in
          let s1 = branch_behind program (plain_table table) all c (l + 2) 0 (where_zero l) ac s in
          let s2 = behind all (jump (l + 1)) (label l ∷ bc) (stmt_behind program (plain_table table) all a (l + 2 + expr_labels c) lo lc q
          s1) in
          let s3 = behind all (label l) bc s2 in
          let s4 = stmt_behind program (plain_table table) all b lb lo lc (label (l + 1) ∷ rest) s3 in
          condition_ok c (l + 2) (where_zero l) ac v.0 (omega (arith, le)) (one l bc s2) s
          (stmt_ok a in_loop (l + 2 + expr_labels c) lo lc q v.1 (omega (arith, le)) go gc s1
          (one (l + 1) rest s4, (tt, stmt_ok b in_loop lb lo lc (label (l + 1) ∷ rest) v.2 (omega (arith, le)) go gc s3 (tt, r))))
      kind_ok (while_loop c a) in_loop l lo lc rest v le go gc s r =
          let h = loop_ok (Some c) None l (λ q. stmt_code program (plain_table table) a (l + 5 + expr_labels c) (l + 1) (l + 2) q) rest
          (λ q h. stmt_behind program (plain_table table) all a (l + 5 + expr_labels c) (l + 1) (l + 2) q h)
          (λ q x y h g. stmt_ok a true (l + 5 + expr_labels c) (l + 1) (l + 2) q v.1 (omega (arith, le)) x y h g) v.0 (omega (arith, le)) tt
          (omega arith) (behind all (jump l) _ s) r in
          (h.0, h.1)
      kind_ok (do_loop a c) in_loop l lo lc rest v le go gc s r =
          (loop_ok (Some c) None l (λ q. stmt_code program (plain_table table) a (l + 5 + expr_labels c) (l + 1) (l + 2) q) rest
          (λ q h. stmt_behind program (plain_table table) all a (l + 5 + expr_labels c) (l + 1) (l + 2) q h)
          (λ q x y h g. stmt_ok a true (l + 5 + expr_labels c) (l + 1) (l + 2) q v.0 (omega (arith, le)) x y h g) v.1 (omega (arith, le)) tt
          (omega arith) s r).1
      kind_ok (for_loop first c last a) in_loop l lo lc rest v le go gc s r =
          let k = l + option_stmt_labels first in
          let body : List PlainIr → List PlainIr = λ q. stmt_code program (plain_table table) a
          (k + 5 + optional_labels c + optional_labels last) (k + 1) (k + 2) q in
          let loop = loop_code program (plain_table table) c last k body rest in
          let s1 = option_behind program (plain_table table) all first l lo lc (entry_code c k loop) s in
          option_ok first in_loop l lo lc (entry_code c k loop) v.0 (omega (arith, le)) go gc s
          (entry_ok c k loop (loop_ok c last k body rest (λ q h. stmt_behind program (plain_table table) all a
          (k + 5 + optional_labels c + optional_labels last) (k + 1) (k + 2) q h)
          (λ q x y h g. stmt_ok a true (k + 5 + optional_labels c + optional_labels last) (k + 1) (k + 2) q v.3 (omega (arith, le)) x y h g)
          v.1 (omega (arith, le)) v.2 (omega (arith, le)) (entry_behind program (plain_table table) all c k loop s1) r))
      kind_ok break_loop in_loop l lo lc rest v le go gc s r = (go, r)
      kind_ok continue_loop in_loop l lo lc rest v le go gc s r = (gc, r)
      kind_ok (return_value None) in_loop l lo lc rest v le go gc s r = (tt, r)
      kind_ok (return_value (Some e)) in_loop l lo lc rest v le go gc s r =
          let is : IsScalar (type_of_expr e) = subst IsScalar (sym v.0.1) (scalar v.0.0) in
          let need = some_need e in
          good e l (return_from (Some (temp 0 (type_of_expr e))) ∷ rest) v.1 (omega (arith, le)) s (
            (
              temp_ok program table valid pairs f slots all once 0 (type_of_expr e) (omega (arith, le, need)) is,
              ap scalar_size v.0.1
                  ∙ sym bytes,
            ),
            r,
          )

      option_ok : (a : OptionPlainStmt) (in_loop : Bool) (l lo lc : ℕ) (rest : List PlainIr)
          → ValidOptionStmt program table f returns in_loop a → option_stmt_need a ≤ slots → count lo all ≡ 1 → count lc all ≡ 1
          → Stands all (option_stmt_code program (plain_table table) a l lo lc rest) → Good rest
          → Good (option_stmt_code program (plain_table table) a l lo lc rest)
      option_ok no_stmt in_loop l lo lc rest v le go gc s r = r
      option_ok (a_stmt a) in_loop l lo lc rest v le go gc s r = stmt_ok a in_loop l lo lc rest v le go gc s r

      stmts_ok : (ss : PlainStmts) (in_loop : Bool) (l lo lc : ℕ) (rest : List PlainIr) → ValidStmts program table f returns in_loop ss
          → stmts_need ss ≤ slots → count lo all ≡ 1 → count lc all ≡ 1
          → Stands all (stmts_code program (plain_table table) ss l lo lc rest) → Good rest
          → Good (stmts_code program (plain_table table) ss l lo lc rest)
      stmts_ok last_stmt in_loop l lo lc rest v le go gc s r = r
      stmts_ok (next_stmt a ss) in_loop l lo lc rest v le go gc s r =
          let q = stmts_code program (plain_table table) ss (l + stmt_labels a) lo lc rest in
          stmt_ok a in_loop l lo lc q v.0 (omega (arith, le)) go gc s
          (stmts_ok ss in_loop (l + stmt_labels a) lo lc rest v.1 (omega (arith, le)) go gc
          (stmt_behind program (plain_table table) all a l lo lc q s) r)

-- ---- functions and the program

module _ (program : PlainProgram) (table : IoTable) (valid : Valid program table) (pairs : GroupsHaveBytes table) where
  few : HaveFewChoices (plain_table table)
  few = few_choices table valid.ports pairs

  function_ok : (f : ℕ) (h : PlainFunction) → slice_get program.functions f ≡ Some h → IsFunction program table f h
      → ValidIrFunction (length table.dynamics.items) (lowered program (plain_table table)) (result_bytes program) f (lowered_function
      program (plain_table table) h)
  function_ok f h e g =
      record {
        slots = g.need;
        code = stmt_ok program table valid pairs f (stmt_need h.body) (function_code program (plain_table table) h)
            (function_counts program (plain_table table) few h) h.returns (result_scalar h.returns g.returns) bytes h.body false 1 0 0
            (label 0 ∷ end_code h.body) g.body (omega arith) last last whole (tt, end_ok (body_returns h.body));
      }
    where
      whole : Stands (function_code program (plain_table table) h)
          (stmt_code program (plain_table table) h.body 1 0 0 (label 0 ∷ end_code h.body))
      whole = ([], refl)

      last : count 0 (function_code program (plain_table table) h) ≡ 1
      last = one program table valid pairs f (stmt_need h.body) (function_code program (plain_table table) h)
          (function_counts program (plain_table table) few h) 0 (end_code h.body) (stmt_behind program (plain_table table)
          (function_code program (plain_table table) h) h.body 1 0 0 (label 0 ∷ end_code h.body) whole)

      end_ok : (returns : Bool) → AllByRecursion (ValidOperation (length table.dynamics.items) (lowered program (plain_table table))
          (result_bytes program) f
          (stmt_need h.body) (function_code program (plain_table table) h)) (end_of returns)
      end_ok true = tt
      end_ok false = (tt, tt)

      bytes : result_bytes program f ≡ scalar_size h.returns
      bytes = ap (λ z. unwrap_or (option_map (λ (h : PlainFunction). scalar_size h.returns) z) 0) e

  functions_ok : (n : ℕ) (hs : List PlainFunction) → ((i : ℕ) (h : PlainFunction) → slice_get hs i ≡ Some h → slice_get program.functions
      (n + i) ≡ Some h) → EachFrom n (IsFunction program table) hs → EachFrom n (ValidIrFunction (length table.dynamics.items) (lowered
      program (plain_table table))
      (result_bytes program)) (map (lowered_function program (plain_table table)) hs)
  functions_ok n [] at v = tt
  functions_ok n (h ∷ hs) at v = (
    function_ok n h (ap (slice_get program.functions) (let z : n ≡ n + 0 = omega arith in z) ∙ at 0 h refl) v.0,
    functions_ok (n + 1) hs (λ i x e. ap (slice_get program.functions) (let z : n + 1 + i ≡ n + suc i = omega arith in z) ∙ at (suc i) x e)
        v.1,
  )

  -- the objects are those of a program whose functions do nothing
  initial_values : (ls : List PlainLeaf) (inits : List LeafInit) → AreInitialValues program ls inits
      → AreInitialValues (data_of (lowered program (plain_table table))) ls inits
  initial_values [] [] h = h
  initial_values [] (i ∷ is) h = absurd h
  initial_values (leaf ∷ ls) [] h = absurd h
  initial_values (leaf ∷ ls) (i ∷ is) h = (initial leaf.ty i h.0, initial_values ls is h.1)
    where
      initial : (ty : PlainType) (i : LeafInit) → IsInitialValue program ty i
          → IsInitialValue (data_of (lowered program (plain_table table))) ty i
      initial ty i h = h

  lengths : length (data_of (lowered program (plain_table table))).functions ≡ length program.functions
  lengths = length-map (map (lowered_function program (plain_table table)) program.functions) idle_function ∙ length-map program.functions
      (lowered_function program (plain_table table))

  storage_ok : (o : PlainObject) (st : PlainStorage) → IsStored program o st → IsStored (data_of (lowered program (plain_table table))) o st
  storage_ok o (static inits) h = initial_values (leaves_of_type program.structs o.ty) inits h
  storage_ok o (local g) h = let n = lengths in let lt = h.0 in (omega (arith, lt, n), h.1)
  storage_ok o (param g) h = let n = lengths in let lt = h.0 in (omega (arith, lt, n), h.1, h.2)
  storage_ok o (register r) h = record { arithmetic = h.arithmetic; low = h.low; high = h.high; home = h.home }

  objects_ok : (os : List PlainObject) → AllByRecursion (IsObject program) os
      → AllByRecursion (IsObject (data_of (lowered program (plain_table table)))) os
  objects_ok [] h = tt
  objects_ok (o ∷ os) h = (
    record {
      ty = h.0.ty;
      some = h.0.some;
      small = h.0.small;
      home = h.0.home;
      storage = storage_ok o o.storage h.0.storage;
    },
    objects_ok os h.1,
  )

  pub lowered_is_valid : ValidIr (length table.dynamics.items) (lowered program (plain_table table))
  lowered_is_valid =
      record {
        structs = valid.structs;
        objects = objects_ok program.objects valid.objects;
        registers = valid.registers;
        externals = valid.externals;
        results = result_bytes program;
        functions = functions_ok 0 program.functions (λ i h e. ap (slice_get program.functions) (let z : 0 + i ≡ i = omega arith in z)
            ∙ e) valid.functions;
        main = omega (arith, within, same);
        main_result = ap (λ z. unwrap_or (option_map (λ (h : PlainFunction). scalar_size h.returns) z) 0) main.1 ∙ ap scalar_size main.2.1;
        no_recursion = λ f c. valid.no_recursion f (reached_source program (plain_table table) f f c);
        object_count = valid.object_count;
        function_count = let n = valid.function_count in omega (arith, n, same);
      }
    where
      main : (g : PlainFunction) × (slice_get program.functions program.main ≡ Some g) × ((g.params ≡ []) × (g.returns ≡ int))
      main = some_and (slice_get program.functions program.main) (λ g. (g.params ≡ []) × (g.returns ≡ int)) valid.main

      within : program.main < length program.functions
      within = slice_get_within program.functions program.main main.0 main.1

      same : length (map (lowered_function program (plain_table table)) program.functions) ≡ length program.functions
      same = length-map program.functions (lowered_function program (plain_table table))
