-- Two runs of one program, with inputs, calls and numbers of turns of their own: a relation that test_of of equal outcomes and
-- passes from the parts of an evaluation to the whole test_of of what any statement or call gives in both.
use Rattle.std.proofs.Common.{◌≡◌, ℕ, ◌+◌, Bool, true, false, List, [], ◌∷◌, Option, Some, None, Result, pos, refl}
use Rattle.std.specs.Prelude.{◌==◌, if◌then◌else◌}
use Rattle.ec_fx.specs.declared.numbers.Mode.{Mode}
use Rattle.ec_iohw.specs.declared.operations.IoOp.{IoOp}
use Rattle.ec_core.specs.declared.values.Undefined.{Undefined}
use Rattle.ec_core.specs.declared.values.Value.{Value}
use Rattle.ec_core.specs.declared.values.Value.TheVariants.{Number}
use Rattle.ec_core.specs.Expressions.{Calls, compound_update, step_update, condition, truth_value, value_of, node_value, place_of}
use Rattle.ec_core.specs.Expressions.{option_value, values_of}
use Rattle.ec_core.specs.Laws.{Leads}
use Rattle.ec_core.specs.Meaning.{setting, state_of}
use Rattle.ec_core.specs.Plain.{PlainType, PlainExpr, expression, PlainNode, number, null, load, address_of, unary, binary, convert, assign}
use Rattle.ec_core.specs.Plain.{compound, step, logical_not, logical_and, logical_or, conditional, comma, call, io, group, bind, dynamic_group, PlainPlace}
use Rattle.ec_core.specs.Plain.{object, deref, member, OptionPlainExpr, no_expr, an_expr, PlainExprs, last_expr, next_expr, PlainStmt}
use Rattle.ec_core.specs.Plain.{statement, PlainKind, empty, evaluate, block, declare, branch, while_loop, do_loop, for_loop, break_loop}
use Rattle.ec_core.specs.Plain.{continue_loop, return_value, OptionPlainStmt, no_stmt, a_stmt, PlainStmts, last_stmt, next_stmt}
use Rattle.ec_core.specs.Plain.{PlainFunction, PlainProgram}
use Rattle.ec_core.specs.PortAccesses.{port_effect}
use Rattle.ec_core.specs.PortTable.{PlainPort, PlainTable}
use Rattle.ec_core.specs.State.{Inputs, Setting, State, worked, Outcome, next, given, choose}
use Rattle.ec_core.specs.Statements.{Exit, at_end, by_break, by_continue, by_return, in_order, again, tested, turns, declared}
use Rattle.ec_core.specs.Statements.{declared_first, ending, test_of, evaluated, returned, going_on, initialising, effect_of, kind_effect}
use Rattle.ec_core.specs.Statements.{option_effect, first_effect, effects_of, parameters_written, call_of}
use Rattle.ec_core.specs.Typing.{int, type_of_expr}
use Rattle.ec_core.proofs.Growth.{IsSpent, Grows, still, grown, grows_after, grows_next, grows_given, worked_leads, read_grows, write_grows}
use Rattle.ec_core.proofs.Growth.{initialised_grows, port_effect_grows, group_effect_grows, bind_effect_grows, dynamic_effect_grows, pointed_to_grows, updated_place_grows}
use Rattle.ec_core.proofs.Growth.{object_place_grows, all_ended_leads, begun_leads, result_grows, frame_ended_leads}

-- a relation on outcomes, for runs of one program on two inputs
module _ (program : PlainProgram) (table : PlainTable) (left right : Inputs) (least : ℕ)
    (E : (A : Type 0) → Outcome A → Outcome A → Type 0) where
  abbrev w : Setting
  w = setting program table left

  abbrev v : Setting
  v = setting program table right

  -- it test_of of two outcomes, to both of which a state leads
  pub record Both {A : Type 0} (s : State) (o q : Outcome A) : Type 0 where
    pub related : E A o q
    pub first : Grows w least s o
    pub second : Grows v least s q

  -- it test_of of equal outcomes, and passes to the whole
  pub record IsKept : Type 1 where
    pub same : (A : Type 0) (o : Outcome A) → E A o o
    pub onward : (A B : Type 0) (o q : Outcome A) (f g : A → State → Outcome B) → E A o q → ((x : A) (s : State) → Both s (f x s) (g x s))
        → E B (next o f) (next q g)

  module _ (k : IsKept) where
    pub alike : {A : Type 0} {s : State} {o : Outcome A} → Grows w least s o → Grows v least s o → Both s o o
    alike {A} {s} {o} a b = record { related = k.same A o; first = a; second = b }

    pub rests : {A : Type 0} {o : Outcome A} (s : State) → s ≡ state_of o → IsSpent least o → Both s o o
    rests s e h = alike (still w least s e h) (still v least s e h)

    after : {A : Type 0} {o q : Outcome A} {s t : State} → Leads w s t → Leads v s t → Both t o q → Both s o q
    after a b r = record { related = r.related; first = grows_after w least a r.first; second = grows_after v least b r.second }

    pub after_work : {A : Type 0} {o q : Outcome A} (words : ℕ) (s : State) → Both (worked words s) o q → Both s o q
    after_work words s r = after (worked_leads w least words s) (worked_leads v least words s) r

    pub onwards : {A B : Type 0} {s : State} {o q : Outcome A} {f g : A → State → Outcome B} → Both s o q
        → ((x : A) (t : State) → Both t (f x t) (g x t)) → Both s (next o f) (next q g)
    onwards {A} {B} {s} {o} {q} {f} {g} r h = record {
      related = k.onward A B o q f g r.related h;
      first = grows_next w least s o f r.first (λ x t. (h x t).first);
      second = grows_next v least s q g r.second (λ x t. (h x t).second);
    }

    of_result : {A : Type 0} (r : Result A Undefined) (s : State) → Both s (given r s) (given r s)
    of_result r s = alike (grows_given w least r s) (grows_given v least r s)

    choosing : {A : Type 0} (h : Bool) (a b c d : State → Outcome A) (s : State) → Both s (a s) (c s) → Both s (b s) (d s)
        → Both s (choose h a b s) (choose h c d s)
    choosing true a b c d s p q = p
    choosing false a b c d s p q = q

    conditions : (e : PlainExpr) {s : State} {o q : Outcome Value} → Both s o q → Both s (condition w e o) (condition v e q)
    conditions e r = onwards r (λ x t. of_result _ t)

    truths : {s : State} {o q : Outcome Bool} → Both s o q → Both s (truth_value o) (truth_value q)
    truths r = onwards r (λ h t. rests t refl tt)

    in_order_both : (x : Exit) (s : State) (f g : State → Outcome Exit) → Both s (f s) (g s) → Both s (in_order x s f) (in_order x s g)
    in_order_both at_end s f g r = r
    in_order_both by_break s f g r = rests s refl tt
    in_order_both by_continue s f g r = rests s refl tt
    in_order_both (by_return x) s f g r = rests s refl tt

    pub again_both : (x : Exit) (s : State) (f g : State → Outcome Exit) → Both s (f s) (g s) → Both s (again x s f) (again x s g)
    again_both at_end s f g r = r
    again_both by_break s f g r = rests s refl tt
    again_both by_continue s f g r = r
    again_both (by_return x) s f g r = rests s refl tt

    pub tested_both : {s : State} {o q : Outcome Bool} {f g : State → Outcome Exit} → Both s o q → ((t : State) → Both t (f t) (g t))
        → Both s (tested o f) (tested q g)
    tested_both r h = onwards r (λ b t.
        choosing b _ _ _ _ t (h t) (alike (grown w least (worked_leads w least _ t) tt) (grown v least (worked_leads v least _ t) tt)))

    ending_both : (os : List ℕ) {s : State} {o q : Outcome Exit} → Both s o q → Both s (ending os o) (ending os q)
    ending_both os r =
        onwards r (λ x t. alike (grown w least (all_ended_leads w least os t) tt) (grown v least (all_ended_leads v least os t) tt))

    -- ---- expressions

    module _ (ports : (op : IoOp) (port : Option PlainPort) (i x : Value) (s : State)
        → E Value (port_effect left table op port i x s) (port_effect right table op port i x s)) (first second : Calls)
        (calls : (f : ℕ) (xs : List Value) (s : State) → Both s (first f xs s) (second f xs s)) where
      mutual
        pub values_both : (e : PlainExpr) (s : State) → Both s (value_of w first e s) (value_of v second e s)
        values_both (expression ty mode node) s = after_work _ s (nodes_both ty mode node _)

        nodes_both : (ty : PlainType) (mode : Mode) (node : PlainNode) (s : State)
            → Both s (node_value w first ty mode node s) (node_value v second ty mode node s)
        nodes_both ty mode (number n) s = rests s refl tt
        nodes_both ty mode null s = rests s refl tt
        nodes_both ty mode (load p) s =
            onwards (places_both p s) (λ at t. alike (read_grows w least ty _ at t) (read_grows v least ty _ at t))
        nodes_both ty mode (address_of p) s = onwards (places_both p s) (λ at t. rests t refl tt)
        nodes_both ty mode (unary op a) s = onwards (values_both a s) (λ x t. of_result _ t)
        nodes_both ty mode (binary op a b) s = onwards (values_both a s) (λ x t. onwards (values_both b t) (λ y u. of_result _ u))
        nodes_both ty mode (convert a) s = onwards (values_both a s) (λ x t. of_result _ t)
        nodes_both ty mode (assign p a) s = onwards (places_both p s)
            (λ at t. onwards (values_both a t) (λ x u. alike (write_grows w least ty _ at x u) (write_grows v least ty _ at x u)))
        nodes_both ty mode (compound op operation_mode p a) s =
            onwards (places_both p s) (λ at t.
            onwards (alike (read_grows w least ty _ at t) (read_grows v least ty _ at t)) (λ old u. onwards (values_both a u) (λ x z.
            alike (updated_place_grows w least (compound_update op operation_mode ty mode p) at old (type_of_expr a) x z)
            (updated_place_grows v least (compound_update op operation_mode ty mode p) at old (type_of_expr a) x z))))
        nodes_both ty mode (step up prefix p) s =
            onwards (places_both p s) (λ at t. onwards (alike (read_grows w least ty _ at t) (read_grows v least ty _ at t)) (λ old u.
            alike (updated_place_grows w least (step_update up ty mode prefix p) at old int (Number (pos 1)) u)
            (updated_place_grows v least (step_update up ty mode prefix p) at old int (Number (pos 1)) u)))
        nodes_both ty mode (logical_not a) s = onwards (conditions a (values_both a s)) (λ h t. rests t refl tt)
        nodes_both ty mode (logical_and a b) s = onwards (conditions a (values_both a s))
            (λ h t. choosing h _ _ _ _ t (truths (conditions b (values_both b t))) (rests t refl tt))
        nodes_both ty mode (logical_or a b) s = onwards (conditions a (values_both a s))
            (λ h t. choosing h _ _ _ _ t (rests t refl tt) (truths (conditions b (values_both b t))))
        nodes_both ty mode (conditional c a b) s =
            onwards (conditions c (values_both c s)) (λ h t. choosing h _ _ _ _ t (values_both a t) (values_both b t))
        nodes_both ty mode (comma a b) s = onwards (values_both a s) (λ x t. values_both b t)
        nodes_both ty mode (call f args) s = onwards (rows_both args s) (λ xs t. calls f xs t)
        nodes_both ty mode (io op port index value) s =
            onwards (options_both index s) (λ i t. onwards (options_both value t) (λ x u. record {
              related = ports op _ i x u;
              first = port_effect_grows w least op _ i x u;
              second = port_effect_grows v least op _ i x u;
            }))
        nodes_both ty mode (group acquire g) s = alike (group_effect_grows w least acquire g _ s) (group_effect_grows v least acquire g _ s)
        nodes_both ty mode (bind d choice) s = alike (bind_effect_grows w least d choice s) (bind_effect_grows v least d choice s)
        nodes_both ty mode (dynamic_group acquire d) s =
            alike (dynamic_effect_grows w least acquire d s) (dynamic_effect_grows v least acquire d s)

        pub places_both : (p : PlainPlace) (s : State) → Both s (place_of w first p s) (place_of v second p s)
        places_both (object o) s = alike (object_place_grows w least _ s) (object_place_grows v least _ s)
        places_both (deref e) s = onwards (values_both e s) (λ x t. alike (pointed_to_grows w least x t) (pointed_to_grows v least x t))
        places_both (member p i) s = after_work _ s (onwards (places_both p _) (λ at t. of_result _ t))

        options_both : (e : OptionPlainExpr) (s : State) → Both s (option_value w first e s) (option_value v second e s)
        options_both no_expr s = rests s refl tt
        options_both (an_expr e) s = values_both e s

        pub rows_both : (es : PlainExprs) (s : State) → Both s (values_of w first es s) (values_of v second es s)
        rows_both last_expr s = rests s refl tt
        rows_both (next_expr e es) s = onwards (values_both e s) (λ x t. onwards (rows_both es t) (λ xs u. rests u refl tt))

      -- ---- parts of statements

      tests_both : (c : Option PlainExpr) (s : State) → Both s (test_of w first c s) (test_of v second c s)
      tests_both None s = rests s refl tt
      tests_both (Some e) s = conditions e (values_both e s)

      evaluated_both : (e : Option PlainExpr) (s : State) → Both s (evaluated w first e s) (evaluated v second e s)
      evaluated_both None s = rests s refl tt
      evaluated_both (Some e) s = onwards (values_both e s) (λ x t. rests t refl tt)

      going_on_both : (last c : Option PlainExpr) (s : State) → Both s (going_on w first last c s) (going_on v second last c s)
      going_on_both last c s = onwards (evaluated_both last s) (λ x t. tests_both c t)

      returned_both : (e : Option PlainExpr) (s : State) → Both s (returned w first e s) (returned v second e s)
      returned_both None s = rests s refl tt
      returned_both (Some e) s = onwards (values_both e s) (λ x t. rests t refl tt)

      initialising_both : (o i : ℕ) (es : PlainExprs) (s : State) → Both s (initialising w first o i es s) (initialising v second o i es s)
      initialising_both o i last_expr s = rests s refl tt
      initialising_both o i (next_expr e es) s =
          after_work _ s (onwards (values_both e _) (λ x t. onwards
          (alike (initialised_grows w least o i x t) (initialised_grows v least o i x t)) (λ y u. initialising_both o (i + 1) es u)))

      -- ---- statements, with loops of at most so many turns each

      module _ (n m : ℕ)
          (loops : (body other : State → Outcome Exit) (test probe : State → Outcome Bool) → ((s : State) → Both s (body s) (other s))
          → ((s : State) → Both s (test s) (probe s)) → (s : State) → Both s (turns n body test s) (turns m other probe s)) where
        mutual
          pub effects_both : (a : PlainStmt) (s : State) → Both s (effect_of w first n a s) (effect_of v second m a s)
          effects_both (statement unit at kind) s = kinds_both kind s

          kinds_both : (kind : PlainKind) (s : State) → Both s (kind_effect w first n kind s) (kind_effect v second m kind s)
          kinds_both empty s = rests s refl tt
          kinds_both (evaluate e) s = evaluated_both (Some e) s
          kinds_both (block ss) s = ending_both (declared ss) (blocks_both ss s)
          kinds_both (declare o values) s = after (begun_leads w least o s) (begun_leads v least o s) (initialising_both o 0 values _)
          kinds_both (branch c x y) s =
              after_work _ s (onwards (tests_both (Some c) _) (λ h t. choosing h _ _ _ _ t (effects_both x t) (optional_both y t)))
          kinds_both (while_loop c body) s =
              tested_both (tests_both (Some c) s) (λ t. loops _ _ _ _ (λ u. effects_both body u) (λ u. tests_both (Some c) u) t)
          kinds_both (do_loop body c) s = loops _ _ _ _ (λ u. effects_both body u) (λ u. tests_both (Some c) u) s
          kinds_both (for_loop start c last body) s =
              ending_both (declared_first start) (onwards (firsts_both start s) (λ x t. in_order_both x t _ _
              (tested_both (tests_both c t) (λ u. loops _ _ _ _ (λ z. effects_both body z) (λ z. going_on_both last c z) u))))
          kinds_both break_loop s = after_work _ s (rests _ refl tt)
          kinds_both continue_loop s = after_work _ s (rests _ refl tt)
          kinds_both (return_value e) s = after_work _ s (returned_both e _)

          optional_both : (a : OptionPlainStmt) (s : State) → Both s (option_effect w first n a s) (option_effect v second m a s)
          optional_both no_stmt s = rests s refl tt
          optional_both (a_stmt a) s = effects_both a s

          pub firsts_both : (a : OptionPlainStmt) (s : State) → Both s (first_effect w first n a s) (first_effect v second m a s)
          firsts_both no_stmt s = rests s refl tt
          firsts_both (a_stmt (statement unit at (block ss))) s = blocks_both ss s
          firsts_both (a_stmt (statement unit at empty)) s = kinds_both empty s
          firsts_both (a_stmt (statement unit at (evaluate e))) s = kinds_both (evaluate e) s
          firsts_both (a_stmt (statement unit at (declare o values))) s = kinds_both (declare o values) s
          firsts_both (a_stmt (statement unit at (branch c x y))) s = kinds_both (branch c x y) s
          firsts_both (a_stmt (statement unit at (while_loop c body))) s = kinds_both (while_loop c body) s
          firsts_both (a_stmt (statement unit at (do_loop body c))) s = kinds_both (do_loop body c) s
          firsts_both (a_stmt (statement unit at (for_loop start c last body))) s = kinds_both (for_loop start c last body) s
          firsts_both (a_stmt (statement unit at break_loop)) s = kinds_both break_loop s
          firsts_both (a_stmt (statement unit at continue_loop)) s = kinds_both continue_loop s
          firsts_both (a_stmt (statement unit at (return_value e))) s = kinds_both (return_value e) s

          blocks_both : (ss : PlainStmts) (s : State) → Both s (effects_of w first n ss s) (effects_of v second m ss s)
          blocks_both last_stmt s = rests s refl tt
          blocks_both (next_stmt a ss) s = onwards (effects_both a s) (λ x t. in_order_both x t _ _ (blocks_both ss t))

        -- ---- calls

        parameters_both : (os : List ℕ) (xs : List Value) (s : State) → Both s (parameters_written w os xs s) (parameters_written v os xs s)
        parameters_both [] xs s = rests s refl tt
        parameters_both (o ∷ os) [] s = rests s refl tt
        parameters_both (o ∷ os) (x ∷ xs) s = after (begun_leads w least o s) (begun_leads v least o s)
            (onwards (alike (initialised_grows w least o 0 x _) (initialised_grows v least o 0 x _)) (λ y t. parameters_both os xs t))

        pub call_both : (f : ℕ) (g : Option PlainFunction) (xs : List Value) (s : State)
            → Both s (call_of w first n f g xs s) (call_of v second m f g xs s)
        call_both f None xs s = rests s refl tt
        call_both f (Some g) xs s =
            after_work _ s (onwards (parameters_both g.params xs _) (λ y t. onwards (effects_both g.body t) (λ x u.
            after (frame_ended_leads w least f u) (frame_ended_leads v least f u)
            (alike (result_grows w least g.returns (f == program.main) x _) (result_grows v least g.returns (f == program.main) x _)))))
