-- What a statement does (ISO/IEC 9899:1999, 6.8). Each execution of a loop has at most n turns.
use Rattle.std.specs.Prelude.{ℕ, zero, suc, ◌+◌, ◌==◌, Bool, true, false, pos, List, [], ◌∷◌, Option, Some, None}
use Rattle.std.specs.Prelude.{slice_get}
use Rattle.ec_core.specs.declared.values.Undefined.TheVariants.{Invalid, NoResult}
use Rattle.ec_core.specs.declared.values.Value.{Value}
use Rattle.ec_core.specs.declared.values.Value.TheVariants.{Number}
use Rattle.ec_core.specs.Accesses.{begun, all_ended, frame_ended, initialised}
use Rattle.ec_core.specs.Expressions.{Calls, condition, value_of}
use Rattle.ec_core.specs.Plain.{PlainType, void, PlainExpr, PlainExprs, last_expr, next_expr, PlainStmt, statement}
use Rattle.ec_core.specs.Plain.{PlainKind, empty, evaluate, block, declare, branch, while_loop, do_loop, for_loop}
use Rattle.ec_core.specs.Plain.{break_loop, continue_loop, return_value, OptionPlainStmt, no_stmt, a_stmt, PlainStmts}
use Rattle.ec_core.specs.Plain.{last_stmt, next_stmt, PlainFunction}
use Rattle.ec_core.specs.PortAccesses.{no_value}
use Rattle.ec_core.specs.State.{Setting, State, worked, Outcome, got, more, undefined, next, choose}
use Rattle.ec_core.specs.Words.{function_words, branch_words, loop_words, jump_words, return_of, leaf_words}

-- how a statement was left
pub data Exit : Type 0 where
  at_end : Exit
  by_break : Exit
  by_continue : Exit
  by_return : Option Value → Exit

-- goes on where a statement was left at its end
abbrev pub in_order : Exit → State → (State → Outcome Exit) → Outcome Exit
in_order at_end s go = go s
in_order by_break s go = got by_break s
in_order by_continue s go = got by_continue s
in_order (by_return v) s go = got (by_return v) s

-- goes on with a loop where its body was left (6.8.6.2, 6.8.6.3)
abbrev pub again : Exit → State → (State → Outcome Exit) → Outcome Exit
again at_end s go = go s
again by_break s go = got at_end s
again by_continue s go = go s
again (by_return v) s go = got (by_return v) s

-- goes on where a test holds, and else ends the loop; a test that ends a loop is work
abbrev pub tested : Outcome Bool → (State → Outcome Exit) → Outcome Exit
tested o go = next o (λ h s. choose h go (λ s1. got at_end (worked loop_words s1)) s)

-- At most n turns of a loop: the body, then the test whether there is another turn. Where one more would begin, the
-- loop is out of turns
abbrev pub turns : ℕ → (State → Outcome Exit) → (State → Outcome Bool) → State → Outcome Exit
turns zero body test s = more s
turns (suc n) body test s =
    next (body (worked loop_words s)) (λ x s1. again x s1 (λ s2. tested (test s2) (λ s3. turns n body test s3)))

-- the objects that are declared directly in a block, which live to its end (6.2.4)
abbrev pub declared : PlainStmts → List ℕ
declared last_stmt = []
declared (next_stmt (statement unit at (declare o values)) ss) = o ∷ declared ss
declared (next_stmt s ss) = declared ss

-- those of the first part of a `for`, which live to the loop's end (6.8.5.3)
abbrev pub declared_first : OptionPlainStmt → List ℕ
declared_first no_stmt = []
declared_first (a_stmt (statement unit at (block ss))) = declared ss
declared_first (a_stmt s) = declared (next_stmt s last_stmt)

-- then these objects are no longer live
abbrev pub ending : List ℕ → Outcome Exit → Outcome Exit
ending os o = next o (λ x s. got x (all_ended os s))

module _ (w : Setting) (calls : Calls) where
  -- a condition of a loop, which holds where there is none (6.8.5.3)
  abbrev pub test_of : Option PlainExpr → State → Outcome Bool
  test_of None s = got true s
  test_of (Some e) s = condition w e (value_of w calls e s)

  -- an expression for its effects (6.8.3)
  abbrev pub evaluated : Option PlainExpr → State → Outcome Exit
  evaluated None s = got at_end s
  evaluated (Some e) s = next (value_of w calls e s) (λ x s1. got at_end s1)

  -- the last part of a `for`, then its condition (6.8.5.3)
  abbrev pub going_on : Option PlainExpr → Option PlainExpr → State → Outcome Bool
  going_on last c s = next (evaluated last s) (λ x s1. test_of c s1)

  -- the value of a return (6.8.6.4)
  abbrev pub returned : Option PlainExpr → State → Outcome Exit
  returned None s = got (by_return None) s
  returned (Some e) s = next (value_of w calls e s) (λ x s1. got (by_return (Some x)) s1)

  -- the leaves of an object from number k on get the values of these expressions, one after the other (6.7.8)
  abbrev pub initialising : ℕ → ℕ → PlainExprs → State → Outcome Exit
  initialising o k last_expr s = got at_end s
  initialising o k (next_expr e es) s =
      next (value_of w calls e (worked (leaf_words e) s))
      (λ x s1. next (initialised w.program o k x s1) (λ y s2. initialising o (k + 1) es s2))

module _ (w : Setting) (calls : Calls) (n : ℕ) where
  abbrev mutual
    pub effect_of : PlainStmt → State → Outcome Exit
    effect_of (statement unit at kind) s = kind_effect kind s

    pub kind_effect : PlainKind → State → Outcome Exit
    kind_effect empty s = got at_end s
    kind_effect (evaluate e) s = evaluated w calls (Some e) s
    kind_effect (block ss) s = ending (declared ss) (effects_of ss s)
    -- each time that the declaration is reached there is a new instance (6.2.4)
    kind_effect (declare o values) s = initialising w calls o 0 values (begun w.program o s)
    kind_effect (branch c a b) s =
        next (test_of w calls (Some c) (worked branch_words s))
        (λ h s1. choose h (λ s2. effect_of a s2) (λ s2. option_effect b s2) s1)
    kind_effect (while_loop c body) s =
        tested (test_of w calls (Some c) s)
        (λ s1. turns n (λ s2. effect_of body s2) (λ s2. test_of w calls (Some c) s2) s1)
    kind_effect (do_loop body c) s = turns n (λ s1. effect_of body s1) (λ s1. test_of w calls (Some c) s1) s
    kind_effect (for_loop first c last body) s =
        ending (declared_first first) (next (first_effect first s) (λ x s1. in_order x s1 (λ s2.
        tested (test_of w calls c s2) (λ s3. turns n (λ s4. effect_of body s4) (λ s4. going_on w calls last c s4) s3))))
    kind_effect break_loop s = got by_break (worked jump_words s)
    kind_effect continue_loop s = got by_continue (worked jump_words s)
    kind_effect (return_value e) s = returned w calls e (worked (return_of e) s)

    pub option_effect : OptionPlainStmt → State → Outcome Exit
    option_effect no_stmt s = got at_end s
    option_effect (a_stmt a) s = effect_of a s

    -- the first part of a `for`, which the objects of a block outlive (6.8.5.3)
    pub first_effect : OptionPlainStmt → State → Outcome Exit
    first_effect no_stmt s = got at_end s
    first_effect (a_stmt (statement unit at (block ss))) s = effects_of ss s
    first_effect (a_stmt a) s = effect_of a s

    pub effects_of : PlainStmts → State → Outcome Exit
    effects_of last_stmt s = got at_end s
    effects_of (next_stmt a ss) s = next (effect_of a s) (λ x s1. in_order x s1 (λ s2. effects_of ss s2))

-- ---- functions (6.9.1)

-- the parameters are new objects with the arguments as their values
abbrev pub parameters_written : Setting → List ℕ → List Value → State → Outcome Value
parameters_written w [] xs s = got no_value s
parameters_written w (o ∷ os) [] s = undefined Invalid s
parameters_written w (o ∷ os) (x ∷ xs) s =
    next (initialised w.program o 0 x (begun w.program o s)) (λ y s1. parameters_written w os xs s1)

-- what a function without a return statement at its end gives: nothing where it has no result, 0 where it is main
-- (5.1.2.2.3)
abbrev pub unreturned : PlainType → Bool → State → Outcome Value
unreturned void main s = got no_value s
unreturned ty true s = got (Number (pos 0)) s
unreturned ty false s = undefined NoResult s

abbrev pub call_result : PlainType → Bool → Exit → State → Outcome Value
call_result ty main (by_return (Some x)) s = got x s
call_result ty main exit s = unreturned ty main s

-- a call of the function with a number: its parameters, its body, the end of its objects, its result
abbrev pub call_of : Setting → Calls → ℕ → ℕ → Option PlainFunction → List Value → State → Outcome Value
call_of w calls n f None xs s = undefined Invalid s
call_of w calls n f (Some g) xs s =
    next (parameters_written w g.params xs (worked function_words s))
    (λ y s1. next (effect_of w calls n g.body s1)
    (λ x s2. call_result g.returns (f == w.program.main) x (frame_ended w.program f s2)))

-- calls that nest at most so deep; a program without recursion nests no deeper than it has functions
abbrev pub calls_within : Setting → ℕ → ℕ → Calls
calls_within w n zero f xs s = undefined Invalid s
calls_within w n (suc depth) f xs s = call_of w (calls_within w n depth) n f (slice_get w.program.functions f) xs s
