-- Arguments are as a call asks, and operands as a port operation does.
use Rattle.std.proofs.Common.{◌≡◌, ◌≤◌, ◌+◌, ◌-◌, ℕ, zero, suc, Bool, true, false, ◌&&◌, List, [], ◌∷◌, ◌++◌, length, map, refl, sym, ap}
use Rattle.std.proofs.Common.{◌∙◌, subst, inl, inr, arith}
use Rattle.std.specs.Prelude.{if◌then◌else◌, ◌==◌, ⊤, Option, Some, None, IsSomeAnd, IfSome, option_map, slice_get}
use Rattle.std.specs.List.{AllByRecursion}
use Rattle.std.proofs.lemmas.Bool.Decides.{nat_tests}
use Rattle.ec_iohw.specs.declared.operations.IoOp.{IoOp}
use Rattle.ec_iohw.specs.declared.table.IoTable.{IoTable}
use Rattle.ec_core.specs.Layout.{IsScalar}
use Rattle.ec_core.specs.Plain.{PlainType, PlainStruct, PlainExpr, PlainFunction, PlainProgram}
use Rattle.ec_core.specs.PortOperations.{PortOperation, port_operation, takes_value}
use Rattle.ec_core.specs.Typing.{type_of_expr, AreArguments, unsigned_int, unsigned_long, port_value}
use Rattle.ec_core.specs.Valid.{ValidExpr, ValidExprs, IsScalarOrVoid}
use Rattle.ec_check_forms.specs.Calls.{called, operand_type, value_if}
use Rattle.ec_check_operands.specs.declared.operands.Modes.{Modes}
use Rattle.ec_check_operands.specs.Operands.{Operand, with_both}
use Rattle.ec_check_operands.specs.Passing.{passed}
use Rattle.ec_check_forms.specs.Validity.{IsUsable, IsOptional, IsOfType, NamesAreOperands}
use Rattle.ec_check_expressions.specs.Arguments.{Wanted, nothing, parameters, port_operands, wanted_of, wanted_type, Passed, arguments}
use Rattle.ec_check_expressions.specs.Arguments.{operands, with_argument, arguments_in}
use Rattle.ec_check_expressions.specs.Callees.{takes, exprs_of}
use Rattle.ec_check_names.specs.Names.{a_function}
use Rattle.ec_check_expression_laws.specs.Suits.{IsPassed, IsFunctionKnown, IsOf}
use Rattle.ec_check_expression_laws.proofs.SaidTypes.{if_both}

-- ---- lists

slice_get_behind : (es : List PlainExpr) (rest : List PlainType) → slice_get (map type_of_expr es ++ rest) (length es) ≡ slice_get rest 0
slice_get_behind [] rest = refl
slice_get_behind (e ∷ es) rest = slice_get_behind es rest

moved_over : (es : List PlainExpr) (e : PlainExpr) (rest : List PlainType)
    → map type_of_expr es ++ (type_of_expr e ∷ rest) ≡ map type_of_expr (es ++ e ∷ []) ++ rest
moved_over [] e rest = refl
moved_over (d ∷ es) e rest = ap (λ ts. type_of_expr d ∷ ts) (moved_over es e rest)

one_longer : (es : List PlainExpr) (e : PlainExpr) → length (es ++ e ∷ []) ≡ length es + 1
one_longer [] e = refl
one_longer (d ∷ es) e = let h = one_longer es e in omega arith

no_rest : (es : List PlainExpr) (ts rest : List PlainType) → ts ≡ map type_of_expr es ++ rest → length ts ≡ length es
    → ts ≡ map type_of_expr es
no_rest [] ts [] e n = e
no_rest [] [] (r ∷ rest) e n = refl
no_rest [] (t ∷ ts) (r ∷ rest) e n = absurd (omega arith)
no_rest (d ∷ es) [] rest e n = absurd (omega arith)
no_rest (d ∷ es) (t ∷ ts) rest e n =
    let tail : ts ≡ map type_of_expr es ++ rest = cc in
    let head : t ≡ type_of_expr d = cc in
    let same = no_rest es ts rest tail (omega arith) in
    cc

at_place : (structs : List PlainStruct) (ts : List PlainType) (i : ℕ) → AllByRecursion (IsPassed structs) ts
    → IfSome (slice_get ts i) (IsPassed structs)
at_place structs [] i h = tt
at_place structs (t ∷ ts) zero h = h.0
at_place structs (t ∷ ts) (suc i) h = at_place structs ts i h.1

module _ (p : PlainProgram) (io : IoTable) (f : ℕ) where
  -- ---- what was passed so far

  abbrev pub AreValid : List PlainExpr → Type 0
  AreValid es = AllByRecursion (ValidExpr p io f) es

  all_behind : (es : List PlainExpr) (e : PlainExpr) → AreValid es → ValidExpr p io f e → AreValid (es ++ e ∷ [])
  all_behind [] e h v = (v, tt)
  all_behind (d ∷ es) e h v = (h.0, all_behind es e h.1 v)

  exprs_valid : (es : List PlainExpr) → AreValid es → ValidExprs p io f (exprs_of es)
  exprs_valid [] h = tt
  exprs_valid (e ∷ es) h = (h.0, exprs_valid es h.1)

  -- so many arguments were given, whose types are the first of those wanted
  pub record AreGiven (ts : List PlainType) (n : ℕ) (es : List PlainExpr) : Type 0 where
    pub rest : List PlainType
    pub types : ts ≡ map type_of_expr es ++ rest
    pub count : length es ≡ n
    pub valid : AreValid es

  -- what was passed before the argument with a number
  abbrev pub IsGiven : Wanted → ℕ → Passed → Type 0
  IsGiven nothing n args = ⊤
  IsGiven (parameters ts) n (arguments None) = ⊤
  IsGiven (parameters ts) n (arguments (Some es)) = AreGiven ts n es
  IsGiven (parameters ts) n (operands i v) = ⊤
  IsGiven (port_operands op) n (arguments es) = ⊤
  IsGiven (port_operands op) n (operands i v) =
      (1 ≤ n) × IsOfType p io f unsigned_int i × IsOfType p io f (port_value (port_operation op)) v

  -- an argument was brought to the type that is wanted, and there is none where none is wanted
  abbrev pub IsFor : Option PlainType → Option PlainExpr → Type 0
  IsFor None e = e ≡ None
  IsFor (Some ty) e = IsOfType p io f ty e

  next_given : (ts : List PlainType) (n : ℕ) (es : List PlainExpr) (e : PlainExpr) → AreGiven ts n es → IsFor (slice_get ts n) (Some e)
      → AreGiven ts (n + 1) (es ++ e ∷ [])
  next_given ts n es e g h =
      by g.rest (subst (λ (o : Option PlainType). IsFor o (Some e))
      (ap (slice_get ts) (sym g.count) ∙ ap (λ us. slice_get us (length es)) g.types ∙ slice_get_behind es g.rest) h) g.types
    where
      by : (rest : List PlainType) → IsFor (slice_get rest 0) (Some e) → ts ≡ map type_of_expr es ++ rest
          → AreGiven ts (n + 1) (es ++ e ∷ [])
      by [] k same = absurd (let q : Some e ≡ None = k in cc)
      by (t ∷ rest) k same = record {
        rest = rest;
        types = same ∙ ap (λ u. map type_of_expr es ++ (u ∷ rest)) (sym k.1) ∙ moved_over es e rest;
        count = one_longer es e ∙ ap (λ j. j + 1) g.count;
        valid = all_behind es e g.valid k.0;
      }

  -- ---- operands of a port operation

  value_for : (here : Bool) (op : PortOperation) (e : Option PlainExpr) → IsFor (value_if here op) e → IsOfType p io f (port_value op) e
  value_for here op e h =
      if_both (λ o. IsFor o e → IsOfType p io f (port_value op) e) (here && takes_value op) (Some (port_value op)) None
      (λ q k. k) (λ q k. subst (λ (z : Option PlainExpr). IsOfType p io f (port_value op) z) (sym k) tt) h

  first_operand : (n : ℕ) → 1 ≤ n → (n - 1 == 0) ≡ (n == 1)
  first_operand n h = grind (arith, nat_tests)

  abbrev wanted_operand : Bool → PortOperation → Bool → ℕ → Option PlainType
  wanted_operand indexed form first k =
      if indexed then (if first then Some unsigned_int else value_if (k == 1) form) else value_if first form

  operand_given : (op : IoOp) (indexed first : Bool) (n : ℕ) (i v e : Option PlainExpr) → 1 ≤ n → IsOfType p io f unsigned_int i
      → IsOfType p io f (port_value (port_operation op)) v → IsFor (wanted_operand indexed (port_operation op) first (n - 1)) e
      → IsGiven (port_operands op) (n + 1) (if indexed && first then operands e v else operands i e)
  operand_given op true true n i v e some h k w = (omega arith, w, k)
  operand_given op true false n i v e some h k w = (omega arith, h, value_for (n - 1 == 1) (port_operation op) e w)
  operand_given op false first n i v e some h k w = (omega arith, h, value_for first (port_operation op) e w)

  -- ---- one more

  pub one_more : (w : Wanted) (n : ℕ) (args : Passed) (e : Option PlainExpr) → IsGiven w n args → IsFor (wanted_type w n) e
      → IsGiven w (n + 1) (with_argument w n args e)
  one_more nothing n args e h k = tt
  one_more (parameters ts) n (arguments None) e h k = tt
  one_more (parameters ts) n (arguments (Some es)) None h k = tt
  one_more (parameters ts) n (arguments (Some es)) (Some e) h k = next_given ts n es e h k
  one_more (parameters ts) n (operands i v) e h k = tt
  one_more (port_operands op) n (arguments es) e h k = tt
  one_more (port_operands op) n (operands i v) e h k =
      let form = port_operation op in
      let q = first_operand n h.0 in
      operand_given op form.indexed (n == 1) n i v e h.0 h.1 h.2
      (subst (λ (b : Bool). IsFor (wanted_operand form.indexed form b (n - 1)) e) q k)

  -- ---- types that are wanted

  abbrev pub ArePassed : Wanted → Type 0
  ArePassed nothing = ⊤
  ArePassed (parameters ts) = AllByRecursion (IsPassed p.structs) ts
  ArePassed (port_operands op) = ⊤

  value_passed : (op : PortOperation) → IsPassed p.structs (port_value op)
  value_passed op = if_both (IsPassed p.structs) op.long unsigned_long unsigned_int (λ e. (inr (inr refl), inr (inr refl)))
      (λ e. (inr (inl refl), inr (inl refl)))

  value_if_passed : (here : Bool) (op : PortOperation) → IfSome (value_if here op) (IsPassed p.structs)
  value_if_passed here op =
      if_both (λ o. IfSome o (IsPassed p.structs)) (here && takes_value op) (Some (port_value op)) None (λ e. value_passed op) (λ e. tt)

  operand_passed : (op : PortOperation) (k : ℕ) → IfSome (operand_type op k) (IsPassed p.structs)
  operand_passed op k =
      if_both (λ o. IfSome o (IsPassed p.structs)) op.indexed (if k == 0 then Some unsigned_int else value_if (k == 1) op)
      (value_if (k == 0) op)
      (λ e. if_both (λ o. IfSome o (IsPassed p.structs)) (k == 0) (Some unsigned_int) (value_if (k == 1) op)
      (λ q. (inr (inl refl), inr (inl refl))) (λ q. value_if_passed (k == 1) op))
      (λ e. value_if_passed (k == 0) op)

  wanted_passed : (w : Wanted) (n : ℕ) → ArePassed w → IfSome (wanted_type w n) (IsPassed p.structs)
  wanted_passed nothing n h = tt
  wanted_passed (parameters ts) n h = at_place p.structs ts n h
  wanted_passed (port_operands op) n h = operand_passed (port_operation op) (n - 1)

  brought_for : (m : Modes) (x : Option Operand)
      → ((to : PlainType) → IsScalar to → IsUsable p.structs to → IsOfType p io f to (passed m (Some to) x))
      → (to : Option PlainType) → IfSome to (IsPassed p.structs) → IsFor to (passed m to x)
  brought_for m x h None k = refl
  brought_for m x h (Some to) k = h to k.0 k.1

  -- an operand that is brought to the wanted type
  pub passed_for : (m : Modes) (w : Wanted) (n : ℕ) (x : Option Operand) → ArePassed w
      → ((to : PlainType) → IsScalar to → IsUsable p.structs to → IsOfType p io f to (passed m (Some to) x))
      → IsFor (wanted_type w n) (passed m (wanted_type w n) x)
  passed_for m w n x h k = brought_for m x k (wanted_type w n) (wanted_passed w n h)

  -- ---- calls

  args_match : (os : List ℕ) (es : List PlainExpr)
      → map (λ o. option_map (λ x. x.ty) (slice_get p.objects o)) os ≡ map Some (map type_of_expr es) → AreArguments p os (exprs_of es)
  args_match [] [] e = tt
  args_match [] (d ∷ es) e = cc
  args_match (o ∷ os) [] e = cc
  args_match (o ∷ os) (d ∷ es) e = (cc, args_match os es cc)

  module _ (names : NamesAreOperands p io f) (m : Modes) where
    call_made : (n : ℕ) (ty : PlainType) (ts : List PlainType) (es : List PlainExpr) → AreValid es → ts ≡ map type_of_expr es
        → (g : PlainFunction) → slice_get p.functions n ≡ Some g → IsFunctionKnown p ty ts g
        → IsOptional p io f (called m n ty (Some (exprs_of es)))
    call_made n ty ts es v same g e k =
        subst (λ (z : PlainType). IsOptional p io f (called m n z (Some (exprs_of es)))) k.returned
        (names.calls m n g (exprs_of es) e (subst (λ (z : PlainType). IsScalarOrVoid z) (sym k.returned) k.scalar)
        (subst (IsUsable p.structs) (sym k.returned) k.usable) (exprs_valid es v)
        (args_match g.params es (k.typed ∙ ap (map Some) same)))

    call_known : (n : ℕ) (ty : PlainType) (ts : List PlainType) (es : List PlainExpr) → AreValid es → ts ≡ map type_of_expr es
        → (o : Option PlainFunction) → slice_get p.functions n ≡ o → IsSomeAnd o (IsFunctionKnown p ty ts)
        → IsOptional p io f (called m n ty (Some (exprs_of es)))
    call_known n ty ts es v same None e k = absurd k
    call_known n ty ts es v same (Some g) e k = call_made n ty ts es v same g e k

    counted : (ts : List PlainType) (count : ℕ) → (length ts == count) ≡ true → length ts ≡ count
    counted ts count e = grind (arith, nat_tests, e)

    enough_given : (n : ℕ) (ty : PlainType) (ts : List PlainType) (count : ℕ) (args : Passed)
        → IsSomeAnd (slice_get p.functions n) (IsFunctionKnown p ty ts)
        → IsGiven (parameters ts) count args → length ts ≡ count
        → IsOptional p io f (called m n ty (option_map exprs_of (arguments_in args)))
    enough_given n ty ts count (arguments None) h g e = tt
    enough_given n ty ts count (operands i v) h g e = tt
    enough_given n ty ts count (arguments (Some es)) h g e =
        call_known n ty ts es g.valid (no_rest es ts g.rest g.types (e ∙ sym g.count)) (slice_get p.functions n) refl h

    pub call_valid : (number : Option ℕ) (returns : Option PlainType) (params : Option (List PlainType)) (count : ℕ) (args : Passed)
        → IsOf p f (a_function number returns params) → IsGiven (wanted_of params) count args
        → IsOptional p io f
        (with_both number returns (λ n ty. if takes params count then called m n ty (option_map exprs_of (arguments_in args)) else None))
    call_valid None returns params count args h g = tt
    call_valid (Some n) None params count args h g = tt
    call_valid (Some n) (Some ty) None count args h g = tt
    call_valid (Some n) (Some ty) (Some ts) count args h g =
        if_both (IsOptional p io f) (length ts == count) (called m n ty (option_map exprs_of (arguments_in args))) None
        (λ e. enough_given n ty ts count args h g (counted ts count e)) (λ e. tt)
