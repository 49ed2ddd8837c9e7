-- Each node of what operands and initialisers give has the mode that is said of its type.
use Rattle.std.proofs.Common.{◌≡◌, ◌+◌, ℕ, zero, suc, Bool, true, false, ◌&&◌, not, ◌||◌, List, [], ◌∷◌, ◌++◌, length, map, drop, refl}
use Rattle.std.specs.Prelude.{Option, Some, None, IfSome, option_map}
use Rattle.std.specs.List.{AllByRecursion}
use Rattle.ec_grammar.specs.Trees as t
use Rattle.ec_core.specs.Layout.{PlainLeaf, leaves_of_type}
use Rattle.ec_core.specs.Operators.{same_type}
use Rattle.ec_core.specs.Plain.{PlainType, void, integer, fixed, pointer, array, struct, PlainExpr, expression, null, convert}
use Rattle.ec_core.specs.Typing.{type_of_expr}
use Rattle.ec_check_forms.specs.Nodes.{used, used_part, condition}
use Rattle.ec_check_operands.specs.declared.operands.Modes.{Modes}
use Rattle.ec_check_operands.specs.Operands.{Operand, place, value, made, mode_of, value_type, as_value, is_null, converted}
use Rattle.ec_check_operands.specs.Passing.{in_type, passes, passed}
use Rattle.ec_check_operands.specs.Sorts.{is_void, is_struct, is_scalar, is_pointer, is_aggregate, narrows, drops_const}
use Rattle.ec_check_expressions.specs.Callees.{exprs_of}
use Rattle.ec_check_expressions.specs.Expressions.{of_expression, of_assignment}
use Rattle.ec_check_expressions.specs.Known.{Known}
use Rattle.ec_check_initialisers.specs.Locals.{leaf_values, with_items}
use Rattle.ec_check_initialisers.specs.Parts.{part_of, scalar_of, zero_node, zero_of, filled, whole_values, joined, one_value}
use Rattle.ec_check_meanings.specs.Laws.{WalkGivesMeanings, ModesAreSaid}
use Rattle.ec_check_meanings.specs.NodeModes.{IsSaid, AllNodesHave, RowHas, OperandHas}
use Rattle.ec_check_meanings.specs.Terms.{term_of_expression, term_of_assignment}
use Rattle.ec_check_statements.proofs.Choices.{if_both}

pub all_append : {X : Type 0} (P : X → Type 0) (xs ys : List X) → AllByRecursion P xs → AllByRecursion P ys → AllByRecursion P (xs ++ ys)
all_append P [] ys h k = k
all_append P (x ∷ xs) ys h k = (h.0, all_append P xs ys h.1 k)

said : (m : Modes) (ty : PlainType) → IsSaid m ty (mode_of m ty)
said m void = refl
said m (integer signed bytes) = refl
said m (fixed kind sat) = refl
said m (pointer s k to) = refl
said m (array of len) = refl
said m (struct index) = refl

module _ (m : Modes) where
  abbrev pub Has : Option PlainExpr → Type 0
  Has e = IfSome e (AllNodesHave m)

  abbrev pub HasAll : Option (List PlainExpr) → Type 0
  HasAll es = IfSome es (AllByRecursion (AllNodesHave m))

  abbrev pub HasOperand : Option Operand → Type 0
  HasOperand o = IfSome o (OperandHas m)

  pub value_has : (o : Operand) → OperandHas m o → AllNodesHave m (as_value m o)
  value_has (place void k s g p) h = (said m void, h)
  value_has (place (integer signed bytes) k s g p) h = (said m (integer signed bytes), h)
  value_has (place (fixed kind sat) k s g p) h = (said m (fixed kind sat), h)
  value_has (place (pointer r l to) k s g p) h = (said m (pointer r l to), h)
  value_has (place (array of len) k s g p) h = (said m (pointer s k of), h)
  value_has (place (struct index) k s g p) h = (said m (struct index), h)
  value_has (value e b) h = h

  converted_has : (to : PlainType) (e : PlainExpr) → AllNodesHave m e → AllNodesHave m (converted m to e)
  converted_has to e h =
      if_both (AllNodesHave m) (same_type (type_of_expr e) to) e (made m to (convert e)) (λ q. h) (λ q. (said m to, h))

  in_type_has : (to : PlainType) (x : Operand) → OperandHas m x → AllNodesHave m (in_type m to x)
  in_type_has to x h =
      if_both (AllNodesHave m) (is_null x && is_pointer to) (made m to null) (converted m to (as_value m x)) (λ q. (said m to, tt))
      (λ q. converted_has to (as_value m x) (value_has x h))

  pub passed_has : (to : Option PlainType) (o : Option Operand) → HasOperand o → Has (passed m to o)
  passed_has None o h = tt
  passed_has (Some to) None h = tt
  passed_has (Some to) (Some x) h =
      if_both Has
      (passes (value_type x) (is_null x) to && not (narrows (value_type x) to || drops_const (value_type x) to)) (Some (in_type m to x))
      None (λ q. in_type_has to x h) (λ q. tt)

  pub used_has : (o : Option Operand) → HasOperand o → HasOperand (used o)
  used_has None h = tt
  used_has (Some x) h = if_both HasOperand (is_void (value_type x)) None (Some x) (λ q. tt) (λ q. h)

  pub condition_has : (o : Option Operand) → HasOperand o → Has (condition m o)
  condition_has None h = tt
  condition_has (Some x) h =
      if_both Has (is_scalar (value_type x)) (Some (as_value m x)) None (λ q. value_has x h) (λ q. tt)

  pub part_has : (o : Option Operand) → HasOperand o → Has (option_map (as_value m) (used_part o))
  part_has None h = tt
  part_has (Some x) h =
      if_both (λ o. Has (option_map (as_value m) o)) (is_struct (value_type x)) None (Some x) (λ q. tt) (λ q. value_has x h)

  -- ---- values of leaves

  zeros_have : (i : ℕ) (leaves : List PlainLeaf) → AllByRecursion (AllNodesHave m) (map (λ leaf. zero_of m leaf.ty) (drop i leaves))
  zeros_have zero [] = tt
  zeros_have (suc i) [] = tt
  zeros_have zero (leaf ∷ leaves) = (zero_has (is_pointer leaf.ty), zeros_have zero leaves)
    where
      zero_has : (b : Bool) → AllNodesHave m (expression leaf.ty (mode_of m leaf.ty) (zero_node b))
      zero_has true = (said m leaf.ty, tt)
      zero_has false = (said m leaf.ty, tt)
  zeros_have (suc i) (leaf ∷ leaves) = zeros_have i leaves

  one_has : (e : Option PlainExpr) → Has e → HasAll (one_value e)
  one_has None h = tt
  one_has (Some e) h = (h, tt)

  joined_have : (a b : Option (List PlainExpr)) → HasAll a → HasAll b → HasAll (joined a b)
  joined_have None b h k = tt
  joined_have (Some es) None h k = tt
  joined_have (Some es) (Some fs) h k = all_append (AllNodesHave m) es fs h k

  row_has : (es : List PlainExpr) → AllByRecursion (AllNodesHave m) es → RowHas m (exprs_of es)
  row_has [] h = tt
  row_has (e ∷ es) h = (h.0, row_has es h.1)

  pub exprs_have : (v : Option (List PlainExpr)) → HasAll v → IfSome (option_map exprs_of v) (RowHas m)
  exprs_have None h = tt
  exprs_have (Some es) h = row_has es h

whole_has : (k : Known) (ty : Option PlainType) (v : Option (List PlainExpr)) → HasAll k.modes v
    → HasAll k.modes (whole_values k.modes k.structs ty v)
whole_has k None v h = tt
whole_has k (Some ty) None h = tt
whole_has k (Some ty) (Some es) h =
    if_both (HasAll k.modes) (is_aggregate ty) (Some (filled k.modes k.structs ty es)) None
    (λ q. all_append (AllNodesHave k.modes) es (map (λ leaf. zero_of k.modes leaf.ty) (drop (length es) (leaves_of_type k.structs ty))) h
    (zeros_have k.modes (length es) (leaves_of_type k.structs ty))) (λ q. tt)

-- what is known of the walk over expressions
pub record ExpressionLaws : Type 0 where
  pub meanings : WalkGivesMeanings
  pub modes : ModesAreSaid

module _ (laws : ExpressionLaws) (k : Known) where
  pub expression_has : (x : t.Expression) → HasOperand k.modes (of_expression k x)
  expression_has x = by (of_expression k x) refl
    where
      by : (o : Option Operand) → of_expression k x ≡ o → HasOperand k.modes o
      by None e = tt
      by (Some o) e = laws.modes k (term_of_expression x) o (((laws.meanings k).expressions x o).1 e)

  assignment_has : (x : t.Assignment) → HasOperand k.modes (of_assignment k x)
  assignment_has x = by (of_assignment k x) refl
    where
      by : (o : Option Operand) → of_assignment k x ≡ o → HasOperand k.modes o
      by None e = tt
      by (Some o) e = laws.modes k (term_of_assignment x) o (((laws.meanings k).assignments x o).1 e)

  mutual
    pub values_have : (x : t.Initialiser) (ty : Option PlainType) → HasAll k.modes (leaf_values k x ty)
    values_have (t.initial_value a) ty =
        one_has k.modes (passed k.modes (scalar_of ty) (used (of_assignment k a)))
        (passed_has k.modes (scalar_of ty) (used (of_assignment k a)) (used_has k.modes (of_assignment k a) (assignment_has a)))
    values_have (t.braces l first more c r) ty =
        let v = joined (Some []) (leaf_values k first (part_of k.structs ty 0)) in
        whole_has k ty (with_items k ty v 1 more)
        (items_have more ty 1 v
        (joined_have k.modes (Some []) (leaf_values k first (part_of k.structs ty 0)) tt (values_have first (part_of k.structs ty 0))))

    items_have : (more : t.Initialisers) (ty : Option PlainType) (i : ℕ) (v : Option (List PlainExpr)) → HasAll k.modes v
        → HasAll k.modes (with_items k ty v i more)
    items_have t.no_initialisers ty i v h = h
    items_have (t.initialisers s x more) ty i v h =
        items_have more ty (i + 1) (joined v (leaf_values k x (part_of k.structs ty i)))
        (joined_have k.modes v (leaf_values k x (part_of k.structs ty i)) h (values_have x (part_of k.structs ty i)))
