-- The value of an expression needs no more temporaries than the expression has tokens.
use Rattle.std.proofs.Common.{◌≡◌, ◌≤◌, ◌+◌, ◌-◌, ℕ, suc, true, false, List, [], ◌∷◌, ◌++◌, length, refl, arith}
use Rattle.std.specs.Prelude.{if◌then◌else◌, ◌==◌, ⊤, Option, Some, None, IfSome, option_map}
use Rattle.ec_iohw.specs.declared.operations.IoOp.{IoOp}
use Rattle.ec_grammar.specs.declared.token.PunctKind.TheVariants.{LeftParenthesis, RightParenthesis, LeftBracket, RightBracket, Comma}
use Rattle.ec_grammar.specs.declared.token.PunctKind.TheVariants.{Question, Colon}
use Rattle.ec_grammar.specs.declared.Constant.{Constant}
use Rattle.ec_grammar.specs.declared.Constant.TheVariants as constants
use Rattle.ec_grammar.specs.declared.Operation.TheVariants as operations
use Rattle.ec_grammar.specs.declared.token.GroupOp.TheVariants as groups
use Rattle.ec_grammar.specs.declared.Qualifier.{Qualifier}
use Rattle.ec_grammar.specs.Spelling as s
use Rattle.ec_grammar.specs.Trees as t
use Rattle.ec_grammar.specs.Trees.{Leaf}
use Rattle.ec_core.specs.Needs.{greatest_from, expr_need, exprs_needs}
use Rattle.ec_core.specs.Plain.{PlainType, PlainStruct, PlainExpr}
use Rattle.ec_core.specs.PortOperations.{port_operation}
use Rattle.ec_check_names.specs.Names.{Named, an_object, a_function, found}
use Rattle.ec_check_forms.specs.declared.ports.NamedPort.{NamedPort}
use Rattle.ec_check_forms.specs.Calls.{called, operand_count, accessed, port_named, group_named, group_operation, binding_operation}
use Rattle.ec_check_forms.specs.Choices.{sequence, chosen, cast}
use Rattle.ec_check_forms.specs.Accesses.{indexed, member_of}
use Rattle.ec_check_forms.specs.Nodes.{used, used_part, condition, prefixed, stepped}
use Rattle.ec_check_operands.specs.declared.operands.Modes.{Modes}
use Rattle.ec_check_operands.specs.Operands.{Operand, value, value_type, as_value, with_one, with_both}
use Rattle.ec_check_operands.specs.Passing.{passed}
use Rattle.ec_check_operands.specs.Sorts.{is_void, is_struct}
use Rattle.ec_check_expressions.specs.Arguments.{Wanted, wanted_of, wanted_type, Passed, arguments, operands, is_index, with_argument}
use Rattle.ec_check_expressions.specs.Arguments.{port_operands, arguments_in, access_by, access_of}
use Rattle.ec_check_expressions.specs.Bindings.{binding_of}
use Rattle.ec_check_expressions.specs.Callees.{Called, callee, further_count, argument_count, takes, exprs_of, call_of}
use Rattle.ec_check_expressions.specs.Expressions.{of_expression, of_assignment, of_conditional, of_binary}
use Rattle.ec_check_expressions.specs.Expressions.{of_cast, of_unary, of_postfix, passed_arguments, passed_further, of_primary}
use Rattle.ec_check_expressions.specs.Known.{Known, is_sized}
use Rattle.ec_check_expressions.specs.Names.{named, constant_value}
use Rattle.ec_check_expressions.specs.Tokens.{operator_of, joined_by, compound_operator, stored_by, prefix_operator, is_up, is_arrow}
use Rattle.ec_check_expressions.specs.TypeNames.{said_type, void_said, meant_type, size_of_type_name}
use Rattle.ec_check_forms.specs.Calls.{size_value}
use Rattle.ec_check_expression_laws.specs.Laws.{NeedTheirTokens, NeedsAreBounded}
use Rattle.ec_check_expression_laws.proofs.Needs.{weight, some_weight, value_need, Weighs, OfOne, OfTwo, of_one, of_two, passed_need}
use Rattle.ec_check_expression_laws.proofs.Needs.{joined_weighs, sequence_weighs, choice_weighs, cast_weighs, prefixed_weighs}
use Rattle.ec_check_expression_laws.proofs.Needs.{stepped_weighs, stored_weighs, indexed_weighs, member_weighs, group_weighs}
use Rattle.ec_check_expression_laws.proofs.Needs.{binding_weighs, accessed_weighs, brought_need, tested_need}
use Rattle.ec_check_expression_laws.proofs.SaidTypes.{if_both}

-- ---- tokens are only put before others

before_identifier : (x : t.Identifier) (rest : List Leaf) → length rest ≤ length (s.of_identifier x rest)
before_identifier (t.identifier at n) rest = omega arith

before_qualifiers : (xs : List Qualifier) (rest : List Leaf) → length rest ≤ length (s.of_list s.of_qualifier xs rest)
before_qualifiers [] rest = omega arith
before_qualifiers (x ∷ xs) rest = let h = before_qualifiers xs rest in omega arith

before_stars : (xs : List t.Star) (rest : List Leaf) → length rest ≤ length (s.of_list s.of_star xs rest)
before_stars [] rest = omega arith
before_stars (t.star at qs ∷ xs) rest =
    let h = before_stars xs rest in let k = before_qualifiers qs (s.of_list s.of_star xs rest) in omega arith

before_spec : (x : t.Spec) (rest : List Leaf) → length rest ≤ length (s.of_spec x rest)
before_spec (t.word_spec at w) rest = omega arith
before_spec (t.struct_spec at (t.identifier tag n)) rest = omega arith

before_specs : (xs : List t.Spec) (rest : List Leaf) → length rest ≤ length (s.of_list s.of_spec xs rest)
before_specs [] rest = omega arith
before_specs (x ∷ xs) rest = let h = before_specs xs rest in let k = before_spec x (s.of_list s.of_spec xs rest) in omega arith

before_type_name : (x : t.TypeName) (rest : List Leaf) → length rest ≤ length (s.of_type_name x rest)
before_type_name (t.type_name (t.specs first more) stars) rest =
    let a = before_stars stars rest in
    let b = before_specs more (s.of_list s.of_star stars rest) in
    let c = before_spec first (s.of_list s.of_spec more (s.of_list s.of_star stars rest)) in
    omega arith

mutual
  before_expression : (x : t.Expression) (rest : List Leaf) → length rest ≤ length (s.of_expression x rest)
  before_expression (t.single a) rest = before_assignment a rest
  before_expression (t.comma e at a) rest =
      let h = before_assignment a rest in
      let k = before_expression e (s.mark at Comma ∷ s.of_assignment a rest) in
      omega arith

  before_assignment : (x : t.Assignment) (rest : List Leaf) → length rest ≤ length (s.of_assignment x rest)
  before_assignment (t.value c) rest = before_conditional c rest
  before_assignment (t.assign u at op a) rest =
      let h = before_assignment a rest in
      let k = before_unary u (s.mark at op ∷ s.of_assignment a rest) in
      omega arith

  before_conditional : (x : t.Conditional) (rest : List Leaf) → length rest ≤ length (s.of_conditional x rest)
  before_conditional (t.plain b) rest = before_binary b rest
  before_conditional (t.choose b q e c d) rest =
      let h = before_conditional d rest in
      let i = before_expression e (s.mark c Colon ∷ s.of_conditional d rest) in
      let j = before_binary b (s.mark q Question ∷ s.of_expression e (s.mark c Colon ∷ s.of_conditional d rest)) in
      omega arith

  before_binary : (x : t.Binary) (rest : List Leaf) → length rest ≤ length (s.of_binary x rest)
  before_binary (t.operand c) rest = before_cast c rest
  before_binary (t.join a at op b) rest =
      let h = before_binary b rest in
      let k = before_binary a (s.mark at op ∷ s.of_binary b rest) in
      omega arith

  before_cast : (x : t.Cast) (rest : List Leaf) → length rest ≤ length (s.of_cast x rest)
  before_cast (t.uncast u) rest = before_unary u rest
  before_cast (t.convert l ty r c) rest =
      let h = before_cast c rest in
      let k = before_type_name ty (s.mark r RightParenthesis ∷ s.of_cast c rest) in
      omega arith

  before_unary : (x : t.Unary) (rest : List Leaf) → length rest ≤ length (s.of_unary x rest)
  before_unary (t.postfix p) rest = before_postfix p rest
  before_unary (t.step at op u) rest = let h = before_unary u rest in omega arith
  before_unary (t.prefix at op c) rest = let h = before_cast c rest in omega arith
  before_unary (t.size at l ty r) rest = let h = before_type_name ty (s.mark r RightParenthesis ∷ rest) in omega arith

  before_postfix : (x : t.Postfix) (rest : List Leaf) → length rest ≤ length (s.of_postfix x rest)
  before_postfix (t.primary p) rest = before_primary p rest
  before_postfix (t.index p l e r) rest =
      let h = before_expression e (s.mark r RightBracket ∷ rest) in
      let k = before_postfix p (s.mark l LeftBracket ∷ s.of_expression e (s.mark r RightBracket ∷ rest)) in
      omega arith
  before_postfix (t.call p l a r) rest =
      let h = before_arguments a (s.mark r RightParenthesis ∷ rest) in
      let k = before_postfix p (s.mark l LeftParenthesis ∷ s.of_arguments a (s.mark r RightParenthesis ∷ rest)) in
      omega arith
  before_postfix (t.member p at op (t.identifier spot n)) rest =
      let k = before_postfix p (s.mark at op ∷ s.of_identifier (t.identifier spot n) rest) in omega arith
  before_postfix (t.stepped p at op) rest = let k = before_postfix p (s.mark at op ∷ rest) in omega arith

  before_arguments : (x : t.Arguments) (rest : List Leaf) → length rest ≤ length (s.of_arguments x rest)
  before_arguments t.no_arguments rest = omega arith
  before_arguments (t.arguments a more) rest =
      let h = before_further more rest in
      let k = before_assignment a (s.of_further more rest) in
      omega arith

  before_further : (x : t.Further) (rest : List Leaf) → length rest ≤ length (s.of_further x rest)
  before_further t.no_further rest = omega arith
  before_further (t.further at a more) rest =
      let h = before_further more rest in
      let k = before_assignment a (s.of_further more rest) in
      omega arith

  before_primary : (x : t.Primary) (rest : List Leaf) → length rest ≤ length (s.of_primary x rest)
  before_primary (t.name n) rest = before_identifier n rest
  before_primary (t.constant at c) rest = omega arith
  before_primary (t.parenthesised l e r) rest = let h = before_expression e (s.mark r RightParenthesis ∷ rest) in omega arith
  before_primary (t.operation at op l (t.identifier spot n) more r) rest =
      let h = before_further more (s.mark r RightParenthesis ∷ rest) in
      omega arith

-- ---- bounds

-- what there is weighs, with so many tokens that follow, at most so many
abbrev Within : Option Operand → ℕ → ℕ → Type 0
Within o r n = IfSome o (λ x. weight x + r ≤ n)

one_within : (z x : Option Operand) (d i n r k : ℕ) → OfOne z x d → Within x i n → d + r + n ≤ i + k → Within z r k
one_within None x d i n r k h w le = tt
one_within (Some c) None d i n r k h w le = absurd h
one_within (Some c) (Some x) d i n r k h w le = omega arith

two_within : (z x y : Option Operand) (d i n j l r k : ℕ) → OfTwo z x y d → Within x i n → Within y j l
    → d + r + n + l ≤ i + j + k → Within z r k
two_within None x y d i n j l r k h w v le = tt
two_within (Some c) None y d i n j l r k h w v le = absurd h
two_within (Some c) (Some x) None d i n j l r k h w v le = absurd h
two_within (Some c) (Some x) (Some y) d i n j l r k h w v le = omega arith

used_within : (x : Option Operand) (r n : ℕ) → Within x r n → Within (used x) r n
used_within None r n h = tt
used_within (Some x) r n h = if_both (λ o. Within o r n) (is_void (value_type x)) None (Some x) (λ e. tt) (λ e. h)

part_within : (x : Option Operand) (r n : ℕ) → Within x r n → Within (used_part x) r n
part_within None r n h = tt
part_within (Some x) r n h = if_both (λ o. Within o r n) (is_struct (value_type x)) None (Some x) (λ e. tt) (λ e. h)

-- what weighs one
light : (o : Option Operand) (r n : ℕ) → Weighs o 1 → suc r ≤ n → Within o r n
light None r n h le = tt
light (Some x) r n h le = omega arith

-- what weighs two
two_light : (o : Option Operand) (r n : ℕ) → Weighs o 2 → suc (suc r) ≤ n → Within o r n
two_light None r n h le = tt
two_light (Some x) r n h le = omega arith

choice_within : (m : Modes) (c x y : Option Operand) (h n i l j o r : ℕ) → Within c h n → Within x i l → Within y j o
    → r + n + l + o ≤ h + i + j + n
    → Within (with_both x y (λ a b. with_one (condition m c) (λ e. chosen m e a b))) r n
choice_within m c None y h n i l j o r u v w le = tt
choice_within m c (Some x) None h n i l j o r u v w le = tt
choice_within m None (Some x) (Some y) h n i l j o r u v w le = tt
choice_within m (Some c) (Some x) (Some y) h n i l j o r u v w le =
    by (with_one (condition m (Some c)) (λ e. chosen m e x y)) (choice_weighs m c x y)
  where
    by : (z : Option Operand) → Weighs z (weight c + weight x + weight y) → Within z r n
    by None k = tt
    by (Some z) k = omega arith

-- ---- arguments

greatest_more : (es : List PlainExpr) (e : PlainExpr) (i n : ℕ) → greatest_from i (exprs_needs (exprs_of es)) ≤ n
    → expr_need e + (i + length es) ≤ n
    → greatest_from i (exprs_needs (exprs_of (es ++ e ∷ []))) ≤ n
greatest_more [] e i n h k = omega arith
greatest_more (d ∷ es) e i n h k = let z = greatest_more es e (i + 1) n (omega arith) (omega arith) in omega arith

one_longer : (es : List PlainExpr) (e : PlainExpr) → length (es ++ e ∷ []) ≡ length es + 1
one_longer [] e = refl
one_longer (d ∷ es) e = let h = one_longer es e in omega arith

-- what was passed needs, with so many tokens that follow, at most so many
abbrev Held : Passed → ℕ → ℕ → Type 0
Held (arguments None) r n = ⊤
Held (arguments (Some es)) r n = (greatest_from 0 (exprs_needs (exprs_of es)) + r ≤ n) × (length es + r ≤ n)
Held (operands index v) r n = IfSome index (λ e. expr_need e + r ≤ n) × IfSome v (λ e. expr_need e + 1 + r ≤ n) × (3 + r ≤ n)

greatest_held : (es : List PlainExpr) (e : PlainExpr) (r a n : ℕ) → greatest_from 0 (exprs_needs (exprs_of es)) + a ≤ n → length es + a ≤ n
    → expr_need e + r ≤ a
    → 1 ≤ expr_need e → (greatest_from 0 (exprs_needs (exprs_of (es ++ e ∷ []))) + r ≤ n) × (length (es ++ e ∷ []) + r ≤ n)
greatest_held es e r a n g l h s =
    let k = greatest_more es e 0 (n - r) (omega arith) (omega arith) in
    let j = one_longer es e in
    (omega arith, omega arith)

index_held : (o : Option PlainExpr) (d r a n : ℕ) → IfSome o (λ e. expr_need e + d + a ≤ n) → r ≤ a
    → IfSome o (λ e. expr_need e + d + r ≤ n)
index_held None d r a n h le = tt
index_held (Some e) d r a n h le = omega arith

operand_held : (o : Option PlainExpr) (d r a n : ℕ) → IfSome o (λ e. expr_need e + r ≤ a) → d + a ≤ n
    → IfSome o (λ e. expr_need e + d + r ≤ n)
operand_held None d r a n h le = tt
operand_held (Some e) d r a n h le = omega arith

zero_more : (o : Option PlainExpr) (r n : ℕ) → IfSome o (λ e. expr_need e + 0 + r ≤ n) → IfSome o (λ e. expr_need e + r ≤ n)
zero_more None r n h = tt
zero_more (Some e) r n h = omega arith

zero_less : (o : Option PlainExpr) (r n : ℕ) → IfSome o (λ e. expr_need e + r ≤ n) → IfSome o (λ e. expr_need e + 0 + r ≤ n)
zero_less None r n h = tt
zero_less (Some e) r n h = omega arith

-- one argument more, behind its comma
held_more : (w : Wanted) (i : ℕ) (args : Passed) (e : Option PlainExpr) (r a n : ℕ) → Held args (suc a) n
    → IfSome e (λ d. expr_need d + r ≤ a) → r ≤ a
    → Held (with_argument w i args e) r n
held_more w i (arguments None) e r a n h k le = tt
held_more w i (arguments (Some es)) None r a n h k le = tt
held_more w i (arguments (Some es)) (Some e) r a n h k le =
    greatest_held es e r a n (let g = h.0 in omega arith) (let g = h.1 in omega arith) k (some_weight (value e false))
held_more w i (operands index v) e r a n h k le =
    if_both (λ o. Held o r n) (is_index w i) (operands e v) (operands index e)
    (λ q. (
      zero_more e r n (operand_held e 0 r a n k (let z = h.2 in omega arith)),
      index_held v 1 r (suc a) n h.1 (omega arith),
      (let z = h.2 in omega arith),
    ))
    (λ q. (
      zero_more index r n (index_held index 0 r (suc a) n (zero_less index (suc a) n h.0) (omega arith)),
      operand_held e 1 r a n k (let z = h.2 in omega arith),
      (let z = h.2 in omega arith),
    ))

held_first : (w : Wanted) (e : Option PlainExpr) (r n : ℕ) → IfSome e (λ d. expr_need d + r ≤ n)
    → Held (with_argument w 0 (arguments (Some [])) e) r n
held_first w None r n k = tt
held_first w (Some e) r n k = let s = some_weight (value e false) in (omega arith, omega arith)

-- an argument that was passed
argument_held : (m : Modes) (to : Option PlainType) (x : Option Operand) (r n : ℕ) → Within x r n
    → IfSome (passed m to x) (λ e. expr_need e + r ≤ n)
argument_held m to None r n h = none_passed to
  where
    none_passed : (to : Option PlainType) → IfSome (passed m to None) (λ e. expr_need e + r ≤ n)
    none_passed None = tt
    none_passed (Some ty) = tt
argument_held m to (Some x) r n h = by (passed m to (Some x)) (passed_need m to (Some x))
  where
    by : (o : Option PlainExpr) → IfSome o (λ e. expr_need e ≤ weight x) → IfSome o (λ e. expr_need e + r ≤ n)
    by None k = tt
    by (Some e) k = omega arith

-- ---- calls and operations

both_if : {A B : Type 0} → (P : Operand → Type 0) (x : Option A) (y : Option B) (g : A → B → Option Operand)
    → ((a : A) (b : B) → IfSome (g a b) P) → IfSome (with_both x y g) P
both_if P None y g h = tt
both_if P (Some a) None g h = tt
both_if P (Some a) (Some b) g h = h a b

called_within : (m : Modes) (f : ℕ) (ty : PlainType) (args : Passed) (r n : ℕ) → Held args (suc r) n → suc r ≤ n
    → Within (called m f ty (option_map exprs_of (arguments_in args))) r n
called_within m f ty (arguments None) r n h le = tt
called_within m f ty (arguments (Some es)) r n h le = let g = h.0 in omega arith
called_within m f ty (operands index v) r n h le = tt

call_within : (m : Modes) (c : Called) (count : ℕ) (args : Passed) (r n : ℕ) → Held args (suc r) n → suc r ≤ n
    → Within (call_of m c count (arguments_in args)) r n
call_within m c count args r n h le =
    both_if (λ x. weight x + r ≤ n) c.number c.returns
    (λ f ty. if takes c.params count then called m f ty (option_map exprs_of (arguments_in args)) else None)
    (λ f ty. if_both (λ o. Within o r n) (takes c.params count) (called m f ty (option_map exprs_of (arguments_in args))) None
    (λ e. called_within m f ty args r n h le) (λ e. tt))

callee_within : (m : Modes) (o : Option Called) (count : ℕ) (pass : Wanted → Passed) (r n : ℕ)
    → ((w : Wanted) → Held (pass w) (suc r) n) → suc r ≤ n
    → Within (with_one o (λ c. call_of m c count (arguments_in (pass (wanted_of c.params))))) r n
callee_within m None count pass r n h le = tt
callee_within m (Some c) count pass r n h le = call_within m c count (pass (wanted_of c.params)) r n (h (wanted_of c.params)) le

lessened : (o : Option PlainExpr) (d r n : ℕ) → IfSome o (λ e. expr_need e + d + suc r ≤ n) → IfSome o (λ e. expr_need e + d ≤ n - r)
lessened None d r n h = tt
lessened (Some e) d r n h = omega arith

nothing_more : (o : Option PlainExpr) (n : ℕ) → IfSome o (λ e. expr_need e + 0 ≤ n) → IfSome o (λ e. expr_need e ≤ n)
nothing_more None n h = tt
nothing_more (Some e) n h = omega arith

lifted : (o : Option Operand) (r n : ℕ) → Weighs o (n - r) → r ≤ n → Within o r n
lifted None r n h le = tt
lifted (Some x) r n h le = omega arith

port_within : (m : Modes) (op : IoOp) (port : Option NamedPort) (args : Passed) (r n : ℕ) → Held args (suc r) n
    → Within (access_by m op port args) r n
port_within m op port (arguments es) r n h = tt
port_within m op None (operands index v) r n h = tt
port_within m op (Some p) (operands index v) r n h =
    lifted (accessed m op index v p) r n
    (accessed_weighs m op index v p (n - r) (let z = h.2 in omega arith)
    (nothing_more index (n - r) (lessened index 0 r n (zero_less index (suc r) n h.0))) (lessened v 1 r n h.1))
    (let z = h.2 in omega arith)

access_within : (m : Modes) (op : IoOp) (port : Option NamedPort) (count : ℕ) (args : Passed) (r n : ℕ) → Held args (suc r) n
    → Within (access_of m op port count args) r n
access_within m op port count args r n h =
    if_both (λ o. Within o r n) (count == operand_count (port_operation op)) (access_by m op port args) None
    (λ e. port_within m op port args r n h) (λ e. tt)

-- ---- names, constants and sizes

name_light : (what : Option Named) → Weighs (named what) 1
name_light None = tt
name_light (Some (a_function number returns params)) = tt
name_light (Some (an_object None ty konst space register)) = tt
name_light (Some (an_object (Some n) None konst space register)) = tt
name_light (Some (an_object (Some n) (Some ty) konst space register)) = omega arith

constant_light : (m : Modes) (c : Constant) → weight (constant_value m c) ≤ 1
constant_light m (constants.Whole n signed bytes) = omega arith
constant_light m (constants.Fixed kind n) = omega arith

size_light : (m : Modes) (structs : List PlainStruct) (o : Option PlainType) → Weighs (size_of_type_name m structs o) 1
size_light m structs None = tt
size_light m structs (Some ty) =
    if_both (λ o. Weighs o 1) (is_sized (length structs) ty) (Some (size_value m structs ty)) None (λ e. omega arith) (λ e. tt)

cast_of : (m : Modes) (to : Option PlainType) (x : Option Operand) → OfOne (with_both to x (cast m)) x 0
cast_of m None x = tt
cast_of m (Some ty) x = of_one x (cast m ty) 0 (λ a. same (cast m ty a) (weight a) (cast_weighs m ty a))
  where
    same : (o : Option Operand) (n : ℕ) → Weighs o n → Weighs o (n + 0)
    same None n h = tt
    same (Some z) n h = omega arith

wider : (o : Option Operand) (r n k : ℕ) → Within o r n → n ≤ k → Within o r k
wider None r n k h le = tt
wider (Some x) r n k h le = omega arith

nearer : (o : Option Operand) (r i n : ℕ) → Within o i n → r ≤ i → Within o r n
nearer None r i n h le = tt
nearer (Some x) r i n h le = omega arith

-- two parts, with a token between them
two_parts : (z x y : Option Operand) (all behind rest : List Leaf) (between : Leaf) → OfTwo z x y 0
    → Within x (length (between ∷ behind)) (length all)
    → Within y (length rest) (length behind) → Within z (length rest) (length all)
two_parts z x y all behind rest between h w v =
    two_within z x y 0 (length (between ∷ behind)) (length all) (length rest) (length behind) (length rest) (length all) h w v (omega arith)

-- ---- all

module _ (k : Known) where
  use_within : (x : Option Operand) (before after : List Leaf) → Within x (length after) (length before)
      → Within (used x) (length after) (length before)
  use_within x before after h = used_within x (length after) (length before) h

  part_of_comma : (x : Option Operand) (before after : List Leaf) → Within x (length after) (length before)
      → Within (used_part (used x)) (length after) (length before)
  part_of_comma x before after h = part_within (used x) (length after) (length before) (used_within x (length after) (length before) h)

  mutual
    within_expression : (x : t.Expression) (rest : List Leaf) → Within (of_expression k x) (length rest) (length (s.of_expression x rest))
    within_expression (t.single a) rest = within_assignment a rest
    within_expression (t.comma e at a) rest =
        let behind = s.of_assignment a rest in
        let all = s.of_expression e (s.mark at Comma ∷ behind) in
        let x = used_part (used (of_expression k e)) in
        let y = used_part (used (of_assignment k a)) in
        two_parts (with_both x y (sequence k.modes)) x y all behind rest (s.mark at Comma)
        (of_two x y (sequence k.modes) 0 (sequence_weighs k.modes))
        (part_of_comma (of_expression k e) all (s.mark at Comma ∷ behind) (within_expression e (s.mark at Comma ∷ behind)))
        (part_of_comma (of_assignment k a) behind rest (within_assignment a rest))

    within_assignment : (x : t.Assignment) (rest : List Leaf) → Within (of_assignment k x) (length rest) (length (s.of_assignment x rest))
    within_assignment (t.value c) rest = within_conditional c rest
    within_assignment (t.assign u at op a) rest =
        let behind = s.of_assignment a rest in
        let all = s.of_unary u (s.mark at op ∷ behind) in
        let x = used (of_unary k u) in
        let y = used (of_assignment k a) in
        two_parts (stored_by k.modes (compound_operator op) x y) x y all behind rest (s.mark at op)
        (stored_weighs k.modes (compound_operator op) x y)
        (use_within (of_unary k u) all (s.mark at op ∷ behind) (within_unary u (s.mark at op ∷ behind)))
        (use_within (of_assignment k a) behind rest (within_assignment a rest))

    within_conditional : (x : t.Conditional) (rest : List Leaf)
        → Within (of_conditional k x) (length rest) (length (s.of_conditional x rest))
    within_conditional (t.plain b) rest = within_binary b rest
    within_conditional (t.choose b q e c d) rest =
        let last = s.of_conditional d rest in
        let middle = s.of_expression e (s.mark c Colon ∷ last) in
        let all = s.of_binary b (s.mark q Question ∷ middle) in
        choice_within k.modes (used (of_binary k b)) (of_expression k e) (of_conditional k d)
        (length (s.mark q Question ∷ middle)) (length all)
        (length (s.mark c Colon ∷ last)) (length middle) (length rest) (length last) (length rest)
        (use_within (of_binary k b) all (s.mark q Question ∷ middle) (within_binary b (s.mark q Question ∷ middle)))
        (within_expression e (s.mark c Colon ∷ last)) (within_conditional d rest) (omega arith)

    within_binary : (x : t.Binary) (rest : List Leaf) → Within (of_binary k x) (length rest) (length (s.of_binary x rest))
    within_binary (t.operand c) rest = within_cast c rest
    within_binary (t.join a at op b) rest =
        let behind = s.of_binary b rest in
        let all = s.of_binary a (s.mark at op ∷ behind) in
        let x = used (of_binary k a) in
        let y = used (of_binary k b) in
        two_parts (joined_by k.modes op (operator_of op) x y) x y all behind rest (s.mark at op)
        (joined_weighs k.modes op (operator_of op) x y)
        (use_within (of_binary k a) all (s.mark at op ∷ behind) (within_binary a (s.mark at op ∷ behind)))
        (use_within (of_binary k b) behind rest (within_binary b rest))

    within_cast : (x : t.Cast) (rest : List Leaf) → Within (of_cast k x) (length rest) (length (s.of_cast x rest))
    within_cast (t.uncast u) rest = within_unary u rest
    within_cast (t.convert l n r c) rest =
        let to = meant_type (void_said k.tags n) (said_type k.tags n) in
        let x = used (of_cast k c) in
        let here = before_type_name n (s.mark r RightParenthesis ∷ s.of_cast c rest) in
        one_within (with_both to x (cast k.modes)) x 0 (length rest) (length (s.of_cast c rest)) (length rest)
        (length (s.of_cast (t.convert l n r c) rest)) (cast_of k.modes to x)
        (use_within (of_cast k c) (s.of_cast c rest) rest (within_cast c rest)) (omega arith)

    within_unary : (x : t.Unary) (rest : List Leaf) → Within (of_unary k x) (length rest) (length (s.of_unary x rest))
    within_unary (t.postfix p) rest = within_postfix p rest
    within_unary (t.step at op u) rest =
        let x = used (of_unary k u) in
        one_within (with_one x (stepped k.modes (is_up op) true)) x 1 (length rest) (length (s.of_unary u rest)) (length rest)
        (length (s.mark at op ∷ s.of_unary u rest))
        (of_one x (stepped k.modes (is_up op) true) 1 (stepped_weighs k.modes (is_up op) true))
        (use_within (of_unary k u) (s.of_unary u rest) rest (within_unary u rest)) (omega arith)
    within_unary (t.prefix at op c) rest =
        let x = used (of_cast k c) in
        one_within (with_one x (prefixed k.modes (prefix_operator op))) x 1 (length rest) (length (s.of_cast c rest)) (length rest)
        (length (s.mark at op ∷ s.of_cast c rest))
        (of_one x (prefixed k.modes (prefix_operator op)) 1 (prefixed_weighs k.modes (prefix_operator op)))
        (use_within (of_cast k c) (s.of_cast c rest) rest (within_cast c rest)) (omega arith)
    within_unary (t.size at l n r) rest =
        let here = before_type_name n (s.mark r RightParenthesis ∷ rest) in
        light (of_unary k (t.size at l n r)) (length rest) (length (s.of_unary (t.size at l n r) rest))
        (size_light k.modes k.structs (meant_type (void_said k.tags n) (said_type k.tags n))) (omega arith)

    within_postfix : (x : t.Postfix) (rest : List Leaf) → Within (of_postfix k x) (length rest) (length (s.of_postfix x rest))
    within_postfix (t.primary p) rest = within_primary p rest
    within_postfix (t.index p l e r) rest =
        let behind = s.of_expression e (s.mark r RightBracket ∷ rest) in
        let all = s.of_postfix p (s.mark l LeftBracket ∷ behind) in
        let x = used (of_postfix k p) in
        let y = used (of_expression k e) in
        two_within (with_both x y (indexed k.modes)) x y 1 (length (s.mark l LeftBracket ∷ behind)) (length all)
        (length (s.mark r RightBracket ∷ rest)) (length behind)
        (length rest) (length all) (of_two x y (indexed k.modes) 1 (indexed_weighs k.modes))
        (use_within (of_postfix k p) all (s.mark l LeftBracket ∷ behind) (within_postfix p (s.mark l LeftBracket ∷ behind)))
        (use_within (of_expression k e) behind (s.mark r RightBracket ∷ rest) (within_expression e (s.mark r RightBracket ∷ rest)))
        (omega arith)
    within_postfix (t.call p l a r) rest =
        let behind = s.of_arguments a (s.mark r RightParenthesis ∷ rest) in
        let inside = before_arguments a (s.mark r RightParenthesis ∷ rest) in
        let before = before_postfix p (s.mark l LeftParenthesis ∷ behind) in
        wider (of_postfix k (t.call p l a r)) (length rest) (length behind) (length (s.of_postfix (t.call p l a r) rest))
        (callee_within k.modes (callee k p) (argument_count a) (λ w. passed_arguments k w (arguments (Some [])) a)
        (length rest) (length behind)
        (λ w. held_arguments a w (s.mark r RightParenthesis ∷ rest)) inside) (omega arith)
    within_postfix (t.member p at op (t.identifier spot n)) rest =
        let all = s.of_postfix p (s.mark at op ∷ s.of_identifier (t.identifier spot n) rest) in
        let x = used (of_postfix k p) in
        one_within (with_one x (member_of k.modes k.structs n (is_arrow op))) x 1
        (length (s.mark at op ∷ s.of_identifier (t.identifier spot n) rest)) (length all)
        (length rest) (length all)
        (of_one x (member_of k.modes k.structs n (is_arrow op)) 1 (member_weighs k.modes k.structs n (is_arrow op)))
        (use_within (of_postfix k p) all (s.mark at op ∷ s.of_identifier (t.identifier spot n) rest)
        (within_postfix p (s.mark at op ∷ s.of_identifier (t.identifier spot n) rest)))
        (omega arith)
    within_postfix (t.stepped p at op) rest =
        let all = s.of_postfix p (s.mark at op ∷ rest) in
        let x = used (of_postfix k p) in
        one_within (with_one x (stepped k.modes (is_up op) false)) x 1 (length (s.mark at op ∷ rest)) (length all)
        (length rest) (length all)
        (of_one x (stepped k.modes (is_up op) false) 1 (stepped_weighs k.modes (is_up op) false))
        (use_within (of_postfix k p) all (s.mark at op ∷ rest) (within_postfix p (s.mark at op ∷ rest))) (omega arith)

    held_arguments : (x : t.Arguments) (w : Wanted) (rest : List Leaf)
        → Held (passed_arguments k w (arguments (Some [])) x) (length rest) (length (s.of_arguments x rest))
    held_arguments t.no_arguments w rest = (omega arith, omega arith)
    held_arguments (t.arguments a more) w rest =
        let behind = s.of_further more rest in
        held_further more w 1 (with_argument w 0 (arguments (Some [])) (passed k.modes (wanted_type w 0) (used (of_assignment k a)))) rest
        (length (s.of_assignment a behind))
        (held_first w (passed k.modes (wanted_type w 0) (used (of_assignment k a))) (length behind) (length (s.of_assignment a behind))
        (argument_held k.modes (wanted_type w 0) (used (of_assignment k a)) (length behind) (length (s.of_assignment a behind))
        (use_within (of_assignment k a) (s.of_assignment a behind) behind (within_assignment a behind))))

    held_further : (x : t.Further) (w : Wanted) (i : ℕ) (args : Passed) (rest : List Leaf) (n : ℕ)
        → Held args (length (s.of_further x rest)) n
        → Held (passed_further k w args i x) (length rest) n
    held_further t.no_further w i args rest n h = h
    held_further (t.further at a more) w i args rest n h =
        let behind = s.of_further more rest in
        held_further more w (i + 1) (with_argument w i args (passed k.modes (wanted_type w i) (used (of_assignment k a)))) rest n
        (held_more w i args (passed k.modes (wanted_type w i) (used (of_assignment k a))) (length behind)
        (length (s.of_assignment a behind)) n h
        (argument_held k.modes (wanted_type w i) (used (of_assignment k a)) (length behind) (length (s.of_assignment a behind))
        (use_within (of_assignment k a) (s.of_assignment a behind) behind (within_assignment a behind)))
        (before_assignment a behind))

    within_primary : (x : t.Primary) (rest : List Leaf) → Within (of_primary k x) (length rest) (length (s.of_primary x rest))
    within_primary (t.name (t.identifier at n)) rest =
        light (named (found n k.names)) (length rest) (length (s.of_primary (t.name (t.identifier at n)) rest))
        (name_light (found n k.names)) (omega arith)
    within_primary (t.constant at c) rest =
        light (Some (constant_value k.modes c)) (length rest) (length (s.of_primary (t.constant at c) rest))
        (constant_light k.modes c) (omega arith)
    within_primary (t.parenthesised l e r) rest =
        wider (of_expression k e) (length rest) (length (s.of_expression e (s.mark r RightParenthesis ∷ rest)))
        (length (s.of_primary (t.parenthesised l e r) rest))
        (nearer (of_expression k e) (length rest) (length (s.mark r RightParenthesis ∷ rest))
        (length (s.of_expression e (s.mark r RightParenthesis ∷ rest)))
        (within_expression e (s.mark r RightParenthesis ∷ rest)) (omega arith)) (omega arith)
    within_primary (t.operation at (operations.Port op) l (t.identifier spot n) more r) rest =
        let behind = s.of_further more (s.mark r RightParenthesis ∷ rest) in
        let inside = before_further more (s.mark r RightParenthesis ∷ rest) in
        access_within k.modes op (port_named k.ports n) (further_count more)
        (passed_further k (port_operands op) (operands None None) 1 more) (length rest) (suc (suc (suc (length behind))))
        (held_further more (port_operands op) 1 (operands None None) (s.mark r RightParenthesis ∷ rest) (suc (suc (suc (length behind))))
        (tt, tt, omega arith))
    within_primary (t.operation at (operations.Group groups.Acquire) l (t.identifier spot n) more r) rest =
        let inside = before_further more (s.mark r RightParenthesis ∷ rest) in
        two_light (group_operation k.modes true (group_named k.ports n) (further_count more)) (length rest)
        (suc (suc (suc (length (s.of_further more (s.mark r RightParenthesis ∷ rest))))))
        (group_weighs k.modes true (group_named k.ports n) (further_count more)) (omega arith)
    within_primary (t.operation at (operations.Group groups.Release) l (t.identifier spot n) more r) rest =
        let inside = before_further more (s.mark r RightParenthesis ∷ rest) in
        two_light (group_operation k.modes false (group_named k.ports n) (further_count more)) (length rest)
        (suc (suc (suc (length (s.of_further more (s.mark r RightParenthesis ∷ rest))))))
        (group_weighs k.modes false (group_named k.ports n) (further_count more)) (omega arith)
    within_primary (t.operation at (operations.Group groups.Map) l (t.identifier spot n) more r) rest =
        let inside = before_further more (s.mark r RightParenthesis ∷ rest) in
        light (binding_operation k.modes (binding_of k.ports n more)) (length rest)
        (suc (suc (suc (length (s.of_further more (s.mark r RightParenthesis ∷ rest))))))
        (binding_weighs k.modes (binding_of k.ports n more)) (omega arith)

  -- ---- in the words of the law

  valued_within : (m : Modes) (o : Option Operand) (r n : ℕ) → Within o r n → IfSome o (λ x. expr_need (as_value m x) + r ≤ n)
  valued_within m None r n h = tt
  valued_within m (Some x) r n h = let v = value_need m x in omega arith

  need_their_tokens : (m : Modes) → NeedTheirTokens m k
  need_their_tokens m = record {
    expressions = λ x rest. valued_within m (of_expression k x) (length rest) (length (s.of_expression x rest)) (within_expression x rest);
    assignments = λ x rest. valued_within m (of_assignment k x) (length rest) (length (s.of_assignment x rest)) (within_assignment x rest);
    conditionals =
        λ x rest. valued_within m (of_conditional k x) (length rest) (length (s.of_conditional x rest)) (within_conditional x rest);
    binaries = λ x rest. valued_within m (of_binary k x) (length rest) (length (s.of_binary x rest)) (within_binary x rest);
    casts = λ x rest. valued_within m (of_cast k x) (length rest) (length (s.of_cast x rest)) (within_cast x rest);
    unaries = λ x rest. valued_within m (of_unary k x) (length rest) (length (s.of_unary x rest)) (within_unary x rest);
    postfixes = λ x rest. valued_within m (of_postfix k x) (length rest) (length (s.of_postfix x rest)) (within_postfix x rest);
    primaries = λ x rest. valued_within m (of_primary k x) (length rest) (length (s.of_primary x rest)) (within_primary x rest);
  }

pub needs_are_bounded : NeedsAreBounded
needs_are_bounded = record {
  trees = λ m k. need_their_tokens k m;
  passed = λ m to x. brought_need m to x;
  conditions = λ m x. tested_need m x;
  expressions = before_expression;
  assignments = before_assignment;
  conditionals = before_conditional;
}
