-- An expression has a meaning, where no rule is broken at its sites.
use Rattle.std.proofs.Common.{◌≡◌, ◌≤◌, ◌<◌, ◌+◌, ◌-◌, ℕ, zero, suc, Bool, true, false, not, ◌&&◌, List, [], ◌∷◌, length, refl, ap, subst}
use Rattle.std.proofs.Common.{arith}
use Rattle.std.specs.Prelude.{if◌then◌else◌, ◌==◌, nat_lt, ⊤, is_some, is_none, Option, Some, None, IsSome, IfSome, slice_get}
use Rattle.std.proofs.lemmas.Bool.{or_parts, not-false, both_ways, true≢false, false≢true}
use Rattle.std.proofs.lemmas.Bool.Decides.{nat_tests}
use Rattle.ec_iohw.specs.declared.operations.IoOp.{IoOp}
use Rattle.ec_grammar.specs.declared.Operation.TheVariants as operations
use Rattle.ec_grammar.specs.declared.token.GroupOp.TheVariants as groups
use Rattle.ec_grammar.specs.Trees as t
use Rattle.ec_core.specs.Laws.{TypesAreTold}
use Rattle.ec_core.specs.Operators.{same_bool}
use Rattle.ec_core.specs.Plain.{PlainType, PlainExpr}
use Rattle.ec_core.specs.PortOperations.{port_operation, takes_value}
use Rattle.ec_core.specs.Typing.{unsigned_int, port_value}
use Rattle.ec_check_names.specs.Names.{Named, an_object, a_function, found}
use Rattle.ec_check_names.specs.Firsts.{first_assignment}
use Rattle.ec_check_forms.specs.declared.ports.NamedPort.{NamedPort}
use Rattle.ec_check_forms.specs.Calls.{one_if, operand_count, too_wide, port_rules, port_named, group_named, fits, callee_rules}
use Rattle.ec_check_forms.specs.Nodes.{use_rules, used}
use Rattle.ec_check_operands.specs.declared.operands.Modes.{Modes}
use Rattle.ec_check_operands.specs.Operands.{Operand, with_one}
use Rattle.ec_check_operands.specs.Passing.{passed, passing_rules}
use Rattle.ec_check_forms.specs.Meanings.{KeptFormsHaveMeanings, KeptMembersHaveMeanings}
use Rattle.ec_check_expressions.specs.Arguments.{Wanted, nothing, parameters, port_operands, wanted_of, wanted_type, Passed}
use Rattle.ec_check_expressions.specs.Arguments.{arguments, operands, with_argument, arguments_in, access_by, access_of}
use Rattle.ec_check_expressions.specs.Bindings.{binding_of}
use Rattle.ec_check_expressions.specs.Callees.{name_in_postfix, Called, function_named, called_by, callee, further_count, argument_count}
use Rattle.ec_check_expressions.specs.Callees.{called_sites, call_of}
use Rattle.ec_check_expressions.specs.Expressions.{wanted_by, call_sites, of_expression}
use Rattle.ec_check_expressions.specs.Expressions.{of_assignment, of_conditional, of_binary, of_cast, of_unary, of_postfix}
use Rattle.ec_check_expressions.specs.Expressions.{passed_arguments, passed_further, of_primary, expression_sites, assignment_sites}
use Rattle.ec_check_expressions.specs.Expressions.{conditional_sites, binary_sites, cast_sites, unary_sites, postfix_sites, arguments_sites}
use Rattle.ec_check_expressions.specs.Expressions.{further_sites, primary_sites}
use Rattle.ec_check_expressions.specs.Known.{Known}
use Rattle.ec_check_expressions.specs.Sites.{Site, told as told_at}
use Rattle.ec_check_expressions.specs.Tokens.{operator_of, compound_operator, prefix_operator, is_up, is_arrow}
use Rattle.ec_check_expressions.specs.TypeNames.{said_type, void_said}
use Rattle.ec_check_expression_laws.specs.Laws.{AreUnbroken, HaveMeanings, KeptExpressionsHaveMeanings}
use Rattle.ec_check_expression_laws.specs.Suits.{IsWhole, HasTypes}
use Rattle.ec_check_expression_laws.proofs.KeptForms.{IsMeant, used_meant, comma_meant, join_meant, store_meant, choice_meant, prefix_meant}
use Rattle.ec_check_expression_laws.proofs.KeptForms.{step_meant, index_meant, member_meant, cast_meant, size_meant, passing_meant}
use Rattle.ec_check_expression_laws.proofs.KeptForms.{call_meant, access_made, group_meant, binding_meant, name_meant}
use Rattle.ec_check_expression_laws.proofs.KeptTypes.{type_kept}
use Rattle.ec_check_expression_laws.proofs.SaidTypes.{if_both}
use Rattle.ec_check_expression_laws.proofs.Shapes.{constant_shape}
use Rattle.ec_check_expression_laws.proofs.Unbroken.{AreKept, kept_of, told_of}

-- ---- operands of a port operation

-- the type of an operand, by what an operation takes
abbrev wanted_by_form : (value : PlainType) (indexed takes : Bool) → ℕ → Option PlainType
wanted_by_form value indexed takes n =
    if indexed then (if n == 0 then Some unsigned_int else (if n == 1 && takes then Some value else None))
    else (if n == 0 && takes then Some value else None)

-- before the operand with a number, each of those before it stands where it is taken
abbrev Filled : (indexed takes : Bool) → ℕ → Option PlainExpr → Option PlainExpr → Type 0
Filled indexed takes i index v =
    (1 ≤ i) × (i ≤ 1 + (one_if indexed + one_if takes)
    → (is_some index ≡ (indexed && nat_lt 1 i)) × (is_some v ≡ (takes && nat_lt (1 + one_if indexed) i)))

one_at_most : (b : Bool) → one_if b ≤ 1
one_at_most true = omega arith
one_at_most false = omega arith

one_filled : (value : PlainType) (indexed takes : Bool) (i : ℕ) (index v e : Option PlainExpr) → Filled indexed takes i index v
    → (IsSome (wanted_by_form value indexed takes (i - 1)) → IsSome e)
    → Filled indexed takes (i + 1) (if indexed && i == 1 then e else index) (if indexed && i == 1 then v else e)
one_filled value indexed takes zero index v e h k = absurd (let z : 1 ≤ 0 = h.0 in omega arith)
one_filled value true takes (suc zero) index v e h k = (omega arith, λ le. (k refl, (h.1 (omega arith)).1))
one_filled value false true (suc zero) index v e h k = (omega arith, λ le. ((h.1 (omega arith)).0, k refl))
one_filled value false false (suc zero) index v e h k = (omega arith, λ (le : 2 ≤ 1). absurd (omega arith))
one_filled value true true (suc (suc zero)) index v e h k = (omega arith, λ le. ((h.1 (omega arith)).0, k refl))
one_filled value true false (suc (suc zero)) index v e h k = (omega arith, λ (le : 3 ≤ 2). absurd (omega arith))
one_filled value false takes (suc (suc zero)) index v e h k =
    (omega arith, λ (le : 3 ≤ 1 + (0 + one_if takes)). let a = one_at_most takes in absurd (omega arith))
one_filled value indexed takes (suc (suc (suc i))) index v e h k = (
  omega arith,
  λ (le : suc (suc (suc i)) + 1 ≤ 1 + (one_if indexed + one_if takes)).
      let a = one_at_most indexed in let b = one_at_most takes in absurd (omega arith),
)

all_filled : (indexed takes : Bool) (index v : Option PlainExpr) → Filled indexed takes (1 + (one_if indexed + one_if takes)) index v
    → (fits indexed index ≡ true) × (fits takes v ≡ true)
all_filled true true index v h = let g = h.1 (omega arith) in (ap (same_bool true) g.0, ap (same_bool true) g.1)
all_filled true false index v h = let g = h.1 (omega arith) in (ap (same_bool true) g.0, ap (same_bool false) g.1)
all_filled false true index v h = let g = h.1 (omega arith) in (ap (same_bool false) g.0, ap (same_bool true) g.1)
all_filled false false index v h = let g = h.1 (omega arith) in (ap (same_bool false) g.0, ap (same_bool false) g.1)

abbrev IsFilled : IoOp → ℕ → Passed → Type 0
IsFilled op i (arguments es) = ⊥
IsFilled op i (operands index v) = Filled (port_operation op).indexed (takes_value (port_operation op)) i index v

filled_more : (op : IoOp) (i : ℕ) (args : Passed) (e : Option PlainExpr) → IsFilled op i args
    → (IsSome (wanted_type (port_operands op) i) → IsSome e)
    → IsFilled op (i + 1) (with_argument (port_operands op) i args e)
filled_more op i (arguments es) e h k = h
filled_more op i (operands index v) e h k = choose ((port_operation op).indexed && i == 1) refl
  where
    form_filled : Filled (port_operation op).indexed (takes_value (port_operation op)) (i + 1)
        (if (port_operation op).indexed && i == 1 then e else index) (if (port_operation op).indexed && i == 1 then v else e)
    form_filled = one_filled (port_value (port_operation op)) (port_operation op).indexed (takes_value (port_operation op)) i index v e h k

    choose : (b : Bool) → ((port_operation op).indexed && i == 1) ≡ b → IsFilled op (i + 1) (if b then operands e v else operands index e)
    choose true q = subst (λ (b : Bool). Filled (port_operation op).indexed (takes_value (port_operation op)) (i + 1)
        (if b then e else index) (if b then v else e)) q form_filled
    choose false q = subst (λ (b : Bool). Filled (port_operation op).indexed (takes_value (port_operation op)) (i + 1)
        (if b then e else index) (if b then v else e)) q form_filled

-- ---- arguments

appended_some : (ts : List PlainType) (i : ℕ) (args : Passed) (e : Option PlainExpr) → IsSome (arguments_in args) → IsSome e
    → IsSome (arguments_in (with_argument (parameters ts) i args e))
appended_some ts i (arguments None) e h k = absurd (false≢true h)
appended_some ts i (arguments (Some es)) None h k = absurd (false≢true k)
appended_some ts i (arguments (Some es)) (Some e) h k = refl
appended_some ts i (operands index v) e h k = absurd (false≢true h)

within : (ts : List PlainType) (i : ℕ) → i < length ts → IsSome (slice_get ts i)
within [] i h = absurd (let z : i < 0 = h in omega arith)
within (t ∷ ts) zero h = refl
within (t ∷ ts) (suc i) h = within ts i (let z : suc i < suc (length ts) = h in omega arith)

counted : (n count : ℕ) → (n == count) ≡ true → n ≡ count
counted n count e = grind (arith, nat_tests, e)

module _ (k : Known) where
  abbrev IsPassing : Wanted → ℕ → t.Assignment → Type 0
  IsPassing w i a = IsSome (wanted_type w i) → IsSome (passed k.modes (wanted_type w i) (used (of_assignment k a)))

  -- each argument is passed, where a type is wanted for it
  abbrev ArePassing : Wanted → ℕ → t.Further → Type 0
  ArePassing w i t.no_further = ⊤
  ArePassing w i (t.further s a more) = IsPassing w i a × ArePassing w (i + 1) more

  abbrev AllPassing : Wanted → t.Arguments → Type 0
  AllPassing w t.no_arguments = ⊤
  AllPassing w (t.arguments a more) = IsPassing w 0 a × ArePassing w 1 more

  further_given : (x : t.Further) (ts : List PlainType) (i : ℕ) (args : Passed) → i + further_count x ≤ length ts
      → IsSome (arguments_in args)
      → ArePassing (parameters ts) i x → IsSome (arguments_in (passed_further k (parameters ts) args i x))
  further_given t.no_further ts i args le h g = h
  further_given (t.further s a more) ts i args le h g =
      let here : i < length ts = omega arith in
      let next : i + 1 + further_count more ≤ length ts = omega arith in
      further_given more ts (i + 1)
      (with_argument (parameters ts) i args (passed k.modes (wanted_type (parameters ts) i) (used (of_assignment k a)))) next
      (appended_some ts i args (passed k.modes (wanted_type (parameters ts) i) (used (of_assignment k a))) h (g.0 (within ts i here))) g.1

  all_given : (x : t.Arguments) (ts : List PlainType) → length ts ≡ argument_count x → AllPassing (parameters ts) x
      → IsSome (arguments_in (passed_arguments k (parameters ts) (arguments (Some [])) x))
  all_given t.no_arguments ts e g = refl
  all_given (t.arguments a more) ts e g =
      let here : 0 < length ts = omega arith in
      let next : 1 + further_count more ≤ length ts = omega arith in
      further_given more ts 1 (with_argument (parameters ts) 0 (arguments (Some []))
      (passed k.modes (wanted_type (parameters ts) 0) (used (of_assignment k a)))) next
      (appended_some ts 0 (arguments (Some [])) (passed k.modes (wanted_type (parameters ts) 0) (used (of_assignment k a))) refl
      (g.0 (within ts 0 here))) g.1

  operands_given : (x : t.Further) (op : IoOp) (i : ℕ) (args : Passed) → IsFilled op i args → ArePassing (port_operands op) i x
      → IsFilled op (i + further_count x) (passed_further k (port_operands op) args i x)
  operands_given t.no_further op i args h g = subst (λ (j : ℕ). IsFilled op j args) (let e : i ≡ i + 0 = omega arith in e) h
  operands_given (t.further s a more) op i args h g =
      subst (λ (j : ℕ). IsFilled op j (passed_further k (port_operands op) (with_argument (port_operands op) i args
      (passed k.modes (wanted_type (port_operands op) i) (used (of_assignment k a)))) (i + 1) more))
      (let e : i + 1 + further_count more ≡ i + (further_count more + 1) = omega arith in e)
      (operands_given more op (i + 1)
      (with_argument (port_operands op) i args (passed k.modes (wanted_type (port_operands op) i) (used (of_assignment k a))))
      (filled_more op i args (passed k.modes (wanted_type (port_operands op) i) (used (of_assignment k a))) h g.0) g.1)

  -- ---- callees

  module _ (types : HasTypes k) where
    callee_by_name : (at : ℕ) (what : Option Named) → IfSome what IsWhole
        → IfSome (function_named at what) (λ c. IsWhole (a_function c.number c.returns c.params))
    callee_by_name at None h = tt
    callee_by_name at (Some (an_object number ty konst space register)) h = tt
    callee_by_name at (Some (a_function number returns params)) h = h

    callee_whole : (n : Option t.Identifier) → IfSome (called_by k n) (λ c. IsWhole (a_function c.number c.returns c.params))
    callee_whole None = tt
    callee_whole (Some (t.identifier spot n)) = callee_by_name spot.index (found n k.names) (types.names n)

-- a call whose arguments are given, at whose sites no rule is broken
module _ (told : TypesAreTold) (forms : KeptFormsHaveMeanings) (m : Modes) (count at : ℕ) (pass : Wanted → Passed)
    (expression : List Site → List Site)
    (sites : Wanted → List Site) (rest : List Site)
    (given : (ts : List PlainType) → length ts ≡ count → AreKept (sites (parameters ts))
    → IsSome (arguments_in (pass (parameters ts))) × AreKept rest) where
  function_meant : (name_at : ℕ) (number : Option ℕ) (returns : Option PlainType) (params : Option (List PlainType))
      → IsWhole (a_function number returns params)
      → AreKept
      (called_sites (record { at = name_at; number = number; returns = returns; params = params }) count at (sites (wanted_of params)))
      → IsMeant (call_of m (record { at = name_at; number = number; returns = returns; params = params }) count
      (arguments_in (pass (wanted_of params)))) × AreKept rest
  function_meant name_at None returns params h k = absurd (true≢false k.0.0)
  function_meant name_at (Some n) None params h k = absurd h.0
  function_meant name_at (Some n) (Some ty) None h k = absurd (false≢true h.1)
  function_meant name_at (Some n) (Some ty) (Some ts) h k =
      let e = not-false (length ts == count) k.1.0.0 in
      let g = given ts (counted (length ts) count e) k.1.1 in
      (call_meant told forms m n ty (length ts) count (arguments_in (pass (parameters ts))) h.0 e g.0, g.1)

  -- nothing else is called
  callee_meant : (o : Option Called) → IfSome o (λ c. IsWhole (a_function c.number c.returns c.params))
      → AreUnbroken (callee_rules (is_some o) 0) → AreKept (call_sites o expression count at (sites (wanted_by o)))
      → IsMeant (with_one o (λ c. call_of m c count (arguments_in (pass (wanted_of c.params))))) × AreKept rest
  callee_meant None h u k = absurd (true≢false u.0)
  callee_meant (Some c) h u k = function_meant c.at c.number c.returns c.params h k

-- ---- operations on ports

module _ (told : TypesAreTold) (forms : KeptFormsHaveMeanings) (m : Modes) where
  port_meant : (op : IoOp) (port : Option NamedPort) (args : Passed) → is_none port ≡ false → too_wide (port_operation op) port ≡ false
      → IsFilled op (1 + operand_count (port_operation op)) args → IsMeant (access_by m op port args)
  port_meant op port (arguments es) h w f = absurd f
  port_meant op None (operands index v) h w f = absurd (true≢false h)
  port_meant op (Some p) (operands index v) h w f =
      let g = all_filled (port_operation op).indexed (takes_value (port_operation op)) index v f in
      access_made told forms m op index v p w g.0 g.1

  access_meant : (op : IoOp) (port : Option NamedPort) (count : ℕ) (args : Passed) → AreUnbroken (port_rules op port count 0)
      → IsFilled op (1 + count) args
      → IsMeant (access_of m op port count args)
  access_meant op port count args k f =
      let a = or_parts (is_none port) (not (count == operand_count (port_operation op))) k.0 in
      let e = not-false (count == operand_count (port_operation op)) a.1 in
      if_both IsMeant (count == operand_count (port_operation op)) (access_by m op port args) None
      (λ q. port_meant op port args a.0 k.1.0
      (subst (λ (j : ℕ). IsFilled op (1 + j) args) (counted count (operand_count (port_operation op)) e) f))
      (λ q. absurd (both_ways (count == operand_count (port_operation op)) q e))

  port_operation_meant : (k : Known) (more : t.Further) (op : IoOp) (n : List ℕ) → ArePassing k (port_operands op) 1 more
      → AreUnbroken (port_rules op (port_named k.ports n) (further_count more) 0)
      → IsMeant (access_of m op (port_named k.ports n) (further_count more)
      (passed_further k (port_operands op) (operands None None) 1 more))
  port_operation_meant k more op n g h =
      access_meant op (port_named k.ports n) (further_count more) (passed_further k (port_operands op) (operands None None) 1 more) h
      (operands_given k more op 1 (operands None None) (none_filled (port_operation op).indexed (takes_value (port_operation op))) g)
    where
      none_filled : (indexed takes : Bool) → Filled indexed takes 1 None None
      none_filled true true = (omega arith, λ le. (refl, refl))
      none_filled true false = (omega arith, λ le. (refl, refl))
      none_filled false true = (omega arith, λ le. (refl, refl))
      none_filled false false = (omega arith, λ le. (refl, refl))

-- ---- all

module _ (told : TypesAreTold) (forms : KeptFormsHaveMeanings) (members : KeptMembersHaveMeanings) (k : Known) (types : HasTypes k) where
  use_of : (x : Option Operand) → IsMeant x → AreUnbroken (use_rules x 0) → IsMeant (used x)
  use_of x h g = used_meant x 0 h g

  passing : (w : Wanted) (i : ℕ) (a : t.Assignment) → IsMeant (of_assignment k a) → AreUnbroken (use_rules (of_assignment k a) 0)
      → AreUnbroken (passing_rules (used (of_assignment k a)) (wanted_type w i) (first_assignment a)) → IsPassing k w i a
  passing w i a h u g s = passing_meant told forms k.modes (used (of_assignment k a)) (wanted_type w i) (first_assignment a)
      (use_of (of_assignment k a) h u) g s

  mutual
    kept_expression : (x : t.Expression) (rest : List Site) → AreKept (expression_sites k x rest)
        → IsMeant (of_expression k x) × AreKept rest
    kept_expression (t.single a) rest h = kept_assignment a rest h
    kept_expression (t.comma e s a) rest h =
        let g = kept_expression e _ h in
        let b = kept_assignment a _ g.1.1.1 in
        (comma_meant told forms k.modes (of_expression k e) (of_assignment k a) 0 0 0 0 g.0 g.1.0 g.1.1.0 b.0 b.1.0 b.1.1.0, b.1.1.1)

    kept_assignment : (x : t.Assignment) (rest : List Site) → AreKept (assignment_sites k x rest)
        → IsMeant (of_assignment k x) × AreKept rest
    kept_assignment (t.value c) rest h = kept_conditional c rest h
    kept_assignment (t.assign u s op a) rest h =
        let g = kept_unary u _ h in
        let b = kept_assignment a _ g.1.1 in (
          store_meant told forms k.modes (compound_operator op) (used (of_unary k u)) (used (of_assignment k a)) s.index
              (use_of (of_unary k u) g.0 g.1.0) (use_of (of_assignment k a) b.0 b.1.0) b.1.1.0,
          b.1.1.1,
        )

    kept_conditional : (x : t.Conditional) (rest : List Site) → AreKept (conditional_sites k x rest)
        → IsMeant (of_conditional k x) × AreKept rest
    kept_conditional (t.plain b) rest h = kept_binary b rest h
    kept_conditional (t.choose b q e s c) rest h =
        let g = kept_binary b _ h in
        let x = kept_expression e _ g.1.1 in
        let y = kept_conditional c _ x.1 in (
          choice_meant told forms k.modes (used (of_binary k b)) (of_expression k e) (of_conditional k c) 0
              (use_of (of_binary k b) g.0 g.1.0) x.0 y.0 y.1.0,
          y.1.1,
        )

    kept_binary : (x : t.Binary) (rest : List Site) → AreKept (binary_sites k x rest) → IsMeant (of_binary k x) × AreKept rest
    kept_binary (t.operand c) rest h = kept_cast c rest h
    kept_binary (t.join a s op b) rest h =
        let x = kept_binary a _ h in
        let y = kept_binary b _ x.1.1 in (
          join_meant told forms k.modes op (operator_of op) (used (of_binary k a)) (used (of_binary k b)) s.index
              (use_of (of_binary k a) x.0 x.1.0) (use_of (of_binary k b) y.0 y.1.0) y.1.1.0,
          y.1.1.1,
        )

    kept_cast : (x : t.Cast) (rest : List Site) → AreKept (cast_sites k x rest) → IsMeant (of_cast k x) × AreKept rest
    kept_cast (t.uncast u) rest h = kept_unary u rest h
    kept_cast (t.convert l n r c) rest h =
        let x = kept_cast c _ h in
        let ty = type_kept (length k.structs) k.tags types.tags n x.1.1.0 in (
          cast_meant told forms k.modes (void_said k.tags n) (said_type k.tags n) (used (of_cast k c)) 0 (length k.structs) ty.0 ty.1
              (use_of (of_cast k c) x.0 x.1.0) x.1.1.1.0,
          x.1.1.1.1,
        )

    kept_unary : (x : t.Unary) (rest : List Site) → AreKept (unary_sites k x rest) → IsMeant (of_unary k x) × AreKept rest
    kept_unary (t.postfix p) rest h = kept_postfix p rest h
    kept_unary (t.step s op u) rest h =
        let x = kept_unary u _ h in
        (step_meant told forms k.modes (is_up op) true (used (of_unary k u)) 0 (use_of (of_unary k u) x.0 x.1.0) x.1.1.0, x.1.1.1)
    kept_unary (t.prefix s op c) rest h =
        let x = kept_cast c _ h in (
          prefix_meant told forms k.modes (prefix_operator op) (used (of_cast k c)) s.index (use_of (of_cast k c) x.0 x.1.0) x.1.1.0,
          x.1.1.1,
        )
    kept_unary (t.size s l n r) rest h =
        let ty = type_kept (length k.structs) k.tags types.tags n h.0 in
        (size_meant told forms k.modes k.structs (void_said k.tags n) (said_type k.tags n) ty.0 ty.1, h.1)

    kept_postfix : (x : t.Postfix) (rest : List Site) → AreKept (postfix_sites k x rest) → IsMeant (of_postfix k x) × AreKept rest
    kept_postfix (t.primary p) rest h = kept_primary p rest h
    kept_postfix (t.index p l e r) rest h =
        let x = kept_postfix p _ h in
        let y = kept_expression e _ x.1.1 in (
          index_meant told forms k.modes (used (of_postfix k p)) (used (of_expression k e)) 0
              (use_of (of_postfix k p) x.0 x.1.0) (use_of (of_expression k e) y.0 y.1.0) y.1.1.0,
          y.1.1.1,
        )
    kept_postfix (t.call p l a r) rest h =
        callee_meant told forms k.modes (argument_count a) l.index (λ w. passed_arguments k w (arguments (Some [])) a)
        (postfix_sites k p) (λ w. arguments_sites k w a rest) rest
        (λ ts e z. let g = kept_arguments a (parameters ts) rest z in (all_given k a ts e g.0, g.1))
        (callee k p) (callee_whole k types (name_in_postfix p)) h.0 h.1
    kept_postfix (t.member p s op (t.identifier at n)) rest h =
        let x = kept_postfix p _ h in (
          member_meant told forms k.modes members k.structs n (is_arrow op) (used (of_postfix k p)) 0 0
              (use_of (of_postfix k p) x.0 x.1.0) x.1.1.0,
          x.1.1.1,
        )
    kept_postfix (t.stepped p s op) rest h =
        let x = kept_postfix p _ h in
        (step_meant told forms k.modes (is_up op) false (used (of_postfix k p)) 0 (use_of (of_postfix k p) x.0 x.1.0) x.1.1.0, x.1.1.1)

    kept_arguments : (x : t.Arguments) (w : Wanted) (rest : List Site) → AreKept (arguments_sites k w x rest)
        → AllPassing k w x × AreKept rest
    kept_arguments t.no_arguments w rest h = (tt, h)
    kept_arguments (t.arguments a more) w rest h =
        let g = kept_assignment a _ h in
        let b = kept_further more w 1 rest g.1.1.1 in
        ((passing w 0 a g.0 g.1.0 g.1.1.0, b.0), b.1)

    kept_further : (x : t.Further) (w : Wanted) (i : ℕ) (rest : List Site) → AreKept (further_sites k w i x rest)
        → ArePassing k w i x × AreKept rest
    kept_further t.no_further w i rest h = (tt, h)
    kept_further (t.further s a more) w i rest h =
        let g = kept_assignment a _ h in
        let b = kept_further more w (i + 1) rest g.1.1.1 in
        ((passing w i a g.0 g.1.0 g.1.1.0, b.0), b.1)

    kept_primary : (x : t.Primary) (rest : List Site) → AreKept (primary_sites k x rest) → IsMeant (of_primary k x) × AreKept rest
    kept_primary (t.name (t.identifier s n)) rest h = (name_meant (found n k.names) 0 (types.names n) h.0, h.1)
    kept_primary (t.constant s c) rest h = (constant_shape told k.modes c, h)
    kept_primary (t.parenthesised l e r) rest h = kept_expression e rest h
    kept_primary (t.operation s (operations.Port op) l (t.identifier at n) more r) rest h =
        let g = kept_further more (port_operands op) 1 _ h in
        (port_operation_meant told forms k.modes k more op n g.0 g.1.0, g.1.1)
    kept_primary (t.operation s (operations.Group groups.Acquire) l (t.identifier at n) more r) rest h =
        let g = kept_further more nothing 1 _ h in
        (group_meant told forms k.modes true (group_named k.ports n) (further_count more) 0 g.1.0, g.1.1)
    kept_primary (t.operation s (operations.Group groups.Release) l (t.identifier at n) more r) rest h =
        let g = kept_further more nothing 1 _ h in
        (group_meant told forms k.modes false (group_named k.ports n) (further_count more) 0 g.1.0, g.1.1)
    kept_primary (t.operation s (operations.Group groups.Map) l (t.identifier at n) more r) rest h =
        (binding_meant told forms k.modes (binding_of k.ports n more) 0 h.0, h.1)

  -- in the words of what is told
  ended : (o : Option Operand) (rest : List Site) → IsMeant o × AreKept rest → IsMeant o × (told_at None rest ≡ None)
  ended o rest h = (h.0, told_of rest h.1)

  pub have_meanings : HaveMeanings k
  have_meanings = record {
    expressions = λ x rest e. ended (of_expression k x) rest (kept_expression x rest (kept_of (expression_sites k x rest) e));
    assignments = λ x rest e. ended (of_assignment k x) rest (kept_assignment x rest (kept_of (assignment_sites k x rest) e));
    conditionals = λ x rest e. ended (of_conditional k x) rest (kept_conditional x rest (kept_of (conditional_sites k x rest) e));
    binaries = λ x rest e. ended (of_binary k x) rest (kept_binary x rest (kept_of (binary_sites k x rest) e));
    casts = λ x rest e. ended (of_cast k x) rest (kept_cast x rest (kept_of (cast_sites k x rest) e));
    unaries = λ x rest e. ended (of_unary k x) rest (kept_unary x rest (kept_of (unary_sites k x rest) e));
    postfixes = λ x rest e. ended (of_postfix k x) rest (kept_postfix x rest (kept_of (postfix_sites k x rest) e));
    primaries = λ x rest e. ended (of_primary k x) rest (kept_primary x rest (kept_of (primary_sites k x rest) e));
  }

pub kept_expressions_have_meanings : TypesAreTold → KeptFormsHaveMeanings → KeptMembersHaveMeanings → KeptExpressionsHaveMeanings
kept_expressions_have_meanings told forms members k types = have_meanings told forms members k types
