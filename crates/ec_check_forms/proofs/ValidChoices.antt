-- What `?:` makes of valid operands is valid, and so are names and constants.
use Rattle.std.proofs.Common.{◌≡◌, ◌<◌, ℕ, Bool, true, false, not, ◌&&◌, ◌||◌, refl, sym, ap, ◌∙◌, subst, inl, inr}
use Rattle.std.specs.Prelude.{if◌then◌else◌, ◌==◌, ◌⊎◌, ⊤, List, Option, Some, None, IsSomeAnd, option_map, unwrap_or, slice_get}
use Rattle.std.specs.Prelude.{length, IsTrue}
use Rattle.std.proofs.lemmas.Bool.{and_parts, and_from, or_parts, eq-eqb, not-false, false≢true, both_ways}
use Rattle.ec_iohw.specs.declared.operations.IoOp.{IoOp}
use Rattle.ec_iohw.specs.declared.table.Dynamic.{Dynamic}
use Rattle.ec_iohw.specs.declared.table.IoTable.{IoTable}
use Rattle.ec_iohw.specs.declared.table.Port.{Port}
use Rattle.ec_space.specs.declared.space.SpaceId.{SpaceId}
use Rattle.ec_space.specs.Spaces.{join, encloses}
use Rattle.ec_core.specs.declared.arithmetic_types.Arithmetic.{Arithmetic}
use Rattle.ec_core.specs.declared.arithmetic_types.Arithmetic.TheVariants.{Integer, Fixed}
use Rattle.ec_core.specs.ArithmeticTypes.{type_of, common}
use Rattle.ec_core.specs.Laws.{TypesAreTold}
use Rattle.ec_core.specs.Layout.{IsScalar}
use Rattle.ec_core.specs.Operators.{same_type}
use Rattle.ec_core.specs.Plain.{PlainType, void, integer, fixed, pointer, array, struct, PlainStruct, PlainObject, PlainExpr}
use Rattle.ec_core.specs.Plain.{PlainStorage, null, convert, conditional, call, io, group, bind, dynamic_group}
use Rattle.ec_core.specs.Plain.{PlainFunction, PlainProgram}
use Rattle.ec_core.specs.PortOperations.{PortAction, reads, writes, updates, PortOperation, port_operation, takes_value}
use Rattle.ec_core.specs.TypeLaws.{UsualConversions}
use Rattle.ec_core.specs.Typing.{unsigned_int, unsigned_long, type_of_expr, AreConvertible, IsBranchType, IsOperandIf, port_value}
use Rattle.ec_core.specs.Typing.{port_result, AreArguments}
use Rattle.ec_core.specs.Valid.{IsExprType, ValidExpr, ValidOption, IsNamedIn, IsAddressable, IsScalarOrVoid}
use Rattle.ec_check_operands.specs.declared.operands.Modes.{Modes}
use Rattle.ec_check_forms.specs.declared.ports.Binding.{Binding}
use Rattle.ec_check_forms.specs.declared.ports.NamedGroup.{NamedGroup}
use Rattle.ec_check_forms.specs.declared.ports.NamedGroup.TheVariants as groups
use Rattle.ec_check_forms.specs.declared.ports.NamedPort.{NamedPort}
use Rattle.ec_check_forms.specs.Calls.{optional, fits, is_too_wide, accessed, group_node}
use Rattle.ec_check_forms.specs.Calls.{binding_operation}
use Rattle.ec_check_forms.specs.Constraints.{IsInteger, IsArithmetic, IsPointer, IsScalar as IsScalarKind, PointToOneType}
use Rattle.ec_check_forms.specs.Constraints.{ArePointerAndNull, AreAlternatives}
use Rattle.ec_check_forms.specs.Nodes.{condition}
use Rattle.ec_check_forms.specs.Choices.{alternatives, pointer_between, type_between, chosen}
use Rattle.ec_check_operands.specs.Operands.{Operand, made, value_type, as_value, is_null, converted, valued, with_one}
use Rattle.ec_check_operands.specs.Operands.{with_both}
use Rattle.ec_check_operands.specs.Operators.{meeting}
use Rattle.ec_check_operands.specs.Passing.{in_type}
use Rattle.ec_check_operands.specs.Sorts.{is_void, is_pointer, is_struct}
use Rattle.ec_check_forms.specs.Validity.{IsUsable, IsOperand, IsOptional, IsOfType, IsCondition, IsInTable}
use Rattle.ec_check_forms.specs.Validity.{NamesAreOperands}
use Rattle.ec_check_forms.proofs.Decided.{voids, alternating}
use Rattle.ec_check_forms.proofs.ValidNumbers.{is_scalar, convertible}
use Rattle.ec_check_forms.proofs.ValidOperands.{if_both, expr_type_of, known_type, known_usable, Reaches, value_types_agree}
use Rattle.ec_check_forms.proofs.ValidOperands.{good_value, valued_good, null_integer, in_type_valid, scalar_value, condition_valid}
use Rattle.ec_check_forms.proofs.ValidOperations.{two_pointers, encloses_itself, integer_arithmetic}

-- a type between two others: a value of each can be brought there, where the Bools tell the null constant
record IsBetween (structs : List PlainStruct) (a : PlainType) (z : Bool) (b : PlainType) (q : Bool) (ty : PlainType) : Type 0 where
  branch : IsBranchType ty
  usable : IsUsable structs ty
  scalar : IsScalar ty
  left : ((z ≡ true) × IsPointer ty) ⊎ AreConvertible ty a
  right : ((q ≡ true) × IsPointer ty) ⊎ AreConvertible ty b

abbrev AllBetween : List PlainStruct → PlainType → Bool → PlainType → Bool → Option PlainType → Type 0
AllBetween structs a z b q None = ⊤
AllBetween structs a z b q (Some ty) = IsBetween structs a z b q ty

-- alternatives other than two void values
abbrev pub Alternate : PlainType → Bool → PlainType → Bool → Type 0
Alternate a z b q = (IsArithmetic a × IsArithmetic b) ⊎ (PointToOneType a b ⊎ ArePointerAndNull a z b q)

module _ (usual : UsualConversions) (structs : List PlainStruct) where
  numbers_between : (s t : Arithmetic) (z q : Bool) → IsUsable structs (type_of s) → IsUsable structs (type_of t)
      → IsBetween structs (type_of s) z (type_of t) q (type_of (common s t))
  numbers_between s t z q j k =
      let c = usual.suit s t (known_type structs s j) (known_type structs t k) in
      record {
        branch = c.branches;
        usable = known_usable structs (common s t) c.result;
        scalar = is_scalar (common s t) c.result;
        left = inr (convertible (common s t) s);
        right = inr (convertible (common s t) t);
      }

  pointers_between : (s r j : SpaceId) (k c : Bool) (t u : PlainType) (z q : Bool) → t ≡ u → encloses j s ≡ true → encloses j r ≡ true
      → IsUsable structs (pointer s k t) → IsBetween structs (pointer s k t) z (pointer r c u) q (pointer j (k || c) t)
  pointers_between s r j k c t u z q e a b h =
      record { branch = tt; usable = h; scalar = tt; left = inr (refl, inl a); right = inr (e, inl b) }

  joined_between : (s r : SpaceId) (k c : Bool) (t u : PlainType) (z q : Bool) → t ≡ u → IsUsable structs (pointer s k t)
      → AllBetween structs (pointer s k t) z (pointer r c u) q
      (with_one (join s r) (λ j. pointer_between j (pointer s k t) (pointer r c u)))
  joined_between s r k c t u z q e h =
      let P : Option SpaceId → Type 0 = λ o. AllBetween structs (pointer s k t) z (pointer r c u) q
      (with_one o (λ j. pointer_between j (pointer s k t) (pointer r c u))) in
      if_both P (encloses s r) (Some s) (if encloses r s then Some r else None)
      (λ d. pointers_between s r s k c t u z q e (encloses_itself s) d h)
      (λ d. if_both P (encloses r s) (Some r) None (λ g. pointers_between s r r k c t u z q e g (encloses_itself r) h) (λ g. tt))

  one_type : (s r : SpaceId) (k c : Bool) (t u : PlainType) (z q : Bool) → (z ≡ true → ⊥) → (q ≡ true → ⊥)
      → Alternate (pointer s k t) z (pointer r c u) q → t ≡ u
  one_type s r k c t u z q l h (inl d) = absurd d.0
  one_type s r k c t u z q l h (inr (inl d)) = d
  one_type s r k c t u z q l h (inr (inr (inl d))) = absurd (h d.1)
  one_type s r k c t u z q l h (inr (inr (inr d))) = absurd (l d.0)

  null_right : (s : SpaceId) (k : Bool) (t b : PlainType) (z q : Bool) → (IsPointer b → ⊥) → Alternate (pointer s k t) z b q → q ≡ true
  null_right s k t b z q bar (inl d) = absurd d.0
  null_right s k t b z q bar (inr (inl d)) = absurd (bar (two_pointers (pointer s k t) b d).1)
  null_right s k t b z q bar (inr (inr (inl d))) = d.1
  null_right s k t b z q bar (inr (inr (inr d))) = absurd (bar d.1)

  null_left : (a : PlainType) (s : SpaceId) (k : Bool) (t : PlainType) (z q : Bool) → (IsPointer a → ⊥)
      → Alternate a z (pointer s k t) q → z ≡ true
  null_left a s k t z q bar (inl d) = absurd d.1
  null_left a s k t z q bar (inr (inl d)) = absurd (bar (two_pointers a (pointer s k t) d).0)
  null_left a s k t z q bar (inr (inr (inl d))) = absurd (bar d.0)
  null_left a s k t z q bar (inr (inr (inr d))) = d.0

  left_between : (s : SpaceId) (k : Bool) (t b : PlainType) (z q : Bool) → (IsPointer b → ⊥) → Alternate (pointer s k t) z b q
      → IsUsable structs (pointer s k t) → IsBetween structs (pointer s k t) z b q (pointer s k t)
  left_between s k t b z q bar h u = record {
    branch = tt;
    usable = u;
    scalar = tt;
    left = inr (refl, inl (encloses_itself s));
    right = inl (null_right s k t b z q bar h, tt);
  }

  right_between : (a : PlainType) (s : SpaceId) (k : Bool) (t : PlainType) (z q : Bool) → (IsPointer a → ⊥)
      → Alternate a z (pointer s k t) q
      → IsUsable structs (pointer s k t) → IsBetween structs a z (pointer s k t) q (pointer s k t)
  right_between a s k t z q bar h u = record {
    branch = tt;
    usable = u;
    scalar = tt;
    left = inl (null_left a s k t z q bar h, tt);
    right = inr (refl, inl (encloses_itself s));
  }

  all_between : (a : PlainType) (z : Bool) (b : PlainType) (q : Bool) → Alternate a z b q → (z ≡ true → IsInteger a)
      → (q ≡ true → IsInteger b) → IsUsable structs a → IsUsable structs b → AllBetween structs a z b q (type_between (meeting a b) a b)
  all_between (integer s k) z (integer t c) q h l r u v =
      numbers_between (Integer (record { signed = s; bytes = k })) (Integer (record { signed = t; bytes = c })) z q u v
  all_between (integer s k) z (fixed t c) q h l r u v =
      numbers_between (Integer (record { signed = s; bytes = k })) (Fixed (record { kind = t; sat = c })) z q u v
  all_between (fixed s k) z (integer t c) q h l r u v =
      numbers_between (Fixed (record { kind = s; sat = k })) (Integer (record { signed = t; bytes = c })) z q u v
  all_between (fixed s k) z (fixed t c) q h l r u v =
      numbers_between (Fixed (record { kind = s; sat = k })) (Fixed (record { kind = t; sat = c })) z q u v
  all_between (pointer s k t) z (pointer r c w) q h l i u v = joined_between s r k c t w z q (one_type s r k c t w z q l i h) u
  all_between (pointer s k t) z void q h l r u v = left_between s k t void z q (λ g. g) h u
  all_between (pointer s k t) z (integer w c) q h l r u v = left_between s k t (integer w c) z q (λ g. g) h u
  all_between (pointer s k t) z (fixed w c) q h l r u v = left_between s k t (fixed w c) z q (λ g. g) h u
  all_between (pointer s k t) z (array of len) q h l r u v = left_between s k t (array of len) z q (λ g. g) h u
  all_between (pointer s k t) z (struct index) q h l r u v = left_between s k t (struct index) z q (λ g. g) h u
  all_between void z (pointer s k t) q h l r u v = right_between void s k t z q (λ g. g) h v
  all_between (integer w c) z (pointer s k t) q h l r u v = right_between (integer w c) s k t z q (λ g. g) h v
  all_between (fixed w c) z (pointer s k t) q h l r u v = right_between (fixed w c) s k t z q (λ g. g) h v
  all_between (array of len) z (pointer s k t) q h l r u v = right_between (array of len) s k t z q (λ g. g) h v
  all_between (struct index) z (pointer s k t) q h l r u v = right_between (struct index) s k t z q (λ g. g) h v
  all_between a z b q h l r u v = tt

module _ (told : TypesAreTold) (usual : UsualConversions) (p : PlainProgram) (table : IoTable) (f : ℕ) (m : Modes) where
  made_choice : (ty : PlainType) (c : PlainExpr) (x y : Operand) → ValidExpr p table f c → IsScalar (type_of_expr c) → IsBranchType ty
      → IsExprType p ty → IsUsable p.structs ty → IsOfType p table f ty (Some (in_type m ty x))
      → IsOfType p table f ty (Some (in_type m ty y))
      → IsOptional p table f (valued (made m ty (conditional c (in_type m ty x) (in_type m ty y))))
  made_choice ty c x y v s b t u i j =
      valued_good p table f (made m ty (conditional c (in_type m ty x) (in_type m ty y)))
      (record { valid = (t, (s, b, i.1, j.1), (v, i.0, j.0)); usable = u })

  -- ---- two void values

  void_itself : (e : PlainExpr) → ValidExpr p table f e → type_of_expr e ≡ void → IsOfType p table f void (Some (converted m void e))
  void_itself e v t =
      if_both (λ z. IsOfType p table f void (Some z)) (same_type (type_of_expr e) void) e (made m void (convert e)) (λ q. (v, t))
      (λ q. absurd (both_ways (same_type (type_of_expr e) void) q (subst (λ (z : PlainType). same_type z void ≡ true) (sym t) refl)))

  void_valid : (x : Operand) → IsOperand p table f x → value_type x ≡ void → IsOfType p table f void (Some (in_type m void x))
  void_valid x v t =
      let here : type_of_expr (as_value m x) ≡ void = value_types_agree m x ∙ t in
      let plain : is_struct (type_of_expr (as_value m x)) ≡ false = subst (λ (z : PlainType). is_struct z ≡ false) (sym here) refl in
      if_both (λ z. IsOfType p table f void (Some z)) (is_null x && is_pointer void) (made m void null) (converted m void (as_value m x))
      (λ q. absurd (false≢true (and_parts (is_null x) false q).1))
      (λ q. void_itself (as_value m x) (good_value p table f m x v plain).valid here)

  other_void : (x y : Operand) → IsOperand p table f x → value_type x ≡ void → AreAlternatives x y → value_type y ≡ void
  other_void x y v e (inl h) = h.1
  other_void x y v e (inr (inl h)) = absurd (subst IsArithmetic e h.0)
  other_void x y v e (inr (inr (inl h))) = absurd (subst IsPointer e (two_pointers (value_type x) (value_type y) h).0)
  other_void x y v e (inr (inr (inr (inl h)))) = absurd (subst IsPointer e h.0)
  other_void x y v e (inr (inr (inr (inr h)))) =
      absurd (subst IsInteger (value_types_agree m x ∙ e) (null_integer p table f m x v h.0))

  -- ---- two other values

  alternate : (x y : Operand) → is_void (value_type x) ≡ false → AreAlternatives x y
      → Alternate (value_type x) (is_null x) (value_type y) (is_null y)
  alternate x y n (inl h) = absurd (both_ways (is_void (value_type x)) n ((voids (value_type x)).1 h.0))
  alternate x y n (inr h) = h

  both_kinds : (x y : Operand) → IsOperand p table f x → IsOperand p table f y
      → Alternate (value_type x) (is_null x) (value_type y) (is_null y)
      → IsScalarKind (value_type x) × IsScalarKind (value_type y)
  both_kinds x y v w (inl h) = (inl h.0, inl h.1)
  both_kinds x y v w (inr (inl h)) = let e = two_pointers (value_type x) (value_type y) h in (inr e.0, inr e.1)
  both_kinds x y v w (inr (inr (inl h))) =
      (inr h.0, inl (integer_arithmetic (value_type y) (subst IsInteger (value_types_agree m y) (null_integer p table f m y w h.1))))
  both_kinds x y v w (inr (inr (inr h))) =
      (inl (integer_arithmetic (value_type x) (subst IsInteger (value_types_agree m x) (null_integer p table f m x v h.0))), inr h.1)

  there : (x : Operand) (ty : PlainType) → ((is_null x ≡ true) × IsPointer ty) ⊎ AreConvertible ty (value_type x) → Reaches m x ty
  there x ty (inl h) = inl h
  there x ty (inr h) = inr (subst (λ (z : PlainType). AreConvertible ty z) (sym (value_types_agree m x)) h)

  between_valid : (c : PlainExpr) (x y : Operand) → ValidExpr p table f c → IsScalar (type_of_expr c) → IsOperand p table f x
      → IsOperand p table f y
      → (o : Option PlainType) → AllBetween p.structs (value_type x) (is_null x) (value_type y) (is_null y) o
      → IsOptional p table f (with_one o (λ ty. valued (made m ty (conditional c (in_type m ty x) (in_type m ty y)))))
  between_valid c x y d s v w None h = tt
  between_valid c x y d s v w (Some ty) h =
      made_choice ty c x y d s h.branch (expr_type_of p ty h.scalar h.usable) h.usable
      (in_type_valid told p table f m ty x v h.scalar h.usable (there x ty h.left))
      (in_type_valid told p table f m ty y w h.scalar h.usable (there y ty h.right))

  usable_type : (x : Operand) → IsOperand p table f x → IsScalarKind (value_type x) → IsUsable p.structs (value_type x)
  usable_type x v k =
      subst (λ (z : PlainType). IsUsable p.structs z) (value_types_agree m x) (scalar_value p table f m x v k).good.usable

  others_valid : (c : PlainExpr) (x y : Operand) → ValidExpr p table f c → IsScalar (type_of_expr c) → IsOperand p table f x
      → IsOperand p table f y
      → Alternate (value_type x) (is_null x) (value_type y) (is_null y)
      → IsOptional p table f (with_one (type_between (meeting (value_type x) (value_type y)) (value_type x) (value_type y))
      (λ ty. valued (made m ty (conditional c (in_type m ty x) (in_type m ty y)))))
  others_valid c x y d s v w h =
      let k = both_kinds x y v w h in
      between_valid c x y d s v w (type_between (meeting (value_type x) (value_type y)) (value_type x) (value_type y))
      (all_between usual p.structs (value_type x) (is_null x) (value_type y) (is_null y) h
      (λ z. subst IsInteger (value_types_agree m x) (null_integer p table f m x v z))
      (λ z. subst IsInteger (value_types_agree m y) (null_integer p table f m y w z)) (usable_type x v k.0) (usable_type y w k.1))

  chosen_valid : (c : PlainExpr) (x y : Operand) → ValidExpr p table f c → IsScalar (type_of_expr c) → IsOperand p table f x
      → IsOperand p table f y
      → IsOptional p table f (chosen m c x y)
  chosen_valid c x y d s v w =
      let g : PlainType → Option Operand = λ ty. valued (made m ty (conditional c (in_type m ty x) (in_type m ty y))) in
      let V : Option PlainType → Type 0 = λ o. IsOptional p table f (with_one o g) in
      let b = alternatives (value_type x) (is_null x) (value_type y) (is_null y) in
      let between = type_between (meeting (value_type x) (value_type y)) (value_type x) (value_type y) in
      if_both V (not b) None (if is_void (value_type x) then Some void else between) (λ z. tt)
      (λ z. let a = (alternating told x y).0 (not-false b z) in
      if_both V (is_void (value_type x)) (Some void) between
      (λ e. let t = (voids (value_type x)).0 e in
      made_choice void c x y d s tt tt tt (void_valid x v t) (void_valid y w (other_void x y v t a)))
      (λ e. others_valid c x y d s v w (alternate x y e a)))

  chosen_of : (c : Option PlainExpr) (x y : Operand) → IsCondition p table f c → IsOperand p table f x → IsOperand p table f y
      → IsOptional p table f (with_one c (λ e. chosen m e x y))
  chosen_of None x y h v w = tt
  chosen_of (Some c) x y h v w = chosen_valid c x y h.0 h.1 v w

  pub choice_valid : (c x y : Option Operand) → IsOptional p table f c → IsOptional p table f x → IsOptional p table f y
      → IsOptional p table f (with_both x y (λ a b. with_one (condition m c) (λ e. chosen m e a b)))
  choice_valid c None y u v w = tt
  choice_valid c (Some x) None u v w = tt
  choice_valid c (Some x) (Some y) u v w = chosen_of (condition m c) x y (condition_valid p table f m c u) v w

-- ---- names and constants

returned : (p : PlainProgram) (ty : PlainType) → IsScalarOrVoid ty → IsUsable p.structs ty → IsExprType p ty
returned p ty (inl s) u = expr_type_of p ty s u
returned p ty (inr e) u = subst (λ (z : PlainType). IsExprType p z) (sym e) tt

group_valid : (p : PlainProgram) (table : IoTable) (f : ℕ) (m : Modes) (acquire : Bool) (g : NamedGroup) → IsInTable table g
    → IsOptional p table f (valued (made m void (group_node acquire g)))
group_valid p table f m acquire (groups.Group n) h =
    valued_good p table f (made m void (group acquire n)) (record { valid = (tt, (h, refl), tt); usable = tt })
group_valid p table f m acquire (groups.Dynamic n) h =
    valued_good p table f (made m void (dynamic_group acquire n)) (record { valid = (tt, (h, refl), tt); usable = tt })

binding_valid : (p : PlainProgram) (table : IoTable) (f : ℕ) (m : Modes) (b : Binding) (d : Dynamic)
    → slice_get table.dynamics.items b.dynamic ≡ Some d → b.choice < length d.choices.items
    → IsOptional p table f (binding_operation m (Some b))
binding_valid p table f m b d e h =
    let there : IsSomeAnd (slice_get table.dynamics.items b.dynamic) (λ x. b.choice < length x.choices.items) =
    subst (λ (o : Option Dynamic). IsSomeAnd o (λ x. b.choice < length x.choices.items)) (sym e) h in
    valued_good p table f (made m void (bind b.dynamic b.choice)) (record { valid = (tt, (there, refl), tt); usable = tt })

taken : (p : PlainProgram) (table : IoTable) (f : ℕ) (wanted : Bool) (ty : PlainType) (e : Option PlainExpr) → fits wanted e ≡ true
    → IsOfType p table f ty e → IsOperandIf wanted ty (optional e) × ValidOption p table f (optional e)
taken p table f true ty None h t = absurd (false≢true h)
taken p table f true ty (Some e) h t = (t.1, t.0)
taken p table f false ty None h t = (tt, tt)
taken p table f false ty (Some e) h t = absurd (false≢true h)

result_type : (p : PlainProgram) (op : PortOperation)
    → IsExprType p (port_result op.action (port_value op)) × IsUsable p.structs (port_result op.action (port_value op))
result_type p op = by op.action
  where
    size : (long : Bool)
        → IsExprType p (if long then unsigned_long else unsigned_int) × IsUsable p.structs (if long then unsigned_long else unsigned_int)
    size true = (inr (inr refl), inr (inr refl))
    size false = (inr (inl refl), inr (inl refl))

    by : (action : PortAction) → IsExprType p (port_result action (port_value op)) × IsUsable p.structs (port_result action (port_value op))
    by reads = size op.long
    by writes = (tt, tt)
    by updates = (tt, tt)

wide_enough : (long : Bool) (width : ℕ) → (width == 4 && not long) ≡ false → width ≡ 4 → IsTrue long
wide_enough true width e w = refl
wide_enough false width e w = absurd (both_ways (width == 4 && true) e (and_from (width == 4) true (eq-eqb width 4 w) refl))

port_valid : (p : PlainProgram) (table : IoTable) (f : ℕ) (m : Modes) (op : IoOp) (n : NamedPort) (port : Port) (index v : Option PlainExpr)
    → slice_get table.ports.items n.number ≡ Some port → n.width ≡ port.width → IsOfType p table f unsigned_int index
    → IsOfType p table f (port_value (port_operation op)) v → IsOptional p table f (accessed m op index v n)
port_valid p table f m op n port index v e w i t =
    if_both (IsOptional p table f) (is_too_wide form n || not (fits form.indexed index && fits (takes_value form) v)) None
    (valued made_access)
    (λ z. tt) (λ z. whole (or_parts (is_too_wide form n) (not (fits form.indexed index && fits (takes_value form) v)) z))
  where
    form : PortOperation
    form = port_operation op

    made_access : PlainExpr
    made_access = made m (port_result form.action (port_value form)) (io op n.number (optional index) (optional v))

    whole : (is_too_wide form n ≡ false) × (not (fits form.indexed index && fits (takes_value form) v) ≡ false)
        → IsOptional p table f (valued made_access)
    whole (narrow, fit) =
        let both = and_parts (fits form.indexed index) (fits (takes_value form) v)
        (not-false (fits form.indexed index && fits (takes_value form) v) fit) in
        let a = taken p table f form.indexed unsigned_int index both.0 i in
        let b = taken p table f (takes_value form) (port_value form) v both.1 t in
        let r = result_type p form in
        valued_good p table f made_access (record {
          valid = (
            r.0,
            record {
              port = subst (λ (o : Option Port). IsSomeAnd o (λ q. (q.width ≡ 4) → IsTrue form.long)) (sym e)
                  (λ (four : port.width ≡ 4). wide_enough form.long n.width narrow (w ∙ four));
              index = a.0;
              value = b.0;
              result = refl;
            },
            (a.1, b.1),
          );
          usable = r.1;
        })

pub names_are_operands : (p : PlainProgram) (table : IoTable) (f : ℕ) → NamesAreOperands p table f
names_are_operands p table f = record {
  objects = λ o x register e k n a. record {
    kind = k;
    typed = ap (option_map (λ (d : PlainObject). d.ty)) e;
    spaced = ap (option_map (λ (d : PlainObject). d.space)) e;
    constness = ap (λ (d : Option PlainObject). unwrap_or (option_map (λ (g : PlainObject). g.const) d) false) e;
    parts = subst (λ (d : Option PlainObject). IsSomeAnd d (λ g. IsNamedIn f g.storage)) (sym e) n;
    addressed = named x.storage register x.ty o x e a;
  };
  calls = λ m n g args e s u v a. valued_good p table f (made m g.returns (call n args)) (record {
    valid = (
      returned p g.returns s u,
      subst (λ (d : Option PlainFunction). IsSomeAnd d (λ h. (g.returns ≡ h.returns) × AreArguments p h.params args)) (sym e) (refl, a),
      v,
    );
    usable = u;
  });
  wholes = λ m signed bytes n h. record { valid = (h.0, h, tt); usable = h.0; null = λ z. tt };
  fixeds = λ m kind n h. record { valid = (tt, h, tt); usable = tt; null = λ z. absurd (false≢true z) };
  ports = λ m op n port index v e w i t. port_valid p table f m op n port index v e w i t;
  groups = λ m acquire g count h.
      if_both (IsOptional p table f) (count == 0) (valued (made m void (group_node acquire g))) None
      (λ z. group_valid p table f m acquire g h) (λ z. tt);
  bindings = λ m b d e h. binding_valid p table f m b d e h;
}
  where
    named : (storage : PlainStorage) (register : Bool) (ty : PlainType) (o : ℕ) (x : PlainObject) → slice_get p.objects o ≡ Some x
        → IsAddressable x.storage ⊎ ((register ≡ true) × IsArithmetic ty)
        → IsSomeAnd (slice_get p.objects o) (λ d. IsAddressable d.storage) ⊎ ((register ≡ true) × IsArithmetic ty)
    named storage register ty o x e (inl h) =
        inl (subst (λ (d : Option PlainObject). IsSomeAnd d (λ g. IsAddressable g.storage)) (sym e) h)
    named storage register ty o x e (inr h) = inr h
