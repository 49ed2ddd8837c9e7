-- Every other form of valid operands is valid.
use Rattle.std.proofs.Common.{◌≡◌, ◌≤◌, ℕ, Bool, true, false, not, ◌&&◌, ◌||◌, refl, sym, ap, ◌∙◌, subst, inl, inr}
use Rattle.std.specs.Prelude.{if◌then◌else◌, ◌⊎◌, ⊤, List, Option, Some, None, IsSomeAnd, option_and_then}
use Rattle.std.proofs.lemmas.Bool.{and_parts, or_parts, not-true, not-false, both_ways, false≢true, true≢false}
use Rattle.ec_fx.specs.declared.numbers.Mode.{Mode}
use Rattle.ec_iohw.specs.declared.table.IoTable.{IoTable}
use Rattle.ec_space.specs.declared.space.SpaceId.{SpaceId}
use Rattle.ec_core.specs.declared.arithmetic_types.Arithmetic.{Arithmetic}
use Rattle.ec_core.specs.declared.arithmetic_types.Arithmetic.TheVariants.{Integer, Fixed}
use Rattle.ec_core.specs.declared.expressions.BinOp.{BinOp}
use Rattle.ec_core.specs.declared.expressions.BinOp.TheVariants.{Add, Sub, Mul, Div, Rem, Shl, Shr, And, Or, Xor, Lt, Gt, Le, Ge, Eq, Ne}
use Rattle.ec_core.specs.declared.expressions.UnOp.{UnOp}
use Rattle.ec_core.specs.declared.expressions.UnOp.TheVariants as unary_operators
use Rattle.ec_core.specs.ArithmeticTypes.{arithmetic_of, type_of}
use Rattle.ec_core.specs.ArithmeticValues.{IsKnownType, is_comparison}
use Rattle.ec_core.specs.Laws.{TypesAreTold}
use Rattle.ec_core.specs.Layout.{IsScalar}
use Rattle.ec_core.specs.Operators.{promoted_type}
use Rattle.ec_core.specs.Plain.{PlainType, void, integer, fixed, pointer, array, struct, PlainStruct, PlainExpr, expression, PlainNode}
use Rattle.ec_core.specs.Plain.{unary, binary, assign, compound, step, logical_not, logical_and, logical_or, comma, PlainPlace, member}
use Rattle.ec_core.specs.Plain.{deref, PlainProgram}
use Rattle.ec_core.specs.TypeLaws.{UsualConversions}
use Rattle.ec_core.specs.Typing.{int, type_of_expr, pointee, type_of_member, place_type, IsElementOf, IsIntegerType, IsPromoted}
use Rattle.ec_core.specs.Typing.{IsIntegerKind, IsOneByteType, HaveUnaryTypes, HaveBinaryTypes, HaveOffsetTypes, HaveCompoundTypes}
use Rattle.ec_core.specs.Typing.{HaveCompoundArithmetic}
use Rattle.ec_core.specs.Valid.{IsExprType, ValidExpr, HasAddress}
use Rattle.ec_check_operands.specs.declared.operands.Modes.{Modes}
use Rattle.ec_check_forms.specs.declared.prefixes.PrefixOp.{PrefixOp}
use Rattle.ec_check_forms.specs.declared.prefixes.PrefixOp.TheVariants.{Address, Deref, Plus, Minus, Invert, Not}
use Rattle.ec_check_forms.specs.Constraints.{IsInteger, IsArithmetic, IsPointer, IsScalar as IsScalarKind, HasOneByte, PointToOneType}
use Rattle.ec_check_forms.specs.Nodes.{used, used_part, condition, address, pointed, plus, unary_operation, negated, prefixed, assigned}
use Rattle.ec_check_forms.specs.Nodes.{operation_mode, compounded, stepped}
use Rattle.ec_check_forms.specs.Accesses.{indexed, struct_of, base_of, member_number, reached, part_of, member_of}
use Rattle.ec_check_forms.specs.Choices.{logical, sequence, castable, cast}
use Rattle.ec_check_operands.specs.Operands.{Operand, place, value, made, value_type, as_value, is_null, converted, valued, with_one}
use Rattle.ec_check_operands.specs.Operands.{with_both}
use Rattle.ec_check_operands.specs.Operators.{suits}
use Rattle.ec_check_operands.specs.Passing.{in_type, brought}
use Rattle.ec_check_operands.specs.Sorts.{is_void, is_pointer, is_integer, is_scalar, is_struct, is_aggregate}
use Rattle.ec_check_forms.specs.Validity.{IsUsable, IsPlaceType, HaveMembers, IsPlace, IsOperand, IsOptional, IsOfType, IsCondition}
use Rattle.ec_check_forms.proofs.Decided.{scalars, integers, pointers, suiting, casting}
use Rattle.ec_check_forms.proofs.ValidNumbers.{Suit, IsNumber, expr_type, promotion_known, converted_number, integer_kind}
use Rattle.ec_check_forms.proofs.ValidOperands.{if_both, expr_type_of, scalar_kind, known_usable, IsGood, value_types_agree, good_value}
use Rattle.ec_check_forms.proofs.ValidOperands.{valued_good, good_number, with_one_valid, pointed_valid, brought_valid, in_type_valid}
use Rattle.ec_check_forms.proofs.ValidOperands.{cast_reaches, cast_scalar, IsScalarValue, scalar_value, condition_valid}
use Rattle.ec_check_forms.proofs.ValidOperations.{two_pointers}

module _ (told : TypesAreTold) (usual : UsualConversions) (p : PlainProgram) (table : IoTable) (f : ℕ) (m : Modes) where
  -- ---- prefix operators

  address_valid : (x : Operand) → IsOperand p table f x → IsOptional p table f (address m x)
  address_valid (value e zero) v = tt
  address_valid (place ty const space true q) v = tt
  address_valid (place ty const space false q) v =
      let held : IsSomeAnd (place_type p q) (λ t. (t ≡ ty) ⊎ IsElementOf ty t) =
      subst (λ (o : Option PlainType). IsSomeAnd o (λ t. (t ≡ ty) ⊎ IsElementOf ty t)) (sym v.typed) (inl refl) in
      record {
        valid = ((v.kind.object, v.kind.some), (v.spaced, v.constness, held), (v.parts, addressed v.addressed));
        usable = (v.kind.object, v.kind.some, v.kind.usable);
        null = λ z. absurd (false≢true z);
      }
    where
      addressed : HasAddress p q ⊎ ((false ≡ true) × IsArithmetic ty) → HasAddress p q
      addressed (inl h) = h
      addressed (inr h) = absurd (false≢true h.0)

  pointed_to : (x : Operand) → IsOperand p table f x → IsOptional p table f (pointed (as_value m x))
  pointed_to x v = pointed_valid p table f (as_value m x) (good_value p table f m x v)

  promoted_number : (t : Arithmetic) (mode : Mode) (node : PlainNode) → IsGood p table f (expression (type_of t) mode node)
      → IsKnownType t → IsNumber p table f (converted m (type_of (promoted_type t)) (expression (type_of t) mode node)) (promoted_type t)
  promoted_number t mode node g k =
      converted_number told p table f m (promoted_type t) t (expression (type_of t) mode node)
      (record { valid = g.valid; ty = refl; known = k }) (promotion_known t k)

  plus_number : (t : Arithmetic) (mode : Mode) (node : PlainNode) → IsGood p table f (expression (type_of t) mode node)
      → IsKnownType t → IsOptional p table f (valued (converted m (type_of (promoted_type t)) (expression (type_of t) mode node)))
  plus_number t mode node g k =
      let e = converted m (type_of (promoted_type t)) (expression (type_of t) mode node) in
      valued_good p table f e (good_number p table f e (promoted_type t) (promoted_number t mode node g k))

  plus_valid : (e : PlainExpr) → (is_struct (type_of_expr e) ≡ false → IsGood p table f e) → IsOptional p table f (plus m e)
  plus_valid (expression (integer s b) mode node) h =
      plus_number (Integer (record { signed = s; bytes = b })) mode node (h refl) (h refl).usable
  plus_valid (expression (fixed k s) mode node) h = plus_number (Fixed (record { kind = k; sat = s })) mode node (h refl) tt
  plus_valid (expression void mode node) h = tt
  plus_valid (expression (pointer s k t) mode node) h = tt
  plus_valid (expression (array of len) mode node) h = tt
  plus_valid (expression (struct index) mode node) h = tt

  promotes : (t : Arithmetic) → IsKnownType t → IsPromoted (promoted_type t)
  promotes t k = ((usual.suit t (Integer (record { signed = true; bytes = 2 })) k (inr (inl refl))).shifted tt).left

  unary_number : (op : UnOp) (t : Arithmetic) (mode : Mode) (node : PlainNode) → IsGood p table f (expression (type_of t) mode node)
      → IsKnownType t → IsSomeAnd (arithmetic_of (type_of (promoted_type t))) (HaveUnaryTypes op)
      → IsOptional p table f (valued (made m (type_of (promoted_type t))
      (unary op (converted m (type_of (promoted_type t)) (expression (type_of t) mode node)))))
  unary_number op t mode node g k h =
      let n = promoted_number t mode node g k in
      let e = converted m (type_of (promoted_type t)) (expression (type_of t) mode node) in
      valued_good p table f (made m (type_of (promoted_type t)) (unary op e))
      (record {
        valid = (expr_type p (promoted_type t) n.known, (n.ty, h), n.valid);
        usable = known_usable p.structs (promoted_type t) n.known;
      })

  unary_valid : (op : UnOp) (e : PlainExpr) → (is_struct (type_of_expr e) ≡ false → IsGood p table f e)
      → IsOptional p table f (unary_operation m op e)
  unary_valid unary_operators.Minus (expression (integer s b) mode node) h =
      let t : Arithmetic = Integer (record { signed = s; bytes = b }) in
      unary_number unary_operators.Minus t mode node (h refl) (h refl).usable (promotes t (h refl).usable)
  unary_valid unary_operators.Minus (expression (fixed k s) mode node) h =
      unary_number unary_operators.Minus (Fixed (record { kind = k; sat = s })) mode node (h refl) tt tt
  unary_valid unary_operators.Invert (expression (integer s b) mode node) h =
      let t : Arithmetic = Integer (record { signed = s; bytes = b }) in
      unary_number unary_operators.Invert t mode node (h refl) (h refl).usable (tt, promotes t (h refl).usable)
  unary_valid unary_operators.Invert (expression (fixed k s) mode node) h = tt
  unary_valid op (expression void mode node) h = tt
  unary_valid op (expression (pointer s k t) mode node) h = tt
  unary_valid op (expression (array of len) mode node) h = tt
  unary_valid op (expression (struct index) mode node) h = tt

  int_good : (node : PlainNode) → ValidExpr p table f (made m int node) → IsGood p table f (made m int node)
  int_good node v = record { valid = v; usable = inr (inl refl) }

  negated_valid : (c : Option PlainExpr) → IsCondition p table f c → IsOptional p table f (negated m c)
  negated_valid None h = tt
  negated_valid (Some e) h =
      valued_good p table f (made m int (logical_not e)) (int_good (logical_not e) (inr (inl refl), (h.1, refl), h.0))

  pub prefixed_valid : (op : PrefixOp) (x : Operand) → IsOperand p table f x → IsOptional p table f (prefixed m op x)
  prefixed_valid Address x v = address_valid x v
  prefixed_valid Deref x v = pointed_to x v
  prefixed_valid Plus x v = plus_valid (as_value m x) (good_value p table f m x v)
  prefixed_valid Minus x v = unary_valid unary_operators.Minus (as_value m x) (good_value p table f m x v)
  prefixed_valid Invert x v = unary_valid unary_operators.Invert (as_value m x) (good_value p table f m x v)
  prefixed_valid Not x v = negated_valid (condition m (Some x)) (condition_valid p table f m (Some x) v)

  -- ---- assignments and steps

  scalar_place : (ty : PlainType) → IsPlaceType p.structs ty → is_aggregate ty ≡ false → IsScalar ty
  scalar_place void h a = h.object.form
  scalar_place (integer s b) h a = h.usable
  scalar_place (fixed k s) h a = tt
  scalar_place (pointer s k t) h a = tt
  scalar_place (array of len) h a = absurd (true≢false a)
  scalar_place (struct index) h a = absurd (true≢false a)

  -- a node that writes a scalar place
  written : (ty : PlainType) (node : PlainNode) → IsScalar ty → IsUsable p.structs ty
      → (IsExprType p ty → ValidExpr p table f (made m ty node)) → IsOptional p table f (valued (made m ty node))
  written ty node s u h =
      valued_good p table f (made m ty node) (record { valid = h (expr_type_of p ty s u); usable = u })

  stored : (ty : PlainType) (const : Bool) (space : SpaceId) (register : Bool) (q : PlainPlace)
      → IsPlace p table f ty const space register q → IsScalar ty → (e : Option PlainExpr) → IsOfType p table f ty e
      → IsOptional p table f (with_one e (λ e. valued (made m ty (assign q e))))
  stored ty const space register q v s None h = tt
  stored ty const space register q v s (Some e) h =
      written ty (assign q e) s v.kind.usable (λ t. (t, ((s, v.typed), h.1), (v.parts, h.0)))

  pub assigned_valid : (x y : Operand) → IsOperand p table f x → IsOperand p table f y → IsOptional p table f (assigned m x y)
  assigned_valid (value e zero) y v w = tt
  assigned_valid (place ty const space register q) y v w =
      if_both (IsOptional p table f) (const || is_aggregate ty) None
      (with_one (brought m ty y) (λ e. valued (made m ty (assign q e)))) (λ z. tt)
      (λ z. let s = scalar_place ty v.kind (or_parts const (is_aggregate ty) z).1 in
      stored ty const space register q v s (brought m ty y) (brought_valid told p table f m ty y w s v.kind.usable))

  pub stepped_valid : (up prefix : Bool) (x : Operand) → IsOperand p table f x → IsOptional p table f (stepped m up prefix x)
  stepped_valid up prefix (value e zero) v = tt
  stepped_valid up prefix (place ty const space register q) v =
      if_both (IsOptional p table f) (is_scalar ty && not const) (valued (made m ty (step up prefix q))) None
      (λ z. let s = scalar_kind p.structs ty ((scalars ty).0 (and_parts (is_scalar ty) (not const) z).0) v.kind.usable in
      written ty (step up prefix q) s v.kind.usable (λ t. (t, (s, v.typed), v.parts))) (λ z. tt)

  -- ---- compound assignments

  compound_numbers : (op : BinOp) (a b : PlainType) → IsArithmetic a → IsArithmetic b
      → ((s t : Arithmetic) → type_of s ≡ a → type_of t ≡ b → HaveCompoundArithmetic op s t) → HaveCompoundTypes op a b
  compound_numbers op (integer s c) (integer t d) h k g =
      g (Integer (record { signed = s; bytes = c })) (Integer (record { signed = t; bytes = d })) refl refl
  compound_numbers op (integer s c) (fixed t d) h k g =
      g (Integer (record { signed = s; bytes = c })) (Fixed (record { kind = t; sat = d })) refl refl
  compound_numbers op (fixed s c) (integer t d) h k g =
      g (Fixed (record { kind = s; sat = c })) (Integer (record { signed = t; bytes = d })) refl refl
  compound_numbers op (fixed s c) (fixed t d) h k g =
      g (Fixed (record { kind = s; sat = c })) (Fixed (record { kind = t; sat = d })) refl refl
  compound_numbers op void b h k g = absurd h
  compound_numbers op (pointer s c t) b h k g = absurd h
  compound_numbers op (array of len) b h k g = absurd h
  compound_numbers op (struct index) b h k g = absurd h
  compound_numbers op (integer s c) void h k g = absurd k
  compound_numbers op (integer s c) (pointer r d t) h k g = absurd k
  compound_numbers op (integer s c) (array of len) h k g = absurd k
  compound_numbers op (integer s c) (struct index) h k g = absurd k
  compound_numbers op (fixed s c) void h k g = absurd k
  compound_numbers op (fixed s c) (pointer r d t) h k g = absurd k
  compound_numbers op (fixed s c) (array of len) h k g = absurd k
  compound_numbers op (fixed s c) (struct index) h k g = absurd k

  pointer_moved : (op : BinOp) (a b : PlainType) → IsPointer a → HaveOffsetTypes op b → HaveCompoundTypes op a b
  pointer_moved op (pointer s k t) b h g = g
  pointer_moved op void b h g = absurd h
  pointer_moved op (integer s c) b h g = absurd h
  pointer_moved op (fixed s c) b h g = absurd h
  pointer_moved op (array of len) b h g = absurd h
  pointer_moved op (struct index) b h g = absurd h

  integer_type : (b : PlainType) → IsInteger b → IsIntegerType b
  integer_type (integer s c) h = tt
  integer_type void h = absurd h
  integer_type (fixed s c) h = absurd h
  integer_type (pointer s k t) h = absurd h
  integer_type (array of len) h = absurd h
  integer_type (struct index) h = absurd h

  whole_kind : (b : PlainType) (t : Arithmetic) → IsInteger b → type_of t ≡ b → IsIntegerKind t
  whole_kind b t h e = integer_kind t (subst IsInteger (sym e) h)

  one_byte : (b : PlainType) (t : Arithmetic) → HasOneByte b → type_of t ≡ b → IsOneByteType t
  one_byte b (Integer t) h e = subst HasOneByte (sym e) h
  one_byte b (Fixed t) h e = subst HasOneByte (sym e) h

  integer_number : (b : PlainType) → IsInteger b → IsArithmetic b
  integer_number (integer s c) h = tt
  integer_number void h = h
  integer_number (fixed s c) h = tt
  integer_number (pointer s k t) h = h
  integer_number (array of len) h = h
  integer_number (struct index) h = h

  byte_number : (b : PlainType) → HasOneByte b → IsArithmetic b
  byte_number (integer s c) h = tt
  byte_number (fixed s c) h = tt
  byte_number void h = h
  byte_number (pointer s k t) h = h
  byte_number (array of len) h = h
  byte_number (struct index) h = h

  compound_types : (op : BinOp) (a b : PlainType) → is_comparison op ≡ false → (IsPointer b → ⊥) → Suit op a b → HaveCompoundTypes op a b
  compound_types Add a b c bar h = sum h.2
    where
      sum : (IsArithmetic a × IsArithmetic b) ⊎ ((IsPointer a × IsInteger b) ⊎ (IsInteger a × IsPointer b)) → HaveCompoundTypes Add a b
      sum (inl (i, j)) = compound_numbers Add a b i j (λ s t d e. tt)
      sum (inr (inl (i, j))) = pointer_moved Add a b i (integer_type b j)
      sum (inr (inr (i, j))) = absurd (bar j)
  compound_types Sub a b c bar h = difference h.2
    where
      difference : (IsArithmetic a × IsArithmetic b) ⊎ ((IsPointer a × IsInteger b) ⊎ PointToOneType a b) → HaveCompoundTypes Sub a b
      difference (inl (i, j)) = compound_numbers Sub a b i j (λ s t d e. tt)
      difference (inr (inl (i, j))) = pointer_moved Sub a b i (integer_type b j)
      difference (inr (inr e)) = absurd (bar (two_pointers a b e).1)
  compound_types Mul a b c bar h =
      compound_numbers Mul a b (byte_number a h.0) (byte_number b h.1) (λ s t d e. (one_byte a s h.0 d, one_byte b t h.1 e))
  compound_types Div a b c bar h = compound_numbers Div a b h.0 h.1 (λ s t d e. tt)
  compound_types Rem a b c bar h =
      compound_numbers Rem a b (integer_number a h.0) (integer_number b h.1) (λ s t d e. (whole_kind a s h.0 d, whole_kind b t h.1 e))
  compound_types Shl a b c bar h = compound_numbers Shl a b h.0 (integer_number b h.1) (λ s t d e. whole_kind b t h.1 e)
  compound_types Shr a b c bar h = compound_numbers Shr a b h.0 (integer_number b h.1) (λ s t d e. whole_kind b t h.1 e)
  compound_types And a b c bar h =
      compound_numbers And a b (integer_number a h.0) (integer_number b h.1) (λ s t d e. (whole_kind a s h.0 d, whole_kind b t h.1 e))
  compound_types Or a b c bar h =
      compound_numbers Or a b (integer_number a h.0) (integer_number b h.1) (λ s t d e. (whole_kind a s h.0 d, whole_kind b t h.1 e))
  compound_types Xor a b c bar h =
      compound_numbers Xor a b (integer_number a h.0) (integer_number b h.1) (λ s t d e. (whole_kind a s h.0 d, whole_kind b t h.1 e))
  compound_types Lt a b c bar h = absurd (true≢false c)
  compound_types Gt a b c bar h = absurd (true≢false c)
  compound_types Le a b c bar h = absurd (true≢false c)
  compound_types Ge a b c bar h = absurd (true≢false c)
  compound_types Eq a b c bar h = absurd (true≢false c)
  compound_types Ne a b c bar h = absurd (true≢false c)

  -- the right operand of an operator that it suits is no struct
  right_no_struct : (op : BinOp) (a b : PlainType) → is_comparison op ≡ false → Suit op a b → is_struct b ≡ false
  right_no_struct op a void c h = refl
  right_no_struct op a (integer s d) c h = refl
  right_no_struct op a (fixed s d) c h = refl
  right_no_struct op a (pointer s k t) c h = refl
  right_no_struct op a (array of len) c h = refl
  right_no_struct Add a (struct index) c h = absurd (none h.1)
    where
      none : ⊥ ⊎ ⊥ → ⊥
      none (inl k) = k
      none (inr k) = k
  right_no_struct Sub a (struct index) c h = absurd (none h.1)
    where
      none : ⊥ ⊎ ⊥ → ⊥
      none (inl k) = k
      none (inr k) = k
  right_no_struct Mul a (struct index) c h = absurd h.1
  right_no_struct Div a (struct index) c h = absurd h.1
  right_no_struct Rem a (struct index) c h = absurd h.1
  right_no_struct Shl a (struct index) c h = absurd h.1
  right_no_struct Shr a (struct index) c h = absurd h.1
  right_no_struct And a (struct index) c h = absurd h.1
  right_no_struct Or a (struct index) c h = absurd h.1
  right_no_struct Xor a (struct index) c h = absurd h.1
  right_no_struct Lt a (struct index) c h = absurd (true≢false c)
  right_no_struct Gt a (struct index) c h = absurd (true≢false c)
  right_no_struct Le a (struct index) c h = absurd (true≢false c)
  right_no_struct Ge a (struct index) c h = absurd (true≢false c)
  right_no_struct Eq a (struct index) c h = absurd (true≢false c)
  right_no_struct Ne a (struct index) c h = absurd (true≢false c)

  -- the parts of what breaks no rule of a compound assignment
  record Changes (op : BinOp) (ty : PlainType) (const : Bool) (b : PlainType) : Type 0 where
    whole : is_aggregate ty ≡ false
    added : is_pointer b ≡ false
    suit : suits op ty b ≡ true

  changes : (op : BinOp) (ty : PlainType) (const : Bool) (b : PlainType)
      → (const || is_aggregate ty || is_pointer b || not (suits op ty b)) ≡ false → Changes op ty const b
  changes op ty const b e =
      let h = or_parts (const || is_aggregate ty || is_pointer b) (not (suits op ty b)) e in
      let k = or_parts (const || is_aggregate ty) (is_pointer b) h.0 in
      record { whole = (or_parts const (is_aggregate ty) k.0).1; added = k.1; suit = not-false (suits op ty b) h.1 }

  changed : (op : BinOp) (ty : PlainType) (const : Bool) (space : SpaceId) (register : Bool) (q : PlainPlace) (y : Operand)
      → is_comparison op ≡ false → IsPlace p table f ty const space register q → IsOperand p table f y
      → Changes op ty const (value_type y)
      → IsOptional p table f (valued (made m ty
      (compound op (operation_mode m op (arithmetic_of ty) (arithmetic_of (value_type y))) q (as_value m y))))
  changed op ty const space register q y c v w h =
      let s = scalar_place ty v.kind h.whole in
      let suit = (suiting told op ty (value_type y)).0 h.suit in
      let types =
      compound_types op ty (value_type y) c (λ i. both_ways (is_pointer (value_type y)) h.added ((pointers (value_type y)).1 i)) suit in
      let typed : HaveCompoundTypes op ty (type_of_expr (as_value m y)) =
      subst (λ (z : PlainType). HaveCompoundTypes op ty z) (sym (value_types_agree m y)) types in
      let plain : is_struct (type_of_expr (as_value m y)) ≡ false =
      subst (λ (z : PlainType). is_struct z ≡ false) (sym (value_types_agree m y)) (right_no_struct op ty (value_type y) c suit) in
      written ty (compound op (operation_mode m op (arithmetic_of ty) (arithmetic_of (value_type y))) q (as_value m y)) s v.kind.usable
      (λ t. (t, ((s, v.typed), typed), (v.parts, (good_value p table f m y w plain).valid)))

  pub compounded_valid : (op : BinOp) (x y : Operand) → is_comparison op ≡ false → IsOperand p table f x → IsOperand p table f y
      → IsOptional p table f (compounded m op x y)
  compounded_valid op (value e zero) y c v w = tt
  compounded_valid op (place ty const space register q) y c v w =
      if_both (IsOptional p table f) (const || is_aggregate ty || is_pointer (value_type y) || not (suits op ty (value_type y))) None
      (valued (made m ty (compound op (operation_mode m op (arithmetic_of ty) (arithmetic_of (value_type y))) q (as_value m y))))
      (λ z. tt) (λ z. changed op ty const space register q y c v w (changes op ty const (value_type y) z))

  -- ---- subscripts

  subscript : (a i : PlainExpr) → IsInteger (type_of_expr i) → (is_struct (type_of_expr a) ≡ false → IsGood p table f a)
      → IsGood p table f i → IsOptional p table f (pointed (made m (type_of_expr a) (binary Add a i)))
  subscript (expression (pointer s k t) m1 n1) (expression (integer b c) m2 n2) h g i =
      let a = g refl in
      pointed_valid p table f (made m (pointer s k t) (binary Add (expression (pointer s k t) m1 n1) (expression (integer b c) m2 n2)))
      (λ z. record { valid = ((a.usable.0, a.usable.1), (tt, refl), (a.valid, i.valid)); usable = a.usable })
  subscript (expression void m1 n1) i h g j = tt
  subscript (expression (integer s c) m1 n1) i h g j = tt
  subscript (expression (fixed s c) m1 n1) i h g j = tt
  subscript (expression (array of len) m1 n1) i h g j = tt
  subscript (expression (struct index) m1 n1) i h g j = tt
  subscript (expression (pointer s k t) m1 n1) (expression void m2 n2) h g j = absurd h
  subscript (expression (pointer s k t) m1 n1) (expression (fixed b c) m2 n2) h g j = absurd h
  subscript (expression (pointer s k t) m1 n1) (expression (pointer r c u) m2 n2) h g j = absurd h
  subscript (expression (pointer s k t) m1 n1) (expression (array of len) m2 n2) h g j = absurd h
  subscript (expression (pointer s k t) m1 n1) (expression (struct index) m2 n2) h g j = absurd h

  integer_no_struct : (ty : PlainType) → IsInteger ty → is_struct ty ≡ false
  integer_no_struct (integer s c) h = refl
  integer_no_struct void h = refl
  integer_no_struct (fixed s c) h = refl
  integer_no_struct (pointer s k t) h = refl
  integer_no_struct (array of len) h = refl
  integer_no_struct (struct index) h = absurd h

  pub indexed_valid : (a i : Operand) → IsOperand p table f a → IsOperand p table f i → IsOptional p table f (indexed m a i)
  indexed_valid a i v w =
      if_both (IsOptional p table f) (is_integer (value_type i))
      (pointed (made m (type_of_expr (as_value m a)) (binary Add (as_value m a) (as_value m i)))) None
      (λ z. let here : IsInteger (type_of_expr (as_value m i)) =
      subst IsInteger (sym (value_types_agree m i)) ((integers (value_type i)).0 z) in
      subscript (as_value m a) (as_value m i) here (good_value p table f m a v)
      (good_value p table f m i w (integer_no_struct (type_of_expr (as_value m i)) here))) (λ z. tt)

  -- ---- members

  part_valid : (part : PlainType) (k index : ℕ) (const : Bool) (space : SpaceId) (register : Bool) (q : PlainPlace) → HaveMembers p.structs
      → type_of_member p.structs (struct index) k ≡ Some part → IsPlace p table f (struct index) const space register q
      → IsPlace p table f part const space register (member q k)
  part_valid part k index const space register q members e v = record {
    kind = members index k part e;
    typed = ap (option_and_then (λ ty. type_of_member p.structs ty k)) v.typed ∙ e;
    spaced = v.spaced;
    constness = v.constness;
    parts = v.parts;
    addressed = addressed v.addressed;
  }
    where
      addressed : HasAddress p q ⊎ ((register ≡ true) × ⊥) → HasAddress p q ⊎ ((register ≡ true) × IsArithmetic part)
      addressed (inl h) = inl h
      addressed (inr h) = absurd h.1

  -- the member of a place of struct type
  member_valid : (name : List ℕ) (index : ℕ) (const : Bool) (space : SpaceId) (register : Bool) (q : PlainPlace) → HaveMembers p.structs
      → IsPlace p table f (struct index) const space register q
      → IsOptional p table f (with_one (member_number p.structs name index) (λ k.
      with_one (type_of_member p.structs (struct index) k) (λ part. part_of part k (place (struct index) const space register q))))
  member_valid name index const space register q members v =
      with_one_valid p table f (member_number p.structs name index) (λ k.
      with_one (type_of_member p.structs (struct index) k) (λ part. part_of part k (place (struct index) const space register q)))
      (λ k e. with_one_valid p table f (type_of_member p.structs (struct index) k)
      (λ part. part_of part k (place (struct index) const space register q))
      (λ part d. part_valid part k index const space register q members d v))

  -- a value has no members
  no_part : (name : List ℕ) (base : Option ℕ) (e : PlainExpr) (zero : Bool)
      → IsOptional p table f (with_one base (λ index. with_one (member_number p.structs name index) (λ k.
      with_one (type_of_member p.structs (struct index) k) (λ part. part_of part k (value e zero)))))
  no_part name base e zero =
      with_one_valid p table f base (λ index. with_one (member_number p.structs name index) (λ k.
      with_one (type_of_member p.structs (struct index) k) (λ part. part_of part k (value e zero))))
      (λ index d. with_one_valid p table f (member_number p.structs name index)
      (λ k. with_one (type_of_member p.structs (struct index) k) (λ part. part_of part k (value e zero)))
      (λ k c. with_one_valid p table f (type_of_member p.structs (struct index) k) (λ part. part_of part k (value e zero)) (λ part b. tt)))

  -- what `->` reaches
  reached_valid : (name : List ℕ) (e : PlainExpr) → HaveMembers p.structs → (is_struct (type_of_expr e) ≡ false → IsGood p table f e)
      → IsOptional p table f (with_one (base_of true (type_of_expr e)) (λ index. with_one (member_number p.structs name index) (λ k.
      with_one (type_of_member p.structs (struct index) k) (λ part. with_one (pointed e) (part_of part k)))))
  reached_valid name (expression (pointer s k (struct index)) mode node) members h =
      member_valid name index k s false (deref (expression (pointer s k (struct index)) mode node)) members
      (pointed_valid p table f (expression (pointer s k (struct index)) mode node) h)
  reached_valid name (expression (pointer s k void) mode node) members h = tt
  reached_valid name (expression (pointer s k (integer b c)) mode node) members h = tt
  reached_valid name (expression (pointer s k (fixed b c)) mode node) members h = tt
  reached_valid name (expression (pointer s k (pointer r c t)) mode node) members h = tt
  reached_valid name (expression (pointer s k (array of len)) mode node) members h = tt
  reached_valid name (expression void mode node) members h = tt
  reached_valid name (expression (integer b c) mode node) members h = tt
  reached_valid name (expression (fixed b c) mode node) members h = tt
  reached_valid name (expression (array of len) mode node) members h = tt
  reached_valid name (expression (struct index) mode node) members h = tt

  pub member_of_valid : (name : List ℕ) (arrow : Bool) (x : Operand) → HaveMembers p.structs → IsOperand p table f x
      → IsOptional p table f (member_of m p.structs name arrow x)
  member_of_valid name true x members v =
      subst
      (λ (ty : PlainType). IsOptional p table f (with_one (base_of true ty) (λ index. with_one (member_number p.structs name index) (λ k.
      with_one (type_of_member p.structs (struct index) k) (λ part. with_one (pointed (as_value m x)) (part_of part k))))))
      (value_types_agree m x) (reached_valid name (as_value m x) members (good_value p table f m x v))
  member_of_valid name false (place (struct index) const space register q) members v =
      member_valid name index const space register q members v
  member_of_valid name false (place void const space register q) members v = tt
  member_of_valid name false (place (integer b c) const space register q) members v = tt
  member_of_valid name false (place (fixed b c) const space register q) members v = tt
  member_of_valid name false (place (pointer s k t) const space register q) members v = tt
  member_of_valid name false (place (array of len) const space register q) members v = tt
  member_of_valid name false (value e zero) members v = no_part name (struct_of (type_of_expr e)) e zero

  -- ---- `&&`, `||`, the comma and casts

  pub logical_valid : (both : Bool) (x y : Option PlainExpr) → IsCondition p table f x → IsCondition p table f y
      → IsOptional p table f (logical m both x y)
  logical_valid true None y h k = tt
  logical_valid false None y h k = tt
  logical_valid true (Some a) None h k = tt
  logical_valid false (Some a) None h k = tt
  logical_valid true (Some a) (Some b) h k =
      valued_good p table f (made m int (logical_and a b)) (int_good (logical_and a b) (inr (inl refl), (h.1, k.1, refl), (h.0, k.0)))
  logical_valid false (Some a) (Some b) h k =
      valued_good p table f (made m int (logical_or a b)) (int_good (logical_or a b) (inr (inl refl), (h.1, k.1, refl), (h.0, k.0)))

  -- a value that is neither void nor a struct is scalar
  scalar_left : (e : PlainExpr) → is_void (type_of_expr e) ≡ false → (is_struct (type_of_expr e) ≡ false → IsGood p table f e)
      → is_struct (type_of_expr e) ≡ false → IsScalarValue p table f e
  scalar_left (expression void mode node) n h s = absurd (true≢false n)
  scalar_left (expression (integer b c) mode node) n h s = record { good = h refl; scalar = (h refl).usable }
  scalar_left (expression (fixed b c) mode node) n h s = record { good = h refl; scalar = tt }
  scalar_left (expression (pointer r k t) mode node) n h s = record { good = h refl; scalar = tt }
  scalar_left (expression (array of len) mode node) n h s = absurd (h refl).valid.0
  scalar_left (expression (struct index) mode node) n h s = absurd (true≢false s)

  taken_valid : (x : Option Operand) (g : Operand → Option Operand) → IsOptional p table f x
      → ((a : Operand) → IsScalarValue p table f (as_value m a) → IsOptional p table f (g a))
      → IsOptional p table f (with_one (used_part (used x)) g)
  taken_valid None g v h = tt
  taken_valid (Some x) g v h =
      if_both (λ o. IsOptional p table f (with_one (used_part o) g)) (is_void (value_type x)) None (Some x) (λ z. tt)
      (λ z. if_both (λ o. IsOptional p table f (with_one o g)) (is_struct (value_type x)) None (Some x) (λ n. tt)
      (λ n. let same = sym (value_types_agree m x) in
      h x (scalar_left (as_value m x) (subst (λ (t : PlainType). is_void t ≡ false) same z) (good_value p table f m x v)
      (subst (λ (t : PlainType). is_struct t ≡ false) same n))))

  sequence_of : (a b : Operand) → IsScalarValue p table f (as_value m a) → IsScalarValue p table f (as_value m b)
      → IsOptional p table f (sequence m a b)
  sequence_of a b x y =
      valued_good p table f (made m (type_of_expr (as_value m b)) (comma (as_value m a) (as_value m b)))
      (record {
        valid = (
          expr_type_of p (type_of_expr (as_value m b)) y.scalar y.good.usable,
          (x.scalar, y.scalar, refl),
          (x.good.valid, y.good.valid),
        );
        usable = y.good.usable;
      })

  pub sequence_valid : (x y : Option Operand) → IsOptional p table f x → IsOptional p table f y
      → IsOptional p table f (with_both (used_part (used x)) (used_part (used y)) (sequence m))
  sequence_valid x y v w =
      taken_valid x (λ a. with_one (used_part (used y)) (λ b. sequence m a b)) v
      (λ a s. taken_valid y (λ b. sequence m a b) w (λ b t. sequence_of a b s t))

  pub cast_valid : (to : PlainType) (x : Operand) → IsUsable p.structs to → IsOperand p table f x → IsOptional p table f (cast m to x)
  cast_valid to x u v =
      if_both (IsOptional p table f) (castable (value_type x) (is_null x) to) (valued (in_type m to x)) None
      (λ z. let c = (casting told x to).0 z in
      let e = in_type_valid told p table f m to x v (scalar_kind p.structs to (cast_scalar x to c) u) u (cast_reaches m x to c) in
      valued_good p table f (in_type m to x)
      (record { valid = e.0; usable = subst (λ (t : PlainType). IsUsable p.structs t) (sym e.1) u })) (λ z. tt)
