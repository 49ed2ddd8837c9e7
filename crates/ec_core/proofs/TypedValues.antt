-- Operators on values of types give values of types.
use Rattle.std.proofs.Common.{◌≡◌, ℕ, suc, ◌/◌, ◌≤◌, Bool, true, false, not, ◌&&◌, ℤ, pos, negsuc, ◌+ℤ◌, ◌-ℤ◌, unsigned_abs, Option, Some}
use Rattle.std.proofs.Common.{None, Result, Ok, Err, refl, sym, ap, ◌∙◌, subst, inl, inr, arith}
use Rattle.std.specs.Prelude.{⊤, IsTrue, IsSomeAnd, if◌then◌else◌, int_le, int_div, int_rem, unwrap_or, option_map, option_and_then}
use Rattle.std.specs.Prelude.{slice_get}
use Rattle.std.specs.Ordering.{int_eq, nat_cmp}
use Rattle.std.proofs.lemmas.Int.{ints}
use Rattle.std.proofs.Math.Nat.{div-le_self}
use Rattle.ec_fx.specs.declared.numbers.Mode.{Mode}
use Rattle.ec_space.specs.declared.space.SpaceId.{SpaceId}
use Rattle.ec_space.specs.Spaces.{holds}
use Rattle.ec_core.specs.declared.arithmetic_types.Arithmetic.{Arithmetic}
use Rattle.ec_core.specs.declared.arithmetic_types.Arithmetic.TheVariants.{Integer, Fixed}
use Rattle.ec_core.specs.declared.expressions.BinOp.{BinOp}
use Rattle.ec_core.specs.declared.expressions.BinOp.TheVariants.{Add, Sub, Mul, Div, Rem, Shl, Shr, And, Or, Xor, Lt, Gt, Le, Ge, Eq, Ne}
use Rattle.ec_core.specs.declared.expressions.UnOp.{UnOp}
use Rattle.ec_core.specs.declared.values.ObjectPointer.{ObjectPointer}
use Rattle.ec_core.specs.declared.values.Referent.{Referent}
use Rattle.ec_core.specs.declared.values.Undefined.{Undefined}
use Rattle.ec_core.specs.declared.values.Undefined.TheVariants.{Unrelated, PointerRange, Narrowing}
use Rattle.ec_core.specs.declared.values.Value.{Value}
use Rattle.ec_core.specs.declared.values.Value.TheVariants.{Number, Pointer}
use Rattle.ec_core.specs.Accesses.{referent_of, is_live_in, nothing_known, operand_of}
use Rattle.ec_core.specs.ArithmeticTypes.{arithmetic_of}
use Rattle.ec_core.specs.ArithmeticValues.{HoldsNumber, operand, arithmetic_value, unary_value, conversion_value, is_comparison}
use Rattle.ec_core.specs.ArithmeticValues.{IsKnownType}
use Rattle.ec_core.specs.Integers.{truth, accepts, compared}
use Rattle.ec_core.specs.Layout.{IsScalar, size_of_type}
use Rattle.ec_core.specs.Operators.{number_type, Operand, as_number, as_pointer, unary_result, pointers_result, offset_result}
use Rattle.ec_core.specs.Operators.{binary_result, conversion_result, compound_value, compound_result}
use Rattle.ec_core.specs.Plain.{PlainType, void, integer, fixed, pointer, array, struct, PlainObject, PlainProgram}
use Rattle.ec_core.specs.Pointers.{Pointer as PointerValue, is_usable, used, displaced, moved, same_instance, in_elements, elements_between}
use Rattle.ec_core.specs.Pointers.{difference_of_pointers, ordered, equality, as_truth, compared_pointers, comparison_of_pointers}
use Rattle.ec_core.specs.Pointers.{pointer_in_space}
use Rattle.ec_core.specs.State.{ObjectState, State}
use Rattle.ec_core.specs.Typing.{int, IsIntegerType, HaveArithmeticTypes, HavePointerTypes, HaveOffsetTypes, IsAdd, HaveBinaryTypes}
use Rattle.ec_core.specs.Typing.{HaveUnaryTypes, AreConvertible}
use Rattle.ec_core.specs.ValueTypes.{IsPointerInto, HasType}
use Rattle.ec_core.proofs.Points.{IsPoint, HasPoint, arithmetic_point, unary_point, conversion_point, compound_point, equality_point}
use Rattle.ec_core.proofs.HeldNumbers.{Held, int_type, truth_number, arithmetic_held, unary_held, conversion_held, compound_held}

-- ---- facts with a value

-- a fact about a result, or one of the fourteen points
abbrev pub OnValue : {A : Type 0} → (A → Type 0) → Result A Undefined → Type 0
OnValue P (Ok x) = P x
OnValue P (Err point) = IsPoint point

pub some_and : {A : Type 0} (o : Option A) (P : A → Type 0) → IsSomeAnd o P → (x : A) × (o ≡ Some x) × P x
some_and None P h = absurd h
some_and (Some x) P h = (x, refl, h)

pub if_value : {A : Type 0} (P : A → Type 0) (b : Bool) (p q : Result A Undefined) → OnValue P p → OnValue P q
    → OnValue P (if b then p else q)
if_value P true p q h k = h
if_value P false p q h k = k

module _ (program : PlainProgram) where
  -- ---- numbers

  -- a value of an arithmetic type is a number
  pub record IsNumberOf (t : Arithmetic) (v : Value) : Type 0 where
    pub n : ℤ
    pub is : v ≡ Number n
    pub held : HoldsNumber t n

  pub number_of_type : (ty : PlainType) (t : Arithmetic) (v : Value) → arithmetic_of ty ≡ Some t → HasType program ty v → IsNumberOf t v
  number_of_type void t (Number n) e h = cc
  number_of_type void t (Pointer p) e h = cc
  number_of_type (integer s b) t (Number n) e h =
      let f : Integer (record { signed = s; bytes = b }) ≡ t = cc in
      record { n = n; is = refl; held = subst (λ (z : Arithmetic). HoldsNumber z n) f h }
  number_of_type (integer s b) t (Pointer p) e h = absurd h
  number_of_type (fixed c s) t (Number n) e h =
      let f : Fixed (record { kind = c; sat = s }) ≡ t = cc in
      record { n = n; is = refl; held = subst (λ (z : Arithmetic). HoldsNumber z n) f h }
  number_of_type (fixed c s) t (Pointer p) e h = absurd h
  number_of_type (pointer s c u) t (Number n) e h = cc
  number_of_type (pointer s c u) t (Pointer p) e h = cc
  number_of_type (array u m) t (Number n) e h = cc
  number_of_type (array u m) t (Pointer p) e h = cc
  number_of_type (struct i) t (Number n) e h = cc
  number_of_type (struct i) t (Pointer p) e h = cc

  -- a number that an arithmetic type holds is a value of the type
  pub type_of_number : (ty : PlainType) (t : Arithmetic) (n : ℤ) → arithmetic_of ty ≡ Some t → HoldsNumber t n
      → HasType program ty (Number n)
  type_of_number void t n e h = cc
  type_of_number (integer s b) t n e h =
      let f : t ≡ Integer (record { signed = s; bytes = b }) = cc in
      subst (λ (z : Arithmetic). HoldsNumber z n) f h
  type_of_number (fixed c s) t n e h =
      let f : t ≡ Fixed (record { kind = c; sat = s }) = cc in
      subst (λ (z : Arithmetic). HoldsNumber z n) f h
  type_of_number (pointer s c u) t n e h = cc
  type_of_number (array u m) t n e h = cc
  type_of_number (struct i) t n e h = cc

  pub known_number : (t : Arithmetic) (n : ℤ) → HoldsNumber t n → IsKnownType t
  known_number (Integer t) n h = h.0
  known_number (Fixed t) n h = tt

  pub number_type_is : (ty : PlainType) (t : Arithmetic) → arithmetic_of ty ≡ Some t → number_type ty ≡ t
  number_type_is ty t e = ap (λ o. unwrap_or o (Integer (record { signed = true; bytes = 2 }))) e

  -- a result of an arithmetic type
  pub typed_result : (ty : PlainType) (t : Arithmetic) (r : Result ℤ Undefined) → arithmetic_of ty ≡ Some t → Held t r → HasPoint r
      → OnValue (HasType program ty) (as_number r)
  typed_result ty t (Ok n) e h p = type_of_number ty t n e h
  typed_result ty t (Err point) e h p = p

  pub int_value : (b : Bool) → HasType program int (Number (truth b))
  int_value b = truth_number b

  -- ---- pointers

  used_value : {A : Type 0} (P : A → Type 0) (b : Bool) (r : Result A Undefined) → OnValue P r → OnValue P (used b r)
  used_value P true r h = h
  used_value P false r h = tt

  below : (z : ℤ) (m n : ℕ) → (int_le (pos 0) z && int_le z (pos m)) ≡ true → m ≡ n → unsigned_abs z ≤ n
  below z m n f l = grind (arith, ints)

  displaced_value : (space : SpaceId) (p : ObjectPointer) (d : PlainObject) (size : ℕ) (at : ℤ)
      → slice_get program.objects p.object ≡ Some d → IsTrue (holds space d.home) → size ≡ size_of_type program.structs d.ty
      → OnValue (IsPointerInto program space) (displaced p size at)
  displaced_value space p d size at e h l = by_range (int_le (pos 0) at && int_le at (pos size)) refl
    where
      by_range : (b : Bool) → (int_le (pos 0) at && int_le at (pos size)) ≡ b → OnValue (IsPointerInto program space) (if b
          then Ok (Some (record { object = p.object; instance = p.instance; offset = unsigned_abs at })) else Err PointerRange)
      by_range false f = tt
      by_range true f =
          let low : unsigned_abs at ≤ size_of_type program.structs d.ty = below at size (size_of_type program.structs d.ty) f l in
          subst (λ (o : Option PlainObject).
          IsSomeAnd o (λ x. IsTrue (holds space x.home) × (unsigned_abs at ≤ size_of_type program.structs x.ty))) (sym e) (h, low)

  -- what is known of a pointer's instance, where it is live, is what its object's declaration says
  record IsKnown (p : ObjectPointer) (d : PlainObject) (of : Referent) : Type 0 where
    size : of.live ≡ true → of.size ≡ size_of_type program.structs d.ty
    home : of.live ≡ true → of.home ≡ d.home

  known_of : (p : ObjectPointer) (d : PlainObject) (s : State) → slice_get program.objects p.object ≡ Some d
      → IsKnown p d (referent_of program (Some p) s)
  known_of p d s e = subst (λ (o : Option PlainObject). IsKnown p d (unwrap_or (option_and_then (λ x. option_map (λ y. record {
    live = is_live_in p y;
    size = size_of_type program.structs x.ty;
    home = x.home;
  }) (slice_get s.objects p.object)) o) nothing_known)) (sym e) (with_state (slice_get s.objects p.object))
    where
      with_state : (o : Option ObjectState) → IsKnown p d (unwrap_or
          (option_map (λ y. record { live = is_live_in p y; size = size_of_type program.structs d.ty; home = d.home }) o) nothing_known)
      with_state None = record { size = λ h. cc; home = λ h. cc }
      with_state (Some y) = record { size = λ h. refl; home = λ h. refl }

  pub moved_value : (space : SpaceId) (p : PointerValue) (s : State) (bytes : ℤ) → IsPointerInto program space p
      → OnValue (IsPointerInto program space) (moved p (referent_of program p s) bytes)
  moved_value space None s bytes h = tt
  moved_value space (Some p) s bytes h =
      let d = some_and (slice_get program.objects p.object) _ h in
      let k : IsKnown p d.0 (referent_of program (Some p) s) = known_of p d.0 s d.1 in
      live_value (referent_of program (Some p) s).live refl d.0 d.1 d.2.0 k
    where
      live_value : (b : Bool) → (referent_of program (Some p) s).live ≡ b → (d : PlainObject)
          → slice_get program.objects p.object ≡ Some d → IsTrue (holds space d.home) → IsKnown p d (referent_of program (Some p) s)
          → OnValue (IsPointerInto program space) (used b (displaced p (referent_of program (Some p) s).size (pos p.offset +ℤ bytes)))
      live_value false f d e l k = tt
      live_value true f d e l k = displaced_value space p d (referent_of program (Some p) s).size (pos p.offset +ℤ bytes) e l (k.size f)

  pub in_space_value : (to from : SpaceId) (p : PointerValue) (s : State) → IsPointerInto program from p
      → OnValue (IsPointerInto program to) (pointer_in_space to p (referent_of program p s))
  in_space_value to from None s h = tt
  in_space_value to from (Some p) s h =
      let d = some_and (slice_get program.objects p.object) _ h in
      live_value (referent_of program (Some p) s).live refl d.0 d.1 d.2.1 (known_of p d.0 s d.1)
    where
      home_value : (b : Bool) → holds to (referent_of program (Some p) s).home ≡ b → (d : PlainObject)
          → slice_get program.objects p.object ≡ Some d → p.offset ≤ size_of_type program.structs d.ty
          → (referent_of program (Some p) s).home ≡ d.home → OnValue (IsPointerInto program to) (if b then Ok (Some p) else Err Narrowing)
      home_value false g d e l k = tt
      home_value true g d e l k =
          subst (λ (o : Option PlainObject). IsSomeAnd o (λ x. IsTrue (holds to x.home) × (p.offset ≤ size_of_type program.structs x.ty)))
          (sym e) (sym (ap (holds to) k) ∙ g, l)

      live_value : (b : Bool) → (referent_of program (Some p) s).live ≡ b → (d : PlainObject) → slice_get program.objects p.object ≡ Some d
          → p.offset ≤ size_of_type program.structs d.ty → IsKnown p d (referent_of program (Some p) s) → OnValue (IsPointerInto program to)
          (used b (if holds to (referent_of program (Some p) s).home then Ok (Some p) else Err Narrowing))
      live_value false f d e l k = tt
      live_value true f d e l k = home_value (holds to (referent_of program (Some p) s).home) refl d e l (k.home f)

  as_pointer_value : (space : SpaceId) (const : Bool) (to : PlainType) (r : Result PointerValue Undefined)
      → OnValue (IsPointerInto program space) r → OnValue (HasType program (pointer space const to)) (as_pointer r)
  as_pointer_value space const to (Ok p) h = h
  as_pointer_value space const to (Err point) h = h

  -- a pointer and a number of elements
  -- a pointer takes a number of elements more or less
  abbrev pub IsOffset : BinOp → Type 0
  IsOffset Add = ⊤
  IsOffset Sub = ⊤
  IsOffset op = ⊥

  pub offset_value : (op : BinOp) (space : SpaceId) (const : Bool) (to own : PlainType) (p : PointerValue) (n : ℤ) (s : State)
      → IsOffset op → IsPointerInto program space p
      → OnValue (HasType program (pointer space const to)) (offset_result op (operand_of program own (Pointer p) s) p n)
  offset_value Add space const to own p n s o h = as_pointer_value space const to _ (moved_value space p s _ h)
  offset_value Sub space const to own p n s o h = as_pointer_value space const to _ (moved_value space p s _ h)
  offset_value Mul space const to own p n s o h = absurd o
  offset_value Div space const to own p n s o h = absurd o
  offset_value Rem space const to own p n s o h = absurd o
  offset_value Shl space const to own p n s o h = absurd o
  offset_value Shr space const to own p n s o h = absurd o
  offset_value And space const to own p n s o h = absurd o
  offset_value Or space const to own p n s o h = absurd o
  offset_value Xor space const to own p n s o h = absurd o
  offset_value Lt space const to own p n s o h = absurd o
  offset_value Gt space const to own p n s o h = absurd o
  offset_value Le space const to own p n s o h = absurd o
  offset_value Ge space const to own p n s o h = absurd o
  offset_value Eq space const to own p n s o h = absurd o
  offset_value Ne space const to own p n s o h = absurd o

  -- two pointers

  -- a number that an int holds
  abbrev IsInt : ℤ → Type 0
  IsInt n = HoldsNumber (Integer int_type) n

  compared_value : (op : BinOp) (o : _) → OnValue IsInt (compared op o)
  compared_value op o = truth_number (accepts op o)

  pub ordered_value : (op : BinOp) (p q : PointerValue) → OnValue IsInt (ordered op p q)
  ordered_value op None q = tt
  ordered_value op (Some p) None = tt
  ordered_value op (Some p) (Some q) = if_value IsInt (same_instance p q) _ _ (compared_value op (nat_cmp p.offset q.offset)) tt

  truth_of_value : (f : Bool → Bool) (r : Result Bool Undefined) → HasPoint r → OnValue IsInt (as_truth f r)
  truth_of_value f (Ok b) h = truth_number (f b)
  truth_of_value f (Err point) h = h

  pub comparison_value : (op : BinOp) (p : PointerValue) (of : Referent) (q : PointerValue) (into : Referent)
      → OnValue IsInt (comparison_of_pointers op p of q into)
  comparison_value op p of q into = used_value IsInt (is_usable p of && is_usable q into) _ (by_operator op)
    where
      by_operator : (op : BinOp) → OnValue IsInt (compared_pointers op p of q into)
      by_operator Add = ordered_value Add p q
      by_operator Sub = ordered_value Sub p q
      by_operator Mul = ordered_value Mul p q
      by_operator Div = ordered_value Div p q
      by_operator Rem = ordered_value Rem p q
      by_operator Shl = ordered_value Shl p q
      by_operator Shr = ordered_value Shr p q
      by_operator And = ordered_value And p q
      by_operator Or = ordered_value Or p q
      by_operator Xor = ordered_value Xor p q
      by_operator Lt = ordered_value Lt p q
      by_operator Gt = ordered_value Gt p q
      by_operator Le = ordered_value Le p q
      by_operator Ge = ordered_value Ge p q
      by_operator Eq = truth_of_value (λ b. b) (equality p of q into) (equality_point p of q into)
      by_operator Ne = truth_of_value not (equality p of q into) (equality_point p of q into)

  quotient_size : (z : ℤ) (e : ℕ) → unsigned_abs (int_div z (pos e)) ≤ unsigned_abs z
  quotient_size (pos a) e = div-le_self a e
  quotient_size (negsuc a) e = let h : suc a / e ≤ suc a = div-le_self (suc a) e in omega (arith, ints)

  small_int : (z : ℤ) → unsigned_abs z ≤ 32_767 → IsInt z
  small_int z h = (inr (inl refl), record { low = omega (arith, ints); high = omega (arith, ints) })

  distance : (m n : ℕ) → m ≤ 32_767 → n ≤ 32_767 → unsigned_abs (pos m -ℤ pos n) ≤ 32_767
  distance m n h k = omega (arith, ints)

  elements_value : (element : ℕ) (p q : PointerValue) → ((r : ObjectPointer) → p ≡ Some r → r.offset ≤ 32_767)
      → ((r : ObjectPointer) → q ≡ Some r → r.offset ≤ 32_767) → OnValue IsInt (elements_between element p q)
  elements_value element None q h k = tt
  elements_value element (Some p) None h k = tt
  elements_value element (Some p) (Some q) h k =
      let d : unsigned_abs (pos p.offset -ℤ pos q.offset) ≤ 32_767 = distance p.offset q.offset (h p refl) (k q refl) in
      let b : unsigned_abs (int_div (pos p.offset -ℤ pos q.offset) (pos element)) ≤ unsigned_abs (pos p.offset -ℤ pos q.offset) =
      quotient_size (pos p.offset -ℤ pos q.offset) element in
      if_value IsInt (same_instance p q) (in_elements element (pos p.offset -ℤ pos q.offset)) (Err Unrelated)
      (if_value IsInt (int_eq (int_rem (pos p.offset -ℤ pos q.offset) (pos element)) (pos 0))
      (Ok (int_div (pos p.offset -ℤ pos q.offset) (pos element))) (Err Unrelated)
      (small_int (int_div (pos p.offset -ℤ pos q.offset) (pos element)) (omega (arith, d, b))) tt) tt

  -- where no object has more than 32,767 bytes
  module _ (small : (o : ℕ) (d : PlainObject) → slice_get program.objects o ≡ Some d → size_of_type program.structs d.ty ≤ 32_767) where
    offset_small : (space : SpaceId) (p : PointerValue) (r : ObjectPointer) → IsPointerInto program space p → p ≡ Some r → r.offset ≤ 32_767
    offset_small space p r h e =
        let g : IsPointerInto program space (Some r) = subst (IsPointerInto program space) e h in
        let d = some_and (slice_get program.objects r.object) _ g in
        let l : size_of_type program.structs d.0.ty ≤ 32_767 = small r.object d.0 d.1 in
        omega (arith, l, d.2.1)

    pointers_value : (op : BinOp) (s t : SpaceId) (a b : Operand) (p q : PointerValue) → IsPointerInto program s p
        → IsPointerInto program t q → OnValue (HasType program int) (pointers_result op a p b q)
    pointers_value op s t a b p q h k = as_int _ (if_value IsInt (is_comparison op) (comparison_of_pointers op p a.of q b.of)
        (difference_of_pointers a.element p a.of q b.of) (comparison_value op p a.of q b.of)
        (used_value IsInt (is_usable p a.of && is_usable q b.of) _
        (elements_value a.element p q (λ r e. offset_small s p r h e) (λ r e. offset_small t q r k e))))
      where
        as_int : (r : Result ℤ Undefined) → OnValue IsInt r → OnValue (HasType program int) (as_number r)
        as_int (Ok n) h = h
        as_int (Err point) h = h

    pointer_pair : (op : BinOp) (ty : PlainType) (same : Type 0) → HavePointerTypes op same → same
    pointer_pair Sub ty same h = h
    pointer_pair Lt ty same h = h
    pointer_pair Gt ty same h = h
    pointer_pair Le ty same h = h
    pointer_pair Ge ty same h = h
    pointer_pair Eq ty same h = h
    pointer_pair Ne ty same h = h
    pointer_pair Add ty same h = absurd h
    pointer_pair Mul ty same h = absurd h
    pointer_pair Div ty same h = absurd h
    pointer_pair Rem ty same h = absurd h
    pointer_pair Shl ty same h = absurd h
    pointer_pair Shr ty same h = absurd h
    pointer_pair And ty same h = absurd h
    pointer_pair Or ty same h = absurd h
    pointer_pair Xor ty same h = absurd h

    pub offset_integer : (op : BinOp) (ty : PlainType) → HaveOffsetTypes op ty → IsIntegerType ty
    offset_integer Add ty h = h
    offset_integer Sub ty h = h
    offset_integer Mul ty h = absurd h
    offset_integer Div ty h = absurd h
    offset_integer Rem ty h = absurd h
    offset_integer Shl ty h = absurd h
    offset_integer Shr ty h = absurd h
    offset_integer And ty h = absurd h
    offset_integer Or ty h = absurd h
    offset_integer Xor ty h = absurd h
    offset_integer Lt ty h = absurd h
    offset_integer Gt ty h = absurd h
    offset_integer Le ty h = absurd h
    offset_integer Ge ty h = absurd h
    offset_integer Eq ty h = absurd h
    offset_integer Ne ty h = absurd h

    pub offset_operator : (op : BinOp) (ty : PlainType) → HaveOffsetTypes op ty → IsOffset op
    offset_operator Add ty h = tt
    offset_operator Sub ty h = tt
    offset_operator Mul ty h = h
    offset_operator Div ty h = h
    offset_operator Rem ty h = h
    offset_operator Shl ty h = h
    offset_operator Shr ty h = h
    offset_operator And ty h = h
    offset_operator Or ty h = h
    offset_operator Xor ty h = h
    offset_operator Lt ty h = h
    offset_operator Gt ty h = h
    offset_operator Le ty h = h
    offset_operator Ge ty h = h
    offset_operator Eq ty h = h
    offset_operator Ne ty h = h

    sum_operator : (op : BinOp) → IsAdd op → IsOffset op
    sum_operator Add h = tt
    sum_operator Sub h = absurd h
    sum_operator Mul h = h
    sum_operator Div h = h
    sum_operator Rem h = h
    sum_operator Shl h = h
    sum_operator Shr h = h
    sum_operator And h = h
    sum_operator Or h = h
    sum_operator Xor h = h
    sum_operator Lt h = h
    sum_operator Gt h = h
    sum_operator Le h = h
    sum_operator Ge h = h
    sum_operator Eq h = h
    sum_operator Ne h = h

    -- a value of an integer type is a number
    pub integer_number : (ty : PlainType) (v : Value) → IsIntegerType ty → HasType program ty v → (n : ℤ) × (v ≡ Number n)
    integer_number ty v i h =
        let t = some_and (arithmetic_of ty) _ i in
        let r = number_of_type ty t.0 v t.1 h in
        (r.n, r.is)

    pointer_number : (op : BinOp) (ty : PlainType) (mode : Mode) (space : SpaceId) (const : Bool)
        (to other : PlainType) (x y : Value) (s : State) → HaveOffsetTypes op other → ty ≡ pointer space const to
        → HasType program (pointer space const to) x → HasType program other y → OnValue (HasType program ty)
        (binary_result op ty mode (operand_of program (pointer space const to) x s) (operand_of program other y s))
    pointer_number op ty mode space const to other (Number m) y s o e h k = absurd h
    pointer_number op ty mode space const to other (Pointer p) y s o e h k =
        let n = integer_number other y (offset_integer op other o) k in
        subst (λ (z : Value). OnValue (HasType program ty)
        (binary_result op ty mode (operand_of program (pointer space const to) (Pointer p) s) (operand_of program other z s))) (sym n.1)
        (subst (λ (u : PlainType).
        OnValue (HasType program u) (offset_result op (operand_of program (pointer space const to) (Pointer p) s) p n.0)) (sym e)
        (offset_value op space const to (pointer space const to) p n.0 s (offset_operator op other o) h))

    number_pointer : (op : BinOp) (ty : PlainType) (mode : Mode) (space : SpaceId) (const : Bool) (to other : PlainType)
        (x y : Value) (s : State) → IsOffset op → IsIntegerType other → ty ≡ pointer space const to
        → HasType program other x → HasType program (pointer space const to) y → OnValue (HasType program ty)
        (binary_result op ty mode (operand_of program other x s) (operand_of program (pointer space const to) y s))
    number_pointer op ty mode space const to other x (Number m) s a o e h k = absurd k
    number_pointer op ty mode space const to other x (Pointer q) s a o e h k =
        let n = integer_number other x o h in
        subst (λ (z : Value). OnValue (HasType program ty)
        (binary_result op ty mode (operand_of program other z s) (operand_of program (pointer space const to) (Pointer q) s))) (sym n.1)
        (subst (λ (u : PlainType).
        OnValue (HasType program u) (offset_result op (operand_of program (pointer space const to) (Pointer q) s) q n.0)) (sym e)
        (offset_value op space const to (pointer space const to) q n.0 s a k))

    two_pointers : (op : BinOp) (ty : PlainType) (mode : Mode) (a b : SpaceId) (c d : Bool) (t u : PlainType) (x y : Value) (s : State)
        → ty ≡ int → HasType program (pointer a c t) x → HasType program (pointer b d u) y → OnValue (HasType program ty)
        (binary_result op ty mode (operand_of program (pointer a c t) x s) (operand_of program (pointer b d u) y s))
    two_pointers op ty mode a b c d t u (Number m) y s e h k = absurd h
    two_pointers op ty mode a b c d t u (Pointer p) (Number n) s e h k = absurd k
    two_pointers op ty mode a b c d t u (Pointer p) (Pointer q) s e h k =
        subst (λ (z : PlainType). OnValue (HasType program z) (pointers_result op (operand_of program (pointer a c t) (Pointer p) s) p
        (operand_of program (pointer b d u) (Pointer q) s) q)) (sym e)
        (pointers_value op a b (operand_of program (pointer a c t) (Pointer p) s)
        (operand_of program (pointer b d u) (Pointer q) s) p q h k)

    two_numbers : (op : BinOp) (ty : PlainType) (mode : Mode) (aty bty : PlainType) (x y : Value) (s : State) → IsSomeAnd
        (arithmetic_of ty) (λ t. IsSomeAnd (arithmetic_of aty) (λ a. IsSomeAnd (arithmetic_of bty) (λ b. HaveArithmeticTypes op t a b)))
        → HasType program aty x → HasType program bty y
        → OnValue (HasType program ty) (binary_result op ty mode (operand_of program aty x s) (operand_of program bty y s))
    two_numbers op ty mode aty bty x y s types h k =
        let t = some_and (arithmetic_of ty) _ types in
        let a = some_and (arithmetic_of aty) _ t.2 in
        let b = some_and (arithmetic_of bty) _ a.2 in
        let m = number_of_type aty a.0 x a.1 h in
        let n = number_of_type bty b.0 y b.1 k in
        let r : Held t.0 (arithmetic_value op t.0 mode (operand a.0 m.n) (operand b.0 n.n)) =
        arithmetic_held op t.0 a.0 b.0 mode m.n n.n b.2 (known_number a.0 m.n m.held) (known_number b.0 n.n n.held) in
        let f : arithmetic_value op (number_type ty) mode (operand (number_type aty) m.n) (operand (number_type bty) n.n)
        ≡ arithmetic_value op t.0 mode (operand a.0 m.n) (operand b.0 n.n) =
        ap (λ z. arithmetic_value op z mode (operand (number_type aty) m.n) (operand (number_type bty) n.n)) (number_type_is ty t.0 t.1)
        ∙ ap (λ z. arithmetic_value op t.0 mode (operand z m.n) (operand (number_type bty) n.n)) (number_type_is aty a.0 a.1)
        ∙ ap (λ z. arithmetic_value op t.0 mode (operand a.0 m.n) (operand z n.n)) (number_type_is bty b.0 b.1) in
        subst
        (λ (z : Value). OnValue (HasType program ty) (binary_result op ty mode (operand_of program aty z s) (operand_of program bty y s)))
        (sym m.is)
        (subst (λ (z : Value). OnValue (HasType program ty)
        (binary_result op ty mode (operand_of program aty (Number m.n) s) (operand_of program bty z s))) (sym n.is)
        (typed_result ty t.0 _ t.1 (subst (λ (z : Result ℤ Undefined). Held t.0 z) (sym f) r)
        (arithmetic_point op (number_type ty) mode (operand (number_type aty) m.n) (operand (number_type bty) n.n))))

    pub binary_value : (op : BinOp) (ty aty bty : PlainType) (mode : Mode) (x y : Value) (s : State)
        → HaveBinaryTypes op ty aty bty → HasType program aty x → HasType program bty y
        → OnValue (HasType program ty) (binary_result op ty mode (operand_of program aty x s) (operand_of program bty y s))
    binary_value op ty void void mode x y s h j k = two_numbers op ty mode void void x y s h j k
    binary_value op ty void (integer g2 b2) mode x y s h j k = two_numbers op ty mode void (integer g2 b2) x y s h j k
    binary_value op ty void (fixed c2 z2) mode x y s h j k = two_numbers op ty mode void (fixed c2 z2) x y s h j k
    binary_value op ty void (pointer l2 c2 t2) mode x y s h j k =
        number_pointer op ty mode l2 c2 t2 void x y s (sum_operator op h.0) h.1 h.2 j k
    binary_value op ty void (array t2 m2) mode x y s h j k = two_numbers op ty mode void (array t2 m2) x y s h j k
    binary_value op ty void (struct i2) mode x y s h j k = two_numbers op ty mode void (struct i2) x y s h j k
    binary_value op ty (integer g1 b1) void mode x y s h j k = two_numbers op ty mode (integer g1 b1) void x y s h j k
    binary_value op ty (integer g1 b1) (integer g2 b2) mode x y s h j k = two_numbers op ty mode (integer g1 b1) (integer g2 b2) x y s h j k
    binary_value op ty (integer g1 b1) (fixed c2 z2) mode x y s h j k = two_numbers op ty mode (integer g1 b1) (fixed c2 z2) x y s h j k
    binary_value op ty (integer g1 b1) (pointer l2 c2 t2) mode x y s h j k =
        number_pointer op ty mode l2 c2 t2 (integer g1 b1) x y s (sum_operator op h.0) h.1 h.2 j k
    binary_value op ty (integer g1 b1) (array t2 m2) mode x y s h j k = two_numbers op ty mode (integer g1 b1) (array t2 m2) x y s h j k
    binary_value op ty (integer g1 b1) (struct i2) mode x y s h j k = two_numbers op ty mode (integer g1 b1) (struct i2) x y s h j k
    binary_value op ty (fixed c1 z1) void mode x y s h j k = two_numbers op ty mode (fixed c1 z1) void x y s h j k
    binary_value op ty (fixed c1 z1) (integer g2 b2) mode x y s h j k = two_numbers op ty mode (fixed c1 z1) (integer g2 b2) x y s h j k
    binary_value op ty (fixed c1 z1) (fixed c2 z2) mode x y s h j k = two_numbers op ty mode (fixed c1 z1) (fixed c2 z2) x y s h j k
    binary_value op ty (fixed c1 z1) (pointer l2 c2 t2) mode x y s h j k =
        number_pointer op ty mode l2 c2 t2 (fixed c1 z1) x y s (sum_operator op h.0) h.1 h.2 j k
    binary_value op ty (fixed c1 z1) (array t2 m2) mode x y s h j k = two_numbers op ty mode (fixed c1 z1) (array t2 m2) x y s h j k
    binary_value op ty (fixed c1 z1) (struct i2) mode x y s h j k = two_numbers op ty mode (fixed c1 z1) (struct i2) x y s h j k
    binary_value op ty (pointer l1 c1 t1) void mode x y s h j k = pointer_number op ty mode l1 c1 t1 void x y s h.0 h.1 j k
    binary_value op ty (pointer l1 c1 t1) (integer g2 b2) mode x y s h j k =
        pointer_number op ty mode l1 c1 t1 (integer g2 b2) x y s h.0 h.1 j k
    binary_value op ty (pointer l1 c1 t1) (fixed c2 z2) mode x y s h j k =
        pointer_number op ty mode l1 c1 t1 (fixed c2 z2) x y s h.0 h.1 j k
    binary_value op ty (pointer l1 c1 t1) (pointer l2 c2 t2) mode x y s h j k =
        two_pointers op ty mode l1 l2 c1 c2 t1 t2 x y s (pointer_pair op ty _ h).2 j k
    binary_value op ty (pointer l1 c1 t1) (array t2 m2) mode x y s h j k =
        pointer_number op ty mode l1 c1 t1 (array t2 m2) x y s h.0 h.1 j k
    binary_value op ty (pointer l1 c1 t1) (struct i2) mode x y s h j k = pointer_number op ty mode l1 c1 t1 (struct i2) x y s h.0 h.1 j k
    binary_value op ty (array t1 m1) void mode x y s h j k = two_numbers op ty mode (array t1 m1) void x y s h j k
    binary_value op ty (array t1 m1) (integer g2 b2) mode x y s h j k = two_numbers op ty mode (array t1 m1) (integer g2 b2) x y s h j k
    binary_value op ty (array t1 m1) (fixed c2 z2) mode x y s h j k = two_numbers op ty mode (array t1 m1) (fixed c2 z2) x y s h j k
    binary_value op ty (array t1 m1) (pointer l2 c2 t2) mode x y s h j k =
        number_pointer op ty mode l2 c2 t2 (array t1 m1) x y s (sum_operator op h.0) h.1 h.2 j k
    binary_value op ty (array t1 m1) (array t2 m2) mode x y s h j k = two_numbers op ty mode (array t1 m1) (array t2 m2) x y s h j k
    binary_value op ty (array t1 m1) (struct i2) mode x y s h j k = two_numbers op ty mode (array t1 m1) (struct i2) x y s h j k
    binary_value op ty (struct i1) void mode x y s h j k = two_numbers op ty mode (struct i1) void x y s h j k
    binary_value op ty (struct i1) (integer g2 b2) mode x y s h j k = two_numbers op ty mode (struct i1) (integer g2 b2) x y s h j k
    binary_value op ty (struct i1) (fixed c2 z2) mode x y s h j k = two_numbers op ty mode (struct i1) (fixed c2 z2) x y s h j k
    binary_value op ty (struct i1) (pointer l2 c2 t2) mode x y s h j k =
        number_pointer op ty mode l2 c2 t2 (struct i1) x y s (sum_operator op h.0) h.1 h.2 j k
    binary_value op ty (struct i1) (array t2 m2) mode x y s h j k = two_numbers op ty mode (struct i1) (array t2 m2) x y s h j k
    binary_value op ty (struct i1) (struct i2) mode x y s h j k = two_numbers op ty mode (struct i1) (struct i2) x y s h j k

  pub unary_value_typed : (op : UnOp) (ty : PlainType) (mode : Mode) (v : Value) → IsSomeAnd (arithmetic_of ty) (HaveUnaryTypes op)
      → HasType program ty v → OnValue (HasType program ty) (unary_result op ty mode v)
  unary_value_typed op ty mode v types h =
      let t = some_and (arithmetic_of ty) _ types in
      let m = number_of_type ty t.0 v t.1 h in
      subst (λ (z : Value). OnValue (HasType program ty) (unary_result op ty mode z)) (sym m.is)
      (typed_result ty t.0 _ t.1 (subst (λ (z : Arithmetic). Held t.0 (unary_value op z mode m.n)) (sym (number_type_is ty t.0 t.1))
      (unary_held op t.0 mode m.n t.2 m.held)) (unary_point op (number_type ty) mode m.n))

  pub conversion_value_typed : (ty from : PlainType) (mode : Mode) (v : Value) (s : State) → IsScalar ty → AreConvertible ty from
      → HasType program from v → OnValue (HasType program ty) (conversion_result ty mode (operand_of program from v s))
  conversion_value_typed void void mode (Number n) s k c h = absurd k
  conversion_value_typed void void mode (Pointer p) s k c h = absurd k
  conversion_value_typed void (integer g2 b2) mode (Number n) s k c h = absurd k
  conversion_value_typed void (integer g2 b2) mode (Pointer p) s k c h = absurd k
  conversion_value_typed void (fixed c2 z2) mode (Number n) s k c h = absurd k
  conversion_value_typed void (fixed c2 z2) mode (Pointer p) s k c h = absurd k
  conversion_value_typed void (pointer l2 c2 t2) mode (Number n) s k c h = absurd k
  conversion_value_typed void (pointer l2 c2 t2) mode (Pointer p) s k c h = absurd k
  conversion_value_typed void (array t2 m2) mode (Number n) s k c h = absurd k
  conversion_value_typed void (array t2 m2) mode (Pointer p) s k c h = absurd k
  conversion_value_typed void (struct i2) mode (Number n) s k c h = absurd k
  conversion_value_typed void (struct i2) mode (Pointer p) s k c h = absurd k
  conversion_value_typed (integer g1 b1) void mode (Number n) s k c h = absurd c
  conversion_value_typed (integer g1 b1) void mode (Pointer p) s k c h = absurd c
  conversion_value_typed (integer g1 b1) (integer g2 b2) mode (Number n) s k c h =
      typed_result (integer g1 b1) (Integer (record { signed = g1; bytes = b1 }))
      (conversion_value (Integer (record { signed = g1; bytes = b1 })) mode (operand (Integer (record { signed = g2; bytes = b2 })) n)) refl
      (conversion_held (Integer (record { signed = g1; bytes = b1 })) mode (operand (Integer (record { signed = g2; bytes = b2 })) n) k)
      (conversion_point (Integer (record { signed = g1; bytes = b1 })) mode (operand (Integer (record { signed = g2; bytes = b2 })) n))
  conversion_value_typed (integer g1 b1) (integer g2 b2) mode (Pointer p) s k c h = absurd h
  conversion_value_typed (integer g1 b1) (fixed c2 z2) mode (Number n) s k c h =
      typed_result (integer g1 b1) (Integer (record { signed = g1; bytes = b1 }))
      (conversion_value (Integer (record { signed = g1; bytes = b1 })) mode (operand (Fixed (record { kind = c2; sat = z2 })) n)) refl
      (conversion_held (Integer (record { signed = g1; bytes = b1 })) mode (operand (Fixed (record { kind = c2; sat = z2 })) n) k)
      (conversion_point (Integer (record { signed = g1; bytes = b1 })) mode (operand (Fixed (record { kind = c2; sat = z2 })) n))
  conversion_value_typed (integer g1 b1) (fixed c2 z2) mode (Pointer p) s k c h = absurd h
  conversion_value_typed (integer g1 b1) (pointer l2 c2 t2) mode (Number n) s k c h = absurd c
  conversion_value_typed (integer g1 b1) (pointer l2 c2 t2) mode (Pointer p) s k c h = absurd c
  conversion_value_typed (integer g1 b1) (array t2 m2) mode (Number n) s k c h = absurd c
  conversion_value_typed (integer g1 b1) (array t2 m2) mode (Pointer p) s k c h = absurd c
  conversion_value_typed (integer g1 b1) (struct i2) mode (Number n) s k c h = absurd c
  conversion_value_typed (integer g1 b1) (struct i2) mode (Pointer p) s k c h = absurd c
  conversion_value_typed (fixed c1 z1) void mode (Number n) s k c h = absurd c
  conversion_value_typed (fixed c1 z1) void mode (Pointer p) s k c h = absurd c
  conversion_value_typed (fixed c1 z1) (integer g2 b2) mode (Number n) s k c h =
      typed_result (fixed c1 z1) (Fixed (record { kind = c1; sat = z1 }))
      (conversion_value (Fixed (record { kind = c1; sat = z1 })) mode (operand (Integer (record { signed = g2; bytes = b2 })) n)) refl
      (conversion_held (Fixed (record { kind = c1; sat = z1 })) mode (operand (Integer (record { signed = g2; bytes = b2 })) n) tt)
      (conversion_point (Fixed (record { kind = c1; sat = z1 })) mode (operand (Integer (record { signed = g2; bytes = b2 })) n))
  conversion_value_typed (fixed c1 z1) (integer g2 b2) mode (Pointer p) s k c h = absurd h
  conversion_value_typed (fixed c1 z1) (fixed c2 z2) mode (Number n) s k c h =
      typed_result (fixed c1 z1) (Fixed (record { kind = c1; sat = z1 }))
      (conversion_value (Fixed (record { kind = c1; sat = z1 })) mode (operand (Fixed (record { kind = c2; sat = z2 })) n)) refl
      (conversion_held (Fixed (record { kind = c1; sat = z1 })) mode (operand (Fixed (record { kind = c2; sat = z2 })) n) tt)
      (conversion_point (Fixed (record { kind = c1; sat = z1 })) mode (operand (Fixed (record { kind = c2; sat = z2 })) n))
  conversion_value_typed (fixed c1 z1) (fixed c2 z2) mode (Pointer p) s k c h = absurd h
  conversion_value_typed (fixed c1 z1) (pointer l2 c2 t2) mode (Number n) s k c h = absurd c
  conversion_value_typed (fixed c1 z1) (pointer l2 c2 t2) mode (Pointer p) s k c h = absurd c
  conversion_value_typed (fixed c1 z1) (array t2 m2) mode (Number n) s k c h = absurd c
  conversion_value_typed (fixed c1 z1) (array t2 m2) mode (Pointer p) s k c h = absurd c
  conversion_value_typed (fixed c1 z1) (struct i2) mode (Number n) s k c h = absurd c
  conversion_value_typed (fixed c1 z1) (struct i2) mode (Pointer p) s k c h = absurd c
  conversion_value_typed (pointer l1 c1 t1) void mode (Number n) s k c h = absurd c
  conversion_value_typed (pointer l1 c1 t1) void mode (Pointer p) s k c h = absurd c
  conversion_value_typed (pointer l1 c1 t1) (integer g2 b2) mode (Number n) s k c h = absurd c
  conversion_value_typed (pointer l1 c1 t1) (integer g2 b2) mode (Pointer p) s k c h = absurd c
  conversion_value_typed (pointer l1 c1 t1) (fixed c2 z2) mode (Number n) s k c h = absurd c
  conversion_value_typed (pointer l1 c1 t1) (fixed c2 z2) mode (Pointer p) s k c h = absurd c
  conversion_value_typed (pointer l1 c1 t1) (pointer l2 c2 t2) mode (Number n) s k c h = absurd h
  conversion_value_typed (pointer l1 c1 t1) (pointer l2 c2 t2) mode (Pointer p) s k c h =
      as_pointer_value l1 c1 t1 _ (in_space_value l1 l2 p s h)
  conversion_value_typed (pointer l1 c1 t1) (array t2 m2) mode (Number n) s k c h = absurd c
  conversion_value_typed (pointer l1 c1 t1) (array t2 m2) mode (Pointer p) s k c h = absurd c
  conversion_value_typed (pointer l1 c1 t1) (struct i2) mode (Number n) s k c h = absurd c
  conversion_value_typed (pointer l1 c1 t1) (struct i2) mode (Pointer p) s k c h = absurd c
  conversion_value_typed (array t1 m1) void mode (Number n) s k c h = absurd k
  conversion_value_typed (array t1 m1) void mode (Pointer p) s k c h = absurd k
  conversion_value_typed (array t1 m1) (integer g2 b2) mode (Number n) s k c h = absurd k
  conversion_value_typed (array t1 m1) (integer g2 b2) mode (Pointer p) s k c h = absurd k
  conversion_value_typed (array t1 m1) (fixed c2 z2) mode (Number n) s k c h = absurd k
  conversion_value_typed (array t1 m1) (fixed c2 z2) mode (Pointer p) s k c h = absurd k
  conversion_value_typed (array t1 m1) (pointer l2 c2 t2) mode (Number n) s k c h = absurd k
  conversion_value_typed (array t1 m1) (pointer l2 c2 t2) mode (Pointer p) s k c h = absurd k
  conversion_value_typed (array t1 m1) (array t2 m2) mode (Number n) s k c h = absurd k
  conversion_value_typed (array t1 m1) (array t2 m2) mode (Pointer p) s k c h = absurd k
  conversion_value_typed (array t1 m1) (struct i2) mode (Number n) s k c h = absurd k
  conversion_value_typed (array t1 m1) (struct i2) mode (Pointer p) s k c h = absurd k
  conversion_value_typed (struct i1) void mode (Number n) s k c h = absurd k
  conversion_value_typed (struct i1) void mode (Pointer p) s k c h = absurd k
  conversion_value_typed (struct i1) (integer g2 b2) mode (Number n) s k c h = absurd k
  conversion_value_typed (struct i1) (integer g2 b2) mode (Pointer p) s k c h = absurd k
  conversion_value_typed (struct i1) (fixed c2 z2) mode (Number n) s k c h = absurd k
  conversion_value_typed (struct i1) (fixed c2 z2) mode (Pointer p) s k c h = absurd k
  conversion_value_typed (struct i1) (pointer l2 c2 t2) mode (Number n) s k c h = absurd k
  conversion_value_typed (struct i1) (pointer l2 c2 t2) mode (Pointer p) s k c h = absurd k
  conversion_value_typed (struct i1) (array t2 m2) mode (Number n) s k c h = absurd k
  conversion_value_typed (struct i1) (array t2 m2) mode (Pointer p) s k c h = absurd k
  conversion_value_typed (struct i1) (struct i2) mode (Number n) s k c h = absurd k
  conversion_value_typed (struct i1) (struct i2) mode (Pointer p) s k c h = absurd k

  -- an operator that takes a left operand of this type
  abbrev pub IsOperator : BinOp → PlainType → Type 0
  IsOperator op void = ⊤
  IsOperator op (integer signed bytes) = ⊤
  IsOperator op (fixed kind saturates) = ⊤
  IsOperator op (pointer space const to) = IsOffset op
  IsOperator op (array of len) = ⊤
  IsOperator op (struct index) = ⊤

  pub compound_value_typed : (op : BinOp) (own mode : Mode) (ty right : PlainType) (old : Value) (n : ℤ) (s : State)
      → IsOperator op ty → IsScalar ty → HasType program ty old
      → OnValue (HasType program ty) (compound_result op own mode (operand_of program ty old s) (operand_of program right (Number n) s))
  compound_value_typed op own mode void right (Number m) n s o k h = absurd k
  compound_value_typed op own mode void right (Pointer p) n s o k h = absurd k
  compound_value_typed op own mode (integer g1 b1) right (Number m) n s o k h =
      typed_result (integer g1 b1) (Integer (record { signed = g1; bytes = b1 }))
      (compound_value op own mode (Integer (record { signed = g1; bytes = b1 })) m (number_type right) n) refl
      (compound_held op own mode (Integer (record { signed = g1; bytes = b1 })) (number_type right) m n k)
      (compound_point op own mode (Integer (record { signed = g1; bytes = b1 })) m (number_type right) n)
  compound_value_typed op own mode (integer g1 b1) right (Pointer p) n s o k h = absurd h
  compound_value_typed op own mode (fixed c1 z1) right (Number m) n s o k h = typed_result (fixed c1 z1)
      (Fixed (record { kind = c1; sat = z1 })) (compound_value op own mode (Fixed (record { kind = c1; sat = z1 })) m (number_type right) n)
      refl (compound_held op own mode (Fixed (record { kind = c1; sat = z1 })) (number_type right) m n tt)
      (compound_point op own mode (Fixed (record { kind = c1; sat = z1 })) m (number_type right) n)
  compound_value_typed op own mode (fixed c1 z1) right (Pointer p) n s o k h = absurd h
  compound_value_typed op own mode (pointer l1 c1 t1) right (Number m) n s o k h = absurd h
  compound_value_typed op own mode (pointer l1 c1 t1) right (Pointer p) n s o k h = offset_value op l1 c1 t1 (pointer l1 c1 t1) p n s o h
  compound_value_typed op own mode (array t1 m1) right (Number m) n s o k h = absurd k
  compound_value_typed op own mode (array t1 m1) right (Pointer p) n s o k h = absurd k
  compound_value_typed op own mode (struct i1) right (Number m) n s o k h = absurd k
  compound_value_typed op own mode (struct i1) right (Pointer p) n s o k h = absurd k
