-- The rows of compound assignments and steps pay for the operations that they are made of.
use Rattle.std.proofs.Common.{◌≡◌, ◌⊎◌, ℕ, ◌+◌, ◌*◌, ◌≤◌, Bool, true, false, ◌||◌, List, [], ◌∷◌, refl, sym, ap, subst, inl, inr, arith}
use Rattle.std.specs.Prelude.{max}
use Rattle.std.proofs.Math.Nat.{mul-le-mul_left}
use Rattle.ec_fx.specs.declared.numbers.Mode.{Mode}
use Rattle.ec_space.specs.declared.space.SpaceId.{SpaceId}
use Rattle.ec_core.specs.declared.arithmetic_types.Arithmetic.{Arithmetic}
use Rattle.ec_core.specs.declared.arithmetic_types.Arithmetic.TheVariants.{Integer, Fixed}
use Rattle.ec_core.specs.declared.arithmetic_types.FixedType.{FixedType}
use Rattle.ec_core.specs.declared.arithmetic_types.IntegerType.{IntegerType}
use Rattle.ec_core.specs.declared.expressions.BinOp.{BinOp}
use Rattle.ec_core.specs.declared.expressions.BinOp.TheVariants.{Add, Sub, Mul, Div, Rem, Shl, Shr, And, Or, Xor, Lt, Gt, Le, Ge, Eq, Ne}
use Rattle.ec_core.specs.ArithmeticTypes.{type_of, promoted, common_integer, common_fixed, common}
use Rattle.ec_core.specs.Layout.{scalar_size, IsScalar}
use Rattle.ec_core.specs.Operators.{same_type, OperationTypes, converted_beside, promoted_type, step_operator}
use Rattle.ec_core.specs.Plain.{PlainType, void, integer, fixed, pointer, array, struct, PlainProgram}
use Rattle.ec_core.specs.TypeLaws.{factor_beside}
use Rattle.ec_core.specs.Typing.{int, IsIntegerKind, HaveCompoundArithmetic, HaveCompoundTypes}
use Rattle.ec_core.specs.Valid.{IsExprType}
use Rattle.ec_core.specs.Words.{update_words}
use Rattle.ec_core.proofs.Sameness.{type_itself}
use Rattle.ec_shapes.specs.Shapes.{total, least_row}
use Rattle.ec_core_shapes.specs.Shapes.{Shape, binary_shape, conversion_shape, compound_shape, step_shape, shape_row}
use Rattle.ec_ir_shapes.specs.Costs.{is_fixed, are_exact, binary_code, shape_code, op_row}
use Rattle.ec_lower_code.specs.Code.{update_types}
use Rattle.ec_lower_shapes.proofs.Bounds.{Bound, paid, none, Costs, and_more, integer_cost, sum_cost}
use Rattle.ec_lower_shapes.proofs.Bounds.{fixed_cost, fixed_operation, number_cost, fixed_conversion, brought_cost, kept_cost}
use Rattle.ec_lower_shapes.proofs.Made.{update_made, change_made, place_words, Pays, one_place, more_place}
use Rattle.ec_lower_shapes.proofs.Sizes.{size, one_or_two, integer_bytes, promoted_size, common_size, kind_bytes, fixed_size, beside}
use Rattle.ec_lower_shapes.proofs.Sizes.{beside_size, one_stays, kind_itself, some_width}

-- what an update counts, at any number of uses, is within the row of an update of b bytes
abbrev Within : ℕ → (beside : ℕ) → List Shape → Type 0
Within b other ks = (u : ℕ) → u * (place_words b + other) + total (λ k. op_row k u) ks
    ≤ least_row (update_words b) (update_words b + 20) (120 + 40 * b) u

square : (b : ℕ) → b ≡ 1 → b * b ≡ 1
square b e = ap (λ (z : ℕ). z * z) e

double : (m : ℕ) → 2 ≤ m → 2 * m ≤ m * m
double m h = let x : m * 2 ≤ m * m = mul-le-mul_left m h in omega (arith, x)

by_whole : (b other : ℕ) (ks : List Shape) (own once each : ℕ) → 1 ≤ b → Bound ks own once each
    → (b ≡ 1 → (12 + other + own ≤ 540) × (once ≤ 560) × (12 + other + each ≤ 160))
    → (2 ≤ b → (15 + 14 * b + other + own ≤ update_words b) × (once ≤ update_words b + 20) × (15 + 14 * b + other + each ≤ 120 + 40 * b))
    → Within b other ks
by_whole b other ks own once each some f x g u = by_size (one_or_two b some)
  where
    by_size : (b ≡ 1) ⊎ (2 ≤ b) → u * (place_words b + other) + total (λ k. op_row k u) ks
        ≤ least_row (update_words b) (update_words b + 20) (120 + 40 * b) u
    by_size (inl e) =
        let p = one_place b e in let q = square b e in let k = x e in let i = k.0 in let j = k.1 in let l = k.2 in
        paid ks own once each (place_words b + other) (update_words b) (update_words b + 20) (120 + 40 * b) u
        f (omega (arith, p, q, e, i)) (omega (arith, q, e, j)) (omega (arith, p, e, l))
    by_size (inr h) =
        let p = more_place b h in let k = g h in let i = k.0 in let j = k.1 in let l = k.2 in
        paid ks own once each (place_words b + other) (update_words b) (update_words b + 20) (120 + 40 * b) u
        f (omega (arith, p, i)) j (omega (arith, p, l))

-- what a place takes is all that an update takes besides
whole : (b u words : ℕ) (ks : List Shape) → u * (place_words b + 0) + total (λ k. op_row k u) ks ≤ words
    → u * place_words b + total (λ k. op_row k u) ks ≤ words
whole b u words ks h = omega (arith, h)

-- an expression's value has at most 8 bytes
pub small : (program : PlainProgram) (ty : PlainType) → IsExprType program ty → scalar_size ty ≤ 8
small program void h = omega arith
small program (integer s b) h = let x = (integer_bytes b h).1 in omega (arith, x)
small program (fixed k s) h = (kind_bytes k).1
small program (pointer s c t) h = let x = (some_width s).1 in omega (arith, x)
small program (array t n) h = absurd h
small program (struct k) h = absurd h

-- sums for m bytes, the greater of b and 2
by_bytes : (b other : ℕ) (ks : List Shape) (own once each : ℕ → ℕ) → 1 ≤ b
    → ((m : ℕ) → 2 ≤ m → b ≤ m → Bound ks (own m) (once m) (each m))
    → (12 + other + own 2 ≤ 540) → (once 2 ≤ 560) → (12 + other + each 2 ≤ 160)
    → (2 ≤ b → (15 + 14 * b + other + own b ≤ update_words b) × (once b ≤ update_words b + 20) × (15 + 14 * b + other + each b ≤ 120 + 40 * b))
    → Within b other ks
by_bytes b other ks own once each some f x y z g u = by_size (one_or_two b some)
  where
    by_size : (b ≡ 1) ⊎ (2 ≤ b) → u * (place_words b + other) + total (λ k. op_row k u) ks
        ≤ least_row (update_words b) (update_words b + 20) (120 + 40 * b) u
    by_size (inl e) =
        let p = one_place b e in let q = square b e in
        paid ks (own 2) (once 2) (each 2) (place_words b + other) (update_words b) (update_words b + 20) (120 + 40 * b) u
        (f 2 (omega arith) (omega (arith, e))) (omega (arith, p, q, e, x)) (omega (arith, q, e, y)) (omega (arith, p, e, z))
    by_size (inr h) =
        let p = more_place b h in let k = g h in
        paid ks (own b) (once b) (each b) (place_words b + other) (update_words b) (update_words b + 20) (120 + 40 * b) u
        (f b h (omega arith)) (let i = k.0 in omega (arith, p, i)) (let i = k.1 in i) (let i = k.2 in omega (arith, p, i))

module _ (op : BinOp) (own mode : Mode) where
  -- two integers
  integers : (s t l r z : IntegerType) (b : ℕ) → s.bytes ≤ b → t.bytes ≤ b → 1 ≤ b → b ≤ 4
      → ((m : ℕ) → 2 ≤ m → b ≤ m → (l.bytes ≤ m) × (r.bytes ≤ m) × (z.bytes ≤ m))
      → Within b 0 (update_made op (record { left = Integer l; right = Integer r; result = Integer z }) own mode (type_of (Integer s))
      (type_of (Integer t)))
  integers s t l r z b hs ht some few sizes =
      by_bytes b 0 (update_made op (record { left = Integer l; right = Integer r; result = Integer z }) own mode (type_of (Integer s))
      (type_of (Integer t))) (λ m. (4 + 6 * m) + ((4 + 6 * m) + ((150 + 40 * m + 40 * (m * m)) + ((4 + 6 * m) + 0))))
      (λ m. 0 + (0 + ((151 + 40 * m + 40 * (m * m)) + (0 + 0))))
      (λ m. (4 + 6 * m) + ((4 + 6 * m) + ((40 + 20 * m) + ((4 + 6 * m) + 0)))) some
      (λ m two le. let k = sizes m two le in let kl = k.0 in let kr = k.1 in let kz = k.2 in
      and_more _ _ _ _ _ _ _ _ (number_cost l.bytes m kl)
      (and_more _ _ _ _ _ _ _ _ (number_cost r.bytes m kr)
      (and_more _ _ _ _ _ _ _ _ (integer_cost op (max z.bytes (max l.bytes (max r.bytes 1))) m (omega (arith, two, kl, kr, kz)))
      (and_more _ _ _ _ _ _ _ _ (number_cost s.bytes m (omega (arith, hs, le))) none))))
      (omega arith) (omega arith) (omega arith) (λ two. (omega (arith, two), omega (arith, two), omega (arith, few)))

  -- an integer beside a fixed-point number, which stays as it is
  number_first : (s : IntegerType) (t : FixedType) (b : ℕ) → s.bytes ≤ b → size (Fixed t) ≤ b → 1 ≤ b → b ≤ 8
      → Within b 0 (update_made op (record { left = Integer s; right = Fixed t; result = Fixed t }) own mode (type_of (Integer s))
      (type_of (Fixed t)))
  number_first s t b hs ht some few =
      by_whole b 0 (update_made op (record { left = Integer s; right = Fixed t; result = Fixed t }) own mode (type_of (Integer s))
      (type_of (Fixed t))) ((4 + 6 * b) + (4 * b + ((150 + 40 * b + 40 * (b * b)) + ((100 + 40 * b) + 0))))
      (0 + (0 + ((151 + 40 * b + 40 * (b * b)) + ((101 + 40 * b) + 0))))
      ((4 + 6 * b) + (4 * b + ((12 + 14 * b) + ((4 + 8 * b) + 0)))) some
      (and_more _ _ _ _ _ _ _ _ (number_cost s.bytes b hs)
      (and_more _ _ _ _ _ _ _ _ (kept_cost (same_type (type_of (Fixed t)) (type_of (Fixed t)) || false) (max (size (Fixed t)) (max (size (Fixed t)) 1)) b
      (ap (λ c. c || false) (type_itself (type_of (Fixed t)))) (omega (arith, ht, some)))
      (and_more _ _ _ _ _ _ _ _ (fixed_cost (max (size (Fixed t)) (max s.bytes (max (size (Fixed t)) 1))) b (omega (arith, hs, ht, some)))
      (and_more _ _ _ _ _ _ _ _ (brought_cost false (max s.bytes (max (size (Fixed t)) 1)) b (omega (arith, hs, ht, some))) none))))
      (λ e. let q = square b e in (omega (arith, e, q), omega (arith, e, q), omega (arith, e)))
      (λ two. (omega (arith, two), omega (arith, two), omega (arith, few)))

  number_second : (s : FixedType) (t : IntegerType) (b : ℕ) → size (Fixed s) ≤ b → t.bytes ≤ b → 1 ≤ b → b ≤ 8
      → Within b 0 (update_made op (record { left = Fixed s; right = Integer t; result = Fixed s }) own mode (type_of (Fixed s))
      (type_of (Integer t)))
  number_second s t b hs ht some few =
      by_whole b 0 (update_made op (record { left = Fixed s; right = Integer t; result = Fixed s }) own mode (type_of (Fixed s))
      (type_of (Integer t))) (4 * b + ((4 + 6 * b) + ((150 + 40 * b + 40 * (b * b)) + (4 * b + 0))))
      (0 + (0 + ((151 + 40 * b + 40 * (b * b)) + (0 + 0))))
      (4 * b + ((4 + 6 * b) + ((12 + 14 * b) + (4 * b + 0)))) some
      (and_more _ _ _ _ _ _ _ _ (kept_cost (same_type (type_of (Fixed s)) (type_of (Fixed s)) || false) (max (size (Fixed s)) (max (size (Fixed s)) 1)) b
      (ap (λ c. c || false) (type_itself (type_of (Fixed s)))) (omega (arith, hs, some)))
      (and_more _ _ _ _ _ _ _ _ (number_cost t.bytes b ht)
      (and_more _ _ _ _ _ _ _ _ (fixed_cost (max (size (Fixed s)) (max (size (Fixed s)) (max t.bytes 1))) b (omega (arith, hs, ht, some)))
      (and_more _ _ _ _ _ _ _ _ (kept_cost (same_type (type_of (Fixed s)) (type_of (Fixed s)) || false) (max (size (Fixed s)) (max (size (Fixed s)) 1)) b
      (ap (λ c. c || false) (type_itself (type_of (Fixed s)))) (omega (arith, hs, some))) none))))
      (λ e. let q = square b e in (omega (arith, e, q), omega (arith, e, q), omega (arith, e)))
      (λ two. (omega (arith, two), omega (arith, two), omega (arith, few)))

  -- two fixed-point numbers, of which one at most is converted before
  module _ (s t : FixedType) (b : ℕ) (hs : size (Fixed s) ≤ b) (ht : size (Fixed t) ≤ b) (some : 1 ≤ b) (few : b ≤ 8) where
    abbrev left : FixedType
    left = record { kind = beside s t; sat = s.sat }

    abbrev right : FixedType
    right = record { kind = beside t s; sat = t.sat }

    left_size : size (Fixed left) ≤ b
    left_size = let e = beside_size s t in omega (arith, e, hs)

    right_size : size (Fixed right) ≤ b
    right_size = let e = beside_size t s in omega (arith, e, ht)

    common_most : size (Fixed (common_fixed s t)) ≤ b
    common_most = fixed_size s t b hs ht

    operation : Costs (shape_code (binary_shape op (type_of (Fixed (common_fixed s t))) own (type_of (Fixed left)) (type_of (Fixed right))))
        (150 + 40 * b + 40 * (b * b)) (151 + 40 * b + 40 * (b * b)) (9 + 17 * b)
    operation =
        let x = left_size in let y = right_size in let z = common_most in
        fixed_operation op
        (are_exact op own (type_of (Fixed (common_fixed s t))) (type_of (Fixed left) ∷ type_of (Fixed right) ∷ []))
        (max (size (Fixed (common_fixed s t))) (max (size (Fixed left)) (max (size (Fixed right)) 1))) b (omega arith)
        (omega (arith, x, y, z, some))

    back : Costs (fixed_conversion (same_type (type_of (Fixed s)) (type_of (Fixed (common_fixed s t))) || false)
        (max (size (Fixed s)) (max (size (Fixed (common_fixed s t))) 1))) (100 + 40 * b) (101 + 40 * b) (4 + 8 * b)
    back = let z = common_most in brought_cost (same_type (type_of (Fixed s)) (type_of (Fixed (common_fixed s t))) || false)
        (max (size (Fixed s)) (max (size (Fixed (common_fixed s t))) 1)) b (omega (arith, hs, z, some))

    two_fixed : Within b 0 (update_made op (record { left = Fixed left; right = Fixed right; result = Fixed (common_fixed s t) }) own mode
        (type_of (Fixed s)) (type_of (Fixed t)))
    two_fixed = by_one (one_stays s t)
      where
        by_one : (beside s t ≡ s.kind) ⊎ (beside t s ≡ t.kind)
            → Within b 0 (update_made op (record { left = Fixed left; right = Fixed right; result = Fixed (common_fixed s t) }) own mode
            (type_of (Fixed s)) (type_of (Fixed t)))
        by_one (inl k) =
            let x = left_size in let y = right_size in
            by_whole b 0 (update_made op (record { left = Fixed left; right = Fixed right; result = Fixed (common_fixed s t) }) own mode
            (type_of (Fixed s)) (type_of (Fixed t))) (4 * b + ((100 + 40 * b) + ((150 + 40 * b + 40 * (b * b)) + ((100 + 40 * b) + 0))))
            (0 + ((101 + 40 * b) + ((151 + 40 * b + 40 * (b * b)) + ((101 + 40 * b) + 0))))
            (4 * b + ((4 + 8 * b) + ((9 + 17 * b) + ((4 + 8 * b) + 0)))) some
            (and_more _ _ _ _ _ _ _ _ (kept_cost (same_type (type_of (Fixed left)) (type_of (Fixed s)) || false) (max (size (Fixed left)) (max (size (Fixed s)) 1)) b
            (ap (λ c. c || false) (kind_itself (beside s t) s.kind s.sat k)) (omega (arith, x, hs, some)))
            (and_more _ _ _ _ _ _ _ _ (brought_cost (same_type (type_of (Fixed right)) (type_of (Fixed t)) || false) (max (size (Fixed right)) (max (size (Fixed t)) 1)) b (omega (arith, y, ht, some)))
            (and_more _ _ _ _ _ _ _ _ operation (and_more _ _ _ _ _ _ _ _ back none))))
            (λ e. let q = square b e in (omega (arith, e, q), omega (arith, e, q), omega (arith, e)))
            (λ two. let d = double b two in (omega (arith, two, d), omega (arith, two, d), omega (arith, few)))
        by_one (inr k) =
            let x = left_size in let y = right_size in
            by_whole b 0 (update_made op (record { left = Fixed left; right = Fixed right; result = Fixed (common_fixed s t) }) own mode
            (type_of (Fixed s)) (type_of (Fixed t))) ((100 + 40 * b) + (4 * b + ((150 + 40 * b + 40 * (b * b)) + ((100 + 40 * b) + 0))))
            ((101 + 40 * b) + (0 + ((151 + 40 * b + 40 * (b * b)) + ((101 + 40 * b) + 0))))
            ((4 + 8 * b) + (4 * b + ((9 + 17 * b) + ((4 + 8 * b) + 0)))) some
            (and_more _ _ _ _ _ _ _ _ (brought_cost (same_type (type_of (Fixed left)) (type_of (Fixed s)) || false) (max (size (Fixed left)) (max (size (Fixed s)) 1)) b (omega (arith, x, hs, some)))
            (and_more _ _ _ _ _ _ _ _ (kept_cost (same_type (type_of (Fixed right)) (type_of (Fixed t)) || false) (max (size (Fixed right)) (max (size (Fixed t)) 1)) b
            (ap (λ c. c || false) (kind_itself (beside t s) t.kind t.sat k)) (omega (arith, y, ht, some)))
            (and_more _ _ _ _ _ _ _ _ operation (and_more _ _ _ _ _ _ _ _ back none))))
            (λ e. let q = square b e in (omega (arith, e, q), omega (arith, e, q), omega (arith, e)))
            (λ two. let d = double b two in (omega (arith, two, d), omega (arith, two, d), omega (arith, few)))

-- ---- compound assignments of numbers

-- the greatest number of bytes of an update
abbrev pub limit : Arithmetic → Arithmetic → ℕ
limit (Integer s) (Integer t) = 4
limit x y = 8

abbrev Update : BinOp → OperationTypes → (own mode : Mode) → Arithmetic → Arithmetic → ℕ → Type 0
Update op ts own mode x y b = Within b 0 (update_made op ts own mode (type_of x) (type_of y))

module _ (op : BinOp) (own mode : Mode) (b : ℕ) (some : 1 ≤ b) where
  usual : (x y : Arithmetic) → size x ≤ b → size y ≤ b → b ≤ limit x y
      → Update op (record { left = converted_beside x y; right = converted_beside y x; result = common x y }) own mode x y b
  usual (Integer s) (Integer t) hs ht few =
      integers op own mode s t (common_integer s t) (common_integer t s) (common_integer s t) b hs ht some few
      (λ m two le. let hm : s.bytes ≤ m = omega (arith, hs, le) in let km : t.bytes ≤ m = omega (arith, ht, le) in
      (common_size s t m two hm km, common_size t s m two km hm, common_size s t m two hm km))
  usual (Integer s) (Fixed t) hs ht few = number_first op own mode s t b hs ht some few
  usual (Fixed s) (Integer t) hs ht few = number_second op own mode s t b hs ht some few
  usual (Fixed s) (Fixed t) hs ht few = two_fixed op own mode s t b hs ht some few

  product : (x y : Arithmetic) → size x ≤ b → size y ≤ b → b ≤ limit x y
      → Update op (record { left = factor_beside x y; right = factor_beside y x; result = common x y }) own mode x y b
  product (Integer s) (Integer t) hs ht few =
      integers op own mode s t s t (common_integer s t) b hs ht some few
      (λ m two le. let hm : s.bytes ≤ m = omega (arith, hs, le) in let km : t.bytes ≤ m = omega (arith, ht, le) in
      (hm, km, common_size s t m two hm km))
  product (Integer s) (Fixed t) hs ht few = number_first op own mode s t b hs ht some few
  product (Fixed s) (Integer t) hs ht few = number_second op own mode s t b hs ht some few
  product (Fixed s) (Fixed t) hs ht few = two_fixed op own mode s t b hs ht some few

  shifted : (x y : Arithmetic) → IsIntegerKind y → size x ≤ b → size y ≤ b → b ≤ limit x y
      → Update op (record { left = promoted_type x; right = y; result = promoted_type x }) own mode x y b
  shifted (Integer s) (Integer t) i hs ht few =
      integers op own mode s t (promoted s) t (promoted s) b hs ht some few
      (λ m two le. let hm : s.bytes ≤ m = omega (arith, hs, le) in let km : t.bytes ≤ m = omega (arith, ht, le) in
      (promoted_size s m two hm, km, promoted_size s m two hm))
  shifted (Fixed s) (Integer t) i hs ht few = number_second op own mode s t b hs ht some few
  shifted x (Fixed t) i hs ht few = absurd i

update_within : (op : BinOp) (own mode : Mode) (x y : Arithmetic) (b : ℕ) → 1 ≤ b → HaveCompoundArithmetic op x y → size x ≤ b
    → size y ≤ b → b ≤ limit x y → Update op (update_types op x y) own mode x y b
update_within Add own mode x y b some h p q l = usual Add own mode b some x y p q l
update_within Sub own mode x y b some h p q l = usual Sub own mode b some x y p q l
update_within Mul own mode x y b some h p q l = product Mul own mode b some x y p q l
update_within Div own mode x y b some h p q l = usual Div own mode b some x y p q l
update_within Rem own mode x y b some h p q l = usual Rem own mode b some x y p q l
update_within Shl own mode x y b some h p q l = shifted Shl own mode b some x y h p q l
update_within Shr own mode x y b some h p q l = shifted Shr own mode b some x y h p q l
update_within And own mode x y b some h p q l = usual And own mode b some x y p q l
update_within Or own mode x y b some h p q l = usual Or own mode b some x y p q l
update_within Xor own mode x y b some h p q l = usual Xor own mode b some x y p q l
update_within Lt own mode x y b some h p q l = absurd h
update_within Gt own mode x y b some h p q l = absurd h
update_within Le own mode x y b some h p q l = absurd h
update_within Ge own mode x y b some h p q l = absurd h
update_within Eq own mode x y b some h p q l = absurd h
update_within Ne own mode x y b some h p q l = absurd h

-- ---- pointers

moved_cost : (op : BinOp) (x : Bool) (b m : ℕ) → b ≤ m
    → Costs (binary_code op false x true b) (150 + 40 * m + 40 * (m * m)) (151 + 40 * m + 40 * (m * m)) (64 + 14 * m)
moved_cost op true b m h =
    let c = fixed_cost b m h in let x = c.own_most in let y = c.once_most in let z = c.each_most in
    record { own_most = x; once_most = y; each_most = omega (arith, z) }
moved_cost op false b m h = record { own_most = omega (arith, h); once_most = omega arith; each_most = omega (arith, h) }

moved : (op : BinOp) (own : Mode) (space : SpaceId) (const : Bool) (to right : PlainType) (b other : ℕ)
    → scalar_size (pointer space const to) ≤ b → scalar_size right ≤ b → 1 ≤ b → b ≤ 8 → other ≤ 10
    → Within b other (change_made op own own (pointer space const to) right)
moved op own space const to right b other hs ht some few less =
    by_whole b other (change_made op own own (pointer space const to) right) ((150 + 40 * b + 40 * (b * b)) + 0)
    ((151 + 40 * b + 40 * (b * b)) + 0) ((64 + 14 * b) + 0) some
    (and_more _ _ _ _ _ _ _ _ (moved_cost op (is_fixed right || false) (max (scalar_size (pointer space const to)) (max (scalar_size (pointer space const to))
    (max (scalar_size right) 1))) b (omega (arith, hs, ht, some))) none)
    (λ e. let q = square b e in (omega (arith, e, q, less), omega (arith, e, q), omega (arith, e, less)))
    (λ two. (omega (arith, two, less), omega (arith, two), omega (arith, few, less)))

-- ---- compound assignments

-- an update has no more bytes than its types, or than a pointer
abbrev pub IsNear : ℕ → PlainType → PlainType → Type 0
IsNear b ty right = b ≤ max (scalar_size ty) (max (scalar_size right) 4)

pub compound_pays : (program : PlainProgram) (op : BinOp) (own mode : Mode) (ty right : PlainType) (b : ℕ) → IsScalar ty
    → IsExprType program right → HaveCompoundTypes op ty right → 1 ≤ b → scalar_size ty ≤ b → scalar_size right ≤ b → IsNear b ty right
    → Pays (compound_shape op own mode ty right b)
compound_pays program op own mode void right b i k h some p q n u = absurd i
compound_pays program op own mode (integer s m) void b i k h some p q n u = absurd h
compound_pays program op own mode (integer s m) (integer r c) b i k h some p q n u =
    let x = (integer_bytes m i).1 in let y = (integer_bytes c k).1 in
    whole b u (shape_row (compound_shape op own mode (integer s m) (integer r c) b) u) (change_made op own mode (integer s m) (integer r c))
    (update_within op own mode (Integer (record { signed = s; bytes = m })) (Integer (record { signed = r; bytes = c })) b some h p q
    (omega (arith, n, x, y)) u)
compound_pays program op own mode (integer s m) (fixed e r) b i k h some p q n u =
    let x = (integer_bytes m i).1 in let y = (kind_bytes e).1 in
    whole b u (shape_row (compound_shape op own mode (integer s m) (fixed e r) b) u) (change_made op own mode (integer s m) (fixed e r))
    (update_within op own mode (Integer (record { signed = s; bytes = m })) (Fixed (record { kind = e; sat = r })) b some h p q
    (omega (arith, n, x, y)) u)
compound_pays program op own mode (integer s m) (pointer r c t) b i k h some p q n u = absurd h
compound_pays program op own mode (integer s m) (array t c) b i k h some p q n u = absurd k
compound_pays program op own mode (integer s m) (struct j) b i k h some p q n u = absurd k
compound_pays program op own mode (fixed e s) void b i k h some p q n u = absurd h
compound_pays program op own mode (fixed e s) (integer r c) b i k h some p q n u =
    let x = (kind_bytes e).1 in let y = (integer_bytes c k).1 in
    whole b u (shape_row (compound_shape op own mode (fixed e s) (integer r c) b) u) (change_made op own mode (fixed e s) (integer r c))
    (update_within op own mode (Fixed (record { kind = e; sat = s })) (Integer (record { signed = r; bytes = c })) b some h p q
    (omega (arith, n, x, y)) u)
compound_pays program op own mode (fixed e s) (fixed f r) b i k h some p q n u =
    let x = (kind_bytes e).1 in let y = (kind_bytes f).1 in
    whole b u (shape_row (compound_shape op own mode (fixed e s) (fixed f r) b) u) (change_made op own mode (fixed e s) (fixed f r))
    (update_within op own mode (Fixed (record { kind = e; sat = s })) (Fixed (record { kind = f; sat = r })) b some h p q
    (omega (arith, n, x, y)) u)
compound_pays program op own mode (fixed e s) (pointer r c t) b i k h some p q n u = absurd h
compound_pays program op own mode (fixed e s) (array t c) b i k h some p q n u = absurd k
compound_pays program op own mode (fixed e s) (struct j) b i k h some p q n u = absurd k
compound_pays program op own mode (pointer s c t) right b i k h some p q n u =
    let x = (some_width s).1 in let y = small program right k in
    whole b u (shape_row (compound_shape op own mode (pointer s c t) right b) u) (change_made op own mode (pointer s c t) right)
    (moved op own s c t right b 0 p q some (omega (arith, n, x, y)) (omega arith) u)
compound_pays program op own mode (array t c) right b i k h some p q n u = absurd i
compound_pays program op own mode (struct j) right b i k h some p q n u = absurd i

-- ---- steps

abbrev int_type : IntegerType
int_type = record { signed = true; bytes = 2 }

stepped_sum : (up : Bool) (b m : ℕ) → b ≤ m → Costs (binary_code (step_operator up) false false false b) (6 + 18 * m) 0 (6 + 18 * m)
stepped_sum true b m h = sum_cost b m h
stepped_sum false b m h = sum_cost b m h

step_types_are : (up : Bool) (x : Arithmetic) → update_types (step_operator up) x (Integer int_type)
    ≡ record { left = converted_beside x (Integer int_type); right = converted_beside (Integer int_type) x; result = common x (Integer int_type) }
step_types_are true x = refl
step_types_are false x = refl

abbrev stepped_made : Bool → Mode → OperationTypes → PlainType → List Shape
stepped_made up mode ts ty = conversion_shape ty mode (type_of ts.left) ∷ update_made (step_operator up) ts mode mode ty int

stepped_integer : (up : Bool) (mode : Mode) (s : IntegerType) (b : ℕ) → 1 ≤ b → s.bytes ≤ b → b ≤ 4
    → Within b 10 (stepped_made up mode (update_types (step_operator up) (Integer s) (Integer int_type)) (type_of (Integer s)))
stepped_integer up mode s b some hs few =
    let c = common_integer s int_type in let d = common_integer int_type s in
    subst (λ ts. Within b 10 (stepped_made up mode ts (type_of (Integer s)))) (sym (step_types_are up (Integer s)))
    (by_bytes b 10 (stepped_made up mode (record { left = Integer c; right = Integer d; result = Integer c }) (type_of (Integer s)))
    (λ m. (4 + 6 * m) + ((4 + 6 * m) + ((4 + 6 * m) + ((6 + 18 * m) + ((4 + 6 * m) + 0)))))
    (λ m. 0 + (0 + (0 + (0 + (0 + 0)))))
    (λ m. (4 + 6 * m) + ((4 + 6 * m) + ((4 + 6 * m) + ((6 + 18 * m) + ((4 + 6 * m) + 0))))) some
    (λ m two le. let hm : s.bytes ≤ m = omega (arith, hs, le) in
    let kc = common_size s int_type m two hm two in let kd = common_size int_type s m two two hm in
    and_more _ _ _ _ _ _ _ _ (number_cost s.bytes m hm)
    (and_more _ _ _ _ _ _ _ _ (number_cost c.bytes m kc)
    (and_more _ _ _ _ _ _ _ _ (number_cost d.bytes m kd)
    (and_more _ _ _ _ _ _ _ _ (stepped_sum up (max c.bytes (max c.bytes (max d.bytes 1))) m (omega (arith, two, kc, kd)))
    (and_more _ _ _ _ _ _ _ _ (number_cost s.bytes m hm) none)))))
    (omega arith) (omega arith) (omega arith) (λ two. (omega (arith, two), omega (arith, two), omega (arith, few))))

stepped_fixed : (up : Bool) (mode : Mode) (s : FixedType) (b : ℕ) → 1 ≤ b → size (Fixed s) ≤ b → b ≤ 8
    → Within b 10 (stepped_made up mode (update_types (step_operator up) (Fixed s) (Integer int_type)) (type_of (Fixed s)))
stepped_fixed up mode s b some hs few =
    let kept : (m : ℕ) → 2 ≤ m → b ≤ m → Costs (shape_code (conversion_shape (type_of (Fixed s)) mode (type_of (Fixed s)))) (4 * m) 0 (4 * m) =
    λ m two le. kept_cost (same_type (type_of (Fixed s)) (type_of (Fixed s)) || false) (max (size (Fixed s)) (max (size (Fixed s)) 1)) m (ap (λ c. c || false) (type_itself (type_of (Fixed s))))
    (omega (arith, hs, le, two)) in
    subst (λ ts. Within b 10 (stepped_made up mode ts (type_of (Fixed s)))) (sym (step_types_are up (Fixed s)))
    (by_bytes b 10 (stepped_made up mode (record { left = Fixed s; right = Integer int_type; result = Fixed s }) (type_of (Fixed s)))
    (λ m. 4 * m + (4 * m + (16 + ((150 + 40 * m + 40 * (m * m)) + (4 * m + 0)))))
    (λ m. 0 + (0 + (0 + ((151 + 40 * m + 40 * (m * m)) + (0 + 0)))))
    (λ m. 4 * m + (4 * m + (16 + ((12 + 14 * m) + (4 * m + 0))))) some
    (λ m two le.
    and_more _ _ _ _ _ _ _ _ (kept m two le)
    (and_more _ _ _ _ _ _ _ _ (kept m two le)
    (and_more _ _ _ _ _ _ _ _ (number_cost 2 2 (omega arith))
    (and_more _ _ _ _ _ _ _ _ (fixed_cost (max (size (Fixed s)) (max (size (Fixed s)) (max 2 1))) m (omega (arith, hs, le, two)))
    (and_more _ _ _ _ _ _ _ _ (kept m two le) none)))))
    (omega arith) (omega arith) (omega arith) (λ two. (omega (arith, two), omega (arith, two), omega (arith, few))))

pub step_pays : (up : Bool) (mode : Mode) (ty : PlainType) (b : ℕ) → IsScalar ty → 1 ≤ b → scalar_size ty ≤ b → IsNear b ty ty
    → Pays (step_shape up mode ty b)
step_pays up mode void b i some p n u = absurd i
step_pays up mode (integer s m) b i some p n u =
    let x = (integer_bytes m i).1 in stepped_integer up mode (record { signed = s; bytes = m }) b some p (omega (arith, n, x)) u
step_pays up mode (fixed k s) b i some p n u =
    let x = (kind_bytes k).1 in stepped_fixed up mode (record { kind = k; sat = s }) b some p (omega (arith, n, x)) u
step_pays up mode (pointer s c t) b i some p n u =
    let x = some_width s in let l = x.0 in let h = x.1 in
    moved (step_operator up) mode s c t int b 10 p (omega (arith, l, p)) some (omega (arith, n, h)) (omega arith) u
step_pays up mode (array t c) b i some p n u = absurd i
step_pays up mode (struct j) b i some p n u = absurd i
