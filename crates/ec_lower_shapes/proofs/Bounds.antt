-- What operations count at any number of uses, by three sums: where each has code of its own, what stands once where
-- they are called, and what each use has then.
use Rattle.std.proofs.Common.{◌≡◌, ℕ, ◌+◌, ◌*◌, ◌≤◌, Bool, true, false, List, [], ◌∷◌, arith}
use Rattle.std.specs.Prelude.{if◌then◌else◌}
use Rattle.std.proofs.lemmas.Nat.{mul-le}
use Rattle.ec_core.specs.declared.expressions.BinOp.{BinOp}
use Rattle.ec_core.specs.declared.expressions.BinOp.TheVariants.{Add, Sub, Mul, Div, Rem, Shl, Shr, And, Or, Xor, Lt, Gt, Le, Ge, Eq, Ne}
use Rattle.ec_shapes.specs.Shapes.{total, least_row}
use Rattle.ec_core_shapes.specs.Shapes.{Shape}
use Rattle.ec_ir_shapes.specs.Costs.{Code, in_line, callable, code_row, integer_code, exact_code, binary_code}
use Rattle.ec_ir_shapes.specs.Costs.{shape_code, op_row}
use Rattle.ec_lower_shapes.proofs.Sizes.{at_most}

abbrev pub own_of : Code → ℕ
own_of (in_line own) = own
own_of (callable own call) = own

abbrev pub once_of : Code → ℕ
once_of (in_line own) = 0
once_of (callable own call) = own + 1

abbrev pub each_of : Code → ℕ
each_of (in_line own) = own
each_of (callable own call) = call

row_own : (c : Code) (u : ℕ) → code_row c u ≤ u * own_of c
row_own (in_line own) u = omega arith
row_own (callable own call) u = omega arith

row_called : (c : Code) (u : ℕ) → code_row c u ≤ once_of c + u * each_of c
row_called (in_line own) u = omega arith
row_called (callable own call) u = omega arith

abbrev pub all_own : List Shape → ℕ
all_own ks = total (λ k. own_of (shape_code k)) ks

abbrev pub all_once : List Shape → ℕ
all_once ks = total (λ k. once_of (shape_code k)) ks

abbrev pub all_each : List Shape → ℕ
all_each ks = total (λ k. each_of (shape_code k)) ks

rows_own : (ks : List Shape) (u : ℕ) → total (λ k. op_row k u) ks ≤ u * all_own ks
rows_own [] u = omega arith
rows_own (k ∷ ks) u = let a = row_own (shape_code k) u in let b = rows_own ks u in omega (arith, a, b)

rows_called : (ks : List Shape) (u : ℕ) → total (λ k. op_row k u) ks ≤ all_once ks + u * all_each ks
rows_called [] u = omega arith
rows_called (k ∷ ks) u = let a = row_called (shape_code k) u in let b = rows_called ks u in omega (arith, a, b)

-- the three sums at most
pub record Bound (ks : List Shape) (own once each : ℕ) : Type 0 where
  pub own_most : all_own ks ≤ own
  pub once_most : all_once ks ≤ once
  pub each_most : all_each ks ≤ each

-- the row of a part is no less, where its words beside the shapes are within it too
pub paid : (ks : List Shape) (a o e own words routine call u : ℕ) → Bound ks a o e → own + a ≤ words → o ≤ routine → own + e ≤ call
    → u * own + total (λ k. op_row k u) ks ≤ least_row words routine call u
paid ks a o e own words routine call u h x y z =
    let p = rows_own ks u in
    let q = rows_called ks u in
    let om = h.own_most in let on = h.once_most in let em = h.each_most in
    let r = mul-le u (own + all_own ks) u words (omega arith) (omega (arith, x, om)) in
    let s = mul-le u (own + all_each ks) u call (omega arith) (omega (arith, z, em)) in
    omega (arith, p, q, r, s, on, y)

pub none : Bound [] 0 0 0
none = record { own_most = omega arith; once_most = omega arith; each_most = omega arith }

-- ---- one operation

pub record Costs (c : Code) (own once each : ℕ) : Type 0 where
  pub own_most : own_of c ≤ own
  pub once_most : once_of c ≤ once
  pub each_most : each_of c ≤ each

pub and_more : (k : Shape) (ks : List Shape) (a o e b p f : ℕ) → Costs (shape_code k) a o e → Bound ks b p f
    → Bound (k ∷ ks) (a + b) (o + p) (e + f)
and_more k ks a o e b p f h g =
    let x = h.own_most in let y = h.once_most in let z = h.each_most in
    let u = g.own_most in let v = g.once_most in let w = g.each_most in
    record { own_most = omega (arith, x, u); once_most = omega (arith, y, v); each_most = omega (arith, z, w) }

pub integer_cost : (op : BinOp) (b m : ℕ) → b ≤ m
    → Costs (integer_code op b) (150 + 40 * m + 40 * (m * m)) (151 + 40 * m + 40 * (m * m)) (40 + 20 * m)
integer_cost op b m h = by_operator op
  where
    q : b * b ≤ m * m
    q = at_most b m h

    own : (n : ℕ) → n ≤ 6 + 18 * b → Costs (in_line n) (150 + 40 * m + 40 * (m * m)) (151 + 40 * m + 40 * (m * m)) (40 + 20 * m)
    own n l = record { own_most = omega (arith, l, h); once_most = omega arith; each_most = omega (arith, l, h) }

    loop : Costs (integer_code Div b) (150 + 40 * m + 40 * (m * m)) (151 + 40 * m + 40 * (m * m)) (40 + 20 * m)
    loop = record { own_most = omega (arith, h, q); once_most = omega (arith, h, q); each_most = omega (arith, h) }

    by_operator : (op : BinOp)
        → Costs (integer_code op b) (150 + 40 * m + 40 * (m * m)) (151 + 40 * m + 40 * (m * m)) (40 + 20 * m)
    by_operator Add = own (6 + 18 * b) (omega arith)
    by_operator Sub = own (6 + 18 * b) (omega arith)
    by_operator Mul = own (6 + 18 * b) (omega arith)
    by_operator Div = loop
    by_operator Rem = loop
    by_operator Shl = own (6 + 18 * b) (omega arith)
    by_operator Shr = own (6 + 18 * b) (omega arith)
    by_operator And = own (10 * b) (omega arith)
    by_operator Or = own (10 * b) (omega arith)
    by_operator Xor = own (10 * b) (omega arith)
    by_operator Lt = own (6 + 18 * b) (omega arith)
    by_operator Gt = own (6 + 18 * b) (omega arith)
    by_operator Le = own (6 + 18 * b) (omega arith)
    by_operator Ge = own (6 + 18 * b) (omega arith)
    by_operator Eq = own (6 + 18 * b) (omega arith)
    by_operator Ne = own (6 + 18 * b) (omega arith)

-- operands of one format
pub exact_cost : (op : BinOp) (b m : ℕ) → 1 ≤ b → b ≤ m → Costs (exact_code op b) (9 + 17 * m) 0 (9 + 17 * m)
exact_cost op b m some h = by_operator op
  where
    own : (n : ℕ) → n ≤ 9 + 17 * b → Costs (in_line n) (9 + 17 * m) 0 (9 + 17 * m)
    own n l = record { own_most = omega (arith, l, h); once_most = omega arith; each_most = omega (arith, l, h) }

    by_operator : (op : BinOp) → Costs (exact_code op b) (9 + 17 * m) 0 (9 + 17 * m)
    by_operator Add = own (1 + 17 * b) (omega arith)
    by_operator Sub = own (1 + 17 * b) (omega arith)
    by_operator Mul = own (19 + 5 * b) (omega (arith, some))
    by_operator Div = own (19 + 5 * b) (omega (arith, some))
    by_operator Rem = own (19 + 5 * b) (omega (arith, some))
    by_operator Shl = own (19 + 5 * b) (omega (arith, some))
    by_operator Shr = own (19 + 5 * b) (omega (arith, some))
    by_operator And = own (19 + 5 * b) (omega (arith, some))
    by_operator Or = own (19 + 5 * b) (omega (arith, some))
    by_operator Xor = own (19 + 5 * b) (omega (arith, some))
    by_operator Lt = own (19 + 5 * b) (omega (arith, some))
    by_operator Gt = own (19 + 5 * b) (omega (arith, some))
    by_operator Le = own (19 + 5 * b) (omega (arith, some))
    by_operator Ge = own (19 + 5 * b) (omega (arith, some))
    by_operator Eq = own (19 + 5 * b) (omega (arith, some))
    by_operator Ne = own (19 + 5 * b) (omega (arith, some))

pub sum_cost : (b m : ℕ) → b ≤ m → Costs (in_line (6 + 18 * b)) (6 + 18 * m) 0 (6 + 18 * m)
sum_cost b m h = record { own_most = omega (arith, h); once_most = omega arith; each_most = omega (arith, h) }

pub pointers_cost : (b m : ℕ) → b ≤ m → Costs (in_line (64 + 5 * b)) (64 + 5 * m) 0 (64 + 5 * m)
pointers_cost b m h = record { own_most = omega (arith, h); once_most = omega arith; each_most = omega (arith, h) }

pub fixed_cost : (b m : ℕ) → b ≤ m
    → Costs (callable (150 + 40 * b + 40 * (b * b)) (12 + 14 * b)) (150 + 40 * m + 40 * (m * m)) (151 + 40 * m + 40 * (m * m)) (12 + 14 * m)
fixed_cost b m h =
    let q = at_most b m h in
    record { own_most = omega (arith, h, q); once_most = omega (arith, h, q); each_most = omega (arith, h) }

pub number_cost : (n m : ℕ) → n ≤ m → Costs (in_line (4 + 6 * n)) (4 + 6 * m) 0 (4 + 6 * m)
number_cost n m h = record { own_most = omega (arith, h); once_most = omega arith; each_most = omega (arith, h) }

-- an operator on two fixed-point numbers, of one format or not
pub fixed_operation : (op : BinOp) (exact : Bool) (b m : ℕ) → 1 ≤ b → b ≤ m
    → Costs (binary_code op exact true false b) (150 + 40 * m + 40 * (m * m)) (151 + 40 * m + 40 * (m * m)) (9 + 17 * m)
fixed_operation op true b m some h =
    let c = exact_cost op b m some h in
    let x = c.own_most in let y = c.once_most in let z = c.each_most in
    record { own_most = omega (arith, x); once_most = omega (arith, y); each_most = omega (arith, z) }
fixed_operation op false b m some h =
    let c = fixed_cost b m h in
    let x = c.own_most in let y = c.once_most in let z = c.each_most in
    record { own_most = x; once_most = y; each_most = omega (arith, z, some, h) }

-- a conversion with a fixed-point type
abbrev pub fixed_conversion : (same : Bool) → ℕ → Code
fixed_conversion same b = if same then in_line (4 * b) else callable (100 + 40 * b) (4 + 8 * b)

pub brought_cost : (same : Bool) (b m : ℕ) → b ≤ m → Costs (fixed_conversion same b) (100 + 40 * m) (101 + 40 * m) (4 + 8 * m)
brought_cost true b m h = record { own_most = omega (arith, h); once_most = omega arith; each_most = omega (arith, h) }
brought_cost false b m h = record { own_most = omega (arith, h); once_most = omega (arith, h); each_most = omega (arith, h) }

pub kept_cost : (same : Bool) (b m : ℕ) → same ≡ true → b ≤ m → Costs (fixed_conversion same b) (4 * m) 0 (4 * m)
kept_cost true b m e h = record { own_most = omega (arith, h); once_most = omega arith; each_most = omega (arith, h) }
kept_cost false b m e h = cc
