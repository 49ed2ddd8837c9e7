-- The operations of a program count by shapes at most what its parts do.
use Rattle.std.proofs.Common.{◌≡◌, ◌⊎◌, ℕ, zero, suc, ◌+◌, ◌*◌, ◌≤◌, Bool, true, false, List, [], ◌∷◌, map, refl, ap, inl, inr, arith}
use Rattle.std.specs.Prelude.{if◌then◌else◌}
use Rattle.std.specs.List.{AllByRecursion}
use Rattle.std.proofs.lemmas.Nat.{mul-le}
use Rattle.ec_iohw.specs.declared.table.IoTable.{IoTable}
use Rattle.ec_core.specs.Plain.{PlainFunction, PlainProgram}
use Rattle.ec_core.specs.PortTable.{plain_table}
use Rattle.ec_core.specs.Valid.{EachFrom, IsFunction}
use Rattle.ec_ir.specs.Operations.{PlainIr}
use Rattle.ec_lower_code.specs.Code.{lowered_function, function_code}
use Rattle.ec_shapes.specs.Laws.{IsPaid, PartsCountMore}
use Rattle.ec_shapes.specs.Shapes.{total, uses, all_made}
use Rattle.ec_shapes.proofs.Parts.{parts-count-more}
use Rattle.ec_shapes.proofs.Sums.{total_joined}
use Rattle.ec_core_shapes.specs.Parts.{Part, alone, shaped, functions_parts}
use Rattle.ec_core_shapes.specs.SharedWeight.{alone_words, shapes_in}
use Rattle.ec_core_shapes.specs.Shapes.{Shape, same_shape, shape_row}
use Rattle.ec_core_shapes.proofs.Told.{shapes_told}
use Rattle.ec_ir_shapes.specs.Costs.{Code, in_line, callable, code_row, own_in, shapes_with, shape_code, op_shapes, op_row, own_words, all_code}
use Rattle.ec_ir_shapes.proofs.Rows.{codes_are_rows}
use Rattle.ec_lower_shapes.specs.Laws.{LoweredCountsByShapes}
use Rattle.ec_lower_shapes.proofs.Fits.{shape_cost, op_cost, code_cost, parts_cost, ArePaid, function_fits}
use Rattle.ec_lower_shapes.proofs.Made.{made, own, Pays}

-- ---- what is called, and what stands at each use

abbrev called_shapes : Shape → List Shape
called_shapes s = shapes_with (shape_code s) s

-- the operations of a part that are called
abbrev called_made : Shape → List Shape
called_made s = all_made called_shapes (made s)

-- and what the others count by themselves
abbrev own_made : Shape → ℕ
own_made s = own s + total (λ k. own_in (shape_code k)) (made s)

row_split : (k : Shape) (u : ℕ) → op_row k u ≡ u * own_in (shape_code k) + total (λ x. op_row x u) (called_shapes k)
row_split k u = by_code (shape_code k) refl
  where
    by_code : (c : Code) → shape_code k ≡ c → code_row c u ≡ u * own_in c + total (λ x. op_row x u) (shapes_with c k)
    by_code (in_line n) e = omega arith
    by_code (callable n m) e = let x = ap (λ c. code_row c u) e in omega (arith, x)

rows_split : (ks : List Shape) (u : ℕ)
    → total (λ k. op_row k u) ks ≡ u * total (λ k. own_in (shape_code k)) ks + total (λ k. op_row k u) (all_made called_shapes ks)
rows_split [] u = omega arith
rows_split (k ∷ ks) u =
    let a = row_split k u in
    let b = rows_split ks u in
    let c = total_joined (λ x. op_row x u) (called_shapes k) (all_made called_shapes ks) in
    omega (arith, a, b, c)

called_paid : (s : Shape) → Pays s → IsPaid called_made own_made op_row shape_row s
called_paid s p u = let a = p u in let b = rows_split (made s) u in omega (arith, a, b)

all_paid : (ss : List Shape) → AllByRecursion Pays ss → AllByRecursion (IsPaid called_made own_made op_row shape_row) ss
all_paid [] h = tt
all_paid (s ∷ ss) h = (called_paid s h.0, all_paid ss h.1)

-- ---- any words of shapes

module _ (w : Shape → ℕ) where
  made_cost : (ks : List Shape)
      → total (shape_cost w) ks ≡ total (λ k. own_in (shape_code k)) ks + total w (all_made called_shapes ks)
  made_cost [] = omega arith
  made_cost (k ∷ ks) =
      let a = made_cost ks in let b = total_joined w (called_shapes k) (all_made called_shapes ks) in omega (arith, a, b)

  parts_split : (parts : List Part) → parts_cost w parts
      ≡ total alone_words parts + (total own_made (shapes_in parts) + total w (all_made called_made (shapes_in parts)))
  parts_split [] = omega arith
  parts_split (alone n ∷ parts) = let a = parts_split parts in omega (arith, a)
  parts_split (shaped s ∷ parts) =
      let a = parts_split parts in
      let b = made_cost (made s) in
      let c = total_joined w (called_made s) (all_made called_made (shapes_in parts)) in
      omega (arith, a, b, c)

  code_split : (code : List PlainIr) → code_cost w code ≡ total own_words code + total w (all_made op_shapes code)
  code_split [] = omega arith
  code_split (i ∷ code) =
      let a = code_split code in let b = total_joined w (op_shapes i) (all_made op_shapes code) in omega (arith, a, b)

  functions_fit : (program : PlainProgram) (table : IoTable) (n : ℕ) (fs : List PlainFunction) → EachFrom n (IsFunction program table) fs
      → (code_cost w (all_code (map (lowered_function program (plain_table table)) fs)) ≤ parts_cost w (functions_parts (plain_table table) fs))
      × ArePaid (functions_parts (plain_table table) fs)
  functions_fit program table n [] v = (omega arith, tt)
  functions_fit program table n (g ∷ fs) v =
      let y = functions_fit program table (n + 1) fs v.1 in
      let x = function_fits w program table n g (functions_parts (plain_table table) fs) v.0 in
      let j = total_joined (op_cost w) (function_code program (plain_table table) g) (all_code (map (lowered_function program (plain_table table)) fs)) in
      let x0 = x.0 in let y0 = y.0 in
      (omega (arith, x0, y0, j), x.1 y.1)

-- ---- one shape by itself

-- a shape counts more than all else together
test_words : (k : Shape) (n : ℕ) (xs : List Shape)
    → total (λ x. if same_shape x k then suc n else 0) xs ≡ uses same_shape xs k * suc n
test_words k n [] = omega arith
test_words k n (x ∷ xs) = by_test (same_shape x k) (test_words k n xs)
  where
    by_test : (b : Bool) → total (λ x. if same_shape x k then suc n else 0) xs ≡ uses same_shape xs k * suc n
        → (if b then suc n else 0) + total (λ x. if same_shape x k then suc n else 0) xs
        ≡ ((if b then 1 else 0) + uses same_shape xs k) * suc n
    by_test true h = omega (arith, h)
    by_test false h = omega (arith, h)

no_words : (xs : List Shape) → total (λ x. 0) xs ≡ 0
no_words [] = refl
no_words (x ∷ xs) = let a = no_words xs in omega (arith, a)

at_most_or_more : (a b : ℕ) → (a ≤ b) ⊎ (suc b ≤ a)
at_most_or_more zero b = inl (omega arith)
at_most_or_more (suc a) zero = inr (omega arith)
at_most_or_more (suc a) (suc b) = by_rest (at_most_or_more a b)
  where
    by_rest : (a ≤ b) ⊎ (suc b ≤ a) → (suc a ≤ suc b) ⊎ (suc (suc b) ≤ suc a)
    by_rest (inl h) = inl (omega (arith, h))
    by_rest (inr h) = inr (omega (arith, h))

fewer_uses : (a b n : ℕ) → a * suc n ≤ n + b * suc n → a ≤ b
fewer_uses a b n h = by_order (at_most_or_more a b)
  where
    by_order : (a ≤ b) ⊎ (suc b ≤ a) → a ≤ b
    by_order (inl l) = l
    by_order (inr m) =
        let x = mul-le (suc b) (suc n) a (suc n) m (omega arith) in
        let y : suc b * suc n ≡ suc n + b * suc n = omega arith in
        absurd (omega (arith, h, x, y))

pub lowered_counts : LoweredCountsByShapes
lowered_counts program io valid =
    let code = all_code (map (lowered_function program (plain_table io)) program.functions) in
    let parts = functions_parts (plain_table io) program.functions in
    let ss = shapes_in parts in
    let fits = λ (w : Shape → ℕ). functions_fit w program io 0 program.functions valid.functions in
    let plain : total own_words code ≤ total alone_words parts + total own_made ss =
    (let x = (fits (λ k. 0)).0 in
    let a = code_split (λ k. 0) code in let b = parts_split (λ k. 0) parts in
    let c = no_words (all_made op_shapes code) in let d = no_words (all_made called_made ss) in
    omega (arith, x, a, b, c, d)) in
    let fewer : (k : Shape) → uses same_shape (all_made op_shapes code) k ≤ uses same_shape (all_made called_made ss) k =
    λ k. (let n = total alone_words parts + total own_made ss in
    let w : Shape → ℕ = λ x. if same_shape x k then suc n else 0 in
    let x = (fits w).0 in
    let a = code_split w code in let b = parts_split w parts in
    let c = test_words k n (all_made op_shapes code) in let d = test_words k n (all_made called_made ss) in
    fewer_uses (uses same_shape (all_made op_shapes code) k) (uses same_shape (all_made called_made ss) k) n (omega (arith, x, a, b, c, d))) in
    let shapes = parts_more same_shape same_shape called_made own_made op_row shape_row ss (all_made op_shapes code) shapes_told shapes_told
    codes_are_rows (all_paid ss (fits (λ k. 0)).1) fewer in
    omega (arith, plain, shapes)
  where
    parts_more : PartsCountMore Shape Shape
    parts_more = parts-count-more Shape Shape
