-- The words of each operation's own code: at most what it counts by itself, or its shape for one use.
use Rattle.std.proofs.Common.{◌≡◌, ◌⊎◌, ℕ, ◌+◌, ◌*◌, ◌≤◌, true, false, List, [], ◌∷◌, ◌++◌, refl, ap, arith}
use Rattle.std.specs.Prelude.{⊤, ◌==◌, ◌&&◌, Option, Some, None, option_map, max}
use Rattle.std.specs.List.{AllByRecursion}
use Rattle.std.proofs.lemmas.Bool.{and_parts}
use Rattle.ec_asm.specs.Items.{code_words}
use Rattle.ec_core.specs.Accesses.{element_size}
use Rattle.ec_core.specs.Layout.{scalar_size}
use Rattle.ec_core.specs.Plain.{PlainProgram}
use Rattle.ec_core_shapes.specs.Shapes.{Shape, unary_shape, binary_shape, conversion_shape}
use Rattle.ec_shapes.specs.Shapes.{total, all_made}
use Rattle.ec_ir.specs.declared.operations.Temp.{Temp}
use Rattle.ec_ir.specs.Costs.{op_words, binary_words, index_words}
use Rattle.ec_ir.specs.Operations.{PlainIr, constant, copy, address, field, load_at, store_at, load_object}
use Rattle.ec_ir.specs.Operations.{store_object, binary_op, unary_op, conversion, label, jump, branch_zero}
use Rattle.ec_ir.specs.Operations.{call_function, return_from, port_in, port_out, load_cell, store_cell, cell_port}
use Rattle.ec_ir.specs.Operations.{PlainIrProgram}
use Rattle.ec_ir.specs.Temporaries.{low_bytes}
use Rattle.ec_ir.specs.Valid.{ValidOperation}
use Rattle.ec_ir_known.specs.declared.known.RightNumber.{RightNumber}
use Rattle.ec_ir_shapes.specs.Costs.{Code, in_line, callable, shape_code, own_in, shapes_with, own_words, op_shapes}
use Rattle.ec_select_operations.specs.declared.families.Told.{Told}
use Rattle.ec_select_operations.specs.declared.homes.Homes.{Homes}
use Rattle.ec_select_operations.specs.Code.{object_code, Linkage, operation_code, displacement, result_wanted, is_index}
use Rattle.ec_select_operations.specs.Code.{is_signed, is_difference, offset_code, load_index_code, own_telling}
use Rattle.ec_select_places.specs.Steps.{z_pair}
use Rattle.ec_select_operations.specs.Homes.{home}
use Rattle.ec_select_operations.specs.Needs.{Need, wanted, moves_pointer, compared_bytes as bytes_compared, number_known}
use Rattle.ec_select_operations.specs.Places.{object_location}
use Rattle.ec_select_operations.specs.Pointers.{kept_in, has_tables}
use Rattle.ec_select_operations.specs.Ports.{cell_place}
use Rattle.ec_select_functions.specs.Covered.{IsCovered}
use Rattle.ec_select_functions.proofs.Taken.{compared_within}
use Rattle.ec_select.specs.InPlace.{IsInPlace}
use Rattle.ec_select.proofs.OperationWords.{WordLaws, move_words, addressed_most, further_most, loaded_by_most, stored_by_most}
use Rattle.ec_select.proofs.OperationWords.{object_most, tested_most}
use Rattle.ec_select.proofs.OperationWords.{jump_most}
use Rattle.ec_select.proofs.OperationWords.{call_most, return_most, one_binary, one_unary, one_conversion, indexed_most}
use Rattle.ec_select.proofs.Indexed.{index_few, moves_pointers, kind_words, index_most}
use Rattle.ec_select.proofs.OwnWords.{most_in, binary_own, indexed_row, unary_own, conversion_own}
use Rattle.ec_select.proofs.PointerTypes.{made_bytes}
use Rattle.ec_select.proofs.PortItems.{point_words, in_words_most, out_words_most, cell_in_words, cell_out_words}
use Rattle.ec_select.proofs.ByNumber.{store_object_words}
use Rattle.ec_select.proofs.Words.{copy_words_most}

-- ---- what an operation may have

-- by itself, or what its shape counts for one use
abbrev pub shape_most : Shape → ℕ
shape_most s = most_in (shape_code s)

abbrev pub use_words : PlainIr → ℕ
use_words i = own_words i + total shape_most (op_shapes i)

-- temporaries of operators and conversions have the bytes of their types
abbrev pub HasTypeBytes : PlainIr → Type 0
HasTypeBytes (binary_op op ty mode to a aty b bty) =
    (to.bytes ≡ scalar_size ty) × (a.bytes ≡ scalar_size aty) × (b.bytes ≡ scalar_size bty)
HasTypeBytes (unary_op op ty mode to a) = (to.bytes ≡ scalar_size ty) × (a.bytes ≡ scalar_size ty)
HasTypeBytes (conversion to ty mode a aty) = (to.bytes ≡ scalar_size ty) × (a.bytes ≡ scalar_size aty)
HasTypeBytes i = ⊤

-- as those of valid operations have
pub has_type_bytes : (cells : ℕ) (p : PlainIrProgram) (results : ℕ → ℕ) (f slots : ℕ) (code : List PlainIr) (i : PlainIr)
    → ValidOperation cells p results f slots code i → HasTypeBytes i
has_type_bytes cells p results f slots code (binary_op op ty mode to a aty b bty) h = (h.0.bytes, h.1.bytes, h.2.bytes)
has_type_bytes cells p results f slots code (unary_op op ty mode to a) h = (h.0.bytes, h.1.bytes)
has_type_bytes cells p results f slots code (conversion to ty mode a aty) h = (h.0.bytes, h.1.bytes)
has_type_bytes cells p results f slots code (constant t n) h = tt
has_type_bytes cells p results f slots code (copy to from) h = tt
has_type_bytes cells p results f slots code (address t o offset) h = tt
has_type_bytes cells p results f slots code (field ptr space offset) h = tt
has_type_bytes cells p results f slots code (load_at to ptr space) h = tt
has_type_bytes cells p results f slots code (store_at ptr space from) h = tt
has_type_bytes cells p results f slots code (load_object t o offset) h = tt
has_type_bytes cells p results f slots code (store_object o offset t) h = tt
has_type_bytes cells p results f slots code (label l) h = tt
has_type_bytes cells p results f slots code (jump l) h = tt
has_type_bytes cells p results f slots code (branch_zero t l) h = tt
has_type_bytes cells p results f slots code (call_function g to) h = tt
has_type_bytes cells p results f slots code (return_from from) h = tt
has_type_bytes cells p results f slots code (port_in to port index width) h = tt
has_type_bytes cells p results f slots code (port_out from port index width) h = tt
has_type_bytes cells p results f slots code (load_cell to cell) h = tt
has_type_bytes cells p results f slots code (store_cell cell from) h = tt
has_type_bytes cells p results f slots code (cell_port read t cell offset index width) h = tt

pub have_type_bytes : (cells : ℕ) (p : PlainIrProgram) (results : ℕ → ℕ) (f slots : ℕ) (all code : List PlainIr)
    → AllByRecursion (ValidOperation cells p results f slots all) code → AllByRecursion HasTypeBytes code
have_type_bytes cells p results f slots all [] h = tt
have_type_bytes cells p results f slots all (i ∷ code) h =
    (has_type_bytes cells p results f slots all i h.0, have_type_bytes cells p results f slots all code h.1)

at_most : (x y z : ℕ) → x ≤ y → y ≤ z → x ≤ z
at_most x y z h k = omega (arith, h, k)

-- a shape in line counts by itself, and another one as a shape
shape_use : (c : Code) (s : Shape) → shape_code s ≡ c → most_in c ≤ own_in c + total shape_most (shapes_with c s)
shape_use (in_line own) s e = omega arith
shape_use (callable own call) s e = let q : shape_most s ≡ own = ap most_in e in omega (arith, q)

-- one that counts by a shape counts nothing by itself
no_own_in : (c : Code) (s t : Shape) → shapes_with c s ≡ t ∷ [] → own_in c ≡ 0
no_own_in (in_line own) s t e = absurd cc
no_own_in (callable own call) s t e = refl

pub no_own : (i : PlainIr) (s : Shape) → op_shapes i ≡ s ∷ [] → own_words i ≡ 0
no_own (binary_op op ty mode to a aty b bty) s e =
    let r = binary_shape op ty mode aty bty in no_own_in (shape_code r) r s e
no_own (unary_op op ty mode to a) s e = let r = unary_shape op ty mode ty in no_own_in (shape_code r) r s e
no_own (conversion to ty mode a aty) s e = let r = conversion_shape ty mode aty in no_own_in (shape_code r) r s e
no_own (constant t n) s e = absurd cc
no_own (copy to from) s e = absurd cc
no_own (address t o offset) s e = absurd cc
no_own (field ptr space offset) s e = absurd cc
no_own (load_at to ptr space) s e = absurd cc
no_own (store_at ptr space from) s e = absurd cc
no_own (load_object t o offset) s e = absurd cc
no_own (store_object o offset t) s e = absurd cc
no_own (label l) s e = absurd cc
no_own (jump l) s e = absurd cc
no_own (branch_zero t l) s e = absurd cc
no_own (call_function g to) s e = absurd cc
no_own (return_from from) s e = absurd cc
no_own (port_in to port index width) s e = absurd cc
no_own (port_out from port index width) s e = absurd cc
no_own (load_cell to cell) s e = absurd cc
no_own (store_cell cell from) s e = absurd cc
no_own (cell_port read t cell offset index width) s e = absurd cc

-- what some operations may have is what they count by themselves, and what each of their shapes counts for one use
joined_shapes : (xs ys : List Shape) → total shape_most (xs ++ ys) ≡ total shape_most xs + total shape_most ys
joined_shapes [] ys = omega arith
joined_shapes (s ∷ xs) ys = let r = joined_shapes xs ys in omega (arith, r)

pub uses_are : (code : List PlainIr)
    → total use_words code ≡ total own_words code + total shape_most (all_made op_shapes code)
uses_are [] = omega arith
uses_are (i ∷ code) =
    next (own_words i) (total shape_most (op_shapes i)) (total own_words code) (total shape_most (all_made op_shapes code))
    (total use_words code) (total shape_most (op_shapes i ++ all_made op_shapes code)) (uses_are code)
    (joined_shapes (op_shapes i) (all_made op_shapes code))
  where
    next : (own made others rest uses both : ℕ) → uses ≡ others + rest → both ≡ made + rest → own + made + uses ≡ own + others
        + both
    next own made others rest uses both e g = omega (arith, e, g)

index_row : (h : Homes) (index : Option Temp) → point_words (option_map (home h) index) ≤ index_words index
index_row h None = omega arith
index_row h (Some t) = omega arith

module _ (laws : WordLaws) (p : PlainProgram) (results : ℕ → ℕ) (f : ℕ) (called : List ℕ) (k : Linkage)
    (width_is : (k.homes.width ≡ 2) ⊎ (k.homes.width ≡ 4)) where
  -- the code of each operation that is covered, of whose result so many bytes are needed
  pub use_most : (told telling : Option Told) (known : Option RightNumber) (need kept : Need) (i : PlainIr)
      → IsCovered p results f called k.slots i → IsInPlace i → HasTypeBytes i
      → code_words (operation_code p (home k.homes) k told telling known (result_wanted need i) kept i) ≤ use_words i
  use_most told telling known need kept (constant t n) h q b =
      let x = (laws.puts (home k.homes t) (low_bytes 16 n) (wanted need t)).few_words in omega (arith, x)
  use_most told telling known need kept (copy to from) h q b =
      let x = move_words (home k.homes from) (home k.homes to) (wanted need to) in omega (arith, x)
  use_most told telling known need kept (load_object t o offset) h q b =
      let some = h.0.some in
      let own = load_index_code k.core (kept_in p o) p.objects o offset t.bytes in
      let other = object_code (own_telling told telling) k.core (kept_in p o) p.objects o offset (home k.homes t) t.bytes in
      let x = kind_words (is_index telling t.bytes) own other (2 + 5 * t.bytes)
      (λ e. index_most k.core (kept_in p o) p.objects o offset t.bytes some (index_few telling t.bytes e))
      (object_most laws (own_telling told telling) k.core (kept_in p o) p.objects o offset (home k.homes t) t.bytes some) in
      omega (arith, x)
  use_most told telling known need kept (store_object o offset t) h q b =
      let x = store_object_words (number_known known) (home k.homes t) (object_location p.objects o offset) t.bytes in
      omega (arith, x)
  use_most told telling known need kept (binary_op op ty mode to a aty c bty) h q b =
      let s = binary_shape op ty mode aty bty in
      let i = binary_op op ty mode to a aty c bty in
      at_most (code_words (operation_code p (home k.homes) k told telling known (wanted need to) kept i))
      (most_in (shape_code s)) (own_in (shape_code s) + total shape_most (shapes_with (shape_code s) s))
      (kind_words (is_index told c.bytes && moves_pointer op aty bty)
      (offset_code k.core (is_difference op) (is_signed bty) (home k.homes a) z_pair (home k.homes to)
      (max 2 (wanted need to)) c.bytes (element_size p aty) (wanted need to)) _ (most_in (shape_code s))
      (λ e. indexed_row laws k.core p op mode k.slots k.homes to a c ty aty bty (wanted need to)
      (moves_pointers p k.slots op to a c ty aty bty h (and_parts (is_index told c.bytes) (moves_pointer op aty bty) e).1) (omega arith))
      (binary_own laws k.core p known (own_telling told telling) op ty aty bty mode k.slots k.homes to a c (wanted need to) h b.0
      (omega arith) q))
      (shape_use (shape_code s) s refl)
  use_most told telling known need kept (unary_op op ty mode to a) h q b =
      let s = unary_shape op ty mode ty in
      at_most (code_words (operation_code p (home k.homes) k told telling known (wanted need to) kept (unary_op op ty mode to a)))
      (most_in (shape_code s)) (own_in (shape_code s) + total shape_most (shapes_with (shape_code s) s))
      (unary_own laws op ty mode k.slots k.homes to a (wanted need to) h (omega arith))
      (shape_use (shape_code s) s refl)
  use_most told telling known need kept (conversion to ty mode a aty) h q b =
      let s = conversion_shape ty mode aty in
      at_most (code_words (operation_code p (home k.homes) k told telling known (wanted need to) kept (conversion to ty mode a aty)))
      (most_in (shape_code s)) (own_in (shape_code s) + total shape_most (shapes_with (shape_code s) s))
      (conversion_own laws ty aty mode k.slots k.homes to a (wanted need to) h (omega arith))
      (shape_use (shape_code s) s refl)
  use_most told telling known need kept (label l) h q b = omega arith
  use_most told telling known need kept (jump l) h q b = let x = jump_most laws told (k.label_of l) in omega (arith, x)
  use_most told telling known need kept (branch_zero t l) h q b =
      let x = tested_most laws told telling (wanted need t == 0) (home k.homes t) (bytes_compared known t.bytes) (k.label_of l) in
      let few = compared_within known t.bytes in
      omega (arith, x, few)
  use_most told telling known need kept (call_function g to) h q b =
      let x = call_most laws (home k.homes) k g to need kept width_is in omega (arith, x)
  use_most told telling known need kept (return_from from) h q b =
      let x = return_most laws (home k.homes) k.is_main from in omega (arith, x)
  use_most told telling known need kept (address t o offset) h q b =
      let made = made_bytes (wanted need t) t.bytes h.size (omega arith) in
      let few = made.1 in
      let x = addressed_most laws k.core p o offset (home k.homes t) (max 2 (wanted need t)) (wanted need t) made.0 in omega (arith, x, few)
  use_most told telling known need kept (field ptr space offset) h q b =
      let x = further_most laws told telling k.core ptr.bytes (home k.homes ptr) offset in omega (arith, x)
  use_most told telling known need kept (load_at to ptr space) h q b =
      let x =
      loaded_by_most laws (displacement told to.bytes) k.core (has_tables p.objects) space (home k.homes ptr) (home k.homes to) to.bytes in
      omega (arith, x)
  use_most told telling known need kept (store_at ptr space from) h q b =
      let x = stored_by_most laws (displacement told from.bytes) (home k.homes from) (home k.homes ptr) from.bytes in omega (arith, x)
  use_most told telling known need kept (port_in to port index width) h q b =
      let x =
      in_words_most laws.values (option_map (home k.homes) index) (home k.homes to) port width
      (wanted need to) to.bytes h.one_two_four (omega arith) in
      let y = index_row k.homes index in omega (arith, x, y)
  use_most told telling known need kept (port_out from port index width) h q b =
      let x = out_words_most (option_map (home k.homes) index) (home k.homes from) port width in
      let y = index_row k.homes index in omega (arith, x, y)
  use_most told telling known need kept (load_cell to cell) h q b =
      let x = copy_words_most (cell_place cell) (home k.homes to) to.bytes in omega (arith, x)
  use_most told telling known need kept (store_cell cell from) h q b =
      let x = copy_words_most (home k.homes from) (cell_place cell) from.bytes in omega (arith, x)
  use_most told telling known need kept (cell_port true to cell offset index width) h q b =
      let x =
      cell_in_words laws.values (option_map (home k.homes) index) (home k.homes to) cell offset width (wanted need to) to.bytes
      h.one_two_four (omega arith) in
      omega (arith, x)
  use_most told telling known need kept (cell_port false from cell offset index width) h q b =
      let x = cell_out_words (option_map (home k.homes) index) (home k.homes from) cell offset width in omega (arith, x)

  -- an operation without a shape counts by itself
  pub own_most : (told telling : Option Told) (known : Option RightNumber) (need kept : Need) (i : PlainIr)
      → IsCovered p results f called k.slots i → IsInPlace i → HasTypeBytes i → op_shapes i ≡ []
      → code_words (operation_code p (home k.homes) k told telling known (result_wanted need i) kept i) ≤ own_words i
  own_most told telling known need kept i h q b e =
      let x = use_most told telling known need kept i h q b in
      let none : total shape_most (op_shapes i) ≡ 0 = ap (total shape_most) e in
      fewer (code_words (operation_code p (home k.homes) k told telling known (result_wanted need i) kept i)) (own_words i)
      (total shape_most (op_shapes i)) x none
    where
      fewer : (w own more : ℕ) → w ≤ own + more → more ≡ 0 → w ≤ own
      fewer w own more x none = omega (arith, x, none)

  -- and one with a shape that may stand once has no more words than the shape's own code
  pub shape_own_most : (told telling : Option Told) (known : Option RightNumber) (need kept : Need) (i : PlainIr) (s : Shape)
      (own call : ℕ) → IsCovered p results f called k.slots i → IsInPlace i → HasTypeBytes i → op_shapes i ≡ s ∷ []
      → shape_code s ≡ callable own call
      → code_words (operation_code p (home k.homes) k told telling known (result_wanted need i) kept i) ≤ own
  shape_own_most told telling known need kept i s own call h q b e c =
      let x = use_most told telling known need kept i h q b in
      let some : total shape_most (op_shapes i) ≡ most_in (shape_code s) + 0 = ap (total shape_most) e in
      let is : most_in (shape_code s) ≡ own = ap most_in c in
      fewer (code_words (operation_code p (home k.homes) k told telling known (result_wanted need i) kept i)) (own_words i)
      (total shape_most (op_shapes i)) (most_in (shape_code s)) own x (no_own i s e) some is
    where
      fewer : (w alone more most own : ℕ) → w ≤ alone + more → alone ≡ 0 → more ≡ most + 0 → most ≡ own → w ≤ own
      fewer w alone more most own x none some is = omega (arith, x, none, some, is)

  -- and each has at most the words that it may have alone
  pub op_most : (told telling : Option Told) (known : Option RightNumber) (need kept : Need) (i : PlainIr)
      → IsCovered p results f called k.slots i → IsInPlace i → HasTypeBytes i
      → code_words (operation_code p (home k.homes) k told telling known (result_wanted need i) kept i) ≤ op_words i
  op_most told telling known need kept (binary_op op ty mode to a aty c bty) h q b =
      kind_words (is_index told c.bytes && moves_pointer op aty bty)
      (offset_code k.core (is_difference op) (is_signed bty) (home k.homes a) z_pair (home k.homes to)
      (max 2 (wanted need to)) c.bytes (element_size p aty) (wanted need to)) _ (binary_words op ty aty bty)
      (λ e. indexed_most laws k.core p op k.slots k.homes to a c ty aty bty (wanted need to)
      (moves_pointers p k.slots op to a c ty aty bty h (and_parts (is_index told c.bytes) (moves_pointer op aty bty) e).1) (omega arith))
      (one_binary laws k.core p known (own_telling told telling) op ty aty bty mode k.slots k.homes to a c (wanted need to) h
      (omega arith) q)
  op_most told telling known need kept (unary_op op ty mode to a) h q b =
      one_unary laws op ty mode k.slots k.homes to a (wanted need to) h (omega arith)
  op_most told telling known need kept (conversion to ty mode a aty) h q b =
      one_conversion laws ty aty mode k.slots k.homes to a (wanted need to) h (omega arith)
  op_most told telling known need kept i h q b =
      let x = use_most told telling known need kept i h q b in omega (arith, x)
