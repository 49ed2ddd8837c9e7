-- Code that is written operation by operation.
use Rattle.std.proofs.Common.{◌≡◌, ℕ, zero, suc, ◌+◌, ◌<◌, List, [], ◌∷◌, ◌++◌, Some, length, refl, sym, ap, ◌∙◌}
use Rattle.std.proofs.Common.{subst, arith, append_assoc, append-nil, map, true, false, Bool, ◌-◌, ◌&&◌, ◌||◌}
use Rattle.std.specs.Prelude.{slice_get, slice_index, get_or, Option, None, option_and_then}
use Rattle.ec_space.specs.declared.Core.{Core}
use Rattle.ec_asm.specs.declared.items.AsmItem.{AsmItem}
use Rattle.ec_asm.specs.declared.pieces.Location.{Location}
use Rattle.ec_asm.specs.Items.{chain}
use Rattle.ec_core.specs.Plain.{PlainProgram}
use Rattle.ec_ir.specs.declared.operations.Temp.{Temp}
use Rattle.ec_ir.specs.Operations.{PlainIr, constant, copy, address, field, load_at, store_at, load_object}
use Rattle.ec_ir.specs.Operations.{store_object, binary_op, unary_op, conversion, label, jump, branch_zero}
use Rattle.ec_ir.specs.Operations.{call_function, return_from, port_in, port_out, load_cell, store_cell, cell_port}
use Rattle.ec_select_operations.specs.Code.{Linkage, register_places, save_place, restore_place, save_code}
use Rattle.ec_select_operations.specs.declared.families.Told.{Told}
use Rattle.ec_select_operations.specs.Code.{restore_code, operation_code, tells_any, wanted_behind, wanted_bytes}
use Rattle.ec_select_operations.specs.Code.{is_waiting, look, known_left, leaves_z, is_store_by_z, waits}
use Rattle.ec_select_operations.specs.Code.{op_code, tells_next, ops_code, own_code, called_code, linked_code}
use Rattle.ec_select_operations.specs.Code.{routine_used, result_wanted, index_behind, needed_behind}
use Rattle.ec_ir_known.specs.declared.known.RightNumber.{RightNumber}
use Rattle.ec_ir_known.specs.Known.{known_at, right_number, numbers_left}
use Rattle.ec_select_operations.specs.Needs.{Need, without_result, Facts, facts_of, needs}
use Rattle.ec_select_operations.specs.Written.{need_in, operation_at, index_in, told_from, told_at, written_code}
use Rattle.ec_select_operations.specs.Written.{row_from}
use Rattle.ec_select_operations.specs.Pointers.{has_tables}
use Rattle.ec_select_operations.specs.Written.{kept_row}
use Rattle.ec_select_operations.specs.Written.{kept_rows, routed, NeededCodeIsWritten}

-- the first piece, and the others
chain_front : (f : ℕ → List AsmItem) (n : ℕ) → chain f (suc n) ≡ f 0 ++ chain (λ k. f (suc k)) n
chain_front f zero = sym (append-nil (f 0))
chain_front f (suc n) =
    ap (λ l. l ++ f (suc n)) (chain_front f n) ∙ append_assoc (f 0) (chain (λ k. f (suc k)) n) (f (suc n))

-- ---- what calls keep

chain_same : (f g : ℕ → List AsmItem) (n : ℕ) → ((j : ℕ) → j < n → f j ≡ g j) → chain f n ≡ chain g n
chain_same f g zero h = refl
chain_same f g (suc n) h =
    let a = chain_same f g n (λ j l. h j (omega arith)) in
    let b = h n (omega arith) in
    rw (a, b) refl

row_needs : (count place : ℕ) (need : Need) (j : ℕ) → j < count → need_in (row_from count place need) j ≡ need (place + j)
row_needs zero place need j l = absurd (omega arith)
row_needs (suc count) place need zero l = let e : place ≡ place + 0 = omega arith in ap need e
row_needs (suc count) place need (suc j) l =
    let e : suc place + j ≡ place + suc j = omega arith in
    row_needs count (suc place) need j (omega arith) ∙ ap need e

-- the row of one place more
pub row_more : (count place : ℕ) (need : Need) → row_from count place need ++ need (place + count) ∷ [] ≡ row_from (suc count) place need
row_more zero place need = let e : place + 0 ≡ place = omega arith in ap (λ j. need j ∷ []) e
row_more (suc count) place need =
    let e : suc place + count ≡ place + suc count = omega arith in
    ap (λ l. need place ∷ l) (ap (λ j. row_from count (suc place) need ++ need j ∷ []) (sym e) ∙ row_more count (suc place) need)

-- a call of the same routine, or the same code
linked_same : (routine : Option ℕ) (called other : ℕ → List AsmItem) (own same : List AsmItem)
    → ((l : ℕ) → called l ≡ other l) → own ≡ same → linked_code routine called own ≡ linked_code routine other same
linked_same None called other own same h q = q
linked_same (Some l) called other own same h q = h l

module _ (p : PlainProgram) (home : Temp → Location) (k : Linkage) (routine_of : PlainIr → Option ℕ) where
  kept_here : (need : Need) (j : ℕ) → j < register_places k.slots → need_in (row_from (register_places k.slots) 0 need) j ≡ need j
  kept_here need j l = let e : 0 + j ≡ j = omega arith in row_needs (register_places k.slots) 0 need j l ∙ ap need e

  same_save : (need : Need) → save_code k (need_in (row_from (register_places k.slots) 0 need)) ≡ save_code k need
  same_save need =
      chain_same (λ j. save_place k.homes j (need_in (row_from (register_places k.slots) 0 need) j)) (λ j. save_place k.homes j (need j))
      (register_places k.slots)
      (λ j l. ap (save_place k.homes j) (kept_here need j l))

  same_restore : (need : Need) → restore_code k (need_in (row_from (register_places k.slots) 0 need)) ≡ restore_code k need
  same_restore need =
      chain_same (λ j. restore_place k.homes j (need_in (row_from (register_places k.slots) 0 need) j))
      (λ j. restore_place k.homes j (need j)) (register_places k.slots)
      (λ j l. ap (restore_place k.homes j) (kept_here need j l))

  same_code : (at : ℕ → Need) (told telling : Option Told) (known : Option RightNumber) (need : Need) (i : PlainIr)
      → operation_code p home k told telling known (wanted_behind at need i) (need_in (kept_row k.slots need i)) i
      ≡ own_code p home (routed k routine_of) told telling known (needed_behind at need i) i
  same_code at told telling known need (call_function f to) =
      let a = same_save (without_result to need) in
      let b = same_restore (without_result to need) in
      rw (a, b) refl
  same_code at told telling known need (constant t n) = refl
  same_code at told telling known need (copy to from) = refl
  same_code at told telling known need (address t o offset) = refl
  same_code at told telling known need (field ptr space offset) = refl
  same_code at told telling known need (load_at to ptr space) = refl
  same_code at told telling known need (store_at ptr space from) = refl
  same_code at told telling known need (load_object t o offset) = refl
  same_code at told telling known need (store_object o offset t) = refl
  same_code at told telling known need (binary_op op ty mode to a aty b bty) = refl
  same_code at told telling known need (unary_op op ty mode to a) = refl
  same_code at told telling known need (conversion to ty mode a aty) = refl
  same_code at told telling known need (label l) = refl
  same_code at told telling known need (jump l) = refl
  same_code at told telling known need (branch_zero t l) = refl
  same_code at told telling known need (return_from from) = refl
  same_code at told telling known need (port_in to port index width) = refl
  same_code at told telling known need (port_out from port index width) = refl
  same_code at told telling known need (load_cell to cell) = refl
  same_code at told telling known need (store_cell cell from) = refl
  same_code at told telling known need (cell_port true to cell offset index width) = refl
  same_code at told telling known need (cell_port false from cell offset index width) = refl

  -- of what a call of a routine leaves so much is needed
  same_called : (at : ℕ → Need) (need : Need) (i : PlainIr) (l : ℕ)
      → called_code home l (wanted_behind at need i) i ≡ called_code home l (result_wanted (needed_behind at need i) i) i
  same_called at need (constant t n) l = refl
  same_called at need (copy to from) l = refl
  same_called at need (address t o offset) l = refl
  same_called at need (field ptr space offset) l = refl
  same_called at need (load_at to ptr space) l = refl
  same_called at need (store_at ptr space from) l = refl
  same_called at need (load_object t o offset) l = refl
  same_called at need (store_object o offset t) l = refl
  same_called at need (binary_op op ty mode to a aty b bty) l = refl
  same_called at need (unary_op op ty mode to a) l = refl
  same_called at need (conversion to ty mode a aty) l = refl
  same_called at need (label l) m = refl
  same_called at need (jump l) m = refl
  same_called at need (branch_zero t l) m = refl
  same_called at need (call_function f to) l = refl
  same_called at need (return_from from) l = refl
  same_called at need (port_in to port index width) l = refl
  same_called at need (port_out from port index width) l = refl
  same_called at need (load_cell to cell) l = refl
  same_called at need (store_cell cell from) l = refl
  same_called at need (cell_port read t cell offset index width) l = refl

  same_linked : (at : ℕ → Need) (told telling : Option Told) (known : Option RightNumber) (need : Need) (i : PlainIr)
      → linked_code (routine_used known i (routine_of i)) (λ l. called_code home l (wanted_behind at need i) i)
      (operation_code p home k told telling known (wanted_behind at need i) (need_in (kept_row k.slots need i)) i)
      ≡ op_code p home (routed k routine_of) told telling known (needed_behind at need i) i
  same_linked at told telling known need i =
      linked_same (routine_used known i (routine_of i)) (λ l. called_code home l (wanted_behind at need i) i)
      (λ l. called_code home l (result_wanted (needed_behind at need i) i) i)
      (operation_code p home k told telling known (wanted_behind at need i) (need_in (kept_row k.slots need i)) i)
      (own_code p home (routed k routine_of) told telling known (needed_behind at need i) i) (same_called at need i)
      (same_code at told telling known need i)

  -- what is needed of the place of an index behind the first operation
  index_same : (at : Facts) (code : List PlainIr)
      → index_in (slice_get code 0) (get_or (kept_rows k.slots at code) 0 []) ≡ index_behind at code
  index_same at [] = refl
  index_same at (constant t n ∷ code) = refl
  index_same at (copy to from ∷ code) = refl
  index_same at (address t o offset ∷ code) = refl
  index_same at (field ptr space offset ∷ code) = refl
  index_same at (load_at to ptr space ∷ code) = refl
  index_same at (store_at ptr space from ∷ code) = refl
  index_same at (load_object t o offset ∷ code) = refl
  index_same at (store_object o offset t ∷ code) = refl
  index_same at (binary_op op ty mode to a aty b bty ∷ code) = refl
  index_same at (unary_op op ty mode to a ∷ code) = refl
  index_same at (conversion to ty mode a aty ∷ code) = refl
  index_same at (label l ∷ code) = refl
  index_same at (jump l ∷ code) = refl
  index_same at (branch_zero t l ∷ code) = refl
  index_same at (call_function f to ∷ code) = refl
  index_same at (return_from from ∷ code) = refl
  index_same at (port_in to port index width ∷ code) = refl
  index_same at (port_out from port index width ∷ code) = refl
  index_same at (load_cell to cell ∷ code) = refl
  index_same at (store_cell cell from ∷ code) = refl
  index_same at (cell_port read t cell offset index width ∷ code) = refl

  -- what the operations that are left of some code have been told, of which the first one has been told so much
  abbrev told_in : Facts → (all : List PlainIr) → Option Told → List PlainIr → ℕ → Option Told
  told_in at all first code j =
      told_from k.core p home first (wanted_bytes at code) (kept_rows k.slots at code) (numbers_left all code) code j

  -- their pieces
  abbrev piece : (labels : ℕ → Need) (all : List PlainIr) → Option Told → List PlainIr → ℕ → List AsmItem
  piece labels all first code j =
      let at = facts_of (has_tables p.objects) labels all in
      operation_at p home k (told_in at all first code j) (told_in at all first code (suc j))
      (get_or (numbers_left all code) j None) (get_or (map routine_of code) j None) (slice_index (wanted_bytes at code) j)
      (get_or (kept_rows k.slots at code) j []) (slice_get code j)

  -- what is known of second operands is told both ways
  known_same : (labels : ℕ → Need) (all code : List PlainIr)
      → numbers_left all code ≡ known_left (facts_of (has_tables p.objects) labels all) code
  known_same labels all [] = refl
  known_same labels all (i ∷ code) = ap (λ ks. right_number (known_at all (i ∷ code)) i ∷ ks) (known_same labels all code)

  -- what those behind the first operation have been told is what the other ones have been told
  told_behind : (labels : ℕ → Need) (all : List PlainIr) (first : Option Told) (i : PlainIr) (code : List PlainIr) (j : ℕ)
      → told_in (facts_of (has_tables p.objects) labels all) all first (i ∷ code) (suc j)
      ≡ told_in (facts_of (has_tables p.objects) labels all) all
      (tells_next k.core p home (facts_of (has_tables p.objects) labels all) first i code) code j
  told_behind labels all first i code zero =
      let at = facts_of (has_tables p.objects) labels all in
      let soon_by = λ (ks : List (Option RightNumber)). is_waiting p home first i (slice_get code 0)
      (look 8 code (wanted_bytes at code) ks 0)
      (look 8 code (wanted_bytes at code) ks 1) in
      ap (λ n. tells_any k.core p (at.known (i ∷ code)) first i (slice_get code 0) (slice_get code 1)
      (slice_index (wanted_bytes at code) 0) n (soon_by (numbers_left all code)))
      (index_same at code)
      ∙ ap (λ (ks : List (Option RightNumber)). tells_any k.core p (at.known (i ∷ code)) first i (slice_get code 0) (slice_get code 1)
      (slice_index (wanted_bytes at code) 0) (index_behind at code) (soon_by ks)) (known_same labels all code)
  told_behind labels all first i code (suc j) =
      let at = facts_of (has_tables p.objects) labels all in
      ap (λ told. option_and_then (λ x. tells_any k.core p (get_or (numbers_left all code) j None) told x (slice_get code (suc j))
      (slice_get code (suc (suc j))) (slice_index (wanted_bytes at code) (suc j))
      (index_in (slice_get code (suc j)) (get_or (kept_rows k.slots at code) (suc j) []))
      (is_waiting p home told x (slice_get code (suc j)) (look 8 code (wanted_bytes at code) (numbers_left all code) (suc j))
      (look 8 code (wanted_bytes at code) (numbers_left all code) (suc (suc j))))) (slice_get code j))
      (told_behind labels all first i code j)

  -- those behind the first operation are those of the other ones
  piece_behind : (labels : ℕ → Need) (all : List PlainIr) (first : Option Told) (i : PlainIr) (code : List PlainIr) (j : ℕ)
      → piece labels all first (i ∷ code) (suc j) ≡ piece labels all
      (tells_next k.core p home (facts_of (has_tables p.objects) labels all) first i code) code j
  piece_behind labels all first i code j =
      ap (λ told. one told (told_in at all first (i ∷ code) (suc (suc j)))) (told_behind labels all first i code j)
      ∙ ap (one (told_in at all (tells_next k.core p home at first i code) code j)) (told_behind labels all first i code (suc j))
    where
      at : Facts
      at = facts_of (has_tables p.objects) labels all

      one : (told telling : Option Told) → List AsmItem
      one told telling =
          operation_at p home k told telling (get_or (numbers_left all code) j None) (get_or (map routine_of code) j None)
          (slice_index (wanted_bytes at code) j) (get_or (kept_rows k.slots at code) j []) (slice_get code j)

  pieces_are : (labels : ℕ → Need) (all : List PlainIr) (first : Option Told) (code : List PlainIr)
      → chain (piece labels all first code) (length code)
      ≡ ops_code p home (routed k routine_of) (facts_of (has_tables p.objects) labels all) first code
  pieces_are labels all first [] = refl
  pieces_are labels all first (i ∷ code) =
      let at = facts_of (has_tables p.objects) labels all in
      let next = tells_next k.core p home at first i code in
      let behind =
      chain_same (λ j. piece labels all first (i ∷ code) (suc j)) (piece labels all next code) (length code)
      (λ j l. piece_behind labels all first i code j) in
      chain_front (piece labels all first (i ∷ code)) (length code)
      ∙ ap (λ l. piece labels all first (i ∷ code) 0 ++ l) (behind ∙ pieces_are labels all next code)
      ∙ ap (λ telling. operation_at p home k first telling (at.known (i ∷ code)) (routine_of i)
      (wanted_behind labels (needs at code) i) (kept_row k.slots (needs at code) i) (Some i)
      ++ ops_code p home (routed k routine_of) at next code) (told_behind labels all first i code 0)
      ∙ ap (λ l. l ++ ops_code p home (routed k routine_of) at next code)
      (same_linked labels first next (right_number (known_at all (i ∷ code)) i) (needs at code) i)

pub needed_code_is_written : NeededCodeIsWritten
needed_code_is_written p home k routine_of labels code = pieces_are p home k routine_of labels code None code

-- one piece more
pub chain_more : (f : ℕ → List AsmItem) (j : ℕ) (first before after : List AsmItem) → before ≡ first ++ chain f j
    → after ≡ before ++ f j → after ≡ first ++ chain f (j + 1)
chain_more f j first before after p q =
    let e : suc j ≡ j + 1 = omega arith in
    subst (λ n. after ≡ first ++ chain f n) e (q ∙ ap (λ l. l ++ f j) p ∙ append_assoc first (chain f j) (f j))

-- one operation more
pub one_more : (p : PlainProgram) (home : Temp → Location) (k : Linkage) (wanted : List ℕ) (kept : List (List ℕ))
    (known : List (Option RightNumber)) (routines : List (Option ℕ)) (code : List PlainIr) (j : ℕ) (i : PlainIr)
    (told telling : Option Told) (number : Option RightNumber) (routine : Option ℕ) (row : List ℕ)
    (first before after : List AsmItem)
    → slice_get code j ≡ Some i → told ≡ told_at k.core p home wanted kept known code j
    → telling ≡ told_at k.core p home wanted kept known code (suc j)
    → get_or known j None ≡ number → get_or routines j None ≡ routine → get_or kept j [] ≡ row
    → before ≡ first ++ written_code p home k wanted kept known routines code j
    → after ≡ before ++ linked_code (routine_used number i routine) (λ l. called_code home l (slice_index wanted j) i)
    (operation_code p home k told telling number (slice_index wanted j) (need_in row) i)
    → after ≡ first ++ written_code p home k wanted kept known routines code (j + 1)
one_more p home k wanted kept known routines code j i told telling number routine row first before after is told_is telling_is number_is
    routine_is row_is start q =
    let here : operation_at p home k (told_at k.core p home wanted kept known code j)
    (told_at k.core p home wanted kept known code (suc j))
    (get_or known j None) (get_or routines j None) (slice_index wanted j) (get_or kept j []) (slice_get code j)
    ≡ linked_code (routine_used number i routine) (λ l. called_code home l (slice_index wanted j) i)
    (operation_code p home k told telling number (slice_index wanted j) (need_in row) i) = rw
    (told_is, telling_is, is, row_is, number_is, routine_is) refl in
    chain_more (λ j. operation_at p home k (told_at k.core p home wanted kept known code j)
    (told_at k.core p home wanted kept known code (suc j)) (get_or known j None)
    (get_or routines j None) (slice_index wanted j) (get_or kept j []) (slice_get code j)) j first before after start
    (q ∙ ap (λ l. before ++ l) (sym here))

-- an item of a list
pub item_there : {A : Type 0} (xs : List A) (k : ℕ) (x : A) → k < length xs → x ≡ get_or xs k x
    → slice_get xs k ≡ Some x
item_there [] k x l q = absurd (omega arith)
item_there (z ∷ xs) zero x l q = (let g : x ≡ z = q in ap Some (sym g))
item_there (z ∷ xs) (suc k) x l q = item_there xs k x (omega arith) q

-- what an operation tells the one behind it
pub tells_here : (core : Core) (x : PlainProgram) (home : Temp → Location) (code : List PlainIr) (wanted : List ℕ) (kept : List (List ℕ))
    (known : List (Option RightNumber)) (k : ℕ) (told : Option Told) (i : PlainIr)
    → slice_get code k ≡ Some i → told ≡ told_at core x home wanted kept known code k
    → tells_any core x (get_or known k None) told i (slice_get code (suc k)) (slice_get code (suc (suc k))) (slice_index wanted (suc k))
    (index_in (slice_get code (suc k)) (get_or kept (suc k) []))
    (is_waiting x home told i (slice_get code (suc k)) (look 8 code wanted known (suc k)) (look 8 code wanted known (suc (suc k))))
    ≡ told_at core x home wanted kept known code (suc k)
tells_here core x home code wanted kept known k told i p q = rw (p, q) refl

-- one of the operations more that come soon
pub waits_more : (x : PlainProgram) (home : Temp → Location) (place offset n k : ℕ) (code : List PlainIr) (wanted : List ℕ)
    (known : List (Option RightNumber)) (later result : Bool) (i : Option PlainIr) (w : ℕ) (number : Option RightNumber)
    → n < 8 → i ≡ slice_get code (k + (7 - n)) → w ≡ slice_index wanted (k + (7 - n)) → number ≡ get_or known (k + (7 - n)) None
    → later ≡ waits x home place offset (look n code wanted known (k + (8 - n)))
    → result ≡ (is_store_by_z place offset w i || (leaves_z x home place offset number w i && later))
    → result ≡ waits x home place offset (look (n + 1) code wanted known (k + (8 - (n + 1))))
waits_more x home place offset n k code wanted known later result i w number l i_is w_is number_is later_is q =
    let here : k + (8 - (n + 1)) ≡ k + (7 - n) = omega (arith, l) in
    let next : k + (8 - n) ≡ suc (k + (7 - n)) = omega (arith, l) in
    let more : n + 1 ≡ suc n = omega arith in
    let later_so : later ≡ waits x home place offset (look n code wanted known (suc (k + (7 - n)))) =
    later_is ∙ ap (λ j. waits x home place offset (look n code wanted known j)) next in
    let result_so : result ≡ waits x home place offset (look (suc n) code wanted known (k + (7 - n))) =
    q ∙ rw (i_is, w_is, number_is, later_so) refl in
    result_so ∙ ap (λ j. waits x home place offset (look (suc n) code wanted known j)) (sym here)
    ∙ ap (λ j. waits x home place offset (look j code wanted known (k + (8 - (n + 1))))) (sym more)
