use Rattle.std.proofs.Common.{◌≡◌, ◌+◌, ◌^◌, ◌<◌, ℕ, List, map, length, sym, ◌∙◌, ap, subst, arith, ◌++◌, Vec}
use Rattle.std.proofs.Common.{Global, Option, Bool}
use Rattle.std.proofs.lemmas.List.{length-map}
use Rattle.ec_asm.specs.declared.items.AsmItem.{AsmItem}
use Rattle.ec_ir.specs.declared.operations.Ir.{Ir}
use Rattle.ec_ir.specs.Operations.{PlainIr, plain_ir, plain_ir_function, plain_ir_program, data_of}
use Rattle.ec_select_live.specs.Tables.{needs_of}
use Rattle.ec_select_operations.specs.declared.calls.Linking.{Linking}
use Rattle.ec_select_operations.specs.Code.{wanted_bytes}
use Rattle.ec_select_operations.specs.Needs.{facts_of}
use Rattle.ec_select_operations.specs.Pointers.{has_tables}
use Rattle.ec_select_operations.specs.Emitted.{linkage}
use Rattle.ec_select_operations.specs.Written.{CanBeWritten, kept_rows, written_function}
use Rattle.ec_select.specs.Labels.{label_count}
use Rattle.ec_select.specs.Seen.{plain_row}
use Rattle.ec_select.specs.Sharing.{routine_among}
use Rattle.ec_ir_known.specs.declared.known.RightNumber.{RightNumber}
use Rattle.ec_ir_known.specs.Known.{right_numbers}
use Rattle.ec_select.proofs.Added.{added, results_placed, numbers_length}
use Rattle.ec_select.proofs.Emits.{wanted_length, kept_length}
use Rattle.ec_select.proofs.Linked.{all_linked}
use Rattle.ec_select.proofs.Setting.{function_valid}
use Rattle.ec_select.proofs.functions.add_function.Goals as goal

pub wanted-requires-clause-places : goal.wanted-requires-clause-places
wanted-requires-clause-places c =
    let p = plain_ir_program c.args.ir.now in
    let g = plain_ir_function c.args.g.now in
    c.valid_operations_have_places.ensures c.requires.valid.0 p c.requires.valid.1.results c.args.f g
    (function_valid p c.requires.valid c.args.f g c.requires.is)

pub kept-requires-clause-places : goal.kept-requires-clause-places
kept-requires-clause-places c =
    let p = plain_ir_program c.args.ir.now in
    let g = plain_ir_function c.args.g.now in
    c.valid_operations_have_places.ensures c.requires.valid.0 p c.requires.valid.1.results c.args.f g
    (function_valid p c.requires.valid c.args.f g c.requires.is)

-- the numbers that second operands are known to hold
pub right_numbers-requires : goal.right_numbers-requires
right_numbers-requires c =
    let p = plain_ir_program c.args.ir.now in
    let g = plain_ir_function c.args.g.now in
    results_placed c.args.g.now.slots g.code
    (c.valid_operations_have_places.ensures c.requires.valid.0 p c.requires.valid.1.results c.args.f g
    (function_valid p c.requires.valid c.args.f g c.requires.is))

pub wanted-requires-clause-numbers : goal.wanted-requires-clause-numbers
wanted-requires-clause-numbers c = c.deref-numbers.ensures.value ∙ c.in_ok-known.ensures

pub kept-requires-clause-numbers : goal.kept-requires-clause-numbers
kept-requires-clause-numbers c = c.deref-numbers.ensures.value ∙ c.in_ok-known.ensures

pub function-requires-clause-known : goal.function-requires-clause-known
function-requires-clause-known c =
    let code = c.args.g.now.code.items in
    ap length c.as_slice-code.ensures
    ∙ sym (ap length c.deref-numbers.ensures.value ∙ ap length c.in_ok-known.ensures
    ∙ numbers_length (map plain_ir code) (map plain_ir code) ∙ length-map code plain_ir)

pub function-requires-clause-numbers : goal.function-requires-clause-numbers
function-requires-clause-numbers c =
    let code = c.args.g.now.code.items in
    let at = facts_of c.has_tables-in_flash.result (needs_of c.args.table.now) (map plain_ir code) in
    let bytes : c.in_ok-bytes.bytes.items ≡ wanted_bytes at (map plain_ir code) = c.in_ok-bytes.ensures in
    ap length c.as_slice-code.ensures
    ∙ sym (ap length c.deref.ensures.value ∙ ap length bytes ∙ wanted_length at (map plain_ir code) ∙ length-map code plain_ir)

pub function-requires-clause-rows : goal.function-requires-clause-rows
function-requires-clause-rows c =
    let code = c.args.g.now.code.items in
    let at = facts_of c.has_tables-in_flash.result (needs_of c.args.table.now) (map plain_ir code) in
    let rows : map (λ row. row.items) c.in_ok-keeps.keeps.items ≡ kept_rows c.args.g.now.slots at (map plain_ir code) =
    c.in_ok-keeps.ensures in
    ap length c.as_slice-code.ensures
    ∙ sym (ap length c.deref-2.ensures.value ∙ sym (length-map c.in_ok-keeps.keeps.items (λ row. row.items)) ∙ ap length rows
    ∙ kept_length c.args.g.now.slots at (map plain_ir code) ∙ length-map code plain_ir)

pub function-requires-clause-each : goal.function-requires-clause-each
function-requires-clause-each c =
    let p = plain_ir_program c.args.ir.now in
    let g = plain_ir_function c.args.g.now in
    let k = c.linking-of.result in
    let at = facts_of c.has_tables-in_flash.result (needs_of c.args.table.now) g.code in
    let routines = routine_among c.args.routines (map plain_row c.args.rows.now) in
    let first : k.first_label ≡ c.args.first = ap (λ (x : Linking). x.first_label) c.linking-of.ensures in
    let entries : k.first_entry ≡ 1 = ap (λ (x : Linking). x.first_entry) c.linking-of.ensures in
    let room : k.first_label + label_count g.code < 2 ^ 64 =
    subst (λ (n : ℕ). n + label_count g.code < 2 ^ 64) (sym first) c.requires.room in
    let each = all_linked p c.requires.valid c.leaves_fill_their_types.ensures c.requires.code.results c.args.f g.slots g.code k
    (label_count g.code) room entries routines c.deref-numbers.result.now at g.code (c.requires.code.functions c.args.f g c.requires.is)
    (function_valid p c.requires.valid c.args.f g c.requires.is).code (omega arith) in
    let code : map plain_ir c.as_slice-code.result.now ≡ g.code = ap (λ (x : List Ir). map plain_ir x) c.as_slice-code.ensures in
    let bytes : c.deref.result.now ≡ wanted_bytes at g.code = c.deref.ensures.value ∙ c.in_ok-bytes.ensures in
    let called : c.deref-3.result.now ≡ map routines g.code =
    c.deref-3.ensures.value ∙ c.in_ok-called.ensures ∙ ap (map routines) code in
    let known = c.deref-numbers.result.now in
    let by_bytes = subst (λ (x : List ℕ). CanBeWritten (data_of p) k x known (map routines g.code) g.code) (sym bytes) each in
    let by_called = subst (λ (x : List (Option ℕ)). CanBeWritten (data_of p) k c.deref.result.now known x g.code) (sym called) by_bytes in
    subst (λ (x : List PlainIr). CanBeWritten (data_of p) k c.deref.result.now known c.deref-3.result.now x) (sym code) by_called

pub returns : goal.returns
returns c =
    let p = plain_ir_program c.args.ir.now in
    let g = plain_ir_function c.args.g.now in
    let k = c.linking-of.result in
    let labels = needs_of c.args.table.now in
    let at = facts_of (has_tables (data_of p).objects) labels g.code in
    let told = c.has_tables-in_flash.ensures in
    let routines = routine_among c.args.routines (map plain_row c.args.rows.now) in
    let bytes : c.deref.result.now ≡ wanted_bytes at g.code =
    c.deref.ensures.value ∙ c.in_ok-bytes.ensures ∙ ap (λ (x : Bool). wanted_bytes (facts_of x labels g.code) g.code) told in
    let kept : map (λ row. row.items) c.in_ok-keeps.keeps.items ≡ kept_rows g.slots at g.code =
    c.in_ok-keeps.ensures ∙ ap (λ (x : Bool). kept_rows g.slots (facts_of x labels g.code) g.code) told in
    let rows : map (λ row. row.items) c.deref-2.result.now ≡ kept_rows g.slots at g.code =
    subst (λ (x : List (Vec ℕ Global)). map (λ row. row.items) x ≡ kept_rows g.slots at g.code) (sym c.deref-2.ensures.value) kept in
    let code : map plain_ir c.as_slice-code.result.now ≡ g.code = ap (λ (x : List Ir). map plain_ir x) c.as_slice-code.ensures in
    let called : c.deref-3.result.now ≡ map routines g.code =
    c.deref-3.ensures.value ∙ c.in_ok-called.ensures ∙ ap (map routines) code in
    let known : c.deref-numbers.result.now ≡ right_numbers g.code = c.deref-numbers.ensures.value ∙ c.in_ok-known.ensures in
    let written : c.function.new.out.items ≡ c.args.out.now.items ++ written_function (data_of p) (linkage k) c.args.f
    c.deref.result.now (map (λ row. row.items) c.deref-2.result.now) c.deref-numbers.result.now c.deref-3.result.now
    (map plain_ir c.as_slice-code.result.now) = c.in_ok-function.ensures.ok in
    let here : c.function.new.out.items ≡ c.args.out.now.items ++ written_function (data_of p) (linkage k) c.args.f
    (wanted_bytes at g.code) (kept_rows g.slots at g.code) (right_numbers g.code) (map routines g.code) g.code =
    subst (λ (x : List PlainIr). c.function.new.out.items ≡ c.args.out.now.items
    ++ written_function (data_of p) (linkage k) c.args.f (wanted_bytes at g.code) (kept_rows g.slots at g.code) (right_numbers g.code) (map routines g.code) x) code
    (subst (λ (x : List (Option ℕ)). c.function.new.out.items ≡ c.args.out.now.items
    ++ written_function (data_of p) (linkage k) c.args.f (wanted_bytes at g.code) (kept_rows g.slots at g.code) (right_numbers g.code) x (map plain_ir c.as_slice-code.result.now)) called
    (subst (λ (x : List (Option RightNumber)). c.function.new.out.items ≡ c.args.out.now.items
    ++ written_function (data_of p) (linkage k) c.args.f (wanted_bytes at g.code) (kept_rows g.slots at g.code) x c.deref-3.result.now (map plain_ir c.as_slice-code.result.now)) known
    (subst (λ (x : List (List ℕ)). c.function.new.out.items ≡ c.args.out.now.items
    ++ written_function (data_of p) (linkage k) c.args.f (wanted_bytes at g.code) x c.deref-numbers.result.now c.deref-3.result.now (map plain_ir c.as_slice-code.result.now)) rows
    (subst (λ (x : List ℕ). c.function.new.out.items ≡ c.args.out.now.items
    ++ written_function (data_of p) (linkage k) c.args.f x (map (λ row. row.items) c.deref-2.result.now) c.deref-numbers.result.now c.deref-3.result.now (map plain_ir c.as_slice-code.result.now)) bytes written)))) in
    here ∙ ap (λ (x : List AsmItem). c.args.out.now.items ++ x)
    (added c.args.core p routines c.args.f c.args.first g k labels c.needed_functions_are_written.ensures c.requires.first c.linking-of.ensures)
