use Rattle.std.proofs.Common.{◌≡◌, ◌∙◌, ◌++◌, ℕ, List, map, length, ap, sym, subst, arith, Bool}
use Rattle.std.proofs.lemmas.List.{length-map}
use Rattle.ec_ir.specs.declared.operations.Ir.{Ir}
use Rattle.ec_ir.specs.Operations.{PlainIr, plain_ir, plain_ir_function, plain_ir_program, data_of}
use Rattle.ec_ir_known.specs.Known.{right_numbers}
use Rattle.ec_select_live.specs.Tables.{needs_of}
use Rattle.ec_select_operations.specs.Code.{wanted_bytes}
use Rattle.ec_select_operations.specs.Needs.{facts_of}
use Rattle.ec_select_operations.specs.Pointers.{has_tables}
use Rattle.ec_select.specs.Labels.{homes_of}
use Rattle.ec_select.specs.Seen.{CanBeUses, plain_use}
use Rattle.ec_select.specs.Sharing.{uses_in}
use Rattle.ec_select.proofs.Added.{results_placed, numbers_length}
use Rattle.ec_select.proofs.Emits.{wanted_length}
use Rattle.ec_select.proofs.Linked.{all_used}
use Rattle.ec_select.proofs.Setting.{function_few, function_valid}
use Rattle.ec_select.proofs.uses.add_function_uses.Goals as goal

pub right_numbers-requires : goal.right_numbers-requires
right_numbers-requires c =
    let p = plain_ir_program c.args.ir.now in
    let g = plain_ir_function c.args.g.now in
    results_placed c.args.g.now.slots g.code
    (c.valid_operations_have_places.ensures c.requires.valid.0 p c.requires.valid.1.results c.args.f g
    (function_valid p c.requires.valid c.args.f g c.requires.is))

pub wanted-requires-clause-places : goal.wanted-requires-clause-places
wanted-requires-clause-places c =
    let p = plain_ir_program c.args.ir.now in
    let g = plain_ir_function c.args.g.now in
    c.valid_operations_have_places.ensures c.requires.valid.0 p c.requires.valid.1.results c.args.f g
    (function_valid p c.requires.valid c.args.f g c.requires.is)

pub wanted-requires-clause-numbers : goal.wanted-requires-clause-numbers
wanted-requires-clause-numbers c = c.deref-numbers.ensures.value ∙ c.in_ok-known.ensures

pub homes_of-requires : goal.homes_of-requires
homes_of-requires c =
    let few = function_few (plain_ir_program c.args.ir.now) c.requires.valid c.args.f (plain_ir_function c.args.g.now) c.requires.is in
    omega (arith, few)

pub add_uses-requires-clause-numbers : goal.add_uses-requires-clause-numbers
add_uses-requires-clause-numbers c =
    let code = c.args.g.now.code.items in
    let at = facts_of c.has_tables-in_flash.result (needs_of c.args.table.now) (map plain_ir code) in
    let bytes : c.in_ok-bytes.bytes.items ≡ wanted_bytes at (map plain_ir code) = c.in_ok-bytes.ensures in
    ap length c.as_slice-code.ensures
    ∙ sym (ap length c.deref.ensures.value ∙ ap length bytes ∙ wanted_length at (map plain_ir code) ∙ length-map code plain_ir)

pub add_uses-requires-clause-known : goal.add_uses-requires-clause-known
add_uses-requires-clause-known c =
    let code = c.args.g.now.code.items in
    let known : c.deref-numbers.result.now ≡ right_numbers (map plain_ir code) = c.deref-numbers.ensures.value ∙ c.in_ok-known.ensures in
    ap length c.as_slice-code.ensures
    ∙ sym (ap length known ∙ numbers_length (map plain_ir code) (map plain_ir code) ∙ length-map code plain_ir)

pub add_uses-requires-clause-each : goal.add_uses-requires-clause-each
add_uses-requires-clause-each c =
    let p = plain_ir_program c.args.ir.now in
    let g = plain_ir_function c.args.g.now in
    let at = facts_of c.has_tables-in_flash.result (needs_of c.args.table.now) g.code in
    let each = all_used p c.requires.valid c.leaves_fill_their_types.ensures c.requires.code.results c.args.f g.slots g.code
    c.args.core c.homes_of.result at g.code (c.requires.code.functions c.args.f g c.requires.is)
    (function_valid p c.requires.valid c.args.f g c.requires.is).code in
    let code : map plain_ir c.as_slice-code.result.now ≡ g.code = ap (λ (x : List Ir). map plain_ir x) c.as_slice-code.ensures in
    let bytes : c.deref.result.now ≡ wanted_bytes at g.code = c.deref.ensures.value ∙ c.in_ok-bytes.ensures in
    let by_bytes = subst (λ (x : List ℕ). CanBeUses c.args.core (data_of p) c.homes_of.result x g.code) (sym bytes) each in
    subst (λ (x : List PlainIr). CanBeUses c.args.core (data_of p) c.homes_of.result c.deref.result.now x) (sym code) by_bytes

pub returns : goal.returns
returns c =
    let p = plain_ir_program c.args.ir.now in
    let g = plain_ir_function c.args.g.now in
    let labels = needs_of c.args.table.now in
    let at = facts_of (has_tables (data_of p).objects) labels g.code in
    let code : map plain_ir c.as_slice-code.result.now ≡ g.code = ap (λ (x : List Ir). map plain_ir x) c.as_slice-code.ensures in
    let bytes : c.deref.result.now ≡ wanted_bytes at g.code =
    c.deref.ensures.value ∙ c.in_ok-bytes.ensures
    ∙ ap (λ (x : Bool). wanted_bytes (facts_of x labels g.code) g.code) c.has_tables-in_flash.ensures in
    let homes : c.homes_of.result ≡ homes_of c.args.f g.code = c.homes_of.ensures ∙ ap (homes_of c.args.f) code in
    let more : map plain_use c.add_uses.new.uses.items ≡ map plain_use c.args.uses.now.items
    ++ uses_in c.args.core (data_of p) c.homes_of.result c.deref.result.now c.deref-numbers.result.now (map plain_ir c.as_slice-code.result.now) =
    c.in_ok-add_uses.ensures in
    let known : c.deref-numbers.result.now ≡ right_numbers g.code = c.deref-numbers.ensures.value ∙ c.in_ok-known.ensures in
    more ∙ (λ j. map plain_use c.args.uses.now.items ++ uses_in c.args.core (data_of p) (homes j) (bytes j) (known j) (code j))
