use Rattle.std.proofs.Common.{◌∙◌, Bool, subst}
use Rattle.std.specs.Prelude.{IfOk}
use Rattle.ec_ir.specs.Operations.{plain_ir_function, plain_ir_program}
use Rattle.ec_select_operations.specs.Needs.{IsLive}
use Rattle.ec_select_live.specs.Least.{IsLeast}
use Rattle.ec_select_live.specs.Tables.{needs_of}
use Rattle.ec_select.proofs.Added.{results_placed}
use Rattle.ec_select.proofs.Setting.{function_valid}
use Rattle.ec_select.proofs.tables.table_of.Goals as goal

pub live-requires-clause-places : goal.live-requires-clause-places
live-requires-clause-places c =
    let p = plain_ir_program c.args.ir.now in
    let g = plain_ir_function c.args.g.now in
    c.valid_operations_have_places.ensures c.requires.valid.0 p c.requires.valid.1.results c.args.f g
    (function_valid p c.requires.valid c.args.f g c.requires.is)

-- the numbers that second operands are known to hold
pub right_numbers-requires : goal.right_numbers-requires
right_numbers-requires c =
    let p = plain_ir_program c.args.ir.now in
    let g = plain_ir_function c.args.g.now in
    results_placed c.args.g.now.slots g.code
    (c.valid_operations_have_places.ensures c.requires.valid.0 p c.requires.valid.1.results c.args.f g
    (function_valid p c.requires.valid c.args.f g c.requires.is))

pub live-requires-clause-numbers : goal.live-requires-clause-numbers
live-requires-clause-numbers c = c.deref-numbers.ensures.value ∙ c.in_ok-known.ensures

-- the tables are those for a program with or without objects in flash
pub returns-clause-live : goal.returns-clause-live
returns-clause-live c =
    let code = (plain_ir_function c.args.g.now).code in
    subst (λ (x : Bool). IfOk c.live.result (λ table. IsLive x (needs_of table) code)) c.has_tables-in_flash.ensures c.live.ensures.live

pub returns-clause-least : goal.returns-clause-least
returns-clause-least c =
    let code = (plain_ir_function c.args.g.now).code in
    subst (λ (x : Bool). IfOk c.live.result (λ table. IsLeast x c.args.g.now.slots (needs_of table) code))
    c.has_tables-in_flash.ensures c.live.ensures.least
