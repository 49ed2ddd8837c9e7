use Rattle.std.proofs.Common.{◌≡◌, ◌++◌, ◌∙◌, ℕ, List, map, length, ap, sym, subst}
use Rattle.std.specs.List.{AllByRecursion}
use Rattle.std.proofs.lemmas.List.{length-map}
use Rattle.ec_ir.specs.Operations.{plain_ir_function, plain_ir_program}
use Rattle.ec_select.specs.Program.{functions_with}
use Rattle.ec_select.specs.Seen.{plain_row, plain_use, tables_in, HasRoutine}
use Rattle.ec_select.specs.Sharing.{Use, program_uses, routine_among, routines_among}
use Rattle.ec_select.proofs.Added.{written}
use Rattle.ec_select.proofs.Linked.{uses_ready}
use Rattle.ec_select.proofs.functions.add_code.Goals as goal

pub rows_of-requires : goal.rows_of-requires
rows_of-requires c =
    let p = plain_ir_program c.args.ir.now in
    let uses : map plain_use c.deref-2.result.now ≡ program_uses c.args.core p (tables_in c.deref.result.now) =
    ap (map plain_use) c.deref-2.ensures.value ∙ c.in_ok-uses.ensures in
    subst (λ (us : List Use). AllByRecursion (λ u. HasRoutine u.operation) us) (sym uses)
    (uses_ready c.args.core p c.requires.valid c.requires.code (tables_in c.deref.result.now))

pub returns : goal.returns
returns c =
    let p = plain_ir_program c.args.ir.now in
    let funcs = c.args.ir.now.funcs.items in
    let ts = c.in_ok-tables.tables.items in
    let us = map plain_use c.deref-2.result.now in
    let rows = map plain_row c.in_ok-rows.rows.items in
    let first = c.in_ok-first.first in
    let out = c.args.out.now.items in
    let uses : us ≡ program_uses c.args.core p (tables_in ts) =
    ap (map plain_use) c.deref-2.ensures.value ∙ c.in_ok-uses.ensures
    ∙ ap (λ (t : List (List (List ℕ))). program_uses c.args.core p (tables_in t)) c.deref.ensures.value in
    let n : length funcs ≡ length p.functions = sym (length-map funcs plain_ir_function) in
    let functions : c.add_functions.new.out.items ≡ out ++ functions_with c.args.core p (routine_among first rows) (tables_in ts) (length p.functions) =
    c.in_ok-add_functions.ensures
    ∙ (λ j. out ++ functions_with c.args.core p (routine_among first (map plain_row (c.deref-4.ensures.value j)))
    (tables_in (c.deref-3.ensures.value j)) (n j)) in
    let routines : c.add_routines.new.out.items ≡ c.add_functions.new.out.items ++ routines_among first rows =
    c.in_ok-add_routines.ensures
    ∙ (λ j. c.add_functions.new.out.items ++ routines_among first (map plain_row (c.deref-5.ensures.value j))) in
    written c.args.core p ts us rows first out c.add_functions.new.out.items c.add_routines.new.out.items c.in_ok-tables.ensures.are uses
    c.in_ok-rows.ensures.rows c.in_ok-first.ensures.is functions routines
