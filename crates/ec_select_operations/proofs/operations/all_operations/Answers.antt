use Rattle.std.proofs.Common.{◌≡◌, ◌<◌, ◌+◌, suc, [], get_or, refl, sym, ◌∙◌, ap, map, length, arith}
use Rattle.std.specs.Prelude.{option_map, None}
use Rattle.std.proofs.lemmas.List.{get_or-map}
use Rattle.std.proofs.lemmas.Option.{slice_get-map}
use Rattle.ec_ir.specs.Operations.{plain_ir}
use Rattle.ec_select_operations.specs.Emitted.{declarations, linkage}
use Rattle.ec_select_operations.specs.Homes.{home}
use Rattle.ec_select_operations.specs.Written.{told_at}
use Rattle.ec_select_operations.proofs.Written.{one_more, item_there}
use Rattle.ec_select_operations.proofs.operations.all_operations.Goals as goal

pub loop-k-preserved : goal.loop-k-preserved
loop-k-preserved c =
    let inside : c.loop-k.k < length c.args.kept.now = omega (arith, c.loop-k-test.true, c.requires.rows) in
    let row : get_or (map (λ r. r.items) c.args.kept.now) c.loop-k.k [] ≡ c.as_slice.result.now =
    get_or-map (λ r. r.items) c.args.kept.now c.loop-k.k c.index-kept-k.result [] inside
    ∙ ap (λ r. r.items) (sym c.index-kept-k.is) ∙ sym c.as_slice.ensures.value in
    record {
      told = c.told_behind-telling.ensures
          ∙ ap (told_at c.args.of.core (declarations c.args.program.now) (home c.args.of.homes) c.args.wanted.now
          (map (λ r. r.items) c.args.kept.now) c.args.known.now (map plain_ir c.args.code.now))
          (let e : suc c.loop-k.k ≡ c.loop-k.k + 1 = omega arith in e);
      written = one_more (declarations c.args.program.now) (home c.args.of.homes) (linkage c.args.of) c.args.wanted.now
          (map (λ r. r.items) c.args.kept.now) c.args.known.now c.args.routines.now (map plain_ir c.args.code.now) c.loop-k.k
          (plain_ir c.index-code-k.result) c.loop-k.told c.told_behind-telling.result c.number_at-number.result
          (get_or c.args.routines.now c.loop-k.k None) c.as_slice.result.now c.args.out.now.items c.loop-k.out.items
          c.linked_operation.new.out.items (slice_get-map plain_ir c.args.code.now c.loop-k.k ∙ ap (option_map plain_ir)
          (item_there c.args.code.now c.loop-k.k c.index-code-k.result (omega (arith, c.loop-k-test.true)) c.index-code-k.is))
          c.loop-k.invariant.told c.told_behind-telling.ensures
          (sym c.number_at-number.ensures) refl row c.loop-k.invariant.written c.in_ok-linked_operation.ensures.ok;
    }
