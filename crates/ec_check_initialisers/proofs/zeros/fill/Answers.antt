use Rattle.std.proofs.Common.{◌∙◌, sym, ap, ◌++◌, length, map, drop}
use Rattle.std.proofs.Math.ListN.{length-map}
use Rattle.ec_core.specs.Layout.{plain_leaf, leaves_of_type}
use Rattle.ec_core.specs.Plain.{plain_type, plain_expr, plain_struct}
use Rattle.ec_check_initialisers.specs.Parts.{zero_of}
use Rattle.ec_check_initialisers.proofs.Counts.{dropped}
use Rattle.ec_check_initialisers.proofs.zeros.fill.Goals as goal

pub returns : goal.returns
returns c =
    let es = c.args.es.now.items in
    let given = c.count-given.ensures ∙ ap length c.as_slice-values.ensures.value ∙ sym (length-map es plain_expr) in
    let rest = ap (map plain_leaf) (c.rest_of-rest.ensures ∙ ap (drop c.count-given.result) c.as_slice-whole.ensures)
    ∙ dropped plain_leaf c.count-given.result c.in_ok-all.all.items
    ∙ ap (drop c.count-given.result) c.in_ok-all.ensures
    ∙ ap (λ n. drop n (leaves_of_type (map plain_struct c.args.structs.now.items) (plain_type c.args.ty.now))) given in
    c.in_ok-push_zeros.ensures ∙ ap (λ ls. map plain_expr es ++ map (λ leaf. zero_of c.args.modes leaf.ty) ls) rest
