use Rattle.std.proofs.Common.{◌∙◌, ap, ◌++◌, length, map, drop}
use Rattle.ec_core.specs.Layout.{plain_leaf, leaves_of_type}
use Rattle.ec_core.specs.Plain.{plain_type, plain_struct}
use Rattle.ec_check_initialisers.specs.Items.{zero_leaf}
use Rattle.ec_check_initialisers.proofs.Counts.{dropped}
use Rattle.ec_check_initialisers.proofs.statics.fill.Goals as goal

pub returns : goal.returns
returns c =
    let es = c.args.es.now.items in
    let given = c.count-given.ensures ∙ ap length c.as_slice-values.ensures.value in
    let rest = ap (map plain_leaf) (c.rest_of-rest.ensures ∙ ap (drop c.count-given.result) c.as_slice-whole.ensures)
    ∙ dropped plain_leaf c.count-given.result c.in_ok-all.all.items
    ∙ ap (drop c.count-given.result) c.in_ok-all.ensures
    ∙ ap (λ n. drop n (leaves_of_type (map plain_struct c.args.structs.now.items) (plain_type c.args.ty.now))) given in
    c.in_ok-push_zeros.ensures ∙ ap (λ ls. es ++ map (λ leaf. zero_leaf leaf.ty) ls) rest
