use Rattle.std.proofs.Common.{◌≡◌, ◌∙◌, length, sym, arith}
use Rattle.std.specs.Prelude.{slice_index}
use Rattle.std.proofs.lemmas.List.{length-map}
use Rattle.ec_check_recursion.specs.Rows.{plain_rows}
use Rattle.ec_overlay.proofs.Counted.{begin_fits, need_fits}
use Rattle.ec_overlay.proofs.begins.need_of.Goals as goal

pub overflow_add-end : goal.overflow_add-end
overflow_add-end c =
    let rows = plain_rows c.args.rows.now in
    let long : length rows ≡ length c.args.rows.now = length-map c.args.rows.now _ in
    let few = c.requires.few in
    let count = c.requires.sizes in
    let many = c.requires.count in
    let test = c.loop-function-test.true in
    let most = begin_fits rows (slice_index c.args.sizes.now) c.args.begins.now (length rows) c.loop-function.function 0
    (λ i q. c.requires.small i 0 (omega (arith, q, long, count))) (omega (arith, few, long)) (many ∙ sym long)
    (λ f q. c.requires.each f (omega (arith, q, long)))
    test in
    let small = c.requires.small c.loop-function.function 0 (omega (arith, long, count, many, test)) in
    omega (arith, most, small)

pub returns-clause-bound : goal.returns-clause-bound
returns-clause-bound c =
    let rows = plain_rows c.args.rows.now in
    let long : length rows ≡ length c.args.rows.now = length-map c.args.rows.now _ in
    let few = c.requires.few in
    let count = c.requires.sizes in
    let many = c.requires.count in
    let end = c.loop-function.auto.function-end in
    need_fits rows (slice_index c.args.sizes.now) c.loop-function.function c.loop-function.need
    (λ i q. c.requires.small i 0 (omega (arith, q, long, count))) (omega (arith, few, long)) (omega (arith, end, many, long))
    c.loop-function.invariant
