use Rattle.std.proofs.Common.{◌≡◌, ◌∙◌, sym, length, arith}
use Rattle.std.specs.Prelude.{slice_index}
use Rattle.std.proofs.lemmas.List.{length-map}
use Rattle.ec_check_recursion.specs.Rows.{plain_rows}
use Rattle.ec_overlay.proofs.Counted.{begin_fits, begins_same, need_same}
use Rattle.ec_overlay.proofs.begins.area_of.Goals as goal

pub returns-clause-area : goal.returns-clause-area
returns-clause-area c size same =
    let rows = plain_rows c.args.rows.now in
    let long : length rows ≡ length c.args.rows.now = length-map c.args.rows.now _ in
    let sizes = slice_index c.args.sizes.now in
    record {
      count = c.in_ok-begins.ensures.count ∙ sym long;
      each = λ f l. c.in_ok-begins.ensures.each f (omega (arith, l, long))
          ∙ begins_same rows sizes size (λ k q. same k (omega (arith, q, long))) f;
      bytes = c.need_of-need.ensures.value ∙ need_same rows sizes size (λ k q. same k (omega (arith, q, long)));
    }

pub returns-clause-begins : goal.returns-clause-begins
returns-clause-begins c k d l =
    let rows = plain_rows c.args.rows.now in
    let long : length rows ≡ length c.args.rows.now = length-map c.args.rows.now _ in
    let few = c.requires.few in
    let count = c.requires.sizes in
    begin_fits rows (slice_index c.args.sizes.now) c.in_ok-begins.begins.items (length rows) k d
    (λ i q. c.requires.small i 0 (omega (arith, q, long, count))) (omega (arith, few, long)) (c.in_ok-begins.ensures.count ∙ sym long)
    (λ f q. c.in_ok-begins.ensures.each f (omega (arith, q, long))) l
