use Rattle.std.proofs.Common.{◌≡◌, ◌∙◌, ap, map}
use Rattle.ec_core.specs.Plain.{plain_struct, plain_object}
use Rattle.ec_locate.specs.Code.{layout_view}
use Rattle.ec_locate.specs.Image.{flash_of, blank, with_objects, with_bytes}
use Rattle.ec_locate.proofs.LeafValues.{same_flash}
use Rattle.ec_locate.proofs.image.image_from.Goals as goal

pub returns-clause-flash : goal.returns-clause-flash
returns-clause-flash c =
    let program = c.args.program.now in
    let structs = map plain_struct program.structs.items in
    let objects = map plain_object program.objs.items in
    let y = layout_view c.args.layout.now in
    let start : flash_of c.in_ok-image.image ≡ blank c.args.core = same_flash _ _ _ _ c.in_ok-image.ensures.bytes c.in_ok-image.ensures.written in
    let values : flash_of c.write_objects.new.image ≡ with_objects structs y 0 objects (blank c.args.core) =
    (rw c.as_slice-objs.ensures at c.in_ok-write_objects.ensures.flash) ∙ ap (with_objects structs y 0 objects) start in
    let code = c.as_slice.result.now in
    let written : flash_of c.write_from.new.image ≡ with_bytes (flash_of c.write_objects.new.image) 0 code =
    same_flash _ _ _ _ c.write_from.ensures.bytes c.write_from.ensures.written in
    written ∙ ap (λ f. with_bytes f 0 code) values
    ∙ ap (with_bytes (with_objects structs y 0 objects (blank c.args.core)) 0) (c.as_slice.ensures ∙ c.in_ok-code.ensures)
