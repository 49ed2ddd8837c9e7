use Rattle.std.proofs.Common.{◌≡◌, ◌++◌, drop}
use Rattle.ec_asm.specs.Placed.{code_image}
use Rattle.ec_locate.specs.Code.{layout_view, resolved}
use Rattle.ec_locate.proofs.code.code_of.Given as goal

abbrev pub invariant-loop-item : goal.invariant-loop-item
invariant-loop-item l =
    let e = resolved l.items (layout_view l.layout) l.last in
    l.out.items ++ code_image e (drop l.item-index l.items) ≡ code_image e l.items
