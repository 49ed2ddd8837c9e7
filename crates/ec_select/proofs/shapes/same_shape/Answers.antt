use Rattle.std.proofs.Common.{sym}
use Rattle.ec_core.specs.Plain.{plain_type}
use Rattle.ec_select.proofs.SameShapes.{binary_same, conversion_same}
use Rattle.ec_select.proofs.shapes.same_shape.Goals as goal

pub returns-in-Bin-j : goal.returns-in-Bin-j
returns-in-Bin-j c =
    let s = binary_same c.in-Bin.op c.in-Bin-j.operator (plain_type c.in-Bin.ty) (plain_type c.in-Bin-j.result)
    (plain_type c.in-Bin.aty) (plain_type c.in-Bin-j.left) (plain_type c.in-Bin.bty) (plain_type c.in-Bin-j.right)
    c.in-Bin.mode c.in-Bin-j.also in
    rw (
      c.in-Bin.is,
      c.in-Bin-j.is,
      c.binary_number.ensures,
      c.binary_number-in-Bin-j.ensures,
      c.is_same.ensures,
      c.is_same-in-Bin-j.ensures,
      c.is_same-in-Bin-j-2.ensures,
      c.same_mode.ensures,
    ) (sym s)

pub returns-in-Conv-j : goal.returns-in-Conv-j
returns-in-Conv-j c =
    let s = conversion_same (plain_type c.in-Conv.ty) (plain_type c.in-Conv-j.result)
    (plain_type c.in-Conv.aty) (plain_type c.in-Conv-j.from) c.in-Conv.mode c.in-Conv-j.also in
    rw (c.in-Conv.is, c.in-Conv-j.is, c.is_same-in-Conv-j.ensures, c.is_same-in-Conv-j-2.ensures, c.same_mode-in-Conv-j.ensures) (sym s)
