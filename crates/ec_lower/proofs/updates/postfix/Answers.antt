use Rattle.ec_lower.proofs.updates.postfix.Goals as goal

pub returns-in-Void : goal.returns-in-Void
returns-in-Void c = rw (c.in-Void.is) (rw (c.in-Void.is, c.requires) at c.keep.ensures)

pub returns-in-Array : goal.returns-in-Array
returns-in-Array c = rw (c.in-Array.is) (rw (c.in-Array.is, c.requires) at c.keep-in-Array.ensures)

pub returns-in-Struct : goal.returns-in-Struct
returns-in-Struct c = rw (c.in-Struct.is) (rw (c.in-Struct.is, c.requires) at c.keep-in-Struct.ensures)
