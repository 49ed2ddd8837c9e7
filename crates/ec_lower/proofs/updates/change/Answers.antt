use Rattle.ec_lower.proofs.updates.change.Goals as goal

pub returns-in-Void : goal.returns-in-Void
returns-in-Void c = rw (c.in-Void.is) (rw (c.in-Void.is) at c.update.ensures)

pub returns-in-Array : goal.returns-in-Array
returns-in-Array c = rw (c.in-Array.is) (rw (c.in-Array.is) at c.update-in-Array.ensures)

pub returns-in-Struct : goal.returns-in-Struct
returns-in-Struct c = rw (c.in-Struct.is) (rw (c.in-Struct.is) at c.update-in-Struct.ensures)
