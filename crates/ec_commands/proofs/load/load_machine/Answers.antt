use Rattle.ec_commands.proofs.load.load_machine.Goals as goal

pub returns-in-Ok-boot-clause-found : goal.returns-in-Ok-boot-clause-found
returns-in-Ok-boot-clause-found c = (
  c.in-Ok.image.bytes.items,
  (c.in-Ok.image.written.items, (c.in-Ok.ensures.denoted, rw c.in-Ok.ensures.core at c.in-Ok-boot.ensures.value)),
)
