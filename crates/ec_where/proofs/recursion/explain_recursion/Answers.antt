use Rattle.std.proofs.Common.{List, ℕ, arith, subst}
use Rattle.std.specs.Prelude.{string_bytes}
use Rattle.ec_where.specs.Recursion.{IsShownIn}
use Rattle.ec_where.proofs.Files.{contains_item, same_shown}
use Rattle.ec_where.proofs.recursion.explain_recursion.Goals as goal

pub returns-in-Some : goal.returns-in-Some
returns-in-Some g c =
    let file = string_bytes c.file-item.result in
    let now = g.S.Store.disk c.loop-file.store in (
      file,
      contains_item string_bytes c.args.files.now c.loop-file.file-index c.file-item.result
          (omega (arith, c.loop-file-test.true)) c.file-item.is,
      same_shown (g.S.Store.disk c.args.store.now) now file c.args.name.now c.in-Some.text.items c.loop-file.invariant
          (subst (λ (f : List ℕ). IsShownIn now f c.args.name.now c.in-Some.text.items) c.as_str.ensures.value c.in-Some.ensures.told),
    )
