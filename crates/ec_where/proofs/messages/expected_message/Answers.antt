use Rattle.std.proofs.Common.{◌∙◌, ◌++◌, List, ℕ, ap}
use Rattle.std.specs.Prelude.{codes}
use Rattle.ec_where_expected.specs.Listed.{listed}
use Rattle.ec_where.proofs.messages.expected_message.Goals as goal

pub returns-in-Ok-format-clause-expected : goal.returns-in-Ok-format-clause-expected
returns-in-Ok-format-clause-expected c = record {
  flags = c.in-Ok.flags.items;
  standing = c.in-Ok.ensures;
  hint = c.hint-hint.result.now;
  text = c.in-Ok-format.ensures.ok
      ∙ ap (λ (names : List ℕ).
      c.hint-hint.result.now ++ (codes "this cannot stand here; what can: " ++ (names ++ codes " (C99 6.5 to 6.9)")))
      (c.in-Ok-listed.ensures ∙ ap listed c.as_slice.ensures);
}
