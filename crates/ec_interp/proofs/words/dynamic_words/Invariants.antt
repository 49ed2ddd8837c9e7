use Rattle.std.proofs.Common.{◌≡◌, ◌+◌, drop}
use Rattle.ec_core.specs.PortTable.{plain_table}
use Rattle.ec_core.specs.Words.{dynamic_words}
use Rattle.ec_interp.proofs.words.dynamic_words.Given as goal

abbrev pub invariant-loop-choice : goal.invariant-loop-choice
invariant-loop-choice l =
    l.words + dynamic_words (plain_table l.io) l.acquire (drop l.choice-index l.choices)
    ≡ dynamic_words (plain_table l.io) l.acquire l.choices
