use Rattle.std.proofs.Common.{◌≡◌, ◌+◌, ◌*◌, ◌^◌, ◌≤◌, drop}
use Rattle.ec_core.specs.PortTable.{plain_table}
use Rattle.ec_core.specs.Words.{dynamic_words}
use Rattle.ec_core_steps.proofs.words.choices_words.Given as goal

-- what was added, with the words of the choices that are left, is the words of all
abbrev pub invariant-loop-choice : goal.invariant-loop-choice
invariant-loop-choice l =
    (l.words + dynamic_words (plain_table l.io) l.acquire (drop l.choice-index l.choices)
    ≡ dynamic_words (plain_table l.io) l.acquire l.choices)
    × (l.words ≤ (40 + 10 * 2 ^ 62) * l.choice-index)
