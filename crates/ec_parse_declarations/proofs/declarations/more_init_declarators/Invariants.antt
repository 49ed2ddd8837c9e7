use Rattle.std.proofs.Common.{◌-◌, map}
use Rattle.ec_grammar.specs.Nesting.{height_list, height_next_init_declarator}
use Rattle.ec_grammar.specs.Trees.{next_init_declarator}
use Rattle.ec_grammar.specs.Views.{view_next_init_declarator}
use Rattle.ec_parse_laws.specs.Reading.{many, behind_comma, init_declarator_by, within}
use Rattle.ec_parse_tokens.specs.Reads.{leaves_of}
use Rattle.ec_parse_expressions.proofs.Many.{IsPart}
use Rattle.ec_parse_expressions.specs.Heights.{IsHeight}
use Rattle.ec_parse_declarations.proofs.declarations.more_init_declarators.Given as goal

abbrev pub invariant-loop : goal.invariant-loop
invariant-loop l = IsPart (behind_comma next_init_declarator (init_declarator_by (within 64 l.left)))
    (map view_next_init_declarator l.all.items) (l.end - l.counter) (leaves_of l.source.count l.rest)
    (many (behind_comma next_init_declarator (init_declarator_by (within 64 l.left))) (leaves_of l.source.count l.tokens))
    × IsHeight 64 (height_list height_next_init_declarator (map view_next_init_declarator l.all.items)) l.height
