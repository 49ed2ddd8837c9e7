use Rattle.std.proofs.Common.{◌∙◌, ap}
use Rattle.ec_grammar.specs.Tokens.{view_kind}
use Rattle.ec_where_lines.specs.Advice.{word_run}
use Rattle.ec_where.specs.Messages.{known_text}
use Rattle.ec_where.proofs.Said.{says_none, says_row}
use Rattle.ec_where.proofs.messages.token_message.Goals as goal

pub returns-in-Some-fixed_message-clause-says : goal.returns-in-Some-fixed_message-clause-says
returns-in-Some-fixed_message-clause-says c =
    says_row c.args.text.now.items c.args.index c.args.fault c.in_ok-tokens.tokens.items c.in-Some.token.now
    c.in-Some-fixed_message.message.now (record {
      are = c.in_ok-tokens.ensures.tokens.0;
      here = c.in-Some.ensures;
      known = c.in-Some-fixed_message.ensures
          ∙ ap (known_text c.args.fault (view_kind c.in-Some.token.now.kind)) (c.word_run-word.ensures ∙ ap word_run c.bytes_from.ensures);
    })

pub returns-in-None-clause-says : goal.returns-in-None-clause-says
returns-in-None-clause-says c =
    says_none c.args.text.now.items c.args.index c.args.fault c.in_ok-tokens.tokens.items c.in-Some.token.now
    c.syntax_message.result (record {
      are = c.in_ok-tokens.ensures.tokens.0;
      here = c.in-Some.ensures;
      known = c.in-None.ensures
          ∙ ap (known_text c.args.fault (view_kind c.in-Some.token.now.kind)) (c.word_run-word.ensures ∙ ap word_run c.bytes_from.ensures);
    }) c.syntax_message.ensures.says
