-- What is told of a fault at a token, by the row that there is or is not.
use Rattle.std.proofs.Common.{◌≡◌, ◌∙◌, ℕ, List, ap, refl, subst, sym}
use Rattle.std.specs.Prelude.{Option, Some, None, MatchOption, Result, Ok, Err, IfOk, option_map, slice_get}
use Rattle.std.proofs.lemmas.Option.{slice_get-map}
use Rattle.ec_grammar.specs.declared.token.Token.{Token}
use Rattle.ec_grammar.specs.Tokens.{view_token, view_tokens}
use Rattle.ec_lex.specs.Text.{Tokens}
use Rattle.ec_where_lines.specs.declared.fault.TokenFault.{TokenFault}
use Rattle.ec_where_lines.specs.Advice.{word_run}
use Rattle.ec_where.specs.declared.locate.NotFound.{NotFound}
use Rattle.ec_where.specs.declared.messages.Message.{Message}
use Rattle.ec_where.specs.Messages.{IsSyntaxMessage, SaysAt, bytes_from, known_text, message_text}

-- the row for this fault at the token that has this index
pub record Known (text : List ℕ) (index : ℕ) (fault : TokenFault) (tokens : List Token) (token : Token)
    (row : Option (List ℕ)) : Type 0 where
  pub are : Tokens text (view_tokens tokens)
  pub here : Some token ≡ slice_get tokens index
  pub known : row ≡ known_text fault (view_token token).lexeme (word_run (bytes_from text token.at))

here_of : (tokens : List Token) (token : Token) (index : ℕ) → Some token ≡ slice_get tokens index
    → slice_get (view_tokens tokens) index ≡ Some (view_token token)
here_of tokens token index here = slice_get-map view_token tokens index ∙ ap (option_map view_token) (sym here)

says : (text : List ℕ) (index : ℕ) (fault : TokenFault) (tokens : List Token) (token : Token) (row : Option (List ℕ)) (message : List ℕ)
    → Known text index fault tokens token row
    → MatchOption row (IsSyntaxMessage (view_tokens tokens) index message) (λ known. message ≡ known) → SaysAt text index fault message
says text index fault tokens token row message k told = record {
  list = view_tokens tokens;
  token = view_token token;
  tokens = k.are;
  here = here_of tokens token index k.here;
  says = subst (λ (o : Option (List ℕ)). MatchOption o (IsSyntaxMessage (view_tokens tokens) index message) (λ known. message ≡ known))
      k.known told;
}

pub says_row : (text : List ℕ) (index : ℕ) (fault : TokenFault) (tokens : List Token) (token : Token) (row : List ℕ)
    → Known text index fault tokens token (Some row) → SaysAt text index fault row
says_row text index fault tokens token row k = says text index fault tokens token (Some row) row k refl

pub says_none : (text : List ℕ) (index : ℕ) (fault : TokenFault) (tokens : List Token) (token : Token) (r : Result Message NotFound)
    → Known text index fault tokens token None → IfOk r (λ m. IsSyntaxMessage (view_tokens tokens) index (message_text m))
    → IfOk r (λ m. SaysAt text index fault (message_text m))
says_none text index fault tokens token (Ok m) k told = says text index fault tokens token None (message_text m) k told
says_none text index fault tokens token (Err e) k told = tt
