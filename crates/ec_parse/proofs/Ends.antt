-- Lists that end with their end.
use Rattle.std.proofs.Common.{◌≡◌, List, [], ◌∷◌, ◌++◌, refl, ap, ◌∙◌}
use Rattle.ec_grammar.specs.declared.token.Token.{Token}
use Rattle.ec_grammar.specs.Tokens as tokens
use Rattle.ec_grammar.specs.Tokens.{view_token, view_tokens}
use Rattle.ec_parse_laws.specs.Refusals.{EndsWithEnd}

view_last : (xs : List Token) (x : Token) → view_tokens (xs ++ x ∷ []) ≡ view_tokens xs ++ view_token x ∷ []
view_last [] x = refl
view_last (y ∷ ys) x = ap (λ zs. view_token y ∷ zs) (view_last ys x)

-- a list whose last token is the end ends with its end
pub ends_with_end : (all xs : List Token) (x : Token) → all ≡ xs ++ x ∷ [] → (view_token x).lexeme ≡ tokens.end
    → EndsWithEnd (view_tokens all)
ends_with_end all xs x e end = (view_tokens xs, view_token x, ap view_tokens e ∙ view_last xs x, end)
