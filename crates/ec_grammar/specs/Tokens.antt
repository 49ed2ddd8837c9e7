-- Tokens as contracts see them, without pointers: a name is its bytes, whatever room its list has (ISO/IEC 9899:1999,
-- 6.4).
use Rattle.std.specs.Prelude.{ℕ, ℤ, Bool, List, map}
use Rattle.ec_fx.specs.declared.formats.FxKind.{FxKind}
use Rattle.ec_iohw.specs.declared.operations.IoOp.{IoOp}
use Rattle.ec_grammar.specs.declared.token.WordKind.{WordKind}
use Rattle.ec_grammar.specs.declared.token.PunctKind.{PunctKind}
use Rattle.ec_grammar.specs.declared.token.GroupOp.{GroupOp}
use Rattle.ec_grammar.specs.declared.token.PragmaKind.{PragmaKind}
use Rattle.ec_grammar.specs.declared.token.PragmaState.{PragmaState}
use Rattle.ec_grammar.specs.declared.token.TokenKind.{TokenKind}
use Rattle.ec_grammar.specs.declared.token.TokenKind.TheVariants as kinds
use Rattle.ec_grammar.specs.declared.token.Token.{Token}

-- a token without its place; a name is its bytes
pub data Lexeme : Type 0 where
  word : WordKind → Lexeme
  name : List ℕ → Lexeme
  punct : PunctKind → Lexeme
  whole : ℕ → Bool → ℕ → Lexeme
  fixed : FxKind → ℤ → Lexeme
  io_name : IoOp → Lexeme
  group_name : GroupOp → Lexeme
  pragma : PragmaKind → PragmaState → Lexeme
  reserved : Lexeme
  end : Lexeme

-- a token and the byte of the text at which it begins
pub record Placed : Type 0 where
  pub at : ℕ
  pub lexeme : Lexeme

abbrev pub view_kind : TokenKind → Lexeme
view_kind (kinds.Word w) = word w
view_kind (kinds.Name n) = name n.items
view_kind (kinds.Punct p) = punct p
view_kind (kinds.Whole value signed bytes) = whole value signed bytes
view_kind (kinds.FixedConst kind n) = fixed kind n
view_kind (kinds.IoName op) = io_name op
view_kind (kinds.GroupName op) = group_name op
view_kind (kinds.Pragma which state) = pragma which state
view_kind kinds.Reserved = reserved
view_kind kinds.End = end

abbrev pub view_token : Token → Placed
view_token t = record { at = t.at; lexeme = view_kind t.kind }

abbrev pub view_tokens : List Token → List Placed
view_tokens ts = map view_token ts
