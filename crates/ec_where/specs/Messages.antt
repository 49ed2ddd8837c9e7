-- What is told of a fault in a source: a row of a table, by the bytes or the token that stand at the fault, or the exact
-- list of the tokens that may stand there.
use Rattle.std.specs.Prelude.{ℕ, min, ◌≡◌, ◌⊎◌, ◌==◌, Bool, List, ◌++◌, drop, length, map, take, slice_get, codes, string_bytes}
use Rattle.std.specs.Prelude.{Option, Some, None, MatchOption, if◌then◌else◌}
use Rattle.ec_grammar.specs.Tokens.{Lexeme, Placed, name, reserved}
use Rattle.ec_lex.specs.Text.{Tokens}
use Rattle.ec_parse_laws.specs.Refusals.{StopsBehind}
use Rattle.ec_where_expected.specs.Expected.{AreStanding}
use Rattle.ec_where_expected.specs.Listed.{listed}
use Rattle.ec_where_lines.specs.declared.fault.TokenFault.{TokenFault}
use Rattle.ec_where_lines.specs.declared.fault.TokenFault.TheVariants.{Syntax, Constraint, Uncounted, Undefined}
use Rattle.ec_where_lines.specs.declared.fault.Fault.{Fault}
use Rattle.ec_where_lines.specs.declared.fault.Fault.TheVariants.{Byte, Token}
use Rattle.ec_where_lines.specs.declared.rules.TheConstants.{CONSTRAINTS, POINTS, SYNTAX, UNCOUNTED}
use Rattle.ec_where_lines.specs.declared.words.TheConstants.{NAMES, RESERVED}
use Rattle.ec_where_lines.specs.Advice.{byte_message, undeclared, word_run}
use Rattle.ec_where_lines.specs.Parts.{look_up, row_of}
use Rattle.ec_where.specs.declared.messages.Message.{Message}
use Rattle.ec_where.specs.declared.messages.Message.TheVariants.{Fixed, Made}

abbrev pub message_text : Message → List ℕ
message_text (Fixed text) = text.now
message_text (Made text) = string_bytes text

-- the bytes of a text from an offset on
abbrev pub bytes_from : List ℕ → ℕ → List ℕ
bytes_from text at = drop (min (length text) at) text

-- the row for a word that the language leaves out, or for a name that nothing has made known
abbrev pub known_word : Lexeme → List ℕ → Option (List ℕ)
known_word reserved word = look_up word (map (λ x. (x.0.now, x.1.now)) RESERVED)
known_word (name bytes) word = look_up word (map (λ x. (x.0.now, x.1.now)) NAMES)
known_word lexeme word = None

-- what is told of an undeclared name, constraint 20, where more is known of it
abbrev pub undeclared_at : ℕ → Lexeme → List ℕ → Option (List ℕ)
undeclared_at rule (name bytes) word = if rule == 20 then undeclared word else None
undeclared_at rule lexeme word = None

-- a row, or else the row of the constraint
abbrev pub or_constraint : Option (List ℕ) → ℕ → Option (List ℕ)
or_constraint (Some message) rule = Some message
or_constraint None rule = row_of (map (λ x. x.now) CONSTRAINTS) rule

-- the row for a fault at a token and the word that stands there
abbrev pub known_text : TokenFault → Lexeme → List ℕ → Option (List ℕ)
known_text Syntax lexeme word = known_word lexeme word
known_text (Constraint rule) lexeme word = or_constraint (undeclared_at rule lexeme word) rule
known_text Uncounted lexeme word = Some UNCOUNTED.now
known_text (Undefined point) lexeme word = row_of (map (λ x. x.now) POINTS) point

-- the message lists the kinds of tokens that may stand behind the first k, which are just those with which a program
-- still begins, behind a hint, which may be empty
pub record IsExpected (list : List Placed) (k : ℕ) (message : List ℕ) : Type 0 where
  pub flags : List Bool
  pub standing : AreStanding (take k list) flags
  pub hint : List ℕ
  pub text : message ≡ hint ++ (codes "this cannot stand here; what can: " ++ (listed flags ++ codes " (C99 6.5 to 6.9)"))

-- the message lists what may stand at the first bad token, or no program begins with the tokens before it, or one goes on
abbrev pub IsSyntaxMessage : List Placed → ℕ → List ℕ → Type 0
IsSyntaxMessage list k message =
    IsExpected list k message ⊎ ((StopsBehind 64 k list → ⊥) × (message ≡ SYNTAX.now))

-- what is told of a fault at a token of a text
pub record SaysAt (text : List ℕ) (index : ℕ) (fault : TokenFault) (message : List ℕ) : Type 0 where
  pub list : List Placed
  pub token : Placed
  pub tokens : Tokens text list
  pub here : slice_get list index ≡ Some token
  pub says : MatchOption (known_text fault token.lexeme (word_run (bytes_from text token.at)))
      (IsSyntaxMessage list index message) (λ known. message ≡ known)

-- what is told of a fault in a text
abbrev pub Says : List ℕ → Fault → List ℕ → Type 0
Says text (Byte offset what) message = message ≡ byte_message what (bytes_from text offset)
Says text (Token index what) message = SaysAt text index what message
