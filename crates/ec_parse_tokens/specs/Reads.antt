-- What the functions of the parser answer, beside what reading answers.
use Rattle.std.specs.Prelude.{ℕ, suc, ◌-◌, ◌≡◌, ◌≤◌, List, [], ◌∷◌, length, nat_lt, Bool, true, false, cond}
use Rattle.std.specs.Prelude.{Option, Some, None, Result, Ok, Err}
use Rattle.ec_space.specs.declared.seq.NoMemory.{NoMemory}
use Rattle.ec_grammar.specs.declared.token.PragmaKind.{PragmaKind}
use Rattle.ec_grammar.specs.declared.token.PragmaState.{PragmaState}
use Rattle.ec_grammar.specs.declared.token.Token.{Token}
use Rattle.ec_grammar.specs.declared.Pragma.{Pragma}
use Rattle.ec_grammar.specs.declared.Spot.{Spot}
use Rattle.ec_grammar.specs.Tokens.{view_kind, Lexeme}
use Rattle.ec_grammar.specs.Trees.{Leaf}
use Rattle.ec_parse_laws.specs.Reading.{Fault, syntax, too_deep, first_is, Inner, within, opened_at}
use Rattle.ec_parse_laws.specs.Reading.{expression_by, assignment_by, conditional_by, cast_by, unary_by, initialiser_by}
use Rattle.ec_parse_laws.specs.Reading.{declaration_by, statement_by, compound_by}
use Rattle.ec_parse_laws.specs.Reading as reading
use Rattle.ec_parse_tokens.specs.declared.stop.ReadError.{ReadError}
use Rattle.ec_parse_tokens.specs.declared.stop.ReadError.TheVariants as errors
use Rattle.ec_parse_tokens.specs.declared.tokens.Keyword.{Keyword}
use Rattle.ec_parse_tokens.specs.declared.tokens.Keyword.TheVariants as keywords
use Rattle.ec_parse_tokens.specs.declared.tokens.Jump.{Jump}
use Rattle.ec_parse_tokens.specs.declared.tokens.Jump.TheVariants as jumps

-- the leaves that the last tokens of a list of so many are
abbrev pub leaves_of : ℕ → List Token → List Leaf
leaves_of count [] = []
leaves_of count (x ∷ xs) =
    record { spot = record { index = count - suc (length xs); at = x.at }; lexeme = view_kind x.kind }
    ∷ leaves_of count xs

-- ---- answers

-- A stop is the fault that reading answers, unless memory ran out.
abbrev pub Fails : {Y : Type 0} → ReadError → Result Y Fault → Type 0
Fails errors.NoMemory read = Unit {0}
Fails (errors.Syntax n) read = read ≡ Err (syntax n)
Fails (errors.TooDeep n) read = read ≡ Err (too_deep n)

-- What a function returned, seen by view, is what reading answers, unless memory ran out.
abbrev pub Gives : {X Y : Type 0} → (X → Y) → Result X ReadError → Result Y Fault → Type 0
Gives view (Ok x) read = read ≡ Ok (view x)
Gives view (Err e) read = Fails e read

abbrev pub FailsAt : {Y : Type 0} → ReadError → Option (Result Y Fault) → Type 0
FailsAt errors.NoMemory read = Unit {0}
FailsAt (errors.Syntax n) read = read ≡ Some (Err (syntax n))
FailsAt (errors.TooDeep n) read = read ≡ Some (Err (too_deep n))

-- The same of an item, which need not be there.
abbrev pub GivesAt : {X Y : Type 0} → (X → Y) → Result (Option X) ReadError → Option (Result Y Fault) → Type 0
GivesAt view (Ok None) read = read ≡ None
GivesAt view (Ok (Some x)) read = read ≡ Some (Ok (view x))
GivesAt view (Err e) read = FailsAt e read

-- What a function returned, seen by view, is what reading answers, and it is so; unless memory ran out.
abbrev pub Reads : {X Y : Type 0} → (X → Y) → (X → Type 0) → Result X ReadError → Result Y Fault → Type 0
Reads view IsSo (Ok x) read = (read ≡ Ok (view x)) × IsSo x
Reads view IsSo (Err e) read = Fails e read

-- The same of an item, which need not be there.
abbrev pub ReadsAt :
    {X Y : Type 0} → (X → Y) → (X → Type 0) → Result (Option X) ReadError → Option (Result Y Fault) → Type 0
ReadsAt view IsSo (Ok None) read = read ≡ None
ReadsAt view IsSo (Ok (Some x)) read = (read ≡ Some (Ok (view x))) × IsSo x
ReadsAt view IsSo (Err e) read = FailsAt e read

-- What a function made, seen by view, is this, and it is so; unless memory ran out.
abbrev pub Builds : {X Y : Type 0} → (X → Y) → (X → Type 0) → Result X ReadError → Y → Type 0
Builds view IsSo (Ok x) tree = (view x ≡ tree) × IsSo x
Builds view IsSo (Err e) tree = e ≡ errors.NoMemory

-- This was made of what was read, and these leaves are left.
abbrev pub made : {Y : Type 0} → Y → List Leaf → Result (Y × List Leaf) Fault
made y ts = Ok (y, ts)

-- What a test of the first tokens returned, seen by view, unless memory ran out.
abbrev pub GivesFirst : {X Y : Type 0} → (X → Y) → Result (Option X) NoMemory → Option Y → Type 0
GivesFirst view (Ok None) read = read ≡ None
GivesFirst view (Ok (Some x)) read = read ≡ Some (view x)
GivesFirst view (Err e) read = Unit {0}

-- Whether there is one.
abbrev pub IsThere : {Y : Type 0} → Bool → Option Y → Type 0
IsThere {Y = Y} true read = (y : Y) × (read ≡ Some y)
IsThere {Y = Y} false read = read ≡ None

-- It tells the first of the tokens.
abbrev pub IsUnexpected : ReadError → List Leaf → Type 0
IsUnexpected stop ts = stop ≡ errors.Syntax (length ts)

abbrev pub IsTooLong : ReadError → List Leaf → Type 0
IsTooLong stop ts = stop ≡ errors.TooDeep (length ts)

-- ---- tokens

abbrev pub view_jump : Jump → reading.Keyword
view_jump jumps.Break = reading.break_word
view_jump jumps.Continue = reading.continue_word
view_jump jumps.Return = reading.return_word

abbrev pub view_keyword : Keyword → reading.Keyword
view_keyword keywords.If = reading.if_word
view_keyword keywords.While = reading.while_word
view_keyword keywords.Do = reading.do_word
view_keyword keywords.For = reading.for_word
view_keyword (keywords.Jump j) = view_jump j

abbrev pub pragma_at_spot : PragmaKind → PragmaState → Spot → Pragma
pragma_at_spot which state = λ s. record { spot = s; which = which; state = state }

-- ---- depth

-- the readers inside a construct, where so many more may be opened
abbrev pub inner_at : ℕ → Inner
inner_at n = record {
  limit = 64;
  expression = expression_by (within 64 n);
  assignment = assignment_by (within 64 n);
  conditional = conditional_by (within 64 n);
  cast = cast_by (within 64 n);
  unary = unary_by (within 64 n);
  initialiser = initialiser_by (within 64 n);
  declaration = declaration_by (within 64 n);
  statement = statement_by (within 64 n);
  compound = compound_by (within 64 n);
}

-- How many may be opened inside a construct that the token before opens, where so many are left.
abbrev pub Opens : ℕ → Result ℕ ReadError → List Leaf → Type 0
Opens left (Ok n) ts = (opened_at 64 left ≡ Some (inner_at n)) × (suc n ≡ left)
Opens left (Err e) ts = (opened_at 64 left ≡ None) × (e ≡ errors.TooDeep (suc (length ts)))

abbrev pub IsFault : ReadError → Fault → Type 0
IsFault errors.NoMemory f = Unit {0}
IsFault (errors.Syntax n) f = f ≡ syntax n
IsFault (errors.TooDeep n) f = f ≡ too_deep n

-- The same inside one that the first token opens, where it can begin one.
abbrev pub BeginsIf : Bool → ℕ → Result ℕ ReadError → List Leaf → Type 0
BeginsIf starts left (Ok n) ts = (opened_at 64 left ≡ Some (inner_at n)) × (suc n ≡ left)
BeginsIf starts left (Err e) ts =
    (opened_at 64 left ≡ None) × IsFault e (cond starts (too_deep (length ts)) (syntax (length ts)))

abbrev pub Begins : (Lexeme → Bool) → ℕ → Result ℕ ReadError → List Leaf → Type 0
Begins starts left result ts = BeginsIf (first_is starts ts) left result ts

-- The height of a node whose parts have such a height, where it may end before these tokens.
abbrev pub Ends : ℕ → ℕ → Result ℕ ReadError → List Leaf → Type 0
Ends room below (Ok h) ts = (nat_lt room (suc below) ≡ false) × (h ≡ suc below) × (h ≤ room)
Ends room below (Err e) ts = (nat_lt room (suc below) ≡ true) × (e ≡ errors.TooDeep (suc (length ts)))
