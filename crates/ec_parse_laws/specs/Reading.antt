-- Reading a tree from the start of a list of leaves. Each reader answers the tree and the leaves that it leaves, or a
-- fault at the first token that it cannot go on with.
--
-- `room` is the height that the nodes around, as far as they may end with this one, leave to it. A reader that opens a
-- construct goes on with the readers of `Inner`, which may open one construct less.
use Rattle.std.specs.Prelude.{ℕ, zero, suc, ◌-◌, ◌==◌, max, nat_lt, List, [], ◌∷◌, length, Bool, true, false, cond}
use Rattle.std.specs.Prelude.{Option, Some, None, Result, Ok, Err}
use Rattle.ec_grammar.specs.declared.token.WordKind.{WordKind}
use Rattle.ec_grammar.specs.declared.token.WordKind.TheVariants as words
use Rattle.ec_grammar.specs.declared.token.PunctKind.{PunctKind}
use Rattle.ec_grammar.specs.declared.token.PunctKind.TheVariants.{LeftBrace, RightBrace, LeftParenthesis}
use Rattle.ec_grammar.specs.declared.token.PunctKind.TheVariants.{RightParenthesis, LeftBracket, RightBracket}
use Rattle.ec_grammar.specs.declared.token.PunctKind.TheVariants.{Semicolon, Comma, Star, Question, Colon, Assign}
use Rattle.ec_grammar.specs.declared.Spot.{Spot}
use Rattle.ec_grammar.specs.declared.Constant.{Constant}
use Rattle.ec_grammar.specs.declared.Constant.TheVariants as constants
use Rattle.ec_grammar.specs.declared.Operation.{Operation}
use Rattle.ec_grammar.specs.declared.Operation.TheVariants as operations
use Rattle.ec_grammar.specs.declared.Pragma.{Pragma}
use Rattle.ec_grammar.specs.declared.Qualifier.{Qualifier}
use Rattle.ec_grammar.specs.Tokens as tokens
use Rattle.ec_grammar.specs.Tokens.{Lexeme}
use Rattle.ec_grammar.specs.Trees as t
use Rattle.ec_grammar.specs.Trees.{Leaf}
use Rattle.ec_grammar.specs.Grammar.{is_qualifier, is_spec_word, level_of, is_assign, is_step, is_prefix, is_access}
use Rattle.ec_grammar.specs.Grammar.{lone_void}
use Rattle.ec_grammar.specs.Nesting as nest
use Rattle.ec_parse_laws.specs.Codes.{same_punct, same_word}

-- a fault, told by the number of tokens from its place on
pub data Fault : Type 0 where
  syntax : ℕ → Fault
  too_deep : ℕ → Fault

abbrev pub Read : Type 0 → Type 0
Read A = Result (A × List Leaf) Fault

infixl 10 ◌>>=◌
abbrev pub ◌>>=◌ : {A B : Type 0} → Result A Fault → (A → Result B Fault) → Result B Fault
(Ok x) >>= f = f x
(Err e) >>= f = Err e

-- where there is a value, one way on, else the other
abbrev pub when : {A B : Type 0} → Option A → (A → B) → B → B
when (Some x) f other = f x
when None f other = other

-- ---- tokens

-- the first token, where it is of a kind that has a value, and the tokens after it
unfoldable pub leaf_if : {B : Type 0} → (Lexeme → Option B) → List Leaf → Option (Spot × B × List Leaf)
leaf_if value [] = None
leaf_if value (x ∷ xs) = when (value x.lexeme) (λ b. Some (x.spot, b, xs)) None

abbrev pub punct_if : (PunctKind → Bool) → Lexeme → Option PunctKind
punct_if test (tokens.punct p) = cond (test p) (Some p) None
punct_if test _ = None

abbrev pub word_if : (WordKind → Bool) → Lexeme → Option WordKind
word_if test (tokens.word w) = cond (test w) (Some w) None
word_if test _ = None

abbrev pub name_of : Lexeme → Option (List ℕ)
name_of (tokens.name n) = Some n
name_of _ = None

abbrev pub constant_of : Lexeme → Option Constant
constant_of (tokens.whole value signed bytes) = Some (constants.Whole value signed bytes)
constant_of (tokens.fixed kind n) = Some (constants.Fixed kind n)
constant_of _ = None

abbrev pub operation_of : Lexeme → Option Operation
operation_of (tokens.io_name op) = Some (operations.Port op)
operation_of (tokens.group_name op) = Some (operations.Group op)
operation_of _ = None

abbrev pub pragma_of : Lexeme → Option (Spot → Pragma)
pragma_of (tokens.pragma which state) = Some (λ s. record { spot = s; which = which; state = state })
pragma_of _ = None

abbrev pub end_of : Lexeme → Option ℕ
end_of tokens.end = Some 0
end_of _ = None

abbrev pub taken : PunctKind → List Leaf → Option (Spot × PunctKind × List Leaf)
taken p ts = leaf_if (punct_if (λ q. same_punct q p)) ts

abbrev pub taken_word : WordKind → List Leaf → Option (Spot × WordKind × List Leaf)
taken_word w ts = leaf_if (word_if (λ v. same_word v w)) ts

abbrev pub needed : {A : Type 0} → Option (Spot × A × List Leaf) → List Leaf → Read Spot
needed (Some x) ts = Ok (x.0, x.2)
needed None ts = Err (syntax (length ts))

abbrev pub expected : PunctKind → List Leaf → Read Spot
expected p ts = needed (taken p ts) ts

abbrev pub expected_word : WordKind → List Leaf → Read Spot
expected_word w ts = needed (taken_word w ts) ts

abbrev pub identifier_at : List Leaf → Option (t.Identifier × List Leaf)
identifier_at ts = when (leaf_if name_of ts) (λ x. Some (t.identifier x.0 x.1, x.2)) None

abbrev pub identifier : List Leaf → Read t.Identifier
identifier ts = when (leaf_if name_of ts) (λ x. Ok (t.identifier x.0 x.1, x.2)) (Err (syntax (length ts)))

-- the words that begin specifiers
abbrev pub starts_specs : WordKind → Bool
starts_specs w = cond (is_spec_word w) true (same_word w words.Struct)

-- the words that begin a statement
pub data Keyword : Type 0 where
  if_word : Keyword
  while_word : Keyword
  do_word : Keyword
  for_word : Keyword
  break_word : Keyword
  continue_word : Keyword
  return_word : Keyword

abbrev pub keyword_of_word : WordKind → Option Keyword
keyword_of_word words.If = Some if_word
keyword_of_word words.While = Some while_word
keyword_of_word words.Do = Some do_word
keyword_of_word words.For = Some for_word
keyword_of_word words.Break = Some break_word
keyword_of_word words.Continue = Some continue_word
keyword_of_word words.Return = Some return_word
keyword_of_word _ = None

abbrev pub keyword_of : Lexeme → Option Keyword
keyword_of (tokens.word w) = keyword_of_word w
keyword_of _ = None

-- how an expression begins
abbrev pub starts_punct : PunctKind → Bool
starts_punct LeftParenthesis = true
starts_punct p = cond (is_prefix p) true (is_step p)

abbrev pub starts_lexeme : Lexeme → Bool
starts_lexeme (tokens.word w) = same_word w words.Sizeof
starts_lexeme (tokens.punct p) = starts_punct p
starts_lexeme (tokens.name n) = true
starts_lexeme (tokens.whole value signed bytes) = true
starts_lexeme (tokens.fixed kind n) = true
starts_lexeme (tokens.io_name op) = true
starts_lexeme (tokens.group_name op) = true
starts_lexeme _ = false

abbrev pub first_is : (Lexeme → Bool) → List Leaf → Bool
first_is test [] = false
first_is test (x ∷ xs) = test x.lexeme

-- how a statement begins
abbrev pub is_some : {A : Type 0} → Option A → Bool
is_some (Some x) = true
is_some None = false

abbrev pub starts_statement_punct : PunctKind → Bool
starts_statement_punct p = cond (same_punct p LeftBrace) true (cond (same_punct p Semicolon) true (starts_punct p))

abbrev pub starts_statement : Lexeme → Bool
starts_statement (tokens.punct p) = starts_statement_punct p
starts_statement (tokens.word w) = cond (is_some (keyword_of_word w)) true (same_word w words.Sizeof)
starts_statement x = starts_lexeme x

-- ---- lists

-- as many items as there are, one after another
unfoldable pub many_up_to : {A : Type 0} → (List Leaf → Option (Read A)) → ℕ → List Leaf → Read (List A)
many_up_to item zero ts = Ok ([], ts)
many_up_to item (suc n) ts =
    when (item ts) (λ r. r >>= λ x. many_up_to item n x.1 >>= λ xs. Ok (x.0 ∷ xs.0, xs.1)) (Ok ([], ts))

abbrev pub many : {A : Type 0} → (List Leaf → Option (Read A)) → List Leaf → Read (List A)
many item ts = many_up_to item (length ts) ts

-- an item behind a comma
abbrev pub behind_comma : {A B : Type 0} → (Spot → A → B) → (List Leaf → Read A) → List Leaf → Option (Read B)
behind_comma make item ts = when (taken Comma ts) (λ c. Some (item c.2 >>= λ x. Ok (make c.0 x.0, x.1))) None

-- ---- depth

-- a node that ends before `rest`, and is not to be higher than its room
abbrev pub ends : {A : Type 0} → ℕ → ℕ → A → List Leaf → Read A
ends room height x rest = cond (nat_lt room height) (Err (too_deep (suc (length rest)))) (Ok (x, rest))

-- the room of what stands last in a node, behind parts of such a height
abbrev pub room_after : ℕ → ℕ → ℕ
room_after room height = cond (nat_lt height room) (room - 1) 0

-- the readers inside a construct
pub record Inner : Type 0 where
  pub limit : ℕ
  pub expression : ℕ → List Leaf → Read t.Expression
  pub assignment : ℕ → List Leaf → Read t.Assignment
  pub conditional : ℕ → List Leaf → Read t.Conditional
  pub cast : ℕ → List Leaf → Read t.Cast
  pub unary : ℕ → List Leaf → Read t.Unary
  pub initialiser : ℕ → List Leaf → Read t.Initialiser
  pub declaration : List Leaf → Read t.Declaration
  pub statement : ℕ → List Leaf → Read t.Statement
  pub compound : ℕ → List Leaf → Read t.Compound

-- the greatest height that is accepted, and the readers inside a construct, where one may be opened
pub record Depth : Type 0 where
  pub limit : ℕ
  pub opened : Option Inner

abbrev pub inside_of : {A : Type 0} → Option Inner → List Leaf → (Inner → Read A) → Read A
inside_of (Some i) ts read = read i
inside_of None ts read = Err (too_deep (suc (length ts)))

-- inside a construct that the token before `ts` opens
abbrev pub inside : {A : Type 0} → Depth → List Leaf → (Inner → Read A) → Read A
inside inner ts read = inside_of inner.opened ts read

abbrev pub begun_of : {A : Type 0} → (Lexeme → Bool) → Option Inner → List Leaf → (Inner → Read A) → Read A
begun_of starts (Some i) ts read = read i
begun_of starts None ts read = Err (cond (first_is starts ts) (too_deep (length ts)) (syntax (length ts)))

-- inside a construct that the first token of `ts` opens, where it is one that begins such a construct
abbrev pub begun : {A : Type 0} → (Lexeme → Bool) → Depth → List Leaf → (Inner → Read A) → Read A
begun starts inner ts read = begun_of starts inner.opened ts read

-- ---- specifiers and type names

abbrev pub qualifier_at : List Leaf → Option (Read Qualifier)
qualifier_at ts =
    when (leaf_if (word_if is_qualifier) ts) (λ w. Some (Ok (record { spot = w.0; word = w.1 }, w.2))) None

unfoldable pub star_at : List Leaf → Option (Read t.Star)
star_at ts = when (taken Star ts) (λ s. Some (many qualifier_at s.2 >>= λ q. Ok (t.star s.0 q.0, q.1))) None

unfoldable pub spec_at : List Leaf → Option (Read t.Spec)
spec_at ts = when (leaf_if (word_if is_spec_word) ts) (λ w. Some (Ok (t.word_spec w.0 w.1, w.2)))
    (when (taken_word words.Struct ts) (λ s. Some (identifier s.2 >>= λ n. Ok (t.struct_spec s.0 n.0, n.1))) None)

unfoldable pub specs_by : List Leaf → Read t.Specs
specs_by ts =
    when (spec_at ts) (λ r. r >>= λ s. many spec_at s.1 >>= λ more. Ok (t.specs s.0 more.0, more.1))
    (Err (syntax (length ts)))

unfoldable pub type_name_by : List Leaf → Read t.TypeName
type_name_by ts = specs_by ts >>= λ s. many star_at s.1 >>= λ stars. Ok (t.type_name s.0 stars.0, stars.1)

-- ---- expressions

abbrev pub further_of : List (Spot × t.Assignment) → t.Further
further_of [] = t.no_further
further_of (x ∷ xs) = t.further x.0 x.1 (further_of xs)

abbrev pub pair : {A : Type 0} → Spot → A → Spot × A
pair s x = (s, x)

abbrev pub argument_at : Inner → List Leaf → Option (Read (Spot × t.Assignment))
argument_at i ts = behind_comma pair (i.assignment i.limit) ts

unfoldable pub further_by : Inner → List Leaf → Read t.Further
further_by i ts = many (argument_at i) ts >>= λ more. Ok (further_of more.0, more.1)

unfoldable pub arguments_by : Inner → List Leaf → Read t.Arguments
arguments_by i ts = when (taken RightParenthesis ts) (λ r. Ok (t.no_arguments, ts))
    (i.assignment i.limit ts >>= λ a. further_by i a.1 >>= λ more. Ok (t.arguments a.0 more.0, more.1))

unfoldable pub operation_by : Depth → ℕ → Spot → Operation → List Leaf → Read t.Primary
operation_by inner room s op ts =
    expected LeftParenthesis ts >>= λ l. inside inner l.1 (λ i. identifier l.1 >>= λ n. further_by i n.1 >>= λ more.
    expected RightParenthesis more.1 >>= λ r.
    ends room (suc (nest.height_further more.0)) (t.operation s op l.0 n.0 more.0 r.0) r.1)

unfoldable pub primary_by : Depth → ℕ → List Leaf → Read t.Primary
primary_by inner room ts = when (taken LeftParenthesis ts)
    (λ l. inside inner l.2 (λ i. i.expression i.limit l.2 >>= λ e. expected RightParenthesis e.1 >>= λ r.
    ends room (suc (nest.height_expression e.0)) (t.parenthesised l.0 e.0 r.0) r.1))
    (when (leaf_if operation_of ts) (λ o. operation_by inner room o.0 o.1 o.2)
    (when (leaf_if constant_of ts) (λ k. ends room 1 (t.constant k.0 k.1) k.2)
    (when (leaf_if name_of ts) (λ x. ends room 1 (t.name (t.identifier x.0 x.1)) x.2) (Err (syntax (length ts))))))

-- what a suffix makes of the expression before it
unfoldable pub index_by : Depth → ℕ → t.Postfix → Spot → List Leaf → Read t.Postfix
index_by inner room p l ts = inside inner ts (λ i. i.expression i.limit ts >>= λ e. expected RightBracket e.1 >>= λ r.
    ends room (suc (max (nest.height_postfix p) (nest.height_expression e.0))) (t.index p l e.0 r.0) r.1)

unfoldable pub call_by : Depth → ℕ → t.Postfix → Spot → List Leaf → Read t.Postfix
call_by inner room p l ts = inside inner ts (λ i. arguments_by i ts >>= λ a. expected RightParenthesis a.1 >>= λ r.
    ends room (suc (max (nest.height_postfix p) (nest.height_arguments a.0))) (t.call p l a.0 r.0) r.1)

unfoldable pub member_by : ℕ → t.Postfix → Spot → PunctKind → List Leaf → Read t.Postfix
member_by room p s op ts = identifier ts >>= λ n. ends room (suc (nest.height_postfix p)) (t.member p s op n.0) n.1

unfoldable pub suffix_by : Depth → ℕ → t.Postfix → List Leaf → Option (Read t.Postfix)
suffix_by inner room p ts = when (taken LeftBracket ts) (λ l. Some (index_by inner room p l.0 l.2))
    (when (taken LeftParenthesis ts) (λ l. Some (call_by inner room p l.0 l.2))
    (when (leaf_if (punct_if is_access) ts) (λ d. Some (member_by room p d.0 d.1 d.2))
    (when (leaf_if (punct_if is_step) ts)
    (λ d. Some (ends room (suc (nest.height_postfix p)) (t.stepped p d.0 d.1) d.2)) None)))

-- the suffixes of an expression; the room ends before the count does
unfoldable pub suffixes_by : Depth → ℕ → ℕ → t.Postfix → List Leaf → Read t.Postfix
suffixes_by inner room zero p ts = Err (too_deep (length ts))
suffixes_by inner room (suc k) p ts =
    when (suffix_by inner room p ts) (λ r. r >>= λ q. suffixes_by inner room k q.0 q.1) (Ok (p, ts))

-- more than any height that is accepted
abbrev pub chain : Depth → ℕ
chain inner = suc (suc inner.limit)

unfoldable pub postfix_by : Depth → ℕ → List Leaf → Read t.Postfix
postfix_by inner room ts = primary_by inner room ts >>= λ p. suffixes_by inner room (chain inner) (t.primary p.0) p.1

unfoldable pub size_by : Depth → ℕ → Spot → List Leaf → Read t.Unary
size_by inner room s ts =
    expected LeftParenthesis ts >>= λ l.
    inside inner l.1 (λ i. type_name_by l.1 >>= λ ty. expected RightParenthesis ty.1 >>= λ r.
    ends room 1 (t.size s l.0 ty.0 r.0) r.1)

unfoldable pub unary_by : Depth → ℕ → List Leaf → Read t.Unary
unary_by inner room ts = when (leaf_if (punct_if is_prefix) ts)
    (λ op. inside inner op.2 (λ i. i.cast (room - 1) op.2 >>= λ c. Ok (t.prefix op.0 op.1 c.0, c.1)))
    (when (leaf_if (punct_if is_step) ts)
    (λ op. inside inner op.2 (λ i. i.unary (room - 1) op.2 >>= λ u. Ok (t.step op.0 op.1 u.0, u.1)))
    (when (taken_word words.Sizeof ts) (λ s. size_by inner room s.0 s.2)
    (postfix_by inner room ts >>= λ p. Ok (t.postfix p.0, p.1))))

-- the parenthesis of a cast: what follows it begins specifiers
unfoldable pub cast_at : List Leaf → Option (Spot × PunctKind × List Leaf)
cast_at ts = when (taken LeftParenthesis ts) (λ l. when (leaf_if (word_if starts_specs) l.2) (λ w. Some l) None) None

unfoldable pub cast_by : Depth → ℕ → List Leaf → Read t.Cast
cast_by inner room ts = when (cast_at ts)
    (λ l. inside inner l.2 (λ i. type_name_by l.2 >>= λ ty. expected RightParenthesis ty.1 >>= λ r.
    i.cast (room - 1) r.1 >>= λ c. Ok (t.convert l.0 ty.0 r.0 c.0, c.1)))
    (unary_by inner room ts >>= λ u. Ok (t.uncast u.0, u.1))

abbrev pub at_level : ℕ → PunctKind → Bool
at_level level p = level_of p == level

-- operators of one level, joined from the left, where `operand` reads what stands between them; the room ends before
-- the count does
unfoldable pub joins_by : (ℕ → List Leaf → Read t.Binary) → ℕ → ℕ → ℕ → t.Binary → List Leaf → Read t.Binary
joins_by operand level room zero a ts = Err (too_deep (length ts))
joins_by operand level room (suc k) a ts = when (leaf_if (punct_if (at_level level)) ts)
    (λ op. operand (room_after room (nest.height_binary a)) op.2 >>= λ b.
    joins_by operand level room k (t.join a op.0 op.1 b.0) b.1)
    (Ok (a, ts))

unfoldable pub binary_by : Depth → ℕ → ℕ → List Leaf → Read t.Binary
binary_by inner zero room ts = cast_by inner room ts >>= λ c. Ok (t.operand c.0, c.1)
binary_by inner (suc level) room ts =
    binary_by inner level room ts >>= λ a. joins_by (binary_by inner level) (suc level) room (chain inner) a.0 a.1

unfoldable pub choice_by : Depth → ℕ → t.Binary → Spot → List Leaf → Read t.Conditional
choice_by inner room b q ts =
    begun starts_lexeme inner ts (λ i. i.expression i.limit ts >>= λ e. expected Colon e.1 >>= λ k.
    i.conditional (room_after room (max (nest.height_binary b) (nest.height_expression e.0))) k.1 >>= λ c.
    Ok (t.choose b q e.0 k.0 c.0, c.1))

unfoldable pub conditional_by : Depth → ℕ → List Leaf → Read t.Conditional
conditional_by inner room ts =
    binary_by inner 10 room ts >>= λ b.
    when (taken Question b.1) (λ q. choice_by inner room b.0 q.0 q.2) (Ok (t.plain b.0, b.1))

abbrev pub unary_of : t.Conditional → Option t.Unary
unary_of (t.plain (t.operand (t.uncast u))) = Some u
unary_of _ = None

unfoldable pub assigned_by : Depth → ℕ → t.Unary → Spot → PunctKind → List Leaf → Read t.Assignment
assigned_by inner room u s op ts =
    begun starts_lexeme inner ts (λ i. i.assignment (room_after room (nest.height_unary u)) ts >>= λ a.
    Ok (t.assign u s op a.0, a.1))

-- where what was read is a unary expression and an assignment operator follows, the assignment
unfoldable pub assignment_by : Depth → ℕ → List Leaf → Read t.Assignment
assignment_by inner room ts = conditional_by inner room ts >>= λ c. when (leaf_if (punct_if is_assign) c.1)
    (λ op. when (unary_of c.0) (λ u. assigned_by inner room u op.0 op.1 op.2) (Ok (t.value c.0, c.1)))
    (Ok (t.value c.0, c.1))

-- expressions joined by commas; the room ends before the count does
unfoldable pub commas_by : Depth → ℕ → ℕ → t.Expression → List Leaf → Read t.Expression
commas_by inner room zero e ts = Err (too_deep (length ts))
commas_by inner room (suc k) e ts = when (taken Comma ts)
    (λ c. assignment_by inner (room_after room (nest.height_expression e)) c.2 >>= λ a.
    commas_by inner room k (t.comma e c.0 a.0) a.1)
    (Ok (e, ts))

unfoldable pub expression_by : Depth → ℕ → List Leaf → Read t.Expression
expression_by inner room ts = assignment_by inner room ts >>= λ a. commas_by inner room (chain inner) (t.single a.0) a.1

-- ---- declarators

abbrev pub name_at : List Leaf → Read (Option t.Identifier)
name_at ts = when (leaf_if name_of ts) (λ x. Ok (Some (t.identifier x.0 x.1), x.2)) (Ok (None, ts))

-- a parameter; `void` alone is none
unfoldable pub param_by : List Leaf → Read t.Param
param_by ts =
    type_name_by ts >>= λ ty. name_at ty.1 >>= λ n.
    cond (lone_void ty.0 n.0) (Err (syntax (length n.1))) (Ok (t.param ty.0 n.0, n.1))

-- `void` before the parenthesis that closes
unfoldable pub void_at : List Leaf → Option (Spot × WordKind × List Leaf)
void_at ts = when (taken_word words.Void ts) (λ v. when (taken RightParenthesis v.2) (λ r. Some v) None) None

unfoldable pub params_by : List Leaf → Read t.Params
params_by ts = when (void_at ts) (λ v. Ok (t.void_params v.0, v.2))
    (param_by ts >>= λ p. many (behind_comma t.next_param param_by) p.1 >>= λ more. Ok (t.params p.0 more.0, more.1))

unfoldable pub array_by : Inner → Spot → List Leaf → Read t.Shape
array_by i l ts = when (taken RightBracket ts) (λ r. Ok (t.array l None r.0, r.2))
    (i.conditional i.limit ts >>= λ c. expected RightBracket c.1 >>= λ r. Ok (t.array l (Some c.0) r.0, r.1))

unfoldable pub shape_by : Depth → List Leaf → Read t.Shape
shape_by inner ts = when (taken LeftBracket ts) (λ l. inside inner l.2 (λ i. array_by i l.0 l.2))
    (when (taken LeftParenthesis ts)
    (λ l. inside inner l.2 (λ i. params_by l.2 >>= λ p. expected RightParenthesis p.1 >>= λ r.
    Ok (t.function_shape l.0 p.0 r.0, r.1)))
    (Ok (t.object, ts)))

unfoldable pub declarator_by : Depth → List Leaf → Read t.Declarator
declarator_by inner ts =
    many star_at ts >>= λ stars. identifier stars.1 >>= λ n. shape_by inner n.1 >>= λ s.
    Ok (t.declarator stars.0 n.0 s.0, s.1)

-- ---- initialisers and declarations

abbrev pub initialisers_of : List (Spot × t.Initialiser) → t.Initialisers
initialisers_of [] = t.no_initialisers
initialisers_of (x ∷ xs) = t.initialisers x.0 x.1 (initialisers_of xs)

-- an initialiser behind a comma; a comma before the brace that closes is followed by none
unfoldable pub initialiser_at : Inner → List Leaf → Option (Read (Spot × t.Initialiser))
initialiser_at i ts =
    when (taken Comma ts) (λ c. when (taken RightBrace c.2) (λ r. None)
    (Some (i.initialiser i.limit c.2 >>= λ x. Ok ((c.0, x.0), x.1)))) None

abbrev pub comma_at : List Leaf → Read (Option Spot)
comma_at ts = when (taken Comma ts) (λ c. Ok (Some c.0, c.2)) (Ok (None, ts))

unfoldable pub braces_by : Inner → ℕ → Spot → List Leaf → Read t.Initialiser
braces_by i room l ts =
    i.initialiser i.limit ts >>= λ x. many (initialiser_at i) x.1 >>= λ more. comma_at more.1 >>= λ c.
    expected RightBrace c.1 >>= λ r.
    ends room (suc (max (nest.height_initialiser x.0) (nest.height_initialisers (initialisers_of more.0))))
    (t.braces l x.0 (initialisers_of more.0) c.0 r.0) r.1

unfoldable pub initialiser_by : Depth → ℕ → List Leaf → Read t.Initialiser
initialiser_by inner room ts =
    when (taken LeftBrace ts) (λ l. inside inner l.2 (λ i. braces_by i room l.0 l.2))
    (assignment_by inner room ts >>= λ a. Ok (t.initial_value a.0, a.1))

unfoldable pub start_by : Depth → List Leaf → Read (Option t.Start)
start_by inner ts =
    when (taken Assign ts) (λ q. initialiser_by inner inner.limit q.2 >>= λ x. Ok (Some (t.start q.0 x.0), x.1))
    (Ok (None, ts))

unfoldable pub init_declarator_by : Depth → List Leaf → Read t.InitDeclarator
init_declarator_by inner ts =
    declarator_by inner ts >>= λ d. start_by inner d.1 >>= λ s. Ok (t.init_declarator d.0 s.0, s.1)

-- what follows the specifiers and the first declarator of a declaration
unfoldable pub declared_by : Depth → t.Specs → t.Declarator → List Leaf → Read t.Declaration
declared_by inner s d ts =
    start_by inner ts >>= λ x. many (behind_comma t.next_init_declarator (init_declarator_by inner)) x.1 >>= λ more.
    expected Semicolon more.1 >>= λ e.
    Ok (t.declaration s (t.init_declarator d x.0) more.0 e.0, e.1)

unfoldable pub declaration_by : Depth → List Leaf → Read t.Declaration
declaration_by inner ts = specs_by ts >>= λ s. declarator_by inner s.1 >>= λ d. declared_by inner s.0 d.0 d.1

unfoldable pub members_by : Depth → List Leaf → Read t.Member
members_by inner ts =
    specs_by ts >>= λ s. declarator_by inner s.1 >>= λ d.
    many (behind_comma t.next_declarator (declarator_by inner)) d.1 >>= λ more. expected Semicolon more.1 >>= λ e.
    Ok (t.members s.0 d.0 more.0 e.0, e.1)

unfoldable pub members_at : Depth → List Leaf → Option (Read t.Member)
members_at inner ts = when (leaf_if (word_if starts_specs) ts) (λ w. Some (members_by inner ts)) None

-- ---- statements

unfoldable pub condition_by : Depth → List Leaf → Read t.Condition
condition_by inner ts =
    expected LeftParenthesis ts >>= λ l.
    inside inner l.1 (λ i. i.expression i.limit l.1 >>= λ e. expected RightParenthesis e.1 >>= λ r.
    Ok (t.condition l.0 e.0 r.0, r.1))

-- an expression or none, and the punctuator that ends it
unfoldable pub optional_by : (List Leaf → Read t.Expression) → PunctKind → List Leaf → Read (Option t.Expression × Spot)
optional_by expression p ts =
    when (taken p ts) (λ s. Ok ((None, s.0), s.2))
    (expression ts >>= λ e. expected p e.1 >>= λ s. Ok ((Some e.0, s.0), s.1))

unfoldable pub first_by : Inner → List Leaf → Read t.First
first_by i ts = when (leaf_if (word_if starts_specs) ts) (λ w. i.declaration ts >>= λ d. Ok (t.first_declared d.0, d.1))
    (optional_by (i.expression i.limit) Semicolon ts >>= λ o. Ok (t.first_evaluated o.0.0 o.0.1, o.1))

unfoldable pub heading_by : Depth → List Leaf → Read t.Heading
heading_by inner ts =
    expected LeftParenthesis ts >>= λ l.
    inside inner l.1 (λ i. first_by i l.1 >>= λ f. optional_by (i.expression i.limit) Semicolon f.1 >>= λ c.
    optional_by (i.expression i.limit) RightParenthesis c.1 >>= λ e.
    Ok (t.heading l.0 f.0 c.0.0 c.0.1 e.0.0 e.0.1, e.1))

-- a statement inside another one
abbrev pub substatement : Depth → ℕ → List Leaf → Read t.Statement
substatement inner room ts = begun starts_statement inner ts (λ i. i.statement room ts)

abbrev pub items_of : List t.Item → t.Items
items_of [] = t.no_items
items_of (x ∷ xs) = t.items x (items_of xs)

unfoldable pub item_at : Depth → List Leaf → Option (Read t.Item)
item_at inner ts =
    when (leaf_if (word_if starts_specs) ts) (λ w. Some (declaration_by inner ts >>= λ d. Ok (t.declared d.0, d.1)))
    (when (taken RightBrace ts) (λ r. None) (Some (substatement inner inner.limit ts >>= λ s. Ok (t.stated s.0, s.1))))

abbrev pub pragma_at : List Leaf → Option (Read Pragma)
pragma_at ts = when (leaf_if pragma_of ts) (λ p. Some (Ok (p.1 p.0, p.2))) None

unfoldable pub compound_by : Depth → ℕ → List Leaf → Read t.Compound
compound_by inner room ts =
    expected LeftBrace ts >>= λ l. many pragma_at l.1 >>= λ p. many (item_at inner) p.1 >>= λ b.
    expected RightBrace b.1 >>= λ r.
    ends room (suc (nest.height_items (items_of b.0))) (t.compound l.0 p.0 (items_of b.0) r.0) r.1

unfoldable pub else_by : Depth → ℕ → Spot → t.Condition → t.Statement → List Leaf → Read t.Statement
else_by inner room s c b ts = when (taken_word words.Else ts)
    (λ e. substatement inner (room_after room (max (nest.height_condition c) (nest.height_statement b))) e.2 >>= λ o.
    Ok (t.if_else s c b e.0 o.0, o.1))
    (Ok (t.if_then s c b, ts))

unfoldable pub if_by : Depth → ℕ → Spot → List Leaf → Read t.Statement
if_by inner room s ts =
    condition_by inner ts >>= λ c. substatement inner (room_after room (nest.height_condition c.0)) c.1 >>= λ b.
    else_by inner room s c.0 b.0 b.1

unfoldable pub while_by : Depth → ℕ → Spot → List Leaf → Read t.Statement
while_by inner room s ts =
    condition_by inner ts >>= λ c. substatement inner (room_after room (nest.height_condition c.0)) c.1 >>= λ b.
    Ok (t.while_loop s c.0 b.0, b.1)

unfoldable pub do_by : Depth → ℕ → Spot → List Leaf → Read t.Statement
do_by inner room s ts =
    substatement inner inner.limit ts >>= λ b. expected_word words.While b.1 >>= λ w. condition_by inner w.1 >>= λ c.
    expected Semicolon c.1 >>= λ e.
    ends room (suc (max (nest.height_statement b.0) (nest.height_condition c.0))) (t.do_loop s b.0 w.0 c.0 e.0) e.1

unfoldable pub for_by : Depth → ℕ → Spot → List Leaf → Read t.Statement
for_by inner room s ts =
    heading_by inner ts >>= λ h. substatement inner (room_after room (nest.height_heading h.0)) h.1 >>= λ b.
    Ok (t.for_loop s h.0 b.0, b.1)

unfoldable pub return_by : Depth → ℕ → Spot → List Leaf → Read t.Statement
return_by inner room s ts = optional_by (expression_by inner inner.limit) Semicolon ts >>= λ o.
    ends room (suc (nest.height_option nest.height_expression o.0.0)) (t.return_value s o.0.0 o.0.1) o.1

-- what follows the word that begins a statement
abbrev pub worded_by : Depth → ℕ → Spot → Keyword → List Leaf → Read t.Statement
worded_by inner room s if_word ts = if_by inner room s ts
worded_by inner room s while_word ts = while_by inner room s ts
worded_by inner room s do_word ts = do_by inner room s ts
worded_by inner room s for_word ts = for_by inner room s ts
worded_by inner room s break_word ts = expected Semicolon ts >>= λ e. ends room 1 (t.break_loop s e.0) e.1
worded_by inner room s continue_word ts = expected Semicolon ts >>= λ e. ends room 1 (t.continue_loop s e.0) e.1
worded_by inner room s return_word ts = return_by inner room s ts

unfoldable pub simple_by : Depth → ℕ → List Leaf → Read t.Statement
simple_by inner room ts = optional_by (expression_by inner inner.limit) Semicolon ts >>= λ o.
    ends room (suc (nest.height_option nest.height_expression o.0.0)) (t.simple o.0.0 o.0.1) o.1

-- a statement that has begun
unfoldable pub statement_by : Depth → ℕ → List Leaf → Read t.Statement
statement_by inner room ts = when (leaf_if keyword_of ts) (λ k. worded_by inner room k.0 k.1 k.2)
    (when (taken LeftBrace ts) (λ l. compound_by inner room ts >>= λ c. Ok (t.block c.0, c.1))
    (simple_by inner room ts))

-- ---- units

unfoldable pub structure_at : List Leaf → Option (Spot × t.Identifier × Spot × List Leaf)
structure_at ts =
    when (taken_word words.Struct ts)
    (λ s. when (identifier_at s.2)
    (λ n. when (taken LeftBrace n.1) (λ l. Some (s.0, n.0, l.0, l.2)) None) None) None

unfoldable pub structure_by : Depth → Spot → t.Identifier → Spot → List Leaf → Read t.Structure
structure_by inner s tag l ts =
    members_by inner ts >>= λ m. many (members_at inner) m.1 >>= λ more. expected RightBrace more.1 >>= λ r.
    expected Semicolon r.1 >>= λ e.
    Ok (t.structure s tag l m.0 more.0 r.0 e.0, e.1)

unfoldable pub register_by : Spot → List Leaf → Read t.RegisterObject
register_by s ts =
    identifier ts >>= λ r. specs_by r.1 >>= λ sp. identifier sp.1 >>= λ n. expected Semicolon n.1 >>= λ e.
    Ok (t.register_object s r.0 sp.0 n.0 e.0, e.1)

-- the declarator of a function, taken apart
abbrev pub heading_of : t.Specs → t.Declarator → Option (t.TypeName × t.Identifier × Spot × t.Params × Spot)
heading_of s (t.declarator stars n (t.function_shape l p r)) = Some (t.type_name s stars, n, l, p, r)
heading_of s _ = None

-- the declarator of a function before the brace of its body
unfoldable pub function_at : t.Specs → t.Declarator → List Leaf
    → Option (t.TypeName × t.Identifier × Spot × t.Params × Spot)
function_at s d ts = when (taken LeftBrace ts) (λ l. heading_of s d) None

abbrev pub is_brace : Lexeme → Bool
is_brace x = is_some (punct_if (λ q. same_punct q LeftBrace) x)

unfoldable pub defined_by : Depth → List Leaf → Read t.External
defined_by inner ts = specs_by ts >>= λ s. declarator_by inner s.1 >>= λ d. when (function_at s.0 d.0 d.1)
    (λ f. begun is_brace inner d.1
    (λ i. i.compound i.limit d.1 >>= λ b. Ok (t.function_item (t.function f.0 f.1 f.2 f.3 f.4 b.0), b.1)))
    (declared_by inner s.0 d.0 d.1 >>= λ x. Ok (t.declaration_item x.0, x.1))

unfoldable pub external_at : Depth → List Leaf → Option (Read t.External)
external_at inner ts = when (leaf_if pragma_of ts) (λ p. Some (Ok (t.pragma_item (p.1 p.0), p.2)))
    (when (structure_at ts) (λ s. Some (structure_by inner s.0 s.1 s.2 s.3 >>= λ x. Ok (t.structure_item x.0, x.1)))
    (when (taken_word words.Register ts) (λ r. Some (register_by r.0 r.2 >>= λ x. Ok (t.register_item x.0, x.1)))
    (when (leaf_if (word_if starts_specs) ts) (λ w. Some (defined_by inner ts)) None)))

unfoldable pub unit_by : Depth → List Leaf → Read t.Tree
unit_by inner ts =
    many (external_at inner) ts >>= λ u. needed (leaf_if end_of u.1) u.1 >>= λ e. Ok (t.tree u.0 e.0, e.1)

-- ---- all of them, where heights up to a limit are accepted and so many constructs may still be opened

unfoldable pub opened_at : ℕ → ℕ → Option Inner
opened_at limit zero = None
opened_at limit (suc n) = Some (record {
  limit = limit;
  expression = expression_by (record { limit = limit; opened = opened_at limit n });
  assignment = assignment_by (record { limit = limit; opened = opened_at limit n });
  conditional = conditional_by (record { limit = limit; opened = opened_at limit n });
  cast = cast_by (record { limit = limit; opened = opened_at limit n });
  unary = unary_by (record { limit = limit; opened = opened_at limit n });
  initialiser = initialiser_by (record { limit = limit; opened = opened_at limit n });
  declaration = declaration_by (record { limit = limit; opened = opened_at limit n });
  statement = statement_by (record { limit = limit; opened = opened_at limit n });
  compound = compound_by (record { limit = limit; opened = opened_at limit n });
})

abbrev pub within : ℕ → ℕ → Depth
within limit n = record { limit = limit; opened = opened_at limit n }

-- nothing is left
abbrev pub whole : t.Tree × List Leaf → Result t.Tree Fault
whole (u, []) = Ok u
whole (u, x ∷ xs) = Err (syntax (suc (length xs)))

-- the tree of a list of leaves, no higher than the limit and with no more constructs open at once
unfoldable pub read : ℕ → List Leaf → Result t.Tree Fault
read limit ts = unit_by (within limit limit) ts >>= λ u. whole u
