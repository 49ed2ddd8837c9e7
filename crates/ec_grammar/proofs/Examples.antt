-- One tree for each production and alternative, with the list of its tokens written by hand; lists that two trees would spell but for
-- the side conditions; and how deep some trees nest.
use Rattle.std.proofs.Common.{◌≡◌, ℕ, ℤ, zero, suc, List, [], ◌∷◌, true, Some, None, refl, arith}
use Rattle.std.proofs.lemmas.Bool.{true≢false}
use Rattle.std.specs.Prelude.{map}
use Rattle.ec_fx.specs.declared.formats.FxKind.TheVariants as fixed_kinds
use Rattle.ec_iohw.specs.declared.operations.IoOp.TheVariants as ports
use Rattle.ec_grammar.specs.declared.token.WordKind.{WordKind}
use Rattle.ec_grammar.specs.declared.token.WordKind.TheVariants.{Break, Const, Continue, Do, Else, For, If, Int, Register, Return, Sizeof}
use Rattle.ec_grammar.specs.declared.token.WordKind.TheVariants.{Static, Struct, Unsigned, Void, While}
use Rattle.ec_grammar.specs.declared.token.PunctKind.{PunctKind}
use Rattle.ec_grammar.specs.declared.token.PunctKind.TheVariants as p
use Rattle.ec_grammar.specs.declared.token.GroupOp.TheVariants as groups
use Rattle.ec_grammar.specs.declared.token.PragmaKind.TheVariants as pragma_kinds
use Rattle.ec_grammar.specs.declared.token.PragmaState.TheVariants as states
use Rattle.ec_grammar.specs.declared.Spot.{Spot}
use Rattle.ec_grammar.specs.declared.Constant.TheVariants as constants
use Rattle.ec_grammar.specs.declared.Operation.TheVariants as operations
use Rattle.ec_grammar.specs.Tokens as k
use Rattle.ec_grammar.specs.Tokens.{Lexeme}
use Rattle.ec_grammar.specs.Trees as t
use Rattle.ec_grammar.specs.Trees.{Leaf}
use Rattle.ec_grammar.specs.Spelling.{of_expression, of_assignment, of_conditional, of_binary, of_cast, of_unary, of_postfix, of_primary}
use Rattle.ec_grammar.specs.Spelling.{of_type_name, of_param, of_params, of_declarator, of_initialiser, of_declaration, of_structure}
use Rattle.ec_grammar.specs.Spelling.{of_register_object, of_statement, of_tree}
use Rattle.ec_grammar.specs.Grammar.{level_of, Is_binary, Is_statement, Are_params}
use Rattle.ec_grammar.specs.Nesting.{height_binary, opens_assignment, opens_conditional, opens_cast, opens_postfix, opens_statement}
use Rattle.ec_grammar.specs.Nesting.{opens_external, Nests}

-- the spot of the token with this index
abbrev s : ℕ → Spot
s n = record { index = n; at = n }

-- the tokens in order, with their indices from n on
abbrev from : ℕ → List Lexeme → List Leaf
from n [] = []
from n (x ∷ xs) = record { spot = s n; lexeme = x } ∷ from (suc n) xs

abbrev w : WordKind → Lexeme
w x = k.word x

abbrev m : PunctKind → Lexeme
m x = k.punct x

-- the identifier `a`, the constant `1` and the type name `int`
abbrev a : Lexeme
a = k.name (97 ∷ [])

abbrev one : Lexeme
one = k.whole 1 true 2

abbrev id : ℕ → t.Identifier
id n = t.identifier (s n) (97 ∷ [])

abbrev int : ℕ → t.Specs
int n = t.specs (t.word_spec (s n) Int) []

abbrev int_name : ℕ → t.TypeName
int_name n = t.type_name (int n) []

abbrev name : ℕ → t.Unary
name n = t.postfix (t.primary (t.name (id n)))

abbrev cast : ℕ → t.Cast
cast n = t.uncast (name n)

abbrev binary : ℕ → t.Binary
binary n = t.operand (cast n)

abbrev conditional : ℕ → t.Conditional
conditional n = t.plain (binary n)

abbrev assignment : ℕ → t.Assignment
assignment n = t.value (conditional n)

abbrev expression : ℕ → t.Expression
expression n = t.single (assignment n)

abbrev postfix : ℕ → t.Postfix
postfix n = t.primary (t.name (id n))

abbrev empty : ℕ → t.Statement
empty n = t.simple None (s n)

abbrev condition : ℕ → ℕ → ℕ → t.Condition
condition l n r = t.condition (s l) (expression n) (s r)

-- ---- expressions

comma : of_expression (t.comma (expression 0) (s 1) (assignment 2)) [] ≡ from 0 (a ∷ m p.Comma ∷ a ∷ [])
comma = refl

assign : of_assignment (t.assign (name 0) (s 1) p.PlusAssign (assignment 2)) [] ≡ from 0 (a ∷ m p.PlusAssign ∷ a ∷ [])
assign = refl

choose : of_conditional (t.choose (binary 0) (s 1) (expression 2) (s 3) (conditional 4)) []
    ≡ from 0 (a ∷ m p.Question ∷ a ∷ m p.Colon ∷ a ∷ [])
choose = refl

join : of_binary (t.join (binary 0) (s 1) p.Slash (binary 2)) [] ≡ from 0 (a ∷ m p.Slash ∷ a ∷ [])
join = refl

convert : of_cast (t.convert (s 0) (int_name 1) (s 2) (cast 3)) [] ≡ from 0 (m p.LeftParenthesis ∷ w Int ∷ m p.RightParenthesis ∷ a ∷ [])
convert = refl

step : of_unary (t.step (s 0) p.Increment (name 1)) [] ≡ from 0 (m p.Increment ∷ a ∷ [])
step = refl

prefix : of_unary (t.prefix (s 0) p.Tilde (cast 1)) [] ≡ from 0 (m p.Tilde ∷ a ∷ [])
prefix = refl

size : of_unary (t.size (s 0) (s 1) (int_name 2) (s 3)) [] ≡ from 0 (w Sizeof ∷ m p.LeftParenthesis ∷ w Int ∷ m p.RightParenthesis ∷ [])
size = refl

index : of_postfix (t.index (postfix 0) (s 1) (expression 2) (s 3)) [] ≡ from 0 (a ∷ m p.LeftBracket ∷ a ∷ m p.RightBracket ∷ [])
index = refl

call_none : of_postfix (t.call (postfix 0) (s 1) t.no_arguments (s 2)) [] ≡ from 0 (a ∷ m p.LeftParenthesis ∷ m p.RightParenthesis ∷ [])
call_none = refl

call : of_postfix (t.call (postfix 0) (s 1) (t.arguments (assignment 2) (t.further (s 3) (assignment 4) t.no_further)) (s 5)) []
    ≡ from 0 (a ∷ m p.LeftParenthesis ∷ a ∷ m p.Comma ∷ a ∷ m p.RightParenthesis ∷ [])
call = refl

member : of_postfix (t.member (postfix 0) (s 1) p.Dot (id 2)) [] ≡ from 0 (a ∷ m p.Dot ∷ a ∷ [])
member = refl

member_of_pointer : of_postfix (t.member (postfix 0) (s 1) p.Arrow (id 2)) [] ≡ from 0 (a ∷ m p.Arrow ∷ a ∷ [])
member_of_pointer = refl

stepped : of_postfix (t.stepped (postfix 0) (s 1) p.Decrement) [] ≡ from 0 (a ∷ m p.Decrement ∷ [])
stepped = refl

whole : of_primary (t.constant (s 0) (constants.Whole 1 true 2)) [] ≡ from 0 (one ∷ [])
whole = refl

fixed : (n : ℤ) → of_primary (t.constant (s 0) (constants.Fixed fixed_kinds.Fract n)) [] ≡ from 0 (k.fixed fixed_kinds.Fract n ∷ [])
fixed n = refl

parenthesised : of_primary (t.parenthesised (s 0) (expression 1) (s 2)) [] ≡ from 0 (m p.LeftParenthesis ∷ a ∷ m p.RightParenthesis ∷ [])
parenthesised = refl

port : of_primary (t.operation (s 0) (operations.Port ports.Write) (s 1) (id 2) (t.further (s 3) (assignment 4) t.no_further) (s 5)) []
    ≡ from 0 (k.io_name ports.Write ∷ m p.LeftParenthesis ∷ a ∷ m p.Comma ∷ a ∷ m p.RightParenthesis ∷ [])
port = refl

group : of_primary (t.operation (s 0) (operations.Group groups.Acquire) (s 1) (id 2) t.no_further (s 3)) []
    ≡ from 0 (k.group_name groups.Acquire ∷ m p.LeftParenthesis ∷ a ∷ m p.RightParenthesis ∷ [])
group = refl

-- ---- specifiers and declarators

type_name : of_type_name (t.type_name (t.specs (t.word_spec (s 0) Const) (t.word_spec (s 1) Unsigned ∷ t.struct_spec (s 2) (id 3) ∷ []))
    (t.star (s 4) (record { spot = s 5; word = Const } ∷ []) ∷ t.star (s 6) [] ∷ [])) []
    ≡ from 0 (w Const ∷ w Unsigned ∷ w Struct ∷ a ∷ m p.Star ∷ w Const ∷ m p.Star ∷ [])
type_name = refl

param_named : of_param (t.param (int_name 0) (Some (id 1))) [] ≡ from 0 (w Int ∷ a ∷ [])
param_named = refl

param_nameless : of_param (t.param (int_name 0) None) [] ≡ from 0 (w Int ∷ [])
param_nameless = refl

params_void : of_params (t.void_params (s 0)) [] ≡ from 0 (w Void ∷ [])
params_void = refl

params : of_params (t.params (t.param (int_name 0) None) (t.next_param (s 1) (t.param (int_name 2) None) ∷ [])) []
    ≡ from 0 (w Int ∷ m p.Comma ∷ w Int ∷ [])
params = refl

object : of_declarator (t.declarator (t.star (s 0) [] ∷ []) (id 1) t.object) [] ≡ from 0 (m p.Star ∷ a ∷ [])
object = refl

array : of_declarator (t.declarator [] (id 0) (t.array (s 1) (Some (conditional 2)) (s 3))) []
    ≡ from 0 (a ∷ m p.LeftBracket ∷ a ∷ m p.RightBracket ∷ [])
array = refl

array_open : of_declarator (t.declarator [] (id 0) (t.array (s 1) None (s 2))) [] ≡ from 0 (a ∷ m p.LeftBracket ∷ m p.RightBracket ∷ [])
array_open = refl

function_declared : of_declarator (t.declarator [] (id 0) (t.function_shape (s 1) (t.void_params (s 2)) (s 3))) []
    ≡ from 0 (a ∷ m p.LeftParenthesis ∷ w Void ∷ m p.RightParenthesis ∷ [])
function_declared = refl

-- ---- initialisers and declarations

initial_value : of_initialiser (t.initial_value (assignment 0)) [] ≡ from 0 (a ∷ [])
initial_value = refl

braces : of_initialiser (t.braces (s 0) (t.initial_value (assignment 1))
    (t.initialisers (s 2) (t.initial_value (assignment 3)) t.no_initialisers) None (s 4)) []
    ≡ from 0 (m p.LeftBrace ∷ a ∷ m p.Comma ∷ a ∷ m p.RightBrace ∷ [])
braces = refl

braces_comma : of_initialiser (t.braces (s 0) (t.initial_value (assignment 1)) t.no_initialisers (Some (s 2)) (s 3)) []
    ≡ from 0 (m p.LeftBrace ∷ a ∷ m p.Comma ∷ m p.RightBrace ∷ [])
braces_comma = refl

declaration : of_declaration (t.declaration (t.specs (t.word_spec (s 0) Static) (t.word_spec (s 1) Int ∷ []))
    (t.init_declarator (t.declarator [] (id 2) t.object) (Some (t.start (s 3) (t.initial_value (assignment 4)))))
    (t.next_init_declarator (s 5) (t.init_declarator (t.declarator [] (id 6) t.object) None) ∷ []) (s 7)) []
    ≡ from 0 (w Static ∷ w Int ∷ a ∷ m p.Assign ∷ a ∷ m p.Comma ∷ a ∷ m p.Semicolon ∷ [])
declaration = refl

structure : of_structure (t.structure (s 0) (id 1) (s 2)
    (t.members (int 3) (t.declarator [] (id 4) t.object) (t.next_declarator (s 5) (t.declarator [] (id 6) t.object) ∷ []) (s 7))
    (t.members (int 8) (t.declarator [] (id 9) t.object) [] (s 10) ∷ []) (s 11) (s 12)) []
    ≡ from 0 (w Struct ∷ a ∷ m p.LeftBrace ∷ w Int ∷ a ∷ m p.Comma ∷ a ∷ m p.Semicolon ∷ w Int ∷ a ∷ m p.Semicolon ∷ m p.RightBrace
    ∷ m p.Semicolon ∷ [])
structure = refl

register : of_register_object (t.register_object (s 0) (id 1) (int 2) (id 3) (s 4)) []
    ≡ from 0 (w Register ∷ a ∷ w Int ∷ a ∷ m p.Semicolon ∷ [])
register = refl

-- ---- statements

simple_empty : of_statement (empty 0) [] ≡ from 0 (m p.Semicolon ∷ [])
simple_empty = refl

simple : of_statement (t.simple (Some (expression 0)) (s 1)) [] ≡ from 0 (a ∷ m p.Semicolon ∷ [])
simple = refl

block : of_statement (t.block (t.compound (s 0) (record { spot = s 1; which = pragma_kinds.Fract; state = states.Sat } ∷ [])
    (t.items (t.declared (t.declaration (int 2) (t.init_declarator (t.declarator [] (id 3) t.object) None) [] (s 4)))
    (t.items (t.stated (empty 5)) t.no_items)) (s 6))) []
    ≡ from 0 (m p.LeftBrace ∷ k.pragma pragma_kinds.Fract states.Sat ∷ w Int ∷ a ∷ m p.Semicolon ∷ m p.Semicolon ∷ m p.RightBrace ∷ [])
block = refl

if_then : of_statement (t.if_then (s 0) (condition 1 2 3) (empty 4)) []
    ≡ from 0 (w If ∷ m p.LeftParenthesis ∷ a ∷ m p.RightParenthesis ∷ m p.Semicolon ∷ [])
if_then = refl

if_else : of_statement (t.if_else (s 0) (condition 1 2 3) (empty 4) (s 5) (empty 6)) []
    ≡ from 0 (w If ∷ m p.LeftParenthesis ∷ a ∷ m p.RightParenthesis ∷ m p.Semicolon ∷ w Else ∷ m p.Semicolon ∷ [])
if_else = refl

while_loop : of_statement (t.while_loop (s 0) (condition 1 2 3) (empty 4)) []
    ≡ from 0 (w While ∷ m p.LeftParenthesis ∷ a ∷ m p.RightParenthesis ∷ m p.Semicolon ∷ [])
while_loop = refl

do_loop : of_statement (t.do_loop (s 0) (empty 1) (s 2) (condition 3 4 5) (s 6)) []
    ≡ from 0 (w Do ∷ m p.Semicolon ∷ w While ∷ m p.LeftParenthesis ∷ a ∷ m p.RightParenthesis ∷ m p.Semicolon ∷ [])
do_loop = refl

for_evaluated : of_statement (t.for_loop (s 0)
    (t.heading (s 1) (t.first_evaluated (Some (expression 2)) (s 3)) (Some (expression 4)) (s 5) (Some (expression 6)) (s 7)) (empty 8)) []
    ≡ from 0 (w For ∷ m p.LeftParenthesis ∷ a ∷ m p.Semicolon ∷ a ∷ m p.Semicolon ∷ a ∷ m p.RightParenthesis ∷ m p.Semicolon ∷ [])
for_evaluated = refl

for_bare : of_statement (t.for_loop (s 0) (t.heading (s 1) (t.first_evaluated None (s 2)) None (s 3) None (s 4)) (empty 5)) []
    ≡ from 0 (w For ∷ m p.LeftParenthesis ∷ m p.Semicolon ∷ m p.Semicolon ∷ m p.RightParenthesis ∷ m p.Semicolon ∷ [])
for_bare = refl

for_declared : of_statement (t.for_loop (s 0) (t.heading (s 1) (t.first_declared
    (t.declaration (int 2) (t.init_declarator (t.declarator [] (id 3) t.object) None) [] (s 4))) None (s 5) None (s 6)) (empty 7)) []
    ≡ from 0 (w For ∷ m p.LeftParenthesis ∷ w Int ∷ a ∷ m p.Semicolon ∷ m p.Semicolon ∷ m p.RightParenthesis ∷ m p.Semicolon ∷ [])
for_declared = refl

break_loop : of_statement (t.break_loop (s 0) (s 1)) [] ≡ from 0 (w Break ∷ m p.Semicolon ∷ [])
break_loop = refl

continue_loop : of_statement (t.continue_loop (s 0) (s 1)) [] ≡ from 0 (w Continue ∷ m p.Semicolon ∷ [])
continue_loop = refl

return_none : of_statement (t.return_value (s 0) None (s 1)) [] ≡ from 0 (w Return ∷ m p.Semicolon ∷ [])
return_none = refl

return_value : of_statement (t.return_value (s 0) (Some (expression 1)) (s 2)) [] ≡ from 0 (w Return ∷ a ∷ m p.Semicolon ∷ [])
return_value = refl

-- ---- units

unit : of_tree (t.tree (t.pragma_item (record { spot = s 0; which = pragma_kinds.Precision; state = states.On })
    ∷ t.register_item (t.register_object (s 1) (id 2) (int 3) (id 4) (s 5))
    ∷ t.function_item (t.function (int_name 6) (id 7) (s 8) (t.void_params (s 9)) (s 10) (t.compound (s 11) [] t.no_items (s 12))) ∷ [])
    (s 13)) []
    ≡ from 0 (k.pragma pragma_kinds.Precision states.On ∷ w Register ∷ a ∷ w Int ∷ a ∷ m p.Semicolon ∷ w Int ∷ a ∷ m p.LeftParenthesis
    ∷ w Void ∷ m p.RightParenthesis ∷ m p.LeftBrace ∷ m p.RightBrace ∷ k.end ∷ [])
unit = refl

-- ---- lists that two trees would spell

-- `if (a) if (a) ; else ;`: the else is that of the second `if`
nearest : t.Statement
nearest = t.if_then (s 0) (condition 1 2 3) (t.if_else (s 4) (condition 5 6 7) (empty 8) (s 9) (empty 10))

farther : t.Statement
farther = t.if_else (s 0) (condition 1 2 3) (t.if_then (s 4) (condition 5 6 7) (empty 8)) (s 9) (empty 10)

else_spelled : of_statement nearest [] ≡ of_statement farther []
unfolding nearest farther
else_spelled = refl

else_nearest : Is_statement nearest
unfolding nearest
else_nearest = (tt, (tt, tt, refl, tt))

else_not_farther : Is_statement farther → ⊥
unfolding farther
else_not_farther is = true≢false is.2

-- `void` alone in a list of parameters is no parameter
void_spelled : of_params (t.void_params (s 0)) []
    ≡ of_params (t.params (t.param (t.type_name (t.specs (t.word_spec (s 0) Void) []) []) None) []) []
void_spelled = refl

void_no_param : Are_params (t.params (t.param (t.type_name (t.specs (t.word_spec (s 0) Void) []) []) None) []) → ⊥
void_no_param is = true≢false is.0.1

-- `a + a * a`: the product is the operand
product_in_sum : t.Binary
product_in_sum = t.join (binary 0) (s 1) p.Plus (t.join (binary 2) (s 3) p.Star (binary 4))

sum_in_product : t.Binary
sum_in_product = t.join (t.join (binary 0) (s 1) p.Plus (binary 2)) (s 3) p.Star (binary 4)

levels_spelled : of_binary product_in_sum [] ≡ of_binary sum_in_product []
unfolding product_in_sum sum_in_product
levels_spelled = refl

levels_product_first : Is_binary product_in_sum
unfolding product_in_sum
levels_product_first = (tt, (tt, tt, omega arith, omega arith), omega arith, omega arith)

levels_not_sum_first : Is_binary sum_in_product → ⊥
unfolding sum_in_product
levels_not_sum_first is = omega (arith, is.2)

-- `a - a - a`: joined from the left
from_the_left : t.Binary
from_the_left = t.join (t.join (binary 0) (s 1) p.Minus (binary 2)) (s 3) p.Minus (binary 4)

from_the_right : t.Binary
from_the_right = t.join (binary 0) (s 1) p.Minus (t.join (binary 2) (s 3) p.Minus (binary 4))

order_spelled : of_binary from_the_left [] ≡ of_binary from_the_right []
unfolding from_the_left from_the_right
order_spelled = refl

order_from_the_left : Is_binary from_the_left
unfolding from_the_left
order_from_the_left = ((tt, tt, omega arith, omega arith), tt, omega arith, omega arith)

order_not_from_the_right : Is_binary from_the_right → ⊥
unfolding from_the_right
order_not_from_the_right is = omega (arith, is.3)

-- `a || a && a | a ^ a & a == a < a << a + a * a`: each operator is tighter than the one before it
chain : ℕ → List PunctKind → t.Binary
chain n [] = binary n
chain n (op ∷ more) = t.join (binary n) (s (suc n)) op (chain (suc (suc n)) more)

all_levels : Is_binary (chain 0 (p.OrOr ∷ p.AndAnd ∷ p.Bar ∷ p.Caret ∷ p.Ampersand ∷ p.Equal ∷ p.Less ∷ p.ShiftLeft ∷ p.Plus ∷ p.Star ∷ []))
unfolding chain
all_levels = (
  tt,
  (
    tt,
    (
      tt,
      (
        tt,
        (
          tt,
          (
            tt,
            (
              tt,
              (tt, (tt, (tt, tt, omega arith, omega arith), omega arith, omega arith), omega arith, omega arith),
              omega arith,
              omega arith,
            ),
            omega arith,
            omega arith,
          ),
          omega arith,
          omega arith,
        ),
        omega arith,
        omega arith,
      ),
      omega arith,
      omega arith,
    ),
    omega arith,
    omega arith,
  ),
  omega arith,
  omega arith,
)

equal_levels : map level_of (p.Slash ∷ p.Percent ∷ p.Minus ∷ p.ShiftRight ∷ p.Greater ∷ p.LessEqual ∷ p.GreaterEqual ∷ p.NotEqual ∷ [])
    ≡ map level_of (p.Star ∷ p.Star ∷ p.Plus ∷ p.ShiftLeft ∷ p.Less ∷ p.Less ∷ p.Less ∷ p.Equal ∷ [])
equal_levels = refl

-- ---- how deep trees nest

-- in `a + a * a` the sum is the third from below
height_of_sum : height_binary product_in_sum ≡ 3
unfolding product_in_sum
height_of_sum = refl

-- the right sides of `a += a` and `a ? a : a`
assign_opens : opens_assignment (t.assign (name 0) (s 1) p.PlusAssign (assignment 2)) ≡ 1
assign_opens = refl

choose_opens : opens_conditional (t.choose (binary 0) (s 1) (expression 2) (s 3) (conditional 4)) ≡ 1
choose_opens = refl

-- a cast opens one construct, and its parentheses no other
convert_opens : opens_cast (t.convert (s 0) (int_name 1) (s 2) (cast 3)) ≡ 1
convert_opens = refl

index_opens : opens_postfix (t.index (postfix 0) (s 1) (expression 2) (s 3)) ≡ 1
index_opens = refl

-- the `if`, and in it its condition or the statement that it guards
if_opens : opens_statement (t.if_then (s 0) (condition 1 2 3) (empty 4)) ≡ 2
if_opens = refl

function_opens : opens_external
    (t.function_item (t.function (int_name 0) (id 1) (s 2) (t.void_params (s 3)) (s 4) (t.compound (s 5) [] t.no_items (s 6)))) ≡ 1
function_opens = refl

-- `int a = ((a));` with this many pairs of parentheses
parentheses : ℕ → t.Primary
parentheses zero = t.name (id 0)
parentheses (suc n) =
    t.parenthesised (s 0) (t.single (t.value (t.plain (t.operand (t.uncast (t.postfix (t.primary (parentheses n)))))))) (s 0)

initialised : t.Primary → t.Tree
initialised x = t.tree (t.declaration_item (t.declaration (int 0) (t.init_declarator (t.declarator [] (id 1) t.object)
    (Some (t.start (s 2) (t.initial_value (t.value (t.plain (t.operand (t.uncast (t.postfix (t.primary x)))))))))) [] (s 0)) ∷ []) (s 0)

most_that_nest : Nests (initialised (parentheses 63))
unfolding parentheses initialised
most_that_nest = (omega arith, omega arith)

one_too_many : Nests (initialised (parentheses 64)) → ⊥
unfolding parentheses initialised
one_too_many nests = omega (arith, nests.0)
