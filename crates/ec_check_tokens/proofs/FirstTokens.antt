-- The tokens of a part begin at its first token.
use Rattle.std.proofs.Common.{List, [], ◌∷◌, refl}
use Rattle.std.specs.Prelude.{Option, Some, None}
use Rattle.ec_grammar.specs.Spelling as s
use Rattle.ec_grammar.specs.Trees as t
use Rattle.ec_grammar.specs.Trees.{Leaf}
use Rattle.ec_check_names.specs.Firsts as first
use Rattle.ec_check_statements.specs.Locals.{first_declarator}
use Rattle.ec_check_tokens.specs.FirstTokens.{BeginsAt, PartsBeginAtFirstTokens}

pub identifier_begins : (x : t.Identifier) (rest : List Leaf) → BeginsAt (s.of_identifier x rest) (first.first_identifier x)
identifier_begins (t.identifier at n) rest = refl

primary_begins : (x : t.Primary) (rest : List Leaf) → BeginsAt (s.of_primary x rest) (first.first_primary x)
primary_begins (t.name n) rest = identifier_begins n rest
primary_begins (t.constant at k) rest = refl
primary_begins (t.parenthesised l e r) rest = refl
primary_begins (t.operation at op l n more r) rest = refl

postfix_begins : (x : t.Postfix) (rest : List Leaf) → BeginsAt (s.of_postfix x rest) (first.first_postfix x)
postfix_begins (t.primary p) rest = primary_begins p rest
postfix_begins (t.index p l e r) rest = postfix_begins p _
postfix_begins (t.call p l a r) rest = postfix_begins p _
postfix_begins (t.member p at op n) rest = postfix_begins p _
postfix_begins (t.stepped p at op) rest = postfix_begins p _

unary_begins : (x : t.Unary) (rest : List Leaf) → BeginsAt (s.of_unary x rest) (first.first_unary x)
unary_begins (t.postfix p) rest = postfix_begins p rest
unary_begins (t.step at op u) rest = refl
unary_begins (t.prefix at op c) rest = refl
unary_begins (t.size at l ty r) rest = refl

cast_begins : (x : t.Cast) (rest : List Leaf) → BeginsAt (s.of_cast x rest) (first.first_cast x)
cast_begins (t.uncast u) rest = unary_begins u rest
cast_begins (t.convert l ty r c) rest = refl

binary_begins : (x : t.Binary) (rest : List Leaf) → BeginsAt (s.of_binary x rest) (first.first_binary x)
binary_begins (t.operand c) rest = cast_begins c rest
binary_begins (t.join a at op b) rest = binary_begins a _

pub conditional_begins : (x : t.Conditional) (rest : List Leaf) → BeginsAt (s.of_conditional x rest) (first.first_conditional x)
conditional_begins (t.plain b) rest = binary_begins b rest
conditional_begins (t.choose b q e k c) rest = binary_begins b _

pub assignment_begins : (x : t.Assignment) (rest : List Leaf) → BeginsAt (s.of_assignment x rest) (first.first_assignment x)
assignment_begins (t.value c) rest = conditional_begins c rest
assignment_begins (t.assign u at op a) rest = unary_begins u _

pub expression_begins : (x : t.Expression) (rest : List Leaf) → BeginsAt (s.of_expression x rest) (first.first_expression x)
expression_begins (t.single a) rest = assignment_begins a rest
expression_begins (t.comma e at a) rest = expression_begins e _

-- ---- declarations and statements

spec_begins : (x : t.Spec) (rest : List Leaf) → BeginsAt (s.of_spec x rest) (first.first_spec x)
spec_begins (t.word_spec at w) rest = refl
spec_begins (t.struct_spec at tag) rest = refl

pub specs_begin : (x : t.Specs) (rest : List Leaf) → BeginsAt (s.of_specs x rest) (first.first_specs x)
specs_begin (t.specs one more) rest = spec_begins one _

pub type_name_begins : (x : t.TypeName) (rest : List Leaf) → BeginsAt (s.of_type_name x rest) (first.first_type_name x)
type_name_begins (t.type_name ss stars) rest = specs_begin ss _

pub declarator_begins : (x : t.Declarator) (rest : List Leaf) → BeginsAt (s.of_declarator x rest) (first_declarator x)
declarator_begins (t.declarator [] n shape) rest = identifier_begins n _
declarator_begins (t.declarator (t.star at qs ∷ stars) n shape) rest = refl

pub init_declarator_begins : (d : t.Declarator) (start : Option t.Start) (rest : List Leaf)
    → BeginsAt (s.of_init_declarator (t.init_declarator d start) rest) (first_declarator d)
init_declarator_begins d start rest = declarator_begins d _

pub initialiser_begins : (x : t.Initialiser) (rest : List Leaf) → BeginsAt (s.of_initialiser x rest) (first.first_initialiser x)
initialiser_begins (t.initial_value a) rest = assignment_begins a rest
initialiser_begins (t.braces l one more c r) rest = refl

pub declaration_begins : (x : t.Declaration) (rest : List Leaf) → BeginsAt (s.of_declaration x rest) (first.first_declaration x)
declaration_begins (t.declaration ss one more e) rest = specs_begin ss _

pub statement_begins : (x : t.Statement) (rest : List Leaf) → BeginsAt (s.of_statement x rest) (first.first_statement x)
statement_begins (t.block (t.compound l ps xs e)) rest = refl
statement_begins (t.simple None e) rest = refl
statement_begins (t.simple (Some x) e) rest = expression_begins x _
statement_begins (t.if_then at c a) rest = refl
statement_begins (t.if_else at c a w b) rest = refl
statement_begins (t.while_loop at c a) rest = refl
statement_begins (t.do_loop at a w c e) rest = refl
statement_begins (t.for_loop at h a) rest = refl
statement_begins (t.break_loop at e) rest = refl
statement_begins (t.continue_loop at e) rest = refl
statement_begins (t.return_value at v e) rest = refl

param_begins : (x : t.Param) (rest : List Leaf) → BeginsAt (s.of_param x rest) (first.first_param x)
param_begins (t.param ty n) rest = type_name_begins ty _

item_begins : (x : t.Item) (rest : List Leaf) → BeginsAt (s.of_item x rest) (first.first_item x)
item_begins (t.declared d) rest = declaration_begins d rest
item_begins (t.stated x) rest = statement_begins x rest

pub parts_begin_at_first_tokens : PartsBeginAtFirstTokens
parts_begin_at_first_tokens = record {
  expressions = expression_begins;
  assignments = assignment_begins;
  conditionals = conditional_begins;
  type_names = type_name_begins;
  specifiers = specs_begin;
  parameters = param_begins;
  initialisers = initialiser_begins;
  declarators = declarator_begins;
  declarations = declaration_begins;
  statements = statement_begins;
  items = item_begins;
}
