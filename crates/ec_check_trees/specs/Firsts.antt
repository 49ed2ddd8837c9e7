-- The index of the first token of a part of a tree.
use Rattle.std.specs.Prelude.{ℕ, Option, Some, None}
use Rattle.ec_grammar.specs.Trees.{Identifier, identifier, Spec, word_spec, struct_spec, Specs, specs}
use Rattle.ec_grammar.specs.Trees.{TypeName, type_name, Expression, single, comma, Assignment, value, assign}
use Rattle.ec_grammar.specs.Trees.{Conditional, plain, choose, Binary, operand, join, Cast, uncast, convert}
use Rattle.ec_grammar.specs.Trees.{Unary, postfix, step, prefix, size, Postfix, primary, index, call, member, stepped}
use Rattle.ec_grammar.specs.Trees.{Primary, name, constant, parenthesised, operation, Param, param}
use Rattle.ec_grammar.specs.Trees.{Initialiser, initial_value, braces, Declaration, declaration, Compound, compound}
use Rattle.ec_grammar.specs.Trees.{Item, declared, stated, Statement, block, simple, if_then, if_else, while_loop}
use Rattle.ec_grammar.specs.Trees.{do_loop, for_loop, break_loop, continue_loop, return_value}
use Rattle.ec_grammar.specs.declared.Spot.{Spot}

abbrev pub first_identifier : Identifier → ℕ
first_identifier (identifier s n) = s.index

abbrev pub first_primary : Primary → ℕ
first_primary (name n) = first_identifier n
first_primary (constant s k) = s.index
first_primary (parenthesised s e r) = s.index
first_primary (operation s op l n more r) = s.index

abbrev pub first_postfix : Postfix → ℕ
first_postfix (primary p) = first_primary p
first_postfix (index p l e r) = first_postfix p
first_postfix (call p l a r) = first_postfix p
first_postfix (member p s op n) = first_postfix p
first_postfix (stepped p s op) = first_postfix p

abbrev pub first_unary : Unary → ℕ
first_unary (postfix p) = first_postfix p
first_unary (step s op u) = s.index
first_unary (prefix s op c) = s.index
first_unary (size s l ty r) = s.index

abbrev pub first_cast : Cast → ℕ
first_cast (uncast u) = first_unary u
first_cast (convert s ty r c) = s.index

abbrev pub first_binary : Binary → ℕ
first_binary (operand c) = first_cast c
first_binary (join a s op b) = first_binary a

abbrev pub first_conditional : Conditional → ℕ
first_conditional (plain b) = first_binary b
first_conditional (choose b q e k c) = first_binary b

abbrev pub first_assignment : Assignment → ℕ
first_assignment (value c) = first_conditional c
first_assignment (assign u s op a) = first_unary u

abbrev pub first_expression : Expression → ℕ
first_expression (single a) = first_assignment a
first_expression (comma e s a) = first_expression e

abbrev pub first_spec : Spec → ℕ
first_spec (word_spec s w) = s.index
first_spec (struct_spec s tag) = s.index

abbrev pub first_specs : Specs → ℕ
first_specs (specs first more) = first_spec first

abbrev pub first_type_name : TypeName → ℕ
first_type_name (type_name ss stars) = first_specs ss

abbrev pub first_param : Param → ℕ
first_param (param ty n) = first_type_name ty

abbrev pub first_initialiser : Initialiser → ℕ
first_initialiser (initial_value a) = first_assignment a
first_initialiser (braces s i more c r) = s.index

abbrev pub first_declaration : Declaration → ℕ
first_declaration (declaration ss first more semicolon) = first_specs ss

-- of an expression that may be left out before the token at the spot
abbrev pub first_optional : Option Expression → Spot → ℕ
first_optional None s = s.index
first_optional (Some e) s = first_expression e

abbrev pub first_compound : Compound → ℕ
first_compound (compound s pragmas rest r) = s.index

abbrev pub first_statement : Statement → ℕ
first_statement (block c) = first_compound c
first_statement (simple e s) = first_optional e s
first_statement (if_then s c a) = s.index
first_statement (if_else s c a e b) = s.index
first_statement (while_loop s c a) = s.index
first_statement (do_loop s a w c e) = s.index
first_statement (for_loop s h a) = s.index
first_statement (break_loop s e) = s.index
first_statement (continue_loop s e) = s.index
first_statement (return_value s v e) = s.index

abbrev pub first_item : Item → ℕ
first_item (declared d) = first_declaration d
first_item (stated s) = first_statement s
