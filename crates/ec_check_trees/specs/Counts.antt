-- How many objects and functions the units of a program declare. An object is each declarator without parameters, in
-- blocks too, each declaration of an object in a named register, and each parameter of a function that is defined.
use Rattle.std.specs.Prelude.{ℕ, ◌+◌, Bool, true, false, length, List, [], ◌∷◌}
use Rattle.ec_grammar.specs.Trees.{Shape, object, array, function_shape, declarator, Params, void_params}
use Rattle.ec_grammar.specs.Trees.{params, InitDeclarator, init_declarator, NextInitDeclarator, next_init_declarator}
use Rattle.ec_grammar.specs.Trees.{Declaration, declaration, First, first_declared, first_evaluated, Heading, heading}
use Rattle.ec_grammar.specs.Trees.{compound, Items, no_items, items, Item, declared, stated, Statement, block}
use Rattle.ec_grammar.specs.Trees.{simple, if_then, if_else, while_loop, do_loop, for_loop, break_loop, continue_loop}
use Rattle.ec_grammar.specs.Trees.{return_value, Function, function, External, pragma_item, structure_item}
use Rattle.ec_grammar.specs.Trees.{register_item, declaration_item, function_item, Tree, tree}

-- the limits
abbrev pub most_objects : ℕ
most_objects = 1024

abbrev pub most_functions : ℕ
most_functions = 256

abbrev pub is_function : Shape → Bool
is_function object = false
is_function (array l size r) = false
is_function (function_shape l ps r) = true

abbrev pub objects_in_shape : Shape → ℕ
objects_in_shape object = 1
objects_in_shape (array l size r) = 1
objects_in_shape (function_shape l ps r) = 0

abbrev pub objects_in_declarator : InitDeclarator → ℕ
objects_in_declarator (init_declarator (declarator stars name shape) start) = objects_in_shape shape

abbrev pub objects_in_more : List NextInitDeclarator → ℕ
objects_in_more [] = 0
objects_in_more (next_init_declarator comma d ∷ ds) = objects_in_declarator d + objects_in_more ds

abbrev pub objects_in_declaration : Declaration → ℕ
objects_in_declaration (declaration ss first more semicolon) = objects_in_declarator first + objects_in_more more

abbrev pub objects_in_params : Params → ℕ
objects_in_params (void_params s) = 0
objects_in_params (params p more) = 1 + length more

abbrev pub objects_in_first : First → ℕ
objects_in_first (first_declared d) = objects_in_declaration d
objects_in_first (first_evaluated e s) = 0

abbrev pub objects_in_heading : Heading → ℕ
objects_in_heading (heading l first c s last r) = objects_in_first first

abbrev mutual
  pub objects_in_statement : Statement → ℕ
  objects_in_statement (block (compound l pragmas is r)) = objects_in_items is
  objects_in_statement (simple e s) = 0
  objects_in_statement (if_then s c a) = objects_in_statement a
  objects_in_statement (if_else s c a e b) = objects_in_statement a + objects_in_statement b
  objects_in_statement (while_loop s c a) = objects_in_statement a
  objects_in_statement (do_loop s a w c e) = objects_in_statement a
  objects_in_statement (for_loop s h a) = objects_in_heading h + objects_in_statement a
  objects_in_statement (break_loop s e) = 0
  objects_in_statement (continue_loop s e) = 0
  objects_in_statement (return_value s v e) = 0

  pub objects_in_item : Item → ℕ
  objects_in_item (declared d) = objects_in_declaration d
  objects_in_item (stated s) = objects_in_statement s

  pub objects_in_items : Items → ℕ
  objects_in_items no_items = 0
  objects_in_items (items i rest) = objects_in_item i + objects_in_items rest

abbrev pub objects_in_function : Function → ℕ
objects_in_function (function ty name l ps r (compound b pragmas is e)) = objects_in_params ps + objects_in_items is

abbrev pub objects_in_external : External → ℕ
objects_in_external (pragma_item p) = 0
objects_in_external (structure_item s) = 0
objects_in_external (register_item r) = 1
objects_in_external (declaration_item d) = objects_in_declaration d
objects_in_external (function_item f) = objects_in_function f

abbrev pub objects_in_externals : List External → ℕ
objects_in_externals [] = 0
objects_in_externals (x ∷ xs) = objects_in_external x + objects_in_externals xs

abbrev pub objects_in_unit : Tree → ℕ
objects_in_unit (tree xs end) = objects_in_externals xs

abbrev pub objects_declared : List Tree → ℕ
objects_declared [] = 0
objects_declared (u ∷ us) = objects_in_unit u + objects_declared us

abbrev pub functions_in_external : External → ℕ
functions_in_external (pragma_item p) = 0
functions_in_external (structure_item s) = 0
functions_in_external (register_item r) = 0
functions_in_external (declaration_item d) = 0
functions_in_external (function_item f) = 1

abbrev pub functions_in_externals : List External → ℕ
functions_in_externals [] = 0
functions_in_externals (x ∷ xs) = functions_in_external x + functions_in_externals xs

abbrev pub functions_in_unit : Tree → ℕ
functions_in_unit (tree xs end) = functions_in_externals xs

abbrev pub functions_defined : List Tree → ℕ
functions_defined [] = 0
functions_defined (u ∷ us) = functions_in_unit u + functions_defined us
