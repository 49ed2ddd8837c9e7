-- The pointer-free tree that a program's tree stands for.
use Rattle.std.specs.Prelude.{List, [], ◌∷◌, Option, Some, None, map}
use Rattle.std.specs.Global.{Global}
use Rattle.std.specs.declared.boxed.Box.{Box}
use Rattle.ec_grammar.specs.declared.Identifier as identifier
use Rattle.ec_grammar.specs.declared.Star as star
use Rattle.ec_grammar.specs.declared.Spec as spec
use Rattle.ec_grammar.specs.declared.Spec.TheVariants as spec_kinds
use Rattle.ec_grammar.specs.declared.Specs as specs
use Rattle.ec_grammar.specs.declared.TypeName as type_name
use Rattle.ec_grammar.specs.declared.Expression as expression
use Rattle.ec_grammar.specs.declared.Expression.TheVariants as expressions
use Rattle.ec_grammar.specs.declared.Assignment as assignment
use Rattle.ec_grammar.specs.declared.Assignment.TheVariants as assignments
use Rattle.ec_grammar.specs.declared.Conditional as conditional
use Rattle.ec_grammar.specs.declared.Conditional.TheVariants as conditionals
use Rattle.ec_grammar.specs.declared.Binary as binary
use Rattle.ec_grammar.specs.declared.Binary.TheVariants as binaries
use Rattle.ec_grammar.specs.declared.Cast as cast
use Rattle.ec_grammar.specs.declared.Cast.TheVariants as casts
use Rattle.ec_grammar.specs.declared.Unary as unary
use Rattle.ec_grammar.specs.declared.Unary.TheVariants as unaries
use Rattle.ec_grammar.specs.declared.Postfix as postfix
use Rattle.ec_grammar.specs.declared.Postfix.TheVariants as postfixes
use Rattle.ec_grammar.specs.declared.Arguments as arguments
use Rattle.ec_grammar.specs.declared.Arguments.TheVariants as argument_kinds
use Rattle.ec_grammar.specs.declared.Argument as argument
use Rattle.ec_grammar.specs.declared.Primary as primary
use Rattle.ec_grammar.specs.declared.Primary.TheVariants as primaries
use Rattle.ec_grammar.specs.declared.Param as param
use Rattle.ec_grammar.specs.declared.NextParam as next_param
use Rattle.ec_grammar.specs.declared.Params as params
use Rattle.ec_grammar.specs.declared.Params.TheVariants as param_kinds
use Rattle.ec_grammar.specs.declared.Shape as shape
use Rattle.ec_grammar.specs.declared.Shape.TheVariants as shapes
use Rattle.ec_grammar.specs.declared.Declarator as declarator
use Rattle.ec_grammar.specs.declared.Initialiser as initialiser
use Rattle.ec_grammar.specs.declared.Initialiser.TheVariants as initialiser_kinds
use Rattle.ec_grammar.specs.declared.NextInitialiser as next_initialiser
use Rattle.ec_grammar.specs.declared.Start as start
use Rattle.ec_grammar.specs.declared.InitDeclarator as init_declarator
use Rattle.ec_grammar.specs.declared.NextInitDeclarator as next_init_declarator
use Rattle.ec_grammar.specs.declared.Declaration as declaration
use Rattle.ec_grammar.specs.declared.NextDeclarator as next_declarator
use Rattle.ec_grammar.specs.declared.Member as member
use Rattle.ec_grammar.specs.declared.Structure as structure
use Rattle.ec_grammar.specs.declared.RegisterObject as register_object
use Rattle.ec_grammar.specs.declared.Condition as condition
use Rattle.ec_grammar.specs.declared.First as first
use Rattle.ec_grammar.specs.declared.First.TheVariants as firsts
use Rattle.ec_grammar.specs.declared.Heading as heading
use Rattle.ec_grammar.specs.declared.Compound as compound
use Rattle.ec_grammar.specs.declared.Item as item
use Rattle.ec_grammar.specs.declared.Item.TheVariants as item_kinds
use Rattle.ec_grammar.specs.declared.Statement as statement
use Rattle.ec_grammar.specs.declared.Statement.TheVariants as statements
use Rattle.ec_grammar.specs.declared.Function as function
use Rattle.ec_grammar.specs.declared.External as external
use Rattle.ec_grammar.specs.declared.External.TheVariants as externals
use Rattle.ec_grammar.specs.declared.Tree as whole
use Rattle.ec_grammar.specs.Trees as t

abbrev pub view_option : {A B : Type 0} → (A → B) → Option A → Option B
view_option view None = None
view_option view (Some x) = Some (view x)

abbrev pub view_identifier : identifier.Identifier → t.Identifier
view_identifier n = t.identifier n.spot n.name.items

abbrev pub view_star : star.Star → t.Star
view_star s = t.star s.spot s.qualifiers.items

abbrev pub view_spec : spec.Spec → t.Spec
view_spec (spec_kinds.Word s w) = t.word_spec s w
view_spec (spec_kinds.Struct s n) = t.struct_spec s (view_identifier n)

abbrev pub view_specs : specs.Specs → t.Specs
view_specs s = t.specs (view_spec s.first) (map view_spec s.more.items)

abbrev pub view_type_name : type_name.TypeName → t.TypeName
view_type_name ty = t.type_name (view_specs ty.specs) (map view_star ty.stars.items)

abbrev mutual
  pub view_expression : expression.Expression → t.Expression
  view_expression (expressions.Single a) = t.single (view_assignment a)
  view_expression (expressions.Comma' e_at e s a_at a) = t.comma (view_expression e) s (view_assignment a)

  pub view_assignment : assignment.Assignment → t.Assignment
  view_assignment (assignments.Value c) = t.value (view_conditional c)
  view_assignment (assignments.Assign' u s op a_at a) = t.assign (view_unary u) s op (view_assignment a)

  pub view_conditional : conditional.Conditional → t.Conditional
  view_conditional (conditionals.Plain b) = t.plain (view_binary b)
  view_conditional (conditionals.Choose' b q e_at e k c_at c) =
      t.choose (view_binary b) q (view_expression e) k (view_conditional c)

  pub view_binary : binary.Binary → t.Binary
  view_binary (binaries.Operand c) = t.operand (view_cast c)
  view_binary (binaries.Join' a_at a s op b_at b) = t.join (view_binary a) s op (view_binary b)

  pub view_cast : cast.Cast → t.Cast
  view_cast (casts.Uncast u) = t.uncast (view_unary u)
  view_cast (casts.Convert' l ty r c_at c) = t.convert l (view_type_name ty.value) r (view_cast c)

  pub view_unary : unary.Unary → t.Unary
  view_unary (unaries.Postfix p) = t.postfix (view_postfix p)
  view_unary (unaries.Step' s op u_at u) = t.step s op (view_unary u)
  view_unary (unaries.Prefix' s op c_at c) = t.prefix s op (view_cast c)
  view_unary (unaries.Size s l ty r) = t.size s l (view_type_name ty.value) r

  pub view_postfix : postfix.Postfix → t.Postfix
  view_postfix (postfixes.Primary p) = t.primary (view_primary p)
  view_postfix (postfixes.Index' p_at p l e_at e r) = t.index (view_postfix p) l (view_expression e) r
  view_postfix (postfixes.Call' p_at p l a_at a r) = t.call (view_postfix p) l (view_arguments a) r
  view_postfix (postfixes.Member' p_at p s op n) = t.member (view_postfix p) s op (view_identifier n)
  view_postfix (postfixes.Stepped' p_at p s op) = t.stepped (view_postfix p) s op

  pub view_arguments : arguments.Arguments → t.Arguments
  view_arguments argument_kinds.None = t.no_arguments
  view_arguments (argument_kinds.Some' a shape more) = t.arguments (view_assignment a) (view_further more)

  pub view_further : {m : _} → arguments.Row_of-Argument m → t.Further
  view_further arguments.end_of-Argument = t.no_further
  view_further (arguments.more_of-Argument s a rest) = t.further s (view_assignment a) (view_further rest)

  pub view_primary : primary.Primary → t.Primary
  view_primary (primaries.Name n) = t.name (view_identifier n)
  view_primary (primaries.Constant s k) = t.constant s k.value
  view_primary (primaries.Parenthesised' l e_at e r) = t.parenthesised l (view_expression e) r
  view_primary (primaries.Operation' s op l n shape more r) =
      t.operation s op l (view_identifier n.value) (view_further more) r

-- an expression that may be left out, as the types that hold it have it
abbrev pub view_optional : Option (Box expression.Expression Global) → Option t.Expression
view_optional e = view_option (λ b. view_expression b.value) e

abbrev pub views_further : List argument.Argument → t.Further
views_further [] = t.no_further
views_further (a ∷ rest) = t.further a.comma (view_assignment a.value) (views_further rest)

abbrev pub view_param : param.Param → t.Param
view_param p = t.param (view_type_name p.ty) (view_option view_identifier p.name)

abbrev pub view_next_param : next_param.NextParam → t.NextParam
view_next_param p = t.next_param p.comma (view_param p.param)

abbrev pub view_params : params.Params → t.Params
view_params (param_kinds.Void s) = t.void_params s
view_params (param_kinds.Some p more) = t.params (view_param p) (map view_next_param more.items)

abbrev pub view_shape : shape.Shape → t.Shape
view_shape shapes.Object = t.object
view_shape (shapes.Array l c r) = t.array l (view_option view_conditional c) r
view_shape (shapes.Function l p r) = t.function_shape l (view_params p) r

abbrev pub view_declarator : declarator.Declarator → t.Declarator
view_declarator d = t.declarator (map view_star d.stars.items) (view_identifier d.name) (view_shape d.shape)

abbrev mutual
  pub view_initialiser : initialiser.Initialiser → t.Initialiser
  view_initialiser (initialiser_kinds.Value a) = t.initial_value (view_assignment a)
  view_initialiser (initialiser_kinds.Braces' l i_at i shape more c r) =
      t.braces l (view_initialiser i) (view_initialisers more) c r

  pub view_initialisers : {m : _} → initialiser.Row_of-NextInitialiser m → t.Initialisers
  view_initialisers initialiser.end_of-NextInitialiser = t.no_initialisers
  view_initialisers (initialiser.more_of-NextInitialiser s i rest) =
      t.initialisers s (view_initialiser i) (view_initialisers rest)

abbrev pub views_initialisers : List next_initialiser.NextInitialiser → t.Initialisers
views_initialisers [] = t.no_initialisers
views_initialisers (i ∷ rest) = t.initialisers i.comma (view_initialiser i.value) (views_initialisers rest)

abbrev pub view_start : start.Start → t.Start
view_start s = t.start s.equals (view_initialiser s.value)

abbrev pub view_init_declarator : init_declarator.InitDeclarator → t.InitDeclarator
view_init_declarator d = t.init_declarator (view_declarator d.declarator) (view_option view_start d.start)

abbrev pub view_next_init_declarator : next_init_declarator.NextInitDeclarator → t.NextInitDeclarator
view_next_init_declarator d = t.next_init_declarator d.comma (view_init_declarator d.declarator)

abbrev pub view_declaration : declaration.Declaration → t.Declaration
view_declaration d =
    t.declaration (view_specs d.specs) (view_init_declarator d.first)
    (map view_next_init_declarator d.more.items) d.semicolon

abbrev pub view_next_declarator : next_declarator.NextDeclarator → t.NextDeclarator
view_next_declarator d = t.next_declarator d.comma (view_declarator d.declarator)

abbrev pub view_member : member.Member → t.Member
view_member m =
    t.members (view_specs m.specs) (view_declarator m.first) (map view_next_declarator m.more.items) m.semicolon

abbrev pub view_structure : structure.Structure → t.Structure
view_structure s =
    t.structure s.word (view_identifier s.tag) s.opening (view_member s.first)
    (map view_member s.more.items) s.closing s.semicolon

abbrev pub view_register_object : register_object.RegisterObject → t.RegisterObject
view_register_object r =
    t.register_object r.word (view_identifier r.register) (view_specs r.specs) (view_identifier r.name) r.semicolon

abbrev pub view_condition : condition.Condition → t.Condition
view_condition c = t.condition c.opening (view_expression c.value) c.closing

abbrev pub view_first : first.First → t.First
view_first (firsts.Declared d) = t.first_declared (view_declaration d.value)
view_first (firsts.Evaluated e s) = t.first_evaluated (view_optional e) s

abbrev pub view_heading : heading.Heading → t.Heading
view_heading h =
    t.heading h.opening (view_first h.first) (view_optional h.condition) h.semicolon
    (view_optional h.last) h.closing

abbrev mutual
  pub view_items : {m : _} → compound.Row_of-Item m → t.Items
  view_items compound.end_of-Item = t.no_items
  view_items (compound.more_of-Item i rest) = t.items (view_item i) (view_items rest)

  pub view_item : item.Item → t.Item
  view_item (item_kinds.Declaration d) = t.declared (view_declaration d.value)
  view_item (item_kinds.Statement s) = t.stated (view_statement s)

  pub view_statement : statement.Statement → t.Statement
  view_statement (statements.Compound' opening pragmas shape items closing) =
      t.block (t.compound opening pragmas.items (view_items items) closing)
  view_statement (statements.Simple e s) = t.simple (view_optional e) s
  view_statement (statements.If' s c b_at b) = t.if_then s (view_condition c.value) (view_statement b)
  view_statement (statements.IfElse' s c b_at b e o_at o) =
      t.if_else s (view_condition c.value) (view_statement b) e (view_statement o)
  view_statement (statements.While' s c b_at b) = t.while_loop s (view_condition c.value) (view_statement b)
  view_statement (statements.Do' s b_at b w c e) = t.do_loop s (view_statement b) w (view_condition c.value) e
  view_statement (statements.For' s h b_at b) = t.for_loop s (view_heading h.value) (view_statement b)
  view_statement (statements.Break s e) = t.break_loop s e
  view_statement (statements.Continue s e) = t.continue_loop s e
  view_statement (statements.Return s v e) = t.return_value s (view_optional v) e

abbrev pub views_items : List item.Item → t.Items
views_items [] = t.no_items
views_items (i ∷ rest) = t.items (view_item i) (views_items rest)

abbrev pub view_compound : compound.Compound → t.Compound
view_compound c = t.compound c.opening c.pragmas.items (views_items c.items.items) c.closing

abbrev pub view_function : function.Function → t.Function
view_function f =
    t.function (view_type_name f.result) (view_identifier f.name) f.opening (view_params f.params) f.closing
    (view_compound f.body)

abbrev pub view_external : external.External → t.External
view_external (externals.Pragma p) = t.pragma_item p
view_external (externals.Structure s) = t.structure_item (view_structure s)
view_external (externals.Register r) = t.register_item (view_register_object r)
view_external (externals.Declaration d) = t.declaration_item (view_declaration d)
view_external (externals.Function f) = t.function_item (view_function f)

abbrev pub view_tree : whole.Tree → t.Tree
view_tree u = t.tree (map view_external u.items.items) u.end
