-- The trees of the grammar without pointers: one type for each nonterminal, one constructor for each production
-- (ISO/IEC 9899:1999, 6.5 to 6.9). A leaf is a token with its index; where a production fixes the token, only its spot
-- is kept.
use Rattle.std.specs.Prelude.{ℕ, List, Option}
use Rattle.ec_grammar.specs.declared.token.WordKind.{WordKind}
use Rattle.ec_grammar.specs.declared.token.PunctKind.{PunctKind}
use Rattle.ec_grammar.specs.declared.Spot.{Spot}
use Rattle.ec_grammar.specs.declared.Constant.{Constant}
use Rattle.ec_grammar.specs.declared.Operation.{Operation}
use Rattle.ec_grammar.specs.declared.Pragma.{Pragma}
use Rattle.ec_grammar.specs.declared.Qualifier.{Qualifier}
use Rattle.ec_grammar.specs.Tokens.{Lexeme}

-- a token, where it stands in the list and where it begins in the text
pub record Leaf : Type 0 where
  pub spot : Spot
  pub lexeme : Lexeme

pub data Identifier : Type 0 where
  identifier : Spot → List ℕ → Identifier

pub data Star : Type 0 where
  star : Spot → List Qualifier → Star

-- a storage word, a qualifier or a type word; or `struct` and a tag
pub data Spec : Type 0 where
  word_spec : Spot → WordKind → Spec
  struct_spec : Spot → Identifier → Spec

pub data Specs : Type 0 where
  specs : Spec → List Spec → Specs

pub data TypeName : Type 0 where
  type_name : Specs → List Star → TypeName

mutual
  pub data Expression : Type 0 where
    single : Assignment → Expression
    comma : Expression → Spot → Assignment → Expression

  pub data Assignment : Type 0 where
    value : Conditional → Assignment
    assign : Unary → Spot → PunctKind → Assignment → Assignment

  pub data Conditional : Type 0 where
    plain : Binary → Conditional
    choose : Binary → Spot → Expression → Spot → Conditional → Conditional

  pub data Binary : Type 0 where
    operand : Cast → Binary
    join : Binary → Spot → PunctKind → Binary → Binary

  pub data Cast : Type 0 where
    uncast : Unary → Cast
    convert : Spot → TypeName → Spot → Cast → Cast

  pub data Unary : Type 0 where
    postfix : Postfix → Unary
    step : Spot → PunctKind → Unary → Unary
    prefix : Spot → PunctKind → Cast → Unary
    size : Spot → Spot → TypeName → Spot → Unary

  pub data Postfix : Type 0 where
    primary : Primary → Postfix
    index : Postfix → Spot → Expression → Spot → Postfix
    call : Postfix → Spot → Arguments → Spot → Postfix
    member : Postfix → Spot → PunctKind → Identifier → Postfix
    stepped : Postfix → Spot → PunctKind → Postfix

  pub data Arguments : Type 0 where
    no_arguments : Arguments
    arguments : Assignment → Further → Arguments

  -- arguments that follow another one, each behind its comma
  pub data Further : Type 0 where
    no_further : Further
    further : Spot → Assignment → Further → Further

  pub data Primary : Type 0 where
    name : Identifier → Primary
    constant : Spot → Constant → Primary
    parenthesised : Spot → Expression → Spot → Primary
    operation : Spot → Operation → Spot → Identifier → Further → Spot → Primary

pub data Param : Type 0 where
  param : TypeName → Option Identifier → Param

pub data NextParam : Type 0 where
  next_param : Spot → Param → NextParam

pub data Params : Type 0 where
  void_params : Spot → Params
  params : Param → List NextParam → Params

pub data Shape : Type 0 where
  object : Shape
  array : Spot → Option Conditional → Spot → Shape
  function_shape : Spot → Params → Spot → Shape

pub data Declarator : Type 0 where
  declarator : List Star → Identifier → Shape → Declarator

mutual
  pub data Initialiser : Type 0 where
    initial_value : Assignment → Initialiser
    braces : Spot → Initialiser → Initialisers → Option Spot → Spot → Initialiser

  -- initialisers that follow another one, each behind its comma
  pub data Initialisers : Type 0 where
    no_initialisers : Initialisers
    initialisers : Spot → Initialiser → Initialisers → Initialisers

pub data Start : Type 0 where
  start : Spot → Initialiser → Start

pub data InitDeclarator : Type 0 where
  init_declarator : Declarator → Option Start → InitDeclarator

pub data NextInitDeclarator : Type 0 where
  next_init_declarator : Spot → InitDeclarator → NextInitDeclarator

pub data Declaration : Type 0 where
  declaration : Specs → InitDeclarator → List NextInitDeclarator → Spot → Declaration

pub data NextDeclarator : Type 0 where
  next_declarator : Spot → Declarator → NextDeclarator

pub data Member : Type 0 where
  members : Specs → Declarator → List NextDeclarator → Spot → Member

pub data Structure : Type 0 where
  structure : Spot → Identifier → Spot → Member → List Member → Spot → Spot → Structure

pub data RegisterObject : Type 0 where
  register_object : Spot → Identifier → Specs → Identifier → Spot → RegisterObject

pub data Condition : Type 0 where
  condition : Spot → Expression → Spot → Condition

pub data First : Type 0 where
  first_declared : Declaration → First
  first_evaluated : Option Expression → Spot → First

pub data Heading : Type 0 where
  heading : Spot → First → Option Expression → Spot → Option Expression → Spot → Heading

mutual
  pub data Compound : Type 0 where
    compound : Spot → List Pragma → Items → Spot → Compound

  pub data Items : Type 0 where
    no_items : Items
    items : Item → Items → Items

  pub data Item : Type 0 where
    declared : Declaration → Item
    stated : Statement → Item

  pub data Statement : Type 0 where
    block : Compound → Statement
    simple : Option Expression → Spot → Statement
    if_then : Spot → Condition → Statement → Statement
    if_else : Spot → Condition → Statement → Spot → Statement → Statement
    while_loop : Spot → Condition → Statement → Statement
    do_loop : Spot → Statement → Spot → Condition → Spot → Statement
    for_loop : Spot → Heading → Statement → Statement
    break_loop : Spot → Spot → Statement
    continue_loop : Spot → Spot → Statement
    return_value : Spot → Option Expression → Spot → Statement

pub data Function : Type 0 where
  function : TypeName → Identifier → Spot → Params → Spot → Compound → Function

pub data External : Type 0 where
  pragma_item : Pragma → External
  structure_item : Structure → External
  register_item : RegisterObject → External
  declaration_item : Declaration → External
  function_item : Function → External

pub data Tree : Type 0 where
  tree : List External → Spot → Tree
