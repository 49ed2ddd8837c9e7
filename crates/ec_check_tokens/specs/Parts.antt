-- The expressions of a part that stands in a unit, each with its first token, and the overflow states there.
use Rattle.std.specs.Prelude.{ℕ, ◌≡◌, ⊤, Some, List, [], ◌∷◌}
use Rattle.ec_grammar.specs.Tokens.{Placed}
use Rattle.ec_grammar.specs.Trees as t
use Rattle.ec_check_names.specs.Firsts.{first_expression, first_assignment, first_conditional}
use Rattle.ec_check_expressions.specs.Known.{Known}
use Rattle.ec_check_parts.specs.Parts as part
use Rattle.ec_check_parts.specs.Parts.{Part}
use Rattle.ec_check_parts.specs.Structures.{declarators_behind}
use Rattle.ec_check_tokens.specs.States.{state_at}

-- what is known at a token of a unit with these tokens has the states that are in force there
abbrev pub KnowsStates : List Placed → Known → ℕ → Type 0
KnowsStates tokens k n = k.modes ≡ state_at tokens n

-- so at each expression in the braces of an initialiser
abbrev mutual
  pub InInitialiser : List Placed → Known → t.Initialiser → Type 0
  InInitialiser tokens k (t.initial_value a) = KnowsStates tokens k (first_assignment a)
  InInitialiser tokens k (t.braces l first more c r) = InInitialiser tokens k first × InInitialisers tokens k more

  pub InInitialisers : List Placed → Known → t.Initialisers → Type 0
  InInitialisers tokens k t.no_initialisers = ⊤
  InInitialisers tokens k (t.initialisers s i more) = InInitialiser tokens k i × InInitialisers tokens k more

-- and at the size of an array
abbrev pub InShape : List Placed → Known → t.Shape → Type 0
InShape tokens k (t.array l (Some c) r) = KnowsStates tokens k (first_conditional c)
InShape tokens k shape = ⊤

abbrev pub InDeclarators : List Placed → Known → List t.Declarator → Type 0
InDeclarators tokens k [] = ⊤
InDeclarators tokens k (t.declarator stars n shape ∷ ds) = InShape tokens k shape × InDeclarators tokens k ds

abbrev pub InMembers : List Placed → Known → List t.Member → Type 0
InMembers tokens k [] = ⊤
InMembers tokens k (t.members ss first more e ∷ ms) =
    InDeclarators tokens k (first ∷ declarators_behind more) × InMembers tokens k ms

-- what is known where a part stands has the states that are in force at the first token of each expression in it
abbrev pub PartKnowsStates : List Placed → Part → Type 0
PartKnowsStates tokens (part.object k ss stars at shape start) = InShape tokens k shape
PartKnowsStates tokens (part.static_initialiser k ty i) = InInitialiser tokens k i
PartKnowsStates tokens (part.structure k at tag first more) = InMembers tokens k (first ∷ more)
PartKnowsStates tokens (part.block_object k first ss stars at n shape start) = InShape tokens k shape
PartKnowsStates tokens (part.block_initialiser k ty i) = InInitialiser tokens k i
PartKnowsStates tokens (part.condition k x at) = KnowsStates tokens k (first_expression x)
PartKnowsStates tokens (part.evaluation k x) = KnowsStates tokens k (first_expression x)
PartKnowsStates tokens (part.returned k result (Some x) at) = KnowsStates tokens k (first_expression x)
PartKnowsStates tokens other = ⊤
