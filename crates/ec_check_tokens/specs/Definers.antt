-- Which declarations at file scope define (ISO/IEC 9899:1999, 6.9): the definition of a function; each declarator of an object without
-- `extern`, since this project's profile has no tentative definitions (6.9.2); and of the declarations of a named register, which is
-- one object in all units (ISO/IEC TR 18037:2008, 5.2.2), the first one.
use Rattle.std.specs.Prelude.{ℕ, ◌+◌, ◌≤◌, ◌≡◌, ◌⊎◌, suc, ⊤, Option, Some, None, List, [], ◌∷◌, ◌++◌}
use Rattle.ec_grammar.specs.declared.token.WordKind.TheVariants as w
use Rattle.ec_grammar.specs.Grammar.{Derives}
use Rattle.ec_grammar.specs.Spelling.{of_tree}
use Rattle.ec_grammar.specs.Tokens as tokens
use Rattle.ec_grammar.specs.Tokens.{Placed}
use Rattle.ec_grammar.specs.Trees as t
use Rattle.ec_grammar.specs.Trees.{Leaf}
use Rattle.ec_iohw.specs.declared.table.IoTable.{IoTable}
use Rattle.ec_core.specs.Plain.{PlainFunction, PlainProgram}
use Rattle.ec_check_names.specs.declared.numbering.Defined.{Defined}
use Rattle.ec_check_names.specs.declared.numbering.Defined.TheVariants.{Object, Register, Function}
use Rattle.ec_check_names.specs.declared.specifiers.StorageWord.{StorageWord}
use Rattle.ec_check_names.specs.declared.specifiers.StorageWord.TheVariants.{Extern, Static}
use Rattle.ec_check_names.specs.Definitions.{Definition, definitions}
use Rattle.ec_check.specs.Answers.{IsTyped}

-- ---- the declarators that define

-- what defines, with its name at a token of a unit, and what it defines
pub record Definer (K : Type 0) : Type 0 where
  pub unit : ℕ
  pub at : ℕ
  pub name : List ℕ
  pub kind : K

-- the storage word that stands first among specifiers
abbrev pub first_word : List t.Spec → Option StorageWord
first_word [] = None
first_word (t.word_spec s w.Extern ∷ more) = Some Extern
first_word (t.word_spec s w.Static ∷ more) = Some Static
first_word (x ∷ more) = first_word more

abbrev pub word_of : t.Specs → Option StorageWord
word_of (t.specs first more) = first_word (first ∷ more)

-- an object behind a storage word or none, and then others
abbrev pub unless_extern : Option StorageWord → Definer Defined → List (Definer Defined) → List (Definer Defined)
unless_extern (Some Extern) d rest = rest
unless_extern word d rest = d ∷ rest

abbrev pub in_declarator : (unit : ℕ) → Option StorageWord → t.InitDeclarator → List (Definer Defined) → List (Definer Defined)
in_declarator unit word (t.init_declarator (t.declarator stars n (t.function_shape l ps r)) start) rest = rest
in_declarator unit word (t.init_declarator (t.declarator stars (t.identifier at n) shape) start) rest =
    unless_extern word (record { unit = unit; at = at.index; name = n; kind = Object }) rest

abbrev pub in_declarators : (unit : ℕ) → Option StorageWord → List t.NextInitDeclarator → List (Definer Defined) → List (Definer Defined)
in_declarators unit word [] rest = rest
in_declarators unit word (t.next_init_declarator comma d ∷ ds) rest =
    in_declarator unit word d (in_declarators unit word ds rest)

abbrev pub in_external : (unit : ℕ) → t.External → List (Definer Defined) → List (Definer Defined)
in_external unit (t.pragma_item p) rest = rest
in_external unit (t.structure_item d) rest = rest
in_external unit (t.register_item (t.register_object s register ss (t.identifier at n) e)) rest =
    record { unit = unit; at = at.index; name = n; kind = Register } ∷ rest
in_external unit (t.declaration_item (t.declaration ss first more e)) rest =
    in_declarator unit (word_of ss) first (in_declarators unit (word_of ss) more rest)
in_external unit (t.function_item (t.function ty (t.identifier at n) l ps r body)) rest =
    record { unit = unit; at = at.index; name = n; kind = Function } ∷ rest

abbrev pub in_externals : (unit : ℕ) → List t.External → List (Definer Defined) → List (Definer Defined)
in_externals unit [] rest = rest
in_externals unit (x ∷ xs) rest = in_external unit x (in_externals unit xs rest)

abbrev pub in_unit : (unit : ℕ) → t.Tree → List (Definer Defined) → List (Definer Defined)
in_unit unit (t.tree xs e) rest = in_externals unit xs rest

-- those of units, the first of which has this number
abbrev pub definers_from : (unit : ℕ) → List t.Tree → List (Definer Defined)
definers_from unit [] = []
definers_from unit (u ∷ us) = in_unit unit u (definers_from (unit + 1) us)

-- ---- the definitions of all units

abbrev pub IsRegister : (n : List ℕ) → List Definition → Type 0
IsRegister n [] = ⊥
IsRegister n (e ∷ es) = ((e.kind ≡ Register) × (e.name ≡ n)) ⊎ IsRegister n es

pub record IsDefinition (d : Definer Defined) (e : Definition) : Type 0 where
  pub name : e.name ≡ d.name
  pub unit : e.unit ≡ d.unit
  pub kind : e.kind ≡ d.kind

-- behind some definitions these declarators give the others of all definitions, in order
pub data Define (all : List Definition) : (before : List Definition) → List (Definer Defined) → Type 0 where
  done : Define all all []
  -- a named register that was declared before
  again : {before : List Definition} {d : Definer Defined} {ds : List (Definer Defined)} → d.kind ≡ Register → IsRegister d.name before
      → Define all before ds → Define all before (d ∷ ds)
  defined : {before : List Definition} {d : Definer Defined} {ds : List (Definer Defined)} (e : Definition)
      → (d.kind ≡ Register → ¬ IsRegister d.name before) → IsDefinition d e → Define all (before ++ e ∷ []) ds
      → Define all before (d ∷ ds)

abbrev pub DefinersDefine : Type 0
DefinersDefine = (us : List t.Tree) → Define (definitions us) [] (definers_from 0 us)

-- ---- their order

-- the names of the declarators stand among the tokens, in this order
pub data StandInOrder {K : Type 0} : List (Definer K) → List Leaf → Type 0 where
  ended : {ls : List Leaf} → StandInOrder [] ls
  passed : {ds : List (Definer K)} {l : Leaf} {ls : List Leaf} → StandInOrder ds ls → StandInOrder ds (l ∷ ls)
  named : {d : Definer K} {ds : List (Definer K)} {l : Leaf} {ls : List Leaf} → l.spot.index ≡ d.at → l.lexeme ≡ tokens.name d.name
      → StandInOrder ds ls → StandInOrder (d ∷ ds) (l ∷ ls)

-- each stands at a token behind those of all before it
abbrev pub RiseFrom : {K : Type 0} → ℕ → List (Definer K) → Type 0
RiseFrom n [] = ⊤
RiseFrom n (d ∷ ds) = (n ≤ d.at) × RiseFrom (suc d.at) ds

-- so do those of each unit, and each at a token behind those of all before it
pub record AreInOrder {K : Type 0} (defining : ℕ → t.Tree → List (Definer K)) : Type 0 where
  pub named : (unit : ℕ) (u : t.Tree) → StandInOrder (defining unit u) (of_tree u [])
  pub rising : (ts : List Placed) (unit : ℕ) (u : t.Tree) → Derives ts u → RiseFrom 0 (defining unit u)

abbrev pub DefinersAreInOrder : Type 0
DefinersAreInOrder = AreInOrder (λ unit u. in_unit unit u [])

-- ---- functions of a program

-- behind some functions these declarators give the others of all functions, in order
pub data Make (all : List PlainFunction) : (before : List PlainFunction) → List (Definer Defined) → Type 0 where
  made : Make all all []
  other : {before : List PlainFunction} {d : Definer Defined} {ds : List (Definer Defined)} → ¬ (d.kind ≡ Function) → Make all before ds
      → Make all before (d ∷ ds)
  function : {before : List PlainFunction} {d : Definer Defined} {ds : List (Definer Defined)} (f : PlainFunction) → d.kind ≡ Function
      → f.name ≡ d.name → f.unit ≡ d.unit → Make all (before ++ f ∷ []) ds → Make all before (d ∷ ds)

-- the functions of the program of units stand in the order of their definitions, by unit and by token
abbrev pub FunctionsAreInOrder : Type 0
FunctionsAreInOrder =
    (us : List t.Tree) (io : IoTable) (p : PlainProgram) → IsTyped us io p → Make p.functions [] (definers_from 0 us)
