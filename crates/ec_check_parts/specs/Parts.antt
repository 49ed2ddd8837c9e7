-- The parts of units of which constraints speak, each with what is known where it stands, and what breaks a constraint there.
use Rattle.std.specs.Prelude.{ℕ, ◌≡◌, Bool, true, Option, List}
use Rattle.ec_grammar.specs.Trees as t
use Rattle.ec_core.specs.Plain.{PlainType}
use Rattle.ec_check_operands.specs.declared.faults.Fault.{Fault}
use Rattle.ec_check_names.specs.declared.specifiers.StorageWord.{StorageWord}
use Rattle.ec_check_names.specs.Definitions.{Definition}
use Rattle.ec_check_names.specs.Tags.{Tags}
use Rattle.ec_check_expressions.specs.Known.{Known}
use Rattle.ec_check_file_scope.specs.FileNames.{FileName}
use Rattle.ec_check_parts.specs.Specifiers.{BreakSpecifiers}
use Rattle.ec_check_parts.specs.Heads.{file_object}
use Rattle.ec_check_parts.specs.Functions.{BreakFunction}
use Rattle.ec_check_parts.specs.Structures.{BreakStructure, BreakRegister}
use Rattle.ec_check_parts.specs.Objects.{BreakObject}
use Rattle.ec_check_parts.specs.Initialisers.{BreakInitialiser, BreakStatic}
use Rattle.ec_check_parts.specs.Blocks.{BreakBlockSpecifiers, BreakBlockObject}
use Rattle.ec_check_parts.specs.Statements.{BreakCondition, BreakEvaluation, BreakReturn, BreakLeaving}
use Rattle.ec_check_parts.specs.FileNames.{BreakExtern, BreakName, BreakFunctionName, BreakSharing}
use Rattle.ec_check_parts.specs.Mains.{HasNoMain}

-- `at` is the index of the token of a name, of a tag, of a word, or of the end of a unit
pub data Part : Type 0 where
  -- ---- at file scope
  specifiers : Tags → t.Specs → Part
  object : Known → t.Specs → List t.Star → (at : ℕ) → t.Shape → Option t.Start → Part
  -- a declarator with the specifiers before it and its initialiser or none
  started : t.Specs → Option t.Start → Part
  static_initialiser : Known → Option PlainType → t.Initialiser → Part
  function : Tags → (defined : Bool) → t.Specs → List t.Star → (at : ℕ) → t.Params → Part
  structure : Known → (at : ℕ) → (tag : List ℕ) → t.Member → List t.Member → Part
  register : Known → (at : ℕ) → (register : List ℕ) → t.Specs → Part
  -- a name behind the declarations of all units before it
  object_name : (before : List FileName) → FileName → Option StorageWord → (at : ℕ) → Part
  function_name : (before : List FileName) → FileName → Option StorageWord → Option t.Start → (at : ℕ) → Part
  register_name : (before : List FileName) → FileName → (at : ℕ) → Part
  -- the end of the last of the units that define so much
  end : List Definition → (at : ℕ) → Part
  -- ---- in functions
  block_specifiers : Tags → t.Specs → Part
  -- in a block that began where blocks had so many names
  block_object : Known → (first : ℕ) → t.Specs → List t.Star → (at : ℕ) → List ℕ → t.Shape → Option t.Start → Part
  block_initialiser : Known → Option PlainType → t.Initialiser → Part
  condition : Known → t.Expression → (at : ℕ) → Part
  evaluation : Known → t.Expression → Part
  returned : Known → (result : Option PlainType) → Option t.Expression → (at : ℕ) → Part
  leaving : (in_loop : Bool) → (at : ℕ) → Part

-- a fault of a part: the constraint with its number is broken there, and is told at its token
abbrev pub Breaks : Part → Fault → Type 0
Breaks (specifiers tags ss) f = BreakSpecifiers tags true ss f
Breaks (object k ss stars at shape start) f = BreakObject k file_object ss stars at shape start f
Breaks (started ss start) f = BreakExtern ss start f
Breaks (static_initialiser k ty i) f = BreakStatic k ty i f
Breaks (function tags defined ss stars at ps) f = BreakFunction tags defined ss stars at ps f
Breaks (structure k at tag first more) f = BreakStructure k at tag first more f
Breaks (register k at name ss) f = BreakRegister k at name ss f
Breaks (object_name before d word at) f = BreakName before d word at f
Breaks (function_name before d word start at) f = BreakFunctionName before d word start at f
Breaks (register_name before d at) f = BreakSharing before d at f
Breaks (end ds at) f = (f.rule ≡ 18) × (f.at ≡ at) × HasNoMain ds
Breaks (block_specifiers tags ss) f = BreakBlockSpecifiers tags ss f
Breaks (block_object k first ss stars at n shape start) f = BreakBlockObject k first ss stars at n shape start f
Breaks (block_initialiser k ty i) f = BreakInitialiser k ty i f
Breaks (condition k x at) f = BreakCondition k x at f
Breaks (evaluation k x) f = BreakEvaluation k x f
Breaks (returned k result x at) f = BreakReturn k result x at f
Breaks (leaving in_loop at) f = BreakLeaving in_loop at f

-- one of some parts breaks a constraint
abbrev pub OneBreaks : (Part → Type 0) → Fault → Type 0
OneBreaks Stands f = (p : Part) × Stands p × Breaks p f
