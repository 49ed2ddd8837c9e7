-- Names at file scope, and the constraints on them, in words (ISO/IEC 9899:1999, 5.1.2.2.1, 6.2.2, 6.7 and 6.9; named registers:
-- ISO/IEC TR 18037:2008, 5.2.2).
use Rattle.std.specs.Prelude.{ℕ, ◌+◌, ◌<◌, ◌≡◌, ◌≢◌, ◌⊎◌, ⊤, Option, Some, None, List, [], ◌∷◌}
use Rattle.ec_grammar.specs.Trees as t
use Rattle.ec_core.specs.Plain.{PlainType}
use Rattle.ec_core.specs.Typing.{int}
use Rattle.ec_check_operands.specs.declared.faults.Fault.{Fault}
use Rattle.ec_check_names.specs.declared.specifiers.StorageWord.{StorageWord}
use Rattle.ec_check_names.specs.declared.specifiers.StorageWord.TheVariants.{Static}
use Rattle.ec_check_file_scope.specs.FileNames.{FileKind, an_object, a_register, a_function, FileName}
use Rattle.ec_check_file_scope.specs.FileObjects.{number_size}
use Rattle.ec_check_file_scope.specs.Laws.{AreTwo, ConflictsWithOne}
use Rattle.ec_check_parts.specs.Words.{words_among, IsStorageWord, IsExternWord, HasFirstAs}

-- ---- initialisers

abbrev pub IsStarted : Option t.Start → Type 0
IsStarted None = ⊥
IsStarted (Some i) = ⊤

-- an `extern` declaration has an initialiser
abbrev pub BreakExtern : t.Specs → Option t.Start → Fault → Type 0
BreakExtern ss start f = (f.rule ≡ 16) × IsStarted start × HasFirstAs IsStorageWord IsExternWord (words_among ss) f.at

-- ---- `main`

-- `main`
abbrev pub main : List ℕ
main = 109 ∷ 97 ∷ 105 ∷ 110 ∷ []

-- what is declared behind a storage word or none is no `int main(void)`, or `static`
abbrev pub IsOtherMain : Option StorageWord → FileKind → Type 0
IsOtherMain word (an_object ty konst space) = ⊤
IsOtherMain word (a_register first ty konst) = ⊤
IsOtherMain word (a_function returns count params) =
    ((ty : PlainType) × (returns ≡ Some ty) × (ty ≢ int)) ⊎ ((count ≢ 0) ⊎ (word ≡ Some Static))

abbrev pub IsNoFunction : FileKind → Type 0
IsNoFunction (a_function returns count params) = ⊥
IsNoFunction kind = ⊤

-- ---- names

-- a declaration at file scope, behind a storage word or none and those of all units before it, with its name at a token
pub data BreakName (before : List FileName) (d : FileName) (word : Option StorageWord) (at : ℕ) (f : Fault) : Type 0 where
  -- with one of those it declares two types, spaces, registers or linkages, or defines twice
  conflict : f.rule ≡ 6 → f.at ≡ at → ConflictsWithOne d before → BreakName before d word at f
  other_main : f.rule ≡ 18 → f.at ≡ at → d.name ≡ main → IsOtherMain word d.kind → BreakName before d word at f

-- the declarator of a function, which may have no initialiser
pub data BreakFunctionName (before : List FileName) (d : FileName) (word : Option StorageWord) (start : Option t.Start) (at : ℕ)
    (f : Fault) : Type 0 where
  function_named : BreakName before d word at f → BreakFunctionName before d word start at f
  function_started : f.rule ≡ 16 → f.at ≡ at → IsStarted start → BreakFunctionName before d word start at f

-- ---- named registers

-- two objects, whose registers and types are known, have a register in common: each begins before the other ends
abbrev pub Overlap : FileKind → FileKind → Type 0
Overlap (a_register (Some p) (Some a) c) (a_register (Some q) (Some b) d) = (p < q + number_size b) × (q < p + number_size a)
Overlap x y = ⊥

-- their types and first registers are the same, where both are known
abbrev pub AreAlike : FileKind → FileKind → Type 0
AreAlike (a_register p a c) (a_register q b d) = (¬ AreTwo a b) × (¬ AreTwo p q)
AreAlike x y = ⊥

-- an object has a register of one before it, and differs from that in name, type or first register
abbrev pub SharesRegister : FileName → List FileName → Type 0
SharesRegister d [] = ⊥
SharesRegister d (e ∷ es) =
    (Overlap d.kind e.kind × (¬ ((d.name ≡ e.name) × AreAlike d.kind e.kind))) ⊎ SharesRegister d es

-- the declaration of an object in a named register, which is named at a token
abbrev pub BreakSharing : (before : List FileName) → FileName → (at : ℕ) → Fault → Type 0
BreakSharing before d at f = (f.rule ≡ 13) × (f.at ≡ at) × SharesRegister d before
