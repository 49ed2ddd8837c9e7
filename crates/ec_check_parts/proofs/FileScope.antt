-- What is told of declarations at file scope breaks a constraint at one of the parts that stand there, and the other way round.
use Rattle.std.proofs.Common.{◌≡◌, ℕ, true, false, List, [], ◌∷◌, refl, subst}
use Rattle.std.specs.Prelude.{◌⊎◌, Option, Some, None}
use Rattle.ec_grammar.specs.declared.Spot.{Spot}
use Rattle.ec_grammar.specs.Trees as t
use Rattle.ec_core.specs.Plain.{PlainType}
use Rattle.ec_check_names.specs.declared.specifiers.Storage.{Storage}
use Rattle.ec_check_names.specs.Specifiers.{specified, specs_rules, storages_of}
use Rattle.ec_check_names.specs.Tags.{Tags}
use Rattle.ec_check_expressions.specs.Known.{Known}
use Rattle.ec_check_declarations.specs.Declarators.{object_sites}
use Rattle.ec_check_declarations.specs.Functions.{function_sites}
use Rattle.ec_check_declarations.specs.Registers.{register_sites}
use Rattle.ec_check_declarations.specs.Sites.{on}
use Rattle.ec_check_declarations.specs.Structures.{structure_sites}
use Rattle.ec_check_operands.specs.Faults.{rule}
use Rattle.ec_check_file_scope.specs.FileFunctions.{named_function_sites, file_function_sites}
use Rattle.ec_check_file_scope.specs.FileObjects.{is_started, extern_rules, name_rules, initial_sites, file_object_sites}
use Rattle.ec_check_file_scope.specs.FileObjects.{shares_register, register_name as name_of_register, file_register_sites}
use Rattle.ec_check_file_scope.specs.FileScope.{after_declarator, declarator_sites, more_sites, declaration_sites}
use Rattle.ec_check_file_scope.specs.States.{Setting, State, known_of}
use Rattle.ec_check_parts.specs.Readings.{walked}
use Rattle.ec_check_parts.specs.Structures.{IsFunction}
use Rattle.ec_check_parts.specs.Parts.{Part, specifiers, object, started, static_initialiser, function, structure, register}
use Rattle.ec_check_parts.specs.Parts.{object_name, function_name, register_name, OneBreaks, Breaks}
use Rattle.ec_check_parts.specs.Units.{Outside, known_at, word_in, object_at, object_name_at, behind_name, function_at, function_name_at}
use Rattle.ec_check_parts.specs.Units.{register_at, StandsInStart, StandsInObject, StandsInFunction, StandsInDeclarator}
use Rattle.ec_check_parts.specs.Units.{StandsInDeclarators, StandsInDeclaration, StandsInRegister, StandsInStructure, behind_declarator}
use Rattle.ec_check_parts.specs.Laws.{TellAt, outside_of, FunctionsAreJudged, StructuresAreJudged, ObjectsAreJudged}
use Rattle.ec_check_parts.specs.Laws.{InitialisersAreJudged}
use Rattle.ec_check_parts.specs.Laws.{FileNamesAreJudged, FileScopeIsJudged}
use Rattle.ec_check_parts.proofs.Joined.{at_one}
use Rattle.ec_check_parts.proofs.Specifiers.{specifiers_alone}
use Rattle.ec_check_parts.proofs.Standing.{stands_nowhere, stands_alone, stand_both}
use Rattle.ec_check_parts.proofs.Outside.{declarator_at, tags_at, declaration_is, register_is}

-- what holds of the parts of declarations at file scope
pub record FileLaws : Type 0 where
  pub functions : FunctionsAreJudged
  pub structures : StructuresAreJudged
  pub objects : ObjectsAreJudged
  pub initialisers : InitialisersAreJudged
  pub names : FileNamesAreJudged

specifiers_stand : (tags : Tags) (ss : t.Specs)
    → TellAt (λ rest. on (specs_rules tags true ss []) ∷ rest) (OneBreaks (λ p. p ≡ specifiers tags ss))
specifiers_stand tags ss =
    stands_alone (λ rest. on (specs_rules tags true ss []) ∷ rest) (specifiers tags ss)
    (at_one (specs_rules tags true ss []) (Breaks (specifiers tags ss)) (specifiers_alone tags true ss))

module _ (laws : FileLaws) (r : Setting) where
  -- ---- objects

  start_stands : (k : Known) (start : Option t.Start) (ty : Option PlainType)
      → TellAt (initial_sites k start ty) (OneBreaks (StandsInStart k start ty))
  start_stands k None ty = stands_nowhere
  start_stands k (Some (t.start equals i)) ty =
      stands_alone (initial_sites k (Some (t.start equals i)) ty) (static_initialiser k ty i) (laws.initialisers.statics k i ty)

  extern_stands : (ss : t.Specs) (start : Option t.Start)
      → TellAt (λ rest. on (extern_rules (is_started start) (storages_of ss).first) ∷ rest) (OneBreaks (λ p. p ≡ started ss start))
  extern_stands ss start =
      stands_alone (λ rest. on (extern_rules (is_started start) (storages_of ss).first) ∷ rest) (started ss start)
      (laws.names.externs ss start)

  object_stands : (ss : t.Specs) (stars : List t.Star) (at : Spot) (n : List ℕ) (shape : t.Shape) (start : Option t.Start) (s : State)
      → ¬ IsFunction shape
      → TellAt (file_object_sites r (specified s.tags ss) (storages_of ss).first
      (t.init_declarator (t.declarator stars (t.identifier at n) shape) start) s)
      (OneBreaks (StandsInObject walked r ss (t.declarator stars (t.identifier at n) shape) start (outside_of s)))
  object_stands ss stars at n shape start s unlike =
      let o = outside_of s in
      let d = t.declarator stars (t.identifier at n) shape in
      let x = object_at walked r ss d start o in
      let k = known_of r.ports s in
      let word = word_in ss in
      let name = object_name_at walked r ss n x o in
      let inner = known_at r (behind_name walked r ss n x o) in
      let objects = object_sites k true (specified s.tags ss) d start in
      let externs = on (extern_rules (is_started start) (storages_of ss).first) in
      let names = on (name_rules name s.declared at.index) in
      let Object = (λ (p : Part). p ≡ object k ss stars at.index shape start) in
      let Started = (λ (p : Part). p ≡ started ss start) in
      let Name = (λ (p : Part). p ≡ object_name s.declared name word at.index) in
      let Start = StandsInStart inner start x.ty in
      stand_both objects (λ rest. externs ∷ names ∷ initial_sites inner start x.ty rest) Object (λ p. Started p ⊎ (Name p ⊎ Start p))
      (stands_alone objects (object k ss stars at.index shape start) (laws.objects.at_file_scope k ss stars at n shape start unlike))
      (stand_both (λ rest. externs ∷ rest) (λ rest. names ∷ initial_sites inner start x.ty rest) Started (λ p. Name p ⊎ Start p)
      (extern_stands ss start)
      (stand_both (λ rest. names ∷ rest) (initial_sites inner start x.ty) Name Start
      (stands_alone (λ rest. names ∷ rest) (object_name s.declared name word at.index)
      (laws.names.objects s.declared name word at.index tt))
      (start_stands inner start x.ty)))

  -- ---- functions

  function_stands : (ss : t.Specs) (stars : List t.Star) (at : Spot) (n : List ℕ) (shape : t.Shape) (ps : t.Params)
      (start : Option t.Start) (s : State)
      → TellAt (file_function_sites r (specified s.tags ss) (storages_of ss).first
      (t.init_declarator (t.declarator stars (t.identifier at n) shape) start) ps s)
      (OneBreaks (StandsInFunction walked r ss stars at.index n ps start (outside_of s)))
  function_stands ss stars at n shape ps start s =
      let o = outside_of s in
      let d = function_at walked ss stars ps o in
      let word = word_in ss in
      let externs = on (extern_rules (is_started start) (storages_of ss).first) in
      let functions = function_sites s.tags false (specified s.tags ss) stars at.index ps in
      let names = named_function_sites r word n false d (is_started start) at.index s in
      let Function = (λ (p : Part). p ≡ function s.tags false ss stars at.index ps) in
      let Started = (λ (p : Part). p ≡ started ss start) in
      let named = function_name s.declared (function_name_at walked r ss n false d o) word start at.index in
      stand_both functions (λ rest. externs ∷ names rest) Function (λ p. Started p ⊎ (p ≡ named))
      (stands_alone functions (function s.tags false ss stars at.index ps) (laws.functions s.tags false ss stars at.index ps))
      (stand_both (λ rest. externs ∷ rest) names Started (λ p. p ≡ named) (extern_stands ss start)
      (stands_alone names named (laws.names.functions r word n false d start at.index s)))

  -- ---- declarators

  module _ (ss : t.Specs) where
    abbrev storage : Option Storage
    storage = (storages_of ss).first

    declarator_stands : (d : t.InitDeclarator) (s : State)
        → TellAt (declarator_sites r (specified s.tags ss) storage d s) (OneBreaks (StandsInDeclarator walked r ss d (outside_of s)))
    declarator_stands (t.init_declarator (t.declarator stars (t.identifier at n) t.object) start) s =
        object_stands ss stars at n t.object start s (λ h. h)
    declarator_stands (t.init_declarator (t.declarator stars (t.identifier at n) (t.array l size e)) start) s =
        object_stands ss stars at n (t.array l size e) start s (λ h. h)
    declarator_stands (t.init_declarator (t.declarator stars (t.identifier at n) (t.function_shape l ps e)) start) s =
        function_stands ss stars at n (t.function_shape l ps e) ps start s

    declarator_at_tags : (d : t.InitDeclarator) (tags : Tags) (s : State) → s.tags ≡ tags
        → TellAt (declarator_sites r (specified tags ss) storage d s) (OneBreaks (StandsInDeclarator walked r ss d (outside_of s)))
    declarator_at_tags d tags s e =
        subst (λ (z : Tags). TellAt (declarator_sites r (specified z ss) storage d s)
        (OneBreaks (StandsInDeclarator walked r ss d (outside_of s)))) e (declarator_stands d s)

    declarators_stand : (ds : List t.NextInitDeclarator) (tags : Tags) (s : State) (o : Outside) → s.tags ≡ tags → outside_of s ≡ o
        → TellAt (more_sites r (specified tags ss) storage ds s) (OneBreaks (StandsInDeclarators walked r ss ds o))
    declarators_stand [] tags s o e q = stands_nowhere
    declarators_stand (t.next_init_declarator comma d ∷ ds) tags s o e q =
        let said = specified tags ss in
        subst (λ (z : Outside). TellAt (more_sites r said storage (t.next_init_declarator comma d ∷ ds) s)
        (OneBreaks (StandsInDeclarators walked r ss (t.next_init_declarator comma d ∷ ds) z))) q
        (stand_both (declarator_sites r said storage d s) (more_sites r said storage ds (after_declarator r said storage d s))
        (StandsInDeclarator walked r ss d (outside_of s)) (StandsInDeclarators walked r ss ds (behind_declarator walked r ss d (outside_of s)))
        (declarator_at_tags d tags s e)
        (declarators_stand ds tags (after_declarator r said storage d s) (behind_declarator walked r ss d (outside_of s))
        (tags_at r ss d tags s e) (declarator_at r ss d tags s e)))

  declaration_stands : (d : t.Declaration) (s : State)
      → TellAt (declaration_sites r d s) (OneBreaks (StandsInDeclaration walked r d (outside_of s)))
  declaration_stands (t.declaration ss first more semicolon) s =
      let said = specified s.tags ss in
      let storage = (storages_of ss).first in
      let o = outside_of s in
      let First = StandsInDeclarator walked r ss first o in
      let More = StandsInDeclarators walked r ss more (behind_declarator walked r ss first o) in
      let later = after_declarator r said storage first s in
      stand_both (λ rest. on (specs_rules s.tags true ss []) ∷ rest)
      (λ rest. declarator_sites r said storage first s (more_sites r said storage more later rest))
      (λ p. p ≡ specifiers s.tags ss) (λ p. First p ⊎ More p) (specifiers_stand s.tags ss)
      (stand_both (declarator_sites r said storage first s) (more_sites r said storage more later) First More
      (declarator_stands ss first s)
      (declarators_stand ss more s.tags later (behind_declarator walked r ss first o) (tags_at r ss first s.tags s refl)
      (declarator_at r ss first s.tags s refl)))

  -- ---- named registers and structs

  register_stands : (d : t.RegisterObject) (s : State)
      → TellAt (file_register_sites r d s) (OneBreaks (StandsInRegister walked r d (outside_of s)))
  register_stands (t.register_object w (t.identifier at reg) ss (t.identifier name_at n) e) s =
      let d = t.register_object w (t.identifier at reg) ss (t.identifier name_at n) e in
      let k = known_of r.ports s in
      let name = name_of_register r n (register_at walked r d (outside_of s)) in
      let sharing = on (rule 13 (shares_register name s.declared) at.index ∷ []) in
      let names = on (name_rules name s.declared name_at.index) in
      let Register = (λ (p : Part). p ≡ register k at.index reg ss) in
      let Sharing = (λ (p : Part). p ≡ register_name s.declared name at.index) in
      let Name = (λ (p : Part). p ≡ object_name s.declared name None name_at.index) in
      stand_both (register_sites k d) (λ rest. sharing ∷ names ∷ rest) Register (λ p. Sharing p ⊎ Name p)
      (stands_alone (register_sites k d) (register k at.index reg ss) (laws.structures.registers k w at reg ss (t.identifier name_at n) e))
      (stand_both (λ rest. sharing ∷ rest) (λ rest. names ∷ rest) Sharing Name
      (stands_alone (λ rest. sharing ∷ rest) (register_name s.declared name at.index) (laws.names.sharing s.declared name at.index))
      (stands_alone (λ rest. names ∷ rest) (object_name s.declared name None name_at.index)
      (laws.names.objects s.declared name None name_at.index tt)))

  structure_stands : (d : t.Structure) (s : State)
      → TellAt (structure_sites (known_of r.ports s) d) (OneBreaks (StandsInStructure walked r d (outside_of s)))
  structure_stands (t.structure w (t.identifier at tag) l first more e semicolon) s =
      let k = known_of r.ports s in
      stands_alone (structure_sites k (t.structure w (t.identifier at tag) l first more e semicolon)) (structure k at.index tag first more)
      (laws.structures.structures k w at tag l first more e semicolon)

pub file_scope_is_judged : FileLaws → FileScopeIsJudged
file_scope_is_judged laws = record {
  specifiers = specifiers_stand;
  declarations = declaration_stands laws;
  registers = register_stands laws;
  structures = structure_stands laws;
  behind_declarations = declaration_is;
  behind_registers = register_is;
}
