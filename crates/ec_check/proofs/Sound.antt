-- States stay sound: the types that declarations give are those of objects, and structs may stand behind others.
use Rattle.std.proofs.Common.{◌≡◌, ◌≤◌, ℕ, true, List, length}
use Rattle.std.specs.Prelude.{Option, Some, None, IfSome}
use Rattle.ec_grammar.specs.Trees as t
use Rattle.ec_core.specs.Layout.{IsObjectType, AreStructs}
use Rattle.ec_core.specs.Plain.{PlainType, PlainStruct}
use Rattle.ec_core.specs.TypeLaws.{StructsAreLaidOut}
use Rattle.ec_check_forms.specs.Accesses.{AreCounted}
use Rattle.ec_check_names.specs.declared.specifiers.Specified.{Specified}
use Rattle.ec_check_names.specs.Specifiers.{void_at}
use Rattle.ec_check_expressions.specs.Known.{Known}
use Rattle.ec_check_expressions.specs.TypeNames.{meant_type}
use Rattle.ec_check_declarations.specs.Declarators.{head_of, shaped, object_declared, shape_size}
use Rattle.ec_check_declarations.specs.ObjectTypes.{is_object_type, object_type, is_too_large}
use Rattle.ec_check_declarations.specs.Structures.{may_follow, appended}
use Rattle.ec_check_declarations.proofs.Structs.{follows, more_at}
use Rattle.ec_check_declarations.proofs.Types.{object_type_is}
use Rattle.ec_check_statements.proofs.Choices.{if_both}

-- ---- declared types

abbrev pub AreTested : ℕ → Option PlainType → Type 0
AreTested n o = IfSome o (λ ty. is_object_type n ty ≡ true)

pub tested : (n : ℕ) (o : Option PlainType) → AreTested n (object_type n o)
tested n None = tt
tested n (Some ty) = if_both (AreTested n) (is_object_type n ty) (Some ty) None (λ q. q) (λ q. tt)

pub declared_tested : (k : Known) (s : Specified) (d : t.Declarator) (start : Option t.Start)
    → AreTested (length k.structs) (object_declared k s d start).ty
declared_tested k s (t.declarator stars name shape) start =
    let o = shaped (meant_type (void_at s.types) (head_of s stars).ty) shape (shape_size k shape start) in
    let ty = object_type (length k.structs) o in
    if_both (AreTested (length k.structs)) (is_too_large k.structs ty) None ty (λ q. tt) (λ q. tested (length k.structs) o)

pub are_objects_of : (n : ℕ) (o : Option PlainType) → AreTested n o → IfSome o (IsObjectType n)
are_objects_of n None h = tt
are_objects_of n (Some ty) h = object_type_is n ty h

-- ---- structs

-- the structs of a program
abbrev pub AreSound : List PlainStruct → Type 0
AreSound structs = AreStructs structs × AreCounted structs

pub more_sound : StructsAreLaidOut → (place : Option ℕ) (structs : List PlainStruct) (s : PlainStruct) → AreSound structs
    → may_follow structs s.members ≡ true
    → AreSound (appended place s structs)
more_sound law None structs s h m =
    let f = follows structs s m in (
      (law.more structs s h.0 f.objects f.small).all,
      λ i u e. more_at (λ u. length u.members ≤ 65_536) structs s h.1 f.counted i u e,
    )
more_sound law (Some i) structs s h m = h
