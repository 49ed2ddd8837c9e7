-- Declarations of objects in named registers agree with what is numbered.
use Rattle.std.proofs.Common.{◌≡◌, ◌∙◌, ◌<◌, ℕ, Bool, true, false, not, ◌||◌, List, [], length, refl, sym, ap, subst}
use Rattle.std.specs.Prelude.{is_none, Option, Some, None, IsSome, IsSomeAnd}
use Rattle.std.specs.Str.{bytes_eq}
use Rattle.std.proofs.lemmas.Bool.{not-false, or_parts, false≢true, true≢false}
use Rattle.std.proofs.lemmas.List.Elements.{Contains-push}
use Rattle.ec_grammar.specs.Trees as t
use Rattle.ec_space.specs.declared.space.Home.TheVariants.{Data as DataHome}
use Rattle.ec_space.specs.declared.space.SpaceId.TheVariants.{Generic}
use Rattle.ec_core.specs.Plain.{PlainType, void, integer, fixed, pointer, array, struct, PlainStruct, PlainObject, register}
use Rattle.ec_check_names.specs.declared.linkage.Linkage.TheVariants.{External}
use Rattle.ec_check_names.specs.declared.numbering.Defined.TheVariants.{Register}
use Rattle.ec_check_names.specs.declared.specifiers.Specified.{Specified}
use Rattle.ec_check_names.specs.Definitions.{Definition, Numbering, registered_as, numbered_register}
use Rattle.ec_check_names.specs.Specifiers.{specified, void_at}
use Rattle.ec_check_names.specs.Spellings.{register_number}
use Rattle.ec_check_operands.specs.Sorts.{is_arithmetic}
use Rattle.ec_check_expressions.specs.Known.{is_sized}
use Rattle.ec_check_expressions.specs.TypeNames.{meant_type, void_rules}
use Rattle.ec_check_expression_laws.specs.Laws.{DeclarationsKeepSuiting, KeptTypesAreSaid}
use Rattle.ec_check_expression_laws.proofs.KeptTypes.{no_void}
use Rattle.ec_check_declarations.specs.Declarators.{head_of}
use Rattle.ec_check_declarations.specs.ObjectTypes.{is_object_type, object_type}
use Rattle.ec_check_declarations.specs.Registers.{RegisterDeclared, is_no_number, passes_last, register_type, number_type, type_in}
use Rattle.ec_check_declarations.specs.Registers.{register_declared, register_sites}
use Rattle.ec_check_declarations.specs.Sites.{Site, told}
use Rattle.ec_check_file_scope.specs.FileNames.{FileName, a_register, is_registered}
use Rattle.ec_check_file_scope.specs.FileObjects.{with_object, with_defined, register_name, register_named, register_made}
use Rattle.ec_check_file_scope.specs.FileObjects.{register_name_sites, after_register, file_register_sites}
use Rattle.ec_check_file_scope.specs.States.{Setting, State, known_of, with_name}
use Rattle.ec_check_statements.proofs.Choices.{if_both}
use Rattle.ec_check_statements.proofs.KeptTypes.{behind_space}
use Rattle.ec_check_statements.proofs.Unbroken.{kept_of}
use Rattle.ec_check.specs.Agreement.{IsFileRegister, IsMade, IsDefined, Agrees}
use Rattle.ec_check.proofs.KeptObjects.{GoesOn, same_tags, same_structs}
use Rattle.ec_check.proofs.Links.{registered_behind, numbered_behind, registered_again, register_link}
use Rattle.ec_check.proofs.Lists.{if_true, if_false}
use Rattle.ec_check.proofs.Sound.{AreTested, tested, are_objects_of}
use Rattle.ec_check.proofs.Standing.{IsFine, AreLinked, named, with_one, with_room, at_last, stands_of, agrees_of, object_stands}

-- ---- the type

module _ (n : ℕ) where
  sized_object : (ty : PlainType) → is_sized n ty ≡ true → is_object_type n ty ≡ true
  sized_object void q = absurd (false≢true q)
  sized_object (integer signed bytes) q = q
  sized_object (fixed kind sat) q = refl
  sized_object (pointer s c to) q = q
  sized_object (array of len) q = absurd (false≢true q)
  sized_object (struct index) q = q

  number_there : (o : Option PlainType) → IsSomeAnd o (λ ty. is_sized n ty ≡ true) → is_no_number o ≡ false
      → IsSome (number_type (object_type n o))
  number_there None h q = absurd h
  number_there (Some ty) h q =
      if_true (λ o. IsSome (number_type o)) (is_object_type n ty) (Some ty) None (sized_object ty h)
      (if_true IsSome (is_arithmetic ty) (Some ty) None (not-false (is_arithmetic ty) q) refl)

  number_tested : (o : Option PlainType) → AreTested n o → AreTested n (number_type o)
  number_tested None h = tt
  number_tested (Some ty) h = if_both (AreTested n) (is_arithmetic ty) (Some ty) None (λ q. h) (λ q. tt)

in_tested : (structs : List PlainStruct) (first : Option ℕ) (o : Option PlainType) → AreTested (length structs) o
    → AreTested (length structs) (type_in structs first o)
in_tested structs first o h =
    if_both (AreTested (length structs)) (passes_last structs first o) None (number_type o) (λ q. tt)
    (λ q. number_tested (length structs) o h)

said_tested : (n : ℕ) (s : Specified) → AreTested n (register_type n s)
said_tested n s = tested n (meant_type (void_at s.types) (head_of s []).ty)

type_there : (structs : List PlainStruct) (first : Option ℕ) (s : Specified) → void_at s.types ≡ None
    → IsSomeAnd (head_of s []).ty (λ ty. is_sized (length structs) ty ≡ true) → is_no_number (head_of s []).ty ≡ false
    → passes_last structs first (register_type (length structs) s) ≡ false
    → IsSome (type_in structs first (register_type (length structs) s))
type_there structs first s none said number last =
    if_false IsSome (passes_last structs first (register_type (length structs) s)) None
    (number_type (register_type (length structs) s)) last
    (subst (λ (o : Option ℕ). IsSome (number_type (object_type (length structs) (meant_type o (head_of s []).ty)))) (sym none)
    (number_there (length structs) (head_of s []).ty said number))

first_there : (o : Option ℕ) → is_none o ≡ false → IsSome o
first_there None q = absurd (true≢false q)
first_there (Some n) q = refl

-- ---- one register more, or the same again

module _ (keep : DeclarationsKeepSuiting) (r : Setting) (name : List ℕ) (o : RegisterDeclared) (n : Numbering) (s : State)
    (h : Agrees r.ports r.unit n s)
    (fine : IsFine s (register_named r name o) (register_name r name o)) where
  abbrev next : State
  next = with_name name (register_named r name o) (register_name r name o) s

  links : AreLinked r.unit n next
  links storage callable m =
      h.links storage callable m ∙ register_link storage callable m s.declared (register_name r name o) refl fine.clear

  again : is_registered name s.declared ≡ true → Agrees r.ports r.unit n next
  again e =
      agrees_of r.ports r.unit n next
      (named keep r.ports r.unit n.definitions n.objects n.functions s (stands_of r.ports r.unit n s h) name
      (register_named r name o) External true
      (a_register o.first o.ty o.konst) fine)
      links
      (λ m. h.registered m ∙ sym (registered_behind m s.declared (register_name r name o) ∙ registered_again m name s.declared e))

  made_agrees : (first : ℕ) (ty : PlainType) → o.first ≡ Some first → o.ty ≡ Some ty → n.objects < 65_536
      → Agrees r.ports r.unit (registered_as false r.unit name n) (with_object (register_made r name o (Some first) (Some ty)) next)
  made_agrees first ty e g room =
      let d : Definition = record { name = name; unit = r.unit; linkage = External; kind = Register; number = n.objects } in
      let x : PlainObject = record {
        name = name;
        unit = r.unit;
        external = true;
        ty = ty;
        space = Generic;
        home = DataHome;
        const = o.konst;
        storage = register first;
      } in
      let is_it : IsFileRegister d first ty o.konst x = record {
        name = refl;
        unit = refl;
        external = refl;
        typed = refl;
        constness = refl;
        spaced = refl;
        home = refl;
        storage = refl;
      } in
      let v = with_one x next in
      let there = at_last (IsFileRegister d first ty o.konst) s.scope.objects x n.objects h.objects is_it in
      let said : FileName = register_name r name o in
      let defined : IsDefined v d = (
        said,
        (
          Contains-push s.declared said,
          record {
            defines = refl;
            name = refl;
            unit = refl;
            linkage = refl;
            made = subst (λ (f : Option ℕ). IsMade v d Register (a_register f o.ty o.konst)) (sym e)
                (subst (λ (ty : Option PlainType). IsMade v d Register (a_register (Some first) ty o.konst)) (sym g) there);
          },
        ),
      ) in
      let stands =
      named keep r.ports r.unit n.definitions n.objects n.functions s (stands_of r.ports r.unit n s h) name
      (register_named r name o) External true
      (a_register o.first o.ty o.konst) fine in
      with_room (λ v. Agrees r.ports r.unit (registered_as false r.unit name n) v) next n.objects x h.objects room
      (agrees_of r.ports r.unit (registered_as false r.unit name n) v
      (object_stands r.ports r.unit n.definitions n.objects n.functions next stands x d defined)
      links
      (λ m. numbered_behind m n.definitions d ∙ ap (λ (b : Bool). b || bytes_eq name m) (h.registered m)
      ∙ sym (registered_behind m s.declared said)))

  some_made : (first : Option ℕ) (ty : Option PlainType) → o.first ≡ first → o.ty ≡ ty → IsSome first → IsSome ty → n.objects < 65_536
      → Agrees r.ports r.unit (registered_as false r.unit name n) (with_object (register_made r name o first ty) next)
  some_made None ty e g p q room = absurd (false≢true p)
  some_made (Some first) None e g p q room = absurd (false≢true q)
  some_made (Some first) (Some ty) e g p q room = made_agrees first ty e g room

  pub register_agrees : IsSome o.first → IsSome o.ty → n.objects < 65_536 → (b : Bool) → is_registered name s.declared ≡ b
      → Agrees r.ports r.unit (registered_as b r.unit name n) (with_defined (not b) (register_made r name o o.first o.ty) next)
  register_agrees p q room true e = again e
  register_agrees p q room false e = some_made o.first o.ty refl refl p q room

-- ---- a declaration

pub register_goes_on : KeptTypesAreSaid → DeclarationsKeepSuiting
    → (r : Setting) (d : t.RegisterObject) (n : Numbering) (s : State) (rest : List Site)
    → Agrees r.ports r.unit n s → n.objects < 65_536 → told None (file_register_sites r d s rest) ≡ None
    → GoesOn r (numbered_register r.unit d n) s (after_register r d s) rest
register_goes_on said keep r (t.register_object w (t.identifier at reg) ss (t.identifier name_at name) semicolon) n s rest h room q =
    let d = t.register_object w (t.identifier at reg) ss (t.identifier name_at name) semicolon in
    let k = known_of r.ports s in
    let x = specified s.tags ss in
    let o = register_declared k d in
    let u = kept_of (register_sites k d (register_name_sites r d s o rest)) q in
    let none = no_void (void_at x.types) (behind_space false (head_of x []).qualities.space (void_rules (void_at x.types) []) u.1.0) in
    let sized = said (length s.structs) s.tags h.types.tags false ss [] [] u.0 none in
    let parts = or_parts (is_none (register_number reg) || is_no_number (head_of x []).ty)
    (passes_last s.structs (register_number reg) (register_type (length s.structs) x)) u.1.1.0.0 in
    let firsts = or_parts (is_none (register_number reg)) (is_no_number (head_of x []).ty) parts.0 in
    let typed = type_there s.structs (register_number reg) x none sized firsts.1 parts.1 in
    let first = first_there (register_number reg) firsts.0 in
    let fine : IsFine s (register_named r name o) (register_name r name o) = record {
      clear = u.1.1.1.1.0.0;
      typed = typed;
      object = are_objects_of (length s.structs) o.ty
          (in_tested s.structs (register_number reg) (register_type (length s.structs) x) (said_tested (length s.structs) x));
    } in
    let b = is_registered name s.declared in
    let next = with_name name (register_named r name o) (register_name r name o) s in
    let made = register_made r name o o.first o.ty in
    let done = register_agrees keep r name o n s h fine first typed room b refl in
    record {
      agrees = subst (λ (b : Bool).
          Agrees r.ports r.unit (registered_as b r.unit name n) (with_defined (not (is_registered name s.declared)) made next))
          (sym (h.registered name)) done;
      tags = same_tags (not b) made next;
      structs = same_structs (not b) made next;
      kept = u.1.1.1.1.1;
    }
