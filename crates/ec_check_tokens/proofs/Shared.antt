-- What the walk and the relations share is what the words say.
use Rattle.std.proofs.Common.{◌≡◌, ◌∙◌, ◌+◌, ℕ, Bool, true, false, List, [], ◌∷◌, ◌++◌, refl, sym, ap, subst, arith}
use Rattle.std.specs.Prelude.{◌↔◌, ◌==◌, ◌&&◌, nat_lt, if◌then◌else◌, Option, Some, None}
use Rattle.std.proofs.lemmas.Bool.{false≢true}
use Rattle.std.specs.Bool.{Decides}
use Rattle.std.specs.Str.{bytes_eq}
use Rattle.std.proofs.lemmas.Bool.Decides.{nat_tests, Decides-and, Decides-or}
use Rattle.std.proofs.lemmas.List.{append-nil, append_assoc}
use Rattle.std.proofs.lemmas.Slice.Eq.{bytes_eq-Decides}
use Rattle.ec_grammar.specs.declared.token.PunctKind.{PunctKind}
use Rattle.ec_grammar.specs.declared.token.PunctKind.TheVariants as p
use Rattle.ec_grammar.specs.Trees as t
use Rattle.ec_core.specs.declared.expressions.BinOp.{BinOp}
use Rattle.ec_core.specs.Plain.{PlainType, void, integer, fixed, pointer, array, struct, PlainStruct}
use Rattle.ec_core.specs.PortOperations.{PortOperation, takes_value}
use Rattle.ec_core.specs.Typing.{unsigned_int, port_value}
use Rattle.ec_check_forms.specs.declared.prefixes.PrefixOp.{PrefixOp}
use Rattle.ec_check_forms.specs.Calls.{operand_type}
use Rattle.ec_check_forms.specs.Constraints.{IsArithmetic}
use Rattle.ec_check_expressions.specs.Tokens.{operator_of, is_and, compound_operator, prefix_operator, is_up, is_arrow}
use Rattle.ec_check_expressions.specs.TypeNames.{said_type, void_said}
use Rattle.ec_check_meanings.proofs.Options.{inside as same, nothing_there, with_given, with_granted}
use Rattle.ec_check_names.specs.declared.linkage.Linkage.{Linkage}
use Rattle.ec_check_names.specs.declared.linkage.Linkage.TheVariants.{Internal, External}
use Rattle.ec_check_names.specs.Tags.{Tags}
use Rattle.ec_check_initialisers.specs.declared.places.StaticAddress.{StaticAddress}
use Rattle.ec_check_initialisers.specs.Parts.{part_of, part_count}
use Rattle.ec_check_initialisers.specs.Places.{moved}
use Rattle.ec_check_declarations.specs.Functions.{types_from, param_types}
use Rattle.ec_check_declarations.specs.Params.{ParamDeclared}
use Rattle.ec_check_file_scope.specs.FileNames.{FileName, is_external, is_register, is_registered}
use Rattle.ec_check_file_scope.specs.FileObjects.{number_size}
use Rattle.ec_check_parts.specs.Types.{SayType}
use Rattle.ec_check_parts.specs.TypeWords.{Name}
use Rattle.ec_check_parts.proofs.Types.{type_said, void_told}
use Rattle.ec_core.specs.Layout.{size_of_type}
use Rattle.ec_check_tokens.specs.Shared.{IsOperator, multiplied, divided, left_over, added, subtracted, shifted_left, shifted_right, less}
use Rattle.ec_check_tokens.specs.Shared.{greater, at_most, at_least, equal, unequal, all_of, one_of, any_of}
use Rattle.ec_check_tokens.specs.Shared.{IsCompound, by_product, by_quotient, by_remainder, by_sum, by_difference, by_shift_left}
use Rattle.ec_check_tokens.specs.Shared.{by_shift_right, by_and, by_exclusive_or, by_or}
use Rattle.ec_check_tokens.specs.Shared.{IsPrefix, address, pointed, promoted, negated, inverted, denied, OperatorsAreRead}
use Rattle.ec_check_tokens.specs.Shared.{NamesAreMeant, TypeNamesAreSaid, DeclarationsAreRead, IsPart, element, member, HasParts, elements}
use Rattle.ec_check_tokens.specs.Shared.{members, IsFurther, nowhere, inside, outside, PartsAreFound, IsOperandType, an_index, value_alone}
use Rattle.ec_check_tokens.specs.Shared.{value_behind, OperandsAreTyped, SharedWordsAreSaid}
use Rattle.ec_check_tokens.specs.Shared.{HaveTypes, no_param, a_param, IsOfRegister, FileNamesAreKept}
use Rattle.ec_check_tokens.proofs.Definers.{word_is}

-- ---- operators

operator_there : (x : PunctKind) (o : BinOp) → operator_of x ≡ Some o → IsOperator x o
operator_there p.Star o e = subst (IsOperator p.Star) (same e) multiplied
operator_there p.Slash o e = subst (IsOperator p.Slash) (same e) divided
operator_there p.Percent o e = subst (IsOperator p.Percent) (same e) left_over
operator_there p.Plus o e = subst (IsOperator p.Plus) (same e) added
operator_there p.Minus o e = subst (IsOperator p.Minus) (same e) subtracted
operator_there p.ShiftLeft o e = subst (IsOperator p.ShiftLeft) (same e) shifted_left
operator_there p.ShiftRight o e = subst (IsOperator p.ShiftRight) (same e) shifted_right
operator_there p.Less o e = subst (IsOperator p.Less) (same e) less
operator_there p.Greater o e = subst (IsOperator p.Greater) (same e) greater
operator_there p.LessEqual o e = subst (IsOperator p.LessEqual) (same e) at_most
operator_there p.GreaterEqual o e = subst (IsOperator p.GreaterEqual) (same e) at_least
operator_there p.Equal o e = subst (IsOperator p.Equal) (same e) equal
operator_there p.NotEqual o e = subst (IsOperator p.NotEqual) (same e) unequal
operator_there p.Ampersand o e = subst (IsOperator p.Ampersand) (same e) all_of
operator_there p.Caret o e = subst (IsOperator p.Caret) (same e) one_of
operator_there p.Bar o e = subst (IsOperator p.Bar) (same e) any_of
operator_there x o e = absurd (nothing_there o e)

operator_back : (x : PunctKind) (o : BinOp) → IsOperator x o → operator_of x ≡ Some o
operator_back _ _ multiplied = refl
operator_back _ _ divided = refl
operator_back _ _ left_over = refl
operator_back _ _ added = refl
operator_back _ _ subtracted = refl
operator_back _ _ shifted_left = refl
operator_back _ _ shifted_right = refl
operator_back _ _ less = refl
operator_back _ _ greater = refl
operator_back _ _ at_most = refl
operator_back _ _ at_least = refl
operator_back _ _ equal = refl
operator_back _ _ unequal = refl
operator_back _ _ all_of = refl
operator_back _ _ one_of = refl
operator_back _ _ any_of = refl

compound_there : (x : PunctKind) (o : BinOp) → compound_operator x ≡ Some o → IsCompound x o
compound_there p.StarAssign o e = subst (IsCompound p.StarAssign) (same e) by_product
compound_there p.SlashAssign o e = subst (IsCompound p.SlashAssign) (same e) by_quotient
compound_there p.PercentAssign o e = subst (IsCompound p.PercentAssign) (same e) by_remainder
compound_there p.PlusAssign o e = subst (IsCompound p.PlusAssign) (same e) by_sum
compound_there p.MinusAssign o e = subst (IsCompound p.MinusAssign) (same e) by_difference
compound_there p.ShiftLeftAssign o e = subst (IsCompound p.ShiftLeftAssign) (same e) by_shift_left
compound_there p.ShiftRightAssign o e = subst (IsCompound p.ShiftRightAssign) (same e) by_shift_right
compound_there p.AmpersandAssign o e = subst (IsCompound p.AmpersandAssign) (same e) by_and
compound_there p.CaretAssign o e = subst (IsCompound p.CaretAssign) (same e) by_exclusive_or
compound_there p.BarAssign o e = subst (IsCompound p.BarAssign) (same e) by_or
compound_there x o e = absurd (nothing_there o e)

compound_back : (x : PunctKind) (o : BinOp) → IsCompound x o → compound_operator x ≡ Some o
compound_back _ _ by_product = refl
compound_back _ _ by_quotient = refl
compound_back _ _ by_remainder = refl
compound_back _ _ by_sum = refl
compound_back _ _ by_difference = refl
compound_back _ _ by_shift_left = refl
compound_back _ _ by_shift_right = refl
compound_back _ _ by_and = refl
compound_back _ _ by_exclusive_or = refl
compound_back _ _ by_or = refl

prefix_back : (x : PunctKind) (o : PrefixOp) → IsPrefix x o → prefix_operator x ≡ o
prefix_back _ _ address = refl
prefix_back _ _ pointed = refl
prefix_back _ _ promoted = refl
prefix_back _ _ negated = refl
prefix_back _ _ inverted = refl
prefix_back _ _ denied = refl

and_there : (x : PunctKind) → is_and x ≡ true → x ≡ p.AndAnd
and_there p.AndAnd e = refl
and_there x e = absurd (false≢true e)

up_there : (x : PunctKind) → is_up x ≡ true → x ≡ p.Increment
up_there p.Increment e = refl
up_there x e = absurd (false≢true e)

arrow_there : (x : PunctKind) → is_arrow x ≡ true → x ≡ p.Arrow
arrow_there p.Arrow e = refl
arrow_there x e = absurd (false≢true e)

operators_are_read : OperatorsAreRead
operators_are_read = record {
  binary = λ x o. (operator_there x o, operator_back x o);
  compound = λ x o. (compound_there x o, compound_back x o);
  prefix = prefix_back;
  and = λ x. (and_there x, λ e. ap is_and e);
  up = λ x. (up_there x, λ e. ap is_up e);
  arrow = λ x. (arrow_there x, λ e. ap is_arrow e);
}

-- ---- names, type names and parameters

names_are_meant : NamesAreMeant
names_are_meant = record {
  undeclared = refl;
  undefined = λ ty konst space register. refl;
  object = λ number ty konst space register. refl;
  function = λ number returns params. refl;
}

type_name_said : (tags : Tags) (ss : t.Specs) (stars : List t.Star) (ty : PlainType)
    → said_type tags (t.type_name ss stars) ≡ Some ty ↔ SayType tags ss stars ty
unfolding said_type
type_name_said tags ss stars ty = type_said tags ss stars ty

type_name_void : (tags : Tags) (ss : t.Specs) (stars : List t.Star) → void_said tags (t.type_name ss stars) ≡ None ↔ (¬ Name tags ss void)
unfolding void_said
type_name_void tags ss stars = void_told tags ss

type_names_are_said : TypeNamesAreSaid
type_names_are_said = record { types = type_name_said; voids = type_name_void }

declarations_are_read : DeclarationsAreRead
declarations_are_read = record { named = λ ty at n. refl; nameless = λ ss stars. refl; words = word_is }

-- ---- names at file scope

types_back : (ps : List ParamDeclared) (tys : List PlainType) → HaveTypes ps tys → (before : List PlainType)
    → types_from before ps ≡ Some (before ++ tys)
types_back _ _ no_param before = ap Some (sym (append-nil before))
types_back _ _ (a_param {p = p} {ps = ps} {ty = ty} {tys = tys} e h) before =
    with_granted p.ty (λ x. types_from (before ++ x ∷ []) ps) ty (before ++ ty ∷ tys) e
    (types_back ps tys h (before ++ ty ∷ []) ∙ ap Some (append_assoc before (ty ∷ []) tys))

types_there : (ps : List ParamDeclared) (before tys : List PlainType) → types_from before ps ≡ Some tys
    → (more : List PlainType) × (tys ≡ before ++ more) × HaveTypes ps more
types_there [] before tys e = ([], sym (same e) ∙ sym (append-nil before), no_param)
types_there (p ∷ ps) before tys e =
    let g = with_given p.ty (λ x. types_from (before ++ x ∷ []) ps) tys e in
    let h = types_there ps (before ++ g.0 ∷ []) tys g.2 in
    (g.0 ∷ h.0, h.1 ∙ append_assoc before (g.0 ∷ []) h.0, a_param g.1 h.2)

params_typed : (ps : List ParamDeclared) (tys : List PlainType) → param_types ps ≡ Some tys ↔ HaveTypes ps tys
params_typed ps tys =
    (λ e. let h = types_there ps [] tys e in subst (HaveTypes ps) (sym h.1) h.2, λ h. types_back ps tys h [])

external_told : (l : Linkage) → is_external l ≡ true ↔ l ≡ External
external_told Internal = (λ e. absurd (false≢true e), λ e. cc)
external_told External = (λ e. refl, λ e. refl)

registered_told : (n : List ℕ) (ds : List FileName) → Decides (is_registered n ds) (IsOfRegister n ds)
registered_told n [] = (λ e. absurd (false≢true e), λ h. absurd h)
registered_told n (d ∷ ds) =
    Decides-or (is_register d.kind && bytes_eq d.name n) (is_registered n ds)
    (Decides-and (is_register d.kind) (bytes_eq d.name n) (λ e. e, λ e. e) (bytes_eq-Decides d.name n))
    (registered_told n ds)

file_names_are_kept : FileNamesAreKept
file_names_are_kept = record {
  objects = λ r n l defines x. refl;
  functions = λ r n l defines f. refl;
  registers = λ r n x. refl;
  params = params_typed;
  external = external_told;
  registered = registered_told;
}

-- ---- parts of objects, and addresses

module _ (structs : List PlainStruct) where
  part_there : (ty : PlainType) (i : ℕ) (part : PlainType) → part_of structs (Some ty) i ≡ Some part → IsPart structs ty i part
  part_there void i part e = absurd (nothing_there part e)
  part_there (integer signed bytes) i part e = absurd (nothing_there part e)
  part_there (fixed kind saturates) i part e = absurd (nothing_there part e)
  part_there (pointer space const to) i part e = absurd (nothing_there part e)
  part_there (array of len) i part e = by (nat_lt i len) refl e
    where
      by : (b : Bool) → nat_lt i len ≡ b → (if b then Some of else None) ≡ Some part → IsPart structs (array of len) i part
      by true l h = subst (IsPart structs (array of len) i) (same h) (element (grind (arith, nat_tests, l)))
      by false l h = absurd (nothing_there part h)
  part_there (struct index) i part e = member e

  part_back : (ty : PlainType) (i : ℕ) (part : PlainType) → IsPart structs ty i part → part_of structs (Some ty) i ≡ Some part
  part_back _ _ _ (element {of = of} {len = len} {i = i} l) =
      let e : nat_lt i len ≡ true = grind (arith, nat_tests, l) in ap (λ (b : Bool). if b then Some of else None) e
  part_back _ _ _ (member e) = e

  parts_counted : (ty : PlainType) (n : ℕ) → HasParts structs ty n → part_count structs ty ≡ n
  parts_counted _ _ elements = refl
  parts_counted _ _ (members e) = rw e refl

further : (size : ℕ) (a : Option StaticAddress) (bytes : ℕ) → IsFurther size a bytes (moved size a bytes)
further size None bytes = nowhere
further size (Some a) bytes = by (nat_lt size (a.offset + bytes)) refl
  where
    by : (b : Bool) → nat_lt size (a.offset + bytes) ≡ b
        → IsFurther size (Some a) bytes (if b then None else Some (record { object = a.object; offset = a.offset + bytes }))
    by true l = outside (grind (arith, nat_tests, l))
    by false l = inside (grind (arith, nat_tests, l))

numbers_sized : (structs : List PlainStruct) (ty : PlainType) → IsArithmetic ty → number_size ty ≡ size_of_type structs ty
numbers_sized structs (integer signed bytes) h = refl
numbers_sized structs (fixed kind saturates) h = refl
numbers_sized structs void h = absurd h
numbers_sized structs (pointer space const to) h = absurd h
numbers_sized structs (array of len) h = absurd h
numbers_sized structs (struct index) h = absurd h

parts_are_found : PartsAreFound
parts_are_found = record {
  types = λ structs ty i part. (part_there structs ty i part, part_back structs ty i part);
  counts = parts_counted;
  moved = further;
  began = λ number. refl;
  numbers = numbers_sized;
}

-- ---- ports

module _ (o : PortOperation) where
  typed_there : (i : ℕ) (ty : PlainType) (indexed takes first second : Bool) → o.indexed ≡ indexed → takes_value o ≡ takes
      → (i == 0) ≡ first → (i == 1) ≡ second
      → (if indexed
      then (if first then Some unsigned_int else (if second && takes then Some (port_value o) else None))
      else (if first && takes then Some (port_value o) else None)) ≡ Some ty
      → IsOperandType o i ty
  typed_there i ty true takes true second e g f s h =
      let at : i ≡ 0 = grind (arith, nat_tests, f) in
      subst (λ n. IsOperandType o n ty) (sym at) (subst (IsOperandType o 0) (same h) (an_index e))
  typed_there i ty true true false true e g f s h =
      let at : i ≡ 1 = grind (arith, nat_tests, s) in
      subst (λ n. IsOperandType o n ty) (sym at) (subst (IsOperandType o 1) (same h) (value_behind e g))
  typed_there i ty true true false false e g f s h = absurd (nothing_there ty h)
  typed_there i ty true false false true e g f s h = absurd (nothing_there ty h)
  typed_there i ty true false false false e g f s h = absurd (nothing_there ty h)
  typed_there i ty false true true second e g f s h =
      let at : i ≡ 0 = grind (arith, nat_tests, f) in
      subst (λ n. IsOperandType o n ty) (sym at) (subst (IsOperandType o 0) (same h) (value_alone e g))
  typed_there i ty false false true second e g f s h = absurd (nothing_there ty h)
  typed_there i ty false takes false second e g f s h = absurd (nothing_there ty h)

  typed_back : (i : ℕ) (ty : PlainType) → IsOperandType o i ty → operand_type o i ≡ Some ty
  typed_back _ _ (an_index e) = rw e refl
  typed_back _ _ (value_alone e g) = rw (e, g) refl
  typed_back _ _ (value_behind e g) = rw (e, g) refl

operands_are_typed : OperandsAreTyped
operands_are_typed o i ty =
    (typed_there o i ty o.indexed (takes_value o) (i == 0) (i == 1) refl refl refl refl, typed_back o i ty)

pub shared_words_are_said : SharedWordsAreSaid
shared_words_are_said = record {
  operators = operators_are_read;
  names = names_are_meant;
  type_names = type_names_are_said;
  declarations = declarations_are_read;
  file_names = file_names_are_kept;
  parts = parts_are_found;
  operands = operands_are_typed;
}
