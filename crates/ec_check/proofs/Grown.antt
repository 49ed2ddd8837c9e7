-- Definitions keep what they made where the program and the declarations at file scope grow.
use Rattle.std.proofs.Common.{◌≡◌, ◌∙◌, ℕ, List, [], ◌∷◌, map, drop, get_or, refl, sym, ap, subst}
use Rattle.std.specs.Prelude.{Option, Some, None, IsSomeAnd, option_map, slice_get, Contains}
use Rattle.ec_core.specs.Plain.{PlainType, PlainObject, PlainFunction}
use Rattle.ec_check_names.specs.declared.numbering.Defined.{Defined}
use Rattle.ec_check_names.specs.declared.numbering.Defined.TheVariants.{Object, Register, Function as FunctionKind}
use Rattle.ec_check_names.specs.Definitions.{Definition}
use Rattle.ec_check_statements.specs.Objects.{AreFirst}
use Rattle.ec_check_file_scope.specs.FileNames.{FileKind, an_object, a_register, a_function, FileName}
use Rattle.ec_check_file_scope.specs.States.{State}
use Rattle.ec_check.specs.Agreement.{IsFileObject, IsFileRegister, IsFileFunction, IsMade, IsDefined}

-- the second state has what the first has, under the same numbers
pub record Grows (s v : State) : Type 0 where
  pub declared : (e : FileName) → Contains s.declared e → Contains v.declared e
  pub objects : AreFirst s.scope.objects v.scope.objects
  pub functions : (i : ℕ) (g : PlainFunction) → slice_get s.functions i ≡ Some g → slice_get v.functions i ≡ Some g

still : {X : Type 0} → (P Q : X → Type 0) (a b : Option X) → ((x : X) → a ≡ Some x → b ≡ Some x) → ((x : X) → P x → Q x)
    → IsSomeAnd a P → IsSomeAnd b Q
still P Q None b f g h = absurd h
still {X} P Q (Some x) b f g h = subst (λ (o : Option X). IsSomeAnd o Q) (sym (f x refl)) (g x h)

-- ---- parameters

module _ (xs ys : List PlainObject) (first : AreFirst xs ys) where
  type_seen : (n : ℕ) (o : Option PlainObject) (ty : PlainType) → slice_get xs n ≡ o → option_map (λ x. x.ty) o ≡ Some ty
      → option_map (λ x. x.ty) (slice_get ys n) ≡ Some ty
  type_seen n None ty e q = cc
  type_seen n (Some x) ty e q = ap (λ (o : Option PlainObject). option_map (λ x. x.ty) o) (first n x e) ∙ q

  pub types_kept : (ns : List ℕ) (ts : List PlainType) → map (λ o. option_map (λ x. x.ty) (slice_get xs o)) ns ≡ map Some ts
      → map (λ o. option_map (λ x. x.ty) (slice_get ys o)) ns ≡ map Some ts
  types_kept [] ts e = e
  types_kept (n ∷ ns) [] e = cc
  types_kept (n ∷ ns) (ty ∷ ts) e =
      let head = type_seen n (slice_get xs n) ty refl (ap (λ (os : List (Option PlainType)). get_or os 0 None) e) in
      let tail = types_kept ns ts (ap (λ (os : List (Option PlainType)). drop 1 os) e) in
      ap (λ (o : Option PlainType). o ∷ map (λ o. option_map (λ x. x.ty) (slice_get ys o)) ns) head
      ∙ ap (λ (os : List (Option PlainType)). Some ty ∷ os) tail

-- ---- definitions

module _ (s v : State) (g : Grows s v) (d : Definition) where
  function_kept : (returns : PlainType) (params : List PlainType) (f : PlainFunction) → IsFileFunction s.scope.objects d returns params f
      → IsFileFunction v.scope.objects d returns params f
  function_kept returns params f h = record {
    name = h.name;
    unit = h.unit;
    returned = h.returned;
    typed = types_kept s.scope.objects v.scope.objects g.objects f.params params h.typed;
  }

  made_kept : (kind : Defined) (k : FileKind) → IsMade s d kind k → IsMade v d kind k
  made_kept Object (an_object None konst space) h = absurd h
  made_kept Object (an_object (Some ty) konst space) h =
      still (IsFileObject d ty konst space) (IsFileObject d ty konst space) (slice_get s.scope.objects d.number)
      (slice_get v.scope.objects d.number)
      (g.objects d.number) (λ x p. p) h
  made_kept Object (a_register first ty konst) h = absurd h
  made_kept Object (a_function returns count params) h = absurd h
  made_kept Register (an_object ty konst space) h = absurd h
  made_kept Register (a_register None ty konst) h = absurd h
  made_kept Register (a_register (Some first) None konst) h = absurd h
  made_kept Register (a_register (Some first) (Some ty) konst) h =
      still (IsFileRegister d first ty konst) (IsFileRegister d first ty konst) (slice_get s.scope.objects d.number)
      (slice_get v.scope.objects d.number)
      (g.objects d.number) (λ x p. p) h
  made_kept Register (a_function returns count params) h = absurd h
  made_kept FunctionKind (an_object ty konst space) h = absurd h
  made_kept FunctionKind (a_register first ty konst) h = absurd h
  made_kept FunctionKind (a_function None count params) h = absurd h
  made_kept FunctionKind (a_function (Some returns) count None) h = absurd h
  made_kept FunctionKind (a_function (Some returns) count (Some params)) h =
      still (IsFileFunction s.scope.objects d returns params) (IsFileFunction v.scope.objects d returns params)
      (slice_get s.functions d.number)
      (slice_get v.functions d.number) (g.functions d.number) (function_kept returns params) h

  pub defined_kept : IsDefined s d → IsDefined v d
  defined_kept h = (
    h.0,
    (
      g.declared h.0 h.1.0,
      record {
        defines = h.1.1.defines;
        name = h.1.1.name;
        unit = h.1.1.unit;
        linkage = h.1.1.linkage;
        made = made_kept d.kind h.0.kind h.1.1.made;
      },
    ),
  )
