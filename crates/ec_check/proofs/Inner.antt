-- Parameters and local objects are as a valid program asks.
use Rattle.std.proofs.Common.{◌≡◌, ◌∙◌, ◌≤◌, ◌<◌, ◌++◌, ℕ, Bool, false, List, [], ◌∷◌, length, refl, sym, subst, inl, inr, arith}
use Rattle.std.specs.Prelude.{◌/◌, ◌≢◌, Option, Some, None, IfSome, IsTrue, IsSomeAnd, slice_get, AllPairs}
use Rattle.std.specs.List.{AllByRecursion}
use Rattle.std.proofs.lemmas.Bool.{both_ways}
use Rattle.ec_fx.specs.declared.formats.FxKind.{FxKind}
use Rattle.ec_fx.specs.declared.formats.FxKind.TheVariants.{ShortFract, Fract, LongFract, ShortAccum, Accum, LongAccum, UnsignedShortFract}
use Rattle.ec_fx.specs.declared.formats.FxKind.TheVariants.{UnsignedFract, UnsignedLongFract, UnsignedShortAccum, UnsignedAccum}
use Rattle.ec_fx.specs.declared.formats.FxKind.TheVariants.{UnsignedLongAccum}
use Rattle.ec_fx.specs.Formats.{format_of}
use Rattle.ec_iohw.specs.declared.table.IoTable.{IoTable}
use Rattle.ec_space.specs.declared.space.Home.TheVariants.{Data}
use Rattle.ec_space.specs.declared.space.SpaceId.{SpaceId}
use Rattle.ec_space.specs.declared.space.SpaceId.TheVariants.{Flash, FarFlash, Data as DataSpace, Generic}
use Rattle.ec_space.specs.Spaces.{width, holds}
use Rattle.ec_core.specs.Layout.{IsScalar, size_of_type}
use Rattle.ec_core.specs.Plain.{PlainType, void, integer, fixed, pointer, array, struct, PlainStruct, PlainStorage, static, local, param}
use Rattle.ec_core.specs.Plain.{register, PlainObject, PlainProgram}
use Rattle.ec_core.specs.Valid.{IsStored, IsObject, AreApart, ShareNoRegister, HaveOwnNames}
use Rattle.ec_check_forms.specs.Validity.{IsPlaceType}
use Rattle.ec_check_expression_laws.specs.Suits.{Suits}
use Rattle.ec_check_declarations.specs.Params.{ParamDeclared}
use Rattle.ec_check_declarations.specs.Scopes.{Context, Scope, known_in, made_number, inner_object, with_inner}
use Rattle.ec_check_statements.specs.Laws.{InnerObjectsKeepSuiting, ObjectsStay}
use Rattle.ec_check_statements.specs.Objects.{IsLocal, AreAppended}
use Rattle.ec_check_statements.proofs.Growth.{none_appended, appended_then, object_appended}
use Rattle.ec_check_file_scope.specs.States.{State, with_scope}
use Rattle.ec_check.specs.Definitions.{with_param, with_params, next_numbers, param_numbers}
use Rattle.ec_check.proofs.Growing.{IsDeclaredObject, AreValid}
use Rattle.ec_check.proofs.Firsts.{First, first_longer, all_both, all_and, all_weaker, pairs_and, pairs_both}
use Rattle.ec_check.proofs.Placed.{IsParamType, AreParams}
use Rattle.ec_check.proofs.Steps.{first_params}

-- ---- objects of functions

pub record IsParam (structs : List PlainStruct) (f : ℕ) (x : PlainObject) : Type 0 where
  pub kind : IsPlaceType structs x.ty
  pub scalar : IsScalar x.ty
  pub internal : x.external ≡ false
  pub spaced : x.space ≡ Generic
  pub home : x.home ≡ Data
  pub storage : x.storage ≡ param f

-- an object that is neither external nor in a register
pub record IsInner (p : PlainProgram) (x : PlainObject) : Type 0 where
  pub object : IsObject p x
  pub internal : x.external ≡ false
  pub unregistered : (q : ℕ) → x.storage ≡ register q → ⊥

-- a scalar has few bytes
fixed_small : (kind : FxKind) → (format_of kind).bits / 8 ≤ 32_767
fixed_small ShortFract = omega arith
fixed_small Fract = omega arith
fixed_small LongFract = omega arith
fixed_small ShortAccum = omega arith
fixed_small Accum = omega arith
fixed_small LongAccum = omega arith
fixed_small UnsignedShortFract = omega arith
fixed_small UnsignedFract = omega arith
fixed_small UnsignedLongFract = omega arith
fixed_small UnsignedShortAccum = omega arith
fixed_small UnsignedAccum = omega arith
fixed_small UnsignedLongAccum = omega arith

width_small : (space : SpaceId) → width space ≤ 32_767
width_small Flash = omega arith
width_small FarFlash = omega arith
width_small DataSpace = omega arith
width_small Generic = omega arith

scalar_small : (structs : List PlainStruct) (ty : PlainType) → IsScalar ty → size_of_type structs ty ≤ 32_767
scalar_small structs void h = absurd h
scalar_small structs (integer signed bytes) (inl e) = omega (arith, e)
scalar_small structs (integer signed bytes) (inr (inl e)) = omega (arith, e)
scalar_small structs (integer signed bytes) (inr (inr e)) = omega (arith, e)
scalar_small structs (fixed kind sat) h = fixed_small kind
scalar_small structs (pointer s c to) h = width_small s
scalar_small structs (array of len) h = absurd h
scalar_small structs (struct i) h = absurd h

module _ (p : PlainProgram) (f : ℕ) (below : f < length p.functions) where
  held_in : (space : SpaceId) → space ≡ Generic → (x : PlainObject) → IsTrue (holds space x.home)
  held_in space e x = subst (λ s. IsTrue (holds s x.home)) (sym e) refl

  pub param_inner : (x : PlainObject) → IsParam p.structs f x → IsInner p x
  param_inner x h = record {
    object = record {
      ty = h.kind.object;
      some = h.kind.some;
      small = scalar_small p.structs x.ty h.scalar;
      home = held_in x.space h.spaced x;
      storage = subst (IsStored p x) (sym h.storage) (below, h.home, h.scalar);
    };
    internal = h.internal;
    unregistered = λ q e. let z : ◌≡◌ {A = PlainStorage} (param f) (register q) = sym h.storage ∙ e in cc;
  }

  pub local_inner : (unit : ℕ) (x : PlainObject) → IsLocal p.structs unit f x → IsInner p x
  local_inner unit x h = record {
    object = record {
      ty = h.kind.object;
      some = h.kind.some;
      small = h.small;
      home = held_in x.space h.spaced x;
      storage = subst (IsStored p x) (sym h.storage) (below, h.home);
    };
    internal = h.internal;
    unregistered = λ q e. let z : ◌≡◌ {A = PlainStorage} (local f) (register q) = sym h.storage ∙ e in cc;
  }

apart_from : (x y : PlainStorage) (m n : ℕ) → ((q : ℕ) → y ≡ register q → ⊥) → AreApart x y m n
apart_from (static leaves) y m n h = tt
apart_from (local f) y m n h = tt
apart_from (param f) y m n h = tt
apart_from (register r) (static leaves) m n h = tt
apart_from (register r) (local f) m n h = tt
apart_from (register r) (param f) m n h = tt
apart_from (register r) (register q) m n h = absurd (h q refl)

module _ (p : PlainProgram) (io : IoTable) where
  inner_declared : (s : State) (x : PlainObject) → IsInner p x → IsDeclaredObject s.declared x
  inner_declared s x h = record {
    external = λ e. absurd (both_ways x.external h.internal e);
    register = λ q e. absurd (h.unregistered q e);
  }

  -- the objects of a function stand behind those before them
  pub valid_more : (s : State) (v : Scope) (more : List PlainObject) → v.objects ≡ s.scope.objects ++ more → AllByRecursion (IsInner p) more
      → AreValid p io s
      → AreValid p io (with_scope v s)
  valid_more s v more e k h = record {
    objects = subst (AllByRecursion (IsObject p)) (sym e)
        (all_both (IsObject p) s.scope.objects more h.objects (all_weaker (IsInner p) (IsObject p) (λ x q. q.object) more k));
    declared = subst (AllByRecursion (IsDeclaredObject s.declared)) (sym e)
        (all_both (IsDeclaredObject s.declared) s.scope.objects more h.declared
        (all_weaker (IsInner p) (IsDeclaredObject s.declared) (inner_declared s) more k));
    registers = subst (AllPairs (ShareNoRegister p)) (sym e)
        (pairs_both (ShareNoRegister p) (IsInner p)
        (λ x y q. apart_from x.storage y.storage (size_of_type p.structs x.ty) (size_of_type p.structs y.ty) q.unregistered)
        s.scope.objects more h.registers k);
    externals = subst (AllPairs HaveOwnNames) (sym e)
        (pairs_both HaveOwnNames (IsInner p) (λ x y q a b. absurd (both_ways y.external q.internal b)) s.scope.objects more h.externals k);
    functions = h.functions;
  }

-- ---- parameters

module _ (inner : InnerObjectsKeepSuiting) (stay : ObjectsStay) (p : PlainProgram) (io : IoTable) (c : Context) (unit f : ℕ)
    (room : length p.objects < 65_536)
    (before : Scope) where
  -- what is known behind some parameters, with the numbers of their objects
  pub record AreParamsOf (v : Scope) (numbers : List ℕ) : Type 0 where
    pub suits : Suits p io f (known_in c v.names)
    pub appended : AreAppended (IsParam p.structs f) before.objects v.objects
    pub stand : AllByRecursion (λ o. IsSomeAnd (slice_get p.objects o) (λ x. x.storage ≡ param f)) numbers
    pub below : AllByRecursion (λ o. o < length v.objects) numbers
    pub distinct : AllPairs (λ o q. o ≢ q) numbers

  no_numbers : (ps : List ParamDeclared) (v : Scope) → param_numbers unit f ps v None ≡ None
  no_numbers [] v = refl
  no_numbers (q ∷ ps) v = no_numbers ps (with_param unit f q.name q v)

  stands : (o : ℕ) (x : PlainObject) → slice_get p.objects o ≡ Some x → x.storage ≡ param f
      → IsSomeAnd (slice_get p.objects o) (λ x. x.storage ≡ param f)
  stands o x e h = subst (λ z. IsSomeAnd z (λ x. x.storage ≡ param f)) (sym e) h

  module _ (n : List ℕ) (ty : PlainType) (konst : Bool) (v : Scope) (numbers : List ℕ) (k : IsParamType p.structs ty)
      (first : First (with_inner unit n (Some ty) konst (param f) v).objects p.objects) (h : AreParamsOf v numbers) where
    abbrev w : Scope
    w = with_inner unit n (Some ty) konst (param f) v

    few : length v.objects < 65_536
    few =
        let a = first_longer v.objects w.objects (inner c unit n (Some ty) konst (param f) v).stay in
        let b = first_longer w.objects p.objects first in omega (arith, a, b, room)

    one_param : AreParamsOf w (numbers ++ length v.objects ∷ [])
    one_param =
        let q = inner c unit n (Some ty) konst (param f) v in
        let count = q.counted refl few in
        record {
          suits = q.suits p io f h.suits k.0 refl tt room first;
          appended = appended_then (IsParam p.structs f) before.objects v.objects w.objects h.appended
              (object_appended (IsParam p.structs f) (Some ty) (inner_object unit n konst (param f)) v.objects
              (record { kind = k.0; scalar = k.1; internal = refl; spaced = refl; home = refl; storage = refl }));
          stand = all_and (λ o. IsSomeAnd (slice_get p.objects o) (λ x. x.storage ≡ param f)) numbers (length v.objects) h.stand
              (stands (length v.objects) (inner_object unit n konst (param f) ty)
              (first (length v.objects) (inner_object unit n konst (param f) ty) (q.stands few)) refl);
          below = all_and (λ o. o < length w.objects) numbers (length v.objects)
              (all_weaker (λ o. o < length v.objects) (λ o. o < length w.objects) (λ o z. omega (arith, z, count)) numbers h.below)
              (omega (arith, count));
          distinct = pairs_and (λ o q. o ≢ q) numbers (length v.objects) h.distinct
              (all_weaker (λ o. o < length v.objects) (λ o. o ≢ length v.objects) (λ o z e. omega (arith, z, e)) numbers h.below);
        }

    number : made_number (Some ty) v.objects ≡ Some (length v.objects)
    number = (inner c unit n (Some ty) konst (param f) v).number refl few

  abbrev AreAll : List ParamDeclared → List ℕ → Type 0
  AreAll ps all =
      (v : Scope) (numbers : List ℕ) → First (with_params unit f ps v).objects p.objects
      → param_numbers unit f ps v (Some numbers) ≡ Some all → AreParamsOf v numbers
      → AreParamsOf (with_params unit f ps v) all

  by_parts : (name : Option (List ℕ)) (ty : Option PlainType) (konst : Bool) (ps : List ParamDeclared) (all : List ℕ)
      → IfSome ty (IsParamType p.structs) → AreAll ps all
      → AreAll (record { name = name; ty = ty; konst = konst } ∷ ps) all
  by_parts None ty konst ps all k rest v numbers first e h = let z = no_numbers ps v in cc
  by_parts (Some n) None konst ps all k rest v numbers first e h = let z = no_numbers ps (with_inner unit n None konst (param f) v) in cc
  by_parts (Some n) (Some ty) konst ps all k rest v numbers first e h =
      let w = with_inner unit n (Some ty) konst (param f) v in
      let here : First w.objects p.objects = λ i x q. first i x (first_params inner stay c unit f ps w i x q) in
      rest w (numbers ++ length v.objects ∷ []) first
      (subst (λ o. param_numbers unit f ps w (next_numbers (Some numbers) o) ≡ Some all) (number n ty konst v numbers k here h) e)
      (one_param n ty konst v numbers k here h)

  pub all_params : (ps : List ParamDeclared) (all : List ℕ) → AreParams p.structs ps → AreAll ps all
  all_params [] all k = λ v numbers first e h. let same : numbers ≡ all = cc in subst (AreParamsOf v) same h
  all_params (q ∷ ps) all k = by_parts q.name q.ty q.konst ps all k.0 (all_params ps all k.1)

  pub no_params : Suits p io f (known_in c before.names) → AreParamsOf before []
  no_params h = record {
    suits = h;
    appended = none_appended (IsParam p.structs f) before.objects;
    stand = tt;
    below = tt;
    distinct = λ i j d less below. absurd (omega (arith, below));
  }
