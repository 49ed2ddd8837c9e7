-- What a declared name stands for is the program's, where the definitions are those that the walk made.
use Rattle.std.proofs.Common.{◌≡◌, ◌∙◌, ℕ, Bool, true, false, not, ◌||◌, List, [], ◌∷◌, refl, sym, subst, inl, inr}
use Rattle.std.specs.Prelude.{◌⊎◌, ◌==◌, Option, Some, None, IsSomeAnd, slice_get, AllPairs, Contains}
use Rattle.std.specs.List.{AllByRecursion}
use Rattle.std.specs.Str.{bytes_eq}
use Rattle.std.proofs.lemmas.Slice.Eq.{bytes_eq-Decides}
use Rattle.ec_space.specs.declared.space.SpaceId.{SpaceId}
use Rattle.ec_space.specs.declared.space.SpaceId.TheVariants.{Generic}
use Rattle.ec_core.specs.Plain.{PlainType, PlainObject, PlainFunction, PlainProgram, PlainStorage, static, local, param, register}
use Rattle.ec_core.specs.Valid.{IsStatic, IsNamedIn, IsAddressable}
use Rattle.ec_check_names.specs.declared.linkage.Linkage.{Linkage}
use Rattle.ec_check_names.specs.declared.linkage.Linkage.TheVariants.{External}
use Rattle.ec_check_names.specs.declared.numbering.Defined.{Defined}
use Rattle.ec_check_names.specs.declared.numbering.Defined.TheVariants.{Object, Register, Function as FunctionKind}
use Rattle.ec_check_names.specs.Definitions.{Definition, same_linkage, is_internal, same_kind, defines, number_of}
use Rattle.ec_check_names.specs.Names as names
use Rattle.ec_check_expression_laws.specs.Suits.{IsObjectKnown, IsFunctionKnown, IsOf}
use Rattle.ec_check_file_scope.specs.FileNames.{FileKind, an_object, a_register, a_function, FileName, conflict}
use Rattle.ec_check_file_scope.specs.States.{State}
use Rattle.ec_check_statements.proofs.Choices.{if_both}
use Rattle.ec_check.specs.Agreement.{IsFileObject, IsFileRegister, IsFileFunction, IsMade, IsDefinedBy, IsDefined}
use Rattle.ec_check.proofs.SameKinds.{four_true, AgreeKinds, kind_itself, kinds_back, linkages_agree, unit_agrees, do_meet, clear_of}
use Rattle.ec_check.proofs.Firsts.{pair_of}
use Rattle.ec_check.proofs.Meanings.{meaning_by, meaning, IsMeant, IsStaticObject, IsStaticName, IsPlacedKind, program_in}

-- ---- the definition of a name

module _ (s : State) where
  -- the definition that a name's number is of
  pub record IsNumbered (n : List ℕ) (unit : ℕ) (linkage : Linkage) (callable : Bool) (number : ℕ) : Type 0 where
    pub d : Definition
    pub numbered : d.number ≡ number
    pub name : d.name ≡ n
    pub linked : d.linkage ≡ linkage
    pub unit_is : (linkage ≡ External) ⊎ (d.unit ≡ unit)
    pub kind : same_kind callable d.kind ≡ true
    pub defined : IsDefined s d

  is_numbered : (n : List ℕ) (unit : ℕ) (linkage : Linkage) (callable : Bool) (d : Definition)
      → defines n unit linkage callable d ≡ true → IsDefined s d
      → IsNumbered n unit linkage callable d.number
  is_numbered n unit linkage callable d e h =
      let f = four_true (bytes_eq d.name n) (same_linkage d.linkage linkage) (same_kind callable d.kind)
      (not (is_internal linkage) || d.unit == unit) e in
      record {
        d = d;
        numbered = refl;
        name = (bytes_eq-Decides d.name n).0 f.0;
        linked = linkages_agree d.linkage linkage f.1;
        unit_is = unit_agrees linkage d.unit unit f.3;
        kind = f.2;
        defined = h;
      }

  pub find_number : (n : List ℕ) (unit : ℕ) (linkage : Linkage) (callable : Bool) (ds : List Definition) → AllByRecursion (IsDefined s) ds
      → (m : ℕ) → number_of n unit linkage callable ds ≡ Some m → IsNumbered n unit linkage callable m
  find_number n unit linkage callable [] all m e = cc
  find_number n unit linkage callable (d ∷ ds) all m e =
      if_both (λ o. o ≡ Some m → IsNumbered n unit linkage callable m) (defines n unit linkage callable d) (Some d.number)
      (number_of n unit linkage callable ds)
      (λ q z. let same : d.number ≡ m = cc in
      subst (IsNumbered n unit linkage callable) same (is_numbered n unit linkage callable d q all.0))
      (λ q z. find_number n unit linkage callable ds all.1 m z) e

-- ---- what it made

module _ (s : State) (d : Definition) where
  object_by : (a b : PlainType) (c e : Bool) (f g : SpaceId) → a ≡ b → c ≡ e → f ≡ g
      → IsSomeAnd (slice_get s.scope.objects d.number) (IsFileObject d a c f)
      → IsSomeAnd (slice_get s.scope.objects d.number) (IsFileObject d b e g)
  object_by a b c e f g p q r h =
      subst (λ z. IsSomeAnd (slice_get s.scope.objects d.number) (IsFileObject d b e z)) r
      (subst (λ z. IsSomeAnd (slice_get s.scope.objects d.number) (IsFileObject d b z f)) q
      (subst (λ z. IsSomeAnd (slice_get s.scope.objects d.number) (IsFileObject d z c f)) p h))

  made_object : (k : Defined) (x : FileKind) (ty : PlainType) (konst : Bool) (space : SpaceId)
      → AgreeKinds x (an_object (Some ty) konst space)
      → IsMade s d k x → IsSomeAnd (slice_get s.scope.objects d.number) (IsFileObject d ty konst space)
  made_object Object (an_object (Some b) c r) ty konst space a m = object_by b ty c konst r space a.0 a.1 a.2 m
  made_object Object (an_object None c r) ty konst space a m = absurd m
  made_object Object (a_register q b c) ty konst space a m = absurd a
  made_object Object (a_function b count q) ty konst space a m = absurd a
  made_object Register (an_object b c r) ty konst space a m = absurd m
  made_object Register (a_register q b c) ty konst space a m = absurd a
  made_object Register (a_function b count q) ty konst space a m = absurd a
  made_object FunctionKind (an_object b c r) ty konst space a m = absurd m
  made_object FunctionKind (a_register q b c) ty konst space a m = absurd a
  made_object FunctionKind (a_function b count q) ty konst space a m = absurd a

  -- in a register, which is known
  register_by : (first : ℕ) (a b : PlainType) (c e : Bool) → a ≡ b → c ≡ e
      → IsSomeAnd (slice_get s.scope.objects d.number) (IsFileRegister d first a c)
      → IsSomeAnd (slice_get s.scope.objects d.number) (IsFileRegister d first b e)
  register_by first a b c e p q h =
      subst (λ z. IsSomeAnd (slice_get s.scope.objects d.number) (IsFileRegister d first b z)) q
      (subst (λ z. IsSomeAnd (slice_get s.scope.objects d.number) (IsFileRegister d first z c)) p h)

  abbrev InRegister : PlainType → Bool → Type 0
  InRegister ty konst = (first : ℕ) × IsSomeAnd (slice_get s.scope.objects d.number) (IsFileRegister d first ty konst)

  made_register : (k : Defined) (x : FileKind) (first : Option ℕ) (ty : PlainType) (konst : Bool)
      → AgreeKinds x (a_register first (Some ty) konst)
      → IsMade s d k x → InRegister ty konst
  made_register Object (an_object b c r) first ty konst a m = absurd a
  made_register Object (a_register q b c) first ty konst a m = absurd m
  made_register Object (a_function b count q) first ty konst a m = absurd a
  made_register Register (an_object b c r) first ty konst a m = absurd a
  made_register Register (a_register (Some q) (Some b) c) first ty konst a m = (q, register_by q b ty c konst a.0 a.1 m)
  made_register Register (a_register (Some q) None c) first ty konst a m = absurd m
  made_register Register (a_register None b c) first ty konst a m = absurd m
  made_register Register (a_function b count q) first ty konst a m = absurd a
  made_register FunctionKind (an_object b c r) first ty konst a m = absurd a
  made_register FunctionKind (a_register q b c) first ty konst a m = absurd m
  made_register FunctionKind (a_function b count q) first ty konst a m = absurd a

  function_by : (a b : PlainType) (p q : List PlainType) → a ≡ b → p ≡ q
      → IsSomeAnd (slice_get s.functions d.number) (IsFileFunction s.scope.objects d a p)
      → IsSomeAnd (slice_get s.functions d.number) (IsFileFunction s.scope.objects d b q)
  function_by a b p q e f h =
      subst (λ z. IsSomeAnd (slice_get s.functions d.number) (IsFileFunction s.scope.objects d b z)) f
      (subst (λ z. IsSomeAnd (slice_get s.functions d.number) (IsFileFunction s.scope.objects d z p)) e h)

  made_function : (k : Defined) (x : FileKind) (returns : PlainType) (count : ℕ) (params : List PlainType)
      → AgreeKinds x (a_function (Some returns) count (Some params))
      → IsMade s d k x → IsSomeAnd (slice_get s.functions d.number) (IsFileFunction s.scope.objects d returns params)
  made_function Object (an_object b c r) returns count params a m = absurd a
  made_function Object (a_register q b c) returns count params a m = absurd a
  made_function Object (a_function b n q) returns count params a m = absurd m
  made_function Register (an_object b c r) returns count params a m = absurd a
  made_function Register (a_register q b c) returns count params a m = absurd a
  made_function Register (a_function b n q) returns count params a m = absurd m
  made_function FunctionKind (an_object b c r) returns count params a m = absurd a
  made_function FunctionKind (a_register q b c) returns count params a m = absurd a
  made_function FunctionKind (a_function (Some b) n (Some q)) returns count params a m = function_by b returns q params a.0 a.1 m
  made_function FunctionKind (a_function (Some b) n None) returns count params a m = absurd m
  made_function FunctionKind (a_function None n q) returns count params a m = absurd m

-- ---- names

module _ (s : State) (main : ℕ) (ds : List Definition) (made : AllByRecursion (IsDefined s) ds)
    (clear : AllPairs (λ e d. conflict d e ≡ false) s.declared) where
  abbrev p : PlainProgram
  p = program_in s main

  -- two names that meet were declared as the same
  agree : (a b : FileName) → Contains s.declared a → Contains s.declared b → a.name ≡ b.name → a.linkage ≡ b.linkage
      → (a.linkage ≡ External) ⊎ (a.unit ≡ b.unit) → AgreeKinds a.kind b.kind
  agree a b h k n e u =
      elim (pair_of (λ e d. conflict d e ≡ false) s.declared a b clear h k) as (λ z. AgreeKinds a.kind b.kind) [
        | inl same ↦ subst (λ (x : FileName). AgreeKinds a.kind x.kind) same (kind_itself a.kind)
        | inr (inl c) ↦ kinds_back b.kind a.kind (clear_of b a c (do_meet b a (sym n) (sym e) (turned u))).kinds
        | inr (inr c) ↦ (clear_of a b c (do_meet a b n e u)).kinds
      ] where
        turned : (a.linkage ≡ External) ⊎ (a.unit ≡ b.unit) → (b.linkage ≡ External) ⊎ (b.unit ≡ a.unit)
        turned (inl l) = inl (sym e ∙ l)
        turned (inr v) = inr (sym v)

  -- the definition of a declared name, with what it was declared as
  pub record IsDefinition (e : FileName) (callable : Bool) (number : ℕ) : Type 0 where
    pub d : Definition
    pub numbered : d.number ≡ number
    pub kind : FileKind
    pub agrees : AgreeKinds kind e.kind
    pub stands : IsMade s d d.kind kind

  definition_of : (e : FileName) → Contains s.declared e → (callable : Bool) (m : ℕ)
      → number_of e.name e.unit e.linkage callable ds ≡ Some m
      → IsDefinition e callable m
  definition_of e h callable m q =
      let f = find_number s e.name e.unit e.linkage callable ds made m q in
      let g = f.defined.1.1 in
      record {
        d = f.d;
        numbered = f.numbered;
        kind = f.defined.0.kind;
        agrees =
            agree f.defined.0 e f.defined.1.0 h (g.name ∙ f.name) (g.linkage ∙ f.linked) (met (f.defined.0) f.d g e f.linked f.unit_is);
        stands = g.made;
      } where
        met : (a : FileName) (d : Definition) → IsDefinedBy s d a → (e : FileName) → d.linkage ≡ e.linkage
            → (e.linkage ≡ External) ⊎ (d.unit ≡ e.unit)
            → (a.linkage ≡ External) ⊎ (a.unit ≡ e.unit)
        met a d g e l (inl x) = inl (g.linkage ∙ l ∙ x)
        met a d g e l (inr u) = inr (g.unit ∙ u)

  -- ---- what a name stands for

  abbrev pub IsProgrammed : ℕ → names.Named → Type 0
  IsProgrammed f what = IsOf p f what × IsStaticName p what

  static_named : (f : ℕ) (x : PlainStorage) → IsStatic x → IsNamedIn f x
  static_named f (static leaves) h = tt
  static_named f (local g) h = absurd h
  static_named f (param g) h = absurd h
  static_named f (register r) h = absurd h

  static_addressed : (x : PlainStorage) → IsStatic x → IsAddressable x
  static_addressed (static leaves) h = tt
  static_addressed (local g) h = absurd h
  static_addressed (param g) h = absurd h
  static_addressed (register r) h = absurd h

  known_object : (f : ℕ) (d : Definition) (ty : PlainType) (konst : Bool) (space : SpaceId)
      → IsPlacedKind p.structs (an_object (Some ty) konst space)
      → (o : Option PlainObject) → IsSomeAnd o (IsFileObject d ty konst space)
      → IsSomeAnd o (IsObjectKnown p f ty konst space false) × IsSomeAnd o (IsStaticObject ty space)
  known_object f d ty konst space k None h = absurd h
  known_object f d ty konst space k (Some x) h = (
    record {
      typed = h.typed;
      constness = h.constness;
      spaced = h.spaced;
      kind = k.placed;
      nameable = static_named f x.storage h.storage;
      addressed = inl (static_addressed x.storage h.storage);
    },
    record { typed = h.typed; spaced = h.spaced; home = h.home; storage = h.storage },
  )

  known_register : (f : ℕ) (d : Definition) (first : Option ℕ) (ty : PlainType) (konst : Bool)
      → IsPlacedKind p.structs (a_register first (Some ty) konst)
      → (r : ℕ) (o : Option PlainObject) → IsSomeAnd o (IsFileRegister d r ty konst) → IsSomeAnd o (IsObjectKnown p f ty konst Generic true)
  known_register f d first ty konst k r None h = absurd h
  known_register f d first ty konst k r (Some x) h =
      record {
        typed = h.typed;
        constness = h.constness;
        spaced = h.spaced;
        kind = k.placed;
        nameable = subst (IsNamedIn f) (sym h.storage) tt;
        addressed = inr (refl, k.arithmetic);
      }

  known_function : (d : Definition) (returns : PlainType) (count : ℕ) (params : List PlainType)
      → IsPlacedKind p.structs (a_function (Some returns) count (Some params))
      → (o : Option PlainFunction) → IsSomeAnd o (IsFileFunction s.scope.objects d returns params)
      → IsSomeAnd o (IsFunctionKnown p returns params)
  known_function d returns count params k None h = absurd h
  known_function d returns count params k (Some g) h =
      record { returned = h.returned; scalar = k.0.0; usable = k.0.1; typed = h.typed; passed = k.1 }

  object_is : (f : ℕ) (e : FileName) (ty : PlainType) (konst : Bool) (space : SpaceId)
      → IsPlacedKind p.structs (an_object (Some ty) konst space)
      → e.kind ≡ an_object (Some ty) konst space → (m : ℕ) → IsDefinition e false m
      → IsProgrammed f (names.an_object (Some m) (Some ty) konst space false)
  object_is f e ty konst space k q m h =
      let made = made_object s h.d h.d.kind h.kind ty konst space (subst (AgreeKinds h.kind) q h.agrees) h.stands in
      subst (λ n. IsProgrammed f (names.an_object (Some n) (Some ty) konst space false)) h.numbered
      (known_object f h.d ty konst space k (slice_get s.scope.objects h.d.number) made)

  register_is : (f : ℕ) (e : FileName) (first : Option ℕ) (ty : PlainType) (konst : Bool)
      → IsPlacedKind p.structs (a_register first (Some ty) konst)
      → e.kind ≡ a_register first (Some ty) konst → (m : ℕ) → IsDefinition e false m
      → IsOf p f (names.an_object (Some m) (Some ty) konst Generic true)
  register_is f e first ty konst k q m h =
      let made = made_register s h.d h.d.kind h.kind first ty konst (subst (AgreeKinds h.kind) q h.agrees) h.stands in
      subst (λ n. IsOf p f (names.an_object (Some n) (Some ty) konst Generic true)) h.numbered
      (known_register f h.d first ty konst k made.0 (slice_get s.scope.objects h.d.number) made.1)

  function_is : (f : ℕ) (e : FileName) (returns : PlainType) (count : ℕ) (params : List PlainType)
      → IsPlacedKind p.structs (a_function (Some returns) count (Some params))
      → e.kind ≡ a_function (Some returns) count (Some params) → (m : ℕ) → IsDefinition e true m
      → IsOf p f (names.a_function (Some m) (Some returns) (Some params))
  function_is f e returns count params k q m h =
      let made = made_function s h.d h.d.kind h.kind returns count params (subst (AgreeKinds h.kind) q h.agrees) h.stands in
      subst (λ n. IsOf p f (names.a_function (Some n) (Some returns) (Some params))) h.numbered
      (known_function h.d returns count params k (slice_get s.functions h.d.number) made)

  by_kind : (f : ℕ) (e : FileName) → Contains s.declared e → (kind : FileKind) → e.kind ≡ kind → IsPlacedKind p.structs kind
      → (o g : Option ℕ)
      → number_of e.name e.unit e.linkage false ds ≡ o → number_of e.name e.unit e.linkage true ds ≡ g
      → IsProgrammed f (meaning_by o g kind)
  by_kind f e h (an_object None konst space) q k None g a b = (tt, tt)
  by_kind f e h (an_object None konst space) q k (Some m) g a b = (tt, tt)
  by_kind f e h (an_object (Some ty) konst space) q k None g a b = (tt, tt)
  by_kind f e h (an_object (Some ty) konst space) q k (Some m) g a b = object_is f e ty konst space k q m (definition_of e h false m a)
  by_kind f e h (a_register first None konst) q k None g a b = (tt, tt)
  by_kind f e h (a_register first None konst) q k (Some m) g a b = (tt, tt)
  by_kind f e h (a_register first (Some ty) konst) q k None g a b = (tt, tt)
  by_kind f e h (a_register first (Some ty) konst) q k (Some m) g a b = (
    register_is f e first ty konst k q m (definition_of e h false m a),
    tt,
  )
  by_kind f e h (a_function returns count params) q k o None a b = (tt, tt)
  by_kind f e h (a_function None count params) q k o (Some m) a b = (tt, tt)
  by_kind f e h (a_function (Some returns) count None) q k o (Some m) a b = (tt, tt)
  by_kind f e h (a_function (Some returns) count (Some params)) q k o (Some m) a b = (
    function_is f e returns count params k q m (definition_of e h true m b),
    tt,
  )

  pub name_is_of : (f : ℕ) (e : FileName) → Contains s.declared e → IsPlacedKind s.structs e.kind → IsProgrammed f (meaning ds e)
  name_is_of f e h k =
      by_kind f e h e.kind refl k (number_of e.name e.unit e.linkage false ds) (number_of e.name e.unit e.linkage true ds) refl refl

  pub meant_is_of : (f : ℕ) (what : names.Named) → ((e : FileName) → Contains s.declared e → IsPlacedKind s.structs e.kind)
      → IsMeant ds s.declared what
      → IsProgrammed f what
  meant_is_of f what k h = subst (IsProgrammed f) h.1.1 (name_is_of f h.0 h.1.0 (k h.0 h.1.0))
