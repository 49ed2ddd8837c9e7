-- What the program has so far is as a valid program asks, and one more object keeps it so.
use Rattle.std.proofs.Common.{◌≡◌, ◌∙◌, ◌+◌, ◌≤◌, ◌++◌, ℕ, Bool, true, false, not, ◌&&◌, ◌||◌, List, [], ◌∷◌, refl, sym, subst, inl, inr}
use Rattle.std.proofs.Common.{arith}
use Rattle.std.specs.Prelude.{◌⊎◌, ◌==◌, ◌≢◌, ⊤, nat_lt, Option, Some, None, IsTrue, IsSomeAnd, AllPairs, Contains}
use Rattle.std.specs.List.{AllByRecursion}
use Rattle.std.specs.Str.{bytes_eq}
use Rattle.std.proofs.lemmas.Bool.{and_cases, both_ways, false≢true, true≢false}
use Rattle.std.proofs.lemmas.Bool.Decides.{nat_tests}
use Rattle.std.proofs.lemmas.List.Elements.{Contains-append_left}
use Rattle.std.proofs.lemmas.Slice.Eq.{bytes_eq-Decides}
use Rattle.ec_iohw.specs.declared.table.IoTable.{IoTable}
use Rattle.ec_core.specs.ArithmeticTypes.{arithmetic_of}
use Rattle.ec_core.specs.Layout.{size_of_type}
use Rattle.ec_core.specs.Plain.{PlainType, void, integer, fixed, pointer, array, struct, PlainStruct, PlainStorage, static, local, param}
use Rattle.ec_core.specs.Plain.{register, PlainObject, PlainProgram}
use Rattle.ec_core.specs.Valid.{EachFrom, IsObject, IsStored, AreApart, ShareNoRegister, HaveOwnNames, IsFunction}
use Rattle.ec_check_names.specs.declared.linkage.Linkage.TheVariants.{External}
use Rattle.ec_check_names.specs.Names.{Named}
use Rattle.ec_check_declarations.specs.Scopes.{has_room}
use Rattle.ec_check_file_scope.specs.FileNames.{FileKind, an_object, a_register, a_function, FileName, conflict, conflicts, both_define}
use Rattle.ec_check_file_scope.specs.FileNames.{is_registered}
use Rattle.ec_check_file_scope.specs.FileNames as file_names
use Rattle.ec_check_file_scope.specs.FileObjects.{number_size, overlap, share, same_register, shares_register, with_object}
use Rattle.ec_check_file_scope.specs.States.{State, with_scope, broken, with_name}
use Rattle.ec_check_statements.proofs.Choices.{if_both}
use Rattle.ec_check.proofs.SameKinds.{two_false, do_meet, clear_of}
use Rattle.ec_check.proofs.Firsts.{all_and, all_weaker, all_containing, pairs_and}

-- ---- objects by the names that declare them

-- a declaration is the definition of an external object of this name
pub record IsExternalDefinition (n : List ℕ) (e : FileName) : Type 0 where
  pub name : e.name ≡ n
  pub linkage : e.linkage ≡ External
  pub defines : e.defines ≡ true

-- a declaration is that of the object in named registers from one on
pub record IsRegisterDefinition (first : ℕ) (x : PlainObject) (e : FileName) : Type 0 where
  pub name : e.name ≡ x.name
  pub konst : Bool
  pub kind : e.kind ≡ a_register (Some first) (Some x.ty) konst

pub record IsDeclaredObject (declared : List FileName) (x : PlainObject) : Type 0 where
  pub external : IsTrue x.external → (e : FileName) × (Contains declared e × IsExternalDefinition x.name e)
  pub register : (first : ℕ) → x.storage ≡ register first → (e : FileName) × (Contains declared e × IsRegisterDefinition first x e)

declared_later : (declared : List FileName) (d : FileName) (x : PlainObject) → IsDeclaredObject declared x
    → IsDeclaredObject (declared ++ d ∷ []) x
declared_later declared d x h = record {
  external = λ e. let g = h.external e in (g.0, (Contains-append_left declared (d ∷ []) g.0 g.1.0, g.1.1));
  register = λ first e. let g = h.register first e in (g.0, (Contains-append_left declared (d ∷ []) g.0 g.1.0, g.1.1));
}

-- ---- so far

pub record AreValid (p : PlainProgram) (io : IoTable) (s : State) : Type 0 where
  pub objects : AllByRecursion (IsObject p) s.scope.objects
  pub declared : AllByRecursion (IsDeclaredObject s.declared) s.scope.objects
  pub registers : AllPairs (ShareNoRegister p) s.scope.objects
  pub externals : AllPairs HaveOwnNames s.scope.objects
  pub functions : EachFrom 0 (IsFunction p io) s.functions

module _ (p : PlainProgram) (io : IoTable) where
  pub valid_broken : (s : State) → AreValid p io s → AreValid p io (broken s)
  valid_broken s h = record {
    objects = h.objects;
    declared = h.declared;
    registers = h.registers;
    externals = h.externals;
    functions = h.functions;
  }

  pub valid_named : (n : List ℕ) (what : Named) (d : FileName) (s : State) → AreValid p io s → AreValid p io (with_name n what d s)
  valid_named n what d s h = record {
    objects = h.objects;
    declared = all_weaker (IsDeclaredObject s.declared) (IsDeclaredObject (s.declared ++ d ∷ []))
        (λ x g. declared_later s.declared d x g) s.scope.objects h.declared;
    registers = h.registers;
    externals = h.externals;
    functions = h.functions;
  }

  -- one object more
  pub record MayFollow (s : State) (o : PlainObject) : Type 0 where
    pub object : IsObject p o
    pub declared : IsDeclaredObject s.declared o
    pub registers : AllByRecursion (λ x. ShareNoRegister p x o) s.scope.objects
    pub externals : AllByRecursion (λ x. HaveOwnNames x o) s.scope.objects

  valid_and : (s : State) (o : PlainObject) → MayFollow s o → AreValid p io s
      → AreValid p io (with_scope (record { names = s.scope.names; objects = s.scope.objects ++ o ∷ [] }) s)
  valid_and s o k h = record {
    objects = all_and (IsObject p) s.scope.objects o h.objects k.object;
    declared = all_and (IsDeclaredObject s.declared) s.scope.objects o h.declared k.declared;
    registers = pairs_and (ShareNoRegister p) s.scope.objects o h.registers k.registers;
    externals = pairs_and HaveOwnNames s.scope.objects o h.externals k.externals;
    functions = h.functions;
  }

  pub valid_object : (s : State) (o : Option PlainObject) → ((x : PlainObject) → o ≡ Some x → MayFollow s x) → AreValid p io s
      → AreValid p io (with_object o s)
  valid_object s None k h = valid_broken s h
  valid_object s (Some o) k h =
      if_both (AreValid p io) (has_room s.scope.objects)
      (with_scope (record { names = s.scope.names; objects = s.scope.objects ++ o ∷ [] }) s) (broken s)
      (λ e. valid_and s o (k o refl) h) (λ e. valid_broken s h)

-- ---- external names are their own

conflicts_each : (d : FileName) (es : List FileName) → conflicts d es ≡ false → AllByRecursion (λ e. conflict d e ≡ false) es
conflicts_each d [] h = tt
conflicts_each d (e ∷ es) h = let g = two_false (conflict d e) (conflicts d es) h in (g.0, conflicts_each d es g.1)

pub no_conflict : (d : FileName) (es : List FileName) (e : FileName) → conflicts d es ≡ false → Contains es e → conflict d e ≡ false
no_conflict d es e h c = all_containing (λ x. conflict d x ≡ false) es e (conflicts_each d es h) c

three : (x y z : Bool) → x ≡ true → y ≡ true → z ≡ true → (x && y && z) ≡ true
three true true true a b c = refl
three true true false a b c = c
three true false z a b c = absurd (false≢true b)
three false y z a b c = absurd (false≢true a)

-- a definition that is external, and no register that another unit may declare too, has no name that an object has
pub own_name : (d : FileName) (declared : List FileName) (x : PlainObject) → conflicts d declared ≡ false → d.defines ≡ true
    → IsDeclaredObject declared x
    → ((e : FileName) → Contains declared e → d.name ≡ e.name
    → not (file_names.is_register d.kind && file_names.is_register e.kind && not (d.unit == e.unit)) ≡ true)
    → IsTrue x.external → d.linkage ≡ External → x.name ≢ d.name
own_name d declared x h defines known once external linked same =
    let g = known.external external in
    let e = g.0 in
    let named : d.name ≡ e.name = sym (g.1.1.name ∙ same) in
    let c = clear_of d e (no_conflict d declared e h g.1.0) (do_meet d e named (linked ∙ sym g.1.1.linkage) (inl linked)) in
    both_ways (both_define d e) c.once
    (three d.defines e.defines
    (not (file_names.is_register d.kind && file_names.is_register e.kind && not (d.unit == e.unit))) defines g.1.1.defines
    (once e g.1.0 named))

-- ---- registers are apart

static_apart : (x : PlainStorage) (leaves : _) (m n : ℕ) → AreApart x (static leaves) m n
static_apart (static l) leaves m n = tt
static_apart (local f) leaves m n = tt
static_apart (param f) leaves m n = tt
static_apart (register r) leaves m n = tt

pub all_apart_static : (p : PlainProgram) (o : PlainObject) (leaves : _) → o.storage ≡ static leaves → (xs : List PlainObject)
    → AllByRecursion (λ x. ShareNoRegister p x o) xs
all_apart_static p o leaves e [] = tt
all_apart_static p o leaves e (x ∷ xs) = (
  subst (λ (z : PlainStorage). AreApart x.storage z (size_of_type p.structs x.ty) (size_of_type p.structs o.ty)) (sym e)
      (static_apart x.storage leaves _ _),
  all_apart_static p o leaves e xs,
)

shares_each : (d : FileName) (es : List FileName) → shares_register d es ≡ false
    → AllByRecursion (λ e. (share d.kind e.kind && not (bytes_eq d.name e.name && same_register d.kind e.kind)) ≡ false) es
shares_each d [] h = tt
shares_each d (e ∷ es) h =
    let g = two_false (share d.kind e.kind && not (bytes_eq d.name e.name && same_register d.kind e.kind)) (shares_register d es) h in
    (g.0, shares_each d es g.1) where
      neither : (x y : Bool) → (x || y) ≡ false → (x ≡ false) × (y ≡ false)
      neither true y e = absurd (true≢false e)
      neither false y e = (refl, e)

-- a name of no register before
unregistered_each : (n : List ℕ) (es : List FileName) → is_registered n es ≡ false
    → AllByRecursion (λ e. (file_names.is_register e.kind && bytes_eq e.name n) ≡ false) es
unregistered_each n [] h = tt
unregistered_each n (e ∷ es) h =
    let g = two_false (file_names.is_register e.kind && bytes_eq e.name n) (is_registered n es) h in (g.0, unregistered_each n es g.1) where
      neither : (x y : Bool) → (x || y) ≡ false → (x ≡ false) × (y ≡ false)
      neither true y e = absurd (true≢false e)
      neither false y e = (refl, e)

pub unregistered : (n : List ℕ) (es : List FileName) (e : FileName) → is_registered n es ≡ false → Contains es e → e.name ≡ n
    → file_names.is_register e.kind ≡ false
unregistered n es e h c same =
    let g = all_containing (λ x. (file_names.is_register x.kind && bytes_eq x.name n) ≡ false) es e (unregistered_each n es h) c in
    elim (and_cases (file_names.is_register e.kind) (bytes_eq e.name n) g) as (λ z. file_names.is_register e.kind ≡ false) [
      | inl f ↦ f
      | inr f ↦ absurd (both_ways (bytes_eq e.name n) f ((bytes_eq-Decides e.name n).1 same))
    ]

number_sizes : (structs : List PlainStruct) (ty : PlainType) → IsSomeAnd (arithmetic_of ty) (λ t. ⊤)
    → size_of_type structs ty ≡ number_size ty
number_sizes structs void h = absurd h
number_sizes structs (integer signed bytes) h = refl
number_sizes structs (fixed kind sat) h = refl
number_sizes structs (pointer s k to) h = absurd h
number_sizes structs (array of len) h = absurd h
number_sizes structs (struct i) h = absurd h

-- two that do not overlap
not_over : (q r m n : ℕ) (a b : ℕ) → m ≡ a → n ≡ b → (nat_lt q (r + a) && nat_lt r (q + b)) ≡ false → (r + m ≤ q) ⊎ (q + n ≤ r)
not_over q r m n a b e f h =
    elim (and_cases (nat_lt q (r + a)) (nat_lt r (q + b)) h) as (λ z. (r + m ≤ q) ⊎ (q + n ≤ r)) [
      | inl g ↦ inl (let k : r + a ≤ q = grind (arith, nat_tests, g) in omega (arith, k, e))
      | inr g ↦ inr (let k : q + b ≤ r = grind (arith, nat_tests, g) in omega (arith, k, f))
    ]

-- an object in a register that is new, beside one that is declared
module _ (p : PlainProgram) (declared : List FileName) (d : FileName) (q : ℕ) (o : PlainObject) (konst : Bool)
    (kind : d.kind ≡ a_register (Some q) (Some o.ty) konst)
    (apart : shares_register d declared ≡ false) (fresh : is_registered d.name declared ≡ false)
    (number : IsSomeAnd (arithmetic_of o.ty) (λ t. ⊤)) where
  -- what does not share a register with the declaration of another
  apart_from : (r : ℕ) (x : PlainObject) → IsSomeAnd (arithmetic_of x.ty) (λ t. ⊤) → (e : FileName) → Contains declared e
      → IsRegisterDefinition r x e
      → (r + size_of_type p.structs x.ty ≤ q) ⊎ (q + size_of_type p.structs o.ty ≤ r)
  apart_from r x n e c k =
      let h = all_containing (λ e. (share d.kind e.kind && not (bytes_eq d.name e.name && same_register d.kind e.kind)) ≡ false) declared e
      (shares_each d declared apart) c in
      let other : bytes_eq d.name e.name ≡ false = unlike (bytes_eq d.name e.name) refl in
      let g = unshared (share d.kind e.kind) (bytes_eq d.name e.name) (same_register d.kind e.kind) h other in
      let over : overlap q o.ty r x.ty ≡ false =
      subst (λ z. share z (a_register (Some r) (Some x.ty) k.konst) ≡ false) kind (subst (λ z. share d.kind z ≡ false) k.kind g) in
      not_over q r (size_of_type p.structs x.ty) (size_of_type p.structs o.ty) (number_size x.ty) (number_size o.ty)
      (number_sizes p.structs x.ty n) (number_sizes p.structs o.ty number) over where
        unshared : (a b f : Bool) → (a && not (b && f)) ≡ false → b ≡ false → a ≡ false
        unshared a true f h g = absurd (true≢false g)
        unshared true false f h g = h
        unshared false false f h g = refl

        is_kind : file_names.is_register e.kind ≡ true
        is_kind = subst (λ z. file_names.is_register z ≡ true) (sym k.kind) refl

        unlike : (b : Bool) → bytes_eq d.name e.name ≡ b → bytes_eq d.name e.name ≡ false
        unlike false z = z
        unlike true z =
            absurd (both_ways (file_names.is_register e.kind)
            (unregistered d.name declared e fresh c (sym ((bytes_eq-Decides d.name e.name).0 z))) is_kind)

  by_storage : (x : PlainObject) (s : PlainStorage) → x.storage ≡ s → IsStored p x s → IsDeclaredObject declared x
      → AreApart s (register q) (size_of_type p.structs x.ty) (size_of_type p.structs o.ty)
  by_storage x (static leaves) e h k = tt
  by_storage x (local f) e h k = tt
  by_storage x (param f) e h k = tt
  by_storage x (register r) e h k = let g = k.register r e in apart_from r x h.arithmetic g.0 g.1.0 g.1.1

  pub all_apart : o.storage ≡ register q → (xs : List PlainObject) → AllByRecursion (IsObject p) xs
      → AllByRecursion (IsDeclaredObject declared) xs
      → AllByRecursion (λ x. ShareNoRegister p x o) xs
  all_apart e [] h k = tt
  all_apart e (x ∷ xs) h k = (
    subst (λ (z : PlainStorage). AreApart x.storage z (size_of_type p.structs x.ty) (size_of_type p.structs o.ty)) (sym e)
        (by_storage x x.storage refl h.0.storage k.0),
    all_apart e xs h.1 k.1,
  )
