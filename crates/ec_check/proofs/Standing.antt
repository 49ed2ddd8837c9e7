-- What agrees where one more name is declared, and one more object or function is defined.
use Rattle.std.proofs.Common.{◌≡◌, ◌∙◌, ◌<◌, ◌≤◌, ◌+◌, ◌++◌, ℕ, Bool, true, false, List, [], ◌∷◌, length, refl, sym, ap, subst, arith}
use Rattle.std.specs.Prelude.{if◌then◌else◌, nat_lt, Option, Some, IsSomeAnd, slice_get, AllPairs}
use Rattle.std.specs.List.{AllByRecursion}
use Rattle.std.specs.Str.{bytes_eq}
use Rattle.std.proofs.lemmas.Bool.Decides.{nat_tests}
use Rattle.std.proofs.lemmas.List.Elements.{Contains-append_left}
use Rattle.ec_iohw.specs.declared.table.IoTable.{IoTable}
use Rattle.ec_core.specs.Plain.{PlainObject}
use Rattle.ec_check_names.specs.declared.linkage.Linkage.{Linkage}
use Rattle.ec_check_names.specs.declared.specifiers.StorageWord.{StorageWord}
use Rattle.ec_check_names.specs.Definitions as numbering
use Rattle.ec_check_names.specs.Definitions.{Definition, Numbering, link_in, with_link}
use Rattle.ec_check_names.specs.Linkage.{linkage_of}
use Rattle.ec_check_names.specs.Names.{Named}
use Rattle.ec_check_names.specs.Tables as tables
use Rattle.ec_check_names.specs.Tables.{Table}
use Rattle.ec_check_names.proofs.Naming.{put_found}
use Rattle.ec_check_expression_laws.specs.Laws.{DeclarationsKeepSuiting}
use Rattle.ec_check_expression_laws.specs.Suits.{IsWhole, HasTypes}
use Rattle.ec_check_initialisers.specs.Places.{IsNamedObject}
use Rattle.ec_check_declarations.specs.Scopes.{has_room}
use Rattle.ec_check_file_scope.specs.FileNames.{FileName, FileKind, is_register, conflict, conflicts, earlier_link, is_registered}
use Rattle.ec_check_file_scope.specs.FileObjects.{with_object}
use Rattle.ec_check_file_scope.specs.States.{State, known_of, with_scope, broken, with_name, IsSoundState}
use Rattle.ec_check_file_scope.proofs.Sound.{named_with}
use Rattle.ec_check.specs.Agreement.{IsDefined, AreFilled, Agrees}
use Rattle.ec_check.proofs.Grown.{Grows, defined_kept}
use Rattle.ec_check.proofs.Links.{linkage_behind, as_registered, clear_behind}
use Rattle.ec_check.proofs.Lists.{if_true, one_longer, all_push, all_through, stands_before, stands_last}

-- what agrees but for linkages and registers, with these definitions, and so many objects and functions
pub record Stands (io : IoTable) (unit : ℕ) (ds : List Definition) (o f : ℕ) (s : State) : Type 0 where
  pub whole : s.whole ≡ true
  pub objects : length s.scope.objects ≡ o
  pub functions : length s.functions ≡ f
  pub made : AllByRecursion (IsDefined s) ds
  pub clear : AllPairs (λ e d. conflict d e ≡ false) s.declared
  pub units : AllByRecursion (λ e. e.unit ≤ unit) s.declared
  pub types : HasTypes (known_of io s)
  pub closed : s.scope.names.inside ≡ []
  pub sound : IsSoundState s
  pub filled : AreFilled s.structs

pub stands_of : (io : IoTable) (unit : ℕ) (n : Numbering) (s : State) → Agrees io unit n s
    → Stands io unit n.definitions n.objects n.functions s
stands_of io unit n s h = record {
  whole = h.whole;
  objects = h.objects;
  functions = h.functions;
  made = h.made;
  clear = h.clear;
  units = h.units;
  types = h.types;
  closed = h.closed;
  sound = h.sound;
  filled = h.filled;
}

-- the next declaration of each name has one linkage
abbrev pub AreLinked : (unit : ℕ) → Numbering → State → Type 0
AreLinked unit n s =
    (storage : Option StorageWord) (callable : Bool) (name : List ℕ)
    → link_in storage callable name n ≡ linkage_of storage callable (earlier_link name unit s.declared)

abbrev pub AreRegistered : List Definition → State → Type 0
AreRegistered ds s = (name : List ℕ) → numbering.is_registered name ds ≡ is_registered name s.declared

pub agrees_of : (io : IoTable) (unit : ℕ) (n : Numbering) (s : State) → Stands io unit n.definitions n.objects n.functions s
    → AreLinked unit n s
    → AreRegistered n.definitions s → Agrees io unit n s
agrees_of io unit n s h links registered = record {
  whole = h.whole;
  objects = h.objects;
  functions = h.functions;
  links = links;
  registered = registered;
  made = h.made;
  clear = h.clear;
  units = h.units;
  types = h.types;
  closed = h.closed;
  sound = h.sound;
  filled = h.filled;
}

-- ---- one more name

abbrev pub entry : (unit : ℕ) → List ℕ → Linkage → (defines : Bool) → FileKind → FileName
entry unit name linkage defines kind = record { name = name; unit = unit; linkage = linkage; defines = defines; kind = kind }

-- a declaration that conflicts with none before it, and the name's types are known
pub record IsFine (s : State) (what : Named) (d : FileName) : Type 0 where
  pub clear : conflicts d s.declared ≡ false
  pub typed : IsWhole what
  pub object : IsNamedObject (length s.structs) what

name_grows : (s : State) (name : List ℕ) (what : Named) (d : FileName) → Grows s (with_name name what d s)
name_grows s name what d = record {
  declared = λ e h. Contains-append_left s.declared (d ∷ []) e h;
  objects = λ i x e. e;
  functions = λ i g e. e;
}

module _ (keep : DeclarationsKeepSuiting) (io : IoTable) (unit : ℕ) where
  pub named : (ds : List Definition) (o f : ℕ) (s : State) → Stands io unit ds o f s
      → (name : List ℕ) (what : Named) (linkage : Linkage) (defines : Bool)
      (kind : FileKind) → IsFine s what (entry unit name linkage defines kind)
      → Stands io unit ds o f (with_name name what (entry unit name linkage defines kind) s)
  named ds o f s h name what linkage defines kind fine =
      let d = entry unit name linkage defines kind in
      let v = with_name name what d s in
      record {
        whole = h.whole;
        objects = h.objects;
        functions = h.functions;
        made = all_through (IsDefined s) (IsDefined v) ds (λ x. defined_kept s v (name_grows s name what d) x) h.made;
        clear = clear_behind d s.declared h.clear fine.clear;
        units = all_push (λ e. e.unit ≤ unit) s.declared d h.units (omega arith);
        types = (keep (known_of io s) name what).types_outside h.closed h.types fine.typed;
        closed = h.closed;
        sound = record {
          structs = h.sound.structs;
          counted = h.sound.counted;
          named = named_with (IsNamedObject (length s.structs)) name what s.scope.names.outside fine.object h.sound.named;
        };
        filled = h.filled;
      }

  either : (storage : Option StorageWord) (callable : Bool) (l : Linkage) (b : Bool) (x y : Option Linkage)
      → linkage_of storage callable x ≡ linkage_of storage callable y
      → linkage_of storage callable (if b then Some l else x) ≡ linkage_of storage callable (if b then Some l else y)
  either storage callable l true x y e = refl
  either storage callable l false x y e = e

  pub linked : (n : Numbering) (s : State) → AreLinked unit n s
      → (name : List ℕ) (what : Named) (linkage : Linkage) (defines : Bool) (kind : FileKind)
      → AreLinked unit (with_link name linkage n) (with_name name what (entry unit name linkage defines kind) s)
  linked n s h name what linkage defines kind storage callable m =
      let d = entry unit name linkage defines kind in
      ap (linkage_of storage callable) (put_found m name linkage n.links)
      ∙ either storage callable linkage (bytes_eq m name) (tables.at_name m n.links) (earlier_link m unit s.declared) (h storage callable m)
      ∙ sym (ap (linkage_of storage callable) (linkage_behind m unit s.declared d refl))

  -- a name is declared that is no register's
  pub name_agrees : (n : Numbering) (s : State) → Agrees io unit n s
      → (name : List ℕ) (what : Named) (linkage : Linkage) (defines : Bool) (kind : FileKind)
      → is_register kind ≡ false → IsFine s what (entry unit name linkage defines kind)
      → Agrees io unit (with_link name linkage n) (with_name name what (entry unit name linkage defines kind) s)
  name_agrees n s h name what linkage defines kind other fine =
      let d = entry unit name linkage defines kind in
      agrees_of io unit (with_link name linkage n) (with_name name what d s)
      (named n.definitions n.objects n.functions s (stands_of io unit n s h) name what linkage defines kind fine)
      (linked n s h.links name what linkage defines kind)
      (λ m. h.registered m ∙ sym (as_registered m s.declared d other))

-- ---- one more object

abbrev pub with_one : PlainObject → State → State
with_one x s = with_scope (record { names = s.scope.names; objects = s.scope.objects ++ x ∷ [] }) s

object_grows : (s : State) (x : PlainObject) → Grows s (with_one x s)
object_grows s x = record {
  declared = λ e h. h;
  objects = λ i y e. stands_before s.scope.objects (x ∷ []) i y e;
  functions = λ i g e. e;
}

has_place : (n : ℕ) → n < 65_536 → nat_lt n 65_536 ≡ true
has_place n h = grind (arith, nat_tests, h)

pub room_in : (xs : List PlainObject) (n : ℕ) → length xs ≡ n → n < 65_536 → has_room xs ≡ true
room_in xs n e h = subst (λ (m : ℕ). nat_lt m 65_536 ≡ true) (sym e) (has_place n h)

-- what stands at the end
pub at_last : {X : Type 0} → (P : X → Type 0) (xs : List X) (x : X) (i : ℕ) → length xs ≡ i → P x → IsSomeAnd (slice_get (xs ++ x ∷ []) i) P
at_last {X} P xs x i e h =
    subst (λ (i : ℕ). IsSomeAnd (slice_get (xs ++ x ∷ []) i) P) e (subst (λ (o : Option X). IsSomeAnd o P) (sym (stands_last xs x)) h)

pub with_room : (P : State → Type 0) (s : State) (o : ℕ) (x : PlainObject) → length s.scope.objects ≡ o → o < 65_536 → P (with_one x s)
    → P (with_object (Some x) s)
with_room P s o x e room h = if_true P (has_room s.scope.objects) (with_one x s) (broken s) (room_in s.scope.objects o e room) h

pub object_stands : (io : IoTable) (unit : ℕ) (ds : List Definition) (o f : ℕ) (s : State) → Stands io unit ds o f s
    → (x : PlainObject) (d : Definition)
    → IsDefined (with_one x s) d → Stands io unit (ds ++ d ∷ []) (o + 1) f (with_one x s)
object_stands io unit ds o f s h x d defined = record {
  whole = h.whole;
  objects = one_longer s.scope.objects x ∙ ap (λ (n : ℕ). n + 1) h.objects;
  functions = h.functions;
  made = all_push (IsDefined (with_one x s)) ds d
      (all_through (IsDefined s) (IsDefined (with_one x s)) ds (λ y. defined_kept s (with_one x s) (object_grows s x) y) h.made) defined;
  clear = h.clear;
  units = h.units;
  types = record { names = h.types.names; tags = h.types.tags };
  closed = h.closed;
  sound = record { structs = h.sound.structs; counted = h.sound.counted; named = h.sound.named };
  filled = h.filled;
}
