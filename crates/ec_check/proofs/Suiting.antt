-- What is known at file scope suits the whole program.
use Rattle.std.proofs.Common.{◌≡◌, ℕ, List, [], refl, sym, ap, subst}
use Rattle.std.specs.Prelude.{Option, Some, None, IfSome, option_map, option_and_then, slice_get, Contains}
use Rattle.std.specs.List.{AllByRecursion}
use Rattle.ec_iohw.specs.declared.table.IoTable.{IoTable}
use Rattle.ec_core.specs.Layout.{AreStructs}
use Rattle.ec_core.specs.Plain.{PlainType, PlainMember, PlainStruct, PlainProgram}
use Rattle.ec_check_names.specs.Definitions.{Definition}
use Rattle.ec_check_names.specs.Names.{Named, Entry, Names, newest, or_else, found}
use Rattle.ec_check_names.specs.Tables.{at_name}
use Rattle.ec_check_forms.specs.Validity.{IsPlaceType, HaveMembers}
use Rattle.ec_check_expression_laws.specs.Suits.{IsOf, Suits}
use Rattle.ec_check_file_scope.specs.FileNames.{FileName}
use Rattle.ec_check_file_scope.specs.States.{State, known_of}
use Rattle.ec_check_file_scope.proofs.Sound.{named_at}
use Rattle.ec_check.proofs.Firsts.{First, all_at, all_weaker}
use Rattle.ec_check.proofs.Meanings.{IsMeant, IsStaticName, ArePlaced}
use Rattle.ec_check.proofs.Placed.{tag_placed}

-- ---- members

module _ (all : List PlainStruct) (placed : AllByRecursion (λ x. AllByRecursion (λ m. IsPlaceType all m.ty) x.members) all) where
  of_member : (ms : List PlainMember) → AllByRecursion (λ m. IsPlaceType all m.ty) ms → (k : ℕ) (o : Option PlainMember)
      → slice_get ms k ≡ o
      → (ty : PlainType) → option_map (λ m. m.ty) o ≡ Some ty → IsPlaceType all ty
  of_member ms h k None e ty q = cc
  of_member ms h k (Some m) e ty q =
      let same : m.ty ≡ ty = cc in subst (IsPlaceType all) same (all_at (λ (m : PlainMember). IsPlaceType all m.ty) ms k m h e)

  of_struct : (i k : ℕ) (o : Option PlainStruct) → slice_get all i ≡ o → (ty : PlainType)
      → option_and_then (λ s. option_map (λ m. m.ty) (slice_get s.members k)) o ≡ Some ty → IsPlaceType all ty
  of_struct i k None e ty q = cc
  of_struct i k (Some x) e ty q =
      of_member x.members (all_at (λ (x : PlainStruct). AllByRecursion (λ m. IsPlaceType all m.ty) x.members) all i x placed e) k
      (slice_get x.members k) refl ty q

  pub have_members : HaveMembers all
  have_members i k ty e = of_struct i k (slice_get all i) refl ty e

-- ---- names

found_outside : (n : List ℕ) (s : Names) → s.inside ≡ [] → found n s ≡ at_name n s.outside
found_outside n s e = ap (λ (es : List Entry). or_else (newest n es) (at_name n s.outside)) e

-- what the whole program is known to be
pub record IsFinished (ds : List Definition) (declared : List FileName) (p : PlainProgram) : Type 0 where
  pub structs : AreStructs p.structs
  pub members : HaveMembers p.structs
  pub names : (f : ℕ) (what : Named) → IsMeant ds declared what → IsOf p f what × IsStaticName p what

module _ (ds : List Definition) (declared : List FileName) (p : PlainProgram) (done : IsFinished ds declared p) (s : State)
    (same : (e : FileName) → Contains s.declared e → Contains declared e) (h : ArePlaced p.structs ds s) where
  abbrev there : (what : Named) → IsMeant ds s.declared what → IsMeant ds declared what
  there what m = (m.0, (same m.0 m.1.0, m.1.1))

  pub all_of : (f : ℕ) → AllByRecursion (λ e. IsOf p f e.1) s.scope.names.outside
  all_of f = all_weaker (λ e. IsMeant ds s.declared e.1) (λ e. IsOf p f e.1)
      (λ e m. (done.names f e.1 (there e.1 m)).0) s.scope.names.outside h.names

  pub all_static : AllByRecursion (λ e. IsStaticName p e.1) s.scope.names.outside
  all_static = all_weaker (λ e. IsMeant ds s.declared e.1) (λ e. IsStaticName p e.1)
      (λ e m. (done.names 0 e.1 (there e.1 m)).1) s.scope.names.outside h.names

  pub suits_at : (io : IoTable) (f : ℕ) → s.scope.names.inside ≡ [] → AreStructs s.structs → First s.structs p.structs
      → Suits p io f (known_of io s)
  suits_at io f closed small first = record {
    names = λ n. subst (λ (o : Option Named). IfSome o (IsOf p f)) (sym (found_outside n s.scope.names closed))
        (named_at (IsOf p f) s.scope.names.outside (all_of f) n);
    tags = tag_placed p.structs s.tags h.tags;
    structs = first;
    small = small;
    members = done.members;
    ports = refl;
  }
