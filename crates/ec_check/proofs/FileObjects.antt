-- Objects at file scope are as a valid program asks.
use Rattle.std.proofs.Common.{◌≡◌, ℕ, Bool, true, false, not, ◌&&◌, List, length, refl, sym, ap, subst, arith}
use Rattle.std.specs.Prelude.{⊤, Option, Some, None, IfSome, IsTrue, IsSomeAnd}
use Rattle.std.proofs.lemmas.Bool.{not-true, false≢true}
use Rattle.std.proofs.lemmas.List.Elements.{Contains-push}
use Rattle.ec_iohw.specs.declared.table.IoTable.{IoTable}
use Rattle.ec_grammar.specs.Trees as t
use Rattle.ec_space.specs.declared.space.Home.TheVariants.{Data as DataHome}
use Rattle.ec_space.specs.declared.space.SpaceId.TheVariants.{Generic}
use Rattle.ec_core.specs.declared.programs.LeafInit.{LeafInit}
use Rattle.ec_core.specs.ArithmeticTypes.{arithmetic_of}
use Rattle.ec_core.specs.Layout.{IsObjectType, leaves_of_type}
use Rattle.ec_core.specs.Plain.{PlainType, void, integer, fixed, pointer, array, struct, PlainStorage, static, register, PlainObject}
use Rattle.ec_core.specs.Plain.{PlainProgram}
use Rattle.ec_core.specs.Valid.{AreInitialValues, HaveOwnNames}
use Rattle.ec_check_names.specs.declared.linkage.Linkage.{Linkage}
use Rattle.ec_check_names.specs.declared.linkage.Linkage.TheVariants.{Internal, External}
use Rattle.ec_check_forms.specs.Constraints.{IsArithmetic}
use Rattle.ec_check_declarations.specs.Declarators.{ObjectDeclared}
use Rattle.ec_check_declarations.specs.Registers.{RegisterDeclared}
use Rattle.ec_check_expressions.specs.Known.{Known}
use Rattle.ec_check_statements.specs.Objects.{IsDeclaredType}
use Rattle.ec_check_file_scope.specs.FileNames.{FileName, a_register, conflicts, is_external, is_registered}
use Rattle.ec_check_file_scope.specs.FileNames as file_names
use Rattle.ec_check_file_scope.specs.FileObjects.{home_of, object_name, object_named, object_made, initial_leaves, register_name}
use Rattle.ec_check_file_scope.specs.FileObjects.{register_named, register_made, shares_register, with_defined}
use Rattle.ec_check_file_scope.specs.States.{Setting, State, with_name}
use Rattle.ec_check.proofs.Growing.{IsDeclaredObject, AreValid, valid_named, MayFollow, valid_object, own_name, all_apart_static, all_apart}
use Rattle.ec_check.proofs.Growing.{unregistered}
use Rattle.ec_check.proofs.InitialValues.{own_home}
use Rattle.ec_check.proofs.Firsts.{all_weaker}
use Rattle.ec_check.proofs.Meanings.{IsRegisterType}

external_is : (l : Linkage) → IsTrue (is_external l) → l ≡ External
external_is External e = refl
external_is Internal e = absurd (false≢true e)

-- ---- static objects

-- what an initialiser gives are initial values of an object in the program
abbrev pub IsInitialised : PlainProgram → (structs : ℕ) → Known → Option t.Start → Type 0
IsInitialised p n k start =
    (ty : PlainType) (leaves : List LeafInit) → IsObjectType n ty → initial_leaves k start (Some ty) ≡ Some leaves
    → AreInitialValues p (leaves_of_type p.structs ty) leaves

module _ (p : PlainProgram) (io : IoTable) (r : Setting) (n : List ℕ) (linkage : Linkage) (o : ObjectDeclared) (s : State)
    (h : AreValid p io s) where
  abbrev d : (defined : Bool) → FileName
  d defined = object_name r n linkage defined o

  abbrev v : (defined : Bool) → State
  v defined = with_name n (object_named r n linkage o) (d defined) s

  -- what is made is static, of the type that was declared
  static_follows : (ty : PlainType) (leaves : List LeafInit) → conflicts (d true) s.declared ≡ false → IsDeclaredType s.structs p.structs ty
      → AreInitialValues p (leaves_of_type p.structs ty) leaves → (x : PlainObject)
      → object_made r n linkage o (Some ty) (Some leaves) ≡ Some x
      → MayFollow p io (v true) x
  static_follows ty leaves clear k values x e =
      let made : PlainObject = record {
        name = n;
        unit = r.unit;
        external = is_external linkage;
        ty = ty;
        space = o.space;
        home = home_of o.space;
        const = o.konst;
        storage = static leaves;
      } in
      let same : made ≡ x = cc in
      subst (MayFollow p io (v true)) same
      (record {
        object = record {
          ty = k.placed.object;
          some = k.placed.some;
          small = k.small;
          home = own_home o.space;
          storage = values;
        };
        declared = record {
          external = λ q. (
            d true,
            (Contains-push s.declared (d true), record { name = refl; linkage = external_is linkage q; defines = refl }),
          );
          register = λ first q. absurd (let z : ◌≡◌ {A = PlainStorage} (static leaves) (register first) = q in cc);
        };
        registers = all_apart_static p made leaves refl s.scope.objects;
        externals = all_weaker (IsDeclaredObject s.declared) (λ y. HaveOwnNames y made)
            (λ y known q z. own_name (d true) s.declared y clear refl known (λ e c w. refl) q (external_is linkage z))
            s.scope.objects h.declared;
      })

  by_parts : (k : Known) (start : Option t.Start) (ty : Option PlainType) (leaves : Option (List LeafInit))
      → conflicts (d true) s.declared ≡ false
      → IfSome ty (IsDeclaredType s.structs p.structs)
      → IsInitialised p (length s.structs) k start
      → initial_leaves k start ty ≡ leaves → (x : PlainObject) → object_made r n linkage o ty leaves ≡ Some x → MayFollow p io (v true) x
  by_parts k start None leaves clear fits values e x q = cc
  by_parts k start (Some ty) None clear fits values e x q = cc
  by_parts k start (Some ty) (Some leaves) clear fits values e x q = static_follows ty leaves clear fits (values ty leaves fits.known e) x q

  pub static_valid : (defined : Bool) (k : Known) (start : Option t.Start) → conflicts (d defined) s.declared ≡ false
      → IfSome o.ty (IsDeclaredType s.structs p.structs)
      → (defined ≡ true → IsInitialised p (length s.structs) k start)
      → AreValid p io (with_defined defined (object_made r n linkage o o.ty (initial_leaves k start o.ty)) (v defined))
  static_valid false k start clear fits values = valid_named p io n (object_named r n linkage o) (d false) s h
  static_valid true k start clear fits values =
      valid_object p io (v true) (object_made r n linkage o o.ty (initial_leaves k start o.ty))
      (λ x e. by_parts k start o.ty (initial_leaves k start o.ty) clear fits (values refl) refl x e)
      (valid_named p io n (object_named r n linkage o) (d true) s h)

-- ---- registers

number_of_type : (ty : PlainType) → IsArithmetic ty → IsSomeAnd (arithmetic_of ty) (λ t. ⊤)
number_of_type void h = absurd h
number_of_type (integer signed bytes) h = tt
number_of_type (fixed kind sat) h = tt
number_of_type (pointer s k to) h = absurd h
number_of_type (array of len) h = absurd h
number_of_type (struct i) h = absurd h

not_both : (a b c : Bool) → b ≡ false → not (a && b && c) ≡ true
not_both false b c e = refl
not_both true false c e = refl
not_both true true c e = absurd (false≢true (sym e))

module _ (p : PlainProgram) (io : IoTable) (r : Setting) (n : List ℕ) (o : RegisterDeclared) (s : State) (h : AreValid p io s) where
  abbrev c : FileName
  c = register_name r n o

  abbrev w : State
  w = with_name n (register_named r n o) c s

  register_follows : (first : ℕ) (ty : PlainType) → o.first ≡ Some first → o.ty ≡ Some ty → conflicts c s.declared ≡ false
      → shares_register c s.declared ≡ false
      → is_registered n s.declared ≡ false → IsRegisterType p.structs (Some first) ty → (x : PlainObject)
      → register_made r n o (Some first) (Some ty) ≡ Some x
      → MayFollow p io w x
  register_follows first ty f g clear apart fresh k x e =
      let made : PlainObject = record {
        name = n;
        unit = r.unit;
        external = true;
        ty = ty;
        space = Generic;
        home = DataHome;
        const = o.konst;
        storage = register first;
      } in
      let same : made ≡ x = cc in
      let kind : c.kind ≡ a_register (Some first) (Some ty) o.konst =
      subst (λ z. a_register o.first o.ty o.konst ≡ a_register z (Some ty) o.konst) f (ap (λ z. a_register o.first z o.konst) g) in
      subst (MayFollow p io w) same
      (record {
        object = record {
          ty = k.placed.object;
          some = k.placed.some;
          small = omega (arith, k.within.1);
          home = refl;
          storage = record { arithmetic = number_of_type ty k.arithmetic; low = k.within.0; high = k.within.1; home = refl };
        };
        declared = record {
          external = λ q. (c, (Contains-push s.declared c, record { name = refl; linkage = refl; defines = refl }));
          register = λ other q. (
            c,
            (
              Contains-push s.declared c,
              record {
                name = refl;
                konst = o.konst;
                kind = (let z : first ≡ other = cc in subst (λ z. c.kind ≡ a_register (Some z) (Some ty) o.konst) z kind);
              },
            ),
          );
        };
        registers = all_apart p s.declared c first made o.konst kind apart fresh
            (number_of_type ty k.arithmetic) refl s.scope.objects h.objects h.declared;
        externals = all_weaker (IsDeclaredObject s.declared) (λ y. HaveOwnNames y made)
            (λ y known q z. own_name c s.declared y clear refl known
            (λ e m u. not_both (file_names.is_register c.kind) (file_names.is_register e.kind) _
            (unregistered n s.declared e fresh m (sym u))) q refl)
            s.scope.objects h.declared;
      })

  by_declared : (first : Option ℕ) (ty : Option PlainType) → o.first ≡ first → o.ty ≡ ty → conflicts c s.declared ≡ false
      → shares_register c s.declared ≡ false
      → is_registered n s.declared ≡ false → IfSome ty (IsRegisterType p.structs first) → (x : PlainObject)
      → register_made r n o first ty ≡ Some x
      → MayFollow p io w x
  by_declared None ty f g clear apart fresh k x e = cc
  by_declared (Some first) None f g clear apart fresh k x e = cc
  by_declared (Some first) (Some ty) f g clear apart fresh k x e = register_follows first ty f g clear apart fresh k x e

  register_by : (b : Bool) → not (is_registered n s.declared) ≡ b → conflicts c s.declared ≡ false → shares_register c s.declared ≡ false
      → IfSome o.ty (IsRegisterType p.structs o.first) → AreValid p io (with_defined b (register_made r n o o.first o.ty) w)
  register_by false e clear apart k = valid_named p io n (register_named r n o) c s h
  register_by true e clear apart k =
      valid_object p io w (register_made r n o o.first o.ty)
      (λ x q. by_declared o.first o.ty refl refl clear apart (not-true (is_registered n s.declared) e) k x q)
      (valid_named p io n (register_named r n o) c s h)

  pub register_valid : conflicts c s.declared ≡ false → shares_register c s.declared ≡ false
      → IfSome o.ty (IsRegisterType p.structs o.first)
      → AreValid p io (with_defined (not (is_registered n s.declared)) (register_made r n o o.first o.ty) w)
  register_valid clear apart k = register_by (not (is_registered n s.declared)) refl clear apart k
