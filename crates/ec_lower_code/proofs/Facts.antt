-- What a valid program gives of its objects and functions.
use Rattle.std.proofs.Common.{◌≡◌, ◌≢◌, ℕ, zero, suc, ◌+◌, false, List, [], ◌∷◌, Some, refl, ap, subst, inl, inr, arith}
use Rattle.std.specs.Prelude.{slice_get, option_map, unwrap_or}
use Rattle.std.specs.List.{AllByRecursion}
use Rattle.ec_iohw.specs.declared.table.IoTable.{IoTable}
use Rattle.ec_space.specs.declared.space.Home.{Home}
use Rattle.ec_space.specs.declared.space.Home.TheVariants.{Data as DataHome}
use Rattle.ec_core.specs.Accesses.{is_read_only}
use Rattle.ec_core.specs.Layout.{IsScalar, leaves_of_type}
use Rattle.ec_core.specs.Plain.{PlainType, void, integer, fixed, pointer, array, struct, local, param, PlainObject, PlainProgram}
use Rattle.ec_core.specs.Valid.{IsObject, IsStored, IsScalarOrVoid, Valid, EachFrom}
use Rattle.ec_lower_code.specs.Code.{leaves_of_object}

pub all_at : {A : Type 0} (P : A → Type 0) (xs : List A) (i : ℕ) (x : A) → AllByRecursion P xs → slice_get xs i ≡ Some x → P x
all_at P [] i x h e = cc
all_at P (y ∷ ys) zero x h e = let g : y ≡ x = cc in subst P g h.0
all_at P (y ∷ ys) (suc i) x h e = all_at P ys i x h.1 e

pub each_at : {A : Type 0} (P : ℕ → A → Type 0) (n : ℕ) (xs : List A) (i : ℕ) (x : A) → EachFrom n P xs → slice_get xs i ≡ Some x
    → P (n + i) x
each_at P n [] i x h e = cc
each_at P n (y ∷ ys) zero x h e = let g : y ≡ x = cc in subst (P (n + 0)) g (subst (λ (k : ℕ). P k y) (let z : n ≡ n + 0 = omega arith in
    z) h.0)
each_at P n (y ∷ ys) (suc i) x h e = subst (λ (k : ℕ). P k x) (let z : n + 1 + i ≡ n + suc i = omega arith in z)
    (each_at P (n + 1) ys i x h.1 e)

data_home : (home : Home) → home ≡ DataHome → is_read_only home ≡ false
data_home home e = ap is_read_only e

module _ (program : PlainProgram) (table : IoTable) (valid : Valid program table) where
  object_of : (o : ℕ) (d : PlainObject) → slice_get program.objects o ≡ Some d → IsObject program d
  object_of o d e = all_at (IsObject program) program.objects o d valid.objects e

  -- locals and parameters are not kept in flash
  pub local_home : (o f : ℕ) (d : PlainObject) → slice_get program.objects o ≡ Some d → d.storage ≡ local f → is_read_only d.home ≡ false
  local_home o f d e s = let h = subst (IsStored program d) s (object_of o d e).storage in data_home d.home h.1

  pub param_home : (o f : ℕ) (d : PlainObject) → slice_get program.objects o ≡ Some d → d.storage ≡ param f
      → (is_read_only d.home ≡ false) × IsScalar d.ty
  param_home o f d e s = let h = subst (IsStored program d) s (object_of o d e).storage in (data_home d.home h.1, h.2)

-- the only leaf of a scalar
pub scalar_leaf : (program : PlainProgram) (ty : PlainType) → IsScalar ty → slice_get (leaves_of_type program.structs ty) 0 ≡ Some
    (record { ty = ty; at = 0 })
scalar_leaf program void i = absurd i
scalar_leaf program (integer s b) i = refl
scalar_leaf program (fixed k s) i = refl
scalar_leaf program (pointer s c t) i = refl
scalar_leaf program (array t n) i = absurd i
scalar_leaf program (struct k) i = absurd i

pub leaves_are : (program : PlainProgram) (o : ℕ) (d : PlainObject) → slice_get program.objects o ≡ Some d
    → leaves_of_object program o ≡ leaves_of_type program.structs d.ty
leaves_are program o d e = ap (λ z. unwrap_or (option_map (λ (y : PlainObject). leaves_of_type program.structs y.ty) z) []) e

pub result_scalar : (ty : PlainType) → IsScalarOrVoid ty → ty ≢ void → IsScalar ty
result_scalar ty (inl h) n = h
result_scalar ty (inr e) n = absurd (n e)
