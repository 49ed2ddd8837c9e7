-- The objects of a valid program.
use Rattle.std.proofs.Common.{◌≡◌, ℕ, zero, suc, ◌<◌, List, [], ◌∷◌, length, map, Some, subst, arith}
use Rattle.std.specs.Prelude.{slice_get}
use Rattle.std.specs.List.{All, AllByRecursion}
use Rattle.std.proofs.lemmas.Option.{slice_get_within}
use Rattle.std.proofs.lemmas.List.Elements.{All-nil, All-cons}
use Rattle.ec_core.specs.Layout.{IsObjectType}
use Rattle.ec_iohw.specs.declared.table.IoTable.{IoTable}
use Rattle.ec_core.specs.Plain.{PlainObject, PlainProgram, plain_object, plain_type}
use Rattle.ec_core.specs.Valid.{Valid, IsObject}
use Rattle.ec_core.specs.declared.programs.Obj.{Obj}

-- their types have a size
pub objects_typed : (p : PlainProgram) (n : ℕ) (objs : List Obj) → AllByRecursion (IsObject p) (map plain_object objs)
    → length p.structs ≡ n
    → All (λ o. IsObjectType n (plain_type o.ty)) objs
objects_typed p n [] h same = All-nil (λ o. IsObjectType n (plain_type o.ty))
objects_typed p n (o ∷ objs) h same =
    All-cons (λ x. IsObjectType n (plain_type x.ty)) o objs (rw (← same) h.0.ty) (objects_typed p n objs h.1 same)

-- ---- an object by its number

object_at : (P : PlainObject → Type 0) (os : List PlainObject) (i : ℕ) (o : PlainObject) → AllByRecursion P os → slice_get os i ≡ Some o
    → P o
object_at P [] i o h q = cc
object_at P (x ∷ os) zero o h q = let same : x ≡ o = cc in subst P same h.0
object_at P (x ∷ os) (suc i) o h q = object_at P os i o h.1 q

pub is_object_at : (p : PlainProgram) (io : IoTable) → Valid p io → (i : ℕ) (o : PlainObject) → slice_get p.objects i ≡ Some o
    → IsObject p o
is_object_at p io valid i o q = object_at (IsObject p) p.objects i o valid.objects q

pub few_objects : (p : PlainProgram) (io : IoTable) → Valid p io → (i : ℕ) (o : PlainObject) → slice_get p.objects i ≡ Some o → i < 1024
few_objects p io valid i o q = let w = slice_get_within p.objects i o q in let c = valid.object_count in omega (arith, w, c)
