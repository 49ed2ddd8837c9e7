-- Objects that are kept in frames are kept in those of the program's functions.
use Rattle.std.proofs.Common.{◌≡◌, ◌<◌, ℕ, zero, suc, Bool, true, false, List, [], ◌∷◌, length, map}
use Rattle.std.proofs.Common.{Option, Some, None, ap, ◌∙◌}
use Rattle.std.proofs.Common.{subst, arith}
use Rattle.std.specs.Prelude.{slice_get, if◌then◌else◌}
use Rattle.std.specs.List.{All, AllByRecursion}
use Rattle.std.proofs.lemmas.List.{length-map}
use Rattle.std.proofs.lemmas.List.Elements.{All-nil, All-cons}
use Rattle.ec_check_recursion.specs.Rows.{rows_of_program}
use Rattle.ec_core.specs.Plain.{PlainObject, PlainStorage, static, local, param, register, PlainProgram}
use Rattle.ec_core.specs.Valid.{Valid, IsObject, IsStored}
use Rattle.ec_map.specs.declared.map.Fixed1.{Fixed1}
use Rattle.ec_map.specs.declared.map.Map.{Map}
use Rattle.ec_overlay.specs.Objects.{Owned}
use Rattle.ec_locate.specs.Areas.{IsKeptBelow}
use Rattle.ec_locate.specs.Entries.{fixed_place, fixed_or_packed, kept_by, entry_of, frame_of, owned_of}
use Rattle.ec_locate.specs.declared.entries.Entry.{Entry}
use Rattle.ec_locate.specs.declared.entries.Kept.{Kept}
use Rattle.ec_locate.specs.declared.entries.Kept.TheVariants.{Register, Fixed, Packed, InFrame}
use Rattle.ec_locate.proofs.Stood.{es}

-- a static object is kept in no frame
static_below : (n : ℕ) (external : Bool) (place : Option ℕ)
    → IsKeptBelow n (let k : Kept = if external then fixed_or_packed place else Packed in k)
static_below n true None = tt
static_below n true (Some at) = tt
static_below n false place = tt

kept_below : (p : PlainProgram) (places : List Fixed1) (o : PlainObject) (s : PlainStorage) → IsStored p o s
    → IsKeptBelow (length p.functions) (kept_by places o.external o.name s)
kept_below p places o (static inits) h = static_below (length p.functions) o.external (fixed_place places o.name)
kept_below p places o (local f) h = h.0
kept_below p places o (param f) h = h.0
kept_below p places o (register first) h = tt

pub all_below : (p : PlainProgram) (places : List Fixed1) (os : List PlainObject) → AllByRecursion (IsObject p) os
    → All (λ e. IsKeptBelow (length p.functions) e.kept) (map (entry_of p.structs places) os)
all_below p places [] h = All-nil (λ e. IsKeptBelow (length p.functions) e.kept)
all_below p places (o ∷ os) h =
    All-cons (λ e. IsKeptBelow (length p.functions) e.kept) (entry_of p.structs places o) (map (entry_of p.structs places) os)
    (kept_below p places o o.storage h.0.storage) (all_below p places os h.1)

-- the owner of what is kept below so many is one of them
pub owner_below : (n f : ℕ) (k : Kept) → frame_of k ≡ Some f → IsKeptBelow n k → f < n
owner_below n f Packed q h = cc
owner_below n f (Fixed at) q h = cc
owner_below n f (Register first) q h = cc
owner_below n f (InFrame g) q h = let same : g ≡ f = cc in subst (λ x. x < n) same h

at_below : (n : ℕ) (xs : List Entry) (i f : ℕ) (o : Owned) → All (λ e. IsKeptBelow n e.kept) xs
    → slice_get (map owned_of xs) i ≡ Some o
    → o.owner ≡ Some f → f < n
at_below n [] i f o h is own = cc
at_below n (x ∷ xs) zero f o h is own =
    let same : owned_of x ≡ o = cc in
    owner_below n f x.kept (ap (λ (y : Owned). y.owner) same ∙ own) (h 0 x (omega arith))
at_below n (x ∷ xs) (suc i) f o h is own = at_below n xs i f o (λ k d l. h (suc k) d (omega (arith, l))) is own

pub kept_known : (p : PlainProgram) (m : Map) → Valid p m.io → (i f : ℕ) (o : Owned)
    → slice_get (map owned_of (es p m)) i ≡ Some o
    → o.owner ≡ Some f → f < length (rows_of_program p)
kept_known p m valid i f o is own =
    let less = at_below (length p.functions) (es p m) i f o (all_below p m.places.items p.objects valid.objects) is own in
    let long : length (rows_of_program p) ≡ length p.functions = length-map p.functions _ in
    omega (arith, less, long)
