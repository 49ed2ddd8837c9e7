-- The number of steps, and what it is asked of.
use Rattle.std.proofs.Common.{◌≡◌, ◌≤◌, ◌<◌, ◌+◌, ◌-◌, ◌^◌, ℕ, Bool, true, false, List, [], ◌∷◌, map, Option, Some, None, length, refl, sym, ap, subst, arith, leb-true, leb-false}
use Rattle.std.proofs.Common.{◌⊎◌, inl, inr, Ok, Err}
use Rattle.std.specs.Prelude.{Result, IfOk, IfErr, All, sum_by, option_and_then, nat_le, if◌then◌else◌}
use Rattle.std.specs.List.{AllByRecursion, fold}
use Rattle.std.proofs.lemmas.List.{length-map}
use Rattle.std.proofs.lemmas.List.Elements.{All-nil, All-cons}
use Rattle.ec_core.specs.declared.programs.Func.{Func}
use Rattle.ec_core.specs.declared.programs.Obj.{Obj}
use Rattle.ec_core.specs.Layout.{IsObjectType}
use Rattle.ec_core.specs.Plain.{PlainObject, PlainProgram, plain_function, plain_object, plain_type}
use Rattle.ec_core.specs.Valid.{IsObject}
use Rattle.ec_core_steps.specs.Costs.{held}
use Rattle.ec_core_steps.specs.Laws.{LoopsAreCounted}
use Rattle.ec_map.specs.declared.map.Map.{Map}
use Rattle.ec_steps.specs.declared.stop.BoundStop.{BoundStop}
use Rattle.ec_steps.specs.declared.stop.BoundStop.TheVariants.{BoundTooLarge, NoMemory}
use Rattle.ec_steps.specs.Bounds.{StopsBound}
use Rattle.ec_steps.specs.Ends.{most_steps}

pub objects_typed : (p : PlainProgram) (n : ℕ) (objs : List Obj) → AllByRecursion (IsObject p) (map plain_object objs)
    → length p.structs ≡ n → All (λ o. IsObjectType n (plain_type o.ty)) objs
objects_typed p n [] h same = All-nil (λ o. IsObjectType n (plain_type o.ty))
objects_typed p n (o ∷ objs) h same =
    All-cons (λ x. IsObjectType n (plain_type x.ty)) o objs (rw (← same) h.0.ty) (objects_typed p n objs h.1 same)

steps_from : (f : PlainObject → ℕ) (objs : List Obj) (n : ℕ) → fold (λ (a : ℕ) (o : Obj). a + f (plain_object o)) n objs
    ≡ fold (λ (a : ℕ) (x : PlainObject). a + f x) n (map plain_object objs)
steps_from f [] n = refl
steps_from f (o ∷ objs) n = steps_from f objs (n + f (plain_object o))

pub all_steps : (f : PlainObject → ℕ) (objs : List Obj) → sum_by (λ o. f (plain_object o)) objs ≡ sum_by f (map plain_object objs)
all_steps f objs = steps_from f objs 0

pub fewer_objects : (objs : List Obj) (n : ℕ) → length (map plain_object objs) ≤ n → length objs ≤ n
fewer_objects objs n l = let same = length-map objs plain_object in omega (arith, l, same)

pub fewer_functions : (funcs : List Func) → length (map plain_function funcs) ≤ 256 → length funcs ≤ 65_536
fewer_functions funcs l = let same = length-map funcs plain_function in omega (arith, l, same)

-- ---- numbers of 64 bits

held_by : (w : ℕ) (b : Bool) → nat_le w (2 ^ 64 - 1) ≡ b → (n : ℕ) → held w ≡ Some n → (n ≡ w) × (w ≤ 2 ^ 64 - 1)
held_by w true e n h = let same : Some w ≡ Some n = rw e at h in (cc, leb-true w (2 ^ 64 - 1) e)
held_by w false e n h = let no : None ≡ Some n = rw e at h in cc

not_held : (w : ℕ) (b : Bool) → nat_le w (2 ^ 64 - 1) ≡ b → held w ≡ None → 2 ^ 64 - 1 < w
not_held w true e h = let no : Some w ≡ None = rw e at h in cc
not_held w false e h = leb-false w (2 ^ 64 - 1) e

pub told : (start w n : ℕ) (work : Option ℕ) → work ≡ held w → option_and_then (λ words. held (start + words)) work ≡ Some n
    → n ≡ start + w
told start w n None e h = cc
told start w n (Some words) e h =
    let same = (held_by w _ refl words (sym e)).0 in
    let all = (held_by (start + words) _ refl n h).0 in
    rw (all, same) refl

pub too_large : (start w : ℕ) (work : Option ℕ) → work ≡ held w → option_and_then (λ words. held (start + words)) work ≡ None
    → 2 ^ 64 - 1 < start + w
too_large start w None e h = let l = not_held w _ refl (sym e) in omega (arith, l)
too_large start w (Some words) e h =
    let same = (held_by w _ refl words (sym e)).0 in
    let l = not_held (start + words) _ refl h in
    omega (arith, l, same)

-- ---- what is answered where all loops are counted

pub ends_by : {A : Type 0} (r : Result ℕ BoundStop) → A → IfOk r (λ _. A)
ends_by (Ok n) a = a
ends_by (Err stop) a = tt

pub stops_by : (p : PlainProgram) (m : Map) → LoopsAreCounted p → (r : Result ℕ BoundStop)
    → IfErr r (λ stop. (stop ≡ NoMemory) ⊎ ((stop ≡ BoundTooLarge) × (2 ^ 64 - 1 < most_steps p m))) → IfErr r (StopsBound p m)
stops_by p m counted (Ok n) h = tt
stops_by p m counted (Err stop) (inl e) = subst (StopsBound p m) (sym e) tt
stops_by p m counted (Err stop) (inr h) = subst (StopsBound p m) (sym h.0) (counted, h.1)
