-- Objects, pointers to them, and accesses of their leaves (ISO/IEC 9899:1999, 6.2.4, 6.3.2.1 and 6.5; ISO/IEC TR
-- 18037:2008, 5.1).
use Rattle.std.specs.Prelude.{ℕ, ◌+◌, ◌==◌, Bool, true, false, ◌&&◌, ◌||◌, if◌then◌else◌, List, [], ◌∷◌, length, take}
use Rattle.std.specs.Prelude.{replicate, Option, Some, None, option_map, option_and_then, unwrap_or, slice_get}
use Rattle.std.specs.List.{position_from}
use Rattle.ec_space.specs.declared.space.Home.{Home}
use Rattle.ec_space.specs.declared.space.Home.TheVariants.{Flash as FlashHome, Far as FarHome, Data as DataHome}
use Rattle.ec_space.specs.declared.space.SpaceId.{SpaceId}
use Rattle.ec_space.specs.Spaces.{holds}
use Rattle.ec_core.specs.declared.values.ObjectPointer.{ObjectPointer}
use Rattle.ec_core.specs.declared.values.Referent.{Referent}
use Rattle.ec_core.specs.declared.values.Undefined.TheVariants.{Access as NoAccess, Unset, ConstWrite}
use Rattle.ec_core.specs.declared.values.Value.{Value}
use Rattle.ec_core.specs.declared.values.Value.TheVariants.{Number, Pointer}
use Rattle.ec_core.specs.Layout.{members_layout, struct_layouts, size_of_type, leaves_of_type}
use Rattle.ec_core.specs.Operators.{Operand, same_type}
use Rattle.ec_core.specs.Plain.{PlainType, struct, PlainStorage, static, local, param, register, PlainObject}
use Rattle.ec_core.specs.Plain.{PlainProgram}
use Rattle.ec_core.specs.Pointers.{Pointer as PointerValue, is_usable}
use Rattle.ec_core.specs.State.{Event, Read, Write, told, ObjectState, State, with_event, changed_at, with_object}
use Rattle.ec_core.specs.State.{Outcome, got, undefined}
use Rattle.ec_core.specs.Typing.{pointee}

-- ---- pointers and what they point into

-- a pointer to the newest instance of an object, at its beginning
abbrev pub pointer_to : ℕ → State → PointerValue
pointer_to o s = option_map (λ x. record { object = o; instance = x.serial; offset = 0 }) (slice_get s.objects o)

-- the pointer's instance is the newest one of its object, and lives
abbrev pub is_live_in : ObjectPointer → ObjectState → Bool
is_live_in p x = x.live && x.serial == p.instance

-- what stands beside a pointer without an object; it counts for nothing
abbrev pub nothing_known : Referent
nothing_known = record { live = false; size = 0; home = DataHome }

-- what is known of the instance that a pointer points into
abbrev pub referent_of : PlainProgram → PointerValue → State → Referent
referent_of program None s = nothing_known
referent_of program (Some p) s =
    unwrap_or (option_and_then (λ o.
    option_map (λ x. record { live = is_live_in p x; size = size_of_type program.structs o.ty; home = o.home })
    (slice_get s.objects p.object)) (slice_get program.objects p.object)) nothing_known

abbrev pub referent : PlainProgram → Value → State → Referent
referent program (Number n) s = nothing_known
referent program (Pointer p) s = referent_of program p s

-- the size of what a type points to
abbrev pub element_size : PlainProgram → PlainType → ℕ
element_size program ty = unwrap_or (option_map (size_of_type program.structs) (pointee ty)) 0

abbrev pub operand_of : PlainProgram → PlainType → Value → State → Operand
operand_of program ty v s = record { ty = ty; value = v; element = element_size program ty; of = referent program v s }

-- where the member with a number begins in a type, which is that of a struct (6.5.2.3, 6.7.2.1)
abbrev pub member_offset : PlainProgram → PlainType → ℕ → ℕ
member_offset program (struct index) i =
    unwrap_or (option_map (λ s. (members_layout (struct_layouts program.structs) (take i s.members)).size)
    (slice_get program.structs index)) 0
member_offset program ty i = 0

-- ---- the life of objects

-- its declaration is reached: a new instance, whose leaves are unset. The former one is no longer live
abbrev pub renewed : ℕ → ObjectState → ObjectState
renewed leaves x = record { serial = x.serial + 1; live = true; leaves = replicate leaves None }

abbrev pub ended : ObjectState → ObjectState
ended x = record { serial = x.serial; live = false; leaves = x.leaves }

abbrev pub leaf_count : PlainProgram → PlainType → ℕ
leaf_count program ty = length (leaves_of_type program.structs ty)

abbrev pub begun : PlainProgram → ℕ → State → State
begun program o s =
    with_object o (renewed (unwrap_or (option_map (λ x. leaf_count program x.ty) (slice_get program.objects o)) 0)) s

-- the objects are no longer live
abbrev pub all_ended : List ℕ → State → State
all_ended [] s = s
all_ended (o ∷ os) s = all_ended os (with_object o ended s)

-- a function's parameters and locals
abbrev pub belongs_to : ℕ → PlainStorage → Bool
belongs_to f (static inits) = false
belongs_to f (local g) = g == f
belongs_to f (param g) = g == f
belongs_to f (register r) = false

abbrev pub frame_ended_in : ℕ → List PlainObject → List ObjectState → List ObjectState
frame_ended_in f [] xs = xs
frame_ended_in f (o ∷ os) [] = []
frame_ended_in f (o ∷ os) (x ∷ xs) = (if belongs_to f o.storage then ended x else x) ∷ frame_ended_in f os xs

-- the body of a function ends
abbrev pub frame_ended : PlainProgram → ℕ → State → State
frame_ended program f s =
    record {
      objects = frame_ended_in f program.objects s.objects;
      groups = s.groups;
      events = s.events;
      work = s.work;
    }

-- ---- accesses

-- a leaf of a live object, through a place in a space
pub record Access : Type 0 where
  pub object : ℕ
  pub leaf : ℕ
  pub space : SpaceId
  pub declared : PlainObject
  pub state : ObjectState

-- the number of the leaf of this type that begins at an offset in an object
abbrev pub leaf_at : PlainProgram → PlainObject → PlainType → ℕ → Option ℕ
leaf_at program o ty offset =
    position_from (λ leaf. leaf.at == offset && same_type leaf.ty ty) 0 (leaves_of_type program.structs o.ty)

-- an access of a scalar type through a pointer into a space: the pointer's object is live, its home is in the space,
-- and a leaf of that type begins there
abbrev pub access_of : PlainProgram → PlainType → SpaceId → ObjectPointer → PlainObject → ObjectState → Option Access
access_of program ty space p o x =
    if is_live_in p x && holds space o.home
    then option_map (λ k. record { object = p.object; leaf = k; space = space; declared = o; state = x })
    (leaf_at program o ty p.offset)
    else None

abbrev pub access : PlainProgram → PlainType → Option SpaceId → PointerValue → State → Option Access
access program ty space to s =
    option_and_then (λ sp. option_and_then
    (λ p. option_and_then (λ o. option_and_then (λ x. access_of program ty sp p o x) (slice_get s.objects p.object))
    (slice_get program.objects p.object)) to) space

-- accesses of named registers are no events (TR 18037, 5.2: such an object has no address)
abbrev pub recorded : PlainStorage → Event → State → State
recorded (static inits) e s = with_event e s
recorded (local f) e s = with_event e s
recorded (param f) e s = with_event e s
recorded (register r) e s = s

-- the value of a leaf, where it is set
abbrev pub leaf_of : ObjectState → ℕ → Option Value
leaf_of x k = option_and_then (λ v. v) (slice_get x.leaves k)

-- a value that can be read: no pointer to an object that is not live
abbrev pub is_readable : PlainProgram → Value → State → Bool
is_readable program (Number n) s = true
is_readable program (Pointer p) s = is_usable p (referent_of program p s)

abbrev pub read_value : PlainProgram → Access → Option Value → State → Outcome Value
read_value program a None s = undefined Unset s
read_value program a (Some v) s =
    if is_readable program v s then got v (recorded a.declared.storage (Read a.object a.leaf a.space (told v)) s)
    else undefined Unset s

-- one read of a leaf (6.3.2.1)
abbrev pub read : PlainProgram → Option Access → State → Outcome Value
read program None s = undefined NoAccess s
read program (Some a) s = read_value program a (leaf_of a.state a.leaf) s

abbrev pub with_leaf : ℕ → Value → ObjectState → ObjectState
with_leaf k v x = record { serial = x.serial; live = x.live; leaves = changed_at k (λ was. Some v) x.leaves }

-- a leaf gets a value
abbrev pub stored : Access → Value → State → State
stored a v s =
    recorded a.declared.storage (Write a.object a.leaf a.space (told v)) (with_object a.object (with_leaf a.leaf v) s)

-- what is kept in flash is not written
abbrev pub is_read_only : Home → Bool
is_read_only FlashHome = true
is_read_only FarHome = true
is_read_only DataHome = false

-- const objects and those kept in flash are not written (6.7.3)
abbrev pub is_fixed : PlainObject → Bool
is_fixed o = o.const || is_read_only o.home

-- one write of a leaf, whose value is that of the assignment (6.5.16)
abbrev pub write : Option Access → Value → State → Outcome Value
write None v s = undefined NoAccess s
write (Some a) v s = if is_fixed a.declared then undefined ConstWrite s else got v (stored a v s)

-- a leaf, by its number, of the newest instance of an object, in the space of its declaration
abbrev pub own_access : PlainProgram → ℕ → ℕ → State → Option Access
own_access program o k s =
    option_and_then (λ d. option_and_then
    (λ x. if x.live && holds d.space d.home
    then Some (record { object = o; leaf = k; space = d.space; declared = d; state = x }) else None)
    (slice_get s.objects o)) (slice_get program.objects o)

abbrev pub first_write : Option Access → Value → State → Outcome Value
first_write None v s = undefined NoAccess s
first_write (Some a) v s = got v (stored a v s)

-- the initialisation of a leaf (6.7.8): const objects are written too
abbrev pub initialised : PlainProgram → ℕ → ℕ → Value → State → Outcome Value
initialised program o k v s = first_write (own_access program o k s) v s
