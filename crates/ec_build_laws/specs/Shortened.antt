-- The code of a placed program: that of its operations, with what is near in one word.
use Rattle.std.specs.Prelude.{◌≡◌, ℕ, ◌+◌, ◌≤◌, nat_lt, Bool, true, false, ◌&&◌, if◌then◌else◌, List, [], ◌∷◌, Option, Some, None}
use Rattle.std.specs.Prelude.{slice_get}
use Rattle.ec_space.specs.declared.space.Home.{Home}
use Rattle.ec_space.specs.declared.space.Home.TheVariants.{Flash, Far, Data}
use Rattle.ec_space.specs.declared.space.Place.{Place}
use Rattle.ec_asm.specs.Items.{code_words}
use Rattle.ec_asm.specs.Valid.{ValidAsm}
use Rattle.ec_asm.specs.declared.items.AsmProgram.{AsmProgram}
use Rattle.ec_asm_based.specs.Based.{based_items}
use Rattle.ec_asm_based.specs.declared.reach.Reach.{Reach}
use Rattle.ec_asm_near.specs.Near.{near_items}
use Rattle.ec_core.specs.Layout.{size_of_type}
use Rattle.ec_core.specs.Plain.{PlainStruct, PlainStorage, register, PlainObject, PlainProgram}

-- ---- what Y reaches

-- an object in data memory: not in flash, and no named register
abbrev pub is_in_memory : PlainStorage → Home → Bool
is_in_memory (register first) home = false
is_in_memory storage Data = true
is_in_memory storage Flash = false
is_in_memory storage Far = false

abbrev pub nowhere : Reach
nowhere = record { first = 0; bytes = 0 }

-- the bytes of an object in data memory, from its place on, where they all have an address
abbrev pub reach_of : List PlainStruct → PlainObject → Option Place → Reach
reach_of structs o None = nowhere
reach_of structs o (Some q) =
    if is_in_memory o.storage o.home && nat_lt (q.offset + size_of_type structs o.ty) 65536
    then record { first = q.offset; bytes = size_of_type structs o.ty }
    else nowhere

-- those of objects that are numbered from i on
abbrev pub reaches_from : List PlainStruct → List Place → (i : ℕ) → List PlainObject → List Reach
reaches_from structs places i [] = []
reaches_from structs places i (o ∷ os) =
    reach_of structs o (slice_get places i) ∷ reaches_from structs places (i + 1) os

abbrev pub reaches_of : PlainProgram → List Place → List Reach
reaches_of p places = reaches_from p.structs places 0 p.objects

-- ---- the code

-- Code is other code in which bytes near the base go by Y, and jumps, calls and branches to labels that are near are in
-- one word, and branches to others that RJMP reaches in two
pub record IsShortened (reaches : List Reach) (long short : AsmProgram) : Type 0 where
  pub items : short.items.items ≡ near_items (based_items reaches long.items.items)
  pub frames : short.frames.items ≡ long.frames.items
  pub entry : short.entry ≡ long.entry

-- what can be placed can be placed shortened, and has no more words
abbrev pub ShortenedIsValid : Type 0
ShortenedIsValid =
    (objects : List ℕ) (work : ℕ) (reaches : List Reach) (long short : AsmProgram) → IsShortened reaches long short
    → ValidAsm objects work long
    → ValidAsm objects work short × (code_words short.items.items ≤ code_words long.items.items)
