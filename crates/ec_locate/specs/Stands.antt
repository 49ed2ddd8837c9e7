-- The code of a placed program stands in its image.
use Rattle.std.specs.Prelude.{ℕ, if◌then◌else◌, List}
use Rattle.ec_asm.specs.Change.{Env, Kind}
use Rattle.ec_asm.specs.Placed.{IsPlaced}
use Rattle.ec_asm.specs.Valid.{ValidAsm, stands_once}
use Rattle.ec_asm.specs.declared.items.AsmItem.{AsmItem}
use Rattle.ec_asm.specs.declared.items.AsmProgram.{AsmProgram}
use Rattle.ec_core.specs.Plain.{PlainProgram}
use Rattle.ec_map.specs.Maps.{ValidMap}
use Rattle.ec_map.specs.declared.map.Map.{Map}
use Rattle.ec_locate.specs.Code.{label_word, address_of, far_of}
use Rattle.ec_locate.specs.Entries.{work_size}
use Rattle.ec_locate.specs.Placing.{IsLocated, object_sizes, layout_by, last_of}
use Rattle.ec_locate.specs.declared.placing.Located.{Located}

-- The word of a label that stands once. Any other label has none: no item of a valid program refers to it
abbrev pub own_word : List AsmItem → ℕ → ℕ
own_word items l = if stands_once items l then label_word items l else 65536

-- the core and the flash of a placed program, the words of its labels and the addresses of what its code names, where Y is free.
-- What stands at an address is for the reader to say
abbrev pub environment : PlainProgram → Map → AsmProgram → Located → (kind table : ℕ → Kind) → Env
environment p m asm l kind table = record {
  core = m.core;
  flash = l.image.bytes.items;
  word_of = own_word asm.items.items;
  address_of = address_of (layout_by p m asm) (last_of m);
  far_of = far_of (layout_by p m asm) (last_of m);
  base = 65536;
  kind = kind;
  table = table;
}

-- the code of a placed program stands in its image from word 0 on, with its labels and the places of objects put in
abbrev pub CodeStands : Type 0
CodeStands =
    (p : PlainProgram) (m : Map) (asm : AsmProgram) (l : Located) (kind table : ℕ → Kind) → ValidMap m
    → ValidAsm (object_sizes p) (work_size m.io) asm → IsLocated p m asm l
    → IsPlaced (environment p m asm l kind table) asm.items.items 0
