-- Items of code, where they stand, and straight code as one change of the view.
use Rattle.std.specs.Prelude.{◌≡◌, ℕ, zero, suc, ◌+◌, ◌/◌, ◌%◌, ◌^◌, ◌<◌, ◌⊎◌, Bool, true, false, ◌&&◌, List, [], ◌∷◌}
use Rattle.std.specs.Prelude.{◌++◌, Some, ℤ, pos, negsuc, sum_by, ◌-◌, nat_lt, if◌then◌else◌}
use Rattle.ec_isa.specs.declared.instructions.Instr.{Instr}
use Rattle.ec_isa.specs.declared.instructions.Instr.TheVariants.{Lds, Sts, Jmp, Call, Rjmp, Rcall, Brbs, Brbc, Ldi}
use Rattle.ec_isa.specs.declared.instructions.Instr.TheVariants.{LddY, StdY}
use Rattle.ec_avr.specs.Effects.{relative}
use Rattle.ec_asm.specs.declared.items.AsmItem.{AsmItem}
use Rattle.ec_asm.specs.declared.items.AsmItem.TheVariants.{Plain, Label, JumpTo, CallTo, BranchTo, LoadPart, LoadObj}
use Rattle.ec_asm.specs.declared.items.AsmItem.TheVariants.{StoreObj}
use Rattle.ec_asm.specs.View.{View}
use Rattle.ec_asm.specs.Change.{Env, Object, change, goes_on, words}
use Rattle.ec_asm.specs.Run.{fetch}

-- ---- where items stand

-- an instruction stands from one word to another
pub record At (e : Env) (i : Instr) (pc end : ℕ) : Type 0 where
  pub is : fetch e pc ≡ Some i
  pub ends : end ≡ pc + words i
  pub room : end < 65536

-- the distance of a relative jump from one word to another
abbrev pub distance : ℕ → ℕ → ℤ
distance pc to = if nat_lt pc to then pos (to - pc - 1) else negsuc (pc - to)

-- a jump to a label: JMP, or RJMP where the label is near
abbrev pub JumpsAt : Env → ℕ → (pc end : ℕ) → Type 0
JumpsAt e l pc end =
    (At e (Jmp (e.word_of l)) pc end × (e.word_of l < 65536))
    ⊎ ((k : ℤ) × At e (Rjmp k) pc end × (relative pc k % 65536 ≡ e.word_of l))

-- a call of a label: CALL, or RCALL where the label is near
abbrev pub CallsAt : Env → ℕ → (pc end : ℕ) → Type 0
CallsAt e l pc end =
    (At e (Call (e.word_of l)) pc end × (e.word_of l < 65536))
    ⊎ ((k : ℤ) × At e (Rcall k) pc end × (relative pc k % 65536 ≡ e.word_of l))

abbrev pub branch_if : Bool → ℕ → ℤ → Instr
branch_if true flag k = Brbs flag k
branch_if false flag k = Brbc flag k

abbrev pub branch_unless : Bool → ℕ → ℤ → Instr
branch_unless true flag k = Brbc flag k
branch_unless false flag k = Brbs flag k

-- a branch to a label: over a jump, or alone where the label is near
abbrev pub BranchesAt : Env → Bool → ℕ → ℕ → (pc end : ℕ) → Type 0
BranchesAt e set flag l pc end =
    ((mid : ℕ) × (k : ℤ) × At e (branch_unless set flag k) pc mid × JumpsAt e l mid end × (relative pc k % 65536 ≡ end))
    ⊎ ((k : ℤ) × At e (branch_if set flag k) pc end × (relative pc k % 65536 ≡ e.word_of l))

-- a byte of an object stands at a distance from the base
pub record IsNear (e : Env) (q a : ℕ) : Type 0 where
  pub based : e.base < 65536
  pub distance_is : (e.base + q) % 65536 ≡ a
  pub object : e.kind a ≡ Object

-- a load of a byte by its address: LDS, or LDD by Y where it is an object's and near the base
abbrev pub LoadsAt : Env → (d a pc end : ℕ) → Type 0
LoadsAt e d a pc end = At e (Lds d a) pc end ⊎ ((q : ℕ) × At e (LddY d q) pc end × IsNear e q a)

-- so a store: STS, or STD by Y
abbrev pub StoresAt : Env → (a r pc end : ℕ) → Type 0
StoresAt e a r pc end = At e (Sts a r) pc end ⊎ ((q : ℕ) × At e (StdY q r) pc end × IsNear e q a)

abbrev pub part_of : ℕ → ℕ → ℕ
part_of n part = n / 256 ^ part % 256

-- a byte of the address of a byte of an object: the lower two by modulo 65,536, the third of the whole address
abbrev pub address_part : Env → (object offset part : ℕ) → ℕ
address_part e o k part = part_of (if nat_lt part 2 then e.address_of o k else e.far_of o k) part

-- a label that has a word stands at it
abbrev pub Stands : Env → AsmItem → (pc end : ℕ) → Type 0
Stands e (Plain i) pc end = At e i pc end
Stands e (Label l) pc end = (e.word_of l < 65536 → e.word_of l ≡ pc) × (end ≡ pc)
Stands e (JumpTo l) pc end = JumpsAt e l pc end
Stands e (CallTo l) pc end = CallsAt e l pc end
Stands e (BranchTo set flag l) pc end = BranchesAt e set flag l pc end
Stands e (LoadPart d o k part) pc end = At e (Ldi d (address_part e o k part)) pc end
Stands e (LoadObj d o k) pc end = LoadsAt e d (e.address_of o k) pc end
Stands e (StoreObj o k r) pc end = StoresAt e (e.address_of o k) r pc end

-- the items stand one after another, from one word to another
abbrev pub HasAt : Env → List AsmItem → (pc end : ℕ) → Type 0
HasAt e [] pc end = end ≡ pc
HasAt e (i ∷ is) pc end = (mid : ℕ) × Stands e i pc mid × HasAt e is mid end

-- ---- words

-- the words of an item in its long form, which do not depend on where it stands
abbrev pub item_words : AsmItem → ℕ
item_words (Plain i) = words i
item_words (Label l) = 0
item_words (JumpTo l) = 2
item_words (CallTo l) = 2
item_words (BranchTo set flag l) = 3
item_words (LoadPart d o k part) = 1
item_words (LoadObj d o k) = 2
item_words (StoreObj o k r) = 2

abbrev pub code_words : List AsmItem → ℕ
code_words items = sum_by item_words items

-- ---- straight code

abbrev pub is_straight : AsmItem → Bool
is_straight (Plain i) = goes_on i
is_straight (Label l) = true
is_straight (JumpTo l) = false
is_straight (CallTo l) = false
is_straight (BranchTo set flag l) = false
is_straight (LoadPart d o k part) = true
is_straight (LoadObj d o k) = true
is_straight (StoreObj o k r) = true

abbrev pub all_straight : List AsmItem → Bool
all_straight [] = true
all_straight (i ∷ is) = is_straight i && all_straight is

-- the steps that a straight item takes
abbrev pub item_steps : AsmItem → ℕ
item_steps (Label l) = 0
item_steps i = 1

abbrev pub code_steps : List AsmItem → ℕ
code_steps [] = 0
code_steps (i ∷ is) = item_steps i + code_steps is

abbrev pub item_change : Env → AsmItem → View → View
item_change e (Plain i) v = change e i v
item_change e (Label l) v = v
item_change e (JumpTo l) v = v
item_change e (CallTo l) v = v
item_change e (BranchTo set flag l) v = v
item_change e (LoadPart d o k part) v = change e (Ldi d (address_part e o k part)) v
item_change e (LoadObj d o k) v = change e (Lds d (e.address_of o k)) v
item_change e (StoreObj o k r) v = change e (Sts (e.address_of o k) r) v

-- what straight items do, one after another
abbrev pub block : Env → List AsmItem → View → View
block e [] v = v
block e (i ∷ is) v = block e is (item_change e i v)

-- one piece of code for each byte, rising
abbrev pub chain : (ℕ → List AsmItem) → ℕ → List AsmItem
chain body zero = []
chain body (suc n) = chain body n ++ body n
