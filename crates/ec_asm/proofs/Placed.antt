-- Items whose bytes stand in the flash stand there, and near jumps are jumps to their labels.
use Rattle.std.proofs.Common.{◌≡◌, ℕ, ◌+◌, ◌-◌, ◌*◌, ◌%◌, ◌<◌, ◌≤◌, ⊎_elim, inl, inr, Bool, true, false, ◌&&◌, List, [], ◌∷◌, ◌++◌, length, refl}
use Rattle.std.proofs.Common.{sym, ap, ◌∙◌, subst, arith, Option, Some, None, ℤ, pos, negsuc}
use Rattle.std.specs.Prelude.{if◌then◌else◌, nat_lt, IsTrue, slice_index}
use Rattle.std.specs.List.{list_all}
use Rattle.std.proofs.lemmas.Bool.{lt-ltb, cases_lt, ltb-true, and_parts}
use Rattle.std.proofs.lemmas.List.{get_or_append_left, get_or-append-add, length-append}
use Rattle.ec_isa.specs.declared.instructions.Instr.{Instr}
use Rattle.ec_isa.specs.declared.instructions.Instr.TheVariants.{Rjmp, Rcall, Jmp, Lds, Sts, Call, Ldi}
use Rattle.ec_isa.specs.Table.{in_table}
use Rattle.ec_avr.specs.Effects.{relative}
use Rattle.ec_avr.specs.State.{State}
use Rattle.ec_avr.specs.Machine.{is_whole, instruction_at}
use Rattle.ec_avr.specs.Placed.{code_bytes, StandsAt}
use Rattle.ec_asm.proofs.MachineLaws.{FlashLaws}
use Rattle.ec_asm.specs.declared.items.AsmItem.{AsmItem}
use Rattle.ec_asm.specs.declared.items.AsmItem.TheVariants.{Plain, Label, JumpTo, CallTo, BranchTo, LoadPart, LoadObj, StoreObj}
use Rattle.ec_asm.specs.Change.{Env, words}
use Rattle.ec_asm.specs.Run.{fetch}
use Rattle.ec_asm.specs.Items.{At, Stands, HasAt, BranchesAt, branch_if, branch_unless, item_words, code_words, address_part, distance}
use Rattle.ec_asm.proofs.Fetched.{fetch_kept, free_keeps}
use Rattle.ec_asm.proofs.ItemWords.{words_cons}
use Rattle.ec_asm.specs.Placed.{instructions, bytes_of_all, code_image, LabelStands, HoldsFrom, IsPlaced}

-- ---- one instruction

where_true : (b : Bool) (o : Option Instr) (i : Instr) → IsTrue b → o ≡ Some i → (if b then o else None) ≡ Some i
where_true true o i h q = q
where_true false o i h q = cc

-- the instruction whose bytes stand there is fetched there
pub fetch_stands : FlashLaws → (e : Env) (i : Instr) (pc : ℕ) → 65536 ≤ e.base → StandsAt i e.flash pc → fetch e pc ≡ Some i
fetch_stands laws e i pc free h =
    let s : State = record { mem = record { flash = e.flash; «data» = [] }; pc = pc; core = e.core } in
    fetch_kept e pc i (where_true (is_whole s) (instruction_at s pc) i (laws.whole s i h) (laws.is s i pc h))
    (free_keeps e.base i free)

length_code : (i : Instr) → length (code_bytes i) ≡ 2 * words i
length_code (Lds d k) = refl
length_code (Sts k r) = refl
length_code (Jmp k) = refl
length_code (Call k) = refl
length_code _ = refl

holds_at : FlashLaws → (e : Env) (i : Instr) (pc : ℕ) → 65536 ≤ e.base → IsTrue (in_table i) → HoldsFrom e.flash (2 * pc) (code_bytes i)
    → pc + words i < 65536 → At e i pc (pc + words i)
holds_at laws e i pc free t h r = record {
  is = fetch_stands laws e i pc free (record { known = t; within = h.within; bytes = h.bytes_there });
  ends = refl;
  room = r;
}

-- ---- bytes one after another

front_holds : (flash : List ℕ) (at : ℕ) (a b : List ℕ) → HoldsFrom flash at (a ++ b) → HoldsFrom flash at a
front_holds flash at a b h =
    let n = length-append a b in
    let w = h.within in
    record { within = omega arith; bytes_there = λ k l. h.bytes_there k (omega arith) ∙ get_or_append_left a b 0 k l }

rest_holds : (flash : List ℕ) (at : ℕ) (a b : List ℕ) → HoldsFrom flash at (a ++ b) → HoldsFrom flash (at + length a) b
rest_holds flash at a b h =
    let n = length-append a b in
    let w = h.within in
    record {
      within = omega arith;
      bytes_there = λ k l.
          let q : at + length a + k ≡ at + (length a + k) = omega arith in
          ap (λ j. slice_index flash j) q ∙ h.bytes_there (length a + k) (omega arith) ∙ get_or-append-add a b k 0;
    }

at_index : (flash : List ℕ) (at to : ℕ) (bytes : List ℕ) → at ≡ to → HoldsFrom flash at bytes → HoldsFrom flash to bytes
at_index flash at to bytes q h = subst (λ n. HoldsFrom flash n bytes) q h

-- ---- items

one_stands : FlashLaws → (e : Env) (i : Instr) (pc : ℕ) → 65536 ≤ e.base → IsTrue (in_table i && true)
    → HoldsFrom e.flash (2 * pc) (code_bytes i ++ []) → pc + words i < 65536 → At e i pc (pc + words i)
one_stands laws e i pc free t h r =
    holds_at laws e i pc free (and_parts (in_table i) true t).0 (front_holds e.flash (2 * pc) (code_bytes i) [] h) r

jump_below : (k : ℕ) → IsTrue (in_table (Jmp k)) → k < 65536
jump_below k t = ltb-true k 65536 t

call_below : (k : ℕ) → IsTrue (in_table (Call k)) → k < 65536
call_below k t = ltb-true k 65536 t

branch_words : (set : Bool) (flag : ℕ) (k : ℤ) → words (branch_unless set flag k) ≡ 1
branch_words true flag k = refl
branch_words false flag k = refl

-- a jump forward
forward : (pc k : ℕ) → pc + 1 + k < 65536 → relative pc (pos k) % 65536 ≡ pc + 1 + k
forward pc k small = omega arith

branch_stands : FlashLaws → (e : Env) (set : Bool) (flag l pc : ℕ) → 65536 ≤ e.base
    → IsTrue (list_all in_table (instructions e (BranchTo set flag l)))
    → HoldsFrom e.flash (2 * pc) (bytes_of_all (instructions e (BranchTo set flag l))) → pc + 3 < 65536
    → BranchesAt e set flag l pc (pc + 3)
branch_stands laws e set flag l pc free t h r =
    let i = branch_unless set flag (pos 2) in
    let j = Jmp (e.word_of l) in
    let a = and_parts (in_table i) (in_table j && true) t in
    let b = and_parts (in_table j) true a.1 in
    let w = branch_words set flag (pos 2) in
    let n = length_code i in
    let first = holds_at laws e i pc free a.0 (front_holds e.flash (2 * pc) (code_bytes i) (code_bytes j ++ []) h) (omega arith) in
    let more = rest_holds e.flash (2 * pc) (code_bytes i) (code_bytes j ++ []) h in
    let second = one_stands laws e j (pc + 1) free a.1
    (at_index e.flash (2 * pc + length (code_bytes i)) (2 * (pc + 1)) (code_bytes j ++ []) (omega arith) more) (omega arith) in
    let first' : At e i pc (pc + 1) = subst (λ x. At e i pc (pc + x)) w first in
    let q : pc + 1 + 2 ≡ pc + 3 = omega arith in
    let second' : At e j (pc + 1) (pc + 3) = subst (λ x. At e j (pc + 1) x) q second in
    inl (pc + 1, pos 2, first', inl (second', jump_below (e.word_of l) b.0), forward pc 2 (omega arith) ∙ q)

item_stands : FlashLaws → (e : Env) (i : AsmItem) (pc : ℕ) → 65536 ≤ e.base → IsTrue (list_all in_table (instructions e i)) → LabelStands e i pc
    → HoldsFrom e.flash (2 * pc) (bytes_of_all (instructions e i)) → pc + item_words i < 65536
    → Stands e i pc (pc + item_words i)
item_stands laws e (Plain i) pc free t q h r = one_stands laws e i pc free t h r
item_stands laws e (Label l) pc free t q h r = (q, omega arith)
item_stands laws e (JumpTo l) pc free t q h r =
    inl (one_stands laws e (Jmp (e.word_of l)) pc free t h r, jump_below (e.word_of l) (and_parts (in_table (Jmp (e.word_of l))) true t).0)
item_stands laws e (CallTo l) pc free t q h r =
    inl (one_stands laws e (Call (e.word_of l)) pc free t h r, call_below (e.word_of l) (and_parts (in_table (Call (e.word_of l))) true t).0)
item_stands laws e (BranchTo set flag l) pc free t q h r = branch_stands laws e set flag l pc free t h r
item_stands laws e (LoadPart d o k part) pc free t q h r = one_stands laws e (Ldi d (address_part e o k part)) pc free t h r
item_stands laws e (LoadObj d o k) pc free t q h r = inl (one_stands laws e (Lds d (e.address_of o k)) pc free t h r)
item_stands laws e (StoreObj o k r') pc free t q h r = inl (one_stands laws e (Sts (e.address_of o k) r') pc free t h r)

length_one : (i : Instr) → length (code_bytes i ++ []) ≡ 2 * words i
length_one i = omega (arith, length-append (code_bytes i) [], length_code i)

length_item : (e : Env) (i : AsmItem) → length (bytes_of_all (instructions e i)) ≡ 2 * item_words i
length_item e (Plain i) = length_one i
length_item e (Label l) = refl
length_item e (JumpTo l) = refl
length_item e (CallTo l) = refl
length_item e (BranchTo true flag l) = refl
length_item e (BranchTo false flag l) = refl
length_item e (LoadPart d o k part) = refl
length_item e (LoadObj d o k) = refl
length_item e (StoreObj o k r) = refl

-- items whose bytes stand there stand there
pub items_stand : FlashLaws → (e : Env) (items : List AsmItem) (pc : ℕ) → IsPlaced e items pc
    → HasAt e items pc (pc + code_words items)
items_stand laws e [] pc h = let q : code_words [] ≡ 0 = refl in omega arith
items_stand laws e (i ∷ is) pc h =
    let a = bytes_of_all (instructions e i) in
    let b = code_image e is in
    let s = words_cons i is in
    let r = h.room in
    let n = length_item e i in
    let q : pc + code_words (i ∷ is) ≡ pc + item_words i + code_words is = omega arith in
    let first = item_stands laws e i pc h.free h.known.0 h.labels.0 (front_holds e.flash (2 * pc) a b h.image) (omega arith) in
    let more = at_index e.flash (2 * pc + length a) (2 * (pc + item_words i)) b (omega arith) (rest_holds e.flash (2 * pc) a b h.image) in
    let rest =
    items_stand laws e is (pc + item_words i) (record { known = h.known.1; labels = h.labels.1; image = more; room = omega arith; free = h.free }) in
    (pc + item_words i, first, subst (λ x. HasAt e is (pc + item_words i) x) (sym q) rest)

-- ---- near jumps

pub relative-distance : (pc to : ℕ) → pc < 65536 → to < 65536 → relative pc (distance pc to) % 65536 ≡ to
relative-distance pc to l m = by_case (nat_lt pc to) refl
  where
    by_case : (b : Bool) → nat_lt pc to ≡ b
        → relative pc (if b then pos (to - pc - 1) else negsuc (pc - to)) % 65536 ≡ to
    by_case true q = let h = ltb-true pc to q in omega arith
    by_case false q =
        ⊎_elim (λ h. let z : true ≡ false = sym (lt-ltb pc to h) ∙ q in cc) (λ h. omega arith) (cases_lt pc to)

-- a near jump stands for a jump to its label
pub near_jump : (e : Env) (l pc end : ℕ) → At e (Rjmp (distance pc (e.word_of l))) pc end → e.word_of l < 65536
    → Stands e (JumpTo l) pc end
near_jump e l pc end a m =
    let r = a.room in
    let n = a.ends in
    inr (distance pc (e.word_of l), a, relative-distance pc (e.word_of l) (omega arith) m)

pub near_branch : (e : Env) (set : Bool) (flag l pc end : ℕ)
    → At e (branch_if set flag (distance pc (e.word_of l))) pc end → pc < 65536 → e.word_of l < 65536
    → Stands e (BranchTo set flag l) pc end
near_branch e set flag l pc end a r m = inr (distance pc (e.word_of l), a, relative-distance pc (e.word_of l) r m)

pub near_call : (e : Env) (l pc end : ℕ) → At e (Rcall (distance pc (e.word_of l))) pc end → e.word_of l < 65536
    → Stands e (CallTo l) pc end
near_call e l pc end a m =
    let r = a.room in
    let n = a.ends in
    inr (distance pc (e.word_of l), a, relative-distance pc (e.word_of l) (omega arith) m)
