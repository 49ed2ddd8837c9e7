-- A load through a pointer whose tag tells the bank.
use Rattle.std.proofs.Common.{◌≡◌, ◌≢◌, ℕ, ◌+◌, ◌%◌, ◌<◌, ◌≤◌, ◌==◌, List, [], ◌∷◌, ◌++◌}
use Rattle.std.proofs.Common.{pos, refl, sym, ap, ◌∙◌, subst, arith}
use Rattle.std.specs.Prelude.{if◌then◌else◌}
use Rattle.std.specs.Int.{bit_at}
use Rattle.ec_isa.specs.declared.instructions.Instr.TheVariants.{Rjmp, Sbrs}
use Rattle.ec_avr.specs.declared.machine.Access.{Access}
use Rattle.ec_asm.specs.declared.items.AsmItem.TheVariants.{LoadObj}
use Rattle.ec_asm.specs.declared.pieces.Location.{Location}
use Rattle.ec_asm.specs.declared.pieces.Location.TheVariants.{InRegisters, InMemory}
use Rattle.ec_asm.specs.View.{View, pair}
use Rattle.ec_asm.specs.Change.{Env, Own}
use Rattle.ec_asm.specs.Run.{Running, act}
use Rattle.ec_asm.specs.Items.{At, HasAt, block, code_steps}
use Rattle.ec_asm.specs.Laws.{PartsStand, StraightCodeGoes, RunsJoin, SetBitSkips}
use Rattle.ec_asm.specs.Pieces.{StandsFrom}
use Rattle.ec_asm.specs.PieceLaws.{CopiesAreRight}
use Rattle.ec_asm.specs.Takes.{Goes}
use Rattle.ec_asm.proofs.Bytes.{put_other}
use Rattle.ec_select_pointers.specs.Accesses.{point_code, data_bytes, flash_bytes, bytes_words, tag_test, over}
use Rattle.ec_select_pointers.specs.Accesses.{either_bytes}
use Rattle.ec_select_pointers.specs.AccessLaws.{Brings, HasPointer, data_at, flash_at}
use Rattle.ec_select_pointers.specs.AccessLaws.{address_in, DataIsLoadedByTag, FlashIsLoadedByTag}
use Rattle.ec_select_pointers.proofs.Accessed.{pointed, data_brought, flash_follows}
use Rattle.ec_select_pointers.proofs.Short.{point_short, all_data_short, all_flash_short, data_has_words}
use Rattle.ec_asm.proofs.ItemWords.{straight_ends, straight_room}
use Rattle.ec_select_pointers.proofs.Short.{flash_has_words, data_far, flash_far}

-- the laws of code that this rests on
pub record Lower : Type 0 where
  pub copies : CopiesAreRight
  pub parts : PartsStand
  pub straight : StraightCodeGoes
  pub joins : RunsJoin
  pub skips : SetBitSkips

-- ---- the test

-- only R0 has changed
record KeepsAllButR0 (v u : View) : Type 0 where
  same : (k : ℕ) → k ≢ 0 → u.at k ≡ v.at k
  flags : u.flags ≡ v.flags
  inputs : u.inputs ≡ v.inputs
  safe : u.safe ≡ v.safe
  seen : u.seen ≡ v.seen

-- a run of one or two steps that has changed nothing but R0
record Tests (e : Env) (pc : ℕ) (v : View) (end : ℕ) : Type 0 where
  steps : ℕ
  at_least : 1 ≤ steps
  at_most : steps ≤ 2
  last : View
  goes : Goes e steps pc v end last
  keeps : KeepsAllButR0 v last

-- R0 has a byte, and nothing else has changed
record TakesByte (v u : View) (x : ℕ) : Type 0 where
  here : u.at 0 ≡ x
  keeps : KeepsAllButR0 v u

tested : (lower : Lower) (e : Env) (p : Location) (a pc jump next w : ℕ) (v : View) → StandsFrom e p 3 a Own
    → HasAt e (tag_test p) pc jump → At e (Rjmp (pos w)) jump next
    → Tests e pc v (if bit_at (v.at (a + 2)) 7 == 1 then next else jump)
tested lower e (InRegisters r) a pc jump next w v s at over =
    let place : r + 2 ≡ a + 2 = s.at 2 (omega arith) in
    let mid : at.0 ≡ jump = sym at.2 in
    let test : At e (Sbrs (r + 2) 7) pc jump = subst (λ m. At e (Sbrs (r + 2) 7) pc m) mid at.1 in
    let g = lower.skips e (r + 2) 7 (Rjmp (pos w)) pc jump next v test over in
    record {
      steps = 1;
      at_least = omega arith;
      at_most = omega arith;
      last = v;
      goes = subst (λ k. Goes e 1 pc v (if bit_at (v.at k) 7 == 1 then next else jump) v) place g;
      keeps = record { same = λ k n. refl; flags = refl; inputs = refl; safe = refl; seen = refl };
    }
tested lower e (InMemory o j) a pc jump next w v s at over =
    let place : e.address_of o (j + 2) ≡ a + 2 = s.at 2 (omega arith) in
    let kind : e.kind (a + 2) ≡ Own = s.kind 2 (omega arith) in
    let ua = s.clear in
    let rest = at.2 in
    let mid : rest.0 ≡ jump = sym rest.2 in
    let test : At e (Sbrs 0 7) at.0 jump = subst (λ m. At e (Sbrs 0 7) at.0 m) mid rest.1 in
    let load = LoadObj 0 o (j + 2) ∷ [] in
    let u = block e load v in
    let taken : TakesByte v u (v.at (a + 2)) = rw (place, kind) (record {
      here = refl;
      keeps = record {
        same = λ k n. put_other v.at 0 (v.at (a + 2)) k n;
        flags = refl;
        inputs = refl;
        safe = refl;
        seen = refl;
      };
    }) in
    let first : Goes e 1 pc v at.0 u = lower.straight e load pc at.0 v refl (at.0, at.1, refl) in
    let g = lower.skips e 0 7 (Rjmp (pos w)) at.0 jump next u test over in
    let to = if bit_at (v.at (a + 2)) 7 == 1 then next else jump in
    let second : Goes e 1 at.0 u to u = subst (λ x. Goes e 1 at.0 u (if bit_at x 7 == 1 then next else jump) u) taken.here g in
    record {
      steps = 1 + 1;
      at_least = omega arith;
      at_most = omega arith;
      last = u;
      goes = lower.joins e 1 1 pc at.0 to v u u first second;
      keeps = taken.keeps;
    }

-- a jump over so many words
pub jumps_over : (e : Env) (w pc next end : ℕ) (v : View) → At e (Rjmp (pos w)) pc next → end ≡ next + w → end < 65536
    → Goes e 1 pc v end v
jumps_over e w pc next end v at q l =
    let m = at.ends in
    let to : (pc + 1 + w) % 65536 ≡ end = omega arith in
    record { by = ap (λ o. act e o pc v) at.is ∙ ap (λ k. Running k v) to }

-- ---- where the parts stand

record Stands (e : Env) (p q : Location) (n pc end : ℕ) : Type 0 where
  test : ℕ
  jump : ℕ
  from_data : ℕ
  skip : ℕ
  from_flash : ℕ
  points : HasAt e (point_code p) pc test
  tests : HasAt e (tag_test p) test jump
  jumps : At e (Rjmp (pos (bytes_words q n + 1))) jump from_data
  loads_data : HasAt e (data_bytes q n) from_data skip
  skips : At e (Rjmp (pos (bytes_words q n))) skip from_flash
  loads_flash : HasAt e (flash_bytes q n) from_flash end
  data_words : skip ≡ from_data + bytes_words q n
  flash_words : end ≡ from_flash + bytes_words q n
  room : end < 65536

stands : (lower : Lower) (e : Env) (p q : Location) (n b pc end : ℕ) → StandsFrom e q n b Own → HasAt e (point_code p ++ (tag_test p ++ either_bytes q n)) pc end
    → Stands e p q n pc end
stands lower e p q n b pc end st at =
    let w = bytes_words q n in
    let last = over w ++ flash_bytes q n in
    let a = lower.parts e (point_code p) (tag_test p ++ either_bytes q n) pc end at in
    let t = lower.parts e (tag_test p) (either_bytes q n) a.0 end a.2 in
    let c = t.2 in
    let d = lower.parts e (data_bytes q n) last c.0 end c.2 in
    let f = d.2 in
    let x = straight_ends e (data_bytes q n) c.0 d.0 (all_data_short q n).straight (data_far e q n b st) d.1 in
    let y = straight_room e (flash_bytes q n) f.0 end (all_flash_short q n).straight (flash_far e q n b st) f.2 in
    record {
      test = a.0;
      jump = t.0;
      from_data = c.0;
      skip = d.0;
      from_flash = f.0;
      points = a.1;
      tests = t.1;
      jumps = c.1;
      loads_data = d.1;
      skips = f.1;
      loads_flash = f.2;
      data_words = x ∙ ap (λ k. c.0 + k) (data_has_words q n);
      flash_words = y.0 ∙ ap (λ k. f.0 + k) (flash_has_words q n);
      room = y.1 f.1.room;
    }

-- ---- laws

-- a change of R0 alone does not matter
kept : (v w u : View) (b i : ℕ) (byte : ℕ → ℕ) (log : List Access) → 2 ≤ b → Brings v b i byte log w
    → KeepsAllButR0 w u → Brings v b i byte log u
kept v w u b i byte log two h k = record {
  there = λ j l. k.same (b + j) (omega arith) ∙ h.there j l;
  numbers = λ n l x m. rw (k.same x (omega arith)) (h.numbers n l x m);
  same = λ x n0 n30 n31 o. k.same x n0 ∙ h.same x n0 n30 n31 o;
  flags = k.flags ∙ h.flags;
  inputs = k.inputs ∙ h.inputs;
  safe = k.safe ∙ h.safe;
  seen = k.seen ∙ h.seen;
}

-- Z is set, and the tag was tested
record Chosen (e : Env) (pc : ℕ) (v : View) (to a b : ℕ) (byte : ℕ → ℕ) : Type 0 where
  steps : ℕ
  at_least : 2 ≤ steps
  at_most : steps ≤ 4
  last : View
  goes : Goes e steps pc v to last
  pointer : pair last.at 30 ≡ address_in v a
  brings : Brings v b 0 byte [] last

chosen : (lower : Lower) (e : Env) (p q : Location) (n a b pc end : ℕ) (byte : ℕ → ℕ) (v : View)
    → HasPointer e p 3 a q n b → (at : Stands e p q n pc end)
    → Chosen e pc v (if bit_at (v.at (a + 2)) 7 == 1 then at.from_data else at.jump) a b byte
chosen lower e p q n a b pc end byte v has at =
    let code = point_code p in
    let short = point_short p in
    let some = short.at_least in
    let few = short.steps_are in
    let v1 = block e code v in
    let points = pointed lower.copies e p 3 a b byte v (omega arith) has.pointer has.pointer_leaves in
    let first = lower.straight e code pc at.test v short.straight at.points in
    let two = has.pointer.clear in
    let low = has.pointer_leaves.low in
    let high = has.pointer_leaves.high in
    let tag : v1.at (a + 2) ≡ v.at (a + 2) =
    points.brings.same (a + 2) (omega arith) (λ s. let x = low (omega arith) in omega arith)
    (λ s. let x = high (omega arith) in omega arith) (λ l. omega arith) in
    let t = tested lower e p a at.test at.jump at.from_data (bytes_words q n + 1) v1 has.pointer at.tests at.jumps in
    let u = t.last in
    let least = t.at_least in
    let most = t.at_most in
    let to = if bit_at (v.at (a + 2)) 7 == 1 then at.from_data else at.jump in
    let second : Goes e t.steps at.test v1 to u =
    subst (λ x. Goes e t.steps at.test v1 (if bit_at x 7 == 1 then at.from_data else at.jump) u) tag t.goes in
    let z : pair u.at 30 ≡ pair v1.at 30 = rw (t.keeps.same 30 (omega arith), t.keeps.same 31 (omega arith)) refl in
    record {
      steps = code_steps code + t.steps;
      at_least = omega (arith, some, least);
      at_most = omega (arith, few, most);
      last = u;
      goes = lower.joins e (code_steps code) t.steps pc at.test to v v1 u first second;
      pointer = z ∙ points.pointer;
      brings = kept v v1 u b 0 byte [] has.number.clear points.brings t.keeps;
    }

pub data_is_loaded_by_tag : Lower → DataIsLoadedByTag
data_is_loaded_by_tag lower e p q n a b pc end v has at tag held first =
    let z = address_in v a in
    let s = stands lower e p q n b pc end has.number at in
    let c = chosen lower e p q n a b pc end (data_at v z) v has s in
    let u = c.last in
    let code = data_bytes q n in
    let short = all_data_short q n in
    let some = short.at_least in
    let few = short.steps_are in
    let least = c.at_least in
    let most = c.at_most in
    let start : Goes e c.steps pc v s.from_data u =
    subst (λ x. Goes e c.steps pc v (if bit_at x 7 == 1 then s.from_data else s.jump) u) tag c.goes in
    let w = block e code u in
    let r = data_brought e q n b z v u has.number has.number_leaves held first (record { pointer = c.pointer; brings = c.brings }) in
    let loads = lower.straight e code s.from_data s.skip u short.straight s.loads_data in
    let ends = jumps_over e (bytes_words q n) s.skip s.from_flash end w s.skips s.flash_words s.room in
    let both = lower.joins e c.steps (code_steps code) pc s.from_data s.skip v u w start loads in
    record {
      steps = c.steps + code_steps code + 1;
      at_least = omega (arith, some, least);
      at_most = omega (arith, few, most);
      last = w;
      goes = lower.joins e (c.steps + code_steps code) 1 pc s.skip end v w w both ends;
      brings = r.brings;
    }

pub flash_is_loaded_by_tag : Lower → FlashIsLoadedByTag
flash_is_loaded_by_tag lower e p q n a b pc end v has at tag flash =
    let z = address_in v a in
    let s = stands lower e p q n b pc end has.number at in
    let c = chosen lower e p q n a b pc end (flash_at e z) v has s in
    let u = c.last in
    let code = flash_bytes q n in
    let short = all_flash_short q n in
    let some = short.at_least in
    let few = short.steps_are in
    let least = c.at_least in
    let most = c.at_most in
    let start : Goes e c.steps pc v s.jump u =
    subst (λ x. Goes e c.steps pc v (if bit_at x 7 == 1 then s.from_data else s.jump) u) tag c.goes in
    let w = block e code u in
    let r = flash_follows e q n b z v u has.number has.number_leaves flash c.pointer c.brings in
    let words = s.data_words in
    let next = s.skips.ends in
    let room = s.skips.room in
    let behind : s.from_flash ≡ s.from_data + (bytes_words q n + 1) = omega (arith, words, next) in
    let over = jumps_over e (bytes_words q n + 1) s.jump s.from_data s.from_flash u s.jumps behind room in
    let loads = lower.straight e code s.from_flash end u short.straight s.loads_flash in
    let both = lower.joins e c.steps 1 pc s.jump s.from_flash v u u start over in
    record {
      steps = c.steps + 1 + code_steps code;
      at_least = omega (arith, some, least);
      at_most = omega (arith, few, most);
      last = w;
      goes = lower.joins e (c.steps + 1) (code_steps code) pc s.from_flash end v u w both loads;
      brings = r;
    }
