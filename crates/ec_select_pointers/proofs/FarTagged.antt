-- A load through a pointer whose top bit tells the bank, with the whole address in flash.
use Rattle.std.proofs.Common.{◌≡◌, ℕ, ◌+◌, ◌<◌, ◌≤◌, ◌==◌, [], ◌++◌}
use Rattle.std.proofs.Common.{Bool, false, pos, sym, ap, ◌∙◌, subst, arith}
use Rattle.std.specs.Prelude.{if◌then◌else◌}
use Rattle.std.specs.Int.{bit_at}
use Rattle.std.proofs.lemmas.Bool.{ne_eqb}
use Rattle.ec_isa.specs.declared.instructions.Instr.TheVariants.{Rjmp, Sbrs}
use Rattle.ec_asm.specs.declared.pieces.Location.{Location}
use Rattle.ec_asm.specs.declared.pieces.Location.TheVariants.{InRegisters, InMemory}
use Rattle.ec_asm.specs.View.{View, pair}
use Rattle.ec_asm.specs.Change.{Env, Own, far_z}
use Rattle.ec_asm.specs.Items.{At, HasAt, block, code_steps}
use Rattle.ec_asm.specs.Pieces.{StandsFrom}
use Rattle.ec_asm.specs.Takes.{Goes}
use Rattle.ec_asm.proofs.ItemWords.{straight_ends, straight_room}
use Rattle.ec_select_pointers.specs.Accesses.{point_code, data_bytes, bytes_words, over}
use Rattle.ec_select_pointers.specs.AccessLaws.{Brings, HasPointer, data_at, flash_at, address_in}
use Rattle.ec_select_pointers.specs.Far.{page_code, far_bytes, top_test, either_far_bytes}
use Rattle.ec_select_pointers.specs.FarLaws.{HasPage, far_address_in, DataIsLoadedByTop, FarFlashIsLoadedByTop}
use Rattle.ec_select_pointers.proofs.Accessed.{data_brought}
use Rattle.ec_select_pointers.proofs.Short.{point_short, all_data_short, data_has_words, data_far}
use Rattle.ec_select_pointers.proofs.Tagged.{Lower, jumps_over}
use Rattle.ec_select_pointers.proofs.FarLoaded.{HoldsTop, far_pointed, far_follows}
use Rattle.ec_select_pointers.proofs.FarFormed.{page_short, all_far_short, far_has_words, far_far}

-- ---- the test

tested : (lower : Lower) (e : Env) (p : Location) (a x pc jump next w : ℕ) (v : View) → StandsFrom e p 3 a Own
    → HoldsTop p v a x → HasAt e (top_test p) pc jump → At e (Rjmp (pos w)) jump next
    → Goes e 1 pc v (if bit_at x 7 == 1 then next else jump) v
tested lower e (InRegisters r) a x pc jump next w v s top at over =
    let place : r + 2 ≡ a + 2 = s.at 2 (omega arith) in
    let mid : at.0 ≡ jump = sym at.2 in
    let test : At e (Sbrs (r + 2) 7) pc jump = subst (λ m. At e (Sbrs (r + 2) 7) pc m) mid at.1 in
    let g = lower.skips e (r + 2) 7 (Rjmp (pos w)) pc jump next v test over in
    let byte : v.at (r + 2) ≡ x = ap (λ k. v.at k) place ∙ top in
    subst (λ y. Goes e 1 pc v (if bit_at y 7 == 1 then next else jump) v) byte g
tested lower e (InMemory o j) a x pc jump next w v s top at over =
    let mid : at.0 ≡ jump = sym at.2 in
    let test : At e (Sbrs 0 7) pc jump = subst (λ m. At e (Sbrs 0 7) pc m) mid at.1 in
    let g = lower.skips e 0 7 (Rjmp (pos w)) pc jump next v test over in
    subst (λ y. Goes e 1 pc v (if bit_at y 7 == 1 then next else jump) v) top g

-- ---- where the parts stand

record Stands (e : Env) (p q : Location) (n pc end : ℕ) : Type 0 where
  page : ℕ
  test : ℕ
  jump : ℕ
  from_data : ℕ
  skip : ℕ
  from_flash : ℕ
  points : HasAt e (point_code p) pc page
  pages : HasAt e (page_code p) page test
  tests : HasAt e (top_test p) test jump
  jumps : At e (Rjmp (pos (bytes_words q n + 1))) jump from_data
  loads_data : HasAt e (data_bytes q n) from_data skip
  skips : At e (Rjmp (pos (bytes_words q n))) skip from_flash
  loads_flash : HasAt e (far_bytes q n) from_flash end
  data_words : skip ≡ from_data + bytes_words q n
  flash_words : end ≡ from_flash + bytes_words q n
  room : end < 65536

stands : (lower : Lower) (e : Env) (p q : Location) (n b pc end : ℕ) → StandsFrom e q n b Own
    → HasAt e (point_code p ++ (page_code p ++ (top_test p ++ either_far_bytes q n))) pc end → Stands e p q n pc end
stands lower e p q n b pc end st at =
    let w = bytes_words q n in
    let last = over w ++ far_bytes q n in
    let a = lower.parts e (point_code p) (page_code p ++ (top_test p ++ either_far_bytes q n)) pc end at in
    let g = lower.parts e (page_code p) (top_test p ++ either_far_bytes q n) a.0 end a.2 in
    let t = lower.parts e (top_test p) (either_far_bytes q n) g.0 end g.2 in
    let c = t.2 in
    let d = lower.parts e (data_bytes q n) last c.0 end c.2 in
    let f = d.2 in
    let x = straight_ends e (data_bytes q n) c.0 d.0 (all_data_short q n).straight (data_far e q n b st) d.1 in
    let y = straight_room e (far_bytes q n) f.0 end (all_far_short q n).straight (far_far e q n b st) f.2 in
    record {
      page = a.0;
      test = g.0;
      jump = t.0;
      from_data = c.0;
      skip = d.0;
      from_flash = f.0;
      points = a.1;
      pages = g.1;
      tests = t.1;
      jumps = c.1;
      loads_data = d.1;
      skips = f.1;
      loads_flash = f.2;
      data_words = x ∙ ap (λ k. c.0 + k) (data_has_words q n);
      flash_words = y.0 ∙ ap (λ k. f.0 + k) (far_has_words q n);
      room = y.1 f.1.room;
    }

-- ---- laws

-- RAMPZ and Z are set, and the top bit was tested
record Chosen (e : Env) (pc : ℕ) (v : View) (to a b : ℕ) (byte : ℕ → ℕ) : Type 0 where
  steps : ℕ
  at_least : 3 ≤ steps
  at_most : steps ≤ 5
  last : View
  goes : Goes e steps pc v to last
  far : far_z last ≡ far_address_in v a
  pointer : pair last.at 30 ≡ address_in v a
  brings : Brings v b 0 byte [] last

chosen : (lower : Lower) (e : Env) (p q : Location) (n a b pc end : ℕ) (byte : ℕ → ℕ) (v : View) → HasPage e
    → HasPointer e p 3 a q n b → (at : Stands e p q n pc end)
    → Chosen e pc v (if bit_at (v.at (a + 2)) 7 == 1 then at.from_data else at.jump) a b byte
chosen lower e p q n a b pc end byte v h has at =
    let point = point_code p in
    let page = page_code p in
    let s1 = point_short p in
    let s2 = page_short p in
    let least1 = s1.at_least in
    let most1 = s1.steps_are in
    let least2 = s2.at_least in
    let most2 = s2.steps_are in
    let v1 = block e point v in
    let u = block e page v1 in
    let g = far_pointed lower.copies e p a b byte v h has.pointer has.pointer_leaves has.number.clear in
    let first = lower.straight e point pc at.page v s1.straight at.points in
    let second = lower.straight e page at.page at.test v1 s2.straight at.pages in
    let to = if bit_at (v.at (a + 2)) 7 == 1 then at.from_data else at.jump in
    let third = tested lower e p a (v.at (a + 2)) at.test at.jump at.from_data (bytes_words q n + 1) u has.pointer g.top
    at.tests at.jumps in
    let both = lower.joins e (code_steps point) (code_steps page) pc at.page at.test v v1 u first second in
    record {
      steps = code_steps point + code_steps page + 1;
      at_least = omega (arith, least1, least2);
      at_most = omega (arith, most1, most2);
      last = u;
      goes = lower.joins e (code_steps point + code_steps page) 1 pc at.test to v u u both third;
      far = g.far;
      pointer = g.pointer;
      brings = g.brings;
    }

pub data_is_loaded_by_top : Lower → DataIsLoadedByTop
data_is_loaded_by_top lower e p q n a b pc end v h has at tag held first =
    let z = address_in v a in
    let s = stands lower e p q n b pc end has.number at in
    let c = chosen lower e p q n a b pc end (data_at v z) v h has s in
    let u = c.last in
    let code = data_bytes q n in
    let short = all_data_short q n in
    let some = short.at_least in
    let few = short.steps_are in
    let least = c.at_least in
    let most = c.at_most in
    let start : Goes e c.steps pc v s.from_data u =
    subst (λ x. Goes e c.steps pc v (if bit_at x 7 == 1 then s.from_data else s.jump) u) tag c.goes in
    let w = block e code u in
    let r = data_brought e q n b z v u has.number has.number_leaves held first (record { pointer = c.pointer; brings = c.brings }) in
    let loads = lower.straight e code s.from_data s.skip u short.straight s.loads_data in
    let ends = jumps_over e (bytes_words q n) s.skip s.from_flash end w s.skips s.flash_words s.room in
    let both = lower.joins e c.steps (code_steps code) pc s.from_data s.skip v u w start loads in
    record {
      steps = c.steps + code_steps code + 1;
      at_least = omega (arith, some, least);
      at_most = omega (arith, few, most);
      last = w;
      goes = lower.joins e (c.steps + code_steps code) 1 pc s.skip end v w w both ends;
      brings = r.brings;
    }

-- a byte below 128 has no top bit
no_top : (x : ℕ) → x < 0x80 → (bit_at x 7 == 1) ≡ false
no_top x l = ne_eqb (bit_at x 7) 1 (omega (arith, l))

pub far_flash_is_loaded_by_top : Lower → FarFlashIsLoadedByTop
far_flash_is_loaded_by_top lower e p q n a b pc end v h has at tag flash =
    let z = far_address_in v a in
    let s = stands lower e p q n b pc end has.number at in
    let c = chosen lower e p q n a b pc end (flash_at e z) v h has s in
    let u = c.last in
    let code = far_bytes q n in
    let short = all_far_short q n in
    let some = short.at_least in
    let few = short.steps_are in
    let least = c.at_least in
    let most = c.at_most in
    let start : Goes e c.steps pc v s.jump u =
    subst (λ (t : Bool). Goes e c.steps pc v (if t then s.from_data else s.jump) u) (no_top (v.at (a + 2)) tag) c.goes in
    let w = block e code u in
    let r = far_follows e q n b z v u h has.number has.number_leaves flash (λ l. c.far) c.brings in
    let words = s.data_words in
    let next = s.skips.ends in
    let room = s.skips.room in
    let behind : s.from_flash ≡ s.from_data + (bytes_words q n + 1) = omega (arith, words, next) in
    let over = jumps_over e (bytes_words q n + 1) s.jump s.from_data s.from_flash u s.jumps behind room in
    let loads = lower.straight e code s.from_flash end u short.straight s.loads_flash in
    let both = lower.joins e c.steps 1 pc s.jump s.from_flash v u u start over in
    record {
      steps = c.steps + 1 + code_steps code;
      at_least = omega (arith, some, least);
      at_most = omega (arith, few, most);
      last = w;
      goes = lower.joins e (c.steps + 1) (code_steps code) pc s.from_flash end v u w both loads;
      brings = r;
    }
