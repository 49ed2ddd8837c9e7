-- Loads from the flash bank by the number in RAMPZ:Z.
use Rattle.std.proofs.Common.{◌≡◌, ◌≢◌, ℕ, zero, suc, ◌+◌, ◌%◌, ◌<◌, ◌≤◌, ⊎_elim}
use Rattle.std.proofs.Common.{[], ◌∷◌, ◌++◌, refl, ap, ◌∙◌, subst, arith}
use Rattle.std.specs.Prelude.{slice_index}
use Rattle.std.proofs.lemmas.Bool.{cases_eq}
use Rattle.ec_space.specs.declared.space.Bank.TheVariants.{Flash as FlashBank}
use Rattle.ec_isa.specs.declared.instructions.Instr.TheVariants.{Out as OutInstr}
use Rattle.ec_avr.specs.declared.machine.Access.TheVariants.{Read}
use Rattle.ec_avr.specs.State.{raised_far}
use Rattle.ec_asm.specs.declared.items.AsmItem.TheVariants.{Plain, LoadPart}
use Rattle.ec_asm.specs.declared.pieces.Location.{Location}
use Rattle.ec_asm.specs.declared.pieces.Location.TheVariants.{InRegisters, InMemory}
use Rattle.ec_asm.specs.View.{View, pair}
use Rattle.ec_asm.specs.Change.{Env, Own, Page, far_z}
use Rattle.ec_asm.specs.Items.{block, address_part}
use Rattle.ec_asm.specs.Pieces.{StandsFrom}
use Rattle.ec_asm.specs.PieceLaws.{HoldsNumbers, CopiesAreRight}
use Rattle.ec_asm.proofs.Bytes.{put_other}
use Rattle.ec_asm.proofs.Hoare.{block-append, chain_holds}
use Rattle.ec_select_pointers.specs.Accesses.{point_code}
use Rattle.ec_select_pointers.specs.AccessLaws.{each, Brings, LeavesZ, flash_at, address_in}
use Rattle.ec_select_pointers.specs.Far.{page_code, page_port, far_byte, far_bytes}
use Rattle.ec_select_pointers.specs.FarLaws.{HasPage, AreFarFlash, far_address_in, FarFlashIsLoaded, FarTableIsLoaded}
use Rattle.ec_select_pointers.proofs.Brought.{far_is_brought, one_more}
use Rattle.ec_select_pointers.proofs.Accessed.{pointed, parts_set, part_outside, not_low, not_high}

-- ---- RAMPZ is set

-- a pointer's third byte is in its register, or in R0
abbrev pub HoldsTop : Location → View → (a x : ℕ) → Type 0
HoldsTop (InRegisters r) w a x = w.at (a + 2) ≡ x
HoldsTop (InMemory o k) w a x = w.at 0 ≡ x

-- RAMPZ has a byte, and nothing else has changed but R0
pub record Pages (p : Location) (a x : ℕ) (v w : View) : Type 0 where
  pub page : w.page ≡ x
  pub top : HoldsTop p w a x
  pub same : (k : ℕ) → k ≢ 0 → w.at k ≡ v.at k
  pub flags : w.flags ≡ v.flags
  pub inputs : w.inputs ≡ v.inputs
  pub safe : w.safe ≡ v.safe
  pub seen : w.seen ≡ v.seen

pub paged : (e : Env) (p : Location) (a : ℕ) (v : View) → HasPage e → StandsFrom e p 3 a Own
    → Pages p a (v.at (a + 2)) v (block e (page_code p) v)
paged e (InRegisters r) a v h s =
    let place : r + 2 ≡ a + 2 = s.at 2 (omega arith) in
    let kind : e.kind (page_port + 0x20) ≡ Page = h.kind in
    rw (kind, place) (record {
      page = refl;
      top = refl;
      same = λ k n. refl;
      flags = refl;
      inputs = refl;
      safe = refl;
      seen = refl;
    })
paged e (InMemory o j) a v h s =
    let place : e.address_of o (j + 2) ≡ a + 2 = s.at 2 (omega arith) in
    let own : e.kind (a + 2) ≡ Own = s.kind 2 (omega arith) in
    let kind : e.kind (page_port + 0x20) ≡ Page = h.kind in
    rw (place, own, kind) (record {
      page = refl;
      top = refl;
      same = λ k n. put_other v.at 0 (v.at (a + 2)) k n;
      flags = refl;
      inputs = refl;
      safe = refl;
      seen = refl;
    })

-- RAMPZ and Z have the whole address in a pointer, and nothing else has changed that is to be kept
pub record FarPoints (p : Location) (v : View) (a b : ℕ) (byte : ℕ → ℕ) (w : View) : Type 0 where
  pub far : far_z w ≡ far_address_in v a
  pub pointer : pair w.at 30 ≡ address_in v a
  pub top : HoldsTop p w a (v.at (a + 2))
  pub brings : Brings v b 0 byte [] w

pub far_pointed : (copies : CopiesAreRight) (e : Env) (p : Location) (a b : ℕ) (byte : ℕ → ℕ) (v : View) → HasPage e
    → StandsFrom e p 3 a Own → LeavesZ a 3 → 2 ≤ b
    → FarPoints p v a b byte (block e (page_code p) (block e (point_code p) v))
far_pointed copies e p a b byte v h s z two =
    let at = pointed copies e p 3 a b byte v (omega arith) s z in
    let v1 = block e (point_code p) v in
    let w = block e (page_code p) v1 in
    let g = paged e p a v1 h s in
    let ua = s.clear in
    let top : v1.at (a + 2) ≡ v.at (a + 2) =
    at.brings.same (a + 2) (omega arith) (not_low a 3 2 z (omega arith)) (not_high a 3 2 z (omega arith)) (λ l. omega arith) in
    let low : w.at 30 ≡ v1.at 30 = g.same 30 (omega arith) in
    let high : w.at 31 ≡ v1.at 31 = g.same 31 (omega arith) in
    let kept : pair w.at 30 ≡ address_in v a = rw (low, high) at.pointer in
    let page : w.page ≡ v.at (a + 2) = g.page ∙ top in
    record {
      far = rw (page, kept) (omega arith);
      pointer = kept;
      top = subst (λ x. HoldsTop p w a x) top g.top;
      brings = record {
        there = λ j l. absurd (omega arith);
        numbers = λ n l k u. rw (g.same k (omega arith)) (at.brings.numbers n l k u);
        same = λ k n0 n30 n31 o. g.same k n0 ∙ at.brings.same k n0 n30 n31 o;
        flags = g.flags ∙ at.brings.flags;
        inputs = g.inputs ∙ at.brings.inputs;
        safe = g.safe ∙ at.brings.safe;
        seen = g.seen ∙ at.brings.seen;
      };
    }

-- ---- the bytes

-- i bytes are brought, and RAMPZ:Z is what is told
record FarTo (e : Env) (v0 : View) (t z i : ℕ) (v : View) : Type 0 where
  far : far_z v ≡ (z + i) % 16777216
  brings : Brings v0 t i (flash_at e z) (each (Read FlashBank) z (flash_at e z) i) v

far_brought : (e : Env) (q : Location) (n b z : ℕ) (v0 v1 : View) → HasPage e → StandsFrom e q n b Own → LeavesZ b n
    → AreFarFlash e z n → FarTo e v0 b z 0 v1 → FarTo e v0 b z n (block e (far_bytes q n) v1)
far_brought e q n b z v0 v1 h s leaves flash start =
    chain_holds e (far_byte q) (FarTo e v0 b z) n step v1 start
  where
    step : (i : ℕ) → i < n → (v : View) → FarTo e v0 b z i v → FarTo e v0 b z (suc i) (block e (far_byte q i) v)
    step i l v f =
        let w = block e (far_byte q i) v in
        let room = flash.room in
        let far = f.far in
        let at : far_z v ≡ z + i = far ∙ omega (arith, room, l) in
        let o = far_is_brought e q i (b + i) (z + i) v h.core (s.at i l) (s.kind i l) at (flash.kind i l)
        (not_low b n i leaves l) (not_high b n i leaves l) in
        let x = slice_index e.flash (z + i) in
        let page = o.page in
        let pointer = o.brings.pointer in
        let whole : far_z w ≡ raised_far (z + i) = rw (page, pointer) (omega arith) in
        record {
          far = whole ∙ omega arith;
          brings = one_more b i x (flash_at e z) (Read FlashBank) z (raised_far (z + i) % 65536) v0 v w s.clear
              (part_outside b (suc i) n 30 l leaves.low) (part_outside b (suc i) n 31 l leaves.high) refl f.brings o.brings;
        }

-- with no bytes at all RAMPZ:Z is not looked at
pub far_follows : (e : Env) (q : Location) (n b z : ℕ) (v v1 : View) → HasPage e → StandsFrom e q n b Own → LeavesZ b n
    → AreFarFlash e z n → (1 ≤ n → far_z v1 ≡ z) → Brings v b 0 (flash_at e z) [] v1
    → Brings v b n (flash_at e z) (each (Read FlashBank) z (flash_at e z) n) (block e (far_bytes q n) v1)
far_follows e q zero b z v v1 h s leaves flash at g = g
far_follows e q (suc n) b z v v1 h s leaves flash at g =
    let room = flash.room in
    let start : z ≡ (z + 0) % 16777216 = omega (arith, room) in
    (far_brought e q (suc n) b z v v1 h s leaves flash (record { far = at (omega arith) ∙ start; brings = g })).brings

-- ---- laws

pub far_flash_is_loaded : CopiesAreRight → FarFlashIsLoaded
far_flash_is_loaded copies e p q n a b v h has flash =
    let z = far_address_in v a in
    let g = far_pointed copies e p a b (flash_at e z) v h has.pointer has.pointer_leaves has.number.clear in
    let v1 = block e (point_code p) v in
    let v2 = block e (page_code p) v1 in
    let r = far_follows e q n b z v v2 h has.number has.number_leaves flash (λ l. g.far) g.brings in
    rw (block-append e (point_code p) (page_code p ++ far_bytes q n) v, block-append e (page_code p) (far_bytes q n) v1) r

-- RAMPZ is set to a byte through R30
record SetsPage (v : View) (x : ℕ) (w : View) : Type 0 where
  page : w.page ≡ x
  numbers : HoldsNumbers v → HoldsNumbers w
  same : (k : ℕ) → k ≢ 30 → w.at k ≡ v.at k
  flags : w.flags ≡ v.flags
  inputs : w.inputs ≡ v.inputs
  safe : w.safe ≡ v.safe
  seen : w.seen ≡ v.seen

page_set : (e : Env) (o k : ℕ) (v : View) → HasPage e
    → SetsPage v (address_part e o k 2) (block e (LoadPart 30 o k 2 ∷ Plain (OutInstr page_port 30) ∷ []) v)
page_set e o k v h =
    let kind : e.kind (page_port + 0x20) ≡ Page = h.kind in
    let x = address_part e o k 2 in
    rw kind (record {
      page = refl;
      numbers = λ n i u.
          ⊎_elim
          (λ (q : i ≡ 30). rw q (omega arith))
          (λ (q : i ≢ 30). rw (put_other v.at 30 x i q) (n i u))
          (cases_eq i 30);
      same = λ i n. put_other v.at 30 x i n;
      flags = refl;
      inputs = refl;
      safe = refl;
      seen = refl;
    })

pub far_table_is_loaded : FarTableIsLoaded
far_table_is_loaded e q o k n b v h s leaves whole flash =
    let z = e.far_of o k in
    let v1 = block e (LoadPart 30 o k 2 ∷ Plain (OutInstr page_port 30) ∷ []) v in
    let v2 = block e (LoadPart 30 o k 0 ∷ LoadPart 31 o k 1 ∷ []) v1 in
    let g = page_set e o k v h in
    let t = parts_set e o k b (flash_at e z) v1 in
    let page : v2.page ≡ address_part e o k 2 = g.page in
    let room = flash.room in
    let at : 1 ≤ n → far_z v2 ≡ z = λ l. rw (page, whole) (omega (arith, room, l)) in
    let brings : Brings v b 0 (flash_at e z) [] v2 = record {
      there = λ j l. absurd (omega arith);
      numbers = λ m l. t.numbers (g.numbers m) l;
      same = λ i n0 n30 n31 u. t.same i n0 n30 n31 u ∙ g.same i n30;
      flags = t.flags ∙ g.flags;
      inputs = t.inputs ∙ g.inputs;
      safe = t.safe ∙ g.safe;
      seen = t.seen ∙ ap (λ x. x ++ []) g.seen;
    } in
    far_follows e q n b z v v2 h s leaves flash at brings
