-- A load at an offset from Z, where the tag in R0 tells the bank.
use Rattle.std.proofs.Common.{◌≡◌, ℕ, ◌+◌, ◌<◌, ◌==◌, Bool, true, false, ◌∷◌, ◌++◌, []}
use Rattle.std.proofs.Common.{pos, refl, ap, ◌∙◌, subst, arith}
use Rattle.std.specs.Prelude.{if◌then◌else◌}
use Rattle.std.specs.Int.{bit_at}
use Rattle.std.proofs.lemmas.List.Sums.{sum_by-append}
use Rattle.ec_space.specs.declared.space.Bank.TheVariants.{Data as DataBank}
use Rattle.ec_isa.specs.declared.instructions.Instr.TheVariants.{Adiw, Rjmp, Sbrs}
use Rattle.ec_avr.specs.declared.machine.Access.TheVariants.{Read}
use Rattle.ec_asm.specs.declared.items.AsmItem.TheVariants.{Plain}
use Rattle.ec_asm.specs.declared.pieces.Location.{Location}
use Rattle.ec_asm.specs.declared.pieces.Location.TheVariants.{InRegisters, InMemory}
use Rattle.ec_asm.specs.View.{View}
use Rattle.ec_asm.specs.Change.{Env, Own}
use Rattle.ec_asm.specs.Items.{At, HasAt, block, code_steps, code_words, item_words}
use Rattle.ec_asm.specs.Pieces.{StandsFrom}
use Rattle.ec_asm.specs.Takes.{Goes}
use Rattle.ec_asm.proofs.ItemWords.{straight_ends, straight_room, chain_words, all_far, far-append, chain_far, own_far}
use Rattle.ec_select_pointers.specs.Accesses.{flash_bytes, bytes_words, over}
use Rattle.ec_select_pointers.specs.AccessLaws.{each, data_at}
use Rattle.ec_select_pointers.specs.Fetched.{member_byte, load_member_code, go_on_code, go_on_words, load_further_code}
use Rattle.ec_select_pointers.specs.Fetched.{load_tagged_code}
use Rattle.ec_select_pointers.specs.FetchedLaws.{DataIsLoadedFromZ, FlashIsLoadedFromZ}
use Rattle.ec_select_pointers.proofs.InZ.{members_are_loaded, further_is_loaded, further_short, all_members_short, freely}
use Rattle.ec_select_pointers.proofs.Short.{flash_has_words, flash_far}
use Rattle.ec_select_pointers.proofs.Tagged.{Lower, jumps_over}

-- ---- where the parts stand

members_have_words : (d : ℕ) (q : Location) (n : ℕ) → code_words (load_member_code d q n) ≡ bytes_words q n
members_have_words d (InRegisters r) n = chain_words (member_byte d (InRegisters r)) n 1 (λ i. refl)
members_have_words d (InMemory o k) n = chain_words (member_byte d (InMemory o k)) n 3 (λ i. refl)

member_far : (e : Env) (d : ℕ) (q : Location) (i n b : ℕ) → StandsFrom e q n b Own → i < n → all_far e (member_byte d q i) ≡ true
member_far e d (InRegisters r) i n b st l = refl
member_far e d (InMemory o k) i n b st l = rw (own_far e o k i n b st l) refl

members_far : (e : Env) (d : ℕ) (q : Location) (n b : ℕ) → StandsFrom e q n b Own → all_far e (load_member_code d q n) ≡ true
members_far e d q n b st = chain_far e (member_byte d q) n (λ i l. member_far e d q i n b st l)

go_on_has : (none : Bool) (d : ℕ)
    → code_words (if none then [] else Plain (Adiw 30 d) ∷ []) ≡ (if none then 0 else 1)
go_on_has true d = refl
go_on_has false d = refl

further_has_words : (d : ℕ) (q : Location) (n : ℕ) → code_words (load_further_code d q n) ≡ go_on_words d + bytes_words q n
further_has_words d q n =
    let a : code_words (go_on_code d) ≡ go_on_words d = go_on_has (d == 0) d in
    let b = flash_has_words q n in
    let s = sum_by-append item_words (go_on_code d) (flash_bytes q n) in
    omega (arith, a, b, s)

go_on_far : (e : Env) (none : Bool) (d : ℕ) → all_far e (if none then [] else Plain (Adiw 30 d) ∷ []) ≡ true
go_on_far e true d = refl
go_on_far e false d = refl

further_far : (e : Env) (d : ℕ) (q : Location) (n b : ℕ) → StandsFrom e q n b Own → all_far e (load_further_code d q n) ≡ true
further_far e d q n b st = far-append e (go_on_code d) (flash_bytes q n) (go_on_far e (d == 0) d) (flash_far e q n b st)

record Stands (e : Env) (d : ℕ) (q : Location) (n pc end : ℕ) : Type 0 where
  jump : ℕ
  from_data : ℕ
  skip : ℕ
  from_flash : ℕ
  tests : At e (Sbrs 0 7) pc jump
  jumps : At e (Rjmp (pos (bytes_words q n + 1))) jump from_data
  loads_data : HasAt e (load_member_code d q n) from_data skip
  skips : At e (Rjmp (pos (go_on_words d + bytes_words q n))) skip from_flash
  loads_flash : HasAt e (load_further_code d q n) from_flash end
  data_words : skip ≡ from_data + bytes_words q n
  flash_words : end ≡ from_flash + (go_on_words d + bytes_words q n)
  room : end < 65536

stands : (lower : Lower) (e : Env) (d : ℕ) (q : Location) (n b pc end : ℕ) → StandsFrom e q n b Own
    → HasAt e (load_tagged_code d q n) pc end → Stands e d q n pc end
stands lower e d q n b pc end st at =
    let last = over (go_on_words d + bytes_words q n) ++ load_further_code d q n in
    let c = at.2 in
    let m = lower.parts e (load_member_code d q n) last c.0 end c.2 in
    let f = m.2 in
    let x = straight_ends e (load_member_code d q n) c.0 m.0 (all_members_short d q n).straight (members_far e d q n b st) m.1 in
    let y = straight_room e (load_further_code d q n) f.0 end (further_short d q n).straight (further_far e d q n b st) f.2 in
    record {
      jump = at.0;
      from_data = c.0;
      skip = m.0;
      from_flash = f.0;
      tests = at.1;
      jumps = c.1;
      loads_data = m.1;
      skips = f.1;
      loads_flash = f.2;
      data_words = x ∙ ap (λ k. c.0 + k) (members_have_words d q n);
      flash_words = y.0 ∙ ap (λ k. f.0 + k) (further_has_words d q n);
      room = y.1 f.1.room;
    }

-- ---- laws

-- the test goes on to one of both loads
tested : (lower : Lower) (e : Env) (d : ℕ) (q : Location) (n pc end tag : ℕ) (v : View) → (s : Stands e d q n pc end)
    → v.at 0 ≡ tag → Goes e 1 pc v (if bit_at tag 7 == 1 then s.from_data else s.jump) v
tested lower e d q n pc end tag v s is =
    subst (λ x. Goes e 1 pc v (if bit_at x 7 == 1 then s.from_data else s.jump) v) is
    (lower.skips e 0 7 (Rjmp (pos (bytes_words q n + 1))) pc s.jump s.from_data v s.tests s.jumps)

pub data_is_loaded_from_z : Lower → DataIsLoadedFromZ
data_is_loaded_from_z lower e q d n b z pc end v st leaves at tag far held first =
    let s = stands lower e d q n b pc end st at in
    let code = load_member_code d q n in
    let short = all_members_short d q n in
    let some = short.at_least in
    let few = short.steps_are in
    let start : Goes e 1 pc v s.from_data v = tested lower e d q n pc end 0x80 v s tag in
    let w = block e code v in
    let loads = lower.straight e code s.from_data s.skip v short.straight s.loads_data in
    let ends = jumps_over e (go_on_words d + bytes_words q n) s.skip s.from_flash end w s.skips s.flash_words s.room in
    let both = lower.joins e 1 (code_steps code) pc s.from_data s.skip v v w start loads in
    record {
      steps = 1 + code_steps code + 1;
      at_least = omega (arith, some);
      at_most = omega (arith, few);
      last = w;
      goes = lower.joins e (1 + code_steps code) 1 pc s.skip end v w w both ends;
      brings = freely v w b n (data_at v z) (each (Read DataBank) z (data_at v z) n)
          (members_are_loaded e q d n b z v st leaves far held first);
    }

pub flash_is_loaded_from_z : Lower → FlashIsLoadedFromZ
flash_is_loaded_from_z lower e q d n b z pc end v st leaves at tag numbers far flash =
    let s = stands lower e d q n b pc end st at in
    let code = load_further_code d q n in
    let short = further_short d q n in
    let some = short.at_least in
    let few = short.steps_are in
    let start : Goes e 1 pc v s.jump v = tested lower e d q n pc end 0x00 v s tag in
    let w = block e code v in
    let words = s.data_words in
    let next = s.skips.ends in
    let behind : s.from_flash ≡ s.from_data + (bytes_words q n + 1) = omega (arith, words, next) in
    let over = jumps_over e (bytes_words q n + 1) s.jump s.from_data s.from_flash v s.jumps behind s.skips.room in
    let loads = lower.straight e code s.from_flash end v short.straight s.loads_flash in
    let both = lower.joins e 1 1 pc s.jump s.from_flash v v v start over in
    record {
      steps = 1 + 1 + code_steps code;
      at_least = omega (arith, some);
      at_most = omega (arith, few);
      last = w;
      goes = lower.joins e (1 + 1) (code_steps code) pc s.from_flash end v v w both loads;
      brings = further_is_loaded e q d n b z v st leaves numbers far flash;
    }
