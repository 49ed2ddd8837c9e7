-- Y holds the base all along: no instruction that is fetched changes it.
use Rattle.std.proofs.Common.{◌≡◌, ◌≢◌, ℕ, ◌+◌, ◌/◌, ◌%◌, ◌<◌, ◌≤◌, Bool, true, false, ◌&&◌, ◌++◌, refl, sym, ap, ◌∙◌, arith}
use Rattle.std.proofs.Common.{Option, Some, subst}
use Rattle.std.specs.Prelude.{if◌then◌else◌, IsTrue, nat_lt, nat_le}
use Rattle.std.proofs.lemmas.Bool.{and_parts, false≢true, ne_eqb, ltb-true, leb-true}
use Rattle.std.proofs.lemmas.Bool.Decides.{nat_tests}
use Rattle.ec_space.specs.declared.space.Bank.TheVariants.{Flash as FlashBank, Data as DataBank}
use Rattle.ec_isa.specs.declared.instructions.Instr.{Instr}
use Rattle.ec_isa.specs.declared.instructions.Instr.TheVariants.{Nop, Movw, Sbc, Add, Cpse, Sub, Adc, And, Eor, Or, Mov}
use Rattle.ec_isa.specs.declared.instructions.Instr.TheVariants.{Sbci, Subi, Ori, Andi, Ldi, LddZ, LddY, StdZ, StdY, Lds, Sts, LdX, StX}
use Rattle.ec_isa.specs.declared.instructions.Instr.TheVariants.{LpmZ, LdXPlus, LdZPlus, StXPlus, StZPlus, LpmZPlus, Elpm, ElpmInc, Pop, Push, Com, Neg}
use Rattle.ec_isa.specs.declared.instructions.Instr.TheVariants.{Swap, Inc, Asr, Lsr, Ror, Dec, Adiw, Sbiw, In as InInstr}
use Rattle.ec_isa.specs.declared.instructions.Instr.TheVariants.{Out as OutInstr, Jmp, Call, Ret, Break, Rjmp, Rcall, Brbs, Brbc, Sbrc}
use Rattle.ec_isa.specs.declared.instructions.Instr.TheVariants.{Sbrs}
use Rattle.ec_avr.specs.declared.machine.Access.{Access}
use Rattle.ec_avr.specs.declared.machine.Access.TheVariants.{Silent, In, Out, Read, Write, Stack}
use Rattle.ec_space.specs.Memory.{Memory}
use Rattle.ec_space.specs.declared.Core.{Core}
use Rattle.ec_space.specs.declared.Core.TheVariants.{Small, Large}
use Rattle.ec_avr.specs.Effects.{After}
use Rattle.ec_avr.specs.State.{raised, lowered}
use Rattle.ec_asm.specs.Base.{is_beside, are_beside, leaves_base}
use Rattle.ec_asm.specs.View.{View, put, put_pair, pair}
use Rattle.ec_asm.specs.Change.{Env, Kind, Own, Object, Port, Stacked, Page, Barred, unbased, y_of, change, goes_on, words, sp, load_by, store_by}
use Rattle.ec_asm.specs.Change.{flash_by, far_z, by_rampz, push_by, pop_by}
use Rattle.ec_asm.specs.Run.{Status, Running, Ended, Stuck, act, pushed, on_stack, is_flag, keeps_base}
use Rattle.ec_asm.specs.Shows.{HoldsBase, Shows, Fits, Moves, may_be, noted}
use Rattle.ec_asm.proofs.Fetched.{based_leaves}

-- ---- bytes

beside_low : (d : ℕ) → is_beside d ≡ true → d ≢ 28
beside_low d h = grind (arith, nat_tests)

beside_high : (d : ℕ) → is_beside d ≡ true → d ≢ 29
beside_high d h = grind (arith, nat_tests)

pair_first : (d : ℕ) → are_beside d ≡ true → is_beside d ≡ true
pair_first d h = grind (arith, nat_tests)

pair_second : (d : ℕ) → are_beside d ≡ true → is_beside (d + 1) ≡ true
pair_second d h = grind (arith, nat_tests)

put_keeps : (f : ℕ → ℕ) (d x : ℕ) → d ≢ 28 → d ≢ 29 → pair (put f d x) 28 ≡ pair f 28
put_keeps f d x low high = rw (ne_eqb 28 d (λ q. low (sym q)), ne_eqb 29 d (λ q. high (sym q))) refl

set_keeps : (f : ℕ → ℕ) (d x : ℕ) → is_beside d ≡ true → pair (put f d x) 28 ≡ pair f 28
set_keeps f d x h = put_keeps f d x (beside_low d h) (beside_high d h)

pair_keeps : (f : ℕ → ℕ) (d n : ℕ) → are_beside d ≡ true → pair (put_pair f d n) 28 ≡ pair f 28
pair_keeps f d n h =
    set_keeps (put f d (n % 256)) (d + 1) (n / 256) (pair_second d h) ∙ set_keeps f d (n % 256) (pair_first d h)

-- ---- accesses

load_keeps : (k : Kind) (d a : ℕ) (v : View) → is_beside d ≡ true → pair (load_by k d a v).at 28 ≡ pair v.at 28
load_keeps Own d a v h = set_keeps v.at d _ h
load_keeps Object d a v h = set_keeps v.at d _ h
load_keeps Port d a v h = set_keeps v.at d _ h
load_keeps Stacked d a v h = refl
load_keeps Page d a v h = refl
load_keeps Barred d a v h = refl

flash_keeps : (k : Kind) (d a x : ℕ) (v : View) → is_beside d ≡ true → pair (flash_by k d a x v).at 28 ≡ pair v.at 28
flash_keeps Own d a x v h = set_keeps v.at d x h
flash_keeps Object d a x v h = set_keeps v.at d x h
flash_keeps Port d a x v h = refl
flash_keeps Stacked d a x v h = refl
flash_keeps Page d a x v h = refl
flash_keeps Barred d a x v h = refl

store_keeps : (k : Kind) (a x : ℕ) (v : View) → (k ≢ Barred → (a ≢ 28) × (a ≢ 29))
    → pair (store_by k a x v).at 28 ≡ pair v.at 28
store_keeps Own a x v h = let n = h (λ q. cc) in put_keeps v.at a x n.0 n.1
store_keeps Object a x v h = let n = h (λ q. cc) in put_keeps v.at a x n.0 n.1
store_keeps Port a x v h = refl
store_keeps Stacked a x v h = refl
store_keeps Page a x v h = refl
store_keeps Barred a x v h = refl

rampz_keeps : (core : Core) (w v : View) → pair w.at 28 ≡ pair v.at 28 → pair (by_rampz core w v).at 28 ≡ pair v.at 28
rampz_keeps Small w v h = refl
rampz_keeps Large w v h = h

module _ (e : Env) (size : ℕ) (fit : Fits e size) (based : e.base < 65536) (v : View) where
  apart : (a : ℕ) → e.kind a ≢ Barred → (a ≢ 28) × (a ≢ 29)
  apart a n =
      let b = fit.base based in
      (λ q. n (subst (λ x. e.kind x ≡ Barred) (sym q) b.0), λ q. n (subst (λ x. e.kind x ≡ Barred) (sym q) b.1))

  stack_apart : (a : ℕ) → e.kind a ≡ Stacked → 256 ≤ a
  stack_apart a q =
      let may = subst (λ (z : Kind). IsTrue (may_be e.core z size a)) q (fit.kinds a) in
      leb-true 256 a (and_parts (nat_le 256 a) (nat_lt a size) may).0

  push_keeps : (k : Kind) (x : ℕ) → e.kind (sp v) ≡ k → pair (push_by k x v).at 28 ≡ pair v.at 28
  push_keeps Stacked x q = let l = stack_apart (sp v) q in put_keeps v.at (sp v) x (omega (arith, l)) (omega (arith, l))
  push_keeps Own x q = refl
  push_keeps Object x q = refl
  push_keeps Port x q = refl
  push_keeps Page x q = refl
  push_keeps Barred x q = refl

  pop_keeps : (k : Kind) (d : ℕ) → is_beside d ≡ true → pair (pop_by k d v).at 28 ≡ pair v.at 28
  pop_keeps Stacked d h = set_keeps v.at d (v.at (raised (sp v))) h
  pop_keeps Own d h = refl
  pop_keeps Object d h = refl
  pop_keeps Port d h = refl
  pop_keeps Page d h = refl
  pop_keeps Barred d h = refl

  -- ---- instructions

  change_keeps : (i : Instr) → leaves_base i ≡ true → pair (change e i v).at 28 ≡ pair v.at 28
  change_keeps Nop h = refl
  change_keeps (Movw d r) h = pair_keeps v.at d _ h
  change_keeps (Mov d r) h = set_keeps v.at d _ h
  change_keeps (Ldi d k) h = set_keeps v.at d _ h
  change_keeps (Add d r) h = set_keeps v.at d _ h
  change_keeps (Adc d r) h = set_keeps v.at d _ h
  change_keeps (Sub d r) h = set_keeps v.at d _ h
  change_keeps (Sbc d r) h = set_keeps v.at d _ h
  change_keeps (Subi d k) h = set_keeps v.at d _ h
  change_keeps (Sbci d k) h = set_keeps v.at d _ h
  change_keeps (Neg d) h = set_keeps v.at d _ h
  change_keeps (And d r) h = set_keeps v.at d _ h
  change_keeps (Andi d k) h = set_keeps v.at d _ h
  change_keeps (Or d r) h = set_keeps v.at d _ h
  change_keeps (Ori d k) h = set_keeps v.at d _ h
  change_keeps (Eor d r) h = set_keeps v.at d _ h
  change_keeps (Com d) h = set_keeps v.at d _ h
  change_keeps (Inc d) h = set_keeps v.at d _ h
  change_keeps (Dec d) h = set_keeps v.at d _ h
  change_keeps (Asr d) h = set_keeps v.at d _ h
  change_keeps (Lsr d) h = set_keeps v.at d _ h
  change_keeps (Ror d) h = set_keeps v.at d _ h
  change_keeps (Swap d) h = set_keeps v.at d _ h
  change_keeps (Adiw d k) h = pair_keeps v.at d _ h
  change_keeps (Sbiw d k) h = pair_keeps v.at d _ h
  change_keeps (Lds d k) h = load_keeps (e.kind k) d k v h
  change_keeps (InInstr d a) h = load_keeps (e.kind (a + 0x20)) d (a + 0x20) v h
  change_keeps (LddZ d q) h = load_keeps (e.kind _) d _ v h
  change_keeps (LddY d q) h = load_keeps (e.kind _) d _ v h
  change_keeps (LdX d) h = load_keeps (e.kind _) d _ v h
  change_keeps (LdXPlus d) h = load_keeps (e.kind (pair v.at 26)) d (pair v.at 26) v h
  change_keeps (LdZPlus d) h = load_keeps (e.kind (pair v.at 30)) d (pair v.at 30) v h
  change_keeps (Sts k r) h = store_keeps (e.kind k) k (v.at r) v (apart k)
  change_keeps (OutInstr a r) h = store_keeps (e.kind (a + 0x20)) (a + 0x20) (v.at r) v (apart (a + 0x20))
  change_keeps (StdZ q r) h = store_keeps (e.kind _) _ (v.at r) v (apart _)
  change_keeps (StdY q r) h = store_keeps (e.kind _) _ (v.at r) v (apart _)
  change_keeps (StX r) h = store_keeps (e.kind _) _ (v.at r) v (apart _)
  change_keeps (StXPlus r) h = store_keeps (e.kind (pair v.at 26)) (pair v.at 26) (v.at r) v (apart (pair v.at 26))
  change_keeps (StZPlus r) h = store_keeps (e.kind (pair v.at 30)) (pair v.at 30) (v.at r) v (apart (pair v.at 30))
  change_keeps (LpmZ d) h = flash_keeps (e.table _) d _ _ v h
  change_keeps (LpmZPlus d) h = flash_keeps (e.table (pair v.at 30)) d (pair v.at 30) _ v h
  change_keeps (Elpm d) h = rampz_keeps e.core _ v (flash_keeps (e.table (far_z v)) d (far_z v) _ v h)
  change_keeps (ElpmInc d) h = rampz_keeps e.core _ v (flash_keeps (e.table (far_z v)) d (far_z v) _ v h)
  change_keeps (Push r) h = push_keeps (e.kind (sp v)) (v.at r) refl
  change_keeps (Pop d) h = pop_keeps (e.kind (raised (sp v))) d h
  change_keeps _ h = refl

  -- where a step leads, Y is what it was
  abbrev pub IsKept : Status → Type 0
  IsKept (Running pc w) = pair w.at 28 ≡ pair v.at 28
  IsKept (Ended w) = Unit {0}
  IsKept Stuck = Unit {0}

  when_kept : (b : Bool) (pc : ℕ) (w : View) → (b ≡ true → pair w.at 28 ≡ pair v.at 28) → IsKept (if b then Running pc w else Stuck)
  when_kept true pc w h = h refl
  when_kept false pc w h = tt

  stacked : (k : Kind) → on_stack k ≡ true → k ≡ Stacked
  stacked Stacked h = refl
  stacked Own h = absurd (false≢true h)
  stacked Object h = absurd (false≢true h)
  stacked Port h = absurd (false≢true h)
  stacked Page h = absurd (false≢true h)
  stacked Barred h = absurd (false≢true h)

  call_keeps : (back : ℕ) → (on_stack (e.kind (sp v)) && on_stack (e.kind (lowered (sp v)))) ≡ true
      → pair (pushed back v).at 28 ≡ pair v.at 28
  call_keeps back h =
      let p = and_parts (on_stack (e.kind (sp v))) (on_stack (e.kind (lowered (sp v)))) h in
      let a = stack_apart (sp v) (stacked (e.kind (sp v)) p.0) in
      let b = stack_apart (lowered (sp v)) (stacked (e.kind (lowered (sp v))) p.1) in
      put_keeps (put v.at (sp v) (back % 256)) (lowered (sp v)) (back / 256 % 256) (omega (arith, b)) (omega (arith, b))
      ∙ put_keeps v.at (sp v) (back % 256) (omega (arith, a)) (omega (arith, a))

  pub act_keeps : (i : Instr) (pc : ℕ) → leaves_base i ≡ true → IsKept (act e (Some i) pc v)
  act_keeps (Jmp k) pc h = refl
  act_keeps (Rjmp k) pc h = refl
  act_keeps (Brbs b k) pc h = when_kept (is_flag b) _ v (λ q. refl)
  act_keeps (Brbc b k) pc h = when_kept (is_flag b) _ v (λ q. refl)
  act_keeps (Cpse d r) pc h = refl
  act_keeps (Sbrc r b) pc h = refl
  act_keeps (Sbrs r b) pc h = refl
  act_keeps (Call k) pc h = when_kept (on_stack (e.kind (sp v)) && on_stack (e.kind (lowered (sp v)))) _ _ (call_keeps (pc + 2))
  act_keeps (Rcall k) pc h = when_kept (on_stack (e.kind (sp v)) && on_stack (e.kind (lowered (sp v)))) _ _ (call_keeps (pc + 1))
  act_keeps Ret pc h = when_kept (on_stack (e.kind (raised (sp v))) && on_stack (e.kind (raised (raised (sp v))))) _ _ (λ q. refl)
  act_keeps Break pc h = tt
  act_keeps i pc h = when_kept (goes_on i) ((pc + words i) % 65536) (change e i v) (λ q. change_keeps i h)

-- ---- as if Y were free

module _ (e : Env) (v : View) (holds : HoldsBase e v) where
  y_same : y_of e v ≡ pair v.at 28
  y_same = by_test (nat_lt e.base 65536) refl where
    by_test : (b : Bool) → nat_lt e.base 65536 ≡ b → (if b then e.base else pair v.at 28) ≡ pair v.at 28
    by_test true q = sym (holds (ltb-true e.base 65536 q))
    by_test false q = refl

  pub change_same : (i : Instr) → change e i v ≡ change (unbased e) i v
  change_same (LddY d q) = rw y_same refl
  change_same (StdY q r) = rw y_same refl
  change_same _ = refl

  pub act_same : (i : Instr) (pc : ℕ) → act e (Some i) pc v ≡ act (unbased e) (Some i) pc v
  act_same (LddY d q) pc = rw y_same refl
  act_same (StdY q r) pc = rw y_same refl
  act_same _ pc = refl

noted_same : (e : Env) (a : Access) → noted (unbased e) a ≡ noted e a
noted_same e Silent = refl
noted_same e (In port byte) = refl
noted_same e (Out port byte) = refl
noted_same e (Read DataBank at byte) = refl
noted_same e (Read FlashBank at byte) = refl
noted_same e (Write at byte) = refl
noted_same e Stack = refl

pub free_fits : (e : Env) (size : ℕ) → Fits e size → Fits (unbased e) size
free_fits e size fit = record {
  ports = fit.ports;
  kinds = fit.kinds;
  table = fit.table;
  code = fit.code;
  base = λ l. absurd (omega (arith, l));
}

pub free_shows : {core : Core} (e : Env) (size : ℕ) (m : Memory) (v : View) → Shows e size core m v → Shows (unbased e) size core m v
free_shows e size m v h = record {
  same = h.same;
  flash = h.flash;
  sized = h.sized;
  bytes = h.bytes;
  at = h.at;
  flags = h.flags;
  page = h.page;
  feeds = h.feeds;
  base = λ l. absurd (omega (arith, l));
}

based_shows : {core : Core} (e : Env) (size : ℕ) (m : Memory) (v : View) → Shows (unbased e) size core m v → HoldsBase e v
    → Shows e size core m v
based_shows e size m v h holds = record {
  same = h.same;
  flash = h.flash;
  sized = h.sized;
  bytes = h.bytes;
  at = h.at;
  flags = h.flags;
  page = h.page;
  feeds = h.feeds;
  base = holds;
}

pub based_moves : (e : Env) (size : ℕ) (v w : View) (to : ℕ) (port : Option ℕ) (x : After) → HoldsBase e w
    → Moves (unbased e) size v w to port x → Moves e size v w to port x
based_moves e size v w to port x holds m = record {
  access = m.access;
  ran = m.ran;
  pc = m.pc;
  shows = based_shows e size x.state.mem w m.shows holds;
  seen = m.seen ∙ ap (λ l. v.seen ++ l) (noted_same e m.access);
  inputs = m.inputs;
}

-- what an instruction that goes on leaves
pub base_changed : (e : Env) (size : ℕ) → Fits e size → (v : View) (i : Instr) → keeps_base e.base i ≡ true → HoldsBase e v
    → HoldsBase e (change e i v)
base_changed e size fit v i keeps holds l =
    change_keeps e size fit l v i (based_leaves e.base i l keeps) ∙ holds l
