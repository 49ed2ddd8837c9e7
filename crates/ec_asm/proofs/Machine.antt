-- The run of the view is that of the machine.
use Rattle.std.proofs.Common.{◌≡◌, ℕ, zero, suc, ◌+◌, ◌/◌, ◌%◌, ◌<◌, ◌≤◌, Bool, true, false, ◌&&◌, [], ◌∷◌, refl, sym, ap, ◌∙◌, subst, arith}
use Rattle.std.proofs.Common.{Option, Some, None, append-nil, append_assoc, zero-add, ℤ}
use Rattle.std.specs.Prelude.{if◌then◌else◌, ◌==◌, IsTrue}
use Rattle.std.specs.Int.{cast_signed, w16}
use Rattle.std.proofs.lemmas.Bool.{and_parts, false≢true}
use Rattle.ec_space.specs.declared.Core.{Core}
use Rattle.ec_space.specs.declared.Core.TheVariants.{Small, Large}
use Rattle.ec_isa.specs.declared.instructions.Instr.{Instr}
use Rattle.ec_isa.specs.declared.instructions.Instr.TheVariants.{Nop, Movw, Cpc, Sbc, Add, Cpse, Cp, Sub, Adc, And, Eor, Or, Mov, Mul, Cpi}
use Rattle.ec_isa.specs.declared.instructions.Instr.TheVariants.{Sbci, Subi, Ori, Andi, Ldi, LddZ, LddY, StdZ, StdY, Lds, Sts, LdX, StX}
use Rattle.ec_isa.specs.declared.instructions.Instr.TheVariants.{LpmZ, LdXPlus, LdZPlus, StXPlus, StZPlus, LpmZPlus, Elpm, ElpmInc, Pop, Push, Com, Neg}
use Rattle.ec_isa.specs.declared.instructions.Instr.TheVariants.{Swap, Inc, Asr, Lsr, Ror, Dec, Bset, Bclr, Adiw, Sbiw, In as InInstr}
use Rattle.ec_isa.specs.declared.instructions.Instr.TheVariants.{Out as OutInstr, Bst, Jmp, Call, Ret, Break, Rjmp, Rcall, Brbs, Brbc, Sbrc}
use Rattle.ec_isa.specs.declared.instructions.Instr.TheVariants.{Sbrs}
use Rattle.ec_isa.specs.Table.{in_table}
use Rattle.ec_avr.specs.declared.machine.Access.TheVariants.{Silent, Stack}
use Rattle.ec_avr.specs.declared.machine.Stepped.TheVariants.{Ended as MEnded}
use Rattle.ec_avr.specs.Effects.{After, effect, relative, instruction_at, jump, call, skip, has_two_words}
use Rattle.ec_avr.specs.Laws.{SetsOneBit}
use Rattle.ec_avr.specs.Machine.{State, EndedWith, machine, step as m_step, needs_port, is_whole, answer_of, machine_result}
use Rattle.ec_avr.specs.State.{raised, lowered, word_at, sreg, flag, register}
use Rattle.ec_asm.specs.View.{View, pair}
use Rattle.ec_asm.specs.Change.{Env, Kind, Own, Object, Port, Stacked, Page, Barred, unbased, change, goes_on, words, sp, load_by, store_by}
use Rattle.ec_asm.specs.Change.{flash_by, by_rampz, push_by, pop_by, flag_at}
use Rattle.ec_asm.specs.Run.{Status, Running, Ended, Stuck, act, run, fetch, pushed, popped, back_at, on_stack, is_flag, skip_to, keeps_base}
use Rattle.ec_asm.specs.Shows.{HoldsBase, Shows, Fits, Moves, Follows, after, port_of, noted, noted_all, RunsAs}
use Rattle.ec_asm.proofs.Shown.{shows_byte, reads}
use Rattle.ec_asm.proofs.Accesses.{sp_shown, stacked_at, sp_set}
use Rattle.ec_asm.proofs.Single.{flag_seen}
use Rattle.ec_asm.proofs.Steps.{follows, two, bit_place}
use Rattle.ec_asm.proofs.Based.{IsKept, act_keeps, act_same, change_same, base_changed, free_fits, free_shows, based_moves}
use Rattle.ec_asm.proofs.Fetched.{fetched, based_leaves}
use Rattle.ec_asm.proofs.Known.{known}
use Rattle.ec_asm.proofs.MachineLaws.{StepLaws}

-- ---- what was not safe stays so

load_unsafe : (k : Kind) (d a : ℕ) (v : View) → v.safe ≡ false → (load_by k d a v).safe ≡ false
load_unsafe Own d a v h = h
load_unsafe Object d a v h = h
load_unsafe Port d a v h = h
load_unsafe Stacked d a v h = refl
load_unsafe Page d a v h = refl
load_unsafe Barred d a v h = refl

store_unsafe : (k : Kind) (a x : ℕ) (v : View) → v.safe ≡ false → (store_by k a x v).safe ≡ false
store_unsafe Own a x v h = h
store_unsafe Object a x v h = h
store_unsafe Port a x v h = h
store_unsafe Stacked a x v h = refl
store_unsafe Page a x v h = h
store_unsafe Barred a x v h = refl

flash_unsafe : (k : Kind) (d a x : ℕ) (v : View) → v.safe ≡ false → (flash_by k d a x v).safe ≡ false
flash_unsafe Own d a x v h = h
flash_unsafe Object d a x v h = h
flash_unsafe Port d a x v h = refl
flash_unsafe Stacked d a x v h = refl
flash_unsafe Page d a x v h = refl
flash_unsafe Barred d a x v h = refl

push_unsafe : (k : Kind) (x : ℕ) (v : View) → v.safe ≡ false → (push_by k x v).safe ≡ false
push_unsafe Stacked x v h = h
push_unsafe Own x v h = refl
push_unsafe Object x v h = refl
push_unsafe Port x v h = refl
push_unsafe Page x v h = refl
push_unsafe Barred x v h = refl

pop_unsafe : (k : Kind) (d : ℕ) (v : View) → v.safe ≡ false → (pop_by k d v).safe ≡ false
pop_unsafe Stacked d v h = h
pop_unsafe Own d v h = refl
pop_unsafe Object d v h = refl
pop_unsafe Port d v h = refl
pop_unsafe Page d v h = refl
pop_unsafe Barred d v h = refl

rampz_unsafe : (core : Core) (w v : View) → w.safe ≡ false → (by_rampz core w v).safe ≡ false
rampz_unsafe Small w v h = refl
rampz_unsafe Large w v h = h

pub change_unsafe : (e : Env) (i : Instr) (v : View) → v.safe ≡ false → (change e i v).safe ≡ false
change_unsafe e Nop v h = h
change_unsafe e (Movw d k) v h = h
change_unsafe e (Mov d k) v h = h
change_unsafe e (Ldi d k) v h = h
change_unsafe e (Add d k) v h = h
change_unsafe e (Adc d k) v h = h
change_unsafe e (Sub d k) v h = h
change_unsafe e (Sbc d k) v h = h
change_unsafe e (Subi d k) v h = h
change_unsafe e (Sbci d k) v h = h
change_unsafe e (Neg d) v h = h
change_unsafe e (Cp d k) v h = h
change_unsafe e (Cpc d k) v h = h
change_unsafe e (Cpi d k) v h = h
change_unsafe e (And d k) v h = h
change_unsafe e (Andi d k) v h = h
change_unsafe e (Or d k) v h = h
change_unsafe e (Ori d k) v h = h
change_unsafe e (Eor d k) v h = h
change_unsafe e (Com d) v h = h
change_unsafe e (Inc d) v h = h
change_unsafe e (Dec d) v h = h
change_unsafe e (Asr d) v h = h
change_unsafe e (Lsr d) v h = h
change_unsafe e (Ror d) v h = h
change_unsafe e (Swap d) v h = h
change_unsafe e (Adiw d k) v h = h
change_unsafe e (Sbiw d k) v h = h
change_unsafe e (Mul d k) v h = h
change_unsafe e (Bset b) v h = h
change_unsafe e (Bclr b) v h = h
change_unsafe e (Bst d b) v h = h
change_unsafe e (Lds d k) v h = load_unsafe (e.kind _) d _ v h
change_unsafe e (InInstr d a) v h = load_unsafe (e.kind _) d _ v h
change_unsafe e (LddZ d q) v h = load_unsafe (e.kind _) d _ v h
change_unsafe e (LddY d q) v h = load_unsafe (e.kind _) d _ v h
change_unsafe e (LdX d) v h = load_unsafe (e.kind _) d _ v h
change_unsafe e (Sts k r) v h = store_unsafe (e.kind _) _ _ v h
change_unsafe e (OutInstr a r) v h = store_unsafe (e.kind _) _ _ v h
change_unsafe e (StdZ q r) v h = store_unsafe (e.kind _) _ _ v h
change_unsafe e (StdY q r) v h = store_unsafe (e.kind _) _ _ v h
change_unsafe e (StX r) v h = store_unsafe (e.kind _) _ _ v h
change_unsafe e (LpmZ d) v h = flash_unsafe (e.table _) d _ _ v h
change_unsafe e (LdXPlus d) v h = load_unsafe (e.kind _) d _ v h
change_unsafe e (LdZPlus d) v h = load_unsafe (e.kind _) d _ v h
change_unsafe e (StXPlus r) v h = store_unsafe (e.kind _) _ _ v h
change_unsafe e (StZPlus r) v h = store_unsafe (e.kind _) _ _ v h
change_unsafe e (LpmZPlus d) v h = flash_unsafe (e.table _) d _ _ v h
change_unsafe e (Elpm d) v h = rampz_unsafe e.core _ v (flash_unsafe (e.table _) d _ _ v h)
change_unsafe e (ElpmInc d) v h = rampz_unsafe e.core _ v (flash_unsafe (e.table _) d _ _ v h)
change_unsafe e (Push r) v h = push_unsafe (e.kind _) _ v h
change_unsafe e (Pop d) v h = pop_unsafe (e.kind _) d v h
change_unsafe e _ v h = refl

abbrev pub IsUnsafe : Status → Type 0
IsUnsafe (Running pc v) = v.safe ≡ false
IsUnsafe (Ended v) = v.safe ≡ false
IsUnsafe Stuck = Unit {0}

when_unsafe : (b : Bool) (pc : ℕ) (v : View) → v.safe ≡ false → IsUnsafe (if b then Running pc v else Stuck)
when_unsafe true pc v h = h
when_unsafe false pc v h = tt

act_unsafe : (e : Env) (o : Option Instr) (pc : ℕ) (v : View) → v.safe ≡ false → IsUnsafe (act e o pc v)
act_unsafe e None pc v h = tt
act_unsafe e (Some (Jmp k)) pc v h = h
act_unsafe e (Some (Rjmp k)) pc v h = h
act_unsafe e (Some (Brbs b k)) pc v h = when_unsafe (is_flag b) _ v h
act_unsafe e (Some (Brbc b k)) pc v h = when_unsafe (is_flag b) _ v h
act_unsafe e (Some (Cpse d r)) pc v h = h
act_unsafe e (Some (Sbrc r b)) pc v h = h
act_unsafe e (Some (Sbrs r b)) pc v h = h
act_unsafe e (Some (Rcall k)) pc v h =
    when_unsafe (on_stack (e.kind (sp v)) && on_stack (e.kind (lowered (sp v)))) _ _ h
act_unsafe e (Some (Call k)) pc v h = when_unsafe (on_stack (e.kind (sp v)) && on_stack (e.kind (lowered (sp v)))) _ _ h
act_unsafe e (Some Ret) pc v h =
    when_unsafe (on_stack (e.kind (raised (sp v))) && on_stack (e.kind (raised (raised (sp v))))) _ _ h
act_unsafe e (Some Break) pc v h = h
act_unsafe e (Some i) pc v h = when_unsafe (goes_on i) ((pc + words i) % 65536) (change e i v) (change_unsafe e i v h)

pub run_unsafe : (e : Env) (m : ℕ) (st : Status) → IsUnsafe st → IsUnsafe (run e m st)
run_unsafe e zero st h = h
run_unsafe e (suc m) (Running pc v) h = run_unsafe e m (act e (fetch e pc) pc v) (act_unsafe e (fetch e pc) pc v h)
run_unsafe e (suc m) (Ended v) h = run_unsafe e m (Ended v) h
run_unsafe e (suc m) Stuck h = run_unsafe e m Stuck tt

-- ---- one step

result_shown : (e : Env) (size : ℕ) (s : State) (v : View) → Shows e size s.core s.mem v
    → machine_result s ≡ cast_signed w16 (pair v.at 24)
result_shown e size s v h =
    let p = reads e size s.mem v 24 h (omega arith) (omega arith) in
    let q = reads e size s.mem v 25 h (omega arith) (omega arith) in
    rw (p, q) refl

abbrev IsMove : (e : Env) (size : ℕ) (v : View) (port : Option ℕ) (x : After) → Status → Type 0
IsMove e size v port x (Running pc w) = w.safe ≡ true → Moves e size v w pc port x
IsMove e size v port x (Ended w) = (w ≡ v) × (x.stepped ≡ MEnded) × (machine_result x.state ≡ cast_signed w16 (pair v.at 24))
IsMove e size v port x Stuck = Unit {0}

pub on_stack_is : (k : Kind) → IsTrue (on_stack k) → k ≡ Stacked
on_stack_is Stacked h = refl
on_stack_is Own h = absurd (false≢true h)
on_stack_is Object h = absurd (false≢true h)
on_stack_is Port h = absurd (false≢true h)
on_stack_is Page h = absurd (false≢true h)
on_stack_is Barred h = absurd (false≢true h)

module _ (laws : StepLaws) (e : Env) (size : ℕ) (free : 65536 ≤ e.base) (fit : Fits e size) (s : State) (v : View)
    (h : Shows e size s.core s.mem v) where
  jumped : (to : ℕ) (x : After) → x ≡ jump to s → Moves e size v v (to % 65536) None x
  jumped to x p = record {
    access = Silent;
    ran = ap (λ y. y.stepped) p;
    pc = ap (λ y. y.state.pc) p;
    shows = subst (λ y. Shows e size y.state.core y.state.mem v) (sym p) h;
    seen = sym (append-nil v.seen);
    inputs = refl;
  }

  flag_is : (b : ℕ) → is_flag b ≡ true → flag_at v.flags b ≡ flag s b
  flag_is b k = ap (λ f. flag_at f b) h.flags ∙ flag_seen (sreg s) b k

  branch_set : (b : ℕ) (k : ℤ) (u : Bool) → is_flag b ≡ u
      → IsMove e size v None (effect (Some (Brbs b k)) 0 s)
      (if u then Running ((if flag_at v.flags b == 1 then relative s.pc k else s.pc + 1) % 65536) v else Stuck)
  unfolding effect
  branch_set b k true q = λ safe. rw (flag_is b q) (jumped _ _ refl)
  branch_set b k false q = tt

  branch_clear : (b : ℕ) (k : ℤ) (u : Bool) → is_flag b ≡ u
      → IsMove e size v None (effect (Some (Brbc b k)) 0 s)
      (if u then Running ((if flag_at v.flags b == 0 then relative s.pc k else s.pc + 1) % 65536) v else Stuck)
  unfolding effect
  branch_clear b k true q = λ safe. rw (flag_is b q) (jumped _ _ refl)
  branch_clear b k false q = tt

  called : (to back : ℕ) (u : Bool) → (on_stack (e.kind (sp v)) && on_stack (e.kind (lowered (sp v)))) ≡ u
      → IsMove e size v None (call to back s) (if u then Running (to % 65536) (pushed back v) else Stuck)
  called to back false q = tt
  called to back true q = λ safe.
      let p = and_parts (on_stack (e.kind (sp v))) (on_stack (e.kind (lowered (sp v)))) q in
      let a = stacked_at e size fit s v h (sp v) (on_stack_is _ p.0) in
      let b = stacked_at e size fit s v h (lowered (sp v)) (on_stack_is _ p.1) in
      let t = sp_shown e size fit s v h in
      record {
        access = Stack;
        ran = rw (t, a.2, b.2) refl;
        pc = rw (t, a.2, b.2) refl;
        shows = rw (t, a.2, b.2) (sp_set e size free fit s v h _ _ (lowered (lowered (sp v))) (shows_byte e size free _ _ (lowered (sp v))
            (back / 256 % 256) (shows_byte e size free s.mem v (sp v) (back % 256) h a.1 (let g = a.0 in omega arith) (let g = a.0 in omega arith)
            (omega arith)) b.1 (let g = b.0 in omega arith) (let g = b.0 in omega arith) (omega arith)) (omega arith));
        seen = sym (append-nil v.seen);
        inputs = refl;
      }

  skipped : (taken other : Bool) → taken ≡ other
      → IsMove e size v None (skip other s) (Running (skip_to e taken s.pc) v)
  skipped taken other q = λ safe.
      let next = if has_two_words (instruction_at s (s.pc + 1)) then 2 else 1 in
      let to = s.pc + 1 + (if other then next else 0) in
      let p : skip_to e taken s.pc ≡ to % 65536 = rw (q, h.flash) refl in
      subst (λ n. Moves e size v v n None (skip other s)) (sym p) (jumped to (skip other s) refl)

  byte_read : (d : ℕ) → d < 32 → v.at d ≡ register s d
  byte_read d l = sym (reads e size s.mem v d h (omega arith) (omega arith))

  returned : (u : Bool) → (on_stack (e.kind (raised (sp v))) && on_stack (e.kind (raised (raised (sp v))))) ≡ u
      → IsMove e size v None (effect (Some Ret) 0 s) (if u then Running (back_at v % 65536) (popped v) else Stuck)
  unfolding effect
  returned false q = tt
  returned true q = λ safe.
      let p = and_parts (on_stack (e.kind (raised (sp v)))) (on_stack (e.kind (raised (raised (sp v))))) q in
      let a = stacked_at e size fit s v h (raised (sp v)) (on_stack_is _ p.0) in
      let b = stacked_at e size fit s v h (raised (raised (sp v))) (on_stack_is _ p.1) in
      let t = sp_shown e size fit s v h in
      let ra = reads e size s.mem v (raised (sp v)) h (let g = a.0 in omega arith) (let g = a.0 in omega arith) in
      let rb = reads e size s.mem v (raised (raised (sp v))) h (let g = b.0 in omega arith) (let g = b.0 in omega arith) in
      record {
        access = Stack;
        ran = rw (t, a.2, b.2) refl;
        pc = rw (t, a.2, b.2, ra, rb) refl;
        shows = rw (t, a.2, b.2) (sp_set e size free fit s v h _ _ (raised (raised (sp v))) h (omega arith));
        seen = sym (append-nil v.seen);
        inputs = refl;
      }

  on : (i : Instr) (u : Bool) → IsTrue (in_table i)
      → IsMove e size v (port_of i s) (after i s v) (if u then Running ((s.pc + words i) % 65536) (change e i v) else Stuck)
  on i true t = λ safe. follows laws.one_bit e size free fit s v h i t safe
  on i false t = tt

  act_moves : (i : Instr) → IsTrue (in_table i) → IsMove e size v (port_of i s) (after i s v) (act e (Some i) s.pc v)
  unfolding effect
  act_moves (Jmp k) t = λ safe. jumped k _ refl
  act_moves (Rjmp k) t = λ safe. jumped (relative s.pc k) _ refl
  act_moves (Brbs b k) t = branch_set b k (is_flag b) refl
  act_moves (Brbc b k) t = branch_clear b k (is_flag b) refl
  act_moves (Cpse d r) t = let l = two d r t in let a = byte_read d l.0 in let b = byte_read r l.1 in skipped _ _ (rw (a, b) refl)
  act_moves (Sbrc r b) t = let a = byte_read r (bit_place r b t) in skipped _ _ (rw a refl)
  act_moves (Sbrs r b) t = let a = byte_read r (bit_place r b t) in skipped _ _ (rw a refl)
  act_moves (Call k) t = called k (s.pc + 2) _ refl
  act_moves (Rcall k) t = called (relative s.pc k) (s.pc + 1) _ refl
  act_moves Ret t = returned _ refl
  act_moves Break t = (refl, refl, result_shown e size s v h)
  act_moves i t = on i (goes_on i) t

-- the same where Y holds a base
module _ (laws : StepLaws) (e : Env) (size : ℕ) (fit : Fits e size) (s : State) (v : View) (h : Shows e size s.core s.mem v) where
  held_after : (i : Instr) (pc : ℕ) (w : View) → keeps_base e.base i ≡ true → act e (Some i) s.pc v ≡ Running pc w → HoldsBase e w
  held_after i pc w keeps q l =
      let kept : IsKept e size fit l v (Running pc w) =
      subst (IsKept e size fit l v) q (act_keeps e size fit l v i s.pc (based_leaves e.base i l keeps)) in
      kept ∙ h.base l

  based_move : (i : Instr) (st : Status) → keeps_base e.base i ≡ true → act e (Some i) s.pc v ≡ st
      → IsMove (unbased e) size v (port_of i s) (after i s v) st → IsMove e size v (port_of i s) (after i s v) st
  based_move i (Running pc w) keeps q m = λ safe.
      based_moves e size v w pc (port_of i s) (after i s v) (held_after i pc w keeps q) (m safe)
  based_move i (Ended w) keeps q m = m
  based_move i Stuck keeps q m = tt

  pub based_act_moves : (i : Instr) → IsTrue (in_table i) → keeps_base e.base i ≡ true
      → IsMove e size v (port_of i s) (after i s v) (act e (Some i) s.pc v)
  based_act_moves i t keeps =
      let free : 65536 ≤ (unbased e).base = omega arith in
      let m = act_moves laws (unbased e) size free (free_fits e size fit) s v (free_shows e size s.mem v h) i t in
      based_move i (act e (Some i) s.pc v) keeps refl
      (subst (IsMove (unbased e) size v (port_of i s) (after i s v)) (sym (act_same e v h.base i s.pc)) m)

-- so an instruction that goes on
pub based_follows : SetsOneBit → (e : Env) (size : ℕ) → Fits e size → (s : State) (v : View) → Shows e size s.core s.mem v → (i : Instr)
    → IsTrue (in_table i) → keeps_base e.base i ≡ true → (change e i v).safe ≡ true → Follows e size i s v
based_follows one_bit e size fit s v h i t keeps safe =
    let free : 65536 ≤ (unbased e).base = omega arith in
    let same = change_same e v h.base i in
    let m = follows one_bit (unbased e) size free (free_fits e size fit) s v (free_shows e size s.mem v h) i t
    (ap (λ w. w.safe) (sym same) ∙ safe) in
    based_moves e size v (change e i v) ((s.pc + words i) % 65536) (port_of i s) (after i s v)
    (base_changed e size fit v i keeps h.base)
    (subst (λ w. Moves (unbased e) size v w ((s.pc + words i) % 65536) (port_of i s) (after i s v)) (sym same) m)

-- ---- runs

pub taken_if : (b : Bool) (o : Option Instr) (i : Instr) → (if b then o else None) ≡ Some i → IsTrue b × (o ≡ Some i)
taken_if true o i p = (refl, p)
taken_if false o i p = cc

pub run-stuck : (e : Env) (m : ℕ) → run e m Stuck ≡ Stuck
run-stuck e zero = refl
run-stuck e (suc m) = run-stuck e m

pub run-ended : (e : Env) (m : ℕ) (w : View) → run e m (Ended w) ≡ Ended w
run-ended e zero w = refl
run-ended e (suc m) w = run-ended e m w

unsafe_runs : (e : Env) (size m : ℕ) (v : View) (s : State) (st : Status) → IsUnsafe st → RunsAs e size m v s st
unsafe_runs e size m v s (Running pc w) h = λ safe. absurd (false≢true (sym h ∙ safe))
unsafe_runs e size m v s (Ended w) h = λ safe. absurd (false≢true (sym h ∙ safe))
unsafe_runs e size m v s Stuck h = tt

-- the step of the machine, where the instruction is known
step_is : StepLaws → (e : Env) (size : ℕ) (s : State) (v : View) (i : Instr) → Shows e size s.core s.mem v → fetch e s.pc ≡ Some i
    → (m_step (answer_of v.inputs (needs_port s)) s ≡ after i s v) × (needs_port s ≡ port_of i s) × IsTrue (in_table i)
step_is laws e size s v i h f =
    let g : (if is_whole s then instruction_at s s.pc else None) ≡ Some i = rw h.flash (fetched e s.pc i f).0 in
    let t = taken_if (is_whole s) (instruction_at s s.pc) i g in
    let d = known (word_at s s.pc) (word_at s (s.pc + 1)) i t.1 in
    let n : needs_port s ≡ port_of i s = laws.needs s i t.0 t.1 in
    (laws.steps (answer_of v.inputs (needs_port s)) s i t.0 t.1 ∙ ap (λ port. effect (Some i) (answer_of v.inputs port) s) n, n, d)

later : (e : Env) (size m : ℕ) (v w : View) (s : State) (x : After) (port : Option ℕ) (pc : ℕ) (st : Status)
    → Moves e size v w pc port x → m_step (answer_of v.inputs (needs_port s)) s ≡ x → needs_port s ≡ port
    → RunsAs e size m w x.state st → RunsAs e size (suc m) v s st
unfolding machine
later e size m v w s x port pc (Running q u) k p n r = λ safe.
    let g = r safe in
    record {
      trace = k.access ∷ g.trace;
      state = g.state;
      ran = rw (p, n, k.ran, sym k.inputs, g.ran) refl;
      on = λ j.
          let one : suc m + j ≡ suc (m + j) = omega arith in
          rw (one, p, n, k.ran, sym k.inputs, g.on j) refl;
      at = g.at;
      shows = g.shows;
      seen = g.seen ∙ rw k.seen (append_assoc v.seen (noted e k.access) (noted_all e g.trace));
    }
later e size m v w s x port pc (Ended u) k p n r = λ safe.
    let g = r safe in
    record {
      trace = k.access ∷ g.trace;
      ran = rw (p, n, k.ran, sym k.inputs, g.ran) refl;
      seen = g.seen ∙ rw k.seen (append_assoc v.seen (noted e k.access) (noted_all e g.trace));
    }
later e size m v w s x port pc Stuck k p n r = tt

module _ (laws : StepLaws) (e : Env) (size : ℕ) (fit : Fits e size) (m : ℕ) (ih : (s : State) (v : View) → Shows e size s.core s.mem v
    → RunsAs e size m v s (run e m (Running s.pc v))) (s : State) (v : View) (h : Shows e size s.core s.mem v) where
  by_safe : (i : Instr) (pc : ℕ) (w : View) (b : Bool) → w.safe ≡ b → fetch e s.pc ≡ Some i
      → (w.safe ≡ true → Moves e size v w pc (port_of i s) (after i s v))
      → RunsAs e size (suc m) v s (run e m (Running pc w))
  by_safe i pc w false u f k = unsafe_runs e size (suc m) v s _ (run_unsafe e m (Running pc w) u)
  by_safe i pc w true u f k =
      let g = k u in
      let q = step_is laws e size s v i h f in
      later e size m v w s (after i s v) (port_of i s) pc _ g q.0 q.1
      (subst (λ n. RunsAs e size m w (after i s v).state (run e m (Running n w))) g.pc (ih (after i s v).state w g.shows))

  by_status : (i : Instr) (st : Status) → fetch e s.pc ≡ Some i → IsMove e size v (port_of i s) (after i s v) st
      → RunsAs e size (suc m) v s (run e m st)
  unfolding machine
  by_status i Stuck f k = subst (RunsAs e size (suc m) v s) (sym (run-stuck e m)) tt
  by_status i (Ended w) f k =
      let q = step_is laws e size s v i h f in
      subst (RunsAs e size (suc m) v s) (sym (run-ended e m w)) (λ safe. record {
        trace = [];
        ran = rw (q.0, k.1) (ap (EndedWith []) (k.2 ∙ ap (λ u. cast_signed w16 (pair u.at 24)) (sym k.0)));
        seen = ap (λ u. u.seen) k.0 ∙ sym (append-nil v.seen);
      })
  by_status i (Running pc w) f k = by_safe i pc w w.safe refl f k

  by_fetch : (o : Option Instr) → fetch e s.pc ≡ o → RunsAs e size (suc m) v s (run e m (act e o s.pc v))
  by_fetch None f = subst (RunsAs e size (suc m) v s) (sym (run-stuck e m)) tt
  by_fetch (Some i) f =
      let q = step_is laws e size s v i h f in
      by_status i (act e (Some i) s.pc v) f (based_act_moves laws e size fit s v h i q.2 (fetched e s.pc i f).1)

-- the run of the view is that of the machine, as long as it is safe
pub runs_as : StepLaws → (e : Env) (size : ℕ) → Fits e size → (m : ℕ) (s : State) (v : View) → Shows e size s.core s.mem v
    → RunsAs e size m v s (run e m (Running s.pc v))
unfolding machine
runs_as laws e size fit zero s v h =
    λ safe. record {
      trace = [];
      state = s;
      ran = refl;
      on = λ j. ap (λ (n : ℕ). machine n v.inputs s) (zero-add j);
      at = refl;
      shows = h;
      seen = sym (append-nil v.seen);
    }
runs_as laws e size fit (suc m) s v h = by_fetch laws e size fit m (runs_as laws e size fit m) s v h (fetch e s.pc) refl
