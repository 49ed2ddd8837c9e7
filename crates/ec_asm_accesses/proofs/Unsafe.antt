-- What is safe after some steps was safe before.
use Rattle.std.proofs.Common.{◌≡◌, ℕ, zero, suc, ◌+◌, ◌-◌, ◌%◌, ◌≤◌, Bool, true, false, ◌&&◌, ap, ◌∙◌, subst, arith, Option, Some, None}
use Rattle.std.specs.Prelude.{if◌then◌else◌}
use Rattle.std.proofs.lemmas.Bool.{false≢true}
use Rattle.ec_space.specs.declared.Core.{Core}
use Rattle.ec_space.specs.declared.Core.TheVariants.{Small, Large}
use Rattle.ec_isa.specs.declared.instructions.Instr.{Instr}
use Rattle.ec_isa.specs.declared.instructions.Instr.TheVariants.{LddZ, LddY, StdZ, StdY, Lds, Sts, LdX, StX, LpmZ, LdXPlus, LdZPlus}
use Rattle.ec_isa.specs.declared.instructions.Instr.TheVariants.{StXPlus, StZPlus, LpmZPlus, Elpm, ElpmInc, Pop, Push, Cpse, In as InInstr}
use Rattle.ec_isa.specs.declared.instructions.Instr.TheVariants.{Out as OutInstr, Jmp, Call, Ret, Break, Rjmp, Rcall, Brbs, Brbc, Sbrc}
use Rattle.ec_isa.specs.declared.instructions.Instr.TheVariants.{Sbrs}
use Rattle.ec_avr.specs.State.{raised, lowered}
use Rattle.ec_asm.specs.Change.{Env, Kind, Own, Object, Port, Stacked, Page, Barred, change, goes_on, words, sp, load_by, store_by, flash_by}
use Rattle.ec_asm.specs.Change.{far_z, by_rampz, push_by, pop_by}
use Rattle.ec_asm.specs.Run.{Status, Running, Ended, Stuck, act, step, run, fetch, on_stack, is_flag, is_safe}
use Rattle.ec_asm.specs.View.{View}

-- ---- accesses

load_was : (k : Kind) (d a : ℕ) (v : View) → (load_by k d a v).safe ≡ true → v.safe ≡ true
load_was Own d a v h = h
load_was Object d a v h = h
load_was Port d a v h = h
load_was Stacked d a v h = absurd (false≢true h)
load_was Page d a v h = absurd (false≢true h)
load_was Barred d a v h = absurd (false≢true h)

store_was : (k : Kind) (a x : ℕ) (v : View) → (store_by k a x v).safe ≡ true → v.safe ≡ true
store_was Own a x v h = h
store_was Object a x v h = h
store_was Port a x v h = h
store_was Stacked a x v h = absurd (false≢true h)
store_was Page a x v h = h
store_was Barred a x v h = absurd (false≢true h)

flash_was : (k : Kind) (d a x : ℕ) (v : View) → (flash_by k d a x v).safe ≡ true → v.safe ≡ true
flash_was Own d a x v h = h
flash_was Object d a x v h = h
flash_was Port d a x v h = absurd (false≢true h)
flash_was Stacked d a x v h = absurd (false≢true h)
flash_was Page d a x v h = absurd (false≢true h)
flash_was Barred d a x v h = absurd (false≢true h)

push_was : (k : Kind) (x : ℕ) (v : View) → (push_by k x v).safe ≡ true → v.safe ≡ true
push_was Stacked x v h = h
push_was Own x v h = absurd (false≢true h)
push_was Object x v h = absurd (false≢true h)
push_was Port x v h = absurd (false≢true h)
push_was Page x v h = absurd (false≢true h)
push_was Barred x v h = absurd (false≢true h)

pop_was : (k : Kind) (d : ℕ) (v : View) → (pop_by k d v).safe ≡ true → v.safe ≡ true
pop_was Stacked d v h = h
pop_was Own d v h = absurd (false≢true h)
pop_was Object d v h = absurd (false≢true h)
pop_was Port d v h = absurd (false≢true h)
pop_was Page d v h = absurd (false≢true h)
pop_was Barred d v h = absurd (false≢true h)

-- an instruction that needs RAMPZ was supported
pub rampz_was : (core : Core) (w v : View) → (by_rampz core w v).safe ≡ true → w.safe ≡ true
rampz_was Small w v h = absurd (false≢true h)
rampz_was Large w v h = h

-- ---- instructions

change_was : (e : Env) (i : Instr) (v : View) → (change e i v).safe ≡ true → v.safe ≡ true
change_was e (Lds d k) v h = load_was (e.kind _) d _ v h
change_was e (InInstr d a) v h = load_was (e.kind _) d _ v h
change_was e (LddZ d q) v h = load_was (e.kind _) d _ v h
change_was e (LddY d q) v h = load_was (e.kind _) d _ v h
change_was e (LdX d) v h = load_was (e.kind _) d _ v h
change_was e (LdXPlus d) v h = load_was (e.kind _) d _ v h
change_was e (LdZPlus d) v h = load_was (e.kind _) d _ v h
change_was e (Sts k r) v h = store_was (e.kind _) _ _ v h
change_was e (OutInstr a r) v h = store_was (e.kind _) _ _ v h
change_was e (StdZ q r) v h = store_was (e.kind _) _ _ v h
change_was e (StdY q r) v h = store_was (e.kind _) _ _ v h
change_was e (StX r) v h = store_was (e.kind _) _ _ v h
change_was e (StXPlus r) v h = store_was (e.kind _) _ _ v h
change_was e (StZPlus r) v h = store_was (e.kind _) _ _ v h
change_was e (LpmZ d) v h = flash_was (e.table _) d _ _ v h
change_was e (LpmZPlus d) v h = flash_was (e.table _) d _ _ v h
change_was e (Elpm d) v h = flash_was (e.table (far_z v)) d (far_z v) _ v (rampz_was e.core _ v h)
change_was e (ElpmInc d) v h = flash_was (e.table (far_z v)) d (far_z v) _ v (rampz_was e.core _ v h)
change_was e (Push r) v h = push_was (e.kind _) _ v h
change_was e (Pop d) v h = pop_was (e.kind _) d v h
change_was e _ v h = cc

when_was : (b : Bool) (pc : ℕ) (v : View) → is_safe (if b then Running pc v else Stuck) ≡ true → v.safe ≡ true
when_was true pc v h = h
when_was false pc v h = absurd (false≢true h)

act_was : (e : Env) (o : Option Instr) (pc : ℕ) (v : View) → is_safe (act e o pc v) ≡ true → v.safe ≡ true
act_was e None pc v h = absurd (false≢true h)
act_was e (Some (Jmp k)) pc v h = h
act_was e (Some (Rjmp k)) pc v h = h
act_was e (Some (Brbs b k)) pc v h = when_was (is_flag b) _ v h
act_was e (Some (Brbc b k)) pc v h = when_was (is_flag b) _ v h
act_was e (Some (Cpse d r)) pc v h = h
act_was e (Some (Sbrc r b)) pc v h = h
act_was e (Some (Sbrs r b)) pc v h = h
act_was e (Some (Rcall k)) pc v h = when_was (on_stack (e.kind (sp v)) && on_stack (e.kind (lowered (sp v)))) _ _ h
act_was e (Some (Call k)) pc v h = when_was (on_stack (e.kind (sp v)) && on_stack (e.kind (lowered (sp v)))) _ _ h
act_was e (Some Ret) pc v h =
    when_was (on_stack (e.kind (raised (sp v))) && on_stack (e.kind (raised (raised (sp v))))) _ _ h
act_was e (Some Break) pc v h = h
act_was e (Some i) pc v h = change_was e i v (when_was (goes_on i) ((pc + words i) % 65536) (change e i v) h)

-- ---- runs

step_was : (e : Env) (st : Status) → is_safe (step e st) ≡ true → is_safe st ≡ true
step_was e (Running pc v) h = act_was e (fetch e pc) pc v h
step_was e (Ended v) h = h
step_was e Stuck h = h

pub safe_before : (e : Env) (j : ℕ) (st : Status) → is_safe (run e j st) ≡ true → is_safe st ≡ true
safe_before e zero st h = h
safe_before e (suc j) st h = step_was e st (safe_before e j (step e st) h)

run_add : (e : Env) (j k : ℕ) (st : Status) → run e (j + k) st ≡ run e k (run e j st)
run_add e zero k st = let q : 0 + k ≡ k = omega arith in ap (λ n. run e n st) q
run_add e (suc j) k st = let q : suc j + k ≡ suc (j + k) = omega arith in ap (λ n. run e n st) q ∙ run_add e j k (step e st)

-- fewer steps are safe too
pub safe_within : (e : Env) (m k : ℕ) (st : Status) → k ≤ m → is_safe (run e m st) ≡ true → is_safe (run e k st) ≡ true
safe_within e m k st less h =
    let q : m ≡ k + (m - k) = omega arith in
    safe_before e (m - k) (run e k st) (subst (λ x. is_safe x ≡ true) (ap (λ n. run e n st) q ∙ run_add e k (m - k) st) h)
