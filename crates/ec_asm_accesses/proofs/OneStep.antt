-- One step: what it accesses is allowed, where the view allows it.
use Rattle.std.proofs.Common.{◌≡◌, ⊎_elim, ℕ, ◌+◌, ◌*◌, ◌%◌, Bool, true, false, not, ◌&&◌, refl, sym, ap, ◌∙◌, subst, arith, Some, length}
use Rattle.std.specs.Prelude.{if◌then◌else◌, nat_lt, nat_le, ◌==◌, slice_index, ⊤}
use Rattle.std.proofs.lemmas.Bool.{and_parts, false≢true, ltb-true, ltb-false, eqb-true, or_cases}
use Rattle.std.proofs.lemmas.Bool.Decides.{nat_tests}
use Rattle.ec_space.specs.declared.space.Bank.TheVariants.{Data as DataBank}
use Rattle.ec_isa.specs.declared.instructions.Instr.{Instr}
use Rattle.ec_isa.specs.declared.instructions.Instr.TheVariants.{LddZ, LddY, StdZ, StdY, Lds, Sts, LdX, StX, LpmZ, LdXPlus, LdZPlus}
use Rattle.ec_isa.specs.declared.instructions.Instr.TheVariants.{StXPlus, StZPlus, LpmZPlus, Elpm, ElpmInc, Pop, Push, In as InInstr, Out as OutInstr}
use Rattle.ec_isa.specs.declared.instructions.Instr.TheVariants.{Call, Ret, Rcall, LdMinusZ, LdYPlus, LdMinusY, LdMinusX, StMinusZ, StYPlus}
use Rattle.ec_isa.specs.declared.instructions.Instr.TheVariants.{StMinusY, StMinusX, Icall}
use Rattle.ec_avr.specs.declared.machine.Access.TheVariants.{Silent, In, Out, Read, Write, Stack}
use Rattle.ec_avr.specs.declared.machine.FaultKind.TheVariants.{Unsupported}
use Rattle.ec_avr.specs.declared.machine.Stepped.{Stepped}
use Rattle.ec_avr.specs.declared.machine.Stepped.TheVariants.{Ran, Ended as MEnded, Fault}
use Rattle.ec_avr.specs.Effects.{After, effect, load, store, load_access, store_access, load_and_raise, store_and_raise, load_flash}
use Rattle.ec_avr.specs.Effects.{load_flash_and_raise, load_far, load_far_and_raise, faulted, push, pop, call, return_from_call}
use Rattle.ec_avr.specs.Machine.{State}
use Rattle.ec_space.specs.declared.Core.{Core}
use Rattle.ec_avr.specs.State.{has_rampz, far_pointer, is_core_register, is_sram, raised, lowered, stack_pointer, pair as m_pair}
use Rattle.ec_asm.specs.View.{View, is_apart, pair}
use Rattle.ec_asm.specs.Change.{Env, Kind, Own, Object, Port, Stacked, Page, Barred, y_of, change, load_by, store_by, flash_by, push_by, pop_by, sp}
use Rattle.ec_asm.specs.Change.{far_z}
use Rattle.ec_asm.specs.Run.{Status, Running, Stuck, act, call_by, on_stack, pushed, popped, back_at, is_safe}
use Rattle.ec_asm.specs.Pieces.{is_held}
use Rattle.ec_asm.specs.Shows.{Shows, Fits, may_be}
use Rattle.ec_asm_accesses.specs.Allowed.{IsAllowed}
use Rattle.ec_asm_accesses.proofs.Unsafe.{rampz_was}

-- what a step did is allowed
abbrev pub IsStepAllowed : Env → Stepped → Type 0
IsStepAllowed e (Ran a) = IsAllowed e a
IsStepAllowed e MEnded = ⊤
IsStepAllowed e (Fault kind pc) = ⊤

-- ---- kinds

abbrev IsUsed : Kind → Type 0
IsUsed Own = ⊤
IsUsed Object = ⊤
IsUsed Port = ⊤
IsUsed Stacked = ⊥
IsUsed Page = ⊤
IsUsed Barred = ⊥

load_used : (k : Kind) (d a : ℕ) (v : View) → (load_by k d a v).safe ≡ true → IsUsed k
load_used Own d a v h = tt
load_used Object d a v h = tt
load_used Port d a v h = tt
load_used Stacked d a v h = absurd (false≢true h)
load_used Page d a v h = tt
load_used Barred d a v h = absurd (false≢true h)

store_used : (k : Kind) (a x : ℕ) (v : View) → (store_by k a x v).safe ≡ true → IsUsed k
store_used Own a x v h = tt
store_used Object a x v h = tt
store_used Port a x v h = tt
store_used Stacked a x v h = absurd (false≢true h)
store_used Page a x v h = tt
store_used Barred a x v h = absurd (false≢true h)

flash_held : (k : Kind) (d a x : ℕ) (v : View) → (flash_by k d a x v).safe ≡ true → is_held k ≡ true
flash_held Own d a x v h = refl
flash_held Object d a x v h = refl
flash_held Port d a x v h = absurd (false≢true h)
flash_held Stacked d a x v h = absurd (false≢true h)
flash_held Page d a x v h = absurd (false≢true h)
flash_held Barred d a x v h = absurd (false≢true h)

push_stacked : (k : Kind) (x : ℕ) (v : View) → (push_by k x v).safe ≡ true → k ≡ Stacked
push_stacked Own x v h = absurd (false≢true h)
push_stacked Object x v h = absurd (false≢true h)
push_stacked Port x v h = absurd (false≢true h)
push_stacked Page x v h = absurd (false≢true h)
push_stacked Stacked x v h = refl
push_stacked Barred x v h = absurd (false≢true h)

pop_stacked : (k : Kind) (d : ℕ) (v : View) → (pop_by k d v).safe ≡ true → k ≡ Stacked
pop_stacked Own d v h = absurd (false≢true h)
pop_stacked Object d v h = absurd (false≢true h)
pop_stacked Port d v h = absurd (false≢true h)
pop_stacked Page d v h = absurd (false≢true h)
pop_stacked Stacked d v h = refl
pop_stacked Barred d v h = absurd (false≢true h)

is_stacked : (k : Kind) → on_stack k ≡ true → k ≡ Stacked
is_stacked Own h = absurd (false≢true h)
is_stacked Object h = absurd (false≢true h)
is_stacked Port h = absurd (false≢true h)
is_stacked Page h = absurd (false≢true h)
is_stacked Stacked h = refl
is_stacked Barred h = absurd (false≢true h)

-- RAMPZ is at its address, where the core has it
page_at : (core : Core) (a : ℕ) → ((a == 0x5B) && has_rampz core) ≡ true → (a ≡ 91) × (has_rampz core ≡ true)
page_at core a may = let p = and_parts (a == 0x5B) (has_rampz core) may in (eqb-true a 91 p.0, p.1)

-- above the ports a byte that is used is held
high_is_held : (core : Core) (k : Kind) (size a : ℕ) → may_be core k size a ≡ true → IsUsed k → nat_lt a 256 ≡ false → is_held k ≡ true
high_is_held core Own size a may u high = refl
high_is_held core Object size a may u high = refl
high_is_held core Port size a may u high = absurd (false≢true (sym high ∙ (and_parts (nat_lt a 256) (not (is_core_register core a)) may).0))
high_is_held core Stacked size a may u high = absurd u
high_is_held core Page size a may u high =
    absurd (false≢true (subst (λ (n : ℕ). false ≡ nat_lt n 256) (page_at core a may).0 (sym high)))
high_is_held core Barred size a may u high = absurd u

-- below, but for registers, it is a port
no_memory : (size a : ℕ) → (nat_le 256 a && nat_lt a size) ≡ true → nat_lt a 256 ≡ true → ⊥
no_memory size a may low = let p = and_parts (nat_le 256 a) (nat_lt a size) may in grind (arith, nat_tests)

low_is_port : (core : Core) (k : Kind) (size a : ℕ) → may_be core k size a ≡ true → IsUsed k → is_core_register core a ≡ false
    → nat_lt a 256 ≡ true → k ≡ Port
low_is_port core Own size a may u out low =
    absurd (⊎_elim (λ c. false≢true (sym out ∙ (and_parts (is_core_register core a) (not (is_apart a)) c).0)) (λ h. no_memory size a h low)
    (or_cases (is_core_register core a && not (is_apart a)) (nat_le 256 a && nat_lt a size) may))
low_is_port core Object size a may u out low = absurd (no_memory size a may low)
low_is_port core Port size a may u out low = refl
low_is_port core Stacked size a may u out low = absurd u
low_is_port core Page size a may u out low =
    let p = page_at core a may in
    absurd (false≢true (subst (λ (n : ℕ). false ≡ is_core_register core n) p.0 (sym out) ∙ p.1))
low_is_port core Barred size a may u out low = absurd u

module _ (e : Env) (size : ℕ) (fit : Fits e size) (s : State) (v : View) (h : Shows e size s.core s.mem v) where
  -- ---- families

  may_at : (a : ℕ) → may_be s.core (e.kind a) size a ≡ true
  may_at a = subst (λ (core : Core). may_be core (e.kind a) size a ≡ true) (sym h.same) (fit.kinds a)

  load_access_allowed : (a byte : ℕ) → IsUsed (e.kind a) → IsAllowed e (load_access s.core a byte)
  load_access_allowed a byte u = by_tests (is_core_register s.core a) (nat_lt a 256) refl refl where
    by_tests : (b c : Bool) → is_core_register s.core a ≡ b → nat_lt a 256 ≡ c
        → IsAllowed e (if b then Silent else (if c then In a byte else Read DataBank a byte))
    by_tests true c core low = tt
    by_tests false true core low = low_is_port s.core (e.kind a) size a (may_at a) u core low
    by_tests false false core low = (ltb-false a 256 low, high_is_held s.core (e.kind a) size a (may_at a) u low)

  store_access_allowed : (a byte : ℕ) → IsUsed (e.kind a) → IsAllowed e (store_access s.core a byte)
  store_access_allowed a byte u = by_tests (is_core_register s.core a) (nat_lt a 256) refl refl where
    by_tests : (b c : Bool) → is_core_register s.core a ≡ b → nat_lt a 256 ≡ c
        → IsAllowed e (if b then Silent else (if c then Out a byte else Write a byte))
    by_tests true c core low = tt
    by_tests false true core low = low_is_port s.core (e.kind a) size a (may_at a) u core low
    by_tests false false core low = (ltb-false a 256 low, high_is_held s.core (e.kind a) size a (may_at a) u low)

  -- one of two outcomes
  where_allowed : (b : Bool) (x y : After) → IsStepAllowed e x.stepped → IsStepAllowed e y.stepped
      → IsStepAllowed e (if b then x else y).stepped
  where_allowed true x y f g = f
  where_allowed false x y f g = g

  load_allowed : (d a answer words : ℕ) → IsUsed (e.kind a) → IsStepAllowed e (load d a answer words s).stepped
  load_allowed d a answer words u =
      where_allowed (nat_lt a (length s.mem.data)) _ _ (load_access_allowed a _ u) tt

  load_raised : (d pointer answer : ℕ) → IsUsed (e.kind (m_pair s pointer)) → IsStepAllowed e (load_and_raise d pointer answer s).stepped
  load_raised d pointer answer u =
      where_allowed (nat_lt (m_pair s pointer) (length s.mem.data)) _ _ (load_access_allowed (m_pair s pointer) _ u) tt

  store_allowed : (a byte words : ℕ) → IsUsed (e.kind a) → IsStepAllowed e (store a byte words s).stepped
  store_allowed a byte words u =
      where_allowed (nat_lt a (length s.mem.data)) _ _ (store_access_allowed a byte u) tt

  store_raised : (pointer byte : ℕ) → IsUsed (e.kind (m_pair s pointer)) → IsStepAllowed e (store_and_raise pointer byte s).stepped
  store_raised pointer byte u =
      where_allowed (nat_lt (m_pair s pointer) (length s.mem.data)) _ _ (store_access_allowed (m_pair s pointer) byte u) tt

  flash_allowed : (d : ℕ) → is_held (e.table (m_pair s 30)) ≡ true → IsStepAllowed e (load_flash d s).stepped
  flash_allowed d u = where_allowed (nat_lt (m_pair s 30) (length s.mem.flash)) _ _ u tt

  flash_raised : (d : ℕ) → is_held (e.table (m_pair s 30)) ≡ true → IsStepAllowed e (load_flash_and_raise d s).stepped
  flash_raised d u = where_allowed (nat_lt (m_pair s 30) (length s.mem.flash)) _ _ u tt

  -- an address is the stack's
  abbrev HasStack : Type 0
  HasStack = IsAllowed e Stack

  push_allowed : (byte : ℕ) → HasStack → IsStepAllowed e (push byte s).stepped
  push_allowed byte has = where_allowed (is_sram s (stack_pointer s)) _ _ has tt

  pop_allowed : (d : ℕ) → HasStack → IsStepAllowed e (pop d s).stepped
  pop_allowed d has = where_allowed (is_sram s (raised (stack_pointer s))) _ _ has tt

  both_stacked : (a b : ℕ) (st : Status) → is_safe (if on_stack (e.kind a) && on_stack (e.kind b) then st else Stuck) ≡ true → HasStack
  both_stacked a b st safe = by_test (on_stack (e.kind a)) refl safe where
    by_test : (x : Bool) → on_stack (e.kind a) ≡ x → is_safe (if x && on_stack (e.kind b) then st else Stuck) ≡ true → HasStack
    by_test true q h = (a, is_stacked (e.kind a) q)
    by_test false q h = absurd (false≢true h)

  pub call_allowed : (to back m n : ℕ) → is_safe (call_by e m n v) ≡ true → IsStepAllowed e (call to back s).stepped
  call_allowed to back m n safe =
      where_allowed (is_sram s (stack_pointer s) && is_sram s (lowered (stack_pointer s))) _ _
      (both_stacked (sp v) (lowered (sp v)) (Running (m % 65536) (pushed n v)) safe) tt

  pub return_allowed : is_safe (act e (Some Ret) s.pc v) ≡ true → IsStepAllowed e (return_from_call s).stepped
  return_allowed safe =
      where_allowed (is_sram s (raised (stack_pointer s)) && is_sram s (raised (raised (stack_pointer s)))) _ _
      (both_stacked (raised (sp v)) (raised (raised (sp v))) (Running (back_at v % 65536) (popped v)) safe) tt

  -- ---- instructions

  -- a pointer that the view shows
  x_is : pair v.at 26 ≡ m_pair s 26
  x_is = ap (λ f. pair f 26) h.at

  y_is : y_of e v ≡ m_pair s 28
  y_is = held (nat_lt e.base 65536) refl ∙ ap (λ f. pair f 28) h.at where
    held : (b : Bool) → nat_lt e.base 65536 ≡ b → (if b then e.base else pair v.at 28) ≡ pair v.at 28
    held true q = sym (h.base (ltb-true e.base 65536 q))
    held false q = refl

  z_is : pair v.at 30 ≡ m_pair s 30
  z_is = ap (λ f. pair f 30) h.at

  abbrev Used : ℕ → Type 0
  Used a = IsUsed (e.kind a)

  loads : (d a : ℕ) → (load_by (e.kind a) d a v).safe ≡ true → Used a
  loads d a safe = load_used (e.kind a) d a v safe

  stores : (a x : ℕ) → (store_by (e.kind a) a x v).safe ≡ true → Used a
  stores a x safe = store_used (e.kind a) a x v safe

  reads_flash : (d : ℕ) → (flash_by (e.table (pair v.at 30)) d (pair v.at 30) (slice_index e.flash (pair v.at 30)) v).safe ≡ true
      → is_held (e.table (m_pair s 30)) ≡ true
  reads_flash d safe =
      subst (λ n. is_held (e.table n) ≡ true) z_is
      (flash_held (e.table (pair v.at 30)) d (pair v.at 30) (slice_index e.flash (pair v.at 30)) v safe)

  far_is : far_z v ≡ far_pointer s
  far_is = ap (λ n. 65536 * n + pair v.at 30) h.page ∙ ap (λ n. 65536 * slice_index s.mem.data 91 + n) z_is

  -- a load by RAMPZ and Z
  far_allowed : (d : ℕ) → (change e (Elpm d) v).safe ≡ true → is_held (e.table (far_pointer s)) ≡ true
  far_allowed d safe =
      subst (λ n. is_held (e.table n) ≡ true) far_is
      (flash_held (e.table (far_z v)) d (far_z v) (slice_index e.flash (far_z v)) v (rampz_was e.core _ v safe))

  raised_allowed : (d : ℕ) → (change e (ElpmInc d) v).safe ≡ true → is_held (e.table (far_pointer s)) ≡ true
  raised_allowed d safe =
      subst (λ n. is_held (e.table n) ≡ true) far_is
      (flash_held (e.table (far_z v)) d (far_z v) (slice_index e.flash (far_z v)) v (rampz_was e.core _ v safe))

  supported : (b : Bool) (x : After) → IsStepAllowed e x.stepped → IsStepAllowed e (if b then x else faulted Unsupported s).stepped
  supported true x f = f
  supported false x f = tt

  pub change_allowed : (i : Instr) (answer : ℕ) → (change e i v).safe ≡ true → IsStepAllowed e (effect (Some i) answer s).stepped
  unfolding effect
  change_allowed (Lds d k) answer safe = load_allowed d k answer 2 (loads d k safe)
  change_allowed (InInstr d a) answer safe = load_allowed d (a + 0x20) answer 1 (loads d (a + 0x20) safe)
  change_allowed (LddZ d q) answer safe =
      load_allowed d ((m_pair s 30 + q) % 65536) answer 1
      (subst (λ n. Used ((n + q) % 65536)) z_is (loads d ((pair v.at 30 + q) % 65536) safe))
  change_allowed (LddY d q) answer safe =
      load_allowed d ((m_pair s 28 + q) % 65536) answer 1
      (subst (λ n. Used ((n + q) % 65536)) y_is (loads d ((y_of e v + q) % 65536) safe))
  change_allowed (LdX d) answer safe = load_allowed d (m_pair s 26) answer 1 (subst Used x_is (loads d (pair v.at 26) safe))
  change_allowed (LdXPlus d) answer safe = load_raised d 26 answer (subst Used x_is (loads d (pair v.at 26) safe))
  change_allowed (LdZPlus d) answer safe = load_raised d 30 answer (subst Used z_is (loads d (pair v.at 30) safe))
  change_allowed (Sts k r) answer safe = store_allowed k _ 2 (stores k (v.at r) safe)
  change_allowed (OutInstr a r) answer safe = store_allowed (a + 0x20) _ 1 (stores (a + 0x20) (v.at r) safe)
  change_allowed (StdZ q r) answer safe =
      store_allowed ((m_pair s 30 + q) % 65536) _ 1
      (subst (λ n. Used ((n + q) % 65536)) z_is (stores ((pair v.at 30 + q) % 65536) (v.at r) safe))
  change_allowed (StdY q r) answer safe =
      store_allowed ((m_pair s 28 + q) % 65536) _ 1
      (subst (λ n. Used ((n + q) % 65536)) y_is (stores ((y_of e v + q) % 65536) (v.at r) safe))
  change_allowed (StX r) answer safe = store_allowed (m_pair s 26) _ 1 (subst Used x_is (stores (pair v.at 26) (v.at r) safe))
  change_allowed (StXPlus r) answer safe = store_raised 26 _ (subst Used x_is (stores (pair v.at 26) (v.at r) safe))
  change_allowed (StZPlus r) answer safe = store_raised 30 _ (subst Used z_is (stores (pair v.at 30) (v.at r) safe))
  change_allowed (LpmZ d) answer safe = flash_allowed d (reads_flash d safe)
  change_allowed (LpmZPlus d) answer safe = flash_raised d (reads_flash d safe)
  change_allowed (Push r) answer safe = push_allowed _ (sp v, push_stacked (e.kind (sp v)) (v.at r) v safe)
  change_allowed (Pop d) answer safe = pop_allowed d (raised (sp v), pop_stacked (e.kind (raised (sp v))) d v safe)
  change_allowed (LdMinusZ d) answer safe = absurd (false≢true safe)
  change_allowed (LdYPlus d) answer safe = absurd (false≢true safe)
  change_allowed (LdMinusY d) answer safe = absurd (false≢true safe)
  change_allowed (LdMinusX d) answer safe = absurd (false≢true safe)
  change_allowed (StMinusZ r) answer safe = absurd (false≢true safe)
  change_allowed (StYPlus r) answer safe = absurd (false≢true safe)
  change_allowed (StMinusY r) answer safe = absurd (false≢true safe)
  change_allowed (StMinusX r) answer safe = absurd (false≢true safe)
  change_allowed (Elpm d) answer safe =
      supported (has_rampz s.core) (load_far d s)
      (where_allowed (nat_lt (far_pointer s) (length s.mem.flash)) _ _ (far_allowed d safe) tt)
  change_allowed (ElpmInc d) answer safe =
      supported (has_rampz s.core) (load_far_and_raise d s)
      (where_allowed (nat_lt (far_pointer s) (length s.mem.flash)) _ _ (raised_allowed d safe) tt)
  change_allowed (Call k) answer safe = absurd (false≢true safe)
  change_allowed (Rcall k) answer safe = absurd (false≢true safe)
  change_allowed Icall answer safe = absurd (false≢true safe)
  change_allowed Ret answer safe = absurd (false≢true safe)
  change_allowed _ answer safe = tt
