-- From straight code to runs, and a rule for one piece of code for each byte.
use Rattle.std.proofs.Common.{◌≡◌, ℕ, zero, suc, ◌+◌, ◌*◌, ◌%◌, ◌<◌, ◌≤◌, true, List, [], ◌∷◌, ◌++◌, refl, sym, ap, ◌∙◌, subst, arith, Some}
use Rattle.std.proofs.Common.{⊎_elim}
use Rattle.std.proofs.lemmas.Bool.{and_parts, and_from, lt-ltb, false≢true}
use Rattle.ec_isa.specs.declared.instructions.Instr.{Instr}
use Rattle.ec_isa.specs.declared.instructions.Instr.TheVariants.{Lds, Sts, LddY, StdY, Ldi, Jmp, Call, Ret, Break, Ijmp, Icall, Rjmp, Rcall, Brbs, Brbc}
use Rattle.ec_isa.specs.declared.instructions.Instr.TheVariants.{Cpse, Sbrc, Sbrs}
use Rattle.ec_asm.specs.declared.items.AsmItem.{AsmItem}
use Rattle.ec_asm.specs.declared.items.AsmItem.TheVariants.{Plain, Label, JumpTo, CallTo, BranchTo, LoadPart, LoadObj, StoreObj}
use Rattle.ec_asm.specs.View.{View}
use Rattle.ec_asm.specs.Change.{Env, change, goes_on, words}
use Rattle.ec_asm.specs.Run.{Status, Running, act, step, run}
use Rattle.ec_asm.specs.Items.{At, IsNear, LoadsAt, StoresAt, Stands, HasAt, is_straight, all_straight, item_steps, code_steps, item_change, block, chain, address_part}
use Rattle.ec_asm.specs.Takes.{Goes}
use Rattle.ec_asm.specs.Laws.{ChainsHold}

pub run-add : (e : Env) (j k : ℕ) (st : Status) → run e (j + k) st ≡ run e k (run e j st)
run-add e zero k st = let q : 0 + k ≡ k = omega arith in ap (λ n. run e n st) q
run-add e (suc j) k st = let q : suc j + k ≡ suc (j + k) = omega arith in ap (λ n. run e n st) q ∙ run-add e j k (step e st)

pub goes_on_to : (e : Env) (j k pc pc1 pc2 : ℕ) (v v1 v2 : View) → Goes e j pc v pc1 v1 → Goes e k pc1 v1 pc2 v2
    → Goes e (j + k) pc v pc2 v2
goes_on_to e j k pc pc1 pc2 v v1 v2 g h = record { by = run-add e j k (Running pc v) ∙ ap (run e k) g.by ∙ h.by }

-- an instruction that goes on
act_goes : (e : Env) (i : Instr) (pc : ℕ) (v : View) → goes_on i ≡ true
    → act e (Some i) pc v ≡ Running ((pc + words i) % 65536) (change e i v)
act_goes e (Jmp k) pc v h = absurd (false≢true h)
act_goes e (Call k) pc v h = absurd (false≢true h)
act_goes e Ret pc v h = absurd (false≢true h)
act_goes e Break pc v h = absurd (false≢true h)
act_goes e (Rjmp k) pc v h = absurd (false≢true h)
act_goes e (Brbs b k) pc v h = absurd (false≢true h)
act_goes e (Brbc b k) pc v h = absurd (false≢true h)
act_goes e Ijmp pc v h = absurd (false≢true h)
act_goes e Icall pc v h = absurd (false≢true h)
act_goes e (Rcall k) pc v h = absurd (false≢true h)
act_goes e (Cpse d r) pc v h = absurd (false≢true h)
act_goes e (Sbrc r b) pc v h = absurd (false≢true h)
act_goes e (Sbrs r b) pc v h = absurd (false≢true h)
act_goes e _ pc v h = refl

pub one_goes : (e : Env) (i : Instr) (pc end : ℕ) (v : View) → goes_on i ≡ true → At e i pc end
    → Goes e 1 pc v end (change e i v)
one_goes e i pc end v h a =
    let r = a.room in
    let q = a.ends in
    let m : (pc + words i) % 65536 ≡ end = omega arith in
    record { by = ap (λ o. act e o pc v) a.is ∙ act_goes e i pc v h ∙ ap (λ n. Running n (change e i v)) m }

-- a byte near the base is reached by Y as by its address
near_loads : (e : Env) (d q a : ℕ) (v : View) → IsNear e q a → change e (LddY d q) v ≡ change e (Lds d a) v
near_loads e d q a v h = rw (lt-ltb e.base 65536 h.based, h.distance_is) refl

near_stores : (e : Env) (q r a : ℕ) (v : View) → IsNear e q a → change e (StdY q r) v ≡ change e (Sts a r) v
near_stores e q r a v h = rw (lt-ltb e.base 65536 h.based, h.distance_is) refl

load_goes : (e : Env) (d a pc end : ℕ) (v : View) → LoadsAt e d a pc end → Goes e 1 pc v end (change e (Lds d a) v)
load_goes e d a pc end v h =
    ⊎_elim (λ x. one_goes e (Lds d a) pc end v refl x)
    (λ x. subst (Goes e 1 pc v end) (near_loads e d x.0 a v x.2) (one_goes e (LddY d x.0) pc end v refl x.1)) h

store_goes : (e : Env) (a r pc end : ℕ) (v : View) → StoresAt e a r pc end → Goes e 1 pc v end (change e (Sts a r) v)
store_goes e a r pc end v h =
    ⊎_elim (λ x. one_goes e (Sts a r) pc end v refl x)
    (λ x. subst (Goes e 1 pc v end) (near_stores e x.0 r a v x.2) (one_goes e (StdY x.0 r) pc end v refl x.1)) h

item_goes : (e : Env) (i : AsmItem) (pc end : ℕ) (v : View) → is_straight i ≡ true → Stands e i pc end
    → Goes e (item_steps i) pc v end (item_change e i v)
item_goes e (Plain i) pc end v h a = one_goes e i pc end v h a
item_goes e (Label l) pc end v h a = record { by = ap (λ n. Running n v) (sym a.1) }
item_goes e (JumpTo l) pc end v h a = absurd (false≢true h)
item_goes e (CallTo l) pc end v h a = absurd (false≢true h)
item_goes e (BranchTo set flag l) pc end v h a = absurd (false≢true h)
item_goes e (LoadPart d o k part) pc end v h a = one_goes e (Ldi d (address_part e o k part)) pc end v refl a
item_goes e (LoadObj d o k) pc end v h a = load_goes e d (e.address_of o k) pc end v a
item_goes e (StoreObj o k r) pc end v h a = store_goes e (e.address_of o k) r pc end v a

-- straight code is one change of the view
pub block_goes : (e : Env) (is : List AsmItem) (pc end : ℕ) (v : View) → all_straight is ≡ true → HasAt e is pc end
    → Goes e (code_steps is) pc v end (block e is v)
block_goes e [] pc end v h at = record { by = ap (λ n. Running n v) (sym at) }
block_goes e (i ∷ is) pc end v h at =
    let p = and_parts (is_straight i) (all_straight is) h in
    goes_on_to e _ _ pc at.0 end v _ _ (item_goes e i pc at.0 v p.0 at.1) (block_goes e is at.0 end (item_change e i v) p.1 at.2)

pub block-append : (e : Env) (a b : List AsmItem) (v : View) → block e (a ++ b) v ≡ block e b (block e a v)
block-append e [] b v = refl
block-append e (i ∷ a) b v = block-append e a b (item_change e i v)

pub has_parts : (e : Env) (a b : List AsmItem) (pc end : ℕ) → HasAt e (a ++ b) pc end
    → (mid : ℕ) × HasAt e a pc mid × HasAt e b mid end
has_parts e [] b pc end h = (pc, refl, h)
has_parts e (i ∷ a) b pc end h =
    let r = has_parts e a b h.0 end h.2 in
    (r.0, (h.0, h.1, r.1), r.2)

pub straight-append : (a b : List AsmItem) → all_straight a ≡ true → all_straight b ≡ true
    → all_straight (a ++ b) ≡ true
straight-append [] b p q = q
straight-append (i ∷ a) b p q =
    let r = and_parts (is_straight i) (all_straight a) p in
    and_from (is_straight i) (all_straight (a ++ b)) r.0 (straight-append a b r.1 q)

pub steps-append : (a b : List AsmItem) → code_steps (a ++ b) ≡ code_steps a + code_steps b
steps-append [] b = omega arith
steps-append (i ∷ a) b = omega (arith, steps-append a b)

pub chain_straight : (body : ℕ → List AsmItem) (n : ℕ) → ((i : ℕ) → all_straight (body i) ≡ true)
    → all_straight (chain body n) ≡ true
chain_straight body zero h = refl
chain_straight body (suc n) h = straight-append (chain body n) (body n) (chain_straight body n h) (h n)

pub steps-chain : (body : ℕ → List AsmItem) (n k : ℕ) → ((i : ℕ) → code_steps (body i) ≡ k)
    → code_steps (chain body n) ≡ n * k
steps-chain body zero k h = omega arith
steps-chain body (suc n) k h = omega (arith, steps-append (chain body n) (body n), steps-chain body n k h, h n)

-- what holds before the first byte and is carried over each byte holds after the last
pub chain_holds : (e : Env) (body : ℕ → List AsmItem) (P : ℕ → View → Type 0) (n : ℕ)
    → ((i : ℕ) → i < n → (v : View) → P i v → P (suc i) (block e (body i) v)) → (v : View) → P 0 v
    → P n (block e (chain body n) v)
chain_holds e body P zero step v h = h
chain_holds e body P (suc n) step v h =
    rw (block-append e (chain body n) (body n) v) (step n (omega arith) _ (chain_holds e body P n (λ i l. step i (omega arith)) v h))

-- the same for the cases of an invariant, each with its index and its view
chain_reaches : (I : Type 0) (e : Env) (body : ℕ → List AsmItem) (n : ℕ) (index : I → ℕ) (view : I → View)
    → ((i : I) → index i < n → (j : I) × (index j ≡ suc (index i)) × (view j ≡ block e (body (index i)) (view i)))
    → (i : I) → index i ≡ 0 → (m : ℕ) → m ≤ n → (j : I) × (index j ≡ m) × (view j ≡ block e (chain body m) (view i))
chain_reaches I e body n index view step i q zero l = (i, q, refl)
chain_reaches I e body n index view step i q (suc m) l =
    let h = chain_reaches I e body n index view step i q m (omega arith) in
    let at = h.1 in
    let s = step h.0 (omega arith) in (
      s.0,
      s.1 ∙ ap suc at,
      s.2 ∙ ap (λ k. block e (body k) (view h.0)) at ∙ ap (block e (body m)) h.2 ∙ sym (block-append e (chain body m) (body m) (view i)),
    )

pub chains_hold : (I : Type 0) → ChainsHold I
chains_hold I e body n index view step i q = chain_reaches I e body n index view step i q n (omega arith)
