-- A call and its return.
use Rattle.std.proofs.Common.{◌≡◌, ◌≢◌, ℕ, ◌+◌, ◌*◌, ◌/◌, ◌%◌, ◌<◌, ◌≤◌, refl, sym, ap, ◌∙◌, subst, arith, Some, ⊎_elim, ℤ}
use Rattle.std.proofs.lemmas.Bool.{ne_eqb, eq-eqb}
use Rattle.ec_isa.specs.declared.instructions.Instr.TheVariants.{Call, Rcall, Ret}
use Rattle.ec_avr.specs.State.{raised, lowered}
use Rattle.ec_avr.specs.Effects.{relative}
use Rattle.ec_asm.specs.declared.items.AsmItem.TheVariants.{CallTo}
use Rattle.ec_asm.specs.View.{View, put, pair, put_pair}
use Rattle.ec_asm.specs.Change.{Env, Stacked, sp}
use Rattle.ec_asm.specs.Run.{Running, act, fetch, pushed, popped, back_at}
use Rattle.ec_asm.specs.Items.{At, Stands}
use Rattle.ec_asm.specs.Takes.{Goes, Takes, KeepsReturn}
use Rattle.ec_asm.proofs.Takes.{takes_then, takes_goes}

put_here : (f : ℕ → ℕ) (a x k : ℕ) → k ≡ a → put f a x k ≡ x
put_here f a x k h = rw (eq-eqb k a h) refl

put_other : (f : ℕ → ℕ) (a x k : ℕ) → k ≢ a → put f a x k ≡ f k
put_other f a x k h = rw (ne_eqb k a h) refl

pair_put : (f : ℕ → ℕ) (n : ℕ) → n < 65536 → pair (put_pair f 93 n) 93 ≡ n
pair_put f n l = let q : n % 256 + 256 * (n / 256) ≡ n = omega arith in q

pub sp-pushed : (back : ℕ) (v : View) → sp (pushed back v) ≡ lowered (lowered (sp v))
sp-pushed back v =
    pair_put (put (put v.at (sp v) (back % 256)) (lowered (sp v)) (back / 256 % 256)) (lowered (lowered (sp v))) (omega arith)

-- the bytes of the return address, where the stack pointer was and below it
pub pushed_low : (back : ℕ) (v : View) → 257 ≤ sp v → sp v < 65536 → (pushed back v).at (sp v) ≡ back % 256
pushed_low back v l m =
    low v.at (sp v) (back % 256) (back / 256 % 256) (lowered (lowered (sp v))) (lowered (sp v)) l (omega arith)
  where
    low : (f : ℕ → ℕ) (p x z n q : ℕ) → 257 ≤ p → q ≢ p → put_pair (put (put f p x) q z) 93 n p ≡ x
    low f p x z n q l m =
        put_other (put (put (put f p x) q z) 93 (n % 256)) 94 (n / 256) p (omega arith)
        ∙ put_other (put (put f p x) q z) 93 (n % 256) p (omega arith) ∙ put_other (put f p x) q z p (λ i. m (sym i))
        ∙ put_here f p x p refl

pub pushed_high : (back : ℕ) (v : View) → 257 ≤ sp v → sp v < 65536
    → (pushed back v).at (lowered (sp v)) ≡ back / 256 % 256
pushed_high back v l m =
    high v.at (sp v) (back % 256) (back / 256 % 256) (lowered (lowered (sp v))) (lowered (sp v)) (omega arith)
  where
    high : (f : ℕ → ℕ) (p x z n q : ℕ) → 256 ≤ q → put_pair (put (put f p x) q z) 93 n q ≡ z
    high f p x z n q l =
        put_other (put (put (put f p x) q z) 93 (n % 256)) 94 (n / 256) q (omega arith)
        ∙ put_other (put (put f p x) q z) 93 (n % 256) q (omega arith) ∙ put_here (put f p x) q z q refl

pub call_goes : (e : Env) (l pc end : ℕ) (v : View) → Stands e (CallTo l) pc end → e.kind (sp v) ≡ Stacked
    → e.kind (lowered (sp v)) ≡ Stacked → Goes e 1 pc v (e.word_of l) (pushed end v)
call_goes e l pc end v at a b = ⊎_elim (λ t. far t.0 t.1) (λ t. near t.0 t.1 t.2) at
  where
    far : At e (Call (e.word_of l)) pc end → e.word_of l < 65536 → Goes e 1 pc v (e.word_of l) (pushed end v)
    far t r =
        let q : e.word_of l % 65536 ≡ e.word_of l = omega arith in
        let m : act e (Some (Call (e.word_of l))) pc v ≡ Running (e.word_of l) (pushed (pc + 2) v) = rw (a, b, q) refl in
        record { by = ap (λ o. act e o pc v) t.is ∙ m ∙ ap (λ n. Running (e.word_of l) (pushed n v)) (sym t.ends) }

    near : (k : ℤ) → At e (Rcall k) pc end → relative pc k % 65536 ≡ e.word_of l
        → Goes e 1 pc v (e.word_of l) (pushed end v)
    near k t q =
        let m : act e (Some (Rcall k)) pc v ≡ Running (e.word_of l) (pushed (pc + 1) v) = rw (a, b, q) refl in
        record { by = ap (λ o. act e o pc v) t.is ∙ m ∙ ap (λ n. Running (e.word_of l) (pushed n v)) (sym t.ends) }

call_room : (e : Env) (l pc end : ℕ) → Stands e (CallTo l) pc end → end < 65536
call_room e l pc end at = ⊎_elim far near at
  where
    far : At e (Call (e.word_of l)) pc end × (e.word_of l < 65536) → end < 65536
    far t = t.0.room

    near : (k : ℤ) × At e (Rcall k) pc end × (relative pc k % 65536 ≡ e.word_of l) → end < 65536
    near t = t.1.room

pub return_goes : (e : Env) (pc : ℕ) (v : View) → fetch e pc ≡ Some Ret → e.kind (raised (sp v)) ≡ Stacked
    → e.kind (raised (raised (sp v))) ≡ Stacked → Goes e 1 pc v (back_at v % 65536) (popped v)
return_goes e pc v at a b = record { by = ap (λ o. act e o pc v) at ∙ rw (a, b) refl }

kept_back : (back : ℕ) (v v2 : View) → 257 ≤ sp v → sp v < 65536 → back < 65536 → KeepsReturn (pushed back v) v2
    → back_at v2 % 65536 ≡ back
kept_back back v v2 l h b k =
    let p = sp-pushed back v in
    let x : raised (sp (pushed back v)) ≡ lowered (sp v) = rw p (omega arith) in
    let z : raised (raised (sp (pushed back v))) ≡ sp v = rw p (omega arith) in
    let u : v2.at (raised (raised (sp v2))) ≡ back % 256 =
    ap (λ n. v2.at (raised (raised n))) k.pointer ∙ k.low ∙ ap (pushed back v).at z ∙ pushed_low back v l h in
    let w : v2.at (raised (sp v2)) ≡ back / 256 % 256 =
    ap (λ n. v2.at (raised n)) k.pointer ∙ k.high ∙ ap (pushed back v).at x ∙ pushed_high back v l h in
    rw (u, w) (omega arith)

-- a call of a routine that comes to a RET
pub call_takes : (e : Env) (l pc end ret least most : ℕ) (v v2 : View) → Stands e (CallTo l) pc end → 257 ≤ sp v
    → sp v < 65536 → e.kind (sp v) ≡ Stacked → e.kind (lowered (sp v)) ≡ Stacked → fetch e ret ≡ Some Ret
    → Takes e least most (e.word_of l) (pushed end v) ret v2 → KeepsReturn (pushed end v) v2
    → Takes e (1 + (least + 1)) (1 + (most + 1)) pc v end (popped v2)
call_takes e l pc end ret least most v v2 at low high ka kb r body k =
    let v1 = pushed end v in
    let room = call_room e l pc end at in
    let p = sp-pushed end v in
    let s : sp v2 ≡ lowered (lowered (sp v)) = k.pointer ∙ p in
    let x : raised (sp v2) ≡ lowered (sp v) = rw s (omega arith) in
    let z : raised (raised (sp v2)) ≡ sp v = rw s (omega arith) in
    let g = return_goes e ret v2 r (ap e.kind x ∙ kb) (ap e.kind z ∙ ka) in
    let t : back_at v2 % 65536 ≡ end = kept_back end v v2 low high room k in
    let back = takes_goes e 1 ret end v2 (popped v2) (subst (λ i. Goes e 1 ret v2 i (popped v2)) t g) in
    let call = takes_goes e 1 pc (e.word_of l) v v1 (call_goes e l pc end v at ka kb) in
    takes_then e 1 1 (least + 1) (most + 1) pc (e.word_of l) end v v1 (popped v2) call
    (takes_then e least most 1 1 (e.word_of l) ret end v1 v2 (popped v2) body back)
