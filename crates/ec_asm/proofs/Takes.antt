-- Runs with a least and a greatest count of their steps, jumps, branches and loops.
use Rattle.std.proofs.Common.{◌≡◌, ℕ, zero, suc, ◌+◌, ◌*◌, ◌%◌, ◌<◌, ◌≤◌, ⊎_elim, Bool, true, false, ◌==◌, refl, ap, ◌∙◌, subst, arith}
use Rattle.std.proofs.Common.{Option, Some, None, ℤ, not}
use Rattle.std.specs.Prelude.{if◌then◌else◌}
use Rattle.std.specs.Int.{bit_at}
use Rattle.ec_isa.specs.declared.instructions.Instr.{Instr}
use Rattle.ec_isa.specs.declared.instructions.Instr.TheVariants.{Jmp, Rjmp, Sbrc, Sbrs, Lds, Sts, Call}
use Rattle.ec_isa.specs.Reading.{instruction_at as decoded}
use Rattle.ec_avr.specs.Effects.{relative, has_two_words}
use Rattle.ec_asm.specs.View.{View}
use Rattle.ec_asm.specs.Change.{Env, flag_at, words}
use Rattle.ec_asm.specs.Run.{Running, act, is_flag, fetch, word_in, skip_to}
use Rattle.ec_asm.specs.Items.{At, JumpsAt, CallsAt, BranchesAt, branch_if, branch_unless}
use Rattle.ec_asm.specs.Takes.{Goes, Takes, if_bit}
use Rattle.ec_asm.specs.Laws.{LoopsTake}
use Rattle.ec_asm.proofs.Fetched.{fetched}
use Rattle.ec_asm.proofs.Hoare.{goes_on_to}

pub takes_none : (e : Env) (pc : ℕ) (v : View) → Takes e 0 0 pc v pc v
takes_none e pc v = record { steps = 0; at_least = omega arith; at_most = omega arith; goes = record { by = refl } }

pub takes_then : (e : Env) (l m k n pc pc1 pc2 : ℕ) (v v1 v2 : View) → Takes e l m pc v pc1 v1
    → Takes e k n pc1 v1 pc2 v2 → Takes e (l + k) (m + n) pc v pc2 v2
takes_then e l m k n pc pc1 pc2 v v1 v2 t u =
    let a1 = t.at_least in
    let a2 = u.at_least in
    let b1 = t.at_most in
    let b2 = u.at_most in
    record {
      steps = t.steps + u.steps;
      at_least = omega arith;
      at_most = omega arith;
      goes = goes_on_to e _ _ pc pc1 pc2 v _ _ t.goes u.goes;
    }

pub takes_goes : (e : Env) (k pc pc1 : ℕ) (v v1 : View) → Goes e k pc v pc1 v1 → Takes e k k pc v pc1 v1
takes_goes e k pc pc1 v v1 g = record { steps = k; at_least = omega arith; at_most = omega arith; goes = g }

-- fewer steps at least, more at most
pub takes_within : (e : Env) (l l' m m' pc pc1 : ℕ) (v v1 : View) → l' ≤ l → m ≤ m' → Takes e l m pc v pc1 v1
    → Takes e l' m' pc v pc1 v1
takes_within e l l' m m' pc pc1 v v1 a b t =
    let p = t.at_least in
    let q = t.at_most in
    record { steps = t.steps; at_least = omega arith; at_most = omega arith; goes = t.goes }

-- a jump takes one step, near or far
pub jump_goes : (e : Env) (l pc end : ℕ) (v : View) → JumpsAt e l pc end → Goes e 1 pc v (e.word_of l) v
jump_goes e l pc end v j = ⊎_elim (λ a. far a.0 a.1) (λ a. near a.0 a.1 a.2) j
  where
    far : At e (Jmp (e.word_of l)) pc end → e.word_of l < 65536 → Goes e 1 pc v (e.word_of l) v
    far a r =
        let q : e.word_of l % 65536 ≡ e.word_of l = omega arith in
        record { by = ap (λ o. act e o pc v) a.is ∙ ap (λ n. Running n v) q }

    near : (k : ℤ) → At e (Rjmp k) pc end → relative pc k % 65536 ≡ e.word_of l → Goes e 1 pc v (e.word_of l) v
    near k a q = record { by = ap (λ o. act e o pc v) a.is ∙ ap (λ n. Running n v) q }

-- a jump or a branch that stands is to a label that has a word
word_below : (e : Env) (l n : ℕ) → n % 65536 ≡ e.word_of l → e.word_of l < 65536
word_below e l n q = let small : n % 65536 < 65536 = omega arith in omega (arith, q, small)

pub jump_has_word : (e : Env) (l pc end : ℕ) → JumpsAt e l pc end → e.word_of l < 65536
jump_has_word e l pc end j = ⊎_elim (λ a. a.1) (λ a. word_below e l (relative pc a.0) a.2) j

pub branch_has_word : (e : Env) (set : Bool) (flag l pc end : ℕ) → BranchesAt e set flag l pc end → e.word_of l < 65536
branch_has_word e set flag l pc end b =
    ⊎_elim (λ a. jump_has_word e l a.0 end a.3) (λ a. word_below e l (relative pc a.0) a.2) b

pub call_has_word : (e : Env) (l pc end : ℕ) → CallsAt e l pc end → e.word_of l < 65536
call_has_word e l pc end j = ⊎_elim (λ a. a.1) (λ a. word_below e l (relative pc a.0) a.2) j

-- what a branch looks at
abbrev pub is_taken : Bool → ℕ → View → Bool
is_taken true flag v = flag_at v.flags flag == 1
is_taken false flag v = flag_at v.flags flag == 0

branch_if_goes : (e : Env) (set : Bool) (flag : ℕ) (k : ℤ) (pc end : ℕ) (v : View) (b : Bool) → is_flag flag ≡ true
    → is_taken set flag v ≡ b → At e (branch_if set flag k) pc end
    → Goes e 1 pc v ((if b then relative pc k else pc + 1) % 65536) v
branch_if_goes e true flag k pc end v b f t a = record { by = ap (λ o. act e o pc v) a.is ∙ rw (f, t) refl }
branch_if_goes e false flag k pc end v b f t a = record { by = ap (λ o. act e o pc v) a.is ∙ rw (f, t) refl }

-- the other branch, where a flag is 0 or 1
branch_unless_goes : (e : Env) (set : Bool) (flag : ℕ) (k : ℤ) (pc end : ℕ) (v : View) (b : Bool) → is_flag flag ≡ true
    → is_taken (not set) flag v ≡ b → At e (branch_unless set flag k) pc end
    → Goes e 1 pc v ((if b then relative pc k else pc + 1) % 65536) v
branch_unless_goes e true flag k pc end v b f t a = branch_if_goes e false flag k pc end v b f t a
branch_unless_goes e false flag k pc end v b f t a = branch_if_goes e true flag k pc end v b f t a

taken_by : (set : Bool) (flag : ℕ) (v : View) → flag_at v.flags flag ≡ if_bit set
    → (is_taken set flag v ≡ true) × (is_taken (not set) flag v ≡ false)
taken_by true flag v q = (rw q refl, rw q refl)
taken_by false flag v q = (rw q refl, rw q refl)

end_below : (e : Env) (set : Bool) (flag : ℕ) (k : ℤ) (pc end : ℕ) → At e (branch_if set flag k) pc end
    → (pc + 1) % 65536 ≡ end
end_below e true flag k pc end a = let p = a.ends in let r = a.room in omega arith
end_below e false flag k pc end a = let p = a.ends in let r = a.room in omega arith

end_below_unless : (e : Env) (set : Bool) (flag : ℕ) (k : ℤ) (pc end : ℕ) → At e (branch_unless set flag k) pc end
    → (pc + 1) % 65536 ≡ end
end_below_unless e true flag k pc end a = end_below e false flag k pc end a
end_below_unless e false flag k pc end a = end_below e true flag k pc end a

goes_at : (e : Env) (k pc to to' : ℕ) (v : View) → to ≡ to' → Goes e k pc v to v → Goes e k pc v to' v
goes_at e k pc to to' v q g = subst (λ n. Goes e k pc v n v) q g

-- a branch that is taken takes one or two steps, one that is passed one
pub branch_taken : (e : Env) (set : Bool) (flag l pc end : ℕ) (v : View) → is_flag flag ≡ true
    → flag_at v.flags flag ≡ if_bit set → BranchesAt e set flag l pc end → Takes e 1 2 pc v (e.word_of l) v
branch_taken e set flag l pc end v f q b =
    let t = taken_by set flag v q in
    ⊎_elim
    (λ a.
    let one =
    goes_at e 1 pc _ a.0 v (end_below_unless e set flag a.1 pc a.0 a.2) (branch_unless_goes e set flag a.1 pc a.0 v false f t.1 a.2) in
    takes_within e 2 1 2 2 pc _ v v (omega arith) (omega arith)
    (takes_goes e 2 pc _ v v (goes_on_to e 1 1 pc a.0 _ v v v one (jump_goes e l a.0 end v a.3))))
    (λ a. takes_within e 1 1 1 2 pc _ v v (omega arith) (omega arith)
    (takes_goes e 1 pc _ v v (goes_at e 1 pc _ _ v a.2 (branch_if_goes e set flag a.0 pc end v true f t.0 a.1))))
    b

pub branch_passed : (e : Env) (set : Bool) (flag l pc end : ℕ) (v : View) → is_flag flag ≡ true
    → flag_at v.flags flag ≡ if_bit (not set) → BranchesAt e set flag l pc end → Goes e 1 pc v end v
branch_passed e set flag l pc end v f q b = ⊎_elim (λ a. far set a.0 a.1 a.2 a.4 q) (λ a. near set a.0 a.1 q) b
  where
    far : (set : Bool) (mid : ℕ) (k : ℤ) → At e (branch_unless set flag k) pc mid → relative pc k % 65536 ≡ end
        → flag_at v.flags flag ≡ if_bit (not set) → Goes e 1 pc v end v
    far true mid k a r q =
        goes_at e 1 pc _ _ v r (branch_unless_goes e true flag k pc mid v true f (taken_by false flag v q).0 a)
    far false mid k a r q =
        goes_at e 1 pc _ _ v r (branch_unless_goes e false flag k pc mid v true f (taken_by true flag v q).0 a)

    near : (set : Bool) (k : ℤ) → At e (branch_if set flag k) pc end → flag_at v.flags flag ≡ if_bit (not set)
        → Goes e 1 pc v end v
    near true k a q =
        goes_at e 1 pc _ _ v (end_below e true flag k pc end a)
        (branch_if_goes e true flag k pc end v false f (taken_by false flag v q).1 a)
    near false k a q =
        goes_at e 1 pc _ _ v (end_below e false flag k pc end a)
        (branch_if_goes e false flag k pc end v false f (taken_by true flag v q).1 a)

-- a loop that counts down
pub loop_takes : (I : Type 0) → LoopsTake I
loop_takes I e least most pc past turns view turn zero i q =
    let t = turn zero i q in
    (t.0, t.1, takes_within e least ((0 + 1) * least) most ((0 + 1) * most) pc past (view i) (view t.0) (omega arith) (omega arith) t.2)
loop_takes I e least most pc past turns view turn (suc k) i q =
    let t = turn (suc k) i q in
    let r = loop_takes I e least most pc past turns view turn k t.0 t.1 in (
      r.0,
      r.1,
      takes_within e (least + (k + 1) * least) ((suc k + 1) * least) (most + (k + 1) * most)
          ((suc k + 1) * most) pc past (view i) (view r.0) (omega arith) (omega arith)
          (takes_then e least most ((k + 1) * least) ((k + 1) * most) pc pc past (view i) (view t.0) (view r.0) t.2 r.2),
    )

-- ---- skips

words_of : (i : Instr) → (if has_two_words (Some i) then 2 else 1) ≡ words i
words_of (Lds d k) = refl
words_of (Sts k r) = refl
words_of (Jmp k) = refl
words_of (Call k) = refl
words_of _ = refl

taken_if : (b : Bool) (o : Option Instr) (i : Instr) → (if b then o else None) ≡ Some i → o ≡ Some i
taken_if true o i p = p
taken_if false o i p = cc

decoded_is : (e : Env) (pc : ℕ) (i : Instr) → fetch e pc ≡ Some i
    → decoded (word_in e.flash pc) (word_in e.flash (pc + 1)) ≡ Some i
decoded_is e pc i h = taken_if _ (decoded (word_in e.flash pc) (word_in e.flash (pc + 1))) i (fetched e pc i h).0

-- the next instruction is passed over, or not
skip_goes : (e : Env) (i j : Instr) (pc mid end : ℕ) (v : View) (taken : Bool) → words i ≡ 1
    → act e (Some i) pc v ≡ Running (skip_to e taken pc) v → At e i pc mid → At e j mid end
    → Goes e 1 pc v (if taken then end else mid) v
skip_goes e i j pc mid end v taken w a at next =
    let m : mid ≡ pc + 1 = at.ends ∙ ap (λ n. pc + n) w in
    let d : decoded (word_in e.flash (pc + 1)) (word_in e.flash (pc + 1 + 1)) ≡ Some j =
    decoded_is e (pc + 1) j (subst (λ n. fetch e n ≡ Some j) m next.is) in
    let x : (if has_two_words (decoded (word_in e.flash (pc + 1)) (word_in e.flash (pc + 1 + 1))) then 2 else 1) ≡ words j =
    ap (λ o. if has_two_words o then 2 else 1) d ∙ words_of j in
    let t : skip_to e taken pc ≡ (if taken then end else mid) = ap (λ n. (pc + 1 + (if taken then n else 0)) % 65536) x ∙ arrives taken in
    record { by = ap (λ o. act e o pc v) at.is ∙ a ∙ ap (λ n. Running n v) t }
  where
    arrives : (b : Bool) → (pc + 1 + (if b then words j else 0)) % 65536 ≡ (if b then end else mid)
    arrives true =
        let m = at.ends in
        let n = next.ends in
        let r = next.room in
        omega arith
    arrives false =
        let m = at.ends in
        let r = at.room in
        omega arith

pub clear_bit_skips : (e : Env) (r b : ℕ) (i : Instr) (pc mid end : ℕ) (v : View) → At e (Sbrc r b) pc mid
    → At e i mid end → Goes e 1 pc v (if bit_at (v.at r) b == 0 then end else mid) v
clear_bit_skips e r b i pc mid end v at next =
    skip_goes e (Sbrc r b) i pc mid end v (bit_at (v.at r) b == 0) refl refl at next

pub set_bit_skips : (e : Env) (r b : ℕ) (i : Instr) (pc mid end : ℕ) (v : View) → At e (Sbrs r b) pc mid
    → At e i mid end → Goes e 1 pc v (if bit_at (v.at r) b == 1 then end else mid) v
set_bit_skips e r b i pc mid end v at next =
    skip_goes e (Sbrs r b) i pc mid end v (bit_at (v.at r) b == 1) refl refl at next
