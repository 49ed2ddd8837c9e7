-- The negation of one byte with a sign in a register, which is stopped at the end of the range.
use Rattle.std.proofs.Common.{◌≡◌, ◌≢◌, ℕ, suc, ◌+◌, ◌-◌, ◌*◌, ◌/◌, ◌%◌, ◌^◌, ◌<◌, ◌≤◌, ⊎_elim, true, Some, refl, sym, ap, ◌∙◌}
use Rattle.std.proofs.Common.{subst, arith, ℤ, pos, negsuc, neg_ℤ}
use Rattle.std.proofs.lemmas.Bool.{cases_eq, cases_lt}
use Rattle.std.proofs.lemmas.Int.{ints}
use Rattle.ec_avr.specs.Flags.{byte_difference, difference_overflow}
use Rattle.ec_isa.specs.declared.instructions.Instr.TheVariants.{Neg, Brbc, Com}
use Rattle.ec_fx.specs.Results.{fit}
use Rattle.ec_asm.specs.View.{View}
use Rattle.ec_asm.specs.Change.{change}
use Rattle.ec_asm.specs.Run.{Running, act}
use Rattle.ec_asm.specs.Items.{At}
use Rattle.ec_asm.specs.Pieces.{Outside, value}
use Rattle.ec_asm.specs.PieceLaws.{HoldsNumbers}
use Rattle.ec_asm.specs.Takes.{Goes}
use Rattle.ec_asm.proofs.Bytes.{put_here, put_other}
use Rattle.ec_asm.proofs.Hoare.{goes_on_to, one_goes}
use Rattle.ec_fxcode.specs.ClampLaws.{HoldsResult}
use Rattle.ec_fxcode.proofs.Fits.{plus, minus}
use Rattle.ec_fxcode_shifts.specs.ShiftLaws.{number_in}
use Rattle.ec_fxcode_scales.specs.ScaleLaws.{Brings}
use Rattle.ec_fxcode_limits.specs.LimitLaws.{OppositesAreRight}
use Rattle.ec_fxcode_limits.proofs.Limited.{bits_of, signed_inside, above}

-- ---- the number

-- but for -128, what is left stands for the opposite number
opposite_number : (x s : ℕ) → x < 256 → x ≢ 128 → s ≡ byte_difference 0 x 0 → number_in true 1 s ≡ neg_ℤ (number_in true 1 x)
opposite_number x s l other q =
    ⊎_elim
    (λ (a : x < 128).
    ⊎_elim
    (λ (z : x ≡ 0).
    let t : s ≡ 0 = omega (arith, q, z) in
    plus 1 s (omega (arith, t)) ∙ ap pos t ∙ sym (ap neg_ℤ (plus 1 x (omega (arith, z)) ∙ ap pos z)))
    (λ (z : x ≢ 0).
    let t : s ≡ 256 - x = omega (arith, q, a, z) in
    let e : negsuc (256 ^ 1 - s - 1) ≡ neg_ℤ (pos x) = omega (arith, ints, t, a, z) in
    minus 1 s (omega (arith, t, a)) (omega (arith, t, z)) ∙ e ∙ sym (ap neg_ℤ (plus 1 x (omega (arith, a)))))
    (cases_eq x 0))
    (λ (a : 128 ≤ x).
    let t : s ≡ 256 - x = omega (arith, q, a, l) in
    let e : pos s ≡ neg_ℤ (negsuc (256 ^ 1 - x - 1)) = omega (arith, ints, t, a, l, other) in
    plus 1 s (omega (arith, t, a, other)) ∙ e ∙ sym (ap neg_ℤ (minus 1 x (omega (arith, a)) l)))
    (cases_lt x 128)

-- V tells of no other number
overflow_none : (x : ℕ) → x < 256 → x ≢ 128 → difference_overflow 128 0 x (byte_difference 0 x 0) ≡ 0
overflow_none x l other =
    ⊎_elim
    (λ (a : x < 128). let h : x / 128 ≡ 0 = omega (arith, a) in rw h refl)
    (λ (a : 128 ≤ x).
    let h : x / 128 ≡ 1 = omega (arith, a, l) in
    let k : byte_difference 0 x 0 / 128 ≡ 0 = omega (arith, a, l, other) in
    rw (h, k) refl)
    (cases_lt x 128)

alone : (g : ℕ → ℕ) (a x : ℕ) → g a ≡ x → value g a 1 ≡ x
alone g a x q = let e : a + 0 ≡ a = omega arith in let here : g (a + 0) ≡ x = ap g e ∙ q in omega (arith, here)

-- ---- the run

pub opposites_are_right : OppositesAreRight
opposites_are_right f mode e r pc end v is eight sat two held stands =
    ⊎_elim (λ (q : x ≡ 128). turned q) (λ (q : x ≢ 128). kept q) (cases_eq x 128)
  where
    x : ℕ
    x = v.at r

    small : x < 256
    small = held r two

    bits : f.bits ≡ 8 * suc 0
    bits = eight

    w : View
    w = change e (Neg r) v

    mid : ℕ
    mid = stands.0

    first : Goes e 1 pc v mid w
    first = one_goes e (Neg r) pc mid v refl stands.1

    there : w.at r ≡ byte_difference 0 x 0
    there = put_here v.at r (byte_difference 0 x 0) r refl

    same : (k : ℕ) → Outside r 1 k → w.at k ≡ v.at k
    same k o = put_other v.at r (byte_difference 0 x 0) k (λ q. let a = o (omega (arith, q)) in omega (arith, a, q))

    numbers : HoldsNumbers w
    numbers k l =
        ⊎_elim (λ (q : k ≡ r). rw (q, there) (omega arith))
        (λ (q : k ≢ r). rw (put_other v.at r (byte_difference 0 x 0) k q) (held k l)) (cases_eq k r)

    last_ends : stands.2.2.0 ≡ end
    last_ends = sym stands.2.2.2

    complement : At e (Com r) stands.2.0 end
    complement = subst (λ i. At e (Com r) stands.2.0 i) last_ends stands.2.2.1

    answer : ℤ
    answer = neg_ℤ (number_in true 1 x)

    kept : x ≢ 128 → Brings e 3 pc v end r 1 (HoldsResult 1 (fit f mode answer))
    kept q =
        let over = stands.2.1 in
        let a1 = over.ends in
        let b1 = complement.ends in
        let b2 = complement.room in
        let clear : w.flags.v ≡ 0 = overflow_none x small q in
        let to : (mid + 1 + 1) % 65536 ≡ end = omega (arith, a1, b1, b2) in
        let by : act e (Some (Brbc 3 (pos 1))) mid w ≡ Running ((mid + 1 + 1) % 65536) w = rw clear refl in
        let second : Goes e 1 mid w end w = record { by = ap (λ o. act e o mid w) over.is ∙ by ∙ ap (λ k. Running k w) to } in
        let s = byte_difference 0 x 0 in
        let number = opposite_number x s small q refl in
        let inside = signed_inside f mode 0 s is bits (omega arith) in
        let holds : HoldsResult 1 (fit f mode answer) s = subst (λ t. HoldsResult 1 (fit f mode t) s) number inside in
        record {
          steps = 1 + 1;
          at_most = omega arith;
          last = w;
          goes = goes_on_to e 1 1 pc mid end v w w first second;
          holds = subst (λ k. HoldsResult 1 (fit f mode answer) k) (sym (alone w.at r s there)) holds;
          numbers = numbers;
          same = λ k x1 x2 x3 x4 o. same k o;
          inputs = refl;
          safe = refl;
          seen = refl;
        }

    turned : x ≡ 128 → Brings e 3 pc v end r 1 (HoldsResult 1 (fit f mode answer))
    turned q =
        let over = stands.2.1 in
        let a1 = over.ends in
        let a2 = over.room in
        let set : w.flags.v ≡ 1 = rw q refl in
        let to : (mid + 1) % 65536 ≡ stands.2.0 = omega (arith, a1, a2) in
        let by : act e (Some (Brbc 3 (pos 1))) mid w ≡ Running ((mid + 1) % 65536) w = rw set refl in
        let second : Goes e 1 mid w stands.2.0 w = record { by = ap (λ o. act e o mid w) over.is ∙ by ∙ ap (λ k. Running k w) to } in
        let u = change e (Com r) w in
        let third = one_goes e (Com r) stands.2.0 end w refl complement in
        let here : u.at r ≡ 127 = put_here w.at r (255 - w.at r) r refl ∙ ap (λ k. 255 - k) (there ∙ ap (λ k. byte_difference 0 k 0) q) in
        let high : fit f mode answer ≡ fit f mode (pos 128) = ap (λ k. fit f mode (neg_ℤ (number_in true 1 k))) q in
        let most = above f mode 128 128 sat is (bits_of f 0 bits) (omega arith) (omega arith) in
        let holds : HoldsResult 1 (fit f mode answer) 127 = rw (high, most) refl in
        record {
          steps = 1 + 1 + 1;
          at_most = omega arith;
          last = u;
          goes = goes_on_to e (1 + 1) 1 pc stands.2.0 end v w u (goes_on_to e 1 1 pc mid stands.2.0 v w w first second) third;
          holds = subst (λ k. HoldsResult 1 (fit f mode answer) k) (sym (alone u.at r 127 here)) holds;
          numbers = λ k l.
              ⊎_elim (λ (z : k ≡ r). rw (z, here) (omega arith))
              (λ (z : k ≢ r). rw (put_other w.at r (255 - w.at r) k z) (numbers k l)) (cases_eq k r);
          same = λ k x1 x2 x3 x4 o.
              put_other w.at r (255 - w.at r) k (λ z. let a = o (omega (arith, z)) in omega (arith, a, z)) ∙ same k o;
          inputs = refl;
          safe = refl;
          seen = refl;
        }
