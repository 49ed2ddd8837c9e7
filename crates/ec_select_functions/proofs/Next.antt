-- A relation of operands, or of them exchanged, is one of the first operand to a known number: n < x is n + 1 <= x.
use Rattle.std.proofs.Common.{◌≡◌, ◌≢◌, ℕ, ◌+◌, ◌*◌, ◌/◌, ◌%◌, ◌^◌, ◌<◌, ◌≤◌, ⊎_elim, Bool, true, false, not, ◌&&◌}
use Rattle.std.proofs.Common.{refl, sym, ap, ◌∙◌, arith}
use Rattle.std.specs.Prelude.{nat_le, nat_lt, ◌==◌, if◌then◌else◌}
use Rattle.std.proofs.lemmas.Bool.{and_parts, eqb-true, eq-eqb, le-leb, cases_lt}
use Rattle.std.proofs.lemmas.Bool.Decides.{nat_tests}
use Rattle.std.proofs.lemmas.Nat.{mod_below, div-add-mod'}
use Rattle.ec_asm.specs.PieceLaws.{moved_up}
use Rattle.ec_asm.proofs.Numbers.{pow_pos, mod_less, mod_beside}
use Rattle.ec_select_order.specs.declared.relations.Relation.{Relation}
use Rattle.ec_select_order.specs.declared.relations.Relation.TheVariants.{Less, NotLess, Equal, NotEqual}
use Rattle.ec_select_order.specs.Relations.{is_less, stand_so}
use Rattle.ec_select_operations.specs.declared.bounds.Bound.{Bound}
use Rattle.ec_select_operations.specs.Bounds.{opposite, bound, next_number, is_greatest, exchanged_bound, of_one, simplest, bound_of}
use Rattle.ec_select_functions.proofs.ByNumber.{byte_power}
use Rattle.ec_select_functions.proofs.Orders.{first_of_two, up_low, up_high, half_of}
use Rattle.ec_select_functions.proofs.Taken.{is_order}
use Rattle.ec_select_functions.proofs.Truth.{not_not}
use Rattle.ec_select_functions.proofs.Wrapped.{kept_below}

-- how n bytes stand to a number
abbrev pub stands_to : Bound → (n x : ℕ) → Bool
stands_to b n x = stand_so b.relation b.signed n x (b.number % 256 ^ n)

-- ---- 1, without signs

not_false : (b : Bool) → not b ≡ true → b ≡ false
not_false true q = absurd cc
not_false false q = refl

below_one : (x : ℕ) → nat_lt x 1 ≡ (x == 0)
below_one x = grind (arith, nat_tests)

zero_low : (n : ℕ) → 0 % 256 ^ n ≡ 0
zero_low n = kept_below 0 (256 ^ n) (pow_pos n)

one_low : (n : ℕ) → 1 ≤ n → 1 % 256 ^ n ≡ 1
one_low n some = let wide = byte_power n some in kept_below 1 (256 ^ n) (omega (arith, wide))

less_one : (n x : ℕ) → 1 ≤ n → nat_lt x (1 % 256 ^ n) ≡ (x == 0 % 256 ^ n)
less_one n x some = ap (nat_lt x) (one_low n some) ∙ below_one x ∙ ap (λ k. x == k) (sym (zero_low n))

one_stands : (r : Relation) (n x : ℕ) → 1 ≤ n → stand_so r false n x (1 % 256 ^ n) ≡ stands_to (of_one r) n x
one_stands Less n x some = less_one n x some
one_stands NotLess n x some = ap not (less_one n x some)
one_stands Equal n x some = refl
one_stands NotEqual n x some = refl

simplest_stands : (b : Bound) (n x : ℕ) → 1 ≤ n → stands_to b n x ≡ stands_to (simplest b) n x
simplest_stands b n x some = by_test (not b.signed && b.number == 1) refl
  where
    by_test : (t : Bool) → (not b.signed && b.number == 1) ≡ t → stands_to b n x ≡ stands_to (if t then of_one b.relation else b) n x
    by_test false q = refl
    by_test true q =
        let parts = and_parts (not b.signed) (b.number == 1) q in
        ap (λ s. stand_so b.relation s n x (b.number % 256 ^ n)) (not_false b.signed parts.0)
        ∙ ap (λ k. stand_so b.relation false n x (k % 256 ^ n)) (eqb-true b.number 1 parts.1)
        ∙ one_stands b.relation n x some

-- ---- the next number

next_low : (number n : ℕ) → n ≤ 16 → next_number number % 256 ^ n ≡ (number % 256 ^ n + 1) % 256 ^ n
next_low number n few =
    let d = div-add-mod' number (256 ^ n) in
    let e : number + 1 ≡ number / 256 ^ n * 256 ^ n + (number % 256 ^ n + 1) = omega (arith, d) in
    mod_less (number + 1) n 16 few ∙ ap (λ t. t % 256 ^ n) e
    ∙ mod_beside (number / 256 ^ n) (256 ^ n) (number % 256 ^ n + 1) (pow_pos n)

less_next : (i j : ℕ) → nat_lt i j ≡ not (nat_lt j (i + 1))
less_next i j = grind (arith, nat_tests)

not_less : (i j : ℕ) → j ≤ i → nat_lt i j ≡ false
not_less i j l = grind (arith, nat_tests)

-- moved up by a half h
up_next : (z h : ℕ) → z < 2 * h → z + 1 ≢ h → ((z + 1) % (2 * h) + h) % (2 * h) ≡ (z + h) % (2 * h) + 1
up_next z h l other =
    ⊎_elim
    (λ (a : z < h).
    let k : (z + 1) % (2 * h) ≡ z + 1 = kept_below (z + 1) (2 * h) (omega arith) in
    let more : z + 1 < h = omega (arith, a, other) in
    ap (λ t. (t + h) % (2 * h)) k ∙ up_low (z + 1) h more ∙ (let i = up_low z h a in omega (arith, i)))
    (λ (a : h ≤ z).
    let i = up_high z h a l in
    ⊎_elim
    (λ (b : z + 1 < 2 * h).
    let k : (z + 1) % (2 * h) ≡ z + 1 = kept_below (z + 1) (2 * h) b in
    ap (λ t. (t + h) % (2 * h)) k ∙ up_high (z + 1) h (omega (arith, a)) b ∙ omega (arith, i, a))
    (λ (b : 2 * h ≤ z + 1).
    let whole : z + 1 ≡ 1 * (2 * h) + 0 = omega (arith, b, l) in
    let k : (z + 1) % (2 * h) ≡ 0 =
    ap (λ t. t % (2 * h)) whole ∙ mod_beside 1 (2 * h) 0 (omega (arith, l)) ∙ kept_below 0 (2 * h) (omega (arith, l)) in
    ap (λ t. (t + h) % (2 * h)) k ∙ up_low 0 h (omega (arith, l)) ∙ omega (arith, i, b, l))
    (cases_lt (z + 1) (2 * h)))
    (cases_lt z h)

moved_is : (n h x : ℕ) → 256 ^ n ≡ 2 * h → 256 ^ n / 2 ≡ h → moved_up n x ≡ (x + h) % (2 * h)
moved_is n h x p q = ap (λ t. (x + t) % 256 ^ n) q ∙ ap (λ t. (x + h) % t) p

-- where the end of so many bytes is not reached
abbrev end_of : Bool → ℕ → ℕ
end_of sign n = if sign then 256 ^ n / 2 else 256 ^ n

next_order : (sign : Bool) (n x z : ℕ) → 1 ≤ n → z < 256 ^ n → z + 1 ≢ end_of sign n
    → is_less sign n z x ≡ not (is_less sign n x ((z + 1) % 256 ^ n))
next_order false n x z some l other =
    less_next z x ∙ ap (λ k. not (nat_lt x k)) (sym (kept_below (z + 1) (256 ^ n) (omega (arith, l, other))))
next_order true n x z some l other =
    let f = half_of n some in
    let h = f.0 in
    let p = f.1 in
    let q = f.2 in
    let e : moved_up n ((z + 1) % 256 ^ n) ≡ moved_up n z + 1 =
    moved_is n h ((z + 1) % 256 ^ n) p q ∙ ap (λ t. ((z + 1) % t + h) % (2 * h)) p
    ∙ up_next z h (omega (arith, l, p)) (λ s. other (s ∙ sym q)) ∙ ap (λ t. t + 1) (sym (moved_is n h z p q)) in
    less_next (moved_up n z) (moved_up n x) ∙ ap (λ k. not (nat_lt (moved_up n x) k)) (sym e)

-- and where it is, no number is greater
no_greater : (sign : Bool) (n x z : ℕ) → 1 ≤ n → x < 256 ^ n → z + 1 ≡ end_of sign n → is_less sign n z x ≡ false
no_greater false n x z some l is = not_less z x (omega (arith, l, is))
no_greater true n x z some l is =
    let f = half_of n some in
    let h = f.0 in
    let p = f.1 in
    let q = f.2 in
    let top : z + 1 ≡ h = is ∙ q in
    let e = moved_is n h z p q ∙ up_low z h (omega (arith, top)) in
    let g = moved_is n h x p q in
    let m : (x + h) % (2 * h) < 2 * h = mod_below (x + h) (2 * h) (omega (arith, top)) in
    not_less (moved_up n z) (moved_up n x) (omega (arith, e, g, m, top))

less_none : (n x : ℕ) → nat_lt x (0 % 256 ^ n) ≡ false
less_none n x = ap (nat_lt x) (zero_low n) ∙ not_less x 0 (omega arith)

exchanged_stands : (r : Relation) → is_order r ≡ true → (sign : Bool) (n x number : ℕ) → 1 ≤ n → n ≤ 8 → x < 256 ^ n
    → stand_so r sign n (number % 256 ^ n) x ≡ stands_to (exchanged_bound r sign n number) n x
exchanged_stands r order sign n x number some few l = by_test (is_greatest sign n number) refl
  where
    z : ℕ
    z = number % 256 ^ n

    below : z < 256 ^ n
    below = mod_below number (256 ^ n) (pow_pos n)

    greatest : (r : Relation) → is_order r ≡ true → z + 1 ≡ end_of sign n → stand_so r sign n z x ≡ stand_so r false n x (0 % 256 ^ n)
    greatest Less o e = no_greater sign n x z some l e ∙ sym (less_none n x)
    greatest NotLess o e = ap not (no_greater sign n x z some l e ∙ sym (less_none n x))
    greatest Equal o e = absurd cc
    greatest NotEqual o e = absurd cc

    later : z + 1 ≢ end_of sign n → is_less sign n z x ≡ not (is_less sign n x (next_number number % 256 ^ n))
    later e =
        next_order sign n x z some below e
        ∙ ap (λ k. not (is_less sign n x k)) (sym (next_low number n (omega (arith, few))))

    other : (r : Relation) → is_order r ≡ true → z + 1 ≢ end_of sign n
        → stand_so r sign n z x ≡ stand_so (opposite r) sign n x (next_number number % 256 ^ n)
    other Less o e = later e
    other NotLess o e = ap not (later e) ∙ not_not (is_less sign n x (next_number number % 256 ^ n))
    other Equal o e = absurd cc
    other NotEqual o e = absurd cc

    by_test : (t : Bool) → is_greatest sign n number ≡ t
        → stand_so r sign n z x ≡ stands_to (if t then bound r false 0 else bound (opposite r) sign (next_number number)) n x
    by_test true q =
        let parts = and_parts (nat_le n 8) (z + 1 == end_of sign n) q in
        greatest r order (eqb-true (z + 1) (end_of sign n) parts.1)
    by_test false q = other r order (λ e. unlike (nat_le n 8) (z + 1 == end_of sign n) (le-leb n 8 few)
        (eq-eqb (z + 1) (end_of sign n) e) q)
      where
        unlike : (a b : Bool) → a ≡ true → b ≡ true → (a && b) ≡ false → ⊥
        unlike true true c d f = absurd cc
        unlike true false c d f = absurd cc
        unlike false b c d f = absurd cc

-- operands, of which the second one has the low bytes of a known number
pub bound_stands : (r : Relation) (exchanged sign : Bool) (n x z number : ℕ) → (exchanged ≡ true → is_order r ≡ true) → 1 ≤ n → n ≤ 8
    → x < 256 ^ n → number % 256 ^ n ≡ z
    → stand_so r sign n (first_of_two exchanged x z) (first_of_two exchanged z x) ≡ stands_to (bound_of r exchanged sign n number) n x
bound_stands r false sign n x z number order some few l is =
    ap (stand_so r sign n x) (sym is) ∙ simplest_stands (bound r sign number) n x some
bound_stands r true sign n x z number order some few l is =
    ap (λ k. stand_so r sign n k x) (sym is) ∙ exchanged_stands r (order refl) sign n x number some few l
    ∙ simplest_stands (exchanged_bound r sign n number) n x some
