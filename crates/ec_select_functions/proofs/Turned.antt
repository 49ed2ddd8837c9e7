-- Negations and complements.
use Rattle.std.proofs.Common.{◌≡◌, ◌≢◌, ℕ, ◌+◌, ◌-◌, ◌*◌, ◌/◌, ◌%◌, ◌^◌, ◌<◌, ◌≤◌, Bool, false, ℤ, pos, negsuc, ◌+ℤ◌}
use Rattle.std.proofs.Common.{◌-ℤ◌, Ok, Some, refl, sym, ap, ◌∙◌, subst, arith, ⊎_elim}
use Rattle.std.proofs.lemmas.Int.{ints}
use Rattle.std.proofs.lemmas.Nat.{mod_below, div-add-mod', mod-mul-add, mul-le}
use Rattle.std.proofs.lemmas.Bool.{cases_lt}
use Rattle.ec_fx.specs.declared.numbers.Mode.{Mode}
use Rattle.ec_asm.specs.declared.pieces.Location.{Location}
use Rattle.ec_asm.specs.declared.pieces.Operator.TheVariants.{Difference}
use Rattle.ec_asm.specs.View.{View}
use Rattle.ec_asm.specs.Change.{Env, Own}
use Rattle.ec_asm.specs.Items.{block}
use Rattle.ec_asm.specs.Pieces.{StandsFrom, value}
use Rattle.ec_asm.specs.PieceLaws.{HoldsNumbers}
use Rattle.ec_asm.proofs.Hoare.{block-append}
use Rattle.ec_asm.proofs.Numbers.{mod_beside, pow_pos}
use Rattle.ec_core.specs.declared.expressions.UnOp.{UnOp}
use Rattle.ec_core.specs.declared.expressions.UnOp.TheVariants.{Minus, Invert}
use Rattle.ec_core.specs.declared.values.Value.TheVariants.{Number}
use Rattle.ec_core.specs.Operators.{unary_result}
use Rattle.ec_core.specs.Plain.{integer, PlainProgram}
use Rattle.ec_core.specs.State.{worked}
use Rattle.ec_ir.specs.declared.operations.Temp.{Temp}
use Rattle.ec_ir.specs.Meaning.{Mach, machine}
use Rattle.ec_ir.specs.Temporaries.{bits, with_content, low_bytes, number_of_bytes}
use Rattle.ec_select_operations.specs.Homes.{HasHome}
use Rattle.ec_select_bytes.specs.ComplementLaws.{Leaves}
use Rattle.ec_select_bytes.proofs.Turned.{complements_are_right, negations_are_right}
use Rattle.ec_select_operations.specs.Code.{move_code, turn_code, unary_code}
use Rattle.ec_select_operations.specs.Needs.{Need, at_least, without, wanted}
use Rattle.ec_select_functions.proofs.Setting.{Setting}
use Rattle.ec_select_functions.specs.Relation.{Matches}
use Rattle.ec_select_functions.proofs.Computed.{results, work_after, power_of, stand, moved_numbers}
use Rattle.ec_select_functions.proofs.Match.{kept_left, wanted_most, least_here, least_other, without_other, at_width}
use Rattle.ec_select_functions.proofs.Match.{read_first, written}
use Rattle.ec_select_functions.proofs.Moves.{Frame, wider_frame, numbers_kept, row_value, move_holds}
use Rattle.ec_select_functions.proofs.Wrapped.{Lifts, low_of, low_of_wrapped, low_of_difference, lifts_number}
use Rattle.ec_select_functions.proofs.Wrapped.{lifts_difference, kept_below}

-- ---- numbers

-- what an operator makes of a number of b bytes
abbrev pub turned : UnOp → (b x : ℕ) → ℕ
turned Minus b x = (256 ^ b - x) % 256 ^ b
turned Invert b x = 256 ^ b - 1 - x

pub turned_below : (op : UnOp) (b x : ℕ) → turned op b x < 256 ^ b
turned_below Minus b x = mod_below (256 ^ b - x) (256 ^ b) (pow_pos b)
turned_below Invert b x = let p = pow_pos b in omega (arith, p)

-- the low bytes of the result
turned_low : (op : UnOp) (n b x : ℕ) → n ≤ b → x < 256 ^ b → turned op n (x % 256 ^ n) ≡ turned op b x % 256 ^ n
turned_low Minus n b x l k =
    let r = results Difference n b 0 x l (omega (arith, k)) in
    let z : 0 % 256 ^ n ≡ 0 = kept_below 0 (256 ^ n) (pow_pos n) in
    let f : 256 ^ n - x % 256 ^ n ≡ 0 % 256 ^ n + 256 ^ n - x % 256 ^ n = omega (arith, z) in
    let g : 0 + 256 ^ b - x ≡ 256 ^ b - x = omega arith in
    ap (λ t. t % 256 ^ n) f ∙ r ∙ ap (λ t. t % 256 ^ b % 256 ^ n) g
turned_low Invert n b x l k =
    complement_low (256 ^ n) (256 ^ (b - n)) (256 ^ b) x (pow_pos n) (power_of n b l) k
  where
    parts : (p q d r s : ℕ) → r < p → d + 1 + s ≡ q → q * p - 1 - (d * p + r) ≡ s * p + (p - 1 - r)
    parts p q d r s l e =
        let w : (d + 1 + s) * p ≡ q * p = ap (λ t. t * p) e in
        omega (arith, w, l)

    complement_low : (p q m x : ℕ) → 0 < p → m ≡ q * p → x < m → p - 1 - x % p ≡ (m - 1 - x) % p
    complement_low p q m x some e k =
        let d = div-add-mod' x p in
        let r = mod_below x p some in
        ⊎_elim
        (λ (g : x / p < q).
        let s = q - x / p - 1 in
        let i : q * p - 1 - (x / p * p + x % p) ≡ s * p + (p - 1 - x % p) = parts p q (x / p) (x % p) s r (omega (arith, g)) in
        let j : m - 1 - x ≡ s * p + (p - 1 - x % p) = omega (arith, e, d, i) in
        sym (ap (λ t. t % p) j ∙ mod-mul-add s p (p - 1 - x % p) (omega (arith, some))))
        (λ (g : q ≤ x / p).
        let w : q * p ≤ x / p * p = mul-le q p (x / p) p g (omega arith) in
        absurd (omega (arith, w, d, e, k)))
        (cases_lt (x / p) q)

down : (p : ℕ) → 0 < p → negsuc 0 +ℤ pos (1 * p) ≡ pos (p - 1)
down p l = omega (arith, ints, l)

-- what an operator gives for a number of b bytes
pub record Turns (op : UnOp) (mode : Mode) (s : Bool) (b x : ℕ) : Type 0 where
  pub number : ℤ
  pub is : unary_result op (integer s b) mode (Number (number_of_bytes s b x)) ≡ Ok (Number number)
  pub low : low_bytes b number ≡ turned op b x

pub turns : (op : UnOp) (mode : Mode) (s : Bool) (b x : ℕ) → x < 256 ^ b → Turns op mode s b x
turns Minus mode s b x l =
    let g : 0 + 256 ^ b - x ≡ 256 ^ b - x = omega arith in
    record { number = _; is = refl; low = low_of_difference false s s b 0 x (omega (arith, l)) ∙ ap (λ t. t % 256 ^ b) g }
turns Invert mode s b x l =
    let p = 256 ^ b in
    let some = pow_pos b in
    let z = number_of_bytes s b x in
    let ones : Lifts (negsuc 0) b (p - 1) = record { k = 1; is = down p some } in
    let r = lifts_number s b x in
    let d = lifts_difference (negsuc 0) z b (p - 1) x ones r (omega (arith, l)) in
    let e : p - 1 + p - x ≡ 1 * p + (p - 1 - x) = omega (arith, l) in
    record {
      number = _;
      is = refl;
      low = low_of_wrapped s b (negsuc 0 -ℤ z) ∙ low_of (negsuc 0 -ℤ z) b _ d ∙ mod_beside r.k p (p - 1 + p - x) some ∙ ap (λ t. t % p) e
          ∙ mod-mul-add 1 p (p - 1 - x) (omega (arith, some));
    }

-- ---- code

left_by : (op : UnOp) (e : Env) (p : Location) (n a : ℕ) (v : View) → StandsFrom e p n a Own → HoldsNumbers v
    → Leaves v a n (turned op n (value v.at a n)) (block e (turn_code op p n) v)
left_by Minus e p n a v s h = negations_are_right e p n a v s h
left_by Invert e p n a v s h = complements_are_right e p n a v s h

module _ (p : PlainProgram) (e : Env) (slots : ℕ) (home : Temp → Location) (base : Temp → ℕ) (place : ℕ → ℕ)
    (y : Setting p e slots home base place) where
  abbrev U : Need → Mach → View → Type 0
  U need m v = Matches p e y.inputs slots base place y.aside y.stands y.active y.called need m v

  pub unary_matches : (op : UnOp) (t a : Temp) (need : Need) (m : Mach) (v : View) (c x : ℕ) → HasHome slots t
      → HasHome slots a → a.bytes ≡ t.bytes → m.temps a.at ≡ Some (record { bytes = a.bytes; content = bits x })
      → U (at_least a.at (wanted need t) (without t.at need)) m v
      → U need (machine (with_content t (bits (turned op t.bytes x)) m.temps) (worked c m.state))
      (block e (unary_code op (home a) (home t) (wanted need t)) v)
  unary_matches op t a need m v c x it ia same qa h =
      let n = wanted need t in
      let need0 = at_least a.at n (without t.at need) in
      let most : n ≤ t.bytes = wanted_most need t in
      let less : n ≤ a.bytes = omega arith in
      let some_a = (y.layout.temps_at a ia).clear in
      let here_a = least_here a.at n (without t.at need) in
      let wide_a : n ≤ wanted need0 a = omega (arith, here_a, less) in
      let xa = at_width p e slots home base place y need0 m v a _ n h ia qa refl wide_a in
      let below : x < 256 ^ t.bytes = subst (λ j. x < 256 ^ j) same xa.1 in
      let v1 = block e (move_code (home a) (home t) n) v in
      let k =
      move_holds e (home a) (home t) n (base a) (base t) v (stand p e slots home base place y a n ia less)
      (stand p e slots home base place y t n it most) (read_first p e slots home base place y t a n it ia less) h.bytes in
      let numbers1 = moved_numbers p e slots home base place y v v1 (base a) (base t) n some_a h.bytes k in
      let frame1 = wider_frame v v1 (base t) t.bytes n most k.frame in
      let v2 = block e (turn_code op (home t) n) v1 in
      let o = left_by op e (home t) n (base t) v1 (stand p e slots home base place y t n it most) numbers1 in
      let left : value v1.at (base t) n ≡ x % 256 ^ n = row_value v1.at v.at (base a) (base t) n k.there ∙ xa.0 in
      let result : value v2.at (base t) n ≡ turned op t.bytes x % 256 ^ n =
      o.number_is ∙ ap (turned op n) left ∙ turned_low op n t.bytes x most below in
      let frame2 : Frame v1 v2 (base t) n = λ i d f g r. o.keeps.same i d f r in
      let frame : Frame v v2 (base t) t.bytes =
      λ i d f g r. wider_frame v1 v2 (base t) t.bytes n most frame2 i d f g r ∙ frame1 i d f g r in
      let work : v2.at 30 < 256 = work_after v1 v2 (base t) n numbers1 o.keeps.same o.numbers in
      let numbers2 = numbers_kept v1 v2 (base t) n numbers1 frame2 o.numbers work in
      rw (block-append e (move_code (home a) (home t) n) (turn_code op (home t) n) v)
      (written p e slots home base place y t (bits (turned op t.bytes x)) need need0 m (worked c m.state) v v2 it h
      (λ i r. still i r) frame (result, turned_below op t.bytes x) numbers2 refl (o.keeps.seen ∙ k.quiet.seen ∙ h.seen)
      (kept_left y.inputs m.state v v2 (o.keeps.inputs ∙ k.quiet.inputs) h.left) (o.keeps.safe ∙ k.quiet.safe ∙ h.safe))
    where
      still : (i : ℕ) → i ≢ t.at → need i ≤ at_least a.at (wanted need t) (without t.at need) i
      still i r =
          let d = without_other t.at i need r in
          let f = least_other a.at (wanted need t) i (without t.at need) in
          omega arith
