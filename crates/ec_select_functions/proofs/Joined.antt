-- OR and exclusive OR whose second operand is below 256: one byte of the first operand is changed.
use Rattle.std.proofs.Common.{◌≡◌, ◌≢◌, ℕ, zero, suc, ◌+◌, ◌/◌, ◌%◌, ◌^◌, ◌<◌, ◌≤◌, true, Some, refl, sym, ap, ◌∙◌}
use Rattle.std.proofs.Common.{subst, arith, min}
use Rattle.std.specs.Int.Bits.{or_zero_r, xor_zero_r}
use Rattle.std.proofs.lemmas.Nat.{div_below}
use Rattle.ec_asm.specs.declared.pieces.Location.{Location}
use Rattle.ec_asm.specs.declared.pieces.Operator.{Operator}
use Rattle.ec_asm.specs.declared.pieces.Operator.TheVariants.{BitOr, BitXor}
use Rattle.ec_asm.specs.View.{View}
use Rattle.ec_asm.specs.Change.{Env}
use Rattle.ec_asm.specs.Items.{block}
use Rattle.ec_asm.specs.Pieces.{Keeps, value, bitwise, is_bitwise, operate_code, BitwiseTo}
use Rattle.ec_asm.specs.PieceLaws.{HoldsNumbers}
use Rattle.ec_asm.proofs.Hoare.{block-append}
use Rattle.ec_asm.proofs.Numbers.{value_digit, pow_pos}
use Rattle.ec_asm.proofs.Operators.{bitwise_holds}
use Rattle.ec_core.specs.Plain.{PlainProgram}
use Rattle.ec_core.specs.State.{worked}
use Rattle.ec_ir.specs.declared.operations.Temp.{Temp}
use Rattle.ec_ir.specs.Meaning.{Mach, machine}
use Rattle.ec_ir.specs.Temporaries.{bits, with_content}
use Rattle.ec_select_bytes.specs.Values.{byte_of}
use Rattle.ec_select_operations.specs.Code.{move_code, joined_code}
use Rattle.ec_select_operations.specs.Homes.{HasHome}
use Rattle.ec_select_operations.specs.Needs.{Need, at_least, without, wanted}
use Rattle.ec_select_functions.specs.Relation.{Matches}
use Rattle.ec_select_functions.proofs.ByNumber.{byte_power}
use Rattle.ec_select_functions.proofs.Computed.{result_of, result_below, results, stand, moved_numbers, work_after, byte_below}
use Rattle.ec_select_functions.proofs.Match.{kept_left, wanted_most, least_here, least_other, without_other, at_width}
use Rattle.ec_select_functions.proofs.Match.{read_first, written, held_row}
use Rattle.ec_select_functions.proofs.Moves.{Frame, wider_frame, work_outside, numbers_kept, row_kept, row_value, move_holds}
use Rattle.ec_select_functions.proofs.Setting.{Setting}
use Rattle.ec_select_functions.proofs.Taken.{is_joined}
use Rattle.ec_select_functions.proofs.Wrapped.{kept_below, value_of_bytes, byte_of_bitwise}

-- ---- bytes

joined_bits : (op : Operator) → is_joined op ≡ true → is_bitwise op ≡ true
joined_bits BitOr is = refl
joined_bits BitXor is = refl
joined_bits op is = absurd cc

joined_result : (op : Operator) → is_joined op ≡ true → (n x z : ℕ) → result_of op n x z ≡ bitwise op x z % 256 ^ n
joined_result BitOr is n x z = refl
joined_result BitXor is n x z = refl
joined_result op is n x z = absurd cc

joined_zero : (op : Operator) → is_joined op ≡ true → (x : ℕ) → bitwise op x 0 ≡ x
joined_zero BitOr is x = or_zero_r x
joined_zero BitXor is x = xor_zero_r x
joined_zero op is x = absurd cc

-- the upper bytes of a number below 256
no_byte : (z j : ℕ) → z < 256 → byte_of z (suc j) ≡ 0
no_byte z j l =
    let p = byte_power (suc j) (omega arith) in
    let d : z / 256 ^ suc j < 1 = div_below z (256 ^ suc j) 1 (pow_pos (suc j)) (omega (arith, p, l)) in
    let none : z / 256 ^ suc j ≡ 0 = omega (arith, d) in
    ap (λ t. t % 256) none

upper_byte : (op : Operator) → is_joined op ≡ true → (x z j : ℕ) → z < 256 → byte_of x (suc j) ≡ byte_of (bitwise op x z) (suc j)
upper_byte op is x z j l =
    sym (byte_of_bitwise op x z (suc j) ∙ ap (bitwise op (byte_of x (suc j))) (no_byte z j l) ∙ joined_zero op is (byte_of x (suc j)))

module _ (p : PlainProgram) (e : Env) (slots : ℕ) (home : Temp → Location) (base : Temp → ℕ) (place : ℕ → ℕ)
    (y : Setting p e slots home base place) where
  abbrev N : Need → Mach → View → Type 0
  N need m v = Matches p e y.inputs slots base place y.aside y.stands y.active y.called need m v

  -- of n bytes of the first operand, which was brought to the result's place, the lowest one is combined with z
  record IsJoinedTo (op : Operator) (t : Temp) (n z : ℕ) (v w : View) : Type 0 where
    result : value w.at (base t) n ≡ bitwise op (value v.at (base t) n) z % 256 ^ n
    numbers : (j : ℕ) → j < min n 1 → w.at (base t + j) < 256
    keeps : Keeps v w (base t) (min n 1)

  byte_joined : (op : Operator) → is_joined op ≡ true → (t b : Temp) (n z : ℕ) (v : View) → HasHome slots t → HasHome slots b
      → HoldsNumbers v → n ≤ t.bytes → 1 ≤ n → z < 256 → v.at (base b + 0) ≡ z
      → IsJoinedTo op t n z v (block e (operate_code op (home b) (home t) (min n 1)) v)
  byte_joined op is t b n z v it ib h most some small there =
      let one : 1 ≡ min n 1 = omega (arith, some) in
      record {
        result = value_of_bytes w.at (base t) n (bitwise op x z) digits;
        numbers = λ j l. few j (omega (arith, one, l));
        keeps = subst (λ k. Keeps v w (base t) k) one
            (subst (λ k. Keeps v (block e (operate_code op (home b) (home t) k) v) (base t) 1) one to.keeps);
      }
    where
      w : View
      w = block e (operate_code op (home b) (home t) (min n 1)) v

      x : ℕ
      x = value v.at (base t) n

      clear : 2 ≤ base t
      clear = (y.layout.temps_at t it).clear

      to : BitwiseTo op v (base b) (base t) 1 (block e (operate_code op (home b) (home t) 1) v)
      to =
          bitwise_holds op (joined_bits op is) e (home b) (home t) 1 (base b) (base t) v
          (stand p e slots home base place y b 1 ib ib.some) (stand p e slots home base place y t 1 it it.some)
          (read_first p e slots home base place y t b 1 it ib ib.some)

      same : block e (operate_code op (home b) (home t) 1) v ≡ w
      same = let one : 1 ≡ min n 1 = omega (arith, some) in ap (λ k. block e (operate_code op (home b) (home t) k) v) one

      digit : (j : ℕ) → j < n → v.at (base t + j) ≡ byte_of x j
      digit j l = sym (value_digit v.at (base t) n j (held_row v (base t) n clear h) l)

      byte_is : byte_of z 0 ≡ z
      byte_is = let d : z / 1 ≡ z = omega arith in ap (λ u. u % 256) d ∙ kept_below z 256 small

      digits : (j : ℕ) → j < n → w.at (base t + j) ≡ byte_of (bitwise op x z) j
      digits zero l =
          ap (λ u. u.at (base t + 0)) (sym same) ∙ to.there 0 (omega arith) ∙ ap (λ u. bitwise op u (v.at (base b + 0))) (digit 0 l)
          ∙ ap (bitwise op (byte_of x 0)) (there ∙ sym byte_is) ∙ sym (byte_of_bitwise op x z 0)
      digits (suc j) l =
          ap (λ u. u.at (base t + suc j)) (sym same)
          ∙ to.keeps.same (base t + suc j) (omega (arith, clear)) (omega (arith, clear)) (λ q. omega arith)
          ∙ digit (suc j) l ∙ upper_byte op is x z j small

      few : (j : ℕ) → j < 1 → w.at (base t + j) < 256
      few j l =
          let first : j ≡ 0 = omega (arith, l) in
          subst (λ i. w.at (base t + i) < 256) (sym first) (rw (digits 0 some) (byte_below (bitwise op x z) 0))

  any_joined : (op : Operator) → is_joined op ≡ true → (t b : Temp) (n z : ℕ) (v : View) → HasHome slots t → HasHome slots b
      → HoldsNumbers v → n ≤ t.bytes → z < 256 → (1 ≤ n → v.at (base b + 0) ≡ z)
      → IsJoinedTo op t n z v (block e (operate_code op (home b) (home t) (min n 1)) v)
  any_joined op is t b zero z v it ib h most small there =
      record {
        result = let d : bitwise op 0 z % 1 ≡ 0 = omega arith in sym d;
        numbers = λ j l. absurd (omega (arith, l));
        keeps = record { same = λ k f g o. refl; inputs = refl; safe = refl; seen = refl };
      }
  any_joined op is t b (suc n) z v it ib h most small there =
      byte_joined op is t b (suc n) z v it ib h most (omega arith) small (there (omega arith))

  pub joined_matches : (op : Operator) → is_joined op ≡ true → (t a b : Temp) (need : Need) (m : Mach) (v : View) (c x z : ℕ)
      → HasHome slots t → HasHome slots a → HasHome slots b → a.bytes ≡ t.bytes → b.bytes ≡ t.bytes → t.at ≢ b.at → z < 256
      → m.temps a.at ≡ Some (record { bytes = a.bytes; content = bits x })
      → m.temps b.at ≡ Some (record { bytes = b.bytes; content = bits z })
      → N (at_least a.at (wanted need t) (at_least b.at (min (wanted need t) 1) (without t.at need))) m v
      → N need (machine (with_content t (bits (result_of op t.bytes x z)) m.temps) (worked c m.state))
      (block e (joined_code op (home a) (home b) (home t) (wanted need t)) v)
  joined_matches op is t a b need m v c x z it ia ib sa sb other small qa qb h =
      let n = wanted need t in
      let one = min n 1 in
      let need1 = at_least b.at one (without t.at need) in
      let need0 = at_least a.at n need1 in
      let most : n ≤ t.bytes = wanted_most need t in
      let less_a : n ≤ a.bytes = omega (arith, most, sa) in
      let less_b : one ≤ b.bytes = omega (arith, most, sb) in
      let some_a = (y.layout.temps_at a ia).clear in
      let some_b = (y.layout.temps_at b ib).clear in
      let here_a = least_here a.at n need1 in
      let here_b = least_here b.at one (without t.at need) in
      let also_b = least_other a.at n b.at need1 in
      let wide_a : n ≤ wanted need0 a = omega (arith, here_a, less_a) in
      let wide_b : one ≤ wanted need0 b = omega (arith, here_b, also_b, less_b) in
      let xa = at_width p e slots home base place y need0 m v a _ n h ia qa refl wide_a in
      let xb = at_width p e slots home base place y need0 m v b _ one h ib qb refl wide_b in
      let v1 = block e (move_code (home a) (home t) n) v in
      let k =
      move_holds e (home a) (home t) n (base a) (base t) v (stand p e slots home base place y a n ia less_a)
      (stand p e slots home base place y t n it most) (read_first p e slots home base place y t a n it ia less_a) h.bytes in
      let numbers1 = moved_numbers p e slots home base place y v v1 (base a) (base t) n some_a h.bytes k in
      let frame1 = wider_frame v v1 (base t) t.bytes n most k.frame in
      let left : value v1.at (base t) n ≡ x % 256 ^ n = row_value v1.at v.at (base a) (base t) n k.there ∙ xa.0 in
      let row : (j : ℕ) → j < b.bytes → v1.at (base b + j) ≡ v.at (base b + j) =
      λ j l. row_kept v v1 (base t) t.bytes (base b) b.bytes some_b (work_outside (base b) b.bytes (y.layout.temps_work b ib))
      (y.layout.temps_apart t b it ib other) frame1 j l in
      let there : 1 ≤ n → v1.at (base b + 0) ≡ z =
      λ l. row 0 ib.some ∙ first_byte v (base b) z small (subst (λ i. value v.at (base b) i ≡ z % 256 ^ i) (one_of n l) xb.0) in
      let v2 = block e (operate_code op (home b) (home t) one) v1 in
      let o : IsJoinedTo op t n z v1 v2 = any_joined op is t b n z v1 it ib numbers1 most small there in
      let result : value v2.at (base t) n ≡ result_of op t.bytes x z % 256 ^ n =
      o.result ∙ ap (λ i. bitwise op i z % 256 ^ n) left ∙ of_low op is n t.bytes x z most small it.some in
      let frame2 : Frame v1 v2 (base t) one = λ i d f g r. o.keeps.same i d f r in
      let few : one ≤ t.bytes = omega (arith, most) in
      let frame : Frame v v2 (base t) t.bytes =
      λ i d f g r. wider_frame v1 v2 (base t) t.bytes one few frame2 i d f g r ∙ frame1 i d f g r in
      let work : v2.at 30 < 256 = work_after v1 v2 (base t) one numbers1 o.keeps.same o.numbers in
      let numbers2 = numbers_kept v1 v2 (base t) one numbers1 frame2 o.numbers work in
      rw (block-append e (move_code (home a) (home t) n) (operate_code op (home b) (home t) one) v)
      (written p e slots home base place y t (bits (result_of op t.bytes x z)) need need0 m (worked c m.state) v v2 it h
      (λ i r. still i r) frame (result, result_below op t.bytes x z) numbers2 refl (o.keeps.seen ∙ k.quiet.seen ∙ h.seen)
      (kept_left y.inputs m.state v v2 (o.keeps.inputs ∙ k.quiet.inputs) h.left) (o.keeps.safe ∙ k.quiet.safe ∙ h.safe))
    where
      one_of : (n : ℕ) → 1 ≤ n → min n 1 ≡ 1
      one_of n l = omega (arith, l)

      -- the byte of a number of one byte
      first_byte : (v : View) (at z : ℕ) → z < 256 → value v.at at 1 ≡ z % 256 ^ 1 → v.at (at + 0) ≡ z
      first_byte v at z l q =
          let r : z % 256 ≡ z = kept_below z 256 l in
          let s : value v.at at 1 ≡ z = q ∙ r in
          let u : value v.at at 1 ≡ v.at (at + 0) = omega arith in
          sym u ∙ s

      of_low : (op : Operator) → is_joined op ≡ true → (n b x z : ℕ) → n ≤ b → z < 256 → 1 ≤ b
          → bitwise op (x % 256 ^ n) z % 256 ^ n ≡ result_of op b x z % 256 ^ n
      of_low op is zero b x z l small some =
          let d : bitwise op (x % 1) z % 1 ≡ 0 = omega arith in
          let f : result_of op b x z % 1 ≡ 0 = omega arith in
          d ∙ sym f
      of_low op is (suc n) b x z l small some =
          let p = byte_power (suc n) (omega arith) in
          let r = byte_power b some in
          let low : z ≡ z % 256 ^ suc n = sym (kept_below z (256 ^ suc n) (omega (arith, p, small))) in
          ap (λ i. bitwise op (x % 256 ^ suc n) i % 256 ^ suc n) low
          ∙ sym (joined_result op is (suc n) (x % 256 ^ suc n) (z % 256 ^ suc n))
          ∙ results op (suc n) b x z l (omega (arith, r, small))

      still : (i : ℕ) → i ≢ t.at → need i ≤ at_least a.at (wanted need t) (at_least b.at (min (wanted need t) 1) (without t.at need)) i
      still i r =
          let d = without_other t.at i need r in
          let f = least_other b.at (min (wanted need t) 1) i (without t.at need) in
          let g = least_other a.at (wanted need t) i (at_least b.at (min (wanted need t) 1) (without t.at need)) in
          omega arith
