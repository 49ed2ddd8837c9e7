-- The families of instructions, as the view shows them.
use Rattle.std.proofs.Common.{◌≡◌, ℕ, ◌+◌, ◌-◌, ◌/◌, ◌%◌, ◌<◌, ◌≤◌, refl, sym, ap, ◌∙◌, subst, arith, None, append-nil}
use Rattle.std.specs.Prelude.{slice_index, nat_lt, ◌==◌, IsTrue}
use Rattle.std.specs.Int.{bit_at, from_bool}
use Rattle.std.proofs.lemmas.Bool.{ltb-true}
use Rattle.ec_space.specs.Memory.{Memory}
use Rattle.ec_space.specs.declared.Core.{Core}
use Rattle.ec_isa.specs.declared.instructions.Instr.{Instr}
use Rattle.ec_isa.specs.Formats.{is_register}
use Rattle.ec_avr.specs.declared.machine.Access.TheVariants.{Silent}
use Rattle.ec_avr.specs.Flags.{with_flags, byte_sum, byte_difference, sum_overflow, difference_overflow, pair_sum, pair_difference, shifted}
use Rattle.ec_avr.specs.Flags.{sum_flags as m_sum_flags, difference_flags as m_difference_flags, with_flags_but_carries}
use Rattle.ec_avr.specs.Flags.{shift_flags as m_shift_flags, complement_flags as m_complement_flags, pair_sum_flags as m_pair_sum_flags}
use Rattle.ec_avr.specs.Flags.{pair_difference_flags as m_pair_difference_flags}
use Rattle.ec_avr.specs.Effects.{silent}
use Rattle.ec_avr.specs.Machine.{State}
use Rattle.ec_asm.specs.View.{View, flags_of, put_pair}
use Rattle.ec_asm.specs.Change.{Env, change, words, flags_with, sum_flags, difference_flags, result_flags, shift_flags, set, set_both}
use Rattle.ec_asm.specs.Shows.{Shows, Follows, after, port_of}
use Rattle.ec_asm.proofs.Shown.{bool_below, product_of_bits, bit_below, flags-with, with_flags_below, with_data, shows_byte, shows_sreg}

pub register_below : (d : ℕ) → IsTrue (is_register d) → d < 32
register_below d h = ltb-true d 32 h

-- an instruction that accesses nothing and loads nothing
pub silent_follows : (e : Env) (size : ℕ) (i : Instr) (s t : State) (v : View) → after i s v ≡ silent t → t.pc ≡ s.pc
    → words i ≡ 1 → port_of i s ≡ None → Shows e size t.core t.mem (change e i v) → (change e i v).seen ≡ v.seen
    → (change e i v).inputs ≡ v.inputs → Follows e size i s v
silent_follows e size i s t v a p w o h q r = record {
  access = Silent;
  ran = ap (λ x. x.stepped) a;
  pc = ap (λ x. x.state.pc) a ∙ rw (w, p) refl;
  shows = subst (λ x. Shows e size x.state.core x.state.mem (change e i v)) (sym a) h;
  seen = q ∙ sym (append-nil v.seen);
  inputs = r ∙ rw o refl;
}

module _ (e : Env) (size : ℕ) (free : 65536 ≤ e.base) (big : 256 ≤ size) {core : Core} (m : Memory) (v : View)
    (h : Shows e size core m v) where
  abbrev sreg : ℕ
  sreg = slice_index m.data 95

  sreg_byte : sreg < 256
  sreg_byte = h.bytes 95

  pub set_shows : (d x : ℕ) → d < 32 → x < 256 → Shows e size core (with_data m d x) (set d x v)
  set_shows d x l b = shows_byte e size free m v d x h (omega arith) (omega arith) (omega arith) b

  -- flags that are put together, alone and with a register
  flags_shown : (c z n o k : ℕ) → c ≤ 1 → z ≤ 1 → n ≤ 1 → o ≤ 1 → k ≤ 1
      → flags_of (with_flags sreg c z n o k) ≡ flags_with v.flags c z n o
  flags_shown c z n o k p q r s t =
      flags-with sreg c z n o k sreg_byte p q r s t ∙ ap (λ f. flags_with f c z n o) (sym h.flags)

  pub flags_alone : (c z n o k : ℕ) → c ≤ 1 → z ≤ 1 → n ≤ 1 → o ≤ 1 → k ≤ 1
      → Shows e size core (with_data m 95 (with_flags sreg c z n o k)) (record v { flags = flags_with v.flags c z n o })
  flags_alone c z n o k p q r s t =
      let b = sreg_byte in
      shows_sreg e size free m v _ _ h big (with_flags_below sreg c z n o k b p q r s t) (flags_shown c z n o k p q r s t)

  pub flags_and_set : (d x c z n o k : ℕ) → d < 32 → x < 256 → c ≤ 1 → z ≤ 1 → n ≤ 1 → o ≤ 1 → k ≤ 1
      → Shows e size core (with_data (with_data m d x) 95 (with_flags sreg c z n o k)) (set_both d x (flags_with v.flags c z n o) v)
  flags_and_set d x c z n o k l u p q r s t =
      let b = sreg_byte in
      shows_sreg e size free (with_data m d x) (set d x v) _ _ (set_shows d x l u) big (with_flags_below sreg c z n o k b p q r s t)
      (flags_shown c z n o k p q r s t)

  pub pair_shows : (d x : ℕ) → d < 31 → x < 65536
      → Shows e size core (with_data (with_data m d (x % 256)) (d + 1) (x / 256)) (record v { at = put_pair v.at d x })
  pair_shows d x l b =
      shows_byte e size free _ _ (d + 1) (x / 256) (set_shows d (x % 256) (omega arith) (omega arith)) (omega arith) (omega arith)
      (omega arith) (omega arith)

  pub flags_and_pair : (d x c z n o k : ℕ) → d < 31 → x < 65536 → c ≤ 1 → z ≤ 1 → n ≤ 1 → o ≤ 1 → k ≤ 1
      → Shows e size core (with_data (with_data (with_data m d (x % 256)) (d + 1) (x / 256)) 95 (with_flags sreg c z n o k))
      (record v { at = put_pair v.at d x; flags = flags_with v.flags c z n o })
  flags_and_pair d x c z n o k l u p q r s t =
      let b = sreg_byte in
      shows_sreg e size free _ _ _ _ (pair_shows d x l u) big (with_flags_below sreg c z n o k b p q r s t) (flags_shown c z n o k p q r s t)

  pub carry_shown : v.flags.c ≡ bit_at sreg 0
  carry_shown = ap (λ f. f.c) h.flags

  pub zero_shown : v.flags.z ≡ bit_at sreg 1
  zero_shown = ap (λ f. f.z) h.flags

  -- ---- the families

  pub sum_shows : (d x y c : ℕ) → d < 32 → x < 256 → y < 256 → c ≤ 1
      → Shows e size core (with_data (with_data m d (byte_sum x y c)) 95 (m_sum_flags sreg x y c))
      (set_both d (byte_sum x y c) (sum_flags v.flags x y c) v)
  sum_shows d x y c l p q r =
      flags_and_set d (byte_sum x y c) _ _ _ _ _ l (omega arith) (omega arith) (bool_below _) (omega arith) (bool_below _) (omega arith)

  pub difference_shows : (d x y b z : ℕ) → d < 32 → x < 256 → y < 256 → b ≤ 1 → z ≤ 1
      → Shows e size core (with_data (with_data m d (byte_difference x y b)) 95 (m_difference_flags sreg x y b z))
      (set_both d (byte_difference x y b) (difference_flags v.flags x y b z) v)
  difference_shows d x y b z l p q r s =
      flags_and_set d (byte_difference x y b) _ _ _ _ _ l (omega arith) (bool_below _) (product_of_bits _ _ (bool_below _) s) (omega arith)
      (bool_below _) (bool_below _)

  pub compare_shows : (x y b z : ℕ) → x < 256 → y < 256 → b ≤ 1 → z ≤ 1
      → Shows e size core (with_data m 95 (m_difference_flags sreg x y b z)) (record v { flags = difference_flags v.flags x y b z })
  compare_shows x y b z p q r s =
      flags_alone _ _ _ _ _ (bool_below _) (product_of_bits _ _ (bool_below _) s) (omega arith) (bool_below _) (bool_below _)

  -- a result r with V, where C stays
  pub result_shows : (d r o : ℕ) → d < 32 → r < 256 → o ≤ 1
      → Shows e size core (with_data (with_data m d r) 95 (with_flags_but_carries sreg (from_bool (r == 0)) (r / 128) o))
      (set_both d r (result_flags v.flags r o) v)
  result_shows d r o l p q =
      rw carry_shown (flags_and_set d r (bit_at sreg 0) _ _ _ _ l p (bit_below sreg 0) (bool_below _) (omega arith) q (bit_below sreg 5))

  pub shift_shows : (d x top : ℕ) → d < 32 → x < 256 → top ≤ 1
      → Shows e size core (with_data (with_data m d (shifted x top)) 95 (m_shift_flags sreg x top))
      (set_both d (shifted x top) (shift_flags v.flags x top) v)
  shift_shows d x top l p q =
      flags_and_set d (shifted x top) _ _ _ _ _ l (omega arith) (omega arith) (bool_below _) (omega arith) (omega arith) (bit_below sreg 5)

  pub complement_shows : (d x : ℕ) → d < 32 → x < 256
      → Shows e size core (with_data (with_data m d (255 - x)) 95 (m_complement_flags sreg (255 - x)))
      (set_both d (255 - x) (flags_with v.flags 1 (from_bool (255 - x == 0)) ((255 - x) / 128) 0) v)
  complement_shows d x l p =
      flags_and_set d (255 - x) _ _ _ _ _ l (omega arith) (omega arith) (bool_below _) (omega arith) (omega arith) (bit_below sreg 5)

  pub pair_sum_shows : (d x k : ℕ) → d < 31 → x < 65536 → k < 65536
      → Shows e size core
      (with_data (with_data (with_data m d (pair_sum x k % 256)) (d + 1) (pair_sum x k / 256)) 95 (m_pair_sum_flags sreg x k)) (record v {
        at = put_pair v.at d (pair_sum x k);
        flags = flags_with v.flags ((x + k) / 65536) (from_bool (pair_sum x k == 0)) (pair_sum x k / 32768)
            (sum_overflow 32768 x k (pair_sum x k));
      })
  pair_sum_shows d x k l p q =
      flags_and_pair d (pair_sum x k) _ _ _ _ _ l (omega arith) (omega arith) (bool_below _) (omega arith) (bool_below _) (bit_below sreg 5)

  pub pair_difference_shows : (d x k : ℕ) → d < 31 → x < 65536 → k < 65536
      → Shows e size core (with_data (with_data (with_data m d (pair_difference x k % 256)) (d + 1) (pair_difference x k / 256)) 95
      (m_pair_difference_flags sreg x k)) (record v {
        at = put_pair v.at d (pair_difference x k);
        flags = flags_with v.flags (from_bool (nat_lt x k)) (from_bool (pair_difference x k == 0)) (pair_difference x k / 32768)
            (difference_overflow 32768 x k (pair_difference x k));
      })
  pair_difference_shows d x k l p q =
      flags_and_pair d (pair_difference x k) _ _ _ _ _ l (omega arith) (bool_below _) (bool_below _) (omega arith) (bool_below _)
      (bit_below sreg 5)
