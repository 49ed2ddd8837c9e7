-- Each instruction that goes on does what the view shows.
use Rattle.std.proofs.Common.{◌≡◌, ℕ, ◌+◌, ◌*◌, ◌/◌, ◌%◌, ◌<◌, ◌≤◌, true, not, ◌&&◌, length, refl, sym, ap, ◌∙◌, subst, arith, None}
use Rattle.std.specs.Prelude.{slice_index, nat_lt, nat_le, ◌==◌, IsTrue, bit_and}
use Rattle.std.specs.Int.{bit_at, from_bool}
use Rattle.std.proofs.lemmas.Bool.{and_parts, ltb-true, le-ltb, eqb-true, false≢true}
use Rattle.std.proofs.lemmas.Nat.{or_of_8, xor_of_8, and_le_l, mul-le}
use Rattle.ec_space.specs.Memory.{Memory}
use Rattle.ec_isa.specs.declared.instructions.Instr.{Instr}
use Rattle.ec_isa.specs.declared.instructions.Instr.TheVariants.{Nop, Movw, Cpc, Sbc, Add, Cp, Sub, Adc, And, Eor, Or, Mov, Mul, Cpi, Sbci}
use Rattle.ec_isa.specs.declared.instructions.Instr.TheVariants.{Subi, Ori, Andi, Ldi, LddZ, LddY, StdZ, StdY, Lds, Sts, LdX, StX, LpmZ}
use Rattle.ec_isa.specs.declared.instructions.Instr.TheVariants.{LdXPlus, LdZPlus, StXPlus, StZPlus, LpmZPlus, Elpm, ElpmInc, Pop, Push, Com, Neg, Swap}
use Rattle.ec_isa.specs.declared.instructions.Instr.TheVariants.{Inc, Asr, Lsr, Ror, Dec, Bset, Bclr, Adiw, Sbiw, In as InInstr}
use Rattle.ec_isa.specs.declared.instructions.Instr.TheVariants.{Out as OutInstr, Bst}
use Rattle.ec_isa.specs.Formats.{is_register}
use Rattle.ec_isa.specs.Table.{in_table}
use Rattle.ec_avr.specs.Flags.{product_flags, with_bit}
use Rattle.ec_avr.specs.Machine.{State, answer_of, port_at}
use Rattle.ec_space.specs.declared.space.Bank.TheVariants.{Flash as FlashBank}
use Rattle.ec_avr.specs.declared.machine.Access.TheVariants.{Read}
use Rattle.ec_avr.specs.Effects.{effect, load, store, push, load_and_raise, store_and_raise, load_flash_and_raise, loaded, stored}
use Rattle.ec_avr.specs.Effects.{load_far, load_far_and_raise, if_rampz}
use Rattle.ec_avr.specs.Effects.{load_access, store_access}
use Rattle.ec_avr.specs.State.{pair as m_pair, far_pointer, with_register, with_pair, raised, raised_far}
use Rattle.ec_asm.specs.View.{View, flags_of, pair, put_pair}
use Rattle.ec_asm.specs.Change.{Env, y_of, change, sp, load_by, store_by, flash_by, move_to, move_far, far_z, flag_put}
use Rattle.ec_asm.specs.Shows.{Shows, Fits, Does, Follows}
use Rattle.ec_asm.proofs.Shown.{bool_below, bit_below, with_data, shows_sreg, reads}
use Rattle.ec_asm.proofs.Families.{silent_follows, set_shows, pair_shows, sum_shows, difference_shows, compare_shows, result_shows}
use Rattle.ec_asm.proofs.Families.{shift_shows, complement_shows, pair_sum_shows, pair_difference_shows, carry_shown, zero_shown}
use Rattle.ec_asm.proofs.Accesses.{load_does, store_does, flash_does, push_does, pop_does, moved_does, rampz_does}
use Rattle.ec_asm.proofs.Accesses.{far_moved_does}
use Rattle.ec_avr.specs.Laws.{SetsOneBit}
use Rattle.ec_avr.proofs.Bits.{with_bit_below}
use Rattle.ec_asm.proofs.Single.{flags-with_bit}

pub two : (d r : ℕ) → IsTrue (is_register d && is_register r) → (d < 32) × (r < 32)
two d r h = let p = and_parts (is_register d) (is_register r) h in (ltb-true d 32 p.0, ltb-true r 32 p.1)

-- a register beside a bit of it, and one that is none of a pointer's two
pub bit_place : (d b : ℕ) → IsTrue (is_register d && nat_lt b 8) → d < 32
bit_place d b f = ltb-true d 32 (and_parts (is_register d) (nat_lt b 8) f).0

beside : (pointer d : ℕ) → IsTrue (is_register d && not (d == pointer) && not (d == pointer + 1)) → d < 32
beside pointer d f =
    ltb-true d 32
    (and_parts (is_register d) (not (d == pointer)) (and_parts (is_register d && not (d == pointer)) (not (d == pointer + 1)) f).0).0

constant : (d k : ℕ) → IsTrue (nat_le 16 d && is_register d && nat_lt k 256) → (d < 32) × (k < 256)
constant d k h =
    let p = and_parts (nat_le 16 d && is_register d) (nat_lt k 256) h in
    let q = and_parts (nat_le 16 d) (is_register d) p.0 in
    (ltb-true d 32 q.1, ltb-true k 256 p.1)

even : (d : ℕ) → d < 32 → IsTrue (d % 2 == 0) → d < 31
even d l h = let q = eqb-true (d % 2) 0 h in omega arith

product_below : (x y : ℕ) → x < 256 → y < 256 → x * y < 65536
product_below x y p q = omega (arith, mul-le x y 255 255 (omega arith) (omega arith))

module _ (one_bit : SetsOneBit) (e : Env) (size : ℕ) (free : 65536 ≤ e.base) (fit : Fits e size) (s : State) (v : View) (h : Shows e size s.core s.mem v) where
  abbrev m : Memory
  m = s.mem

  byte : (a : ℕ) → slice_index m.data a < 256
  byte a = h.bytes a

  r : (d : ℕ) → d < 32 → v.at d ≡ slice_index m.data d
  r d l = sym (reads e size m v d h (omega arith) (omega arith))

  c : v.flags.c ≡ bit_at (slice_index m.data 95) 0
  c = carry_shown e size free fit.ports m v h

  z : v.flags.z ≡ bit_at (slice_index m.data 95) 1
  z = zero_shown e size free fit.ports m v h

  pair_read : (d : ℕ) → d < 31 → pair v.at d ≡ m_pair s d
  pair_read d l = let p = r d (omega arith) in let q = r (d + 1) (omega arith) in rw (p, q) refl

  y_read : y_of e v ≡ m_pair s 28
  y_read = rw (le-ltb e.base 65536 free) (pair_read 28 (omega arith))

  pair_below : (d : ℕ) → m_pair s d < 65536
  pair_below d = let a = byte d in let b = byte (d + 1) in omega arith

  loads : (d a b count : ℕ) → a ≡ b → d < 32 → (load_by (e.kind a) d a v).safe ≡ true
      → Does e size s v (load_by (e.kind a) d a v) count (port_at s b) (load d b (answer_of v.inputs (port_at s b)) count s)
  loads d a b count p l safe =
      subst (λ x. Does e size s v (load_by (e.kind a) d a v) count (port_at s x) (load d x (answer_of v.inputs (port_at s x)) count s)) p
      (load_does e size free fit s v h d a count (e.kind a) refl l safe)

  stores : (a b k count : ℕ) → a ≡ b → k < 32 → (store_by (e.kind a) a (v.at k) v).safe ≡ true
      → Does e size s v (store_by (e.kind a) a (v.at k) v) count None (store b (slice_index m.data k) count s)
  stores a b k count p l safe =
      let q = r k l in
      subst (λ x. Does e size s v (store_by (e.kind a) a (v.at k) v) count None (store b x count s)) q
      (subst (λ x. Does e size s v (store_by (e.kind a) a (v.at k) v) count None (store x (v.at k) count s)) p
      (store_does e size free fit s v h a (v.at k) count (e.kind a) refl (rw q (byte k)) safe))

  -- with a pointer that rises after the access
  loads_and_raises : (d pointer : ℕ) → pointer < 31 → d < 32
      → (load_by (e.kind (pair v.at pointer)) d (pair v.at pointer) v).safe ≡ true
      → Does e size s v (move_to pointer (raised (pair v.at pointer)) (load_by (e.kind (pair v.at pointer)) d (pair v.at pointer) v)) 1
      (port_at s (m_pair s pointer)) (load_and_raise d pointer (answer_of v.inputs (port_at s (m_pair s pointer))) s)
  loads_and_raises d pointer lp l safe =
      let a = m_pair s pointer in
      let given = answer_of v.inputs (port_at s a) in
      let p = pair_read pointer lp in
      let w = load_by (e.kind (pair v.at pointer)) d (pair v.at pointer) v in
      subst (λ x. Does e size s v (move_to pointer (raised x) w) 1 (port_at s a) (load_and_raise d pointer given s)) (sym p)
      (moved_does e size free fit s v h (nat_lt a (length m.data)) (load_access s.core a (loaded s a given)) (with_register s d (loaded s a given)) w
      (port_at s a) pointer (raised a) lp (omega arith) (loads d (pair v.at pointer) a 1 p l safe))

  stores_and_raises : (pointer k : ℕ) → pointer < 31 → k < 32
      → (store_by (e.kind (pair v.at pointer)) (pair v.at pointer) (v.at k) v).safe ≡ true
      → Does e size s v (move_to pointer (raised (pair v.at pointer))
      (store_by (e.kind (pair v.at pointer)) (pair v.at pointer) (v.at k) v)) 1 None (store_and_raise pointer (slice_index m.data k) s)
  stores_and_raises pointer k lp l safe =
      let a = m_pair s pointer in
      let x = slice_index m.data k in
      let p = pair_read pointer lp in
      let w = store_by (e.kind (pair v.at pointer)) (pair v.at pointer) (v.at k) v in
      subst (λ n. Does e size s v (move_to pointer (raised n) w) 1 None (store_and_raise pointer x s)) (sym p)
      (moved_does e size free fit s v h (nat_lt a (length m.data)) (store_access s.core a x) (stored s a x) w None pointer (raised a) lp (omega arith)
      (stores (pair v.at pointer) a k 1 p l safe))

  flash_and_raises : (d : ℕ) → d < 32
      → (flash_by (e.table (pair v.at 30)) d (pair v.at 30) (slice_index e.flash (pair v.at 30)) v).safe ≡ true
      → Does e size s v (move_to 30 (raised (pair v.at 30))
      (flash_by (e.table (pair v.at 30)) d (pair v.at 30) (slice_index e.flash (pair v.at 30)) v)) 1 None (load_flash_and_raise d s)
  flash_and_raises d l safe =
      let a = m_pair s 30 in
      let p = pair_read 30 (omega arith) in
      let w = flash_by (e.table (pair v.at 30)) d (pair v.at 30) (slice_index e.flash (pair v.at 30)) v in
      subst (λ x. Does e size s v (move_to 30 (raised x) w) 1 None (load_flash_and_raise d s)) (sym p)
      (moved_does e size free fit s v h (nat_lt a (length m.flash)) (Read FlashBank a (slice_index m.flash a))
      (with_register s d (slice_index m.flash a)) w None 30 (raised a) (omega arith) (omega arith)
      (flash_does e size free fit s v h d (pair v.at 30) a (e.table (pair v.at 30)) refl l p safe))

  far_read : far_z v ≡ far_pointer s
  far_read = let p = h.page in let q = pair_read 30 (omega arith) in rw (p, q) refl

  far_loads : (d : ℕ) → d < 32 → (change e (Elpm d) v).safe ≡ true → Does e size s v (change e (Elpm d) v) 1 None (if_rampz (load_far d) s)
  far_loads d l safe =
      rampz_does e size free fit s v h _ (load_far d) safe
      (λ ok. flash_does e size free fit s v h d (far_z v) (far_pointer s) (e.table (far_z v)) refl l far_read ok)

  far_loads_and_raises : (d : ℕ) → d < 32 → (change e (ElpmInc d) v).safe ≡ true
      → Does e size s v (change e (ElpmInc d) v) 1 None (if_rampz (load_far_and_raise d) s)
  far_loads_and_raises d l safe =
      let a = far_pointer s in
      let w = flash_by (e.table (far_z v)) d (far_z v) (slice_index e.flash (far_z v)) v in
      rampz_does e size free fit s v h (move_far (raised_far (far_z v)) w) (load_far_and_raise d) safe
      (λ ok. subst (λ x. Does e size s v (move_far (raised_far x) w) 1 None (load_far_and_raise d s)) (sym far_read)
      (far_moved_does e size free fit s v h (nat_lt a (length m.flash)) (Read FlashBank a (slice_index m.flash a))
      (with_register s d (slice_index m.flash a)) w None (raised_far a) (omega arith)
      (flash_does e size free fit s v h d (far_z v) a (e.table (far_z v)) refl l far_read ok)))

  place : (k q : ℕ) → IsTrue (is_register k && nat_lt q 64) → k < 32
  place k q f = ltb-true k 32 (and_parts (is_register k) (nat_lt q 64) f).0

  place_at : (k a : ℕ) → IsTrue (is_register k && nat_lt a 65536) → k < 32
  place_at k a f = ltb-true k 32 (and_parts (is_register k) (nat_lt a 65536) f).0

  product_shows : (x y : ℕ) → x < 256 → y < 256
      → Shows e size s.core
      (with_data (with_data (with_data m 0 (x * y % 256)) 1 (x * y / 256)) 95 (product_flags (slice_index m.data 95) (x * y)))
      (record v { at = put_pair v.at 0 (x * y); flags = record v.flags { c = x * y / 32768; z = from_bool (x * y == 0) } })
  product_shows x y p q =
      let n = product_below x y p q in
      let w = slice_index m.data 95 in
      let b = byte 95 in
      let one = with_bit_below w 0 (x * y / 32768) b (omega arith) (omega arith) in
      let f : flags_of (product_flags w (x * y)) ≡ record v.flags { c = x * y / 32768; z = from_bool (x * y == 0) } =
      flags-with_bit one_bit (with_bit w 0 (x * y / 32768)) 1 (from_bool (x * y == 0)) (omega arith) (bool_below _)
      ∙ ap (λ g. flag_put g 1 (from_bool (x * y == 0)))
      (flags-with_bit one_bit w 0 (x * y / 32768) (omega arith) (omega arith) ∙ ap (λ g. flag_put g 0 (x * y / 32768)) (sym h.flags)) in
      shows_sreg e size free _ (record v { at = put_pair v.at 0 (x * y) }) (product_flags w (x * y)) _
      (pair_shows e size free fit.ports m v h 0 (x * y) (omega arith) n) fit.ports
      (with_bit_below (with_bit w 0 (x * y / 32768)) 1 (from_bool (x * y == 0)) one (omega arith) (bool_below _)) f

  flag_shows : (b x : ℕ) → b < 8 → x ≤ 1
      → Shows e size s.core (with_data m 95 (with_bit (slice_index m.data 95) b x)) (record v { flags = flag_put v.flags b x })
  flag_shows b x l k =
      let w = slice_index m.data 95 in
      shows_sreg e size free m v (with_bit w b x) _ h fit.ports (with_bit_below w b x (byte 95) l k)
      (flags-with_bit one_bit w b x l k ∙ ap (λ f. flag_put f b x) (sym h.flags))

  even_pair : (d k : ℕ) → IsTrue (is_register d && is_register k && (d % 2 == 0) && (k % 2 == 0)) → (d < 31) × (k < 31)
  even_pair d k f =
      let a = and_parts (is_register d && is_register k && (d % 2 == 0)) (k % 2 == 0) f in
      let b = and_parts (is_register d && is_register k) (d % 2 == 0) a.0 in
      let l = two d k b.0 in
      (even d l.0 b.1, even k l.1 a.1)

  high_pair : (d k : ℕ) → IsTrue (nat_le 24 d && nat_lt d 31 && (d % 2 == 0) && nat_lt k 64) → (d < 31) × (k < 64)
  high_pair d k f =
      let a = and_parts (nat_le 24 d && nat_lt d 31 && (d % 2 == 0)) (nat_lt k 64) f in
      let b = and_parts (nat_le 24 d && nat_lt d 31) (d % 2 == 0) a.0 in
      let c = and_parts (nat_le 24 d) (nat_lt d 31) b.0 in
      (ltb-true d 31 c.1, ltb-true k 64 a.1)

  -- each instruction that goes on does what the view shows, if that is safe
  pub follows : (i : Instr) → IsTrue (in_table i) → (change e i v).safe ≡ true → Follows e size i s v
  unfolding effect
  follows Nop f safe = silent_follows e size Nop s s v refl refl refl refl h refl refl
  follows (Mov d k) f safe =
      let l = two d k f in
      silent_follows e size (Mov d k) s _ v refl refl refl refl (rw (r k l.1) (set_shows e size free fit.ports m v h d _ l.0 (byte k))) refl refl
  follows (Ldi d k) f safe =
      let l = constant d k f in
      silent_follows e size (Ldi d k) s _ v refl refl refl refl (set_shows e size free fit.ports m v h d k l.0 l.1) refl refl
  follows (Add d k) f safe =
      let l = two d k f in
      silent_follows e size (Add d k) s _ v refl refl refl refl
      (rw (r d l.0, r k l.1) (sum_shows e size free fit.ports m v h d _ _ 0 l.0 (byte d) (byte k) (omega arith))) refl refl
  follows (Adc d k) f safe =
      let l = two d k f in
      silent_follows e size (Adc d k) s _ v refl refl refl refl
      (rw (r d l.0, r k l.1, c) (sum_shows e size free fit.ports m v h d _ _ _ l.0 (byte d) (byte k) (bit_below _ 0))) refl refl
  follows (Sub d k) f safe =
      let l = two d k f in
      silent_follows e size (Sub d k) s _ v refl refl refl refl (rw (r d l.0, r k l.1)
      (difference_shows e size free fit.ports m v h d _ _ 0 1 l.0 (byte d) (byte k) (omega arith) (omega arith))) refl refl
  follows (Sbc d k) f safe =
      let l = two d k f in
      silent_follows e size (Sbc d k) s _ v refl refl refl refl (rw (r d l.0, r k l.1, c, z)
      (difference_shows e size free fit.ports m v h d _ _ _ _ l.0 (byte d) (byte k) (bit_below _ 0) (bit_below _ 1))) refl refl
  follows (Subi d k) f safe =
      let l = constant d k f in
      silent_follows e size (Subi d k) s _ v refl refl refl refl
      (rw (r d l.0) (difference_shows e size free fit.ports m v h d _ k 0 1 l.0 (byte d) l.1 (omega arith) (omega arith))) refl refl
  follows (Sbci d k) f safe =
      let l = constant d k f in
      silent_follows e size (Sbci d k) s _ v refl refl refl refl
      (rw (r d l.0, c, z) (difference_shows e size free fit.ports m v h d _ k _ _ l.0 (byte d) l.1 (bit_below _ 0) (bit_below _ 1))) refl refl
  follows (Neg d) f safe =
      let l = ltb-true d 32 f in
      silent_follows e size (Neg d) s _ v refl refl refl refl
      (rw (r d l) (difference_shows e size free fit.ports m v h d 0 _ 0 1 l (omega arith) (byte d) (omega arith) (omega arith))) refl refl
  follows (Cp d k) f safe =
      let l = two d k f in
      silent_follows e size (Cp d k) s _ v refl refl refl refl
      (rw (r d l.0, r k l.1) (compare_shows e size free fit.ports m v h _ _ 0 1 (byte d) (byte k) (omega arith) (omega arith))) refl refl
  follows (Cpc d k) f safe =
      let l = two d k f in
      silent_follows e size (Cpc d k) s _ v refl refl refl refl (rw (r d l.0, r k l.1, c, z)
      (compare_shows e size free fit.ports m v h _ _ _ _ (byte d) (byte k) (bit_below _ 0) (bit_below _ 1))) refl refl
  follows (Cpi d k) f safe =
      let l = constant d k f in
      silent_follows e size (Cpi d k) s _ v refl refl refl refl
      (rw (r d l.0) (compare_shows e size free fit.ports m v h _ k 0 1 (byte d) l.1 (omega arith) (omega arith))) refl refl
  follows (And d k) f safe =
      let l = two d k f in
      let b = byte d in
      let w = and_le_l (slice_index m.data d) (slice_index m.data k) in
      silent_follows e size (And d k) s _ v refl refl refl refl (rw (r d l.0, r k l.1) (result_shows e size free fit.ports m v h d
      (bit_and (slice_index m.data d) (slice_index m.data k)) 0 l.0 (omega arith) (omega arith))) refl refl
  follows (Andi d k) f safe =
      let l = constant d k f in
      let b = byte d in
      let w = and_le_l (slice_index m.data d) k in
      silent_follows e size (Andi d k) s _ v refl refl refl refl
      (rw (r d l.0) (result_shows e size free fit.ports m v h d (bit_and (slice_index m.data d) k) 0 l.0 (omega arith) (omega arith))) refl refl
  follows (Or d k) f safe =
      let l = two d k f in
      silent_follows e size (Or d k) s _ v refl refl refl refl
      (rw (r d l.0, r k l.1) (result_shows e size free fit.ports m v h d _ 0 l.0 (or_of_8 _ _ (byte d) (byte k)) (omega arith))) refl refl
  follows (Ori d k) f safe =
      let l = constant d k f in
      silent_follows e size (Ori d k) s _ v refl refl refl refl
      (rw (r d l.0) (result_shows e size free fit.ports m v h d _ 0 l.0 (or_of_8 _ _ (byte d) l.1) (omega arith))) refl refl
  follows (Eor d k) f safe =
      let l = two d k f in
      silent_follows e size (Eor d k) s _ v refl refl refl refl
      (rw (r d l.0, r k l.1) (result_shows e size free fit.ports m v h d _ 0 l.0 (xor_of_8 _ _ (byte d) (byte k)) (omega arith))) refl refl
  follows (Com d) f safe =
      let l = ltb-true d 32 f in
      silent_follows e size (Com d) s _ v refl refl refl refl
      (rw (r d l) (complement_shows e size free fit.ports m v h d _ l (byte d))) refl refl
  follows (Inc d) f safe =
      let l = ltb-true d 32 f in
      silent_follows e size (Inc d) s _ v refl refl refl refl
      (rw (r d l) (result_shows e size free fit.ports m v h d _ _ l (omega arith) (bool_below _))) refl refl
  follows (Dec d) f safe =
      let l = ltb-true d 32 f in
      silent_follows e size (Dec d) s _ v refl refl refl refl
      (rw (r d l) (result_shows e size free fit.ports m v h d _ _ l (omega arith) (bool_below _))) refl refl
  follows (Asr d) f safe =
      let l = ltb-true d 32 f in
      let b = byte d in
      silent_follows e size (Asr d) s _ v refl refl refl refl
      (rw (r d l) (shift_shows e size free fit.ports m v h d (slice_index m.data d) (slice_index m.data d / 128) l b (omega arith))) refl refl
  follows (Lsr d) f safe =
      let l = ltb-true d 32 f in
      silent_follows e size (Lsr d) s _ v refl refl refl refl
      (rw (r d l) (shift_shows e size free fit.ports m v h d _ 0 l (byte d) (omega arith))) refl refl
  follows (Ror d) f safe =
      let l = ltb-true d 32 f in
      silent_follows e size (Ror d) s _ v refl refl refl refl
      (rw (r d l, c) (shift_shows e size free fit.ports m v h d _ _ l (byte d) (bit_below _ 0))) refl refl
  follows (Swap d) f safe =
      let l = ltb-true d 32 f in
      let b = byte d in
      silent_follows e size (Swap d) s _ v refl refl refl refl (rw (r d l) (set_shows e size free fit.ports m v h d _ l (omega arith))) refl refl
  follows (Movw d k) f safe =
      let l = even_pair d k f in
      silent_follows e size (Movw d k) s (with_pair s d (m_pair s k)) v refl refl refl refl
      (rw (pair_read k l.1) (pair_shows e size free fit.ports m v h d (m_pair s k) l.0 (pair_below k))) refl refl
  follows (Adiw d k) f safe =
      let l = high_pair d k f in
      silent_follows e size (Adiw d k) s _ v refl refl refl refl
      (rw (pair_read d l.0) (pair_sum_shows e size free fit.ports m v h d (m_pair s d) k l.0 (pair_below d) (omega (arith, l.1)))) refl refl
  follows (Sbiw d k) f safe =
      let l = high_pair d k f in
      silent_follows e size (Sbiw d k) s _ v refl refl refl refl (rw (pair_read d l.0)
      (pair_difference_shows e size free fit.ports m v h d (m_pair s d) k l.0 (pair_below d) (omega (arith, l.1)))) refl refl
  follows (Mul d k) f safe =
      let l = two d k f in
      silent_follows e size (Mul d k) s _ v refl refl refl refl (rw (r d l.0, r k l.1) (product_shows _ _ (byte d) (byte k))) refl refl
  follows (Bset b) f safe =
      silent_follows e size (Bset b) s _ v refl refl refl refl (flag_shows b 1 (ltb-true b 8 f) (omega arith)) refl refl
  follows (Bclr b) f safe =
      silent_follows e size (Bclr b) s _ v refl refl refl refl (flag_shows b 0 (ltb-true b 8 f) (omega arith)) refl refl
  follows (Bst d b) f safe =
      let l = ltb-true d 32 (and_parts (is_register d) (nat_lt b 8) f).0 in
      silent_follows e size (Bst d b) s _ v refl refl refl refl (rw (r d l) (flag_shows 6 _ (omega arith) (bit_below _ b))) refl refl
  follows (Lds d k) f safe = loads d k k 2 refl (place_at d k f) safe
  follows (Sts k d) f safe = stores k k d 2 refl (place_at d k f) safe
  follows (InInstr d a) f safe = loads d (a + 0x20) (a + 0x20) 1 refl (place d a f) safe
  follows (OutInstr a d) f safe = stores (a + 0x20) (a + 0x20) d 1 refl (place d a f) safe
  follows (LddZ d q) f safe = loads d _ _ 1 (ap (λ n. (n + q) % 65536) (pair_read 30 (omega arith))) (place d q f) safe
  follows (LddY d q) f safe = loads d _ _ 1 (ap (λ n. (n + q) % 65536) y_read) (place d q f) safe
  follows (LdX d) f safe = loads d _ _ 1 (pair_read 26 (omega arith)) (ltb-true d 32 f) safe
  follows (StdZ q d) f safe = stores _ _ d 1 (ap (λ n. (n + q) % 65536) (pair_read 30 (omega arith))) (place d q f) safe
  follows (StdY q d) f safe = stores _ _ d 1 (ap (λ n. (n + q) % 65536) y_read) (place d q f) safe
  follows (StX d) f safe = stores _ _ d 1 (pair_read 26 (omega arith)) (ltb-true d 32 f) safe
  follows (LpmZ d) f safe =
      flash_does e size free fit s v h d (pair v.at 30) (m_pair s 30) (e.table (pair v.at 30)) refl (ltb-true d 32 f) (pair_read 30 (omega arith)) safe
  follows (LdXPlus d) f safe = loads_and_raises d 26 (omega arith) (beside 26 d f) safe
  follows (LdZPlus d) f safe = loads_and_raises d 30 (omega arith) (beside 30 d f) safe
  follows (StXPlus d) f safe = stores_and_raises 26 d (omega arith) (beside 26 d f) safe
  follows (StZPlus d) f safe = stores_and_raises 30 d (omega arith) (beside 30 d f) safe
  follows (LpmZPlus d) f safe = flash_and_raises d (beside 30 d f) safe
  follows (Elpm d) f safe = far_loads d (ltb-true d 32 f) safe
  follows (ElpmInc d) f safe = far_loads_and_raises d (beside 30 d f) safe
  follows (Push d) f safe =
      let q = r d (ltb-true d 32 f) in
      subst (λ x. Does e size s v (change e (Push d) v) 1 None (push x s)) q
      (push_does e size free fit s v h (v.at d) (e.kind (sp v)) refl (rw q (byte d)) safe)
  follows (Pop d) f safe = pop_does e size free fit s v h d (e.kind (raised (sp v))) refl (ltb-true d 32 f) safe
  follows _ f safe = absurd (false≢true safe)
