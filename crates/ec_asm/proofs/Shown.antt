-- Writes, as the view shows them.
use Rattle.std.proofs.Common.{◌≡◌, ◌≢◌, ℕ, ◌+◌, ◌/◌, ◌%◌, ◌^◌, ◌<◌, ◌≤◌, true, List, length, refl, sym, ap, ◌∙◌, subst, arith, ⊎_elim}
use Rattle.std.specs.Prelude.{slice_index, slice_set}
use Rattle.std.proofs.lemmas.Bool.{cases_eq, ne_eqb}
use Rattle.std.proofs.lemmas.Bool.Decides.{nat_tests}
use Rattle.std.proofs.lemmas.List.{get_or-set_same, get_or-set_other}
use Rattle.std.proofs.lemmas.Grind.{get_or-set_at}
use Rattle.std.proofs.Math.ListN.{length-set}
use Rattle.ec_space.specs.Bytes.{AreBytes}
use Rattle.ec_space.specs.Memory.{Memory}
use Rattle.ec_space.specs.declared.Core.{Core}
use Rattle.ec_avr.specs.Flags.{with_flags}
pub use Rattle.ec_avr.proofs.Bits.{bit_below, bool_below, product_of_bits}
use Rattle.ec_asm.specs.View.{Flags, View, put, is_apart, bytes_of, flags_of}
use Rattle.ec_asm.specs.Change.{Env, flags_with}
use Rattle.ec_asm.specs.Shows.{Shows}

-- ---- one lemma for all flags that are put together

pub flags-with : (old c z n v h : ℕ) → old < 256 → c ≤ 1 → z ≤ 1 → n ≤ 1 → v ≤ 1 → h ≤ 1
    → flags_of (with_flags old c z n v h) ≡ flags_with (flags_of old) c z n v
flags-with old c z n v h b p q r s t =
    let w = with_flags old c z n v h in
    let e0 : w / 2 ^ 0 % 2 ≡ c = omega arith in
    let e1 : w / 2 ^ 1 % 2 ≡ z = omega arith in
    let e2 : w / 2 ^ 2 % 2 ≡ n = omega arith in
    let e3 : w / 2 ^ 3 % 2 ≡ v = omega arith in
    let e4 : w / 2 ^ 4 % 2 ≡ (n + v) % 2 = omega arith in
    let e6 : w / 2 ^ 6 % 2 ≡ old / 2 ^ 6 % 2 = omega arith in
    rw (e0, e1, e2, e3, e4, e6) refl

pub with_flags_below : (old c z n v h : ℕ) → old < 256 → c ≤ 1 → z ≤ 1 → n ≤ 1 → v ≤ 1 → h ≤ 1
    → with_flags old c z n v h < 256
with_flags_below old c z n v h b p q r s t = omega arith

-- ---- bytes

byte-set : (l : List ℕ) (a x : ℕ) → a < length l → a ≢ 95 → a ≢ 91 → (k : ℕ)
    → bytes_of (slice_set l a x) k ≡ put (bytes_of l) a x k
byte-set l a x h n m k =
    ⊎_elim
    (λ e. let q = get_or-set_same l a x 0 h in grind (arith, nat_tests))
    (λ o. let q = get_or-set_other l a k x 0 o in grind (arith, nat_tests))
    (cases_eq k a)

-- a byte that the view has apart
byte-set_apart : (l : List ℕ) (a x k : ℕ) → is_apart a ≡ true → bytes_of (slice_set l a x) k ≡ bytes_of l k
byte-set_apart l a x k n =
    ⊎_elim
    (λ (e : k ≡ a). let m : is_apart k ≡ true = subst (λ (j : ℕ). is_apart j ≡ true) (sym e) n in rw m refl)
    (λ o. let q = get_or-set_other l a k x 0 o in rw q refl)
    (cases_eq k a)

bytes-set : (l : List ℕ) (a x : ℕ) → a < length l → a ≢ 95 → a ≢ 91 → bytes_of (slice_set l a x) ≡ put (bytes_of l) a x
bytes-set l a x h n m = λ i k. byte-set l a x h n m k i

bytes-set_apart : (l : List ℕ) (a x : ℕ) → is_apart a ≡ true → bytes_of (slice_set l a x) ≡ bytes_of l
bytes-set_apart l a x n = λ i k. byte-set_apart l a x k n i

pub are_bytes-set : (l : List ℕ) (a x : ℕ) → AreBytes l → a < length l → x < 256 → AreBytes (slice_set l a x)
are_bytes-set l a x h m b k =
    ⊎_elim (λ e. rw (get_or-set_at l a k x 0 e m) b) (λ o. let q = get_or-set_other l a k x 0 o in rw q (h k)) (cases_eq k a)

-- ---- what the view shows of a write

abbrev pub with_data : Memory → ℕ → ℕ → Memory
with_data m a x = record m { «data» = slice_set m.data a x }

-- a byte that is read
pub reads : {core : Core} (e : Env) (size : ℕ) (m : Memory) (v : View) (a : ℕ) → Shows e size core m v → a ≢ 95 → a ≢ 91
    → slice_index m.data a ≡ v.at a
reads e size m v a h n o = let q = ne_eqb a 95 n in let r = ne_eqb a 91 o in sym (ap (λ f. f a) h.at ∙ rw (q, r) refl)

-- where Y is free
module _ (e : Env) (size : ℕ) (free : 65536 ≤ e.base) where
  pub shows_byte : {core : Core} (m : Memory) (v : View) (a x : ℕ) → Shows e size core m v → a < size → a ≢ 95 → a ≢ 91 → x < 256
      → Shows e size core (with_data m a x) (record v { at = put v.at a x })
  shows_byte m v a x h l n o b =
      let len = h.sized in
      record {
        same = h.same;
        flash = h.flash;
        sized = length-set m.data a x ∙ h.sized;
        bytes = are_bytes-set m.data a x h.bytes (omega arith) b;
        at = ap (λ f. put f a x) h.at ∙ sym (bytes-set m.data a x (omega arith) n o);
        flags = h.flags ∙ ap flags_of (sym (get_or-set_other m.data a 95 x 0 (λ q. n (sym q))));
        page = h.page ∙ sym (get_or-set_other m.data a 91 x 0 (λ q. o (sym q)));
        feeds = h.feeds;
        base = λ l. absurd (omega (arith, free, l));
      }

  pub shows_sreg : {core : Core} (m : Memory) (v : View) (w : ℕ) (f : Flags) → Shows e size core m v → 256 ≤ size → w < 256
      → flags_of w ≡ f → Shows e size core (with_data m 95 w) (record v { flags = f })
  shows_sreg m v w f h l b q =
      let len = h.sized in
      record {
        same = h.same;
        flash = h.flash;
        sized = length-set m.data 95 w ∙ h.sized;
        bytes = are_bytes-set m.data 95 w h.bytes (omega arith) b;
        at = h.at ∙ sym (bytes-set_apart m.data 95 w refl);
        flags = sym q ∙ ap flags_of (sym (get_or-set_same m.data 95 w 0 (omega arith)));
        page = h.page ∙ sym (get_or-set_other m.data 95 91 w 0 (omega arith));
        feeds = h.feeds;
        base = λ l. absurd (omega (arith, free, l));
      }

  pub shows_page : {core : Core} (m : Memory) (v : View) (x : ℕ) → Shows e size core m v → 256 ≤ size → x < 256
      → Shows e size core (with_data m 91 x) (record v { page = x })
  shows_page m v x h l b =
      let len = h.sized in
      record {
        same = h.same;
        flash = h.flash;
        sized = length-set m.data 91 x ∙ h.sized;
        bytes = are_bytes-set m.data 91 x h.bytes (omega arith) b;
        at = h.at ∙ sym (bytes-set_apart m.data 91 x refl);
        flags = h.flags ∙ ap flags_of (sym (get_or-set_other m.data 91 95 x 0 (omega arith)));
        page = sym (get_or-set_same m.data 91 x 0 (omega arith));
        feeds = h.feeds;
        base = λ l. absurd (omega (arith, free, l));
      }
