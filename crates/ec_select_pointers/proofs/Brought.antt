-- One byte of a load or a store through Z, and several.
use Rattle.std.proofs.Common.{◌≡◌, ◌≢◌, ℕ, suc, ◌+◌, ◌/◌, ◌%◌, ◌<◌, ◌≤◌, ⊎_elim, [], ◌∷◌}
use Rattle.std.proofs.Common.{◌++◌, refl, sym, ap, ◌∙◌, arith, append_assoc}
use Rattle.std.specs.Prelude.{slice_index}
use Rattle.std.proofs.lemmas.Bool.{cases_eq}
use Rattle.ec_space.specs.declared.Core.TheVariants.{Large}
use Rattle.ec_space.specs.declared.space.Bank.TheVariants.{Flash as FlashBank, Data as DataBank}
use Rattle.ec_avr.specs.declared.machine.Access.{Access}
use Rattle.ec_avr.specs.declared.machine.Access.TheVariants.{Read, Write}
use Rattle.ec_avr.specs.State.{raised, raised_far}
use Rattle.ec_asm.specs.declared.pieces.Location.{Location}
use Rattle.ec_asm.specs.declared.pieces.Location.TheVariants.{InRegisters, InMemory}
use Rattle.ec_asm.specs.View.{View, put, pair, put_pair}
use Rattle.ec_asm.specs.Change.{Env, Own, Object, set, see, move_to, move_far, far_z}
use Rattle.ec_asm.specs.Items.{block}
use Rattle.ec_asm.specs.Pieces.{address, KindIs, Outside}
use Rattle.ec_asm.specs.PieceLaws.{HoldsNumbers}
use Rattle.ec_asm.proofs.Bytes.{put_here, put_other}
use Rattle.ec_select_pointers.specs.Accesses.{data_byte, flash_byte, store_byte}
use Rattle.ec_select_pointers.specs.AccessLaws.{each, Brings}
use Rattle.ec_select_pointers.specs.Far.{far_byte}
use Rattle.ec_select_pointers.specs.Fetched.{member_byte, store_member_byte}
use Rattle.ec_select_pointers.proofs.Blocks.{outside_ne, fewer}

-- ---- one byte

-- a byte was put to address t, one access was noted, and Z is what is told
pub record BringsByte (v w : View) (t x : ℕ) (access : Access) (z : ℕ) : Type 0 where
  pub here : w.at t ≡ x
  pub same : (k : ℕ) → k ≢ 0 → k ≢ 30 → k ≢ 31 → k ≢ t → w.at k ≡ v.at k
  pub pointer : pair w.at 30 ≡ z
  pub low : v.at 30 < 256 → w.at 30 < 256
  pub high : v.at 31 < 256 → w.at 31 < 256
  pub flags : w.flags ≡ v.flags
  pub inputs : w.inputs ≡ v.inputs
  pub safe : w.safe ≡ v.safe
  pub seen : w.seen ≡ v.seen ++ access ∷ []

-- Z is not touched where the byte is none of its own
z_kept : (g : ℕ → ℕ) (t x : ℕ) → t ≢ 30 → t ≢ 31 → pair (put g t x) 30 ≡ pair g 30
z_kept g t x low high =
    let a : put g t x 30 ≡ g 30 = put_other g t x 30 (λ q. low (sym q)) in
    let b : put g t x 31 ≡ g 31 = put_other g t x 31 (λ q. high (sym q)) in
    rw (a, b) refl

-- the byte is put at once
at_once : (t x : ℕ) (access : Access) (v : View) → t ≢ 30 → t ≢ 31
    → BringsByte v (see access (set t x v)) t x access (pair v.at 30)
at_once t x access v low high = record {
  here = put_here v.at t x t refl;
  same = λ k n0 n30 n31 n. put_other v.at t x k n;
  pointer = z_kept v.at t x low high;
  low = λ l. rw (put_other v.at t x 30 (λ q. low (sym q))) l;
  high = λ l. rw (put_other v.at t x 31 (λ q. high (sym q))) l;
  flags = refl;
  inputs = refl;
  safe = refl;
  seen = refl;
}

-- it goes through R0, and is noted before or after it is put
by_r0 : (t x y : ℕ) (access : Access) (v : View) → t ≢ 30 → t ≢ 31
    → BringsByte v (see access (set t x (set 0 y v))) t x access (pair v.at 30)
by_r0 t x y access v low high =
    let v1 = set 0 y v in
    let o = at_once t x access v1 low high in
    record {
      here = o.here;
      same = λ k n0 n30 n31 n. o.same k n0 n30 n31 n ∙ put_other v.at 0 y k n0;
      pointer = o.pointer;
      low = o.low;
      high = o.high;
      flags = refl;
      inputs = refl;
      safe = refl;
      seen = refl;
    }

-- a byte of a load from the data bank, and of a store to it
pub data_is_brought : (e : Env) (q : Location) (i t a : ℕ) (v : View) → address e q i ≡ t → KindIs e q t Own
    → (pair v.at 30 + i) % 65536 ≡ a → e.kind a ≡ Object → t ≢ 30 → t ≢ 31
    → BringsByte v (block e (data_byte q i) v) t (v.at a) (Read DataBank a (v.at a)) (pair v.at 30)
data_is_brought e (InRegisters r) i t a v p k z ka low high =
    rw (p, z, ka) (at_once t (v.at a) (Read DataBank a (v.at a)) v low high)
data_is_brought e (InMemory o j) i t a v p k z ka low high =
    rw (p, z, ka, k) (by_r0 t (v.at a) (v.at a) (Read DataBank a (v.at a)) v low high)

-- the same where the first byte stands at a displacement from Z
pub member_is_brought : (e : Env) (d : ℕ) (q : Location) (i t a : ℕ) (v : View) → address e q i ≡ t → KindIs e q t Own
    → (pair v.at 30 + (d + i)) % 65536 ≡ a → e.kind a ≡ Object → t ≢ 30 → t ≢ 31
    → BringsByte v (block e (member_byte d q i) v) t (v.at a) (Read DataBank a (v.at a)) (pair v.at 30)
member_is_brought e d (InRegisters r) i t a v p k z ka low high =
    rw (p, z, ka) (at_once t (v.at a) (Read DataBank a (v.at a)) v low high)
member_is_brought e d (InMemory o j) i t a v p k z ka low high =
    rw (p, z, ka, k) (by_r0 t (v.at a) (v.at a) (Read DataBank a (v.at a)) v low high)

pub byte_is_stored : (e : Env) (p : Location) (i a t : ℕ) (v : View) → address e p i ≡ a → KindIs e p a Own
    → (pair v.at 30 + i) % 65536 ≡ t → e.kind t ≡ Object → t ≢ 30 → t ≢ 31
    → BringsByte v (block e (store_byte p i) v) t (v.at a) (Write t (v.at a)) (pair v.at 30)
byte_is_stored e (InRegisters r) i a t v p k z kt low high =
    rw (p, z, kt) (at_once t (v.at a) (Write t (v.at a)) v low high)
byte_is_stored e (InMemory o j) i a t v p k z kt low high =
    rw (p, k, z, kt) (by_r0 t (v.at a) (v.at a) (Write t (v.at a)) v low high)

pub member_is_stored : (e : Env) (d : ℕ) (p : Location) (i a t : ℕ) (v : View) → address e p i ≡ a → KindIs e p a Own
    → (pair v.at 30 + (d + i)) % 65536 ≡ t → e.kind t ≡ Object → t ≢ 30 → t ≢ 31
    → BringsByte v (block e (store_member_byte d p i) v) t (v.at a) (Write t (v.at a)) (pair v.at 30)
member_is_stored e d (InRegisters r) i a t v p k z kt low high =
    rw (p, z, kt) (at_once t (v.at a) (Write t (v.at a)) v low high)
member_is_stored e d (InMemory o j) i a t v p k z kt low high =
    rw (p, k, z, kt) (by_r0 t (v.at a) (v.at a) (Write t (v.at a)) v low high)

-- ---- a byte of a load from the flash bank, which moves Z

abbrev moved : (g : ℕ → ℕ) (d x a : ℕ) → ℕ → ℕ
moved g d x a = put_pair (put g d x) 30 (raised a)

moved_other : (g : ℕ → ℕ) (d x a k : ℕ) → k ≢ 30 → k ≢ 31 → moved g d x a k ≡ put g d x k
moved_other g d x a k n30 n31 =
    put_other (put (put g d x) 30 (raised a % 256)) 31 (raised a / 256) k n31
    ∙ put_other (put g d x) 30 (raised a % 256) k n30

moved_z : (g : ℕ → ℕ) (d x a : ℕ) → pair (moved g d x a) 30 ≡ raised a
moved_z g d x a = omega arith

flash_at_once : (e : Env) (t a : ℕ) (v : View) → t ≢ 30 → t ≢ 31 → let x = slice_index e.flash a in
    BringsByte v (move_to 30 (raised a) (see (Read FlashBank a x) (set t x v))) t x (Read FlashBank a x) (raised a)
flash_at_once e t a v low high =
    let x = slice_index e.flash a in
    record {
      here = moved_other v.at t x a t low high ∙ put_here v.at t x t refl;
      same = λ k n0 n30 n31 n. moved_other v.at t x a k n30 n31 ∙ put_other v.at t x k n;
      pointer = moved_z v.at t x a;
      low = λ l. omega arith;
      high = λ l. omega arith;
      flags = refl;
      inputs = refl;
      safe = refl;
      seen = refl;
    }

flash_by_r0 : (e : Env) (t a : ℕ) (v : View) → t ≢ 30 → t ≢ 31 → let x = slice_index e.flash a in
    BringsByte v (set t x (move_to 30 (raised a) (see (Read FlashBank a x) (set 0 x v)))) t x (Read FlashBank a x) (raised a)
flash_by_r0 e t a v low high =
    let x = slice_index e.flash a in
    let g = moved v.at 0 x a in
    record {
      here = put_here g t x t refl;
      same = λ k n0 n30 n31 n. put_other g t x k n ∙ moved_other v.at 0 x a k n30 n31 ∙ put_other v.at 0 x k n0;
      pointer = z_kept g t x low high ∙ moved_z v.at 0 x a;
      low = λ l. rw (put_other g t x 30 (λ q. low (sym q))) (omega arith);
      high = λ l. rw (put_other g t x 31 (λ q. high (sym q))) (omega arith);
      flags = refl;
      inputs = refl;
      safe = refl;
      seen = refl;
    }

pub flash_is_brought : (e : Env) (q : Location) (i t a : ℕ) (v : View) → address e q i ≡ t → KindIs e q t Own
    → pair v.at 30 ≡ a → e.table a ≡ Object → t ≢ 30 → t ≢ 31 → let x = slice_index e.flash a in
    BringsByte v (block e (flash_byte q i) v) t x (Read FlashBank a x) (raised a)
flash_is_brought e (InRegisters r) i t a v p k z ka low high = rw (p, z, ka) (flash_at_once e t a v low high)
flash_is_brought e (InMemory o j) i t a v p k z ka low high = rw (p, z, ka, k) (flash_by_r0 e t a v low high)

-- ---- a byte of a load from the flash bank by the number in RAMPZ:Z, which moves that

abbrev sent : (g : ℕ → ℕ) (d x k : ℕ) → ℕ → ℕ
sent g d x k = put_pair (put g d x) 30 (k % 65536)

sent_other : (g : ℕ → ℕ) (d x k i : ℕ) → i ≢ 30 → i ≢ 31 → sent g d x k i ≡ put g d x i
sent_other g d x k i n30 n31 =
    put_other (put (put g d x) 30 (k % 65536 % 256)) 31 (k % 65536 / 256) i n31
    ∙ put_other (put g d x) 30 (k % 65536 % 256) i n30

sent_z : (g : ℕ → ℕ) (d x k : ℕ) → pair (sent g d x k) 30 ≡ k % 65536
sent_z g d x k = omega arith

far_at_once : (t x k : ℕ) (access : Access) (v : View) → t ≢ 30 → t ≢ 31
    → BringsByte v (move_far k (see access (set t x v))) t x access (k % 65536)
far_at_once t x k access v low high = record {
  here = sent_other v.at t x k t low high ∙ put_here v.at t x t refl;
  same = λ i n0 n30 n31 n. sent_other v.at t x k i n30 n31 ∙ put_other v.at t x i n;
  pointer = sent_z v.at t x k;
  low = λ l. omega arith;
  high = λ l. omega arith;
  flags = refl;
  inputs = refl;
  safe = refl;
  seen = refl;
}

far_by_r0 : (t x k : ℕ) (access : Access) (v : View) → t ≢ 30 → t ≢ 31
    → BringsByte v (set t x (move_far k (see access (set 0 x v)))) t x access (k % 65536)
far_by_r0 t x k access v low high =
    let g = sent v.at 0 x k in
    record {
      here = put_here g t x t refl;
      same = λ i n0 n30 n31 n. put_other g t x i n ∙ sent_other v.at 0 x k i n30 n31 ∙ put_other v.at 0 x i n0;
      pointer = z_kept g t x low high ∙ sent_z v.at 0 x k;
      low = λ l. rw (put_other g t x 30 (λ q. low (sym q))) (omega arith);
      high = λ l. rw (put_other g t x 31 (λ q. high (sym q))) (omega arith);
      flags = refl;
      inputs = refl;
      safe = refl;
      seen = refl;
    }

-- so with what RAMPZ has
pub record FarByte (e : Env) (v w : View) (t a : ℕ) : Type 0 where
  pub brings : BringsByte v w t (slice_index e.flash a) (Read FlashBank a (slice_index e.flash a)) (raised_far a % 65536)
  pub page : w.page ≡ raised_far a / 65536

pub far_is_brought : (e : Env) (q : Location) (i t a : ℕ) (v : View) → e.core ≡ Large → address e q i ≡ t
    → KindIs e q t Own → far_z v ≡ a → e.table a ≡ Object → t ≢ 30 → t ≢ 31 → FarByte e v (block e (far_byte q i) v) t a
far_is_brought e (InRegisters r) i t a v c p k z ka low high =
    let x = slice_index e.flash a in
    rw (p, z, ka, c) (record { brings = far_at_once t x (raised_far a) (Read FlashBank a x) v low high; page = refl })
far_is_brought e (InMemory o j) i t a v c p k z ka low high =
    let x = slice_index e.flash a in
    rw (p, z, ka, c, k) (record { brings = far_by_r0 t x (raised_far a) (Read FlashBank a x) v low high; page = refl })

-- ---- several bytes

-- i bytes are brought, and Z is what is told
pub record BringsTo (v0 : View) (t : ℕ) (byte : ℕ → ℕ) (make : ℕ → ℕ → Access) (a : ℕ) (next : ℕ → ℕ) (i : ℕ) (v : View)
    : Type 0 where
  pub pointer : pair v.at 30 ≡ next i
  pub brings : Brings v0 t i byte (each make a byte i) v

-- so without Z
pub one_more : (t i x : ℕ) (byte : ℕ → ℕ) (make : ℕ → ℕ → Access) (a z : ℕ) (v0 v w : View) → 2 ≤ t
    → Outside t (suc i) 30 → Outside t (suc i) 31 → x ≡ byte i → Brings v0 t i byte (each make a byte i) v
    → BringsByte v w (t + i) x (make (a + i) x) z → Brings v0 t (suc i) byte (each make a byte (suc i)) w
one_more t i x byte make a z v0 v w two low high is b o = record {
  there = λ j m.
      ⊎_elim
      (λ (q : j ≡ i). rw q (o.here ∙ is))
      (λ (q : j ≢ i).
      o.same (t + j) (omega arith) (λ s. outside_ne t (suc i) 30 j low m (sym s))
      (λ s. outside_ne t (suc i) 31 j high m (sym s)) (λ s. q (omega arith))
      ∙ b.there j (omega (arith, q)))
      (cases_eq j i);
  numbers = λ n l k u.
      ⊎_elim
      (λ (q : k ≡ t + i). rw (q, o.here, is) (l i (omega arith)))
      (λ (q : k ≢ t + i). other (b.numbers n (λ j m. l j (omega arith))) k u q)
      (cases_eq k (t + i));
  same = λ k n0 n30 n31 m.
      o.same k n0 n30 n31 (outside_ne t (suc i) k i m (omega arith)) ∙ b.same k n0 n30 n31 (fewer t i k m);
  flags = o.flags ∙ b.flags;
  inputs = o.inputs ∙ b.inputs;
  safe = o.safe ∙ b.safe;
  seen = o.seen
      ∙ ap (λ y. v.seen ++ make (a + i) y ∷ []) is
      ∙ ap (λ s. s ++ make (a + i) (byte i) ∷ []) b.seen
      ∙ append_assoc v0.seen (each make a byte i) (make (a + i) (byte i) ∷ []);
}
  where
    other : HoldsNumbers v → (k : ℕ) → 2 ≤ k → k ≢ t + i → w.at k < 256
    other n k u q =
        ⊎_elim
        (λ (s : k ≡ 30). rw s (o.low (n 30 (omega arith))))
        (λ (s : k ≢ 30).
        ⊎_elim
        (λ (r : k ≡ 31). rw r (o.high (n 31 (omega arith))))
        (λ (r : k ≢ 31). rw (o.same k (omega arith) s r q) (n k u))
        (cases_eq k 31))
        (cases_eq k 30)

pub one_brought : (t i x : ℕ) (byte : ℕ → ℕ) (make : ℕ → ℕ → Access) (a : ℕ) (next : ℕ → ℕ) (v0 v w : View) → 2 ≤ t
    → Outside t (suc i) 30 → Outside t (suc i) 31 → x ≡ byte i → BringsTo v0 t byte make a next i v
    → BringsByte v w (t + i) x (make (a + i) x) (next (suc i)) → BringsTo v0 t byte make a next (suc i) w
one_brought t i x byte make a next v0 v w two low high is h o = record {
  pointer = o.pointer;
  brings = one_more t i x byte make a (next (suc i)) v0 v w two low high is h.brings o;
}
