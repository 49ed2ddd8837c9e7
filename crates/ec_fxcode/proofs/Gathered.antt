-- Whether all bytes above a number's low ones are what they have to be.
use Rattle.std.proofs.Common.{◌≡◌, ◌≢◌, ℕ, suc, ◌+◌, ◌-◌, ◌%◌, ◌<◌, ◌≤◌, ⊎_elim, true, false, [], ◌∷◌, refl, sym, ap, ◌∙◌, arith}
use Rattle.std.specs.Prelude.{nat_lt, bit_or, bit_and}
use Rattle.std.specs.Int.{from_bool}
use Rattle.std.specs.Int.Bits.{xor_self}
use Rattle.std.proofs.lemmas.Bool.{cases_eq, lt-ltb}
use Rattle.std.proofs.lemmas.Nat.{le_or_l, le_or_r, or_of_8, and_mask, and_le_r}
use Rattle.ec_isa.specs.declared.instructions.Instr.TheVariants.{Add, Sub, Sbc, And, Or, Eor, Neg, Com}
use Rattle.ec_avr.specs.Flags.{byte_difference}
use Rattle.ec_asm.specs.declared.items.AsmItem.TheVariants.{Plain}
use Rattle.ec_asm.specs.declared.pieces.Location.{Location}
use Rattle.ec_asm.specs.View.{View}
use Rattle.ec_asm.specs.Change.{Env, Own, set, change}
use Rattle.ec_asm.specs.Items.{block}
use Rattle.ec_asm.specs.Pieces.{address, KindIs, StandsFrom}
use Rattle.ec_asm.proofs.Hoare.{chain_holds, block-append}
use Rattle.ec_asm.proofs.Bytes.{put_other}
use Rattle.ec_fxcode.specs.Clamps.{take_byte, wanted_code, gather_byte, gather_code, masks_code}
use Rattle.ec_fxcode.specs.ClampLaws.{IsClearOfEnds}
use Rattle.ec_fxcode.proofs.Alike.{fill}
use Rattle.ec_fxcode.proofs.Moves.{byte_is_taken, spread, clear_byte}

-- ---- what is wanted

pub record Wants (v w : View) (byte start : ℕ) : Type 0 where
  pub wanted : w.at 1 ≡ byte
  pub start_is : w.at 30 ≡ start
  pub same : (j : ℕ) → j ≢ 0 → j ≢ 1 → j ≢ 30 → w.at j ≡ v.at j
  pub inputs : w.inputs ≡ v.inputs
  pub safe : w.safe ≡ v.safe
  pub seen : w.seen ≡ v.seen

wants_by : (e : Env) (v : View) (x : ℕ) → x < 256
    → Wants v (block e (Plain (Add 0 0) ∷ Plain (Sbc 1 1) ∷ Plain (Eor 30 30) ∷ []) (set 0 x v)) (fill x) 0
wants_by e v x l =
    let v1 = set 0 x v in
    let v2 = change e (Add 0 0) v1 in
    let v3 = change e (Sbc 1 1) v2 in
    record {
      wanted = spread x (v.at 1) l;
      start_is = xor_self (v.at 30);
      same = λ j z o n. put_other v3.at 30 _ j n ∙ put_other v2.at 1 _ j o ∙ put_other v1.at 0 _ j z ∙ put_other v.at 0 x j z;
      inputs = refl;
      safe = refl;
      seen = refl;
    }

-- the sign of the low suc k bytes
pub wants_sign : (e : Env) (p : Location) (k a : ℕ) (v : View) → address e p k ≡ a → KindIs e p a Own → v.at a < 256
    → Wants v (block e (wanted_code true p (suc k)) v) (fill (v.at a)) 0
wants_sign e p k a v at kind l =
    let q : suc k - 1 ≡ k = omega arith in
    let t = byte_is_taken e p k a v at kind in
    rw (q, block-append e (take_byte p k) (Plain (Add 0 0) ∷ Plain (Sbc 1 1) ∷ Plain (Eor 30 30) ∷ []) v, t)
    (wants_by e v (v.at a) l)

pub wants_none : (e : Env) (p : Location) (k : ℕ) (v : View)
    → Wants v (block e (wanted_code false p k) v) 0 (v.at 31)
wants_none e p k v =
    let v1 = change e (Eor 1 1) v in
    record {
      wanted = xor_self (v.at 1);
      start_is = refl;
      same = λ j z o n. put_other v1.at 30 _ j n ∙ put_other v.at 1 _ j o;
      inputs = refl;
      safe = refl;
      seen = refl;
    }

-- ---- one byte more

record GathersByte (v w : View) (x : ℕ) : Type 0 where
  pub here : w.at 30 ≡ bit_or (v.at 30) (byte_difference x (v.at 1) 0)
  pub same : (j : ℕ) → j ≢ 0 → j ≢ 30 → w.at j ≡ v.at j
  pub inputs : w.inputs ≡ v.inputs
  pub safe : w.safe ≡ v.safe
  pub seen : w.seen ≡ v.seen

gathers_by : (e : Env) (v : View) (x : ℕ)
    → GathersByte v (block e (Plain (Sub 0 1) ∷ Plain (Or 30 0) ∷ []) (set 0 x v)) x
gathers_by e v x =
    let v1 = set 0 x v in
    let v2 = change e (Sub 0 1) v1 in
    record {
      here = refl;
      same = λ j z n. put_other v2.at 30 _ j n ∙ put_other v1.at 0 _ j z ∙ put_other v.at 0 x j z;
      inputs = refl;
      safe = refl;
      seen = refl;
    }

gathers_byte : (e : Env) (p : Location) (i a : ℕ) (v : View) → address e p i ≡ a → KindIs e p a Own
    → GathersByte v (block e (gather_byte p i) v) (v.at a)
gathers_byte e p i a v at kind =
    let t = byte_is_taken e p i a v at kind in
    rw (block-append e (take_byte p i) (Plain (Sub 0 1) ∷ Plain (Or 30 0) ∷ []) v, t) (gathers_by e v (v.at a))

same_bytes : (x t : ℕ) → x < 256 → t < 256 → byte_difference x t 0 ≡ 0 → x ≡ t
same_bytes x t l m e = omega arith

no_difference : (x t : ℕ) → x < 256 → x ≡ t → byte_difference x t 0 ≡ 0
no_difference x t l e = rw (← e) (omega arith)

below_byte : (x t : ℕ) → byte_difference x t 0 < 256
below_byte x t = omega arith

-- the first i bytes from a on were looked at, where u was the view before
pub record Gathers (u : View) (a t c i : ℕ) (v : View) : Type 0 where
  pub below : v.at 30 < 256
  pub wanted : v.at 1 ≡ t
  pub starts : v.at 30 ≡ 0 → c ≡ 0
  pub only : v.at 30 ≡ 0 → (j : ℕ) → j < i → u.at (a + j) ≡ t
  pub stays : c ≡ 0 → ((j : ℕ) → j < i → u.at (a + j) ≡ t) → v.at 30 ≡ 0
  pub same : (j : ℕ) → j ≢ 0 → j ≢ 30 → v.at j ≡ u.at j
  pub inputs : v.inputs ≡ u.inputs
  pub safe : v.safe ≡ u.safe
  pub seen : v.seen ≡ u.seen

or_zeros : (x y : ℕ) → x ≡ 0 → y ≡ 0 → bit_or x y ≡ 0
or_zeros x y p q = rw (p, q) refl

gathered : (u v w : View) (a t c i : ℕ) → a + i ≢ 0 → a + i ≢ 30 → u.at (a + i) < 256 → t < 256 → Gathers u a t c i v
    → GathersByte v w (v.at (a + i)) → Gathers u a t c (suc i) w
gathered u v w a t c i n0 n30 l m h o =
    let x = v.at (a + i) in
    let old : x ≡ u.at (a + i) = h.same (a + i) n0 n30 in
    let acc = v.at 30 in
    let d = byte_difference x (v.at 1) 0 in
    let xl : x < 256 = rw old l in
    let tl : v.at 1 < 256 = rw h.wanted m in
    let left : acc ≤ w.at 30 = rw o.here (le_or_l acc d) in
    let right : d ≤ w.at 30 = rw o.here (le_or_r acc d) in
    record {
      below = rw o.here (or_of_8 acc d h.below (below_byte x (v.at 1)));
      wanted = o.same 1 (λ y. omega arith) (λ y. omega arith) ∙ h.wanted;
      starts = λ z. h.starts (omega arith);
      only = λ z j k. ⊎_elim
          (λ s. let e : x ≡ t = same_bytes x (v.at 1) xl tl (omega arith) ∙ h.wanted in rw s (sym old ∙ e))
          (λ s. h.only (omega arith) j (omega arith)) (cases_eq j i);
      stays = λ z all.
          let e : x ≡ v.at 1 = old ∙ all i (omega arith) ∙ sym h.wanted in
          o.here ∙ or_zeros acc d (h.stays z (λ j k. all j (omega arith))) (no_difference x (v.at 1) xl e);
      same = λ j z n. o.same j z n ∙ h.same j z n;
      inputs = o.inputs ∙ h.inputs;
      safe = o.safe ∙ h.safe;
      seen = o.seen ∙ h.seen;
    }

gather_step : (e : Env) (p : Location) (n a k t c : ℕ) (u : View) → StandsFrom e p n a Own → IsClearOfEnds a n
    → ((j : ℕ) → j < n → u.at (a + j) < 256) → t < 256 → (i : ℕ) → k + i < n → (v : View)
    → Gathers u (a + k) t c i v → Gathers u (a + k) t c (suc i) (block e (gather_byte p (k + i)) v)
gather_step e p n a k t c u s clear bytes m i l v h =
    let free = clear_byte a n (k + i) clear s.clear l in
    let here : a + (k + i) ≡ a + k + i = omega arith in
    let o = gathers_byte e p (k + i) (a + (k + i)) v (s.at (k + i) l) (s.kind (k + i) l) in
    let w = block e (gather_byte p (k + i)) v in
    gathered u v w (a + k) t c i (λ x. free.0 (omega arith)) (λ x. free.2 (omega arith)) (rw (← here) (bytes (k + i) l)) m h (rw here at o)

pub gathers : (e : Env) (p : Location) (n a k t c : ℕ) (u : View) → StandsFrom e p n a Own → IsClearOfEnds a n
    → ((j : ℕ) → j < n → u.at (a + j) < 256) → t < 256 → c < 256 → u.at 1 ≡ t → u.at 30 ≡ c
    → Gathers u (a + k) t c (n - k) (block e (gather_code p k n) u)
gathers e p n a k t c u s clear bytes m l one thirty =
    chain_holds e (λ i. gather_byte p (k + i)) (Gathers u (a + k) t c) (n - k)
    (λ i x v h. gather_step e p n a k t c u s clear bytes m i (omega arith) v h) u (record {
      below = rw thirty l;
      wanted = one;
      starts = λ z. sym thirty ∙ z;
      only = λ z j y. absurd (omega arith);
      stays = λ z all. thirty ∙ z;
      same = λ j z n. refl;
      inputs = refl;
      safe = refl;
      seen = refl;
    })

-- ---- the masks

pub record Masks (v w : View) : Type 0 where
  pub fits : v.at 30 ≡ 0 → (w.at 30 ≡ 255) × (w.at 31 ≡ 0)
  pub passes : v.at 30 ≢ 0 → (w.at 30 ≡ 0) × (w.at 31 ≡ 255 - v.at 31)
  pub same : (j : ℕ) → j ≢ 30 → j ≢ 31 → w.at j ≡ v.at j
  pub inputs : w.inputs ≡ v.inputs
  pub safe : w.safe ≡ v.safe
  pub seen : w.seen ≡ v.seen

-- the mask of what was gathered, 255 where it is not 0
mask_zero : (y acc : ℕ) → acc ≡ 0 → byte_difference y y (from_bool (nat_lt 0 (acc + 0))) ≡ 0
mask_zero y acc e = rw e (omega arith)

mask_ones : (y acc : ℕ) → acc ≢ 0 → byte_difference y y (from_bool (nat_lt 0 (acc + 0))) ≡ 255
mask_ones y acc n = let l : 0 < acc + 0 = omega arith in rw (lt-ltb 0 (acc + 0) l) (omega arith)

pub and_none : (x : ℕ) → bit_and x 0 ≡ 0
and_none x = let l = and_le_r x 0 in omega arith

pub and_all : (x : ℕ) → x < 256 → bit_and x 255 ≡ x
and_all x l = let m : bit_and x 255 ≡ x % 256 = and_mask x 8 in m ∙ (omega arith)

below_com : (x : ℕ) → 255 - x < 256
below_com x = omega arith

pub masked : (e : Env) (v : View) → Masks v (block e masks_code v)
masked e v =
    let v1 = change e (Neg 30) v in
    let v2 = change e (Sbc 30 30) v1 in
    let v3 = change e (Com 31) v2 in
    let v4 = change e (And 31 30) v3 in
    record {
      fits = λ z.
          let m = mask_zero (v1.at 30) (v.at 30) z in
          (ap (λ x. 255 - x) m, ap (bit_and (255 - v.at 31)) m ∙ and_none (255 - v.at 31));
      passes = λ n.
          let m = mask_ones (v1.at 30) (v.at 30) n in
          (ap (λ x. 255 - x) m, ap (bit_and (255 - v.at 31)) m ∙ and_all (255 - v.at 31) (below_com (v.at 31)));
      same = λ j n o. put_other v4.at 30 _ j n ∙ put_other v3.at 31 _ j o ∙ put_other v2.at 31 _ j o ∙ put_other v1.at 30 _ j n
          ∙ put_other v.at 30 _ j n;
      inputs = refl;
      safe = refl;
      seen = refl;
    }
