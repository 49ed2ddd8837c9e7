-- The bytes of the number, or of the end of the range.
use Rattle.std.proofs.Common.{◌≡◌, ◌≢◌, ℕ, suc, ◌+◌, ◌-◌, ◌%◌, ◌<◌, ◌≤◌, ⊎_elim, true, false, ◌∷◌, refl, sym, ◌∙◌, arith}
use Rattle.std.specs.Prelude.{bit_and}
use Rattle.std.proofs.lemmas.Bool.{cases_eq}
use Rattle.std.proofs.lemmas.Nat.{mod_below, and_le_r}
use Rattle.ec_isa.specs.declared.instructions.Instr.TheVariants.{Add, And, Com, Andi}
use Rattle.ec_asm.specs.declared.items.AsmItem.TheVariants.{Plain}
use Rattle.ec_asm.specs.declared.pieces.Location.{Location}
use Rattle.ec_asm.specs.View.{View}
use Rattle.ec_asm.specs.Change.{Env, Own, set, change}
use Rattle.ec_asm.specs.Items.{block, chain}
use Rattle.ec_asm.specs.Pieces.{address, KindIs, StandsFrom, Outside}
use Rattle.ec_asm.proofs.Hoare.{chain_holds, block-append}
use Rattle.ec_asm.proofs.Bytes.{put_here, put_other}
use Rattle.ec_asm.proofs.Sum.{not_here, fewer}
use Rattle.ec_fxcode.specs.Clamps.{take_byte, put_byte, end_byte, top_byte, ends_code}
use Rattle.ec_fxcode.specs.ClampLaws.{IsClearOfEnds}
use Rattle.ec_fxcode.proofs.Moves.{byte_is_taken, byte_is_put, clear_byte, KeepsBut}
use Rattle.ec_fxcode.proofs.Gathered.{and_none, and_all}

-- ---- one byte

-- the byte at a place, by what R30 and R31 have
abbrev pub ended : (x m s : ℕ) → ℕ
ended x m s = (bit_and x m + s + 0) % 256

record EndsByte (v w : View) (b : ℕ) (byte : ℕ) : Type 0 where
  pub here : w.at b ≡ byte
  pub same : (j : ℕ) → j ≢ 0 → j ≢ b → w.at j ≡ v.at j
  pub inputs : w.inputs ≡ v.inputs
  pub safe : w.safe ≡ v.safe
  pub seen : w.seen ≡ v.seen

ends_by : (e : Env) (q : Location) (i b x : ℕ) (v : View) → address e q i ≡ b → KindIs e q b Own
    → EndsByte v (block e (Plain (And 0 30) ∷ Plain (Add 0 31) ∷ put_byte 0 q i) (set 0 x v)) b (ended x (v.at 30) (v.at 31))
ends_by e q i b x v at kind =
    let v1 = set 0 x v in
    let v2 = change e (And 0 30) v1 in
    let v3 = change e (Add 0 31) v2 in
    rw (byte_is_put e 0 q i b v3 at kind)
    (record {
      here = put_here v3.at b (v3.at 0) b refl;
      same = λ j z n. put_other v3.at b _ j n ∙ put_other v2.at 0 _ j z ∙ put_other v1.at 0 _ j z ∙ put_other v.at 0 x j z;
      inputs = refl;
      safe = refl;
      seen = refl;
    })

ends_byte : (e : Env) (q : Location) (i b : ℕ) (v : View) → address e q i ≡ b → KindIs e q b Own
    → EndsByte v (block e (end_byte q i) v) b (ended (v.at b) (v.at 30) (v.at 31))
ends_byte e q i b v at kind =
    let t = byte_is_taken e q i b v at kind in
    rw (block-append e (take_byte q i) (Plain (And 0 30) ∷ Plain (Add 0 31) ∷ put_byte 0 q i) v, t)
    (ends_by e q i b (v.at b) v at kind)

-- the highest one of a number with a sign
abbrev pub topped : (x m s : ℕ) → ℕ
topped x m s = ended x m ((s + bit_and (255 - m) 128 + 0) % 256)

record TopsByte (v w : View) (b : ℕ) (byte : ℕ) : Type 0 where
  pub here : w.at b ≡ byte
  pub first : w.at 30 < 256
  pub second : w.at 31 < 256
  pub same : (j : ℕ) → j ≢ 0 → j ≢ 30 → j ≢ 31 → j ≢ b → w.at j ≡ v.at j
  pub inputs : w.inputs ≡ v.inputs
  pub safe : w.safe ≡ v.safe
  pub seen : w.seen ≡ v.seen

and_below : (x : ℕ) → bit_and x 128 < 256
and_below x = let l = and_le_r x 128 in omega arith

tops_by : (e : Env) (q : Location) (i b x : ℕ) (v : View) → address e q i ≡ b → KindIs e q b Own
    → ((b ≢ 30) × (b ≢ 31))
    → TopsByte v (block e (Plain (And 0 30) ∷ Plain (Com 30) ∷ Plain (Andi 30 128) ∷ Plain (Add 31 30) ∷ Plain (Add 0 31) ∷ put_byte 0 q i)
    (set 0 x v)) b (topped x (v.at 30) (v.at 31))
tops_by e q i b x v at kind free =
    let v1 = set 0 x v in
    let v2 = change e (And 0 30) v1 in
    let v3 = change e (Com 30) v2 in
    let v4 = change e (Andi 30 128) v3 in
    let v5 = change e (Add 31 30) v4 in
    let v6 = change e (Add 0 31) v5 in
    rw (byte_is_put e 0 q i b v6 at kind)
    (record {
      here = put_here v6.at b (v6.at 0) b refl;
      first = rw (put_other v6.at b (v6.at 0) 30 (λ t. free.0 (sym t))) (and_below (255 - v.at 30));
      second = rw (put_other v6.at b (v6.at 0) 31 (λ t. free.1 (sym t)))
          (mod_below (v.at 31 + bit_and (255 - v.at 30) 128 + 0) 256 (omega arith));
      same = λ j z n o k. put_other v6.at b _ j k ∙ put_other v5.at 0 _ j z ∙ put_other v4.at 31 _ j o ∙ put_other v3.at 30 _ j n
          ∙ put_other v2.at 30 _ j n ∙ put_other v1.at 0 _ j z ∙ put_other v.at 0 x j z;
      inputs = refl;
      safe = refl;
      seen = refl;
    })

tops_byte : (e : Env) (q : Location) (i b : ℕ) (v : View) → address e q i ≡ b → KindIs e q b Own
    → ((b ≢ 30) × (b ≢ 31))
    → TopsByte v (block e (top_byte q i) v) b (topped (v.at b) (v.at 30) (v.at 31))
tops_byte e q i b v at kind free =
    let t = byte_is_taken e q i b v at kind in
    rw (
      block-append e (take_byte q i)
          (Plain (And 0 30) ∷ Plain (Com 30) ∷ Plain (Andi 30 128) ∷ Plain (Add 31 30) ∷ Plain (Add 0 31) ∷ put_byte 0 q i) v,
      t,
    )
    (tops_by e q i b (v.at b) v at kind free)

-- ---- all bytes

record EndsTo (u : View) (b m s i : ℕ) (v : View) : Type 0 where
  pub there : (j : ℕ) → j < i → v.at (b + j) ≡ ended (u.at (b + j)) m s
  pub same : (j : ℕ) → j ≢ 0 → Outside b i j → v.at j ≡ u.at j
  pub mask : v.at 30 ≡ m
  pub byte : v.at 31 ≡ s
  pub inputs : v.inputs ≡ u.inputs
  pub safe : v.safe ≡ u.safe
  pub seen : v.seen ≡ u.seen

end_step : (e : Env) (q : Location) (k b m s : ℕ) (u : View) → StandsFrom e q k b Own → IsClearOfEnds b k → (i : ℕ)
    → i < k → (v : View) → EndsTo u b m s i v → EndsTo u b m s (suc i) (block e (end_byte q i) v)
end_step e q k b m s u st clear i l v h =
    let free = clear_byte b k i clear st.clear l in
    let o = ends_byte e q i (b + i) v (st.at i l) (st.kind i l) in
    let old = h.same (b + i) free.0 (λ x. omega arith) in
    record {
      there = λ j z. ⊎_elim (λ t. rw t (o.here ∙ rw (old, h.mask, h.byte) refl))
          (λ t. o.same (b + j) ((clear_byte b k j clear st.clear (omega arith)).0) (λ x. t (omega arith)) ∙ h.there j (omega arith))
          (cases_eq j i);
      same = λ j z n. o.same j z (not_here j b i n) ∙ h.same j z (fewer j b i n);
      mask = o.same 30 (λ x. omega arith) (λ x. free.2 (sym x)) ∙ h.mask;
      byte = o.same 31 (λ x. omega arith) (λ x. free.3 (sym x)) ∙ h.byte;
      inputs = o.inputs ∙ h.inputs;
      safe = o.safe ∙ h.safe;
      seen = o.seen ∙ h.seen;
    }

end_bytes : (e : Env) (q : Location) (k n b m s : ℕ) (u : View) → StandsFrom e q k b Own → IsClearOfEnds b k → n ≤ k
    → u.at 30 ≡ m → u.at 31 ≡ s → EndsTo u b m s n (block e (chain (end_byte q) n) u)
end_bytes e q k n b m s u st clear l mask byte =
    chain_holds e (end_byte q) (EndsTo u b m s) n (λ i x v h. end_step e q k b m s u st clear i (omega arith) v h) u (record {
      there = λ j z. absurd (omega arith);
      same = λ j z n. refl;
      mask = mask;
      byte = byte;
      inputs = refl;
      safe = refl;
      seen = refl;
    })

-- what the code leaves: k bytes from b, the highest of which may be another
pub record Ends (u : View) (b k m s : ℕ) (top : ℕ → ℕ → ℕ → ℕ) (w : View) : Type 0 where
  pub low : (j : ℕ) → j < k → w.at (b + j) ≡ ended (u.at (b + j)) m s
  pub top_is : w.at (b + k) ≡ top (u.at (b + k)) m s
  pub first : w.at 30 < 256
  pub second : w.at 31 < 256
  pub keeps : KeepsBut u w b (suc k)

pub ends_unsigned : (e : Env) (q : Location) (k b m s : ℕ) (u : View) → StandsFrom e q (suc k) b Own
    → IsClearOfEnds b (suc k) → m < 256 → s < 256 → u.at 30 ≡ m → u.at 31 ≡ s
    → Ends u b k m s ended (block e (ends_code false q (suc k)) u)
ends_unsigned e q k b m s u st clear ml sl mask byte =
    let h = end_bytes e q (suc k) (suc k) b m s u st clear (omega arith) mask byte in
    record {
      low = λ j l. h.there j (omega arith);
      top_is = h.there k (omega arith);
      first = rw h.mask ml;
      second = rw h.byte sl;
      keeps = record { same = λ j x y z w o. h.same j x o; inputs = h.inputs; safe = h.safe; seen = h.seen };
    }

topped_last : (u v w : View) (b k m s : ℕ) → 2 ≤ b → IsClearOfEnds b (suc k) → EndsTo u b m s k v
    → TopsByte v w (b + k) (topped (v.at (b + k)) (v.at 30) (v.at 31)) → Ends u b k m s topped w
topped_last u v w b k m s two clear h o =
    let free = clear_byte b (suc k) k clear two (omega arith) in
    let old = h.same (b + k) free.0 (λ x. omega arith) in
    record {
      low = λ j l.
          let f = clear_byte b (suc k) j clear two (omega arith) in
          o.same (b + j) f.0 f.2 f.3 (λ x. omega arith) ∙ h.there j l;
      top_is = o.here ∙ rw (old, h.mask, h.byte) refl;
      first = o.first;
      second = o.second;
      keeps = record {
        same = λ j x y z t n. o.same j x z t (not_here j b k n) ∙ h.same j x (fewer j b k n);
        inputs = o.inputs ∙ h.inputs;
        safe = o.safe ∙ h.safe;
        seen = o.seen ∙ h.seen;
      };
    }

pub ends_signed : (e : Env) (q : Location) (k b m s : ℕ) (u : View) → StandsFrom e q (suc k) b Own
    → IsClearOfEnds b (suc k) → m < 256 → s < 256 → u.at 30 ≡ m → u.at 31 ≡ s
    → Ends u b k m s topped (block e (ends_code true q (suc k)) u)
ends_signed e q k b m s u st clear ml sl mask byte =
    let one : suc k - 1 ≡ k = omega arith in
    let v = block e (chain (end_byte q) k) u in
    let h = end_bytes e q (suc k) k b m s u st clear (omega arith) mask byte in
    let free = clear_byte b (suc k) k clear st.clear (omega arith) in
    let o = tops_byte e q k (b + k) v (st.at k (omega arith)) (st.kind k (omega arith)) (free.2, free.3) in
    rw (one, block-append e (chain (end_byte q) k) (top_byte q k) u)
    (topped_last u v (block e (top_byte q k) v) b k m s st.clear clear h o)

-- ---- what the bytes are

pub ended_kept : (x : ℕ) → x < 256 → ended x 255 0 ≡ x
ended_kept x l = let e = and_all x l in rw e (omega arith)

pub topped_kept : (x : ℕ) → x < 256 → topped x 255 0 ≡ x
topped_kept x l = let e = and_all x l in rw e (omega arith)

pub ended_out : (x s : ℕ) → s < 256 → ended x 0 s ≡ s
ended_out x s l = let e = and_none x in rw e (omega arith)

pub topped_above : (x : ℕ) → topped x 0 255 ≡ 127
topped_above x = let e = and_none x in rw e refl

pub topped_below : (x : ℕ) → topped x 0 0 ≡ 128
topped_below x = let e = and_none x in rw e refl
