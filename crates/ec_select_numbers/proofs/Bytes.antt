-- One byte of a place, changed by a byte or compared with it.
use Rattle.std.proofs.Common.{◌≡◌, ◌≢◌, ◌⊎◌, inl, inr, ℕ, zero, suc, ◌+◌, Bool, true, false, [], ◌∷◌, refl}
use Rattle.std.proofs.Common.{sym, ap, ◌∙◌, arith}
use Rattle.std.specs.Prelude.{nat_le, if◌then◌else◌}
use Rattle.ec_isa.specs.declared.instructions.Instr.{Instr}
use Rattle.ec_isa.specs.declared.instructions.Instr.TheVariants.{Cpi, Ldi, Mov}
use Rattle.ec_asm.specs.declared.items.AsmItem.TheVariants.{Plain}
use Rattle.ec_asm.specs.declared.pieces.Location.{Location}
use Rattle.ec_asm.specs.declared.pieces.Location.TheVariants.{InRegisters, InMemory}
use Rattle.ec_asm.specs.View.{Flags, View}
use Rattle.ec_asm.specs.Change.{Env, Own, set, set_both, change, difference_flags}
use Rattle.ec_asm.specs.Items.{block}
use Rattle.ec_asm.specs.Pieces.{address, KindIs, carry_at, zero_at, compares}
use Rattle.ec_asm.proofs.Bytes.{put_here, put_other}
use Rattle.ec_asm.proofs.Compared.{compare_change}
use Rattle.ec_select_numbers.specs.ByNumber.{immediate_byte, compared_byte}

-- ---- operators

-- an instruction that puts f of a register, a byte and the flags into the register
pub record IsImmediate (op : ℕ → ℕ → Instr) (f : ℕ → ℕ → Flags → ℕ) (g : ℕ → ℕ → Flags → Flags) : Type 0 where
  pub is : (e : Env) (d k : ℕ) (v : View)
      → change e (op d k) v ≡ set_both d (f (v.at d) k v.flags) (g (v.at d) k v.flags) v

pub record ChangesByte (f : ℕ → ℕ → Flags → ℕ) (g : ℕ → ℕ → Flags → Flags) (v w : View) (k b : ℕ) : Type 0 where
  pub here : w.at b ≡ f (v.at b) k v.flags
  pub flags : w.flags ≡ g (v.at b) k v.flags
  pub same : (j : ℕ) → j ≢ 30 → j ≢ b → w.at j ≡ v.at j
  pub work : (w.at 30 ≡ v.at 30) ⊎ (w.at 30 ≡ f (v.at b) k v.flags)
  pub inputs : w.inputs ≡ v.inputs
  pub safe : w.safe ≡ v.safe
  pub seen : w.seen ≡ v.seen

module _ (op : ℕ → ℕ → Instr) (f : ℕ → ℕ → Flags → ℕ) (g : ℕ → ℕ → Flags → Flags)
    (h : IsImmediate op f g) where
  direct : (b k : ℕ) (v : View) → b ≢ 30
      → ChangesByte f g v (set_both b (f (v.at b) k v.flags) (g (v.at b) k v.flags) v) k b
  direct b k v far =
      let x = f (v.at b) k v.flags in
      record {
        here = put_here v.at b x b refl;
        flags = refl;
        same = λ j z n. put_other v.at b x j n;
        work = inl (put_other v.at b x 30 (λ q. far (sym q)));
        inputs = refl;
        safe = refl;
        seen = refl;
      }

  -- through R30
  through : (b k : ℕ) (v : View) → b ≢ 30 → let v1 = set 30 (v.at b) v in
      let v2 = set_both 30 (f (v.at b) k v.flags) (g (v.at b) k v.flags) v1 in
      ChangesByte f g v (set b (v2.at 30) v2) k b
  through b k v far =
      let v1 = set 30 (v.at b) v in
      let x = f (v.at b) k v.flags in
      let v2 = set_both 30 x (g (v.at b) k v.flags) v1 in
      record {
        here = put_here v2.at b x b refl;
        flags = refl;
        same = λ j z n. put_other v2.at b x j n ∙ put_other v1.at 30 x j z ∙ put_other v.at 30 (v.at b) j z;
        work = inr (put_other v2.at b x 30 (λ q. far (sym q)));
        inputs = refl;
        safe = refl;
        seen = refl;
      }

  by_reach : (e : Env) (b k : ℕ) (v : View) → b ≢ 30 → (x : Bool)
      → ChangesByte f g v
      (block e (if x then Plain (op b k) ∷ [] else Plain (Mov 30 b) ∷ Plain (op 30 k) ∷ Plain (Mov b 30) ∷ []) v) k b
  by_reach e b k v far true = rw (h.is e b k v) (direct b k v far)
  by_reach e b k v far false = rw (h.is e 30 k (set 30 (v.at b) v)) (through b k v far)

  pub byte_changes : (e : Env) (p : Location) (i b k : ℕ) (v : View) → address e p i ≡ b → KindIs e p b Own → b ≢ 30
      → ChangesByte f g v (block e (immediate_byte op p k i) v) k b
  byte_changes e (InRegisters r) i b k v p own far = rw p (by_reach e b k v far (nat_le 16 b))
  byte_changes e (InMemory o j) i b k v p own far = rw (p, own, h.is e 30 k (set 30 (v.at b) v)) (through b k v far)

-- ---- comparisons

pub record ComparesByteWith (v w : View) (k b i : ℕ) : Type 0 where
  pub flags : w.flags ≡ difference_flags v.flags (v.at b) k (carry_at i v.flags) (zero_at i v.flags)
  pub same : (j : ℕ) → j ≢ 0 → j ≢ 30 → w.at j ≡ v.at j
  pub work : (w.at 30 ≡ v.at 30) ⊎ (w.at 30 ≡ k)
  pub inputs : w.inputs ≡ v.inputs
  pub safe : w.safe ≡ v.safe
  pub seen : w.seen ≡ v.seen

-- with R30
with_work : (e : Env) (i d k b : ℕ) (v : View) → d ≡ b → b ≢ 30
    → ComparesByteWith v (block e (Plain (Ldi 30 k) ∷ Plain (compares i d 30) ∷ []) v) k b i
with_work e i d k b v is far =
    let v1 = set 30 k v in
    let d1 = put_other v.at 30 k b far in
    rw (compare_change e i d 30 v1, is) (record {
      flags = ap (λ n. difference_flags v.flags n k (carry_at i v.flags) (zero_at i v.flags)) d1;
      same = λ j z n. put_other v.at 30 k j n;
      work = inr refl;
      inputs = refl;
      safe = refl;
      seen = refl;
    })

at_once : (e : Env) (r k b : ℕ) (v : View) → r ≡ b → ComparesByteWith v (block e (Plain (Cpi r k) ∷ []) v) k b 0
at_once e r k b v is =
    rw is (record { flags = refl; same = λ j z n. refl; work = inl refl; inputs = refl; safe = refl; seen = refl })

first_compares : (e : Env) (r k b : ℕ) (v : View) → r ≡ b → r + 0 ≡ b → b ≢ 30 → (x : Bool)
    → ComparesByteWith v
    (block e (if x then Plain (Cpi r k) ∷ [] else Plain (Ldi 30 k) ∷ Plain (compares 0 (r + 0) 30) ∷ []) v) k b 0
first_compares e r k b v is there far true = at_once e r k b v is
first_compares e r k b v is there far false = with_work e 0 (r + 0) k b v there far

pub byte_compares : (e : Env) (p : Location) (i b k : ℕ) (v : View) → address e p i ≡ b → KindIs e p b Own → b ≢ 30
    → ComparesByteWith v (block e (compared_byte p k i) v) k b i
byte_compares e (InRegisters r) zero b k v p own far =
    let is : r ≡ b = omega (arith, p) in first_compares e r k b v is p far (nat_le 16 r)
byte_compares e (InRegisters r) (suc i) b k v p own far = with_work e (suc i) (r + suc i) k b v p far
byte_compares e (InMemory o j) i b k v p own far =
    let v1 = set 0 (v.at b) v in
    let v2 = set 30 k v1 in
    rw (p, own, compare_change e i 0 30 v2) (record {
      flags = refl;
      same = λ j z n. put_other v1.at 30 k j n ∙ put_other v.at 0 (v.at b) j z;
      work = inr refl;
      inputs = refl;
      safe = refl;
      seen = refl;
    })
