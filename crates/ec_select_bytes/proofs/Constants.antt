-- A constant put to its place.
use Rattle.std.proofs.Common.{◌≡◌, ◌≢◌, ℕ, suc, ◌+◌, ◌/◌, ◌^◌, ◌<◌, ⊎_elim, Bool, true, false, refl, ◌∙◌, arith}
use Rattle.std.specs.Prelude.{nat_le, if◌then◌else◌, [], ◌∷◌}
use Rattle.std.proofs.lemmas.Bool.{cases_eq}
use Rattle.std.proofs.lemmas.Nat.{mod_below}
use Rattle.ec_isa.specs.declared.instructions.Instr.TheVariants.{Ldi, Mov}
use Rattle.ec_asm.specs.declared.items.AsmItem.TheVariants.{Plain}
use Rattle.ec_asm.specs.declared.pieces.Location.{Location}
use Rattle.ec_asm.specs.declared.pieces.Location.TheVariants.{InRegisters, InMemory}
use Rattle.ec_asm.specs.View.{View, put}
use Rattle.ec_asm.specs.Change.{Env, Own, set}
use Rattle.ec_asm.specs.Items.{block}
use Rattle.ec_asm.specs.Pieces.{address, KindIs, StandsFrom, Outside}
use Rattle.ec_asm.proofs.Hoare.{chain_holds}
use Rattle.ec_asm.proofs.Bytes.{put_here, put_other}
use Rattle.ec_asm.proofs.Sum.{not_here, fewer}
use Rattle.ec_select_bytes.specs.Values.{byte_of, constant_byte, ConstantTo}
use Rattle.ec_select_bytes.specs.Laws.{ConstantsAreRight}

-- a byte was put to address a, through R30
record PutsByte (v w : View) (a byte : ℕ) : Type 0 where
  here : w.at a ≡ byte
  same : (k : ℕ) → k ≢ 30 → k ≢ a → w.at k ≡ v.at k
  work : byte < 256 → v.at 30 < 256 → w.at 30 < 256
  flags : w.flags ≡ v.flags
  inputs : w.inputs ≡ v.inputs
  safe : w.safe ≡ v.safe
  seen : w.seen ≡ v.seen

put_work : (a byte : ℕ) (v : View) → byte < 256 → v.at 30 < 256 → put v.at a byte 30 < 256
put_work a byte v l m =
    ⊎_elim (λ q. rw (put_here v.at a byte 30 q) l) (λ q. rw (put_other v.at a byte 30 q) m) (cases_eq 30 a)

direct : (a byte : ℕ) (v : View) → PutsByte v (set a byte v) a byte
direct a byte v = record {
  here = put_here v.at a byte a refl;
  same = λ k z n. put_other v.at a byte k n;
  work = put_work a byte v;
  flags = refl;
  inputs = refl;
  safe = refl;
  seen = refl;
}

through : (a byte : ℕ) (v : View) → PutsByte v (set a byte (set 30 byte v)) a byte
through a byte v =
    let v1 = set 30 byte v in
    record {
      here = put_here v1.at a byte a refl;
      same = λ k z n. put_other v1.at a byte k n ∙ put_other v.at 30 byte k z;
      work = λ l m. put_work a byte v1 l l;
      flags = refl;
      inputs = refl;
      safe = refl;
      seen = refl;
    }

by_reach : (e : Env) (a byte : ℕ) (v : View) (b : Bool)
    → PutsByte v (block e (if b then Plain (Ldi a byte) ∷ [] else Plain (Ldi 30 byte) ∷ Plain (Mov a 30) ∷ []) v) a byte
by_reach e a byte v true = direct a byte v
by_reach e a byte v false = through a byte v

byte_is_put : (e : Env) (p : Location) (i a byte : ℕ) (v : View) → address e p i ≡ a → KindIs e p a Own
    → PutsByte v (block e (constant_byte p byte i) v) a byte
byte_is_put e (InRegisters r) i a byte v p k = rw p (by_reach e a byte v (nat_le 16 a))
byte_is_put e (InMemory o j) i a byte v p k = rw (p, k) (through a byte v)

not_work : (a n j : ℕ) → Outside a n 30 → j < n → a + j ≢ 30
not_work a n j h l q = grind arith

step : (e : Env) (p : Location) (n a number : ℕ) (v0 : View) → StandsFrom e p n a Own → Outside a n 30 → (i : ℕ)
    → i < n → (v : View) → ConstantTo v0 a number i v
    → ConstantTo v0 a number (suc i) (block e (constant_byte p (byte_of number i) i) v)
step e p n a number v0 s far i l v h =
    let o = byte_is_put e p i (a + i) (byte_of number i) v (s.at i l) (s.kind i l) in
    record {
      there = λ j m. ⊎_elim (λ t. rw t (o.here))
          (λ t. o.same (a + j) (not_work a n j far (omega arith)) (λ x. t (omega arith)) ∙ h.there j (omega arith)) (cases_eq j i);
      same = λ k z m. o.same k z (not_here k a i m) ∙ h.same k z (fewer k a i m);
      work = λ m. o.work (mod_below (number / 256 ^ i) 256 (omega arith)) (h.work m);
      flags = o.flags ∙ h.flags;
      inputs = o.inputs ∙ h.inputs;
      safe = o.safe ∙ h.safe;
      seen = o.seen ∙ h.seen;
    }

pub constants_are_right : ConstantsAreRight
constants_are_right e p n a number v s far =
    chain_holds e (λ i. constant_byte p (byte_of number i) i) (ConstantTo v a number) n (step e p n a number v s far) v (record {
      there = λ j m. absurd (omega arith);
      same = λ k z m. refl;
      work = λ m. m;
      flags = refl;
      inputs = refl;
      safe = refl;
      seen = refl;
    })
