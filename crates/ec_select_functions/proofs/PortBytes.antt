-- One byte of a port, and the address of an element.
use Rattle.std.proofs.Common.{◌≡◌, ◌≢◌, ℕ, ◌+◌, ◌-◌, ◌%◌, ◌<◌, Bool, true, false, [], ◌∷◌, ◌++◌, Option, Some, None}
use Rattle.std.proofs.Common.{refl, ap, ◌∙◌, arith, leb-true}
use Rattle.std.specs.Prelude.{nat_le, if◌then◌else◌}
use Rattle.std.proofs.lemmas.Bool.{and_parts}
use Rattle.ec_isa.specs.declared.instructions.Instr.TheVariants.{In, Out, Lds, Sts}
use Rattle.ec_avr.specs.declared.machine.Access.TheVariants.{In as PortIn, Out as PortOut}
use Rattle.ec_asm.specs.declared.pieces.Location.{Location}
use Rattle.ec_asm.specs.declared.pieces.Location.TheVariants.{InRegisters, InMemory}
use Rattle.ec_asm.specs.View.{View, pair}
use Rattle.ec_asm.specs.Change.{Env, Own, Port, change, load_by, store_by, given, taken, set}
use Rattle.ec_asm.specs.Items.{block}
use Rattle.ec_asm.specs.Pieces.{address, KindIs}
use Rattle.ec_asm.proofs.Bytes.{put_here, put_other}
use Rattle.ec_select_operations.specs.Ports.{has_io_number, in_instruction, out_instruction, read_instruction}
use Rattle.ec_select_operations.specs.Ports.{write_instruction, read_byte, write_byte}

-- where the bytes of a port begin: an address that is known, or where there is an index that in Z
abbrev pub PointsTo : Option Location → (port at : ℕ) → View → Type 0
PointsTo None port at v = port ≡ at
PointsTo (Some l) port at v = pair v.at 30 ≡ at

-- R30 and R31 are kept
pub points_kept : (index : Option Location) (port at : ℕ) (v w : View) → w.at 30 ≡ v.at 30 → w.at 31 ≡ v.at 31
    → PointsTo index port at v → PointsTo index port at w
points_kept None port at v w q r h = h
points_kept (Some l) port at v w q r h = rw (q, r) h

module _ (e : Env) where
  -- ---- instructions

  number_back : (a : ℕ) → has_io_number a ≡ true → a - 0x20 + 0x20 ≡ a
  number_back a q = let l = leb-true 0x20 a (and_parts (nat_le 0x20 a) (nat_le a 0x5F) q).0 in omega arith

  in_is : (d a : ℕ) (v : View) → e.kind a ≡ Port → change e (in_instruction d a) v ≡ load_by Port d a v
  in_is d a v kind = by_number (has_io_number a) refl
    where
      by_number : (b : Bool) → has_io_number a ≡ b
          → change e (if b then In d (a - 0x20) else Lds d a) v ≡ load_by Port d a v
      by_number true q =
          ap (λ x. load_by (e.kind x) d x v) (number_back a q) ∙ ap (λ k. load_by k d a v) kind
      by_number false q = ap (λ k. load_by k d a v) kind

  out_is : (a r : ℕ) (v : View) → e.kind a ≡ Port → change e (out_instruction a r) v ≡ store_by Port a (v.at r) v
  out_is a r v kind = by_number (has_io_number a) refl
    where
      by_number : (b : Bool) → has_io_number a ≡ b
          → change e (if b then Out (a - 0x20) r else Sts a r) v ≡ store_by Port a (v.at r) v
      by_number true q =
          ap (λ x. store_by (e.kind x) x (v.at r) v) (number_back a q) ∙ ap (λ k. store_by k a (v.at r) v) kind
      by_number false q = ap (λ k. store_by k a (v.at r) v) kind

  read_is : (index : Option Location) (port at d i : ℕ) (v : View) → PointsTo index port at v → at + i < 65536
      → e.kind (at + i) ≡ Port → change e (read_instruction index port d i) v ≡ load_by Port d (at + i) v
  read_is None port at d i v points below kind =
      rw points (in_is d (at + i) v kind)
  read_is (Some l) port at d i v points below kind =
      let q : (pair v.at 30 + i) % 65536 ≡ at + i = rw points (omega arith) in
      ap (λ x. load_by (e.kind x) d x v) q ∙ ap (λ k. load_by k d (at + i) v) kind

  write_is : (index : Option Location) (port at i r : ℕ) (v : View) → PointsTo index port at v → at + i < 65536
      → e.kind (at + i) ≡ Port → change e (write_instruction index port i r) v ≡ store_by Port (at + i) (v.at r) v
  write_is None port at i r v points below kind = rw points (out_is (at + i) r v kind)
  write_is (Some l) port at i r v points below kind =
      let q : (pair v.at 30 + i) % 65536 ≡ at + i = rw points (omega arith) in
      ap (λ x. store_by (e.kind x) x (v.at r) v) q ∙ ap (λ k. store_by k (at + i) (v.at r) v) kind

  -- ---- a byte is read to an address

  pub record ReadsByte (v w : View) (a b : ℕ) : Type 0 where
    pub here : w.at b ≡ given v a
    pub same : (k : ℕ) → k ≢ 0 → k ≢ b → w.at k ≡ v.at k
    pub inputs : w.inputs ≡ taken v.inputs a
    pub safe : w.safe ≡ v.safe
    pub seen : w.seen ≡ v.seen ++ PortIn a (given v a) ∷ []

  pub reads_byte : (index : Option Location) (port at : ℕ) (q : Location) (i b : ℕ) (v : View) → address e q i ≡ b
      → KindIs e q b Own → PointsTo index port at v → at + i < 65536 → e.kind (at + i) ≡ Port
      → ReadsByte v (block e (read_byte index port q i) v) (at + i) b
  reads_byte index port at (InRegisters r) i b v is own points below kind =
      rw (read_is index port at (r + i) i v points below kind, is)
      (record {
        here = put_here v.at b (given v (at + i)) b refl;
        same = λ k z n. put_other v.at b (given v (at + i)) k n;
        inputs = refl;
        safe = refl;
        seen = refl;
      })
  reads_byte index port at (InMemory o j) i b v is own points below kind =
      let x = given v (at + i) in
      let v1 = load_by Port 0 (at + i) v in
      rw (read_is index port at 0 i v points below kind, is, own)
      (record {
        here = put_here v1.at b (v1.at 0) b refl;
        same = λ k z n. put_other v1.at b (v1.at 0) k n ∙ put_other v.at 0 x k z;
        inputs = refl;
        safe = refl;
        seen = refl;
      })

  -- ---- a byte is written from an address

  pub record WritesByte (v w : View) (a b : ℕ) : Type 0 where
    pub same : (k : ℕ) → k ≢ 0 → w.at k ≡ v.at k
    pub inputs : w.inputs ≡ v.inputs
    pub safe : w.safe ≡ v.safe
    pub seen : w.seen ≡ v.seen ++ PortOut a (v.at b) ∷ []

  pub writes_byte : (index : Option Location) (port at : ℕ) (q : Location) (i b : ℕ) (v : View) → address e q i ≡ b
      → KindIs e q b Own → PointsTo index port at v → at + i < 65536 → e.kind (at + i) ≡ Port
      → WritesByte v (block e (write_byte index port q i) v) (at + i) b
  writes_byte index port at (InRegisters r) i b v is own points below kind =
      rw (write_is index port at i (r + i) v points below kind, is)
      (record { same = λ k z. refl; inputs = refl; safe = refl; seen = refl })
  writes_byte index port at (InMemory o j) i b v is own points below kind =
      let v1 = set 0 (v.at b) v in
      let points1 : PointsTo index port at v1 = points_kept index port at v v1 refl refl points in
      rw (is, own, write_is index port at i 0 v1 points1 below kind)
      (record { same = λ k z. put_other v.at 0 (v.at b) k z; inputs = refl; safe = refl; seen = refl })
