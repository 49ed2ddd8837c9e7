-- All bytes of a port.
use Rattle.std.proofs.Common.{◌≡◌, ◌≢◌, ℕ, zero, suc, ◌+◌, ◌*◌, ◌/◌, ◌%◌, ◌^◌, ◌<◌, ◌≤◌, [], ◌∷◌, ◌++◌}
use Rattle.std.proofs.Common.{List, Option, refl, sym, ap, ◌∙◌, subst, arith, ⊎_elim, slice_index}
use Rattle.std.specs.Prelude.{drop}
use Rattle.std.proofs.lemmas.Bool.{cases_eq, eq-eqb, ne_eqb}
use native.Mathlib.Nat.{pow-suc, div-div-eq-div-mul}
use Rattle.ec_avr.specs.declared.machine.Access.TheVariants.{In as PortIn, Out as PortOut}
use Rattle.ec_asm.specs.declared.pieces.Location.{Location}
use Rattle.ec_asm.specs.View.{View}
use Rattle.ec_asm.specs.Change.{Env, Own, Port, given, taken}
use Rattle.ec_asm.specs.Items.{block, chain}
use Rattle.ec_asm.specs.Pieces.{StandsFrom, Outside, value}
use Rattle.ec_asm.specs.PieceLaws.{HoldsNumbers}
use Rattle.ec_asm.proofs.Hoare.{block-append}
use Rattle.ec_asm.proofs.Sum.{value-same}
use Rattle.ec_core.specs.Laws.{left_of, BytesAreTakenInOrder}
use Rattle.ec_core.specs.Plain.{PlainProgram}
use Rattle.ec_core.specs.PortAccesses.{next_byte, byte_read, bytes_read, number_read, bytes_written}
use Rattle.ec_core.specs.State.{Inputs, In, Out, State}
use Rattle.ec_select_operations.specs.Ports.{read_byte, write_byte, write_code}
use Rattle.ec_select_functions.specs.Relation.{AreLeft, accesses}
use Rattle.ec_select_functions.proofs.Accesses.{accesses-more}
use Rattle.ec_select_functions.proofs.PortBytes.{PointsTo, points_kept, reads_byte, writes_byte}
use Rattle.ec_select_functions.proofs.PortStates.{read_last, number_last}

module _ (p : PlainProgram) (place : ℕ → ℕ) (e : Env) (inputs : Inputs) (feeds : (port k : ℕ) → slice_index (inputs port) k < 256)
    (law : BytesAreTakenInOrder) where
  -- i bytes from an address have come to another one
  pub record ReadsTo (v : View) (s : State) (at b i : ℕ) (w : View) : Type 0 where
    pub number : value w.at b i ≡ number_read inputs i at s
    pub same : (k : ℕ) → k ≢ 0 → Outside b i k → w.at k ≡ v.at k
    pub numbers : HoldsNumbers w
    pub left : AreLeft inputs (bytes_read inputs i at s) w
    pub seen : w.seen ≡ accesses p place (bytes_read inputs i at s).events
    pub safe : w.safe ≡ v.safe

  -- one more is taken from what is left
  taken_left : (port : ℕ) (s : State) (v w : View) → w.inputs ≡ taken v.inputs port → AreLeft inputs s v
      → AreLeft inputs (byte_read inputs port s) w
  taken_left port s v w q h other = ap (λ f. f other) q ∙ by_port
    where
      by_port : taken v.inputs port other ≡ left_of inputs other (byte_read inputs port s)
      by_port =
          ⊎_elim
          (λ (r : other ≡ port). rw (eq-eqb other port r, r) (ap (drop 1) (h port) ∙ sym (law inputs port s).rest))
          (λ (r : other ≢ port). rw (ne_eqb other port r) (h other ∙ sym ((law inputs port s).others other r)))
          (cases_eq other port)

  module _ (index : Option Location) (port at : ℕ) (q : Location) (b n : ℕ) (v : View) (s : State) (stands : StandsFrom e q n b Own)
      (low : Outside b n 30) (high : Outside b n 31) (points : PointsTo index port at v) (below : at + n ≤ 256)
      (kinds : (j : ℕ) → j < n → e.kind (at + j) ≡ Port) where
    pub reads_to : HoldsNumbers v → AreLeft inputs s v → v.seen ≡ accesses p place s.events → (i : ℕ) → i ≤ n
        → ReadsTo v s at b i (block e (chain (read_byte index port q) i) v)
    reads_to numbers left seen zero l =
        record { number = refl; same = λ k z o. refl; numbers = numbers; left = left; seen = seen; safe = refl }
    reads_to numbers left seen (suc i) l =
        rw (block-append e (chain (read_byte index port q) i) (read_byte index port q i) v)
        (one_more (reads_to numbers left seen i (omega arith)))
      where
        w : View
        w = block e (chain (read_byte index port q) i) v

        w2 : View
        w2 = block e (read_byte index port q i) w

        one_more : ReadsTo v s at b i w → ReadsTo v s at b (suc i) w2
        one_more ih =
            let some = stands.clear in
            let t = bytes_read inputs i at s in
            let points1 =
            points_kept index port at v w (ih.same 30 (omega arith) (λ z. let y = low z in omega arith))
            (ih.same 31 (omega arith) (λ z. let y = high z in omega arith)) points in
            let x =
            reads_byte e index port at q i (b + i) w (stands.at i (omega arith)) (stands.kind i (omega arith)) points1 (omega arith)
            (kinds i (omega arith)) in
            let byte : given w (at + i) ≡ next_byte inputs (at + i) t =
            ap (λ (l : List ℕ). slice_index l 0) (ih.left (at + i)) ∙ sym (law inputs (at + i) t).first in
            let kept : value w2.at b i ≡ value w.at b i = value-same w2.at w.at b i (λ j m. x.same (b + j) (omega arith) (omega arith)) in
            record {
              number = ap (λ z. z + w2.at (b + i) * 256 ^ i) (kept ∙ ih.number)
                  ∙ ap (λ z. number_read inputs i at s + z * 256 ^ i) (x.here ∙ byte) ∙ sym (number_last inputs i at s);
              same = λ k z o. x.same k z (λ r. let y = o (omega arith) in omega arith) ∙ ih.same k z (λ r. let y = o r in omega arith);
              numbers = λ k z. ⊎_elim
                  (λ (r : k ≡ b + i). rw (r, x.here, byte) (feeds (at + i) _))
                  (λ (r : k ≢ b + i). rw (x.same k (omega arith) r) (ih.numbers k z))
                  (cases_eq k (b + i));
              left = subst (λ (u : State). AreLeft inputs u w2) (sym (read_last inputs i at s))
                  (taken_left (at + i) t w w2 x.inputs ih.left);
              seen = x.seen ∙ ap (λ z. w.seen ++ PortIn (at + i) z ∷ []) byte
                  ∙ ap (λ z. z ++ PortIn (at + i) (next_byte inputs (at + i) t) ∷ []) ih.seen
                  ∙ sym (accesses-more p place t.events (In (at + i) (next_byte inputs (at + i) t)))
                  ∙ ap (λ (u : State). accesses p place u.events) (sym (read_last inputs i at s));
              safe = x.safe ∙ ih.safe;
            }

  -- ---- writes

  -- n bytes of a number, from byte i on, were written
  pub record WritesFrom (v : View) (s : State) (at number n : ℕ) (w : View) : Type 0 where
    pub same : (k : ℕ) → k ≢ 0 → w.at k ≡ v.at k
    pub inputs_same : w.inputs ≡ v.inputs
    pub seen : w.seen ≡ accesses p place (bytes_written n at number s).events
    pub safe : w.safe ≡ v.safe

  module _ (index : Option Location) (port at : ℕ) (q : Location) (b m number : ℕ) (v : View) (s : State) (stands : StandsFrom e q m b Own)
      (points : PointsTo index port at v) (below : at + m ≤ 256) (kinds : (j : ℕ) → j < m → e.kind (at + j) ≡ Port)
      (digits : (j : ℕ) → j < m → v.at (b + j) ≡ number / 256 ^ j % 256) where
    pub writes_from : v.seen ≡ accesses p place s.events → (i n : ℕ) → i + n ≤ m
        → WritesFrom v s (at + i) (number / 256 ^ i) n (block e (write_code index port q i n) v)
    writes_from seen i zero l = record { same = λ k z. refl; inputs_same = refl; seen = seen; safe = refl }
    writes_from seen i (suc n) l =
        rw (block-append e (write_code index port q (suc i) n) (write_byte index port q i) v)
        (one_more (writes_from seen (suc i) n (omega arith)))
      where
        w : View
        w = block e (write_code index port q (suc i) n) v

        one_more : WritesFrom v s (at + suc i) (number / 256 ^ suc i) n w
            → WritesFrom v s (at + i) (number / 256 ^ i) (suc n) (block e (write_byte index port q i) w)
        one_more ih =
            let some = stands.clear in
            let points1 = points_kept index port at v w (ih.same 30 (omega arith)) (ih.same 31 (omega arith)) points in
            let x =
            writes_byte e index port at q i (b + i) w (stands.at i (omega arith)) (stands.kind i (omega arith)) points1 (omega arith)
            (kinds i (omega arith)) in
            let byte : w.at (b + i) ≡ number / 256 ^ i % 256 = ih.same (b + i) (omega arith) ∙ digits i (omega arith) in
            let next : at + suc i ≡ at + i + 1 = omega arith in
            let rest : number / 256 ^ suc i ≡ number / 256 ^ i / 256 =
            ap (λ z. number / z) (pow-suc 256 i) ∙ sym (div-div-eq-div-mul number (256 ^ i) 256) in
            let t = bytes_written n (at + i + 1) (number / 256 ^ i / 256) s in
            let before : w.seen ≡ accesses p place t.events =
            ih.seen ∙ ap (λ z. accesses p place (bytes_written n z (number / 256 ^ suc i) s).events) next
            ∙ ap (λ z. accesses p place (bytes_written n (at + i + 1) z s).events) rest in
            record {
              same = λ k z. x.same k z ∙ ih.same k z;
              inputs_same = x.inputs ∙ ih.inputs_same;
              seen = x.seen ∙ ap (λ z. w.seen ++ PortOut (at + i) z ∷ []) byte
                  ∙ ap (λ z. z ++ PortOut (at + i) (number / 256 ^ i % 256) ∷ []) before
                  ∙ sym (accesses-more p place t.events (Out (at + i) (number / 256 ^ i % 256)));
              safe = x.safe ∙ ih.safe;
            }
