-- The element of a port: what the operations find, and what the code sets Z to.
use Rattle.std.proofs.Common.{◌≡◌, ◌≢◌, ◌⊎◌, ⊎_elim, ℕ, ◌+◌, ◌*◌, ◌%◌, ◌<◌, ◌≤◌, [], ◌∷◌, ◌++◌}
use Rattle.std.proofs.Common.{Option, Some, None, refl, sym, ap, ◌∙◌, subst, arith}
use Rattle.std.proofs.lemmas.Bool.{cases_eq}
use Rattle.ec_isa.specs.declared.instructions.Instr.TheVariants.{Ldi, Add}
use Rattle.ec_asm.specs.declared.items.AsmItem.TheVariants.{Plain}
use Rattle.ec_asm.specs.declared.pieces.Location.{Location}
use Rattle.ec_asm.specs.declared.pieces.Location.TheVariants.{InRegisters}
use Rattle.ec_asm.specs.View.{View, pair}
use Rattle.ec_asm.specs.Change.{Env, Own, change}
use Rattle.ec_asm.specs.Items.{block}
use Rattle.ec_asm.specs.Pieces.{StandsFrom, copy_code}
use Rattle.ec_asm.specs.PieceLaws.{HoldsNumbers}
use Rattle.ec_asm.proofs.Bytes.{put_other}
use Rattle.ec_asm.proofs.Hoare.{block-append}
use Rattle.ec_core.specs.State.{State, chosen, Outcome, next, got}
use Rattle.ec_core.specs.declared.values.Value.{Value}
use Rattle.ec_core.specs.Plain.{PlainProgram}
use Rattle.ec_ir.specs.declared.operations.Temp.{Temp}
use Rattle.ec_ir.specs.Meaning.{machine, number_in, held_number, element_of_port, based, element_of_cell}
use Rattle.ec_ir.specs.Temporaries.{Content, bits, points, Held, Temps, held}
use Rattle.ec_select_operations.specs.Ports.{scale_code, point_code}
use Rattle.ec_select_functions.proofs.Follow.{Follows, from_held, next_next}
use Rattle.ec_select_functions.proofs.Moves.{Moves, Quiet, copied, quiet_then}
use Rattle.ec_select_functions.proofs.PortBytes.{PointsTo}
use Rattle.ec_select_functions.proofs.Wrapped.{kept_below}

-- ---- what operations find

-- where the bytes begin: at the port, or by the number of a temporary further on
abbrev pub IsElement : Option Temp → (port width at : ℕ) → Temps → Type 0
IsElement None port width at temps = port ≡ at
IsElement (Some t) port width at temps =
    (low : ℕ) × (temps t.at ≡ Some (record { bytes = t.bytes; content = bits low })) × (port + low * width ≡ at)

module _ (p : PlainProgram) (place : ℕ → ℕ) (e : Env) where
  -- a temporary that holds a number
  pub from_bytes : (t : Temp) (temps : Temps) (s : State) (go : ℕ → State → Outcome Value) (n w pc : ℕ) (v : View)
      → ((low : ℕ) → temps t.at ≡ Some (record { bytes = t.bytes; content = bits low })
      → Follows p place e n w pc v (go low s)) → Follows p place e n w pc v (next (held_number t temps s) go)
  from_bytes t temps s go n w pc v f =
      subst (λ o. Follows p place e n w pc v o) (sym (next_next (held t temps s) number_in go))
      (from_held p place e t temps s (λ content s1. next (number_in content s1) go) n w pc v (λ h q r. by_content h q r h.content refl))
    where
      held_of : ℕ → Content → Held
      held_of bytes content = record { bytes = bytes; content = content }

      by_content : (h : Held) → temps t.at ≡ Some h → h.bytes ≡ t.bytes → (c : Content) → h.content ≡ c
          → Follows p place e n w pc v (next (number_in c s) go)
      by_content h q r (bits low) i = f low (q ∙ ap Some (ap (λ a. held_of a h.content) r ∙ ap (held_of t.bytes) i))
      by_content h q r (points x) i = tt

  pub from_element : (index : Option Temp) (port width : ℕ) (temps : Temps) (s : State) (go : ℕ → State → Outcome Value)
      (n w pc : ℕ) (v : View) → ((at : ℕ) → IsElement index port width at temps → Follows p place e n w pc v (go at s))
      → Follows p place e n w pc v (next (element_of_port port width index (machine temps s)) go)
  from_element None port width temps s go n w pc v f = f port refl
  from_element (Some t) port width temps s go n w pc v f =
      subst (λ o. Follows p place e n w pc v o) (sym (next_next (held_number t temps s) (λ i s1. got (port + i * width) s1) go))
      (from_bytes t temps s (λ i s1. go (port + i * width) s1) n w pc v (λ low q. f (port + low * width) (low, q, refl)))

  -- so far behind what a cell holds
  pub from_base : (index : Option Temp) (cell offset width : ℕ) (temps : Temps) (s : State) (go : ℕ → State → Outcome Value)
      (n w pc : ℕ) (v : View) → ((b at : ℕ) → chosen cell s ≡ Some b → IsElement index (b + offset) width at temps
      → Follows p place e n w pc v (go at s))
      → Follows p place e n w pc v (next (element_of_cell cell offset width index (machine temps s)) go)
  from_base index cell offset width temps s go n w pc v f = by_bound (chosen cell s) refl
    where
      by_bound : (o : Option ℕ) → chosen cell s ≡ o
          → Follows p place e n w pc v
          (next (next (based o s) (λ b s1. element_of_port (b + offset) width index (machine temps s1))) go)
      by_bound None q = tt
      by_bound (Some b) q = from_element index (b + offset) width temps s go n w pc v (λ at is. f b at q is)

-- ---- what the code does

module _ (e : Env) where
  -- R0, R1, R30 and R31 have changed alone, and numbers are there
  pub record Changes (v w : View) : Type 0 where
    pub same : (k : ℕ) → k ≢ 0 → k ≢ 1 → k ≢ 30 → k ≢ 31 → w.at k ≡ v.at k
    pub numbers : HoldsNumbers w
    pub quiet : Quiet v w

  pub changes_then : (v v1 w : View) → Changes v v1 → Changes v1 w → Changes v w
  changes_then v v1 w p q = record {
    same = λ k a b c d. q.same k a b c d ∙ p.same k a b c d;
    numbers = q.numbers;
    quiet = quiet_then v v1 w p.quiet q.quiet;
  }

  pub record Pointed (index : Option Location) (port at : ℕ) (v w : View) : Type 0 where
    pub points : PointsTo index port at w
    pub changes : Changes v w

  -- ---- the scaled index

  record Scales (width : ℕ) (v w : View) : Type 0 where
    low : w.at 30 ≡ v.at 30 * width % 256
    same : (k : ℕ) → k ≢ 30 → w.at k ≡ v.at k
    quiet : Quiet v w

  scales : (width : ℕ) (v : View) → v.at 30 < 256 → (width ≡ 1) ⊎ ((width ≡ 2) ⊎ (width ≡ 4))
      → Scales width v (block e (scale_code width) v)
  scales width v small cases =
      ⊎_elim
      (λ (q : width ≡ 1). rw q
      (record { low = omega arith; same = λ k z. refl; quiet = record { inputs = refl; safe = refl; seen = refl } }))
      (λ (r : (width ≡ 2) ⊎ (width ≡ 4)). ⊎_elim
      (λ (q : width ≡ 2). rw q
      (record { low = omega arith; same = λ k z. put_other v.at 30 _ k z; quiet = record { inputs = refl; safe = refl; seen = refl } }))
      (λ (q : width ≡ 4). rw q
      (record {
        low = omega arith;
        same = λ k z. put_other (change e (Add 30 30) v).at 30 _ k z
            ∙ put_other v.at 30 _ k z;
        quiet = record { inputs = refl; safe = refl; seen = refl };
      }))
      r)
      cases

  -- the port is added, where an element begins below 0x100
  pub added : (port n : ℕ) (v : View) → v.at 30 ≡ n → port + n < 256 → HoldsNumbers v
      → let w = block e (Plain (Ldi 31 port) ∷ Plain (Add 30 31) ∷ Plain (Ldi 31 0) ∷ []) v in
      (pair w.at 30 ≡ port + n) × Changes v w
  added port n v here below numbers =
      let v1 = change e (Ldi 31 port) v in
      let v2 = change e (Add 30 31) v1 in
      let w = change e (Ldi 31 0) v2 in
      let low : w.at 30 ≡ (v.at 30 + port + 0) % 256 = refl in
      let top : w.at 31 ≡ 0 = refl in
      let same : (k : ℕ) → k ≢ 30 → k ≢ 31 → w.at k ≡ v.at k =
      λ k y z. put_other v2.at 31 0 k z ∙ put_other v1.at 30 _ k y ∙ put_other v.at 31 port k z in (
        omega (arith, low, top, here, below),
        record {
          same = λ k u x y z. same k y z;
          numbers = λ k z. ⊎_elim
              (λ (q : k ≡ 30). rw (q, low, here) (omega (arith, below)))
              (λ (q : k ≢ 30). ⊎_elim (λ (r : k ≡ 31). rw r (omega arith)) (λ (r : k ≢ 31). rw (same k q r) (numbers k z)) (cases_eq k 31))
              (cases_eq k 30);
          quiet = record { inputs = refl; safe = refl; seen = refl };
        },
      )

  -- ---- the whole

  pub element_below : (port low width at : ℕ) → port + low * width ≡ at → at + width ≤ 256 → 1 ≤ width → low < 256
  element_below port low width at q l some = grind arith

  -- R30 becomes the index, whose low byte stands at an address, times the bytes of an element
  pub indexed : (l : Location) (c low width : ℕ) (v : View) → StandsFrom e l 1 c Own
      → (width ≡ 1) ⊎ ((width ≡ 2) ⊎ (width ≡ 4)) → v.at c ≡ low → low * width < 256 → HoldsNumbers v
      → let w = block e (scale_code width) (block e (copy_code l (InRegisters 30) 1) v) in (w.at 30 ≡ low * width) × Changes v w
  indexed l c low width v stands cases here below numbers = (
    x.low ∙ ap (λ a. a * width % 256) byte ∙ kept_below (low * width) 256 below,
    record { same = λ k a o b d. x.same k b ∙ moved k a o b; numbers = numbers2; quiet = quiet_then v v1 v2 m.quiet x.quiet },
  )
    where
      v1 : View
      v1 = block e (copy_code l (InRegisters 30) 1) v

      v2 : View
      v2 = block e (scale_code width) v1

      at_thirty : StandsFrom e (InRegisters 30) 1 30 Own
      at_thirty = record { at = λ i j. refl; kind = λ i j. refl; clear = omega arith }

      m : Moves v v1 c 30 1
      m = copied e l (InRegisters 30) 1 c 30 v stands at_thirty (λ q. omega arith) numbers

      moved : (k : ℕ) → k ≢ 0 → k ≢ 1 → k ≢ 30 → v1.at k ≡ v.at k
      moved k a o b = m.frame k a o b (λ y. omega arith)

      byte : v1.at 30 ≡ low
      byte = let q : v1.at (30 + 0) ≡ v.at (c + 0) = m.there 0 (omega arith) in let r : c + 0 ≡ c = omega arith in q ∙ ap v.at r ∙ here

      x : Scales width v1 v2
      x = scales width v1 m.work cases

      numbers2 : HoldsNumbers v2
      numbers2 k q =
          ⊎_elim
          (λ (r : k ≡ 30). rw (r, x.low) (omega arith))
          (λ (r : k ≢ 30). rw (x.same k r, moved k (omega arith) (omega arith) r) (numbers k q))
          (cases_eq k 30)

  pub product_below : (port n at : ℕ) → port + n ≡ at → at < 256 → n < 256
  product_below port n at q l = omega arith

  pub pointed : (l : Location) (c low port width at : ℕ) (v : View) → StandsFrom e l 1 c Own
      → (width ≡ 1) ⊎ ((width ≡ 2) ⊎ (width ≡ 4)) → v.at c ≡ low → port + low * width ≡ at → at < 256 → HoldsNumbers v
      → Pointed (Some l) port at v (block e (point_code (Some l) port width) v)
  pointed l c low port width at v stands cases here is below numbers =
      rw (
        block-append e (copy_code l (InRegisters 30) 1)
            (scale_code width ++ Plain (Ldi 31 port) ∷ Plain (Add 30 31) ∷ Plain (Ldi 31 0) ∷ []) v,
        block-append e (scale_code width)
            (Plain (Ldi 31 port) ∷ Plain (Add 30 31) ∷ Plain (Ldi 31 0) ∷ []) (block e (copy_code l (InRegisters 30) 1) v),
      )
      (record { points = z.0 ∙ is; changes = changes_then v v2 w x.1 z.1 })
    where
      v2 : View
      v2 = block e (scale_code width) (block e (copy_code l (InRegisters 30) 1) v)

      w : View
      w = block e (Plain (Ldi 31 port) ∷ Plain (Add 30 31) ∷ Plain (Ldi 31 0) ∷ []) v2

      x : (v2.at 30 ≡ low * width) × Changes v v2
      x = indexed l c low width v stands cases here (product_below port (low * width) at is below) numbers

      z : (pair w.at 30 ≡ port + low * width) × Changes v2 w
      z = added port (low * width) v2 x.0 (subst (λ a. a < 256) (sym is) below) x.1.numbers
