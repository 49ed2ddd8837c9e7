-- A truth value in a register, and then at a temporary.
use Rattle.std.proofs.Common.{◌≡◌, ◌≢◌, ◌⊎◌, inl, inr, ℕ, zero, suc, ◌+◌, ◌%◌, ◌^◌, ◌<◌, ◌≤◌, min, ⊎_elim, Bool, true, false, pos}
use Rattle.std.proofs.Common.{refl, sym, ap, ◌∙◌, arith}
use Rattle.std.specs.Prelude.{nat_le, if◌then◌else◌}
use Rattle.std.specs.Int.{from_bool}
use Rattle.std.proofs.lemmas.Bool.{cases_eq}
use Rattle.ec_asm.specs.declared.pieces.Location.{Location}
use Rattle.ec_asm.specs.declared.pieces.Location.TheVariants.{InRegisters, InMemory}
use Rattle.ec_asm.specs.View.{View}
use Rattle.ec_asm.specs.Change.{Env, Own}
use Rattle.ec_asm.specs.Items.{block}
use Rattle.ec_asm.specs.Pieces.{StandsFrom, Outside, value}
use Rattle.ec_asm.specs.PieceLaws.{HoldsNumbers}
use Rattle.ec_asm.specs.Takes.{Goes}
use Rattle.ec_core.specs.Plain.{PlainProgram}
use Rattle.ec_core.specs.State.{worked}
use Rattle.ec_ir.specs.declared.operations.Temp.{Temp}
use Rattle.ec_ir.specs.Meaning.{Mach, machine}
use Rattle.ec_ir.specs.Temporaries.{bits, with_content, low_bytes}
use Rattle.ec_select_operations.specs.Homes.{HasHome}
use Rattle.ec_select_order.specs.Laws.{TellsIn}
use Rattle.ec_select_operations.specs.Code.{truth_register, truth_at_code}
use Rattle.ec_select_operations.specs.Needs.{Need, wanted}
use Rattle.ec_select_functions.proofs.Setting.{Setting}
use Rattle.ec_select_functions.specs.Relation.{Matches}
use Rattle.ec_select_functions.proofs.Extended.{converted}
use Rattle.ec_select_functions.proofs.Match.{kept_left, wanted_most, written}
use Rattle.ec_select_functions.proofs.Moves.{Frame, narrower}
use Rattle.ec_select_functions.proofs.Wrapped.{low_below, low_part}

truth_below : (b : Bool) → from_bool b < 256
truth_below true = omega arith
truth_below false = omega arith

-- one byte, or none of it
pub one_byte : (f : ℕ → ℕ) (a x j : ℕ) → j ≤ 1 → f a ≡ x → x < 256 → value f a j ≡ x % 256 ^ j
one_byte f a x zero l q k = let e : x % 1 ≡ 0 = omega arith in sym e
one_byte f a x (suc zero) l q k =
    let e : a + 0 ≡ a = omega arith in
    let here : f (a + 0) ≡ x = ap f e ∙ q in
    let m : x % 256 ≡ x = omega arith in
    rw (here, m) (omega arith)
one_byte f a x (suc (suc j)) l q k = absurd (omega arith)

-- R30 as a place of one byte
pub work_stands : (e : Env) → StandsFrom e (InRegisters 30) 1 30 Own
work_stands e = record { at = λ i l. refl; kind = λ i l. refl; clear = omega arith }

-- a run of at most so many steps that leaves a truth value in a register, and keeps all else but the flags, R0, R1 and R30
pub record TellsTo (d : ℕ) (e : Env) (most pc : ℕ) (v : View) (end : ℕ) (truth : Bool) : Type 0 where
  pub steps : ℕ
  pub at_most : steps ≤ most
  pub last : View
  pub goes : Goes e steps pc v end last
  pub told : last.at d ≡ from_bool truth
  pub bytes : HoldsNumbers last
  pub same : (k : ℕ) → k ≢ 0 → k ≢ 1 → k ≢ 30 → k ≢ d → last.at k ≡ v.at k
  pub inputs : last.inputs ≡ v.inputs
  pub safe : last.safe ≡ v.safe
  pub seen : last.seen ≡ v.seen

pub tells_to : (d : ℕ) (e : Env) (most pc : ℕ) (v : View) (end : ℕ) (truth : Bool) → HoldsNumbers v
    → TellsIn d e most pc v end truth → TellsTo d e most pc v end truth
tells_to d e most pc v end truth bytes h =
    record {
      steps = h.steps;
      at_most = h.at_most;
      last = h.last;
      goes = h.goes;
      told = h.told;
      bytes = numbers;
      same = λ k a b c o. h.same k a b o;
      inputs = h.inputs;
      safe = h.safe;
      seen = h.seen;
    }
  where
    numbers : HoldsNumbers h.last
    numbers i u =
        ⊎_elim (λ (q : i ≡ d). let small = truth_below truth in rw (q, h.told) small)
        (λ (q : i ≢ d). rw (h.same i (omega arith) (omega arith) q) (bytes i u)) (cases_eq i d)

module _ (p : PlainProgram) (e : Env) (slots : ℕ) (home : Temp → Location) (base : Temp → ℕ) (place : ℕ → ℕ)
    (y : Setting p e slots home base place) where
  -- the register is R30, or the lowest byte of the result
  made_at : (t : Temp) → HasHome slots t → (truth_register (home t) ≡ 30) ⊎ (truth_register (home t) ≡ base t)
  made_at t it = by_home (home t) (y.layout.temps_at t it)
    where
      by_home : (q : Location) → StandsFrom e q t.bytes (base t) Own → (truth_register q ≡ 30) ⊎ (truth_register q ≡ base t)
      by_home (InRegisters r) s = by_reach (nat_le 16 r)
        where
          is_base : r ≡ base t
          is_base = let q = s.at 0 it.some in omega arith

          by_reach : (x : Bool) → ((if x then r else 30) ≡ 30) ⊎ ((if x then r else 30) ≡ base t)
          by_reach true = inr is_base
          by_reach false = inl refl
      by_home (InMemory o k) s = inl refl

  -- what is needed of a truth value is put to its temporary
  pub told_matches : (truth : Bool) (most pc end : ℕ) (t : Temp) (need need0 : Need) (m : Mach) (v : View) (c : ℕ)
      → HasHome slots t → (k : TellsTo (truth_register (home t)) e most pc v end truth)
      → ((u : ℕ) → u ≢ t.at → need u ≤ need0 u)
      → Matches p e y.inputs slots base place y.aside y.stands y.active y.called need0 m v
      → Matches p e y.inputs slots base place y.aside y.stands y.active y.called need (machine (with_content t (bits
      (low_bytes t.bytes (pos (from_bool truth)))) m.temps) (worked c m.state))
      (block e (truth_at_code (home t) (wanted need t)) k.last)
  told_matches truth most pc end t need need0 m v c it k more h =
      let n = wanted need t in
      let v1 = k.last in
      let v2 = block e (truth_at_code (home t) n) v1 in
      let low = from_bool truth in
      let number = pos low in
      let small = truth_below truth in
      let here = one_byte v1.at d low (min n 1) (omega arith) k.told small in
      let x =
      converted p e slots home base place y false t (InRegisters d) d 1 n low v1 it (omega arith) stands
      (λ j l q. omega arith) (wanted_most need t) small k.bytes here in
      let frame : Frame v v2 (base t) t.bytes =
      λ i a b g o. x.frame i a b g (narrower (base t) t.bytes n i (wanted_most need t) o) ∙ k.same i a b g (other i g o) in
      let result : value v2.at (base t) n ≡ low_bytes t.bytes number % 256 ^ n =
      x.result ∙ sym (low_part number n t.bytes (wanted_most need t)) in
      written p e slots home base place y t (bits (low_bytes t.bytes number)) need need0 m (worked c m.state) v v2 it h more
      frame (result, low_below t.bytes number) x.numbers refl
      (x.quiet.seen ∙ k.seen ∙ h.seen) (kept_left y.inputs m.state v v2 (x.quiet.inputs ∙ k.inputs) h.left) (x.quiet.safe ∙ k.safe ∙ h.safe)
    where
      d : ℕ
      d = truth_register (home t)

      stands : StandsFrom e (InRegisters d) 1 d Own
      stands = record { at = λ i l. refl; kind = λ i l. refl; clear = clear }
        where
          clear : 2 ≤ d
          clear = ⊎_elim (λ (q : d ≡ 30). omega (arith, q))
              (λ (q : d ≡ base t). let c = (y.layout.temps_at t it).clear in omega (arith, q, c)) (made_at t it)

      other : (i : ℕ) → i ≢ 30 → Outside (base t) t.bytes i → i ≢ d
      other i g o =
          let some = it.some in
          ⊎_elim (λ (q : d ≡ 30). omega (arith, q))
          (λ (q : d ≡ base t) (z : i ≡ d). let l = o (omega (arith, q, z)) in omega (arith, q, z, l, some)) (made_at t it)
