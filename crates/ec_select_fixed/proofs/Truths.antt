-- A truth value in R30 becomes an int.
use Rattle.std.proofs.Common.{◌≡◌, ◌≢◌, ◌⊎◌, ⊎_elim, ℕ, zero, suc, ◌+◌, ◌*◌, ◌<◌, ◌≤◌, Bool, true, false, ◌++◌, refl, sym, ap, ◌∙◌, subst}
use Rattle.std.proofs.Common.{arith, append-nil}
use Rattle.std.specs.Int.{from_bool}
use Rattle.std.proofs.lemmas.Bool.{cases_eq}
use Rattle.ec_asm.specs.declared.pieces.Location.{Location}
use Rattle.ec_asm.specs.declared.pieces.Location.TheVariants.{InRegisters}
use Rattle.ec_asm.specs.declared.pieces.Operator.TheVariants.{Sum}
use Rattle.ec_asm.specs.View.{View}
use Rattle.ec_asm.specs.Change.{Env, Own}
use Rattle.ec_asm.specs.Items.{HasAt, block, code_steps}
use Rattle.ec_asm.specs.Pieces.{StandsFrom, Outside, CopiesTo, copy_code, value}
use Rattle.ec_asm.specs.PieceLaws.{HoldsNumbers}
use Rattle.ec_asm.specs.Takes.{Goes}
use Rattle.ec_asm.proofs.Hoare.{has_parts, block_goes, goes_on_to}
use Rattle.ec_asm.proofs.Compared.{copy_holds}
use Rattle.ec_asm.proofs.Results.{pieces_are_straight, pieces_take}
use Rattle.ec_select_bytes.specs.Values.{extend_code}
use Rattle.ec_select_bytes.specs.Laws.{Extends}
use Rattle.ec_select_bytes.proofs.Extensions.{extensions_are_right}
use Rattle.ec_select_bytes.proofs.Straight.{values_are_straight, values_take}
use Rattle.ec_fxcode.specs.ClampLaws.{IsClearOfEnds}
use Rattle.ec_fxcode.proofs.Moves.{part_stands, no_log}
use Rattle.ec_select_fixed.specs.Codes.{truth_code}

-- a run that puts a truth value to two bytes, and keeps all else but R0, R1 and the flags
pub record Puts (e : Env) (pc : ℕ) (v : View) (end o : ℕ) (t : Bool) : Type 0 where
  pub steps : ℕ
  pub at_most : steps ≤ 8
  pub last : View
  pub goes : Goes e steps pc v end last
  pub holds : value last.at o 2 ≡ from_bool t
  pub numbers : HoldsNumbers last
  pub same : (k : ℕ) → k ≢ 0 → k ≢ 1 → Outside o 2 k → last.at k ≡ v.at k
  pub inputs : last.inputs ≡ v.inputs
  pub safe : last.safe ≡ v.safe
  pub seen : last.seen ≡ v.seen

truth_stands : (e : Env) → StandsFrom e (InRegisters 30) 1 30 Own
truth_stands e = record { at = λ i l. refl; kind = λ i l. refl; clear = omega arith }

copied_numbers : (v w : View) (o : ℕ) → 2 ≤ o → HoldsNumbers v → CopiesTo v 30 o Own Own 1 w → HoldsNumbers w
copied_numbers v w o l h c k m =
    ⊎_elim
    (λ (x : k ≡ o). let e : k ≡ o + 0 = omega arith in
    let b : v.at 30 < 256 = h 30 (omega arith) in
    subst (λ n. w.at n < 256) (sym e) (subst (λ n. n < 256) (sym (c.there 0 (omega arith))) b))
    (λ (x : k ≢ o). subst (λ n. n < 256) (sym (c.same k (omega arith) (λ y. omega arith))) (h k m))
    (cases_eq k o)

extended_numbers : (v w : View) (o : ℕ) → HoldsNumbers v → Extends v false o 0 2 w → HoldsNumbers w
extended_numbers v w o h c k m =
    ⊎_elim
    (λ (x : k ≡ o + 1). let z : w.at (o + 1) ≡ 0 = c.there 1 (omega arith) (omega arith) in
    subst (λ n. w.at n < 256) (sym x) (subst (λ n. n < 256) (sym z) (omega arith)))
    (λ (x : k ≢ o + 1). subst (λ n. n < 256) (sym (c.keeps.same k (omega arith) (omega arith) (λ y. omega arith))) (h k m))
    (cases_eq k (o + 1))

two_bytes : (f : ℕ → ℕ) (o : ℕ) (t : Bool) → f (o + 0) ≡ from_bool t → f (o + 1) ≡ 0 → value f o 2 ≡ from_bool t
two_bytes f o t a b = rw (a, b) (omega arith)

pub truth_put : (e : Env) (q : Location) (o pc end : ℕ) (t : Bool) (v : View) → StandsFrom e q 2 o Own → IsClearOfEnds o 2
    → HoldsNumbers v → v.at 30 ≡ from_bool t → HasAt e (truth_code q) pc end → Puts e pc v end o t
truth_put e q o pc end t v stands clear numbers told at =
    let first = copy_code (InRegisters 30) q 1 in
    let second = extend_code false q 1 2 in
    let parts = has_parts e first second pc end at in
    let u = block e first v in
    let w = block e second u in
    let low = part_stands e q 2 1 o (omega arith) stands in
    let two = stands.clear in
    let copied = copy_holds e (InRegisters 30) q 1 30 o Own Own v (truth_stands e) low refl refl (λ l. omega arith) in
    let numbers1 = copied_numbers v u o two numbers copied in
    let extended = extensions_are_right false e q 0 2 o u stands (omega arith) numbers1 in
    let s1 = (pieces_are_straight Sum (InRegisters 30) q 1).0 in
    let s2 = (values_are_straight q 0 1 2).2 false in
    let go1 = block_goes e first pc parts.0 v s1 parts.1 in
    let go2 = block_goes e second parts.0 end u s2 parts.2 in
    let k1 = (pieces_take Sum (InRegisters 30) q 1).0.1 in
    let k2 = (values_take q 0 1 2).2 false in
    let here : w.at (o + 0) ≡ from_bool t =
    extended.keeps.same (o + 0) (omega arith) (omega arith) (λ l. omega arith) ∙ copied.there 0 (omega arith) ∙ told in
    let high : w.at (o + 1) ≡ 0 = extended.there 1 (omega arith) (omega arith) in
    record {
      steps = code_steps first + code_steps second;
      at_most = omega (arith, k1, k2);
      last = w;
      goes = goes_on_to e (code_steps first) (code_steps second) pc parts.0 end v u w go1 go2;
      holds = two_bytes w.at o t here high;
      numbers = extended_numbers u w o numbers1 extended;
      same = λ k x y z. extended.keeps.same k x y (λ l. let far = z (omega arith) in omega arith)
          ∙ copied.same k x (λ l. let far = z l in omega arith);
      inputs = extended.keeps.inputs ∙ copied.inputs;
      safe = extended.keeps.safe ∙ copied.safe;
      seen = extended.keeps.seen ∙ copied.seen ∙ ap (λ l. v.seen ++ l) (no_log 30 o v.at 1) ∙ append-nil v.seen;
    }
