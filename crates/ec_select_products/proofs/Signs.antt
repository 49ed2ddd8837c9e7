-- What a negative factor takes from the high byte of a product.
use Rattle.std.proofs.Common.{◌≡◌, ◌≢◌, ℕ, ◌+◌, ◌-◌, ◌*◌, ◌/◌, ◌%◌, ◌<◌, ◌≤◌, ◌==◌, ⊎_elim, Bool, true, false, refl, sym, ap, ◌∙◌, subst}
use Rattle.std.proofs.Common.{arith}
use Rattle.std.specs.Prelude.{if◌then◌else◌}
use Rattle.std.specs.Int.{bit_at}
use Rattle.std.proofs.lemmas.Bool.{cases_lt, eq-eqb, ne_eqb}
use Rattle.ec_isa.specs.declared.instructions.Instr.TheVariants.{Sbrc, Sub}
use Rattle.ec_asm.specs.View.{View}
use Rattle.ec_asm.specs.Change.{Env, change}
use Rattle.ec_asm.specs.Items.{At, HasAt}
use Rattle.ec_asm.specs.Pieces.{sign_of}
use Rattle.ec_asm.specs.Takes.{Goes}
use Rattle.ec_asm.proofs.Bytes.{put_other}
use Rattle.ec_asm.proofs.Hoare.{goes_on_to, one_goes}
use Rattle.ec_asm.proofs.Takes.{clear_bit_skips}
use Rattle.ec_select_products.specs.Products.{less_code}

pub record Lessens (e : Env) (pc : ℕ) (v : View) (end number : ℕ) : Type 0 where
  pub steps : ℕ
  pub at_most : steps ≤ 2
  pub last : View
  pub goes : Goes e steps pc v end last
  pub high : last.at 1 ≡ number
  pub same : (k : ℕ) → k ≢ 1 → last.at k ≡ v.at k
  pub inputs : last.inputs ≡ v.inputs
  pub safe : last.safe ≡ v.safe
  pub seen : last.seen ≡ v.seen

-- nothing was taken
stays : (e : Env) (steps pc end number : ℕ) (v : View) → steps ≤ 2 → Goes e steps pc v end v → v.at 1 ≡ number
    → Lessens e pc v end number
stays e steps pc end number v most g q =
    record { steps = steps; at_most = most; last = v; goes = g; high = q; same = λ k n. refl; inputs = refl; safe = refl; seen = refl }

pub lessens : (signed : Bool) (e : Env) (f o pc end : ℕ) (v : View) → v.at f < 256 → v.at 1 < 256 → v.at o < 256
    → HasAt e (less_code signed f o) pc end
    → Lessens e pc v end ((v.at 1 + 256 - sign_of signed (v.at f) * v.at o) % 256)
lessens false e f o pc end v lf lh lo stands =
    stays e 0 pc end ((v.at 1 + 256 - 0 * v.at o) % 256) v (omega arith)
    (subst (λ i. Goes e 0 pc v i v) (sym stands) (record { by = refl })) (omega arith)
lessens true e f o pc end v lf lh lo stands =
    let rest = stands.2 in
    let to_end : rest.0 ≡ end = sym rest.2 in
    let sub : At e (Sub 1 o) stands.0 end = subst (λ i. At e (Sub 1 o) stands.0 i) to_end rest.1 in
    let g = clear_bit_skips e f 7 (Sub 1 o) pc stands.0 end v stands.1 sub in
    let h = v.at 1 in
    let x = v.at f in
    ⊎_elim
    (λ (l : x < 128).
    let bit : bit_at x 7 ≡ 0 = omega arith in
    let q : (bit_at x 7 == 0) ≡ true = eq-eqb (bit_at x 7) 0 bit in
    let g1 : Goes e 1 pc v end v = subst (λ b. Goes e 1 pc v (if b then end else stands.0) v) q g in
    let z : x / 128 ≡ 0 = omega arith in
    stays e 1 pc end ((h + 256 - x / 128 * v.at o) % 256) v (omega arith) g1 (rw z (omega arith)))
    (λ (l : 128 ≤ x).
    let bit : bit_at x 7 ≡ 1 = omega arith in
    let q : (bit_at x 7 == 0) ≡ false = ne_eqb (bit_at x 7) 0 (omega arith) in
    let g1 : Goes e 1 pc v stands.0 v = subst (λ b. Goes e 1 pc v (if b then end else stands.0) v) q g in
    let z : x / 128 ≡ 1 = omega arith in
    let w = change e (Sub 1 o) v in
    record {
      steps = 1 + 1;
      at_most = omega arith;
      last = w;
      goes = goes_on_to e 1 1 pc stands.0 end v v w g1 (one_goes e (Sub 1 o) stands.0 end v refl sub);
      high = rw z (taken h (v.at o));
      same = λ k n. put_other v.at 1 _ k n;
      inputs = refl;
      safe = refl;
      seen = refl;
    })
    (cases_lt x 128)
  where
    taken : (h o : ℕ) → (h + 256 - (o + 0)) % 256 ≡ (h + 256 - 1 * o) % 256
    taken h o = let e : o + 0 ≡ 1 * o = omega arith in rw e refl
