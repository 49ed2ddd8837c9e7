-- Quotients and remainders with signs.
use Rattle.std.proofs.Common.{◌≡◌, ◌≢◌, ℕ, zero, suc, ◌+◌, ◌-◌, ◌*◌, ◌/◌, ◌%◌, ◌^◌, ◌<◌, ◌≤◌, ⊎_elim, Bool, true, false, List, []}
use Rattle.std.proofs.Common.{◌++◌, refl, sym, ap, ◌∙◌, subst, arith, bit_xor}
use Rattle.std.proofs.lemmas.Bool.{cases_lt}
use Rattle.std.proofs.lemmas.Nat.{mod-mul-add, mul-le, xor_lt}
use Rattle.ec_asm.specs.declared.items.AsmItem.{AsmItem}
use Rattle.ec_asm.specs.declared.pieces.Location.{Location}
use Rattle.ec_asm.specs.View.{View}
use Rattle.ec_asm.specs.Change.{Env, Own}
use Rattle.ec_asm.specs.Items.{HasAt, block, code_steps}
use Rattle.ec_asm.specs.Pieces.{StandsFrom, Outside, value}
use Rattle.ec_asm.specs.PieceLaws.{HoldsNumbers}
use Rattle.ec_asm.specs.Takes.{Goes}
use Rattle.ec_asm.proofs.Hoare.{has_parts, block_goes, goes_on_to}
use Rattle.ec_asm.proofs.Numbers.{value_below}
use Rattle.ec_asm.proofs.Sum.{value-same}
use Rattle.ec_select_quotients.specs.Quotients.{number_of, divide_code}
use Rattle.ec_select_quotients.specs.Laws.{divisor_bytes}
use Rattle.ec_select_quotients.specs.Signs.{negated_if, top_byte, part_of, sign_byte, quotient_of, fetch_code, number_sign_code}
use Rattle.ec_select_quotients.specs.Signs.{divisor_sign_code, signs_code, turn_code, start_code, put_code, result_code, sign_code}
use Rattle.ec_select_quotients.specs.SignLaws.{IsClearOf, QuotientsAreRight}
use Rattle.ec_select_quotients.proofs.Fetched.{fetched, fetch_straight, fetch_steps}
use Rattle.ec_select_quotients.proofs.Loops.{division_is_right}
use Rattle.ec_select_quotients.proofs.Negated.{turn_straight, turn_steps}
use Rattle.ec_select_quotients.proofs.Put.{remainder_put, put_straight, put_steps}
use Rattle.ec_select_quotients.proofs.Rows.{number_from}
use Rattle.ec_select_quotients.proofs.Stages.{Frame, Holds, div_below, number_stage, divisor_stage, start_stage, turned_number}
use Rattle.ec_select_quotients.proofs.Turns.{IsFar, high_outside}

moved : (f g : ℕ → ℕ) (a b n : ℕ) → ((j : ℕ) → j < n → f (b + j) ≡ g (a + j)) → value f b n ≡ value g a n
moved f g a b zero h = refl
moved f g a b (suc n) h =
    let x = moved f g a b n (λ j l. h j (omega arith)) in
    let z = h n (omega arith) in
    rw (x, z) refl

far_of : (c n : ℕ) → IsClearOf c n → IsFar c n
far_of c n f = record { low = f.low; above_low = f.above_low; high = f.high; above_high = f.above_high }

negated_some : (s n z : ℕ) → 1 ≤ z → z < 256 ^ n → 1 ≤ negated_if s n z
negated_some zero n z l k = l
negated_some (suc s) n z l k =
    let e : 256 ^ n - z ≡ 0 * 256 ^ n + (256 ^ n - z) = omega arith in
    let q : (256 ^ n - z) % 256 ^ n ≡ 256 ^ n - z = ap (λ t. t % 256 ^ n) e ∙ mod-mul-add 0 (256 ^ n) (256 ^ n - z) (omega arith) in
    omega (arith, q)

-- a number that is a byte
byte_bit : (r : Bool) (top x z : ℕ) → top_byte top x < 256 → top_byte top z < 256 → sign_byte r top x z / 128 ≤ 1
byte_bit true top x z l m = omega (arith, l)
byte_bit false top x z l m =
    let b : bit_xor (top_byte top x) (top_byte top z) < 256 = xor_lt 8 (top_byte top x) (top_byte top z) l m in
    omega (arith, b)

module _ (e : Env) (p : Location) (top c : ℕ) (st : StandsFrom e p (suc top) c Own) (far : IsFar c (suc top)) (most : suc top ≤ 4)
    (v0 : View) where
  abbrev H : (x z s : ℕ) → View → Type 0
  H x z s v = Holds e p top c st far most v0 x z s v

  -- the quotient or the remainder stands at its place
  record Parts (pc : ℕ) (v : View) (tail : List AsmItem) (end number s : ℕ) : Type 0 where
    steps : ℕ
    at_most : steps ≤ 1101
    to : ℕ
    rest : HasAt e tail to end
    last : View
    goes : Goes e steps pc v to last
    number_is : value last.at c (suc top) ≡ number
    sign : last.at 31 ≡ s
    numbers : HoldsNumbers last
    same : Frame c (suc top) v0 last
    inputs : last.inputs ≡ v0.inputs
    safe : last.safe ≡ v0.safe
    seen : last.seen ≡ v0.seen

  divide_most : 8 * suc top * (7 * suc top + 6) ≤ 1088
  divide_most = mul-le (8 * suc top) (7 * suc top + 6) 32 34 (omega arith) (omega arith)

  not_30 : (k : ℕ) → Outside 30 2 k → k ≢ 30
  not_30 k o q = let z = o (omega arith) in omega arith

  within_rest : (k : ℕ) → Outside 8 6 k → Outside 8 (suc top) k
  within_rest k o l = let z = o l in omega arith

  parts : (r : Bool) (x z s pc end : ℕ) (v : View) (tail : List AsmItem) → H x z s v → 1 ≤ z
      → HasAt e (start_code (suc top) ++ (divide_code r p (suc top) ++ (result_code r p (suc top) ++ tail))) pc end
      → Parts pc v tail end (part_of r x z) s
  parts false x z s pc end v tail h some stands =
      let n = suc top in
      let s1 = has_parts e (start_code n) (divide_code false p n ++ (result_code false p n ++ tail)) pc end stands in
      let s2 = has_parts e (divide_code false p n) (result_code false p n ++ tail) s1.0 end s1.2 in
      let b = start_stage e p top c st far most v0 x z s pc s1.0 v h some s1.1 in
      let d = division_is_right false e p top c z s1.0 s2.0 b.last st most far.low far.above_low far.high far.above_high b.ready s2.1 in
      let t1 = b.at_most in
      let t2 = d.at_most in
      let t3 = divide_most in
      record {
        steps = b.steps + d.steps;
        at_most = omega (arith, t1, t2, t3, most);
        to = s2.0;
        rest = s2.2;
        last = d.last;
        goes = goes_on_to e b.steps d.steps pc s1.0 s2.0 v b.last d.last b.goes d.goes;
        number_is = d.quotient refl ∙ ap (λ i. i / z) b.number;
        sign = d.same 31 (omega arith) (omega arith) (omega arith) (λ q. omega arith)
            (high_outside c n 31 far (omega arith) (omega arith)) ∙ b.sign;
        numbers = d.numbers;
        same = λ k i j o q t u. d.same k i j (not_30 k t) (within_rest k o) u ∙ b.same k i j o q t u;
        inputs = d.inputs ∙ b.inputs;
        safe = d.safe ∙ b.safe;
        seen = d.seen ∙ b.seen;
      }
  parts true x z s pc end v tail h some stands =
      let n = suc top in
      let uc = st.clear in
      let s1 = has_parts e (start_code n) (divide_code true p n ++ (result_code true p n ++ tail)) pc end stands in
      let s2 = has_parts e (divide_code true p n) (result_code true p n ++ tail) s1.0 end s1.2 in
      let s3 = has_parts e (result_code true p n) tail s2.0 end s2.2 in
      let b = start_stage e p top c st far most v0 x z s pc s1.0 v h some s1.1 in
      let d = division_is_right true e p top c z s1.0 s2.0 b.last st most far.low far.above_low far.high far.above_high b.ready s2.1 in
      let w = block e (put_code p n) d.last in
      let k = remainder_put e p n c d.last st far (omega arith) most d.numbers in
      let go = block_goes e (put_code p n) s2.0 s3.0 d.last (put_straight p n) s3.1 in
      let t1 = b.at_most in
      let t2 = d.at_most in
      let t3 = divide_most in
      let t4 = put_steps p n in
      record {
        steps = b.steps + d.steps + code_steps (put_code p n);
        at_most = omega (arith, t1, t2, t3, t4, most);
        to = s3.0;
        rest = s3.2;
        last = w;
        goes = goes_on_to e (b.steps + d.steps) (code_steps (put_code p n)) pc s2.0 s3.0 v d.last w
            (goes_on_to e b.steps d.steps pc s1.0 s2.0 v b.last d.last b.goes d.goes) go;
        number_is = moved w.at d.last.at 8 c n k.there ∙ d.remainder ∙ ap (λ i. i % z) b.number;
        sign = k.same 31 (omega arith) (high_outside c n 31 far (omega arith) (omega arith))
            ∙ d.same 31 (omega arith) (omega arith) (omega arith) (λ q. omega arith) (high_outside c n 31 far (omega arith) (omega arith)) ∙ b.sign;
        numbers = k.numbers;
        same = λ i a f o q t u. k.same i a u ∙ d.same i a f (not_30 i t) (within_rest i o) u ∙ b.same i a f o q t u;
        inputs = k.inputs ∙ d.inputs ∙ b.inputs;
        safe = k.safe ∙ d.safe ∙ b.safe;
        seen = k.seen ∙ d.seen ∙ b.seen;
      }

  -- all that comes after the divisor was fetched
  record Results (limit pc : ℕ) (v : View) (end number : ℕ) : Type 0 where
    steps : ℕ
    at_most : steps ≤ limit
    last : View
    goes : Goes e steps pc v end last
    number_is : value last.at c (suc top) ≡ number
    numbers : HoldsNumbers last
    same : Frame c (suc top) v0 last
    inputs : last.inputs ≡ v0.inputs
    safe : last.safe ≡ v0.safe
    seen : last.seen ≡ v0.seen

  results : (r signed : Bool) (x z s pc end : ℕ) (v : View) → H x z s v → 1 ≤ z → x < 256 ^ suc top → z < 256 ^ suc top
      → top_byte top x < 256 → top_byte top z < 256
      → HasAt e (signs_code r signed p top
      ++ (start_code (suc top) ++ (divide_code r p (suc top) ++ (result_code r p (suc top) ++ sign_code signed p (suc top))))) pc end
      → Results 1190 pc v end (quotient_of r signed top x z)
  results r false x z s pc end v h some inside below xb zb stands =
      let k = parts r x z s pc end v [] h some stands in
      let take = k.at_most in
      let to_end : k.to ≡ end = sym k.rest in
      record {
        steps = k.steps;
        at_most = omega (arith, take);
        last = k.last;
        goes = subst (λ i. Goes e k.steps pc v i k.last) to_end k.goes;
        number_is = k.number_is;
        numbers = k.numbers;
        same = k.same;
        inputs = k.inputs;
        safe = k.safe;
        seen = k.seen;
      }
  results r true x z s pc end v h some inside below xb zb stands =
      let n = suc top in
      let tail = start_code n ++ (divide_code r p n ++ (result_code r p n ++ sign_code true p n)) in
      let s1 = has_parts e (signs_code r true p top) tail pc end stands in
      let s2 = has_parts e (number_sign_code p top) (divisor_sign_code r top) pc s1.0 s1.1 in
      let y = negated_if (top_byte top x / 128) n x in
      let w = negated_if (top_byte top z / 128) n z in
      let q = sign_byte r top x z / 128 in
      let a = number_stage e p top c st far most v0 x z s pc s2.0 v h s2.1 in
      let b = divisor_stage e p top c st far most v0 r x y z s2.0 s1.0 a.last inside a.holds s2.2 in
      let some1 : 1 ≤ w = negated_some (top_byte top z / 128) n z some below in
      let k = parts r y w (255 * q) s1.0 end b.last (sign_code true p n) b.holds some1 s1.2 in
      let z1 = number_of (divisor_bytes k.last) n in
      let held : Holds e p top c st far most v0 (part_of r y w) z1 (255 * q) k.last = record {
        number = k.number_is;
        divisor = refl {a = z1};
        sign = k.sign;
        numbers = k.numbers;
        same = k.same;
        inputs = k.inputs;
        safe = k.safe;
        seen = k.seen;
      } in
      let m = turned_number e p top c st far most v0 (part_of r y w) z1 q k.last held
      (byte_bit r top x z xb zb) in
      let go = block_goes e (turn_code p n) k.to end k.last (turn_straight p n) k.rest in
      let t1 = a.at_most in
      let t2 = b.at_most in
      let t3 = k.at_most in
      let t4 = turn_steps p n in
      record {
        steps = a.steps + b.steps + k.steps + code_steps (turn_code p n);
        at_most = omega (arith, t1, t2, t3, t4, most);
        last = block e (turn_code p n) k.last;
        goes = goes_on_to e (a.steps + b.steps + k.steps) (code_steps (turn_code p n)) pc k.to end v k.last (block e (turn_code p n) k.last)
            (goes_on_to e (a.steps + b.steps) k.steps pc s1.0 k.to v b.last k.last
            (goes_on_to e a.steps b.steps pc s2.0 s1.0 v a.last b.last a.goes b.goes) k.goes) go;
        number_is = m.number;
        numbers = m.numbers;
        same = m.same;
        inputs = m.inputs;
        safe = m.safe;
        seen = m.seen;
      }

pub quotients_are_right : QuotientsAreRight
quotients_are_right r signed e p q top a b pc end v sa sb most fa fb h some stands =
    let n = suc top in
    let far = far_of a n fa in
    let ua = sa.clear in
    let ub = sb.clear in
    let rest = signs_code r signed p top ++ (start_code n ++ (divide_code r p n ++ (result_code r p n ++ sign_code signed p n))) in
    let s1 = has_parts e (fetch_code q top) rest pc end stands in
    let v1 = block e (fetch_code q top) v in
    let k = fetched e q top b v sb (far_of b n fb) most h in
    let go = block_goes e (fetch_code q top) pc s1.0 v (fetch_straight q top) s1.1 in
    let take = fetch_steps q top in
    let x = value v.at a n in
    let z = value v.at b n in
    let inside : x < 256 ^ n = value_below v.at a n (λ j l. h (a + j) (omega arith)) in
    let below : z < 256 ^ n = value_below v.at b n (λ j l. h (b + j) (omega arith)) in
    let first : Holds e p top a sa far most v x z (v.at 31) v1 = record {
      number = value-same v1.at v.at a n (λ j l. k.same (a + j) (beside_low j l) (beside_high j l));
      divisor = number_from (divisor_bytes v1) v.at b n k.there;
      sign = k.same 31 (λ l. omega arith) (λ l. omega arith);
      numbers = k.numbers;
      same = λ i f d o t u y. k.same i (λ l. let w = o (omega arith) in omega arith) t;
      inputs = k.inputs;
      safe = k.safe;
      seen = k.seen;
    } in
    let g = results e p top a sa far most v r signed x z (v.at 31) s1.0 end v1 first some inside below (div_below x top inside)
    (div_below z top below) s1.2 in
    let more = g.at_most in
    record {
      steps = code_steps (fetch_code q top) + g.steps;
      at_most = omega (arith, take, more, most);
      last = g.last;
      goes = goes_on_to e (code_steps (fetch_code q top)) g.steps pc s1.0 end v v1 g.last go g.goes;
      number_is = g.number_is;
      numbers = g.numbers;
      same = g.same;
      inputs = g.inputs;
      safe = g.safe;
      seen = g.seen;
    }
  where
    beside_low : (j : ℕ) → j < suc top → Outside 12 2 (a + j)
    beside_low j l o =
        ⊎_elim (λ (r : a < 8). let z = fa.low r in absurd (omega arith))
        (λ (r : 8 ≤ a). let z = fa.above_low r in omega arith) (cases_lt a 8)

    beside_high : (j : ℕ) → j < suc top → Outside 26 2 (a + j)
    beside_high j l o =
        ⊎_elim (λ (r : a < 26). let z = fa.high r in absurd (omega arith))
        (λ (r : 26 ≤ a). let z = fa.above_high r in omega arith) (cases_lt a 26)
