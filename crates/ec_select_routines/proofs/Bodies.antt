-- What the bodies of routines compute, and so calls of them.
use Rattle.std.proofs.Common.{◌≡◌, ℕ, suc, ◌+◌, ◌*◌, ◌≤◌, Bool, sym, ap, ◌∙◌, subst, arith}
use Rattle.ec_asm.specs.declared.pieces.Operator.TheVariants.{Sum}
use Rattle.ec_asm.specs.View.{View}
use Rattle.ec_asm.specs.Change.{Env}
use Rattle.ec_asm.specs.Items.{HasAt, block, code_steps}
use Rattle.ec_asm.specs.Pieces.{copy_code, value}
use Rattle.ec_asm.specs.PieceLaws.{HoldsNumbers}
use Rattle.ec_asm.proofs.Hoare.{has_parts, block_goes, goes_on_to}
use Rattle.ec_asm.proofs.Results.{pieces_are_straight, pieces_take}
use Rattle.ec_core.specs.Layout.{scalar_size}
use Rattle.ec_fxcode.specs.ClampLaws.{IsClearOfEnds}
use Rattle.ec_fxcode_scales.specs.ScaleLaws.{Computes as ComputesAt}
use Rattle.ec_fxcode_quotients.specs.QuotientLaws.{AreSlots}
use Rattle.ec_select_fixed.specs.FixedLaws.{AreOperandSlots, FixedBinariesAreRight, FixedUnariesAreRight, FixedConversionsAreRight}
use Rattle.ec_select_fixed.specs.FixedLaws.{IsBinaryResult, IsUnaryResult, IsConversionResult, binary_room, unary_room}
use Rattle.ec_select_fixed.specs.FixedLaws.{conversion_room}
use Rattle.ec_select_quotients.specs.Signs.{quotient_code, quotient_of}
use Rattle.ec_select_quotients.specs.SignLaws.{QuotientsAreRight, IsClearOf}
use Rattle.ec_routines.specs.Routines.{Computes}
use Rattle.ec_routines.proofs.Called.{RunLaws}
use Rattle.ec_select_routines.specs.Codes.{work_place, answer_place, first_place, second_place, binary_body, unary_body}
use Rattle.ec_select_routines.specs.Codes.{conversion_body, quotient_body}
use Rattle.ec_select_routines.specs.Laws.{HasWork, BinaryRoutinesAreRight, UnaryRoutinesAreRight}
use Rattle.ec_select_routines.specs.Laws.{ConversionRoutinesAreRight, QuotientRoutinesAreRight}
use Rattle.ec_select_routines.proofs.Brought.{part, whole, moved_value, brings}
use Rattle.ec_select_routines.proofs.Called.{called_with_one, called_with_two}

module _ (e : Env) (work : ℕ) (has : HasWork e work) where
  -- a run that keeps all but the result and 40 work bytes
  within_work : (most pc end k : ℕ) (v : View) (Holds : ℕ → Type 0) → k ≤ 8 → ComputesAt e most pc v end (work + 40) k work Holds
      → Computes e most pc v end (work + 40) k work Holds
  within_work most pc end k v Holds l r = record {
    steps = r.steps;
    at_most = r.at_most;
    last = r.last;
    goes = r.goes;
    holds = r.holds;
    numbers = r.numbers;
    same = λ j a b low high o. r.same j a b (λ q. let z = high (omega arith) in omega arith) (λ q. let z = high (omega arith) in omega arith)
        (λ q. let z = o (omega arith) in omega arith) (λ q. let z = o q in omega arith);
    inputs = r.inputs;
    safe = r.safe;
    seen = r.seen;
  }

  clear : (i n : ℕ) → IsClearOfEnds (work + i) n
  clear i n = let high = has.high in record { below = λ l. absurd (omega arith); above = λ l. omega arith }

  clear_whole : IsClearOfEnds work 40
  clear_whole = let high = has.high in record { below = λ l. absurd (omega arith); above = λ l. omega arith }

  two_slots : (a b k : ℕ) → 1 ≤ a → 1 ≤ b → 1 ≤ k → a ≤ 8 → b ≤ 8 → k ≤ 8
      → AreSlots e first_place second_place answer_place work_place a b k (work + 48) (work + 56) (work + 40) work
  two_slots a b k p q r l m n = record {
    number = part e work has 48 a (omega arith);
    divisor = part e work has 56 b (omega arith);
    result = part e work has 40 k (omega arith);
    work = whole e work has;
    clear = (clear 48 a, clear 56 b, clear 40 k, clear_whole);
    apart = (
      record { first = λ z. omega arith; second = λ z. absurd (omega arith) },
      record { first = λ z. absurd (omega arith); second = λ z. omega arith },
      record { first = λ z. absurd (omega arith); second = λ z. omega arith },
    );
    others = (
      record { first = λ z. absurd (omega arith); second = λ z. omega arith },
      record { first = λ z. absurd (omega arith); second = λ z. omega arith },
      record { first = λ z. absurd (omega arith); second = λ z. omega arith },
    );
  }

  one_slot : (a k : ℕ) → 1 ≤ a → 1 ≤ k → a ≤ 8 → k ≤ 8
      → AreOperandSlots e first_place answer_place work_place a k (work + 48) (work + 40) work
  one_slot a k p r l n = record {
    operand = part e work has 48 a (omega arith);
    result = part e work has 40 k (omega arith);
    work = whole e work has;
    clear = (clear 48 a, clear 40 k, clear_whole);
    apart = (
      record { first = λ z. absurd (omega arith); second = λ z. omega arith },
      record { first = λ z. absurd (omega arith); second = λ z. omega arith },
      record { first = λ z. absurd (omega arith); second = λ z. omega arith },
    );
  }

  clear_of : (i n : ℕ) → IsClearOf (work + i) n
  clear_of i n =
      let high = has.high in record {
        low = λ l. absurd (omega arith);
        above_low = λ l. omega arith;
        high = λ l. absurd (omega arith);
        above_high = λ l. omega arith;
      }

  -- the number is brought to the result's place, and divided there
  divides : (division : QuotientsAreRight) (r signed : Bool) (top pc to : ℕ) (u : View) → suc top ≤ 4 → HoldsNumbers u
      → 1 ≤ value u.at (work + 56) (suc top) → HasAt e (quotient_body r signed top) pc to
      → Computes e 1208 pc u to (work + 40) (suc top) work
      (λ z. z ≡ quotient_of r signed top (value u.at (work + 48) (suc top)) (value u.at (work + 56) (suc top)))
  divides division r signed top pc to u few numbers some stands =
      let high = has.high in
      let n = suc top in
      let copies = copy_code first_place answer_place n in
      let parts = has_parts e copies (quotient_code r signed answer_place second_place top) pc to stands in
      let w = block e copies u in
      let b = brings e first_place answer_place n (work + 48) (work + 40) u (part e work has 48 n (omega arith))
      (part e work has 40 n (omega arith)) (λ z. absurd (omega arith)) numbers in
      let first = block_goes e copies pc parts.0 u (pieces_are_straight Sum first_place answer_place n).0 parts.1 in
      let steps = (pieces_take Sum first_place answer_place n).0.1 in
      let kept : value w.at (work + 56) n ≡ value u.at (work + 56) n =
      moved_value w.at u.at (work + 56) (work + 56) n (λ j l. b.same (work + 56 + j) (omega arith) (λ z. omega arith)) in
      let q = division r signed e answer_place second_place top (work + 40) (work + 56) parts.0 to w
      (part e work has 40 n (omega arith)) (part e work has 56 n (omega arith)) few (clear_of 40 n) (clear_of 56 n) b.numbers
      (subst (λ x. 1 ≤ x) (sym kept) some) parts.2 in
      let most = q.at_most in
      record {
        steps = code_steps copies + q.steps;
        at_most = omega (arith, steps, most, few);
        last = q.last;
        goes = goes_on_to e (code_steps copies) q.steps pc parts.0 to u w q.last first q.goes;
        holds = q.number_is ∙ ap (λ x. quotient_of r signed top x (value w.at (work + 56) n)) b.number
            ∙ ap (quotient_of r signed top (value u.at (work + 48) n)) kept;
        numbers = q.numbers;
        same = λ j c d low up o. q.same j c d low (λ z. let y = up z in omega arith) (λ z. let y = up (omega arith) in omega arith)
            (λ z. let y = o (omega arith) in omega arith) ∙ b.same j c (λ z. let y = o (omega arith) in omega arith);
        inputs = q.inputs ∙ b.inputs;
        safe = q.safe ∙ b.safe;
        seen = q.seen ∙ b.seen;
      }

-- ---- calls

pub binary_routines_are_right : RunLaws → FixedBinariesAreRight → BinaryRoutinesAreRight
binary_routines_are_right laws right op ty aty bty mode e l p q i j work pc end v types has there o x some most push numbers at =
    let k = scalar_size ty in
    let n = scalar_size aty in
    let m = scalar_size bty in
    called_with_two laws e work has p q n m i j v o x numbers l (binary_body op ty aty bty mode) (64 * binary_room op ty aty bty) pc end k
    (IsBinaryResult op ty mode aty bty (value v.at i n) (value v.at j m)) there at push
    (λ u to held first second stands. within_work e work has (64 * binary_room op ty aty bty) (e.word_of l) to k u
    (IsBinaryResult op ty mode aty bty (value v.at i n) (value v.at j m)) most
    (subst (λ a. ComputesAt e (64 * binary_room op ty aty bty) (e.word_of l) u to (work + 40) k work
    (IsBinaryResult op ty mode aty bty a (value v.at j m))) first
    (subst (λ b. ComputesAt e (64 * binary_room op ty aty bty) (e.word_of l) u to (work + 40) k work
    (IsBinaryResult op ty mode aty bty (value u.at (work + 48) n) b)) second
    (right op ty aty bty mode e first_place second_place answer_place work_place (work + 48) (work + 56) (work + 40) work (e.word_of l)
    to u types (two_slots e work has n m k o.some x.some some o.most x.most most) held stands))))

pub unary_routines_are_right : RunLaws → FixedUnariesAreRight → UnaryRoutinesAreRight
unary_routines_are_right laws right op ty mode e l p i work pc end v types has there o push numbers at =
    let n = scalar_size ty in
    called_with_one laws e work has p n i v o numbers l (unary_body op ty mode) (64 * unary_room ty) pc end n
    (IsUnaryResult op ty mode (value v.at i n)) there at push
    (λ u to held first stands. within_work e work has (64 * unary_room ty) (e.word_of l) to n u
    (IsUnaryResult op ty mode (value v.at i n)) o.most
    (subst (λ a. ComputesAt e (64 * unary_room ty) (e.word_of l) u to (work + 40) n work (IsUnaryResult op ty mode a)) first
    (right op ty mode e first_place answer_place work_place (work + 48) (work + 40) work (e.word_of l) to u types
    (one_slot e work has n n o.some o.some o.most o.most) held stands)))

pub conversion_routines_are_right : RunLaws → FixedConversionsAreRight → ConversionRoutinesAreRight
conversion_routines_are_right laws right ty aty mode e l p i work pc end v types has there o some most push numbers at =
    let n = scalar_size aty in
    let k = scalar_size ty in
    called_with_one laws e work has p n i v o numbers l (conversion_body ty aty mode) (64 * conversion_room ty aty) pc end k
    (IsConversionResult ty mode aty (value v.at i n)) there at push
    (λ u to held first stands. within_work e work has (64 * conversion_room ty aty) (e.word_of l) to k u
    (IsConversionResult ty mode aty (value v.at i n)) most
    (subst (λ a. ComputesAt e (64 * conversion_room ty aty) (e.word_of l) u to (work + 40) k work (IsConversionResult ty mode aty a)) first
    (right ty aty mode e first_place answer_place work_place (work + 48) (work + 40) work (e.word_of l) to u types
    (one_slot e work has n k o.some some o.most most) held stands)))

pub quotient_routines_are_right : RunLaws → QuotientsAreRight → QuotientRoutinesAreRight
quotient_routines_are_right laws right r signed e l p q top i j work pc end v few has there o x push numbers some at =
    let n = suc top in
    called_with_two laws e work has p q n n i j v o x numbers l (quotient_body r signed top) 1208 pc end n
    (λ z. z ≡ quotient_of r signed top (value v.at i n) (value v.at j n)) there at push
    (λ u to held first second stands.
    subst (λ a. Computes e 1208 (e.word_of l) u to (work + 40) n work (λ z. z ≡ quotient_of r signed top a (value v.at j n))) first
    (subst (λ b. Computes e 1208 (e.word_of l) u to (work + 40) n work
    (λ z. z ≡ quotient_of r signed top (value u.at (work + 48) n) b)) second
    (divides e work has right r signed top (e.word_of l) to u few held (subst (λ b. 1 ≤ b) (sym second) some) stands)))
