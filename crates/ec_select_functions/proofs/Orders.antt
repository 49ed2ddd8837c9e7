-- The order of numbers, and of their bytes.
use Rattle.std.proofs.Common.{◌≡◌, ◌≢◌, ℕ, zero, suc, ◌+◌, ◌-◌, ◌*◌, ◌/◌, ◌%◌, ◌^◌, ◌<◌, ◌≤◌, ⊎_elim, Bool, true}
use Rattle.std.proofs.Common.{false, ℤ, pos, ◌+ℤ◌, ◌-ℤ◌, ◌*ℤ◌, Ok, refl, sym, ap, ◌∙◌, arith, leb-true, leb-false, pow-add}
use Rattle.std.proofs.Common.{◌⊎◌, inl, inr}
use Rattle.std.specs.Prelude.{nat_le, nat_lt, int_lt, not, ◌==◌, if◌then◌else◌}
use Rattle.std.specs.Int.{from_bool}
use Rattle.std.specs.Ordering.{int_cmp}
use Rattle.std.specs.declared.cmp.Ordering.{Ordering}
use Rattle.std.specs.declared.cmp.Ordering.TheVariants.{Less, Equal, Greater}
use Rattle.std.proofs.lemmas.Int.{ints}
use Rattle.std.proofs.lemmas.Nat.{mod-mul-add}
use Rattle.std.proofs.lemmas.Bool.{cases_Bool, cases_lt, cases_eq, eq-eqb, ne_eqb, lt-ltb}
use Rattle.std.proofs.lemmas.Bool.Decides.{nat_tests}
use native.Mathlib.Nat.{pow-suc}
use Rattle.ec_fx.specs.declared.numbers.Mode.{Mode}
use Rattle.ec_asm.specs.PieceLaws.{moved_up}
use Rattle.ec_asm.proofs.Numbers.{pow_pos}
use Rattle.ec_core.specs.declared.expressions.BinOp.{BinOp}
use Rattle.ec_core.specs.declared.expressions.BinOp.TheVariants.{Lt, Gt, Le, Ge, Eq, Ne}
use Rattle.ec_core.specs.declared.values.Value.TheVariants.{Number}
use Rattle.ec_core.specs.Accesses.{operand_of}
use Rattle.ec_core.specs.Integers.{truth, accepts}
use Rattle.ec_core.specs.Operators.{binary_result}
use Rattle.ec_core.specs.ArithmeticValues.{is_comparison}
use Rattle.ec_core.specs.Plain.{PlainType, integer, PlainProgram}
use Rattle.ec_core.specs.State.{State}
use Rattle.ec_ir.specs.Temporaries.{number_of_bytes}
use Rattle.ec_select_order.specs.declared.relations.Relation.{Relation}
use Rattle.ec_select_order.specs.declared.relations.Relation.TheVariants.{Less as IsBelow, NotLess, Equal as IsSame}
use Rattle.ec_select_order.specs.declared.relations.Relation.TheVariants.{NotEqual}
use Rattle.ec_select_order.specs.Relations.{is_less, stand_so}
use Rattle.ec_select_operations.specs.declared.families.Family.TheVariants.{Compared}
use Rattle.ec_select_operations.specs.Code.{family_of}
use Rattle.ec_select_functions.proofs.Wrapped.{kept_below}

-- ---- a number moved up

-- k is h above n
record Rises (n : ℤ) (h k : ℕ) : Type 0 where
  is : n +ℤ pos h ≡ pos k

less_is : (m n : ℤ) (h i j : ℕ) → Rises m h i → Rises n h j → i < j → int_lt m n ≡ true
less_is m n h i j p q l = let a = p.is in let b = q.is in grind (arith, ints)

not_less_is : (m n : ℤ) (h i j : ℕ) → Rises m h i → Rises n h j → j ≤ i → int_lt m n ≡ false
not_less_is m n h i j p q l = let a = p.is in let b = q.is in grind (arith, ints)

-- ---- what the bytes tell

-- how two numbers of b bytes are ordered, and what the tests of their bytes are then
record Ordered (s : Bool) (b x z : ℕ) (o : Ordering) (less more same : Bool) : Type 0 where
  order : int_cmp (number_of_bytes s b x) (number_of_bytes s b z) ≡ o
  below : is_less s b x z ≡ less
  above : is_less s b z x ≡ more
  equal : (x == z) ≡ same

-- one of the three
abbrev IsOrdered : (s : Bool) (b x z : ℕ) → Type 0
IsOrdered s b x z =
    Ordered s b x z Less true false false ⊎ (Ordered s b x z Equal false false true ⊎ Ordered s b x z Greater false true false)

-- what orders the bytes as the numbers
abbrev key : Bool → ℕ → ℕ → ℕ
key true b x = moved_up b x
key false b x = x

key_less : (s : Bool) (b x z : ℕ) → is_less s b x z ≡ nat_lt (key s b x) (key s b z)
key_less true b x z = refl
key_less false b x z = refl

cmp_is : (m n : ℤ) (less more : Bool) (o : Ordering) → int_lt m n ≡ less → int_lt n m ≡ more
    → (if less then Less else (if more then Greater else Equal)) ≡ o → int_cmp m n ≡ o
cmp_is m n less more o p q r = rw (p, q) r

not_lt : (i j : ℕ) → j ≤ i → nat_lt i j ≡ false
not_lt i j l = grind (arith, nat_tests)

sides : (s : Bool) (b x z h : ℕ) → Rises (number_of_bytes s b x) h (key s b x) → Rises (number_of_bytes s b z) h (key s b z)
    → (key s b x ≡ key s b z → x ≡ z) → IsOrdered s b x z
sides s b x z h p q same =
    let m = number_of_bytes s b x in
    let n = number_of_bytes s b z in
    let i = key s b x in
    let j = key s b z in
    ⊎_elim
    (λ (l : i < j).
    inl (record {
      order = cmp_is m n true false Less (less_is m n h i j p q l) (not_less_is n m h j i q p (omega arith)) refl;
      below = key_less s b x z ∙ lt-ltb i j l;
      above = key_less s b z x ∙ not_lt j i (omega arith);
      equal = ne_eqb x z (λ e. let g = ap (key s b) e in absurd (omega arith));
    }))
    (λ (l : j ≤ i).
    ⊎_elim
    (λ (e : i ≡ j).
    inr (inl (record {
      order = cmp_is m n false false Equal (not_less_is m n h i j p q l) (not_less_is n m h j i q p (omega arith)) refl;
      below = key_less s b x z ∙ not_lt i j l;
      above = key_less s b z x ∙ not_lt j i (omega arith);
      equal = eq-eqb x z (same e);
    })))
    (λ (e : i ≢ j).
    inr (inr (record {
      order = cmp_is m n false true Greater (not_less_is m n h i j p q l) (less_is n m h j i q p (omega arith)) refl;
      below = key_less s b x z ∙ not_lt i j l;
      above = key_less s b z x ∙ lt-ltb j i (omega arith);
      equal = ne_eqb x z (λ g. e (ap (key s b) g));
    })))
    (cases_eq i j))
    (cases_lt i j)

-- ---- signed numbers

-- h is half of the power
pub up_low : (x h : ℕ) → x < h → (x + h) % (2 * h) ≡ x + h
up_low x h l = kept_below (x + h) (2 * h) (omega arith)

pub up_high : (x h : ℕ) → h ≤ x → x < 2 * h → (x + h) % (2 * h) ≡ x - h
up_high x h l k =
    let e : x + h ≡ 1 * (2 * h) + (x - h) = omega arith in
    ap (λ t. t % (2 * h)) e ∙ mod-mul-add 1 (2 * h) (x - h) (omega arith)

abbrev signed_number : ℕ → ℕ → ℤ
signed_number h x = if nat_le (2 * h) (2 * x) then pos x -ℤ pos (2 * h) else pos x

high_rises : (x h : ℕ) → h ≤ x → (pos x -ℤ pos (2 * h)) +ℤ pos h ≡ pos (x - h)
high_rises x h l = omega (arith, ints, l)

low_rises : (x h : ℕ) → pos x +ℤ pos h ≡ pos (x + h)
low_rises x h = omega (arith, ints)

signed_rises : (x h : ℕ) → x < 2 * h → Rises (signed_number h x) h ((x + h) % (2 * h))
signed_rises x h k =
    ⊎_elim
    (λ t.
    let l : 2 * h ≤ 2 * x = leb-true (2 * h) (2 * x) t in
    let q = up_high x h (omega arith) k in
    let r = high_rises x h (omega arith) in
    rw (t, q) (record { is = r }))
    (λ t.
    let l : 2 * x < 2 * h = leb-false (2 * h) (2 * x) t in
    let q = up_low x h (omega arith) in
    let r = low_rises x h in
    rw (t, q) (record { is = r }))
    (cases_Bool (nat_le (2 * h) (2 * x)))

up_once : (x z h : ℕ) → x < 2 * h → z < 2 * h → (x + h) % (2 * h) ≡ (z + h) % (2 * h) → x ≡ z
up_once x z h k l q =
    ⊎_elim
    (λ (a : x < h).
    ⊎_elim
    (λ (b : z < h). let i = up_low x h a in let j = up_low z h b in omega arith)
    (λ (b : h ≤ z). let i = up_low x h a in let j = up_high z h b l in absurd (omega arith))
    (cases_lt z h))
    (λ (a : h ≤ x).
    ⊎_elim
    (λ (b : z < h). let i = up_high x h a k in let j = up_low z h b in absurd (omega arith))
    (λ (b : h ≤ z). let i = up_high x h a k in let j = up_high z h b l in omega arith)
    (cases_lt z h))
    (cases_lt x h)

-- half of a power of 256
pub half_of : (b : ℕ) → 1 ≤ b → (h : ℕ) × (256 ^ b ≡ 2 * h) × (256 ^ b / 2 ≡ h)
half_of zero l = absurd (omega arith)
half_of (suc n) l =
    let s : 256 ^ suc n ≡ 256 ^ n * 256 = pow-suc 256 n in
    (128 * 256 ^ n, omega (arith, s), omega (arith, s))

signed_ordered : (b x z : ℕ) → 1 ≤ b → x < 256 ^ b → z < 256 ^ b → IsOrdered true b x z
signed_ordered b x z some k l =
    let f = half_of b some in
    let h = f.0 in
    let q = f.1 in
    let k1 : x < 2 * h = omega arith in
    let l1 : z < 2 * h = omega arith in
    let kx : moved_up b x ≡ (x + h) % (2 * h) = rw (q, (half (256 ^ b) h q f.2)) refl in
    let kz : moved_up b z ≡ (z + h) % (2 * h) = rw (q, (half (256 ^ b) h q f.2)) refl in
    let nx : number_of_bytes true b x ≡ signed_number h x = ap (λ p. if nat_le p (2 * x) then pos x -ℤ pos p else pos x) q in
    let nz : number_of_bytes true b z ≡ signed_number h z = ap (λ p. if nat_le p (2 * z) then pos z -ℤ pos p else pos z) q in
    let rx = signed_rises x h k1 in
    let rz = signed_rises z h l1 in
    sides true b x z h (moved (number_of_bytes true b x) (signed_number h x) h (moved_up b x) ((x + h) % (2 * h)) nx kx rx)
    (moved (number_of_bytes true b z) (signed_number h z) h (moved_up b z) ((z + h) % (2 * h)) nz kz rz)
    (λ e. up_once x z h k1 l1 (sym kx ∙ e ∙ kz))
  where
    half : (p h : ℕ) → p ≡ 2 * h → p / 2 ≡ h → 2 * h / 2 ≡ h
    half p h q r = omega arith

    moved : (m n : ℤ) (h i j : ℕ) → m ≡ n → i ≡ j → Rises n h j → Rises m h i
    moved m n h i j p q r = record { is = ap (λ t. t +ℤ pos h) p ∙ r.is ∙ ap pos (sym q) }

-- numbers below 256 of more bytes are ordered as bytes are
pub byte_order : (r : Relation) (s : Bool) (b x z : ℕ) → 1 < b → x < 256 → z < 256
    → stand_so r s b x z ≡ stand_so r false 1 x z
byte_order r false b x z more k l = by_relation r
  where
    by_relation : (r : Relation) → stand_so r false b x z ≡ stand_so r false 1 x z
    by_relation IsBelow = refl
    by_relation NotLess = refl
    by_relation IsSame = refl
    by_relation NotEqual = refl
byte_order r true b x z more k l = by_relation r
  where
    less : is_less true b x z ≡ nat_lt x z
    less =
        let f = half_of b (omega (arith, more)) in
        let h = f.0 in
        let q = f.1 in
        let two : 256 ^ b ≡ 256 ^ (b - 2) * 65536 =
        (let e : b ≡ (b - 2) + 2 = omega (arith, more) in ap (λ j. 256 ^ j) e ∙ pow-add 256 (b - 2) 2) in
        let some : 0 < 256 ^ (b - 2) = pow_pos (b - 2) in
        let wide : 256 ≤ h = omega (arith, q, two, some) in
        let kx : moved_up b x ≡ x + h = rw (q, halves (256 ^ b) h q f.2) (up_low x h (omega (arith, wide, k))) in
        let kz : moved_up b z ≡ z + h = rw (q, halves (256 ^ b) h q f.2) (up_low z h (omega (arith, wide, l))) in
        ap (λ i. nat_lt i (moved_up b z)) kx ∙ ap (nat_lt (x + h)) kz ∙ both_up x z h
      where
        halves : (p h : ℕ) → p ≡ 2 * h → p / 2 ≡ h → 2 * h / 2 ≡ h
        halves p h q r = omega arith

        both_up : (x z h : ℕ) → nat_lt (x + h) (z + h) ≡ nat_lt x z
        both_up x z h = grind (arith, nat_tests)

    by_relation : (r : Relation) → stand_so r true b x z ≡ stand_so r false 1 x z
    by_relation IsBelow = less
    by_relation NotLess = ap not less
    by_relation IsSame = refl
    by_relation NotEqual = refl

plain_rises : (x : ℕ) → Rises (pos x) 0 x
plain_rises x = record { is = omega (arith, ints) }

ordered : (s : Bool) (b x z : ℕ) → 1 ≤ b → x < 256 ^ b → z < 256 ^ b → IsOrdered s b x z
ordered true b x z some k l = signed_ordered b x z some k l
ordered false b x z some k l = sides false b x z 0 (plain_rises x) (plain_rises z) (λ e. e)

-- ---- operators

-- the first of the operands, or where they are exchanged the second one
abbrev pub first_of_two : Bool → ℕ → ℕ → ℕ
first_of_two false x z = x
first_of_two true x z = z

accepted : (op : BinOp) (r : Relation) (exchanged : Bool) → family_of op ≡ Compared r exchanged → (s : Bool)
    (b x z : ℕ) → IsOrdered s b x z
    → truth (accepts op (int_cmp (number_of_bytes s b x) (number_of_bytes s b z)))
    ≡ pos (from_bool (stand_so r s b (first_of_two exchanged x z) (first_of_two exchanged z x)))
accepted Lt IsBelow false h s b x z (inl o) = rw (o.order, o.below) refl
accepted Lt IsBelow false h s b x z (inr (inl o)) = rw (o.order, o.below) refl
accepted Lt IsBelow false h s b x z (inr (inr o)) = rw (o.order, o.below) refl
accepted Gt IsBelow true h s b x z (inl o) = rw (o.order, o.above) refl
accepted Gt IsBelow true h s b x z (inr (inl o)) = rw (o.order, o.above) refl
accepted Gt IsBelow true h s b x z (inr (inr o)) = rw (o.order, o.above) refl
accepted Le NotLess true h s b x z (inl o) = rw (o.order, o.above) refl
accepted Le NotLess true h s b x z (inr (inl o)) = rw (o.order, o.above) refl
accepted Le NotLess true h s b x z (inr (inr o)) = rw (o.order, o.above) refl
accepted Ge NotLess false h s b x z (inl o) = rw (o.order, o.below) refl
accepted Ge NotLess false h s b x z (inr (inl o)) = rw (o.order, o.below) refl
accepted Ge NotLess false h s b x z (inr (inr o)) = rw (o.order, o.below) refl
accepted Eq IsSame false h s b x z (inl o) = rw (o.order, o.equal) refl
accepted Eq IsSame false h s b x z (inr (inl o)) = rw (o.order, o.equal) refl
accepted Eq IsSame false h s b x z (inr (inr o)) = rw (o.order, o.equal) refl
accepted Ne NotEqual false h s b x z (inl o) = rw (o.order, o.equal) refl
accepted Ne NotEqual false h s b x z (inr (inl o)) = rw (o.order, o.equal) refl
accepted Ne NotEqual false h s b x z (inr (inr o)) = rw (o.order, o.equal) refl
accepted op r exchanged h s b x z o = absurd cc

one_time : (z : ℤ) → z *ℤ pos 1 ≡ z
one_time z = omega (arith, ints)

is_compared : (op : BinOp) (r : Relation) (exchanged : Bool) → family_of op ≡ Compared r exchanged
    → is_comparison op ≡ true
is_compared Lt r exchanged h = refl
is_compared Gt r exchanged h = refl
is_compared Le r exchanged h = refl
is_compared Ge r exchanged h = refl
is_compared Eq r exchanged h = refl
is_compared Ne r exchanged h = refl
is_compared op r exchanged h = absurd cc

-- what a comparison of two integers of one type gives
pub decided : (op : BinOp) (r : Relation) (exchanged : Bool) → family_of op ≡ Compared r exchanged
    → (p : PlainProgram) (ty : PlainType) (mode : Mode) (s : Bool) (b x z : ℕ) (st st1 : State) → 1 ≤ b → x < 256 ^ b
    → z < 256 ^ b
    → binary_result op ty mode (operand_of p (integer s b) (Number (number_of_bytes s b x)) st)
    (operand_of p (integer s b) (Number (number_of_bytes s b z)) st1)
    ≡ Ok (Number (pos (from_bool (stand_so r s b (first_of_two exchanged x z) (first_of_two exchanged z x)))))
decided op r exchanged h p ty mode s b x z st st1 some k l =
    let m = number_of_bytes s b x in
    let n = number_of_bytes s b z in
    let c = is_compared op r exchanged h in
    let q : int_cmp (m *ℤ pos 1) (n *ℤ pos 1) ≡ int_cmp m n = ap (λ t. int_cmp t (n *ℤ pos 1)) (one_time m) ∙ ap (int_cmp m) (one_time n) in
    let t = ap (λ o. truth (accepts op o)) q ∙ accepted op r exchanged h s b x z (ordered s b x z some k l) in
    rw c (ap (λ i. Ok (Number i)) t)
