-- Operators whose second operand is a known number.
use Rattle.std.proofs.Common.{◌≡◌, ◌≢◌, ℕ, zero, suc, ◌+◌, ◌*◌, ◌/◌, ◌%◌, ◌^◌, ◌<◌, ◌≤◌, Bool, true, false, ℤ, not}
use Rattle.std.proofs.Common.{pos, negsuc, int_lt, nat_lt, ◌&&◌, ◌||◌, [], ◌∷◌, min}
use Rattle.std.proofs.Common.{Some, None, Option, ◌++◌, refl, sym, ap, ◌∙◌, subst, arith, bit_and, bit_or, eqb-true}
use Rattle.std.specs.Prelude.{◌==◌, if◌then◌else◌}
use Rattle.std.proofs.lemmas.Bool.{and_parts, eq-eqb}
use Rattle.std.proofs.lemmas.Bool.Decides.{nat_tests}
use Rattle.std.proofs.lemmas.Nat.{and_mod, or_mod, div-add-mod'}
use native.Mathlib.Nat.{pow-suc}
use Rattle.ec_asm.specs.declared.pieces.Location.{Location}
use Rattle.ec_asm.specs.declared.pieces.Operator.{Operator}
use Rattle.ec_asm.specs.declared.pieces.Operator.TheVariants.{Sum, Difference, BitAnd, BitOr, BitXor}
use Rattle.ec_asm.specs.View.{View}
use Rattle.ec_asm.specs.Change.{Env, Own}
use Rattle.ec_asm.specs.Items.{block, all_straight, code_steps}
use Rattle.ec_asm.specs.Pieces.{StandsFrom, Outside, value, bitwise}
use Rattle.ec_asm.specs.PieceLaws.{HoldsNumbers}
use Rattle.ec_asm.proofs.Hoare.{block-append}
use Rattle.ec_asm.proofs.Numbers.{value_digit, mod_less, mod_beside, pow_pos}
use Rattle.ec_core.specs.declared.expressions.BinOp.{BinOp}
use Rattle.ec_core.specs.declared.values.ObjectPointer.{ObjectPointer}
use Rattle.ec_core.specs.Plain.{PlainProgram, PlainType, fixed}
use Rattle.ec_fx.specs.declared.formats.FxKind.{FxKind}
use Rattle.ec_core.specs.State.{worked}
use Rattle.ec_ir.specs.declared.operations.Temp.{Temp}
use Rattle.ec_ir.specs.Meaning.{Mach, machine}
use Rattle.ec_ir.specs.Temporaries.{Content, bits, points, Held, Temps, with_content, low_bytes}
use Rattle.ec_ir_known.specs.declared.known.KnownNumber.{KnownNumber}
use Rattle.ec_ir_known.specs.declared.known.RightNumber.{RightNumber}
use Rattle.ec_ir_known.specs.Known.{Known, of_bytes, number_in, is_any, is_byte_of, is_byte, fits_byte, fits_second, is_wide_type, right_of}
use Rattle.ec_ir_known.specs.Known.{changes_byte, takes_alone}
use Rattle.ec_ir_known.specs.Laws.{is_held, are_held, are_bits}
use Rattle.ec_select_bytes.specs.Values.{byte_of}
use Rattle.ec_select_numbers.specs.declared.operators.ByNumber.{ByNumber}
use Rattle.ec_select_numbers.specs.declared.operators.ByNumber.TheVariants.{Subtract, Mask, Set}
use Rattle.ec_select_numbers.specs.ByNumber.{as_operator, changed_code}
use Rattle.ec_select_numbers.specs.Laws.{KeepsBeside}
use Rattle.ec_select_operations.specs.Code.{move_code, changed_by_code}
use Rattle.ec_select_operations.specs.Homes.{HasHome}
use Rattle.ec_select_operations.specs.Needs.{Need, at_least, without, wanted, compared_bytes, number_known}
use Rattle.ec_select_functions.proofs.Computed.{result_of, result_below, results, stand, moved_numbers}
use Rattle.ec_select_functions.proofs.Match.{kept_left, wanted_most, least_here, least_other, without_other, at_width}
use Rattle.ec_select_functions.proofs.Match.{read_first, written_wide, held_row}
use Rattle.ec_select_functions.proofs.Moves.{Wide, Quiet, widened, beside_work, wider_frame, wider_wide, work_outside, narrower}
use Rattle.ec_select_functions.proofs.Moves.{row_value}
use Rattle.ec_select_functions.proofs.Moves.{move_holds}
use Rattle.ec_select_functions.proofs.Setting.{Setting, NumberLaws}
use Rattle.ec_select_functions.proofs.Taken.{is_changed, TakenNumber, as_known, no_number}
use Rattle.ec_select_functions.proofs.Wrapped.{low_part, low_below, kept_below, powers, byte_of_bitwise, value_of_bytes}
use Rattle.ec_select_functions.specs.Relation.{Matches}

-- ---- what is held

-- a temporary holds the number that it is known to hold
number_held : (o : Option KnownNumber) (h : Option Held) (bytes low : ℕ) (k : ℤ) → is_held o h ≡ true
    → of_bytes bytes o ≡ Some k → h ≡ Some (record { bytes = bytes; content = bits low }) → low ≡ low_bytes bytes k
number_held None h bytes low k q r s = absurd cc
number_held (Some n) h bytes low k q r s = by_size (n.bytes == bytes) refl r
  where
    t : is_held (Some n) (Some (record { bytes = bytes; content = bits low })) ≡ true
    t = subst (λ (x : Option Held). is_held (Some n) x ≡ true) s q

    by_size : (x : Bool) → (n.bytes == bytes) ≡ x → (if x then n.number else None) ≡ Some k → low ≡ low_bytes bytes k
    by_size false e r = let no : None ≡ Some k = r in absurd cc
    by_size true e r =
        let parts = and_parts (bytes == n.bytes) (are_bits n.number n.width n.bytes (bits low)) t in
        let size : n.bytes ≡ bytes = eqb-true n.bytes bytes e in
        let there : are_bits (Some k) n.width bytes (bits low) ≡ true =
        subst (λ (x : ℕ). are_bits (Some k) n.width x (bits low) ≡ true) size
        (subst (λ (x : Option ℤ). are_bits x n.width n.bytes (bits low) ≡ true) r parts.1) in
        eqb-true low (low_bytes bytes k) there

-- or one below 256
byte_held : (o : Option KnownNumber) (h : Option Held) (bytes low : ℕ) → is_held o h ≡ true → is_byte_of bytes o ≡ true
    → h ≡ Some (record { bytes = bytes; content = bits low }) → low < 256
byte_held None h bytes low q r s = absurd cc
byte_held (Some n) h bytes low q r s = by_number n.number refl
  where
    t : is_held (Some n) (Some (record { bytes = bytes; content = bits low })) ≡ true
    t = subst (λ (x : Option Held). is_held (Some n) x ≡ true) s q

    any : is_any n.number n.width 1 ≡ true
    any = (and_parts (n.bytes == bytes) (is_any n.number n.width 1) r).1

    there : are_bits n.number n.width n.bytes (bits low) ≡ true
    there = (and_parts (bytes == n.bytes) (are_bits n.number n.width n.bytes (bits low)) t).1

    by_number : (x : Option ℤ) → n.number ≡ x → low < 256
    by_number None e =
        let one : (n.width == 1) ≡ true = subst (λ (x : Option ℤ). is_any x n.width 1 ≡ true) e any in
        let l : nat_lt low 256 ≡ true =
        subst (λ (x : ℕ). nat_lt low (256 ^ x) ≡ true) (eqb-true n.width 1 one)
        (subst (λ (x : Option ℤ). are_bits x n.width n.bytes (bits low) ≡ true) e there) in
        grind (arith, nat_tests, l)
    by_number (Some k) e =
        let no : is_any (Some k) n.width 1 ≡ true = subst (λ (x : Option ℤ). is_any x n.width 1 ≡ true) e any in absurd cc

-- several bytes below 256 are those of no pointer
byte_points : (o : Option KnownNumber) (h : Option Held) (bytes : ℕ) (q : ObjectPointer) → is_held o h ≡ true
    → is_byte_of bytes o ≡ true → 1 < bytes → h ≢ Some (record { bytes = bytes; content = points q })
byte_points None h bytes q held r l s = absurd cc
byte_points (Some n) h bytes q held r l s = by_number n.number refl
  where
    t : is_held (Some n) (Some (record { bytes = bytes; content = points q })) ≡ true
    t = subst (λ (x : Option Held). is_held (Some n) x ≡ true) s held

    parts : ((n.bytes == bytes) ≡ true) × (is_any n.number n.width 1 ≡ true)
    parts = and_parts (n.bytes == bytes) (is_any n.number n.width 1) r

    there : are_bits n.number n.width n.bytes (points q) ≡ true
    there = (and_parts (bytes == n.bytes) (are_bits n.number n.width n.bytes (points q)) t).1

    by_number : (x : Option ℤ) → n.number ≡ x → ⊥
    by_number None e =
        let all : (n.bytes == n.width) ≡ true =
        subst (λ (x : Option ℤ). are_bits x n.width n.bytes (points q) ≡ true) e there in
        let one : (n.width == 1) ≡ true = subst (λ (x : Option ℤ). is_any x n.width 1 ≡ true) e parts.1 in
        let size = eqb-true n.bytes bytes parts.0 in
        let same = eqb-true n.bytes n.width all in
        let first = eqb-true n.width 1 one in
        absurd (omega (arith, size, same, first, l))
    by_number (Some k) e =
        let no : is_any (Some k) n.width 1 ≡ true = subst (λ (x : Option ℤ). is_any x n.width 1 ≡ true) e parts.1 in absurd cc

-- so many bytes of what a branch tests tell whether it is 0
pub record AreTested (t : Temp) (size : ℕ) (temps : Temps) : Type 0 where
  pub some : 1 ≤ size
  pub within : size ≤ t.bytes
  pub number : (low : ℕ) → temps t.at ≡ Some (record { bytes = t.bytes; content = bits low }) → low < 256 ^ t.bytes → low < 256 ^ size
  pub pointer : (q : ObjectPointer) → temps t.at ≡ Some (record { bytes = t.bytes; content = points q }) → size ≡ t.bytes

pub tested_held : (known : Known) (t : Temp) (temps : Temps) → 1 ≤ t.bytes → are_held known temps (t.at ∷ []) ≡ true
    → AreTested t (compared_bytes (right_of false (fits_byte known t) false (Some (pos 0))) t.bytes) temps
tested_held known t temps some held = by_byte (fits_byte known t) refl
  where
    first : is_held (known t.at) (temps t.at) ≡ true
    first = (and_parts (is_held (known t.at) (temps t.at)) true held).0

    by_byte : (x : Bool) → fits_byte known t ≡ x → AreTested t (compared_bytes (right_of false x false (Some (pos 0))) t.bytes) temps
    by_byte false e = record { some = some; within = omega arith; number = λ low s l. l; pointer = λ q s. refl }
    by_byte true e =
        let sides = and_parts (nat_lt 1 t.bytes) (is_byte_of t.bytes (known t.at)) e in
        let wide = sides.0 in
        let more : 1 < t.bytes = grind (arith, nat_tests, wide) in
        let one : 1 ≡ min 1 t.bytes = omega (arith, more) in
        subst (λ (j : ℕ). AreTested t j temps) one
        (record {
          some = omega arith;
          within = omega (arith, more);
          number = λ low s l. byte_held (known t.at) (temps t.at) t.bytes low first sides.1 s;
          pointer = λ q s. absurd (byte_points (known t.at) (temps t.at) t.bytes q first sides.1 more s);
        })

-- what is held of operands of which the second one is known to hold a number
pub record HoldsRight (a b : Temp) (k : TakenNumber) (temps : Temps) : Type 0 where
  pub number : (low : ℕ) → temps b.at ≡ Some (record { bytes = b.bytes; content = bits low }) → low ≡ low_bytes b.bytes k.number
  pub byte : k.in_byte ≡ true → (1 < a.bytes) × (is_byte k.number ≡ true)
      × ((low : ℕ) → temps a.at ≡ Some (record { bytes = a.bytes; content = bits low }) → low < 256)

-- or of which it is only known that both are below 256
pub record AreBytes (a b : Temp) (temps : Temps) : Type 0 where
  pub more : 1 < a.bytes
  pub left : (low : ℕ) → temps a.at ≡ Some (record { bytes = a.bytes; content = bits low }) → low < 256
  pub right : (low : ℕ) → temps b.at ≡ Some (record { bytes = b.bytes; content = bits low }) → low < 256

-- or of which the second one alone is, and does not stand at the result's place
pub record IsAlone (to b : Temp) (temps : Temps) : Type 0 where
  pub apart : to.at ≢ b.at
  pub below : (low : ℕ) → temps b.at ≡ Some (record { bytes = b.bytes; content = bits low }) → low < 256

none_of_both : (x byte : Bool) (k : TakenNumber)
    → (if x then Some (record { number = None; in_byte = byte }) else None) ≡ Some (as_known k) → ⊥
none_of_both false byte k q = let no : None ≡ Some (as_known k) = q in absurd cc
none_of_both true byte k q =
    let is : record { number = None; in_byte = byte } ≡ as_known k = cc in
    let no : None ≡ Some k.number = ap (λ (x : RightNumber). x.number) is in absurd cc

pub right_held : (known : Known) (alone : Bool) (a b : Temp) (bty : PlainType) (k : TakenNumber) (temps : Temps)
    → right_of alone (fits_byte known a) (fits_second known b bty) (number_in known b) ≡ Some (as_known k)
    → are_held known temps (b.at ∷ a.at ∷ []) ≡ true → HoldsRight a b k temps
right_held known alone a b bty k temps q held = by_number (number_in known b) refl q
  where
    both : (is_held (known b.at) (temps b.at) ≡ true) × ((is_held (known a.at) (temps a.at) && true) ≡ true)
    both = and_parts (is_held (known b.at) (temps b.at)) (is_held (known a.at) (temps a.at) && true) held

    first : is_held (known a.at) (temps a.at) ≡ true
    first = (and_parts (is_held (known a.at) (temps a.at)) true both.1).0

    byte : Bool
    byte = fits_byte known a

    by_number : (o : Option ℤ) → number_in known b ≡ o → right_of alone byte (fits_second known b bty) o ≡ Some (as_known k)
        → HoldsRight a b k temps
    by_number None e q = absurd (none_of_both ((alone || byte) && fits_second known b bty) (not alone) k q)
    by_number (Some n) e q =
        let is : record { number = Some n; in_byte = byte && is_byte n } ≡ as_known k = cc in
        let some : Some n ≡ Some k.number = ap (λ (x : RightNumber). x.number) is in
        let number : n ≡ k.number = cc in
        record {
          number = λ low s. number_held (known b.at) (temps b.at) b.bytes low k.number both.0 (e ∙ ap Some number) s;
          byte = λ z.
              let in_byte : (byte && is_byte n) ≡ true = ap (λ (x : RightNumber). x.in_byte) is ∙ z in
              let parts = and_parts byte (is_byte n) in_byte in
              let sides = and_parts (nat_lt 1 a.bytes) (is_byte_of a.bytes (known a.at)) parts.0 in
              let more = sides.0 in (
                grind (arith, nat_tests, more),
                subst (λ (x : ℤ). is_byte x ≡ true) number parts.1,
                λ low s. byte_held (known a.at) (temps a.at) a.bytes low first sides.1 s,
              );
        }

pub number_there : (known : Known) (alone : Bool) (a b : Temp) (bty : PlainType) (k : ℤ) (temps : Temps)
    → number_known (right_of alone (fits_byte known a) (fits_second known b bty) (number_in known b)) ≡ Some k
    → are_held known temps (b.at ∷ a.at ∷ []) ≡ true
    → (low : ℕ) → temps b.at ≡ Some (record { bytes = b.bytes; content = bits low }) → low ≡ low_bytes b.bytes k
number_there known alone a b bty k temps q held low s = by_number (number_in known b) refl q
  where
    first : is_held (known b.at) (temps b.at) ≡ true
    first = (and_parts (is_held (known b.at) (temps b.at)) (is_held (known a.at) (temps a.at) && true) held).0

    none : (x : Bool) → number_known (if x then Some (record { number = None; in_byte = not alone }) else None) ≡ None
    none true = refl
    none false = refl

    by_number : (o : Option ℤ) → number_in known b ≡ o
        → number_known (right_of alone (fits_byte known a) (fits_second known b bty) o) ≡ Some k → low ≡ low_bytes b.bytes k
    by_number None e q =
        let no : None ≡ Some k = sym (none ((alone || fits_byte known a) && fits_second known b bty)) ∙ q in absurd cc
    by_number (Some n) e q =
        let is : Some n ≡ Some k = q in number_held (known b.at) (temps b.at) b.bytes low k first (e ∙ is) s

-- a pointer is no known number
number_points : (o : Option KnownNumber) (h : Option Held) (bytes : ℕ) (q : ObjectPointer) (k : ℤ) → is_held o h ≡ true
    → of_bytes bytes o ≡ Some k → h ≢ Some (record { bytes = bytes; content = points q })
number_points None h bytes q k held r s = absurd cc
number_points (Some n) h bytes q k held r s = by_size (n.bytes == bytes) r
  where
    t : is_held (Some n) (Some (record { bytes = bytes; content = points q })) ≡ true
    t = subst (λ (x : Option Held). is_held (Some n) x ≡ true) s held

    by_size : (x : Bool) → (if x then n.number else None) ≡ Some k → ⊥
    by_size false r = let no : None ≡ Some k = r in absurd cc
    by_size true r =
        let parts = and_parts (bytes == n.bytes) (are_bits n.number n.width n.bytes (points q)) t in
        let no : are_bits (Some k) n.width n.bytes (points q) ≡ true =
        subst (λ (x : Option ℤ). are_bits x n.width n.bytes (points q) ≡ true) r parts.1 in
        absurd cc

-- a temporary that is stored holds the number that it is known to hold
pub stored_held : (known : Known) (t : Temp) (k : ℤ) (temps : Temps)
    → number_known (right_of false false false (number_in known t)) ≡ Some k → are_held known temps (t.at ∷ []) ≡ true
    → (c : Content) → temps t.at ≡ Some (record { bytes = t.bytes; content = c }) → c ≡ bits (low_bytes t.bytes k)
stored_held known t k temps q held c s = by_content c s
  where
    first : is_held (known t.at) (temps t.at) ≡ true
    first = (and_parts (is_held (known t.at) (temps t.at)) true held).0

    by_number : (o : Option ℤ) → number_known (right_of false false false o) ≡ Some k → o ≡ Some k
    by_number None r = let no : None ≡ Some k = r in absurd cc
    by_number (Some n) r = r

    number : number_in known t ≡ Some k
    number = by_number (number_in known t) q

    by_content : (c : Content) → temps t.at ≡ Some (record { bytes = t.bytes; content = c }) → c ≡ bits (low_bytes t.bytes k)
    by_content (bits low) s = ap bits (number_held (known t.at) (temps t.at) t.bytes low k first number s)
    by_content (points p) s = absurd (number_points (known t.at) (temps t.at) t.bytes p k first number s)

-- what is known of operands, of which no number is
record IsOfBytes (known : Known) (alone : Bool) (a b : Temp) (bty : PlainType) (byte : Bool) : Type 0 where
  which : byte ≡ not alone
  first : (alone || fits_byte known a) ≡ true
  second : fits_second known b bty ≡ true

of_bytes_known : (known : Known) (alone : Bool) (a b : Temp) (bty : PlainType) (byte : Bool)
    → right_of alone (fits_byte known a) (fits_second known b bty) (number_in known b) ≡ Some (no_number byte)
    → IsOfBytes known alone a b bty byte
of_bytes_known known alone a b bty byte q = by_number (number_in known b) q
  where
    by_both : (x : Bool) → ((alone || fits_byte known a) && fits_second known b bty) ≡ x
        → (if x then Some (no_number (not alone)) else None) ≡ Some (no_number byte) → IsOfBytes known alone a b bty byte
    by_both false e q = let no : None ≡ Some (no_number byte) = q in absurd cc
    by_both true e q =
        let is : no_number (not alone) ≡ no_number byte = cc in
        let parts = and_parts (alone || fits_byte known a) (fits_second known b bty) e in
        record { which = sym (ap (λ (x : RightNumber). x.in_byte) is); first = parts.0; second = parts.1 }

    by_number : (o : Option ℤ) → right_of alone (fits_byte known a) (fits_second known b bty) o ≡ Some (no_number byte)
        → IsOfBytes known alone a b bty byte
    by_number None q = by_both ((alone || fits_byte known a) && fits_second known b bty) refl q
    by_number (Some n) q =
        let is : record { number = Some n; in_byte = fits_byte known a && is_byte n } ≡ no_number byte = cc in
        let no : Some n ≡ None = ap (λ (x : RightNumber). x.number) is in absurd cc

second_below : (known : Known) (a b : Temp) (bty : PlainType) (temps : Temps) → fits_second known b bty ≡ true
    → are_held known temps (b.at ∷ a.at ∷ []) ≡ true
    → (low : ℕ) → temps b.at ≡ Some (record { bytes = b.bytes; content = bits low }) → low < 256
second_below known a b bty temps q held low s =
    let both = and_parts (is_held (known b.at) (temps b.at)) (is_held (known a.at) (temps a.at) && true) held in
    let second = and_parts (is_wide_type bty) (fits_byte known b) q in
    let right = and_parts (nat_lt 1 b.bytes) (is_byte_of b.bytes (known b.at)) second.1 in
    byte_held (known b.at) (temps b.at) b.bytes low both.0 right.1 s

pub bytes_held : (known : Known) (alone : Bool) (a b : Temp) (bty : PlainType) (temps : Temps)
    → right_of alone (fits_byte known a) (fits_second known b bty) (number_in known b) ≡ Some (no_number true)
    → are_held known temps (b.at ∷ a.at ∷ []) ≡ true → AreBytes a b temps
bytes_held known alone a b bty temps q held =
    let is = of_bytes_known known alone a b bty true q in
    let both = and_parts (is_held (known b.at) (temps b.at)) (is_held (known a.at) (temps a.at) && true) held in
    let first = (and_parts (is_held (known a.at) (temps a.at)) true both.1).0 in
    let left = and_parts (nat_lt 1 a.bytes) (is_byte_of a.bytes (known a.at)) (not_alone alone (fits_byte known a) is.which is.first) in
    let more = left.0 in
    record {
      more = grind (arith, nat_tests, more);
      left = λ low s. byte_held (known a.at) (temps a.at) a.bytes low first left.1 s;
      right = second_below known a b bty temps is.second held;
    }
  where
    not_alone : (x z : Bool) → true ≡ not x → (x || z) ≡ true → z ≡ true
    not_alone true z q r = absurd cc
    not_alone false z q r = r

pub alone_held : (known : Known) (op : BinOp) (to a b : Temp) (bty : PlainType) (temps : Temps)
    → right_of (takes_alone op to b) (fits_byte known a) (fits_second known b bty) (number_in known b) ≡ Some (no_number false)
    → are_held known temps (b.at ∷ a.at ∷ []) ≡ true → IsAlone to b temps
alone_held known op to a b bty temps q held =
    let is = of_bytes_known known (takes_alone op to b) a b bty false q in
    let parts = and_parts (changes_byte op) (not (b.at == to.at)) (so (takes_alone op to b) is.which) in
    let other = parts.1 in
    record {
      apart = λ e. let same : (b.at == to.at) ≡ true = eq-eqb b.at to.at (sym e) in not_both (b.at == to.at) same other;
      below = second_below known a b bty temps is.second held;
    }
  where
    so : (x : Bool) → false ≡ not x → x ≡ true
    so true q = refl
    so false q = absurd cc

    not_both : (x : Bool) → x ≡ true → not x ≡ true → ⊥
    not_both true q r = absurd cc
    not_both false q r = absurd cc

-- a fixed-point operand is none of those that are known to be below 256
pub on_no_bytes : (known : Known) (alone : Bool) (a b : Temp) (bty : PlainType) (kind : FxKind) (saturates byte : Bool)
    → bty ≡ fixed kind saturates
    → right_of alone (fits_byte known a) (fits_second known b bty) (number_in known b) ≡ Some (no_number byte) → ⊥
on_no_bytes known alone a b bty kind saturates byte is q =
    let second = (of_bytes_known known alone a b bty byte q).second in
    let no : fits_second known b (fixed kind saturates) ≡ true = subst (λ (x : PlainType). fits_second known b x ≡ true) is second in
    absurd cc

-- ---- numbers below 256

pub record ByteNumber (k : ℤ) : Type 0 where
  pub value : ℕ
  pub is : k ≡ pos value
  pub below : value < 256

pub byte_value : (k : ℤ) → is_byte k ≡ true → ByteNumber k
byte_value (pos x) q =
    let p = and_parts (not (int_lt (pos x) (pos 0))) (int_lt (pos x) (pos 256)) q in
    let l = p.1 in
    record { value = x; is = refl; below = grind (arith, nat_tests, l) }
byte_value (negsuc x) q = absurd cc

pub byte_power : (b : ℕ) → 1 ≤ b → 256 ≤ 256 ^ b
byte_power zero l = absurd (omega arith)
byte_power (suc b) l = let e : 256 ^ suc b ≡ 256 ^ b * 256 = pow-suc 256 b in let p = pow_pos b in omega (arith, e, p)

low_of_byte : (b x : ℕ) → 1 ≤ b → x < 256 → low_bytes b (pos x) ≡ x
low_of_byte b x l m = let p = byte_power b l in kept_below x (256 ^ b) (omega (arith, p, m))

-- its low bytes are itself
pub byte_bytes : (k : ℤ) (b : ℕ) (q : is_byte k ≡ true) → 1 ≤ b → low_bytes b k ≡ (byte_value k q).value
byte_bytes k b q l =
    let v = byte_value k q in ap (low_bytes b) v.is ∙ low_of_byte b v.value l v.below

-- ---- numbers

sum_low : (x z n : ℕ) → (x + z) % 256 ^ n ≡ (x + z % 256 ^ n) % 256 ^ n
sum_low x z n =
    let d = div-add-mod' z (256 ^ n) in
    let e : x + z ≡ z / 256 ^ n * 256 ^ n + (x + z % 256 ^ n) = omega (arith, d) in
    ap (λ t. t % 256 ^ n) e ∙ mod_beside (z / 256 ^ n) (256 ^ n) (x + z % 256 ^ n) (pow_pos n)

-- of the second operand the low bytes are enough
bits_low : (f : ℕ → ℕ → ℕ) → ((x z k : ℕ) → f x z % 2 ^ k ≡ f (x % 2 ^ k) (z % 2 ^ k)) → (x z n : ℕ)
    → f x z % 256 ^ n ≡ f x (z % 256 ^ n) % 256 ^ n
bits_low f h x z n =
    let g : (u : ℕ) → f x u % 256 ^ n ≡ f (x % 256 ^ n) (u % 256 ^ n) =
    λ u. subst (λ (m : ℕ). f x u % m ≡ f (x % m) (u % m)) (powers n) (h x u (8 * n)) in
    g z ∙ ap (λ t. f (x % 256 ^ n) t) (sym (mod_less z n n (omega arith))) ∙ sym (g (z % 256 ^ n))

-- n bytes from b are the result, of what stood there and the low bytes of a number, and all else is kept
pub record Changes (op : Operator) (v w : View) (b n number : ℕ) : Type 0 where
  pub result : value w.at b n ≡ result_of op n (value v.at b n) (number % 256 ^ n)
  pub numbers : HoldsNumbers w
  pub frame : Wide v w b n
  pub quiet : Quiet v w

kept_quiet : (v w : View) (b n : ℕ) → KeepsBeside v w b n → Quiet v w
kept_quiet v w b n k = record { inputs = k.inputs; safe = k.safe; seen = k.seen }

module _ (laws : NumberLaws) (e : Env) (q : Location) (n b number : ℕ) (v : View) (few : n ≤ 16) (small : number < 256 ^ 16)
    (stands : StandsFrom e q n b Own) (apart : Outside b n 30) (h : HoldsNumbers v) where
  digits : (op : ByNumber) → (operator : Operator) → as_operator op ≡ operator → op ≢ Subtract
      → value (block e (changed_code op q number n) v).at b n ≡ bitwise operator (value v.at b n) number % 256 ^ n
  digits op operator is other =
      let w = block e (changed_code op q number n) v in
      let x = value v.at b n in
      let k = laws.bits op e q number n b v other stands apart h in
      value_of_bytes w.at b n (bitwise operator x number)
      (λ j l. k.1 j l
      ∙ ap (λ (o : Operator). bitwise o (v.at (b + j)) (byte_of number j)) is
      ∙ ap (λ (t : ℕ). bitwise operator t (byte_of number j)) (sym (value_digit v.at b n j (held_row v b n stands.clear h) l))
      ∙ sym (byte_of_bitwise operator x number j))

  pub changes : (op : Operator) → is_changed op ≡ true → Changes op v (block e (changed_by_code op q number n) v) b n number
  changes Sum is =
      let k = laws.added e q number n b v few small stands apart h in
      let w = block e (changed_by_code Sum q number n) v in
      record {
        result = k.1 ∙ sum_low (value v.at b n) number n;
        numbers = k.0.bytes;
        frame = beside_work v w b n k.0.same;
        quiet = kept_quiet v w b n k.0;
      }
  changes Difference is =
      let k = laws.subtracted e q number n b v stands apart h in
      let w = block e (changed_by_code Difference q number n) v in
      record { result = k.1; numbers = k.0.bytes; frame = beside_work v w b n k.0.same; quiet = kept_quiet v w b n k.0 }
  changes BitAnd is =
      let k = laws.bits Mask e q number n b v (λ r. cc) stands apart h in
      let w = block e (changed_by_code BitAnd q number n) v in
      record {
        result = digits Mask BitAnd refl (λ r. cc) ∙ bits_low bit_and and_mod (value v.at b n) number n;
        numbers = k.0.bytes;
        frame = beside_work v w b n k.0.same;
        quiet = kept_quiet v w b n k.0;
      }
  changes BitOr is =
      let k = laws.bits Set e q number n b v (λ r. cc) stands apart h in
      let w = block e (changed_by_code BitOr q number n) v in
      record {
        result = digits Set BitOr refl (λ r. cc) ∙ bits_low bit_or or_mod (value v.at b n) number n;
        numbers = k.0.bytes;
        frame = beside_work v w b n k.0.same;
        quiet = kept_quiet v w b n k.0;
      }
  changes BitXor is = absurd cc

-- the code is straight, and short
pub changed_form : NumberLaws → (op : Operator) (q : Location) (number n : ℕ)
    → (all_straight (changed_by_code op q number n) ≡ true) × (code_steps (changed_by_code op q number n) ≤ 3 * n)
changed_form laws Sum q number n = let k = (laws.straight Subtract q _ n).0 in (k.is_straight, k.few_steps)
changed_form laws Difference q number n = let k = (laws.straight Subtract q number n).0 in (k.is_straight, k.few_steps)
changed_form laws BitAnd q number n = let k = (laws.straight Mask q number n).0 in (k.is_straight, k.few_steps)
changed_form laws BitOr q number n = let k = (laws.straight Set q number n).0 in (k.is_straight, k.few_steps)
changed_form laws BitXor q number n = (refl, omega arith)

-- ---- what is matched

-- the low bytes of a number of up to 16 bytes
pub number_low : (k : ℤ) (n bytes : ℕ) → n ≤ bytes → bytes ≤ 16 → low_bytes 16 k % 256 ^ n ≡ low_bytes bytes k % 256 ^ n
number_low k n bytes l m = low_part k n 16 (omega arith) ∙ sym (low_part k n bytes l)

module _ (p : PlainProgram) (e : Env) (slots : ℕ) (home : Temp → Location) (base : Temp → ℕ) (place : ℕ → ℕ)
    (y : Setting p e slots home base place) where
  abbrev N : Need → Mach → View → Type 0
  N need m v = Matches p e y.inputs slots base place y.aside y.stands y.active y.called need m v

  -- the first operand is brought to the result's place, and changed there
  pub number_matches : (op : Operator) → is_changed op ≡ true → (t a : Temp) (k : ℤ) (need : Need) (m : Mach) (v : View) (c x : ℕ)
      → HasHome slots t → HasHome slots a → a.bytes ≡ t.bytes → m.temps a.at ≡ Some (record { bytes = a.bytes; content = bits x })
      → N (at_least a.at (wanted need t) (without t.at need)) m v
      → N need (machine (with_content t (bits (result_of op t.bytes x (low_bytes t.bytes k))) m.temps) (worked c m.state))
      (block e (move_code (home a) (home t) (wanted need t) ++ changed_by_code op (home t) (low_bytes 16 k) (wanted need t)) v)
  number_matches op is t a k need m v c x it ia sa qa h =
      let n = wanted need t in
      let number = low_bytes 16 k in
      let z = low_bytes t.bytes k in
      let need0 = at_least a.at n (without t.at need) in
      let most : n ≤ t.bytes = wanted_most need t in
      let less_a : n ≤ a.bytes = omega arith in
      let eight = it.most in
      let some_a = (y.layout.temps_at a ia).clear in
      let here_a = least_here a.at n (without t.at need) in
      let wide_a : n ≤ wanted need0 a = omega (arith, here_a, less_a) in
      let xa = at_width p e slots home base place y need0 m v a _ n h ia qa refl wide_a in
      let v1 = block e (move_code (home a) (home t) n) v in
      let moved =
      move_holds e (home a) (home t) n (base a) (base t) v (stand p e slots home base place y a n ia less_a)
      (stand p e slots home base place y t n it most) (read_first p e slots home base place y t a n it ia less_a) h.bytes in
      let numbers1 = moved_numbers p e slots home base place y v v1 (base a) (base t) n some_a h.bytes moved in
      let v2 = block e (changed_by_code op (home t) number n) v1 in
      let o : Changes op v1 v2 (base t) n number =
      changes y.numbers e (home t) n (base t) number v1 (omega arith) (low_below 16 k)
      (stand p e slots home base place y t n it most)
      (narrower (base t) t.bytes n 30 most (work_outside (base t) t.bytes (y.layout.temps_work t it))) numbers1 op is in
      let left : value v1.at (base t) n ≡ x % 256 ^ n = row_value v1.at v.at (base a) (base t) n moved.there ∙ xa.0 in
      let below : z < 256 ^ t.bytes = low_below t.bytes k in
      let result : value v2.at (base t) n ≡ result_of op t.bytes x z % 256 ^ n =
      o.result ∙ ap (λ i. result_of op n i (number % 256 ^ n)) left
      ∙ ap (result_of op n (x % 256 ^ n)) (number_low k n t.bytes most (omega arith))
      ∙ results op n t.bytes x z most (omega (arith, below)) in
      let first_frame = widened v v1 (base t) t.bytes (wider_frame v v1 (base t) t.bytes n most moved.frame) in
      let frame : Wide v v2 (base t) t.bytes =
      λ i d f low high r. wider_wide v1 v2 (base t) t.bytes n most o.frame i d f low high r
      ∙ first_frame i d f low high r in
      rw (block-append e (move_code (home a) (home t) n) (changed_by_code op (home t) number n) v)
      (written_wide p e slots home base place y t (bits (result_of op t.bytes x z)) need need0 m (worked c m.state) v v2 it h
      (λ i r. still i r) frame (result, result_below op t.bytes x z) o.numbers refl (o.quiet.seen ∙ moved.quiet.seen ∙ h.seen)
      (kept_left y.inputs m.state v v2 (o.quiet.inputs ∙ moved.quiet.inputs) h.left) (o.quiet.safe ∙ moved.quiet.safe ∙ h.safe))
    where
      still : (i : ℕ) → i ≢ t.at → need i ≤ at_least a.at (wanted need t) (without t.at need) i
      still i r =
          let d = without_other t.at i need r in
          let f = least_other a.at (wanted need t) i (without t.at need) in
          omega arith
