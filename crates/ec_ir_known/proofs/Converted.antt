-- What is known of a converted integer is so.
use Rattle.std.proofs.Common.{◌≡◌, ◌⊎◌, inl, inr, ⊎_elim, ℕ, zero, suc, ◌+◌, ◌*◌, ◌%◌, ◌^◌, ◌<◌, ◌≤◌, Bool, true, false, ℤ, pos}
use Rattle.std.proofs.Common.{◌-ℤ◌, ◌&&◌, ◌||◌, not, unsigned_abs}
use Rattle.std.proofs.Common.{Option, Some, None, Ok, refl, sym, ap, ◌∙◌, subst, arith, pow-add}
use Rattle.std.specs.Prelude.{◌==◌, if◌then◌else◌, nat_le, nat_lt}
use Rattle.std.specs.Int.{int_rem_euclid}
use Rattle.std.proofs.lemmas.Bool.{eqb-true, and_parts, or_cases}
use Rattle.std.proofs.lemmas.Bool.Decides.{nat_tests}
use native.Mathlib.Nat.{pow-suc}
use Rattle.ec_fx.specs.declared.numbers.Mode.{Mode}
use Rattle.ec_core.specs.declared.values.Value.{Value}
use Rattle.ec_core.specs.declared.values.Value.TheVariants.{Number}
use Rattle.ec_core.specs.Accesses.{operand_of}
use Rattle.ec_core.specs.declared.arithmetic_types.IntegerType.{IntegerType}
use Rattle.ec_core.specs.Integers.{wrapped}
use Rattle.ec_core.specs.Operators.{conversion_result}
use Rattle.ec_core.specs.Plain.{PlainType, void, integer, fixed, pointer, array, struct, PlainProgram}
use Rattle.ec_core.specs.State.{State}
use Rattle.ec_ir.specs.declared.operations.Temp.{Temp}
use Rattle.ec_ir.specs.Temporaries.{Content, bits, points, Held, Temps, low_bytes, number_of_bytes, content_of, value_of_type}
use Rattle.ec_ir_known.specs.declared.known.KnownNumber.{KnownNumber}
use Rattle.ec_ir_known.specs.Known.{Known, of_bytes, is_integer_size, brought, converted, operand_number, known_as, is_any}
use Rattle.ec_ir_known.specs.Known.{is_byte_of, byte_in, bytes_left, byte_where, is_wide, keeps_bytes}
use Rattle.ec_ir_known.specs.Laws.{are_bits}
use Rattle.ec_ir_known.proofs.Places.{known_number, any_number, holding, IsSo, Knows, number_so, byte_so, bytes_left_so}

powers : (b : ℕ) → 2 ^ (8 * b) ≡ 256 ^ b
powers zero = refl
powers (suc b) =
    let e : 8 * suc b ≡ 8 * b + 8 = omega arith in
    ap (λ k. 2 ^ k) e ∙ pow-add 2 (8 * b) 8 ∙ ap (λ t. t * 2 ^ 8) (powers b) ∙ sym (pow-suc 256 b)

-- the number of a type that has a number's low bytes
wrapped_is : (s : Bool) (b : ℕ) (n : ℤ) → number_of_bytes s b (low_bytes b n) ≡ wrapped (record { signed = s; bytes = b }) n
wrapped_is s b n =
    let low = λ (p : ℕ). unsigned_abs (int_rem_euclid n (pos p)) in
    ap (λ (p : ℕ). if s && nat_le p (2 * low p) then pos (low p) -ℤ pos p else pos (low p)) (sym (powers b))

abbrev pub of_type : Bool → ℕ → IntegerType
of_type s b = record { signed = s; bytes = b }

abbrev fact : ℕ → Option ℤ → ℕ → KnownNumber
fact bytes number width = record { bytes = bytes; number = number; width = width }

-- a number of two or four bytes that is below 256 is itself
pub wrapped_byte : (r : Bool) (m low : ℕ) → (m ≡ 2) ⊎ (m ≡ 4) → low < 256 → wrapped (of_type r m) (pos low) ≡ pos low
wrapped_byte r m low (inl q) l = rw q (two r)
  where
    rest : low % 65536 ≡ low
    rest = omega (arith, l)

    small : nat_le 65536 (2 * low) ≡ false
    small = grind (arith, nat_tests, l)

    two : (r : Bool) → wrapped (of_type r 2) (pos low) ≡ pos low
    two true = rw (rest, small) refl
    two false = rw rest refl
wrapped_byte r m low (inr q) l = rw q (four r)
  where
    rest : low % 4294967296 ≡ low
    rest = omega (arith, l)

    small : nat_le 4294967296 (2 * low) ≡ false
    small = grind (arith, nat_tests, l)

    four : (r : Bool) → wrapped (of_type r 4) (pos low) ≡ pos low
    four true = rw (rest, small) refl
    four false = rw rest refl

pub low_of_byte : (b low : ℕ) → low < 256 → low_bytes b (pos low) < 256
low_of_byte b low l = let m : low % 256 ^ b ≤ low = omega arith in omega (arith, m, l)

-- so are the bytes of one, of a type of more bytes than one, or of one byte without a sign
pub wide_bytes : (s : Bool) (b low : ℕ) → (b ≡ 2) ⊎ (b ≡ 4) → low < 256 → number_of_bytes s b low ≡ pos low
wide_bytes s b low (inl q) l = rw q (two s)
  where
    small : nat_le 65536 (2 * low) ≡ false
    small = grind (arith, nat_tests, l)

    two : (s : Bool) → number_of_bytes s 2 low ≡ pos low
    two true = rw small refl
    two false = refl
wide_bytes s b low (inr q) l = rw q (four s)
  where
    small : nat_le 4294967296 (2 * low) ≡ false
    small = grind (arith, nat_tests, l)

    four : (s : Bool) → number_of_bytes s 4 low ≡ pos low
    four true = rw small refl
    four false = refl

pub are_wide : (b : ℕ) → is_wide b ≡ true → (b ≡ 2) ⊎ (b ≡ 4)
are_wide b t =
    ⊎_elim (λ (x : (b == 2) ≡ true). inl (eqb-true b 2 x)) (λ (x : (b == 4) ≡ true). inr (eqb-true b 4 x))
    (or_cases (b == 2) (b == 4) t)

-- what stands where a number is known
pub content_there : (bytes width : ℕ) (n : ℤ) (h : Held) → IsSo (fact bytes (Some n) width) (Some h)
    → h.content ≡ bits (low_bytes bytes n)
content_there bytes width n h so = by_content h.content refl
  where
    by_content : (c : Content) → h.content ≡ c → c ≡ bits (low_bytes bytes n)
    by_content (bits low) q =
        let p = and_parts (h.bytes == bytes) (are_bits (Some n) width bytes h.content) so in
        let t : are_bits (Some n) width bytes (bits low) ≡ true = subst (λ (c : Content). are_bits (Some n) width bytes c ≡ true) q p.1 in
        ap bits (eqb-true low (low_bytes bytes n) t)
    by_content (points p) q =
        let u = and_parts (h.bytes == bytes) (are_bits (Some n) width bytes h.content) so in
        let t : are_bits (Some n) width bytes (points p) ≡ true = subst (λ (c : Content). are_bits (Some n) width bytes c ≡ true) q u.1 in
        absurd cc

byte_there : (bytes low : ℕ) (h : Held) → IsSo (any_number bytes 1) (Some h) → h.content ≡ bits low → low < 256
byte_there bytes low h so q =
    let p = and_parts (h.bytes == bytes) (are_bits None 1 bytes h.content) so in
    let t : nat_lt low 256 ≡ true = subst (λ (c : Content). are_bits None 1 bytes c ≡ true) q p.1 in
    grind (arith, nat_tests, t)

-- the operand is known to hold a number
pub record IsOperand (a : Temp) (b : ℕ) (known : Known) (n : ℤ) : Type 0 where
  pub width : ℕ
  pub operand : known a.at ≡ Some (fact b (Some n) width)

pub is_operand : (a : Temp) (s : Bool) (b : ℕ) (known : Known) (n : ℤ) → operand_number known a (integer s b) ≡ Some n
    → IsOperand a b known n
is_operand a s b known n q = by_size (a.bytes == b) refl q
  where
    by_known : (o : Option KnownNumber) → known a.at ≡ o → a.bytes ≡ b → of_bytes a.bytes o ≡ Some n → IsOperand a b known n
    by_known None i e q = let no : None ≡ Some n = q in absurd cc
    by_known (Some j) i e q = by_bytes (j.bytes == a.bytes) refl q
      where
        by_bytes : (x : Bool) → (j.bytes == a.bytes) ≡ x → (if x then j.number else None) ≡ Some n → IsOperand a b known n
        by_bytes true l q =
            let size : j.bytes ≡ b = eqb-true j.bytes a.bytes l ∙ e in
            let is : j ≡ fact b (Some n) j.width =
            ap (λ (x : ℕ). fact x j.number j.width) size ∙ ap (λ (x : Option ℤ). fact b x j.width) q in
            record { width = j.width; operand = i ∙ ap Some is }
        by_bytes false l q = let no : None ≡ Some n = q in absurd cc

    by_size : (x : Bool) → (a.bytes == b) ≡ x → (if x then of_bytes a.bytes (known a.at) else None) ≡ Some n → IsOperand a b known n
    by_size true l q = by_known (known a.at) refl (eqb-true a.bytes b l) q
    by_size false l q = let no : None ≡ Some n = q in absurd cc

-- or a number below 256
is_byte_operand : (a : Temp) (known : Known) → is_byte_of a.bytes (known a.at) ≡ true → known a.at ≡ Some (any_number a.bytes 1)
is_byte_operand a known q = by_known (known a.at) refl q
  where
    by_known : (o : Option KnownNumber) → known a.at ≡ o → is_byte_of a.bytes o ≡ true → known a.at ≡ Some (any_number a.bytes 1)
    by_known None i q = absurd cc
    by_known (Some j) i q = by_number j.number refl
      where
        p : ((j.bytes == a.bytes) ≡ true) × (is_any j.number j.width 1 ≡ true)
        p = and_parts (j.bytes == a.bytes) (is_any j.number j.width 1) q

        by_number : (o : Option ℤ) → j.number ≡ o → known a.at ≡ Some (any_number a.bytes 1)
        by_number None e =
            let one : (j.width == 1) ≡ true = subst (λ (x : Option ℤ). is_any x j.width 1 ≡ true) e p.1 in
            i ∙ ap Some (ap (λ (x : ℕ). fact x j.number j.width) (eqb-true j.bytes a.bytes p.0)
            ∙ ap (λ (x : Option ℤ). fact a.bytes x j.width) e ∙ ap (any_number a.bytes) (eqb-true j.width 1 one))
        by_number (Some n) e =
            let no : is_any (Some n) j.width 1 ≡ true = subst (λ (x : Option ℤ). is_any x j.width 1 ≡ true) e p.1 in absurd cc

-- bytes below 256 are the same in both types
record AreKept (m : ℕ) (s : Bool) (b : ℕ) : Type 0 where
  more : (m ≡ 2) ⊎ (m ≡ 4)
  same : (low : ℕ) → low < 256 → number_of_bytes s b low ≡ pos low

are_kept : (r : Bool) (m : ℕ) (s : Bool) (b : ℕ) → keeps_bytes (of_type r m) (of_type s b) ≡ true → AreKept m s b
are_kept r m s b q =
    let p = and_parts (is_wide m) (is_wide b || (not s && b == 1)) q in
    record { more = are_wide m p.0; same = λ low l. by_type low l (or_cases (is_wide b) (not s && b == 1) p.1) }
  where
    unsigned : (x : Bool) → not x ≡ true → (low : ℕ) → number_of_bytes x b low ≡ pos low
    unsigned true t low = absurd cc
    unsigned false t low = refl

    by_type : (low : ℕ) → low < 256 → (is_wide b ≡ true) ⊎ ((not s && b == 1) ≡ true) → number_of_bytes s b low ≡ pos low
    by_type low l (inl w) = wide_bytes s b low (are_wide b w) l
    by_type low l (inr w) = unsigned s (and_parts (not s) (b == 1) w).0 low

-- what a conversion leaves
module _ (program : PlainProgram) (to a : Temp) (mode : Mode) (known : Known) (temps : Temps) (h : Held) (x v : Value) (s1 : State)
    (k : KnownNumber) (knows : Knows known temps) (i : temps a.at ≡ Some h) where
  abbrev Left : Type 0
  Left = IsSo k (Some (holding to.bytes (content_of to.bytes v)))

  so_there : (j : KnownNumber) → known a.at ≡ Some j → IsSo j (Some h)
  so_there j q = subst (λ (o : Option Held). IsSo j o) i (knows a.at j q)

  number_left : (r : Bool) (m : ℕ) (s : Bool) (b : ℕ) (n : ℤ) → value_of_type program (integer s b) h.content ≡ Ok x
      → conversion_result (integer r m) mode (operand_of program (integer s b) x s1) ≡ Ok v
      → operand_number known a (integer s b) ≡ Some n
      → known_as to (brought (of_type r m) (of_type s b) n) ≡ Some k → Left
  number_left r m s b n e f q g =
      let w = is_operand a s b known n q in
      let content = content_there b w.width n h (so_there (fact b (Some n) w.width) w.operand) in
      let z = wrapped (of_type s b) n in
      let low = Number (number_of_bytes s b (low_bytes b n)) in
      let seen : value_of_type program (integer s b) h.content ≡ Ok low = ap (value_of_type program (integer s b)) content in
      let both : Ok low ≡ Ok x = sym seen ∙ e in
      let is : low ≡ x = cc in
      let operand : x ≡ Number z = sym is ∙ ap Number (wrapped_is s b n) in
      let w1 = brought (of_type r m) (of_type s b) n in
      let done : conversion_result (integer r m) mode (operand_of program (integer s b) x s1) ≡ Ok (Number w1) =
      ap (λ (y : Value). conversion_result (integer r m) mode (operand_of program (integer s b) y s1)) operand in
      let left : Ok (Number w1) ≡ Ok v = sym done ∙ f in
      let value : Number w1 ≡ v = cc in
      let all : Some (known_number to.bytes w1) ≡ Some k = g in
      let fact_is : known_number to.bytes w1 ≡ k = cc in
      subst (λ (y : KnownNumber). IsSo y (Some (holding to.bytes (content_of to.bytes v)))) fact_is
      (subst (λ (y : Value). IsSo (known_number to.bytes w1) (Some (holding to.bytes (content_of to.bytes y)))) value
      (number_so to.bytes w1))

  kept_left : (r : Bool) (m : ℕ) (s : Bool) (b : ℕ) → AreKept m s b → value_of_type program (integer s b) h.content ≡ Ok x
      → conversion_result (integer r m) mode (operand_of program (integer s b) x s1) ≡ Ok v
      → known a.at ≡ Some (any_number a.bytes 1) → byte_in to ≡ Some k → Left
  kept_left r m s b kept e f q g = by_content h.content refl
    where
      by_content : (c : Content) → h.content ≡ c → Left
      by_content (bits low) c =
          let below = byte_there a.bytes low h (so_there (any_number a.bytes 1) q) c in
          let seen : value_of_type program (integer s b) h.content ≡ Ok (Number (pos low)) =
          ap (value_of_type program (integer s b)) c ∙ ap (λ (n : ℤ). Ok (Number n)) (kept.same low below) in
          let both : Ok (Number (pos low)) ≡ Ok x = sym seen ∙ e in
          let is : Number (pos low) ≡ x = cc in
          let done : conversion_result (integer r m) mode (operand_of program (integer s b) x s1)
          ≡ Ok (Number (wrapped (of_type r m) (pos low))) =
          ap (λ (y : Value). conversion_result (integer r m) mode (operand_of program (integer s b) y s1)) (sym is) in
          let left : Ok (Number (wrapped (of_type r m) (pos low))) ≡ Ok v = sym done ∙ f in
          let value : Number (wrapped (of_type r m) (pos low)) ≡ v = cc in
          let number : v ≡ Number (pos low) = sym value ∙ ap Number (wrapped_byte r m low kept.more below) in
          let all : Some (any_number to.bytes 1) ≡ Some k = g in
          let fact_is : any_number to.bytes 1 ≡ k = cc in
          subst (λ (y : KnownNumber). IsSo y (Some (holding to.bytes (content_of to.bytes v)))) fact_is
          (subst (λ (y : Value). IsSo (any_number to.bytes 1) (Some (holding to.bytes (content_of to.bytes y)))) (sym number)
          (byte_so to.bytes (low_bytes to.bytes (pos low)) (low_of_byte to.bytes low below)))
      by_content (points p) c =
          let none = ap (value_of_type program (integer s b)) (sym c) ∙ e in absurd cc

  integer_left : (r : Bool) (m : ℕ) (s : Bool) (b : ℕ) → value_of_type program (integer s b) h.content ≡ Ok x
      → conversion_result (integer r m) mode (operand_of program (integer s b) x s1) ≡ Ok v
      → converted to (integer r m) (integer s b) (operand_number known a (integer s b)) (is_byte_of a.bytes (known a.at)) ≡ Some k
      → Left
  integer_left r m s b e f g =
      by_operand (operand_number known a (integer s b)) refl (is_byte_of a.bytes (known a.at)) refl g
    where
      by_operand : (o : Option ℤ) → operand_number known a (integer s b) ≡ o → (y : Bool) → is_byte_of a.bytes (known a.at) ≡ y
          → converted to (integer r m) (integer s b) o y ≡ Some k → Left
      by_operand (Some n) q y w g = by_sizes (is_integer_size m && is_integer_size b) g
        where
          by_sizes : (t : Bool) → (if t then known_as to (brought (of_type r m) (of_type s b) n) else bytes_left to) ≡ Some k → Left
          by_sizes true g = number_left r m s b n e f q g
          by_sizes false g = bytes_left_so to v k g
      by_operand None q true w g = by_keeping (keeps_bytes (of_type r m) (of_type s b)) refl g
        where
          by_keeping : (t : Bool) → keeps_bytes (of_type r m) (of_type s b) ≡ t → byte_where to t ≡ Some k → Left
          by_keeping true t g = kept_left r m s b (are_kept r m s b t) e f (is_byte_operand a known w) g
          by_keeping false t g = bytes_left_so to v k g
      by_operand None q false w g = bytes_left_so to v k g

  pub conversion_left : (ty aty : PlainType) → value_of_type program aty h.content ≡ Ok x
      → conversion_result ty mode (operand_of program aty x s1) ≡ Ok v
      → converted to ty aty (operand_number known a aty) (is_byte_of a.bytes (known a.at)) ≡ Some k
      → IsSo k (Some (holding to.bytes (content_of to.bytes v)))
  conversion_left (integer r m) (integer s b) e f q = integer_left r m s b e f q
  conversion_left (integer r m) void e f q = bytes_left_so to v k q
  conversion_left (integer r m) (fixed kind saturates) e f q = bytes_left_so to v k q
  conversion_left (integer r m) (pointer space const target) e f q = bytes_left_so to v k q
  conversion_left (integer r m) (array of len) e f q = bytes_left_so to v k q
  conversion_left (integer r m) (struct index) e f q = bytes_left_so to v k q
  conversion_left void aty e f q = bytes_left_so to v k q
  conversion_left (fixed kind saturates) aty e f q = bytes_left_so to v k q
  conversion_left (pointer space const target) aty e f q = bytes_left_so to v k q
  conversion_left (array of len) aty e f q = bytes_left_so to v k q
  conversion_left (struct index) aty e f q = bytes_left_so to v k q
