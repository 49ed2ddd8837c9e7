-- Shifts of fixed-point numbers that take a known count.
use Rattle.std.proofs.Common.{◌≡◌, ◌≢◌, ◌⊎◌, inl, inr, ℕ, Bool, true, false, Option, Some, None, refl, sym, ap, ◌∙◌, arith}
use Rattle.std.specs.Prelude.{◌==◌, ◌&&◌, ◌||◌, not, if◌then◌else◌}
use Rattle.std.proofs.lemmas.Bool.{and_parts, false≢true}
use Rattle.std.proofs.lemmas.Bool.Decides.{nat_tests}
use Rattle.ec_fx.specs.declared.numbers.Mode.{Mode}
use Rattle.ec_core.specs.declared.expressions.BinOp.{BinOp}
use Rattle.ec_core.specs.declared.expressions.BinOp.TheVariants.{Shl, Shr}
use Rattle.ec_core.specs.Plain.{PlainType, void, integer, fixed, pointer, array, struct}
use Rattle.ec_ir.specs.declared.operations.Temp.{Temp}
use Rattle.ec_ir_known.specs.declared.known.RightNumber.{RightNumber}
use Rattle.ec_select_operations.specs.Code.{family_of, is_as_exact, is_on_integers}
use Rattle.ec_select_operations.specs.Needs.{is_fixed, has_one_format, takes_place, is_placed, is_shift, is_counted, count_taken}
use Rattle.ec_select_operations.specs.Needs.{moves_pointer, takes_whole, number_taken, right_taken, is_number, numbered}
use Rattle.ec_select_functions.proofs.Taken.{TakenNumber, as_known, no_number, HasNumber, number_or_none}

-- a routine that is called is one that is there
pub used_is : (taken : Bool) (routine : Option ℕ) (l : ℕ) → (if taken then None else routine) ≡ Some l → routine ≡ Some l
used_is true routine l q = absurd cc
used_is false routine l q = q

-- ---- operators that shift a fixed-point number in its place, whose count is at another place

pub record IsCounted (op : BinOp) (mode : Mode) (ty aty bty : PlainType) (to b : Temp) : Type 0 where
  pub shift : is_shift op ≡ true
  pub placed : is_placed op mode ty aty bty ≡ true
  pub apart : b.at ≢ to.at

pub counted_is : (op : BinOp) (mode : Mode) (ty aty bty : PlainType) (to b : Temp) → is_counted op mode ty aty bty to b ≡ true
    → IsCounted op mode ty aty bty to b
counted_is op mode ty aty bty to b h =
    let parts = and_parts (is_shift op && is_placed op mode ty aty bty) (not (b.at == to.at)) h in
    let first = and_parts (is_shift op) (is_placed op mode ty aty bty) parts.0 in
    record { shift = first.0; placed = first.1; apart = λ q. differs (b.at == to.at) parts.1 (grind (arith, nat_tests, q)) }
  where
    differs : (x : Bool) → not x ≡ true → x ≡ true → ⊥
    differs true q r = cc
    differs false q r = cc

-- they are none on integers
pub never_on_integers : (op : BinOp) (mode : Mode) (ty aty bty : PlainType) → is_shift op ≡ true
    → is_on_integers (family_of op) mode ty aty bty ≡ false
never_on_integers Shl mode ty aty bty h = none (has_one_format aty bty)
  where
    none : (x : Bool) → (x && false) ≡ false
    none true = refl
    none false = refl
never_on_integers Shr mode ty aty bty h = none (has_one_format aty bty)
  where
    none : (x : Bool) → (x && false) ≡ false
    none true = refl
    none false = refl
never_on_integers op mode ty aty bty h = absurd cc

-- no operator without a fixed-point operand is one
no_format : (ty aty : PlainType) → is_fixed aty ≡ false → has_one_format ty aty ≡ false
no_format (fixed k s) (fixed j t) h = absurd (false≢true (sym h))
no_format (fixed k s) void h = refl
no_format (fixed k s) (integer t n) h = refl
no_format (fixed k s) (pointer t c z) h = refl
no_format (fixed k s) (array z n) h = refl
no_format (fixed k s) (struct n) h = refl
no_format ty aty h = refl

pub not_counted : (op : BinOp) (mode : Mode) (ty aty bty : PlainType) (to b : Temp) → (is_fixed aty || is_fixed bty) ≡ false
    → is_counted op mode ty aty bty to b ≡ false
not_counted op mode ty aty bty to b h =
    ap (λ x. (is_shift op && (x && takes_place op mode (has_one_format aty bty))) && not (b.at == to.at))
    (no_format ty aty (first (is_fixed aty) h)) ∙ none (is_shift op)
  where
    first : (x : Bool) → (x || is_fixed bty) ≡ false → x ≡ false
    first true q = absurd (false≢true (sym q))
    first false q = refl

    none : (x : Bool) → ((x && false) && not (b.at == to.at)) ≡ false
    none true = refl
    none false = refl

-- nor is one on integers
pub none_on_integers : (op : BinOp) (mode : Mode) (ty aty bty : PlainType) → (is_fixed aty || is_fixed bty) ≡ false
    → is_on_integers (family_of op) mode ty aty bty ≡ false
none_on_integers op mode ty aty bty h =
    ap (λ x. x && is_as_exact (family_of op) mode (has_one_format ty aty)) (no_format aty bty (second (is_fixed aty) h))
  where
    second : (x : Bool) → (x || is_fixed bty) ≡ false → is_fixed bty ≡ false
    second true q = absurd (false≢true (sym q))
    second false q = q

-- and those on integers are none
pub on_uncounted : (op : BinOp) (mode : Mode) (ty aty bty : PlainType) (to b : Temp) → is_on_integers (family_of op) mode ty aty bty ≡ true
    → is_counted op mode ty aty bty to b ≡ false
on_uncounted op mode ty aty bty to b on = by_count (is_counted op mode ty aty bty to b) refl
  where
    by_count : (x : Bool) → is_counted op mode ty aty bty to b ≡ x → x ≡ false
    by_count true q =
        absurd (false≢true (sym (never_on_integers op mode ty aty bty (counted_is op mode ty aty bty to b q).shift) ∙ on))
    by_count false q = refl

-- ---- what such operators take, and others do

pub unmoved_takes : (op : BinOp) (mode : Mode) (ty aty bty : PlainType) (to b : Temp) → moves_pointer op aty bty ≡ false
    → takes_whole op mode ty aty bty to b ≡ is_counted op mode ty aty bty to b
unmoved_takes op mode ty aty bty to b q = ap (λ x. x || is_counted op mode ty aty bty to b) q

pub uncounted_takes : (op : BinOp) (mode : Mode) (ty aty bty : PlainType) (to b : Temp) → is_counted op mode ty aty bty to b ≡ false
    → takes_whole op mode ty aty bty to b ≡ moves_pointer op aty bty
uncounted_takes op mode ty aty bty to b q =
    ap (λ x. moves_pointer op aty bty || x) q ∙ same (moves_pointer op aty bty)
  where
    same : (x : Bool) → (x || false) ≡ x
    same true = refl
    same false = refl

pub right_none : (known : Option RightNumber) (counted whole : Bool) (op : BinOp) → count_taken known counted ≡ false
    → number_taken known whole op ≡ None → right_taken known counted whole op ≡ None
right_none None counted whole op c h = refl
right_none (Some n) true whole op c h = by_number (is_number n.number) c
  where
    by_number : (x : Bool) → (x && true) ≡ false → (if x then Some n else None) ≡ None
    by_number true q = absurd (false≢true (sym q))
    by_number false q = refl
right_none (Some n) false whole op c h = ap numbered h

pub right_same : (known : Option RightNumber) (counted whole : Bool) (op : BinOp) → counted ≡ false
    → right_taken known counted whole op ≡ numbered (number_taken known whole op)
right_same None counted whole op c = refl
right_same (Some n) true whole op c = absurd (false≢true (sym c))
right_same (Some n) false whole op c = refl

pub none_counted : (known : Option RightNumber) (counted : Bool) → counted ≡ false → count_taken known counted ≡ false
none_counted None counted h = refl
none_counted (Some n) counted h = ap (λ x. is_number n.number && x) h ∙ none (is_number n.number)
  where
    none : (x : Bool) → (x && false) ≡ false
    none true = refl
    none false = refl

-- where a count is taken, it is known
pub record TakesCount (known : Option RightNumber) (counted : Bool) : Type 0 where
  pub number : TakenNumber
  pub known_is : known ≡ Some (as_known number)
  pub counted_so : counted ≡ true

pub count_is_taken : (known : Option RightNumber) (counted : Bool) → count_taken known counted ≡ true → TakesCount known counted
count_is_taken None counted h = absurd (false≢true h)
count_is_taken (Some n) counted h = by_number (number_or_none n)
  where
    by_number : HasNumber n ⊎ (n ≡ no_number n.in_byte) → TakesCount (Some n) counted
    by_number (inl x) =
        record { number = x.taken; known_is = ap Some x.is; counted_so = (and_parts (is_number n.number) counted h).1 }
    by_number (inr q) =
        absurd (false≢true (ap (λ (x : RightNumber). is_number x.number && counted) (sym q) ∙ h))
