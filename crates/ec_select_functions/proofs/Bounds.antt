-- How a number stands to a known one: what its comparison leaves in a flag, and the truth value.
use Rattle.std.proofs.Common.{◌≡◌, ℕ, suc, ◌+◌, ◌*◌, ◌%◌, ◌^◌, ◌≤◌, Bool, true, false, not, refl, sym, ap, ◌∙◌, arith}
use Rattle.std.specs.Prelude.{◌==◌, ◌&&◌, if◌then◌else◌}
use Rattle.std.specs.Int.{from_bool}
use Rattle.std.proofs.lemmas.Bool.{and_parts, eqb-true}
use Rattle.ec_asm.specs.declared.pieces.Location.{Location}
use Rattle.ec_asm.specs.View.{View}
use Rattle.ec_asm.specs.Change.{Env, Own, flag_at}
use Rattle.ec_asm.specs.Items.{HasAt, block, code_steps, all_straight}
use Rattle.ec_asm.specs.Pieces.{StandsFrom, Outside, value}
use Rattle.ec_asm.specs.PieceLaws.{HoldsNumbers}
use Rattle.ec_asm.proofs.Hoare.{has_parts, block_goes, goes_on_to}
use Rattle.ec_asm.proofs.Numbers.{pow_pos}
use Rattle.ec_core.specs.Plain.{PlainProgram}
use Rattle.ec_ir.specs.declared.operations.Temp.{Temp}
use Rattle.ec_select_numbers.specs.declared.operators.ByNumber.TheVariants.{Subtract}
use Rattle.ec_select_numbers.specs.ByNumber.{compared_code}
use Rattle.ec_select_numbers.specs.Laws.{KeepsOthers, ComparesWith}
use Rattle.ec_select_order.specs.declared.relations.Relation.{Relation}
use Rattle.ec_select_order.specs.declared.relations.Relation.TheVariants.{Less, NotLess, Equal, NotEqual}
use Rattle.ec_select_order.specs.Relations.{stand_so, is_less, flag_of, is_set, truth_in_code}
use Rattle.ec_select_order.proofs.Truths.{truths_are_told_in}
use Rattle.ec_select_operations.specs.declared.bounds.Bound.{Bound}
use Rattle.ec_select_operations.specs.declared.families.Told.TheVariants.{Operands}
use Rattle.ec_select_operations.specs.Bounds.{is_equality, bounded_code, truth_by_code}
use Rattle.ec_select_operations.specs.Homes.{HasHome}
use Rattle.ec_select_operations.specs.Tests.{number_test}
use Rattle.ec_select_functions.proofs.Computed.{stand}
use Rattle.ec_select_functions.proofs.Joins.{changed_bytes, number_tested, test_form}
use Rattle.ec_select_functions.proofs.Moves.{work_outside, narrower}
use Rattle.ec_select_functions.proofs.Related.{TellsTo, tells_to}
use Rattle.ec_select_functions.proofs.Setting.{Setting}
use Rattle.ec_select_functions.proofs.Tested.{TellsTruth, comparison_some}
use Rattle.ec_select_functions.proofs.Truth.{bit_is, not_not}
use Rattle.ec_select_functions.proofs.Wrapped.{kept_below}

-- the flag of a relation, and whether it holds
abbrev pub flag_bit : Relation → Bool → Bool
flag_bit r truth = if is_set r then truth else not truth

pub flag_tells : (r : Relation) (signed truth : Bool) (v : View) → flag_at v.flags (flag_of r signed) ≡ from_bool (flag_bit r truth)
    → TellsTruth truth (Operands r signed) v
flag_tells r signed truth v q = record {
  holds = λ z. q ∙ ap (λ (x : Bool). from_bool (flag_bit r x)) z ∙ ap from_bool (set_bit (is_set r)) ∙ bit_is (is_set r);
  fails = λ z. q ∙ ap (λ (x : Bool). from_bool (flag_bit r x)) z ∙ ap from_bool (clear_bit (is_set r)) ∙ bit_is (not (is_set r));
}
  where
    set_bit : (set : Bool) → (if set then true else not true) ≡ set
    set_bit true = refl
    set_bit false = refl

    clear_bit : (set : Bool) → (if set then false else not false) ≡ not set
    clear_bit true = refl
    clear_bit false = refl

-- ---- what a comparison leaves

-- the flag of a relation tells whether a number of n + 1 bytes stands so to a known one, and all else is kept but so many bytes
pub record Relates (b : Bound) (n a changed : ℕ) (v w : View) : Type 0 where
  pub flag : flag_at w.flags (flag_of b.relation b.signed)
      ≡ from_bool (flag_bit b.relation (stand_so b.relation b.signed (suc n) (value v.at a (suc n)) (b.number % 256 ^ suc n)))
  pub keeps : KeepsOthers v w a changed

module _ (e : Env) (q : Location) (number n a : ℕ) (v w : View) (c : ComparesWith e q number n a v w) where
  abbrev left : ℕ
  left = value v.at a (suc n)

  abbrev right : ℕ
  right = number % 256 ^ suc n

  less : (signed : Bool) → flag_at w.flags (flag_of Less signed) ≡ from_bool (is_less signed (suc n) left right)
  less true = c.less_signed
  less false = c.less

  flag_by_number : (r : Relation) (signed : Bool)
      → flag_at w.flags (flag_of r signed) ≡ from_bool (flag_bit r (stand_so r signed (suc n) left right))
  flag_by_number Less signed = less signed
  flag_by_number NotLess true = less true ∙ ap from_bool (sym (not_not (is_less true (suc n) left right)))
  flag_by_number NotLess false = less false ∙ ap from_bool (sym (not_not (is_less false (suc n) left right)))
  flag_by_number Equal signed = c.equal
  flag_by_number NotEqual signed = c.equal ∙ ap from_bool (sym (not_not (left == right)))

-- Z tells of a number whether it is 0
flag_by_test : (r : Relation) (signed : Bool) (n x z : ℕ) (w : View) → is_equality r ≡ true → z ≡ 0 → w.flags.z ≡ from_bool (x == 0)
    → flag_at w.flags (flag_of r signed) ≡ from_bool (flag_bit r (stand_so r signed n x z))
flag_by_test Less signed n x z w q zero f = absurd cc
flag_by_test NotLess signed n x z w q zero f = absurd cc
flag_by_test Equal signed n x z w q zero f = f ∙ ap (λ k. from_bool (x == k)) (sym zero)
flag_by_test NotEqual signed n x z w q zero f =
    f ∙ ap (λ k. from_bool (x == k)) (sym zero) ∙ ap from_bool (sym (not_not (x == z)))

more_changed : (v w : View) (a n : ℕ) → KeepsOthers v w a 0 → KeepsOthers v w a n
more_changed v w a n k = record {
  same = λ i d g z o. k.same i d g z (λ u. omega arith);
  bytes = k.bytes;
  inputs = k.inputs;
  safe = k.safe;
  seen = k.seen;
}

-- the code is straight, and has some steps, but few
pub record IsShort (is_free : Bool) (b : Bound) (q : Location) (n : ℕ) : Type 0 where
  pub straight : all_straight (bounded_code is_free b q (suc n)) ≡ true
  pub some : 1 ≤ code_steps (bounded_code is_free b q (suc n))
  pub few : code_steps (bounded_code is_free b q (suc n)) ≤ 3 * suc n

-- ---- temporaries

module _ (p : PlainProgram) (e : Env) (slots : ℕ) (home : Temp → Location) (base : Temp → ℕ) (place : ℕ → ℕ)
    (y : Setting p e slots home base place) where
  pub bounded_form : (is_free : Bool) (b : Bound) (q : Location) (n : ℕ) → IsShort is_free b q n
  bounded_form is_free b q n = record {
    straight = by_straight (b.number == 0 && is_equality b.relation);
    some = by_some (b.number == 0 && is_equality b.relation);
    few = by_few (b.number == 0 && is_equality b.relation);
  }
    where
      by_straight : (x : Bool) → all_straight (if x then number_test is_free q (suc n) else compared_code q b.number (suc n)) ≡ true
      by_straight true = (test_form is_free q (suc n)).straight
      by_straight false = (y.numbers.straight Subtract q b.number (suc n)).1.is_straight

      by_some : (x : Bool) → 1 ≤ code_steps (if x then number_test is_free q (suc n) else compared_code q b.number (suc n))
      by_some true = (test_form is_free q (suc n)).some (omega arith)
      by_some false = comparison_some q b.number n

      by_few : (x : Bool) → code_steps (if x then number_test is_free q (suc n) else compared_code q b.number (suc n)) ≤ 3 * suc n
      by_few true = let few = (test_form is_free q (suc n)).few in omega (arith, few)
      by_few false = (y.numbers.straight Subtract q b.number (suc n)).1.few_steps

  -- the bytes of a temporary are compared
  pub temp_relates : (is_free : Bool) (b : Bound) (t : Temp) (n : ℕ) (v : View) → HasHome slots t → suc n ≤ t.bytes → HoldsNumbers v
      → Relates b n (base t) (changed_bytes is_free) v (block e (bounded_code is_free b (home t) (suc n)) v)
  temp_relates is_free b t n v it l h = by_test (b.number == 0 && is_equality b.relation) refl
    where
      stands : StandsFrom e (home t) (suc n) (base t) Own
      stands = stand p e slots home base place y t (suc n) it l

      outside : Outside (base t) (suc n) 30
      outside = narrower (base t) t.bytes (suc n) 30 l (work_outside (base t) t.bytes (y.layout.temps_work t it))

      by_test : (x : Bool) → (b.number == 0 && is_equality b.relation) ≡ x
          → Relates b n (base t) (changed_bytes is_free) v
          (block e (if x then number_test is_free (home t) (suc n) else compared_code (home t) b.number (suc n)) v)
      by_test false q =
          let w = block e (compared_code (home t) b.number (suc n)) v in
          let c = y.numbers.compared e (home t) b.number n (base t) v stands outside h in
          record {
            flag = flag_by_number e (home t) b.number n (base t) v w c b.relation b.signed;
            keeps = more_changed v w (base t) (changed_bytes is_free) c.keeps;
          }
      by_test true q =
          let w = block e (number_test is_free (home t) (suc n)) v in
          let tests = number_tested is_free e (home t) (suc n) (base t) v (omega arith) stands h in
          let parts = and_parts (b.number == 0) (is_equality b.relation) q in
          let zero : b.number % 256 ^ suc n ≡ 0 =
          ap (λ k. k % 256 ^ suc n) (eqb-true b.number 0 parts.0) ∙ kept_below 0 (256 ^ suc n) (pow_pos (suc n)) in
          record {
            flag = flag_by_test b.relation b.signed (suc n) (value v.at (base t) (suc n)) (b.number % 256 ^ suc n) w parts.1 zero
                tests.zero_is;
            keeps = tests.keeps;
          }

  -- and the truth value is told in a register
  pub temp_tells : (d : ℕ) (b : Bound) (t : Temp) (n pc end : ℕ) (v : View) → HasHome slots t → suc n ≤ t.bytes → HoldsNumbers v
      → HasAt e (truth_by_code d b (home t) (suc n)) pc end
      → TellsTo d e (3 + 3 * suc n) pc v end
      (stand_so b.relation b.signed (suc n) (value v.at (base t) (suc n)) (b.number % 256 ^ suc n))
  temp_tells d b t n pc end v it l h stands =
      let compared = bounded_code false b (home t) (suc n) in
      let truth = stand_so b.relation b.signed (suc n) (value v.at (base t) (suc n)) (b.number % 256 ^ suc n) in
      let s = has_parts e compared (truth_in_code d b.relation b.signed) pc end stands in
      let v1 = block e compared v in
      let x = temp_relates false b t n v it l h in
      let form = bounded_form false b (home t) n in
      let few = form.few in
      let first = block_goes e compared pc s.0 v form.straight s.1 in
      let k = tells_to d e 3 s.0 v1 end truth x.keeps.bytes (truths_are_told_in d b.relation b.signed truth e s.0 end v1 x.flag s.2) in
      let most = k.at_most in
      record {
        steps = code_steps compared + k.steps;
        at_most = omega (arith, few, most);
        last = k.last;
        goes = goes_on_to e (code_steps compared) k.steps pc s.0 end v v1 k.last first k.goes;
        told = k.told;
        bytes = k.bytes;
        same = λ i a b g z. k.same i a b g z ∙ x.keeps.same i a b g (λ u. omega arith);
        inputs = k.inputs ∙ x.keeps.inputs;
        safe = k.safe ∙ x.keeps.safe;
        seen = k.seen ∙ x.keeps.seen;
      }
