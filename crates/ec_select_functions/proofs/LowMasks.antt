-- AND with a known number below 256: one byte of the result is computed, and the others become 0.
use Rattle.std.proofs.Common.{◌≡◌, ◌≢◌, ◌⊎◌, inl, inr, ℕ, ◌%◌, ◌^◌, ◌<◌, ◌≤◌, Bool, true, false, ℤ, Some, refl, sym, ap, ◌∙◌, subst, arith}
use Rattle.std.proofs.Common.{bit_and, min, ◌++◌, []}
use Rattle.std.specs.Prelude.{nat_lt, if◌then◌else◌}
use Rattle.std.proofs.lemmas.Bool.Decides.{nat_tests}
use Rattle.std.proofs.lemmas.Nat.{and_le_r}
use Rattle.ec_asm.specs.declared.pieces.Location.{Location}
use Rattle.ec_asm.specs.declared.pieces.Operator.{Operator}
use Rattle.ec_asm.specs.declared.pieces.Operator.TheVariants.{Sum, Difference, BitAnd, BitOr, BitXor}
use Rattle.ec_asm.specs.View.{View}
use Rattle.ec_asm.specs.Change.{Env}
use Rattle.ec_asm.specs.Items.{block}
use Rattle.ec_asm.specs.Pieces.{value}
use Rattle.ec_asm.proofs.Hoare.{block-append}
use Rattle.ec_core.specs.declared.expressions.BinOp.{BinOp}
use Rattle.ec_core.specs.declared.expressions.BinOp.TheVariants.{Add, Sub, And, Or, Xor}
use Rattle.ec_core.specs.Plain.{PlainProgram}
use Rattle.ec_core.specs.State.{worked}
use Rattle.ec_ir.specs.declared.operations.Temp.{Temp}
use Rattle.ec_ir.specs.Meaning.{Mach, machine}
use Rattle.ec_ir.specs.Temporaries.{bits, with_content, low_bytes}
use Rattle.ec_select_bytes.specs.Values.{extend_code}
use Rattle.ec_select_operations.specs.declared.families.Family.TheVariants.{Combined}
use Rattle.ec_select_operations.specs.Code.{family_of, move_code, transfer_code, conversion_code, changed_by_code, masks_low, low_mask_code}
use Rattle.ec_select_operations.specs.Homes.{HasHome}
use Rattle.ec_select_operations.specs.Needs.{Need, at_least, without, wanted, is_low_mask}
use Rattle.ec_select_functions.specs.Relation.{Matches}
use Rattle.ec_select_functions.proofs.ByNumber.{Changes, changes, number_low}
use Rattle.ec_select_functions.proofs.Computed.{result_of, result_below, results, stand, moved_numbers, location_same}
use Rattle.ec_select_functions.proofs.Extended.{converted}
use Rattle.ec_select_functions.proofs.Match.{kept_left, wanted_most, least_here, least_other, without_other, at_width}
use Rattle.ec_select_functions.proofs.Match.{read_first, written_wide}
use Rattle.ec_select_functions.proofs.Moves.{Wide, widened, wider_frame, wider_wide, work_outside, narrower, row_value, move_holds}
use Rattle.ec_select_functions.proofs.Setting.{Setting}
use Rattle.ec_select_functions.proofs.Wrapped.{low_below, kept_below}

-- ---- which operators do so

pub record IsLowMasked (op : BinOp) (o : Operator) (k : ℤ) : Type 0 where
  pub op_is : op ≡ And
  pub operator_is : o ≡ BitAnd
  pub test : nat_lt (low_bytes 16 k) 256 ≡ true
  pub small : low_bytes 16 k < 256

pub record IsUnmasked (op : BinOp) (o : Operator) (k : ℤ) : Type 0 where
  pub needs : is_low_mask (Some k) op ≡ false
  pub code : masks_low o (low_bytes 16 k) ≡ false

unmasked : (op : BinOp) (p o : Operator) (k : ℤ) → p ≡ o → is_low_mask (Some k) op ≡ false → masks_low p (low_bytes 16 k) ≡ false
    → IsUnmasked op o k
unmasked op p o k e q r = record { needs = q; code = subst (λ (u : Operator). masks_low u (low_bytes 16 k) ≡ false) e r }

pub mask_or_not : (op : BinOp) (o : Operator) (k : ℤ) → family_of op ≡ Combined o → IsLowMasked op o k ⊎ IsUnmasked op o k
mask_or_not Add o k h = let e : Sum ≡ o = cc in inr (unmasked Add Sum o k e refl refl)
mask_or_not Sub o k h = let e : Difference ≡ o = cc in inr (unmasked Sub Difference o k e refl refl)
mask_or_not Or o k h = let e : BitOr ≡ o = cc in inr (unmasked Or BitOr o k e refl refl)
mask_or_not Xor o k h = let e : BitXor ≡ o = cc in inr (unmasked Xor BitXor o k e refl refl)
mask_or_not And o k h = by_test (nat_lt (low_bytes 16 k) 256) refl
  where
    same : BitAnd ≡ o
    same = cc

    by_test : (x : Bool) → nat_lt (low_bytes 16 k) 256 ≡ x → IsLowMasked And o k ⊎ IsUnmasked And o k
    by_test true q = inl (record { op_is = refl; operator_is = sym same; test = q; small = grind (arith, nat_tests, q) })
    by_test false q = inr (unmasked And BitAnd o k same q q)
mask_or_not op o k h = absurd cc

-- ---- numbers

-- what such a number leaves is below 256
masked_small : (k : ℤ) (b x : ℕ) → b ≤ 16 → low_bytes 16 k < 256 → result_of BitAnd b x (low_bytes b k) < 256
masked_small k b x few l =
    let z = low_bytes b k in
    let same : low_bytes 16 k % 256 ^ b ≡ z % 256 ^ b = number_low k b b (omega arith) few in
    let kept : z % 256 ^ b ≡ z = kept_below z (256 ^ b) (low_below b k) in
    let less : low_bytes 16 k % 256 ^ b ≤ low_bytes 16 k = omega arith in
    let most = and_le_r x z in
    let low : bit_and x z % 256 ^ b ≤ bit_and x z = omega arith in
    omega (arith, same, kept, less, most, low, l)

module _ (p : PlainProgram) (e : Env) (slots : ℕ) (home : Temp → Location) (base : Temp → ℕ) (place : ℕ → ℕ)
    (y : Setting p e slots home base place) where
  abbrev N : Need → Mach → View → Type 0
  N need m v = Matches p e y.inputs slots base place y.aside y.stands y.active y.called need m v

  -- one byte of the first operand is brought to the result's place, and masked there
  pub low_mask_matches : (t a : Temp) (k : ℤ) (need : Need) (m : Mach) (v : View) (c x : ℕ) → HasHome slots t → HasHome slots a
      → a.bytes ≡ t.bytes → m.temps a.at ≡ Some (record { bytes = a.bytes; content = bits x }) → low_bytes 16 k < 256
      → N (at_least a.at (min (wanted need t) 1) (without t.at need)) m v
      → N need (machine (with_content t (bits (result_of BitAnd t.bytes x (low_bytes t.bytes k))) m.temps) (worked c m.state))
      (block e (low_mask_code (home a) (home t) (low_bytes 16 k) (wanted need t)) v)
  low_mask_matches t a k need m v c x it ia sa qa small h =
      let n = wanted need t in
      let w = min n 1 in
      let number = low_bytes 16 k in
      let z = low_bytes t.bytes k in
      let low = result_of BitAnd t.bytes x z in
      let need0 = at_least a.at w (without t.at need) in
      let most : n ≤ t.bytes = wanted_most need t in
      let few : w ≤ t.bytes = omega (arith, most) in
      let less_a : w ≤ a.bytes = omega (arith, few, sa) in
      let eight = it.most in
      let some = it.some in
      let some_a = (y.layout.temps_at a ia).clear in
      let here_a = least_here a.at w (without t.at need) in
      let wide_a : w ≤ wanted need0 a = omega (arith, here_a, less_a) in
      let xa = at_width p e slots home base place y need0 m v a _ w h ia qa refl wide_a in
      let first = move_code (home a) (home t) w in
      let second = changed_by_code BitAnd (home t) number w in
      let third = extend_code false (home t) 1 n in
      let v1 = block e first v in
      let moved =
      move_holds e (home a) (home t) w (base a) (base t) v (stand p e slots home base place y a w ia less_a)
      (stand p e slots home base place y t w it few) (read_first p e slots home base place y t a w it ia less_a) h.bytes in
      let numbers1 = moved_numbers p e slots home base place y v v1 (base a) (base t) w some_a h.bytes moved in
      let v2 = block e second v1 in
      let o : Changes BitAnd v1 v2 (base t) w number =
      changes y.numbers e (home t) w (base t) number v1 (omega arith) (low_below 16 k) (stand p e slots home base place y t w it few)
      (narrower (base t) t.bytes w 30 few (work_outside (base t) t.bytes (y.layout.temps_work t it))) numbers1 BitAnd refl in
      let left : value v1.at (base t) w ≡ x % 256 ^ w = row_value v1.at v.at (base a) (base t) w moved.there ∙ xa.0 in
      let below : z < 256 ^ t.bytes = low_below t.bytes k in
      let there : value v2.at (base t) w ≡ low % 256 ^ w =
      o.result ∙ ap (λ i. result_of BitAnd w i (number % 256 ^ w)) left
      ∙ ap (result_of BitAnd w (x % 256 ^ w)) (number_low k w t.bytes few (omega (arith, eight)))
      ∙ results BitAnd w t.bytes x z few (omega (arith, below)) in
      let wide =
      converted p e slots home base place y false t (home t) (base t) 1 n low v2 it (omega arith)
      (stand p e slots home base place y t 1 it some)
      (λ j l. read_first p e slots home base place y t t j it it (omega (arith, l, some))) most
      (masked_small k t.bytes x (omega (arith, eight)) small) o.numbers there in
      let v3 = block e (conversion_code false (home t) (home t) 1 n) v2 in
      let last : v3 ≡ block e third v2 =
      ap (λ (b : Bool). block e ((if b then [] else transfer_code (home t) (home t) w) ++ third) v2)
      (location_same (home t) (home t) refl) in
      let all : v3 ≡ block e (first ++ (second ++ third)) v =
      last ∙ sym (block-append e first (second ++ third) v ∙ block-append e second third v1) in
      let first_frame = widened v v1 (base t) t.bytes (wider_frame v v1 (base t) t.bytes w few moved.frame) in
      let last_frame = widened v2 v3 (base t) t.bytes (wider_frame v2 v3 (base t) t.bytes n most wide.frame) in
      let frame : Wide v v3 (base t) t.bytes =
      λ i d f bottom top r. last_frame i d f bottom top r
      ∙ wider_wide v1 v2 (base t) t.bytes w few o.frame i d f bottom top r
      ∙ first_frame i d f bottom top r in
      subst (λ u. N need (machine (with_content t (bits low) m.temps) (worked c m.state)) u) all
      (written_wide p e slots home base place y t (bits low) need need0 m (worked c m.state) v v3 it h
      (λ i r. still i r) frame (wide.result, result_below BitAnd t.bytes x z) wide.numbers refl
      (wide.quiet.seen ∙ o.quiet.seen ∙ moved.quiet.seen ∙ h.seen)
      (kept_left y.inputs m.state v v3 (wide.quiet.inputs ∙ o.quiet.inputs ∙ moved.quiet.inputs) h.left)
      (wide.quiet.safe ∙ o.quiet.safe ∙ moved.quiet.safe ∙ h.safe))
    where
      still : (i : ℕ) → i ≢ t.at → need i ≤ at_least a.at (min (wanted need t) 1) (without t.at need) i
      still i r =
          let d = without_other t.at i need r in
          let f = least_other a.at (min (wanted need t) 1) i (without t.at need) in
          omega arith
