-- Operators whose result is computed in its place.
use Rattle.std.proofs.Common.{◌≡◌, ◌≢◌, ◌⊎◌, inl, inr, ℕ, suc, ◌+◌, ◌-◌, ◌*◌, ◌/◌, ◌%◌, ◌^◌, ◌<◌, ◌≤◌, Bool, true, false, ◌&&◌, ◌++◌}
use Rattle.std.proofs.Common.{Option, Some, Ok, refl, sym, ap, ◌∙◌, subst, arith, ℤ, pos, negsuc, unsigned_abs, [], ◌∷◌}
use Rattle.std.specs.Prelude.{⊤, None, Err, int_le, int_lt, not, if◌then◌else◌}
use Rattle.std.proofs.lemmas.Bool.{and_parts, false≢true}
use Rattle.std.proofs.lemmas.Int.{ints}
use Rattle.std.proofs.lemmas.Nat.{mul-le}
use Rattle.ec_fx.specs.declared.formats.Format.{Format}
use Rattle.ec_fx.specs.declared.formats.FxKind.{FxKind}
use Rattle.ec_fx.specs.declared.numbers.Fixed.{Fixed}
use Rattle.ec_fx.specs.declared.numbers.Mode.{Mode}
use Rattle.ec_fx.specs.Arithmetic.{shift_of}
use Rattle.ec_fx.specs.Formats.{format_of, IsFormat}
use Rattle.ec_fx.proofs.FormatLemmas.{IsFormat-format_of}
use Rattle.ec_asm.specs.declared.pieces.Location.{Location}
use Rattle.ec_asm.specs.declared.pieces.Location.TheVariants.{InRegisters}
use Rattle.ec_asm.specs.View.{View}
use Rattle.ec_asm.specs.Change.{Env, Own}
use Rattle.ec_asm.specs.Items.{HasAt, block, code_steps}
use Rattle.ec_asm.specs.Pieces.{StandsFrom, Outside, address, value}
use Rattle.ec_asm.specs.PieceLaws.{HoldsNumbers}
use Rattle.ec_asm.proofs.Hoare.{has_parts, block_goes, goes_on_to}
use Rattle.ec_asm.proofs.Numbers.{value_below, value_mod}
use Rattle.ec_asm.proofs.Sum.{value-same}
use Rattle.ec_core.specs.declared.expressions.BinOp.{BinOp}
use Rattle.ec_core.specs.declared.expressions.BinOp.TheVariants.{Add, Sub, Mul, Div, Rem, Shl, Shr, And, Or, Xor, Lt}
use Rattle.ec_core.specs.declared.expressions.BinOp.TheVariants.{Gt, Le, Ge, Eq, Ne}
use Rattle.ec_core.specs.declared.values.Undefined.TheVariants.{ShiftCount}
use Rattle.ec_core.specs.declared.values.Value.{Value}
use Rattle.ec_core.specs.ArithmeticValues.{outcome, arithmetic_value, fixed_shift}
use Rattle.ec_core.specs.Integers.{is_count}
use Rattle.ec_core.specs.Layout.{scalar_size}
use Rattle.ec_core.specs.Operators.{number_type}
use Rattle.ec_core.specs.Plain.{PlainType, fixed, PlainProgram}
use Rattle.ec_core.specs.State.{Outcome, worked}
use Rattle.ec_core.specs.Words.{operation_words, widest}
use Rattle.ec_ir.specs.declared.operations.Temp.{Temp}
use Rattle.ec_ir.specs.Costs.{binary_words, is_bitwise, is_integer}
use Rattle.ec_ir.specs.Meaning.{Mach, machine}
use Rattle.ec_ir.specs.Temporaries.{bits, with_content, low_bytes}
use Rattle.ec_ir_known.specs.declared.known.RightNumber.{RightNumber}
use Rattle.ec_fxcode.specs.ClampLaws.{HoldsResult, IsClearOfEnds}
use Rattle.ec_fxcode_shifts.specs.ShiftLaws.{number_in, fixed_in}
use Rattle.ec_fxcode_shifts.proofs.Before.{count_is, low_count}
use Rattle.ec_fxcode_shifts.proofs.Entered.{format_width}
use Rattle.ec_fxcode_quotients.specs.QuotientLaws.{operand_in}
use Rattle.ec_fxcode_placed.specs.Shifts.{placed_code}
use Rattle.ec_fxcode_placed.specs.Counts.{placed_by_code}
use Rattle.ec_fxcode_placed.proofs.Counted.{placed_counts_are_right}
use Rattle.ec_fxcode_placed.proofs.Shifted.{placed_shifts_are_right}
use Rattle.ec_select_fixed.specs.Types.{format_in}
use Rattle.ec_select_fixed.specs.FixedLaws.{IsBinaryResult}
use Rattle.ec_select_fixed.proofs.Formats.{kind_bits, kind_frac}
use Rattle.ec_select_fixed.proofs.Operators.{IsNumber, binary_is, shift_bytes, ShiftHolds}
use Rattle.ec_select_fixed.proofs.Suits.{AreSuited, operands_suit}
use Rattle.ec_select_operations.specs.Code.{is_difference, is_signed, same_location, move_code, has_one_format, takes_place}
use Rattle.ec_select_operations.specs.Code.{is_placed, stopped_code, placed_shift, placed_whole}
use Rattle.ec_select_operations.specs.Homes.{HasHome}
use Rattle.ec_select_operations.specs.Needs.{Need, wanted, is_shift, number_known}
use Rattle.ec_select_operations.proofs.OneFormat.{one_format}
use Rattle.ec_select_functions.specs.Covered.{IsFixedBinary}
use Rattle.ec_select_functions.specs.Relation.{Matches}
use Rattle.ec_select_functions.proofs.FixedRuns.{clear_of_ends}
use Rattle.ec_select_functions.proofs.Follow.{Follows, after}
use Rattle.ec_select_functions.proofs.Match.{kept_left, wanted_most, read_first, written_wide}
use Rattle.ec_select_functions.proofs.Moves.{Wide, move_brings, move_holds, move_straight, move_steps, row_value, stands_less, work_outside}
use Rattle.ec_select_functions.proofs.Computed.{moved_numbers, location_is}
use Rattle.ec_select_functions.proofs.Limited.{IsLimited, limited}
use Rattle.ec_select_functions.proofs.Related.{work_stands}
use Rattle.ec_select_functions.proofs.Setting.{Setting}
use Rattle.ec_select_functions.proofs.Stopped.{stands_apart, stopped_passes, stopped_result}
use Rattle.ec_select_functions.proofs.Taken.{TakenNumber, as_known}
use Rattle.ec_select_functions.proofs.Wrapped.{kept_below}

-- ---- counts

-- where a shift has a result its count is from 0 to below the bits of the number
record IsCount (x : Fixed) (count : ℤ) : Type 0 where
  number : ℕ
  is : count ≡ pos number
  inside : number < x.format.bits

count_in : (left : Bool) (x : Fixed) (count : ℤ) (mode : Mode) (n : ℤ) → fixed_shift left x count mode ≡ Ok n → IsCount x count
count_in left x count mode n h = by_test (is_count x.format.bits count) refl h
  where
    counted : (z : ℤ) → int_le (pos 0) z ≡ true → int_lt z (pos x.format.bits) ≡ true → IsCount x z
    counted (pos c) a b = record { number = c; is = refl; inside = omega (arith, ints, b) }
    counted (negsuc c) a b = absurd cc

    by_test : (b : Bool) → is_count x.format.bits count ≡ b
        → (if b then outcome (shift_of x (unsigned_abs count) left mode) else Err ShiftCount) ≡ Ok n → IsCount x count
    by_test true q e =
        let parts = and_parts (int_le (pos 0) count) (int_lt count (pos x.format.bits)) q in
        counted count parts.0 parts.1
    by_test false q e = absurd cc

-- ---- words

-- the words of an operator leave room for copies of its result
pub binary_roomy : (op : BinOp) (ty aty bty : PlainType) → 4 * scalar_size ty ≤ binary_words op ty aty bty
binary_roomy op ty aty bty = by_kind (is_bitwise op && is_integer ty)
  where
    wide : scalar_size ty ≤ widest (ty ∷ aty ∷ bty ∷ [])
    wide = omega arith

    by_kind : (x : Bool)
        → 4 * scalar_size ty ≤ (if x then 10 * widest (ty ∷ aty ∷ bty ∷ []) else operation_words (widest (ty ∷ aty ∷ bty ∷ [])))
    by_kind true = omega (arith, wide)
    by_kind false = omega (arith, wide)

-- ---- the operator of a shift

abbrev shift_operator : Bool → BinOp
shift_operator true = Shl
shift_operator false = Shr

-- its steps, with the copies before it
shift_roomy : (left : Bool) (ty aty bty : PlainType) (n : ℕ) → 1 ≤ n → n ≤ scalar_size aty
    → 5 + 2 * n + 8 * n * (6 + 6 * n) ≤ 64 * binary_words (shift_operator left) ty aty bty
shift_roomy left ty aty bty n some l =
    let w = widest (ty ∷ aty ∷ bty ∷ []) in
    let wide : n ≤ w = omega arith in
    let square : n * n ≤ w * w = mul-le n n w w wide wide in
    by_side left (omega (arith, wide, square))
  where
    by_side : (left : Bool) → 5 + 2 * n + 8 * n * (6 + 6 * n) ≤ 64 * operation_words (widest (ty ∷ aty ∷ bty ∷ []))
        → 5 + 2 * n + 8 * n * (6 + 6 * n) ≤ 64 * binary_words (shift_operator left) ty aty bty
    by_side true h = h
    by_side false h = h

-- a format has at most 64 bits
kind_few : (k : FxKind) → (format_of k).bits ≤ 64
kind_few k = let w = format_width (format_of k) ((format_of k).bits / 8) (IsFormat-format_of k) (kind_bits k) in
    let most = w.most in let e = kind_bits k in omega (arith, most, e)

-- the count is whole
whole_count : (left : Bool) (ty aty bty : PlainType) → AreSuited (shift_operator left) ty aty bty → (format_in bty).frac ≡ 0
whole_count true ty aty bty h = h.formats.1.whole
whole_count false ty aty bty h = h.formats.1.whole

not_saturating : (left : Bool) (mode : Mode) (one : Bool) → takes_place (shift_operator left) mode one ≡ true → left ≡ true
    → mode.saturate ≡ false
not_saturating true mode one q e = by_mode mode.saturate q
  where
    by_mode : (b : Bool) → not b ≡ true → b ≡ false
    by_mode true h = absurd cc
    by_mode false h = refl
not_saturating false mode one q e = absurd cc

-- the shift on numbers in bytes, where the count is whole
shift_is : (left : Bool) (k : FxKind) (s : Bool) (bty : PlainType) (mode : Mode) (x y : ℕ) → (format_in bty).frac ≡ 0
    → arithmetic_value (shift_operator left) (number_type (fixed k s)) mode (operand_in (format_of k) ((format_of k).bits / 8) x)
    (operand_in (format_in bty) (scalar_size bty) y)
    ≡ fixed_shift left (fixed_in (format_of k) ((format_of k).bits / 8) x) (number_in (format_in bty).signed (scalar_size bty) y) mode
shift_is true k s bty mode x y whole = rw (kind_frac k, whole) refl
shift_is false k s bty mode x y whole = rw (kind_frac k, whole) refl

shift_result : (left : Bool) (k : FxKind) (s u : Bool) (bty : PlainType) (mode : Mode) (x y z : ℕ)
    → AreSuited (shift_operator left) (fixed k s) (fixed k u) bty → (format_in bty).frac ≡ 0
    → ShiftHolds left (fixed_in (format_of k) ((format_of k).bits / 8) x) (number_in (format_in bty).signed (scalar_size bty) y) mode
    ((format_of k).bits / 8) z
    → IsBinaryResult (shift_operator left) (fixed k s) mode (fixed k u) bty x y z
shift_result true k s u bty mode x y z suited whole h =
    binary_is Shl (fixed k s) (fixed k u) bty mode x y z suited.first suited.second
    (λ n g. shift_bytes true (fixed k s) (fixed k s) bty mode x y z n
    (arithmetic_value Shl (number_type (fixed k s)) mode (operand_in (format_of k) ((format_of k).bits / 8) x)
    (operand_in (format_in bty) (scalar_size bty) y)) tt refl whole h refl g)
shift_result false k s u bty mode x y z suited whole h =
    binary_is Shr (fixed k s) (fixed k u) bty mode x y z suited.first suited.second
    (λ n g. shift_bytes false (fixed k s) (fixed k s) bty mode x y z n
    (arithmetic_value Shr (number_type (fixed k s)) mode (operand_in (format_of k) ((format_of k).bits / 8) x)
    (operand_in (format_in bty) (scalar_size bty) y)) tt refl whole h refl g)

-- ---- the run

module _ (p : PlainProgram) (e : Env) (slots : ℕ) (home : Temp → Location) (base : Temp → ℕ) (place : ℕ → ℕ)
    (y : Setting p e slots home base place) where
  abbrev M : Need → Mach → View → Type 0
  M need m v = Matches p e y.inputs slots base place y.aside y.stands y.active y.called need m v

  -- the count and the number are brought to their places, and the number is shifted there
  shifted_passes : (left : Bool) (f : Format) (mode : Mode) (top c n pc end : ℕ) (t a b : Temp) (need need0 : Need) (m : Mach)
      (v : View) (o : Outcome Value)
      → HasHome slots t → HasHome slots a → HasHome slots b → t.bytes ≡ suc top → a.bytes ≡ suc top
      → IsFormat f → f.bits ≡ 8 * suc top → (left ≡ true → mode.saturate ≡ false) → v.at (base b) < f.bits → M need0 m v
      → ((u : ℕ) → u ≢ t.at → need u ≤ need0 u)
      → HasAt e (placed_shift None left f.signed (home a) (home b) (home t) top) pc end → 5 + 2 * suc top + f.bits * (6 + 6 * suc top) ≤ c
      →
      ((z : ℕ) (v2 : View)
      → HoldsResult (suc top) (shift_of (fixed_in f (suc top) (value v.at (base a) (suc top))) (v.at (base b)) left mode) z
      → M need (machine (with_content t (bits z) m.temps) (worked c m.state)) v2
      → Follows p place e n (m.state.work + c) end v2 o)
      → Follows p place e n m.state.work pc v o
  shifted_passes left f mode top c n pc end t a b need need0 m v o it ia ib same_t same_a format bits_are sat small h more at room
      onward =
      let k = suc top in
      let some_b = ib.some in
      let move = move_code (home a) (home t) k in
      let count = move_code (home b) (InRegisters 30) 1 in
      let turn = placed_code left f.signed (home t) k in
      let s1 = has_parts e count (move ++ turn) pc end at in
      let s2 = has_parts e move turn s1.0 end s1.2 in
      let v1 = block e count v in
      let v2 = block e move v1 in
      let sa : StandsFrom e (home a) k (base a) Own =
      stands_less e (home a) a.bytes k (base a) Own (omega arith) (y.layout.temps_at a ia) in
      let st : StandsFrom e (home t) k (base t) Own =
      stands_less e (home t) t.bytes k (base t) Own (omega arith) (y.layout.temps_at t it) in
      let sb : StandsFrom e (home b) 1 (base b) Own = stands_less e (home b) b.bytes 1 (base b) Own some_b (y.layout.temps_at b ib) in
      let k1 = move_holds e (home b) (InRegisters 30) 1 (base b) 30 v sb (work_stands e) (λ l. omega arith) h.bytes in
      let h1 = moved_numbers p e slots home base place y v v1 (base b) 30 1 sb.clear h.bytes k1 in
      let first = read_first p e slots home base place y t a k it ia (omega arith) in
      let k2 = move_holds e (home a) (home t) k (base a) (base t) v1 sa st first h1 in
      let h2 = moved_numbers p e slots home base place y v1 v2 (base a) (base t) k sa.clear h1 k2 in
      let far : Outside (base t) k 30 =
      subst (λ (i : ℕ). Outside (base t) i 30) same_t (work_outside (base t) t.bytes (y.layout.temps_work t it)) in
      let far_a : Outside (base a) k 30 =
      subst (λ (i : ℕ). Outside (base a) i 30) same_a (work_outside (base a) a.bytes (y.layout.temps_work a ia)) in
      let zb : base b + 0 ≡ base b = omega arith in
      let brought = move_brings e (home a) (home t) k (base a) (base t) v1 sa st first h1 in
      let count_is : v2.at 30 ≡ v.at (base b) =
      brought.same 30 (omega arith) far ∙ k1.there 0 (omega arith) ∙ ap v.at zb in
      let same1 : (j : ℕ) → j < k → v1.at (base a + j) ≡ v.at (base a + j) =
      λ j l. (let two = sa.clear in
      k1.frame (base a + j) (omega arith) (omega arith) (not_work (base a) k j far_a l) (beside (base a) k j far_a l)) in
      let number : value v2.at (base t) k ≡ value v.at (base a) k =
      row_value v2.at v1.at (base a) (base t) k k2.there ∙ value-same v1.at v.at (base a) k same1 in
      let clear = clear_of_ends (base t) t.bytes (y.layout.temps_work t it) in
      let run = placed_shifts_are_right left f mode e (home t) top (base t) s2.0 end v2 format bits_are sat st
      (subst (λ (i : ℕ). IsClearOfEnds (base t) i) same_t clear) h2 (rw count_is small) s2.2 in
      let v3 = run.last in
      let few = run.at_most in
      let go1 = block_goes e count pc s1.0 v (move_straight (home b) (InRegisters 30) 1) s1.1 in
      let go2 = block_goes e move s1.0 s2.0 v1 (move_straight (home a) (home t) k) s2.1 in
      let goes = goes_on_to e (code_steps count + code_steps move) run.steps pc s2.0 end v v2 v3
      (goes_on_to e (code_steps count) (code_steps move) pc s1.0 s2.0 v v1 v2 go1 go2) run.goes in
      let steps1 = move_steps (home b) (InRegisters 30) 1 in
      let steps2 = move_steps (home a) (home t) k in
      let z = value v3.at (base t) k in
      let given = λ (i j : ℕ). HoldsResult k (shift_of (fixed_in f k i) j left mode) z in
      let holds : given (value v.at (base a) k) (v.at (base b)) =
      subst (λ (j : ℕ). given (value v.at (base a) k) j) count_is (subst (λ (i : ℕ). given i (v2.at 30)) number run.holds) in
      let most : v2.at 30 * (6 + 6 * k) ≤ f.bits * (6 + 6 * k) =
      mul-le (v2.at 30) (6 + 6 * k) f.bits (6 + 6 * k) (omega (arith, count_is, small)) (omega arith) in
      let wide : Wide v v3 (base t) t.bytes =
      λ i x w lo hi out.
      let inside : Outside (base t) k i = subst (λ (q : ℕ). Outside (base t) q i) same_t out in
      run.same i x w (λ q. let l = hi (omega arith) in omega arith) (λ q. let l = hi (omega arith) in omega arith) inside
      ∙ k2.frame i x w (λ q. let l = hi (omega arith) in omega arith) inside
      ∙ k1.frame i x w (λ q. let l = hi (omega arith) in omega arith) (λ l. let q = hi (omega arith) in omega arith) in
      let held =
      λ (j : ℕ) (l : j < k). (let two = st.clear in let r : v3.at (base t + j) < 256 = run.numbers (base t + j) (omega arith) in r) in
      let w = wanted need t in
      let less = wanted_most need t in
      let low : value v3.at (base t) w ≡ z % 256 ^ w = sym (value_mod v3.at (base t) w k (omega (arith, less, same_t)) held) in
      let below : z < 256 ^ t.bytes = subst (λ (i : ℕ). z < 256 ^ i) (sym same_t) (value_below v3.at (base t) k held) in
      let matches = written_wide p e slots home base place y t (bits z) need need0 m (worked c m.state) v v3 it h more wide (low, below)
      run.numbers refl (run.seen ∙ k2.quiet.seen ∙ k1.quiet.seen ∙ h.seen)
      (kept_left y.inputs m.state v v3 (run.inputs ∙ k2.quiet.inputs ∙ k1.quiet.inputs) h.left)
      (run.safe ∙ k2.quiet.safe ∙ k1.quiet.safe ∙ h.safe) in
      after p place e (code_steps count + code_steps move + run.steps) n n m.state.work (m.state.work + c) pc end v v3 o goes (omega arith)
      (omega (arith, few, steps1, steps2, most, room)) (onward z v3 holds matches)
    where
      not_work : (a n j : ℕ) → Outside a n 30 → j < n → a + j ≢ 30
      not_work a n j h l q = grind arith

      beside : (a n j : ℕ) → Outside a n 30 → j < n → Outside 30 1 (a + j)
      beside a n j h l m = grind arith

  -- what is known of the count
  abbrev pub KnownCount : Option ℤ → Temp → View → Type 0
  KnownCount None b v = ⊤
  KnownCount (Some k) b v = low_bytes 16 k % 256 ≡ v.at (base b)

  -- the number is brought to its place, and shifted there by a known count
  counted_passes : (left : Bool) (f : Format) (mode : Mode) (top c n pc end count : ℕ) (t a : Temp) (need need0 : Need) (m : Mach)
      (v : View) (o : Outcome Value)
      → HasHome slots t → HasHome slots a → t.bytes ≡ suc top → a.bytes ≡ suc top
      → IsFormat f → f.bits ≡ 8 * suc top → (left ≡ true → mode.saturate ≡ false) → count < f.bits → M need0 m v
      → ((u : ℕ) → u ≢ t.at → need u ≤ need0 u)
      → HasAt e (move_code (home a) (home t) (suc top) ++ placed_by_code left f.signed (home t) (suc top) count) pc end
      → 5 + 2 * suc top + f.bits * (6 + 6 * suc top) ≤ c
      →
      ((z : ℕ) (v2 : View)
      → HoldsResult (suc top) (shift_of (fixed_in f (suc top) (value v.at (base a) (suc top))) count left mode) z
      → M need (machine (with_content t (bits z) m.temps) (worked c m.state)) v2
      → Follows p place e n (m.state.work + c) end v2 o)
      → Follows p place e n m.state.work pc v o
  counted_passes left f mode top c n pc end count t a need need0 m v o it ia same_t same_a format bits_are sat small h more at room
      onward =
      let k = suc top in
      let move = move_code (home a) (home t) k in
      let turn = placed_by_code left f.signed (home t) k count in
      let s2 = has_parts e move turn pc end at in
      let v2 = block e move v in
      let sa : StandsFrom e (home a) k (base a) Own =
      stands_less e (home a) a.bytes k (base a) Own (omega arith) (y.layout.temps_at a ia) in
      let st : StandsFrom e (home t) k (base t) Own =
      stands_less e (home t) t.bytes k (base t) Own (omega arith) (y.layout.temps_at t it) in
      let first = read_first p e slots home base place y t a k it ia (omega arith) in
      let k2 = move_holds e (home a) (home t) k (base a) (base t) v sa st first h.bytes in
      let h2 = moved_numbers p e slots home base place y v v2 (base a) (base t) k sa.clear h.bytes k2 in
      let number : value v2.at (base t) k ≡ value v.at (base a) k = row_value v2.at v.at (base a) (base t) k k2.there in
      let clear = clear_of_ends (base t) t.bytes (y.layout.temps_work t it) in
      let run = placed_counts_are_right left f mode e (home t) top (base t) count s2.0 end v2 format bits_are sat st
      (subst (λ (i : ℕ). IsClearOfEnds (base t) i) same_t clear) h2 small s2.2 in
      let v3 = run.last in
      let few = run.at_most in
      let go2 = block_goes e move pc s2.0 v (move_straight (home a) (home t) k) s2.1 in
      let goes = goes_on_to e (code_steps move) run.steps pc s2.0 end v v2 v3 go2 run.goes in
      let steps2 = move_steps (home a) (home t) k in
      let z = value v3.at (base t) k in
      let holds : HoldsResult k (shift_of (fixed_in f k (value v.at (base a) k)) count left mode) z =
      subst (λ (i : ℕ). HoldsResult k (shift_of (fixed_in f k i) count left mode) z) number run.holds in
      let most : suc count * (6 + 6 * k) ≤ f.bits * (6 + 6 * k) =
      mul-le (suc count) (6 + 6 * k) f.bits (6 + 6 * k) (omega (arith, small)) (omega arith) in
      let wide : Wide v v3 (base t) t.bytes =
      λ i x w lo hi out.
      let inside : Outside (base t) k i = subst (λ (q : ℕ). Outside (base t) q i) same_t out in
      run.same i x w (λ q. let l = hi (omega arith) in omega arith) (λ q. let l = hi (omega arith) in omega arith) inside
      ∙ k2.frame i x w (λ q. let l = hi (omega arith) in omega arith) inside in
      let held =
      λ (j : ℕ) (l : j < k). (let two = st.clear in let r : v3.at (base t + j) < 256 = run.numbers (base t + j) (omega arith) in r) in
      let w = wanted need t in
      let less = wanted_most need t in
      let low : value v3.at (base t) w ≡ z % 256 ^ w = sym (value_mod v3.at (base t) w k (omega (arith, less, same_t)) held) in
      let below : z < 256 ^ t.bytes = subst (λ (i : ℕ). z < 256 ^ i) (sym same_t) (value_below v3.at (base t) k held) in
      let matches = written_wide p e slots home base place y t (bits z) need need0 m (worked c m.state) v v3 it h more wide (low, below)
      run.numbers refl (run.seen ∙ k2.quiet.seen ∙ h.seen)
      (kept_left y.inputs m.state v v3 (run.inputs ∙ k2.quiet.inputs) h.left)
      (run.safe ∙ k2.quiet.safe ∙ h.safe) in
      after p place e (code_steps move + run.steps) n n m.state.work (m.state.work + c) pc end v v3 o goes (omega arith)
      (omega (arith, few, steps2, most, room)) (onward z v3 holds matches)

  -- ---- by the operator

  -- two temporaries that do not stand at one place
  apart_from : (t b : Temp) → not (same_location (home b) (home t)) ≡ true → t.bytes ≡ b.bytes → t.at ≢ b.at
  apart_from t b other same = stands_apart p e slots home base place y t b (sym same) other

  -- sums and differences
  sum_passes : (op : BinOp) (ty aty bty : PlainType) (mode : Mode) (c n pc end : ℕ) (t a b : Temp) (need need0 : Need) (m : Mach)
      (v : View) (o : Outcome Value)
      → IsFixedBinary slots op t a b ty aty bty → IsLimited op mode ty aty bty → not (same_location (home b) (home t)) ≡ true
      → M need0 m v → ((u : ℕ) → u ≢ t.at → need u ≤ need0 u)
      → HasAt e (stopped_code (is_difference op) (is_signed aty) (home a) (home b) (home t) (a.bytes - 1)) pc end
      → 64 * binary_words op ty aty bty ≤ c
      →
      ((z : ℕ) (v2 : View)
      → IsBinaryResult op ty mode aty bty (value v.at (base a) (scalar_size aty)) (value v.at (base b) (scalar_size bty)) z
      → M need (machine (with_content t (bits z) m.temps) (worked c m.state)) v2
      → Follows p place e n (m.state.work + c) end v2 o)
      → Follows p place e n m.state.work pc v o
  sum_passes op ty aty bty mode c n pc end t a b need need0 m v o k lim other h more there room onward =
      let kind = lim.kind in
      let size = (format_of kind).bits / 8 in
      let size_t : scalar_size ty ≡ size = ap scalar_size lim.result_is in
      let size_a : scalar_size aty ≡ size = ap scalar_size lim.left_is in
      let size_b : scalar_size bty ≡ size = ap scalar_size lim.right_is in
      let some = k.left.some in
      let top = a.bytes - 1 in
      let width_a : a.bytes ≡ suc top = omega arith in
      let width_t : t.bytes ≡ suc top = k.result_bytes ∙ size_t ∙ sym size_a ∙ sym k.left_bytes ∙ width_a in
      let width_b : b.bytes ≡ suc top = k.right_bytes ∙ size_b ∙ sym size_a ∙ sym k.left_bytes ∙ width_a in
      let wide : suc top ≡ size = sym width_a ∙ k.left_bytes ∙ size_a in
      let format_bits : (format_of kind).bits ≡ 8 * suc top = kind_bits kind ∙ ap (λ x. 8 * x) (sym wide) in
      let signed : is_signed aty ≡ (format_of kind).signed = ap is_signed lim.left_is in
      let code_there : HasAt e (stopped_code (is_difference op) (format_of kind).signed (home a) (home b) (home t) top) pc end =
      subst (λ (x : Bool). HasAt e (stopped_code (is_difference op) x (home a) (home b) (home t) top) pc end) signed there in
      let apart_from : t.at ≢ b.at = stands_apart p e slots home base place y t b (width_b ∙ sym width_t) other in
      let roomy = binary_roomy op ty aty bty in
      stopped_passes p e slots home base place y (is_difference op) (format_of kind) mode top c n pc end t a b need need0 m v o k.result
      k.left k.right width_t width_a width_b apart_from (IsFormat-format_of kind) format_bits lim.saturates h more code_there
      (omega (arith, room, roomy, size_t, wide))
      (λ number v2 g matches.
      onward number v2
      (subst (λ (x : ℕ). IsBinaryResult op ty mode aty bty (value v.at (base a) x) (value v.at (base b) (scalar_size bty)) number)
      (sym width_a ∙ k.left_bytes)
      (subst (λ (x : ℕ). IsBinaryResult op ty mode aty bty (value v.at (base a) (suc top)) (value v.at (base b) x) number)
      (sym width_b ∙ k.right_bytes)
      (stopped_result op mode ty aty bty lim (suc top) (value v.at (base a) (suc top)) (value v.at (base b) (suc top)) number wide g)))
      matches)

  -- an operator whose result is computed in its place, where it has a result
  abbrev Passes : (known : Option RightNumber) (op : BinOp) (ty aty bty : PlainType) (mode : Mode) (c n pc end : ℕ) (t a b : Temp)
      (need need0 : Need) (m : Mach) (v : View) (o : Outcome Value) (r : Value) → Type 0
  Passes known op ty aty bty mode c n pc end t a b need need0 m v o r =
      KnownCount (number_known known) b v → IsFixedBinary slots op t a b ty aty bty → is_placed op mode ty aty bty ≡ true
      → not (same_location (home b) (home t)) ≡ true
      → IsNumber
      (arithmetic_value op (number_type ty) mode (operand_in (format_in aty) (scalar_size aty) (value v.at (base a) (scalar_size aty)))
      (operand_in (format_in bty) (scalar_size bty) (value v.at (base b) (scalar_size bty)))) r
      → M need0 m v → ((u : ℕ) → u ≢ t.at → need u ≤ need0 u)
      → HasAt e (placed_whole known op (is_signed aty) (home a) (home b) (home t) (a.bytes - 1)) pc end
      → 64 * binary_words op ty aty bty ≤ c
      →
      ((z : ℕ) (v2 : View)
      → IsBinaryResult op ty mode aty bty (value v.at (base a) (scalar_size aty)) (value v.at (base b) (scalar_size bty)) z
      → M need (machine (with_content t (bits z) m.temps) (worked c m.state)) v2
      → Follows p place e n (m.state.work + c) end v2 o)
      → Follows p place e n m.state.work pc v o

  -- ---- shifts by a number

  -- temporaries at two places stand in two locations
  pub located_apart : (t b : Temp) → HasHome slots t → HasHome slots b → b.at ≢ t.at → not (same_location (home b) (home t)) ≡ true
  located_apart t b it ib other = by_test (same_location (home b) (home t)) refl
    where
      by_test : (x : Bool) → same_location (home b) (home t) ≡ x → not x ≡ true
      by_test false q = refl
      by_test true q =
          let one : home b ≡ home t = location_is (home b) (home t) q in
          let some = ib.some in
          let also = it.some in
          let here = (y.layout.temps_at b ib).at 0 (omega (arith, some)) in
          let there = (y.layout.temps_at t it).at 0 (omega (arith, also)) in
          let same : base b + 0 ≡ base t + 0 = sym here ∙ ap (λ (p : Location). address e p 0) one ∙ there in
          let apart = (y.layout.temps_apart b t ib it other).right (omega (arith, same)) in
          absurd (omega (arith, same, apart, also))

  -- a count that gives a result is a number below the bits of what is shifted
  count_of : (left : Bool) (k : FxKind) (s : Bool) (bty : PlainType) (mode : Mode) (x z : ℕ) (n : ℤ) → z < 256 ^ scalar_size bty
      → (format_in bty).frac ≡ 0
      → arithmetic_value (shift_operator left) (number_type (fixed k s)) mode (operand_in (format_of k) ((format_of k).bits / 8) x)
      (operand_in (format_in bty) (scalar_size bty) z) ≡ Ok n
      → (number_in (format_in bty).signed (scalar_size bty) z ≡ pos z) × (z < (format_of k).bits)
  count_of left k s bty mode x z n below whole is =
      let size = scalar_size bty in
      let c = count_in left (fixed_in (format_of k) ((format_of k).bits / 8) x) (number_in (format_in bty).signed size z) mode n
      (sym (shift_is left k s bty mode x z whole) ∙ is) in
      let number : z ≡ c.number = count_is (format_in bty).signed size z c.number below c.is in
      let inside = c.inside in
      (c.is ∙ ap pos (sym number), omega (arith, number, inside))

  -- a shift by a known number, of which the second operand holds as many bytes as its type has
  abbrev PassesBy : TakenNumber → (second : ℕ) (op : BinOp) (ty aty bty : PlainType) (mode : Mode) (c n pc end : ℕ) (t a b : Temp)
      (need need0 : Need) (m : Mach) (v : View) (o : Outcome Value) (r : Value) → Type 0
  PassesBy number second op ty aty bty mode c n pc end t a b need need0 m v o r =
      second < 256 ^ scalar_size bty → low_bytes 16 number.number % 256 ≡ second % 256
      → IsFixedBinary slots op t a b ty aty bty → is_placed op mode ty aty bty ≡ true
      → IsNumber
      (arithmetic_value op (number_type ty) mode (operand_in (format_in aty) (scalar_size aty) (value v.at (base a) (scalar_size aty)))
      (operand_in (format_in bty) (scalar_size bty) second)) r
      → M need0 m v → ((u : ℕ) → u ≢ t.at → need u ≤ need0 u)
      → HasAt e (placed_whole (Some (as_known number)) op (is_signed aty) (home a) (home b) (home t) (a.bytes - 1)) pc end
      → 64 * binary_words op ty aty bty ≤ c
      →
      ((z : ℕ) (v2 : View) → IsBinaryResult op ty mode aty bty (value v.at (base a) (scalar_size aty)) second z
      → M need (machine (with_content t (bits z) m.temps) (worked c m.state)) v2
      → Follows p place e n (m.state.work + c) end v2 o)
      → Follows p place e n m.state.work pc v o

  kind_by_number : (number : TakenNumber) (second : ℕ) (left : Bool) (k : FxKind) (s u : Bool) (bty : PlainType) (mode : Mode)
      (c n pc end : ℕ) (t a b : Temp) (need need0 : Need) (m : Mach) (v : View) (o : Outcome Value) (r : Value)
      → HasAt e (placed_shift (Some number.number) left (format_of k).signed (home a) (home b) (home t) (a.bytes - 1)) pc end
      → PassesBy number second (shift_operator left) (fixed k s) (fixed k u) bty mode c n pc end t a b need need0 m v o r
  kind_by_number number second left k s u bty mode c n pc end t a b need need0 m v o r there below low i is result h more code room
      onward =
      let f = format_of k in
      let size = f.bits / 8 in
      let suited = operands_suit (shift_operator left) (fixed k s) (fixed k u) bty i.types in
      let whole = whole_count left (fixed k s) (fixed k u) bty suited in
      let some = i.left.some in
      let top = a.bytes - 1 in
      let width_a : a.bytes ≡ suc top = omega arith in
      let width_t : t.bytes ≡ suc top = i.result_bytes ∙ sym i.left_bytes ∙ width_a in
      let wide : suc top ≡ size = sym width_a ∙ i.left_bytes in
      let bits_are : f.bits ≡ 8 * suc top = kind_bits k ∙ ap (λ x. 8 * x) (sym wide) in
      let x = value v.at (base a) size in
      let count = count_of left k s bty mode x second result.number below whole result.is in
      let few = kind_few k in
      let inside = count.1 in
      let same : low_bytes 16 number.number % 256 ≡ second = low ∙ kept_below second 256 (omega (arith, few, inside)) in
      let takes = (and_parts (has_one_format (fixed k s) (fixed k u)) (takes_place (shift_operator left) mode
      (has_one_format (fixed k u) bty)) is).1 in
      let sat = not_saturating left mode (has_one_format (fixed k u) bty) takes in
      let fits : 5 + 2 * suc top + f.bits * (6 + 6 * suc top) ≤ c =
      (let q = shift_roomy left (fixed k s) (fixed k u) bty (suc top) (omega arith) (omega (arith, wide)) in
      subst (λ (j : ℕ). 5 + 2 * suc top + j * (6 + 6 * suc top) ≤ c) (sym bits_are) (omega (arith, q, room))) in
      let given = λ (size1 j z : ℕ). HoldsResult size1 (shift_of (fixed_in f size1 (value v.at (base a) size1)) j left mode) z in
      counted_passes left f mode top c n pc end (low_bytes 16 number.number % 256) t a need need0 m v o i.result i.left width_t width_a
      (IsFormat-format_of k) bits_are sat (omega (arith, same, inside)) h more there fits
      (λ z v2 holds matches.
      let at_size : given size second z =
      subst (λ (j : ℕ). given j second z) wide (subst (λ (j : ℕ). given (suc top) j z) same holds) in
      onward z v2
      (shift_result left k s u bty mode x second z suited whole
      (λ q q_is within.
      let one : pos q ≡ pos second = sym q_is ∙ count.0 in
      let number_is : second ≡ q = cc in
      subst (λ (j : ℕ). given size j z) number_is at_size)) matches)

  -- ---- shifts

  -- the lowest byte of the count is the count
  count_there : (left : Bool) (k : FxKind) (s u : Bool) (bty : PlainType) (mode : Mode) (b : Temp) (v : View) (x : ℕ) (n : ℤ)
      → HasHome slots b → b.bytes ≡ scalar_size bty → HoldsNumbers v → (format_in bty).frac ≡ 0
      → arithmetic_value (shift_operator left) (number_type (fixed k s)) mode (operand_in (format_of k) ((format_of k).bits / 8) x)
      (operand_in (format_in bty) (scalar_size bty) (value v.at (base b) (scalar_size bty))) ≡ Ok n
      → (number_in (format_in bty).signed (scalar_size bty) (value v.at (base b) (scalar_size bty)) ≡ pos (v.at (base b)))
      × (v.at (base b) < (format_of k).bits)
  count_there left k s u bty mode b v x n ib width held whole is =
      let size = scalar_size bty in
      let z = value v.at (base b) size in
      let some = ib.some in
      let two = (y.layout.temps_at b ib).clear in
      let c = count_in left (fixed_in (format_of k) ((format_of k).bits / 8) x) (number_in (format_in bty).signed size z) mode n
      (sym (shift_is left k s bty mode x z whole) ∙ is) in
      let few = kind_few k in
      let inside = c.inside in
      let number = count_is (format_in bty).signed size z c.number (value_below v.at (base b) size (λ j l. held (base b + j) (omega arith)))
      c.is in
      let low : v.at (base b) ≡ c.number =
      low_count v.at (base b) size c.number (omega (arith, some, width)) number (omega (arith, inside, few)) in
      (c.is ∙ ap pos (sym low), omega (arith, low, inside))

  shift_of_kind : (known : Option RightNumber) (left : Bool) (k : FxKind) (s u : Bool) (bty : PlainType) (mode : Mode)
      (c n pc end : ℕ) (t a b : Temp)
      (need need0 : Need) (m : Mach) (v : View) (o : Outcome Value) (r : Value)
      → HasAt e (placed_shift (number_known known) left (format_of k).signed (home a) (home b) (home t) (a.bytes - 1)) pc end
      → Passes known (shift_operator left) (fixed k s) (fixed k u) bty mode c n pc end t a b need need0 m v o r
  shift_of_kind known left k s u bty mode c n pc end t a b need need0 m v o r there counted i is other number h more code room onward =
      let f = format_of k in
      let size = f.bits / 8 in
      let suited = operands_suit (shift_operator left) (fixed k s) (fixed k u) bty i.types in
      let whole = whole_count left (fixed k s) (fixed k u) bty suited in
      let some = i.left.some in
      let top = a.bytes - 1 in
      let width_a : a.bytes ≡ suc top = omega arith in
      let width_t : t.bytes ≡ suc top = i.result_bytes ∙ sym i.left_bytes ∙ width_a in
      let wide : suc top ≡ size = sym width_a ∙ i.left_bytes in
      let bits_are : f.bits ≡ 8 * suc top = kind_bits k ∙ ap (λ x. 8 * x) (sym wide) in
      let x = value v.at (base a) size in
      let count = count_there left k s u bty mode b v x number.number i.right i.right_bytes h.bytes whole number.is in
      let takes = (and_parts (has_one_format (fixed k s) (fixed k u)) (takes_place (shift_operator left) mode
      (has_one_format (fixed k u) bty)) is).1 in
      let sat = not_saturating left mode (has_one_format (fixed k u) bty) takes in
      let fits : 5 + 2 * suc top + f.bits * (6 + 6 * suc top) ≤ c =
      (let q = shift_roomy left (fixed k s) (fixed k u) bty (suc top) (omega arith) (omega (arith, wide)) in
      subst (λ (j : ℕ). 5 + 2 * suc top + j * (6 + 6 * suc top) ≤ c) (sym bits_are) (omega (arith, q, room))) in
      let result = λ (z : ℕ) (v2 : View)
      (holds : HoldsResult (suc top) (shift_of (fixed_in f (suc top) (value v.at (base a) (suc top))) (v.at (base b)) left mode) z)
      (matches : M need (machine (with_content t (bits z) m.temps) (worked c m.state)) v2).
      (let at_size : HoldsResult size (shift_of (fixed_in f size x) (v.at (base b)) left mode) z =
      subst (λ (j : ℕ). HoldsResult j (shift_of (fixed_in f j (value v.at (base a) j)) (v.at (base b)) left mode) z) wide holds in
      onward z v2
      (shift_result left k s u bty mode x (value v.at (base b) (scalar_size bty)) z suited whole
      (λ q q_is inside.
      let same : pos q ≡ pos (v.at (base b)) = sym q_is ∙ count.0 in
      let one : v.at (base b) ≡ q = cc in
      subst (λ (j : ℕ). HoldsResult size (shift_of (fixed_in f size x) j left mode) z) one at_size)) matches) in
      by_known (number_known known) there counted
      (λ place. shifted_passes left f mode top c n pc end t a b need need0 m v o i.result i.left i.right width_t width_a
      (IsFormat-format_of k)
      bits_are sat count.1 h more place fits result)
      (λ number same place. counted_passes left f mode top c n pc end number t a need need0 m v o i.result i.left width_t width_a
      (IsFormat-format_of k) bits_are sat (rw same (count.1)) h more place fits
      (λ z v2 holds matches. result z v2
      (subst (λ (j : ℕ). HoldsResult (suc top) (shift_of (fixed_in f (suc top) (value v.at (base a) (suc top))) j left mode) z) same holds)
      matches))
    where
      by_known : (known : Option ℤ)
          → HasAt e (placed_shift known left (format_of k).signed (home a) (home b) (home t) (a.bytes - 1)) pc end → KnownCount known b v
          → (HasAt e (placed_shift None left (format_of k).signed (home a) (home b) (home t) (a.bytes - 1)) pc end
          → Follows p place e n m.state.work pc v o)
          → ((number : ℕ) → number ≡ v.at (base b)
          → HasAt e (move_code (home a) (home t) (suc (a.bytes - 1))
          ++ placed_by_code left (format_of k).signed (home t) (suc (a.bytes - 1)) number) pc end
          → Follows p place e n m.state.work pc v o)
          → Follows p place e n m.state.work pc v o
      by_known None there counted unknown by_number = unknown there
      by_known (Some number) there counted unknown by_number = by_number (low_bytes 16 number % 256) counted there

  -- ---- by the operator

  abbrev OfOperator : BinOp → Type 0
  OfOperator op =
      (known : Option RightNumber) (ty aty bty : PlainType) (mode : Mode) (c n pc end : ℕ) (t a b : Temp) (need need0 : Need)
      (m : Mach) (v : View) (o : Outcome Value)
      (r : Value) → Passes known op ty aty bty mode c n pc end t a b need need0 m v o r

  by_shift : (left : Bool)
      → ((known : Option RightNumber) (signed : Bool) (a b to : Location) (top : ℕ)
      → placed_whole known (shift_operator left) signed a b to top ≡ placed_shift (number_known known) left signed a b to top)
      → OfOperator (shift_operator left)
  by_shift left code_is known ty aty bty mode c n pc end t a b need need0 m v o r counted i is other number h more there room onward =
      let first = (and_parts (has_one_format ty aty) (takes_place (shift_operator left) mode (has_one_format aty bty)) is).0 in
      let one = one_format ty aty first in
      let passes = λ (x z : PlainType). Passes known (shift_operator left) x z bty mode c n pc end t a b need need0 m v o r in
      (subst (λ x. passes x aty) (sym one.first) (subst (λ z. passes (fixed one.kind one.first_saturates) z) (sym one.second)
      (λ counted i is other number h more there room onward.
      shift_of_kind known left one.kind one.first_saturates one.second_saturates bty mode c n pc end t a b need need0 m v o r
      (subst (λ q. HasAt e q pc end) (code_is known (format_of one.kind).signed (home a) (home b) (home t) (a.bytes - 1)) there)
      counted i is other number h more there room onward))) counted i is other number h more there room onward

  -- the same by a known number
  by_count : (left : Bool)
      → ((number : TakenNumber) (signed : Bool) (a b to : Location) (top : ℕ)
      → placed_whole (Some (as_known number)) (shift_operator left) signed a b to top
      ≡ placed_shift (Some number.number) left signed a b to top)
      → (number : TakenNumber) (second : ℕ) (ty aty bty : PlainType) (mode : Mode) (c n pc end : ℕ) (t a b : Temp) (need need0 : Need)
      (m : Mach) (v : View) (o : Outcome Value) (r : Value)
      → PassesBy number second (shift_operator left) ty aty bty mode c n pc end t a b need need0 m v o r
  by_count left code_is number second ty aty bty mode c n pc end t a b need need0 m v o r below low i is result h more there room onward =
      let first = (and_parts (has_one_format ty aty) (takes_place (shift_operator left) mode (has_one_format aty bty)) is).0 in
      let one = one_format ty aty first in
      let passes = λ (x z : PlainType). PassesBy number second (shift_operator left) x z bty mode c n pc end t a b need need0 m v o r in
      (subst (λ x. passes x aty) (sym one.first) (subst (λ z. passes (fixed one.kind one.first_saturates) z) (sym one.second)
      (λ below low i is result h more there room onward.
      kind_by_number number second left one.kind one.first_saturates one.second_saturates bty mode c n pc end t a b need need0 m v o r
      (subst (λ q. HasAt e q pc end) (code_is number (format_of one.kind).signed (home a) (home b) (home t) (a.bytes - 1)) there)
      below low i is result h more there room onward))) below low i is result h more there room onward

  pub count_passes : (op : BinOp) → is_shift op ≡ true → (number : TakenNumber) (second : ℕ) (ty aty bty : PlainType) (mode : Mode)
      (c n pc end : ℕ) (t a b : Temp) (need need0 : Need) (m : Mach) (v : View) (o : Outcome Value) (r : Value)
      → PassesBy number second op ty aty bty mode c n pc end t a b need need0 m v o r
  count_passes Shl h = by_count true (λ k q w x z u. refl)
  count_passes Shr h = by_count false (λ k q w x z u. refl)
  count_passes op h = absurd cc

  by_sum : (op : BinOp) → (op ≡ Add) ⊎ (op ≡ Sub)
      → ((mode : Mode) (one : Bool) → takes_place op mode one ≡ (one && mode.saturate))
      → ((known : Option RightNumber) (signed : Bool) (a b to : Location) (top : ℕ)
      → placed_whole known op signed a b to top ≡ stopped_code (is_difference op) signed a b to top)
      → OfOperator op
  by_sum op adds takes code_is known ty aty bty mode c n pc end t a b need need0 m v o r counted i is other number h more there room onward =
      let parts = and_parts (has_one_format ty aty) (takes_place op mode (has_one_format aty bty)) is in
      let lim = limited op mode ty aty bty adds parts.0 (sym (takes mode (has_one_format aty bty)) ∙ parts.1) in
      sum_passes op ty aty bty mode c n pc end t a b need need0 m v o i lim other h more
      (subst (λ q. HasAt e q pc end) (code_is known (is_signed aty) (home a) (home b) (home t) (a.bytes - 1)) there) room onward

  none_placed : (op : BinOp) → ((mode : Mode) (one : Bool) → takes_place op mode one ≡ false) → OfOperator op
  none_placed op never known ty aty bty mode c n pc end t a b need need0 m v o r counted i is other number h more there room onward =
      let parts = and_parts (has_one_format ty aty) (takes_place op mode (has_one_format aty bty)) is in
      absurd (false≢true (sym (never mode (has_one_format aty bty)) ∙ parts.1))

  pub placed_passes : (op : BinOp) → OfOperator op
  placed_passes Add = by_sum Add (inl refl) (λ q w. refl) (λ g q w x z u. refl)
  placed_passes Sub = by_sum Sub (inr refl) (λ q w. refl) (λ g q w x z u. refl)
  placed_passes Shl = by_shift true (λ g q w x z u. refl)
  placed_passes Shr = by_shift false (λ g q w x z u. refl)
  placed_passes Mul = none_placed Mul (λ q w. refl)
  placed_passes Div = none_placed Div (λ q w. refl)
  placed_passes Rem = none_placed Rem (λ q w. refl)
  placed_passes And = none_placed And (λ q w. refl)
  placed_passes Or = none_placed Or (λ q w. refl)
  placed_passes Xor = none_placed Xor (λ q w. refl)
  placed_passes Lt = none_placed Lt (λ q w. refl)
  placed_passes Gt = none_placed Gt (λ q w. refl)
  placed_passes Le = none_placed Le (λ q w. refl)
  placed_passes Ge = none_placed Ge (λ q w. refl)
  placed_passes Eq = none_placed Eq (λ q w. refl)
  placed_passes Ne = none_placed Ne (λ q w. refl)
