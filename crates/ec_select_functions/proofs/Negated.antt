-- Negations of fixed-point numbers that are stopped at the end of the range.
use Rattle.std.proofs.Common.{◌≡◌, ◌≢◌, ℕ, suc, ◌+◌, ◌-◌, ◌*◌, ◌/◌, ◌%◌, ◌^◌, ◌<◌, ◌≤◌, Bool, true, false, refl, sym, ap, ◌∙◌, subst, arith}
use Rattle.std.proofs.Common.{ℤ, pos, neg_ℤ, ◌-ℤ◌, ◌++◌, append-nil, ⊎_elim}
use Rattle.std.specs.Prelude.{◌==◌, ◌&&◌, if◌then◌else◌}
use Rattle.std.proofs.lemmas.Bool.{cases_lt, and_parts, eqb-true}
use Rattle.std.proofs.lemmas.Int.{ints}
use Rattle.std.proofs.Math.Nat.{zero-div}
use Rattle.ec_fx.specs.declared.formats.FxKind.{FxKind}
use Rattle.ec_fx.specs.declared.numbers.Mode.{Mode}
use Rattle.ec_fx.specs.Arithmetic.{negation_of}
use Rattle.ec_fx.specs.Formats.{format_of}
use Rattle.ec_fx.specs.Results.{fit}
use Rattle.ec_fx.proofs.FormatLemmas.{IsFormat-format_of}
use Rattle.ec_asm.specs.declared.pieces.Location.{Location}
use Rattle.ec_asm.specs.declared.pieces.Location.TheVariants.{InRegisters, InMemory}
use Rattle.ec_asm.specs.View.{View}
use Rattle.ec_asm.specs.Change.{Env, Own}
use Rattle.ec_asm.specs.Items.{HasAt, block, code_steps}
use Rattle.ec_asm.specs.Pieces.{StandsFrom, Outside, value, copy_code}
use Rattle.ec_asm.specs.PieceLaws.{IsReadFirst}
use Rattle.ec_asm.specs.declared.pieces.Operator.TheVariants.{Sum}
use Rattle.ec_asm.proofs.Compared.{copy_holds}
use Rattle.ec_asm.proofs.Hoare.{has_parts, block_goes, goes_on_to}
use Rattle.ec_asm.proofs.Numbers.{value_below, value_mod, pow_pos}
use Rattle.ec_asm.proofs.Results.{pieces_are_straight, pieces_take}
use Rattle.ec_core.specs.declared.expressions.UnOp.{UnOp}
use Rattle.ec_core.specs.declared.expressions.UnOp.TheVariants.{Minus, Invert}
use Rattle.ec_core.specs.declared.values.Value.{Value}
use Rattle.ec_core.specs.Layout.{scalar_size}
use Rattle.ec_core.specs.Plain.{PlainType, void, integer, fixed, pointer, array, struct, PlainProgram}
use Rattle.ec_core.specs.State.{Outcome, worked}
use Rattle.ec_ir.specs.declared.operations.Temp.{Temp}
use Rattle.ec_ir.specs.Meaning.{Mach, machine}
use Rattle.ec_ir.specs.Temporaries.{bits, with_content}
use Rattle.ec_fxcode.specs.ClampLaws.{HoldsResult, IsClearOfEnds}
use Rattle.ec_fxcode.proofs.Alike.{zeros}
use Rattle.ec_fxcode.proofs.Fits.{plus}
use Rattle.ec_fxcode.proofs.Moves.{no_log}
use Rattle.ec_fxcode_limits.specs.Limits.{limited_code, opposite_code}
use Rattle.ec_fxcode_limits.specs.LimitLaws.{added}
use Rattle.ec_fxcode_limits.proofs.Limited.{limited_sums_are_right}
use Rattle.ec_fxcode_limits.proofs.Opposite.{opposites_are_right}
use Rattle.ec_fxcode_shifts.specs.ShiftLaws.{number_in, fixed_in}
use Rattle.ec_fxcode_shifts.proofs.Shifted.{div_one}
use Rattle.ec_select_bytes.specs.Values.{constant_code}
use Rattle.ec_select_bytes.proofs.Constants.{constants_are_right}
use Rattle.ec_select_bytes.proofs.Straight.{values_are_straight, values_take}
use Rattle.ec_select_fixed.specs.FixedLaws.{IsUnaryResult}
use Rattle.ec_select_fixed.proofs.Formats.{kind_bits, fixed_bytes}
use Rattle.ec_select_fixed.proofs.Unaries.{negated}
use Rattle.ec_select_operations.specs.Code.{is_signed, aside_location, move_code, from_zero_code, negated_code}
use Rattle.ec_select_operations.specs.Homes.{HasHome}
use Rattle.ec_select_operations.specs.Needs.{Need, wanted}
use Rattle.ec_select_functions.specs.Covered.{IsFixedUnary}
use Rattle.ec_select_functions.specs.Relation.{Matches}
use Rattle.ec_select_functions.proofs.FixedRuns.{clear_of_ends}
use Rattle.ec_select_functions.proofs.Follow.{Follows, after}
use Rattle.ec_select_functions.proofs.Match.{kept_left, wanted_most, read_first, written_wide}
use Rattle.ec_select_functions.proofs.Moves.{Wide, move_holds, move_straight, move_steps, numbers_kept, row_value, work_outside}
use Rattle.ec_select_functions.proofs.Computed.{moved_numbers}
use Rattle.ec_select_functions.proofs.Setting.{Setting}

-- ---- results

zero_in : (signed : Bool) (n : ℕ) → number_in signed n 0 ≡ pos 0
zero_in true n = let l = pow_pos n in plus n 0 (omega (arith, l))
zero_in false n = refl

from_zero : (x : ℤ) → pos 0 -ℤ x ≡ neg_ℤ x
from_zero x = omega (arith, ints)

-- ---- the run

module _ (p : PlainProgram) (e : Env) (slots : ℕ) (home : Temp → Location) (base : Temp → ℕ) (place : ℕ → ℕ)
    (y : Setting p e slots home base place) where
  abbrev M : Need → Mach → View → Type 0
  M need m v = Matches p e y.inputs slots base place y.aside y.stands y.active y.called need m v

  aside_stands : (n : ℕ) → StandsFrom e aside_location n 8 Own
  aside_stands n = record { at = λ j l. refl; kind = λ j l. refl; clear = omega arith }

  from_zero_passes : (kind : FxKind) (s : Bool) (mode : Mode) (c n pc end : ℕ) (t a : Temp) (need need0 : Need) (m : Mach) (v : View)
      (o : Outcome Value)
      → HasHome slots t → HasHome slots a → t.bytes ≡ (format_of kind).bits / 8 → a.bytes ≡ (format_of kind).bits / 8
      → mode.saturate ≡ true → (format_of kind).bits / 8 ≤ 6 → M need0 m v → ((u : ℕ) → u ≢ t.at → need u ≤ need0 u)
      → HasAt e (from_zero_code (format_of kind).signed (home a) (home t) ((format_of kind).bits / 8)) pc end
      → 14 + 12 * ((format_of kind).bits / 8) ≤ c
      →
      ((z : ℕ) (v2 : View) → IsUnaryResult Minus (fixed kind s) mode (value v.at (base a) ((format_of kind).bits / 8)) z
      → M need (machine (with_content t (bits z) m.temps) (worked c m.state)) v2
      → Follows p place e n (m.state.work + c) end v2 o)
      → Follows p place e n m.state.work pc v o
  from_zero_passes kind s mode c n pc end t a need need0 m v o it ia same_t same_a sat few h more at room onward =
      let f = format_of kind in
      let k = f.bits / 8 in
      let top = k - 1 in
      let some = (fixed_bytes (fixed kind s) tt).0 in
      let one : suc top ≡ k = omega (arith, some) in
      let first = copy_code (home a) aside_location k in
      let second = constant_code (home t) 0 k in
      let third = limited_code true f.signed aside_location (home t) top in
      let parts = has_parts e first (second ++ third) pc end at in
      let rest = has_parts e second third parts.0 end parts.2 in
      let v1 = block e first v in
      let v2 = block e second v1 in
      let sa = subst (λ (i : ℕ). StandsFrom e (home a) i (base a) Own) same_a (y.layout.temps_at a ia) in
      let st = subst (λ (i : ℕ). StandsFrom e (home t) i (base t) Own) same_t (y.layout.temps_at t it) in
      let two = st.clear in
      let two_a = sa.clear in
      let work_t = y.layout.temps_work t it in
      let work_a = y.layout.temps_work a ia in
      let cp = copy_holds e (home a) aside_location k (base a) 8 Own Own v sa (aside_stands k) refl refl
      (λ l. let q = work_a.low.left l in omega (arith, q, same_a)) in
      let out30 = subst (λ (i : ℕ). Outside (base t) i 30) same_t (work_outside (base t) t.bytes work_t) in
      let ct = constants_are_right e (home t) k (base t) 0 v1 st out30 in
      let zero : (j : ℕ) → j < k → v2.at (base t + j) ≡ 0 = λ j l. ct.there j l ∙ ap (λ (i : ℕ). i % 256) (zero-div (256 ^ j)) in
      let beside : (j : ℕ) → 8 ≤ j → j < 14 → Outside (base t) k j = λ j lo hi l.
      ⊎_elim (λ (q : base t < 8). let z = work_t.low.left q in omega (arith, z, same_t, lo))
      (λ (q : 8 ≤ base t). let z = work_t.low.right q in absurd (omega (arith, z, l, hi))) (cases_lt (base t) 8) in
      let none = zeros v2.at (base t) k zero in
      let kept : value v2.at 8 k ≡ value v.at (base a) k = row_value v2.at v.at (base a) 8 k
      (λ j l. ct.same (8 + j) (λ q. absurd (omega (arith, q, l, few))) (beside (8 + j) (omega arith) (omega (arith, l, few)))
      ∙ cp.there j l) in
      let numbers1 = numbers_kept v v1 8 k h.bytes (λ j x1 x2 x3 out. cp.same j x1 out)
      (λ j l. rw (cp.there j l) (h.bytes (base a + j) (omega (arith, two_a))))
      (rw (cp.same 30 (omega arith) (λ l. omega (arith, few))) (h.bytes 30 (omega arith))) in
      let numbers2 = numbers_kept v1 v2 (base t) k numbers1 (λ j x1 x2 x3 out. ct.same j x3 out) (λ j l. rw (zero j l) (omega arith))
      (ct.work (numbers1 30 (omega arith))) in
      let far : IsReadFirst 8 (base t) (suc top) = λ l. let z = work_t.low.right (omega (arith, l)) in omega (arith, z, few, one) in
      let clear = clear_of_ends (base t) t.bytes work_t in
      let run = limited_sums_are_right true f mode e aside_location (home t) top 8 (base t) rest.0 end v2 (IsFormat-format_of kind)
      (kind_bits kind ∙ ap (λ (i : ℕ). 8 * i) (sym one)) sat (aside_stands (suc top))
      (subst (λ (i : ℕ). StandsFrom e (home t) i (base t) Own) (sym one) st) far
      (subst (λ (i : ℕ). IsClearOfEnds (base t) i) (same_t ∙ sym one) clear) numbers2 rest.2 in
      let v3 = run.last in
      let z = value v3.at (base t) k in
      let x = value v.at (base a) k in
      let number = number_in f.signed k in
      let at_k =
      subst
      (λ (i : ℕ). HoldsResult i (fit f mode (added true (number_in f.signed i (value v2.at (base t) i)) (number_in f.signed i
      (value v2.at 8 i))))
      (value v3.at (base t) i)) one run.holds in
      let exact : number (value v2.at (base t) k) -ℤ number (value v2.at 8 k) ≡ neg_ℤ (number x) =
      ap (λ (i : ℕ). number i -ℤ number (value v2.at 8 k)) none ∙ ap (λ (i : ℤ). i -ℤ number (value v2.at 8 k)) (zero_in f.signed k)
      ∙ from_zero (number (value v2.at 8 k)) ∙ ap (λ (i : ℕ). neg_ℤ (number i)) kept in
      let holds : HoldsResult k (negation_of (fixed_in f k x) mode) z =
      subst (λ (i : ℤ). HoldsResult k (fit f mode i) z) (exact ∙ sym (div_one (neg_ℤ (number x)))) at_k in
      let wide : Wide v v3 (base t) t.bytes =
      λ i x1 w lo hi out.
      let inside : Outside (base t) k i = subst (λ (q : ℕ). Outside (base t) q i) same_t out in
      run.same i x1 w (λ q. let l = hi (omega (arith, q)) in omega (arith, l, q)) (λ q. let l = hi (omega (arith, q)) in omega
      (arith, l, q))
      (subst (λ (q : ℕ). Outside (base t) q i) (sym one) inside)
      ∙ ct.same i (λ q. let l = hi (omega (arith, q)) in omega (arith, l, q)) inside
      ∙ cp.same i x1 (λ q. let l = lo q in omega (arith, l, few)) in
      let held = λ (j : ℕ) (l : j < k). (let r : v3.at (base t + j) < 256 = run.numbers (base t + j) (omega (arith, two)) in r) in
      let w = wanted need t in
      let most = wanted_most need t in
      let low : value v3.at (base t) w ≡ z % 256 ^ w = sym (value_mod v3.at (base t) w k (omega (arith, most, same_t)) held) in
      let below : z < 256 ^ t.bytes = subst (λ (i : ℕ). z < 256 ^ i) (sym same_t) (value_below v3.at (base t) k held) in
      let seen1 : v1.seen ≡ v.seen = cp.seen ∙ ap (λ l. v.seen ++ l) (no_log (base a) 8 v.at k) ∙ append-nil v.seen in
      let matches = written_wide p e slots home base place y t (bits z) need need0 m (worked c m.state) v v3 it h more wide (low, below)
      run.numbers refl (run.seen ∙ ct.seen ∙ seen1 ∙ h.seen)
      (kept_left y.inputs m.state v v3 (run.inputs ∙ ct.inputs ∙ cp.inputs) h.left) (run.safe ∙ ct.safe ∙ cp.safe ∙ h.safe) in
      let go1 = block_goes e first pc parts.0 v (pieces_are_straight Sum (home a) aside_location k).0 parts.1 in
      let go2 = block_goes e second parts.0 rest.0 v1 (values_are_straight (home t) 0 0 k).0 rest.1 in
      let goes = goes_on_to e (code_steps first + code_steps second) run.steps pc rest.0 end v v2 v3
      (goes_on_to e (code_steps first) (code_steps second) pc parts.0 rest.0 v v1 v2 go1 go2) run.goes in
      let steps1 = (pieces_take Sum (home a) aside_location k).0.1 in
      let steps2 = (values_take (home t) 0 0 k).0 in
      let steps3 = run.at_most in
      after p place e (code_steps first + code_steps second + run.steps) n n m.state.work (m.state.work + c) pc end v v3 o goes
      (omega arith)
      (omega (arith, steps1, steps2, steps3, room, one))
      (onward z v3 (negated (record { kind = kind; sat = s }) mode x z holds) matches)

  -- one byte with a sign in the register of the result
  opposite_passes : (kind : FxKind) (s : Bool) (mode : Mode) (r c n pc end : ℕ) (t a : Temp) (need need0 : Need) (m : Mach) (v : View)
      (o : Outcome Value)
      → HasHome slots t → HasHome slots a → t.bytes ≡ 1 → a.bytes ≡ 1 → (format_of kind).bits / 8 ≡ 1
      → (format_of kind).signed ≡ true → home t ≡ InRegisters r
      → mode.saturate ≡ true → M need0 m v → ((u : ℕ) → u ≢ t.at → need u ≤ need0 u)
      → HasAt e (move_code (home a) (InRegisters r) 1 ++ opposite_code r) pc end → 14 ≤ c
      →
      ((z : ℕ) (v2 : View) → IsUnaryResult Minus (fixed kind s) mode (value v.at (base a) ((format_of kind).bits / 8)) z
      → M need (machine (with_content t (bits z) m.temps) (worked c m.state)) v2
      → Follows p place e n (m.state.work + c) end v2 o)
      → Follows p place e n m.state.work pc v o
  opposite_passes kind s mode r c n pc end t a need need0 m v o it ia same_t same_a one signed is sat h more at room onward =
      let f = format_of kind in
      let move = move_code (home a) (home t) 1 in
      let stands : HasAt e (move ++ opposite_code (base t)) pc end =
      subst (λ (i : ℕ). HasAt e (move ++ opposite_code i) pc end) register
      (subst (λ (q : Location). HasAt e (move_code (home a) q 1 ++ opposite_code r) pc end) (sym is) at) in
      let parts = has_parts e move (opposite_code (base t)) pc end stands in
      let v1 = block e move v in
      let sa = subst (λ (i : ℕ). StandsFrom e (home a) i (base a) Own) same_a (y.layout.temps_at a ia) in
      let moved = move_holds e (home a) (home t) 1 (base a) (base t) v sa st
      (read_first p e slots home base place y t a 1 it ia (omega (arith, same_a))) h.bytes in
      let numbers1 = moved_numbers p e slots home base place y v v1 (base a) (base t) 1 sa.clear h.bytes moved in
      let eight : f.bits ≡ 8 = kind_bits kind ∙ ap (λ (i : ℕ). 8 * i) one in
      let run = opposites_are_right f mode e (base t) parts.0 end v1 signed eight sat two numbers1 parts.2 in
      let v2 = run.last in
      let few = run.at_most in
      let go1 = block_goes e move pc parts.0 v (move_straight (home a) (home t) 1) parts.1 in
      let steps = move_steps (home a) (home t) 1 in
      let goes = goes_on_to e (code_steps move) run.steps pc parts.0 end v v1 v2 go1 run.goes in
      let z = value v2.at (base t) 1 in
      let x = value v.at (base a) 1 in
      let byte : v1.at (base t) ≡ x =
      (let e0 : base t + 0 ≡ base t = omega arith in
      let there : v1.at (base t + 0) ≡ v.at (base a + 0) = moved.there 0 (omega arith) in
      ap v1.at (sym e0) ∙ there ∙ (let q : v.at (base a + 0) ≡ value v.at (base a) 1 = omega arith in q)) in
      let exact : neg_ℤ (number_in true 1 (v1.at (base t))) ≡ neg_ℤ (number_in f.signed 1 x) =
      ap (λ (i : ℕ). neg_ℤ (number_in true 1 i)) byte ∙ ap (λ (b : Bool). neg_ℤ (number_in b 1 x)) (sym signed) in
      let holds : HoldsResult 1 (negation_of (fixed_in f 1 x) mode) z =
      subst (λ (i : ℤ). HoldsResult 1 (fit f mode i) z) (exact ∙ sym (div_one (neg_ℤ (number_in f.signed 1 x)))) run.holds in
      let wide : Wide v v2 (base t) t.bytes =
      λ i x1 w lo hi out.
      let inside : Outside (base t) 1 i = subst (λ (q : ℕ). Outside (base t) q i) same_t out in
      run.same i x1 w (λ q. let l = hi (omega (arith, q)) in omega (arith, l, q)) (λ q. let l = hi (omega (arith, q)) in omega
      (arith, l, q)) inside
      ∙ moved.frame i x1 w (λ q. let l = hi (omega (arith, q)) in omega (arith, l, q)) inside in
      let held = λ (j : ℕ) (l : j < 1). (let b : v2.at (base t + j) < 256 = run.numbers (base t + j) (omega (arith, two)) in b) in
      let w = wanted need t in
      let most = wanted_most need t in
      let low : value v2.at (base t) w ≡ z % 256 ^ w = sym (value_mod v2.at (base t) w 1 (omega (arith, most, same_t)) held) in
      let below : z < 256 ^ t.bytes = subst (λ (i : ℕ). z < 256 ^ i) (sym same_t) (value_below v2.at (base t) 1 held) in
      let matches = written_wide p e slots home base place y t (bits z) need need0 m (worked c m.state) v v2 it h more wide (low, below)
      run.numbers refl (run.seen ∙ moved.quiet.seen ∙ h.seen)
      (kept_left y.inputs m.state v v2 (run.inputs ∙ moved.quiet.inputs) h.left) (run.safe ∙ moved.quiet.safe ∙ h.safe) in
      let result : IsUnaryResult Minus (fixed kind s) mode (value v.at (base a) (f.bits / 8)) z =
      negated (record { kind = kind; sat = s }) mode (value v.at (base a) (f.bits / 8)) z
      (subst (λ (i : ℕ). HoldsResult i (negation_of (fixed_in f i (value v.at (base a) i)) mode) z) (sym one) holds) in
      after p place e (code_steps move + run.steps) n n m.state.work (m.state.work + c) pc end v v2 o goes (omega arith)
      (omega (arith, few, steps, room)) (onward z v2 result matches)
    where
      st : StandsFrom e (home t) 1 (base t) Own
      st = subst (λ (i : ℕ). StandsFrom e (home t) i (base t) Own) same_t (y.layout.temps_at t it)

      two : 2 ≤ base t
      two = st.clear

      register : r ≡ base t
      register = by_place (subst (λ (q : Location). StandsFrom e q 1 (base t) Own) is st)
        where
          by_place : StandsFrom e (InRegisters r) 1 (base t) Own → r ≡ base t
          by_place k = let q = k.at 0 (omega arith) in omega (arith, q)

  negation_passes : (kind : FxKind) (s : Bool) (mode : Mode) (c n pc end : ℕ) (t a : Temp) (need need0 : Need) (m : Mach) (v : View)
      (o : Outcome Value)
      → HasHome slots t → HasHome slots a → t.bytes ≡ (format_of kind).bits / 8 → a.bytes ≡ (format_of kind).bits / 8
      → mode.saturate ≡ true → (format_of kind).bits / 8 ≤ 6 → M need0 m v → ((u : ℕ) → u ≢ t.at → need u ≤ need0 u)
      → HasAt e (negated_code (format_of kind).signed (home a) (home t) ((format_of kind).bits / 8)) pc end
      → 14 + 12 * ((format_of kind).bits / 8) ≤ c
      →
      ((z : ℕ) (v2 : View) → IsUnaryResult Minus (fixed kind s) mode (value v.at (base a) ((format_of kind).bits / 8)) z
      → M need (machine (with_content t (bits z) m.temps) (worked c m.state)) v2
      → Follows p place e n (m.state.work + c) end v2 o)
      → Follows p place e n m.state.work pc v o
  negation_passes kind s mode c n pc end t a need need0 m v o it ia same_t same_a sat few h more at room onward =
      by_place (home t) refl at
    where
      sign : Bool
      sign = (format_of kind).signed

      k : ℕ
      k = (format_of kind).bits / 8

      others : HasAt e (from_zero_code sign (home a) (home t) k) pc end → Follows p place e n m.state.work pc v o
      others there =
          from_zero_passes kind s mode c n pc end t a need need0 m v o it ia same_t same_a sat few h more there room onward

      by_place : (q : Location) → home t ≡ q → HasAt e (negated_code sign (home a) q k) pc end → Follows p place e n m.state.work pc v o
      by_place (InMemory u j) is there =
          others (subst (λ (q : Location). HasAt e (from_zero_code sign (home a) q k) pc end) (sym is) there)
      by_place (InRegisters r) is there = by_kind (sign && k == 1) refl there
        where
          by_kind : (b : Bool) → (sign && k == 1) ≡ b
              → HasAt e (if b then move_code (home a) (InRegisters r) 1 ++ opposite_code r
              else from_zero_code sign (home a) (InRegisters r) k) pc end
              → Follows p place e n m.state.work pc v o
          by_kind true q there =
              let parts = and_parts sign (k == 1) q in
              let one = eqb-true k 1 parts.1 in
              opposite_passes kind s mode r c n pc end t a need need0 m v o it ia (same_t ∙ one) (same_a ∙ one) one parts.0 is sat h more
              there (omega (arith, room)) onward
          by_kind false q there =
              others (subst (λ (q : Location). HasAt e (from_zero_code sign (home a) q k) pc end) (sym is) there)

  pub negated_passes : (op : UnOp) (ty : PlainType) (mode : Mode) (c n pc end : ℕ) (t a : Temp) (need need0 : Need) (m : Mach) (v : View)
      (o : Outcome Value)
      → IsFixedUnary slots op t a ty → mode.saturate ≡ true → scalar_size ty ≤ 6 → M need0 m v → ((u : ℕ) → u ≢ t.at → need u ≤ need0 u)
      → HasAt e (negated_code (is_signed ty) (home a) (home t) (scalar_size ty)) pc end → 14 + 12 * scalar_size ty ≤ c
      →
      ((z : ℕ) (v2 : View) → IsUnaryResult op ty mode (value v.at (base a) (scalar_size ty)) z
      → M need (machine (with_content t (bits z) m.temps) (worked c m.state)) v2
      → Follows p place e n (m.state.work + c) end v2 o)
      → Follows p place e n m.state.work pc v o
  negated_passes Minus (fixed kind s) mode c n pc end t a need need0 m v o i sat few h more at room onward =
      negation_passes kind s mode c n pc end t a need need0 m v o i.result i.operand i.result_bytes i.operand_bytes sat few h more at
      room onward
  negated_passes Invert (fixed kind s) mode c n pc end t a need need0 m v o i sat few h more at room onward = absurd i.types.types.0
  negated_passes op void mode c n pc end t a need need0 m v o i sat few h more at room onward = absurd i.types.fixed
  negated_passes op (integer u j) mode c n pc end t a need need0 m v o i sat few h more at room onward = absurd i.types.fixed
  negated_passes op (pointer q u z) mode c n pc end t a need need0 m v o i sat few h more at room onward = absurd i.types.fixed
  negated_passes op (array z j) mode c n pc end t a need need0 m v o i sat few h more at room onward = absurd i.types.fixed
  negated_passes op (struct j) mode c n pc end t a need need0 m v o i sat few h more at room onward = absurd i.types.fixed
