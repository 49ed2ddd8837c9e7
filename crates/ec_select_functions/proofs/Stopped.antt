-- Sums and differences in one fixed-point format that are stopped at the ends of its range.
use Rattle.std.proofs.Common.{◌≡◌, ◌≢◌, ◌⊎◌, inl, inr, ℕ, suc, ◌+◌, ◌*◌, ◌/◌, ◌%◌, ◌^◌, ◌<◌, ◌≤◌, Bool, true}
use Rattle.std.proofs.Common.{refl, sym, ap, ◌∙◌, subst, arith, ℤ, ◌+ℤ◌, ◌-ℤ◌}
use Rattle.std.specs.Prelude.{not}
use Rattle.std.proofs.lemmas.Bool.{false≢true}
use Rattle.ec_fx.specs.declared.formats.Format.{Format}
use Rattle.ec_fx.specs.declared.formats.FxKind.{FxKind}
use Rattle.ec_fx.specs.declared.numbers.Mode.{Mode}
use Rattle.ec_fx.specs.Formats.{format_of, IsFormat}
use Rattle.ec_fx.specs.Results.{fit}
use Rattle.ec_asm.specs.declared.pieces.Location.{Location}
use Rattle.ec_asm.specs.View.{View}
use Rattle.ec_asm.specs.Change.{Env, Own}
use Rattle.ec_asm.specs.Items.{HasAt, block, code_steps}
use Rattle.ec_asm.specs.Pieces.{StandsFrom, Outside, value}
use Rattle.ec_asm.proofs.Hoare.{has_parts, block_goes, goes_on_to}
use Rattle.ec_asm.proofs.Numbers.{value_below, value_mod}
use Rattle.ec_asm.proofs.Sum.{value-same}
use Rattle.ec_core.specs.declared.expressions.BinOp.{BinOp}
use Rattle.ec_core.specs.declared.expressions.BinOp.TheVariants.{Add, Sub}
use Rattle.ec_core.specs.declared.values.Value.{Value}
use Rattle.ec_core.specs.Plain.{PlainType, fixed, PlainProgram}
use Rattle.ec_core.specs.State.{Outcome, worked}
use Rattle.ec_ir.specs.declared.operations.Temp.{Temp}
use Rattle.ec_ir.specs.Meaning.{Mach, machine}
use Rattle.ec_ir.specs.Temporaries.{bits, with_content}
use Rattle.ec_fxcode.specs.ClampLaws.{HoldsResult, IsClearOfEnds}
use Rattle.ec_fxcode_shifts.specs.ShiftLaws.{number_in}
use Rattle.ec_fxcode_quotients.specs.QuotientLaws.{operand_in}
use Rattle.ec_fxcode_limits.specs.Limits.{limited_code}
use Rattle.ec_fxcode_limits.specs.LimitLaws.{added}
use Rattle.ec_fxcode_limits.proofs.Limited.{limited_sums_are_right}
use Rattle.ec_select_fixed.specs.FixedLaws.{IsBinaryResult}
use Rattle.ec_select_fixed.proofs.Formats.{kind_frac}
use Rattle.ec_select_fixed.proofs.Operators.{binary_is, sum_bytes, difference_bytes}
use Rattle.ec_select_operations.specs.Code.{is_difference, same_location, move_code, stopped_code}
use Rattle.ec_select_operations.specs.Homes.{HasHome}
use Rattle.ec_select_operations.specs.Needs.{Need, wanted}
use Rattle.ec_select_operations.specs.Places.{Apart}
use Rattle.ec_select_functions.specs.Relation.{Matches}
use Rattle.ec_select_functions.proofs.FixedRuns.{clear_of_ends}
use Rattle.ec_select_functions.proofs.Follow.{Follows, after}
use Rattle.ec_select_functions.proofs.Match.{kept_left, wanted_most, read_first, written_wide}
use Rattle.ec_select_functions.proofs.Moves.{Wide, move_holds, move_straight, move_steps, row_kept, row_value, stands_less, work_outside}
use Rattle.ec_select_functions.proofs.Computed.{moved_numbers, location_same}
use Rattle.ec_select_functions.proofs.Limited.{IsLimited}
use Rattle.ec_select_functions.proofs.OnIntegers.{sum_exact, difference_exact}
use Rattle.ec_select_functions.proofs.Setting.{Setting}

-- ---- results

sum_stops : (k : FxKind) (s0 s1 s2 : Bool) (mode : Mode) (x y z : ℕ)
    → HoldsResult ((format_of k).bits / 8) (fit (format_of k) mode (number_in (format_of k).signed ((format_of k).bits / 8) x
    +ℤ number_in (format_of k).signed ((format_of k).bits / 8) y)) z
    → IsBinaryResult Add (fixed k s0) mode (fixed k s1) (fixed k s2) x y z
sum_stops k s0 s1 s2 mode x y z h =
    let f = format_of k in
    let n = f.bits / 8 in
    let exact = sum_exact (number_in f.signed n x) (number_in f.signed n y) f.frac in
    binary_is Add (fixed k s0) (fixed k s1) (fixed k s2) mode x y z tt tt
    (sum_bytes (fixed k s0) mode (operand_in f n x) (operand_in f n y) z tt
    (rw (kind_frac k) (subst (λ (t : ℤ). HoldsResult n (fit f mode t) z) (sym exact) h)))

difference_stops : (k : FxKind) (s0 s1 s2 : Bool) (mode : Mode) (x y z : ℕ)
    → HoldsResult ((format_of k).bits / 8) (fit (format_of k) mode (number_in (format_of k).signed ((format_of k).bits / 8) x
    -ℤ number_in (format_of k).signed ((format_of k).bits / 8) y)) z
    → IsBinaryResult Sub (fixed k s0) mode (fixed k s1) (fixed k s2) x y z
difference_stops k s0 s1 s2 mode x y z h =
    let f = format_of k in
    let n = f.bits / 8 in
    let exact = difference_exact (number_in f.signed n x) (number_in f.signed n y) f.frac in
    binary_is Sub (fixed k s0) (fixed k s1) (fixed k s2) mode x y z tt tt
    (difference_bytes (fixed k s0) mode (operand_in f n x) (operand_in f n y) z tt
    (rw (kind_frac k) (subst (λ (t : ℤ). HoldsResult n (fit f mode t) z) (sym exact) h)))

-- bytes that hold the number, or the nearer end of the range, are those of the result
abbrev Held : BinOp → FxKind → Mode → (n x y z : ℕ) → Type 0
Held op k mode n x y z =
    HoldsResult n (fit (format_of k) mode
    (added (is_difference op) (number_in (format_of k).signed n x) (number_in (format_of k).signed n y))) z

by_operator : (op : BinOp) → (op ≡ Add) ⊎ (op ≡ Sub) → (k : FxKind) (s0 s1 s2 : Bool) (mode : Mode) (x y z : ℕ)
    → Held op k mode ((format_of k).bits / 8) x y z → IsBinaryResult op (fixed k s0) mode (fixed k s1) (fixed k s2) x y z
by_operator op (inl e) k s0 s1 s2 mode x y z h =
    subst (λ (o : BinOp). IsBinaryResult o (fixed k s0) mode (fixed k s1) (fixed k s2) x y z) (sym e)
    (sum_stops k s0 s1 s2 mode x y z (subst (λ (o : BinOp). Held o k mode ((format_of k).bits / 8) x y z) e h))
by_operator op (inr e) k s0 s1 s2 mode x y z h =
    subst (λ (o : BinOp). IsBinaryResult o (fixed k s0) mode (fixed k s1) (fixed k s2) x y z) (sym e)
    (difference_stops k s0 s1 s2 mode x y z (subst (λ (o : BinOp). Held o k mode ((format_of k).bits / 8) x y z) e h))

pub stopped_result : (op : BinOp) (mode : Mode) (ty aty bty : PlainType) (h : IsLimited op mode ty aty bty) (n x y z : ℕ)
    → n ≡ (format_of h.kind).bits / 8 → Held op h.kind mode n x y z → IsBinaryResult op ty mode aty bty x y z
stopped_result op mode ty aty bty h n x y z same held =
    let k = h.kind in
    let done = by_operator op h.adds k h.result_saturates h.left_saturates h.right_saturates mode x y z
    (subst (λ (i : ℕ). Held op k mode i x y z) same held) in
    subst (λ (t : PlainType). IsBinaryResult op t mode aty bty x y z) (sym h.result_is)
    (subst (λ (t : PlainType). IsBinaryResult op (fixed k h.result_saturates) mode t bty x y z) (sym h.left_is)
    (subst (λ (t : PlainType). IsBinaryResult op (fixed k h.result_saturates) mode (fixed k h.left_saturates) t x y z)
    (sym h.right_is) done))

-- ---- the run

module _ (p : PlainProgram) (e : Env) (slots : ℕ) (home : Temp → Location) (base : Temp → ℕ) (place : ℕ → ℕ)
    (y : Setting p e slots home base place) where
  abbrev M : Need → Mach → View → Type 0
  M need m v = Matches p e y.inputs slots base place y.aside y.stands y.active y.called need m v

  -- bytes in a temporary's place
  stands : (t : Temp) (n : ℕ) → HasHome slots t → t.bytes ≡ n → StandsFrom e (home t) n (base t) Own
  stands t n it same = stands_less e (home t) t.bytes n (base t) Own (omega arith) (y.layout.temps_at t it)

  -- two temporaries of one width that do not stand at one place
  pub stands_apart : (t b : Temp) → b.bytes ≡ t.bytes → not (same_location (home b) (home t)) ≡ true → t.at ≢ b.at
  stands_apart t b bytes other q =
      let one : b ≡ t = rw (q, ← bytes) refl in
      let s = location_same (home b) (home t) (ap home one) in
      false≢true (ap not (sym s) ∙ other)

  pub stopped_passes : (minus : Bool) (f : Format) (mode : Mode) (top c n pc end : ℕ) (t a b : Temp) (need need0 : Need) (m : Mach)
      (v : View) (o : Outcome Value)
      → HasHome slots t → HasHome slots a → HasHome slots b → t.bytes ≡ suc top → a.bytes ≡ suc top → b.bytes ≡ suc top
      → t.at ≢ b.at → IsFormat f → f.bits ≡ 8 * suc top → mode.saturate ≡ true → M need0 m v
      → ((u : ℕ) → u ≢ t.at → need u ≤ need0 u)
      → HasAt e (stopped_code minus f.signed (home a) (home b) (home t) top) pc end → 14 + 8 * top ≤ c
      →
      ((z : ℕ) (v2 : View)
      → HoldsResult (suc top) (fit f mode (added minus (number_in f.signed (suc top) (value v.at (base a) (suc top)))
      (number_in f.signed (suc top) (value v.at (base b) (suc top))))) z
      → M need (machine (with_content t (bits z) m.temps) (worked c m.state)) v2
      → Follows p place e n (m.state.work + c) end v2 o)
      → Follows p place e n m.state.work pc v o
  stopped_passes minus f mode top c n pc end t a b need need0 m v o it ia ib same_t same_a same_b other format bits_are sat h more at
      room onward =
      let k = suc top in
      let move = move_code (home a) (home t) k in
      let parts = has_parts e move (limited_code minus f.signed (home b) (home t) top) pc end at in
      let v1 = block e move v in
      let sa = stands a k ia same_a in
      let sb = stands b k ib same_b in
      let st = stands t k it same_t in
      let moved = move_holds e (home a) (home t) k (base a) (base t) v sa st
      (read_first p e slots home base place y t a k it ia (omega arith)) h.bytes in
      let numbers1 = moved_numbers p e slots home base place y v v1 (base a) (base t) k sa.clear h.bytes moved in
      let clear = clear_of_ends (base t) t.bytes (y.layout.temps_work t it) in
      let run = limited_sums_are_right minus f mode e (home b) (home t) top (base b) (base t) parts.0 end v1 format bits_are sat sb st
      (read_first p e slots home base place y t b k it ib (omega arith)) (subst (λ (i : ℕ). IsClearOfEnds (base t) i) same_t clear)
      numbers1 parts.2 in
      let v2 = run.last in
      let few = run.at_most in
      let go1 = block_goes e move pc parts.0 v (move_straight (home a) (home t) k) parts.1 in
      let steps = move_steps (home a) (home t) k in
      let goes = goes_on_to e (code_steps move) run.steps pc parts.0 end v v1 v2 go1 run.goes in
      let left : value v1.at (base t) k ≡ value v.at (base a) k = row_value v1.at v.at (base a) (base t) k moved.there in
      let row : (j : ℕ) → j < k → v1.at (base b + j) ≡ v.at (base b + j) =
      λ j l. row_kept v v1 (base t) k (base b) b.bytes (y.layout.temps_at b ib).clear
      (work_outside (base b) b.bytes (y.layout.temps_work b ib))
      (subst (λ (i : ℕ). Apart (base t) i (base b) b.bytes) same_t (y.layout.temps_apart t b it ib other)) moved.frame j (omega arith) in
      let right : value v1.at (base b) k ≡ value v.at (base b) k = value-same v1.at v.at (base b) k row in
      let z = value v2.at (base t) k in
      let given = λ (i j : ℕ). HoldsResult k (fit f mode (added minus (number_in f.signed k i) (number_in f.signed k j))) z in
      let holds : given (value v.at (base a) k) (value v.at (base b) k) =
      subst (λ (j : ℕ). given (value v.at (base a) k) j) right
      (subst (λ (i : ℕ). given i (value v1.at (base b) k)) left run.holds) in
      let wide : Wide v v2 (base t) t.bytes =
      λ i x w lo hi out.
      let inside : Outside (base t) k i = subst (λ (q : ℕ). Outside (base t) q i) same_t out in
      run.same i x w (λ q. let l = hi (omega arith) in omega arith) (λ q. let l = hi (omega arith) in omega arith) inside
      ∙ moved.frame i x w (λ q. let l = hi (omega arith) in omega arith) inside in
      let held = λ (j : ℕ) (l : j < k). (let two = st.clear in let r : v2.at (base t + j) < 256 = run.numbers (base t + j) (omega arith) in r) in
      let w = wanted need t in
      let most = wanted_most need t in
      let low : value v2.at (base t) w ≡ z % 256 ^ w = sym (value_mod v2.at (base t) w k (omega (arith, most, same_t)) held) in
      let below : z < 256 ^ t.bytes = subst (λ (i : ℕ). z < 256 ^ i) (sym same_t) (value_below v2.at (base t) k held) in
      let matches = written_wide p e slots home base place y t (bits z) need need0 m (worked c m.state) v v2 it h more wide (low, below)
      run.numbers refl (run.seen ∙ moved.quiet.seen ∙ h.seen)
      (kept_left y.inputs m.state v v2 (run.inputs ∙ moved.quiet.inputs) h.left) (run.safe ∙ moved.quiet.safe ∙ h.safe) in
      after p place e (code_steps move + run.steps) n n m.state.work (m.state.work + c) pc end v v2 o goes (omega arith)
      (omega (arith, few, steps, room)) (onward z v2 holds matches)
