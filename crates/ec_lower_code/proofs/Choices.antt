-- A dynamic group is bound, and what it is bound to is acquired or released.
use Rattle.std.proofs.Common.{◌≡◌, ◌≢◌, ℕ, zero, suc, ◌+◌, ◌*◌, ◌<◌, ◌≤◌, Bool, true, false, pos, List, [], ◌∷◌, length}
use Rattle.std.proofs.Common.{Option, Some, None, Ok, refl, sym, ap, ◌∙◌, subst, inl, arith, eqb-true, eq-eqb}
use Rattle.std.specs.Prelude.{◌==◌, bit_xor, slice_get, option_and_then, unwrap_or}
use Rattle.std.specs.List.{AllByRecursion}
use Rattle.std.proofs.lemmas.Int.{ints}
use Rattle.std.proofs.lemmas.Nat.{and_le_l, and_comm, xor_of_8}
use Rattle.std.specs.Int.Bits.{xor_self, xor_add_and}
use Rattle.ec_fx.specs.declared.numbers.Mode.{Mode}
use Rattle.ec_iohw.specs.declared.table.Choice.{Choice}
use Rattle.ec_core.specs.declared.expressions.BinOp.TheVariants.{Xor}
use Rattle.ec_core.specs.declared.values.Value.{Value}
use Rattle.ec_core.specs.declared.values.Value.TheVariants.{Number}
use Rattle.ec_core.specs.Accesses.{operand_of}
use Rattle.ec_core.specs.Operators.{binary_result}
use Rattle.ec_core.specs.Plain.{void, PlainProgram}
use Rattle.ec_core.specs.PortAccesses.{no_value, group_effect, bound, bind_effect, choice_effect, dynamic_effect}
use Rattle.ec_core.specs.PortTable.{PlainTable, choices_of}
use Rattle.ec_core.specs.State.{GroupStates, State, worked, with_choice, changed_at, chosen, Outcome, got, next}
use Rattle.ec_core.specs.ValueTypes.{HasType}
use Rattle.ec_core.specs.Words.{pair_count, bind_words, dynamic_words}
use Rattle.ec_core.proofs.Growth.{some_then}
use Rattle.ec_ir.specs.Costs.{op_steps}
use Rattle.ec_ir.specs.Meaning.{Mach, machine, Frame, based}
use Rattle.ec_ir.specs.Operations.{PlainIr, constant, binary_op, label, jump, branch_zero, load_cell, store_cell}
use Rattle.ec_ir.specs.Temporaries.{content_of, is_zero, Temps, with_temp}
use Rattle.ec_lower_code.specs.Code.{temp, byte_type, group_code, bind_code, base_test, choices_code}
use Rattle.ec_lower_code.specs.Correct.{HasByteBase}
use Rattle.ec_lower_code.proofs.Behind.{test_behind_base, choices_behind, group_behind}
use Rattle.ec_lower_code.proofs.Facts.{all_at}
use Rattle.ec_lower_code.proofs.Ops.{to_rest, Below, HasValue, constant_runs, binary_runs, label_comes, jumps, branch_on, branch_off}
use Rattle.ec_lower_code.proofs.PortNodes.{pairs_of_run}
use Rattle.ec_lower_code.proofs.PortRuns.{low_of, bits_same, number_held}
use Rattle.ec_lower_code.proofs.Scene.{World, ports, homes, spot}
use Rattle.ec_lower_code.proofs.Shown.{held_of, choice_in, bound_in, AreBased, Match}
use Rattle.ec_lower_code.proofs.Steps.{held_at, held_below, at, Stands, Resolves, behind, Spot, around, here, goes, Comes, Runs, stays}
use Rattle.ec_lower_code.proofs.Steps.{counts, after, ends, onward, spent_on, less}
use Rattle.ec_lower_code.proofs.Tables.{HaveOwnBases, are_choices, group_within, group_pairs}

-- ---- bytes that are compared

xor_none : (a b : ℕ) → bit_xor a b ≡ 0 → a ≡ b
xor_none a b e =
    let s = xor_add_and a b in let l = and_le_l a b in let r = and_le_l b a in let c = and_comm a b in
    omega (arith, e, s, l, r, c)

-- the byte is 0 exactly where both are the same
xor_same : (a b : ℕ) → (bit_xor a b == 0) ≡ (a == b)
xor_same a b = by_test (a == b) refl
  where
    by_test : (c : Bool) → (a == b) ≡ c → (bit_xor a b == 0) ≡ c
    by_test true e =
        let same : a ≡ b = eqb-true a b e in
        ap (λ (z : ℕ). z == 0) (ap (λ (z : ℕ). bit_xor a z) (sym same) ∙ xor_self a)
    by_test false e = by_zero (bit_xor a b == 0) refl
      where
        by_zero : (c : Bool) → (bit_xor a b == 0) ≡ c → c ≡ false
        by_zero true z =
            let same : a ≡ b = xor_none a b (eqb-true (bit_xor a b) 0 z) in
            let t : true ≡ false = sym (eq-eqb a b same) ∙ e in cc
        by_zero false z = refl

xor_is : (mode : Mode) (program : PlainProgram) (s : State) (a b : ℕ) → a < 256 → b < 256
    → binary_result Xor byte_type mode (operand_of program byte_type (Number (pos a)) s)
    (operand_of program byte_type (Number (pos b)) s) ≡ Ok (Number (pos (bit_xor a b)))
xor_is mode program s a b h k = ap (λ (n : ℕ). Ok (Number (pos n))) (bits_same 1 bit_xor a b h k)

-- as the branch sees it
test_is : (a b : ℕ) → a < 256 → b < 256 → is_zero (content_of 1 (Number (pos (bit_xor a b)))) ≡ (a == b)
test_is a b h k = ap (λ (n : ℕ). n == 0) (low_of 1 (bit_xor a b) (xor_of_8 a b h k)) ∙ xor_same a b

-- ---- what is bound

set_here : (xs : List (Option ℕ)) (d k : ℕ) → d < length xs → unwrap_or (slice_get (changed_at d (λ was. Some k) xs) d) None ≡ Some k
set_here [] d k h = absurd (omega (arith, h))
set_here (x ∷ xs) zero k h = refl
set_here (x ∷ xs) (suc d) k h = set_here xs d k (omega (arith, h))

set_only : (xs : List (Option ℕ)) (d k j : ℕ) → unwrap_or (slice_get (changed_at d (λ was. Some k) xs) d) None ≡ Some j → k ≡ j
set_only [] d k j e = cc
set_only (x ∷ xs) zero k j e = cc
set_only (x ∷ xs) (suc d) k j e = set_only xs d k j e

set_other : (xs : List (Option ℕ)) (d k i : ℕ) → i ≢ d → slice_get (changed_at d (λ was. Some k) xs) i ≡ slice_get xs i
set_other [] d k i h = refl
set_other (x ∷ xs) zero k zero h = absurd (h refl)
set_other (x ∷ xs) zero k (suc i) h = refl
set_other (x ∷ xs) (suc d) k zero h = refl
set_other (x ∷ xs) (suc d) k (suc i) h = set_other xs d k i (λ e. h (ap suc e))

set_length : (xs : List (Option ℕ)) (d k : ℕ) → length (changed_at d (λ was. Some k) xs) ≡ length xs
set_length [] d k = refl
set_length (x ∷ xs) zero k = refl
set_length (x ∷ xs) (suc d) k = ap suc (set_length xs d k)

abbrev set_in : ℕ → ℕ → GroupStates → GroupStates
set_in d k x = record { acquired = x.acquired; choices = changed_at d (λ was. Some k) x.choices }

-- the choice that a group has, which it was bound to
chosen_at : (table : PlainTable) (d k i : ℕ) (b : Choice) (x : GroupStates) → i ≡ d → bound_in table (set_in d k x) i ≡ Some b
    → slice_get (choices_of table d) k ≡ Some b
chosen_at table d k i b x same f =
    let g = subst (λ (z : ℕ). bound_in table (set_in d k x) z ≡ Some b) same f in
    let j = some_then (choice_in (set_in d k x) d) _ b g in
    ap (slice_get (choices_of table d)) (set_only x.choices d k j.0 j.1) ∙ j.2

not_at : (a b : ℕ) → (a == b) ≡ false → a ≢ b
not_at a b e same = let t : true ≡ false = sym (eq-eqb a b same) ∙ e in cc

other_kept : (table : PlainTable) (d k i : ℕ) (b : Choice) (x : GroupStates) → i ≢ d → bound_in table (set_in d k x) i ≡ Some b
    → bound_in table x i ≡ Some b
other_kept table d k i b x differs f =
    ap (λ o. option_and_then (λ j. slice_get (choices_of table i) j) (unwrap_or o None)) (sym (set_other x.choices d k i differs)) ∙ f

-- a group is bound, and its cell gets the base
bound_based : (table : PlainTable) (d k : ℕ) (c : Choice) (x y : GroupStates) → slice_get (choices_of table d) k ≡ Some c → d < 256
    → AreBased table x y → AreBased table (set_in d k x) (set_in d c.base y)
bound_based table d k c x y e lt h = record {
  room = set_length y.choices d c.base ∙ h.room;
  bases = λ i b f. by_group i b f (i == d) refl;
}
  where
    by_group : (i : ℕ) (b : Choice) → bound_in table (set_in d k x) i ≡ Some b → (t : Bool) → (i == d) ≡ t
        → choice_in (set_in d c.base y) i ≡ Some b.base
    by_group i b f true g =
        let same = eqb-true i d g in
        let is : Some c ≡ Some b = sym e ∙ chosen_at table d k i b x same f in
        let c_is : c ≡ b = cc in
        let room = h.room in
        ap (choice_in (set_in d c.base y)) same
        ∙ set_here y.choices d c.base (omega (arith, lt, room))
        ∙ ap (λ (z : Choice). Some z.base) c_is
    by_group i b f false g =
        let differs = not_at i d g in
        ap (λ o. unwrap_or o None) (set_other y.choices d c.base i differs) ∙ h.bases i b (other_kept table d k i b x differs f)

-- where it has no such choice, nothing is said of its cell
unbound_based : (table : PlainTable) (d k : ℕ) (x y : GroupStates) → slice_get (choices_of table d) k ≡ None
    → AreBased table x y → AreBased table (set_in d k x) y
unbound_based table d k x y e h = record { room = h.room; bases = λ i b f. by_group i b f (i == d) refl }
  where
    by_group : (i : ℕ) (b : Choice) → bound_in table (set_in d k x) i ≡ Some b → (t : Bool) → (i == d) ≡ t
        → choice_in y i ≡ Some b.base
    by_group i b f true g = let no : None ≡ Some b = sym e ∙ chosen_at table d k i b x (eqb-true i d g) f in cc
    by_group i b f false g = h.bases i b (other_kept table d k i b x (not_at i d g) f)

-- ---- operations

module _ (wd : World) (code : List PlainIr) (stack : List Frame) where
  abbrev w : Spot
  w = spot wd code stack

  abbrev Stays : ℕ → State → Mach → Type 0
  Stays d s u = Match (homes wd) (ports wd) (around w) d s u

  -- what a cell holds is loaded
  load_runs : (n t d e q : ℕ) (b : Temps) (base : ℕ) (s : State) (u : Mach) (rest : List PlainIr) → chosen q u.state ≡ Some base
      → 5 + d ≤ e → Stays e s u → Below w t b u
      → Runs w n (load_cell (temp t byte_type) q ∷ rest) u (to_rest w rest) (HasValue w byte_type t d b) (got (Number (pos base)) s)
  load_runs n t d e q b base s u rest held le m same =
      let i = load_cell (temp t byte_type) q in
      let t1 : State = worked (op_steps i) u.state in
      let temps = with_temp (temp t byte_type) (Number (pos base)) u.temps in
      ends w (to_rest w rest) (HasValue w byte_type t d b) n (here w (i ∷ rest)) (here w rest) u (machine temps t1) (Number (pos base)) s
      refl
      (counts w (i ∷ rest) (here w rest) u (machine temps t1)
      (λ k. ap (λ o. next (based o t1) (λ x s1. goes w k rest (machine (with_temp (temp t byte_type) (Number (pos x)) u.temps) s1))) held))
      (record {
        match = spent_on (homes wd) (ports wd) e d i temps s u (omega (arith, le)) m;
        value = λ z. held_at t (held_of byte_type (Number (pos base))) u.temps;
        same = λ j lt. held_below t (held_of byte_type (Number (pos base))) u.temps j lt ∙ same j lt;
      })

  -- ---- a dynamic group is bound

  pub bind_runs : (n d choice t e : ℕ) (b : Temps) (s : State) (u : Mach) (rest : List PlainIr) → Stays (e + bind_words) s u
      → Below w t b u
      → Runs w n (bind_code d (slice_get (choices_of (ports wd) d) choice) t rest) u (to_rest w rest) (HasValue w void t e b)
      (bind_effect d choice s)
  bind_runs n d k t e b s u rest m same = by_choice (slice_get (choices_of (ports wd) d) k) refl
    where
      by_choice : (o : Option Choice) → slice_get (choices_of (ports wd) d) k ≡ o
          → Runs w n (bind_code d o t rest) u (to_rest w rest) (HasValue w void t e b) (got no_value (with_choice d k s))
      by_choice None f = (
        u,
        record {
          match = record {
            objects = m.objects;
            cells = unbound_based (ports wd) d k s.groups u.state.groups f m.cells;
            events = m.events;
            spent = let z = m.spent in omega (arith, z);
          };
          value = λ z. absurd z;
          same = same;
        },
        stays w (here w rest) u,
      )
      by_choice (Some c) f =
          let i = store_cell d (temp t byte_type) in
          let chosen_is = are_choices wd.io wd.valid.ports wd.pairs d in
          let small : c.base < 256 = all_at HasByteBase (choices_of (ports wd) d) k c chosen_is.bytes f in
          let within = group_within wd.io d k c f in
          let most = wd.valid.ports.dynamics in
          let x = constant_runs w n t (e + 15) (e + bind_words) b byte_type (pos c.base) s u (i ∷ rest) (omega arith) m same in
          let t1 : State = worked (op_steps i) x.0.state in
          let u1 : Mach = machine x.0.temps (with_choice d c.base t1) in
          let paid = spent_on (homes wd) (ports wd) (e + 15) e i x.0.temps s x.0 (omega arith) x.1.match in
          after w (to_rest w rest) (HasValue w void t e b) n (here w (bind_code d (Some c) t rest)) (here w (i ∷ rest)) u x.0
          (got no_value (with_choice d k s)) x.2
          (ends w (to_rest w rest) (HasValue w void t e b) n (here w (i ∷ rest)) (here w rest) x.0 u1 no_value (with_choice d k s) refl
          (counts w (i ∷ rest) (here w rest) x.0 u1
          (λ j. ap (λ o. next o (λ low s1. goes w j rest (machine x.0.temps (with_choice d low s1))))
          (number_held w byte_type t c.base x.0.temps t1 (x.1.value (inl refl)) small)))
          (record {
            match = record {
              objects = paid.objects;
              cells = bound_based (ports wd) d k c s.groups x.0.state.groups f (omega (arith, within, most)) paid.cells;
              events = paid.events;
              spent = paid.spent;
            };
            value = λ z. absurd z;
            same = x.1.same;
          }))

  -- ---- what a dynamic group is bound to is acquired or released

  -- the operations of the group of a choice
  abbrev choice_code : Bool → Choice → (t : ℕ) → List PlainIr → List PlainIr
  choice_code acquire c t rest = group_code acquire (slice_get (ports wd).groups c.group) t rest

  abbrev choice_is : Bool → Choice → State → Outcome Value
  choice_is acquire c s = group_effect acquire c.group (slice_get (ports wd).groups c.group) s

  choice_runs : (n : ℕ) (acquire : Bool) (c : Choice) (t e : ℕ) (b : Temps) (s : State) (u : Mach) (rest : List PlainIr)
      → Stays (e + 10 * pair_count (ports wd) acquire c.group) s u → Below w t b u
      → Runs w n (choice_code acquire c t rest) u (to_rest w rest) (HasValue w void t e b) (choice_is acquire c s)
  choice_runs n acquire c t e b s u rest m same =
      pairs_of_run wd code stack n acquire c.group (slice_get (ports wd).groups c.group) t e b s u rest
      (group_pairs wd.io wd.pairs c.group) m same

  -- a base is compared with what the cell holds, up to the branch
  test_runs : (n : ℕ) (mode : Mode) (d held base l t e : ℕ) (b : Temps) (s : State) (u : Mach) (rest : List PlainIr)
      → chosen d u.state ≡ Some held → held < 256 → base < 256 → Stays (e + 20) s u → Below w t b u
      → Runs w n (base_test mode d base l t rest) u (to_rest w (branch_zero (temp t byte_type) l ∷ rest))
      (HasValue w byte_type t e b) (got (Number (pos (bit_xor held base))) s)
  test_runs n mode d held base l t e b s u rest is small also m same =
      let branch : List PlainIr = branch_zero (temp t byte_type) l ∷ rest in
      let op : List PlainIr = binary_op Xor byte_type mode (temp t byte_type) (temp t byte_type) byte_type (temp (t + 1) byte_type)
      byte_type ∷ branch in
      let number : List PlainIr = constant (temp (t + 1) byte_type) (pos base) ∷ op in
      let x = load_runs n t (e + 15) (e + 20) d b held s u number is (omega arith) m same in
      let y = constant_runs w n (t + 1) (e + 10) (e + 15) x.0.temps byte_type (pos base) s x.0 op (omega arith) x.1.match (λ j lt. refl) in
      let v = Number (pos (bit_xor held base)) in
      after w (to_rest w branch) (HasValue w byte_type t e b) n (here w (base_test mode d base l t rest)) (here w number) u x.0 (got v s)
      x.2
      (after w (to_rest w branch) (HasValue w byte_type t e b) n (here w number) (here w op) x.0 y.0 (got v s) y.2
      (binary_runs w n t e (e + 10) b Xor byte_type mode byte_type byte_type (Number (pos held)) (Number (pos base)) s y.0 branch (inl refl)
      (byte_typed held small) (inl refl) (byte_typed base also) (omega arith) y.1.match
      (y.1.same t (omega arith) ∙ x.1.value (inl refl)) (y.1.value (inl refl))
      (λ j lt. y.1.same j (omega (arith, lt)) ∙ x.1.same j lt) (Ok v) (xor_is mode w.program s held base small also)))
    where
      byte_typed : (k : ℕ) → k < 256 → HasType w.program byte_type (Number (pos k))
      byte_typed k lt = (inl refl, record { low = omega (arith, ints); high = omega (arith, ints, lt) })

  module _ (resolves : Resolves code) (acquire : Bool) (mode : Mode) (d : ℕ) (c : Choice) (t : ℕ) (b : Temps) (s : State)
      (small : c.base < 256) (bound_to : bound (ports wd) d s ≡ Some c) where
    -- the choices of which that one is do so
    abbrev ChoicesRun : List Choice → Type 0
    ChoicesRun cs =
        (n k l e : ℕ) (u : Mach) (rest : List PlainIr) → slice_get cs k ≡ Some c → HaveOwnBases cs → AllByRecursion HasByteBase cs
        → Stands code (choices_code acquire (ports wd) mode d cs l t rest)
        → Stays (e + dynamic_words (ports wd) acquire cs) s u → Below w t b u
        → Runs w n (choices_code acquire (ports wd) mode d cs l t rest) u (to_rest w rest) (HasValue w void t e b) (choice_is acquire c s)

    choices_run : (cs : List Choice) → ChoicesRun cs
    choices_run [] n k l e u rest at_k own bytes stands m same = cc
    choices_run (x ∷ []) n zero l e u rest at_k own bytes stands m same =
        let is : x ≡ c = cc in
        let words = dynamic_words (ports wd) acquire (x ∷ []) in
        subst (λ (z : Choice). Runs w n (choice_code acquire x t rest) u (to_rest w rest) (HasValue w void t e b) (choice_is acquire z
        s)) is
        (choice_runs n acquire x t e b s u rest (less (homes wd) (ports wd) (e + words) (e + 10 * pair_count (ports wd) acquire x.group) s u
        (omega arith) m) same)
    choices_run (x ∷ []) n (suc k) l e u rest at_k own bytes stands m same = cc
    choices_run (x ∷ other ∷ cs) n k l e u rest at_k own bytes stands m same =
        after w (to_rest w rest) (HasValue w void t e b) n (here w (base_test mode d x.base l t inner)) (here w branch) u z.0
        (choice_is acquire c s) z.2 (by_test (choices_run (other ∷ cs)) (c.base == x.base) refl)
      where
        end : List PlainIr
        end = label (l + 1) ∷ rest

        own_pairs : List PlainIr
        own_pairs = choice_code acquire x t end

        miss : List PlainIr
        miss = jump (l + 1) ∷ label l ∷ own_pairs

        inner : List PlainIr
        inner = choices_code acquire (ports wd) mode d (other ∷ cs) (l + 2) t miss

        branch : List PlainIr
        branch = branch_zero (temp t byte_type) l ∷ inner

        inner_at : Stands code inner
        inner_at = test_behind_base w.program (ports wd) code mode d x.base l t inner stands

        label_at : Stands code (label l ∷ own_pairs)
        label_at = behind code _ _ (choices_behind w.program (ports wd) code acquire mode d (other ∷ cs) (l + 2) t miss inner_at)

        end_at : Stands code end
        end_at = group_behind w.program (ports wd) code acquire (slice_get (ports wd).groups x.group) t end
            (behind code _ _ label_at)

        pairs : ℕ
        pairs = 10 * pair_count (ports wd) acquire x.group

        words : ℕ
        words = dynamic_words (ports wd) acquire (other ∷ cs)

        e1 : ℕ
        e1 = e + (14 + pairs + words)

        z : (u1 : Mach) × HasValue w byte_type t e1 b (Number (pos (bit_xor c.base x.base))) s u1
            × Comes w (here w (base_test mode d x.base l t inner)) u (at (here w branch)) u1
        z = test_runs n mode d c.base x.base l t e1 b s u inner (m.cells.bases d c bound_to) small bytes.0
            (less (homes wd) (ports wd) (e + (40 + pairs + words)) (e1 + 20) s u (omega arith) m) same

        u1 : Mach
        u1 = machine z.0.temps (worked (op_steps (branch_zero (temp t byte_type) l)) z.0.state)

        zero_is : (h : Bool) → (c.base == x.base) ≡ h
            → is_zero (content_of 1 (Number (pos (bit_xor c.base x.base)))) ≡ h
        zero_is h f = test_is c.base x.base small bytes.0 ∙ f

        -- the base is that of the first choice
        here_runs : (c.base == x.base) ≡ true → x ≡ c
            → Runs w n branch z.0 (to_rest w rest) (HasValue w void t e b) (choice_is acquire c s)
        here_runs f is =
            let v = Number (pos (bit_xor c.base x.base)) in
            let held = z.1.value (inl refl) in
            after w (to_rest w rest) (HasValue w void t e b) n (here w branch) (here w own_pairs) z.0 u1 (choice_is acquire c s)
            (branch_off w byte_type t l inner own_pairs z.0 v (resolves l own_pairs label_at) held (zero_is true f))
            (onward w n (here w own_pairs) (here w end) u1 (to_rest w end) (HasValue w void t e b) (to_rest w rest) (HasValue w void t e b)
            (choice_is acquire c s) (λ a. refl)
            (subst (λ (y : Choice). Runs w n own_pairs u1 (to_rest w end) (HasValue w void t e b) (choice_is acquire y s)) is
            (choice_runs n acquire x t e b s u1 end
            (spent_on (homes wd) (ports wd) e1 (e + pairs) (branch_zero (temp t byte_type) l) z.0.temps s z.0 (omega arith) z.1.match)
            z.1.same))
            (λ a s2 u2 r. ends w (to_rest w rest) (HasValue w void t e b) n (here w end) (here w rest) u2 u2 a s2 refl
            (label_comes w (l + 1) rest u2) r))

        -- or that of one behind it
        later_runs : ChoicesRun (other ∷ cs) → (j : ℕ) → slice_get (other ∷ cs) j ≡ Some c → (c.base == x.base) ≡ false
            → Runs w n branch z.0 (to_rest w rest) (HasValue w void t e b) (choice_is acquire c s)
        later_runs go j at_j f =
            let v = Number (pos (bit_xor c.base x.base)) in
            let held = z.1.value (inl refl) in
            after w (to_rest w rest) (HasValue w void t e b) n (here w branch) (here w inner) z.0 u1 (choice_is acquire c s)
            (branch_on w byte_type t l inner z.0 v held (zero_is false f))
            (onward w n (here w inner) (here w miss) u1 (to_rest w miss) (HasValue w void t (e + 5) b) (to_rest w rest)
            (HasValue w void t e b) (choice_is acquire c s) (λ a. refl)
            (go n j (l + 2) (e + 5) u1 miss at_j
            (λ i1 i2 c1 c2 e1 e2 q. let same = own (suc i1) (suc i2) c1 c2 e1 e2 q in omega (arith, same)) bytes.1 inner_at
            (spent_on (homes wd) (ports wd) e1 (e + 5 + words) (branch_zero (temp t byte_type) l) z.0.temps s z.0 (omega arith) z.1.match)
            z.1.same)
            (λ a s2 u2 r. ends w (to_rest w rest) (HasValue w void t e b) n (here w miss) (here w rest) u2
            (machine u2.temps (worked (op_steps (jump (l + 1))) u2.state)) a s2 refl
            (jumps w (l + 1) (label l ∷ own_pairs) rest u2 (resolves (l + 1) rest end_at))
            (record {
              match = spent_on (homes wd) (ports wd) (e + 5) e (jump (l + 1)) u2.temps s2 u2 (omega arith) r.match;
              value = λ i. absurd i;
              same = r.same;
            })))

        by_test : ChoicesRun (other ∷ cs) → (h : Bool) → (c.base == x.base) ≡ h
            → Runs w n branch z.0 (to_rest w rest) (HasValue w void t e b) (choice_is acquire c s)
        by_test go true f =
            let first : 0 ≡ k = own 0 k x c refl at_k (sym (eqb-true c.base x.base f)) in
            let at_first : Some x ≡ Some c = ap (slice_get (x ∷ other ∷ cs)) first ∙ at_k in
            here_runs f cc
        by_test go false f = by_place k at_k
          where
            by_place : (j : ℕ) → slice_get (x ∷ other ∷ cs) j ≡ Some c
                → Runs w n branch z.0 (to_rest w rest) (HasValue w void t e b) (choice_is acquire c s)
            by_place zero at_j =
                let is : x ≡ c = cc in
                let same : (c.base == x.base) ≡ true = eq-eqb c.base x.base (ap (λ (y : Choice). y.base) (sym is)) in
                let contrary : true ≡ false = sym same ∙ f in cc
            by_place (suc j) at_j = later_runs go j at_j f

  pub dynamic_runs : (resolves : Resolves code) (n : ℕ) (acquire : Bool) (mode : Mode) (d l t e : ℕ) (b : Temps) (s : State) (u : Mach)
      (rest : List PlainIr)
      → Stands code (choices_code acquire (ports wd) mode d (choices_of (ports wd) d) l t rest)
      → Stays (e + dynamic_words (ports wd) acquire (choices_of (ports wd) d)) s u → Below w t b u
      → Runs w n (choices_code acquire (ports wd) mode d (choices_of (ports wd) d) l t rest) u (to_rest w rest) (HasValue w void t e b)
      (dynamic_effect acquire (ports wd) d s)
  dynamic_runs resolves n acquire mode d l t e b s u rest stands m same = by_choice (bound (ports wd) d s) refl
    where
      cs : List Choice
      cs = choices_of (ports wd) d

      by_choice : (o : Option Choice) → bound (ports wd) d s ≡ o
          → Runs w n (choices_code acquire (ports wd) mode d cs l t rest) u (to_rest w rest) (HasValue w void t e b)
          (choice_effect acquire (ports wd) o s)
      by_choice None f = tt
      by_choice (Some c) f =
          let k = some_then (chosen d s) _ c f in
          let all = are_choices wd.io wd.valid.ports wd.pairs d in
          choices_run resolves acquire mode d c t b s (all_at HasByteBase cs k.0 c all.bytes k.2) f cs n k.0 l e u rest k.2 all.own
          all.bytes
          stands m same
