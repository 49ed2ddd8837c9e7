-- What the code of operations on ports and on cells does for its operation.
use Rattle.std.proofs.Common.{◌≡◌, ◌≢◌, ◌⊎◌, ⊎_elim, ℕ, suc, ◌+◌, ◌*◌, ◌<◌, ◌≤◌, Bool, true, false, pos, List}
use Rattle.std.proofs.Common.{◌++◌, Option, Some, None, refl, arith, leb-true}
use Rattle.std.specs.Prelude.{nat_le, if◌then◌else◌, option_map}
use Rattle.ec_asm.specs.declared.items.AsmItem.{AsmItem}
use Rattle.ec_asm.specs.declared.pieces.Location.{Location}
use Rattle.ec_asm.specs.View.{View}
use Rattle.ec_asm.specs.Change.{Env}
use Rattle.ec_asm.specs.Items.{HasAt, block, chain, code_steps, all_straight}
use Rattle.ec_asm.specs.Pieces.{copy_code}
use Rattle.ec_core.specs.declared.values.Undefined.TheVariants.{BufferIndex}
use Rattle.ec_core.specs.declared.values.Value.{Value}
use Rattle.ec_core.specs.declared.values.Value.TheVariants.{Number}
use Rattle.ec_core.specs.Meaning.{state_of}
use Rattle.ec_core.specs.Plain.{PlainProgram}
use Rattle.ec_core.specs.PortAccesses.{number_read, bytes_read, bytes_written}
use Rattle.ec_core.specs.State.{State, worked, with_choice, chosen, Outcome, got, undefined, next}
use Rattle.ec_ir.specs.declared.operations.Temp.{Temp}
use Rattle.ec_ir.specs.Costs.{op_steps}
use Rattle.ec_ir.specs.Meaning.{Mach, machine, held_number, port_read, port_written, based, Frame as Call}
use Rattle.ec_ir.specs.Operations.{PlainIr, port_in, port_out, load_cell, store_cell, cell_port, PlainIrFunction}
use Rattle.ec_ir.specs.Temporaries.{bits, low_bytes, Temps, with_content, with_temp}
use Rattle.ec_select_bytes.specs.Values.{extend_code}
use Rattle.ec_select_operations.specs.Code.{Linkage}
use Rattle.ec_select_operations.specs.Homes.{HasHome}
use Rattle.ec_select_operations.specs.Needs.{Need, Facts, facts_of, needs, wanted, at_least, without, index_needed}
use Rattle.ec_select_operations.specs.Ports.{read_byte, write_code, point_code, pointed, cell_place, cell_point_code}
use Rattle.ec_select_operations.specs.Pointers.{has_tables}
use Rattle.ec_select_functions.specs.Covered.{IsPort}
use Rattle.ec_select_functions.specs.Kept.{are_on_ports}
use Rattle.ec_select_functions.specs.Relation.{Matches}
use Rattle.ec_select_functions.proofs.CellMatch.{cell_points, cell_loaded, cell_stored}
use Rattle.ec_select_functions.proofs.Follow.{Follows, with_ports}
use Rattle.ec_select_functions.proofs.Fronts.{run_adds}
use Rattle.ec_select_functions.proofs.Going.{goes_past as goes_past_of, items as items_of, own_items as own_items_of, R as run_of}
use Rattle.ec_select_functions.proofs.Going.{P as operation_of, Rest as ShownOf}
use Rattle.ec_select_functions.proofs.Match.{wanted_most, least_here, least_other, without_other}
use Rattle.ec_select_functions.proofs.Moves.{copy_straight, copy_steps}
use Rattle.ec_select_functions.proofs.PortForms.{in_straight, in_steps, out_straight, out_steps, cell_in_straight, cell_in_steps}
use Rattle.ec_select_functions.proofs.PortForms.{cell_out_straight, cell_out_steps}
use Rattle.ec_select_functions.proofs.PortMatch.{needs_index, needs_index_too, index_other, in_matches, out_matches}
use Rattle.ec_select_functions.proofs.PortMatch.{points as points_at, NeedsIndex}
use Rattle.ec_select_functions.proofs.PortPoints.{Pointed, from_bytes, from_element, from_base}
use Rattle.ec_select_functions.proofs.PortStates.{ports_before, kinds_read, kinds_written, read_work, written_work}
use Rattle.ec_select_functions.proofs.Setting.{Setting}

some_width : (width : ℕ) → (width ≡ 1) ⊎ ((width ≡ 2) ⊎ (width ≡ 4)) → (1 ≤ width) × (width ≤ 4)
some_width width cases =
    ⊎_elim (λ (q : width ≡ 1). (omega arith, omega arith))
    (λ (r : (width ≡ 2) ⊎ (width ≡ 4)).
    ⊎_elim (λ (q : width ≡ 2). (omega arith, omega arith)) (λ (q : width ≡ 4). (omega arith, omega arith)) r) cases

module _ (p : PlainProgram) (functions : List PlainIrFunction) (e : Env) (slots : ℕ) (home : Temp → Location)
    (base : Temp → ℕ) (place : ℕ → ℕ) (y : Setting p e slots home base place) (labels : ℕ → Need) (all : List PlainIr)
    (end : ℕ) (results : ℕ → ℕ) (me : ℕ) (link : Linkage) (stack : List Call) where
  -- what the code of the function is made by
  abbrev at : Facts
  at = facts_of (has_tables p.objects) labels all

  abbrev M : Need → Mach → View → Type 0
  M need m v = Matches p e y.inputs slots base place y.aside y.stands y.active y.called need m v

  abbrev G : (n w pc : ℕ) → View → Outcome Value → Type 0
  G n w pc v o = Follows p place e n w pc v o

  abbrev items : List PlainIr → List AsmItem
  items code = items_of p functions e slots home base place y labels all end results me link stack code

  abbrev own_items : PlainIr → List PlainIr → List AsmItem
  own_items i rest = own_items_of p functions e slots home base place y labels all end results me link stack i rest

  abbrev R : ℕ → List PlainIr → Mach → Outcome Value
  R n rest m = run_of p functions e slots home base place y labels all end results me link stack n rest m

  abbrev P : ℕ → PlainIr → List PlainIr → Mach → Outcome Value
  P n i rest m = operation_of p functions e slots home base place y labels all end results me link stack n i rest m

  abbrev Rest : ℕ → List PlainIr → Type 0
  Rest n rest = ShownOf p functions e slots home base place y labels all end results me link stack n rest

  goes_past : (code behind : List AsmItem) (n n1 w w1 pc : ℕ) (v : View) (o : Outcome Value)
      → HasAt e (code ++ behind) pc end → all_straight code ≡ true → n1 ≤ code_steps code + n → w + code_steps code ≤ w1
      → ((mid : ℕ) → HasAt e behind mid end → G n w1 mid (block e code v) o) → G n1 w pc v o
  goes_past = goes_past_of p functions e slots home base place y labels all end results me link stack

  -- the bytes of a port have been accessed where the run goes on, so they are ports of the machine
  on_machine : (n : ℕ) (rest : List PlainIr) (temps : Temps) (s : State) → are_on_ports e (state_of (R n rest (machine temps s))).events
      ≡ true
      → are_on_ports e s.events ≡ true
  on_machine n rest temps s q =
      ports_before e s (state_of (R n rest (machine temps s))) (run_adds functions p y.inputs n all stack rest (machine temps s)).events q

  -- ---- reads

  -- how a read goes on
  abbrev in_on : ℕ → List PlainIr → Temp → Mach → Value → State → Outcome Value
  in_on n rest t m x s1 = R n rest (machine (with_temp t x m.temps) s1)

  -- the code of a read, of which some points to the port
  abbrev read_code : (there : Option Location) (pointing : List AsmItem) (t : Temp) (port width : ℕ) → List PlainIr → List AsmItem
  read_code there pointing t port width rest =
      pointing ++ (chain (read_byte there port (home t)) width ++ extend_code false (home t) width (wanted (needs at rest) t))

  read_at : (there : Option Location) (pointing : List AsmItem) (t : Temp) (port width a c : ℕ) (rest : List PlainIr) (n pc : ℕ)
      (need0 : Need) (m : Mach) (v : View) → HasHome slots t → width ≤ t.bytes → 1 ≤ width
      → ((u : ℕ) → u ≢ t.at → needs at rest u ≤ need0 u) → M need0 m v
      → (a + width ≤ 256 → Pointed e there port a v (block e pointing v))
      → HasAt e (read_code there pointing t port width rest ++ items rest) pc end
      → all_straight (read_code there pointing t port width rest) ≡ true
      → width ≤ code_steps (read_code there pointing t port width rest)
      → code_steps (read_code there pointing t port width rest) ≤ c → Rest n rest
      → G (suc n) m.state.work pc v (next (port_read y.inputs a width (worked c m.state)) (in_on n rest t m))
  read_at there pointing t port width a c rest n pc need0 m v it within some more h point stands straight least most f =
      by_place (nat_le (a + width) 256) refl
    where
      s : State
      s = worked c m.state

      m1 : Mach
      m1 =
          machine (with_content t (bits (low_bytes t.bytes (pos (number_read y.inputs width a s)))) m.temps) (bytes_read y.inputs width a s)

      found : a + width ≤ 256 → G (suc n) m.state.work pc v (R n rest m1)
      found below =
          with_ports p place e (suc n) m.state.work pc v (R n rest m1)
          (λ ports.
          let kinds = kinds_read e y.inputs width a s (on_machine n rest m1.temps m1.state ports) in
          let matches =
          in_matches p e slots home base place y there pointing t port width a c (needs at rest) need0 m v it within some below kinds more
          h (point below) in
          let work = read_work y.inputs width a s in
          goes_past (read_code there pointing t port width rest) (items rest) n (suc n) m.state.work m1.state.work pc v (R n rest m1)
          stands straight (omega (arith, least, some)) (omega (arith, most, work)) (λ mid u. f mid m1 _ u matches))

      by_place : (b : Bool) → nat_le (a + width) 256 ≡ b
          → G (suc n) m.state.work pc v
          (next
          (if b then got (Number (pos (number_read y.inputs width a s))) (bytes_read y.inputs width a s) else undefined BufferIndex s)
          (in_on n rest t m))
      by_place true q = found (leb-true (a + width) 256 q)
      by_place false q = tt

  -- what else is needed is needed before it
  read_more : (t : Temp) (index : Option Temp) (rest : List PlainIr) (u : ℕ) → u ≢ t.at
      → needs at rest u ≤ index_needed index (without t.at (needs at rest)) u
  read_more t index rest u d =
      let x = without_other t.at u (needs at rest) d in
      let z = index_other p e slots home base place y index (without t.at (needs at rest)) u in
      omega (arith, x, z)

  pub in_follows : (t : Temp) (port : ℕ) (index : Option Temp) (width : ℕ) (rest : List PlainIr) (n pc : ℕ) (m : Mach)
      (v : View) → IsPort slots t port index width → HasAt e (own_items (port_in t port index width) rest) pc end
      → M (index_needed index (without t.at (needs at rest))) m v → Rest n rest
      → G (suc n) m.state.work pc v (P n (port_in t port index width) rest m)
  in_follows t port index width rest n pc m v is stands h f =
      from_element p place e index port width m.temps (worked c m.state) (λ a s1. next (port_read y.inputs a width s1) (in_on n rest t m))
      (suc n) m.state.work pc v
      (λ a element. read_at there (point_code there port width) t port width a c rest n pc
      (index_needed index (without t.at (needs at rest))) m v is.number is.within some.0 (read_more t index rest) h
      (λ below. points_at p e slots home base place y index port width a (index_needed index (without t.at (needs at rest))) m v
      is.index_has (needs_index p e slots home base place y index (without t.at (needs at rest))) is.one_two_four below some.0 element h)
      stands (in_straight there (home t) port width (wanted (needs at rest) t)) take.0 room f)
    where
      c : ℕ
      c = op_steps (port_in t port index width)

      there : Option Location
      there = option_map home index

      some : (1 ≤ width) × (width ≤ 4)
      some = some_width width is.one_two_four

      take : (width ≤ code_steps (read_code there (point_code there port width) t port width rest))
          × (code_steps (read_code there (point_code there port width) t port width rest) ≤ 10 + 2 * width + wanted (needs at rest) t)
      take = in_steps there (home t) port width (wanted (needs at rest) t)

      room : code_steps (read_code there (point_code there port width) t port width rest) ≤ c
      room = let most = wanted_most (needs at rest) t in omega (arith, take.1, most, some.0)

  pub cell_in_follows : (t : Temp) (cell offset : ℕ) (index : Option Temp) (width : ℕ) (rest : List PlainIr) (n pc : ℕ) (m : Mach)
      (v : View) → IsPort slots t offset index width → cell < y.cells
      → HasAt e (own_items (cell_port true t cell offset index width) rest) pc end
      → M (index_needed index (without t.at (needs at rest))) m v → Rest n rest
      → G (suc n) m.state.work pc v (P n (cell_port true t cell offset index width) rest m)
  cell_in_follows t cell offset index width rest n pc m v is l stands h f =
      from_base p place e index cell offset width m.temps (worked c m.state)
      (λ a s1. next (port_read y.inputs a width s1) (in_on n rest t m)) (suc n) m.state.work pc v
      (λ b a bound element. read_at pointed (cell_point_code there cell offset width) t 0 width a c rest n pc
      (index_needed index (without t.at (needs at rest))) m v is.number is.within some.0 (read_more t index rest) h
      (λ below. cell_points p e slots home base place y index cell offset b width a
      (index_needed index (without t.at (needs at rest))) m v
      is.index_has (needs_index p e slots home base place y index (without t.at (needs at rest))) is.one_two_four l below some.0 bound
      element h) stands (cell_in_straight there (home t) cell offset width (wanted (needs at rest) t)) take.0 room f)
    where
      c : ℕ
      c = op_steps (cell_port true t cell offset index width)

      there : Option Location
      there = option_map home index

      some : (1 ≤ width) × (width ≤ 4)
      some = some_width width is.one_two_four

      take : (width ≤ code_steps (read_code pointed (cell_point_code there cell offset width) t 0 width rest))
          × (code_steps (read_code pointed (cell_point_code there cell offset width) t 0 width rest)
          ≤ 12 + 2 * width + wanted (needs at rest) t)
      take = cell_in_steps there (home t) cell offset width (wanted (needs at rest) t)

      room : code_steps (read_code pointed (cell_point_code there cell offset width) t 0 width rest) ≤ c
      room = let most = wanted_most (needs at rest) t in omega (arith, take.1, most)

  -- ---- writes

  abbrev out_on : ℕ → List PlainIr → Mach → Value → State → Outcome Value
  out_on n rest m x s1 = R n rest (machine m.temps s1)

  write_at : (there : Option Location) (pointing : List AsmItem) (t : Temp) (port width a c low : ℕ) (rest : List PlainIr) (n pc : ℕ)
      (need0 : Need) (m : Mach) (v : View) → HasHome slots t → width ≤ t.bytes → 1 ≤ width → width ≤ need0 t.at
      → ((u : ℕ) → needs at rest u ≤ need0 u) → m.temps t.at ≡ Some (record { bytes = t.bytes; content = bits low }) → M need0 m v
      → (a + width ≤ 256 → Pointed e there port a v (block e pointing v))
      → HasAt e ((pointing ++ write_code there port (home t) 0 width) ++ items rest) pc end
      → all_straight (pointing ++ write_code there port (home t) 0 width) ≡ true
      → width ≤ code_steps (pointing ++ write_code there port (home t) 0 width)
      → code_steps (pointing ++ write_code there port (home t) 0 width) ≤ c → Rest n rest
      → G (suc n) m.state.work pc v (next (port_written a width low (worked c m.state)) (out_on n rest m))
  write_at there pointing t port width a c low rest n pc need0 m v it within some wide less holds h point stands straight least most f =
      by_place (nat_le (a + width) 256) refl
    where
      s : State
      s = worked c m.state

      code : List AsmItem
      code = pointing ++ write_code there port (home t) 0 width

      m1 : Mach
      m1 = machine m.temps (bytes_written width a low s)

      found : a + width ≤ 256 → G (suc n) m.state.work pc v (R n rest m1)
      found below =
          with_ports p place e (suc n) m.state.work pc v (R n rest m1)
          (λ ports.
          let kinds = kinds_written e width a low s (on_machine n rest m.temps m1.state ports) in
          let matches =
          out_matches p e slots home base place y there pointing t port width a c low (needs at rest) need0 m v it within below kinds
          wide less holds h (point below) in
          let work = written_work width a low s in
          goes_past code (items rest) n (suc n) m.state.work m1.state.work pc v (R n rest m1) stands straight
          (omega (arith, least, some)) (omega (arith, most, work)) (λ mid u. f mid m1 _ u matches))

      by_place : (b : Bool) → nat_le (a + width) 256 ≡ b
          → G (suc n) m.state.work pc v
          (next (if b then got (Number (pos low)) (bytes_written width a low s) else undefined BufferIndex s) (out_on n rest m))
      by_place true q = found (leb-true (a + width) 256 q)
      by_place false q = tt

  write_less : (t : Temp) (width : ℕ) (index : Option Temp) (rest : List PlainIr) (u : ℕ)
      → needs at rest u ≤ at_least t.at width (index_needed index (needs at rest)) u
  write_less t width index rest u =
      let x = least_other t.at width u (index_needed index (needs at rest)) in
      let z = index_other p e slots home base place y index (needs at rest) u in
      omega (arith, x, z)

  pub out_follows : (t : Temp) (port : ℕ) (index : Option Temp) (width : ℕ) (rest : List PlainIr) (n pc : ℕ) (m : Mach)
      (v : View) → IsPort slots t port index width → HasAt e (own_items (port_out t port index width) rest) pc end
      → M (at_least t.at width (index_needed index (needs at rest))) m v → Rest n rest
      → G (suc n) m.state.work pc v (P n (port_out t port index width) rest m)
  out_follows t port index width rest n pc m v is stands h f =
      from_element p place e index port width m.temps s
      (λ a s1. next (held_number t m.temps s1) (λ low s2. next (port_written a width low s2) (out_on n rest m))) (suc n) m.state.work pc v
      (λ a element. from_bytes p place e t m.temps s (λ low s2. next (port_written a width low s2) (out_on n rest m))
      (suc n) m.state.work pc v
      (λ low holds. write_at there (point_code there port width) t port width a c low rest n pc need0 m v is.number is.within some.0
      (least_here t.at width (index_needed index (needs at rest))) (write_less t width index rest) holds h
      (λ below. points_at p e slots home base place y index port width a need0 m v is.index_has needed is.one_two_four below some.0
      element h) stands (out_straight there (home t) port width) take.0 room f))
    where
      c : ℕ
      c = op_steps (port_out t port index width)

      s : State
      s = worked c m.state

      there : Option Location
      there = option_map home index

      need0 : Need
      need0 = at_least t.at width (index_needed index (needs at rest))

      needed : NeedsIndex p e slots home base place y index need0
      needed =
          needs_index_too p e slots home base place y index t.at width (index_needed index (needs at rest))
          (needs_index p e slots home base place y index (needs at rest))

      some : (1 ≤ width) × (width ≤ 4)
      some = some_width width is.one_two_four

      take : (width ≤ code_steps (point_code there port width ++ write_code there port (home t) 0 width))
          × (code_steps (point_code there port width ++ write_code there port (home t) 0 width) ≤ 7 + 2 * width)
      take = out_steps there (home t) port width

      room : code_steps (point_code there port width ++ write_code there port (home t) 0 width) ≤ c
      room = omega (arith, take.1, some.0)

  pub cell_out_follows : (t : Temp) (cell offset : ℕ) (index : Option Temp) (width : ℕ) (rest : List PlainIr) (n pc : ℕ) (m : Mach)
      (v : View) → IsPort slots t offset index width → cell < y.cells
      → HasAt e (own_items (cell_port false t cell offset index width) rest) pc end
      → M (at_least t.at width (index_needed index (needs at rest))) m v → Rest n rest
      → G (suc n) m.state.work pc v (P n (cell_port false t cell offset index width) rest m)
  cell_out_follows t cell offset index width rest n pc m v is l stands h f =
      from_base p place e index cell offset width m.temps s
      (λ a s1. next (held_number t m.temps s1) (λ low s2. next (port_written a width low s2) (out_on n rest m))) (suc n) m.state.work pc v
      (λ b a bound element. from_bytes p place e t m.temps s (λ low s2. next (port_written a width low s2) (out_on n rest m))
      (suc n) m.state.work pc v
      (λ low holds. write_at pointed (cell_point_code there cell offset width) t 0 width a c low rest n pc need0 m v is.number is.within
      some.0 (least_here t.at width (index_needed index (needs at rest))) (write_less t width index rest) holds h
      (λ below. cell_points p e slots home base place y index cell offset b width a need0 m v is.index_has needed is.one_two_four l below
      some.0 bound element h) stands (cell_out_straight there (home t) cell offset width) take.0 room f))
    where
      c : ℕ
      c = op_steps (cell_port false t cell offset index width)

      s : State
      s = worked c m.state

      there : Option Location
      there = option_map home index

      need0 : Need
      need0 = at_least t.at width (index_needed index (needs at rest))

      needed : NeedsIndex p e slots home base place y index need0
      needed =
          needs_index_too p e slots home base place y index t.at width (index_needed index (needs at rest))
          (needs_index p e slots home base place y index (needs at rest))

      some : (1 ≤ width) × (width ≤ 4)
      some = some_width width is.one_two_four

      take : (width ≤ code_steps (cell_point_code there cell offset width ++ write_code pointed 0 (home t) 0 width))
          × (code_steps (cell_point_code there cell offset width ++ write_code pointed 0 (home t) 0 width) ≤ 9 + 2 * width)
      take = cell_out_steps there (home t) cell offset width

      room : code_steps (cell_point_code there cell offset width ++ write_code pointed 0 (home t) 0 width) ≤ c
      room = omega (arith, take.1)

  -- ---- cells

  pub load_cell_follows : (t : Temp) (cell : ℕ) (rest : List PlainIr) (n pc : ℕ) (m : Mach) (v : View) → HasHome slots t
      → t.bytes ≡ 1 → cell < y.cells → HasAt e (own_items (load_cell t cell) rest) pc end → M (without t.at (needs at rest)) m v
      → Rest n rest → G (suc n) m.state.work pc v (P n (load_cell t cell) rest m)
  load_cell_follows t cell rest n pc m v it one l stands h f = by_bound (chosen cell m.state) refl
    where
      c : ℕ
      c = op_steps (load_cell t cell)

      s : State
      s = worked c m.state

      m1 : ℕ → Mach
      m1 b = machine (with_content t (bits (low_bytes t.bytes (pos b))) m.temps) s

      by_bound : (o : Option ℕ) → chosen cell m.state ≡ o
          → G (suc n) m.state.work pc v
          (next (based o s) (λ b s1. R n rest (machine (with_temp t (Number (pos b)) m.temps) s1)))
      by_bound None q = tt
      by_bound (Some b) q =
          let take = copy_steps (cell_place cell) (home t) t.bytes in
          goes_past (copy_code (cell_place cell) (home t) t.bytes) (items rest) n (suc n) m.state.work (m1 b).state.work pc v
          (R n rest (m1 b)) stands (copy_straight (cell_place cell) (home t) t.bytes) (omega (arith, take.0, one))
          (omega (arith, take.1, one))
          (λ mid u. f mid (m1 b) _ u (cell_loaded p e slots home base place y t cell b c (needs at rest) m v it one l q h))

  pub store_cell_follows : (t : Temp) (cell : ℕ) (rest : List PlainIr) (n pc : ℕ) (m : Mach) (v : View) → HasHome slots t
      → t.bytes ≡ 1 → cell < y.cells → HasAt e (own_items (store_cell cell t) rest) pc end → M (at_least t.at t.bytes (needs at rest)) m v
      → Rest n rest → G (suc n) m.state.work pc v (P n (store_cell cell t) rest m)
  store_cell_follows t cell rest n pc m v it one l stands h f =
      from_bytes p place e t m.temps s (λ low s1. R n rest (machine m.temps (with_choice cell low s1))) (suc n) m.state.work pc v
      (λ low holds.
      let take = copy_steps (home t) (cell_place cell) t.bytes in
      goes_past (copy_code (home t) (cell_place cell) t.bytes) (items rest) n (suc n) m.state.work (m1 low).state.work pc v
      (R n rest (m1 low)) stands (copy_straight (home t) (cell_place cell) t.bytes) (omega (arith, take.0, one))
      (omega (arith, take.1, one))
      (λ mid u. f mid (m1 low) _ u (cell_stored p e slots home base place y t cell low c (needs at rest) m v it one l holds h)))
    where
      c : ℕ
      c = op_steps (store_cell cell t)

      s : State
      s = worked c m.state

      m1 : ℕ → Mach
      m1 low = machine m.temps (with_choice cell low s)
