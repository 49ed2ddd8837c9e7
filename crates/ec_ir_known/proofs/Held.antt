-- In a run each temporary holds what is known of it, so the checked run is the run.
use Rattle.std.proofs.Common.{◌≡◌, ℕ, zero, suc, Bool, true, false, List, []}
use Rattle.std.proofs.Common.{◌∷◌, Option, Some, None}
use Rattle.std.proofs.Common.{Result, Ok, Err, refl, sym, ap, ◌∙◌, subst}
use Rattle.std.specs.Prelude.{◌==◌, if◌then◌else◌, slice_get, pos, ⊤}
use Rattle.std.proofs.lemmas.Bool.{eq-eqb, eqb-true}
use Rattle.ec_core.specs.declared.values.Undefined.{Undefined}
use Rattle.ec_core.specs.declared.values.Undefined.TheVariants.{Unset}
use Rattle.ec_core.specs.declared.values.Value.{Value}
use Rattle.ec_core.specs.declared.values.Value.TheVariants.{Number, Pointer}
use Rattle.ec_core.specs.Accesses.{referent_of, operand_of, read}
use Rattle.ec_core.specs.Operators.{unary_result, binary_result, conversion_result}
use Rattle.ec_core.specs.Plain.{PlainType, PlainProgram}
use Rattle.ec_core.specs.Pointers.{moved}
use Rattle.ec_core.specs.State.{Inputs, State, worked, with_choice, chosen, Outcome, got, more, undefined, next, given}
use Rattle.ec_ir.specs.declared.operations.Temp.{Temp}
use Rattle.ec_ir.specs.Costs.{op_steps}
use Rattle.ec_ir.specs.Meaning.{Mach, machine, held_as, held_pointer, held_number, object_access, pointer_access, put}
use Rattle.ec_ir.specs.Meaning.{put_object, kept_for, active, Frame, Place, place, find, Go, jump_to, enter, returned}
use Rattle.ec_ir.specs.Meaning.{resulted, leave, element_of_port, element_of_cell, based, port_read, port_written, perform}
use Rattle.ec_ir.specs.Meaning.{exec_from, exec}
use Rattle.ec_ir.specs.Meaning.{pointer_at, start}
use Rattle.ec_ir.specs.Operations.{PlainIr, constant, copy, address, field, load_at, store_at, load_object}
use Rattle.ec_ir.specs.Operations.{store_object, binary_op, unary_op, conversion, label, jump, branch_zero}
use Rattle.ec_ir.specs.Operations.{call_function, return_from, port_in, port_out, load_cell, store_cell, cell_port}
use Rattle.ec_ir.specs.Operations.{PlainIrFunction}
use Rattle.ec_ir.specs.Operations.{data_of}
use Rattle.ec_ir.specs.Temporaries.{Content, bits, low_bytes, Held, Temps, no_temps, content_of, value_of_type, is_zero, with_held}
use Rattle.ec_ir.specs.Temporaries.{with_content, with_temp, read_held, held}
use Rattle.ec_ir_known.specs.declared.known.KnownNumber.{KnownNumber}
use Rattle.ec_ir_known.specs.Known.{Known, is_set, known_after, known_at, operand_number, converted, bytes_left, is_byte_of}
use Rattle.ec_ir_known.specs.Known.{byte_where, leaves_byte, leaves_top, is_low}
use Rattle.ec_ir_known.specs.Laws.{are_held, checked_from, checked, KnownNumbersAreHeld}
use Rattle.ec_ir_known.proofs.Combined.{binary_left}
use Rattle.ec_ir_known.proofs.Converted.{conversion_left}
use Rattle.ec_ir_known.proofs.Places.{IsSo, Knows, all_held, knows_result, knows_cleared, Stands, next_stands, holding}
use Rattle.ec_ir_known.proofs.Places.{known_next, all_left, nothing_first, found, known_number, number_so, bytes_left_so}

-- ---- calls that wait

-- where a call waits, what is known behind it does not depend on its result
record Waits (f : Frame) : Type 0 where
  stands : Stands f.code f.rest
  knows : Knows (known_at f.code f.rest) f.temps
  free : (t : Temp) → f.to ≡ Some t → known_at f.code f.rest t.at ≡ None

abbrev AllWait : List Frame → Type 0
AllWait [] = ⊤
AllWait (f ∷ stack) = Waits f × AllWait stack

-- operations are left of a function, and each temporary holds what is known there
record Good (code rest : List PlainIr) (stack : List Frame) (temps : Temps) : Type 0 where
  stands : Stands code rest
  knows : Knows (known_at code rest) temps
  waiting : AllWait stack

-- ---- outcomes

next_next : {A B C : Type 0} (o : Outcome A) (f : A → State → Outcome B) (g : B → State → Outcome C)
    → next (next o f) g ≡ next o (λ x s. next (f x s) g)
next_next (got x s) f g = refl
next_next (more s) f g = refl
next_next (undefined point s) f g = refl

next_same : {A : Type 0} (o : Outcome A) (f g : A → State → Outcome Value) → ((x : A) (s : State) → f x s ≡ g x s)
    → next o f ≡ next o g
next_same (got x s) f g h = h x s
next_same (more s) f g h = refl
next_same (undefined point s) f g h = refl

given_same : {A : Type 0} (r : Result A Undefined) (s : State) (f g : A → State → Outcome Value)
    → ((x : A) → r ≡ Ok x → f x s ≡ g x s) → next (given r s) f ≡ next (given r s) g
given_same (Ok x) s f g h = h x refl
given_same (Err point) s f g h = refl

held_same : (t : Temp) (temps : Temps) (s : State) (f g : Content → State → Outcome Value)
    → ((h : Held) → temps t.at ≡ Some h → f h.content s ≡ g h.content s) → next (held t temps s) f ≡ next (held t temps s) g
held_same t temps s f g k = at_place (temps t.at) refl
  where
    by_test : (h : Held) → temps t.at ≡ Some h → (b : Bool)
        → next (if b then got h.content s else undefined Unset s) f ≡ next (if b then got h.content s else undefined Unset s) g
    by_test h q true = k h q
    by_test h q false = refl

    at_place : (o : Option Held) → temps t.at ≡ o → next (read_held t.bytes o s) f ≡ next (read_held t.bytes o s) g
    at_place None q = refl
    at_place (Some h) q = by_test h q (h.bytes == t.bytes)

if_true : {A : Type 0} (b : Bool) (x y z : A) → b ≡ true → x ≡ z → (if b then x else y) ≡ z
if_true true x y z q e = e
if_true false x y z q e = absurd cc

-- ---- operations

module _ (functions : List PlainIrFunction) (program : PlainProgram) (inputs : Inputs) where
  module _ (go to_go : Go) (e : (p : Place) (m : Mach) → Good p.code p.rest p.stack m.temps → go p m ≡ to_go p m) where
    enter_same : (o : Option PlainIrFunction) (stack : List Frame) (m : Mach) → AllWait stack
        → enter o go stack m ≡ enter o to_go stack m
    enter_same None stack m w = refl
    enter_same (Some f) stack m w =
        e (place f.code stack f.code) m (record {
          stands = all_left f.code;
          knows = λ at k q. let no : None ≡ Some k = sym (nothing_first f.code at) ∙ q in absurd cc;
          waiting = w;
        })

    leave_same : (stack : List Frame) (result : Option Held) (s : State) → AllWait stack
        → leave program stack result go s ≡ leave program stack result to_go s
    leave_same [] None s w = refl
    leave_same [] (Some result) s w = refl
    leave_same (f ∷ stack) result s w = by_result f.to refl result
      where
        f1 : Waits f
        f1 = w.0

        goes : (temps : Temps) (s1 : State) → Knows (known_at f.code f.rest) temps
            → go (place f.code stack f.rest) (machine temps (kept_for program (active program.main stack) s1))
            ≡ to_go (place f.code stack f.rest) (machine temps (kept_for program (active program.main stack) s1))
        goes temps s1 k =
            e (place f.code stack f.rest) (machine temps (kept_for program (active program.main stack) s1))
            (record { stands = f1.stands; knows = k; waiting = w.1 })

        with_result : (t : Temp) → f.to ≡ Some t → (h : Held) → Knows (known_at f.code f.rest) (with_held t.at h f.temps)
        with_result t q h at k r = by_test (at == t.at) refl
          where
            by_test : (b : Bool) → (at == t.at) ≡ b → IsSo k (if b then Some h else f.temps at)
            by_test true i =
                let same : at ≡ t.at = eqb-true at t.at i in
                let none : None ≡ Some k = sym (f1.free t q) ∙ ap (known_at f.code f.rest) (sym same) ∙ r in
                absurd cc
            by_test false i = f1.knows at k r

        by_result : (to : Option Temp) → f.to ≡ to → (result : Option Held)
            → next (resulted to result f.temps s)
            (λ temps s1. go (place f.code stack f.rest) (machine temps (kept_for program (active program.main stack) s1)))
            ≡ next (resulted to result f.temps s)
            (λ temps s1. to_go (place f.code stack f.rest) (machine temps (kept_for program (active program.main stack) s1)))
        by_result None q result = goes f.temps s f1.knows
        by_result (Some t) q None = refl
        by_result (Some t) q (Some h) = goes (with_held t.at h f.temps) s (with_result t q h)

    -- one operation of a function, of which these are left
    module _ (on to_on : Mach → Outcome Value) (code : List PlainIr) (stack : List Frame) (i : PlainIr) (rest : List PlainIr)
        (temps : Temps)
        (good : Good code (i ∷ rest) stack temps)
        (h : (m : Mach) → Knows (known_at code rest) m.temps → on m ≡ to_on m) where
      abbrev here : Known
      here = known_at code (i ∷ rest)

      next_known : known_at code rest ≡ known_after i here
      next_known = known_next code i rest good.stands

      behind : (t : Temps) → Knows (known_after i here) t → Knows (known_at code rest) t
      behind t k = subst (λ (known : Known). Knows known t) (sym next_known) k

      goes_on : (t : Temps) (s : State) → Knows (known_after i here) t
          → go (place code stack rest) (machine t s) ≡ to_go (place code stack rest) (machine t s)
      goes_on t s k =
          e (place code stack rest) (machine t s)
          (record { stands = next_stands code i rest good.stands; knows = behind t k; waiting = good.waiting })

      stays_on : (t : Temps) (s : State) → Knows (known_after i here) t → on (machine t s) ≡ to_on (machine t s)
      stays_on t s k = h (machine t s) (behind t k)

      jumps : (l : ℕ) (t : Temps) (s : State)
          → jump_to (find l code) go code stack (machine t s) ≡ jump_to (find l code) to_go code stack (machine t s)
      jumps l t s = at_label (find l code) refl
        where
          at_label : (o : Option (List PlainIr)) → find l code ≡ o
              → jump_to o go code stack (machine t s) ≡ jump_to o to_go code stack (machine t s)
          at_label None q = refl
          at_label (Some back) q =
              let f = found l code back q in
              let none = known_next code (label f.number) back f.stands in
              e (place code stack back) (machine t s)
              (record {
                stands = next_stands code (label f.number) back f.stands;
                knows = λ at k r.
                    let no : None ≡ Some k = sym (ap (λ (known : Known). known at) none) ∙ r in absurd cc;
                waiting = good.waiting;
              })

      -- nothing is known of what it leaves
      sets : (t : Temp) (c : Content) → Knows (λ at. if at == t.at then None else here at) (with_content t c temps)
      sets t c = knows_result t None c here temps (λ k q. let no : None ≡ Some k = q in absurd cc) good.knows

      -- of a value it is known that it has so many bytes
      leaves : (t : Temp) (v : Value) → Knows (λ at. if at == t.at then bytes_left t else here at) (with_temp t v temps)
      leaves t v = knows_result t (bytes_left t) (content_of t.bytes v) here temps (bytes_left_so t v) good.knows

    -- the value of a type that a temporary holds
    typed_same : (ty : PlainType) (t : Temp) (temps : Temps) (s : State) (f g : Value → State → Outcome Value)
        → ((h : Held) (x : Value) → temps t.at ≡ Some h → value_of_type program ty h.content ≡ Ok x → f x s ≡ g x s)
        → next (held_as program ty t temps s) f ≡ next (held_as program ty t temps s) g
    typed_same ty t temps s f g k =
        let read = λ (c : Content) (s1 : State). given (value_of_type program ty c) s1 in
        let reads = λ (f : Value → State → Outcome Value) (c : Content) (s1 : State). next (read c s1) f in
        let same : next (held t temps s) (reads f) ≡ next (held t temps s) (reads g) =
        held_same t temps s (reads f) (reads g)
        (λ h q. given_same (value_of_type program ty h.content) s f g (λ x r. k h x q r)) in
        next_next (held t temps s) read f ∙ same ∙ sym (next_next (held t temps s) read g)

    perform_same : (i : PlainIr) (on to_on : Mach → Outcome Value) (code : List PlainIr) (stack : List Frame) (rest : List PlainIr)
        (temps : Temps) (s : State) → Good code (i ∷ rest) stack temps
        → ((m : Mach) → Knows (known_at code rest) m.temps → on m ≡ to_on m)
        → perform functions program inputs i on go code stack rest temps s
        ≡ perform functions program inputs i to_on to_go code stack rest temps s
    perform_same (constant t n) on to_on code stack rest temps s g h =
        let i = constant t n in
        stays_on on to_on code stack i rest temps g h (with_temp t (Number n) temps) s
        (knows_result t (Some (known_number t.bytes n)) (content_of t.bytes (Number n)) (known_at code (i ∷ rest)) temps
        (λ k q. let same : known_number t.bytes n ≡ k = cc in
        subst (λ (x : KnownNumber). IsSo x (Some (holding t.bytes (bits (low_bytes t.bytes n))))) same (number_so t.bytes n)) g.knows)
    perform_same (copy to from) on to_on code stack rest temps s g h =
        let i = copy to from in
        next_same (held from temps s) _ _
        (λ c s1. stays_on on to_on code stack i rest temps g h (with_content to c temps) s1
        (sets on to_on code stack i rest temps g h to c))
    perform_same (address t o offset) on to_on code stack rest temps s g h =
        let i = address t o offset in
        stays_on on to_on code stack i rest temps g h (with_temp t (pointer_at o offset) temps) s
        (sets on to_on code stack i rest temps g h t (content_of t.bytes (pointer_at o offset)))
    perform_same (field ptr space offset) on to_on code stack rest temps s g h =
        let i = field ptr space offset in
        next_same (held_pointer ptr temps s) _ _
        (λ p s1. next_same (given (moved p (referent_of program p s1) (pos offset)) s1) _ _
        (λ q s2. stays_on on to_on code stack i rest temps g h (with_temp ptr (Pointer q) temps) s2
        (sets on to_on code stack i rest temps g h ptr (content_of ptr.bytes (Pointer q)))))
    perform_same (load_at to ptr space) on to_on code stack rest temps s g h =
        let i = load_at to ptr space in
        next_same (held_pointer ptr temps s) _ _
        (λ p s1. next_same (read program (pointer_access program space to.bytes p s1) s1) _ _
        (λ x s2. goes_on on to_on code stack i rest temps g h (with_temp to x temps) s2
        (leaves on to_on code stack i rest temps g h to x)))
    perform_same (store_at ptr space from) on to_on code stack rest temps s g h =
        let i = store_at ptr space from in
        next_same (held_pointer ptr temps s) _ _
        (λ p s1. next_same (put program (pointer_access program space from.bytes p s1) from temps s1) _ _
        (λ x s2. goes_on on to_on code stack i rest temps g h temps s2 g.knows))
    perform_same (load_object t o offset) on to_on code stack rest temps s g h =
        let i = load_object t o offset in
        next_same (read program (object_access program None o offset s) s) _ _
        (λ x s1. goes_on on to_on code stack i rest temps g h (with_temp t x temps) s1
        (leaves on to_on code stack i rest temps g h t x))
    perform_same (store_object o offset t) on to_on code stack rest temps s g h =
        let i = store_object o offset t in
        next_same (put_object program (active program.main stack) o offset t temps s) _ _
        (λ x s1. goes_on on to_on code stack i rest temps g h temps s1 g.knows)
    perform_same (binary_op op ty mode to a aty b bty) on to_on code stack rest temps s g h =
        let i = binary_op op ty mode to a aty b bty in
        let known = known_at code (i ∷ rest) in
        let ends = λ (f : Mach → Outcome Value) (v : Value) (s3 : State). f (machine (with_temp to v temps) s3) in
        let operates = λ (f : Mach → Outcome Value) (x y : Value) (s2 : State).
        next (given (binary_result op ty mode (operand_of program aty x s2) (operand_of program bty y s2)) s2) (ends f) in
        let takes = λ (f : Mach → Outcome Value) (x : Value) (s1 : State). next (held_as program bty b temps s1) (operates f x) in
        typed_same aty a temps s (takes on) (takes to_on)
        (λ o x q e. typed_same bty b temps s (operates on x) (operates to_on x)
        (λ u y r f. given_same (binary_result op ty mode (operand_of program aty x s) (operand_of program bty y s)) s (ends on) (ends to_on)
        (λ v w. stays_on on to_on code stack i rest temps g h (with_temp to v temps) s
        (knows_result to (byte_where to (leaves_byte op ty (is_low known a aty) (is_low known b bty) (leaves_top known a aty b bty)))
        (content_of to.bytes v) known temps
        (λ k z. binary_left program to a b mode known temps o u x y v s k g.knows q r op ty aty bty e f w z) g.knows))))
    perform_same (unary_op op ty mode to a) on to_on code stack rest temps s g h =
        let i = unary_op op ty mode to a in
        next_same (held_as program ty a temps s) _ _
        (λ x s1. next_same (given (unary_result op ty mode x) s1) _ _
        (λ v s2. stays_on on to_on code stack i rest temps g h (with_temp to v temps) s2
        (leaves on to_on code stack i rest temps g h to v)))
    perform_same (conversion to ty mode a aty) on to_on code stack rest temps s g h =
        let i = conversion to ty mode a aty in
        let known = known_at code (i ∷ rest) in
        let ends = λ (f : Mach → Outcome Value) (v : Value) (s2 : State). f (machine (with_temp to v temps) s2) in
        let brings = λ (f : Mach → Outcome Value) (x : Value) (s1 : State).
        next (given (conversion_result ty mode (operand_of program aty x s1)) s1) (ends f) in
        let reads = λ (f : Mach → Outcome Value) (c : Content) (s1 : State). next (given (value_of_type program aty c) s1) (brings f) in
        let read = λ (c : Content) (s1 : State). given (value_of_type program aty c) s1 in
        let same : next (held a temps s) (reads on) ≡ next (held a temps s) (reads to_on) =
        held_same a temps s (reads on) (reads to_on)
        (λ o q. given_same (value_of_type program aty o.content) s (brings on) (brings to_on)
        (λ x r. given_same (conversion_result ty mode (operand_of program aty x s)) s (ends on) (ends to_on)
        (λ v w. stays_on on to_on code stack i rest temps g h (with_temp to v temps) s
        (knows_result to (converted to ty aty (operand_number known a aty) (is_byte_of a.bytes (known a.at))) (content_of to.bytes v)
        known temps
        (λ k z. conversion_left program to a mode known temps o x v s k g.knows q ty aty r w z) g.knows)))) in
        next_next (held a temps s) read (brings on) ∙ same ∙ sym (next_next (held a temps s) read (brings to_on))
    perform_same (label l) on to_on code stack rest temps s g h =
        stays_on on to_on code stack (label l) rest temps g h temps s (λ at k q. let no : None ≡ Some k = q in absurd cc)
    perform_same (jump l) on to_on code stack rest temps s g h = jumps on to_on code stack (jump l) rest temps g h l temps s
    perform_same (branch_zero t l) on to_on code stack rest temps s g h =
        let i = branch_zero t l in
        next_same (held t temps s) _ _
        (λ c s1. by_zero (is_zero c) s1 (jumps on to_on code stack i rest temps g h l temps s1)
        (goes_on on to_on code stack i rest temps g h temps s1 g.knows))
      where
        by_zero : (b : Bool) (s1 : State)
            → jump_to (find l code) go code stack (machine temps s1) ≡ jump_to (find l code) to_go code stack (machine temps s1)
            → go (place code stack rest) (machine temps s1) ≡ to_go (place code stack rest) (machine temps s1)
            → (if b then jump_to (find l code) go code stack (machine temps s1) else go (place code stack rest) (machine temps s1))
            ≡ (if b then jump_to (find l code) to_go code stack (machine temps s1) else to_go (place code stack rest) (machine temps s1))
        by_zero true s1 x y = x
        by_zero false s1 x y = y
    perform_same (call_function f to) on to_on code stack rest temps s g h =
        let i = call_function f to in
        let known = known_at code (i ∷ rest) in
        let next_known = known_next code i rest g.stands in
        enter_same (slice_get functions f) (record { code = code; rest = rest; temps = temps; to = to; called = f } ∷ stack)
        (machine no_temps (kept_for program (f ∷ active program.main stack) s)) (
          record {
            stands = next_stands code i rest g.stands;
            knows = subst (λ (x : Known). Knows x temps) (sym next_known) (knows_cleared to known temps g.knows);
            free = λ t q.
                ap (λ (x : Known). x t.at) next_known
                ∙ if_true (is_set to t.at) None (known t.at) None
                (ap (λ (o : Option Temp). is_set o t.at) q ∙ eq-eqb t.at t.at refl) refl;
          },
          g.waiting,
        )
    perform_same (return_from from) on to_on code stack rest temps s g h =
        next_same (returned from (machine temps s)) _ _ (λ result s1. leave_same stack result s1 g.waiting)
    perform_same (port_in to port index width) on to_on code stack rest temps s g h =
        let i = port_in to port index width in
        next_same (element_of_port port width index (machine temps s)) _ _
        (λ at s1. next_same (port_read inputs at width s1) _ _
        (λ v s2. goes_on on to_on code stack i rest temps g h (with_temp to v temps) s2
        (leaves on to_on code stack i rest temps g h to v)))
    perform_same (port_out from port index width) on to_on code stack rest temps s g h =
        let i = port_out from port index width in
        next_same (element_of_port port width index (machine temps s)) _ _
        (λ at s1. next_same (held_number from temps s1) _ _
        (λ low s2. next_same (port_written at width low s2) _ _
        (λ v s3. goes_on on to_on code stack i rest temps g h temps s3 g.knows)))
    perform_same (load_cell to cell) on to_on code stack rest temps s g h =
        let i = load_cell to cell in
        next_same (based (chosen cell s) s) _ _
        (λ base s1. goes_on on to_on code stack i rest temps g h (with_temp to (Number (pos base)) temps) s1
        (leaves on to_on code stack i rest temps g h to (Number (pos base))))
    perform_same (store_cell cell from) on to_on code stack rest temps s g h =
        let i = store_cell cell from in
        next_same (held_number from temps s) _ _
        (λ low s1. goes_on on to_on code stack i rest temps g h temps (with_choice cell low s1) g.knows)
    perform_same (cell_port true to cell offset index width) on to_on code stack rest temps s g h =
        let i = cell_port true to cell offset index width in
        next_same (element_of_cell cell offset width index (machine temps s)) _ _
        (λ at s1. next_same (port_read inputs at width s1) _ _
        (λ v s2. goes_on on to_on code stack i rest temps g h (with_temp to v temps) s2
        (leaves on to_on code stack i rest temps g h to v)))
    perform_same (cell_port false from cell offset index width) on to_on code stack rest temps s g h =
        let i = cell_port false from cell offset index width in
        next_same (element_of_cell cell offset width index (machine temps s)) _ _
        (λ at s1. next_same (held_number from temps s1) _ _
        (λ low s2. next_same (port_written at width low s2) _ _
        (λ v s3. goes_on on to_on code stack i rest temps g h temps s3 g.knows)))

  -- ---- runs

  module _ (looked_at : List PlainIr → List ℕ) where
    run_same : (n : ℕ) (code : List PlainIr) (stack : List Frame) (rest : List PlainIr) (m : Mach) → Good code rest stack m.temps
        → checked_from looked_at functions program inputs n code stack rest m ≡ exec_from functions program inputs n code stack rest m
    run_same zero code stack rest m g = refl
    run_same (suc n) code stack [] m g = refl
    run_same (suc n) code stack (i ∷ rest) m g =
        let stands = next_stands code i rest g.stands in
        if_true (are_held (known_at code (i ∷ rest)) m.temps (looked_at (i ∷ rest))) _ _ _
        (all_held (known_at code (i ∷ rest)) m.temps (looked_at (i ∷ rest)) g.knows)
        (perform_same (λ p u. checked_from looked_at functions program inputs n p.code p.stack p.rest u)
        (λ p u. exec_from functions program inputs n p.code p.stack p.rest u)
        (λ p u w. run_same n p.code p.stack p.rest u w) i
        (λ u. checked_from looked_at functions program inputs (suc n) code stack rest u)
        (λ u. exec_from functions program inputs (suc n) code stack rest u) code stack rest m.temps (worked (op_steps i) m.state) g
        (λ u k. run_same (suc n) code stack rest u (record { stands = stands; knows = k; waiting = g.waiting })))

pub known_numbers_are_held : KnownNumbersAreHeld
known_numbers_are_held looked_at p inputs n =
    enter_same p.functions (data_of p) inputs (λ q m. checked looked_at p.functions (data_of p) inputs n q m)
    (λ q m. exec p.functions (data_of p) inputs n q m)
    (λ q m g. run_same p.functions (data_of p) inputs looked_at n q.code q.stack q.rest m g) (slice_get p.functions p.main) []
    (start (data_of p)) tt
