-- Inputs that give the bytes that a run reads give the same run.
use Rattle.std.proofs.Common.{◌≡◌, ℕ, zero, suc, ◌+◌, ◌<◌, ◌≤◌, Bool, true, false, ◌==◌, Option, Some, None, List, ◌∷◌, drop, slice_index}
use Rattle.std.proofs.Common.{refl, sym, ap, ◌∙◌, subst, arith}
use Rattle.std.specs.Prelude.{if◌then◌else◌}
use Rattle.std.proofs.lemmas.Bool.{eqb-true, eq-eqb}
use Rattle.std.proofs.lemmas.List.{get_or-drop}
use Rattle.ec_avr.specs.declared.machine.Access.{Access}
use Rattle.ec_avr.specs.declared.machine.Access.TheVariants.{Silent, In, Out, Read, Write, Stack}
use Rattle.ec_avr.specs.declared.machine.Stepped.{Stepped}
use Rattle.ec_avr.specs.declared.machine.Stepped.TheVariants.{Ran, Ended, Fault}
use Rattle.ec_avr.specs.Machine.{State, Inputs, Run, Running, EndedWith, FaultedAt, machine, step, needs_port, port_read, answer_of}
use Rattle.ec_avr.specs.Machine.{inputs_after, continued, preceded}
use Rattle.ec_avr.specs.Inputs.{trace_of, reads_of, AgreeOn}
use Rattle.ec_avr.proofs.PortRead.{port_read-step}

trace_of-preceded : (a : Access) (r : Run) → trace_of (preceded a r) ≡ a ∷ trace_of r
trace_of-preceded a (Running trace s) = refl
trace_of-preceded a (EndedWith trace result) = refl
trace_of-preceded a (FaultedAt trace kind pc) = refl

-- a longer trace reads no less
reads_of-cons : (port : ℕ) (a : Access) (trace : List Access) → reads_of port trace ≤ reads_of port (a ∷ trace)
reads_of-cons port Silent trace = omega arith
reads_of-cons port (In p byte) trace = more (p == port) (reads_of port trace)
  where
    more : (same : Bool) (n : ℕ) → n ≤ (if same then 1 + n else n)
    more true n = omega arith
    more false n = omega arith
reads_of-cons port (Out p byte) trace = omega arith
reads_of-cons port (Read bank at byte) trace = omega arith
reads_of-cons port (Write at byte) trace = omega arith
reads_of-cons port Stack trace = omega arith

-- a step that reads a port reads a byte of it
port_read_in : (x : Stepped) (port : ℕ) → port_read x ≡ Some port → (byte : ℕ) × (x ≡ Ran (In port byte))
port_read_in (Ran Silent) port e = cc
port_read_in (Ran (In p byte)) port e = let same : p ≡ port = cc in (byte, ap (λ q. Ran (In q byte)) same)
port_read_in (Ran (Out p byte)) port e = cc
port_read_in (Ran (Read bank at byte)) port e = cc
port_read_in (Ran (Write at byte)) port e = cc
port_read_in (Ran Stack) port e = cc
port_read_in Ended port e = cc
port_read_in (Fault kind pc) port e = cc

-- runs that go on alike after a step are alike
continued_alike : (x : Stepped) (t : State) (fa fb : State → Run) → ((acc : Access) → x ≡ Ran acc → fb t ≡ fa t)
    → continued fb x t ≡ continued fa x t
continued_alike (Ran acc) t fa fb h = ap (preceded acc) (h acc refl)
continued_alike Ended t fa fb h = refl
continued_alike (Fault kind pc) t fa fb h = refl

-- the trace of a step that ran and of what follows
trace_after : (x : Stepped) (t : State) (f : State → Run) (acc : Access) → x ≡ Ran acc → trace_of (continued f x t) ≡ acc ∷ trace_of (f t)
trace_after x t f acc e = ap (λ (y : Stepped). trace_of (continued f y t)) e ∙ trace_of-preceded acc (f t)

-- a trace that begins with a read of a port reads one more byte of it, and as many of the others
reads_of-in_same : (port byte : ℕ) (trace : List Access) → reads_of port (In port byte ∷ trace) ≡ 1 + reads_of port trace
reads_of-in_same port byte trace = let same = eq-eqb port port refl in rw same refl

-- what agrees on a longer trace agrees on the rest of it
agree_rest : (acc : Access) (trace : List Access) (a b : Inputs) → AgreeOn (acc ∷ trace) a b → AgreeOn trace a b
agree_rest acc trace a b h port k below = h port k (omega (arith, reads_of-cons port acc trace))

-- and after a read the bytes that are left agree on the rest
agree_after : (port byte : ℕ) (trace : List Access) (a b : Inputs) → AgreeOn (In port byte ∷ trace) a b
    → AgreeOn trace (inputs_after a (Some port)) (inputs_after b (Some port))
agree_after port byte trace a b h q k below = split (q == port) refl
  where
    split : (same : Bool) → (q == port) ≡ same
        → slice_index (if same then drop 1 (a q) else a q) k ≡ slice_index (if same then drop 1 (b q) else b q) k
    split true e =
        let one : q ≡ port = eqb-true q port e in
        let more : 1 + k < reads_of q (In port byte ∷ trace) =
        omega (arith, reads_of-in_same q byte trace, ap (λ p. reads_of q (In p byte ∷ trace)) one) in
        get_or-drop 1 (a q) k 0 ∙ h q (1 + k) more ∙ sym (get_or-drop 1 (b q) k 0)
    split false e = agree_rest (In port byte) trace a b h q k below

-- a step that reads a port, or none, and the run after it
abbrev run_from : ℕ → State → Inputs → Option ℕ → Run
run_from m s inputs port =
    let next = step (answer_of inputs port) s in
    continued (machine m (inputs_after inputs port)) next.stepped next.state

-- a run of one more step, where the shorter ones are alike
one_more : (m : ℕ) (s : State) (a b : Inputs) (port : Option ℕ)
    → ((t : State) (a b : Inputs) → AgreeOn (trace_of (machine m a t)) a b → machine m b t ≡ machine m a t)
    → needs_port s ≡ port → AgreeOn (trace_of (run_from m s a port)) a b → run_from m s b port ≡ run_from m s a port
one_more m s a b None shorter e h =
    let next = step 0 s in
    continued_alike next.stepped next.state (machine m a) (machine m b)
    (λ acc ran. shorter next.state a b
    (agree_rest acc (trace_of (machine m a next.state)) a b
    (subst (λ trace. AgreeOn trace a b) (trace_after next.stepped next.state (machine m a) acc ran) h)))
one_more m s a b (Some port) shorter e h =
    let next = step (slice_index (a port) 0) s in
    let left = inputs_after a (Some port) in
    let read = port_read_in next.stepped port (port_read-step (slice_index (a port) 0) s ∙ e) in
    let rest = trace_of (machine m left next.state) in
    let agree : AgreeOn (In port read.0 ∷ rest) a b =
    subst (λ trace. AgreeOn trace a b) (trace_after next.stepped next.state (machine m left) (In port read.0) read.1) h in
    let same : slice_index (b port) 0 ≡ slice_index (a port) 0 =
    sym (agree port 0 (omega (arith, reads_of-in_same port read.0 rest))) in
    ap (λ byte. continued (machine m (inputs_after b (Some port))) (step byte s).stepped (step byte s).state) same
    ∙ continued_alike next.stepped next.state (machine m left) (machine m (inputs_after b (Some port)))
    (λ acc ran. shorter next.state left (inputs_after b (Some port)) (agree_after port read.0 rest a b agree))

pub same_run : (m : ℕ) (s : State) (a b : Inputs) → AgreeOn (trace_of (machine m a s)) a b → machine m b s ≡ machine m a s
unfolding machine
same_run zero s a b h = refl
same_run (suc m) s a b h = one_more m s a b (needs_port s) (same_run m) refl h
