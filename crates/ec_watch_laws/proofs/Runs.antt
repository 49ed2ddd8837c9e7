-- The parts of a run, and what a run keeps.
use Rattle.std.proofs.Common.{◌≡◌, ℕ, zero, suc, ◌+◌, List, [], ◌∷◌, ◌++◌, length, refl, sym, ap, ◌∙◌, subst}
use Rattle.std.proofs.Common.{length-append}
use Rattle.ec_avr.specs.declared.machine.Access.{Access}
use Rattle.ec_avr.specs.declared.machine.Stepped.{Stepped}
use Rattle.ec_avr.specs.declared.machine.Stepped.TheVariants.{Ran, Ended, Fault}
use Rattle.ec_avr.specs.Laws.{StepKeeps}
use Rattle.ec_avr.specs.Machine.{State, Inputs, Run, Running, EndedWith, FaultedAt, machine, step, continued, preceded, needs_port}
use Rattle.ec_avr.specs.Machine.{answer_of, inputs_after}
use Rattle.ec_avr.specs.Runs.{left_after, preceded_by, and_on}
use Rattle.ec_avr.proofs.Runs.{machine_joins}

-- ---- a run that goes on is made of its first access and the rest

pub record IsBehind (a : Access) (r : Run) (trace : List Access) (t : State) : Type 0 where
  pub rest : List Access
  pub is : trace ≡ a ∷ rest
  pub run : r ≡ Running rest t

behind : (a : Access) (r : Run) (trace : List Access) (t : State) → preceded a r ≡ Running trace t → IsBehind a r trace t
behind a (Running rest u) trace t e =
    let same : a ∷ rest ≡ trace = cc in
    let there : u ≡ t = cc in
    record { rest = rest; is = sym same; run = ap (Running rest) there }
behind a (EndedWith rest result) trace t e = cc
behind a (FaultedAt rest kind pc) trace t e = cc

-- a run that goes on has as many accesses as steps
counted_by : (m : ℕ) (left : Inputs) (next t : State) (did : Stepped) (trace : List Access)
    → ((rest : List Access) → machine m left next ≡ Running rest t → length rest ≡ m)
    → continued (machine m left) did next ≡ Running trace t → length trace ≡ suc m
counted_by m left next t (Ran a) trace ih e =
    let b = behind a (machine m left next) trace t e in ap length b.is ∙ ap suc (ih b.rest b.run)
counted_by m left next t Ended trace ih e = cc
counted_by m left next t (Fault kind pc) trace ih e = cc

pub counted : (m : ℕ) (inputs : Inputs) (s t : State) (trace : List Access) → machine m inputs s ≡ Running trace t → length trace ≡ m
unfolding machine
counted zero inputs s t trace e = let none : trace ≡ [] = cc in ap length none
counted (suc m) inputs s t trace e =
    counted_by m (inputs_after inputs (needs_port s)) (step (answer_of inputs (needs_port s)) s).state t
    (step (answer_of inputs (needs_port s)) s).stepped trace
    (λ rest. counted m (inputs_after inputs (needs_port s)) (step (answer_of inputs (needs_port s)) s).state t rest) e

-- it keeps the size of the data memory
sized_by : (m : ℕ) (left : Inputs) (s next t : State) (did : Stepped) (trace : List Access)
    → length next.mem.data ≡ length s.mem.data
    → ((rest : List Access) → machine m left next ≡ Running rest t → length t.mem.data ≡ length next.mem.data)
    → continued (machine m left) did next ≡ Running trace t → length t.mem.data ≡ length s.mem.data
sized_by m left s next t (Ran a) trace one ih e =
    let b = behind a (machine m left next) trace t e in ih b.rest b.run ∙ one
sized_by m left s next t Ended trace one ih e = cc
sized_by m left s next t (Fault kind pc) trace one ih e = cc

pub keeps_size : StepKeeps → (m : ℕ) (inputs : Inputs) (s t : State) (trace : List Access) → machine m inputs s ≡ Running trace t
    → length t.mem.data ≡ length s.mem.data
unfolding machine
keeps_size keeps zero inputs s t trace e = let same : s ≡ t = cc in ap (λ (x : State). length x.mem.data) (sym same)
keeps_size keeps (suc m) inputs s t trace e =
    sized_by m (inputs_after inputs (needs_port s)) s (step (answer_of inputs (needs_port s)) s).state t
    (step (answer_of inputs (needs_port s)) s).stepped trace (keeps (answer_of inputs (needs_port s)) s).size
    (λ rest. keeps_size keeps m (inputs_after inputs (needs_port s)) (step (answer_of inputs (needs_port s)) s).state t rest) e

-- ---- two parts

pub record IsRest (first : List Access) (r : Run) (trace : List Access) (t : State) : Type 0 where
  pub rest : List Access
  pub is : trace ≡ first ++ rest
  pub run : r ≡ Running rest t

rest_of : (first : List Access) (r : Run) (trace : List Access) (t : State) → preceded_by first r ≡ Running trace t
    → IsRest first r trace t
rest_of [] r trace t e = record { rest = trace; is = refl; run = e }
rest_of (a ∷ first) r trace t e =
    let b = behind a (preceded_by first r) trace t e in
    let h = rest_of first r b.rest t b.run in
    record { rest = h.rest; is = b.is ∙ ap (λ (z : List Access). a ∷ z) h.is; run = h.run }

-- of two equal joined lists whose first parts have one length, both parts are equal
pub same_parts : (xs ys us vs : List Access) → length xs ≡ length us → xs ++ ys ≡ us ++ vs → (xs ≡ us) × (ys ≡ vs)
same_parts [] ys [] vs n e = (refl, e)
same_parts [] ys (u ∷ us) vs n e = cc
same_parts (x ∷ xs) ys [] vs n e = cc
same_parts (x ∷ xs) ys (u ∷ us) vs n e =
    let head : x ≡ u = cc in
    let tail : xs ++ ys ≡ us ++ vs = cc in
    let more : length xs ≡ length us = cc in
    let h = same_parts xs ys us vs more tail in
    (ap (λ (z : Access). z ∷ xs) head ∙ ap (λ (z : List Access). u ∷ z) h.0, h.1)

-- the state between two parts of a run
pub record IsBetween (inputs : Inputs) (s : State) (xs ys : List Access) (t : State) : Type 0 where
  pub mid : State
  pub first : machine (length xs) inputs s ≡ Running xs mid
  pub second : machine (length ys) (left_after xs inputs) mid ≡ Running ys t

between_by : (inputs : Inputs) (s t : State) (xs ys : List Access) (r : Run) → machine (length xs) inputs s ≡ r
    → and_on (λ trace u. machine (length ys) (left_after trace inputs) u) r ≡ Running (xs ++ ys) t → IsBetween inputs s xs ys t
between_by inputs s t xs ys (Running trace u) e f =
    let h = rest_of trace (machine (length ys) (left_after trace inputs) u) (xs ++ ys) t f in
    let n : length xs ≡ length trace = sym (counted (length xs) inputs s u trace e) in
    let p = same_parts xs ys trace h.rest n h.is in
    record {
      mid = u;
      first = subst (λ (z : List Access). machine (length xs) inputs s ≡ Running z u) (sym p.0) e;
      second = subst (λ (z : List Access). machine (length ys) (left_after z inputs) u ≡ Running ys t) (sym p.0)
          (subst (λ (z : List Access). machine (length ys) (left_after trace inputs) u ≡ Running z t) (sym p.1) h.run);
    }
between_by inputs s t xs ys (EndedWith trace result) e f = cc
between_by inputs s t xs ys (FaultedAt trace kind pc) e f = cc

pub between : (inputs : Inputs) (s t : State) (xs ys : List Access) → machine (length (xs ++ ys)) inputs s ≡ Running (xs ++ ys) t
    → IsBetween inputs s xs ys t
between inputs s t xs ys e =
    between_by inputs s t xs ys (machine (length xs) inputs s) refl
    (sym (machine_joins (length xs) (length ys) inputs s) ∙ ap (λ (n : ℕ). machine n inputs s) (sym (length-append xs ys)) ∙ e)
