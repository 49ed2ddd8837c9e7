-- Runs of operations are runs of their code.
use Rattle.std.proofs.Common.{◌≡◌, ℕ, ◌+◌, ◌≤◌, Bool, true, false, refl, sym, ap, ◌∙◌, subst, arith, Some, None, Option}
use Rattle.std.specs.Prelude.{◌==◌, if◌then◌else◌, ⊤}
use Rattle.std.specs.Int.{cast_signed, w16}
use Rattle.std.proofs.lemmas.Bool.{eqb-true}
use Rattle.ec_isa.specs.declared.instructions.Instr.TheVariants.{Break}
use Rattle.ec_asm.specs.View.{View, pair}
use Rattle.ec_asm.specs.Change.{Env}
use Rattle.ec_asm.specs.Run.{fetch}
use Rattle.ec_asm.specs.Takes.{Goes}
use Rattle.ec_asm.proofs.Hoare.{goes_on_to}
use Rattle.ec_core.specs.declared.values.Undefined.TheVariants.{Unset}
use Rattle.ec_core.specs.declared.values.Value.{Value}
use Rattle.ec_core.specs.declared.values.Value.TheVariants.{Number}
use Rattle.ec_core.specs.Meaning.{number_of, state_of}
use Rattle.ec_core.specs.Plain.{integer, void, PlainProgram}
use Rattle.ec_core.specs.State.{State, Outcome, got, more, undefined, next, given}
use Rattle.ec_ir.specs.declared.operations.Temp.{Temp}
use Rattle.ec_ir.specs.Meaning.{held_as}
use Rattle.ec_ir.specs.Temporaries.{Content, bits, points, value_of_type, Held, Temps, read_held, held, number_of_bytes}
use Rattle.ec_select_functions.specs.Kept.{are_on_ports}
use Rattle.ec_select_functions.specs.Relation.{accesses}

-- ---- what a run shows

-- the run of the code after at least n steps, and no more than the work allows
pub record Shown (p : PlainProgram) (place : ℕ → ℕ) (e : Env) (n w pc : ℕ) (v : View) (s : State) : Type 0 where
  pub steps : ℕ
  pub to : ℕ
  pub last : View
  pub least : n ≤ steps
  pub most : w + steps ≤ s.work
  pub goes : Goes e steps pc v to last
  pub seen : last.seen ≡ accesses p place s.events
  pub safe : last.safe ≡ true

-- the run has come to a BREAK with the result
pub record Finished (p : PlainProgram) (place : ℕ → ℕ) (e : Env) (w pc : ℕ) (v : View) (x : Value) (s : State) : Type 0 where
  pub steps : ℕ
  pub to : ℕ
  pub last : View
  pub most : w + steps ≤ s.work
  pub goes : Goes e steps pc v to last
  pub stop : fetch e to ≡ Some Break
  pub seen : last.seen ≡ accesses p place s.events
  pub safe : last.safe ≡ true
  pub result : cast_signed w16 (pair last.at 24) ≡ number_of x

-- what the code does for an outcome of the operations, of which n that count are made, and which have accessed none but
-- ports of the machine
abbrev pub Follows : PlainProgram → (ℕ → ℕ) → Env → (n w pc : ℕ) → View → Outcome Value → Type 0
Follows p place e n w pc v (more s) = are_on_ports e s.events ≡ true → Shown p place e n w pc v s
Follows p place e n w pc v (got x s) = are_on_ports e s.events ≡ true → Finished p place e w pc v x s
Follows p place e n w pc v (undefined point s) = ⊤

-- ---- outcomes

pub next_next : {A B C : Type 0} (o : Outcome A) (f : A → State → Outcome B) (g : B → State → Outcome C)
    → next (next o f) g ≡ next o (λ x s. next (f x s) g)
next_next (got x s) f g = refl
next_next (more s) f g = refl
next_next (undefined point s) f g = refl

module _ (p : PlainProgram) (place : ℕ → ℕ) (e : Env) where
  abbrev F : (n w pc : ℕ) → View → Outcome Value → Type 0
  F n w pc v o = Follows p place e n w pc v o

  -- a run that goes on
  pub after : (k n n1 w w1 pc pc1 : ℕ) (v v1 : View) (o : Outcome Value) → Goes e k pc v pc1 v1 → n1 ≤ k + n
      → w + k ≤ w1 → F n w1 pc1 v1 o → F n1 w pc v o
  after k n n1 w w1 pc pc1 v v1 (more s) g a b h =
      λ ports.
      let f = h ports in
      let l = f.least in
      let m = f.most in
      record {
        steps = k + f.steps;
        to = f.to;
        last = f.last;
        least = omega arith;
        most = omega arith;
        goes = goes_on_to e k f.steps pc pc1 f.to v v1 f.last g f.goes;
        seen = f.seen;
        safe = f.safe;
      }
  after k n n1 w w1 pc pc1 v v1 (got x s) g a b h =
      λ ports.
      let f = h ports in
      let m = f.most in
      record {
        steps = k + f.steps;
        to = f.to;
        last = f.last;
        most = omega arith;
        goes = goes_on_to e k f.steps pc pc1 f.to v v1 f.last g f.goes;
        stop = f.stop;
        seen = f.seen;
        safe = f.safe;
        result = f.result;
      }
  after k n n1 w w1 pc pc1 v v1 (undefined point s) g a b f = tt

  -- nothing has been done
  pub stay : (pc : ℕ) (v : View) (s : State) → v.seen ≡ accesses p place s.events → v.safe ≡ true
      → F 0 s.work pc v (more s)
  stay pc v s seen safe ports =
      record {
        steps = 0;
        to = pc;
        last = v;
        least = omega arith;
        most = omega arith;
        goes = record { by = refl };
        seen = seen;
        safe = safe;
      }

  -- where ports of the machine alone are accessed
  pub with_ports : (n w pc : ℕ) (v : View) (o : Outcome Value) → (are_on_ports e (state_of o).events ≡ true → F n w pc v o)
      → F n w pc v o
  with_ports n w pc v (more s) f = λ ports. f ports ports
  with_ports n w pc v (got x s) f = λ ports. f ports ports
  with_ports n w pc v (undefined point s) f = tt

  -- a temporary that is read
  pub from_held : (t : Temp) (temps : Temps) (s : State) (go : Content → State → Outcome Value) (n w pc : ℕ)
      (v : View) → ((h : Held) → temps t.at ≡ Some h → h.bytes ≡ t.bytes → F n w pc v (go h.content s))
      → F n w pc v (next (held t temps s) go)
  from_held t temps s go n w pc v f = at_place (temps t.at) refl
    where
      by_test : (h : Held) → temps t.at ≡ Some h → (b : Bool) → (h.bytes == t.bytes) ≡ b
          → F n w pc v (next (if b then got h.content s else undefined Unset s) go)
      by_test h q true r = f h q (eqb-true h.bytes t.bytes r)
      by_test h q false r = tt

      at_place : (x : Option Held) → temps t.at ≡ x → F n w pc v (next (read_held t.bytes x s) go)
      at_place None q = tt
      at_place (Some h) q = by_test h q (h.bytes == t.bytes) refl

  abbrev held_of : ℕ → Content → Held
  held_of bytes content = record { bytes = bytes; content = content }

  pub held_is : (h : Held) (b : ℕ) (c : Content) → h.bytes ≡ b → h.content ≡ c → h ≡ record { bytes = b; content = c }
  held_is h b c q r = ap (λ a. held_of a h.content) q ∙ ap (held_of b) r

  -- one that holds a number of a type
  pub from_number : (signed : Bool) (t : Temp) (temps : Temps) (s : State) (go : Value → State → Outcome Value)
      (n w pc : ℕ) (v : View) → ((low : ℕ) → temps t.at ≡ Some (record { bytes = t.bytes; content = bits low })
      → F n w pc v (go (Number (number_of_bytes signed t.bytes low)) s))
      → F n w pc v (next (held_as p (integer signed t.bytes) t temps s) go)
  from_number signed t temps s go n w pc v f =
      subst (λ o. F n w pc v o) (sym (next_next (held t temps s) _ go))
      (from_held t temps s (λ content s1. next (given (value_of_type p (integer signed t.bytes) content) s1) go) n w pc v
      (λ h q r. by_content h q r h.content refl))
    where
      by_content : (h : Held) → temps t.at ≡ Some h → h.bytes ≡ t.bytes → (c : Content) → h.content ≡ c
          → F n w pc v (next (given (value_of_type p (integer signed t.bytes) c) s) go)
      by_content h q r (bits low) i = f low (q ∙ ap Some (held_is h t.bytes (bits low) r i))
      by_content h q r (points x) i = tt

  -- one that holds nothing that an operation can use
  pub from_nothing : (t : Temp) (temps : Temps) (s : State) (go : Value → State → Outcome Value) (n w pc : ℕ) (v : View)
      → F n w pc v (next (held_as p void t temps s) go)
  from_nothing t temps s go n w pc v =
      subst (λ o. F n w pc v o) (sym (next_next (held t temps s) _ go))
      (from_held t temps s (λ content s1. next (given (value_of_type p void content) s1) go) n w pc v (λ h q r. by_content h.content))
    where
      by_content : (c : Content) → F n w pc v (next (given (value_of_type p void c) s) go)
      by_content (bits low) = tt
      by_content (points x) = tt
