-- What reads and writes of ports do to a state.
use Rattle.std.proofs.Common.{◌≡◌, ℕ, zero, suc, ◌+◌, ◌*◌, ◌/◌, ◌%◌, ◌^◌, ◌<◌, ◌≤◌, true, List, [], ◌∷◌, ◌++◌, refl}
use Rattle.std.proofs.Common.{sym}
use Rattle.std.proofs.Common.{ap, ◌∙◌, subst, arith, ⊎_elim}
use Rattle.std.proofs.lemmas.Bool.{and_parts, cases_lt}
use native.Mathlib.Nat.{pow-suc}
use Rattle.ec_runs.specs.Behaviours.{BeginWith}
use Rattle.ec_asm.specs.Change.{Env, Kind, Own, Object, Port, Stacked, Page, Barred}
use Rattle.ec_core.specs.Laws.{left_of}
use Rattle.ec_core.specs.PortAccesses.{next_byte, byte_read, bytes_read, number_read, bytes_written}
use Rattle.ec_core.specs.State.{Inputs, Event, In, Out, State}
use Rattle.ec_select_functions.specs.Kept.{is_port_kind, is_on_port, are_on_ports}
use Rattle.ec_select_functions.proofs.Accesses.{left_after}
use Rattle.ec_select_functions.proofs.Cells.{memory_of}

-- ---- reads by the last byte

module _ (inputs : Inputs) where
  pub read_last : (n port : ℕ) (s : State)
      → bytes_read inputs (suc n) port s ≡ byte_read inputs (port + n) (bytes_read inputs n port s)
  read_last zero port s = let q : port ≡ port + 0 = omega arith in ap (λ a. byte_read inputs a s) q
  read_last (suc n) port s =
      let q : port + 1 + n ≡ port + suc n = omega arith in
      read_last n (port + 1) (byte_read inputs port s)
      ∙ ap (λ a. byte_read inputs a (bytes_read inputs (suc n) port s)) q

  pub number_last : (n port : ℕ) (s : State)
      → number_read inputs (suc n) port s
      ≡ number_read inputs n port s + next_byte inputs (port + n) (bytes_read inputs n port s) * 256 ^ n
  number_last zero port s =
      let q : port + 0 ≡ port = omega arith in
      let z : next_byte inputs (port + 0) s ≡ next_byte inputs port s = ap (λ a. next_byte inputs a s) q in
      omega (arith, z)
  number_last (suc n) port s =
      let t = byte_read inputs port s in
      let first = next_byte inputs port s in
      let front = number_read inputs n (port + 1) t in
      let last = next_byte inputs (port + 1 + n) (bytes_read inputs n (port + 1) t) in
      let q : port + 1 + n ≡ port + suc n = omega arith in
      let same : next_byte inputs (port + suc n) (bytes_read inputs (suc n) port s) ≡ last =
      ap (λ a. next_byte inputs a (bytes_read inputs n (port + 1) t)) (sym q) in
      rw (same, number_last n (port + 1) t, pow-suc 256 n) (assembled first front last (256 ^ n))
    where
      assembled : (a b c x : ℕ) → a + 256 * (b + c * x) ≡ a + 256 * b + c * (x * 256)
      assembled a b c x = grind arith

  pub read_memory : (n port : ℕ) (s : State) → memory_of (bytes_read inputs n port s) ≡ memory_of s
  read_memory zero port s = refl
  read_memory (suc n) port s = read_memory n (port + 1) (byte_read inputs port s)

  pub read_work : (n port : ℕ) (s : State) → (bytes_read inputs n port s).work ≡ s.work
  read_work zero port s = refl
  read_work (suc n) port s = read_work n (port + 1) (byte_read inputs port s)

-- ---- writes

pub written_memory : (n port low : ℕ) (s : State) → memory_of (bytes_written n port low s) ≡ memory_of s
written_memory zero port low s = refl
written_memory (suc n) port low s = written_memory n (port + 1) (low / 256) s

pub written_work : (n port low : ℕ) (s : State) → (bytes_written n port low s).work ≡ s.work
written_work zero port low s = refl
written_work (suc n) port low s = written_work n (port + 1) (low / 256) s

pub written_left : (inputs : Inputs) (n port low other : ℕ) (s : State)
    → left_of inputs other (bytes_written n port low s) ≡ left_of inputs other s
written_left inputs zero port low other s = refl
written_left inputs (suc n) port low other s =
    left_after inputs other (Out port (low % 256)) (bytes_written n (port + 1) (low / 256) s) refl
    ∙ written_left inputs n (port + 1) (low / 256) other s

-- ---- ports of the machine

module _ (e : Env) where
  port_kind : (k : Kind) → is_port_kind k ≡ true → k ≡ Port
  port_kind Port q = refl
  port_kind Own q = cc
  port_kind Object q = cc
  port_kind Stacked q = cc
  port_kind Page q = cc
  port_kind Barred q = cc

  ports_front : (es fs : List Event) → are_on_ports e (es ++ fs) ≡ true → are_on_ports e es ≡ true
  ports_front [] fs q = refl
  ports_front (x ∷ es) fs q =
      let z = and_parts (is_on_port e x) (are_on_ports e (es ++ fs)) q in
      rw (z.0, ports_front es fs z.1) refl

  ports_last : (es : List Event) (x : Event) → are_on_ports e (es ++ x ∷ []) ≡ true → is_on_port e x ≡ true
  ports_last [] x q = (and_parts (is_on_port e x) true q).0
  ports_last (y ∷ es) x q = ports_last es x (and_parts (is_on_port e y) (are_on_ports e (es ++ x ∷ [])) q).1

  -- earlier events
  pub ports_before : (s t : State) → BeginWith s.events t.events → are_on_ports e t.events ≡ true
      → are_on_ports e s.events ≡ true
  ports_before s t b q = ports_front s.events b.added (subst (λ es. are_on_ports e es ≡ true) b.is q)

  pub kinds_read : (inputs : Inputs) (n port : ℕ) (s : State)
      → are_on_ports e (bytes_read inputs n port s).events ≡ true → (j : ℕ) → j < n → e.kind (port + j) ≡ Port
  kinds_read inputs zero port s q j l = absurd (omega arith)
  kinds_read inputs (suc n) port s q j l =
      let t = bytes_read inputs n port s in
      let x = In (port + n) (next_byte inputs (port + n) t) in
      let r : are_on_ports e (t.events ++ x ∷ []) ≡ true =
      subst (λ (u : State). are_on_ports e u.events ≡ true) (read_last inputs n port s) q in
      ⊎_elim
      (λ (m : j < n). kinds_read inputs n port s (ports_front t.events (x ∷ []) r) j m)
      (λ (m : n ≤ j).
      let i : n ≡ j = omega arith in
      subst (λ k. e.kind (port + k) ≡ Port) i (port_kind (e.kind (port + n)) (ports_last t.events x r)))
      (cases_lt j n)

  pub kinds_written : (n port low : ℕ) (s : State) → are_on_ports e (bytes_written n port low s).events ≡ true
      → (j : ℕ) → j < n → e.kind (port + j) ≡ Port
  kinds_written zero port low s q j l = absurd (omega arith)
  kinds_written (suc n) port low s q zero l =
      let t = bytes_written n (port + 1) (low / 256) s in
      let i : port ≡ port + 0 = omega arith in
      subst (λ k. e.kind k ≡ Port) i (port_kind (e.kind port) (ports_last t.events (Out port (low % 256)) q))
  kinds_written (suc n) port low s q (suc j) l =
      let t = bytes_written n (port + 1) (low / 256) s in
      let i : port + 1 + j ≡ port + suc j = omega arith in
      subst (λ k. e.kind k ≡ Port) i
      (kinds_written n (port + 1) (low / 256) s (ports_front t.events (Out port (low % 256) ∷ []) q) j (omega arith))
