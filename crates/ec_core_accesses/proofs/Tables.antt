-- What holds of all bytes of the ports and groups of a table.
use Rattle.std.proofs.Common.{◌≡◌, ℕ, zero, suc, ◌+◌, ◌-◌, ◌*◌, ◌<◌, ◌≤◌, Bool, true, false, List, [], ◌∷◌, Some, None}
use Rattle.std.proofs.Common.{Option, refl, sym, subst, ap, ◌∙◌, arith}
use Rattle.std.specs.Prelude.{IsTrue, All, map, option_map, unwrap_or, slice_get}
use Rattle.std.proofs.lemmas.List.Elements.{All-head, All-tail}
use Rattle.std.proofs.lemmas.Option.{slice_get-map}
use Rattle.ec_iohw.specs.declared.table.Choice.{Choice}
use Rattle.ec_iohw.specs.declared.table.Dynamic.{Dynamic}
use Rattle.ec_iohw.specs.declared.table.IoTable.{IoTable}
use Rattle.ec_iohw.specs.declared.table.Pair.{Pair}
use Rattle.ec_iohw.specs.declared.table.Port.{Port}
use Rattle.ec_iohw.specs.declared.table.PortGroup.{PortGroup}
use Rattle.ec_iohw.specs.Valid.{bases_of}
use Rattle.ec_core.specs.PortAccesses.{pairs_of}
use Rattle.ec_core.specs.PortTable.{PlainPort, PlainGroup, plain_port, plain_group, plain_dynamic, plain_table}
use Rattle.ec_core_accesses.specs.Ports.{IsPortByte, of_port, of_choice, of_group, PassesPort, PassesPairs, PassesGroup, PortBytesPass}

-- an item of a list that was made of one with a property
record IsMadeOf {A B : Type 0} (P : A → Type 0) (f : A → B) (y : B) : Type 0 where
  from : A
  is : f from ≡ y
  holds : P from

made_of : {A B : Type 0} (P : A → Type 0) (f : A → B) (xs : List A) (k : ℕ) (y : B) → All P xs → slice_get (map f xs) k ≡ Some y
    → IsMadeOf P f y
made_of P f [] k y h e = cc
made_of P f (x ∷ xs) zero y h e = record { from = x; is = cc; holds = All-head P x xs h }
made_of P f (x ∷ xs) (suc k) y h e = made_of P f xs k y (All-tail P x xs h) e

item_passes : {A : Type 0} (P : A → Type 0) (xs : List A) (k : ℕ) (x : A) → All P xs → slice_get xs k ≡ Some x → P x
item_passes P [] k x h e = cc
item_passes P (y ∷ xs) zero x h e = let f : y ≡ x = cc in subst P f (All-head P y xs h)
item_passes P (y ∷ xs) (suc k) x h e = item_passes P xs k x (All-tail P y xs h) e

abbrev choices : List Dynamic → ℕ → List Choice
choices dynamics d = unwrap_or (option_map (λ x. x.choices) (slice_get (map plain_dynamic dynamics) d)) []

-- the bases of a dynamic group are those of its choices
bases_are : (dynamics : List Dynamic) (d : ℕ) → bases_of dynamics (Some d) ≡ map (λ (c : Choice). c.base) (choices dynamics d)
bases_are [] d = refl
bases_are (x ∷ xs) zero = refl
bases_are (x ∷ xs) (suc d) = bases_are xs d

module _ (test : ℕ → Bool) where
  -- the bytes of a port from a base on
  abbrev PassesFrom : Port → ℕ → Type 0
  PassesFrom p base = (k : ℕ) → k < p.width * p.count → IsTrue (test (base + p.address + k))

  byte_from : (p : Port) (port : PlainPort) (base a : ℕ) → PassesFrom p base → plain_port p ≡ port → base + port.address ≤ a
      → a < base + port.address + port.width * port.count → IsTrue (test a)
  byte_from p port base a h e low high =
      let begins : base + p.address ≤ a = subst (λ (q : PlainPort). base + q.address ≤ a) (sym e) low in
      let ends : a < base + p.address + p.width * p.count =
      subst (λ (q : PlainPort). a < base + q.address + q.width * q.count) (sym e) high in
      let is : base + p.address + (a - (base + p.address)) ≡ a = omega (arith, begins) in
      subst (λ b. IsTrue (test b)) is (h (a - (base + p.address)) (omega (arith, begins, ends)))

  module _ (dynamics : List Dynamic) (p : Port) (port : PlainPort) (h : PassesPort dynamics test p) (e : plain_port p ≡ port) where
    -- whatever it counts from
    all_from : (dynamic : Option ℕ) → port.dynamic ≡ dynamic → All (PassesFrom p) (bases_of dynamics dynamic)
    all_from dynamic f = subst (λ x. All (PassesFrom p) (bases_of dynamics x)) (ap (λ (q : PlainPort). q.dynamic) e ∙ f) h

    port_passes : (a : ℕ) → port.dynamic ≡ None → port.address ≤ a → a < port.address + port.width * port.count → IsTrue (test a)
    port_passes a f low high =
        byte_from p port 0 a (All-head (PassesFrom p) 0 [] (all_from None f)) e (omega (arith, low)) (omega (arith, high))

    choice_passes : (d k a : ℕ) (c : Choice) → port.dynamic ≡ Some d → slice_get (choices dynamics d) k ≡ Some c
        → c.base + port.address ≤ a → a < c.base + port.address + port.width * port.count → IsTrue (test a)
    choice_passes d k a c f is low high =
        let bases = subst (All (PassesFrom p)) (bases_are dynamics d) (all_from (Some d) f) in
        let at = slice_get-map (λ (x : Choice). x.base) (choices dynamics d) k ∙ ap (option_map (λ (x : Choice). x.base)) is in
        byte_from p port c.base a (item_passes (PassesFrom p) _ k c.base bases at) e low high

  pairs_pass : (acquire : Bool) (g : PortGroup) → PassesGroup test g → PassesPairs test (pairs_of acquire (plain_group g))
  pairs_pass true g h = h.0
  pairs_pass false g h = h.1

  group_passes : (acquire : Bool) (g : PortGroup) (group : PlainGroup) (k : ℕ) (pair : Pair) (a : ℕ) → PassesGroup test g
      → plain_group g ≡ group → slice_get (pairs_of acquire group) k ≡ Some pair → a ≡ pair.port → IsTrue (test a)
  group_passes acquire g group k pair a h e f is =
      let all : PassesPairs test (pairs_of acquire group) = subst (λ (q : PlainGroup). PassesPairs test (pairs_of acquire q)) e
      (pairs_pass acquire g h) in
      subst (λ b. IsTrue (test b)) (sym is) (item_passes (λ (q : Pair). IsTrue (test q.port)) (pairs_of acquire group) k pair all f)

  byte_passes : (io : IoTable) → All (PassesPort io.dynamics.items test) io.ports.items → All (PassesGroup test) io.groups.items
      → (a : ℕ) → IsPortByte (plain_table io) a → IsTrue (test a)
  byte_passes io ports groups a (of_port x port e f low high) =
      let m = made_of (PassesPort io.dynamics.items test) plain_port io.ports.items x port ports e in
      port_passes io.dynamics.items m.from port m.holds m.is a f low high
  byte_passes io ports groups a (of_choice x d k port c e f is low high) =
      let m = made_of (PassesPort io.dynamics.items test) plain_port io.ports.items x port ports e in
      choice_passes io.dynamics.items m.from port m.holds m.is d k a c f is low high
  byte_passes io ports groups a (of_group acquire g k group pair e f is) =
      let m = made_of (PassesGroup test) plain_group io.groups.items g group groups e in
      group_passes acquire m.from group k pair a m.holds m.is f is

pub port_bytes_pass : PortBytesPass
port_bytes_pass io test = byte_passes test io
