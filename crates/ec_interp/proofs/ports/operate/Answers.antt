use Rattle.std.proofs.Common.{◌≡◌, ◌≤◌, ◌∙◌, ◌⊎◌, ℕ, map, length, Option, Some, None, refl, sym, inl, inr, subst, arith, ap}
use Rattle.std.specs.Prelude.{slice_get, option_map}
use Rattle.std.proofs.lemmas.Option.{slice_get-map, slice_get_within, get_or_from_slice_get}
use Rattle.ec_iohw.specs.declared.table.Port.{Port}
use Rattle.ec_iohw.specs.Valid.{IsPort}
use Rattle.ec_core.specs.PortTable.{PlainPort, plain_port}
use Rattle.ec_interp.specs.declared.state.Context.{Context}
use Rattle.ec_interp.specs.Suits.{IsGiven}
use Rattle.ec_interp.proofs.ports.operate.Goals as goal

few : (n : ℕ) → ((n ≡ 1) ⊎ ((n ≡ 2) ⊎ (n ≡ 4))) → n ≤ 8
few n (inl e) = omega (arith, e)
few n (inr (inl e)) = omega (arith, e)
few n (inr (inr e)) = omega (arith, e)

small_port : (f : Context) (n : ℕ) (p : PlainPort) → IsGiven f → slice_get (map plain_port f.io.now.ports.items) n ≡ Some p → p.width ≤ 8
small_port f n p g h = by_port (slice_get f.io.now.ports.items n) refl (sym (slice_get-map plain_port f.io.now.ports.items n) ∙ h)
  where
    width_of : Option PlainPort → ℕ
    width_of None = 0
    width_of (Some z) = z.width

    by_port : (q : Option Port) → slice_get f.io.now.ports.items n ≡ q → option_map plain_port q ≡ Some p → p.width ≤ 8
    by_port None e k = cc
    by_port (Some q) e k =
        let i : IsPort (length f.io.now.groups.items) f.io.now.dynamics.items q =
        subst (IsPort (length f.io.now.groups.items) f.io.now.dynamics.items) (get_or_from_slice_get f.io.now.ports.items n q q e) (g.valid.ports.each n q (slice_get_within f.io.now.ports.items n q e)) in
        let w : q.width ≡ p.width = ap width_of k in
        let l = few q.width i.width in
        omega (arith, w, l)

pub returns-in-Some-clause-answered : goal.returns-in-Some-clause-answered
returns-in-Some-clause-answered c = λ g.
    let small = small_port c.args.f.now c.args.port (plain_port c.in-Some.p.now) g (sym c.in-Some.ensures) in
    c.operate_on.ensures.answered small
