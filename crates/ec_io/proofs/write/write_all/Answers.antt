use Rattle.std.proofs.Common.{◌≡◌, ◌+◌, ◌-◌, ℕ, ◌∙◌, length, take, drop, arith, subst, ap, length-drop}
use Rattle.std.proofs.lemmas.List.{take_rest}
use Rattle.std.specs.Io.KnownBytes.{Appends}
use Rattle.ec_io.proofs.Sinks.{appends_more, fronts}
use Rattle.ec_io.proofs.write.write_all.Goals as goal

less_twice : (a b c : ℕ) → a - b - c ≡ a - (b + c)
less_twice a b c = omega arith

pub left-preserved : goal.left-preserved
left-preserved g c =
    let i = c.left.invariant in
    let bytes = c.args.bytes.now in
    let rest_len : length (take (length bytes - c.left.done) (drop c.left.done bytes)) ≡ length bytes - c.left.done =
    ap length (take_rest bytes c.left.done) ∙ length-drop c.left.done bytes in
    record {
      within = omega (arith, c.in-Ok.ensures.taken.within, rest_len);
      written =
          subst (λ xs. Appends (g.O.Sink.written c.args.sink.now) (g.O.Sink.written c.write.new.self) xs)
          (fronts bytes c.left.done c.in-Ok.n)
          (appends_more _ _ _ _ _ i.written c.in-Ok.ensures.written);
      rest = c.write.ensures.rest ∙ i.rest;
      later = omega arith;
      calm = λ room calm fits.
          let before = i.calm room calm fits in
          let after = c.in-Ok.ensures.calm (room - c.left.done) before.1 (omega (arith, rest_len)) in
          (after.0.same ∙ before.0, subst (λ left. g.O.Sink.calm c.write.new.self left) (less_twice room c.left.done c.in-Ok.n) after.1);
    }
