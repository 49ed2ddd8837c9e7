use Rattle.std.proofs.Common.{◌≡◌, ◌≤◌, ◌<◌, ◌+◌, ◌++◌, ◌∙◌, ◌==◌, ℕ, List, Bool, false, length, get_or, refl, sym, ap, arith, subst}
use Rattle.std.proofs.lemmas.Bool.{eqb-true}
use Rattle.std.proofs.lemmas.List.{take_all, get_or_default}
use Rattle.ec_avr.specs.Flash.{flash_size}
use Rattle.ec_hex.specs.Denotes.{addressed}
use Rattle.ec_hex.specs.Reading.{Holds}
use Rattle.ec_hex.proofs.Putting.{past_flash, within_flash, put_more, put_twice}
use Rattle.ec_hex.proofs.read.put_bytes.Goals as goal
use Rattle.ec_hex.proofs.read.put_bytes.Goals.{After-as_slice, else-not-is_empty-via-then-not-is_empty+else-is_past}
use Rattle.ec_hex.proofs.read.put_bytes.Goals.{else-not-is_empty-via-else-not-is_empty}

some_of : (n : ℕ) → (n == 0) ≡ false → 0 < n
some_of n e = grind (arith, e)

-- the flag that was read is that of the image
flag_at : {read written : List Bool} {flag : Bool} (at : ℕ) → read ≡ written → at < length written → get_or read at false ≡ flag
    → flag ≡ get_or written at flag
flag_at {read} {written} {flag} at same below is =
    sym is ∙ ap (λ (flags : List Bool). get_or flags at false) same ∙ get_or_default written at false flag below

-- while there is a byte, all lie in flash
fits : (c : After-as_slice) → c.args.at + length c.args.bytes.now ≤ flash_size c.loop-i.image.core
fits c = rw c.loop-i.invariant.core (elim c.else-not-is_empty.branch [
  | else-not-is_empty-via-then-not-is_empty+else-is_past w ↦ omega (arith, w.if-is_past.ensures, c.from-size.ensures, c.flash_size.ensures)
  | else-not-is_empty-via-else-not-is_empty w ↦
      absurd (omega (arith, eqb-true (length c.args.bytes.now) 0 (sym c.is_empty.ensures ∙ w.if-not-is_empty.false), c.loop-i-test.true))
])

pub returns-then-is_past-clause-puts : goal.returns-then-is_past-clause-puts
returns-then-is_past-clause-puts c = λ cells holds. (
  refl,
  past_flash c.args.image.now.core cells c.args.at c.args.bytes.now
      (some_of (length c.args.bytes.now) (sym c.is_empty.ensures ∙ c.if-not-is_empty.true))
      (omega (arith, c.if-is_past.ensures, c.from-size.ensures, c.flash_size.ensures)),
)

pub returns-then-as_slice-place-clause-puts : goal.returns-then-as_slice-place-clause-puts
returns-then-as_slice-place-clause-puts c =
    let room = fits (goal.at.returns-then-as_slice-place-clause-puts c).After-as_slice in
    λ cells holds. (
      refl,
      (
        within_flash c.args.image.now.core cells c.args.at c.args.bytes.now (rw c.loop-i.invariant.core at room) holds.in_flash,
        put_twice c.loop-i.image.core cells c.loop-i.image.bytes.items c.loop-i.image.written.items c.args.at c.loop-i.i c.args.bytes.now
            (c.loop-i.invariant.holds cells holds) c.loop-i-test.true (omega (arith, room))
            (flag_at (c.args.at + c.loop-i.i) c.as_slice.ensures (omega (arith, room, c.loop-i.image.flagged)) c.if-as_slice-place.true),
      ),
    )

pub loop-i-preserved : goal.loop-i-preserved
loop-i-preserved c =
    let room = fits (goal.at.loop-i-preserved c).After-as_slice in
    record {
      core = c.write.ensures.core ∙ c.loop-i.invariant.core;
      holds = λ cells holds.
          rw (c.write.ensures.core, c.write.ensures.bytes, c.write.ensures.written)
          (put_more c.loop-i.image.core cells c.loop-i.image.bytes.items c.loop-i.image.written.items c.args.at c.loop-i.i c.args.bytes.now
          (c.loop-i.invariant.holds cells holds) c.loop-i-test.true (omega (arith, room))
          (flag_at (c.args.at + c.loop-i.i) c.as_slice.ensures (omega (arith, room, c.loop-i.image.flagged)) c.if-as_slice-place.false));
    }

pub returns-clause-puts : goal.returns-clause-puts
returns-clause-puts c = λ cells holds.
    subst (λ (bytes : List ℕ). Holds c.loop-i.image (cells ++ addressed c.args.at bytes))
    (take_all c.loop-i.i c.args.bytes.now c.loop-i-test.false)
    (c.loop-i.invariant.holds cells holds)
