use Rattle.std.proofs.Common.{sym, ◌∙◌, ◌≡◌, Bool, true, false}
use Rattle.std.specs.Prelude.{slice_index_or}
use Rattle.ec_core_steps.proofs.Marks.{nothing_spread, row_spread}
use Rattle.ec_core_steps.proofs.reached.spread_from.Goals as goal

not_both : (b : Bool) → b ≡ false → b ≡ true → ⊥
not_both true e m = cc
not_both false e m = cc

pub returns-then-is_marked : goal.returns-then-is_marked
returns-then-is_marked c =
    row_spread c.args.function c.args.row.now c.args.marks.now c.mark_all.new.marks c.mark_all.result
    (sym c.is_marked.ensures ∙ c.if-is_marked.true) c.mark_all.ensures

pub returns-else-is_marked : goal.returns-else-is_marked
returns-else-is_marked c =
    nothing_spread c.args.function c.args.row.now c.args.marks.now
    (λ m. not_both (slice_index_or c.args.marks.now c.args.function false) (sym c.is_marked.ensures ∙ c.if-is_marked.false) m)
