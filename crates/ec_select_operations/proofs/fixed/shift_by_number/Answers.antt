use Rattle.std.proofs.Common.{rules, ◌≡◌, ℕ, ◌+◌, ◌%◌, ◌++◌, suc, ap, ◌∙◌, arith, subst}
use Rattle.std.specs.Prelude.{OnOk}
use Rattle.std.specs.Int.{w128}
use Rattle.std.proofs.lemmas.Int.{to_z-of_z}
use mir.Val.{SFits}
use Rattle.ec_fxcode_placed.specs.Counts.{placed_by_code}
use Rattle.ec_ir.specs.Temporaries.{low_bytes}
use Rattle.ec_select_operations.specs.Code.{move_code}
use Rattle.ec_select_operations.proofs.fixed.shift_by_number.Goals as goal

pub returns-clause-ok : goal.returns-clause-ok
returns-clause-ok c =
    let of = c.args.of in
    let fits : SFits w128 c.args.number = search rules in
    let number : c.bits_of.result ≡ low_bytes 16 c.args.number =
    c.bits_of.ensures ∙ ap (low_bytes 16) (to_z-of_z w128 c.args.number fits) in
    let one_more : c.args.top + 1 ≡ suc c.args.top = omega arith in
    let code = λ (n k : ℕ). move_code of.left c.args.to n ++ placed_by_code c.args.left of.signed c.args.to n (k % 256) in
    subst (λ (k : ℕ). OnOk c.shifted_by.result (c.shifted_by.new.out.items ≡ c.args.out.now.items ++ code (suc c.args.top) k)) number
    (subst (λ (n : ℕ). OnOk c.shifted_by.result (c.shifted_by.new.out.items ≡ c.args.out.now.items ++ code n c.bits_of.result)) one_more
    c.shifted_by.ensures.ok)
