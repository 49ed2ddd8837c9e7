use Rattle.std.proofs.Common.{◌≡◌, ◌∙◌, ◌+◌, ◌*◌, length, ap, arith}
use Rattle.ec_asm.specs.Items.{code_words}
use Rattle.ec_check_recursion.specs.Rows.{rows_of_program}
use Rattle.ec_locate.specs.Calls.{call_depth}
use Rattle.ec_locate.specs.Entries.{table_need, data_need, work_size}
use Rattle.ec_locate.specs.Needs.{stack_need}
use Rattle.ec_locate.proofs.Words.{code_below}
use Rattle.ec_locate.proofs.placing.needs_of.Goals as goal

pub overflow_mul-result-2 : goal.overflow_mul-result-2
overflow_mul-result-2 c =
    let below = code_below c.as_slice.result.now in
    let same = ap length c.as_slice.ensures in
    omega (arith, below, same, c.code_words.ensures, c.requires.items)

pub returns : goal.returns
returns c p areas deep =
    let es = c.args.entries.now in
    let flash = c.flash_sizes.ensures.value in
    let initial = c.initial_sizes.ensures.value in
    let sizes = c.data_sizes.ensures.value in
    let locals = areas.locals.bytes in
    let scratch = areas.scratch.bytes in
    let tables : c.flash_sizes.result + c.initial_sizes.result ≡ table_need es = omega (arith, flash, initial) in
    let work = c.work_size.ensures in
    let vars : c.data_sizes.result + c.args.areas.now.locals.need + c.args.areas.now.scratch.need + c.work_size.result
    ≡ data_need (work_size c.args.io.now) (rows_of_program p) es c.args.asm.now.frames.items = omega (arith, sizes, locals, scratch, work) in
    let from = c.from.ensures in
    let stack : 16 + 2 * c.from.result ≡ stack_need (call_depth p) = omega (arith, from, deep) in
    let code : 2 * c.code_words.result ≡ 2 * code_words c.args.asm.now.items.items =
    ap (λ n. 2 * n) (c.code_words.ensures ∙ ap code_words c.as_slice.ensures) in
    λ j. record { tables = tables j; far = c.far_sizes.ensures.value j; vars = vars j; stack = stack j; code = code j }
