use Rattle.std.proofs.Common.{◌≡◌, ◌+◌, ◌++◌, ◌∙◌, ap, sym, arith, rules, List, map}
use Rattle.std.proofs.lemmas.Grind.{common_steps}
use Rattle.ec_core.specs.declared.statements.Stmt.{Stmt}
use Rattle.ec_core.specs.PortTable.{plain_table}
use Rattle.ec_core.specs.Plain.{PlainKind, block, plain_expr, plain_kind, plain_stmts, plain_program}
use Rattle.ec_ir.specs.Operations.{plain_ir}
use Rattle.ec_lower.specs.Sizes.{kind_size, stmts_size}
use Rattle.ec_lower_code.specs.Code.{expr_labels, stmts_labels, stmts_code, kind_code}
use Rattle.ec_lower.proofs.Lists.{plain_block, list_next, smaller_stmt}
use Rattle.ec_lower.proofs.Steps.{list_end, so}
use Rattle.ec_lower.proofs.statements.+lower.Goals as goal

pub lower_stmts-lower_stmt-requires : goal.lower_stmts-lower_stmt-requires
lower_stmts-lower_stmt-requires t c = first_of (grind (arith, common_steps, smaller_stmt), search (rules, smaller_stmt))

pub lower_stmt-lower_stmts-requires : goal.lower_stmt-lower_stmts-requires
lower_stmt-lower_stmts-requires t c =
    let e = ap kind_size (plain_block c.in-Block.ss) in
    let i = ap (λ kind. kind_size (plain_kind kind)) c.in-Block.is in
    let a = ap (λ ss. stmts_size (plain_stmts ss)) c.as_slice.ensures in
    let d = c.decreases in
    (omega (arith, e, i, a, d), c.requires)

pub lower_stmts-loop-s-preserved : goal.lower_stmts-loop-s-preserved
lower_stmts-loop-s-preserved t c =
    let next = list_next c.args.ss.now c.loop-s.s-index c.s-item.result (omega (arith, c.loop-s-test.true)) c.s-item.is in
    let labels = ap (λ ss. stmts_labels (plain_stmts ss)) next in
    let program = plain_program c.args.program.now in (
      omega (arith, labels, c.in_ok-k.ensures.next, c.loop-s.invariant.0),
      λ rest. rw (c.in_ok-k.ensures.next) (c.in_ok-k.ensures.code _
          ∙ (sym (ap (λ (ss : List Stmt). map plain_ir c.loop-s.code.items ++ stmts_code program (plain_table c.args.io.now)
          (plain_stmts ss) c.loop-s.k c.args.out c.args.on rest) next) ∙ c.loop-s.invariant.1 rest)),
    )

pub lower_stmt-returns-in-Do1-clause-code : goal.lower_stmt-returns-in-Do1-clause-code
lower_stmt-returns-in-Do1-clause-code t c = so c.lower_unread.result c.lower_unread.ensures.code (λ h rest. rw (c.in-Do1.is) (h rest))

pub lower_stmt-returns-in-Block-clause-next : goal.lower_stmt-returns-in-Block-clause-next
lower_stmt-returns-in-Block-clause-next t c =
    let is : plain_kind c.args.s.now.kind ≡ block (plain_stmts c.as_slice.result.now) = ap plain_kind c.in-Block.is
    ∙ (plain_block c.in-Block.ss ∙ ap (λ ss. block (plain_stmts ss)) (sym c.as_slice.ensures)) in
    rw (is) c.lower_stmts.ensures.next

pub lower_stmt-returns-in-Block-clause-code : goal.lower_stmt-returns-in-Block-clause-code
lower_stmt-returns-in-Block-clause-code t c =
    let is : plain_kind c.args.s.now.kind ≡ block (plain_stmts c.as_slice.result.now) = ap plain_kind c.in-Block.is
    ∙ (plain_block c.in-Block.ss ∙ ap (λ ss. block (plain_stmts ss)) (sym c.as_slice.ensures)) in
    so c.lower_stmts.result c.lower_stmts.ensures.code (λ h rest. h rest
    ∙ ap (λ (kind : PlainKind). map plain_ir c.args.code.now.items
    ++ kind_code (plain_program c.args.program.now) (plain_table c.args.io.now) kind c.args.l c.args.out c.args.on rest) (sym is))

pub lower_stmt-returns-in-Local-clause-code : goal.lower_stmt-returns-in-Local-clause-code
lower_stmt-returns-in-Local-clause-code t c = so c.lower_local.result c.lower_local.ensures.code (λ h rest.
    rw (c.in-Local.is, ← c.as_slice-in-Local.ensures) (h rest))

pub lower_stmt-returns-in-None-clause-code : goal.lower_stmt-returns-in-None-clause-code
lower_stmt-returns-in-None-clause-code t c = so c.lower_if.result c.lower_if.ensures.code (λ h rest.
    rw (c.in-If.is, c.in-None.is, ← c.deref.ensures) (h rest))

pub lower_stmt-returns-in-Some-clause-code : goal.lower_stmt-returns-in-Some-clause-code
lower_stmt-returns-in-Some-clause-code t c = so c.lower_if_else.result c.lower_if_else.ensures.code (λ h rest.
    rw (c.in-If.is, c.in-Some.is, ← c.deref-in-Some.ensures, ← c.deref-in-Some-2.ensures) (h rest))

pub lower_stmt-returns-in-While-clause-code : goal.lower_stmt-returns-in-While-clause-code
lower_stmt-returns-in-While-clause-code t c = so c.lower_loop.result c.lower_loop.ensures.code (λ h rest.
    let z : c.args.l + 5 + expr_labels (plain_expr c.in-While.c) + 0 ≡ c.args.l + 5 + expr_labels (plain_expr c.in-While.c) =
    omega arith in
    rw (c.in-While.is, ← c.deref-in-While.ensures, ← z) (h rest))

pub lower_stmt-returns-in-DoWhile-clause-code : goal.lower_stmt-returns-in-DoWhile-clause-code
lower_stmt-returns-in-DoWhile-clause-code t c = so c.lower_turns.result c.lower_turns.ensures.code (λ h rest.
    let z : c.args.l + 5 + expr_labels (plain_expr c.in-DoWhile.c) + 0 ≡ c.args.l + 5 + expr_labels (plain_expr c.in-DoWhile.c) =
    omega arith in
    rw (c.in-DoWhile.is, ← c.deref-in-DoWhile.ensures, ← z) (h rest))

pub lower_stmt-returns-in-None-first-clause-code : goal.lower_stmt-returns-in-None-first-clause-code
lower_stmt-returns-in-None-first-clause-code t c = so c.lower_loop-in-None-first.result c.lower_loop-in-None-first.ensures.code (λ h rest.
    let z : c.args.l + 0 ≡ c.args.l = omega arith in
    rw (
      c.in-For.is,
      c.in-None-first.is,
      ← c.as_ref.ensures.value,
      ← c.as_ref-in-None-first.ensures.value,
      ← c.deref-in-None-first.ensures,
      z,
    ) (h rest))

pub lower_stmt-returns-in-Some-first-clause-code : goal.lower_stmt-returns-in-Some-first-clause-code
lower_stmt-returns-in-Some-first-clause-code t c = so c.lower_for.result c.lower_for.ensures.code (λ h rest.
    rw (
      c.in-For.is,
      c.in-Some-first.is,
      ← c.as_ref-in-Some-first.ensures.value,
      ← c.as_ref-in-Some-first-2.ensures.value,
      ← c.deref-in-Some-first.ensures,
      ← c.deref-in-Some-first-2.ensures,
    ) (h rest))

pub lower_stmt-returns-in_ok-put-in-Break-clause-code : goal.lower_stmt-returns-in_ok-put-in-Break-clause-code
lower_stmt-returns-in_ok-put-in-Break-clause-code t c = λ rest. rw (c.in-Break.is) (c.in_ok-put-in-Break.ensures rest)

pub lower_stmt-returns-in_ok-put-in-Continue-clause-code : goal.lower_stmt-returns-in_ok-put-in-Continue-clause-code
lower_stmt-returns-in_ok-put-in-Continue-clause-code t c = λ rest. rw (c.in-Continue.is) (c.in_ok-put-in-Continue.ensures rest)

pub lower_stmt-returns-in-Return-clause-code : goal.lower_stmt-returns-in-Return-clause-code
lower_stmt-returns-in-Return-clause-code t c = so c.lower_return.result c.lower_return.ensures.code (λ h rest.
    rw (c.in-Return.is, ← c.as_ref-in-Return.ensures.value) (h rest))

pub lower_if-returns-clause-code : goal.lower_if-returns-clause-code
lower_if-returns-clause-code t c = λ rest.
    rw (c.in_ok-k-2.ensures.next, c.in_ok-k.ensures) at (c.in_ok-put.ensures rest ∙ (c.in_ok-m.ensures.code _ ∙ c.in_ok-k-2.ensures.code _))

pub lower_if_else-returns-clause-code : goal.lower_if_else-returns-clause-code
lower_if_else-returns-clause-code t c = λ rest.
    rw (c.in_ok-k-3.ensures.next, c.in_ok-k-2.ensures.next, c.in_ok-k.ensures) at (c.in_ok-put.ensures rest
    ∙ (c.in_ok-m.ensures.code _ ∙ (c.in_ok-put_turn.ensures _ ∙ (c.in_ok-k-3.ensures.code _ ∙ c.in_ok-k-2.ensures.code _))))

pub lower_loop-returns-clause-code : goal.lower_loop-returns-clause-code
lower_loop-returns-clause-code t c = so c.lower_turns.result c.lower_turns.ensures.code (λ h rest.
    h rest ∙ c.in_ok-begin_loop.ensures _)

pub lower_turns-returns-clause-code : goal.lower_turns-returns-clause-code
lower_turns-returns-clause-code t c = λ rest.
    rw (c.in_ok-on.ensures, c.in_ok-first.ensures, c.in_ok-count.ensures, c.in_ok-k.ensures, c.in_ok-test.ensures, c.in_ok-own.ensures) at
    (c.in_ok-end_loop.ensures rest ∙ (c.in_ok-m.ensures.code _ ∙ c.in_ok-put.ensures _))

pub lower_for-returns-clause-code : goal.lower_for-returns-clause-code
lower_for-returns-clause-code t c = so c.lower_loop.result c.lower_loop.ensures.code (λ h rest.
    rw (c.in_ok-k.ensures.next) at (h rest ∙ c.in_ok-k.ensures.code _))

pub lower_stmts-returns-clause-code : goal.lower_stmts-returns-clause-code
lower_stmts-returns-clause-code t c = λ rest.
    ap (λ (ss : List Stmt). map plain_ir c.loop-s.code.items ++ stmts_code (plain_program c.args.program.now) (plain_table c.args.io.now)
    (plain_stmts ss) c.loop-s.k c.args.out c.args.on rest)
    (sym (list_end c.args.ss.now c.loop-s.s-index (omega (arith, c.loop-s-test.false)))) ∙ c.loop-s.invariant.1 rest
