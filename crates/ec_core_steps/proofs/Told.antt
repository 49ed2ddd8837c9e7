-- The turns of a loop, by the parts that tell them.
use Rattle.std.proofs.Common.{◌≡◌, ℕ, Bool, true, ℤ, Option, Some, None, refl, sym, ◌∙◌, ap}
use Rattle.std.specs.Prelude.{option_and_then, if◌then◌else◌}
use Rattle.ec_core.specs.Plain.{PlainExpr, PlainProgram, PlainStmt, OptionPlainStmt}
use Rattle.ec_core_steps.specs.declared.counted.Operands.{Operands}
use Rattle.ec_core_steps.specs.declared.counted.Update.{Update}
use Rattle.ec_core_steps.specs.Counted.{int_constant, condition_of, update_of, start_of, is_counter, turns_by, turns_of}

bind_twice : (s : Option PlainExpr) (g : ℤ → Option ℕ) → option_and_then (λ e. option_and_then g (int_constant e)) s
    ≡ option_and_then g (option_and_then int_constant s)
bind_twice None g = refl
bind_twice (Some e) g = refl

module _ (p : PlainProgram) (f : ℕ) (whole : PlainStmt) (first : OptionPlainStmt) (c last : Option PlainExpr) (body : PlainStmt) where
  abbrev by_value : Operands → Update → ℤ → Option ℕ
  by_value cond update a = if is_counter p f whole cond.object c body then turns_by cond update a else None

  abbrev by_start : Operands → Update → PlainExpr → Option ℕ
  by_start cond update e = option_and_then (by_value cond update) (int_constant e)

  abbrev by_update : Operands → Update → Option ℕ
  by_update cond update = option_and_then (by_start cond update) (start_of cond.object first)

  abbrev by_condition : Operands → Option ℕ
  by_condition cond = option_and_then (by_update cond) (update_of last)

  pub turns_told : (cond : Operands) (update : Update) (start : ℤ) → condition_of c ≡ Some cond → update_of last ≡ Some update
      → option_and_then int_constant (start_of cond.object first) ≡ Some start → is_counter p f whole cond.object c body ≡ true
      → turns_by cond update start ≡ turns_of p f whole first c last body
  turns_told cond update start a u s k =
      sym (ap (option_and_then by_condition) a ∙ ap (option_and_then (by_update cond)) u
      ∙ bind_twice (start_of cond.object first) (by_value cond update) ∙ ap (option_and_then (by_value cond update)) s
      ∙ ap (λ (b : Bool). if b then turns_by cond update start else None) k)
