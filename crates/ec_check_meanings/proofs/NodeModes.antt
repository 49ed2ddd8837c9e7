-- Each node of what an expression means has the mode that is said of its type.
use Rattle.std.proofs.Common.{◌≡◌, false, List, [], ◌∷◌, refl, sym, subst}
use Rattle.std.specs.Prelude.{⊤}
use Rattle.ec_fx.specs.declared.numbers.Mode.{Mode}
use Rattle.ec_core.specs.ArithmeticTypes.{type_of}
use Rattle.ec_core.specs.declared.expressions.BinOp.{BinOp}
use Rattle.ec_core.specs.declared.arithmetic_types.Arithmetic.TheVariants.{Integer}
use Rattle.ec_core.specs.Operators.{promoted_type}
use Rattle.ec_core.specs.PortOperations.{PortOperation, port_operation}
use Rattle.ec_core.specs.Plain.{PlainType, void, integer, fixed, pointer, array, struct, PlainExpr, OptionPlainExpr}
use Rattle.ec_core.specs.Typing.{type_of_expr, port_value, port_result}
use Rattle.ec_check_forms.proofs.ValidOperands.{value_types_agree}
use Rattle.ec_check_operands.specs.declared.operands.Modes.{Modes}
use Rattle.ec_check_operands.specs.Operands.{Operand, place, value, mode_of, value_type, as_value}
use Rattle.ec_check_expressions.specs.Callees.{exprs_of}
use Rattle.ec_check_expressions.specs.Known.{Known}
use Rattle.ec_check_meanings.specs.Conversions as c
use Rattle.ec_check_meanings.specs.Conversions.{IsConverted, IsBrought, IsOperation}
use Rattle.ec_check_meanings.specs.Laws.{ModesAreSaid}
use Rattle.ec_check_meanings.specs.Means as r
use Rattle.ec_check_meanings.specs.Means.{Means, Uses, not_void, AreBrought, none, more, Takes, IsOperationMode}
use Rattle.ec_check_meanings.specs.NodeModes.{IsSaid, AllNodesHave, OptionHas, RowHas, OperandHas}
use Rattle.ec_check_meanings.specs.Terms as term

said : (m : Modes) (ty : PlainType) → IsSaid m ty (mode_of m ty)
said m void = refl
said m (integer signed bytes) = refl
said m (fixed kind sat) = refl
said m (pointer s k to) = refl
said m (array of len) = refl
said m (struct index) = refl

module _ (m : Modes) where
  value_has : (o : Operand) → OperandHas m o → AllNodesHave m (as_value m o)
  value_has (place void k s g p) h = (said m void, h)
  value_has (place (integer signed bytes) k s g p) h = (said m (integer signed bytes), h)
  value_has (place (fixed kind sat) k s g p) h = (said m (fixed kind sat), h)
  value_has (place (pointer r l to) k s g p) h = (said m (pointer r l to), h)
  value_has (place (array of len) k s g p) h = (said m (pointer s k of), h)
  value_has (place (struct index) k s g p) h = (said m (struct index), h)
  value_has (value e zero) h = h

  converted_has : (to : PlainType) (e f : PlainExpr) → IsConverted m to e f → AllNodesHave m e → AllNodesHave m f
  converted_has to e _ (c.as_it_is q) h = h
  converted_has to e _ (c.changed n) h = (said m to, h)

  brought_has : (to : PlainType) (x : Operand) (e : PlainExpr) → IsBrought m to x e → OperandHas m x → AllNodesHave m e
  brought_has to x _ (c.null_pointer q p) h = (said m to, tt)
  brought_has to x e (c.ordinary n q) h = converted_has to (as_value m x) e q (value_has x h)

  operation_has : (op : BinOp) (a b : Operand) (e : PlainExpr) → IsOperation m op a b e → OperandHas m a → OperandHas m b → AllNodesHave m e
  operation_has op a b _ (c.of_numbers {left = l} {right = r} {result = u} {e = e} {f = f} ea eb p q z ce cf) h g = (
    said m (type_of u),
    (converted_has (type_of l) (as_value m a) e ce (value_has a h), converted_has (type_of r) (as_value m b) f cf (value_has b g)),
  )
  operation_has op a b _ (c.pointer_first u p q) h g = (said m (value_type a), (value_has a h, value_has b g))
  operation_has op a b _ (c.pointer_last u p q) h g = (said m (value_type b), (value_has a h, value_has b g))
  operation_has op a b _ (c.null_first u p q) h g = (refl, ((said m (value_type b), tt), value_has b g))
  operation_has op a b _ (c.null_last u p q) h g = (refl, (value_has a h, (said m (value_type a), tt)))
  operation_has op a b _ (c.two_pointers {e = e} {f = f} u ea eb j ce cf) h g =
      (refl, (converted_has _ (as_value m a) e ce (value_has a h), converted_has _ (as_value m b) f cf (value_has b g)))

  -- the values of arguments
  abbrev ListHas : List PlainExpr → Type 0
  ListHas [] = ⊤
  ListHas (e ∷ es) = AllNodesHave m e × ListHas es

  row_has : (es : List PlainExpr) → ListHas es → RowHas m (exprs_of es)
  row_has [] h = tt
  row_has (e ∷ es) h = (h.0, row_has es h.1)

  taken_has : (form : PortOperation) (tys : List PlainType) (es : List PlainExpr) (index contents : OptionPlainExpr)
      → Takes form tys es index contents
      → ListHas es → OptionHas m index × OptionHas m contents
  taken_has form _ _ _ _ (r.neither p q) h = (tt, tt)
  taken_has form _ _ _ _ (r.an_index p q) h = (h.0, tt)
  taken_has form _ _ _ _ (r.a_value p q) h = (tt, h.0)
  taken_has form _ _ _ _ (r.both p q) h = (h.0, h.1.0)

  operation_mode_has : (op : BinOp) (a : PlainType) (b : Operand) (mode : Mode) → IsOperationMode m op a (value_type b) mode
      → IsOperationMode m op a (type_of_expr (as_value m b)) mode
  operation_mode_has op a b mode h = subst (λ (z : PlainType). IsOperationMode m op a z mode) (sym (value_types_agree m b)) h

module _ (k : Known) where
  mutual
    means_has : (x : term.Term) (o : Operand) → Means k x o → OperandHas k.modes o
    means_has _ _ (r.named q) = tt
    means_has _ _ (r.null_constant {bytes = bytes} {signed = signed}) = (said k.modes (integer signed bytes), tt)
    means_has _ _ (r.whole_constant {bytes = bytes} {signed = signed} n) = (said k.modes (integer signed bytes), tt)
    means_has _ _ (r.fixed_constant {kind = kind}) = (said k.modes (fixed kind false), tt)
    means_has _ _ (r.inside {x = x} {o = o} h) = means_has x o h
    means_has _ _ (r.indexed {x = x} {y = y} {a = a} {b = b} u v q h) =
        (refl, (value_has k.modes a (uses_has x a u), value_has k.modes b (uses_has y b v)))
    means_has _ _ (r.called {ys = ys} {returns = returns} {params = params} {es = es} h q b) =
        (said k.modes returns, row_has k.modes es (all_have params ys es b))
    means_has _ _ (r.reached {x = x} {a = a} u q h) = value_has k.modes a (uses_has x a u)
    means_has _ _ (r.part {x = x} u h) = uses_has x _ u
    means_has _ _ (r.stepped_behind {x = x} {ty = ty} u h) = (said k.modes ty, uses_has x _ u)
    means_has _ _ (r.stepped_before {x = x} {ty = ty} u h) = (said k.modes ty, uses_has x _ u)
    means_has _ _ (r.address {x = x} u) = (refl, uses_has x _ u)
    means_has _ _ (r.pointed {x = x} {a = a} u q) = value_has k.modes a (uses_has x a u)
    means_has _ _ (r.plus {x = x} {a = a} {e = e} t u q h) =
        converted_has k.modes _ (as_value k.modes a) e h (value_has k.modes a (uses_has x a u))
    means_has _ _ (r.minus {x = x} {a = a} {e = e} t u q h) =
        (said k.modes (type_of (promoted_type t)), converted_has k.modes _ (as_value k.modes a) e h (value_has k.modes a (uses_has x a u)))
    means_has _ _ (r.inverted {x = x} {a = a} {e = e} t u q h) = (
      said k.modes (type_of (promoted_type (Integer t))),
      converted_has k.modes _ (as_value k.modes a) e h
          (value_has k.modes a (uses_has x a u)),
    )
    means_has _ _ (r.negated {x = x} {a = a} u h) = (refl, value_has k.modes a (uses_has x a u))
    means_has _ _ (r.sized h q) = (refl, tt)
    means_has _ _ (r.casted {ty = ty} {x = x} {a = a} {e = e} h u q) = brought_has k.modes ty a e q.brought (uses_has x a u)
    means_has _ _ (r.operated {op = op} {x = x} {y = y} {a = a} {b = b} {e = e} u v h) =
        operation_has k.modes op a b e h (uses_has x a u) (uses_has y b v)
    means_has _ _ (r.both_true {x = x} {y = y} {a = a} {b = b} u v h q) =
        (refl, (value_has k.modes a (uses_has x a u), value_has k.modes b (uses_has y b v)))
    means_has _ _ (r.one_true {x = x} {y = y} {a = a} {b = b} u v h q) =
        (refl, (value_has k.modes a (uses_has x a u), value_has k.modes b (uses_has y b v)))
    means_has _ _ (r.chosen {c = c} {x = x} {y = y} {w = w} {a = a} {b = b} {ty = ty} {e = e} {f = f} u h v z q i j) = (
      said k.modes ty,
      (
        value_has k.modes w (uses_has c w u),
        brought_has k.modes ty a e i (means_has x a v),
        brought_has k.modes ty b f j
            (means_has y b z),
      ),
    )
    means_has _ _ (r.assigned {x = x} {y = y} {ty = ty} {b = b} {e = e} u h v q) =
        (said k.modes ty, (uses_has x _ u, brought_has k.modes ty b e q.brought (uses_has y b v)))
    means_has _ _ (r.compounded {op = op} {x = x} {y = y} {ty = ty} {b = b} {mode = mode} u h v n i j l z) = (
      said k.modes ty,
      (uses_has x _ u, value_has k.modes b (uses_has y b v), operation_mode_has k.modes op ty b mode z),
    )
    means_has _ _ (r.sequence {x = x} {y = y} {a = a} {b = b} u h v q) =
        (said k.modes (value_type b), (value_has k.modes a (uses_has x a u), value_has k.modes b (uses_has y b v)))
    means_has _ _ (r.accessed {op = op} {ys = ys} {tys = tys} {es = es} {index = index} {contents = contents} q h f b) = (
      said k.modes (port_result (port_operation op).action (port_value (port_operation op))),
      taken_has k.modes (port_operation op) tys
          es index contents f (all_have tys ys es b),
    )
    means_has _ _ (r.acquired q) = (refl, tt)
    means_has _ _ (r.released q) = (refl, tt)
    means_has _ _ (r.acquired_choice q) = (refl, tt)
    means_has _ _ (r.released_choice q) = (refl, tt)
    means_has _ _ (r.mapped q) = (refl, tt)

    uses_has : (x : term.Term) (o : Operand) → Uses k x o → OperandHas k.modes o
    uses_has x o (not_void h n) = means_has x o h

    all_have : (tys : List PlainType) (ys : term.Terms) (es : List PlainExpr) → AreBrought k tys ys es → ListHas k.modes es
    all_have _ _ _ none = tt
    all_have _ _ _ (more {x = x} {xs = xs} {a = a} {ty = ty} {tys = tys} {e = e} {es = es} u p b) =
        (brought_has k.modes ty a e p.brought (uses_has x a u), all_have tys xs es b)

pub modes_are_said : ModesAreSaid
modes_are_said k x o h = means_has k x o h
