-- The test tells exactly the constant expressions.
use Rattle.std.proofs.Common.{◌≡◌, true}
use Rattle.ec_core.specs.Laws.{TypesAreTold}
use Rattle.ec_core.specs.Operators.{number_type, same_type}
use Rattle.ec_core.specs.Plain.{PlainType, PlainExpr, expression, PlainNode, number, null, load, address_of, unary, binary, convert, assign}
use Rattle.ec_core.specs.Plain.{compound, step, logical_not, logical_and, logical_or, conditional, comma, call, io, group, bind}
use Rattle.ec_core.specs.Plain.{dynamic_group}
use Rattle.ec_core.specs.Typing.{int, type_of_expr}
use Rattle.ec_core.proofs.Sameness.{and_true, true_and}
use Rattle.ec_check_constants.specs.Constants.{IsConstant, IsConstantNode}
use Rattle.ec_check_constants.specs.Laws.{TestsTellConstants}
use Rattle.ec_check_constants.specs.Tests.{is_numeric, is_constant, is_constant_node}
use Rattle.ec_check_constants.proofs.Types.{truth, told, numeric_sound, numeric_complete, number_sound, number_complete, unary_sound}
use Rattle.ec_check_constants.proofs.Types.{unary_complete, binary_sound, binary_complete, type_complete}

module _ (types : TypesAreTold) where
  mutual
    sound : (e : PlainExpr) → is_constant e ≡ true → IsConstant e
    sound (expression ty mode node) e =
        let p = and_true (is_numeric ty) _ e in (numeric_sound ty p.0, node_sound ty node p.1)

    node_sound : (ty : PlainType) (node : PlainNode) → is_constant_node ty node ≡ true → IsConstantNode ty node
    node_sound ty (number n) e = number_sound (number_type ty) n e
    node_sound ty null e = cc
    node_sound ty (load q) e = cc
    node_sound ty (address_of q) e = cc
    node_sound ty (unary op a) e =
        let p = and_true (is_constant a) _ e in
        let q = and_true (same_type (type_of_expr a) ty) _ p.1 in
        (sound a p.0, types.same _ _ q.0, unary_sound op (number_type ty) q.1)
    node_sound ty (binary op a b) e =
        let p = and_true (is_constant a) _ e in
        let q = and_true (is_constant b) _ p.1 in
        (sound a p.0, sound b q.0, binary_sound types op _ _ _ q.1)
    node_sound ty (convert a) e = sound a e
    node_sound ty (assign q a) e = cc
    node_sound ty (compound op mode q a) e = cc
    node_sound ty (step up prefix q) e = cc
    node_sound ty (logical_not a) e = let p = and_true (is_constant a) _ e in (sound a p.0, types.same ty int p.1)
    node_sound ty (logical_and a b) e =
        let p = and_true (is_constant a) _ e in
        let q = and_true (is_constant b) _ p.1 in
        (sound a p.0, sound b q.0, types.same ty int q.1)
    node_sound ty (logical_or a b) e =
        let p = and_true (is_constant a) _ e in
        let q = and_true (is_constant b) _ p.1 in
        (sound a p.0, sound b q.0, types.same ty int q.1)
    node_sound ty (conditional c a b) e =
        let p = and_true (is_constant c) _ e in
        let q = and_true (is_constant a) _ p.1 in
        let r = and_true (is_constant b) _ q.1 in
        let s = and_true (same_type (type_of_expr a) ty) _ r.1 in
        (sound c p.0, sound a q.0, sound b r.0, types.same _ _ s.0, types.same _ _ s.1)
    node_sound ty (comma a b) e = cc
    node_sound ty (call g args) e = cc
    node_sound ty (io op port index value) e = cc
    node_sound ty (group acquire g) e = cc
    node_sound ty (bind d choice) e = cc
    node_sound ty (dynamic_group acquire d) e = cc

  mutual
    complete : (e : PlainExpr) → IsConstant e → is_constant e ≡ true
    complete (expression ty mode node) h = true_and _ _ (numeric_complete ty h.0) (node_complete ty node h.1)

    node_complete : (ty : PlainType) (node : PlainNode) → IsConstantNode ty node → is_constant_node ty node ≡ true
    node_complete ty (number n) h = number_complete (number_type ty) n h
    node_complete ty null h = absurd h
    node_complete ty (load q) h = absurd h
    node_complete ty (address_of q) h = absurd h
    node_complete ty (unary op a) h =
        true_and _ _ (complete a h.0)
        (true_and _ _ (type_complete types (type_of_expr a) ty h.1) (unary_complete op (number_type ty) h.2))
    node_complete ty (binary op a b) h =
        true_and _ _ (complete a h.0) (true_and _ _ (complete b h.1) (binary_complete types op _ _ _ h.2))
    node_complete ty (convert a) h = complete a h
    node_complete ty (assign q a) h = absurd h
    node_complete ty (compound op mode q a) h = absurd h
    node_complete ty (step up prefix q) h = absurd h
    node_complete ty (logical_not a) h = true_and _ _ (complete a h.0) (type_complete types ty int h.1)
    node_complete ty (logical_and a b) h =
        true_and _ _ (complete a h.0) (true_and _ _ (complete b h.1) (type_complete types ty int h.2))
    node_complete ty (logical_or a b) h =
        true_and _ _ (complete a h.0) (true_and _ _ (complete b h.1) (type_complete types ty int h.2))
    node_complete ty (conditional c a b) h =
        true_and _ _ (complete c h.0) (true_and _ _ (complete a h.1) (true_and _ _ (complete b h.2)
        (true_and _ _ (type_complete types _ _ h.3) (type_complete types _ _ h.4))))
    node_complete ty (comma a b) h = absurd h
    node_complete ty (call g args) h = absurd h
    node_complete ty (io op port index value) h = absurd h
    node_complete ty (group acquire g) h = absurd h
    node_complete ty (bind d choice) h = absurd h
    node_complete ty (dynamic_group acquire d) h = absurd h

  pub tells_constants : TestsTellConstants
  tells_constants =
      record {
        sound = λ e h. sound e (truth _ h);
        complete = λ e h. told _ (complete e h);
      }
