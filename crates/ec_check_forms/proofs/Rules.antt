-- What the rules of a place tell is exactly what breaks a constraint there.
use Rattle.std.proofs.Common.{◌≡◌, ℕ, true, false, refl, inl, inr}
use Rattle.std.specs.Prelude.{Option, Some, None}
use Rattle.std.proofs.lemmas.Bool.{false≢true, true≢false}
use Rattle.ec_check_operands.specs.declared.faults.Fault.{Fault}
use Rattle.ec_check_operands.specs.Laws.{IsTold}
use Rattle.ec_core.specs.Laws.{TypesAreTold}
use Rattle.ec_core.specs.Plain.{PlainType}
use Rattle.ec_core.specs.PortOperations.{port_operation}
use Rattle.ec_check_forms.specs.declared.calls.Meant.TheVariants.{Undeclared, Undefined, Object, Function}
use Rattle.ec_check_forms.specs.declared.prefixes.PrefixOp.TheVariants.{Address, Deref, Plus, Minus, Invert, Not}
use Rattle.ec_check_forms.specs.Calls.{operand_count}
use Rattle.ec_check_forms.specs.Constraints.{DoesNotPass, PassesOutOfSpace, PassesOutOfConst, IsUndefined, IsUndeclared, IsMiscalled}
use Rattle.ec_check_forms.specs.Constraints.{HasWrongArguments, HasUnsuited, HasNoCommonType, HasNoCondition, HasNoPlace, AssignsConst}
use Rattle.ec_check_forms.specs.Constraints.{ConvertsBetweenKinds, ConvertsOutOfSpace, ConvertsOutOfConst, Miscasts, HasPointersApart}
use Rattle.ec_check_forms.specs.Constraints.{TakesRegisterAddress, ReachesNothing, NamesNoMember, NamesNoPort, NamesWidePort, UsesNoValue}
use Rattle.ec_check_forms.specs.Constraints.{Breaks, undefined, undeclared, miscalled, wrong_arguments, unsuited, no_common_type}
use Rattle.ec_check_forms.specs.Constraints.{no_condition, no_place, const_assigned, between_kinds, out_of_space, out_of_const, miscast}
use Rattle.ec_check_forms.specs.Constraints.{pointers_apart, register_address, nothing_reached, no_member, no_port, wide_port, no_value}
use Rattle.ec_check_forms.specs.Laws.{RulesAreConstraints}
use Rattle.ec_check_forms.specs.Nodes.{type_of_place}
use Rattle.ec_check_operands.specs.Operands.{Operand}
use Rattle.ec_check_operands.specs.Passing.{passing_rules}
use Rattle.ec_check_forms.specs.Sites.{Site, a_name, a_function, a_callee, a_call, a_use, a_part, a_condition, an_operation, a_logical}
use Rattle.ec_check_forms.specs.Sites.{a_prefix, a_step, an_index, a_member, an_assignment, a_compound, a_passing, a_choice, a_cast, a_port}
use Rattle.ec_check_forms.specs.Sites.{a_group, a_binding, rules_at}
use Rattle.ec_check_forms.proofs.Decided.{unsuited_told, incomparable_told, meet_apart_told, no_alternatives_told, chosen_apart_told}
use Rattle.ec_check_forms.proofs.Decided.{no_scalar_told, no_index_told, void_used_told, struct_part_told, not_arithmetic_told}
use Rattle.ec_check_forms.proofs.Decided.{not_integer_told, not_pointer_told, unassigned_told, const_told, value_told, register_told}
use Rattle.ec_check_forms.proofs.Decided.{pointer_added_told, passing_told, out_of_space_told, out_of_const_told, no_cast_told}
use Rattle.ec_check_forms.proofs.Decided.{no_base_told, no_member_told, count_told, no_port_told, no_group_told, no_binding_told}
use Rattle.ec_check_forms.proofs.Decided.{wide_told}

-- ---- what is told breaks a constraint

-- at a place that has the constraints of passing
passed : TypesAreTold → (s : Site) (x : Option Operand) (to : Option PlainType) (at : ℕ) (f : Fault)
    → (DoesNotPass x to → f.at ≡ at → f.rule ≡ 28 → Breaks s f)
    → (PassesOutOfSpace x to → f.at ≡ at → f.rule ≡ 29 → Breaks s f)
    → (PassesOutOfConst x to → f.at ≡ at → f.rule ≡ 30 → Breaks s f) → IsTold (passing_rules x to at) f → Breaks s f
passed told s (Some x) (Some to) at f kinds space const (inl (b, a, r)) = kinds ((passing_told told x to).0 b) a r
passed told s (Some x) (Some to) at f kinds space const (inr (inl (b, a, r))) = space ((out_of_space_told told x to).0 b) a r
passed told s (Some x) (Some to) at f kinds space const (inr (inr (inl (b, a, r)))) = const ((out_of_const_told told x to).0 b) a r
passed told s (Some x) (Some to) at f kinds space const (inr (inr (inr h))) = absurd h
passed told s (Some x) None at f kinds space const h = absurd h
passed told s None to at f kinds space const h = absurd h

told_breaks : TypesAreTold → (s : Site) (f : Fault) → IsTold (rules_at s) f → Breaks s f
told_breaks told (a_name Undeclared at) f (inl (b, a, r)) = absurd (false≢true b)
told_breaks told (a_name Undeclared at) f (inr (inl (b, a, r))) = undeclared r a
told_breaks told (a_name Undeclared at) f (inr (inr (inl (b, a, r)))) = absurd (false≢true b)
told_breaks told (a_name Undefined at) f (inl (b, a, r)) = undefined r a
told_breaks told (a_name Undefined at) f (inr (inl (b, a, r))) = absurd (false≢true b)
told_breaks told (a_name Undefined at) f (inr (inr (inl (b, a, r)))) = absurd (false≢true b)
told_breaks told (a_name Object at) f (inl (b, a, r)) = absurd (false≢true b)
told_breaks told (a_name Object at) f (inr (inl (b, a, r))) = absurd (false≢true b)
told_breaks told (a_name Object at) f (inr (inr (inl (b, a, r)))) = absurd (false≢true b)
told_breaks told (a_name Function at) f (inl (b, a, r)) = absurd (false≢true b)
told_breaks told (a_name Function at) f (inr (inl (b, a, r))) = absurd (false≢true b)
told_breaks told (a_name Function at) f (inr (inr (inl (b, a, r)))) = miscalled r a
told_breaks told (a_name what at) f (inr (inr (inr h))) = absurd h
told_breaks told (a_function true at) f (inl (b, a, r)) = absurd (false≢true b)
told_breaks told (a_function false at) f (inl (b, a, r)) = undefined r a
told_breaks told (a_function defined at) f (inr h) = absurd h
told_breaks told (a_callee true at) f (inl (b, a, r)) = absurd (false≢true b)
told_breaks told (a_callee false at) f (inl (b, a, r)) = miscalled r (refl, a)
told_breaks told (a_callee function at) f (inr h) = absurd h
told_breaks told (a_call params args at) f (inl (b, a, r)) = wrong_arguments r ((count_told params args).0 b, a)
told_breaks told (a_call params args at) f (inr h) = absurd h
told_breaks told (a_use x at) f (inl (b, a, r)) = no_value r ((void_used_told x).0 b, a)
told_breaks told (a_use x at) f (inr h) = absurd h
told_breaks told (a_part x at) f (inl (b, a, r)) = no_value r ((struct_part_told x).0 b, a)
told_breaks told (a_part x at) f (inr h) = absurd h
told_breaks told (a_condition x at) f (inl (b, a, r)) = no_condition r ((no_scalar_told x).0 b, a)
told_breaks told (a_condition x at) f (inr h) = absurd h
told_breaks told (an_operation op x y at) f (inl (b, a, r)) = unsuited r ((unsuited_told told op x y).0 b, a)
told_breaks told (an_operation op x y at) f (inr (inl (b, a, r))) = no_common_type r ((incomparable_told told op x y).0 b, a)
told_breaks told (an_operation op x y at) f (inr (inr (inl (b, a, r)))) = pointers_apart r ((meet_apart_told told op x y).0 b, a)
told_breaks told (an_operation op x y at) f (inr (inr (inr h))) = absurd h
told_breaks told (a_logical x y at) f (inl (b, a, r)) = no_condition r (inl ((no_scalar_told x).0 b), a)
told_breaks told (a_logical x y at) f (inr (inl (b, a, r))) = no_condition r (inr ((no_scalar_told y).0 b), a)
told_breaks told (a_logical x y at) f (inr (inr h)) = absurd h
told_breaks told (a_prefix op None at) f h = absurd h
told_breaks told (a_prefix Address (Some x) at) f (inl (b, a, r)) = no_place r ((value_told x).0 b, a)
told_breaks told (a_prefix Address (Some x) at) f (inr (inl (b, a, r))) = register_address r ((register_told x).0 b, a)
told_breaks told (a_prefix Address (Some x) at) f (inr (inr h)) = absurd h
told_breaks told (a_prefix Deref (Some x) at) f (inl (b, a, r)) = nothing_reached r ((not_pointer_told x).0 b, a)
told_breaks told (a_prefix Deref (Some x) at) f (inr h) = absurd h
told_breaks told (a_prefix Plus (Some x) at) f (inl (b, a, r)) = unsuited r ((not_arithmetic_told x).0 b, a)
told_breaks told (a_prefix Plus (Some x) at) f (inr h) = absurd h
told_breaks told (a_prefix Minus (Some x) at) f (inl (b, a, r)) = unsuited r ((not_arithmetic_told x).0 b, a)
told_breaks told (a_prefix Minus (Some x) at) f (inr h) = absurd h
told_breaks told (a_prefix Invert (Some x) at) f (inl (b, a, r)) = unsuited r ((not_integer_told x).0 b, a)
told_breaks told (a_prefix Invert (Some x) at) f (inr h) = absurd h
told_breaks told (a_prefix Not (Some x) at) f (inl (b, a, r)) = no_condition r ((no_scalar_told (Some x)).0 b, a)
told_breaks told (a_prefix Not (Some x) at) f (inr h) = absurd h
told_breaks told (a_step x at) f (inl (b, a, r)) = unsuited r ((no_scalar_told x).0 b, a)
told_breaks told (a_step x at) f (inr (inl (b, a, r))) = no_place r ((unassigned_told x).0 b, a)
told_breaks told (a_step x at) f (inr (inr (inl (b, a, r)))) = const_assigned r ((const_told x).0 b, a)
told_breaks told (a_step x at) f (inr (inr (inr h))) = absurd h
told_breaks told (an_index x y at) f (inl (b, a, r)) = nothing_reached r ((no_index_told x y).0 b, a)
told_breaks told (an_index x y at) f (inr h) = absurd h
told_breaks told (a_member structs name arrow x at name_at) f (inl (b, a, r)) = nothing_reached r ((no_base_told arrow x).0 b, a)
told_breaks told (a_member structs name arrow x at name_at) f (inr (inl (b, a, r))) =
    no_member r ((no_member_told structs name arrow x).0 b, a)
told_breaks told (a_member structs name arrow x at name_at) f (inr (inr h)) = absurd h
told_breaks told (an_assignment x y at) f (inl (b, a, r)) = no_place r ((unassigned_told x).0 b, a)
told_breaks told (an_assignment x y at) f (inr (inl (b, a, r))) = const_assigned r ((const_told x).0 b, a)
told_breaks told (an_assignment x y at) f (inr (inr h)) =
    passed told (an_assignment x y at) y (type_of_place x) at f (λ c a r. between_kinds r (c, a))
    (λ c a r. out_of_space r (c, a)) (λ c a r. out_of_const r (c, a)) h
told_breaks told (a_compound op x y at) f (inl (b, a, r)) = unsuited r ((unsuited_told told op x y).0 b, a)
told_breaks told (a_compound op x y at) f (inr (inl (b, a, r))) = no_place r ((unassigned_told x).0 b, a)
told_breaks told (a_compound op x y at) f (inr (inr (inl (b, a, r)))) = const_assigned r ((const_told x).0 b, a)
told_breaks told (a_compound op x y at) f (inr (inr (inr (inl (b, a, r))))) = between_kinds r ((pointer_added_told x y).0 b, a)
told_breaks told (a_compound op x y at) f (inr (inr (inr (inr h)))) = absurd h
told_breaks told (a_passing x to at) f h =
    passed told (a_passing x to at) x to at f (λ c a r. between_kinds r (c, a)) (λ c a r. out_of_space r (c, a))
    (λ c a r. out_of_const r (c, a)) h
told_breaks told (a_choice c x y at) f (inl (b, a, r)) = no_condition r ((no_scalar_told c).0 b, a)
told_breaks told (a_choice c x y at) f (inr (inl (b, a, r))) = no_common_type r ((no_alternatives_told told x y).0 b, a)
told_breaks told (a_choice c x y at) f (inr (inr (inl (b, a, r)))) = pointers_apart r ((chosen_apart_told told x y).0 b, a)
told_breaks told (a_choice c x y at) f (inr (inr (inr h))) = absurd h
told_breaks told (a_cast to x at) f (inl (b, a, r)) = miscast r ((no_cast_told told to x).0 b, a)
told_breaks told (a_cast to x at) f (inr h) = absurd h
told_breaks told (a_port op port count at) f (inl (b, a, r)) =
    no_port r ((no_port_told port count (operand_count (port_operation op))).0 b, a)
told_breaks told (a_port op port count at) f (inr (inl (b, a, r))) =
    let w = (wide_told (port_operation op) port).0 b in wide_port r (w.0, w.1, a)
told_breaks told (a_port op port count at) f (inr (inr h)) = absurd h
told_breaks told (a_group g count at) f (inl (b, a, r)) = no_port r ((no_group_told g count).0 b, a)
told_breaks told (a_group g count at) f (inr h) = absurd h
told_breaks told (a_binding b at) f (inl (c, a, r)) = no_port r ((no_binding_told b).0 c, a)
told_breaks told (a_binding b at) f (inr h) = absurd h

-- ---- a constraint that is broken is told

kinds_told : TypesAreTold → (x : Option Operand) (to : Option PlainType) (at : ℕ) (f : Fault)
    → DoesNotPass x to → f.at ≡ at → f.rule ≡ 28 → IsTold (passing_rules x to at) f
kinds_told told (Some x) (Some to) at f h a r = inl ((passing_told told x to).1 h, a, r)
kinds_told told x to at f h a r = absurd h

space_told : TypesAreTold → (x : Option Operand) (to : Option PlainType) (at : ℕ) (f : Fault)
    → PassesOutOfSpace x to → f.at ≡ at → f.rule ≡ 29 → IsTold (passing_rules x to at) f
space_told told (Some x) (Some to) at f h a r = inr (inl ((out_of_space_told told x to).1 h, a, r))
space_told told x to at f h a r = absurd h

const_lost_told : TypesAreTold → (x : Option Operand) (to : Option PlainType) (at : ℕ) (f : Fault)
    → PassesOutOfConst x to → f.at ≡ at → f.rule ≡ 30 → IsTold (passing_rules x to at) f
const_lost_told told (Some x) (Some to) at f h a r = inr (inr (inl ((out_of_const_told told x to).1 h, a, r)))
const_lost_told told x to at f h a r = absurd h

told_19 : (s : Site) (f : Fault) → f.rule ≡ 19 → IsUndefined s f.at → IsTold (rules_at s) f
told_19 (a_name Undefined at) f r a = inl (refl, a, r)
told_19 (a_function false at) f r a = inl (refl, a, r)
told_19 s f r h = absurd h

told_20 : (s : Site) (f : Fault) → f.rule ≡ 20 → IsUndeclared s f.at → IsTold (rules_at s) f
told_20 (a_name Undeclared at) f r a = inr (inl (refl, a, r))
told_20 s f r h = absurd h

told_21 : (s : Site) (f : Fault) → f.rule ≡ 21 → IsMiscalled s f.at → IsTold (rules_at s) f
told_21 (a_name Function at) f r a = inr (inr (inl (refl, a, r)))
told_21 (a_callee false at) f r h = inl (refl, h.1, r)
told_21 (a_callee true at) f r h = absurd (true≢false h.0)
told_21 s f r h = absurd h

told_22 : (s : Site) (f : Fault) → f.rule ≡ 22 → HasWrongArguments s f.at → IsTold (rules_at s) f
told_22 (a_call params args at) f r h = inl ((count_told params args).1 h.0, h.1, r)
told_22 s f r h = absurd h

told_23 : TypesAreTold → (s : Site) (f : Fault) → f.rule ≡ 23 → HasUnsuited s f.at → IsTold (rules_at s) f
told_23 told (an_operation op x y at) f r h = inl ((unsuited_told told op x y).1 h.0, h.1, r)
told_23 told (a_compound op x y at) f r h = inl ((unsuited_told told op x y).1 h.0, h.1, r)
told_23 told (a_prefix Plus (Some x) at) f r h = inl ((not_arithmetic_told x).1 h.0, h.1, r)
told_23 told (a_prefix Minus (Some x) at) f r h = inl ((not_arithmetic_told x).1 h.0, h.1, r)
told_23 told (a_prefix Invert (Some x) at) f r h = inl ((not_integer_told x).1 h.0, h.1, r)
told_23 told (a_prefix Plus None at) f r h = absurd h.0
told_23 told (a_prefix Minus None at) f r h = absurd h.0
told_23 told (a_prefix Invert None at) f r h = absurd h.0
told_23 told (a_step x at) f r h = inl ((no_scalar_told x).1 h.0, h.1, r)
told_23 told s f r h = absurd h

told_24 : TypesAreTold → (s : Site) (f : Fault) → f.rule ≡ 24 → HasNoCommonType s f.at → IsTold (rules_at s) f
told_24 told (an_operation op x y at) f r h = inr (inl ((incomparable_told told op x y).1 h.0, h.1, r))
told_24 told (a_choice c x y at) f r h = inr (inl ((no_alternatives_told told x y).1 h.0, h.1, r))
told_24 told s f r h = absurd h

told_25 : (s : Site) (f : Fault) → f.rule ≡ 25 → HasNoCondition s f.at → IsTold (rules_at s) f
told_25 (a_condition x at) f r h = inl ((no_scalar_told x).1 h.0, h.1, r)
told_25 (a_logical x y at) f r (inl h, a) = inl ((no_scalar_told x).1 h, a, r)
told_25 (a_logical x y at) f r (inr h, a) = inr (inl ((no_scalar_told y).1 h, a, r))
told_25 (a_prefix Not (Some x) at) f r h = inl ((no_scalar_told (Some x)).1 h.0, h.1, r)
told_25 (a_prefix Not None at) f r h = absurd h.0
told_25 (a_choice c x y at) f r h = inl ((no_scalar_told c).1 h.0, h.1, r)
told_25 s f r h = absurd h

told_26 : (s : Site) (f : Fault) → f.rule ≡ 26 → HasNoPlace s f.at → IsTold (rules_at s) f
told_26 (a_prefix Address (Some x) at) f r h = inl ((value_told x).1 h.0, h.1, r)
told_26 (an_assignment x y at) f r h = inl ((unassigned_told x).1 h.0, h.1, r)
told_26 (a_compound op x y at) f r h = inr (inl ((unassigned_told x).1 h.0, h.1, r))
told_26 (a_step x at) f r h = inr (inl ((unassigned_told x).1 h.0, h.1, r))
told_26 s f r h = absurd h

told_27 : (s : Site) (f : Fault) → f.rule ≡ 27 → AssignsConst s f.at → IsTold (rules_at s) f
told_27 (an_assignment x y at) f r h = inr (inl ((const_told x).1 h.0, h.1, r))
told_27 (a_compound op x y at) f r h = inr (inr (inl ((const_told x).1 h.0, h.1, r)))
told_27 (a_step x at) f r h = inr (inr (inl ((const_told x).1 h.0, h.1, r)))
told_27 s f r h = absurd h

told_28 : TypesAreTold → (s : Site) (f : Fault) → f.rule ≡ 28 → ConvertsBetweenKinds s f.at → IsTold (rules_at s) f
told_28 told (a_passing x to at) f r h = kinds_told told x to at f h.0 h.1 r
told_28 told (an_assignment x y at) f r h = inr (inr (kinds_told told y (type_of_place x) at f h.0 h.1 r))
told_28 told (a_compound op x y at) f r h = inr (inr (inr (inl ((pointer_added_told x y).1 h.0, h.1, r))))
told_28 told s f r h = absurd h

told_29 : TypesAreTold → (s : Site) (f : Fault) → f.rule ≡ 29 → ConvertsOutOfSpace s f.at → IsTold (rules_at s) f
told_29 told (a_passing x to at) f r h = space_told told x to at f h.0 h.1 r
told_29 told (an_assignment x y at) f r h = inr (inr (space_told told y (type_of_place x) at f h.0 h.1 r))
told_29 told s f r h = absurd h

told_30 : TypesAreTold → (s : Site) (f : Fault) → f.rule ≡ 30 → ConvertsOutOfConst s f.at → IsTold (rules_at s) f
told_30 told (a_passing x to at) f r h = const_lost_told told x to at f h.0 h.1 r
told_30 told (an_assignment x y at) f r h = inr (inr (const_lost_told told y (type_of_place x) at f h.0 h.1 r))
told_30 told s f r h = absurd h

told_31 : TypesAreTold → (s : Site) (f : Fault) → f.rule ≡ 31 → Miscasts s f.at → IsTold (rules_at s) f
told_31 told (a_cast to x at) f r h = inl ((no_cast_told told to x).1 h.0, h.1, r)
told_31 told s f r h = absurd h

told_32 : TypesAreTold → (s : Site) (f : Fault) → f.rule ≡ 32 → HasPointersApart s f.at → IsTold (rules_at s) f
told_32 told (an_operation op x y at) f r h = inr (inr (inl ((meet_apart_told told op x y).1 h.0, h.1, r)))
told_32 told (a_choice c x y at) f r h = inr (inr (inl ((chosen_apart_told told x y).1 h.0, h.1, r)))
told_32 told s f r h = absurd h

told_33 : (s : Site) (f : Fault) → f.rule ≡ 33 → TakesRegisterAddress s f.at → IsTold (rules_at s) f
told_33 (a_prefix Address (Some x) at) f r h = inr (inl ((register_told x).1 h.0, h.1, r))
told_33 s f r h = absurd h

told_34 : (s : Site) (f : Fault) → f.rule ≡ 34 → ReachesNothing s f.at → IsTold (rules_at s) f
told_34 (a_prefix Deref (Some x) at) f r h = inl ((not_pointer_told x).1 h.0, h.1, r)
told_34 (a_prefix Deref None at) f r h = absurd h.0
told_34 (an_index x y at) f r h = inl ((no_index_told x y).1 h.0, h.1, r)
told_34 (a_member structs name arrow x at name_at) f r h = inl ((no_base_told arrow x).1 h.0, h.1, r)
told_34 s f r h = absurd h

told_35 : (s : Site) (f : Fault) → f.rule ≡ 35 → NamesNoMember s f.at → IsTold (rules_at s) f
told_35 (a_member structs name arrow x at name_at) f r h = inr (inl ((no_member_told structs name arrow x).1 h.0, h.1, r))
told_35 s f r h = absurd h

told_36 : (s : Site) (f : Fault) → f.rule ≡ 36 → NamesNoPort s f.at → IsTold (rules_at s) f
told_36 (a_port op port count at) f r h =
    inl ((no_port_told port count (operand_count (port_operation op))).1 h.0, h.1, r)
told_36 (a_group g count at) f r h = inl ((no_group_told g count).1 h.0, h.1, r)
told_36 (a_binding b at) f r h = inl ((no_binding_told b).1 h.0, h.1, r)
told_36 s f r h = absurd h

told_37 : (s : Site) (f : Fault) → f.rule ≡ 37 → NamesWidePort s f.at → IsTold (rules_at s) f
told_37 (a_port op port count at) f r h = inr (inl ((wide_told (port_operation op) port).1 (h.0, h.1), h.2, r))
told_37 s f r h = absurd h

told_40 : (s : Site) (f : Fault) → f.rule ≡ 40 → UsesNoValue s f.at → IsTold (rules_at s) f
told_40 (a_use x at) f r h = inl ((void_used_told x).1 h.0, h.1, r)
told_40 (a_part x at) f r h = inl ((struct_part_told x).1 h.0, h.1, r)
told_40 s f r h = absurd h

breaks_told : TypesAreTold → (s : Site) (f : Fault) → Breaks s f → IsTold (rules_at s) f
breaks_told told s f (undefined r h) = told_19 s f r h
breaks_told told s f (undeclared r h) = told_20 s f r h
breaks_told told s f (miscalled r h) = told_21 s f r h
breaks_told told s f (wrong_arguments r h) = told_22 s f r h
breaks_told told s f (unsuited r h) = told_23 told s f r h
breaks_told told s f (no_common_type r h) = told_24 told s f r h
breaks_told told s f (no_condition r h) = told_25 s f r h
breaks_told told s f (no_place r h) = told_26 s f r h
breaks_told told s f (const_assigned r h) = told_27 s f r h
breaks_told told s f (between_kinds r h) = told_28 told s f r h
breaks_told told s f (out_of_space r h) = told_29 told s f r h
breaks_told told s f (out_of_const r h) = told_30 told s f r h
breaks_told told s f (miscast r h) = told_31 told s f r h
breaks_told told s f (pointers_apart r h) = told_32 told s f r h
breaks_told told s f (register_address r h) = told_33 s f r h
breaks_told told s f (nothing_reached r h) = told_34 s f r h
breaks_told told s f (no_member r h) = told_35 s f r h
breaks_told told s f (no_port r h) = told_36 s f r h
breaks_told told s f (wide_port r h) = told_37 s f r h
breaks_told told s f (no_value r h) = told_40 s f r h

pub rules_are_constraints : TypesAreTold → RulesAreConstraints
rules_are_constraints told s f = (told_breaks told s f, breaks_told told s f)
