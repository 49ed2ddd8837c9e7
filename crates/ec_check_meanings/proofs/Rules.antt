-- What is told at the sites of an expression is what breaks a constraint there.
use Rattle.std.proofs.Common.{◌≡◌, ℕ, [], refl, sym, subst, inl, inr}
use Rattle.std.specs.Prelude.{◌⊎◌, ◌↔◌}
use Rattle.ec_grammar.specs.Trees as t
use Rattle.ec_check_operands.specs.declared.faults.Fault.{Fault}
use Rattle.ec_check_forms.specs.Constraints.{IsUndefined, IsUndeclared, IsMiscalled, HasWrongArguments}
use Rattle.ec_check_forms.specs.Constraints.{HasUnsuited, HasNoCommonType, HasNoCondition, HasNoPlace}
use Rattle.ec_check_forms.specs.Constraints.{AssignsConst, ConvertsBetweenKinds, ConvertsOutOfSpace}
use Rattle.ec_check_forms.specs.Constraints.{ConvertsOutOfConst, Miscasts, HasPointersApart}
use Rattle.ec_check_forms.specs.Constraints.{TakesRegisterAddress, ReachesNothing, NamesNoMember}
use Rattle.ec_check_forms.specs.Constraints.{NamesNoPort, NamesWidePort, UsesNoValue}
use Rattle.ec_check_forms.specs.Constraints as c
use Rattle.ec_check_forms.specs.Constraints.{Breaks}
use Rattle.ec_check_forms.specs.Laws.{RulesAreConstraints}
use Rattle.ec_check_forms.specs.Sites as operands
use Rattle.ec_check_expressions.specs.Expressions.{expression_sites}
use Rattle.ec_check_expressions.specs.Known.{Known}
use Rattle.ec_check_expressions.specs.Sites.{Site, on}
use Rattle.ec_check_meanings.specs.Laws.{StandsIn, SitesAreJudged, ToldInSites, ConstraintsAreTold}
use Rattle.ec_check_meanings.specs.Rules as r
use Rattle.ec_check_meanings.specs.Rules.{IsBroken}
use Rattle.ec_check_meanings.specs.Sites.{SiteIn}
use Rattle.ec_check_meanings.specs.Terms.{Term, term_of_expression}

broken : (k : Known) (x : Term) (s : operands.Site) (f : Fault) → SiteIn k x (on s) → Breaks s f → IsBroken k x f.at f.rule
broken k x s f i (c.undefined q h) = subst (IsBroken k x f.at) (sym q) (r.undefined i h)
broken k x s f i (c.undeclared q h) = subst (IsBroken k x f.at) (sym q) (r.undeclared i h)
broken k x s f i (c.miscalled q h) = subst (IsBroken k x f.at) (sym q) (r.miscalled i h)
broken k x s f i (c.wrong_arguments q h) = subst (IsBroken k x f.at) (sym q) (r.wrong_arguments i h)
broken k x s f i (c.unsuited q h) = subst (IsBroken k x f.at) (sym q) (r.unsuited i h)
broken k x s f i (c.no_common_type q h) = subst (IsBroken k x f.at) (sym q) (r.no_common_type i h)
broken k x s f i (c.no_condition q h) = subst (IsBroken k x f.at) (sym q) (r.no_condition i h)
broken k x s f i (c.no_place q h) = subst (IsBroken k x f.at) (sym q) (r.no_place i h)
broken k x s f i (c.const_assigned q h) = subst (IsBroken k x f.at) (sym q) (r.const_assigned i h)
broken k x s f i (c.between_kinds q h) = subst (IsBroken k x f.at) (sym q) (r.between_kinds i h)
broken k x s f i (c.out_of_space q h) = subst (IsBroken k x f.at) (sym q) (r.out_of_space i h)
broken k x s f i (c.out_of_const q h) = subst (IsBroken k x f.at) (sym q) (r.out_of_const i h)
broken k x s f i (c.miscast q h) = subst (IsBroken k x f.at) (sym q) (r.miscast i h)
broken k x s f i (c.pointers_apart q h) = subst (IsBroken k x f.at) (sym q) (r.pointers_apart i h)
broken k x s f i (c.register_address q h) = subst (IsBroken k x f.at) (sym q) (r.register_address i h)
broken k x s f i (c.nothing_reached q h) = subst (IsBroken k x f.at) (sym q) (r.nothing_reached i h)
broken k x s f i (c.no_member q h) = subst (IsBroken k x f.at) (sym q) (r.no_member i h)
broken k x s f i (c.no_port q h) = subst (IsBroken k x f.at) (sym q) (r.no_port i h)
broken k x s f i (c.wide_port q h) = subst (IsBroken k x f.at) (sym q) (r.wide_port i h)
broken k x s f i (c.no_value q h) = subst (IsBroken k x f.at) (sym q) (r.no_value i h)

-- a site at which the fault is a broken constraint
abbrev BreaksIn : Known → Term → Fault → Type 0
BreaksIn k x f = (s : operands.Site) × SiteIn k x (on s) × Breaks s f

breaks : (k : Known) (x : Term) (token rule : ℕ) → IsBroken k x token rule → (f : Fault) → f.at ≡ token → f.rule ≡ rule → BreaksIn k x f
breaks k x token _ (r.undefined {s = s} i h) f a q = (s, i, c.undefined q (subst (IsUndefined s) (sym a) h))
breaks k x token _ (r.undeclared {s = s} i h) f a q = (s, i, c.undeclared q (subst (IsUndeclared s) (sym a) h))
breaks k x token _ (r.miscalled {s = s} i h) f a q = (s, i, c.miscalled q (subst (IsMiscalled s) (sym a) h))
breaks k x token _ (r.wrong_arguments {s = s} i h) f a q = (s, i, c.wrong_arguments q (subst (HasWrongArguments s) (sym a) h))
breaks k x token _ (r.unsuited {s = s} i h) f a q = (s, i, c.unsuited q (subst (HasUnsuited s) (sym a) h))
breaks k x token _ (r.no_common_type {s = s} i h) f a q = (s, i, c.no_common_type q (subst (HasNoCommonType s) (sym a) h))
breaks k x token _ (r.no_condition {s = s} i h) f a q = (s, i, c.no_condition q (subst (HasNoCondition s) (sym a) h))
breaks k x token _ (r.no_place {s = s} i h) f a q = (s, i, c.no_place q (subst (HasNoPlace s) (sym a) h))
breaks k x token _ (r.const_assigned {s = s} i h) f a q = (s, i, c.const_assigned q (subst (AssignsConst s) (sym a) h))
breaks k x token _ (r.between_kinds {s = s} i h) f a q = (s, i, c.between_kinds q (subst (ConvertsBetweenKinds s) (sym a) h))
breaks k x token _ (r.out_of_space {s = s} i h) f a q = (s, i, c.out_of_space q (subst (ConvertsOutOfSpace s) (sym a) h))
breaks k x token _ (r.out_of_const {s = s} i h) f a q = (s, i, c.out_of_const q (subst (ConvertsOutOfConst s) (sym a) h))
breaks k x token _ (r.miscast {s = s} i h) f a q = (s, i, c.miscast q (subst (Miscasts s) (sym a) h))
breaks k x token _ (r.pointers_apart {s = s} i h) f a q = (s, i, c.pointers_apart q (subst (HasPointersApart s) (sym a) h))
breaks k x token _ (r.register_address {s = s} i h) f a q = (s, i, c.register_address q (subst (TakesRegisterAddress s) (sym a) h))
breaks k x token _ (r.nothing_reached {s = s} i h) f a q = (s, i, c.nothing_reached q (subst (ReachesNothing s) (sym a) h))
breaks k x token _ (r.no_member {s = s} i h) f a q = (s, i, c.no_member q (subst (NamesNoMember s) (sym a) h))
breaks k x token _ (r.no_port {s = s} i h) f a q = (s, i, c.no_port q (subst (NamesNoPort s) (sym a) h))
breaks k x token _ (r.wide_port {s = s} i h) f a q = (s, i, c.wide_port q (subst (NamesWidePort s) (sym a) h))
breaks k x token _ (r.no_value {s = s} i h) f a q = (s, i, c.no_value q (subst (UsesNoValue s) (sym a) h))

module _ (rules : RulesAreConstraints) (sites : SitesAreJudged) (k : Known) (x : t.Expression) (f : Fault) where
  site_in : (s : Site) → StandsIn s (expression_sites k x []) → SiteIn k (term_of_expression x) s
  site_in s h = sort (((sites k).expressions x [] s).0 h)
    where
      sort : SiteIn k (term_of_expression x) s ⊎ StandsIn s [] → SiteIn k (term_of_expression x) s
      sort (inl v) = v
      sort (inr v) = absurd v

  is_broken : ToldInSites k x f → IsBroken k (term_of_expression x) f.at f.rule
  is_broken h = broken k (term_of_expression x) h.0 f (site_in (on h.0) h.1) ((rules h.0 f).0 h.2)

  is_told : IsBroken k (term_of_expression x) f.at f.rule → ToldInSites k x f
  is_told h =
      let g = breaks k (term_of_expression x) f.at f.rule h f refl refl in
      (g.0, ((sites k).expressions x [] (on g.0)).1 (inl g.1), (rules g.0 f).1 g.2)

pub constraints_are_told : RulesAreConstraints → SitesAreJudged → ConstraintsAreTold
constraints_are_told rules sites k x f = (is_broken rules sites k x f, is_told rules sites k x f)
