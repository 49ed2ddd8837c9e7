use Rattle.std.proofs.Common.{◌≡◌, ◌↔◌, ◌∙◌, List, [], ◌∷◌, ◌++◌, ◌+◌, suc, set, take, ap, refl, subst, sym}
use Rattle.std.specs.Prelude.{Bool, true, false, Some, None}
use Rattle.ec_grammar.specs.declared.token.Token.{Token}
use Rattle.ec_grammar.specs.Tokens.{Placed, view_tokens}
use Rattle.ec_parse_laws.specs.Passing.{BeginsProgram}
use Rattle.ec_parse_laws.specs.Refusals.{EndsWithEnd}
use Rattle.ec_space.specs.Listed.{Listed}
use Rattle.ec_where_expected.specs.Expected.{IsGoodFront, candidate_at, placed}
use Rattle.ec_where_expected.specs.declared.candidates.Candidate.TheVariants.{End}
use Rattle.ec_where_expected.proofs.Trials.{IsTried, push_view, put_view, set_ended, set_good, tried_first, tried_more, tried_none}
use Rattle.ec_where_expected.proofs.judging.standing.Goals as goal
use Rattle.ec_where_expected.proofs.judging.standing.Goals.{in-Some+in_ok-stand, in_default}

pub kinds-init : goal.kinds-init
kinds-init c =
    let text = view_tokens c.args.tokens.items in
    let first : IsTried c.args.k 0 text (text ++ placed End ∷ []) [] = tried_first c.args.k text (placed End) c.requires.stops.0 refl in
    let pushed : view_tokens c.push.new.self.items ≡ text ++ placed End ∷ [] =
    push_view c.args.tokens.items c.push.new.self.items _ c.in_ok-push.ensures.ok in
    subst (λ (all : List Placed). IsTried c.args.k 0 text all c.new-flags.result.items) (sym pushed)
    (subst (λ (flags : List Bool). IsTried c.args.k 0 text (text ++ placed End ∷ []) flags) (sym c.new-flags.ensures) first)

pub stands-requires-clause-ended : goal.stands-requires-clause-ended
stands-requires-clause-ended c =
    subst EndsWithEnd
    (sym (put_view c.kinds.tried.items c.put.new.self.items c.args.k c.token_of.result c.in-Some.candidate
    c.put.ensures.items c.token_of.ensures))
    (set_ended c.args.k c.kinds.i (view_tokens c.args.tokens.items) (view_tokens c.kinds.tried.items) c.kinds.flags.items
    (placed c.in-Some.candidate) c.requires.stops.0 c.kinds.invariant)

pub stands-requires-clause-good : goal.stands-requires-clause-good
stands-requires-clause-good c =
    subst (IsGoodFront c.args.k)
    (sym (put_view c.kinds.tried.items c.put.new.self.items c.args.k c.token_of.result c.in-Some.candidate
    c.put.ensures.items c.token_of.ensures))
    (set_good c.args.k c.kinds.i (view_tokens c.args.tokens.items) (view_tokens c.kinds.tried.items) c.kinds.flags.items
    (placed c.in-Some.candidate) c.requires.stops c.kinds.invariant)

pub kinds-preserved : goal.kinds-preserved
kinds-preserved c =
    let k = c.args.k in
    let text = view_tokens c.args.tokens.items in
    let flags = c.kinds.flags.items in
    let flag = c.match-candidate_at.stand in
    let done : IsTried k (c.kinds.i + 1) text (view_tokens c.match-candidate_at.tried.items) (flags ++ flag ∷ []) =
    elim c.match-candidate_at.branch [
      | in-Some+in_ok-stand w ↦
          let x = w.in-Some.candidate in
          let put : view_tokens w.put.new.self.items ≡ set (view_tokens c.kinds.tried.items) k (placed x) =
          put_view c.kinds.tried.items w.put.new.self.items k w.token_of.result x w.put.ensures.items w.token_of.ensures in
          let here : candidate_at c.kinds.i ≡ Some x = sym w.in-Some.ensures in
          let stands : (w.in_ok-stand.stand ≡ true) ↔ BeginsProgram (take (suc k) (view_tokens w.put.new.self.items)) =
          w.in_ok-stand.ensures in
          let front = take (suc k) (set (view_tokens c.kinds.tried.items) k (placed x)) in
          let judged : (flag ≡ true) ↔ BeginsProgram front =
          subst (λ (b : Bool). (b ≡ true) ↔ BeginsProgram front) (sym w.stand-is)
          (subst (λ (l : List Placed). (w.in_ok-stand.stand ≡ true) ↔ BeginsProgram (take (suc k) l)) put stands) in
          subst (λ (l : List Placed). IsTried k (c.kinds.i + 1) text l (flags ++ flag ∷ []))
          (sym (ap (λ (seq : Listed Token). view_tokens seq.items) w.tried-is ∙ put))
          (tried_more k c.kinds.i text (view_tokens c.kinds.tried.items) flags flag x c.requires.stops.0 c.kinds.invariant here judged)
      | in_default w ↦
          let none : candidate_at c.kinds.i ≡ None = sym w.in_default.ensures in
          let now = view_tokens c.match-candidate_at.tried.items in
          subst (λ (b : Bool). IsTried k (c.kinds.i + 1) text now (flags ++ b ∷ [])) (sym w.stand-is)
          (subst (λ (l : List Placed). IsTried k (c.kinds.i + 1) text l (flags ++ false ∷ []))
          (sym (ap (λ (seq : Listed Token). view_tokens seq.items) w.tried-is))
          (tried_none k c.kinds.i text (view_tokens c.kinds.tried.items) flags c.kinds.invariant none))
    ] in
    subst (λ (all : List Bool). IsTried k (c.kinds.i + 1) text (view_tokens c.match-candidate_at.tried.items) all)
    (sym c.in_ok-push-2.ensures.ok) done
