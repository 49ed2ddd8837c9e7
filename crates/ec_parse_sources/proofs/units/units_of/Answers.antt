use Rattle.std.proofs.Common.{arith, subst}
use Rattle.std.proofs.lemmas.List.Elements.{All-from_recursion, All-same}
use Rattle.std.proofs.lemmas.Result.{err_from_is_err_and}
use Rattle.std.proofs.lemmas.Slice.Zip.{AllZip-long}
use Rattle.ec_grammar.specs.Tokens.{view_tokens}
use Rattle.ec_parse_sources.specs.Units.{HasTokens, HaveTokens, AreReadable, HaveTrees}
use Rattle.ec_parse_sources.specs.Stops.{StopsParsingAll}
use Rattle.ec_parse_sources.proofs.Parsed.{all_readable, units_read, units_alone, parsing_stops_reading}
use Rattle.ec_parse_sources.proofs.units.units_of.Goals as goal

pub parse_units-requires-clause-few : goal.parse_units-requires-clause-few
parse_units-requires-clause-few c =
    let has = subst (λ s. HaveTokens s c.in_ok-lists.lists.items) c.as_slice.ensures c.in_ok-lists.ensures.lexed in
    let long = AllZip-long (λ s l. HasTokens s.items (view_tokens l.items)) c.args.sources.now.items c.in_ok-lists.lists.items has in
    let same = c.as_slice-2.ensures in
    rw same (omega (arith, long, c.requires.few))

pub parse_units-requires-clause-readable : goal.parse_units-requires-clause-readable
parse_units-requires-clause-readable c =
    let has = subst (λ s. HaveTokens s c.in_ok-lists.lists.items) c.as_slice.ensures c.in_ok-lists.ensures.lexed in
    let all =
    All-from_recursion (λ l. AreReadable (view_tokens l.items)) c.in_ok-lists.lists.items
    (all_readable c.args.sources.now.items c.in_ok-lists.lists.items has) in
    All-same (λ l. AreReadable (view_tokens l.items)) c.as_slice-2.result.now c.in_ok-lists.lists.items c.as_slice-2.ensures all

pub returns-in_err-trees-clause-stopped : goal.returns-in_err-trees-clause-stopped
returns-in_err-trees-clause-stopped c =
    let has = subst (λ s. HaveTokens s c.in_ok-lists.lists.items) c.as_slice.ensures c.in_ok-lists.ensures.lexed in
    let p = err_from_is_err_and c.from_residual-in_err-trees.result c.from_residual-in_err-trees.ensures.1 in
    let why = subst (λ l. StopsParsingAll l c.in_err-trees.field-0.0) c.as_slice-2.ensures c.in_err-trees.ensures.stopped in
    rw (p.1, p.2) (parsing_stops_reading c.args.sources.now.items c.in_ok-lists.lists.items c.in_err-trees.field-0.0 has why)

pub returns-clause-units : goal.returns-clause-units
returns-clause-units c =
    let has = subst (λ s. HaveTokens s c.in_ok-lists.lists.items) c.as_slice.ensures c.in_ok-lists.ensures.lexed in
    let trees = subst (λ l. HaveTrees l c.in_ok-trees.trees.items) c.as_slice-2.ensures c.in_ok-trees.ensures.parsed in
    units_read c.args.sources.now.items c.in_ok-lists.lists.items c.in_ok-trees.trees.items has trees

pub returns-clause-only : goal.returns-clause-only
returns-clause-only c others are =
    let has = subst (λ s. HaveTokens s c.in_ok-lists.lists.items) c.as_slice.ensures c.in_ok-lists.ensures.lexed in
    let trees = subst (λ l. HaveTrees l c.in_ok-trees.trees.items) c.as_slice-2.ensures c.in_ok-trees.ensures.parsed in
    units_alone c.args.sources.now.items c.in_ok-lists.lists.items c.in_ok-trees.trees.items others has trees are
