-- The trees of the tokens of all texts.
use Rattle.std.proofs.Common.{◌≡◌, ℕ, zero, suc, ◌<◌, List, [], ◌∷◌, length, take, map, get_or, slice_get, IsSomeAnd}
use Rattle.std.proofs.Common.{refl, sym, subst}
use Rattle.std.proofs.Common.{arith}
use Rattle.std.specs.List.{AllByRecursion}
use Rattle.std.proofs.lemmas.List.{take-map}
use Rattle.ec_space.specs.Listed.{Listed}
use Rattle.ec_grammar.specs.declared.token.Token.{Token}
use Rattle.ec_grammar.specs.declared.Tree.{Tree}
use Rattle.ec_grammar.specs.Tokens.{Placed, end, view_tokens}
use Rattle.ec_grammar.specs.Trees as t
use Rattle.ec_grammar.specs.Grammar.{Derives}
use Rattle.ec_grammar.specs.Views.{view_tree}
use Rattle.ec_parse.specs.declared.stop.ParseStop.{ParseStop}
use Rattle.ec_lex.specs.Text.{placed}
use Rattle.ec_parse_sources.specs.declared.stop.UnitStop.{UnitStop}
use Rattle.ec_parse_sources.specs.declared.stop.UnitStop.TheVariants.{Lex, Parse, NoMemory}
use Rattle.ec_parse_sources.specs.Units.{IsLexed, IsParsed, IsUnit, AreUnits, IsUnparsed, HasTokens, HaveTokens, AreReadable}
use Rattle.ec_parse_sources.specs.Units.{HasTree, HaveTrees}
use Rattle.ec_parse_sources.specs.Units.{HaveNoTree, IsFirstTreeless}
use Rattle.ec_parse_sources.specs.Stops.{StopsReading, StopsParsing, StopsParsingAll}
use Rattle.ec_parse_sources.proofs.Zips.{zipped_images}

-- what holds of an item holds where it stands
there : {A : Type 0} (P : A → Type 0) (xs : List A) (i : ℕ) (x : A) → i < length xs → x ≡ get_or xs i x → P x → IsSomeAnd (slice_get xs i) P
there P [] i x h is p = absurd (omega arith)
there P (y ∷ ys) zero x h is p = subst P is p
there P (y ∷ ys) (suc i) x h is p = there P ys i x (omega arith) is p

-- the first text without a tree
pub first_treeless : (lists : List (Listed Token)) (trees : List Tree) (i : ℕ) (l : Listed Token) (stop : UnitStop)
    → i < length lists → l ≡ get_or lists i l → HaveTrees (take i lists) trees → StopsParsing i (view_tokens l.items) stop
    → StopsParsingAll lists stop
first_treeless lists trees i l (Lex k stop) h is before here = absurd here
first_treeless lists trees i l (Parse k stop) h is before here =
    subst (λ n. IsFirstTreeless lists n stop) (sym here.0)
    (record {
      before = (trees, before);
      here = there (λ x. HaveNoTree (view_tokens x.items) stop) lists i l h is here.1;
    })
first_treeless lists trees i l NoMemory h is before here = tt

-- ---- tokens and trees

-- the tokens of a text can be read
readable : (bytes : List ℕ) (list : List Placed) → IsLexed bytes list → AreReadable list
readable bytes list h =
    record { ended = (h.tokens.tokens, placed (length bytes) [] end, h.tokens.ended, refl); few = h.few }

pub all_readable : (sources : List (Listed ℕ)) (lists : List (Listed Token)) → HaveTokens sources lists
    → AllByRecursion (λ l. AreReadable (view_tokens l.items)) lists
all_readable [] [] h = tt
all_readable [] (l ∷ lists) h = absurd h
all_readable (s ∷ sources) [] h = absurd h
all_readable (s ∷ sources) (l ∷ lists) h = (readable s.items (view_tokens l.items) h.0.lexed, all_readable sources lists h.1)

-- the trees of the tokens of texts are those of the texts
pub units_read : (sources : List (Listed ℕ)) (lists : List (Listed Token)) (trees : List Tree) → HaveTokens sources lists
    → HaveTrees lists trees → AreUnits (map (λ s. s.items) sources) (map view_tree trees)
units_read [] [] [] h g = tt
units_read [] [] (u ∷ trees) h g = absurd g
units_read [] (l ∷ lists) trees h g = absurd h
units_read (s ∷ sources) [] trees h g = absurd h
units_read (s ∷ sources) (l ∷ lists) [] h g = absurd g
units_read (s ∷ sources) (l ∷ lists) (u ∷ trees) h g = (
  record { list = view_tokens l.items; lexed = h.0.lexed; parsed = g.0.parsed },
  units_read sources lists trees h.1 g.1,
)

-- they have no others
other_unit : (s : Listed ℕ) (l : Listed Token) (u : Tree) (other : t.Tree) → HasTokens s.items (view_tokens l.items)
    → HasTree (view_tokens l.items) (view_tree u) → IsUnit s.items other → other ≡ view_tree u
other_unit s l u other h g unit =
    sym (g.alone other (subst (λ list. Derives list other) (h.alone unit.list unit.lexed) unit.parsed.derived))

pub units_alone : (sources : List (Listed ℕ)) (lists : List (Listed Token)) (trees : List Tree) (others : List t.Tree)
    → HaveTokens sources lists → HaveTrees lists trees → AreUnits (map (λ s. s.items) sources) others → others ≡ map view_tree trees
units_alone [] [] [] [] h g o = refl
units_alone [] [] [] (v ∷ others) h g o = absurd o
units_alone [] [] (u ∷ trees) others h g o = absurd g
units_alone [] (l ∷ lists) trees others h g o = absurd h
units_alone (s ∷ sources) [] trees others h g o = absurd h
units_alone (s ∷ sources) (l ∷ lists) [] others h g o = absurd g
units_alone (s ∷ sources) (l ∷ lists) (u ∷ trees) [] h g o = absurd o
units_alone (s ∷ sources) (l ∷ lists) (u ∷ trees) (v ∷ others) h g o =
    let here = other_unit s l u v h.0 g.0 o.0 in
    let more = units_alone sources lists trees others h.1 g.1 o.1 in
    cc

-- ---- refusals

-- the first of the texts and those of their tokens
first_tokens : (i : ℕ) (sources : List (Listed ℕ)) (lists : List (Listed Token)) → HaveTokens sources lists
    → HaveTokens (take i sources) (take i lists)
first_tokens zero sources lists h = tt
first_tokens (suc i) [] [] h = tt
first_tokens (suc i) [] (l ∷ lists) h = absurd h
first_tokens (suc i) (s ∷ sources) [] h = absurd h
first_tokens (suc i) (s ∷ sources) (l ∷ lists) h = (h.0, first_tokens i sources lists h.1)

unparsed : (bytes : List ℕ) (list : List Placed) (stop : ParseStop) → HasTokens bytes list → HaveNoTree list stop → IsUnparsed bytes stop
unparsed bytes list stop h why = record {
  list = list;
  lexed = h.lexed;
  bad = why.bad;
  none = λ u unit. why.none u (subst (λ l. IsParsed l u) (h.alone unit.list unit.lexed) unit.parsed);
}

unparsed_there : (sources : List (Listed ℕ)) (lists : List (Listed Token)) (i : ℕ) (stop : ParseStop) → HaveTokens sources lists
    → IsSomeAnd (slice_get lists i) (λ l. HaveNoTree (view_tokens l.items) stop)
    → IsSomeAnd (slice_get (map (λ s. s.items) sources) i) (λ bytes. IsUnparsed bytes stop)
unparsed_there [] [] i stop h why = absurd why
unparsed_there [] (l ∷ lists) i stop h why = absurd h
unparsed_there (s ∷ sources) [] i stop h why = absurd h
unparsed_there (s ∷ sources) (l ∷ lists) zero stop h why = unparsed s.items (view_tokens l.items) stop h.0 why
unparsed_there (s ∷ sources) (l ∷ lists) (suc i) stop h why = unparsed_there sources lists i stop h.1 why

pub parsing_stops_reading : (sources : List (Listed ℕ)) (lists : List (Listed Token)) (stop : UnitStop) → HaveTokens sources lists
    → StopsParsingAll lists stop → StopsReading (map (λ s. s.items) sources) stop
parsing_stops_reading sources lists (Lex i stop) h why = absurd why
parsing_stops_reading sources lists (Parse i stop) h why = record {
  lexed = (
    map (λ l. view_tokens l.items) lists,
    zipped_images (λ x l. HasTokens x.items (view_tokens l.items)) IsLexed (λ x. x.items) (λ l. view_tokens l.items)
        (λ x l has. has.lexed) sources lists h,
  );
  before = (
    map view_tree why.before.0,
    rw (take-map (λ (s : Listed ℕ). s.items) i sources)
        (units_read (take i sources) (take i lists) why.before.0 (first_tokens i sources lists h) why.before.1),
  );
  here = unparsed_there sources lists i stop h why.here;
}
parsing_stops_reading sources lists NoMemory h why = tt
