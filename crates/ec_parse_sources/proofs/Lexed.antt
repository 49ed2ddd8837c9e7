-- The tokens of all texts.
use Rattle.std.proofs.Common.{◌≡◌, ℕ, ◌<◌, List, length, take, map, get_or, sym, subst}
use Rattle.ec_space.specs.Listed.{Listed}
use Rattle.ec_grammar.specs.declared.token.Token.{Token}
use Rattle.ec_grammar.specs.Tokens.{view_tokens}
use Rattle.ec_parse_sources.specs.declared.stop.UnitStop.{UnitStop}
use Rattle.ec_parse_sources.specs.declared.stop.UnitStop.TheVariants.{Lex, Parse, NoMemory}
use Rattle.ec_parse_sources.specs.Units.{IsLexed, IsFaulty, HasTokens, HaveTokens, IsFirstFault}
use Rattle.ec_parse_sources.specs.Stops.{StopsLexing, StopsLexingAll}
use Rattle.ec_parse_sources.proofs.Zips.{zipped_first_images, holds_there}

-- the first text with a fault
pub first_fault : (sources : List (Listed ℕ)) (lists : List (Listed Token)) (i : ℕ) (s : Listed ℕ) (stop : UnitStop)
    → i < length sources → s ≡ get_or sources i s → HaveTokens (take i sources) lists → StopsLexing i s.items stop
    → StopsLexingAll (map (λ s. s.items) sources) stop
first_fault sources lists i s (Lex k stop) h is before here =
    subst (λ n. IsFirstFault (map (λ x. x.items) sources) n stop) (sym here.0)
    (record {
      before = (
        map (λ l. view_tokens l.items) lists,
        zipped_first_images (λ x l. HasTokens x.items (view_tokens l.items)) IsLexed (λ x. x.items) (λ l. view_tokens l.items)
            (λ x l has. has.lexed) i sources lists before,
      );
      here = holds_there (λ bytes. IsFaulty bytes stop) (λ x. x.items) sources i s h is here.1;
    })
first_fault sources lists i s (Parse k stop) h is before here = absurd here
first_fault sources lists i s NoMemory h is before here = tt
