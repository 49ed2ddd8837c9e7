-- The derived `==` of punctuators and of words compares their numbers.
use Rattle.std.proofs.Common.{◌≡◌, Bool, true, false, refl, sym, ap, ◌∙◌, rules}
use Rattle.std.proofs.lemmas.Bool.{true≢false}
use denote.Enum.Bare.{sameb, true_same, false_same}
use Rattle.ec_grammar.specs.declared.token.PunctKind.{PunctKind}
use Rattle.ec_grammar.specs.declared.token.WordKind.{WordKind}
use Rattle.ec_grammar.specs.contracts.token.PunctKind as puncts
use Rattle.ec_grammar.specs.contracts.token.WordKind as words
use Rattle.ec_parse_laws.specs.Codes.{same_punct, same_word}
use Rattle.ec_parse_laws.proofs.Basics.{same_puncts, same_words, self_punct, self_word}

pub puncts_compared : (a b : PunctKind) → sameb puncts.the_type a b ≡ same_punct a b
puncts_compared a b = go (same_punct a b) refl
  where
    go : (t : Bool) → same_punct a b ≡ t → sameb puncts.the_type a b ≡ t
    go true same = true_same puncts.the_type a b (same_puncts a b same)
    go false other =
        false_same puncts.the_type (search rules) a b (λ same. true≢false (sym (self_punct a) ∙ ap (same_punct a) same ∙ other))

pub words_compared : (a b : WordKind) → sameb words.the_type a b ≡ same_word a b
words_compared a b = go (same_word a b) refl
  where
    go : (t : Bool) → same_word a b ≡ t → sameb words.the_type a b ≡ t
    go true same = true_same words.the_type a b (same_words a b same)
    go false other = false_same words.the_type (search rules) a b (λ same. true≢false (sym (self_word a) ∙ ap (same_word a) same ∙ other))
