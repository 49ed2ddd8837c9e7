use Rattle.std.proofs.Common.{◌≡◌, ◌+◌, ◌∙◌, ◌++◌, ◌∷◌, [], ℕ, List, Some, None, drop, take, sym, ap}
use Rattle.std.proofs.lemmas.List.{take_rest}
use Rattle.std.specs.Prelude.{option_map}
use Rattle.ec_emu.specs.Forms.{bytes_of, words, filled}
use Rattle.ec_emu.proofs.Words.{word_put, word_misfit}
use Rattle.ec_emu.proofs.read.bytes_of.Goals as goal

pub returns-then-not-branch : goal.returns-then-not-branch
returns-then-not-branch c =
    let none : bytes_of (filled (take c.in-Some.end c.words.rest.now ∷ [])) ≡ None = rw c.if-not-branch.true at c.in_ok-put_word.ensures in
    sym (c.words.invariant ∙ word_misfit c.words.rest.now c.words.bytes.items c.in-Some.end (sym c.word_end.ensures ∙ c.in-Some.is) none)

pub words-preserved : goal.words-preserved
words-preserved c =
    let put : (more : List ℕ) × ((bytes_of (filled (take c.in-Some.end c.words.rest.now ∷ [])) ≡ Some more)
    × (c.put_word.new.bytes.items ≡ c.words.bytes.items ++ more)) =
    rw c.if-not-branch.false at c.in_ok-put_word.ensures in
    c.words.invariant
    ∙ word_put c.words.rest.now c.words.bytes.items put.0 c.in-Some.end (sym c.word_end.ensures ∙ c.in-Some.is) put.1.0
    ∙ ap (λ (items : List ℕ). option_map (λ more. items ++ more) (bytes_of (words (drop (c.in-Some.end + 1) c.words.rest.now))))
    (sym put.1.1)
    ∙ ap (λ (rest : List ℕ). option_map (λ more. c.put_word.new.bytes.items ++ more) (bytes_of (words rest)))
    (sym (take_rest c.words.rest.now (c.in-Some.end + 1)))
