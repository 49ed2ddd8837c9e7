use Rattle.std.proofs.Common.{◌≡◌, ◌∙◌, ℕ, ◌+◌, ◌*◌, ◌≤◌, ◌<◌, take, List, [], ◌∷◌, length, subst, sym, arith, Some}
use Rattle.std.specs.Prelude.{All}
use Rattle.std.specs.FinMap.{get}
use Rattle.std.proofs.lemmas.List.{length-append}
use Rattle.ec_commands.specs.Sources.{texts, HoldTexts, AreWithin}
use Rattle.ec_commands.specs.Words.{names_from, word}
use Rattle.ec_commands.specs.Shown.{Told}
use Rattle.ec_commands.proofs.Files.{kept_on, told_both}
use Rattle.ec_commands.proofs.Named.{names_contain, hold_more, within_more, all_more, came_more, CameWithin}
use Rattle.ec_commands.proofs.sources.read_sources.Goals as goal

pub returns-in-Err-clause-calm : goal.returns-in-Err-clause-calm
returns-in-Err-clause-calm g c = λ names made room calm named.
    let i = c.loop-i.invariant in
    let inside : c.loop-i.i < length c.args.words.now.items = omega arith in
    let before = i.calm names made room calm named in
    let now = c.in-Err.ensures.calm names made room before.1
    (named _ (names_contain c.args.words.now.items c.args.first (length (texts c.loop-i.sources.items)) c.loop-i.i i.place inside)) in
    (now.0 ∙ before.0, now.1)

pub loop-i-preserved : goal.loop-i-preserved
loop-i-preserved g c =
    let i = c.loop-i.invariant in
    let inside : c.loop-i.i < length c.args.words.now.items = omega arith in
    let words = c.args.words.now.items in
    let first = c.args.first in
    let so_far : List (List ℕ) = texts c.loop-i.sources.items in
    let found = c.in-Ok.ensures.found in
    let text : List ℕ = found.0 in
    let more = sym found.1.0 in
    let read = found.1.1 in
    record {
      place = subst (λ (ts : List (List ℕ)). c.loop-i.i + 1 ≡ first + length ts) more
          (omega (arith, i.place, length-append so_far (text ∷ [])));
      files = kept_on _ _ _ i.files c.in-Ok.ensures.files;
      told = subst
          (λ (ts : List (List ℕ)). Told (HoldTexts (take (length ts) (names_from words first)) ts) (g.S.Store.disk c.args.store.now)) more
          (told_both (HoldTexts (take (length so_far) (names_from words first)) so_far)
          (λ files. get files (word words c.loop-i.i) ≡ Some text) _ _ _ i.files i.told read.told
          (λ files before here. hold_more words first c.loop-i.i so_far text files i.place inside before here));
      before = told_both (AreWithin words first c.loop-i.i) (λ files. get files (word words c.loop-i.i) ≡ Some text)
          (AreWithin words first (c.loop-i.i + 1)) _ _ i.files i.before read.told
          (λ files before here. within_more words first c.loop-i.i text files before here read.within);
      within = subst (λ (ts : List (List ℕ)). All (λ bytes. length bytes ≤ 65536) ts) more (all_more so_far text i.within read.within);
      received = subst (λ (ts : List (List ℕ)).
          CameWithin (65536 * length ts) (g.S.Store.received c.args.store.now) (g.S.Store.received c.read_next.new.store)) more
          (came_more _ _ _ so_far text i.received read.received read.within);
      later = omega (arith, i.later, c.in-Ok.ensures.later);
      write_faults = c.in-Ok.ensures.write_faults ∙ i.write_faults;
      writing = c.in-Ok.ensures.writing ∙ i.writing;
      calm = λ names made room calm named.
          let before = i.calm names made room calm named in
          let now = c.in-Ok.ensures.calm names made room before.1
          (named _ (names_contain words first (length so_far) c.loop-i.i i.place inside)) in
          (now.0 ∙ before.0, now.1);
    }
