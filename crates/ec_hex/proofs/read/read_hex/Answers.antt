use Rattle.std.proofs.Common.{◌≡◌, ◌∙◌, ◌∷◌, ◌==◌, [], ℕ, zero, suc, Bool, true, false, List, length, take, drop, map, Some, Ok, Err, refl}
use Rattle.std.proofs.Common.{sym, ap, arith, inl, inr, subst, length-drop}
use Rattle.std.proofs.lemmas.Bool.{eqb-true}
use Rattle.std.proofs.lemmas.List.{drop-drop, take_all, nil_from_length}
use Rattle.std.specs.Prelude.{Result, slice_get, ◌⊎◌}
use Rattle.ec_space.specs.declared.Core.{Core}
use Rattle.ec_hex.specs.Record.{Reading, reading_of}
use Rattle.ec_hex.specs.Denotes.{HoldsJust, Denotes}
use Rattle.ec_hex.specs.Reading.{HasRead, ReadsLine}
use Rattle.ec_hex.specs.Stops.{readings_of, data_in, IsClear}
use Rattle.ec_hex.specs.declared.read.HexStop.{HexStop}
use Rattle.ec_hex.specs.declared.read.HexStop.TheVariants.{NoEnd}
use Rattle.ec_hex.specs.declared.read.Reader.{Reader}
use Rattle.ec_hex.proofs.Stopping.{denotes_at, no_image, only_stop}
use Rattle.ec_hex.proofs.read.read_hex.Goals as goal
use Rattle.ec_hex.proofs.read.read_hex.Goals.{After-read_line, After-drop-reader-3}

first_of : {X : Type 0} (xs : List X) (n : ℕ) (x : X) (more : List X) → drop n xs ≡ x ∷ more → slice_get xs n ≡ Some x
first_of [] zero x more e = cc
first_of [] (suc n) x more e = cc
first_of (y ∷ xs) zero x more e = cc
first_of (y ∷ xs) (suc n) x more e = first_of xs n x more e

all_of : {X : Type 0} (xs : List X) (n : ℕ) → drop n xs ≡ [] → take n xs ≡ xs
all_of xs n e = take_all n xs (omega (arith, length-drop n xs, ap length e))

-- the lines that are left
left : (c : After-read_line)
    → drop c.lines.line (readings_of c.args.bytes.now.items) ≡ reading_of c.first_line.result.0.now ∷ readings_of c.first_line.result.1.now
left c = c.lines.invariant.left ∙ ap (λ (ls : List (List ℕ)). map reading_of ls) c.first_line.ensures.value

-- what reading the line did
reads : (c : After-read_line) (r : Result Bool HexStop) → c.read_line.result ≡ r
    → ReadsLine c.args.core (readings_of c.args.bytes.now.items) c.lines.line r c.read_line.new.self
reads c r is =
    subst (λ (core : Core). ReadsLine core (readings_of c.args.bytes.now.items) c.lines.line r c.read_line.new.self) c.lines.invariant.core
    (subst (λ (q : Result Bool HexStop).
    ReadsLine c.lines.reader.image.core (readings_of c.args.bytes.now.items) c.lines.line q c.read_line.new.self) is
    (c.read_line.ensures.reads (readings_of c.args.bytes.now.items) c.lines.line refl
    (first_of (readings_of c.args.bytes.now.items) c.lines.line _ _ (left c)) c.lines.invariant.read))

-- the image was read whole
whole : (c : After-read_line) → c.read_line.result ≡ Ok true
    → Denotes c.args.core c.args.bytes.now.items c.read_line.new.self.image.bytes.items c.read_line.new.self.image.written.items
whole c is =
    let read = reads c (Ok true) is in
    denotes_at c.args.core c.args.bytes.now.items c.lines.line c.read_line.new.self.image.bytes.items
    c.read_line.new.self.image.written.items read.0
    c.lines.invariant.read.clear.passed
    (subst (λ (core : Core). HoldsJust core (data_in (take c.lines.line (readings_of c.args.bytes.now.items)))
    c.read_line.new.self.image.bytes.items c.read_line.new.self.image.written.items)
    (c.read_line.ensures.core ∙ c.lines.invariant.core) read.1)

pub returns-in-Ok-true-clause-denoted : goal.returns-in-Ok-true-clause-denoted
returns-in-Ok-true-clause-denoted c =
    whole (goal.at.returns-in-Ok-true-clause-denoted c).After-read_line
    (c.in-Ok-true.is ∙ ap (λ (b : Bool). Ok b) c.in-Ok-true.field-0-test)

pub returns-in-Ok-true-clause-stop : goal.returns-in-Ok-true-clause-stop
returns-in-Ok-true-clause-stop c = λ stop stops some.
    absurd (some (no_image c.args.core c.args.bytes.now.items stop stops _ _
    (whole (goal.at.returns-in-Ok-true-clause-stop c).After-read_line
    (c.in-Ok-true.is ∙ ap (λ (b : Bool). Ok b) c.in-Ok-true.field-0-test))))

pub lines-preserved : goal.lines-preserved
lines-preserved c =
    let s = (goal.at.lines-preserved c).After-read_line in
    record {
      core = c.read_line.ensures.core ∙ c.lines.invariant.core;
      counted = omega (arith, c.first_line.ensures.shorter);
      left = sym (drop-drop 1 c.lines.line (readings_of c.args.bytes.now.items)) ∙ ap (λ (rs : List Reading). drop 1 rs) (left s);
      read = reads s (Ok false) (c.in-Ok-false.is ∙ ap (λ (b : Bool). Ok b) c.in-Ok-false.field-0-test);
    }

pub returns-in-Err-clause-stopped : goal.returns-in-Err-clause-stopped
returns-in-Err-clause-stopped c = reads (goal.at.returns-in-Err-clause-stopped c).After-read_line (Err c.in-Err.stop) c.in-Err.is

pub returns-in-Err-clause-image : goal.returns-in-Err-clause-image
returns-in-Err-clause-image c =
    no_image c.args.core c.args.bytes.now.items c.in-Err.stop
    (reads (goal.at.returns-in-Err-clause-image c).After-read_line (Err c.in-Err.stop) c.in-Err.is)

either_err : {T : Type 0} (e stop want : HexStop) → (e ≡ stop) ⊎ (e ≡ want)
    → (let r : Result T HexStop = Err e in r ≡ Err stop) ⊎ (let r : Result T HexStop = Err e in r ≡ Err want)
either_err e stop want (inl same) = inl (ap (λ (x : HexStop). Err x) same)
either_err e stop want (inr same) = inr (ap (λ (x : HexStop). Err x) same)

pub returns-in-Err-clause-stop : goal.returns-in-Err-clause-stop
returns-in-Err-clause-stop c = λ stop stops some.
    either_err _ _ _ (only_stop c.args.core c.args.bytes.now.items c.in-Err.stop
    (reads (goal.at.returns-in-Err-clause-stop c).After-read_line (Err c.in-Err.stop) c.in-Err.is) stop stops some)

-- the lines are clear up to the text's end
clear : (core : Core) (rest text : List ℕ) (line : ℕ) (reader : Reader) → reader.image.core ≡ core → (length rest == 0) ≡ true
    → drop line (readings_of text) ≡ readings_of rest → HasRead (take line (readings_of text)) reader → IsClear core (readings_of text)
clear core rest text line reader same empty left read =
    let none : rest ≡ [] = nil_from_length rest (eqb-true (length rest) 0 empty) in
    subst (λ (c : Core). IsClear c (readings_of text)) same
    (subst (λ (lines : List Reading). IsClear reader.image.core lines)
    (all_of (readings_of text) line (left ∙ ap readings_of none)) read.clear)

clear_to_end : (c : After-drop-reader-3) → IsClear c.args.core (readings_of c.args.bytes.now.items)
clear_to_end c =
    clear c.args.core c.lines.rest.now c.args.bytes.now.items c.lines.line c.lines.reader c.lines.invariant.core
    (sym c.is_empty.ensures ∙ c.lines-test.false)
    c.lines.invariant.left c.lines.invariant.read

pub returns-clause-stopped : goal.returns-clause-stopped
returns-clause-stopped c = clear_to_end c

pub returns-clause-image : goal.returns-clause-image
returns-clause-image c = no_image c.args.core c.args.bytes.now.items NoEnd (clear_to_end c)

pub returns-clause-stop : goal.returns-clause-stop
returns-clause-stop c = λ stop stops some.
    either_err _ _ _ (only_stop c.args.core c.args.bytes.now.items NoEnd (clear_to_end c) stop stops some)
