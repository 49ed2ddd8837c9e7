-- A text is read as an instruction exactly where it is its text.
use Rattle.std.proofs.Common.{◌≡◌, ◌↔◌, ◌%◌, ℕ, Bool, true, false, List, [], ◌∷◌, Option, Some, None, refl, sym, ap, ◌∙◌, subst}
use Rattle.std.specs.Prelude.{IsTrue, bytes_eq, option_and_then, if◌then◌else◌, IfOk, Result, Ok, Err}
use Rattle.ec_space.specs.declared.seq.NoMemory.{NoMemory}
use Rattle.std.specs.Cmp.Lexicographic.{same_text}
use Rattle.std.proofs.lemmas.Bool.{eq-eqb}
use Rattle.ec_isa.specs.declared.instructions.Instr.{Instr}
use Rattle.ec_isa.specs.Table.{in_table}
use Rattle.ec_isa.proofs.InstructionAt.{instruction_is}
use Rattle.ec_list.specs.declared.reading.Form.{Form}
use Rattle.ec_list.specs.Texts.{text, instruction_text}
use Rattle.ec_list.specs.Scanning.{Scan, scanned}
use Rattle.ec_list.specs.Reading.{guess, guess_by, form_in, form_words, first_by, second_by, instruction_by, confirmed, instruction_of}
use Rattle.ec_list.proofs.Patterns.{scanned_is}
use Rattle.ec_list.proofs.Rows.{reads, sound}

some_then : (o : Option Form) (f : Form → Option Instr) (i : Instr) → option_and_then f o ≡ Some i → (e : Form) × (f e ≡ Some i)
some_then None f i h = cc
some_then (Some e) f i h = (e, h)

in_table_of : (s : Scan) (i : Instr) → guess_by s ≡ Some i → IsTrue (in_table i)
in_table_of s i h =
    let e = some_then (form_in s.pattern form_words) (instruction_by s.first s.second) i h in
    ((instruction_is i (first_by e.0.format e.0.word s.first s.second % 65536) (second_by e.0.format s.first s.second)).0 e.1).in_range

pub chosen : {X : Type 0} (b : Bool) (i j : X) → (if b then Some j else None) ≡ Some i → (b ≡ true) × (j ≡ i)
chosen true i j h = let same : j ≡ i = cc in (refl, same)
chosen false i j h = cc

confirmed_is : (o : Option Instr) (line : List ℕ) (i : Instr) → confirmed o line ≡ Some i → (o ≡ Some i) × (line ≡ instruction_text i)
confirmed_is None line i h = cc
confirmed_is (Some j) line i h =
    let c = chosen (bytes_eq (instruction_text j) line) i j h in
    (ap Some c.1, sym (same_text (instruction_text j) line (sym c.0)) ∙ ap instruction_text c.1)

pub itself : (text : List ℕ) → bytes_eq text text ≡ true
itself [] = refl
itself (c ∷ text) = rw (eq-eqb c c refl) (itself text)

is_confirmed : (i : Instr) (line : List ℕ) → line ≡ instruction_text i → confirmed (Some i) line ≡ Some i
is_confirmed i line e = subst (λ t. confirmed (Some i) t ≡ Some i) (sym e) (rw (itself (instruction_text i)) refl)

guessed : (i : Instr) → IsTrue (in_table i) → guess (instruction_text i) ≡ Some i
guessed i h =
    let r = reads i h in
    ap guess_by (scanned_is (text i).pattern (text i).first (text i).second r.first r.second (sound i)) ∙ r.guess

pub instruction_of_is : (line : List ℕ) (i : Instr) → (instruction_of line ≡ Some i) ↔ (IsTrue (in_table i) × (line ≡ instruction_text i))
unfolding instruction_of
instruction_of_is line i = (
  λ h. let c = confirmed_is (guess line) line i h in (in_table_of (scanned line) i c.0, c.1),
  λ h. let g : guess line ≡ Some i = ap guess h.1 ∙ guessed i h.0 in ap (λ o. confirmed o line) g ∙ is_confirmed i line h.1,
)

pub exact_of : (r : Result (Option Instr) NoMemory) (line : List ℕ) → IfOk r (λ o. o ≡ instruction_of line)
    → IfOk r (λ o. (i : Instr) → (o ≡ Some i) ↔ (IsTrue (in_table i) × (line ≡ instruction_text i)))
exact_of (Ok o) line h = λ i. rw h (instruction_of_is line i)
exact_of (Err x) line h = h
