-- The place of a source that a line of the tool, without its LF, names, and what is wrong there.
use Rattle.std.specs.Prelude.{ℕ, ◌≡◌, ◌≢◌, ◌≤◌, ◌<◌, List, [], ◌∷◌, ◌++◌, length, slice_index, codes}
use Rattle.std.specs.Prelude.{Option, Some, None, option_map, bytes_eq, if◌then◌else◌}
use Rattle.std.specs.Option.{option_and_then}
use Rattle.ec_where_lines.specs.declared.fault.ByteFault.{ByteFault}
use Rattle.ec_where_lines.specs.declared.fault.ByteFault.TheVariants.{BadByte, BadNumber, Unclosed, BadDirective}
use Rattle.ec_where_lines.specs.declared.fault.TokenFault.{TokenFault}
use Rattle.ec_where_lines.specs.declared.fault.TokenFault.TheVariants.{Syntax, Constraint, Uncounted, Undefined}
use Rattle.ec_where_lines.specs.declared.fault.Fault.{Fault}
use Rattle.ec_where_lines.specs.declared.fault.Fault.TheVariants.{Byte, Token}
use Rattle.ec_where_lines.specs.Parts.{around_last, behind, number_of}

-- the byte is none of these
abbrev pub IsNowhere : ℕ → List ℕ → Type 0
IsNowhere b bytes = (k : ℕ) → k < length bytes → slice_index bytes k ≢ b

-- the line is a name, a space, a mark, a space, a number, `: `, and a fault, which has no colon
pub record Marks (mark line name : List ℕ) (n : ℕ) (fault : List ℕ) : Type 0 where
  pub digits : List ℕ
  pub number : number_of digits ≡ Some n
  pub last : IsNowhere 58 fault
  pub parts : line ≡ name ++ (32 ∷ (mark ++ (32 ∷ (digits ++ (58 ∷ (32 ∷ fault))))))

-- the same as the line is taken apart from its end
abbrev pub marked_by : List ℕ → List ℕ → List ℕ → List ℕ → List ℕ → Option (List ℕ × ℕ × List ℕ)
marked_by mark word name digits fault =
    if bytes_eq word mark then option_map (λ n. (name, n, fault)) (number_of digits) else None

abbrev pub marked_of : List ℕ → List ℕ → Option (List ℕ × ℕ × List ℕ)
marked_of mark line =
    option_and_then (λ x. option_and_then (λ fault. option_and_then (λ y. option_and_then (λ z.
    marked_by mark z.1 z.0 y.1 fault)
    (around_last 32 y.0)) (around_last 32 x.0)) (behind (32 ∷ []) x.1)) (around_last 58 line)

-- the words of a fault at a byte
abbrev pub byte_words : ByteFault → List ℕ
byte_words BadByte = codes "bad byte"
byte_words BadNumber = codes "bad number"
byte_words Unclosed = codes "unclosed"
byte_words BadDirective = codes "bad directive"

-- the words are those of a fault at a token
abbrev pub AreTokenWords : List ℕ → TokenFault → Type 0
AreTokenWords words Syntax = words ≡ codes "syntax"
AreTokenWords words (Constraint rule) =
    (digits : List ℕ) × (number_of digits ≡ Some rule) × (1 ≤ rule) × (rule ≤ 40) × (words ≡ codes "constraint " ++ digits)
AreTokenWords words Uncounted = words ≡ codes "loop not counted"
AreTokenWords words (Undefined point) =
    (digits : List ℕ) × (number_of digits ≡ Some point) × (1 ≤ point) × (point ≤ 15) × (words ≡ codes "undefined " ++ digits)

-- the line names this source, and tells this fault in it: `NAME byte N: FAULT` or `NAME token K: FAULT`
abbrev pub Names : List ℕ → List ℕ → Fault → Type 0
Names line name (Byte offset fault) = Marks (codes "byte") line name offset (byte_words fault)
Names line name (Token index fault) =
    (words : List ℕ) × AreTokenWords words fault × Marks (codes "token") line name index words
