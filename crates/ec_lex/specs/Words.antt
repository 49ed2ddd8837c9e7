-- Identifiers and words (ISO/IEC 9899:1999, 6.4.1 and 6.4.2), and what a text has made known up to a place.
use Rattle.std.specs.Prelude.{ℕ, List, [], ◌∷◌, Bool, true, false, Option, Some, None, option_map, unwrap_or}
use Rattle.std.specs.Prelude.{if◌then◌else◌, nat_eq, codes}
use Rattle.std.specs.List.{list_any}
use Rattle.std.specs.Cmp.Lexicographic.{pointwise}
use Rattle.ec_grammar.specs.declared.token.WordKind.{WordKind}
use Rattle.ec_grammar.specs.declared.token.WordKind.TheVariants.{Break, Char, Const, Continue, Do, Else, Extern, For}
use Rattle.ec_grammar.specs.declared.token.WordKind.TheVariants.{If, Int, Long, Register, Return, Short, Signed, Sizeof}
use Rattle.ec_grammar.specs.declared.token.WordKind.TheVariants.{Static, Struct, Unsigned, Void, While, Fract, Accum}
use Rattle.ec_grammar.specs.declared.token.WordKind.TheVariants.{Sat, Flash, FarFlash, Data, Int8, Uint8, Int16, Uint16}
use Rattle.ec_grammar.specs.declared.token.WordKind.TheVariants.{Int32, Uint32}
use Rattle.ec_iohw.specs.declared.operations.IoOp.{IoOp}
use Rattle.ec_iohw.specs.declared.operations.IoOp.TheVariants as ops
use Rattle.ec_grammar.specs.declared.token.GroupOp.{GroupOp}
use Rattle.ec_grammar.specs.declared.token.GroupOp.TheVariants as groups
use Rattle.ec_grammar.specs.Tokens.{Lexeme, word, name, io_name, group_name, reserved}

abbrev pub same : List ℕ → List ℕ → Bool
same a b = pointwise nat_eq a b

-- what the first entry with these bytes has
abbrev pub look_up : {K : Type 0} → List ℕ → List (List ℕ × K) → Option K
look_up w [] = None
look_up w (entry ∷ entries) = if same w entry.0 then Some entry.1 else look_up w entries

abbrev pub words : List (List ℕ × WordKind)
words =
    (codes "break", Break) ∷ (codes "char", Char) ∷ (codes "const", Const) ∷ (codes "continue", Continue)
    ∷ (codes "do", Do) ∷ (codes "else", Else) ∷ (codes "extern", Extern) ∷ (codes "for", For)
    ∷ (codes "if", If) ∷ (codes "int", Int) ∷ (codes "long", Long) ∷ (codes "register", Register)
    ∷ (codes "return", Return) ∷ (codes "short", Short) ∷ (codes "signed", Signed) ∷ (codes "sizeof", Sizeof)
    ∷ (codes "static", Static) ∷ (codes "struct", Struct) ∷ (codes "unsigned", Unsigned) ∷ (codes "void", Void)
    ∷ (codes "while", While)
    ∷ (codes "_Fract", Fract) ∷ (codes "_Accum", Accum) ∷ (codes "_Sat", Sat)
    ∷ (codes "__flash", Flash) ∷ (codes "__farflash", FarFlash) ∷ (codes "__data", Data) ∷ []

-- after `<stdint.h>` (7.18.1.1)
abbrev pub stdint_words : List (List ℕ × WordKind)
stdint_words =
    (codes "int8_t", Int8) ∷ (codes "uint8_t", Uint8) ∷ (codes "int16_t", Int16) ∷ (codes "uint16_t", Uint16)
    ∷ (codes "int32_t", Int32) ∷ (codes "uint32_t", Uint32) ∷ []

-- after `<stdfix.h>` (ISO/IEC TR 18037:2008, 7.18a.1)
abbrev pub stdfix_words : List (List ℕ × WordKind)
stdfix_words = (codes "fract", Fract) ∷ (codes "accum", Accum) ∷ (codes "sat", Sat) ∷ []

-- after `<iohw.h>` (ISO/IEC TR 18037:2008, 6)
abbrev pub io_names : List (List ℕ × IoOp)
io_names =
    (codes "iord", ops.Read) ∷ (codes "iordl", ops.ReadLong)
    ∷ (codes "iordbuf", ops.ReadBuffer) ∷ (codes "iordbufl", ops.ReadBufferLong)
    ∷ (codes "iowr", ops.Write) ∷ (codes "iowrl", ops.WriteLong)
    ∷ (codes "iowrbuf", ops.WriteBuffer) ∷ (codes "iowrbufl", ops.WriteBufferLong)
    ∷ (codes "ioor", ops.Or) ∷ (codes "ioorl", ops.OrLong)
    ∷ (codes "ioorbuf", ops.OrBuffer) ∷ (codes "ioorbufl", ops.OrBufferLong)
    ∷ (codes "ioand", ops.And) ∷ (codes "ioandl", ops.AndLong)
    ∷ (codes "ioandbuf", ops.AndBuffer) ∷ (codes "ioandbufl", ops.AndBufferLong)
    ∷ (codes "ioxor", ops.Xor) ∷ (codes "ioxorl", ops.XorLong)
    ∷ (codes "ioxorbuf", ops.XorBuffer) ∷ (codes "ioxorbufl", ops.XorBufferLong) ∷ []

abbrev pub group_names : List (List ℕ × GroupOp)
group_names =
    (codes "iogroup_acquire", groups.Acquire) ∷ (codes "iogroup_release", groups.Release)
    ∷ (codes "iogroup_map", groups.Map) ∷ []

-- words of C and of TR 18037 without a place in the grammar
abbrev pub reserved_words : List (List ℕ)
reserved_words =
    codes "auto" ∷ codes "case" ∷ codes "default" ∷ codes "double" ∷ codes "enum" ∷ codes "float" ∷ codes "goto"
    ∷ codes "inline" ∷ codes "restrict" ∷ codes "switch" ∷ codes "typedef" ∷ codes "union" ∷ codes "volatile"
    ∷ codes "_Bool" ∷ codes "_Complex" ∷ codes "_Imaginary" ∷ []

-- What a text has made known up to a place: whether only white space stands before it on its line, the headers that
-- were included, and the names that were defined as a constant.
pub record Known : Type 0 where
  pub line_start : Bool
  pub stdint : Bool
  pub stdfix : Bool
  pub iohw : Bool
  pub defines : List (List ℕ × Lexeme)

abbrev pub or_else : {A : Type 0} → Option A → Option A → Option A
or_else None other = other
or_else (Some x) other = Some x

abbrev pub only_if : {A : Type 0} → Bool → Option A → Option A
only_if true found = found
only_if false found = None

unfoldable pub io_word : List ℕ → Option Lexeme
io_word w = or_else (option_map io_name (look_up w io_names)) (option_map group_name (look_up w group_names))

unfoldable pub plain_word : List ℕ → Option Lexeme
plain_word w = option_map word (look_up w words)

unfoldable pub stdint_word : List ℕ → Option Lexeme
stdint_word w = option_map word (look_up w stdint_words)

unfoldable pub stdfix_word : List ℕ → Option Lexeme
stdfix_word w = option_map word (look_up w stdfix_words)

-- the word that the bytes are; those of a header only after its include
abbrev pub known_word : Known → List ℕ → Option Lexeme
known_word s w =
    or_else (plain_word w)
    (or_else (only_if s.stdint (stdint_word w))
    (or_else (only_if s.stdfix (stdfix_word w))
    (only_if s.iohw (io_word w))))

unfoldable pub is_reserved : List ℕ → Bool
is_reserved w = list_any (λ other. same w other) reserved_words

-- The token of an identifier. A defined name is replaced by its constant, even where a later include makes it a word.
abbrev pub meaning : Known → List ℕ → Lexeme
meaning s w =
    unwrap_or (or_else (look_up w s.defines) (or_else (known_word s w) (if is_reserved w then Some reserved else None)))
    (name w)
