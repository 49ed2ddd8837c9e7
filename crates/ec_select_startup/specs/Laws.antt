-- What the code before `main` does.
use Rattle.std.specs.Prelude.{◌≡◌, ◌≢◌, ℕ, zero, suc, ◌+◌, ◌*◌, ◌/◌, ◌%◌, ◌<◌, ◌≤◌, true, List, [], ◌∷◌, ◌++◌, slice_index}
use Rattle.std.specs.Prelude.{Some, Bool, false, nat_le}
use Rattle.std.specs.Prelude.{sum_by, All, length, IsTrue, count_by}
use Rattle.std.specs.List.{AllPairs, list_all}
use Rattle.ec_space.specs.declared.space.Bank.TheVariants.{Flash as FlashBank}
use Rattle.ec_isa.specs.declared.instructions.Instr.TheVariants.{Break}
use Rattle.ec_avr.specs.declared.machine.Access.{Access}
use Rattle.ec_avr.specs.declared.machine.Access.TheVariants.{Read, Write}
use Rattle.ec_asm.specs.declared.items.AsmItem.{AsmItem}
use Rattle.ec_asm.specs.View.{View}
use Rattle.ec_asm.specs.Change.{Env, Own, sp}
use Rattle.ec_asm.specs.Run.{fetch}
use Rattle.ec_asm.specs.Items.{CallsAt, HasAt, code_words}
use Rattle.ec_asm.specs.Pieces.{Outside, is_held}
use Rattle.ec_asm.specs.Shows.{noted_all}
use Rattle.ec_asm.specs.Takes.{Goes}
use Rattle.ec_asm.specs.Valid.{Sizes, is_offset, is_valid_item, used_label, is_label, stands_once, is_placed}
use Rattle.ec_select_startup.specs.declared.spans.Filling.{Filling}
use Rattle.ec_select_startup.specs.declared.spans.Filling.TheVariants.{Copied, Cleared}
use Rattle.ec_select_startup.specs.declared.spans.Span.{Span}
use Rattle.ec_select_startup.specs.Startup.{byte_words, bytes_a_turn, most_stores, is_cleared, startup_code}

-- ---- where spans stand

-- the flash address of the first initial byte, and the data address of the first byte that it is for
abbrev pub source : Env → Span → ℕ
source e s = e.address_of s.from 0

abbrev pub target : Env → Span → ℕ
target e s = e.address_of s.to 0

-- all bytes are code's own or an object's, and those that are set stand above the ports, one behind another
pub record CanBeSet (e : Env) (s : Span) : Type 0 where
  pub source_room : source e s + s.bytes < 65536
  pub target_room : target e s + s.bytes < 65536
  pub above : 256 ≤ target e s
  pub address : (k : ℕ) → k < s.bytes → e.address_of s.to k ≡ target e s + k
  pub table : (k : ℕ) → k < s.bytes → is_held (e.table (source e s + k)) ≡ true
  pub kind : (k : ℕ) → k < s.bytes → is_held (e.kind (target e s + k)) ≡ true

-- no byte of one span is a byte of the other
abbrev pub IsBeside : Env → Span → Span → Type 0
IsBeside e s t = (k : ℕ) → k < s.bytes → Outside (target e t) t.bytes (target e s + k)

-- an address that is none of a span's
abbrev pub IsNoneOf : Env → ℕ → Span → Type 0
IsNoneOf e a s = Outside (target e s) s.bytes a

-- the stack pointer is code's own, and the last byte of the stack has an address
pub record HasStack (e : Env) : Type 0 where
  pub low : e.kind 0x5D ≡ Own
  pub high : e.kind 0x5E ≡ Own
  pub room : e.address_of 1281 0 < 65536

-- ---- what is done

-- the initial value of byte k
abbrev pub byte_of : Env → (from : ℕ) → Filling → (k : ℕ) → ℕ
byte_of e from Copied k = slice_index e.flash (from + k)
byte_of e from Cleared k = 0

abbrev pub initial_byte : Env → Span → ℕ → ℕ
initial_byte e s k = byte_of e (source e s) s.filling k

-- the bytes of a span are its initial bytes
abbrev pub IsSet : Env → View → Span → Type 0
IsSet e v s = (k : ℕ) → k < s.bytes → v.at (target e s + k) ≡ initial_byte e s k

-- the accesses of a byte: a read of the flash, where it is copied, and a write
abbrev pub reads : Env → (from : ℕ) → Filling → (k : ℕ) → List Access
reads e from Copied k = Read FlashBank (from + k) (slice_index e.flash (from + k)) ∷ []
reads e from Cleared k = []

abbrev pub byte_accesses : Env → Filling → (from to k : ℕ) → List Access
byte_accesses e filling from to k = reads e from filling k ++ Write (to + k) (byte_of e from filling k) ∷ []

-- those of all bytes, rising
abbrev pub accesses : Env → Filling → (from to n : ℕ) → List Access
accesses e filling from to zero = []
accesses e filling from to (suc n) = accesses e filling from to n ++ byte_accesses e filling from to n

abbrev pub span_accesses : Env → Span → List Access
span_accesses e s = accesses e s.filling (source e s) (target e s) s.bytes

abbrev pub all_accesses : Env → List Span → List Access
all_accesses e [] = []
all_accesses e (s ∷ ss) = span_accesses e s ++ all_accesses e ss

-- the steps of a loop: one or two to set the count, and those of the bytes and two more in each turn
abbrev pub count_steps : (small : Bool) → ℕ
count_steps true = 1
count_steps false = 2

abbrev pub turns_steps : (width bytes n : ℕ) → ℕ
turns_steps width bytes n = count_steps (nat_le (n / bytes) 255) + (width * bytes + 2) * (n / bytes) + width * (n % bytes)

-- by their addresses one after another, or two for X and those of a loop
abbrev pub bytes_steps : Filling → (few : Bool) → ℕ → ℕ
bytes_steps filling true n = byte_words filling * n
bytes_steps filling false n = 2 + turns_steps (byte_words filling) (bytes_a_turn filling n) n

-- two for Z, or one to clear R0 where it is not yet clear
abbrev pub source_steps : (clear : Bool) → Filling → ℕ
source_steps clear Copied = 2
source_steps true Cleared = 0
source_steps false Cleared = 1

abbrev pub span_steps : (clear : Bool) → Span → ℕ
span_steps clear s = source_steps clear s.filling + bytes_steps s.filling (nat_le s.bytes (most_stores s.filling)) s.bytes

abbrev pub spans_steps : (clear : Bool) → List Span → ℕ
spans_steps clear [] = 0
spans_steps clear (s ∷ ss) = span_steps clear s + spans_steps (is_cleared s.filling) ss

-- the steps before the call of `main`, whatever stands where
abbrev pub startup_steps : List Span → ℕ
startup_steps spans = 4 + spans_steps false spans

-- they are at most so many
abbrev pub most_steps : List Span → ℕ
most_steps spans = 4 + sum_by (λ s. 6 + 4 * s.bytes) spans

-- A run from the first word to the call of `main`. There the bytes of all spans are set, the stack pointer is at the
-- last byte of the stack, and all else is kept but the work registers and the flags. BREAK stands where `main` returns.
-- No byte of the stack is needed, so the run is the same where there is none
pub record Starts (e : Env) (spans : List Span) (main pc : ℕ) (v : View) : Type 0 where
  pub at_most : startup_steps spans ≤ most_steps spans
  pub call : ℕ
  pub last : View
  pub goes : Goes e (startup_steps spans) pc v call last
  pub pointer : sp last ≡ e.address_of 1281 0
  pub are_set : All (IsSet e last) spans
  pub same : (a : ℕ) → a ≢ 0 → Outside 24 4 a → Outside 30 2 a → Outside 0x5D 2 a → All (IsNoneOf e a) spans
      → last.at a ≡ v.at a
  pub inputs : last.inputs ≡ v.inputs
  pub safe : last.safe ≡ v.safe
  pub seen : last.seen ≡ v.seen ++ noted_all e (all_accesses e spans)
  pub back : ℕ
  pub calls : CallsAt e main call back
  pub ends : fetch e back ≡ Some Break

abbrev pub StartupIsRight : Type 0
StartupIsRight =
    (e : Env) (spans : List Span) (main pc end : ℕ) (v : View) → HasStack e → All (CanBeSet e) spans
    → AllPairs (IsBeside e) spans → HasAt e (startup_code spans main) pc end → Starts e spans main pc v

abbrev pub StartupHasWords : Type 0
StartupHasWords =
    (spans : List Span) (main : ℕ) → code_words (startup_code spans main) ≤ 8 + 20 * length spans

-- ---- items

-- both numbers of a span name something, of which it has no more bytes, and these have a number of 16 bits
pub record IsValidSpan (sizes : Sizes) (s : Span) : Type 0 where
  pub from : IsTrue (is_offset sizes s.from 0)
  pub to : (k : ℕ) → k ≤ s.bytes → IsTrue (is_offset sizes s.to k)
  pub bytes : s.bytes < 65536

-- the fields of all items are in range where those of the spans are
abbrev pub StartupIsValid : Type 0
StartupIsValid =
    (sizes : Sizes) (spans : List Span) (main : ℕ) → All (IsValidSpan sizes) spans
    → IsTrue (list_all (is_valid_item sizes) (startup_code spans main))

-- items refer to the label of `main` alone, and are the place of none
abbrev pub StartupUsesMain : Type 0
StartupUsesMain =
    (items : List AsmItem) (spans : List Span) (main : ℕ) → IsTrue (stands_once items main)
    → IsTrue (list_all (λ item. is_placed items (used_label item)) (startup_code spans main))

abbrev pub StartupPlacesNoLabel : Type 0
StartupPlacesNoLabel =
    (spans : List Span) (main l : ℕ) → count_by (is_label l) (startup_code spans main) ≡ 0
