-- The walk of a listing: its lines are in order, each is right, and at each address they have what is written there.
use Rattle.std.proofs.Common.{◌≡◌, ◌≤◌, ◌<◌, ℕ, zero, suc, ◌+◌, ◌-◌, ◌*◌, ◌/◌, ◌%◌, Bool, true, false, List, [], ◌∷◌, ◌++◌, length}
use Rattle.std.proofs.Common.{map, drop, get_or, Option, Some, None, refl, sym, subst, ap, ◌∙◌, arith, inl, inr, ◌⊎◌, append_assoc}
use Rattle.std.proofs.Common.{append-nil, length-drop}
use Rattle.std.specs.Prelude.{⊤, IsTrue, ◌==◌, ◌||◌, nat_le, nat_lt, slice_get, is_some, is_none, unwrap_or, option_and_then}
use Rattle.std.specs.Prelude.{if◌then◌else◌, IfOk, Result, Ok, Err}
use Rattle.std.specs.List.{AllByRecursion}
use Rattle.std.proofs.lemmas.List.{drop-drop, drop_all}
use Rattle.std.proofs.lemmas.Bool.{cases_lt, lt-ltb, le-ltb, le-leb, eqb-true}
use Rattle.ec_space.specs.declared.Core.{Core}
use Rattle.ec_avr.specs.Flash.{flash_size, IsBlankElsewhere}
use Rattle.ec_hex.specs.Text.{contents}
use Rattle.ec_isa.specs.declared.instructions.Instr.{Instr}
use Rattle.ec_isa.specs.Table.{in_table, first_word, second_word, SecondIs}
use Rattle.ec_isa.specs.Reading.{instruction_at}
use Rattle.ec_isa.proofs.InstructionAt.{instruction_is}
use Rattle.ec_list.specs.Lines.{line_text, text_of, word_bytes, second_bytes, item_bytes, end_of, IsInRange, IsAligned, IsLine}
use Rattle.ec_list.specs.Lines.{AreInOrder, byte_by}
use Rattle.ec_list.specs.Walking.{byte_in, word_in, whole, instruction_of_word, instruction_in, item_of, item_in, lines_from}
use Rattle.ec_list.specs.Lists.{Lists, listing}
use Rattle.ec_list.specs.declared.line.Item.{Item}
use Rattle.ec_list.specs.declared.line.Line.{Line}
use Rattle.ec_list.proofs.OneReading.{item_some, lists_shortly}
use Rattle.ec_space.specs.Listed.{Listed}
use Rattle.ec_space.specs.declared.seq.NoMemory.{NoMemory}
use Rattle.ec_avr.specs.declared.image.Image.{Image}

abbrev line : ℕ → Item → Line
line at item = record { at = at; item = item }

abbrev IsByteCell : Option ℕ → Type 0
IsByteCell None = ⊤
IsByteCell (Some b) = b < 256

abbrev AreBytes : List (Option ℕ) → Type 0
AreBytes cells = AllByRecursion IsByteCell cells

-- what a place of the cells has, and nothing past their end
abbrev join : Option (Option ℕ) → Option ℕ
join None = None
join (Some c) = c

-- ---- the instruction at an address

abbrev code_bytes : Instr → List ℕ
code_bytes i = word_bytes (first_word i) ++ second_bytes (second_word i)

-- its bytes are written there
record IsHere (at : ℕ) (cells : List (Option ℕ)) (i : Instr) : Type 0 where
  range : IsTrue (in_table i)
  aligned : at % 2 ≡ 0
  rest : List (Option ℕ)
  front : cells ≡ map Some (code_bytes i) ++ rest

chosen : (b : Bool) (i j : Instr) → (if b then Some j else None) ≡ Some i → IsTrue b × (j ≡ i)
chosen true i j h = let same : j ≡ i = cc in (refl, same)
chosen false i j h = cc

some_then : (o : Option Instr) (next : Option ℕ) (i : Instr) → option_and_then (λ j. whole j next) o ≡ Some i
    → (o ≡ Some i) × IsTrue (is_none (second_word i) || is_some next)
some_then None next i h = cc
some_then (Some j) next i h =
    let c = chosen (is_none (second_word j) || is_some next) i j h in
    (ap Some c.1, subst (λ x. IsTrue (is_none (second_word x) || is_some next)) c.1 c.0)

word_is : (w lo hi : ℕ) → lo + 256 * hi ≡ w → lo < 256 → word_bytes w ≡ lo ∷ hi ∷ []
word_is w lo hi e b =
    let low : w % 256 ≡ lo = omega (arith, e, b) in
    let high : w / 256 ≡ hi = omega (arith, e, b) in rw (low, high) refl

second_front : (o : Option ℕ) (more : List (Option ℕ)) → IsTrue (is_none o || is_some (word_in more)) →
    SecondIs o (unwrap_or (word_in more) 0)
    → AreBytes more → (rest : List (Option ℕ)) × (more ≡ map Some (second_bytes o) ++ rest)
second_front None more t s b = (more, refl)
second_front (Some w) [] t s b = cc
second_front (Some w) (None ∷ more) t s b = cc
second_front (Some w) (Some lo ∷ []) t s b = cc
second_front (Some w) (Some lo ∷ None ∷ more) t s b = cc
second_front (Some w) (Some lo ∷ Some hi ∷ more) t s b = (more, ap (λ bs. map Some bs ++ more) (sym (word_is w lo hi s b.0)))

here_front : (at : ℕ) (cells : List (Option ℕ)) (i : Instr) → AreBytes cells → instruction_in at cells ≡ Some i → IsHere at cells i
here_front at cells i b e = by_test (at % 2 == 0) refl e
  where
    by_cells : (cells : List (Option ℕ)) → AreBytes cells → at % 2 ≡ 0
        → option_and_then (λ word. instruction_of_word word (word_in (drop 2 cells))) (word_in cells) ≡ Some i → IsHere at cells i
    by_cells [] b t h = cc
    by_cells (None ∷ more) b t h = cc
    by_cells (Some lo ∷ []) b t h = cc
    by_cells (Some lo ∷ None ∷ more) b t h = cc
    by_cells (Some lo ∷ Some hi ∷ more) b t h =
        let w = some_then (instruction_at (lo + 256 * hi) (unwrap_or (word_in more) 0)) (word_in more) i h in
        let d = (instruction_is i (lo + 256 * hi) (unwrap_or (word_in more) 0)).0 w.0 in
        let first : word_bytes (first_word i) ≡ lo ∷ hi ∷ [] = word_is (first_word i) lo hi d.first b.0 in
        let s = second_front (second_word i) more w.1 d.second b.1.1 in
        record {
          range = d.in_range;
          aligned = t;
          rest = s.0;
          front = ap (λ x. Some lo ∷ Some hi ∷ x) s.1 ∙ ap (λ bs. map Some (bs ++ second_bytes (second_word i)) ++ s.0) (sym first);
        }

    by_test : (c : Bool) → (at % 2 == 0) ≡ c
        → (if c then option_and_then (λ word. instruction_of_word word (word_in (drop 2 cells))) (word_in cells) else None) ≡ Some i
        → IsHere at cells i
    by_test true t h = by_cells cells b (eqb-true (at % 2) 0 t) h
    by_test false t h = cc

front_get : (bs : List ℕ) (rest : List (Option ℕ)) (k : ℕ) → k < length bs → join (slice_get (map Some bs ++ rest) k) ≡ slice_get bs k
front_get [] rest k h = absurd (omega (arith, h))
front_get (b ∷ bs) rest zero h = refl
front_get (b ∷ bs) rest (suc k) h = front_get bs rest k (omega (arith, h))

front_length : (bs : List ℕ) (rest : List (Option ℕ)) → length bs ≤ length (map Some bs ++ rest)
front_length [] rest = omega arith
front_length (b ∷ bs) rest = let h = front_length bs rest in omega (arith, h)

-- ---- the item at a written byte

record IsItem (at : ℕ) (cells : List (Option ℕ)) (item : Item) : Type 0 where
  range : IsInRange item
  aligned : IsAligned at item
  within : length (item_bytes item) ≤ length cells
  bytes : (k : ℕ) → k < length (item_bytes item) → slice_get (item_bytes item) k ≡ join (slice_get cells k)

item_is : (at b : ℕ) (cells : List (Option ℕ)) → AreBytes (Some b ∷ cells) →
    IsItem at (Some b ∷ cells) (item_of b (instruction_in at (Some b ∷ cells)))
item_is at b cells all = by_item (instruction_in at (Some b ∷ cells)) refl
  where
    first_alone : (k : ℕ) → k < 1 → slice_get (b ∷ []) k ≡ join (slice_get (Some b ∷ cells) k)
    first_alone zero h = refl
    first_alone (suc k) h = absurd (omega (arith, h))

    by_item : (o : Option Instr) → instruction_in at (Some b ∷ cells) ≡ o → IsItem at (Some b ∷ cells) (item_of b o)
    by_item None e = record { range = all.0; aligned = tt; within = omega arith; bytes = first_alone }
    by_item (Some i) e =
        let h = here_front at (Some b ∷ cells) i all e in
        record {
          range = h.range;
          aligned = h.aligned;
          within = subst (λ x. length (code_bytes i) ≤ length x) (sym h.front) (front_length (code_bytes i) h.rest);
          bytes = λ k less. sym (ap (λ x. join (slice_get x k)) h.front ∙ front_get (code_bytes i) h.rest k less);
        }

-- ---- the lines

order_from : (at skip : ℕ) (cells : List (Option ℕ)) → AreInOrder (at + skip) (lines_from at skip cells)
order_from at skip [] = tt
order_from at (suc skip) (c ∷ cells) =
    let same : at + 1 + skip ≡ at + suc skip = omega arith in
    subst (λ x. AreInOrder x (lines_from (at + 1) skip cells)) same (order_from (at + 1) skip cells)
order_from at zero (None ∷ cells) = later at 1 (lines_from (at + 1) 0 cells)
    (subst (λ x. AreInOrder x (lines_from (at + 1) 0 cells)) (omega arith) (order_from (at + 1) 0 cells))
  where
    later : (from more : ℕ) (ls : List Line) → AreInOrder (from + more) ls → AreInOrder (from + 0) ls
    later from more [] h = tt
    later from more (l ∷ ls) h = (let g = h.0 in omega (arith, g), h.1)
order_from at zero (Some b ∷ cells) =
    let item = item_of b (instruction_in at (Some b ∷ cells)) in
    let some = item_some item in
    let same : at + 1 + (length (item_bytes item) - 1) ≡ at + length (item_bytes item) = omega (arith, some) in (
      omega arith,
      subst (λ x. AreInOrder x (lines_from (at + 1) (length (item_bytes item) - 1) cells)) same
          (order_from (at + 1) (length (item_bytes item) - 1) cells),
    )

each_from : (core : Core) (at skip : ℕ) (cells : List (Option ℕ)) → AreBytes cells → at + length cells ≤ flash_size core →
    AllByRecursion (IsLine core) (lines_from at skip cells)
each_from core at skip [] b le = tt
each_from core at (suc skip) (c ∷ cells) b le = each_from core (at + 1) skip cells b.1 (omega (arith, le))
each_from core at zero (None ∷ cells) b le = each_from core (at + 1) 0 cells b.1 (omega (arith, le))
each_from core at zero (Some x ∷ cells) b le =
    let i = item_is at x cells b in (
      record { range = i.range; suits = record { in_flash = let w = i.within in omega (arith, w, le); aligned = i.aligned } },
      each_from core (at + 1) (length (item_bytes (item_of x (instruction_in at (Some x ∷ cells)))) - 1) cells b.1 (omega (arith, le)),
    )

-- below its first address a list of lines has nothing
none_below : (from k : ℕ) (ls : List Line) → AreInOrder from ls → k < from → byte_by ls k ≡ None
none_below from k [] o h = refl
none_below from k (l ∷ ls) o h =
    let first = o.0 in
    let not : nat_le l.at k ≡ false = above l.at k (omega (arith, first, h)) in
    rw not (none_below (end_of l) k ls o.1 (omega (arith, first, h)))
  where
    above : (a k : ℕ) → k < a → nat_le a k ≡ false
    above a k h = grind (arith, h)

has_there : (l : Line) (ls : List Line) (k : ℕ) → k < length (item_bytes l.item) →
    byte_by (l ∷ ls) (l.at + k) ≡ slice_get (item_bytes l.item) k
has_there l ls k h =
    let low : nat_le l.at (l.at + k) ≡ true = le-leb l.at (l.at + k) (omega arith) in
    let high : nat_lt (l.at + k) (end_of l) ≡ true = lt-ltb (l.at + k) (end_of l) (omega (arith, h)) in
    let same : l.at + k - l.at ≡ k = omega arith in rw (low, high, same) refl

has_behind : (l : Line) (ls : List Line) (k : ℕ) → length (item_bytes l.item) ≤ k → byte_by (l ∷ ls) (l.at + k) ≡ byte_by ls (l.at + k)
has_behind l ls k h =
    let low : nat_le l.at (l.at + k) ≡ true = le-leb l.at (l.at + k) (omega arith) in
    let high : nat_lt (l.at + k) (end_of l) ≡ false = le-ltb (l.at + k) (end_of l) (omega (arith, h)) in rw (low, high) refl

bytes_from : (at skip k : ℕ) (cells : List (Option ℕ)) → AreBytes cells → skip ≤ k →
    byte_by (lines_from at skip cells) (at + k) ≡ join (slice_get cells k)
bytes_from at skip k [] b le = refl
bytes_from at (suc skip) zero (c ∷ cells) b le = absurd (omega (arith, le))
bytes_from at (suc skip) (suc k) (c ∷ cells) b le =
    let same : at + 1 + k ≡ at + suc k = omega arith in
    ap (λ x. byte_by (lines_from (at + 1) skip cells) x) (sym same) ∙ bytes_from (at + 1) skip k cells b.1 (omega (arith, le))
bytes_from at zero zero (None ∷ cells) b le = none_below (at + 1 + 0) (at + 0) (lines_from (at + 1) 0 cells)
    (order_from (at + 1) 0 cells) (omega arith)
bytes_from at zero (suc k) (None ∷ cells) b le =
    let same : at + 1 + k ≡ at + suc k = omega arith in
    ap (λ x. byte_by (lines_from (at + 1) 0 cells) x) (sym same) ∙ bytes_from (at + 1) 0 k cells b.1 (omega arith)
bytes_from at zero zero (Some x ∷ cells) b le =
    let i = item_is at x cells b in
    let item = item_of x (instruction_in at (Some x ∷ cells)) in
    let some = item_some item in
    has_there (line at item) (lines_from (at + 1) (length (item_bytes item) - 1) cells) 0 (omega (arith, some))
    ∙ i.bytes 0 (omega (arith, some))
bytes_from at zero (suc k) (Some x ∷ cells) b le =
    by_place (bytes_from (at + 1) (length (item_bytes (item_of x (instruction_in at (Some x ∷ cells)))) - 1) k cells b.1)
    (cases_lt (suc k) (length (item_bytes (item_of x (instruction_in at (Some x ∷ cells))))))
  where
    item : Item
    item = item_of x (instruction_in at (Some x ∷ cells))

    rest : List Line
    rest = lines_from (at + 1) (length (item_bytes item) - 1) cells

    by_place : (length (item_bytes item) - 1 ≤ k → byte_by rest (at + 1 + k) ≡ join (slice_get cells k)) →
        ((suc k < length (item_bytes item)) ⊎ (length (item_bytes item) ≤ suc k)) →
        byte_by (line at item ∷ rest) (at + suc k) ≡ join (slice_get (Some x ∷ cells) (suc k))
    by_place ih (inl h) =
        let i = item_is at x cells b in
        has_there (line at item) rest (suc k) h ∙ i.bytes (suc k) h
    by_place ih (inr h) =
        let same : at + suc k ≡ at + 1 + k = omega arith in
        has_behind (line at item) rest (suc k) h ∙ ap (λ y. byte_by rest y) same ∙ ih (omega (arith, h))

-- ---- the walk

-- what is listed already is passed over
skipped : (at skip : ℕ) (cells : List (Option ℕ)) → lines_from at skip cells ≡ lines_from (at + skip) 0 (drop skip cells)
skipped at zero [] = refl
skipped at (suc skip) [] = refl
skipped at zero (c ∷ cells) = let same : at ≡ at + 0 = omega arith in ap (λ a. lines_from a 0 (c ∷ cells)) same
skipped at (suc skip) (c ∷ cells) =
    let same : at + 1 + skip ≡ at + suc skip = omega arith in
    skipped (at + 1) skip cells ∙ ap (λ a. lines_from a 0 (drop skip cells)) same

-- the lines behind an item, and the item's own
abbrev pub lines_by : ℕ → List (Option ℕ) → Option Item → List Line
lines_by at cells None = lines_from (at + 1) 0 (drop 1 cells)
lines_by at cells (Some item) = line at item ∷ lines_from (at + length (item_bytes item)) 0 (drop (length (item_bytes item)) cells)

less_one : (n : ℕ) (at : ℕ) (b : Option ℕ) (cells : List (Option ℕ)) → 1 ≤ n
    → lines_from (at + 1 + (n - 1)) 0 (drop (n - 1) cells) ≡ lines_from (at + n) 0 (drop n (b ∷ cells))
less_one zero at b cells h = absurd (omega (arith, h))
less_one (suc n) at b cells h =
    let one : suc n - 1 ≡ n = omega arith in
    let same : at + 1 + n ≡ at + suc n = omega arith in
    ap (λ m. lines_from (at + 1 + m) 0 (drop m cells)) one ∙ ap (λ a. lines_from a 0 (drop n cells)) same

pub step : (at : ℕ) (cells : List (Option ℕ)) → 0 < length cells → lines_from at 0 cells ≡ lines_by at cells (item_in at cells)
step at [] h = absurd (omega (arith, h))
step at (None ∷ cells) h = refl
step at (Some b ∷ cells) h =
    let item = item_of b (instruction_in at (Some b ∷ cells)) in
    ap (λ ls. line at item ∷ ls)
    (skipped (at + 1) (length (item_bytes item) - 1) cells ∙ less_one (length (item_bytes item)) at (Some b) cells (item_some item))

-- an item is no longer than what stands there
pub item_within : (at : ℕ) (cells : List (Option ℕ)) (item : Item) → AreBytes cells → item_in at cells ≡ Some item
    → IsInRange item × (length (item_bytes item) ≤ length cells)
item_within at [] item b e = cc
item_within at (None ∷ cells) item b e = cc
item_within at (Some x ∷ cells) item b e =
    let same : item_of x (instruction_in at (Some x ∷ cells)) ≡ item = cc in
    let i = item_is at x cells b in
    subst (λ y. IsInRange y × (length (item_bytes y) ≤ length (Some x ∷ cells))) same (i.range, i.within)

-- ---- images

contents_get : (bytes : List ℕ) (written : List Bool) (k b : ℕ) (f : Bool) → slice_get bytes k ≡ Some b → slice_get written k ≡ Some f →
    slice_get (contents bytes written) k ≡ Some (if f then Some b else None)
contents_get [] written k b f e g = cc
contents_get (x ∷ bytes) [] k b f e g = cc
contents_get (x ∷ bytes) (y ∷ written) zero b f e g = let s : x ≡ b = cc in let t : y ≡ f = cc in rw (s, t) refl
contents_get (x ∷ bytes) (y ∷ written) (suc k) b f e g = contents_get bytes written k b f e g

pub contents_length : (bytes : List ℕ) (written : List Bool) → length written ≡ length bytes →
    length (contents bytes written) ≡ length bytes
contents_length [] written e = refl
contents_length (x ∷ bytes) [] e = cc
contents_length (x ∷ bytes) (y ∷ written) e = ap suc (contents_length bytes written (omega (arith, e)))

pub contents_bytes : (bytes : List ℕ) (written : List Bool) → AllByRecursion (λ b. b < 256) bytes → AreBytes (contents bytes written)
contents_bytes [] written h = tt
contents_bytes (x ∷ bytes) [] h = tt
contents_bytes (x ∷ bytes) (y ∷ written) h = (cell y, contents_bytes bytes written h.1)
  where
    cell : (f : Bool) → IsByteCell (if f then Some x else None)
    cell true = h.0
    cell false = tt

there : {X : Type 0} (xs : List X) (k : ℕ) → k < length xs → (x : X) × (slice_get xs k ≡ Some x)
there [] k h = absurd (omega (arith, h))
there (x ∷ xs) zero h = (x, refl)
there (x ∷ xs) (suc k) h = there xs k (omega (arith, h))

pub listing_lists : (core : Core) (bytes : List ℕ) (written : List Bool) → length bytes ≡ flash_size core → length written ≡ flash_size core
    → AllByRecursion (λ b. b < 256) bytes → IsBlankElsewhere bytes written → Lists core (listing bytes written) bytes written
listing_lists core bytes written sized flagged are_bytes blank =
    let cells = contents bytes written in
    let same = contents_length bytes written (flagged ∙ sym sized) in
    let all = contents_bytes bytes written are_bytes in
    record {
      lines = lines_from 0 0 cells;
      text_is = refl;
      are_lines = record {
        each = each_from core 0 0 cells all (omega (arith, same, sized));
        order = order_from 0 0 cells;
      };
      image = record {
        sized = sized;
        flagged = flagged;
        bytes_are = λ k less. at_place k less;
        flags_are = λ k less. flag_at k less;
      };
    }
  where
    byte_is : (k : ℕ) → k < flash_size core → (b : ℕ) × (slice_get bytes k ≡ Some b)
    byte_is k less = there bytes k (omega (arith, less, sized))

    flag_is : (k : ℕ) → k < flash_size core → (f : Bool) × (slice_get written k ≡ Some f)
    flag_is k less = there written k (omega (arith, less, flagged))

    has : (k b : ℕ) (f : Bool) → slice_get bytes k ≡ Some b → slice_get written k ≡ Some f →
        byte_by (lines_from 0 0 (contents bytes written)) k ≡ (if f then Some b else None)
    has k b f e g =
        let same : 0 + k ≡ k = omega arith in
        ap (λ x. byte_by (lines_from 0 0 (contents bytes written)) x) (sym same)
        ∙ bytes_from 0 0 k (contents bytes written) (contents_bytes bytes written are_bytes) (omega arith)
        ∙ ap join (contents_get bytes written k b f e g)

    by_flag : (k b : ℕ) (f : Bool) → slice_get bytes k ≡ Some b → slice_get written k ≡ Some f →
        byte_by (lines_from 0 0 (contents bytes written)) k ≡ (if f then Some b else None) →
        slice_get bytes k ≡ Some (unwrap_or (byte_by (lines_from 0 0 (contents bytes written)) k) 255)
    by_flag k b true e g h = e ∙ ap (λ x. Some (unwrap_or x 255)) (sym h)
    by_flag k b false e g h = blank k g ∙ ap (λ x. Some (unwrap_or x 255)) (sym h)

    at_place : (k : ℕ) → k < flash_size core → slice_get bytes k ≡ Some
        (unwrap_or (byte_by (lines_from 0 0 (contents bytes written)) k) 255)
    at_place k less =
        let b = byte_is k less in let f = flag_is k less in
        by_flag k b.0 f.0 b.1 f.1 (has k b.0 f.0 b.1 f.1)

    by_flag2 : (k b : ℕ) (f : Bool) → slice_get written k ≡ Some f →
        byte_by (lines_from 0 0 (contents bytes written)) k ≡ (if f then Some b else None) →
        slice_get written k ≡ Some (is_some (byte_by (lines_from 0 0 (contents bytes written)) k))
    by_flag2 k b true g h = g ∙ ap (λ (x : Option ℕ). Some (is_some x)) (sym h)
    by_flag2 k b false g h = g ∙ ap (λ (x : Option ℕ). Some (is_some x)) (sym h)

    flag_at : (k : ℕ) → k < flash_size core → slice_get written k ≡ Some (is_some (byte_by (lines_from 0 0 (contents bytes written)) k))
    flag_at k less =
        let b = byte_is k less in let f = flag_is k less in
        by_flag2 k b.0 f.0 f.1 (has k b.0 f.0 b.1 f.1)

-- ---- what the code sees of the bytes

pub drop_contents : (bytes : List ℕ) (written : List Bool) (k : ℕ) →
    contents (drop k bytes) (drop k written) ≡ drop k (contents bytes written)
drop_contents bytes written zero = refl
drop_contents [] written (suc k) = refl
drop_contents (x ∷ bytes) [] (suc k) = no_flags (drop k bytes)
  where
    no_flags : (bytes : List ℕ) → contents bytes [] ≡ []
    no_flags [] = refl
    no_flags (x ∷ bytes) = refl
drop_contents (x ∷ bytes) (y ∷ written) (suc k) = drop_contents bytes written k

pub behind_both : (bytes : List ℕ) (written : List Bool) (k : ℕ) (b : List ℕ) (w : List Bool) → b ≡ drop k bytes → w ≡ drop k written
    → contents b w ≡ drop k (contents bytes written)
behind_both bytes written k b w e f =
    ap (λ x. contents x w) e ∙ ap (λ x. contents (drop k bytes) x) f ∙ drop_contents bytes written k

-- the byte at a place by its flag
byte_by_flag : (bytes : List ℕ) (written : List Bool) (k : ℕ)
    → byte_in (contents bytes written) k ≡ (if unwrap_or (slice_get written k) false then slice_get bytes k else None)
byte_by_flag [] written k = none (unwrap_or (slice_get written k) false)
  where
    none : (flag : Bool) → (let o : Option ℕ = None in o) ≡ (if flag then None else None)
    none true = refl
    none false = refl
byte_by_flag (x ∷ bytes) [] k = refl
byte_by_flag (x ∷ bytes) (true ∷ written) zero = refl
byte_by_flag (x ∷ bytes) (false ∷ written) zero = refl
byte_by_flag (x ∷ bytes) (y ∷ written) (suc k) = byte_by_flag bytes written k

pub byte_written : (bytes : List ℕ) (written : List Bool) (k : ℕ) (flag : Bool) → flag ≡ unwrap_or (slice_get written k) false → flag ≡ true
    → byte_in (contents bytes written) k ≡ slice_get bytes k
byte_written bytes written k flag e t =
    byte_by_flag bytes written k ∙ ap (λ b. if b then slice_get bytes k else None) (sym e ∙ t)

pub byte_unwritten : (bytes : List ℕ) (written : List Bool) (k : ℕ) (flag : Bool) → flag ≡ unwrap_or (slice_get written k) false →
    flag ≡ false
    → byte_in (contents bytes written) k ≡ None
byte_unwritten bytes written k flag e t =
    byte_by_flag bytes written k ∙ ap (λ b. if b then slice_get bytes k else None) (sym e ∙ t)

pub all_bytes : (bytes : List ℕ) → ((k : ℕ) → get_or bytes k 0 < 256) → AllByRecursion (λ b. b < 256) bytes
all_bytes [] h = tt
all_bytes (x ∷ bytes) h = (h 0, all_bytes bytes (λ k. h (suc k)))

-- ---- one item of a listing that is written

pub some_step : (at : ℕ) (cells : List (Option ℕ)) (item : Item) (out new all : List ℕ) → at < length cells
    → item_in at (drop at cells) ≡ Some item → new ≡ (out ++ line_text (line at item)) ++ 10 ∷ []
    → out ++ text_of (lines_from at 0 (drop at cells)) ≡ all
    → new ++ text_of (lines_from (at + length (item_bytes item)) 0 (drop (at + length (item_bytes item)) cells)) ≡ all
some_step at cells item out new all inside is wrote so_far =
    ap (λ t. t ++ rest) wrote
    ∙ append_assoc (out ++ line_text (line at item)) (10 ∷ []) rest
    ∙ append_assoc out (line_text (line at item)) (10 ∷ rest)
    ∙ sym (ap (λ ls. out ++ text_of ls) lines)
    ∙ so_far
  where
    n : ℕ
    n = length (item_bytes item)

    rest : List ℕ
    rest = text_of (lines_from (at + n) 0 (drop (at + n) cells))

    some : 0 < length (drop at cells)
    some = omega (arith, inside, length-drop at cells)

    lines : lines_from at 0 (drop at cells) ≡ line at item ∷ lines_from (at + n) 0 (drop (at + n) cells)
    lines =
        step at (drop at cells) some ∙ ap (λ o. lines_by at (drop at cells) o) is
        ∙ ap (λ cs. line at item ∷ lines_from (at + n) 0 cs) (drop-drop n at cells)

pub none_step : (at : ℕ) (cells : List (Option ℕ)) → at < length cells → item_in at (drop at cells) ≡ None
    → lines_from at 0 (drop at cells) ≡ lines_from (at + 1) 0 (drop (at + 1) cells)
none_step at cells inside is =
    step at (drop at cells) some ∙ ap (λ o. lines_by at (drop at cells) o) is ∙ ap (λ cs. lines_from (at + 1) 0 cs) (drop-drop 1 at cells)
  where
    some : 0 < length (drop at cells)
    some = omega (arith, inside, length-drop at cells)

pub end_step : (at : ℕ) (cells : List (Option ℕ)) (out all : List ℕ) → length cells ≤ at
    → out ++ text_of (lines_from at 0 (drop at cells)) ≡ all → out ≡ all
end_step at cells out all past so_far =
    sym (append-nil out) ∙ sym (ap (λ cs. out ++ text_of (lines_from at 0 cs)) (drop_all at cells past)) ∙ so_far

-- an item that stands there ends within
pub item_ends_within : (at : ℕ) (bytes : List ℕ) (written : List Bool) (item : Item) → ((k : ℕ) → get_or bytes k 0 < 256)
    → length written ≡ length bytes → at < length bytes → item_in at (drop at (contents bytes written)) ≡ Some item
    → at + length (item_bytes item) ≤ length bytes
item_ends_within at bytes written item small same inside is =
    let all = all_drop at (contents bytes written) (contents_bytes bytes written (all_bytes bytes small)) in
    let few = (item_within at (drop at (contents bytes written)) item all is).1 in
    let whole = contents_length bytes written same in
    omega (arith, few, whole, inside, length-drop at (contents bytes written))
  where
    all_drop : (k : ℕ) (cells : List (Option ℕ)) → AreBytes cells → AreBytes (drop k cells)
    all_drop zero cells h = h
    all_drop (suc k) [] h = tt
    all_drop (suc k) (c ∷ cells) h = all_drop k cells h.1

-- ---- the listing of an image, as clauses say it

pub listed_of : (r : Result (Listed ℕ) NoMemory) (image : Image) → ((k : ℕ) → get_or image.bytes.items k 0 < 256)
    → IfOk r (λ text. text.items ≡ listing image.bytes.items image.written.items)
    → IfOk r (λ text. Lists image.core text.items image.bytes.items image.written.items)
listed_of (Ok text) image small h =
    subst (λ t. Lists image.core t image.bytes.items image.written.items) (sym h)
    (listing_lists image.core image.bytes.items image.written.items image.sized image.flagged (all_bytes image.bytes.items small)
    image.blank)
listed_of (Err e) image small h = h

pub short_of : (r : Result (Listed ℕ) NoMemory) (image : Image) → ((k : ℕ) → get_or image.bytes.items k 0 < 256)
    → IfOk r (λ text. text.items ≡ listing image.bytes.items image.written.items)
    → IfOk r (λ text. length text.items ≤ 16 * flash_size image.core)
short_of (Ok text) image small h =
    lists_shortly image.core text.items image.bytes.items image.written.items (listed_of (Ok text) image small h)
short_of (Err e) image small h = h
