-- A text falls into lines in one way.
use Rattle.std.proofs.Common.{◌≡◌, ◌<◌, ◌≤◌, ℕ, suc, ◌+◌, ◌*◌, ◌/◌, ◌%◌, ◌&&◌, not, Bool, true, false, List, [], ◌∷◌, ◌++◌, Some, refl}
use Rattle.std.proofs.Common.{sym, ap, ◌∙◌, subst, arith, length, length-append, append_assoc, inl, inr}
use Rattle.std.specs.Prelude.{◌==◌, slice_get, is_some, unwrap_or, codes, nat_lt, if◌then◌else◌}
use Rattle.std.specs.List.{AllByRecursion}
use Rattle.ec_space.specs.declared.Core.{Core}
use Rattle.ec_space.specs.declared.Core.TheVariants.{Small, Large}
use Rattle.ec_avr.specs.Flash.{flash_size}
use Rattle.ec_hex.specs.Bytes.{digit}
use Rattle.ec_list.specs.Texts.{text}
use Rattle.ec_list.specs.Lines.{address_text, item_text, line_text, text_of, item_bytes, end_of, end_after, IsInRange, IsLine, Suits}
use Rattle.ec_list.specs.Lines.{AreInOrder, byte_by}
use Rattle.ec_list.specs.ReadingLines.{IsLineOf}
use Rattle.ec_list.specs.Assembling.{has_no_end}
use Rattle.ec_list.specs.Lists.{Lists, Begins, Breaks, StopsAt, ListsOneImage, ListsShortly}
use Rattle.ec_list.specs.declared.line.Item.{Item}
use Rattle.ec_list.specs.declared.line.Item.TheVariants.{Byte, Instruction}
use Rattle.ec_list.specs.declared.line.Line.{Line}
use Rattle.ec_list.proofs.Patterns.{append_ends, pattern_ends, pattern_length}
use Rattle.ec_list.proofs.Rows.{reads, sound}
use Rattle.ec_list.proofs.ExactLines.{line_is}

pub small_flash : (core : Core) → flash_size core ≤ 1048576
small_flash Small = omega arith
small_flash Large = omega arith

-- ---- one line

pub item_some : (item : Item) → 1 ≤ length (item_bytes item)
item_some (Byte b) = omega arith
item_some (Instruction i) = omega arith

digit_plain : (n : ℕ) → not (digit n == 10) ≡ true
digit_plain n = by_test (nat_lt n 10)
  where
    by_test : (b : Bool) → not ((if b then 48 + n else 55 + n) == 10) ≡ true
    by_test true = grind arith
    by_test false = grind arith

address_ends : (at : ℕ) → has_no_end (address_text at) ≡ true
address_ends at =
    rw (
      digit_plain (at / 65536 % 16),
      digit_plain (at / 4096 % 16),
      digit_plain (at / 256 % 16),
      digit_plain (at / 16 % 16),
      digit_plain (at % 16),
    ) refl

item_ends : (item : Item) → IsInRange item → has_no_end (item_text item) ≡ true
item_ends (Byte b) h = rw (digit_plain (b / 16), digit_plain (b % 16)) refl
item_ends (Instruction i) h = let r = reads i h in pattern_ends (text i).pattern (text i).first (text i).second r.first r.second (sound i)

pub line_ends : (l : Line) → IsInRange l.item → has_no_end (line_text l) ≡ true
line_ends l h = append_ends (address_text l.at) (codes ": " ++ item_text l.item) (address_ends l.at)
    (append_ends (codes ": ") (item_text l.item) refl (item_ends l.item h))

-- with its end a line has at most 16 characters for each of its bytes
item_length : (item : Item) → IsInRange item → 8 + length (item_text item) ≤ 16 * length (item_bytes item)
item_length (Byte b) h = omega arith
item_length (Instruction i) h =
    let r = reads i h in
    let short = pattern_length (text i).pattern (text i).first (text i).second r.first r.second (sound i) in omega (arith, short)

pub line_length : (l : Line) → IsInRange l.item → length (line_text l) + 1 ≤ 16 * length (item_bytes l.item)
line_length l h =
    let item = item_length l.item h in
    omega (arith, length-append (address_text l.at) (codes ": " ++ item_text l.item), length-append (codes ": ") (item_text l.item), item)

first_false : (c : ℕ) (b : Bool) → (not (c == 10) && b) ≡ true → c ≡ 10 → ⊥
first_false c b e f = by_test (c == 10) refl e
  where
    by_test : (t : Bool) → (c == 10) ≡ t → (not t && b) ≡ true → ⊥
    by_test true g e = cc
    by_test false g e = absurd (differ f g)
      where
        differ : c ≡ 10 → (c == 10) ≡ false → ⊥
        differ f g = let h : (10 == 10) ≡ false = subst (λ z. (z == 10) ≡ false) f g in cc

rest_true : (c : ℕ) (b : Bool) → (not (c == 10) && b) ≡ true → b ≡ true
rest_true c b e = by_test (not (c == 10)) e
  where
    by_test : (t : Bool) → (t && b) ≡ true → b ≡ true
    by_test true e = e
    by_test false e = cc

-- two texts up to their first line feeds
pub same_front : (a b r s : List ℕ) → has_no_end a ≡ true → has_no_end b ≡ true → a ++ 10 ∷ r ≡ b ++ 10 ∷ s → (a ≡ b) × (r ≡ s)
same_front [] [] r s e f h = let t : r ≡ s = cc in (refl, t)
same_front [] (y ∷ b) r s e f h = let t : y ≡ 10 = cc in absurd (first_false y (has_no_end b) f t)
same_front (x ∷ a) [] r s e f h = let t : x ≡ 10 = cc in absurd (first_false x (has_no_end a) e t)
same_front (x ∷ a) (y ∷ b) r s e f h =
    let t : x ≡ y = cc in
    let u : a ++ 10 ∷ r ≡ b ++ 10 ∷ s = cc in
    let g = same_front a b r s (rest_true x (has_no_end a) e) (rest_true y (has_no_end b) f) u in
    (ap (λ z. z ∷ a) t ∙ ap (λ z. y ∷ z) g.0, g.1)

-- a text without a line feed has no line
pub has_no_line : (a b r : List ℕ) → has_no_end a ≡ true → a ≡ b ++ 10 ∷ r → ⊥
has_no_line [] [] r e h = cc
has_no_line [] (y ∷ b) r e h = cc
has_no_line (x ∷ a) [] r e h = let t : x ≡ 10 = cc in first_false x (has_no_end a) e t
has_no_line (x ∷ a) (y ∷ b) r e h = let u : a ≡ b ++ 10 ∷ r = cc in has_no_line a b r (rest_true x (has_no_end a) e) u

pub is_line_itself : (l : Line) → l.at < 1048576 → IsInRange l.item → IsLineOf (line_text l) l
is_line_itself l small h = record { address = small; range = h; text_is = refl }

-- the line of a text is one
pub same_line_of : (a : List ℕ) (l m : Line) → IsLineOf a l → IsLineOf a m → l ≡ m
same_line_of a l m x y =
    let one = (line_is a l).1 x in
    let two = (line_is a m).1 y in
    let same : Some l ≡ Some m = sym one ∙ two in cc

-- the line with which a text begins is one
pub same_begin : (l m : Line) (r s : List ℕ) → l.at < 1048576 → IsInRange l.item → m.at < 1048576 → IsInRange m.item
    → line_text l ++ 10 ∷ r ≡ line_text m ++ 10 ∷ s → (l ≡ m) × (r ≡ s)
same_begin l m r s small range small2 range2 e =
    let g = same_front (line_text l) (line_text m) r s (line_ends l range) (line_ends m range2) e in (
      same_line_of (line_text l) l m (is_line_itself l small range)
          (subst (λ t. IsLineOf t m) (sym g.0) (is_line_itself m small2 range2)),
      g.1,
    )

pub line_small : (core : Core) (l : Line) → IsLine core l → l.at < 1048576
line_small core l h =
    let few = small_flash core in let some = item_some l.item in let w = h.suits.in_flash in omega (arith, w, few, some)

begins_same : (core : Core) (text : List ℕ) (l m : Line) (s : List ℕ) → Begins text l → IsLine core m → text ≡ line_text m ++ 10 ∷ s → l ≡ m
begins_same core text l m s b h e =
    (same_begin l m b.more s b.address b.range (line_small core m h) h.range (sym b.text_is ∙ e)).0

pub begins_one : (text : List ℕ) (l m : Line) → Begins text l → Begins text m → l ≡ m
begins_one text l m a b = (same_begin l m a.more b.more a.address a.range b.address b.range (sym a.text_is ∙ b.text_is)).0

-- ---- many lines

-- a line that may follow breaks no rule
follows_well : (core : Core) (from : ℕ) (text : List ℕ) (m : Line) (s : List ℕ) (rule : ℕ) → IsLine core m → from ≤ m.at
    → text ≡ line_text m ++ 10 ∷ s → Breaks core from text rule → ⊥
follows_well core from text m s rule h le e (inl x) =
    x.1.1 m (record { address = line_small core m h; range = h.range; more = s; text_is = e })
follows_well core from text m s rule h le e (inr (inl x)) =
    x.1.1.1 (subst (Suits core) (sym (begins_same core text x.1.0 m s x.1.1.0 h e)) h.suits)
follows_well core from text m s rule h le e (inr (inr x)) =
    let same = begins_same core text x.1.0 m s x.1.1.0 h e in
    let less = x.1.1.1.1 in
    let at : x.1.0.at ≡ m.at = ap (λ l. l.at) same in omega (arith, less, at, le)

-- no text that breaks a rule is at its end
breaks_some : (core : Core) (from rule : ℕ) → Breaks core from [] rule → ⊥
breaks_some core from rule (inl x) = x.1.0 refl
breaks_some core from rule (inr (inl x)) = empty x.1.0 x.1.1.0.more x.1.1.0.text_is
  where
    empty : (l : Line) (more : List ℕ) → [] ≡ line_text l ++ 10 ∷ more → ⊥
    empty l more e = cc
breaks_some core from rule (inr (inr x)) = empty x.1.0 x.1.1.0.more x.1.1.0.text_is
  where
    empty : (l : Line) (more : List ℕ) → [] ≡ line_text l ++ 10 ∷ more → ⊥
    empty l more e = cc

-- the rule is one
same_rule : (core : Core) (from : ℕ) (text : List ℕ) (r s : ℕ) → Breaks core from text r → Breaks core from text s → r ≡ s
same_rule core from text r s (inl x) (inl y) = x.0 ∙ sym y.0
same_rule core from text r s (inl x) (inr (inl y)) = absurd (x.1.1 y.1.0 y.1.1.0)
same_rule core from text r s (inl x) (inr (inr y)) = absurd (x.1.1 y.1.0 y.1.1.0)
same_rule core from text r s (inr (inl x)) (inl y) = absurd (y.1.1 x.1.0 x.1.1.0)
same_rule core from text r s (inr (inr x)) (inl y) = absurd (y.1.1 x.1.0 x.1.1.0)
same_rule core from text r s (inr (inl x)) (inr (inl y)) = x.0 ∙ sym y.0
same_rule core from text r s (inr (inr x)) (inr (inr y)) = x.0 ∙ sym y.0
same_rule core from text r s (inr (inl x)) (inr (inr y)) =
    absurd (x.1.1.1 (subst (Suits core) (begins_one text y.1.0 x.1.0 y.1.1.0 x.1.1.0) y.1.1.1.0))
same_rule core from text r s (inr (inr x)) (inr (inl y)) =
    absurd (y.1.1.1 (subst (Suits core) (begins_one text x.1.0 y.1.0 x.1.1.0 y.1.1.0) x.1.1.1.0))

joined : (l : Line) (ls : List Line) (rest : List ℕ) → text_of (l ∷ ls) ++ rest ≡ line_text l ++ 10 ∷ (text_of ls ++ rest)
joined l ls rest = append_assoc (line_text l) (10 ∷ text_of ls) rest

-- lines of one text, up to where a rule is broken
pub same_stop : (core : Core) (from : ℕ) (ls ms : List Line) (rest other : List ℕ) (r s : ℕ)
    → AllByRecursion (IsLine core) ls → AreInOrder from ls → AllByRecursion (IsLine core) ms → AreInOrder from ms
    → text_of ls ++ rest ≡ text_of ms ++ other
    → Breaks core (end_after from ls) rest r → Breaks core (end_after from ms) other s → (length ls ≡ length ms) × (r ≡ s)
same_stop core from [] [] rest other r s a o b p e x y =
    (refl, same_rule core from other r s (subst (λ t. Breaks core from t r) e x) y)
same_stop core from [] (m ∷ ms) rest other r s a o b p e x y =
    absurd (follows_well core from rest m (text_of ms ++ other) r b.0 p.0 (e ∙ joined m ms other) x)
same_stop core from (l ∷ ls) [] rest other r s a o b p e x y =
    absurd (follows_well core from other l (text_of ls ++ rest) s a.0 o.0 (sym e ∙ joined l ls rest) y)
same_stop core from (l ∷ ls) (m ∷ ms) rest other r s a o b p e x y =
    let g = same_begin l m (text_of ls ++ rest) (text_of ms ++ other) (line_small core l a.0) a.0.range (line_small core m b.0) b.0.range
    (sym (joined l ls rest) ∙ e ∙ joined m ms other) in
    let ends : end_of m ≡ end_of l = ap end_of (sym g.0) in
    let after = same_stop core (end_of l) ls ms rest other r s a.1 o.1 b.1 (subst (λ n. AreInOrder n ms) ends p.1) g.1 x
    (subst (λ n. Breaks core (end_after n ms) other s) ends y) in
    (ap suc after.0, after.1)

-- lines that are the whole text
pub same_whole : (core : Core) (from : ℕ) (ls ms : List Line) (other : List ℕ) (s : ℕ)
    → AllByRecursion (IsLine core) ls → AreInOrder from ls → AllByRecursion (IsLine core) ms → AreInOrder from ms
    → text_of ls ≡ text_of ms ++ other → Breaks core (end_after from ms) other s → ⊥
same_whole core from [] [] other s a o b p e y = breaks_some core from s (subst (λ t. Breaks core from t s) (sym e) y)
same_whole core from [] (m ∷ ms) other s a o b p e y = empty m (text_of ms ++ other) (e ∙ joined m ms other)
  where
    empty : (l : Line) (more : List ℕ) → [] ≡ line_text l ++ 10 ∷ more → ⊥
    empty l more e = cc
same_whole core from (l ∷ ls) [] other s a o b p e y = follows_well core from other l (text_of ls) s a.0 o.0 (sym e) y
same_whole core from (l ∷ ls) (m ∷ ms) other s a o b p e y =
    let g = same_begin l m (text_of ls) (text_of ms ++ other) (line_small core l a.0) a.0.range (line_small core m b.0) b.0.range
    (e ∙ joined m ms other) in
    let ends : end_of m ≡ end_of l = ap end_of (sym g.0) in
    same_whole core (end_of l) ls ms other s a.1 o.1 b.1 (subst (λ n. AreInOrder n ms) ends p.1) g.1
    (subst (λ n. Breaks core (end_after n ms) other s) ends y)

same_lines : (core : Core) (ls ms : List Line) → AllByRecursion (IsLine core) ls → AllByRecursion (IsLine core) ms →
    text_of ls ≡ text_of ms → ls ≡ ms
same_lines core [] [] a b e = refl
same_lines core [] (m ∷ ms) a b e = empty m (text_of ms) e
  where
    empty : (l : Line) (more : List ℕ) → [] ≡ line_text l ++ 10 ∷ more → [] ≡ m ∷ ms
    empty l more e = cc
same_lines core (l ∷ ls) [] a b e = empty l (text_of ls) (sym e)
  where
    empty : (m : Line) (more : List ℕ) → [] ≡ line_text m ++ 10 ∷ more → l ∷ ls ≡ []
    empty m more e = cc
same_lines core (l ∷ ls) (m ∷ ms) a b e =
    let g = same_begin l m (text_of ls) (text_of ms) (line_small core l a.0) a.0.range (line_small core m b.0) b.0.range e in
    ap (λ z. z ∷ ls) g.0 ∙ ap (λ z. m ∷ z) (same_lines core ls ms a.1 b.1 g.1)

-- ---- images

same_list : {X : Type 0} (xs ys : List X) → length xs ≡ length ys → ((k : ℕ) → k < length xs → slice_get xs k ≡ slice_get ys k) → xs ≡ ys
same_list [] [] e h = refl
same_list [] (y ∷ ys) e h = cc
same_list (x ∷ xs) [] e h = cc
same_list (x ∷ xs) (y ∷ ys) e h =
    let first : Some x ≡ Some y = h 0 (omega arith) in
    let head : x ≡ y = cc in
    ap (λ z. z ∷ xs) head ∙ ap (λ z. y ∷ z) (same_list xs ys (omega (arith, e)) (λ k less. h (suc k) (omega (arith, less))))

pub lists_one_image : ListsOneImage
lists_one_image core text bytes others written flags a b =
    let lines = same_lines core a.lines b.lines a.are_lines.each b.are_lines.each (sym a.text_is ∙ b.text_is) in
    let sized = a.image.sized in
    let flagged = a.image.flagged in (
      same_list bytes others (a.image.sized ∙ sym b.image.sized) (λ k less.
          a.image.bytes_are k (omega (arith, less, sized)) ∙ ap (λ ls. Some (unwrap_or (byte_by ls k) 255)) lines
          ∙ sym (b.image.bytes_are k (omega (arith, less, sized)))),
      same_list written flags (a.image.flagged ∙ sym b.image.flagged) (λ k less.
          a.image.flags_are k (omega (arith, less, flagged)) ∙ ap (λ ls. Some (is_some (byte_by ls k))) lines
          ∙ sym (b.image.flags_are k (omega (arith, less, flagged)))),
    )

-- ---- the length

lines_length : (core : Core) (from : ℕ) (ls : List Line) → AllByRecursion (IsLine core) ls → AreInOrder from ls → from ≤ flash_size core
    → length (text_of ls) + 16 * from ≤ 16 * flash_size core
lines_length core from [] a o le = omega (arith, le)
lines_length core from (l ∷ ls) a o le =
    let one = line_length l a.0.range in
    let first = o.0 in
    let inside = a.0.suits.in_flash in
    let rest = lines_length core (end_of l) ls a.1 o.1 inside in
    omega (arith, length-append (line_text l) (10 ∷ text_of ls), one, first, rest)

pub lists_shortly : ListsShortly
lists_shortly core text bytes written a =
    let few = lines_length core 0 a.lines a.are_lines.each a.are_lines.order (omega arith) in
    omega (arith, ap length a.text_is, few)

-- ---- stops

-- a text that lists an image has no line that breaks a rule
pub not_both : (core : Core) (text bytes : List ℕ) (written : List Bool) (line rule : ℕ) → Lists core text bytes written
    → StopsAt core text line rule → ⊥
not_both core text bytes written line rule a b =
    same_whole core 0 a.lines b.lines b.rest rule a.are_lines.each a.are_lines.order b.are_lines.each b.are_lines.order
    (sym a.text_is ∙ b.text_is) b.breaks

-- the first line that breaks a rule is one, and its least rule
pub one_stop : (core : Core) (text : List ℕ) (line other rule least : ℕ) → StopsAt core text line rule → StopsAt core text other least
    → (line ≡ other) × (rule ≡ least)
one_stop core text line other rule least a b =
    let same = same_stop core 0 a.lines b.lines a.rest b.rest rule least a.are_lines.each a.are_lines.order b.are_lines.each
    b.are_lines.order
    (sym a.text_is ∙ b.text_is) a.breaks b.breaks in
    (a.line_is ∙ ap (λ n. n + 1) same.0 ∙ sym b.line_is, same.1)
