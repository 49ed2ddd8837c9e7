-- The code of a placed program stands in its image: the whole.
use Rattle.std.proofs.Common.{◌≡◌, ◌+◌, ◌*◌, ◌%◌, ◌<◌, ◌≤◌, ℕ, Bool, true, false, List, [], ◌∷◌, ◌++◌, length, Option, Some, None, zero-add}
use Rattle.std.proofs.Common.{refl, sym, ap, ◌∙◌, subst, arith}
use Rattle.std.specs.Prelude.{nat_lt, if◌then◌else◌, slice_index, count_by}
use Rattle.std.specs.List.{list_all}
use Rattle.std.proofs.lemmas.Bool.{and_parts, ltb-false, eqb-true}
use Rattle.ec_space.specs.Memory.{flash_size}
use Rattle.ec_isa.specs.declared.instructions.Instr.TheVariants.{Ldi}
use Rattle.ec_asm.specs.Change.{Env}
use Rattle.ec_asm.specs.Items.{code_words, part_of}
use Rattle.ec_asm.specs.Placed.{instructions, bytes_of_all, code_image}
use Rattle.ec_asm.specs.Valid.{sizes_of, is_valid_item, used_label, is_label, stands_once, is_placed}
use Rattle.ec_asm.specs.declared.items.AsmItem.{AsmItem}
use Rattle.ec_asm.specs.declared.items.AsmItem.TheVariants.{Plain, Label, JumpTo, CallTo, BranchTo, LoadPart, LoadObj, StoreObj}
use Rattle.ec_map.specs.declared.map.Map.{Map}
use Rattle.ec_map.specs.declared.region.Region.{Region}
use Rattle.ec_locate.specs.Entries.{work_size}
use Rattle.ec_locate.specs.Code.{label_word, resolved, has_words, overwritten}
use Rattle.ec_locate.specs.Image.{with_objects, blank}
use Rattle.ec_locate.specs.Needs.{told, shortage_of, or_else, first_shortage}
use Rattle.ec_locate.specs.Placing.{object_sizes, layout_by, last_of, needs, entries_by}
use Rattle.ec_locate.specs.Stands.{own_word, environment, CodeStands}
use Rattle.ec_locate.specs.declared.needs.Needs.{Needs}
use Rattle.ec_locate.specs.declared.needs.Shortage.{Shortage}
use Rattle.ec_locate.specs.declared.stop.RegionName.{RegionName}
use Rattle.ec_locate.specs.declared.stop.RegionName.TheVariants.{Code, Tables, Far, Data, Stack}
use Rattle.ec_locate.proofs.Ends.{code_is_short}
use Rattle.ec_locate.proofs.Stand.{known_items, label_below, labels_stand, length_image, length_overwritten, overwritten_holds}
use Rattle.ec_locate.proofs.Words.{valid_words}

-- ---- the region of the code has room

neither_short : (a b : Option Shortage) → or_else a b ≡ None → (a ≡ None) × (b ≡ None)
neither_short None b h = (refl, h)
neither_short (Some s) b h = cc

fits_where : (b : Bool) (s : Shortage) → (let o : Option Shortage = if b then Some s else None in o) ≡ None → b ≡ false
fits_where true s h = cc
fits_where false s h = refl

fits : (name : RegionName) (r : Region) (need : ℕ) → shortage_of name r need ≡ None → need ≤ r.size
fits name r need h =
    ltb-false r.size need (fits_where (nat_lt r.size need) (record { region = name; needed = told need; available = r.size }) h)

-- no region is too small
pub record AllFit (m : Map) (n : Needs) : Type 0 where
  pub tables : n.tables ≤ m.tables.size
  pub far : n.far ≤ m.far.size
  pub vars : n.vars ≤ m.vars.size
  pub stack : n.stack ≤ m.stack.size
  pub code : n.code ≤ m.code.size

pub all_fit : (m : Map) (n : Needs) → first_shortage m n ≡ None → AllFit m n
all_fit m n h =
    let stack = or_else (shortage_of Stack m.stack n.stack) (shortage_of Code m.code n.code) in
    let vars = or_else (shortage_of Data m.vars n.vars) stack in
    let far = or_else (shortage_of Far m.far n.far) vars in
    let a = neither_short (shortage_of Tables m.tables n.tables) far h in
    let b = neither_short (shortage_of Far m.far n.far) vars a.1 in
    let c = neither_short (shortage_of Data m.vars n.vars) stack b.1 in
    let d = neither_short (shortage_of Stack m.stack n.stack) (shortage_of Code m.code n.code) c.1 in
    record {
      tables = fits Tables m.tables n.tables a.0;
      far = fits Far m.far n.far b.0;
      vars = fits Data m.vars n.vars c.0;
      stack = fits Stack m.stack n.stack d.0;
      code = fits Code m.code n.code d.1;
    }

-- ---- code depends on the addresses and on the labels that it uses

-- the labels that an item refers to have the same words
abbrev HaveSame : (w w' : ℕ → ℕ) → AsmItem → Type 0
HaveSame w w' i = (l : ℕ) → used_label i ≡ Some l → w l ≡ w' l

same_instructions : (e e' : Env) → e.address_of ≡ e'.address_of → e.far_of ≡ e'.far_of → (i : AsmItem) → HaveSame e.word_of e'.word_of i
    → instructions e i ≡ instructions e' i
same_instructions e e' a f (Plain i) h = refl
same_instructions e e' a f (Label l) h = refl
same_instructions e e' a f (JumpTo l) h = rw (h l refl) refl
same_instructions e e' a f (CallTo l) h = rw (h l refl) refl
same_instructions e e' a f (BranchTo set flag l) h = rw (h l refl) refl
same_instructions e e' a f (LoadPart d o offset part) h =
    λ j. Ldi d (part_of (if nat_lt part 2 then a j o offset else f j o offset) part) ∷ []
same_instructions e e' a f (LoadObj d o offset) h = rw a refl
same_instructions e e' a f (StoreObj o offset r) h = rw a refl

same_code : (e e' : Env) (q : AsmItem → Bool) → e.address_of ≡ e'.address_of → e.far_of ≡ e'.far_of
    → ((i : AsmItem) → q i ≡ true → HaveSame e.word_of e'.word_of i) → (items : List AsmItem) → list_all q items ≡ true
    → code_image e items ≡ code_image e' items
same_code e e' q a f h [] u = refl
same_code e e' q a f h (i ∷ is) u =
    let (here, more) = and_parts (q i) (list_all q is) u in
    ap (λ x. bytes_of_all x ++ code_image e is) (same_instructions e e' a f i (h i here))
    ∙ ap (λ x. bytes_of_all (instructions e' i) ++ x) (same_code e e' q a f h is more)

-- ---- labels that stand once

-- a label that has a word stands once, and so has the word where it stands first
once_where : (b : Bool) (n : ℕ) → (if b then n else 65536) < 65536 → (b ≡ true) × ((if b then n else 65536) ≡ n)
once_where true n h = (refl, refl)
once_where false n h = absurd (omega arith)

own_words : (items : List AsmItem) (l : ℕ) → own_word items l < 65536
    → (count_by (is_label l) items ≡ 1) × (own_word items l ≡ label_word items l)
own_words items l h =
    let o = once_where (stands_once items l) (label_word items l) h in
    (eqb-true (count_by (is_label l) items) 1 o.0, o.1)

own_where : (b : Bool) (n : ℕ) → b ≡ true → (if b then n else 65536) ≡ n
own_where true n h = refl
own_where false n h = cc

-- so does each label that a valid item refers to
placed_label : (items : List AsmItem) (o : Option ℕ) (l : ℕ) → is_placed items o ≡ true → o ≡ Some l → stands_once items l ≡ true
placed_label items None l h q = cc
placed_label items (Some k) l h q = let e : k ≡ l = cc in rw e at h

placed_word : (items : List AsmItem) (i : AsmItem) → is_placed items (used_label i) ≡ true → HaveSame (label_word items) (own_word items) i
placed_word items i h l q =
    sym (own_where (stands_once items l) (label_word items l) (placed_label items (used_label i) l h q))

-- ---- valid items have words

all_have : {X : Type 0} (p q : X → Bool) → ((x : X) → p x ≡ true → q x ≡ true) → (xs : List X) → list_all p xs ≡ true → list_all q xs ≡ true
all_have p q one [] h = refl
all_have p q one (x ∷ xs) h =
    let (here, more) = and_parts (p x) (list_all p xs) h in
    rw (one x here, all_have p q one xs more) refl

address_below : (n : ℕ) → n % 65536 < 65536
address_below n = omega arith

-- ---- the whole

pub code-stands : CodeStands
code-stands p m asm l kind table valid asm_valid located =
    let items = asm.items.items in
    let y = layout_by p m asm in
    let last = last_of m in
    let e = environment p m asm l kind table in
    let room = (all_fit m (needs p m.io (entries_by m p) asm.frames.items items) located.fits).code in
    let short = code_is_short m valid in
    let ends = valid.regions_valid.code.ends in
    let small : code_words items ≤ 32767 = omega (arith, room, short) in
    let within : 2 * code_words items ≤ flash_size m.core = omega (arith, room, valid.regions_valid.start, ends) in
    let sizes = sizes_of (object_sizes p) asm.frames.items (work_size m.io) in
    let words = all_have (is_valid_item sizes) has_words (valid_words sizes) items asm_valid.items in
    let placed : AsmItem → Bool = λ i. is_placed items (used_label i) in
    let objects = with_objects p.structs y 0 p.objects (blank m.core) in
    let code = code_image (resolved items y last) items in
    let same : code ≡ code_image e items = same_code (resolved items y last) e placed refl refl (placed_word items) items asm_valid.labels in
    let flash : l.image.bytes.items ≡ overwritten objects.bytes 0 code = ap (λ f. f.bytes) located.flash in
    let sized : length l.image.bytes.items ≡ flash_size m.core = l.image.sized ∙ ap flash_size located.core in
    let before : length objects.bytes ≡ flash_size m.core = sym (length_overwritten objects.bytes 0 code) ∙ ap length (sym flash) ∙ sized in
    let long = length_image (resolved items y last) items in
    let long' = length_image e items in
    let below : (n : ℕ) → label_word items n < 65536 = λ n. let b = label_below items n in omega (arith, b, small) in
    record {
      known = known_items e items placed (λ i h n q. subst (λ w. w < 65536) (placed_word items i h n q) (below n))
          (λ o k. address_below _) asm_valid.labels words;
      labels = labels_stand e items 0 (λ n has. let o = own_words items n has in (
        let one = o.0 in omega (arith, one),
        λ one. o.1 ∙ sym (zero-add (label_word items n)),
      ));
      image = record {
        within = omega (arith, long', sized, within);
        bytes_there = λ k less.
            let held = overwritten_holds objects.bytes 0 code 0 (omega (arith, long, before, within)) k (omega (arith, long, long', less)) in
            ap (λ f. slice_index f (0 + k)) flash ∙ held ∙ ap (λ c. slice_index c k) same;
      };
      room = omega (arith, small);
      free = omega arith;
    }
