-- Shortened code can be placed, and where it stands the code of the operations stands.
use Rattle.std.proofs.Common.{◌≡◌, ℕ, zero, suc, ◌+◌, ◌*◌, ◌/◌, ◌%◌, ◌<◌, inl, inr, Bool, true, false, ◌&&◌, List, [], ◌∷◌}
use Rattle.std.proofs.Common.{Some, length, map, refl, sym, ap, ◌∙◌, subst, arith, zero-add}
use Rattle.std.specs.Prelude.{nat_lt, if◌then◌else◌, slice_get}
use Rattle.std.specs.List.{list_all}
use Rattle.std.proofs.lemmas.Bool.{and_parts, ltb-true, false≢true}
use Rattle.ec_space.specs.declared.space.Bank.TheVariants.{Data}
use Rattle.ec_space.specs.declared.space.Home.{Home}
use Rattle.ec_space.specs.declared.space.Home.TheVariants.{Flash as FlashHome, Far as FarHome, Data as DataHome}
use Rattle.ec_space.specs.declared.space.Place.{Place}
use Rattle.ec_space.specs.Spaces.{bank_of}
use Rattle.ec_isa.specs.declared.instructions.Instr.TheVariants.{Ldi}
use Rattle.ec_asm.specs.Change.{Env, unbased}
use Rattle.ec_asm.specs.Items.{At, Stands, HasAt, code_words}
use Rattle.ec_asm.specs.Valid.{stands_once, ValidAsm}
use Rattle.ec_asm.specs.declared.items.AsmItem.{AsmItem}
use Rattle.ec_asm.specs.declared.items.AsmItem.TheVariants.{Plain, Label}
use Rattle.ec_asm.specs.declared.items.AsmProgram.{AsmProgram}
use Rattle.ec_asm_based.specs.Based.{based_item, with_base, base_set, uses, chosen_base, item_leaves_base, is_based, based_items}
use Rattle.ec_asm_based.specs.Laws.{AreReached, BasedCodeStands, NoMoreWords as NoMoreBased, ProgramsStayValid as BasedStayValid}
use Rattle.ec_asm_based.specs.declared.reach.Reach.{Reach}
use Rattle.ec_asm_near.specs.Laws.{NearCodeStands, UsedLabelsHaveWords, NoMoreWords as NoMoreNear, ProgramsStayValid as NearStayValid}
use Rattle.ec_asm_near.specs.Near.{near_items}
use Rattle.ec_core.specs.Plain.{PlainStruct, PlainStorage, static, local, param, register, PlainObject, PlainProgram}
use Rattle.ec_core.specs.PortTable.{plain_table}
use Rattle.ec_core.specs.Valid.{IsAddressable}
use Rattle.ec_locate.specs.Entries.{work_size}
use Rattle.ec_locate.specs.Placing.{object_sizes}
use Rattle.ec_locate.specs.declared.placing.Located.{Located}
use Rattle.ec_lower_code.specs.Code.{lowered}
use Rattle.ec_lower_code.specs.Correct.{IsMadeOf}
use Rattle.ec_map.specs.declared.map.Map.{Map}
use Rattle.ec_select.specs.Laws.{SelectionsAreValid}
use Rattle.ec_build_laws.specs.Laws.{SetsBase}
use Rattle.ec_build_laws.specs.Shortened.{is_in_memory, reach_of, reaches_from, IsShortened, ShortenedIsValid}
use Rattle.ec_build_laws.specs.Translation.{IsTranslated}

-- ---- shortened code can be placed

-- the code with bytes near the base by Y
abbrev based_form : List Reach → AsmProgram → AsmProgram
based_form reaches long = record long { items = record long.items { items = based_items reaches long.items.items } }

based_is_valid : BasedStayValid → (objects : List ℕ) (work : ℕ) (reaches : List Reach) (long : AsmProgram) → ValidAsm objects work long
    → ValidAsm objects work (based_form reaches long)
based_is_valid based objects work reaches long valid =
    based objects work reaches long (based_form reaches long) refl refl refl valid

pub shortened_is_valid : BasedStayValid → NearStayValid → NoMoreBased → NoMoreNear → ShortenedIsValid
shortened_is_valid based near few_based few_near objects work reaches long short h valid =
    let a = few_near (based_items reaches long.items.items) in
    let b = few_based reaches long.items.items in
    let n : code_words short.items.items ≡ code_words (near_items (based_items reaches long.items.items)) = ap code_words h.items in (
      near objects work (based_form reaches long) short h.items h.frames h.entry
          (based_is_valid based objects work reaches long valid),
      omega (arith, a, b, n),
    )

-- the code of a placed program
pub selected_is_valid : SelectionsAreValid → (p : PlainProgram) (m : Map) (asm : AsmProgram) (l : Located) → (h : IsTranslated p m asm l)
    → IsMadeOf p m.io (lowered p (plain_table m.io)) → ValidAsm (object_sizes p) (work_size m.io) h.selected
selected_is_valid selections p m asm l h made =
    selections m.core (length m.io.dynamics.items) (lowered p (plain_table m.io)) h.selected made.valid h.code h.selection

pub short_is_valid : ShortenedIsValid → SelectionsAreValid → (p : PlainProgram) (m : Map) (asm : AsmProgram) (l : Located)
    → IsTranslated p m asm l → IsMadeOf p m.io (lowered p (plain_table m.io)) → ValidAsm (object_sizes p) (work_size m.io) asm
short_is_valid short selections p m asm l h made =
    (short (object_sizes p) (work_size m.io) _ h.selected asm h.shortened (selected_is_valid selections p m asm l h made)).0

-- ---- where it stands

-- the first of some items, and the others behind it
record First (e : Env) (i : AsmItem) (is : List AsmItem) (pc end : ℕ) : Type 0 where
  mid : ℕ
  here : Stands e i pc mid
  rest : HasAt e is mid end

first : (e : Env) (i : AsmItem) (is : List AsmItem) (pc end : ℕ) → HasAt e (i ∷ is) pc end → First e i is pc end
first e i is pc end h = record { mid = h.0; here = h.1; rest = h.2 }

pub record StandLaws : Type 0 where
  pub near : NearCodeStands
  pub used : UsedLabelsHaveWords
  pub based : BasedCodeStands
  pub valid : BasedStayValid

-- the code of the operations stands, and the base is set before it
pub record LongStands (e : Env) (items : List AsmItem) : Type 0 where
  pub begin : ℕ
  pub end : ℕ
  pub stands : HasAt e items begin end
  pub sets : SetsBase e begin

-- code that begins with a label
abbrev pub BeginsWithLabel : List AsmItem → Type 0
BeginsWithLabel items = (l : ℕ) × (rest : List AsmItem) × (items ≡ Label l ∷ rest)

module _ (laws : StandLaws) (objects : List ℕ) (work : ℕ) (reaches : List Reach) (long short : AsmProgram)
    (h : IsShortened reaches long short) (valid : ValidAsm objects work long) (labelled : BeginsWithLabel long.items.items)
    (e : Env) (set : e.base ≡ base_set short.items.items) (reached : AreReached e reaches)
    (stand : HasAt (unbased e) short.items.items 0 (code_words short.items.items))
    (labels : (l : ℕ) → stands_once short.items.items l ≡ true → e.word_of l < 65536) where
  abbrev items : List AsmItem
  items = long.items.items

  abbrev base : ℕ
  base = chosen_base reaches items

  abbrev middle : List AsmItem
  middle = based_items reaches items

  abbrev end : ℕ
  end = 0 + code_words (near_items middle)

  middle_stands : HasAt (unbased e) middle 0 end
  middle_stands =
      let words = laws.used (unbased e) middle (based_is_valid laws.valid objects work reaches long valid).labels
      (λ l t. labels l (subst (λ (is : List AsmItem). stands_once is l ≡ true) (sym h.items) t)) in
      let all = subst (λ (is : List AsmItem). HasAt (unbased e) is 0 (code_words is)) h.items stand in
      laws.near (unbased e) middle 0 words
      (subst (λ n. HasAt (unbased e) (near_items middle) 0 n) (sym (zero-add (code_words (near_items middle)))) all)

  -- ---- by the base

  module _ (below : base < 65536) (leaves : list_all item_leaves_base items ≡ true) (is : middle ≡ with_base reaches base items) where
    base_is : e.base ≡ base
    base_is =
        let b = base in
        let sum : b % 256 + 256 * (b / 256) ≡ b = omega arith in
        set ∙ ap base_set h.items ∙ ap (λ (x : List AsmItem). base_set (near_items x)) is ∙ sum

    by_base : LongStands e items
    by_base =
        let low : AsmItem = Plain (Ldi 28 (base % 256)) in
        let high : AsmItem = Plain (Ldi 29 (base / 256)) in
        let rest = map (based_item reaches base) items in
        let a = first (unbased e) low (high ∷ rest) 0 end (subst (λ (x : List AsmItem). HasAt (unbased e) x 0 end) is middle_stands) in
        let b = first (unbased e) high rest a.mid end a.rest in
        let one : a.mid ≡ 1 = a.here.ends in
        let two : b.mid ≡ 2 = b.here.ends ∙ ap (λ n. n + 1) one in
        let there = subst (λ n. HasAt (unbased e) (map (based_item reaches n) items) b.mid end) (sym base_is) b.rest in
        let here = subst (λ n. HasAt (unbased e) (map (based_item reaches e.base) items) n end) two there in
        let room : e.base < 65536 = omega (arith, base_is, below) in
        record {
          begin = 2;
          end = end;
          stands = laws.based e reaches items 2 end room reached leaves here;
          sets = inr (
            room,
            refl,
            subst (λ n. At (unbased e) (Ldi 28 (n % 256)) 0 1) (sym base_is)
                (subst (λ n. At (unbased e) (Ldi 28 (base % 256)) 0 n) one a.here),
            subst (λ n. At (unbased e) (Ldi 29 (n / 256)) 1 2) (sym base_is)
                (subst (λ n. At (unbased e) (Ldi 29 (base / 256)) 1 n) two
                (subst (λ n. At (unbased e) (Ldi 29 (base / 256)) n b.mid) one b.here)),
          );
        }

  -- ---- or as it is

  as_it_is : middle ≡ items → LongStands e items
  as_it_is is =
      let free : e.base ≡ 65536 =
      set ∙ ap base_set h.items ∙ ap (λ (x : List AsmItem). base_set (near_items x)) (is ∙ labelled.2) in
      record {
        begin = 0;
        end = end;
        stands = subst (λ n. HasAt (record e { base = n }) items 0 end) (sym free)
            (subst (λ (x : List AsmItem). HasAt (unbased e) x 0 end) is middle_stands);
        sets = inl (omega (arith, free), refl);
      }

  pub long_stands : LongStands e items
  long_stands = by_test (is_based reaches items) refl where
    chosen : (b : Bool) → is_based reaches items ≡ b → middle ≡ (if b then with_base reaches base items else items)
    chosen b q = ap (λ (c : Bool). if c then with_base reaches base items else items) q

    by_test : (b : Bool) → is_based reaches items ≡ b → LongStands e items
    by_test true q =
        let a = and_parts (nat_lt base 65536 && nat_lt 2 (uses reaches items base)) (list_all item_leaves_base items) q in
        let c = and_parts (nat_lt base 65536) (nat_lt 2 (uses reaches items base)) a.0 in
        by_base (ltb-true base 65536 c.0) a.1 (chosen true q)
    by_test false q = as_it_is (chosen false q)

-- ---- what Y reaches

pub memory_told : (s : PlainStorage) (home : Home) → is_in_memory s home ≡ true → (bank_of home ≡ Data) × IsAddressable s
memory_told (static inits) DataHome h = (refl, tt)
memory_told (local f) DataHome h = (refl, tt)
memory_told (param f) DataHome h = (refl, tt)
memory_told (static inits) FlashHome h = absurd (false≢true h)
memory_told (static inits) FarHome h = absurd (false≢true h)
memory_told (local f) FlashHome h = absurd (false≢true h)
memory_told (local f) FarHome h = absurd (false≢true h)
memory_told (param f) FlashHome h = absurd (false≢true h)
memory_told (param f) FarHome h = absurd (false≢true h)
memory_told (register r) home h = absurd (false≢true h)

-- each is that of an object
pub reach_found : (structs : List PlainStruct) (places : List Place) (i : ℕ) (os : List PlainObject) (o : ℕ) (r : Reach)
    → slice_get (reaches_from structs places i os) o ≡ Some r
    → (d : PlainObject) × (slice_get os o ≡ Some d) × (r ≡ reach_of structs d (slice_get places (i + o)))
reach_found structs places i [] o r h = absurd cc
reach_found structs places i (d ∷ os) zero r h =
    let is : reach_of structs d (slice_get places i) ≡ r = cc in
    let sum : i ≡ i + 0 = omega arith in
    (d, refl, subst (λ n. r ≡ reach_of structs d (slice_get places n)) sum (sym is))
reach_found structs places i (d ∷ os) (suc o) r h =
    let rest = reach_found structs places (i + 1) os o r h in
    let sum : i + 1 + o ≡ i + suc o = omega arith in
    (rest.0, rest.1, rest.2 ∙ ap (λ n. reach_of structs rest.0 (slice_get places n)) sum)
