-- The regions of a table that breaks no rule.
use Rattle.std.proofs.Common.{◌≡◌, ℕ, ◌%◌, ◌≤◌, ◌⊎◌, inl, inr, Bool, true, false, ◌&&◌, ◌||◌, ◌==◌, nat_le, Option, Some, None, codes, refl}
use Rattle.std.proofs.Common.{⊎_elim}
use Rattle.std.proofs.lemmas.Bool.{and_parts, leb-true, eqb-true}
use Rattle.std.specs.Prelude.{option_and_then, if◌then◌else◌}
use Rattle.std.specs.Option.{option_map_or}
use Rattle.toml.specs.Data.{Data, Items, no_items, item, get, as_array}
use Rattle.ec_space.specs.Memory.{flash_size, data_size}
use Rattle.ec_space.specs.declared.Core.{Core}
use Rattle.ec_space.specs.declared.Core.TheVariants.{Small, Large}
use Rattle.ec_space.specs.declared.space.Home.TheVariants.{Flash as FlashHome, Far as FarHome}
use Rattle.ec_map.specs.Values.{number_of}
use Rattle.ec_map.specs.Cores.{core_of, home_end}
use Rattle.ec_map.specs.Regions.{end_of, bytes_from, region_in, region_of, no_bytes, five, regions_in, regions_of, lies_in, are_in_flash}
use Rattle.ec_map.specs.Regions.{are_in_sram, are_in_banks, is_code, share_no_byte, are_apart, LiesIn, AreApart, ValidRegions}
use Rattle.ec_map.specs.Rules.{kept, broken}
use Rattle.ec_map.specs.declared.region.Region.{Region}
use Rattle.ec_map.specs.declared.region.Regions.{Regions}
use Rattle.ec_map.proofs.Kept.{rules_kept, kept_at}

-- ---- each has a byte at least

abbrev pub IsSized : Option Region → Type 0
IsSized None = Unit {0}
IsSized (Some r) = 1 ≤ r.size

abbrev AreSized : Option Regions → Type 0
AreSized None = Unit {0}
AreSized (Some r) = ((1 ≤ r.code.size) × (1 ≤ r.tables.size)) × ((1 ≤ r.vars.size) × (1 ≤ r.stack.size))

sized_where : (b : Bool) (first size : ℕ) → (b ≡ true → 1 ≤ size)
    → IsSized (if b then Some (record { first = first; size = size }) else None)
sized_where true first size h = h refl
sized_where false first size h = tt

bytes_sized : (first size : Option ℕ) → IsSized (bytes_from first size)
bytes_sized None o = tt
bytes_sized (Some a) None = tt
bytes_sized (Some a) (Some b) = sized_where (nat_le 1 b) a b (leb-true 1 b)

in_sized : (items : Items) → IsSized (region_in items)
in_sized no_items = tt
in_sized (item a no_items) = tt
in_sized (item a (item b no_items)) = bytes_sized (number_of 131072 a) (number_of 131072 b)
in_sized (item a (item b (item c more))) = tt

array_sized : (o : Option Items) → IsSized (option_and_then region_in o)
array_sized None = tt
array_sized (Some items) = in_sized items

value_sized : (o : Option Data) → IsSized (option_and_then region_of o)
value_sized None = tt
value_sized (Some d) = array_sized (as_array d)

five_sized : (a b f c e : Option Region) → IsSized a → IsSized b → IsSized c → IsSized e → AreSized (five a b f c e)
five_sized None b f c e p q r s = tt
five_sized (Some x) None f c e p q r s = tt
five_sized (Some x) (Some y) None c e p q r s = tt
five_sized (Some x) (Some y) (Some v) None e p q r s = tt
five_sized (Some x) (Some y) (Some v) (Some z) None p q r s = tt
five_sized (Some x) (Some y) (Some v) (Some z) (Some w) p q r s = ((p, q), (r, s))

table_sized : (core : Core) (o : Option Data) → AreSized (option_and_then (regions_in core) o)
table_sized core None = tt
table_sized core (Some d) =
    let at : (key : Option Data) → IsSized (option_and_then region_of key) = value_sized in
    five_sized _ _ _ _ _ (at (get (codes "code") d)) (at (get (codes "tables") d)) (at (get (codes "data") d)) (at (get (codes "stack") d))

-- ---- there is no region `far` on the core `small`

abbrev HasNoFar : Option Regions → Type 0
HasNoFar None = Unit {0}
HasNoFar (Some r) = r.far.size ≡ 0

five_without_far : (a b f c e : Option Region) → ((r : Region) → f ≡ Some r → r.size ≡ 0) → HasNoFar (five a b f c e)
five_without_far None b f c e h = tt
five_without_far (Some x) None f c e h = tt
five_without_far (Some x) (Some y) None c e h = tt
five_without_far (Some x) (Some y) (Some v) None e h = tt
five_without_far (Some x) (Some y) (Some v) (Some z) None h = tt
five_without_far (Some x) (Some y) (Some v) (Some z) (Some w) h = h v refl

is_no_bytes : (r : Region) → Some no_bytes ≡ Some r → r.size ≡ 0
is_no_bytes r h = let same : no_bytes ≡ r = cc in rw (← same) refl

table_without_far : (core : Core) (o : Option Data) → core ≡ Small → HasNoFar (option_and_then (regions_in core) o)
table_without_far core None h = tt
table_without_far Small (Some d) h = five_without_far _ _ _ _ _ is_no_bytes
table_without_far Large (Some d) h = cc

-- ---- what the tests say

within : (from to : ℕ) (r : Region) → 1 ≤ r.size → lies_in from to r ≡ true → LiesIn from to r
within from to r some h =
    let (a, b) = and_parts (nat_le from r.first) (nat_le (end_of r) to) h in
    record { from_there = leb-true from r.first a; some = some; ends = leb-true (end_of r) to b }

either : (a b : Bool) → (a || b) ≡ true → (a ≡ true) ⊎ (b ≡ true)
either true b h = inl refl
either false b h = inr h

apart : (a b : Region) → share_no_byte a b ≡ true → AreApart a b
apart a b h =
    ⊎_elim (λ l. inl (leb-true (end_of a) b.first l)) (λ r. inr (leb-true (end_of b) a.first r))
    (either (nat_le (end_of a) b.first) (nat_le (end_of b) a.first) h)

valid : (core : Core) (r : Regions) → AreSized (Some r) → (core ≡ Small → r.far.size ≡ 0) → are_in_banks core r ≡ true
    → is_code r ≡ true → are_apart r ≡ true → ValidRegions core r
valid core r sized no_far banks code apart_all =
    let (flash, sram) = and_parts (are_in_flash core r) (are_in_sram core r) banks in
    let in_code = lies_in 0 (flash_size core) r.code in
    let in_tables = lies_in 0 (home_end FlashHome core) r.tables in
    let in_far = lies_in 0 (home_end FarHome core) r.far in
    let (near, far) = and_parts (in_code && in_tables) in_far flash in
    let (a, b) = and_parts in_code in_tables near in
    let (c, e) = and_parts (lies_in 256 (data_size core) r.vars) (lies_in 256 (data_size core) r.stack) sram in
    let (start, whole) = and_parts (r.code.first == 0) (r.code.size % 2 == 0) code in
    let tables_apart = share_no_byte r.code r.tables in
    let code_apart = share_no_byte r.code r.far in
    let far_apart = share_no_byte r.tables r.far in
    let (f, s) = and_parts ((tables_apart && code_apart) && far_apart) (share_no_byte r.vars r.stack) apart_all in
    let (g, h) = and_parts (tables_apart && code_apart) far_apart f in
    let (i, j) = and_parts tables_apart code_apart g in
    record {
      code = within 0 (flash_size core) r.code sized.0.0 a;
      tables = within 0 (home_end FlashHome core) r.tables sized.0.1 b;
      far = λ some. record {
        lies = within 0 (home_end FarHome core) r.far some far;
        code_apart = apart r.code r.far j;
        tables_apart = apart r.tables r.far h;
      };
      no_far = no_far;
      vars = within 256 (data_size core) r.vars sized.1.0 c;
      stack = within 256 (data_size core) r.stack sized.1.1 e;
      start = eqb-true r.code.first 0 start;
      whole_words = eqb-true (r.code.size % 2) 0 whole;
      flash_apart = apart r.code r.tables i;
      sram_apart = apart r.vars r.stack s;
    }

pub regions_valid : (d : Data) (r : Regions) → broken d ≡ None → regions_of (core_of d) d ≡ Some r → ValidRegions (core_of d) r
regions_valid d r h told =
    let core = core_of d in
    let all = rules_kept d h in
    let banks : option_map_or (are_in_banks core) (regions_of core d) false ≡ true = kept_at (kept d) 4 all in
    let code : option_map_or is_code (regions_of core d) false ≡ true = kept_at (kept d) 5 all in
    let separate : option_map_or are_apart (regions_of core d) false ≡ true = kept_at (kept d) 6 all in
    let sized : AreSized (regions_of core d) = table_sized core (get (codes "region") d) in
    let no_far : core ≡ Small → HasNoFar (regions_of core d) = table_without_far core (get (codes "region") d) in
    valid core r (rw told at sized) (λ small. let none = no_far small in rw told at none) (rw told at banks) (rw told at code)
    (rw told at separate)
