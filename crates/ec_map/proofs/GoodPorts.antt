-- The ports, groups, dynamic groups and places of a table that breaks no rule.
use Rattle.std.proofs.Common.{◌≡◌, ◌≢◌, ℕ, zero, suc, ◌+◌, ◌-◌, ◌*◌, ◌<◌, ◌≤◌, ◌⊎◌, inl, inr, ℤ, pos, negsuc, Bool, true, false, not, ◌&&◌}
use Rattle.std.proofs.Common.{◌||◌, ◌==◌, nat_le, cond, List, [], ◌∷◌, length, map, Option, Some, None, codes, add-zero, refl, sym, ◌∙◌}
use Rattle.std.proofs.Common.{arith}
use Rattle.std.proofs.Math.Logic.{⊎_elim}
use Rattle.std.proofs.lemmas.Bool.{and_parts, leb-true, ltb-true, eqb-true, eqb-false, false≢true}
use Rattle.std.proofs.lemmas.List.{length-map}
use Rattle.std.proofs.lemmas.List.Elements.{All-nil, All-cons, All-map}
use Rattle.std.proofs.lemmas.List.Kept.{AllPairs-cons}
use Rattle.std.proofs.lemmas.Option.{slice_get-map}
use Rattle.std.proofs.lemmas.Slice.Eq.{bytes_eq-Decides}
use Rattle.std.specs.Prelude.{nat_lt, option_and_then, option_map, unwrap_or, is_some, slice_get, if◌then◌else◌, IfSome, IsTrue, AllPairs}
use Rattle.std.specs.Option.{option_map_or}
use Rattle.std.specs.List.{All, list_all, list_any, position, position_or_len, range_with_len}
use Rattle.std.specs.Str.{bytes_eq}
use Rattle.toml.specs.Data.{Data, string, integer, float, boolean, datetime, array, table, no_items, item, as_integer, as_str}
use Rattle.ec_space.specs.declared.Core.{Core}
use Rattle.ec_avr.specs.State.{is_port, is_core_register}
use Rattle.ec_iohw.specs.Names.{is_identifier}
use Rattle.ec_iohw.specs.Valid.{AreApart, AreDistinct, bases_of}
use Rattle.ec_iohw.specs.declared.table.Dynamic.{Dynamic}
use Rattle.ec_map.specs.Cores.{last_place}
use Rattle.ec_map.specs.Values.{bounded, number_of, values_at, text_at}
use Rattle.ec_map.specs.Rules.{are_distinct, name_of, has_name, width_of, count_of, address_of, byte_at, has_size, has_ports}
use Rattle.ec_map.specs.Rules.{group_named, is_called, dynamic_named, dynamic_of, is_dynamic, has_address, is_write, is_port_pair}
use Rattle.ec_map.specs.Rules.{has_writes, is_place, group_by, is_choice, group_in, base_in, meet, stand_once, are_choices, are_few}
use Rattle.ec_map.specs.Rules.{choices_of, has_choices, choices_for, has_ports_from}
use Rattle.ec_map.specs.Maps.{PortView, GroupView, DynamicView, PlaceView, port_of, pair_of, port_group_of, choice_of, dynamic_group_of}
use Rattle.ec_map.specs.Maps.{dynamic_view, place_of, WritesPorts}
use Rattle.ec_map.proofs.Made.{all_passing}

-- ---- names

neither : (a b : Bool) → (a || b) ≡ false → (a ≡ false) × (b ≡ false)
neither true b h = absurd (false≢true (sym h))
neither false b h = (refl, h)

not_so : (b : Bool) → not b ≡ true → b ≡ false
not_so true h = absurd (false≢true h)
not_so false h = refl

none_same : (name : List ℕ) (names : List (List ℕ)) → list_any (bytes_eq name) names ≡ false → All (λ other. name ≢ other) names
none_same name [] h = All-nil (λ other. name ≢ other)
none_same name (other ∷ names) h =
    let (here, more) = neither (bytes_eq name other) (list_any (bytes_eq name) names) h in
    All-cons (λ o. name ≢ o) other names (λ same. false≢true (sym here ∙ (bytes_eq-Decides name other).1 same)) (none_same name names more)

pub distinct : (names : List (List ℕ)) → are_distinct names ≡ true → AreDistinct names
distinct [] h = tt
distinct (name ∷ names) h =
    let (new, more) = and_parts (not (list_any (bytes_eq name) names)) (are_distinct names) h in
    (none_same name names (not_so (list_any (bytes_eq name) names) new), distinct names more)

-- ---- ports

pub range_all : (p : ℕ → Bool) (a n : ℕ) → list_all p (range_with_len a n) ≡ true → (k : ℕ) → k < n → p (a + k) ≡ true
range_all p a zero h k l = absurd (omega arith)
range_all p a (suc n) h zero l = rw (add-zero a) ((and_parts (p a) (list_all p (range_with_len (a + 1) n)) h).0)
range_all p a (suc n) h (suc k) l =
    let rest = (and_parts (p a) (list_all p (range_with_len (a + 1) n)) h).1 in
    let e : a + 1 + k ≡ a + suc k = omega arith in
    rw (← e) (range_all p (a + 1) n rest k (omega arith))

-- what the address of a port counts from
abbrev pub bases_in : List DynamicView → Option ℕ → List ℕ
bases_in dynamics None = 0 ∷ []
bases_in dynamics (Some d) = unwrap_or (option_map (λ v. map (λ c. c.base) v.choices) (slice_get dynamics d)) []

-- it is what it counts from in the table of the map
pub bases_viewed : (dynamics : List Dynamic) (o : Option ℕ) → bases_of dynamics o ≡ bases_in (map dynamic_view dynamics) o
bases_viewed dynamics None = refl
bases_viewed dynamics (Some k) = rw (slice_get-map dynamic_view dynamics k) (here (slice_get dynamics k)) where
  here : (o : Option Dynamic)
      → unwrap_or (option_map (λ x. map (λ c. c.base) x.choices.items) o) []
      ≡ unwrap_or (option_map (λ v. map (λ c. c.base) v.choices) (option_map dynamic_view o)) []
  here None = refl
  here (Some d) = refl

-- what holds of a port
pub record GoodPort (core : Core) (groups : ℕ) (dynamics : List DynamicView) (q : PortView) : Type 0 where
  pub width : (q.width ≡ 1) ⊎ ((q.width ≡ 2) ⊎ (q.width ≡ 4))
  pub some : 1 ≤ q.count
  pub most : q.count ≤ 220
  pub last : All (λ base. base + q.address + q.width * q.count ≤ 256) (bases_in dynamics q.dynamic)
  pub group : IfSome q.group (λ group. group < groups)
  pub dynamic : IfSome q.dynamic (λ d. d < length dynamics)
  pub ports : All (λ base. (k : ℕ) → k < q.width * q.count → is_port core (base + q.address + k) ≡ true) (bases_in dynamics q.dynamic)

either_true : (a b : Bool) → (a || b) ≡ true → (a ≡ true) ⊎ (b ≡ true)
either_true true b h = inl refl
either_true false b h = inr h

widths : (w : ℕ) → ((w == 1) || ((w == 2) || (w == 4))) ≡ true → (w ≡ 1) ⊎ ((w ≡ 2) ⊎ (w ≡ 4))
widths w h =
    ⊎_elim (λ a. inl (eqb-true w 1 a))
    (λ r. inr (⊎_elim (λ b. inl (eqb-true w 2 b)) (λ c. inr (eqb-true w 4 c)) (either_true (w == 2) (w == 4) r)))
    (either_true (w == 1) ((w == 2) || (w == 4)) h)

some_bytes : (w c : ℕ) → (w ≡ 1) ⊎ ((w ≡ 2) ⊎ (w ≡ 4)) → 1 ≤ c → 1 ≤ w * c
some_bytes w c which l =
    ⊎_elim (λ e. rw e (omega arith)) (λ r. ⊎_elim (λ e. rw e (omega arith)) (λ e. rw e (omega arith)) r) which

last_below : (core : Core) (a n : ℕ) → 1 ≤ n → ((k : ℕ) → k < n → is_port core (a + k) ≡ true) → a + n ≤ 256
last_below core a n some all =
    let at = a + (n - 1) in
    let port = all (n - 1) (omega arith) in
    let low = ltb-true at 256 (and_parts (nat_lt at 256) (not (is_core_register core at)) port).0 in
    omega (arith, low)

where_within : (b : Bool) (n most : ℕ) → (b ≡ true → n < most) → IfSome (cond b (Some n) None) (λ i. i < most)
where_within true n most h = h refl
where_within false n most h = tt

position_within : {X : Type 0} (p : X → Bool) (xs : List X) → IfSome (position p xs) (λ i. i < length xs)
position_within p xs =
    let n = position_or_len p xs in
    where_within (nat_lt n (length xs)) n (length xs) (ltb-true n (length xs))

group_within : (gs : List Data) (o : Option (List ℕ)) → IfSome (option_and_then (group_named gs) o) (λ i. i < length gs)
group_within gs None = tt
group_within gs (Some name) = position_within (λ g. bytes_eq (name_of g) name) gs

dynamic_within : (ds : List Data) (o : Option (List ℕ)) → IfSome (option_and_then (dynamic_named ds) o) (λ i. i < length ds)
dynamic_within ds None = tt
dynamic_within ds (Some name) = position_within (is_called name) ds

-- from each base that the address of a port counts from, its bytes are ports
abbrev HasPortsFrom : Core → Data → List ℕ → Type 0
HasPortsFrom core d bases = All (λ base. has_ports core base d ≡ true) bases

from_choices : (core : Core) (gs cs : List Data) (d : Data) → has_ports_from core cs d ≡ true
    → HasPortsFrom core d (map (λ c. c.base) (map (choice_of gs) cs))
from_choices core gs cs d h =
    All-map (λ base. has_ports core base d ≡ true) (λ c. c.base) (map (choice_of gs) cs)
    (All-map (λ c. has_ports core c.base d ≡ true) (choice_of gs) cs
    (all_passing (λ c. has_ports core (base_in c) d ≡ true) (λ c. has_ports core (base_in c) d) (λ c own. own) cs h))

from_bases : (core : Core) (gs ds : List Data) (d : Data) (o : Option ℕ) → (is_some o || has_ports core 0 d) ≡ true
    → has_ports_from core (option_map_or choices_of (option_and_then (slice_get ds) o) []) d ≡ true
    → HasPortsFrom core d (bases_in (map (dynamic_group_of gs) ds) o)
from_bases core gs ds d None h own = All-cons (λ base. has_ports core base d ≡ true) 0 [] h (All-nil (λ base. has_ports core base d ≡ true))
from_bases core gs ds d (Some k) h own = rw (slice_get-map (dynamic_group_of gs) ds k) (here (slice_get ds k) own) where
  here : (o : Option Data) → has_ports_from core (option_map_or choices_of o []) d ≡ true
      → HasPortsFrom core d (unwrap_or (option_map (λ v. map (λ c. c.base) v.choices) (option_map (dynamic_group_of gs) o)) [])
  here None own = All-nil (λ base. has_ports core base d ≡ true)
  here (Some x) own = from_choices core gs (choices_of x) d own

good_port : (core : Core) (gs ds : List Data) (d : Data) → has_size d ≡ true → has_address core ds d ≡ true
    → has_ports_from core (choices_for ds d) d ≡ true
    → GoodPort core (length gs) (map (dynamic_group_of gs) ds) (port_of gs ds d)
good_port core gs ds d size address bound =
    let w = width_of d in
    let c = count_of d in
    let (a, b) = and_parts ((w == 1) || ((w == 2) || (w == 4))) (nat_le 1 c && nat_le c 220) size in
    let (least, most) = and_parts (nat_le 1 c) (nat_le c 220) b in
    let which = widths w a in
    let some = leb-true 1 c least in
    let (_, standing) = and_parts (is_some (byte_at (codes "address") d)) (is_dynamic ds d || has_ports core 0 d) address in
    let from = from_bases core gs ds d (dynamic_of ds d) standing bound in
    let all : (base : ℕ) → has_ports core base d ≡ true → (k : ℕ) → k < w * c → is_port core (base + address_of d + k) ≡ true =
    λ base h. range_all (is_port core) (base + address_of d) (w * c) h in
    record {
      width = which;
      some = some;
      most = leb-true c 220 most;
      last = λ i e l. last_below core _ (w * c) (some_bytes w c which some) (all _ (from i e l));
      group = group_within gs (text_at (codes "group") d);
      dynamic = rw (length-map ds (dynamic_group_of gs)) (dynamic_within ds (text_at (codes "group") d));
      ports = λ i e l. all _ (from i e l);
    }

pub good_ports : (core : Core) (gs ds ps : List Data) → list_all has_size ps ≡ true → list_all (has_address core ds) ps ≡ true
    → list_all (λ p. has_ports_from core (choices_for ds p) p) ps ≡ true
    → All (GoodPort core (length gs) (map (dynamic_group_of gs) ds)) (map (port_of gs ds) ps)
good_ports core gs ds [] size address bound = All-nil (GoodPort core (length gs) (map (dynamic_group_of gs) ds))
good_ports core gs ds (p ∷ ps) size address bound =
    let (a, b) = and_parts (has_size p) (list_all has_size ps) size in
    let (c, e) = and_parts (has_address core ds p) (list_all (has_address core ds) ps) address in
    let (f, g) = and_parts (has_ports_from core (choices_for ds p) p) (list_all (λ p. has_ports_from core (choices_for ds p) p) ps) bound in
    All-cons (GoodPort core (length gs) (map (dynamic_group_of gs) ds)) (port_of gs ds p) (map (port_of gs ds) ps)
    (good_port core gs ds p a c f) (good_ports core gs ds ps b e g)

-- ---- groups

write_port : (core : Core) (x y : Option ℕ) → is_write core x y ≡ true → is_port core (unwrap_or x 0) ≡ true
write_port core None y h = absurd (false≢true h)
write_port core (Some p) None h = absurd (false≢true h)
write_port core (Some p) (Some b) h = h

port_pair : (core : Core) (d : Data) → is_port_pair core d ≡ true → is_port core (pair_of d).port ≡ true
port_pair core (array no_items) h = absurd (false≢true h)
port_pair core (array (item a no_items)) h = absurd (false≢true h)
port_pair core (array (item a (item b no_items))) h = write_port core (number_of 255 a) (number_of 255 b) h
port_pair core (array (item a (item b (item c more)))) h = absurd (false≢true h)
port_pair core (string s) h = absurd (false≢true h)
port_pair core (integer z) h = absurd (false≢true h)
port_pair core (float x) h = absurd (false≢true h)
port_pair core (boolean b) h = absurd (false≢true h)
port_pair core (datetime dt) h = absurd (false≢true h)
port_pair core (table ms) h = absurd (false≢true h)

pairs_to_ports : (core : Core) (ds : List Data) → list_all (is_port_pair core) ds ≡ true → WritesPorts core (map pair_of ds)
pairs_to_ports core ds h =
    All-map (λ pair. IsTrue (is_port core pair.port)) pair_of ds
    (all_passing (λ d. IsTrue (is_port core (pair_of d).port)) (is_port_pair core) (port_pair core) ds h)

abbrev pub GoodGroup : Core → GroupView → Type 0
GoodGroup core g = WritesPorts core g.acquire × WritesPorts core g.release

good_group : (core : Core) (d : Data) → has_writes core d ≡ true → GoodGroup core (port_group_of d)
good_group core d h =
    let acquired = values_at (codes "acquire") d in
    let released = values_at (codes "release") d in
    let (a, b) = and_parts (list_all (is_port_pair core) acquired) (list_all (is_port_pair core) released) h in
    (pairs_to_ports core acquired a, pairs_to_ports core released b)

pub good_groups : (core : Core) (ds : List Data) → list_all (has_writes core) ds ≡ true → All (GoodGroup core) (map port_group_of ds)
good_groups core ds h =
    All-map (GoodGroup core) port_group_of ds
    (all_passing (λ d. GoodGroup core (port_group_of d)) (has_writes core) (good_group core) ds h)

-- ---- dynamic groups

-- what holds of a dynamic group
pub record GoodDynamic (groups : ℕ) (v : DynamicView) : Type 0 where
  pub named : is_identifier v.name ≡ true
  pub some : 1 ≤ length v.choices
  pub most : length v.choices ≤ 8
  pub within : All (λ c. c.group < groups) v.choices
  pub apart : AllPairs AreApart v.choices

found_within : (o : Option ℕ) (n : ℕ) → IfSome o (λ i. i < n) → is_some o ≡ true → unwrap_or o 0 < n
found_within None n h some = absurd (false≢true some)
found_within (Some i) n h some = h

choice_within : (gs : List Data) (d : Data) → is_choice gs d ≡ true → group_in gs d < length gs
choice_within gs (array no_items) h = absurd (false≢true h)
choice_within gs (array (item g no_items)) h = absurd (false≢true h)
choice_within gs (array (item g (item b no_items))) h =
    found_within (group_by gs g) (length gs) (group_within gs (as_str g)) (and_parts (is_some (group_by gs g)) (is_some (number_of 255 b)) h).0
choice_within gs (array (item g (item b (item x more)))) h = absurd (false≢true h)
choice_within gs (string s) h = absurd (false≢true h)
choice_within gs (integer z) h = absurd (false≢true h)
choice_within gs (float x) h = absurd (false≢true h)
choice_within gs (boolean b) h = absurd (false≢true h)
choice_within gs (datetime dt) h = absurd (false≢true h)
choice_within gs (table ms) h = absurd (false≢true h)

none_met : (gs : List Data) (c : Data) (ds : List Data) → list_any (meet gs c) ds ≡ false
    → All (AreApart (choice_of gs c)) (map (choice_of gs) ds)
none_met gs c [] h = All-nil (AreApart (choice_of gs c))
none_met gs c (d ∷ ds) h =
    let (here, more) = neither (meet gs c d) (list_any (meet gs c) ds) h in
    let (g, b) = neither (group_in gs c == group_in gs d) (base_in c == base_in d) here in
    All-cons (AreApart (choice_of gs c)) (choice_of gs d) (map (choice_of gs) ds)
    (record { groups = eqb-false (group_in gs c) (group_in gs d) g; bases = eqb-false (base_in c) (base_in d) b }) (none_met gs c ds more)

apart_choices : (gs ds : List Data) → stand_once gs ds ≡ true → AllPairs AreApart (map (choice_of gs) ds)
apart_choices gs [] h = λ i j e l m. absurd (omega arith)
apart_choices gs (d ∷ ds) h =
    let (new, more) = and_parts (not (list_any (meet gs d) ds)) (stand_once gs ds) h in
    AllPairs-cons AreApart (choice_of gs d) (map (choice_of gs) ds) (none_met gs d ds (not_so (list_any (meet gs d) ds) new))
    (apart_choices gs ds more)

good_dynamic : (gs : List Data) (d : Data) → has_name d ≡ true → has_choices gs d ≡ true → GoodDynamic (length gs) (dynamic_group_of gs d)
good_dynamic gs d name choices =
    let cs = choices_of d in
    let (few, all) = and_parts (are_few cs) (are_choices gs cs) choices in
    let (least, most) = and_parts (nat_le 1 (length cs)) (nat_le (length cs) 8) few in
    let (each, once) = and_parts (list_all (is_choice gs) cs) (stand_once gs cs) all in
    record {
      named = name;
      some = rw (length-map cs (choice_of gs)) (leb-true 1 (length cs) least);
      most = rw (length-map cs (choice_of gs)) (leb-true (length cs) 8 most);
      within = All-map (λ c. c.group < length gs) (choice_of gs) cs
          (all_passing (λ c. group_in gs c < length gs) (is_choice gs) (choice_within gs) cs each);
      apart = apart_choices gs cs once;
    }

pub good_dynamics : (gs ds : List Data) → list_all has_name ds ≡ true → list_all (has_choices gs) ds ≡ true
    → All (GoodDynamic (length gs)) (map (dynamic_group_of gs) ds)
good_dynamics gs [] names choices = All-nil (GoodDynamic (length gs))
good_dynamics gs (d ∷ ds) names choices =
    let (a, b) = and_parts (has_name d) (list_all has_name ds) names in
    let (c, e) = and_parts (has_choices gs d) (list_all (has_choices gs) ds) choices in
    All-cons (GoodDynamic (length gs)) (dynamic_group_of gs d) (map (dynamic_group_of gs) ds) (good_dynamic gs d a c)
    (good_dynamics gs ds b e)

-- ---- places

abbrev pub GoodPlace : Core → PlaceView → Type 0
GoodPlace core p = (1 ≤ p.at) × (p.at ≤ last_place core)

low_place : (o : Option ℕ) → option_map_or (nat_le 1) o false ≡ true → 1 ≤ unwrap_or o 0
low_place None h = absurd (false≢true h)
low_place (Some n) h = leb-true 1 n h

where_most : (b : Bool) (n most : ℕ) → (b ≡ true → n ≤ most) → unwrap_or (if b then Some n else None) 0 ≤ most
where_most true n most h = h refl
where_most false n most h = omega arith

high_place : (most : ℕ) (o : Option ℤ) → unwrap_or (option_and_then (bounded most) o) 0 ≤ most
high_place most None = omega arith
high_place most (Some (pos n)) = where_most (nat_le n most) n most (leb-true n most)
high_place most (Some (negsuc n)) = omega arith

good_place : (core : Core) (e : List ℕ × Data) → is_place core e.1 ≡ true → GoodPlace core (place_of core e)
good_place core e h = (low_place (number_of (last_place core) e.1) h, high_place (last_place core) (as_integer e.1))

pub good_places : (core : Core) (es : List (List ℕ × Data)) → list_all (λ e. is_place core e.1) es ≡ true
    → All (GoodPlace core) (map (place_of core) es)
good_places core es h =
    All-map (GoodPlace core) (place_of core) es
    (all_passing (λ e. GoodPlace core (place_of core e)) (λ e. is_place core e.1) (good_place core) es h)
