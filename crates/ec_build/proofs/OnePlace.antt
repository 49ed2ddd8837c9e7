-- Where a program stands by maps that differ in the room of their lists alone.
use Rattle.std.proofs.Common.{◌≡◌, ℕ, List, [], ◌∷◌, Bool, true, false, Option, Some, None, refl, sym, ◌∙◌, map}
use Rattle.std.specs.Prelude.{cond, if◌then◌else◌, option_map, ◌+◌, ◌-◌}
use Rattle.std.specs.List.{find}
use Rattle.std.specs.Str.{bytes_eq}
use Rattle.ec_asm.specs.declared.items.AsmItem.{AsmItem}
use Rattle.ec_check_recursion.specs.Rows.{rows_of_program}
use Rattle.ec_core.specs.Layout.{size_of_type}
use Rattle.ec_core.specs.Plain.{PlainStruct, PlainStorage, static, local, param, register}
use Rattle.ec_core.specs.Plain.{PlainObject, PlainProgram}
use Rattle.ec_map.specs.Maps.{PlaceView, place_view}
use Rattle.ec_map.specs.declared.map.Fixed1.{Fixed1}
use Rattle.ec_map.specs.declared.map.Map.{Map}
use Rattle.ec_locate.specs.Entries.{fixed_place, fixed_or_packed, kept_by, is_static, entry_of, entries, flash_sizes, data_sizes, owned_of}
use Rattle.ec_locate.specs.Entries.{local_size, scratch_size}
use Rattle.ec_overlay.specs.Frames.{begin_of, need_of}
use Rattle.ec_overlay.specs.Objects.{object_at}
use Rattle.ec_locate.specs.Image.{image}
use Rattle.ec_locate.specs.Layout.{places_from, initials_from, frames_from, layout}
use Rattle.ec_locate.specs.Placing.{last_of}
use Rattle.ec_build.proofs.OneMap.{SameMaps}

-- ---- objects that a map places

seen_place : List PlaceView → List ℕ → Option ℕ
seen_place [] name = None
seen_place (p ∷ ps) name = cond (bytes_eq p.name name) (Some p.at) (seen_place ps name)

map_cond : {A B : Type 0} (f : A → B) (b : Bool) (x : A) (o : Option A)
    → option_map f (cond b (Some x) o) ≡ cond b (Some (f x)) (option_map f o)
map_cond f true x o = refl
map_cond f false x o = refl

seen : (ps : List Fixed1) (name : List ℕ) → fixed_place ps name ≡ seen_place (map place_view ps) name
unfolding seen_place
seen [] name = refl
seen (p ∷ ps) name =
    map_cond (λ (q : Fixed1). q.at) (bytes_eq p.name.items name) p (find (λ q. bytes_eq q.name.items name) ps)
    ∙ (λ j. cond (bytes_eq p.name.items name) (Some p.at) (seen ps name j))

module _ (m n : Map) (same : SameMaps m n) where
  fixed_same : (name : List ℕ) → fixed_place m.places.items name ≡ fixed_place n.places.items name
  fixed_same name =
      seen m.places.items name ∙ (λ j. seen_place (same.places j) name) ∙ sym (seen n.places.items name)

  kept_same : (external : Bool) (name : List ℕ) (storage : PlainStorage)
      → kept_by m.places.items external name storage ≡ kept_by n.places.items external name storage
  kept_same external name (static inits) = λ j. if external then fixed_or_packed (fixed_same name j) else fixed_or_packed None
  kept_same external name (local f) = refl
  kept_same external name (param f) = refl
  kept_same external name (register first) = refl

  entry_same : (structs : List PlainStruct) (o : PlainObject)
      → entry_of structs m.places.items o ≡ entry_of structs n.places.items o
  entry_same structs o =
      λ j. record {
        size = size_of_type structs o.ty;
        home = o.home;
        is_static = is_static o.storage;
        kept = kept_same o.external o.name o.storage j;
      }

  entries_same : (p : PlainProgram) → entries m.places.items p ≡ entries n.places.items p
  entries_same p = λ j. map (λ (o : PlainObject). entry_same p.structs o j) p.objects

  -- ---- the layout and the image

  layout_same : (p : PlainProgram) (frames : List ℕ)
      → layout m (rows_of_program p) (entries m.places.items p) frames ≡ layout n (rows_of_program p) (entries n.places.items p) frames
  layout_same p frames =
      let rows = rows_of_program p in
      λ j. record {
        places = places_from (same.regions_same j).tables.first (same.regions_same j).far.first (same.regions_same j).vars.first
            (λ f i. (same.regions_same j).vars.first + data_sizes (entries_same p j)
            + object_at rows (map owned_of (entries_same p j)) f i)
            0 (entries_same p j);
        initials = initials_from (same.regions_same j).tables.first
            ((same.regions_same j).tables.first + flash_sizes (entries_same p j)) (entries_same p j);
        frames = frames_from
            ((same.regions_same j).vars.first + data_sizes (entries_same p j) + need_of rows (local_size (entries_same p j)))
            (begin_of rows (scratch_size frames)) 0 frames;
        work = (same.regions_same j).vars.first + data_sizes (entries_same p j) + need_of rows (local_size (entries_same p j))
            + need_of rows (scratch_size frames);
      }

  pub places_same : (p : PlainProgram) (frames : List ℕ)
      → (layout m (rows_of_program p) (entries m.places.items p) frames).places
      ≡ (layout n (rows_of_program p) (entries n.places.items p) frames).places
  places_same p frames = λ j. (layout_same p frames j).places

  pub image_same : (p : PlainProgram) (frames : List ℕ) (items : List AsmItem)
      → image m.core p (layout m (rows_of_program p) (entries m.places.items p) frames) (last_of m) items
      ≡ image n.core p (layout n (rows_of_program p) (entries n.places.items p) frames) (last_of n) items
  image_same p frames items =
      λ j. image (same.core_same j) p (layout_same p frames j)
      ((same.regions_same j).stack.first + (same.regions_same j).stack.size - 1) items
