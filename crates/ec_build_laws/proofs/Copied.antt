-- Before main the static objects are copied or cleared.
use Rattle.std.proofs.Common.{◌≡◌, ℕ, zero, suc, ◌+◌, Bool, true, false, List, [], ◌∷◌, ◌++◌, Some}
use Rattle.std.proofs.Common.{zero-add, refl, sym, ap, ◌∙◌, subst, arith}
use Rattle.std.specs.Prelude.{if◌then◌else◌, slice_get, slice_index}
use Rattle.std.proofs.lemmas.Option.{get_or_from_slice_get}
use Rattle.ec_space.specs.declared.space.Bank.TheVariants.{Flash as FlashBank}
use Rattle.ec_space.specs.declared.space.Place.{Place}
use Rattle.ec_avr.specs.declared.machine.Access.TheVariants.{Read, Write}
use Rattle.ec_asm.specs.Change.{Env}
use Rattle.ec_asm.specs.declared.items.AsmProgram.{AsmProgram}
use Rattle.ec_check_recursion.specs.Rows.{rows_of_program}
use Rattle.ec_core.specs.Layout.{size_of_type}
use Rattle.ec_core.specs.Plain.{PlainStruct, PlainObject, PlainProgram}
use Rattle.ec_core.specs.PortTable.{plain_table}
use Rattle.ec_lower_code.specs.Code.{lowered}
use Rattle.ec_map.specs.declared.map.Map.{Map}
use Rattle.ec_locate.specs.Entries.{entries, flash_sizes}
use Rattle.ec_locate.specs.Layout.{local_at}
use Rattle.ec_locate.specs.Placing.{layout_by, entries_by}
use Rattle.ec_locate.specs.declared.placing.Located.{Located}
use Rattle.ec_select_startup.specs.declared.spans.Filling.{Filling}
use Rattle.ec_select_startup.specs.declared.spans.Filling.TheVariants.{Copied, Cleared}
use Rattle.ec_select_startup.specs.Laws.{accesses, all_accesses}
use Rattle.ec_select.specs.Program.{has_initial_bytes, filling_of, spans_from, spans_of}
use Rattle.ec_build_laws.specs.Kinds.{place_of}
use Rattle.ec_build_laws.specs.Laws.{AreKinds}
use Rattle.ec_build_laws.specs.Translation.{IsTranslated}
use Rattle.ec_build_laws.specs.Whole.{fills, copying_objects, copies}
use Rattle.ec_build_laws.proofs.Laid.{PlacedLaws, is_copied}
use Rattle.ec_build_laws.proofs.Rows.{place_there, initial_there}
use Rattle.ec_build_laws.proofs.Watched.{watched_kinds, watched_tables, watched, watched_has_kinds}

-- ---- copies of objects

fills_is : (e : Env) (by : Filling) (from to n : ℕ) → accesses e by from to n ≡ fills e.flash by from to n
fills_is e Copied from to zero = refl
fills_is e Copied from to (suc n) =
    let byte = slice_index e.flash (from + n) in
    ap (λ z. z ++ Read FlashBank (from + n) byte ∷ Write (to + n) byte ∷ []) (fills_is e Copied from to n)
fills_is e Cleared from to zero = refl
fills_is e Cleared from to (suc n) = ap (λ z. z ++ Write (to + n) 0 ∷ []) (fills_is e Cleared from to n)

module _ (e : Env) (structs : List PlainStruct) where
  -- the address of object o's initial bytes and its own
  record IsFrom (o : ℕ) (d : PlainObject) (at : ℕ) (q : Place) : Type 0 where
    from : e.address_of (2048 + o) 0 ≡ at
    to : e.address_of o 0 ≡ q.offset

  record StandsFrom (o j : ℕ) (d : PlainObject) (ats : List ℕ) (qs : List Place) : Type 0 where
    at : ℕ
    is_at : slice_get ats j ≡ Some at
    place : Place
    is_place : slice_get qs j ≡ Some place
    copied : has_initial_bytes d.storage d.home ≡ true → IsFrom o d at place

  all_copied : (o : ℕ) (ds : List PlainObject) (ats : List ℕ) (qs : List Place)
      → ((j : ℕ) (d : PlainObject) → slice_get ds j ≡ Some d → StandsFrom (o + j) j d ats qs)
      → all_accesses e (spans_from structs o ds) ≡ copying_objects e.flash structs ds ats qs
  all_copied o [] ats qs each = refl
  all_copied o (d ∷ ds) [] qs each = let f = each 0 d refl in let no = f.is_at in absurd cc
  all_copied o (d ∷ ds) (at ∷ ats) [] each = let f = each 0 d refl in let no = f.is_place in absurd cc
  all_copied o (d ∷ ds) (at ∷ ats) (q ∷ qs) each =
      by_kind (has_initial_bytes d.storage d.home) refl
      (all_copied (o + 1) ds ats qs
      (λ j x is. let f = each (suc j) x is in let n : o + suc j ≡ o + 1 + j = omega arith in
      record {
        at = f.at;
        is_at = f.is_at;
        place = f.place;
        is_place = f.is_place;
        copied = λ has. subst (λ k. IsFrom k x f.at f.place) n
            (f.copied has);
      })) where
        here : has_initial_bytes d.storage d.home ≡ true → IsFrom o d at q
        here has =
            let f = each 0 d refl in
            let at_is : f.at ≡ at = let a = f.is_at in cc in
            let place_is : f.place ≡ q = let a = f.is_place in cc in
            let n : o + 0 ≡ o = omega arith in
            subst (λ k. IsFrom k d at q) n
            (subst (λ y. IsFrom (o + 0) d at y) place_is (subst (λ k. IsFrom (o + 0) d k f.place) at_is (f.copied has)))

        by_kind : (kept : Bool) → has_initial_bytes d.storage d.home ≡ kept
            → all_accesses e (spans_from structs (o + 1) ds) ≡ copying_objects e.flash structs ds ats qs
            → all_accesses e
            ((if kept then record { from = 2048 + o; to = o; bytes = size_of_type structs d.ty; filling = filling_of d.storage } ∷ []
            else []) ++ spans_from structs (o + 1) ds)
            ≡ (if kept then fills e.flash (filling_of d.storage) at q.offset (size_of_type structs d.ty) else [])
            ++ copying_objects e.flash structs ds ats qs
        by_kind false has rest = rest
        by_kind true has rest =
            let c = here has in
            let size = size_of_type structs d.ty in
            let by = filling_of d.storage in
            ap (λ z. z ++ all_accesses e (spans_from structs (o + 1) ds))
            (ap (λ k. accesses e by k (e.address_of o 0) size) c.from ∙ ap (λ k. accesses e by at k size) c.to
            ∙ fills_is e by at q.offset size)
            ∙ ap (λ z. fills e.flash by at q.offset size ++ z) rest

-- ---- the whole

module _ (laws : PlacedLaws) (p : PlainProgram) (m : Map) (asm : AsmProgram) (l : Located) (h : IsTranslated p m asm l)
    (are : AreKinds p m asm l) where
  abbrev w : Env
  w = watched p m asm l

  stands_from : (j : ℕ) (d : PlainObject) → slice_get p.objects j ≡ Some d
      → StandsFrom w p.structs (0 + j) j d (layout_by p m asm).initials l.places.items
  stands_from j d is =
      let first =
      initial_there p.structs m.places.items p.objects m.tables.first
      (m.tables.first + flash_sizes (entries m.places.items p)) j d is in
      let there = place_there p.structs m.places.items p.objects m.tables.first m.far.first m.vars.first
      (local_at m (rows_of_program p) (entries_by m p)) 0 j d is in
      let placed_there : slice_get l.places.items j ≡ Some there.0 =
      subst (λ ps. slice_get ps j ≡ Some there.0) (sym h.located.places) there.1 in
      let at_is = get_or_from_slice_get (layout_by p m asm).initials j first.0 0 first.1 in
      let place_is : place_of l j ≡ there.0.offset = rw placed_there refl in
      let of = λ (has : has_initial_bytes d.storage d.home ≡ true).
      is_copied laws p m asm l h (watched_kinds p m asm l) (watched_tables m) (watched_has_kinds p m asm l are) j d is has in
      record {
        at = first.0;
        is_at = first.1;
        place = there.0;
        is_place = placed_there;
        copied = λ has.
            let c = of has in
            subst (λ k. IsFrom w p.structs k d first.0 there.0) (sym (zero-add j)) (record { from = c.from ∙ at_is; to = c.to ∙ place_is });
      }

  pub are_copies : all_accesses w (spans_of (lowered p (plain_table m.io))) ≡ copies p m l
  are_copies = all_copied w p.structs 0 p.objects (layout_by p m asm).initials l.places.items stands_from
