-- Spans, one after another.
use Rattle.std.proofs.Common.{◌≡◌, ℕ, ◌+◌, List, [], ◌∷◌, ◌++◌, refl, sym, ◌∙◌, ap, append_assoc, map, length, drop}
use Rattle.std.proofs.Common.{get_or, subst}
use Rattle.std.proofs.Common.{arith, ◌<◌, Bool, true, false, zero, suc}
use Rattle.std.specs.Prelude.{if◌then◌else◌, All, Some, slice_get}
use Rattle.std.specs.List.{AllPairs}
use Rattle.std.proofs.lemmas.Bool.{false≢true}
use Rattle.std.proofs.lemmas.List.Elements.{All-nil, All-cons, All-head, All-tail}
use Rattle.std.proofs.lemmas.List.Kept.{AllPairs-cons}
use Rattle.ec_core.specs.Layout.{size_of_type}
use Rattle.ec_core.specs.declared.programs.Obj.{Obj}
use Rattle.ec_core.specs.Plain.{PlainObject, PlainStruct, plain_object}
use Rattle.ec_select_startup.specs.declared.spans.Span.{Span}
use Rattle.ec_select.specs.Program.{has_initial_bytes, filling_of, span_of, spans_from}
use Rattle.ec_select.proofs.Lists.{drop_front}

pub one_more : (structs : List PlainStruct) (o : ℕ) (d : PlainObject) (ds rest : List PlainObject) (old new all : List Span)
    → ds ≡ d ∷ rest → new ≡ old ++ span_of structs o d → old ++ spans_from structs o ds ≡ all
    → new ++ spans_from structs (o + 1) rest ≡ all
one_more structs o d ds rest old new all is more whole =
    ap (λ n. n ++ spans_from structs (o + 1) rest) more
    ∙ append_assoc old (span_of structs o d) (spans_from structs (o + 1) rest)
    ∙ ap (λ x. old ++ spans_from structs o x) (sym is) ∙ whole

pub one_span_more : (structs : List PlainStruct) (objs : List Obj) (o : ℕ) (d : Obj) (old new all : List Span)
    → o < length objs → d ≡ get_or objs o d → new ≡ old ++ span_of structs o (plain_object d)
    → old ++ spans_from structs o (drop o (map plain_object objs)) ≡ all
    → new ++ spans_from structs (o + 1) (drop (o + 1) (map plain_object objs)) ≡ all
one_span_more structs objs o d old new all l is more whole =
    one_more structs o (plain_object d) (drop o (map plain_object objs)) (drop (o + 1) (map plain_object objs)) old new all
    (drop_front plain_object objs o d l is) more whole

-- ---- the spans of objects

abbrev pub the_span : List PlainStruct → ℕ → PlainObject → Span
the_span structs o d = record { from = 2048 + o; to = o; bytes = size_of_type structs d.ty; filling = filling_of d.storage }

abbrev pub IsInitial : PlainObject → Type 0
IsInitial d = has_initial_bytes d.storage d.home ≡ true

module _ (structs : List PlainStruct) (P : Span → Type 0) where
  -- what holds of the span of each object that has one
  pub each_from : (o : ℕ) (ds : List PlainObject)
      → ((j : ℕ) (d : PlainObject) → slice_get ds j ≡ Some d → IsInitial d → P (the_span structs (o + j) d))
      → All P (spans_from structs o ds)
  each_from o [] h = All-nil P
  each_from o (d ∷ ds) h =
      by_kind (has_initial_bytes d.storage d.home) refl
      (each_from (o + 1) ds
      (λ j x e i. let q : o + suc j ≡ o + 1 + j = omega arith in subst (λ (n : ℕ). P (the_span structs n x)) q (h (suc j) x e i))) where
        by_kind : (kept : Bool) → has_initial_bytes d.storage d.home ≡ kept → All P (spans_from structs (o + 1) ds)
            → All P ((if kept then the_span structs o d ∷ [] else []) ++ spans_from structs (o + 1) ds)
        by_kind true q rest =
            let z : o + 0 ≡ o = omega arith in
            All-cons P (the_span structs o d) (spans_from structs (o + 1) ds)
            (subst (λ (n : ℕ). P (the_span structs n d)) z (h 0 d refl q)) rest
        by_kind false q rest = rest

  pub span_holds : (o : ℕ) (ds : List PlainObject) (j : ℕ) (d : PlainObject) → All P (spans_from structs o ds)
      → slice_get ds j ≡ Some d → IsInitial d → P (the_span structs (o + j) d)
  span_holds o [] j d all e i = absurd (cc)
  span_holds o (x ∷ ds) zero d all e i =
      let q : x ≡ d = cc in
      let k : IsInitial x = subst IsInitial (sym q) i in
      let z : o ≡ o + 0 = omega arith in
      subst (λ (n : ℕ). P (the_span structs n d)) z (subst (λ (y : PlainObject). P (the_span structs o y)) q
      (by_kind (has_initial_bytes x.storage x.home) k all)) where
        by_kind : (kept : Bool) → kept ≡ true
            → All P ((if kept then the_span structs o x ∷ [] else []) ++ spans_from structs (o + 1) ds) → P (the_span structs o x)
        by_kind true q a = All-head P (the_span structs o x) (spans_from structs (o + 1) ds) a
        by_kind false q a = absurd (false≢true q)
  span_holds o (x ∷ ds) (suc j) d all e i =
      let q : o + 1 + j ≡ o + suc j = omega arith in
      subst (λ (n : ℕ). P (the_span structs n d)) q (span_holds (o + 1) ds j d (by_kind (has_initial_bytes x.storage x.home) all) e i) where
        by_kind : (kept : Bool) → All P ((if kept then the_span structs o x ∷ [] else []) ++ spans_from structs (o + 1) ds)
            → All P (spans_from structs (o + 1) ds)
        by_kind true a = All-tail P (the_span structs o x) (spans_from structs (o + 1) ds) a
        by_kind false a = a

module _ (structs : List PlainStruct) (R : Span → Span → Type 0) where
  pub pairs_from : (o : ℕ) (ds : List PlainObject)
      → ((j k : ℕ) (d x : PlainObject) → j < k → slice_get ds j ≡ Some d → slice_get ds k ≡ Some x → IsInitial d
      → IsInitial x → R (the_span structs (o + j) d) (the_span structs (o + k) x))
      → AllPairs R (spans_from structs o ds)
  pairs_from o [] h = λ i j d l m. absurd (omega arith)
  pairs_from o (d ∷ ds) h =
      by_kind (has_initial_bytes d.storage d.home) refl
      (pairs_from (o + 1) ds
      (λ j k x y l a b i m.
      let q : o + suc j ≡ o + 1 + j = omega arith in
      let r : o + suc k ≡ o + 1 + k = omega arith in
      subst (λ (n : ℕ). R (the_span structs n x) (the_span structs (o + 1 + k) y)) q
      (subst (λ (n : ℕ). R (the_span structs (o + suc j) x) (the_span structs n y)) r (h (suc j) (suc k) x y (omega arith) a b i m)))) where
        by_kind : (kept : Bool) → has_initial_bytes d.storage d.home ≡ kept → AllPairs R (spans_from structs (o + 1) ds)
            → AllPairs R ((if kept then the_span structs o d ∷ [] else []) ++ spans_from structs (o + 1) ds)
        by_kind true q rest =
            let z : o + 0 ≡ o = omega arith in
            AllPairs-cons R (the_span structs o d) (spans_from structs (o + 1) ds)
            (each_from structs (R (the_span structs o d)) (o + 1) ds
            (λ k x e i. let r : o + suc k ≡ o + 1 + k = omega arith in
            subst (λ (n : ℕ). R (the_span structs n d) (the_span structs (o + 1 + k) x)) z
            (subst (λ (n : ℕ). R (the_span structs (o + 0) d) (the_span structs n x)) r (h 0 (suc k) d x (omega arith) refl e q i)))) rest
        by_kind false q rest = rest
