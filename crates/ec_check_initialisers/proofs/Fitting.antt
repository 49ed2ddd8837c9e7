-- Values that fit the leaves of a type, place by place.
use Rattle.std.proofs.Common.{◌≡◌, ◌∙◌, ℕ, zero, suc, ◌+◌, refl, sym, ap, subst, Bool, true, false, if◌then◌else◌, Option, Some, None, List}
use Rattle.std.proofs.Common.{[], ◌∷◌, ◌++◌, append_assoc, map, drop, length}
use Rattle.std.specs.List.{AllZip, AllByRecursion}
use Rattle.ec_core.specs.Layout.{PlainLeaf, scalar_size, size_of_type, leaves_of_type, IsScalar, IsObjectType, AreStructs}
use Rattle.ec_core.specs.Plain.{PlainType, PlainStruct}
use Rattle.ec_core.specs.TypeLaws.{StructsAreLaidOut, FillFrom, LeavesFillTheirTypes}
use Rattle.ec_check_operands.specs.Sorts.{is_aggregate}
use Rattle.ec_check_initialisers.specs.Parts.{part_type, filled_by, whole_by, joined}
use Rattle.ec_check_initialisers.proofs.PartTypes.{part_object}
use Rattle.ec_check_initialisers.proofs.Rests.{types_of, rest_types, leaf_types, part_rest, whole_rest}

abbrev pub AreScalars : List PlainLeaf → Type 0
AreScalars ls = AllByRecursion (λ leaf. IsScalar leaf.ty) ls

fill_scalars : (at end : ℕ) (ls : List PlainLeaf) → FillFrom at end ls → AreScalars ls
fill_scalars at end [] h = tt
fill_scalars at end (l ∷ ls) h = (h.1.scalar, fill_scalars (at + scalar_size l.ty) end ls h.2)

-- the leaves of the type of an object are scalars
pub scalar_leaves : LeavesFillTheirTypes → (structs : List PlainStruct) (ty : PlainType) → AreStructs structs
    → IsObjectType (length structs) ty
    → AreScalars (leaves_of_type structs ty)
scalar_leaves law structs ty h o = fill_scalars 0 (size_of_type structs ty) (leaves_of_type structs ty) (law.types structs ty h o).filled

dropped_scalars : (n : ℕ) (ls : List PlainLeaf) → AreScalars ls → AreScalars (drop n ls)
dropped_scalars zero ls h = h
dropped_scalars (suc n) [] h = tt
dropped_scalars (suc n) (l ∷ ls) h = dropped_scalars n ls h.1

module _ {A : Type 0} (Suits : PlainType → A → Type 0) where
  fit_both : (ts us : List PlainType) (xs ys : List A) → AllZip Suits ts xs → AllZip Suits us ys → AllZip Suits (ts ++ us) (xs ++ ys)
  fit_both [] us [] ys h k = k
  fit_both [] us (x ∷ xs) ys h k = absurd h
  fit_both (t ∷ ts) us [] ys h k = absurd h
  fit_both (t ∷ ts) us (x ∷ xs) ys h k = (h.0, fit_both ts us xs ys h.1 k)

  -- what fits is as long
  rest_fits : (ts us : List PlainType) (xs : List A) → AllZip Suits ts xs → drop (length xs) (ts ++ us) ≡ us
  rest_fits [] us [] h = refl
  rest_fits [] us (x ∷ xs) h = absurd h
  rest_fits (t ∷ ts) us [] h = absurd h
  rest_fits (t ∷ ts) us (x ∷ xs) h = rest_fits ts us xs h.1

  pub zeros_fit : (blank : PlainType → A) → ((ty : PlainType) → IsScalar ty → Suits ty (blank ty)) → (ls : List PlainLeaf) → AreScalars ls
      → AllZip Suits (types_of ls) (map (λ leaf. blank leaf.ty) ls)
  zeros_fit blank suits [] h = tt
  zeros_fit blank suits (l ∷ ls) h = (suits l.ty h.0, zeros_fit blank suits ls h.1)

  drop_types : (n : ℕ) (ls : List PlainLeaf) → types_of (drop n ls) ≡ drop n (types_of ls)
  drop_types zero ls = refl
  drop_types (suc n) [] = refl
  drop_types (suc n) (l ∷ ls) = drop_types n ls

  module _ (structs : List PlainStruct) where
    -- the values so far are those of all parts before one
    pub record FitsBefore (ty : PlainType) (i : ℕ) (xs : List A) : Type 0 where
      pub types : List PlainType
      pub whole : types ++ rest_types structs ty i ≡ leaf_types structs ty
      pub each : AllZip Suits types xs

    pub no_part_fits : StructsAreLaidOut → AreStructs structs → (ty : PlainType) → IsObjectType (length structs) ty → is_aggregate ty ≡ true
        → FitsBefore ty 0 []
    no_part_fits law h ty o e = record { types = []; whole = whole_rest structs law h ty o e; each = tt }

    pub one_part_fits : (ty : PlainType) (i : ℕ) (xs ys : List A) (p : PlainType) → part_type structs ty i ≡ Some p → FitsBefore ty i xs
        → AllZip Suits (leaf_types structs p) ys → FitsBefore ty (i + 1) (xs ++ ys)
    one_part_fits ty i xs ys p e h k = record {
      types = h.types ++ leaf_types structs p;
      whole = append_assoc h.types (leaf_types structs p) (rest_types structs ty (i + 1))
          ∙ ap (λ ts. h.types ++ ts) (sym (part_rest structs ty i p e)) ∙ h.whole;
      each = fit_both h.types (leaf_types structs p) xs ys h.each k;
    }

    -- the parts behind them are filled with zeros
    pub filled_fits : (blank : PlainType → A) → ((ty : PlainType) → IsScalar ty → Suits ty (blank ty))
        → (ty : PlainType) (i : ℕ) (xs : List A)
        → AreScalars (leaves_of_type structs ty) → FitsBefore ty i xs → AllZip Suits (leaf_types structs ty) (filled_by blank structs ty xs)
    filled_fits blank suits ty i xs scalars h =
        let leaves = leaves_of_type structs ty in
        let rest : types_of (drop (length xs) leaves) ≡ rest_types structs ty i =
        drop_types (length xs) leaves ∙ ap (drop (length xs)) (sym h.whole) ∙ rest_fits h.types (rest_types structs ty i) xs h.each in
        subst (λ ts. AllZip Suits ts (filled_by blank structs ty xs)) (ap (λ ts. h.types ++ ts) rest ∙ h.whole)
        (fit_both h.types (types_of (drop (length xs) leaves)) xs (map (λ leaf. blank leaf.ty) (drop (length xs) leaves)) h.each
        (zeros_fit blank suits (drop (length xs) leaves) (dropped_scalars (length xs) leaves scalars)))

    -- the values of one more part
    module _ (law : StructsAreLaidOut) (h : AreStructs structs) (ty : PlainType) (o : IsObjectType (length structs) ty) where
      pub item_fits : (values : Option PlainType → Option (List A)) → values None ≡ None
          → ((p : PlainType) → IsObjectType (length structs) p → (zs : List A) → values (Some p) ≡ Some zs
          → AllZip Suits (leaf_types structs p) zs)
          → (i : ℕ) (xs : List A) → FitsBefore ty i xs → (ys : List A) → joined (Some xs) (values (part_type structs ty i)) ≡ Some ys
          → FitsBefore ty (i + 1) ys
      item_fits values none each i xs before ys e = by_part (part_type structs ty i) refl e
        where
          by_values : (p : PlainType) → part_type structs ty i ≡ Some p → (v : Option (List A)) → values (Some p) ≡ v
              → joined (Some xs) v ≡ Some ys → FitsBefore ty (i + 1) ys
          by_values p q None r e = cc
          by_values p q (Some zs) r e =
              let same : xs ++ zs ≡ ys = cc in
              subst (FitsBefore ty (i + 1)) same (one_part_fits ty i xs zs p q before (each p (part_object law structs h ty i p o q) zs r))

          by_part : (p : Option PlainType) → part_type structs ty i ≡ p → joined (Some xs) (values p) ≡ Some ys → FitsBefore ty (i + 1) ys
          by_part None q e = let nothing : joined (Some xs) (values None) ≡ None = ap (joined (Some xs)) none in cc
          by_part (Some p) q e = by_values p q (values (Some p)) refl e

      -- the values of an array or a struct
      pub whole_fits : (blank : PlainType → A) → ((ty : PlainType) → IsScalar ty → Suits ty (blank ty))
          → AreScalars (leaves_of_type structs ty) → (v : Option (List A)) (es : List A)
          → whole_by blank structs (Some ty) v ≡ Some es
          → (is_aggregate ty ≡ true → (fs : List A) → v ≡ Some fs → (i : ℕ) × FitsBefore ty i fs) → AllZip Suits (leaf_types structs ty) es
      whole_fits blank suits scalars None es e f = cc
      whole_fits blank suits scalars (Some fs) es e f = by_form (is_aggregate ty) refl e
        where
          by_form : (b : Bool) → is_aggregate ty ≡ b → (if b then Some (filled_by blank structs ty fs) else None) ≡ Some es
              → AllZip Suits (leaf_types structs ty) es
          by_form true q e =
              let same : filled_by blank structs ty fs ≡ es = cc in
              let parts = f q fs refl in
              subst (AllZip Suits (leaf_types structs ty)) same (filled_fits blank suits ty parts.0 fs scalars parts.1)
          by_form false q e = cc
