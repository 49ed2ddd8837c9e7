-- What names stand for.
use Rattle.std.proofs.Common.{◌≡◌, ap, refl, sym, ◌∙◌, ℕ, cond, Bool, true, false, List, [], ◌∷◌, ◌++◌, Option, Some, None}
use Rattle.std.specs.Str.{bytes_eq}
use Rattle.std.proofs.Math.Seq.{take-append_seam}
use Rattle.std.proofs.lemmas.Slice.Eq.{bytes_eq-Decides}
use Rattle.ec_check_names.specs.Laws.{InnerNamesHide, OuterNamesAreKnown, BlocksEnd}
use Rattle.ec_check_names.specs.Names.{Named, Entry, newest_from, newest, or_else}
use Rattle.ec_check_names.specs.Tables.{Table, at_name, with_name}

-- ---- names

equal_names : (n k : List ℕ) → bytes_eq n k ≡ true → n ≡ k
equal_names n k e = (bytes_eq-Decides n k).0 e

named_equal : (n k : List ℕ) → n ≡ k → bytes_eq n k ≡ true
named_equal n k e = (bytes_eq-Decides n k).1 e

same_test : (m n k : List ℕ) → bytes_eq n k ≡ true → bytes_eq m n ≡ bytes_eq m k
same_test m n k e = ap (bytes_eq m) (equal_names n k e)

one_alone : (m n k : List ℕ) → bytes_eq n k ≡ false → bytes_eq m n ≡ true → bytes_eq m k ≡ false
one_alone m n k e h = other (bytes_eq m k) refl
  where
    other : (b : Bool) → bytes_eq m k ≡ b → b ≡ false
    other false q = refl
    other true q =
        let t : bytes_eq n k ≡ true = named_equal n k (sym (equal_names m n h) ∙ equal_names m k q) in
        absurd (clash (sym e ∙ t))
      where
        clash : false ≡ true → ⊥
        clash e = cc

-- ---- tables

twice : {Y : Type 0} (b : Bool) (y x : Option Y) (rest : Option Y) → cond b y rest ≡ cond b y (cond b x rest)
twice true y x rest = refl
twice false y x rest = refl

apart : {Y : Type 0} (p q : Bool) (y x rest : Option Y) → (p ≡ true → q ≡ false) → cond q x (cond p y rest) ≡ cond p y (cond q x rest)
apart false q y x rest h = refl
apart true false y x rest h = refl
apart true true y x rest h = absurd (clash (h refl))
  where
    clash : true ≡ false → ⊥
    clash e = cc

one_put : {Y : Type 0} (m n k : List ℕ) (y x : Y) (rest : Table Y)
    → at_name m (with_name n y rest) ≡ cond (bytes_eq m n) (Some y) (at_name m rest)
    → (b : Bool) → bytes_eq n k ≡ b
    → at_name m (cond b ((k, y) ∷ rest) ((k, x) ∷ with_name n y rest))
    ≡ cond (bytes_eq m n) (Some y) (cond (bytes_eq m k) (Some x) (at_name m rest))
one_put m n k y x rest h true e = rw (same_test m n k e) (twice (bytes_eq m k) (Some y) (Some x) (at_name m rest))
one_put m n k y x rest h false e = rw h (apart (bytes_eq m n) (bytes_eq m k) (Some y) (Some x) (at_name m rest) (one_alone m n k e))

pub put_found : {Y : Type 0} (m n : List ℕ) (y : Y) (t : Table Y) → at_name m (with_name n y t) ≡ cond (bytes_eq m n) (Some y) (at_name m t)
put_found m n y [] = refl
put_found m n y (e ∷ es) = one_put m n e.0 y e.1 es (put_found m n y es) (bytes_eq n e.0) refl

-- ---- names in blocks and at file scope

newest_last : (m : List ℕ) (best : Option Named) (es : List Entry) (e : Entry)
    → newest_from best m (es ++ e ∷ []) ≡ cond (bytes_eq e.name m) (Some e.what) (newest_from best m es)
newest_last m best [] e = refl
newest_last m best (x ∷ xs) e = newest_last m (cond (bytes_eq x.name m) (Some x.what) best) xs e

chosen : (b : Bool) (what : Named) (inner outer : Option Named)
    → or_else (cond b (Some what) inner) outer ≡ cond b (Some what) (or_else inner outer)
chosen true what inner outer = refl
chosen false what inner outer = refl

pub inner_names_hide : InnerNamesHide
inner_names_hide s m n what =
    rw (newest_last m None s.inside (record { name = n; what = what }))
    (chosen (bytes_eq n m) what (newest m s.inside) (at_name m s.outside))

outer : (m n : List ℕ) (what : Named) (outside : Table Named) (inside : List Entry) → inside ≡ []
    → or_else (newest m inside) (at_name m (with_name n what outside))
    ≡ cond (bytes_eq m n) (Some what) (or_else (newest m inside) (at_name m outside))
outer m n what outside [] e = put_found m n what outside
outer m n what outside (x ∷ xs) e = absurd (clash e)
  where
    clash : x ∷ xs ≡ [] → ⊥
    clash q = cc

pub outer_names_are_known : OuterNamesAreKnown
outer_names_are_known s m n what e = outer m n what s.outside s.inside e

pub blocks_end : BlocksEnd
blocks_end s declared = ap (λ es. record { outside = s.outside; inside = es }) (take-append_seam s.inside declared)
