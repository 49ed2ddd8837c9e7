-- Tables as lists, and as the maps that hold them.
use Rattle.std.proofs.Common.{◌≡◌, ap, refl, sym, ◌∙◌, ℕ, cond, Bool, true, false, List, [], ◌∷◌, option_map, Option, Some, None, nat_eq}
use Rattle.std.proofs.Common.{Bor}
use Rattle.std.specs.Prelude.{is_some}
use Rattle.std.specs.Option.{option_copied}
use Rattle.ec_check_names.specs.Names.{or_else}
use Rattle.std.specs.Str.{bytes_eq}
use Rattle.std.specs.Map.{lookup}
use Rattle.std.specs.Cmp.Lexicographic.{pointwise}
use Rattle.indexmap.specs.IndexMap.{insert_entry}
use Rattle.ec_space.specs.Listed.{Listed}
use Rattle.ec_check_names.specs.Tables.{Table, table_of, at_name, with_name}

-- the test and the equation of names, as the maps have them
abbrev is_name : List ℕ → Listed ℕ → Bool
is_name n k = pointwise nat_eq n k.items

abbrev same_name : Listed ℕ → Listed ℕ → Bool
same_name v w = pointwise nat_eq v.items w.items

one_found : {X Y : Type 0} (view : X → Y) (b : Bool) (x : X) (o : Option X) (s : Option Y) → option_map view o ≡ s
    → option_map view (cond b (Some x) o) ≡ cond b (Some (view x)) s
one_found view true x o s e = refl
one_found view false x o s e = e

pub found_is : {X Y : Type 0} (view : X → Y) (n : List ℕ) (es : List (Listed ℕ × X))
    → option_map view (lookup (λ k. pointwise nat_eq n k.items) es) ≡ at_name n (table_of view es)
found_is view n [] = refl
found_is view n (e ∷ es) =
    one_found view (bytes_eq n e.0.items) e.1 (lookup (is_name n) es) (at_name n (table_of view es)) (found_is view n es)

one_put : {X Y : Type 0} (view : X → Y) (b : Bool) (e f : Listed ℕ × X) (es fs : List (Listed ℕ × X)) (ts : Table Y) → table_of view fs ≡ ts
    → table_of view (cond b (f ∷ es) (e ∷ fs)) ≡ cond b ((f.0.items, view f.1) ∷ table_of view es) ((e.0.items, view e.1) ∷ ts)
one_put view true e f es fs ts h = refl
one_put view false e f es fs ts h = ap (λ r. (e.0.items, view e.1) ∷ r) h

pub put_is : {X Y : Type 0} (view : X → Y) (k : Listed ℕ) (x : X) (es : List (Listed ℕ × X))
    → table_of view (insert_entry (λ v w. pointwise nat_eq v.items w.items) es k x) ≡ with_name k.items (view x) (table_of view es)
put_is view k x [] = refl
put_is view k x (e ∷ es) = one_put view (bytes_eq k.items e.0.items) e (e.0, x) es (insert_entry same_name es k x)
    (with_name k.items (view x) (table_of view es)) (put_is view k x es)

-- values that are seen as they are
same_option : {X : Type 0} (o : Option X) → option_map (λ x. x) o ≡ o
same_option None = refl
same_option (Some x) = refl

pub found_same : {X : Type 0} (n : List ℕ) (es : List (Listed ℕ × X))
    → lookup (λ k. pointwise nat_eq n k.items) es ≡ at_name n (table_of (λ x. x) es)
found_same n es = sym (same_option (lookup (is_name n) es)) ∙ found_is (λ x. x) n es

-- ---- options

pub none_inside : {Y : Type 0} (inner outer r : Option Y) → inner ≡ None → r ≡ outer → r ≡ or_else inner outer
none_inside None outer r e h = h
none_inside (Some x) outer r e h = absurd (clash e)
  where
    clash : Some x ≡ None → ⊥
    clash q = cc

pub some_seen : {X Y : Type 0} (view : X → Y) (o : Option (Bor X)) → is_some (option_map view (option_copied o)) ≡ is_some o
some_seen view None = refl
some_seen view (Some x) = refl
