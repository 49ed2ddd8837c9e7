-- Objects whose initial values are all 0 have them where their bytes are 0.
use Rattle.std.proofs.Common.{◌≡◌, ℕ, zero, suc, ◌+◌, ◌^◌, ◌<◌, true, false, List, [], ◌∷◌, refl, sym, ap, ◌∙◌, subst}
use Rattle.std.proofs.Common.{arith, Some, pos, map}
use Rattle.std.specs.Prelude.{slice_get, option_and_then, Bool, if◌then◌else◌}
use Rattle.std.specs.List.{list_all}
use Rattle.std.proofs.Math.Nat.{pow-suc, mod-eq_of_lt}
use Rattle.std.proofs.lemmas.Bool.{and_parts, false≢true}
use Rattle.std.proofs.lemmas.Bool.Decides.{Decides-int_eq}
use Rattle.ec_asm.specs.Pieces.{value}
use Rattle.ec_core.specs.declared.programs.LeafInit.{LeafInit}
use Rattle.ec_core.specs.declared.programs.LeafInit.TheVariants.{Number as TheNumber, Null as TheNull, Address}
use Rattle.ec_core.specs.declared.values.Value.{Value}
use Rattle.ec_core.specs.Accesses.{leaf_of}
use Rattle.ec_core.specs.Meaning.{initial_value, initial_object}
use Rattle.ec_core.specs.Plain.{PlainProgram, PlainStorage, static, local, param, register}
use Rattle.ec_ir.specs.Meaning.{standing}
use Rattle.ec_ir.specs.Temporaries.{low_bytes}
use Rattle.ec_select_functions.specs.Relation.{HoldsLeaf}
use Rattle.ec_select_startup.specs.declared.spans.Filling.TheVariants.{Copied, Cleared}
use Rattle.ec_select.specs.Program.{is_zero, filling_of}

value_of_zeros : (f : ℕ → ℕ) (a n : ℕ) → ((i : ℕ) → i < n → f (a + i) ≡ 0) → value f a n ≡ 0
value_of_zeros f a zero h = refl
value_of_zeros f a (suc n) h =
    let r = value_of_zeros f a n (λ i l. h i (omega (arith, l))) in let q = h n (omega arith) in rw (r, q) (omega arith)

pow_some : (n : ℕ) → 0 < 256 ^ n
pow_some zero = omega arith
pow_some (suc n) = let e = pow-suc 256 n in let h = pow_some n in omega (arith, e, h)

zero_bytes : (n : ℕ) → low_bytes n (pos 0) ≡ 0
zero_bytes n = mod-eq_of_lt (pow_some n)

zero_value : (p : PlainProgram) (place f : ℕ → ℕ) (a n : ℕ) (init : LeafInit) → is_zero init ≡ true
    → ((i : ℕ) → i < n → f (a + i) ≡ 0) → HoldsLeaf p place f a n (initial_value init)
zero_value p place f a n (TheNumber i) z h =
    value_of_zeros f a n h ∙ sym (ap (low_bytes n) ((Decides-int_eq i (pos 0)).0 z) ∙ zero_bytes n)
zero_value p place f a n TheNull z h = value_of_zeros f a n h
zero_value p place f a n (Address o k) z h = absurd (false≢true z)

zero_leaf : (p : PlainProgram) (place f : ℕ → ℕ) (a n : ℕ) (inits : List LeafInit) (k : ℕ) (u : Value)
    → list_all is_zero inits ≡ true
    → option_and_then (λ v. v) (slice_get (map (λ init. Some (initial_value init)) inits) k) ≡ Some u
    → ((i : ℕ) → i < n → f (a + i) ≡ 0) → HoldsLeaf p place f a n u
zero_leaf p place f a n [] k u z q h = absurd (cc)
zero_leaf p place f a n (init ∷ inits) zero u z q h =
    let both = and_parts (is_zero init) (list_all is_zero inits) z in
    let same : initial_value init ≡ u = cc in
    subst (λ w. HoldsLeaf p place f a n w) same (zero_value p place f a n init both.0 h)
zero_leaf p place f a n (init ∷ inits) (suc k) u z q h =
    let both = and_parts (is_zero init) (list_all is_zero inits) z in zero_leaf p place f a n inits k u both.1 q h

cleared_zeros : (zeros : Bool) → (if zeros then Cleared else Copied) ≡ Cleared → zeros ≡ true
cleared_zeros true q = refl
cleared_zeros false q = absurd (cc)

-- a leaf of an object that is cleared
pub cleared_holds : (p : PlainProgram) (place f : ℕ → ℕ) (a n leaves : ℕ) (s : PlainStorage) (k : ℕ) (u : Value)
    → filling_of s ≡ Cleared → leaf_of (standing (initial_object leaves s)) k ≡ Some u
    → ((i : ℕ) → i < n → f (a + i) ≡ 0) → HoldsLeaf p place f a n u
cleared_holds p place f a n leaves (static inits) k u c q h =
    zero_leaf p place f a n inits k u (cleared_zeros (list_all is_zero inits) c) q h
cleared_holds p place f a n leaves (local g) k u c q h = absurd (cc)
cleared_holds p place f a n leaves (param g) k u c q h = absurd (cc)
cleared_holds p place f a n leaves (register r) k u c q h = absurd (cc)
