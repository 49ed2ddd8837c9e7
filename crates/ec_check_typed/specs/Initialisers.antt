-- What initialisers give the leaves of an object (ISO/IEC 9899:1999, 6.6 and 6.7.8): each leaf is given by an item, which is
-- brought to its type, or is zero.
use Rattle.std.specs.Prelude.{ℕ, ◌+◌, ◌<◌, ◌≡◌, pos, Option, Some, None, List, [], ◌∷◌, ◌++◌, length, drop, slice_get}
use Rattle.ec_grammar.specs.declared.Spot.{Spot}
use Rattle.ec_grammar.specs.Trees as t
use Rattle.ec_core.specs.declared.programs.LeafInit.{LeafInit}
use Rattle.ec_core.specs.declared.programs.LeafInit.TheVariants.{Number, Null}
use Rattle.ec_core.specs.Layout.{PlainLeaf, leaves_of_type}
use Rattle.ec_core.specs.Plain.{PlainType, array, struct, PlainMember, PlainStruct, PlainExpr, PlainExprs, last_expr, null, number}
use Rattle.ec_check_operands.specs.declared.operands.Modes.{Modes}
use Rattle.ec_check_operands.specs.Operands.{Operand, made}
use Rattle.ec_check_forms.specs.Constraints.{IsPointer, IsAggregate}
use Rattle.ec_check_expressions.specs.Callees.{exprs_of}
use Rattle.ec_check_expressions.specs.Known.{Known}
use Rattle.ec_check_meanings.specs.Conversions.{IsPassed}
use Rattle.ec_check_meanings.specs.Means.{Uses}
use Rattle.ec_check_meanings.specs.Terms.{term_of_assignment}
use Rattle.ec_check_parts.specs.Items.{IsInitialValue}

-- ---- parts

-- a part of an object of a type: an element by its index, or a member by its number
pub data IsPart (structs : List PlainStruct) : PlainType → ℕ → PlainType → Type 0 where
  element : {of : PlainType} {len i : ℕ} → i < len → IsPart structs (array of len) i of
  member : {index i : ℕ} {s : PlainStruct} {m : PlainMember} → slice_get structs index ≡ Some s → slice_get s.members i ≡ Some m
      → IsPart structs (struct index) i m.ty

-- as many values as there are leaves, each zero
pub data AreZero {A : Type 0} (Zero : PlainType → A → Type 0) : List PlainLeaf → List A → Type 0 where
  no_leaf : AreZero Zero [] []
  a_leaf : {leaf : PlainLeaf} {leaves : List PlainLeaf} {v : A} {vs : List A} → Zero leaf.ty v → AreZero Zero leaves vs
      → AreZero Zero (leaf ∷ leaves) (v ∷ vs)

mutual
  -- The values that an initialiser gives the leaves of an object of a type, in order, where an expression in the place of an
  -- object without parts gives one value. Braces give a value for each part that has an item, and all leaves that are left
  -- are zero.
  pub data Gives {A : Type 0} (Item : PlainType → t.Assignment → A → Type 0) (Zero : PlainType → A → Type 0)
      (structs : List PlainStruct) : PlainType → t.Initialiser → List A → Type 0 where
    one_value : {ty : PlainType} {a : t.Assignment} {v : A} → ¬ IsAggregate ty → Item ty a v
        → Gives Item Zero structs ty (t.initial_value a) (v ∷ [])
    in_braces : {ty part : PlainType} {l r : Spot} {first : t.Initialiser} {more : t.Initialisers} {comma : Option Spot}
        {us vs zeros : List A} → IsAggregate ty → IsPart structs ty 0 part → Gives Item Zero structs part first us
        → GiveFrom Item Zero structs ty 1 more vs
        → AreZero Zero (drop (length (us ++ vs)) (leaves_of_type structs ty)) zeros
        → Gives Item Zero structs ty (t.braces l first more comma r) ((us ++ vs) ++ zeros)

  -- so the items of the parts from one on
  pub data GiveFrom {A : Type 0} (Item : PlainType → t.Assignment → A → Type 0) (Zero : PlainType → A → Type 0)
      (structs : List PlainStruct) : PlainType → ℕ → t.Initialisers → List A → Type 0 where
    no_item : {ty : PlainType} {i : ℕ} → GiveFrom Item Zero structs ty i t.no_initialisers []
    an_item : {ty part : PlainType} {i : ℕ} {comma : Spot} {x : t.Initialiser} {more : t.Initialisers} {us vs : List A}
        → IsPart structs ty i part → Gives Item Zero structs part x us → GiveFrom Item Zero structs ty (i + 1) more vs
        → GiveFrom Item Zero structs ty i (t.initialisers comma x more) (us ++ vs)

-- ---- locals

-- the value of an item of a local object, brought to its type
pub data IsValue (k : Known) (ty : PlainType) (a : t.Assignment) (e : PlainExpr) : Type 0 where
  passed : {o : Operand} → Uses k (term_of_assignment a) o → IsPassed k.modes ty o e → IsValue k ty a e

-- a zero of a type: the null pointer, or the number
pub data IsZero (m : Modes) (ty : PlainType) : PlainExpr → Type 0 where
  null_pointer : IsPointer ty → IsZero m ty (made m ty null)
  zero_number : ¬ IsPointer ty → IsZero m ty (made m ty (number (pos 0)))

-- the values of an object that is declared in a block: of all leaves, or none where there is no initialiser
pub data Starts (k : Known) (ty : PlainType) : Option t.Start → PlainExprs → Type 0 where
  unset : Starts k ty None last_expr
  set : {equals : Spot} {i : t.Initialiser} {es : List PlainExpr} → Gives (IsValue k) (IsZero k.modes) k.structs ty i es
      → Starts k ty (Some (t.start equals i)) (exprs_of es)

-- ---- static objects

-- an item of a static object gives a leaf of a type its initial value
abbrev pub IsLeaf : Known → PlainType → t.Assignment → LeafInit → Type 0
IsLeaf k ty a leaf = IsInitialValue k (Some ty) a leaf

pub data IsZeroLeaf (ty : PlainType) : LeafInit → Type 0 where
  null_pointer_leaf : IsPointer ty → IsZeroLeaf ty Null
  zero_number_leaf : ¬ IsPointer ty → IsZeroLeaf ty (Number (pos 0))

-- the initial values of an object at file scope, of all leaves: zero where there is no initialiser
pub data StartsStatic (k : Known) (ty : PlainType) : Option t.Start → List LeafInit → Type 0 where
  all_zero : {leaves : List LeafInit} → AreZero IsZeroLeaf (leaves_of_type k.structs ty) leaves → StartsStatic k ty None leaves
  initialised : {equals : Spot} {i : t.Initialiser} {leaves : List LeafInit} → Gives (IsLeaf k) IsZeroLeaf k.structs ty i leaves
      → StartsStatic k ty (Some (t.start equals i)) leaves
