-- Lemmas of the emitters.
use Rattle.std.proofs.Common.{◌≡◌, ◌++◌, ℕ, ◌≤◌, true, false, List, [], ◌∷◌, Ok, Err, append_assoc, refl, ap, ◌∙◌, inl, inr, subst, arith}
use Rattle.std.specs.Prelude.{Result, OnOk, ◌||◌, ◌&&◌, ◌==◌, ◌<◌, nat_lt, nat_le, not, Bool, if◌then◌else◌, map}
use Rattle.std.specs.List.{list_any}
use Rattle.std.proofs.lemmas.Bool.{eqb-true, ltb-true, and_parts}
use Rattle.ec_space.specs.declared.Core.{Core}
use Rattle.ec_space.specs.declared.Core.TheVariants.{Small, Large}
use Rattle.ec_space.specs.declared.space.Bank.{Bank}
use Rattle.ec_space.specs.declared.space.Bank.TheVariants.{Flash as FlashBank, Data as DataBank}
use Rattle.ec_asm.specs.declared.pieces.Location.{Location}
use Rattle.ec_asm.specs.declared.pieces.Location.TheVariants.{InRegisters, InMemory}
use Rattle.ec_asm.specs.Pieces.{HasBytes}
use Rattle.ec_core.specs.declared.programs.Obj.{Obj}
use Rattle.ec_core.specs.Plain.{plain_object}
use Rattle.ec_select_order.specs.declared.relations.Relation.{Relation}
use Rattle.ec_select_order.specs.declared.relations.Relation.TheVariants.{Less, NotLess, Equal, NotEqual}
pub use Rattle.ec_select_bytes.proofs.Bytes.{byte_there}
use Rattle.ec_select_places.specs.Indexes.{can_add}
use Rattle.ec_select_places.specs.Steps.{compared_bytes}
use Rattle.ec_select_pointers.specs.Addresses.{pointer_bytes}
use Rattle.ec_select_operations.specs.Code.{is_far, is_whole_address, related_bytes, takes_index, truth_register}
use Rattle.ec_select_operations.specs.Pointers.{is_table, has_tables, tag_in, IsPointerSize}

pub fewer_bytes : (p : Location) (n m : ℕ) → m ≤ n → HasBytes p n → HasBytes p m
fewer_bytes (InRegisters r) n m l h = omega arith
fewer_bytes (InMemory o k) n m l h = omega arith

-- a truth value is made in a register
pub truth_there : (to : Location) (n : ℕ) → 1 ≤ n → HasBytes to n → HasBytes (InRegisters (truth_register to)) 1
truth_there (InRegisters r) n some h = by_reach (nat_le 16 r)
  where
    by_reach : (x : Bool) → HasBytes (InRegisters (if x then r else 30)) 1
    by_reach true = omega arith
    by_reach false = omega arith
truth_there (InMemory o k) n some h = omega arith

-- a pointer has room for its tag
pub tag_there : (p : Location) (bytes : ℕ) (bank : Bank) → IsPointerSize bytes → HasBytes p bytes
    → HasBytes p (pointer_bytes (tag_in bytes bank))
tag_there p bytes bank (inl q) h = rw q (subst (HasBytes p) q h)
tag_there p bytes bank (inr q) h = rw q (subst (HasBytes p) q h)

-- a pointer that has whole addresses has three bytes
pub far_there : (p : Location) (core : Core) (bytes : ℕ) → is_far core bytes ≡ true → HasBytes p bytes → HasBytes p 3
far_there p Small bytes e h = absurd cc
far_there p Large bytes e h = subst (HasBytes p) (eqb-true bytes 3 e) h

pub whole_there : (p : Location) (core : Core) (bytes : ℕ) (bank : Bank) → is_whole_address core bytes bank ≡ true
    → HasBytes p bytes → HasBytes p 3
whole_there p core bytes FlashBank e h = far_there p core bytes e h
whole_there p core bytes DataBank e h = absurd cc

-- tables among the objects of a program
pub tables_are : (objects : List Obj) → has_tables (map plain_object objects) ≡ list_any (λ d. is_table d.home) objects
tables_are [] = refl
tables_are (d ∷ ds) = ap (λ b. is_table d.home || b) (tables_are ds)

-- what is compared of a pointer
fewer_compared : (r : Relation) (p : Location) (n : ℕ) → 2 ≤ n → HasBytes p n → HasBytes p (compared_bytes r n)
fewer_compared Less p n l h = fewer_bytes p n 2 l h
fewer_compared NotLess p n l h = fewer_bytes p n 2 l h
fewer_compared Equal p n l h = h
fewer_compared NotEqual p n l h = h

pub fewer_related : (core : Core) (r : Relation) (p : Location) (n : ℕ) → 2 ≤ n → HasBytes p n
    → HasBytes p (related_bytes core r n)
fewer_related Small r p n l h = fewer_compared r p n l h
fewer_related Large r p n l h = h

-- an index is added as it stands where elements have fewer than 256 bytes
few_added : (signed : Bool) (p q : Location) (n size : ℕ) → can_add signed p q n size ≡ true → size < 256
few_added signed (InRegisters r) (InRegisters d) n size h =
    let few = nat_lt 0 size && nat_lt size 256 in
    let addend = (and_parts (not (r == d)) (not (n == 1 && signed) && few) h).1 in
    ltb-true size 256 (and_parts (nat_lt 0 size) (nat_lt size 256) (and_parts (not (n == 1 && signed)) few addend).1).1
few_added signed (InRegisters r) (InMemory o k) n size h = absurd cc
few_added signed (InMemory o k) (InRegisters d) n size h = absurd cc
few_added signed (InMemory o k) (InMemory u j) n size h = absurd cc

pub few_elements : (core : Core) (signed : Bool) (p q : Location) (bytes n size : ℕ)
    → takes_index core signed p q bytes n size ≡ true → size < 256
few_elements core signed p q bytes n size h =
    few_added signed p q n size (and_parts (not (is_far core bytes)) (can_add signed p q n size) h).1

-- code behind code
pub joined_code : {E T X : Type 0} (r : Result T X) (old mid new first second : List E) → mid ≡ old ++ first
    → OnOk r (new ≡ mid ++ second) → OnOk r (new ≡ old ++ (first ++ second))
joined_code (Ok x) old mid new first second e h = h ∙ ap (λ l. l ++ second) e ∙ append_assoc old first second
joined_code (Err x) old mid new first second e h = h
