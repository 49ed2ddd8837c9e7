-- Files that were read, and files that stay the same.
use Rattle.std.proofs.Common.{◌≡◌, ◌∙◌, ◌<◌, inl, inr, ℕ, List, [], length, get_or, map, ap, refl, sym, subst, arith}
use Rattle.std.specs.Prelude.{Option, Some, None, Result, Ok, Err, Contains, IfOk, IfSome, IsErrOf, unwrap_or}
use Rattle.std.specs.Result.{result_ok}
use Rattle.std.proofs.lemmas.List.{get_or-map, length-map}
use Rattle.std.proofs.lemmas.Option.{none-some}
use Rattle.std.specs.FinMap.{get}
use Rattle.ec_io.specs.Disk.{Disk, Files, content}
use Rattle.ec_io.specs.Read.{ReadsFile}
use Rattle.ec_io.specs.declared.read.ReadStop.{ReadStop}
use Rattle.ec_io.specs.declared.read.ReadStop.TheVariants.{TooLong}
use Rattle.ec_space.specs.Listed.{Listed}
use Rattle.ec_where_lines.specs.declared.fault.Fault.{Fault}
use Rattle.ec_where.specs.declared.place.Place.TheVariants.{Token}
use Rattle.ec_where.specs.Located.{Holds, IsExplained, IsIn, SameFiles, place_of}
use Rattle.ec_where.specs.Recursion.{DefinesAt, IsShownIn, recursion_message}
use Rattle.ec_where.specs.Told.{IsUnread}

-- ---- reading

there : (o : Option (List ℕ)) → 0 < length (unwrap_or o []) → o ≡ Some (unwrap_or o [])
there None l = absurd (omega arith)
there (Some bytes) l = refl

pub too_long : (disk new : Option Disk) (name : List ℕ) (fault : Fault) (r : Result (Listed ℕ) ReadStop) (n : ℕ)
    → ReadsFile name 65_536 disk new r → IsErrOf r (TooLong n) → IsUnread disk name fault
too_long None new name fault r n reads e = tt
too_long (Some disk) new name fault r n reads e =
    let long : 65_536 < length (content disk.files name) = reads.long n e in
    (content disk.files name, there (get disk.files name) (omega arith), inl long)

pub no_place : (disk : Option Disk) (name source : List ℕ) (fault : Fault) → Holds disk name source
    → ((at : ℕ) → IsIn source (place_of fault) at → ⊥) → IsUnread disk name fault
no_place None name source fault h none = tt
no_place (Some disk) name source fault h none = (source, h, inr none)

pub read_held : (disk new : Option Disk) (name : List ℕ) (limit : ℕ) (seq : Listed ℕ) → ReadsFile name limit disk new (Ok seq)
    → Holds disk name seq.items
read_held None new name limit seq reads = tt
read_held (Some disk) new name limit seq reads = reads.bytes

pub read_same : (disk new : Option Disk) (name : List ℕ) (limit : ℕ) (r : Result (Listed ℕ) ReadStop) → ReadsFile name limit disk new r
    → SameFiles disk new
read_same None new name limit r reads = reads
read_same (Some disk) None name limit r reads = absurd reads.files
read_same (Some disk) (Some now) name limit r reads = reads.files.0

-- ---- the same files

pub same_start : (disk : Option Disk) → SameFiles disk disk
same_start None = refl
same_start (Some disk) = refl

pub same_held : (old now : Option Disk) (file source : List ℕ) → SameFiles old now → Holds now file source → Holds old file source
same_held None now file source s h = tt
same_held (Some disk) None file source s h = absurd s
same_held (Some disk) (Some new) file source s h = subst (λ (files : Files). get files file ≡ Some source) s h

pub same_more : (old now new : Option Disk) → SameFiles old now → SameFiles now new → SameFiles old new
same_more None None new s t = t
same_more None (Some disk) new s t = cc
same_more (Some disk) None new s t = absurd s
same_more (Some disk) (Some a) None s t = absurd t
same_more (Some disk) (Some a) (Some b) s t = t ∙ s

-- what was shown in files that are the same is shown in the ones before
pub same_shown : (old now : Option Disk) (file name text : List ℕ) → SameFiles old now → IsShownIn now file name text
    → IsShownIn old file name text
same_shown old now file name text s h = record {
  source = h.source;
  index = h.index;
  held = same_held old now file h.source s h.held;
  defines = h.defines;
  explained = h.explained;
}

-- ---- values that calls answer

pub contains_item : {X : Type 0} (f : X → List ℕ) (xs : List X) (i : ℕ) (x : X) → i < length xs → x ≡ get_or xs i x
    → Contains (map f xs) (f x)
contains_item f xs i x below here =
    (i, subst (λ (n : ℕ). i < n) (sym (length-map xs f)) below, get_or-map f xs i x (f x) below ∙ ap f (sym here))

pub ok_of : {T E : Type 0} (r : Result T E) (x : T) (P : T → Type 0) → Some x ≡ result_ok r → IfOk r P → P x
ok_of (Ok y) x P e p = let same : y ≡ x = cc in subst P same p
ok_of (Err y) x P e p = absurd (none-some x (sym e))

pub shown : {T E : Type 0} (r : Result T E) (o : Option T) (items : T → List ℕ) (disk : Option Disk) (file name source : List ℕ) (index : ℕ)
    → o ≡ result_ok r → Holds disk file source → DefinesAt source name index
    → IfOk r (λ v. IsExplained file source (Token index) (recursion_message name) (items v))
    → IfSome o (λ v. IsShownIn disk file name (items v))
shown {T = T} (Ok v) o items disk file name source index e held defines explained =
    subst (λ (o : Option T). IfSome o (λ v. IsShownIn disk file name (items v))) (sym e) (record {
      source = source;
      index = index;
      held = held;
      defines = defines;
      explained = explained;
    })
shown {T = T} (Err x) o items disk file name source index e held defines explained =
    subst (λ (o : Option T). IfSome o (λ v. IsShownIn disk file name (items v))) (sym e) tt
