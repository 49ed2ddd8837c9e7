-- A file that was created and written.
use Rattle.std.proofs.Common.{◌≡◌, ◌∙◌, ℕ, List, [], ◌++◌, take, Some, None, Ok, Err, refl, sym, ap, subst, inr}
use Rattle.std.specs.Prelude.{Option, Result, IsSomeAnd, option_map, ◌⊎◌}
use Rattle.std.specs.Borrow.{GName}
use Rattle.std.specs.FinMap.{insert, remove}
use Rattle.std.specs.Io.KnownBytes.{Appends}
use Rattle.ec_io.specs.Calls.{Creates}
use Rattle.ec_io.specs.Disk.{Disk, content, created}
use Rattle.ec_io.specs.Rest.{Rest, written_of, rest_of}
use Rattle.ec_io.specs.declared.store.Failed.{Failed}
use Rattle.ec_io.proofs.Sinks.{content-insert, remove-insert}
use Rattle.ec_commands.specs.Shown.{Holds, WritesFile}

same_some : {X : Type 0} (x y : X) → Some x ≡ Some y → x ≡ y
same_some x y e = cc

held : (name : List ℕ) (old now : Disk) (output : Option (List ℕ)) (bytes : List ℕ)
    → output ≡ Some name → option_map (remove now.files) output ≡ Some (remove (insert old.files name []) name)
    → Appends (Some (content (insert old.files name []) name)) (option_map (content now.files) output) bytes
    → Holds name bytes old now
held name old now output bytes named =
    subst (λ o. option_map (remove now.files) o ≡ Some (remove (insert old.files name []) name)
    → Appends (Some (content (insert old.files name []) name)) (option_map (content now.files) o) bytes
    → Holds name bytes old now) (sym named)
    (λ others appends. record {
      content = appends ∙ ap (λ (xs : List ℕ). xs ++ bytes) (content-insert old.files name []);
      others = same_some _ _ others ∙ remove-insert old.files name [];
    })

-- what was appended to a created file is what it holds
pub holds : (name : List ℕ) (old : Disk) (new : Option Disk) (bytes : List ℕ) → GName
    → Appends (written_of (Some (created name old))) (written_of new) bytes
    → (now before : ℕ × ℕ) → ((h : GName) → rest_of new now h ≡ rest_of (Some (created name old)) before h)
    → IsSomeAnd new (Holds name bytes old)
holds name old None bytes h appends n m beside = absurd appends
holds name old (Some now) bytes h appends n m beside =
    held name old now now.output bytes (ap (λ (r : Rest). r.name) (beside h)) (ap (λ (r : Rest). r.others) (beside h)) appends

pub wrote_all : (name : List ℕ) (old mid new : Option Disk) (text : List ℕ) → GName
    → (let r : Result Unit Failed = Ok tt in Creates name old mid r)
    → Appends (written_of mid) (written_of new) text → (now before : ℕ × ℕ) → ((h : GName) → rest_of new now h ≡ rest_of mid before h)
    → (let r : Result Unit Failed = Ok tt in WritesFile name old new r text)
wrote_all name None mid new text h made appends n m beside = tt
wrote_all name (Some old) mid new text h made appends n m beside =
    holds name old new text h (subst (λ m. Appends (written_of m) (written_of new) text) made appends) n m
    (λ k. beside k ∙ ap (λ (d : Option Disk). rest_of d m k) made)

front : (name : List ℕ) (old : Disk) (new : Option Disk) (text : List ℕ) (n : ℕ) → IsSomeAnd new (Holds name (take n text) old)
    → IsSomeAnd new (λ now. (now.files ≡ old.files) ⊎ ((m : ℕ) × Holds name (take m text) old now))
front name old None text n h = absurd h
front name old (Some now) text n h = inr (n, h)

pub wrote_front : (name : List ℕ) (old mid new : Option Disk) (text : List ℕ) (n : ℕ) (e : Failed) → GName
    → (let r : Result Unit Failed = Ok tt in Creates name old mid r)
    → Appends (written_of mid) (written_of new) (take n text) → (now before : ℕ × ℕ)
    → ((h : GName) → rest_of new now h ≡ rest_of mid before h)
    → (let r : Result Unit Failed = Err e in WritesFile name old new r text)
wrote_front name None mid new text k e h made appends n m beside = tt
wrote_front name (Some old) mid new text k e h made appends n m beside =
    front name old new text k
    (holds name old new (take k text) h (subst (λ d. Appends (written_of d) (written_of new) (take k text)) made appends) n m
    (λ g. beside g ∙ ap (λ (d : Option Disk). rest_of d m g) made))

-- what stands beside a sink keeps the counts of the reads
told_counts : (disk : Option Disk) (counts : ℕ × ℕ) (h : GName) → (rest_of disk counts h).counts ≡ Some counts
told_counts None counts h = refl
told_counts (Some disk) counts h = refl

pub same_counts : (new mid : Option Disk) (now before : ℕ × ℕ) → GName → ((h : GName) → rest_of new now h ≡ rest_of mid before h)
    → (now.0 ≡ before.0) × (now.1 ≡ before.1)
same_counts new mid now before h beside =
    let same : now ≡ before =
    same_some now before (sym (told_counts new now h) ∙ ap (λ (r : Rest). r.counts) (beside h) ∙ told_counts mid before h) in
    (ap (λ (p : ℕ × ℕ). p.0) same, ap (λ (p : ℕ × ℕ). p.1) same)
