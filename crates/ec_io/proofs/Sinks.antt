-- What a write to a store's file is to the sink over it.
use Rattle.std.proofs.Math.Seq.{take-add}
use Rattle.std.proofs.lemmas.List.{take_rest}
use Rattle.std.proofs.Common.{◌≡◌, ◌+◌, ◌-◌, ℕ, List, [], ◌++◌, length, take, drop, refl, sym, ap, rules, append_assoc, append-nil, Some}
use Rattle.std.proofs.Common.{None, Ok, Err}
use Rattle.std.specs.Prelude.{Option, Result, IsSomeAnd, option_map}
use Rattle.std.specs.Cmp.Lexicographic.{nat_list_cmp_total}
use Rattle.std.specs.Borrow.{GName}
use Rattle.std.specs.FinMap.{insert, remove, gets, same_map, nat_cmp-IsAntisymmetric, slice_cmp-IsAntisymmetric}
use Rattle.std.specs.Io.KnownBytes.{Appends, Keeps, WriteAppends}
use Rattle.ec_io.specs.Disk.{Files, Disk, content, appended}
use Rattle.ec_io.specs.Calls.{Writes}
use Rattle.ec_io.specs.Rest.{written_of, rest_of}

pub content-insert : (files : Files) (name bytes : List ℕ) → content (insert files name bytes) name ≡ bytes
content-insert files name bytes = grind (gets, rules)

pub remove-insert : (files : Files) (name bytes : List ℕ) → remove (insert files name bytes) name ≡ remove files name
remove-insert files name bytes =
    same_map nat_list_cmp_total (slice_cmp-IsAntisymmetric nat_cmp-IsAntisymmetric) _ _ (λ q. grind (gets, rules))

appends : (files : Files) (input : Option (List ℕ × ℕ)) (output : Option (List ℕ)) (new : Option Disk) (bytes : List ℕ)
    → IsSomeAnd output (λ name. new ≡ Some (appended name bytes (record { files = files; input = input; output = output })))
    → Appends (option_map (content files) output) (written_of new) bytes
appends files input None new bytes h = absurd h
appends files input (Some name) new bytes h = rw h (content-insert files name (content files name ++ bytes))

pub keeps : (known : Option (List ℕ)) → Keeps known known
keeps None = tt
keeps (Some xs) = refl

-- known bytes in two steps
pub appends_more : (a b c : Option (List ℕ)) (xs ys : List ℕ) → Appends a b xs → Appends b c ys → Appends a c (xs ++ ys)
appends_more None b c xs ys h k = tt
appends_more (Some x) None c xs ys h k = absurd h
appends_more (Some x) (Some y) None xs ys h k = absurd k
appends_more (Some x) (Some y) (Some z) xs ys h k = rw (k, h) (append_assoc x xs ys)

pub appends_none : (a b : Option (List ℕ)) (bs : List ℕ) → bs ≡ [] → a ≡ b → Appends a b bs
appends_none None b bs none h = tt
appends_none (Some x) b bs none h = rw (← h) (rw none (sym (append-nil x)))

pub sink_written : {E : Type 0} (old new : Option Disk) (r : Result ℕ E) (bytes : List ℕ)
    → Writes old new r bytes → WriteAppends (written_of old) (written_of new) r bytes
sink_written None new (Ok n) bytes h = tt
sink_written None new (Err e) bytes h = tt
sink_written (Some disk) new (Ok n) bytes h = appends disk.files disk.input disk.output new (take n bytes) h
sink_written (Some disk) new (Err e) bytes h = rw h (keeps (written_of (Some disk)))

rest_on : (files : Files) (input : Option (List ℕ × ℕ)) (output : Option (List ℕ)) (new : Option Disk) (bytes : List ℕ)
    (counts : ℕ × ℕ) (held : GName)
    → IsSomeAnd output (λ name. new ≡ Some (appended name bytes (record { files = files; input = input; output = output })))
    → rest_of new counts held ≡ rest_of (Some (record { files = files; input = input; output = output })) counts held
rest_on files input None new bytes counts held h = absurd h
rest_on files input (Some name) new bytes counts held h =
    rw h (ap (λ (m : Files). record { name = Some name; others = Some m; counts = Some counts; held = Some held })
    (remove-insert files name (content files name ++ bytes)))

pub sink_rest : {E : Type 0} (old new : Option Disk) (r : Result ℕ E) (bytes : List ℕ) (counts : ℕ × ℕ) (held : GName)
    → Writes old new r bytes → rest_of new counts held ≡ rest_of old counts held
sink_rest None new r bytes counts held h = ap (λ (d : Option Disk). rest_of d counts held) h
sink_rest (Some disk) new (Ok n) bytes counts held h = rest_on disk.files disk.input disk.output new (take n bytes) counts held h
sink_rest (Some disk) new (Err e) bytes counts held h = ap (λ (d : Option Disk). rest_of d counts held) h

-- a prefix of some bytes, and then a prefix of the rest
pub fronts : (bytes : List ℕ) (done n : ℕ)
    → take done bytes ++ take n (take (length bytes - done) (drop done bytes)) ≡ take (done + n) bytes
fronts bytes done n =
    rw (take-add, take_rest) refl
