-- A file that is read in pieces.
use Rattle.std.proofs.Math.Seq.{take-add}
use Rattle.std.proofs.lemmas.List.{length-take-le}
use Rattle.std.proofs.Common.{◌≡◌, ◌+◌, ◌≤◌, ℕ, List, ◌++◌, length, take, Some, None, Ok, sym, ap, ◌∙◌, refl, arith, length-append}
use Rattle.std.specs.Prelude.{Option, Result, IsSome}
use Rattle.std.specs.FinMap.{get}
use Rattle.ec_io.specs.declared.store.Failed.{Failed}
use Rattle.ec_io.specs.Disk.{Disk, content}
use Rattle.ec_io.specs.Calls.{Reads, ReadsOn}

-- these bytes were read of the file so far
pub record ReadOf (name : List ℕ) (disk : Disk) (now : Option Disk) (bytes : List ℕ) : Type 0 where
  pub there : IsSome (get disk.files name)
  pub within : length bytes ≤ length (content disk.files name)
  pub front : bytes ≡ take (length bytes) (content disk.files name)
  pub place : now ≡ Some (record disk { input = Some (name, length bytes) })

abbrev pub ReadSoFar : List ℕ → Option Disk → Option Disk → List ℕ → Type 0
ReadSoFar name None now bytes = now ≡ None
ReadSoFar name (Some disk) now bytes = ReadOf name disk now bytes

pub length-more : (bytes buf : List ℕ) (n : ℕ) → n ≤ length buf → length (bytes ++ take n buf) ≡ length bytes + n
length-more bytes buf n fits = length-append bytes (take n buf) ∙ ap (λ (k : ℕ). length bytes + k) (length-take-le n buf fits)

pub read_more : (name : List ℕ) (old mid new : Option Disk) (bytes : List ℕ) (n : ℕ) (buf : List ℕ)
    → n ≤ length buf → ReadSoFar name old mid bytes → (let r : Result ℕ Failed = Ok n in Reads mid new r buf)
    → ReadSoFar name old new (bytes ++ take n buf)
read_more name None mid new bytes n buf fits so_far reads = rw so_far at reads
read_more name (Some disk) mid new bytes n buf fits so_far reads =
    let on : ReadsOn (record disk { input = Some (name, length bytes) }) new n buf (name, length bytes) = rw so_far.place at reads in
    let grown : length (bytes ++ take n buf) ≡ length bytes + n = length-more bytes buf n fits in
    record {
      there = so_far.there;
      within = omega (arith, grown, on.within);
      front = rw (grown, take-add, ← so_far.front, ← on.bytes) refl;
      place = on.moved ∙ ap (λ (k : ℕ). Some (record disk { input = Some (name, k) })) (sym grown);
    }
