-- What was printed of a HEX file.
use Rattle.std.proofs.Common.{◌≡◌, ℕ, List, take, Ok, Err, subst}
use Rattle.std.specs.Prelude.{Option, Result, IfOk}
use Rattle.std.specs.Io.KnownBytes.{Appends}
use Rattle.ec_space.specs.declared.Core.{Core}
use Rattle.ec_io.specs.Disk.{Disk}
use Rattle.ec_io.specs.Views.{SinkCall}
use Rattle.ec_list.specs.Lists.{Lists, listing}
use Rattle.ec_commands.specs.Words.{Words}
use Rattle.ec_commands_list.specs.Listings.{HexOf, Listed}

pub ok_both : {T E : Type 0} (r : Result T E) (P Q R : T → Type 0) → ((x : T) → P x → Q x → R x) → IfOk r P → IfOk r Q → IfOk r R
ok_both (Ok x) P Q R both p q = both x p q
ok_both (Err e) P Q R both p q = tt

-- a text is the listing of the image of a HEX file, which it lists
abbrev pub IsListingOf : (words : Words) (core : Core) (disk : Option Disk) → List ℕ → Type 0
IsListingOf words core disk text =
    (hex : HexOf words core disk) × ((text ≡ listing hex.bytes hex.written) × Lists core text hex.bytes hex.written)

pub listed : (words : Words) (core : Core) (disk : Option Disk) (out : SinkCall) (text : List ℕ) → IsListingOf words core disk text
    → Appends out.before out.after text → Listed words core disk out
listed words core disk out text made shown = record {
  hex = made.0;
  shown = subst (λ t. Appends out.before out.after t) made.1.0 shown;
  lists = subst (λ t. Lists core t made.0.bytes made.0.written) made.1.0 made.1.1;
}

pub cut : (old new : Option (List ℕ)) (n : ℕ) (text whole : List ℕ) → text ≡ whole → Appends old new (take n text)
    → Appends old new (take n whole)
cut old new n text whole same front = subst (λ t. Appends old new (take n t)) same front
