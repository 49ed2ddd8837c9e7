-- What was assembled left, from what was read and written.
use Rattle.std.proofs.Common.{◌≡◌, ◌∙◌, ℕ, List, Bool, take, Some, None, Ok, Err, sym, ap, subst, inl, inr}
use Rattle.std.specs.Prelude.{Option, Result}
use Rattle.std.specs.FinMap.{remove}
use Rattle.ec_space.specs.declared.Core.{Core}
use Rattle.ec_io.specs.Disk.{Files, Disk}
use Rattle.ec_io.specs.declared.store.Failed.{Failed}
use Rattle.ec_avr.specs.declared.image.Image.{Image}
use Rattle.ec_hex.specs.Denotes.{Denotes}
use Rattle.ec_hex.specs.Text.{image_text}
use Rattle.ec_commands.specs.Shown.{KeepsAll, Told, Holds, WritesFile}
use Rattle.ec_commands.specs.Words.{Words, assembled_name}
use Rattle.ec_commands_list.specs.Assemblies.{IsListedIn, Assembles, LeavesPrefix, HasImage}

pub assembled : (words : Words) (core : Core) (old mid new : Option Disk) (image : Image) → image.core ≡ core → KeepsAll old mid
    → Told (IsListedIn words core image.bytes.items image.written.items) old
    → (let r : Result Unit Failed = Ok tt in WritesFile (assembled_name words) mid new r (image_text image))
    → Denotes image.core (image_text image) image.bytes.items image.written.items → Assembles words core old new
assembled words core None mid new image same kept listed wrote denotes = tt
assembled words core (Some old) None new image same kept listed wrote denotes = absurd kept
assembled words core (Some old) (Some mid) None image same kept listed wrote denotes = absurd wrote
assembled words core (Some old) (Some mid) (Some new) image same kept listed wrote denotes = record {
  bytes = image.bytes.items;
  written = image.written.items;
  listed = listed;
  text = wrote.content;
  denotes = subst (λ t. Denotes core t image.bytes.items image.written.items) (sym wrote.content)
      (subst (λ c. Denotes c (image_text image) image.bytes.items image.written.items) same denotes);
  others = wrote.others ∙ ap (λ (files : Files). remove files (assembled_name words)) kept;
}

same_before : (name bytes : List ℕ) (old mid new : Disk) → mid.files ≡ old.files → Holds name bytes mid new → Holds name bytes old new
same_before name bytes old mid new kept h =
    record { content = h.content; others = h.others ∙ ap (λ (files : Files). remove files name) kept }

pub left_front : (words : Words) (core : Core) (old mid new : Option Disk) (image : Image) (e : Failed) → KeepsAll old mid
    → Told (IsListedIn words core image.bytes.items image.written.items) old
    → (let r : Result Unit Failed = Err e in WritesFile (assembled_name words) mid new r (image_text image))
    → LeavesPrefix words core old new
left_front words core None mid new image e kept listed wrote = tt
left_front words core (Some old) None new image e kept listed wrote = absurd kept
left_front words core (Some old) (Some mid) None image e kept listed wrote = absurd wrote
left_front words core (Some old) (Some mid) (Some new) image e kept listed wrote = elim wrote [
  | inl same ↦ inl (same ∙ kept)
  | inr front ↦ inr (
    image.bytes.items,
    (
      image.written.items,
      (listed, (front.0, same_before (assembled_name words) (take front.0 (image_text image)) old mid new kept front.1)),
    ),
  )
]

pub has_image : (words : Words) (core : Core) (old : Option Disk) (bytes : List ℕ) (written : List Bool)
    → Told (IsListedIn words core bytes written) old → Told (HasImage words core) old
has_image words core None bytes written h = tt
has_image words core (Some old) bytes written h = (bytes, (written, h))
