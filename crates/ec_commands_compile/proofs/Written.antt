-- What a build left, from what it read and wrote.
use Rattle.std.proofs.Common.{◌≡◌, ◌∙◌, ℕ, List, take, Some, None, Ok, Err, sym, ap, subst, inl, inr}
use Rattle.std.specs.Prelude.{Option, Result}
use Rattle.std.specs.FinMap.{remove}
use Rattle.ec_io.specs.Disk.{Files, Disk}
use Rattle.ec_io.specs.declared.store.Failed.{Failed}
use Rattle.ec_hex.specs.Denotes.{Denotes}
use Rattle.ec_hex.specs.Text.{image_text}
use Rattle.ec_build.specs.declared.building.Built.{Built}
use Rattle.ec_commands.specs.Shown.{KeepsAll, Told, Holds, WritesFile}
use Rattle.ec_commands.specs.Words.{Words, out_name}
use Rattle.ec_commands_compile.specs.Builds.{IsBuiltFrom, Builds, LeavesPrefix, HasImage}

pub built : (words : Words) (old mid new : Option Disk) (b : Built) → KeepsAll old mid → Told (IsBuiltFrom words 3 b) old
    → (let r : Result Unit Failed = Ok tt in WritesFile (out_name words) mid new r (image_text b.located.image))
    → Denotes b.located.image.core (image_text b.located.image) b.located.image.bytes.items b.located.image.written.items
    → Builds words old new
built words None mid new b kept from wrote denotes = tt
built words (Some old) None new b kept from wrote denotes = absurd kept
built words (Some old) (Some mid) None b kept from wrote denotes = absurd wrote
built words (Some old) (Some mid) (Some new) b kept from wrote denotes = record {
  built = b;
  from = from;
  text = wrote.content;
  denotes = subst (λ t. Denotes b.located.image.core t b.located.image.bytes.items b.located.image.written.items)
      (sym wrote.content) denotes;
  others = wrote.others ∙ ap (λ (files : Files). remove files (out_name words)) kept;
}

same_before : (name bytes : List ℕ) (old mid new : Disk) → mid.files ≡ old.files → Holds name bytes mid new → Holds name bytes old new
same_before name bytes old mid new kept h =
    record { content = h.content; others = h.others ∙ ap (λ (files : Files). remove files name) kept }

pub left_front : (words : Words) (old mid new : Option Disk) (b : Built) (e : Failed) → KeepsAll old mid → Told (IsBuiltFrom words 3 b) old
    → (let r : Result Unit Failed = Err e in WritesFile (out_name words) mid new r (image_text b.located.image))
    → LeavesPrefix words old new
left_front words None mid new b e kept from wrote = tt
left_front words (Some old) None new b e kept from wrote = absurd kept
left_front words (Some old) (Some mid) None b e kept from wrote = absurd wrote
left_front words (Some old) (Some mid) (Some new) b e kept from wrote = elim wrote [
  | inl same ↦ inl (same ∙ kept)
  | inr front ↦ inr (
    b,
    (from, (front.0, same_before (out_name words) (take front.0 (image_text b.located.image)) old mid new kept front.1)),
  )
]

pub has_image : (words : Words) (old : Option Disk) (b : Built) → Told (IsBuiltFrom words 3 b) old → Told (HasImage words 3) old
has_image words None b h = tt
has_image words (Some old) b h = (b, h)
