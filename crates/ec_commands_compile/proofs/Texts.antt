-- The text of the image of the named files.
use Rattle.std.proofs.Common.{◌≡◌, ◌∙◌, ◌≤◌, ℕ, List, [], ◌∷◌, length, Some, None, refl, sym, ap, subst}
use Rattle.std.specs.Prelude.{Option}
use Rattle.std.specs.FinMap.{get}
use Rattle.ec_io.specs.Disk.{Files, Disk}
use Rattle.ec_hex.specs.Text.{image_text, hex_text}
use Rattle.ec_build.specs.Builds.{IsBuilt}
use Rattle.ec_build.specs.declared.building.Built.{Built}
use Rattle.ec_build.specs.Images.{BuildsHaveOneImage}
use Rattle.ec_commands.specs.Shown.{Told}
use Rattle.ec_commands.specs.Sources.{HoldTexts}
use Rattle.ec_commands.specs.Words.{Words, names_from}
use Rattle.ec_commands_compile.specs.Builds.{IsBuiltFrom, IsTextOf, BuildsHaveOneText, FitsText}

-- ---- what files hold

held_in : List ℕ → Option (List ℕ) → List ℕ
held_in bytes None = bytes
held_in bytes (Some held) = held

same_text : (files : Files) (name one other : List ℕ) → get files name ≡ Some one → get files name ≡ Some other → one ≡ other
unfolding held_in
same_text files name one other a b = ap (held_in one) (sym a ∙ b)

same_texts : (files : Files) (names ones others : List (List ℕ)) → HoldTexts names ones files → HoldTexts names others files
    → ones ≡ others
same_texts files [] [] [] a b = refl
same_texts files [] [] (y ∷ ys) a b = absurd b
same_texts files [] (x ∷ xs) ys a b = absurd a
same_texts files (n ∷ ns) [] ys a b = absurd a
same_texts files (n ∷ ns) (x ∷ xs) [] a b = absurd b
same_texts files (n ∷ ns) (x ∷ xs) (y ∷ ys) a b =
    λ j. same_text files n x y a.0 b.0 j ∷ same_texts files ns xs ys a.1 b.1 j

-- ---- texts of images

one_text : BuildsHaveOneImage → (words : Words) (first : ℕ) (files : Files) (a b : Built) → IsBuiltFrom words first a files
    → IsBuiltFrom words first b files → image_text a.located.image ≡ image_text b.located.image
one_text law words first files a b x y =
    let map : y.map ≡ x.map = same_text files _ y.map x.map y.inputs.map_there x.inputs.map_there in
    let sources : y.sources ≡ x.sources =
    same_texts files (names_from words first) y.sources x.sources y.inputs.sources_there x.inputs.sources_there in
    let built : IsBuilt x.sources x.map b =
    subst (λ (m : List ℕ). IsBuilt x.sources m b) map (subst (λ (s : List (List ℕ)). IsBuilt s y.map b) sources y.built) in
    let same = law x.sources x.map a b x.built built in
    λ j. hex_text (same.flash j).bytes (same.flash j).written

pub builds_have_one_text : BuildsHaveOneImage → BuildsHaveOneText
builds_have_one_text law words first files text other a b =
    a.is ∙ one_text law words first files a.built b.built a.from b.from ∙ sym b.is

-- the text that is written fits where a text of the files does
pub text_fits : BuildsHaveOneText → (words : Words) (disk : Option Disk) (b : Built) (room : ℕ)
    → Told (IsBuiltFrom words 3 b) disk → FitsText words disk room → length (image_text b.located.image) ≤ room
text_fits law words None b room from fits = fits b
text_fits law words (Some disk) b room from fits =
    let t = fits (b, from) in
    let here : IsTextOf words 3 disk.files (image_text b.located.image) = record { built = b; from = from; is = refl } in
    subst (λ (text : List ℕ). length text ≤ room) (law words 3 disk.files t.text (image_text b.located.image) t.of_files here) t.most
