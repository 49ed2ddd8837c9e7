-- Each test of a word decides its kind.
use Rattle.std.proofs.Common.{true, false, refl}
use Rattle.std.specs.Prelude.{is_some}
use Rattle.std.specs.Bool.{Decides}
use Rattle.std.proofs.lemmas.Bool.{false≢true}
use Rattle.ec_grammar.specs.declared.token.WordKind.{WordKind}
use Rattle.ec_grammar.specs.declared.token.WordKind.TheVariants as w
use Rattle.ec_check_names.specs.Qualifiers.{space_word, is_const_word, is_flash_word}
use Rattle.ec_check_names.specs.Specifiers.{storage_word}
use Rattle.ec_check_parts.specs.Words.{IsSpaceWord, IsFlashWord, IsConstWord, IsStorageWord}

yes : {P : Type 0} → P → Decides true P
yes p = (λ e. p, λ h. refl)

no : {P : Type 0} → ¬ P → Decides false P
no n = (λ e. absurd (false≢true e), λ h. absurd (n h))

pub space_told : (k : WordKind) → Decides (is_some (space_word k)) (IsSpaceWord k)
space_told w.Flash = yes tt
space_told w.FarFlash = yes tt
space_told w.Data = yes tt
space_told k = no (λ h. h)

pub flash_told : (k : WordKind) → Decides (is_flash_word k) (IsFlashWord k)
flash_told w.Flash = yes tt
flash_told w.FarFlash = yes tt
flash_told k = no (λ h. h)

pub const_told : (k : WordKind) → Decides (is_const_word k) (IsConstWord k)
const_told w.Const = yes tt
const_told k = no (λ h. h)

pub storage_told : (k : WordKind) → Decides (is_some (storage_word k)) (IsStorageWord k)
storage_told w.Extern = yes tt
storage_told w.Static = yes tt
storage_told k = no (λ h. h)
