-- A line that is read after clear lines.
use Rattle.std.specs.Prelude.{slice_get, All}
use Rattle.std.proofs.lemmas.List.Elements.{All-push}
use Rattle.std.proofs.Common.{◌≡◌, ◌+◌, ℕ, true, List, [], ◌∷◌, ◌++◌, take, Some, refl, sym, ap, ◌∙◌, subst, append-nil}
use Rattle.ec_space.specs.declared.Core.{Core}
use Rattle.ec_avr.specs.declared.image.Image.{Image}
use Rattle.ec_hex.specs.Record.{Reading, Sound, Data}
use Rattle.ec_hex.specs.Denotes.{addressed, data_of}
use Rattle.ec_hex.specs.Reading.{base_after, Holds, HasRead, Misfit}
use Rattle.ec_hex.specs.Stops.{told, data_in, is_passed, AreInFlash, AreOnce, IsClear, StopsIn}
use Rattle.ec_hex.specs.declared.read.HexStop.{HexStop}
use Rattle.ec_hex.specs.declared.read.HexStop.TheVariants.{BadRecord, BadSum, OutOfFlash, Twice, NoEnd, NoMemory}
use Rattle.ec_hex.specs.declared.read.Reader.{Reader}
use Rattle.ec_hex.proofs.Stopping.{next_lines, data_in-next, base_after-next}

-- all data up to a line, where the data before it was read
data_on : (readings : List Reading) (n : ℕ) (reading : Reading) (old : Reader) → slice_get readings n ≡ Some reading
    → HasRead (take n readings) old
    → data_in (take (n + 1) readings) ≡ data_in (take n readings) ++ data_of old.base (told (reading ∷ []))
data_on readings n reading old at read =
    data_in-next readings n reading at read.clear.passed
    ∙ ap (λ (base : ℕ). data_in (take n readings) ++ data_of base (told (reading ∷ []))) (sym read.base)

pub read_on : (readings : List Reading) (n : ℕ) (reading : Reading) (old new : Reader) → slice_get readings n ≡ Some reading
    → is_passed reading ≡ true
    → HasRead (take n readings) old → Holds new.image (data_in (take n readings) ++ data_of old.base (told (reading ∷ [])))
    → new.base ≡ base_after old.base (told (reading ∷ [])) → HasRead (take (n + 1) readings) new
read_on readings n reading old new at passed read holds base =
    let cells : data_in (take (n + 1) readings) ≡ data_in (take n readings) ++ data_of old.base (told (reading ∷ [])) =
    data_on readings n reading old at read in
    let image : Holds new.image (data_in (take (n + 1) readings)) = subst (λ (cs : List (ℕ × ℕ)). Holds new.image cs) (sym cells) holds in
    record {
      clear = record {
        passed = subst (λ (lines : List Reading). All (λ r. is_passed r ≡ true) lines) (sym (next_lines readings n reading at))
            (All-push (λ r. is_passed r ≡ true) (take n readings) reading read.clear.passed passed);
        in_flash = image.in_flash;
        once = image.once;
      };
      image = image;
      base = base ∙ ap (λ (b : ℕ). base_after b (told (reading ∷ []))) read.base ∙ sym (base_after-next readings n reading at);
    }

-- a line that tells no data
pub read_past : (readings : List Reading) (n : ℕ) (reading : Reading) (old new : Reader) → slice_get readings n ≡ Some reading
    → is_passed reading ≡ true
    → HasRead (take n readings) old → data_of old.base (told (reading ∷ [])) ≡ [] → new.image ≡ old.image
    → new.base ≡ base_after old.base (told (reading ∷ [])) → HasRead (take (n + 1) readings) new
read_past readings n reading old new at passed read none same base =
    read_on readings n reading old new at passed read
    (subst (λ (image : Image). Holds image (data_in (take n readings) ++ data_of old.base (told (reading ∷ [])))) (sym same)
    (subst (λ (cells : List (ℕ × ℕ)). Holds old.image cells)
    (sym (ap (λ (more : List (ℕ × ℕ)). data_in (take n readings) ++ more) none ∙ append-nil (data_in (take n readings)))) read.image)) base

pub data_line : (readings : List Reading) (n offset at : ℕ) (bytes : List ℕ) (old new : Reader)
    → slice_get readings n ≡ Some (Sound (Data offset bytes))
    → HasRead (take n readings) old → at ≡ old.base + offset → Holds new.image (data_in (take n readings) ++ addressed at bytes)
    → new.base ≡ old.base
    → HasRead (take (n + 1) readings) new
data_line readings n offset at bytes old new is read place holds base =
    read_on readings n (Sound (Data offset bytes)) old new is refl read
    (subst (λ (cells : List (ℕ × ℕ)). Holds new.image (data_in (take n readings) ++ cells))
    (ap (λ (a : ℕ). addressed a bytes) place ∙ sym (append-nil (addressed (old.base + offset) bytes))) holds) base

misfits : (readings : List Reading) (n line : ℕ) (core : Core) (cells : List (ℕ × ℕ)) (stop : HexStop) → line ≡ n + 1
    → IsClear core (take n readings)
    → data_in (take (n + 1) readings) ≡ cells → Misfit core cells line stop → StopsIn core readings stop
misfits readings n line core cells (BadRecord l) place clear is h = absurd h
misfits readings n line core cells (BadSum l) place clear is h = absurd h
misfits readings n line core cells (OutOfFlash l) place clear is h =
    (n, (h.0 ∙ place, (clear, (λ all. h.1 (subst (λ (cs : List (ℕ × ℕ)). AreInFlash core cs) is all)))))
misfits readings n line core cells (Twice l) place clear is h = (
  n,
  (
    h.0 ∙ place,
    (
      clear,
      (
        subst (λ (cs : List (ℕ × ℕ)). AreInFlash core cs) (sym is) h.1.0,
        (λ once. h.1.1 (subst (λ (cs : List (ℕ × ℕ)). AreOnce cs) is once)),
      ),
    ),
  ),
)
misfits readings n line core cells NoEnd place clear is h = absurd h
misfits readings n line core cells NoMemory place clear is h = tt

pub data_misfit : (readings : List Reading) (n line offset at : ℕ) (bytes : List ℕ) (old : Reader) (stop : HexStop) → line ≡ n + 1
    → slice_get readings n ≡ Some (Sound (Data offset bytes)) → HasRead (take n readings) old → at ≡ old.base + offset
    → Misfit old.image.core (data_in (take n readings) ++ addressed at bytes) line stop → StopsIn old.image.core readings stop
data_misfit readings n line offset at bytes old stop place is read where_at h =
    misfits readings n line old.image.core (data_in (take n readings) ++ addressed at bytes) stop place read.clear
    (data_on readings n (Sound (Data offset bytes)) old is read
    ∙ ap (λ (cells : List (ℕ × ℕ)). data_in (take n readings) ++ cells)
    (append-nil (addressed (old.base + offset) bytes) ∙ ap (λ (a : ℕ). addressed a bytes) (sym where_at))) h
