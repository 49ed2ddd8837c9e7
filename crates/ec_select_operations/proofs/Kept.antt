-- Where an object is kept.
use Rattle.std.proofs.Common.{◌≡◌, ℕ, refl, Some, None, Option}
use Rattle.std.specs.Prelude.{option_map, unwrap_or, slice_get}
use Rattle.ec_space.specs.declared.space.Bank.TheVariants.{Data as DataBank}
use Rattle.ec_space.specs.declared.space.Home.TheVariants.{Data as DataHome}
use Rattle.ec_space.specs.Spaces.{bank_of}
use Rattle.ec_core.specs.Plain.{PlainObject, PlainProgram}
use Rattle.ec_select_operations.specs.Pointers.{home_of, kept_in}

-- the bank of an object is that of its home
pub bank_kept : (p : PlainProgram) (o : ℕ) → bank_of (kept_in p o) ≡ home_of p o
bank_kept p o = declared (slice_get p.objects o)
  where
    declared : (d : Option PlainObject)
        → bank_of (unwrap_or (option_map (λ d. d.home) d) DataHome) ≡ unwrap_or (option_map (λ d. bank_of d.home) d) DataBank
    declared None = refl
    declared (Some d) = refl

-- the home of an object that is there
pub kept_there : (p : PlainProgram) (o : ℕ) (d : PlainObject) → slice_get p.objects o ≡ Some d → kept_in p o ≡ d.home
kept_there p o d e = rw e refl
