-- Linkages of names at file scope (ISO/IEC 9899:1999, 6.2.2).
use Rattle.std.specs.Prelude.{Bool, true, false, unwrap_or, Option, Some, None}
use Rattle.ec_check_names.specs.declared.linkage.Linkage.{Linkage}
use Rattle.ec_check_names.specs.declared.linkage.Linkage.TheVariants.{Internal, External}
use Rattle.ec_check_names.specs.declared.specifiers.StorageWord.{StorageWord}
use Rattle.ec_check_names.specs.declared.specifiers.StorageWord.TheVariants.{Extern, Static}

-- the linkage of a declaration at file scope, of a function or of an object, where an earlier declaration of the name
-- in the unit has a linkage or there is none: `static` is internal; `extern`, and a function without a storage word, is
-- what it was, and external where there is no earlier one; and so is every other object
abbrev pub linkage_of : Option StorageWord → (function : Bool) → (earlier : Option Linkage) → Linkage
linkage_of (Some Static) function earlier = Internal
linkage_of (Some Extern) function earlier = unwrap_or earlier External
linkage_of None true earlier = unwrap_or earlier External
linkage_of None false earlier = External
