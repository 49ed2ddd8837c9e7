-- Which spaces hold the home of an object by the space of its declaration.
use Rattle.std.proofs.Common.{◌≡◌, refl}
use Rattle.std.specs.Prelude.{◌≢◌, ◌↔◌, IsTrue}
use Rattle.ec_space.specs.declared.space.SpaceId.{SpaceId}
use Rattle.ec_space.specs.declared.space.SpaceId.TheVariants.{Flash, FarFlash, Data, Generic}
use Rattle.ec_space.specs.Spaces.{holds, encloses}
use Rattle.ec_check_file_scope.specs.FileObjects.{home_of}
use Rattle.ec_check_file_scope.specs.Laws.{HomesAreDeclared}

named : (space declared : SpaceId) → declared ≢ Generic → IsTrue (holds space (home_of declared)) ↔ IsTrue (encloses space declared)
named Flash Flash other = (λ h. h, λ h. h)
named FarFlash Flash other = (λ h. h, λ h. h)
named Data Flash other = (λ h. h, λ h. h)
named Generic Flash other = (λ h. h, λ h. h)
named Flash FarFlash other = (λ h. h, λ h. h)
named FarFlash FarFlash other = (λ h. h, λ h. h)
named Data FarFlash other = (λ h. h, λ h. h)
named Generic FarFlash other = (λ h. h, λ h. h)
named Flash Data other = (λ h. h, λ h. h)
named FarFlash Data other = (λ h. h, λ h. h)
named Data Data other = (λ h. h, λ h. h)
named Generic Data other = (λ h. h, λ h. h)
named space Generic other = absurd (other refl)

pub homes_are_declared : HomesAreDeclared
homes_are_declared = record { named = named; unnamed = refl }
