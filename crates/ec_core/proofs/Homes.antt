-- The homes of objects and the banks that they stand in.
use Rattle.std.proofs.Common.{◌≡◌, true, false, refl}
use Rattle.std.specs.Prelude.{IsTrue}
use Rattle.ec_space.specs.declared.space.Bank.TheVariants.{Data as DataBank}
use Rattle.ec_space.specs.declared.space.Home.{Home}
use Rattle.ec_space.specs.declared.space.Home.TheVariants.{Flash as FlashHome, Far as FarHome, Data as DataHome}
use Rattle.ec_space.specs.declared.space.SpaceId.{SpaceId}
use Rattle.ec_space.specs.declared.space.SpaceId.TheVariants.{Flash, FarFlash, Data, Generic}
use Rattle.ec_space.specs.Spaces.{bank_of, holds, reaches}
use Rattle.ec_core.specs.Accesses.{is_read_only}

-- the objects of a home that a space holds stand in a bank that it reaches
pub home_reached : (space : SpaceId) (home : Home) → IsTrue (holds space home) → IsTrue (reaches space (bank_of home))
home_reached Flash FlashHome h = refl
home_reached Flash FarHome h = refl
home_reached Flash DataHome h = cc
home_reached FarFlash FlashHome h = refl
home_reached FarFlash FarHome h = refl
home_reached FarFlash DataHome h = cc
home_reached Data FlashHome h = cc
home_reached Data FarHome h = cc
home_reached Data DataHome h = refl
home_reached Generic home h = refl

-- what stands in the data bank has the home data
pub home_in_data : (home : Home) → bank_of home ≡ DataBank → home ≡ DataHome
home_in_data FlashHome h = cc
home_in_data FarHome h = cc
home_in_data DataHome h = refl

-- so has what can be written
pub home_written : (home : Home) → is_read_only home ≡ false → home ≡ DataHome
home_written FlashHome h = cc
home_written FarHome h = cc
home_written DataHome h = refl
