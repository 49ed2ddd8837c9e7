-- The image of sources and a map.
use Rattle.std.specs.Prelude.{ℕ, ◌≡◌, List}
use Rattle.ec_core.specs.Plain.{plain_program}
use Rattle.ec_locate.specs.Image.{flash_of}
use Rattle.ec_build.specs.Builds.{IsBuilt}
use Rattle.ec_build.specs.declared.building.Built.{Built}

-- two builds have one program, and images with the same core, the same bytes and the same of them written
pub record AreAlike (a b : Built) : Type 0 where
  pub program : plain_program a.program ≡ plain_program b.program
  pub core : a.located.image.core ≡ b.located.image.core
  pub flash : flash_of a.located.image ≡ flash_of b.located.image

-- so are any two of the same sources by the same map
abbrev pub BuildsHaveOneImage : Type 0
BuildsHaveOneImage =
    (sources : List (List ℕ)) (map : List ℕ) (a b : Built) → IsBuilt sources map a → IsBuilt sources map b
    → AreAlike a b
