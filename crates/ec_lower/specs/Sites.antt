-- Where places are.
use Rattle.ec_lower.specs.declared.places.Site.{Site}
use Rattle.ec_lower.specs.declared.places.Site.TheVariants.{Named, Pointed}
use Rattle.ec_lower_code.specs.Code.{Site as PlainSite, named, pointed}

-- where a place is
abbrev pub plain_site : Site → PlainSite
plain_site (Named o offset) = named o offset
plain_site (Pointed ptr space) = pointed ptr space
