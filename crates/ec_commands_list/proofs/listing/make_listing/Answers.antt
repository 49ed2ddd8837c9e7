use Rattle.std.proofs.Common.{subst}
use Rattle.ec_list.specs.Lists.{Lists}
use Rattle.ec_commands_list.proofs.Printed.{ok_both}
use Rattle.ec_commands_list.proofs.listing.make_listing.Goals as goal

pub returns-clause-made : goal.returns-clause-made
returns-clause-made g c =
    let image = c.in-Ok-load_image.image in
    ok_both c.listing_of.result _ _ _
    (λ text is lists. (
      record {
        text = c.in-Ok.hex.items;
        is_hex = record { told = c.in-Ok.ensures.found.told; fits = c.in-Ok.ensures.found.within };
        bytes = image.bytes.items;
        written = image.written.items;
        denotes = c.in-Ok-load_image.ensures.denoted;
      },
      (
        is,
        subst (λ core. Lists core text.items image.bytes.items image.written.items) c.in-Ok-load_image.ensures.core lists,
      ),
    ))
    c.listing_of.ensures.value c.listing_of.ensures.lists
