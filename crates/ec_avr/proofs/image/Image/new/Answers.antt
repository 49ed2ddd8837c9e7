use Rattle.std.proofs.Common.{◌≡◌, ◌∙◌, ◌<◌, ℕ, List, Some, ap, length, replicate, slice_get, false, arith}
use Rattle.std.proofs.lemmas.List.{length-replicate, get_or-replicate}
use Rattle.std.proofs.lemmas.Option.{slice_get-get_or, slice_get_within}
use Rattle.ec_avr.proofs.image.Image.new.Goals as goal

slice_get-replicate : (n k : ℕ) (a : ℕ) → k < n → slice_get (replicate n a) k ≡ Some a
slice_get-replicate n k a below =
    slice_get-get_or (replicate n a) k a (omega (arith, length-replicate n a)) ∙ ap Some (get_or-replicate n k a a below)

pub invariant_of-result : goal.invariant_of-result
invariant_of-result c =
    let flags = ap length c.in_ok-filled-2.ensures ∙ length-replicate c.flash_size-size.result false in
    record {
      sized = ap length c.in_ok-filled.ensures ∙ length-replicate c.flash_size-size.result 255 ∙ c.flash_size-size.ensures;
      flagged = flags ∙ c.flash_size-size.ensures;
      blank = λ k at.
          ap (λ (s : List ℕ). slice_get s k) c.in_ok-filled.ensures
          ∙ slice_get-replicate c.flash_size-size.result k 255 (omega (arith, slice_get_within _ k false at, flags));
    }
