-- The address that the code has of an object is that of its place.
use Rattle.std.proofs.Common.{◌≡◌, ◌+◌, ◌%◌, ◌<◌, ℕ, Some, refl, subst, ap, ◌∙◌, arith}
use Rattle.std.specs.Prelude.{slice_get}
use Rattle.std.proofs.lemmas.Bool.{lt-ltb}
use Rattle.ec_space.specs.declared.space.Place.{Place}
use Rattle.ec_asm.specs.declared.items.AsmProgram.{AsmProgram}
use Rattle.ec_core.specs.Plain.{PlainObject, PlainProgram}
use Rattle.ec_core.specs.Valid.{Valid}
use Rattle.ec_map.specs.declared.map.Map.{Map}
use Rattle.ec_locate.specs.Code.{address_of, start_of}
use Rattle.ec_locate.specs.Layout.{LayoutView}
use Rattle.ec_locate.specs.Placing.{IsLocated, layout_by}
use Rattle.ec_locate.specs.declared.placing.Located.{Located}
use Rattle.ec_locate.proofs.Objects.{few_objects}

pub object_start : (p : PlainProgram) (m : Map) (asm : AsmProgram) (l : Located) → Valid p m.io → IsLocated p m asm l
    → (last i : ℕ) (o : PlainObject)
    (q : Place) → slice_get p.objects i ≡ Some o → slice_get l.places.items i ≡ Some q → start_of (layout_by p m asm) last i ≡ q.offset
object_start p m asm l valid located last i o q is at =
    let less = few_objects p m.io valid i o is in
    let placed : slice_get (layout_by p m asm).places i ≡ Some q = subst (λ ps. slice_get ps i ≡ Some q) located.places at in
    rw (lt-ltb i 1024 less, placed) refl

-- an address with two bytes
pub address_from : (y : LayoutView) (last n at i : ℕ) → start_of y last n ≡ at → at + i < 65536 → address_of y last n i ≡ at + i
address_from y last n at i start low = ap (λ a. (a + i) % 65536) start ∙ (let wrap : (at + i) % 65536 ≡ at + i = omega (arith, low) in wrap)
