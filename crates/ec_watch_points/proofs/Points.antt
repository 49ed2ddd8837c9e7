-- The point of a number has a width, and ends below address 65,536.
use Rattle.std.proofs.Common.{◌≡◌, ℕ, ◌+◌, ◌≤◌, List, sym, ap, subst, arith}
use Rattle.ec_space.specs.declared.space.Place.{Place}
use Rattle.ec_core.specs.Plain.{PlainProgram}
use Rattle.ec_core.specs.TypeLaws.{LeavesFillTheirTypes}
use Rattle.ec_emu_watch.specs.declared.point.WatchPoint.{WatchPoint}
use Rattle.ec_emu_watch.specs.Points.{IsWidth}
use Rattle.ec_watch_points.specs.Numbers.{IsValid, IsPointOf, HavePlaces}
use Rattle.ec_watch_points.proofs.Named.{leaf_there, width_of, ends_low}

module _ (p : PlainProgram) (valid : IsValid p) (fill : LeavesFillTheirTypes) (places : List Place) where
  pub has_width : (name : List ℕ) (k : ℕ) (point : WatchPoint) → IsPointOf p places name k point → IsWidth point.bytes
  has_width name k point h =
      let n = h.is_number in
      subst IsWidth (sym h.bytes)
      (width_of h.leaf.ty h.ty (leaf_there p valid fill point.object k n.object h.leaf n.is_object n.is_leaf).scalar.scalar n.arithmetic)

  pub ends_within : HavePlaces p places → (name : List ℕ) (k : ℕ) (point : WatchPoint) → IsPointOf p places name k point
      → point.place.offset + point.bytes ≤ 65536
  ends_within have name k point h =
      let n = h.is_number in
      let low = ends_low p valid fill places name point.object k n.object h.leaf h.object_place have
      (record { is = n.is_object; named = n.named }) h.stands n.is_leaf in
      let at : point.place.offset ≡ h.object_place.offset + h.leaf.at = ap (λ (z : Place). z.offset) h.place in
      let bytes = h.bytes in omega (arith, low, at, bytes)
