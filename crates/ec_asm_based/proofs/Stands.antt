-- Where items stand by the base, the items stand.
use Rattle.std.proofs.Common.{◌≡◌, ℕ, ◌+◌, ◌-◌, ◌%◌, ◌<◌, ◌≤◌, ⊎_elim, inl, inr, Bool, true, false, ◌&&◌, List, [], ◌∷◌, map, Option, Some, None}
use Rattle.std.proofs.Common.{refl, sym, ap, ◌∙◌, subst, arith}
use Rattle.std.specs.Prelude.{nat_lt, nat_le, not, ◌||◌, slice_get, option_and_then, ℤ}
use Rattle.std.specs.List.{list_all}
use Rattle.std.proofs.lemmas.Bool.{and_parts, ltb-true, leb-true}
use Rattle.std.proofs.lemmas.Option.{cond_some}
use Rattle.ec_isa.specs.declared.instructions.Instr.{Instr}
use Rattle.ec_isa.specs.declared.instructions.Instr.TheVariants.{Lds, Sts, LddY, StdY}
use Rattle.ec_asm.specs.declared.items.AsmItem.{AsmItem}
use Rattle.ec_asm.specs.declared.items.AsmItem.TheVariants.{Plain, Label, JumpTo, CallTo, BranchTo, LoadPart, LoadObj, StoreObj}
use Rattle.ec_asm.specs.Base.{leaves_base}
use Rattle.ec_asm.specs.Change.{Env, unbased}
use Rattle.ec_asm.specs.Items.{At, IsNear, LoadsAt, StoresAt, JumpsAt, CallsAt, BranchesAt, Stands, HasAt, branch_if, branch_unless}
use Rattle.ec_asm.specs.Run.{keeps_base}
use Rattle.ec_asm.proofs.Fetched.{fetched, fetch_kept}
use Rattle.ec_asm_based.specs.Based.{distance_in, distance_of, load_by, store_by, based_item, item_leaves_base}
use Rattle.ec_asm_based.specs.Laws.{AreReached, BasedCodeStands}
use Rattle.ec_asm_based.specs.declared.reach.Reach.{Reach}

-- ---- what is near

-- a distance that is given is one to a byte of the object
pub record IsDistance (reaches : List Reach) (base o k q : ℕ) : Type 0 where
  pub reach : Reach
  pub found : slice_get reaches o ≡ Some reach
  pub within : k < reach.bytes
  pub from_there : base ≤ reach.first + k
  pub near : reach.first + k < base + 64
  pub is : q ≡ reach.first + k - base

pub distance_found : (reaches : List Reach) (base o k q : ℕ) → distance_of reaches base o k ≡ Some q → IsDistance reaches base o k q
distance_found reaches base o k q h = by_reach (slice_get reaches o) refl h where
  by_reach : (r : Option Reach) → slice_get reaches o ≡ r → option_and_then (distance_in base k) r ≡ Some q → IsDistance reaches base o k q
  by_reach None f g = absurd (clash g) where
    clash : None ≡ Some q → ⊥
    clash z = cc
  by_reach (Some r) f g =
      let at = r.first + k in
      let c = cond_some (nat_lt k r.bytes && nat_le base at && nat_lt at (base + 64)) (at - base) q g in
      let a = and_parts (nat_lt k r.bytes && nat_le base at) (nat_lt at (base + 64)) c.0 in
      let b = and_parts (nat_lt k r.bytes) (nat_le base at) a.0 in
      record {
        reach = r;
        found = f;
        within = ltb-true k r.bytes b.0;
        from_there = leb-true base at b.1;
        near = ltb-true at (base + 64) a.1;
        is = sym c.1;
      }

-- ---- instructions

-- an instruction that leaves Y as it is stands where Y is held as where it is free
leaves_keep : (base : ℕ) (i : Instr) → leaves_base i ≡ true → keeps_base base i ≡ true
leaves_keep base i h = rw h (either (not (nat_lt base 65536))) where
  either : (b : Bool) → (b || true) ≡ true
  either true = refl
  either false = refl

module _ (e : Env) where
  kept_at : (i : Instr) (pc end : ℕ) → leaves_base i ≡ true → At (unbased e) i pc end → At e i pc end
  kept_at i pc end h a = record {
    is = fetch_kept e pc i (fetched (unbased e) pc i a.is).0 (leaves_keep e.base i h);
    ends = a.ends;
    room = a.room;
  }

  jump_kept : (l pc end : ℕ) → JumpsAt (unbased e) l pc end → JumpsAt e l pc end
  jump_kept l pc end h =
      ⊎_elim (λ a. inl (kept_at _ pc end refl a.0, a.1)) (λ a. inr (a.0, kept_at _ pc end refl a.1, a.2)) h

  call_kept : (l pc end : ℕ) → CallsAt (unbased e) l pc end → CallsAt e l pc end
  call_kept l pc end h =
      ⊎_elim (λ a. inl (kept_at _ pc end refl a.0, a.1)) (λ a. inr (a.0, kept_at _ pc end refl a.1, a.2)) h

  unless_leaves : (set : Bool) (flag : ℕ) (k : ℤ) → leaves_base (branch_unless set flag k) ≡ true
  unless_leaves true flag k = refl
  unless_leaves false flag k = refl

  if_leaves : (set : Bool) (flag : ℕ) (k : ℤ) → leaves_base (branch_if set flag k) ≡ true
  if_leaves true flag k = refl
  if_leaves false flag k = refl

  branch_kept : (set : Bool) (flag l pc end : ℕ) → BranchesAt (unbased e) set flag l pc end → BranchesAt e set flag l pc end
  branch_kept set flag l pc end h =
      ⊎_elim
      (λ a. inl (a.0, a.1, kept_at _ pc a.0 (unless_leaves set flag a.1) a.2, jump_kept l a.0 end a.3, a.4))
      (λ a. inr (a.0, kept_at _ pc end (if_leaves set flag a.0) a.1, a.2)) h

  -- ---- items

  module _ (reaches : List Reach) (based : e.base < 65536) (stand : AreReached e reaches) where
    is_near : (o k q : ℕ) → distance_of reaches e.base o k ≡ Some q → IsNear e q (e.address_of o k)
    is_near o k q h =
        let d = distance_found reaches e.base o k q h in
        let s = stand o d.reach d.found in
        let at = s.address k d.within in
        let below = s.below k d.within in
        let from = d.from_there in
        let is = d.is in
        record {
          based = based;
          distance_is = let same : (e.base + q) % 65536 ≡ d.reach.first + k = omega arith in same ∙ sym at;
          object = ap e.kind at ∙ s.object k d.within;
        }

    load_kept : (d o k pc end : ℕ) (q : Option ℕ) → distance_of reaches e.base o k ≡ q → leaves_base (Lds d 0) ≡ true
        → Stands (unbased e) (load_by d o k q) pc end → LoadsAt e d (e.address_of o k) pc end
    load_kept d o k pc end None f h s =
        ⊎_elim (λ a. inl (kept_at (Lds d (e.address_of o k)) pc end h a)) (λ a. let no = a.2.based in absurd (omega (arith, no))) s
    load_kept d o k pc end (Some q) f h s = inr (q, kept_at (LddY d q) pc end h s, is_near o k q f)

    store_kept : (o k r pc end : ℕ) (q : Option ℕ) → distance_of reaches e.base o k ≡ q
        → Stands (unbased e) (store_by o k r q) pc end → StoresAt e (e.address_of o k) r pc end
    store_kept o k r pc end None f s =
        ⊎_elim (λ a. inl (kept_at (Sts (e.address_of o k) r) pc end refl a)) (λ a. let no = a.2.based in absurd (omega (arith, no))) s
    store_kept o k r pc end (Some q) f s = inr (q, kept_at (StdY q r) pc end refl s, is_near o k q f)

    item_stands : (i : AsmItem) (pc end : ℕ) → item_leaves_base i ≡ true → Stands (unbased e) (based_item reaches e.base i) pc end
        → Stands e i pc end
    item_stands (Plain i) pc end h s = kept_at i pc end h s
    item_stands (Label l) pc end h s = s
    item_stands (JumpTo l) pc end h s = jump_kept l pc end s
    item_stands (CallTo l) pc end h s = call_kept l pc end s
    item_stands (BranchTo set flag l) pc end h s = branch_kept set flag l pc end s
    item_stands (LoadPart d o k part) pc end h s = kept_at _ pc end h s
    item_stands (LoadObj d o k) pc end h s = load_kept d o k pc end (distance_of reaches e.base o k) refl h s
    item_stands (StoreObj o k r) pc end h s = store_kept o k r pc end (distance_of reaches e.base o k) refl s

    pub all_stand : (is : List AsmItem) (pc end : ℕ) → list_all item_leaves_base is ≡ true
        → HasAt (unbased e) (map (based_item reaches e.base) is) pc end → HasAt e is pc end
    all_stand [] pc end h s = s
    all_stand (i ∷ is) pc end h s =
        let p = and_parts (item_leaves_base i) (list_all item_leaves_base is) h in
        (s.0, item_stands i pc s.0 p.0 s.1, all_stand is s.0 end p.1 s.2)

pub based_code_stands : BasedCodeStands
based_code_stands e reaches items pc end based stand leaves s = all_stand e reaches based stand items pc end leaves s
