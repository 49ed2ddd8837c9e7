-- Laws of the code of relations.
use Rattle.std.specs.Prelude.{◌≡◌, ◌≢◌, ℕ, suc, ◌+◌, ◌*◌, ◌≤◌, Bool, not, if◌then◌else◌}
use Rattle.std.specs.Int.{from_bool}
use Rattle.ec_asm.specs.declared.pieces.Location.{Location}
use Rattle.ec_asm.specs.View.{View}
use Rattle.ec_asm.specs.Change.{Env, Own, flag_at}
use Rattle.ec_asm.specs.Items.{HasAt, code_words}
use Rattle.ec_asm.specs.Pieces.{StandsFrom, value}
use Rattle.ec_asm.specs.PieceLaws.{HoldsNumbers}
use Rattle.ec_asm.specs.Takes.{Goes}
use Rattle.ec_select_order.specs.declared.relations.Relation.{Relation}
use Rattle.ec_select_order.specs.Relations.{stand_so, flag_of, is_set, truth_code, relation_code, truth_in_code, relation_in_code}

-- a run from one word to another, of at most so many steps, that leaves a truth value in R30 and keeps all else but the
-- flags, R0 and R1
pub record Tells (e : Env) (most pc : ℕ) (v : View) (end : ℕ) (truth : Bool) : Type 0 where
  pub steps : ℕ
  pub at_most : steps ≤ most
  pub last : View
  pub goes : Goes e steps pc v end last
  pub told : last.at 30 ≡ from_bool truth
  pub same : (k : ℕ) → k ≢ 0 → k ≢ 1 → k ≢ 30 → last.at k ≡ v.at k
  pub inputs : last.inputs ≡ v.inputs
  pub safe : last.safe ≡ v.safe
  pub seen : last.seen ≡ v.seen

-- so to any register
pub record TellsIn (d : ℕ) (e : Env) (most pc : ℕ) (v : View) (end : ℕ) (truth : Bool) : Type 0 where
  pub steps : ℕ
  pub at_most : steps ≤ most
  pub last : View
  pub goes : Goes e steps pc v end last
  pub told : last.at d ≡ from_bool truth
  pub same : (k : ℕ) → k ≢ 0 → k ≢ 1 → k ≢ d → last.at k ≡ v.at k
  pub inputs : last.inputs ≡ v.inputs
  pub safe : last.safe ≡ v.safe
  pub seen : last.seen ≡ v.seen

-- where a flag tells whether a relation holds, this is left
abbrev pub TruthsAreTold : Type 0
TruthsAreTold =
    (r : Relation) (signed truth : Bool) (e : Env) (pc end : ℕ) (v : View)
    → flag_at v.flags (flag_of r signed) ≡ from_bool (if is_set r then truth else not truth)
    → HasAt e (truth_code r signed) pc end → Tells e 3 pc v end truth

abbrev pub TruthsAreToldIn : Type 0
TruthsAreToldIn =
    (d : ℕ) (r : Relation) (signed truth : Bool) (e : Env) (pc end : ℕ) (v : View)
    → flag_at v.flags (flag_of r signed) ≡ from_bool (if is_set r then truth else not truth)
    → HasAt e (truth_in_code d r signed) pc end → TellsIn d e 3 pc v end truth

abbrev pub RelationsAreTold : Type 0
RelationsAreTold =
    (r : Relation) (signed : Bool) (e : Env) (left right : Location) (n a b pc end : ℕ) (v : View)
    → StandsFrom e left (suc n) a Own → StandsFrom e right (suc n) b Own → HoldsNumbers v
    → HasAt e (relation_code r signed left right (suc n)) pc end
    → Tells e (3 + 3 * suc n) pc v end (stand_so r signed (suc n) (value v.at a (suc n)) (value v.at b (suc n)))

abbrev pub RelationsAreToldIn : Type 0
RelationsAreToldIn =
    (d : ℕ) (r : Relation) (signed : Bool) (e : Env) (left right : Location) (n a b pc end : ℕ) (v : View)
    → StandsFrom e left (suc n) a Own → StandsFrom e right (suc n) b Own → HoldsNumbers v
    → HasAt e (relation_in_code d r signed left right (suc n)) pc end
    → TellsIn d e (3 + 3 * suc n) pc v end (stand_so r signed (suc n) (value v.at a (suc n)) (value v.at b (suc n)))

abbrev pub RelationsHaveWords : Type 0
RelationsHaveWords =
    (r : Relation) (signed : Bool) (left right : Location) (n : ℕ)
    → code_words (relation_code r signed left right n) ≤ 3 + 5 * n
