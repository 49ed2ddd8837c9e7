-- A truth value in a register: 1, or 0 where a branch over one word is not taken.
use Rattle.std.proofs.Common.{◌≡◌, ◌≢◌, ℕ, suc, ◌+◌, ◌*◌, ◌%◌, ◌≤◌, Bool, true, false, not, pos, refl, sym, ap, ◌∙◌, subst}
use Rattle.std.proofs.Common.{arith, Some}
use Rattle.std.specs.Prelude.{◌==◌, if◌then◌else◌}
use Rattle.std.specs.Int.{from_bool}
use Rattle.ec_isa.specs.declared.instructions.Instr.TheVariants.{Ldi, Brbs, Brbc}
use Rattle.ec_asm.specs.declared.pieces.Location.{Location}
use Rattle.ec_asm.specs.declared.pieces.Operator.TheVariants.{Sum}
use Rattle.ec_asm.specs.View.{View}
use Rattle.ec_asm.specs.Change.{Env, Own, change, flag_at}
use Rattle.ec_asm.specs.Run.{Running, act, is_flag}
use Rattle.ec_asm.specs.Items.{At, block, branch_if}
use Rattle.ec_asm.specs.Pieces.{StandsFrom, KeepsAll, value, compare_code}
use Rattle.ec_asm.specs.PieceLaws.{HoldsNumbers}
use Rattle.ec_asm.specs.Takes.{Goes}
use Rattle.ec_asm.proofs.Bytes.{put_here, put_other}
use Rattle.ec_asm.proofs.Hoare.{has_parts, block_goes, goes_on_to, one_goes}
use Rattle.ec_asm.proofs.Results.{comparisons_tell_less, comparisons_tell_equal, comparisons_keep, pieces_are_straight, pieces_take}
use Rattle.ec_asm.proofs.Signed.{comparisons_tell_signed}
use Rattle.ec_select_order.specs.declared.relations.Relation.{Relation}
use Rattle.ec_select_order.specs.declared.relations.Relation.TheVariants.{Less, NotLess, Equal, NotEqual}
use Rattle.ec_select_order.specs.Relations.{is_less, stand_so, flag_of, is_set, truth_in_code}
use Rattle.ec_select_order.specs.Laws.{Tells, TellsIn, TruthsAreTold, RelationsAreTold, TruthsAreToldIn, RelationsAreToldIn}

-- whether a branch is taken
abbrev hit : Bool → Bool → Bool
hit true x = x
hit false x = not x

-- only register d has changed
record Shows (d : ℕ) (v w : View) (b : Bool) : Type 0 where
  told : w.at d ≡ from_bool b
  same : (k : ℕ) → k ≢ d → w.at k ≡ v.at k
  inputs : w.inputs ≡ v.inputs
  safe : w.safe ≡ v.safe
  seen : w.seen ≡ v.seen

record Skips (d : ℕ) (e : Env) (pc end : ℕ) (v : View) (b : Bool) : Type 0 where
  steps : ℕ
  most : steps ≤ 2
  last : View
  goes : Goes e steps pc v end last
  truth : Shows d v last b

-- the branch is taken
taken : (d : ℕ) (e : Env) (pc end : ℕ) (v : View) (x : Bool) → Goes e 1 pc v end v → v.at d ≡ 1 → x ≡ true → Skips d e pc end v x
taken d e pc end v x g one q =
    record {
      steps = 1;
      most = omega arith;
      last = v;
      goes = g;
      truth = record { told = one ∙ sym (ap from_bool q); same = λ k z. refl; inputs = refl; safe = refl; seen = refl };
    }

-- it is passed
passed : (d : ℕ) (e : Env) (pc mid end : ℕ) (v : View) (x : Bool) → Goes e 1 pc v mid v → At e (Ldi d 0) mid end → x ≡ false
    → Skips d e pc end v x
passed d e pc mid end v x g a q =
    let w = change e (Ldi d 0) v in
    record {
      steps = 1 + 1;
      most = omega arith;
      last = w;
      goes = goes_on_to e 1 1 pc mid end v v w g (one_goes e (Ldi d 0) mid end v refl a);
      truth = record {
        told = put_here v.at d 0 d refl ∙ sym (ap from_bool q);
        same = λ k z. put_other v.at d 0 k z;
        inputs = refl;
        safe = refl;
        seen = refl;
      };
    }

skips : (d : ℕ) (e : Env) (set x : Bool) (flag pc mid end : ℕ) (v : View) → is_flag flag ≡ true
    → At e (branch_if set flag (pos 1)) pc mid → At e (Ldi d 0) mid end → flag_at v.flags flag ≡ from_bool x
    → v.at d ≡ 1 → Skips d e pc end v (hit set x)
skips d e true true flag pc mid end v f a next q one =
    let m = a.ends in
    let n = next.ends in
    let r = next.room in
    let to : (pc + 1 + 1) % 65536 ≡ end = omega arith in
    let b : act e (Some (Brbs flag (pos 1))) pc v ≡ Running ((pc + 1 + 1) % 65536) v = rw (f, q) refl in
    taken d e pc end v true (record { by = ap (λ o. act e o pc v) a.is ∙ b ∙ ap (λ k. Running k v) to }) one refl
skips d e false false flag pc mid end v f a next q one =
    let m = a.ends in
    let n = next.ends in
    let r = next.room in
    let to : (pc + 1 + 1) % 65536 ≡ end = omega arith in
    let b : act e (Some (Brbc flag (pos 1))) pc v ≡ Running ((pc + 1 + 1) % 65536) v = rw (f, q) refl in
    taken d e pc end v true (record { by = ap (λ o. act e o pc v) a.is ∙ b ∙ ap (λ k. Running k v) to }) one refl
skips d e true false flag pc mid end v f a next q one =
    let m = a.ends in
    let r = a.room in
    let to : (pc + 1) % 65536 ≡ mid = omega arith in
    let b : act e (Some (Brbs flag (pos 1))) pc v ≡ Running ((pc + 1) % 65536) v = rw (f, q) refl in
    passed d e pc mid end v false (record { by = ap (λ o. act e o pc v) a.is ∙ b ∙ ap (λ k. Running k v) to }) next refl
skips d e false true flag pc mid end v f a next q one =
    let m = a.ends in
    let r = a.room in
    let to : (pc + 1) % 65536 ≡ mid = omega arith in
    let b : act e (Some (Brbc flag (pos 1))) pc v ≡ Running ((pc + 1) % 65536) v = rw (f, q) refl in
    passed d e pc mid end v false (record { by = ap (λ o. act e o pc v) a.is ∙ b ∙ ap (λ k. Running k v) to }) next refl

-- what the flag of a relation tells
abbrev told_by : Relation → Bool → (n x z : ℕ) → Bool
told_by Less signed n x z = is_less signed n x z
told_by NotLess signed n x z = is_less signed n x z
told_by Equal signed n x z = x == z
told_by NotEqual signed n x z = x == z

-- a branch can look at it
pub flag_is : (r : Relation) (signed : Bool) → is_flag (flag_of r signed) ≡ true
flag_is Less true = refl
flag_is Less false = refl
flag_is NotLess true = refl
flag_is NotLess false = refl
flag_is Equal signed = refl
flag_is NotEqual signed = refl

flag_tells : (r : Relation) (signed : Bool) (e : Env) (left right : Location) (n a b : ℕ) (v : View)
    → StandsFrom e left (suc n) a Own → StandsFrom e right (suc n) b Own → HoldsNumbers v
    → flag_at (block e (compare_code right left (suc n)) v).flags (flag_of r signed)
    ≡ from_bool (told_by r signed (suc n) (value v.at a (suc n)) (value v.at b (suc n)))
flag_tells Less true e left right n a b v sa sb h = comparisons_tell_signed e right left n b a v sb sa h
flag_tells Less false e left right n a b v sa sb h = comparisons_tell_less e right left n b a v sb sa h
flag_tells NotLess true e left right n a b v sa sb h = comparisons_tell_signed e right left n b a v sb sa h
flag_tells NotLess false e left right n a b v sa sb h = comparisons_tell_less e right left n b a v sb sa h
flag_tells Equal signed e left right n a b v sa sb h = comparisons_tell_equal e right left n b a v sb sa h
flag_tells NotEqual signed e left right n a b v sa sb h = comparisons_tell_equal e right left n b a v sb sa h

not_twice : (b : Bool) → not (not b) ≡ b
not_twice true = refl
not_twice false = refl

not_back : (b : Bool) → not b ≡ false → b ≡ true
not_back true q = refl
not_back false q = absurd (cc)

not_over : (b : Bool) → not b ≡ true → b ≡ false
not_over true q = absurd (cc)
not_over false q = refl

-- where the relation does not hold, its flag is the other way
pub fails_in_flag : (r : Relation) (signed : Bool) (e : Env) (left right : Location) (n a b : ℕ) (v : View)
    → StandsFrom e left (suc n) a Own → StandsFrom e right (suc n) b Own → HoldsNumbers v
    → stand_so r signed (suc n) (value v.at a (suc n)) (value v.at b (suc n)) ≡ false
    → flag_at (block e (compare_code right left (suc n)) v).flags (flag_of r signed) ≡ from_bool (not (is_set r))
fails_in_flag Less signed e left right n a b v sa sb h q =
    flag_tells Less signed e left right n a b v sa sb h ∙ ap from_bool q
fails_in_flag NotLess signed e left right n a b v sa sb h q =
    flag_tells NotLess signed e left right n a b v sa sb h
    ∙ ap from_bool (not_back (is_less signed (suc n) (value v.at a (suc n)) (value v.at b (suc n))) q)
fails_in_flag Equal signed e left right n a b v sa sb h q =
    flag_tells Equal signed e left right n a b v sa sb h ∙ ap from_bool q
fails_in_flag NotEqual signed e left right n a b v sa sb h q =
    flag_tells NotEqual signed e left right n a b v sa sb h
    ∙ ap from_bool (not_back (value v.at a (suc n) == value v.at b (suc n)) q)

-- and where it holds, as it is to be
pub holds_in_flag : (r : Relation) (signed : Bool) (e : Env) (left right : Location) (n a b : ℕ) (v : View)
    → StandsFrom e left (suc n) a Own → StandsFrom e right (suc n) b Own → HoldsNumbers v
    → stand_so r signed (suc n) (value v.at a (suc n)) (value v.at b (suc n)) ≡ true
    → flag_at (block e (compare_code right left (suc n)) v).flags (flag_of r signed) ≡ from_bool (is_set r)
holds_in_flag Less signed e left right n a b v sa sb h q =
    flag_tells Less signed e left right n a b v sa sb h ∙ ap from_bool q
holds_in_flag NotLess signed e left right n a b v sa sb h q =
    flag_tells NotLess signed e left right n a b v sa sb h
    ∙ ap from_bool (not_over (is_less signed (suc n) (value v.at a (suc n)) (value v.at b (suc n))) q)
holds_in_flag Equal signed e left right n a b v sa sb h q =
    flag_tells Equal signed e left right n a b v sa sb h ∙ ap from_bool q
holds_in_flag NotEqual signed e left right n a b v sa sb h q =
    flag_tells NotEqual signed e left right n a b v sa sb h
    ∙ ap from_bool (not_over (value v.at a (suc n) == value v.at b (suc n)) q)

-- the flag of a relation, and whether it holds
hit_twice : (set truth : Bool) → hit set (if set then truth else not truth) ≡ truth
hit_twice true truth = refl
hit_twice false true = refl
hit_twice false false = refl

pub truths_are_told_in : TruthsAreToldIn
truths_are_told_in d r signed truth e pc end v flag stands =
    let v1 = change e (Ldi d 1) v in
    let first = one_goes e (Ldi d 1) pc stands.0 v refl stands.1 in
    let rest = stands.2 in
    let last = rest.2 in
    let end_is : last.0 ≡ end = sym last.2 in
    let load : At e (Ldi d 0) rest.0 end = subst (λ i. At e (Ldi d 0) rest.0 i) end_is last.1 in
    let k =
    skips d e (is_set r) (if is_set r then truth else not truth) (flag_of r signed) stands.0 rest.0 end v1 (flag_is r signed) rest.1 load
    flag (put_here v.at d 1 d refl) in
    let most = k.most in
    let shown = k.truth in
    record {
      steps = 1 + k.steps;
      at_most = omega (arith, most);
      last = k.last;
      goes = goes_on_to e 1 k.steps pc stands.0 end v v1 k.last first k.goes;
      told = shown.told ∙ ap from_bool (hit_twice (is_set r) truth);
      same = λ i p q w. shown.same i w ∙ put_other v.at d 1 i w;
      inputs = shown.inputs;
      safe = shown.safe;
      seen = shown.seen;
    }

-- in R30
in_work : (e : Env) (most pc end : ℕ) (v : View) (truth : Bool) → TellsIn 30 e most pc v end truth → Tells e most pc v end truth
in_work e most pc end v truth h =
    record {
      steps = h.steps;
      at_most = h.at_most;
      last = h.last;
      goes = h.goes;
      told = h.told;
      same = h.same;
      inputs = h.inputs;
      safe = h.safe;
      seen = h.seen;
    }

pub truths_are_told : TruthsAreTold
truths_are_told r signed truth e pc end v flag stands =
    in_work e 3 pc end v truth (truths_are_told_in 30 r signed truth e pc end v flag stands)

-- what stands so is told by the flag
flag_set : (r : Relation) (signed : Bool) (n x z : ℕ)
    → told_by r signed n x z ≡ (if is_set r then stand_so r signed n x z else not (stand_so r signed n x z))
flag_set Less signed n x z = refl
flag_set NotLess signed n x z = sym (not_twice (is_less signed n x z))
flag_set Equal signed n x z = refl
flag_set NotEqual signed n x z = sym (not_twice (x == z))

pub relations_are_told_in : RelationsAreToldIn
relations_are_told_in d r signed e left right n a b pc end v sa sb h stands =
    let compared = compare_code right left (suc n) in
    let s = has_parts e compared (truth_in_code d r signed) pc end stands in
    let v1 = block e compared v in
    let x = value v.at a (suc n) in
    let z = value v.at b (suc n) in
    let straight = (pieces_are_straight Sum right left (suc n)).2 in
    let take = (pieces_take Sum right left (suc n)).2.1 in
    let first = block_goes e compared pc s.0 v straight s.1 in
    let flag = flag_tells r signed e left right n a b v sa sb h ∙ ap from_bool (flag_set r signed (suc n) x z) in
    let k = truths_are_told_in d r signed (stand_so r signed (suc n) x z) e s.0 end v1 flag s.2 in
    let kept : KeepsAll v v1 = comparisons_keep e right left (suc n) b a v sb sa h in
    let most = k.at_most in
    record {
      steps = _ + k.steps;
      at_most = omega (arith, take, most);
      last = k.last;
      goes = goes_on_to e _ k.steps pc s.0 end v v1 k.last first k.goes;
      told = k.told;
      same = λ i p q w. k.same i p q w ∙ kept.same i p q;
      inputs = k.inputs ∙ kept.inputs;
      safe = k.safe ∙ kept.safe;
      seen = k.seen ∙ kept.seen;
    }

pub relations_are_told : RelationsAreTold
relations_are_told r signed e left right n a b pc end v sa sb h stands =
    in_work e (3 + 3 * suc n) pc end v (stand_so r signed (suc n) (value v.at a (suc n)) (value v.at b (suc n)))
    (relations_are_told_in 30 r signed e left right n a b pc end v sa sb h stands)
