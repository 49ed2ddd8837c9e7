-- A call of a routine, with its operands brought to their places before it.
use Rattle.std.proofs.Common.{◌≡◌, ◌≢◌, ⊎_elim, ℕ, ◌+◌, ◌<◌, ◌≤◌, List, [], ◌∷◌, ◌++◌, refl, sym, ap, ◌∙◌, subst, arith, inl, inr}
use Rattle.std.proofs.Common.{append_assoc}
use Rattle.std.proofs.lemmas.Bool.{cases_lt}
use Rattle.ec_avr.specs.State.{lowered}
use Rattle.ec_asm.specs.declared.items.AsmItem.{AsmItem}
use Rattle.ec_asm.specs.declared.items.AsmItem.TheVariants.{CallTo}
use Rattle.ec_asm.specs.declared.pieces.Location.{Location}
use Rattle.ec_asm.specs.declared.pieces.Operator.TheVariants.{Sum}
use Rattle.ec_asm.specs.View.{View}
use Rattle.ec_asm.specs.Change.{Env, sp}
use Rattle.ec_asm.specs.Items.{CallsAt, HasAt, block, code_steps}
use Rattle.ec_asm.specs.Pieces.{Outside, copy_code, value}
use Rattle.ec_asm.specs.PieceLaws.{HoldsNumbers}
use Rattle.ec_asm.specs.Takes.{Goes}
use Rattle.ec_asm.proofs.Hoare.{has_parts, block_goes, goes_on_to}
use Rattle.ec_asm.proofs.Results.{pieces_are_straight, pieces_take}
use Rattle.ec_routines.specs.Routines.{Computes, ComputesByCall, CanPush, IsCalledFrom}
use Rattle.ec_routines.proofs.Called.{RunLaws, computed}
use Rattle.ec_select_routines.specs.Codes.{first_place, second_place, call_with_one, call_with_two}
use Rattle.ec_select_routines.specs.Laws.{HasWork, HasRoutine, IsOperandAt}
use Rattle.ec_select_routines.proofs.Brought.{moved_value, Brings, brought, off_stack}

-- what a run of code that brings numbers to the work bytes does: it goes on, and keeps all else but R0
pub record Arrives (e : Env) (most pc : ℕ) (v : View) (mid : ℕ) (w : View) (work : ℕ) : Type 0 where
  pub steps : ℕ
  pub at_most : steps ≤ most
  pub goes : Goes e steps pc v mid w
  pub same : (k : ℕ) → k ≢ 0 → Outside work 64 k → w.at k ≡ v.at k
  pub numbers : HoldsNumbers w
  pub inputs : w.inputs ≡ v.inputs
  pub safe : w.safe ≡ v.safe
  pub seen : w.seen ≡ v.seen

-- a label that is called has a word
called_word : (e : Env) (l pc end : ℕ) → CallsAt e l pc end → e.word_of l < 65536
called_word e l pc end (inl x) = x.1
called_word e l pc end (inr x) = subst (λ (w : ℕ). w < 65536) x.2 (omega arith)

module _ (laws : RunLaws) (e : Env) (work : ℕ) (has : HasWork e work) where
  -- the stack pointer is kept
  pointer_kept : (most pc mid : ℕ) (v w : View) → Arrives e most pc v mid w work → sp w ≡ sp v
  pointer_kept most pc mid v w g =
      let high = has.high in
      let a = g.same 93 (omega arith) (λ z. absurd (omega arith)) in
      let c = g.same 94 (omega arith) (λ z. absurd (omega arith)) in
      rw (a, c) refl

  can_push : (v w : View) → sp w ≡ sp v → CanPush e v → CanPush e w
  can_push v w q c = record {
    low = rw q c.low;
    high = rw q c.high;
    first = rw q c.first;
    second = rw q c.second;
  }

  -- then a routine is called
  calls_on : (l : ℕ) (body : List AsmItem) (before after pc mid end n : ℕ) (v w : View) (Holds : ℕ → Type 0) → HasRoutine e l body
      → Arrives e before pc v mid w work → HasAt e (CallTo l ∷ []) mid end → CanPush e v
      → ((u : View) (to : ℕ) → HoldsNumbers u → IsCalledFrom w u → HasAt e body (e.word_of l) to
      → Computes e after (e.word_of l) u to (work + 40) n work Holds)
      → ComputesByCall e (before + (after + 2)) pc v end (work + 40) n work Holds
  calls_on l body before after pc mid end n v w Holds there g at push runs =
      let high = has.high in
      let same_pointer = pointer_kept before pc mid v w g in
      let push_w = can_push v w same_pointer push in
      let r = computed laws e l there.start there.past mid at.0 after (work + 40) n work body w Holds there.stands (called_word e l mid at.0 at.1) at.1
      push_w g.numbers (omega arith) high (off_stack e work has) runs in
      let one = g.at_most in
      let two = r.at_most in
      record {
        steps = g.steps + r.steps;
        at_most = omega arith;
        last = r.last;
        goes = subst (λ x. Goes e (g.steps + r.steps) pc v x r.last) (sym at.2)
            (goes_on_to e g.steps r.steps pc mid at.0 v w r.last g.goes r.goes);
        holds = r.holds;
        numbers = r.numbers;
        same = λ j a b c d o p q. r.same j a b c d o (λ z. p (z ∙ same_pointer)) (λ z. q (z ∙ ap lowered same_pointer)) ∙ g.same j a o;
        inputs = r.inputs ∙ g.inputs;
        safe = r.safe ∙ g.safe;
        seen = r.seen ∙ g.seen;
      }

  -- a bound may be widened
  wider : (few most pc end n : ℕ) (v : View) (Holds : ℕ → Type 0) → few ≤ most
      → ComputesByCall e few pc v end (work + 40) n work Holds → ComputesByCall e most pc v end (work + 40) n work Holds
  wider few most pc end n v Holds l r =
      let at_most = r.at_most in
      record {
        steps = r.steps;
        at_most = omega arith;
        last = r.last;
        goes = r.goes;
        holds = r.holds;
        numbers = r.numbers;
        same = r.same;
        inputs = r.inputs;
        safe = r.safe;
        seen = r.seen;
      }

  -- a number among the work bytes is found by the body
  pub found : (w u : View) (i n : ℕ) → i + n ≤ 64 → CanPush e w → IsCalledFrom w u → value u.at (work + i) n ≡ value w.at (work + i) n
  found w u i n l push from =
      let high = has.high in
      moved_value u.at w.at (work + i) (work + i) n
      (λ j m. from (work + i + j) (omega arith) (omega arith)
      (λ q. no_place (sp w) (work + i + j) (off_stack e work has (sp w) push.first) q (omega arith) (omega arith))
      (λ q. no_place (lowered (sp w)) (work + i + j) (off_stack e work has (lowered (sp w)) push.second) q (omega arith) (omega arith)))
    where
      no_place : (s k : ℕ) → Outside work 64 s → k ≡ s → work ≤ k → k < work + 64 → ⊥
      no_place s k o q a b = let z = o (omega arith) in omega arith

  -- one operand is brought
  module _ (p : Location) (n a : ℕ) (v : View) (o : IsOperandAt e p n a work) (numbers : HoldsNumbers v) where
    abbrev pub with_one : View
    with_one = block e (copy_code p first_place n) v

    pub one_brought : Brings v with_one a n (work + 48)
    one_brought = let most = o.most in brought e work has p n a 48 v o (omega arith) numbers

    pub one_arrives : (pc mid : ℕ) → HasAt e (copy_code p first_place n) pc mid → Arrives e 16 pc v mid with_one work
    one_arrives pc mid at =
        let b = one_brought in
        let steps = (pieces_take Sum p first_place n).0.1 in
        let most = o.most in
        record {
          steps = code_steps (copy_code p first_place n);
          at_most = omega (arith, steps, most);
          goes = block_goes e (copy_code p first_place n) pc mid v (pieces_are_straight Sum p first_place n).0 at;
          same = λ k z q. b.same k z (λ m. let y = q (omega arith) in omega arith);
          numbers = b.numbers;
          inputs = b.inputs;
          safe = b.safe;
          seen = b.seen;
        }

    -- and a routine is called
    pub called_with_one : (l : ℕ) (body : List AsmItem) (after pc end k : ℕ) (Holds : ℕ → Type 0) → HasRoutine e l body
        → HasAt e (call_with_one p n l) pc end → CanPush e v
        → ((u : View) (to : ℕ) → HoldsNumbers u → value u.at (work + 48) n ≡ value v.at a n → HasAt e body (e.word_of l) to
        → Computes e after (e.word_of l) u to (work + 40) k work Holds)
        → ComputesByCall e (after + 18) pc v end (work + 40) k work Holds
    called_with_one l body after pc end k Holds there at push runs =
        let most = o.most in
        let parts = has_parts e (copy_code p first_place n) (CallTo l ∷ []) pc end at in
        let arrives = one_arrives pc parts.0 parts.1 in
        let push_w = can_push v with_one (pointer_kept 16 pc parts.0 v with_one arrives) push in
        let r = calls_on l body 16 after pc parts.0 end k v with_one Holds there arrives parts.2 push
        (λ u to held from stands. runs u to held (found with_one u 48 n (omega arith) push_w from ∙ one_brought.number) stands) in
        wider (16 + (after + 2)) (after + 18) pc end k v Holds (omega arith) r

  -- two operands are brought
  module _ (p q : Location) (n m a b : ℕ) (v : View) (o : IsOperandAt e p n a work) (x : IsOperandAt e q m b work)
      (numbers : HoldsNumbers v) where
    abbrev first_view : View
    first_view = with_one p n a v o numbers

    abbrev first_brought : Brings v first_view a n (work + 48)
    first_brought = one_brought p n a v o numbers

    abbrev pub with_two : View
    with_two = block e (copy_code q second_place m) first_view

    second_brought : Brings first_view with_two b m (work + 56)
    second_brought = let most = x.most in brought e work has q m b 56 first_view x (omega arith) first_brought.numbers

    -- the first one does not change the second one, and is not changed by it
    first_number : value with_two.at (work + 48) n ≡ value v.at a n
    first_number =
        let high = has.high in
        let most = o.most in
        moved_value with_two.at first_view.at (work + 48) (work + 48) n
        (λ j l. second_brought.same (work + 48 + j) (omega arith) (λ z. absurd (omega arith))) ∙ first_brought.number

    second_number : value with_two.at (work + 56) m ≡ value v.at b m
    second_number =
        let high = has.high in
        let two = x.stands.clear in
        second_brought.number ∙ moved_value first_view.at v.at b b m
        (λ j l. first_brought.same (b + j) (omega arith) (λ z. ⊎_elim
        (λ (y : b < work). let w = x.apart.first y in absurd (omega arith))
        (λ (y : work ≤ b). let w = x.apart.second y in let most = o.most in omega arith) (cases_lt b work)))

    two_arrive : (pc mid : ℕ) → HasAt e (copy_code p first_place n ++ copy_code q second_place m) pc mid
        → Arrives e 32 pc v mid with_two work
    two_arrive pc mid at =
        let parts = has_parts e (copy_code p first_place n) (copy_code q second_place m) pc mid at in
        let g = one_arrives p n a v o numbers pc parts.0 parts.1 in
        let d = second_brought in
        let steps = (pieces_take Sum q second_place m).0.1 in
        let most = x.most in
        let one = g.at_most in
        let second = block_goes e (copy_code q second_place m) parts.0 mid first_view (pieces_are_straight Sum q second_place m).0 parts.2 in
        record {
          steps = g.steps + code_steps (copy_code q second_place m);
          at_most = omega (arith, steps, most, one);
          goes = goes_on_to e g.steps (code_steps (copy_code q second_place m)) pc parts.0 mid v first_view with_two g.goes second;
          same = λ k z u. d.same k z (λ y. let w = u (omega arith) in omega arith) ∙ g.same k z u;
          numbers = d.numbers;
          inputs = d.inputs ∙ g.inputs;
          safe = d.safe ∙ g.safe;
          seen = d.seen ∙ g.seen;
        }

    pub called_with_two : (l : ℕ) (body : List AsmItem) (after pc end k : ℕ) (Holds : ℕ → Type 0) → HasRoutine e l body
        → HasAt e (call_with_two p q n m l) pc end → CanPush e v
        → ((u : View) (to : ℕ) → HoldsNumbers u → value u.at (work + 48) n ≡ value v.at a n
        → value u.at (work + 56) m ≡ value v.at b m → HasAt e body (e.word_of l) to
        → Computes e after (e.word_of l) u to (work + 40) k work Holds)
        → ComputesByCall e (after + 34) pc v end (work + 40) k work Holds
    called_with_two l body after pc end k Holds there at push runs =
        let most = o.most in
        let few = x.most in
        let copies = copy_code p first_place n ++ copy_code q second_place m in
        let joined : HasAt e (copies ++ CallTo l ∷ []) pc end =
        subst (λ c. HasAt e c pc end) (sym (append_assoc (copy_code p first_place n) (copy_code q second_place m) (CallTo l ∷ []))) at in
        let parts = has_parts e copies (CallTo l ∷ []) pc end joined in
        let arrives = two_arrive pc parts.0 parts.1 in
        let push_w = can_push v with_two (pointer_kept 32 pc parts.0 v with_two arrives) push in
        let r = calls_on l body 32 after pc parts.0 end k v with_two Holds there arrives parts.2 push
        (λ u to held from stands. runs u to held (found with_two u 48 n (omega arith) push_w from ∙ first_number)
        (found with_two u 56 m (omega arith) push_w from ∙ second_number) stands) in
        wider (32 + (after + 2)) (after + 34) pc end k v Holds (omega arith) r
