-- Where a run stops.
use Rattle.std.proofs.Common.{◌≡◌, ◌⊎◌, ℕ, length, Bool, true, false, ◌&&◌, ◌||◌, List, [], ◌∷◌, ◌++◌, refl, sym, ap, ◌∙◌, subst, inl, inr}
use Rattle.std.specs.Prelude.{IsTrue}
use Rattle.ec_avr.specs.declared.machine.Access.{Access}
use Rattle.ec_avr.specs.declared.machine.Access.TheVariants.{Silent, In, Out, Read, Write, Stack}
use Rattle.ec_avr.specs.Machine.{State, Running}
use Rattle.ec_avr.specs.Runs.{LeadsTo}
use Rattle.ec_avr.proofs.Runs.{leads_to_where_it_stands}
use Rattle.ec_emu.specs.declared.ask.Ask.{Ask}
use Rattle.ec_emu.specs.declared.run.EmuEnd.{EmuEnd}
use Rattle.ec_emu.specs.declared.run.EmuEnd.TheVariants.{Ended, StepsOut, Fault, WriteFault}
use Rattle.ec_emu.specs.declared.run.UntilReport.{UntilReport}
use Rattle.ec_emu.specs.Emulation.{IsRun}
use Rattle.ec_emu.specs.Stops.{is_stack, has_stack, HasNoStop, EndsAtStop, NotStopped, IsRunUntil}
use Rattle.ec_emu.proofs.Reports.{IsWhole}

pub has_stack-push : (trace : List Access) (a : Access) → has_stack (trace ++ a ∷ []) ≡ (has_stack trace || is_stack a)
has_stack-push [] Silent = refl
has_stack-push [] (In port byte) = refl
has_stack-push [] (Out port byte) = refl
has_stack-push [] (Read bank at byte) = refl
has_stack-push [] (Write at byte) = refl
has_stack-push [] Stack = refl
has_stack-push (Silent ∷ trace) a = has_stack-push trace a
has_stack-push (In port byte ∷ trace) a = has_stack-push trace a
has_stack-push (Out port byte ∷ trace) a = has_stack-push trace a
has_stack-push (Read bank at byte ∷ trace) a = has_stack-push trace a
has_stack-push (Write at byte ∷ trace) a = has_stack-push trace a
has_stack-push (Stack ∷ trace) a = refl

-- ---- lists

-- where one item of a list stands whose last item is known: there, or before it
pub record IsLast (xs : List Access) (a : Access) (before : List Access) (b : Access) : Type 0 where
  pub front : before ≡ xs
  pub item : b ≡ a

abbrev pub IsEarlier : List Access → Access → List Access → Access → List Access → Type 0
IsEarlier xs a before b more = (less : List Access) × (xs ≡ before ++ b ∷ less) × (more ≡ less ++ a ∷ [])

no_front : (before : List Access) (b : Access) (more : List Access) → [] ≡ before ++ b ∷ more → ⊥
no_front [] b more e = cc
no_front (x ∷ before) b more e = cc

pub split : (xs : List Access) (a : Access) (before : List Access) (b : Access) (more : List Access)
    → xs ++ a ∷ [] ≡ before ++ b ∷ more → IsLast xs a before b ⊎ IsEarlier xs a before b more
split [] a [] b more e = let same : b ≡ a = cc in inl (record { front = refl; item = same })
split [] a (x ∷ before) b more e = let none : [] ≡ before ++ b ∷ more = cc in absurd (no_front before b more none)
split (x ∷ xs) a [] b more e =
    let same : x ≡ b = cc in
    let rest : more ≡ xs ++ a ∷ [] = cc in
    inr (xs, ap (λ (y : Access). y ∷ xs) same, rest)
split (x ∷ xs) a (y ∷ before) b more e =
    let same : x ≡ y = cc in
    let rest : xs ++ a ∷ [] ≡ before ++ b ∷ more = cc in
    by_rest same (split xs a before b more rest)
  where
    by_rest : x ≡ y → IsLast xs a before b ⊎ IsEarlier xs a before b more
        → IsLast (x ∷ xs) a (y ∷ before) b ⊎ IsEarlier (x ∷ xs) a (y ∷ before) b more
    by_rest same (inl h) =
        inl (record { front = ap (λ (z : Access). z ∷ before) (sym same) ∙ ap (λ (l : List Access). x ∷ l) h.front; item = h.item })
    by_rest same (inr h) =
        inr (h.0, ap (λ (l : List Access). x ∷ l) h.1 ∙ ap (λ (z : Access). z ∷ before ++ b ∷ h.0) same, h.2)

-- the last item of a list is one
pub last_of : (xs : List Access) (a : Access) (before : List Access) (b : Access) → xs ++ a ∷ [] ≡ before ++ b ∷ [] → IsLast xs a before b
last_of xs a before b e = by_place (split xs a before b [] e)
  where
    by_place : IsLast xs a before b ⊎ IsEarlier xs a before b [] → IsLast xs a before b
    by_place (inl h) = h
    by_place (inr h) = absurd (no_front h.0 a [] h.2)

-- ---- stops

-- the steps lead to one state alone
one_state : (old t u : State) (trace : List Access) → LeadsTo old trace t → LeadsTo old trace u → t ≡ u
one_state old t u trace f g =
    let a = leads_to_where_it_stands old t trace f (λ port. []) in
    let b = leads_to_where_it_stands old u trace g (λ port. []) in
    let same : Running trace t ≡ Running trace u = sym a ∙ b in
    cc

module _ (stops : Access → State → Bool) (old : State) where
  pub none_before : HasNoStop stops old []
  none_before before more a t e h = no_front before a more e

  -- a step more that is no stop
  pub none_on : (trace : List Access) (a : Access) (t : State) → HasNoStop stops old trace → LeadsTo old (trace ++ a ∷ []) t
      → (has_stack trace && stops a t) ≡ false → HasNoStop stops old (trace ++ a ∷ [])
  none_on trace a t none leads not before more b u e h = by_place (split trace a before b more e)
    where
      both : (x y : Bool) → (x && y) ≡ false → x ≡ true → y ≡ true → ⊥
      both true true f g k = cc
      both true false f g k = cc
      both false y f g k = cc

      by_place : IsLast trace a before b ⊎ IsEarlier trace a before b more → ⊥
      by_place (inr earlier) = none before earlier.0 b u earlier.1 h
      by_place (inl last) =
          let there : LeadsTo old (trace ++ a ∷ []) u = subst (λ (l : List Access). LeadsTo old (l ++ a ∷ []) u) last.front
          (subst (λ (x : Access). LeadsTo old (before ++ x ∷ []) u) last.item h.leads) in
          let same : u ≡ t = one_state old u t (trace ++ a ∷ []) there leads in
          both (has_stack trace) (stops a t) not (subst (λ (l : List Access). IsTrue (has_stack l)) last.front h.begun)
          (subst (λ (s : State). IsTrue (stops a s)) same (subst (λ (x : Access). IsTrue (stops x u)) last.item h.found))

  pub ends_at : (trace : List Access) (a : Access) (t : State) → HasNoStop stops old trace → LeadsTo old (trace ++ a ∷ []) t
      → (has_stack trace && stops a t) ≡ true → EndsAtStop stops old (trace ++ a ∷ []) t
  ends_at trace a t none leads is = by_parts (has_stack trace) (stops a t) refl refl is
    where
      by_parts : (x y : Bool) → has_stack trace ≡ x → stops a t ≡ y → (x && y) ≡ true → EndsAtStop stops old (trace ++ a ∷ []) t
      by_parts true true f g h =
          record { before = trace; last = a; is = refl; stop = record { begun = f; leads = leads; found = g }; first = none }
      by_parts true false f g h = cc
      by_parts false y f g h = cc

  pub all_but_last : (trace : List Access) (a : Access) → HasNoStop stops old trace → NotStopped stops WriteFault old (trace ++ a ∷ [])
  all_but_last trace a none before last e =
      subst (λ (l : List Access). HasNoStop stops old l) (sym (last_of trace a before last e).front) none

  not_stopped : (end : EmuEnd) (trace : List Access) → IsWhole end → HasNoStop stops old trace → NotStopped stops end old trace
  not_stopped (Ended result) trace whole h = h
  not_stopped StepsOut trace whole h = h
  not_stopped (Fault kind pc) trace whole h = h
  not_stopped WriteFault trace whole h = absurd whole

  -- ---- reports

  module _ (gives : Ask → ℕ → Type 0) (steps : ℕ) (new : State) (result : UntilReport) (trace : List Access) where
    pub run_on : result.stopped ≡ false → IsRun gives steps old new result.report trace → NotStopped stops result.report.end old trace
        → IsRunUntil stops gives steps old new result trace result.stopped
    run_on off run none = subst (λ (b : Bool). IsRunUntil stops gives steps old new result trace b) (sym off) (run, none)

    pub run_whole : (end : EmuEnd) → result.stopped ≡ false → result.report.end ≡ end → IsWhole end
        → IsRun gives steps old new result.report trace → HasNoStop stops old trace
        → IsRunUntil stops gives steps old new result trace result.stopped
    run_whole end off is whole run none =
        run_on off run (not_stopped result.report.end trace (subst IsWhole (sym is) whole) none)

    pub run_until : result.stopped ≡ true → result.report.end ≡ StepsOut → IsRun gives (length trace) old new result.report trace
        → EndsAtStop stops old trace new → IsRunUntil stops gives steps old new result trace result.stopped
    run_until on is run ends = subst (λ (b : Bool). IsRunUntil stops gives steps old new result trace b) (sym on) (is, run, ends)
