use Rattle.std.specs.Prelude.{Option}
use Rattle.std.proofs.Common.{◌≡◌, ◌+◌, ◌-◌, ◌++◌, ◌∷◌, ℕ, suc, List, [], length-drop, take, drop, get_or, ap, sym, ◌∙◌, arith, append-nil}
use Rattle.std.proofs.Common.{append_assoc}
use Rattle.std.proofs.lemmas.List.{take_more, get_or-drop}
use Rattle.ec_hex.specs.Text.{contents, more_at, run}
use Rattle.ec_hex.proofs.Runs.{run-ended, run-more, run-full}
use Rattle.ec_hex.proofs.write.run_at.Goals as goal

-- the slice of n bytes from `at` on is the whole run, where no run is left behind it
whole : (at n : ℕ) (bytes rest all : List ℕ) → all ≡ take n (drop at bytes) ++ rest → rest ≡ []
    → take (at + n - at) (drop at bytes) ≡ all
whole at n bytes rest all split none =
    ap (λ (m : ℕ). take m (drop at bytes)) (omega arith)
    ∙ sym (split ∙ ap (λ (r : List ℕ). take n (drop at bytes) ++ r) none ∙ append-nil (take n (drop at bytes)))

pub returns-then-not-written-at : goal.returns-then-not-written-at
returns-then-not-written-at c =
    whole c.args.at c.loop-n.n c.args.bytes.now _ _ c.loop-n.invariant
    (run-ended c.args.bytes.now c.args.written.now (c.args.at + c.loop-n.n) (suc (more_at c.args.at) - c.loop-n.n)
    (omega arith) c.requires.flagged c.if-not-written-at.true)

pub loop-n-preserved : goal.loop-n-preserved
loop-n-preserved c =
    let at : ℕ = c.args.at in
    let n : ℕ = c.loop-n.n in
    let room : ℕ = suc (more_at at) in
    let bytes : List ℕ = c.args.bytes.now in
    let cells : List (Option ℕ) = contents bytes c.args.written.now in
    let byte : ℕ = get_or bytes (at + n) 0 in
    let counted : room - n ≡ suc (room - (n + 1)) = omega (arith, c.room_at-room.ensures) in
    let next : suc (at + n) ≡ at + (n + 1) = omega arith in
    let front : take (n + 1) (drop at bytes) ≡ take n (drop at bytes) ++ byte ∷ [] =
    take_more (drop at bytes) n 0 (omega (arith, length-drop at bytes))
    ∙ ap (λ (b : ℕ). take n (drop at bytes) ++ b ∷ []) (get_or-drop at bytes n 0) in
    c.loop-n.invariant
    ∙ ap (λ (most : ℕ). take n (drop at bytes) ++ run most (drop (at + n) cells)) counted
    ∙ ap (λ (r : List ℕ). take n (drop at bytes) ++ r)
    (run-more bytes c.args.written.now (at + n) (room - (n + 1)) (omega arith) c.requires.flagged c.if-not-written-at.false)
    ∙ ap (λ (k : ℕ). take n (drop at bytes) ++ byte ∷ run (room - (n + 1)) (drop k cells)) next
    ∙ sym (append_assoc (take n (drop at bytes)) (byte ∷ []) (run (room - (n + 1)) (drop (at + (n + 1)) cells)))
    ∙ ap (λ (f : List ℕ). f ++ run (room - (n + 1)) (drop (at + (n + 1)) cells)) (sym front)

pub returns : goal.returns
returns c =
    whole c.args.at c.min-most.result c.args.bytes.now _ _
    (c.loop-n.invariant ∙ ap (λ (n : ℕ). take n (drop c.args.at c.args.bytes.now)
    ++ run (suc (more_at c.args.at) - n) (drop (c.args.at + n) (contents c.args.bytes.now c.args.written.now))) (omega arith))
    (run-full c.args.bytes.now c.args.written.now (c.args.at + c.min-most.result) (suc (more_at c.args.at) - c.min-most.result)
    (λ some. omega (arith, c.room_at-room.ensures)) c.requires.flagged)
