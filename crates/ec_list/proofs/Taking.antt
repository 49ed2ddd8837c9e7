-- A text that is taken line by line.
use Rattle.std.proofs.Common.{◌≡◌, ◌≢◌, ◌≤◌, ℕ, ◌+◌, Bool, true, false, List, [], ◌∷◌, ◌++◌, length, replicate, Some, None, Err, refl}
use Rattle.std.proofs.Common.{sym, subst, ap, ◌∙◌, arith, inl, inr, ◌⊎◌, append_assoc, append-nil, length-append}
use Rattle.std.specs.Prelude.{Option, ◌==◌, Result, slice_get}
use Rattle.std.proofs.lemmas.List.{length-replicate}
use Rattle.ec_space.specs.declared.Core.{Core}
use Rattle.ec_avr.specs.Flash.{flash_size}
use Rattle.ec_list.specs.Lines.{line_text, text_of, item_bytes, end_of, end_after, AreInOrder, AreLines}
use Rattle.ec_list.specs.ReadingLines.{line_of, IsLineOf}
use Rattle.ec_list.specs.Assembling.{has_no_end, put_over, all_true, BreaksRule, Follows, StopsLine, HasTaken, TakenTo}
use Rattle.ec_list.specs.Lists.{HasJust, Lists, Begins, Breaks, StopsAt, HasStop}
use Rattle.ec_list.specs.declared.assembling.AsmStop.{AsmStop}
use Rattle.ec_list.specs.declared.assembling.AsmStop.TheVariants as stops
use Rattle.ec_list.specs.declared.assembling.Assembler.{Assembler}
use Rattle.ec_list.specs.declared.line.Line.{Line}
use Rattle.ec_list.proofs.ExactLines.{line_is}
use Rattle.ec_list.proofs.OneReading.{item_some, same_front, has_no_line, line_ends, small_flash, not_both, one_stop}
use Rattle.ec_list.proofs.Placing.{has_more, in_order_more, each_more, end_more, end_within, get_replicate}

-- ---- the start

pub nothing_taken : (a : Assembler) → a.image.bytes.items ≡ replicate (flash_size a.image.core) 255
    → a.image.written.items ≡ replicate (flash_size a.image.core) false → a.line ≡ 1 → a.end ≡ 0 → HasTaken [] a
nothing_taken a bytes written lines end = record {
  are_lines = record { each = tt; order = tt };
  image = record {
    sized = ap length bytes ∙ length-replicate (flash_size a.image.core) 255;
    flagged = ap length written ∙ length-replicate (flash_size a.image.core) false;
    bytes_are = λ k less. ap (λ xs. slice_get xs k) bytes ∙ get_replicate (flash_size a.image.core) k 255 less;
    flags_are = λ k less. ap (λ xs. slice_get xs k) written ∙ get_replicate (flash_size a.image.core) k false less;
  };
  count = lines;
  end = end;
}

-- ---- one line

-- a line that was judged well is taken
pub taken_more : (lines : List Line) (l : Line) (text : List ℕ) (old new : Assembler) → HasTaken lines old
    → Follows old.image.core old.end text l → new.image.core ≡ old.image.core
    → new.image.bytes.items ≡ put_over old.image.bytes.items l.at (item_bytes l.item)
    → new.image.written.items ≡ put_over old.image.written.items l.at (all_true (length (item_bytes l.item)))
    → new.line ≡ old.line + 1 → new.end ≡ end_of l → HasTaken (lines ++ l ∷ []) new
taken_more lines l text old new taken follows core bytes written count end =
    let first = follows.order in
    let from = taken.end in
    let order : end_after 0 lines ≤ l.at = omega (arith, first, from) in
    let image = has_more old.image.core lines l old.image.bytes.items old.image.written.items taken.are_lines.order order
    follows.suits.in_flash taken.image in
    record {
      are_lines = subst (λ c. AreLines c (lines ++ l ∷ [])) (sym core) (record {
        each = each_more old.image.core lines l taken.are_lines.each (record { range = follows.is_line.range; suits = follows.suits });
        order = in_order_more 0 lines l taken.are_lines.order order;
      });
      image = subst (λ c. HasJust c (lines ++ l ∷ []) new.image.bytes.items new.image.written.items) (sym core)
          (subst (λ xs. HasJust old.image.core (lines ++ l ∷ []) xs new.image.written.items) (sym bytes)
          (subst (λ xs. HasJust old.image.core (lines ++ l ∷ []) (put_over old.image.bytes.items l.at (item_bytes l.item)) xs)
          (sym written) image));
      count = let one = taken.count in omega (arith, count, one, length-append lines (l ∷ []));
      end = end ∙ sym (end_more 0 lines l);
    }

-- lines are no more than their end
pub few_lines : (core : Core) (lines : List Line) → AreLines core lines → length lines ≤ end_after 0 lines
few_lines core lines h = let all = from_on 0 lines h.order in omega (arith, all)
  where
    some : (l : Line) → 1 ≤ length (item_bytes l.item)
    some l = item_some l.item

    from_on : (from : ℕ) (ls : List Line) → AreInOrder from ls → from + length ls ≤ end_after from ls
    from_on from [] o = omega arith
    from_on from (l ∷ ls) o =
        let first = o.0 in
        let one = some l in
        let rest = from_on (end_of l) ls o.1 in omega (arith, first, one, rest)

pub end_small : (core : Core) (lines : List Line) → AreLines core lines → end_after 0 lines ≤ 1048576
end_small core lines h =
    let few = small_flash core in
    let within = end_within core 0 lines h.each h.order (omega arith) in omega (arith, few, within)

-- ---- the text

text_more : (lines : List Line) (l : Line) → text_of (lines ++ l ∷ []) ≡ text_of lines ++ (line_text l ++ 10 ∷ [])
text_more [] l = refl
text_more (m ∷ lines) l =
    ap (λ t. line_text m ++ 10 ∷ t) (text_more lines l)
    ∙ sym (append_assoc (line_text m) (10 ∷ text_of lines) (line_text l ++ 10 ∷ []))

pub taken_on : (whole rest line more : List ℕ) (old new : Assembler) → TakenTo whole rest old → rest ≡ line ++ 10 ∷ more
    → ((lines : List Line) → HasTaken lines old → (l : Line) × (IsLineOf line l × HasTaken (lines ++ l ∷ []) new))
    → TakenTo whole more new
taken_on whole rest line more old new so_far split takes =
    let next = takes so_far.lines so_far.taken in
    let l = next.0 in
    record {
      lines = so_far.lines ++ l ∷ [];
      text_is =
          so_far.text_is ∙ ap (λ t. text_of so_far.lines ++ t) (split ∙ ap (λ t. t ++ 10 ∷ more) next.1.0.text_is)
          ∙ ap (λ t. text_of so_far.lines ++ t) (sym (append_assoc (line_text l) (10 ∷ []) more))
          ∙ sym (append_assoc (text_of so_far.lines) (line_text l ++ 10 ∷ []) more)
          ∙ ap (λ t. t ++ more) (sym (text_more so_far.lines l));
      taken = next.1.1;
    }

-- at the text's end the image is listed
pub taken_whole : (core : Core) (whole rest : List ℕ) (a : Assembler) → a.image.core ≡ core → rest ≡ [] → TakenTo whole rest a
    → Lists core whole a.image.bytes.items a.image.written.items
taken_whole core whole rest a same empty so_far = subst (λ c. Lists c whole a.image.bytes.items a.image.written.items) same (record {
  lines = so_far.lines;
  text_is = so_far.text_is ∙ ap (λ t. text_of so_far.lines ++ t) empty ∙ append-nil (text_of so_far.lines);
  are_lines = so_far.taken.are_lines;
  image = so_far.taken.image;
})

-- ---- stops

begins_of : (rest line more : List ℕ) (l : Line) → rest ≡ line ++ 10 ∷ more → IsLineOf line l → Begins rest l
begins_of rest line more l split h =
    record { address = h.address; range = h.range; more = more; text_is = split ∙ ap (λ t. t ++ 10 ∷ more) h.text_is }

is_line_of : (rest line more : List ℕ) (l : Line) → has_no_end line ≡ true → rest ≡ line ++ 10 ∷ more → Begins rest l → IsLineOf line l
is_line_of rest line more l plain split b =
    let same = (same_front line (line_text l) more b.more plain (line_ends l b.range) (sym split ∙ b.text_is)).0 in
    record { address = b.address; range = b.range; text_is = same }

some_line : (rest line more : List ℕ) → rest ≡ line ++ 10 ∷ more → rest ≢ []
some_line rest [] more split e = let h : 10 ∷ more ≡ [] = sym split ∙ e in cc
some_line rest (c ∷ line) more split e = let h : c ∷ line ++ 10 ∷ more ≡ [] = sym split ∙ e in cc

breaks_of : (core : Core) (from : ℕ) (rest line more : List ℕ) (rule : ℕ) → has_no_end line ≡ true → rest ≡ line ++ 10 ∷ more
    → BreaksRule core from line rule → Breaks core from rest rule
breaks_of core from rest line more rule plain split (inl x) =
    inl (x.0, (some_line rest line more split, λ l b. x.1 l (is_line_of rest line more l plain split b)))
breaks_of core from rest line more rule plain split (inr (inl x)) =
    inr (inl (x.0, (x.1.0, (begins_of rest line more x.1.0 split x.1.1.0, x.1.1.1))))
breaks_of core from rest line more rule plain split (inr (inr x)) =
    inr (inr (x.0, (x.1.0, (begins_of rest line more x.1.0 split x.1.1.0, x.1.1.1))))

pub stopped_at : (core : Core) (whole rest line more : List ℕ) (old : Assembler) (stop : AsmStop) → old.image.core ≡ core
    → TakenTo whole rest old → has_no_end line ≡ true → rest ≡ line ++ 10 ∷ more
    → ((lines : List Line) → HasTaken lines old → StopsLine old.image.core (length lines + 1) (end_after 0 lines) line stop)
    → HasStop core whole stop
stopped_at core whole rest line more old stops.NoMemory same so_far plain split stopped = tt
stopped_at core whole rest line more old (stops.Line n rule) same so_far plain split stopped =
    let at = stopped so_far.lines so_far.taken in
    subst (λ c. StopsAt c whole n rule) same (record {
      lines = so_far.lines;
      rest = rest;
      text_is = so_far.text_is;
      are_lines = so_far.taken.are_lines;
      line_is = at.0;
      breaks = breaks_of old.image.core (end_after 0 so_far.lines) rest line more rule plain split at.1;
    })

not_empty : (rest : List ℕ) → (length rest == 0) ≡ false → rest ≢ []
not_empty [] some e = cc
not_empty (c ∷ rest) some e = cc

-- a text without an end is no line
pub stopped_open : (core : Core) (whole rest : List ℕ) (old : Assembler) (n : ℕ) → old.image.core ≡ core → TakenTo whole rest old
    → (length rest == 0) ≡ false → has_no_end rest ≡ true → n ≡ old.line → StopsAt core whole n 1
stopped_open core whole rest old n same so_far some plain number =
    subst (λ c. StopsAt c whole n 1) same (record {
      lines = so_far.lines;
      rest = rest;
      text_is = so_far.text_is;
      are_lines = so_far.taken.are_lines;
      line_is = number ∙ so_far.taken.count;
      breaks = inl (refl, (not_empty rest some, λ l b. has_no_line rest (line_text l) b.more plain b.text_is));
    })

-- ---- what is judged

-- no line has the text
pub no_line : (text : List ℕ) (o : Option Line) → o ≡ line_of text → o ≡ None → (l : Line) → ¬ IsLineOf text l
no_line text o e none l h = let found = (line_is text l).1 h in let same : None ≡ Some l = sym none ∙ e ∙ found in cc

pub the_line : (text : List ℕ) (o : Option Line) (l : Line) → o ≡ line_of text → o ≡ Some l → IsLineOf text l
the_line text o l e some = (line_is text l).0 (sym e ∙ some)

-- ---- one answer

pub same_stops : (core : Core) (text : List ℕ) (stop want : AsmStop) → HasStop core text stop → HasStop core text want →
    want ≢ stops.NoMemory
    → (stop ≡ want) ⊎ (stop ≡ stops.NoMemory)
same_stops core text stops.NoMemory want h w some = inr refl
same_stops core text (stops.Line n rule) stops.NoMemory h w some = absurd (some refl)
same_stops core text (stops.Line n rule) (stops.Line m least) h w some =
    let same = one_stop core text n m rule least h w in
    inl (ap (λ k. stops.Line k rule) same.0 ∙ ap (λ k. stops.Line m k) same.1)

pub only_memory : (core : Core) (text bytes : List ℕ) (written : List Bool) (stop : AsmStop) → HasStop core text stop
    → Lists core text bytes written → stop ≡ stops.NoMemory
only_memory core text bytes written stops.NoMemory h a = refl
only_memory core text bytes written (stops.Line n rule) h a = absurd (not_both core text bytes written n rule a h)

either_err : {T : Type 0} (e stop want : AsmStop) → (e ≡ stop) ⊎ (e ≡ want)
    → (let r : Result T AsmStop = Err e in r ≡ Err stop) ⊎ (let r : Result T AsmStop = Err e in r ≡ Err want)
either_err e stop want (inl same) = inl (ap (λ (x : AsmStop). Err x) same)
either_err e stop want (inr same) = inr (ap (λ (x : AsmStop). Err x) same)

pub one_err : {T : Type 0} (core : Core) (text : List ℕ) (stop want : AsmStop) → HasStop core text stop → HasStop core text want
    → want ≢ stops.NoMemory
    → (let r : Result T AsmStop = Err stop in r ≡ Err want) ⊎ (let r : Result T AsmStop = Err stop in r ≡ Err stops.NoMemory)
one_err core text stop want h w some = either_err stop want stops.NoMemory (same_stops core text stop want h w some)

pub never_stops : (core : Core) (text bytes : List ℕ) (written : List Bool) (want : AsmStop) → Lists core text bytes written
    → HasStop core text want → want ≢ stops.NoMemory → ⊥
never_stops core text bytes written want a h some = some (only_memory core text bytes written want h a)

pub count_small : (core : Core) (lines : List Line) (line end : ℕ) → AreLines core lines → line ≡ length lines + 1 → end ≡ end_after 0 lines
    → (line ≤ end + 1) × (end ≤ 1048576)
count_small core lines line end h count same =
    let few = few_lines core lines h in
    let small = end_small core lines h in (omega (arith, few, count, same), omega (arith, small, same))
