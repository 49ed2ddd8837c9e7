use Rattle.std.proofs.Common.{◌∙◌, ◌<◌, ◌++◌, ℕ, List, length, Fits, w8, get_or, sym, ap, arith, rules}
use Rattle.std.specs.Prelude.{Option}
use Rattle.ec_hex.specs.Text.{contents}
use Rattle.ec_list.specs.Lines.{text_of}
use Rattle.ec_list.specs.Lists.{listing}
use Rattle.ec_list.proofs.Walk.{contents_length, some_step, none_step, end_step, item_ends_within}
use Rattle.ec_list.proofs.listing.list_bytes.Goals as goal

pub items-preserved-in-Some : goal.items-preserved-in-Some
items-preserved-in-Some c =
    let bytes = c.args.bytes.now in
    let written = c.args.written.now in
    let cells : List (Option ℕ) = contents bytes written in
    let fits : (k : ℕ) → Fits w8 (get_or c.args.bytes.now k 0) = λ k. search rules in
    let is = sym c.item_at.ensures.value ∙ c.in-Some.is in
    let inside : c.items.at < length cells = omega (arith, c.items-test.true, contents_length bytes written c.requires.flagged) in
    record {
      within = rw c.size-at.ensures
          (item_ends_within c.items.at bytes written c.in-Some.item (λ k. omega (arith, fits k)) c.requires.flagged c.items-test.true is);
      listed = rw c.size-at.ensures (some_step c.items.at cells c.in-Some.item c.items.out.items c.put_line.new.out.items
          (listing bytes written) inside is c.in_ok-put_line-in-Some.ensures c.items.invariant.listed);
    }

pub items-preserved : goal.items-preserved
items-preserved c =
    let bytes = c.args.bytes.now in
    let written = c.args.written.now in
    let cells : List (Option ℕ) = contents bytes written in
    let is = sym c.item_at.ensures.value ∙ c.in-None.is in
    let inside : c.items.at < length cells = omega (arith, c.items-test.true, contents_length bytes written c.requires.flagged) in
    record {
      within = omega (arith, c.items-test.true);
      listed = sym (ap (λ ls. c.items.out.items ++ text_of ls) (none_step c.items.at cells inside is)) ∙ c.items.invariant.listed;
    }

pub returns : goal.returns
returns c =
    let bytes = c.args.bytes.now in
    let written = c.args.written.now in
    end_step c.items.at (contents bytes written) c.items.out.items (listing bytes written)
    (omega (arith, c.items-test.false, contents_length bytes written c.requires.flagged)) c.items.invariant.listed
