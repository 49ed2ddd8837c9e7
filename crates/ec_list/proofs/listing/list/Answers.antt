use Rattle.std.proofs.Common.{ℕ, Fits, w8, get_or, arith, rules}
use Rattle.ec_list.proofs.Walk.{listed_of, short_of}
use Rattle.ec_list.proofs.listing.list.Goals as goal

pub returns-clause-lists : goal.returns-clause-lists
returns-clause-lists c =
    let fits : (k : ℕ) → Fits w8 (get_or c.args.image.now.bytes.items k 0) = λ k. search rules in
    listed_of c.list_bytes.result c.args.image.now (λ k. omega (arith, fits k))
    (rw (c.as_slice-bytes.ensures, c.as_slice-written.ensures) at c.list_bytes.ensures)

pub returns-clause-short : goal.returns-clause-short
returns-clause-short c =
    let fits : (k : ℕ) → Fits w8 (get_or c.args.image.now.bytes.items k 0) = λ k. search rules in
    short_of c.list_bytes.result c.args.image.now (λ k. omega (arith, fits k))
    (rw (c.as_slice-bytes.ensures, c.as_slice-written.ensures) at c.list_bytes.ensures)
