use Rattle.std.proofs.Common.{◌≡◌, ℕ, List, refl, sym, ap, arith, length, map, Vec, Global}
use Rattle.std.proofs.lemmas.List.{length-map}
use Rattle.std.specs.Vec.{with_item}
use Rattle.ec_select_live.proofs.Entries.{within_table, raised_rows}
use Rattle.ec_select_live.proofs.table.LabelNeeds.raise.Goals as goal

abbrev bytes : Vec ℕ Global → List ℕ
bytes r = r.items

pub returns : goal.returns
returns c =
    let v : c.args.self.now ≡ map bytes c.self.inside.rows.items = sym c.self.view_is in
    let l = within_table c.args.self.now c.args.l c.args.place (omega arith) in
    raised_rows bytes c.self.inside.rows.items c.args.self.now c.index_mut-row.result.now
    (with_item c.index_mut-row.result.now c.args.place c.args.n) c.args.l c.args.place c.args.n v refl c.index_mut-row.ensures.value
    (omega (arith, l, ap length v, length-map c.self.inside.rows.items bytes))
