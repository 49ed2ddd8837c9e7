use Rattle.std.proofs.Common.{◌≡◌, ◌+◌, ◌∙◌, suc, ap, arith, map, None, Some, [], List, ℕ}
use Rattle.std.specs.Prelude.{get_or, option_map, slice_get, slice_index}
use Rattle.std.specs.Option.{option_copied}
use Rattle.std.proofs.lemmas.Option.{slice_get-map}
use Rattle.ec_ir.specs.Operations.{plain_ir}
use Rattle.ec_select_operations.specs.Code.{tells_any, is_waiting, look}
use Rattle.ec_select_operations.specs.Emitted.{declarations}
use Rattle.ec_select_operations.specs.Homes.{home}
use Rattle.ec_select_operations.specs.Written.{index_in}
use Rattle.ec_select_operations.proofs.Written.{tells_here, item_there}
use Rattle.ec_select_operations.proofs.operations.told_behind.Goals as goal

pub returns : goal.returns
returns c =
    let here : slice_get (map plain_ir c.args.code.now) c.args.k ≡ Some (plain_ir c.index-code-k.result) =
    slice_get-map plain_ir c.args.code.now c.args.k
    ∙ ap (option_map plain_ir)
    (item_there c.args.code.now c.args.k c.index-code-k.result c.requires.inside c.index-code-k.is) in
    let one : c.args.k + 1 ≡ suc c.args.k = omega arith in
    let two : c.args.k + 2 ≡ suc (suc c.args.k) = omega arith in
    let rows : List (List ℕ) = map (λ row. row.items) c.args.kept.now in
    let next : option_map plain_ir (option_copied c.operation_at-next.result)
    ≡ slice_get (map plain_ir c.args.code.now) (suc c.args.k) =
    c.operation_at-next.ensures ∙ ap (slice_get (map plain_ir c.args.code.now)) one in
    let behind : option_map plain_ir (option_copied c.operation_at.result)
    ≡ slice_get (map plain_ir c.args.code.now) (suc (suc c.args.k)) =
    c.operation_at.ensures ∙ ap (slice_get (map plain_ir c.args.code.now)) two in
    let needed : c.wanted_at.result ≡ slice_index c.args.wanted.now (suc c.args.k) =
    c.wanted_at.ensures ∙ ap (slice_index c.args.wanted.now) one in
    let tell = tells_any c.args.core (declarations c.args.program.now) in
    let number = get_or c.args.known.now c.args.k None in
    let code = map plain_ir c.args.code.now in
    let here_is = plain_ir c.index-code-k.result in
    let index : c.index_at.result ≡ index_in (slice_get code (suc c.args.k)) (get_or rows (suc c.args.k) []) =
    c.index_at.ensures ∙ ap (λ x. index_in x (get_or rows (c.args.k + 1) [])) next
    ∙ ap (λ j. index_in (slice_get code (suc c.args.k)) (get_or rows j [])) one in
    let homes = home c.args.homes in
    let three : c.args.k + 1 + 1 ≡ suc (suc c.args.k) = omega arith in
    let soon = look 8 code c.args.wanted.now c.args.known.now in
    let waiting : c.is_waiting-waiting.result
    ≡ is_waiting (declarations c.args.program.now) homes c.args.told here_is (slice_get code (suc c.args.k)) (soon (suc c.args.k))
    (soon (suc (suc c.args.k))) =
    c.is_waiting-waiting.ensures
    ∙ ap (λ j. is_waiting (declarations c.args.program.now) homes c.args.told here_is (slice_get code j) (soon j)
    (soon (c.args.k + 1 + 1))) one
    ∙ ap (λ j. is_waiting (declarations c.args.program.now) homes c.args.told here_is (slice_get code (suc c.args.k)) (soon (suc c.args.k))
    (soon j)) three in
    c.tells_any.ensures
    ∙ ap (λ n. tell n c.args.told here_is (option_map plain_ir (option_copied c.operation_at-next.result))
    (option_map plain_ir (option_copied c.operation_at.result)) c.wanted_at.result c.index_at.result c.is_waiting-waiting.result)
    c.number_at.ensures
    ∙ ap (λ x. tell number c.args.told here_is x (option_map plain_ir (option_copied c.operation_at.result)) c.wanted_at.result
    c.index_at.result c.is_waiting-waiting.result) next
    ∙ ap (λ x. tell number c.args.told here_is (slice_get code (suc c.args.k)) x c.wanted_at.result c.index_at.result
    c.is_waiting-waiting.result) behind
    ∙ ap (λ n. tell number c.args.told here_is (slice_get code (suc c.args.k)) (slice_get code (suc (suc c.args.k))) n
    c.index_at.result c.is_waiting-waiting.result) needed
    ∙ ap (λ n. tell number c.args.told here_is (slice_get code (suc c.args.k)) (slice_get code (suc (suc c.args.k)))
    (slice_index c.args.wanted.now (suc c.args.k)) n c.is_waiting-waiting.result) index
    ∙ ap (tell number c.args.told here_is (slice_get code (suc c.args.k)) (slice_get code (suc (suc c.args.k)))
    (slice_index c.args.wanted.now (suc c.args.k)) (index_in (slice_get code (suc c.args.k)) (get_or rows (suc c.args.k) []))) waiting
    ∙ tells_here c.args.core (declarations c.args.program.now) homes code c.args.wanted.now rows c.args.known.now c.args.k c.args.told
    here_is here
    c.requires.told
