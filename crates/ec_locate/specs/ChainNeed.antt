-- What region `data` needs, by the chains of calls.
use Rattle.std.specs.Prelude.{ℕ, ◌≡◌, ◌+◌}
use Rattle.ec_check_recursion.specs.Rows.{rows_of_program}
use Rattle.ec_core.specs.Plain.{PlainProgram}
use Rattle.ec_core.specs.Valid.{Valid}
use Rattle.ec_map.specs.declared.map.Map.{Map}
use Rattle.ec_overlay.specs.Frames.{IsGreatestSum}
use Rattle.ec_locate.specs.Entries.{data_sizes, local_size, scratch_size, data_need, work_size}
use Rattle.ec_locate.specs.Placing.{entries_by, scratch_needs}

-- the sizes of the free static data objects, the greatest sum of parameter and local bytes over any chain of calls, the
-- greatest sum of scratch bytes over any chain, which may be another one, and the work bytes
pub record IsChainNeed (p : PlainProgram) (m : Map) (need : ℕ) : Type 0 where
  pub locals : ℕ
  pub scratch : ℕ
  pub are_locals : IsGreatestSum (rows_of_program p) (local_size (entries_by m p)) locals
  pub are_scratch : IsGreatestSum (rows_of_program p) (scratch_size (scratch_needs p)) scratch
  pub sum : need ≡ data_sizes (entries_by m p) + locals + scratch + work_size m.io

abbrev pub DataNeedIsOfChains : Type 0
DataNeedIsOfChains =
    (p : PlainProgram) (m : Map) → Valid p m.io
    → IsChainNeed p m (data_need (work_size m.io) (rows_of_program p) (entries_by m p) (scratch_needs p))
