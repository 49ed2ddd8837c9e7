-- The sample programs break no rule, whatever the ports are.
use Rattle.std.proofs.Common.{rules, Bool, true, false, []}
use Rattle.ec_iohw.specs.Valid.{ValidIo}
use Rattle.ec_iohw.specs.declared.table.IoTable.{IoTable}
use Rattle.ec_core.specs.Valid.{Valid}
use Rattle.ec_tests.specs.Samples.{sample, program_of, variables}

empty_is_valid : (io : IoTable) → ValidIo io → Valid (program_of []) io
empty_is_valid io h = record {
  ports = h;
  structs = search rules;
  objects = search rules;
  registers = search rules;
  externals = search rules;
  functions = search rules;
  main = search rules;
  no_recursion = search rules;
  object_count = search rules;
  function_count = search rules;
}

four_are_valid : (io : IoTable) → ValidIo io → Valid (program_of (variables true)) io
four_are_valid io h = record {
  ports = h;
  structs = search rules;
  objects = search rules;
  registers = search rules;
  externals = search rules;
  functions = search rules;
  main = search rules;
  no_recursion = search rules;
  object_count = search rules;
  function_count = search rules;
}

pub sample_is_valid : (some : Bool) (io : IoTable) → ValidIo io → Valid (sample some) io
sample_is_valid false io h = empty_is_valid io h
sample_is_valid true io h = four_are_valid io h
