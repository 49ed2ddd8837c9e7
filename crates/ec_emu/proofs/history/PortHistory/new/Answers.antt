use Rattle.std.proofs.Common.{refl}
use Rattle.std.proofs.lemmas.List.{get_or-replicate}
use Rattle.ec_emu.proofs.history.PortHistory.new.Goals as goal

pub returns : goal.returns
returns c = record {
  reads = λ port below. get_or-replicate 256 port 0 0 below;
  last = λ port below. get_or-replicate 256 port 0 0 below;
  all_reads = refl;
  all_writes = refl;
  read_ports = refl;
  written_ports = refl;
}
