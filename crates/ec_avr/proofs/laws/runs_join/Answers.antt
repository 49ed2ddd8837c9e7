use Rattle.ec_avr.proofs.Runs.{machine_joins, leads_nowhere, leads_on, leads_through, leads_to_where_it_stands, leads_to_its_end}
use Rattle.ec_avr.proofs.Runs.{leads_to_its_fault, runs_lead}
use Rattle.ec_avr.proofs.laws.runs_join.Goals as goal

pub returns : goal.returns
returns c = record {
  machine = machine_joins;
  nowhere = leads_nowhere;
  on = leads_on;
  through = leads_through;
  stands = leads_to_where_it_stands;
  ends = leads_to_its_end;
  faults = leads_to_its_fault;
  lead = runs_lead;
}
