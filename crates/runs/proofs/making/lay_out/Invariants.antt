use Rattle.std.proofs.Common.{vec_items}
use Rattle.records.specs.Record.{records_of}
use Rattle.runs.specs.Making.{Laid}
use Rattle.runs.proofs.making.lay_out.Given as goal

abbrev pub invariant-loop-machine : goal.invariant-loop-machine
invariant-loop-machine l = Laid (records_of (vec_items l.records.list)) l.machine l.did l.starts (vec_items l.states)
