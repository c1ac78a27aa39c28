use Rattle.std.proofs.Common.{vec_items}
use Rattle.records.specs.Record.{records_of}
use Rattle.letters.specs.Noting.{place, Sofar}
use Rattle.letters.proofs.noting.note_all.Given as goal

abbrev pub invariant-loop-machine : goal.invariant-loop-machine
invariant-loop-machine l = Sofar (records_of (vec_items l.records.list)) (place l.machine 1) l.seen
