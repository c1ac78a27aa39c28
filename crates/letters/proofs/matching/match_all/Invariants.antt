use Rattle.std.proofs.Common.{vec_items}
use Rattle.records.specs.Record.{records_of}
use Rattle.letters.specs.Noting.{place}
use Rattle.letters.specs.Matching.{Linked}
use Rattle.letters.proofs.matching.match_all.Given as goal

abbrev pub invariant-loop-machine : goal.invariant-loop-machine
invariant-loop-machine l = Linked (records_of (vec_items l.records.list)) (place l.machine 1) (vec_items l.letters)
