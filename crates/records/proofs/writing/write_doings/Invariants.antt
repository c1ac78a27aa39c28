use Rattle.std.proofs.Common.{vec_items}
use Rattle.records.proofs.Written.{Put}
use Rattle.records.proofs.writing.write_doings.Given as goal

abbrev pub invariant-loop-before : goal.invariant-loop-before
invariant-loop-before l = Put (vec_items l.initial.out) l.doings l.before (vec_items l.out)
