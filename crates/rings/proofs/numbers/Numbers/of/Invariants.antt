use Rattle.std.proofs.Common.{vec_items}
use Rattle.rings.specs.Numbers.{NumberedTo}
use Rattle.rings.proofs.numbers.Numbers.of.Given as goal

abbrev pub invariant-loop-i : goal.invariant-loop-i
invariant-loop-i l = NumberedTo l.run l.i (vec_items l.places) l.begins
