use Rattle.std.proofs.Common.{arith}
use Rattle.runs.proofs.Layouts.{linked_more}
use Rattle.runs.proofs.making.link.Goals as goal

pub loop-letter-preserved : goal.loop-letter-preserved
loop-letter-preserved c = rw (c.index-here.ensures, c.from.ensures) (linked_more c.args.starts c.args.letters.now c.args.states.now c.loop-letter.states c.loop-letter.letter-index _ (omega arith) c.loop-letter.invariant)
