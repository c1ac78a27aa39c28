use Rattle.std.proofs.Common.{arith}
use Rattle.answers.proofs.Fronts.{begins}
use Rattle.answers.proofs.reading.front_of.Goals as goal

pub returns-in_default : goal.returns-in_default
returns-in_default c = λ a to e. let b = begins c.args.front.now a to e in grind arith
