use Rattle.std.proofs.Common.{◌≡◌, take}
use Rattle.runs.specs.Making.{linked}
use Rattle.runs.proofs.making.link.Given as goal

abbrev pub invariant-loop-letter : goal.invariant-loop-letter
invariant-loop-letter l = l.states ≡ linked l.starts (take l.letter-index l.letters) l.initial.states
