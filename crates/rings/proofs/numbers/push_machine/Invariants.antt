use Rattle.std.proofs.Common.{◌≡◌, ◌++◌, vec_items}
use Rattle.rings.specs.Numbers.{places_of}
use Rattle.rings.proofs.numbers.push_machine.Given as goal

abbrev pub invariant-loop-m : goal.invariant-loop-m
invariant-loop-m l = vec_items l.places ≡ vec_items l.initial.places ++ places_of l.machine l.m
