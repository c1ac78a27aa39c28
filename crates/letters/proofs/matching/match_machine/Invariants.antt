use Rattle.std.proofs.Common.{◌≡◌, ◌+◌, List, vec_items}
use Rattle.records.specs.Record.{Record, machine_of}
use Rattle.letters.specs.Noting.{place, Noted}
use Rattle.letters.specs.Matching.{Linked}
use Rattle.letters.proofs.matching.match_machine.Given as goal

abbrev pub invariant-loop-before : goal.invariant-loop-before
invariant-loop-before l = (rs : List Record) → (machine_of rs l.machine).doings ≡ l.doings → Noted rs l.seen → Linked rs (place l.machine 1) (vec_items l.initial.letters) → Linked rs (place l.machine (l.before + 1)) (vec_items l.letters)
