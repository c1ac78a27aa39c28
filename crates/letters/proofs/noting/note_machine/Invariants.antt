use Rattle.std.proofs.Common.{◌≡◌, ◌+◌, List}
use Rattle.records.specs.Record.{Record, machine_of}
use Rattle.letters.specs.Noting.{place, Sofar}
use Rattle.letters.proofs.noting.note_machine.Given as goal

abbrev pub invariant-loop-before : goal.invariant-loop-before
invariant-loop-before l = (rs : List Record) → (machine_of rs l.machine).doings ≡ l.doings → Sofar rs (place l.machine 1) l.initial.seen → Sofar rs (place l.machine (l.before + 1)) l.seen
