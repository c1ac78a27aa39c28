use Rattle.std.proofs.Common.{◌≡◌, ◌≤◌, take, vec_items, vec_len}
use Rattle.records.specs.Record.{records_of}
use Rattle.records.specs.Refusal.{ReadFrom}
use Rattle.records.specs.Reading.{files_of}
use Rattle.records.proofs.reading.read_files.Given as goal

abbrev pub invariant-loop-machine : goal.invariant-loop-machine
invariant-loop-machine l = record {
  many : vec_len l.list ≡ l.machine;
  few : l.machine ≤ 40;
  read : ReadFrom 0 (take l.machine (files_of l.files)) (records_of (vec_items l.list));
}
