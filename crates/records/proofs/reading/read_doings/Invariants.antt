use Rattle.std.proofs.Common.{◌≡◌, ◌*◌, ◌≤◌, length, vec_items, vec_len}
use Rattle.records.specs.Reading.{Begin}
use Rattle.records.proofs.reading.read_doings.Given as goal

abbrev pub invariant-loop-before : goal.invariant-loop-before
invariant-loop-before l = record {
  many : vec_len l.doings ≡ l.before;
  long : 10 * l.before ≤ length l.bytes;
  begin : Begin l.bytes (vec_items l.doings);
}
