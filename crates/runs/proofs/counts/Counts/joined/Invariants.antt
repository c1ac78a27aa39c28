use Rattle.std.proofs.Common.{◌≡◌, ℕ, ◌<◌, ◌≤◌, max, length, get_or}
use Rattle.runs.proofs.counts.Counts.joined.Given as goal

abbrev pub invariant-loop-machine : goal.invariant-loop-machine
invariant-loop-machine l =
    record {
      wide : length l.of ≡ 40;
      pairs : l.pairs ≡ l.machine;
      higher : (j : ℕ) → j < l.machine → get_or l.of j 0 ≡ max (get_or l.initial.of j 0) (get_or l.fn.other.of j 0);
      others : (j : ℕ) → l.machine ≤ j → get_or l.of j 0 ≡ get_or l.initial.of j 0;
    }
