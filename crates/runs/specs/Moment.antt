-- Cuts and moments (consistent cuts) of a run.
-- Assumes nothing.
use mathlib.Core.List.{Memᴰ}
use Rattle.std.specs.Prelude.{ℕ, ◌<◌, ◌≤◌}
use Rattle.letters.specs.declared.letter.Letter.{Letter}
use Rattle.runs.specs.Run.{Run}

-- A cut says how many of its doings each machine has behind it. It is a moment if what came before those is behind, too; enough for that is that with each getting the sending is.
abbrev pub Cut : Type 0
Cut = ℕ → ℕ

pub record Moment (r : Run) (c : Cut) : Type 0 where
  pub inside : (i : ℕ) → i < r.count → c i ≤ r.did i
  pub closed : (l : Letter) → Memᴰ l r.letters → l.got ≤ c l.to → l.sent ≤ c l.from

-- this machine has a doing left behind the cut, and none below it has
pub record LowestLeft (r : Run) (c : Cut) (i : ℕ) : Type 0 where
  pub inside : i < r.count
  pub left : c i < r.did i
  pub ends : (k : ℕ) → k < i → r.did k ≤ c k
