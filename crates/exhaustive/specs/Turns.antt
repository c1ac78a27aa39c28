-- The cuts' turns, in order of their numbers.
-- Assumes nothing.
use Rattle.std.specs.Prelude.{◌≡◌, ℕ, ◌+◌, ◌-◌, Some, None, Option, MatchOption, ⊤}
use Rattle.runs.specs.Model.{run_of}
use Rattle.exhaustive.specs.declared.cut.Cut.{Cut}
use Rattle.exhaustive.specs.declared.cut.CutsFrom.{CutsFrom}
use Rattle.exhaustive.specs.Counter.{cuts_of}

-- the cut after c, or that c was the last
abbrev pub Follows : Cut → Option Cut → Type 0
Follows c o = MatchOption o (c.number + 1 ≡ cuts_of (run_of c.run.now)) (λ d. (d.run.now ≡ c.run.now) × (d.number ≡ c.number + 1))

-- the next one has its turn, and then the one after it
abbrev pub Goes : CutsFrom → Option Cut → CutsFrom → Type 0
Goes s r t = (s.next ≡ r) × MatchOption r ⊤ (λ c. Follows c t.next)

-- how many there are from the next one on
abbrev pub left : Option Cut → ℕ
left None = 0
left (Some c) = cuts_of (run_of c.run.now) - c.number
