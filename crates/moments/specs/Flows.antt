-- Flows (a dual solution of the minimum-weight closure), and when they show that a moment has the least, or the most.
-- Assumes nothing.
use Rattle.std.specs.Prelude.{◌≡◌, ℕ, ◌+◌, ◌<◌, ◌≤◌, Bool, cond, ◌&&◌, List, [], ◌∷◌, ℤ, pos, ◌+ℤ◌, ◌-ℤ◌, ◌≤ℤ◌, ◌==◌}
use mathlib.Core.List.{Memᴰ}
use Rattle.letters.specs.declared.letter.Letter.{Letter}
use Rattle.runs.specs.Run.{Run}
use Rattle.runs.specs.Moment.{Cut}
use Rattle.moments.specs.Amounts.{Much}

-- own i m: on the arrow from doing m of machine i to the one before it; letter l: on the arrow from l's getting to its sending
pub record Flows : Type 0 where
  pub own : ℕ → ℕ → ℕ
  pub letter : Letter → ℕ

-- the sum of f over the letters that pass a test
abbrev pub over : (Letter → Bool) → (Letter → ℕ) → List Letter → ℕ
over p f [] = 0
over p f (l ∷ ls) = cond (p l) (f l) 0 + over p f ls

-- is doing m of machine i l's sending, or its getting
abbrev pub sends : ℕ → ℕ → Letter → Bool
sends i m l = l.from == i && l.sent == m

abbrev pub gets : ℕ → ℕ → Letter → Bool
gets i m l = l.to == i && l.got == m

-- all flows out of doing m of machine i, and into it
abbrev pub out : Run → Flows → ℕ → ℕ → ℕ
out r f i m = f.own i m + over (gets i m) f.letter r.letters

abbrev pub into : Run → Flows → ℕ → ℕ → ℕ
into r f i m = f.own i (m + 1) + over (sends i m) f.letter r.letters

-- by how much the amount grows with doing m + 1, below 0 where it falls; and the same with the other sign
abbrev pub Growth : Type 0
Growth = ℕ → ℕ → ℤ

abbrev pub grows : Much → Growth
grows w i m = pos (w i (m + 1)) -ℤ pos (w i m)

abbrev pub shrinks : Much → Growth
shrinks w i m = pos (w i m) -ℤ pos (w i (m + 1))

-- what rests at doing m + 1
abbrev pub rest : Run → Growth → Flows → ℕ → ℕ → ℤ
rest r a f i m = a i m +ℤ pos (out r f i (m + 1)) -ℤ pos (into r f i (m + 1))

-- no arrow goes from a first doing or from behind the last; rests are at most 0 behind the cut and at least 0 beyond it, and no flow comes in over it
pub record Shows (r : Run) (a : Growth) (f : Flows) (c : Cut) : Type 0 where
  pub first : (i : ℕ) → i < r.count → f.own i 1 ≡ 0
  pub last : (i : ℕ) → i < r.count → f.own i (r.did i + 1) ≡ 0
  pub behind : (i m : ℕ) → i < r.count → m < c i → rest r a f i m ≤ℤ pos 0
  pub beyond : (i m : ℕ) → i < r.count → c i ≤ m → m < r.did i → pos 0 ≤ℤ rest r a f i m
  pub own : (i : ℕ) → i < r.count → 1 ≤ c i → c i < r.did i → f.own i (c i + 1) ≡ 0
  pub letter : (l : Letter) → Memᴰ l r.letters → l.sent ≤ c l.from → c l.to < l.got → f.letter l ≡ 0
