-- What the search for rings has found.
-- Assumes nothing.
use Rattle.std.specs.Prelude.{◌≡◌, ℕ, ◌+◌, ◌<◌, ◌≤◌, List, length, Some, None, vec_items, Option}
use Rattle.rings.specs.declared.finding.Best as best
use Rattle.rings.specs.declared.finding.Found as found
use Rattle.rings.specs.RingSearch.{Walk, From, AtLeast, Best, Found}

module _ (E : ℕ → ℕ → Type 0) (n : ℕ) where
  -- the best of the starts below t, and a ring from it
  pub record Known (t : ℕ) (b : best.Best) : Type 0 where
    pub fewest : Best E t b.start b.fewest
    pub before : b.start < t
    pub few : b.fewest ≤ n
    pub ring : List ℕ
    pub from : From b.start ring
    pub walk : Walk E b.start ring b.start
    pub long : 1 + length ring ≡ b.fewest

  -- after the starts below t: there is no ring of as many numbers as there are, or fewer; or one from the best start is known
  abbrev pub Shortest : ℕ → Option best.Best → Type 0
  Shortest t None = (u : ℕ) → u < t → AtLeast E u (n + 1)
  Shortest t (Some b) = Known t b

-- no ring of as many numbers as there are, or fewer; or the lowest of the shortest
abbrev pub Searched : (ℕ → ℕ → Type 0) → ℕ → Option found.Found → Type 0
Searched E n None = (t : ℕ) → t < n → AtLeast E t (n + 1)
Searched E n (Some f) = Found E f.start (vec_items f.rest)
