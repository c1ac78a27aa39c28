-- Rings: doings each of which comes right before the next, and the last before the first (cycles of happened-before).
-- Assumes nothing.
use Rattle.std.specs.Prelude.{◌≡◌, ℕ, ◌+◌, ◌≤◌, List, [], ◌∷◌, length}
use mathlib.Core.List.{Memᴰ}
use Rattle.records.specs.declared.place.Place.{Place}
use Rattle.records.specs.Refusal.{Earlier}
use Rattle.letters.specs.declared.letter.Letter.{Letter}
use Rattle.runs.specs.Run.{Run}

-- one step: to the machine's next doing, or from a letter's sending to its getting
pub data Step (r : Run) : Place → Place → Type 0 where
  next : {i m : ℕ} → 1 ≤ m → m + 1 ≤ r.did i → Step r (record { machine = i; doing = m }) (record { machine = i; doing = m + 1 })
  letter : (l : Letter) → Memᴰ l r.letters → Step r (record { machine = l.from; doing = l.sent }) (record { machine = l.to; doing = l.got })

-- steps from place to place, the last of them to the place `back`
abbrev pub Steps : Run → Place → List Place → Place → Type 0
Steps r p [] back = Step r p back
Steps r p (q ∷ qs) back = Step r p q × Steps r q qs back

abbrev pub Ring : Run → List Place → Type 0
Ring r [] = ⊥
Ring r (p ∷ ps) = Steps r p ps p

-- place by place no later, at equal length: the order in which one ring is lower than another
pub data NoLater : List Place → List Place → Type 0 where
  same : NoLater [] []
  lower : {p q : Place} {ps qs : List Place} → Earlier p q → NoLater (p ∷ ps) (q ∷ qs)
  equal : {p : Place} {ps qs : List Place} → NoLater ps qs → NoLater (p ∷ ps) (p ∷ qs)

-- 4. The ring of the fewest doings, of several the lowest. It begins with its own lowest doing, since a ring begun elsewhere is a ring, too.
pub record LowestRing (r : Run) (ps : List Place) : Type 0 where
  pub ring : Ring r ps
  pub fewest : (qs : List Place) → Ring r qs → length ps ≤ length qs
  pub lowest : (qs : List Place) → Ring r qs → length qs ≡ length ps → NoLater ps qs
