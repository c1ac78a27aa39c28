-- Some doing comes before itself exactly if there is a ring.
use Rattle.std.proofs.Common.{◌≡◌, ℕ, zero, suc, ◌+◌, ◌<◌, ◌≤◌, List, [], ◌∷◌, ◌++◌, sym, subst, arith}
use native.Mathlib.Decide.{ℕ_discrete}
use Rattle.records.specs.declared.place.Place.{Place}
use Rattle.letters.specs.Noting.{place as at}
use Rattle.runs.specs.Run.{Run, Before}
use Rattle.rings.specs.Ring.{Step, Steps, Ring}
use Rattle.rings.specs.RingSearch.{Walk, Round}
use Rattle.rings.proofs.Walk.{join}

-- the two words for the same
pub to_walk : (r : Run) (p : Place) (ps : List Place) (back : Place) → Steps r p ps back → Walk (Step r) p ps back
to_walk r p [] back s = s
to_walk r p (q ∷ qs) back s = (s.0, to_walk r q qs back s.1)

pub to_steps : (r : Run) (p : Place) (ps : List Place) (back : Place) → Walk (Step r) p ps back → Steps r p ps back
to_steps r p [] back s = s
to_steps r p (q ∷ qs) back s = (s.0, to_steps r q qs back s.1)

pub to_round : (r : Run) (ps : List Place) → Ring r ps → Round (Step r) ps
to_round r [] s = absurd s
to_round r (p ∷ ps) s = to_walk r p ps p s

-- along one machine
along : (r : Run) (i m n : ℕ) → 1 ≤ m → m < n → n ≤ r.did i → (ps : List Place) × Walk (Step r) (at i m) ps (at i n)
along r i m zero a b c = absurd (omega arith)
along r i m (suc n) a b c =
    elim (ℕ_discrete m n) [
      | yes e ↦ ([], subst (λ z. Step r (at i z) (at i (suc n))) (sym e) (one n (omega arith) c))
      | no ne ↦ let z = along r i m n a (omega arith) (omega arith) in
          (z.0 ++ (at i n ∷ []), join (Step r) (at i m) z.0 (at i n) [] (at i (suc n)) z.1 (one n (omega arith) c))
    ]
  where
    one : (o : ℕ) → 1 ≤ o → suc o ≤ r.did i → Step r (at i o) (at i (suc o))
    one o x y = let e : o + 1 ≡ suc o = omega arith in subst (λ z. Step r (at i o) (at i z)) e (Step.next x (omega arith))

pub walked : (r : Run) {i m j n : ℕ} → Before r i m j n → (ps : List Place) × Walk (Step r) (at i m) ps (at j n)
walked r (Before.own {i} {m} {n} a b c) = along r i m n b a c
walked r (Before.letter l e) = ([], Step.letter l e)
walked r (Before.through {i} {m} {j} {n} k o x y) =
    let u = walked r x in
    let v = walked r y in
    (u.0 ++ (at k o ∷ v.0), join (Step r) (at i m) u.0 (at k o) v.0 (at j n) u.1 v.1)

stepped : (r : Run) {p q : Place} → Step r p q → Before r p.machine p.doing q.machine q.doing
stepped r (Step.next {i} {m} a b) = Before.own (omega arith) a b
stepped r (Step.letter l e) = Before.letter l e

pub before : (r : Run) (p : Place) (ps : List Place) (back : Place) → Walk (Step r) p ps back → Before r p.machine p.doing back.machine back.doing
before r p [] back w = stepped r w
before r p (q ∷ qs) back w = Before.through q.machine q.doing (stepped r w.0) (before r q qs back w.1)

pub ring_by_before : (r : Run) → (((i : ℕ) × (m : ℕ) × Before r i m i m) → (ps : List Place) × Ring r ps) × (((ps : List Place) × Ring r ps) → (i : ℕ) × (m : ℕ) × Before r i m i m)
ring_by_before r = (
  (λ x. let z = walked r x.2 in (at x.0 x.1 ∷ z.0, to_steps r (at x.0 x.1) z.0 (at x.0 x.1) z.1)),
  (λ x. back x.0 x.1),
)
  where
    back : (ps : List Place) → Ring r ps → (i : ℕ) × (m : ℕ) × Before r i m i m
    back [] w = absurd w
    back (p ∷ ps) w = (p.machine, p.doing, before r p ps p (to_walk r p ps p w))
