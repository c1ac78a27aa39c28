-- Places of a ring are of things that were done.
use Rattle.std.proofs.Common.{◌<◌, ◌≤◌, List, [], ◌∷◌, inl, inr, arith}
use Rattle.records.specs.declared.place.Place.{Place}
use Rattle.runs.specs.Run.{Run}
use Rattle.rings.specs.Ring.{Step}
use Rattle.runs.specs.Run.{Done as Inside}
use Rattle.rings.specs.RingSearch.{Done, Walk}
use Rattle.rings.proofs.Comparing.{le_or_lt}

pub done_step : (r : Run) → Inside r → {p q : Place} → Step r p q → Done r p → Done r q
done_step r ins (Step.next {i} {m} a b) d = (d.0, omega arith, b)
done_step r ins (Step.letter l m) d = let z = ins l m in (z.1, z.4, z.5)

-- from a machine that there isn't only its own doings follow, higher and higher
beyond_step : (r : Run) → Inside r → {p q : Place} → Step r p q → r.count ≤ p.machine → (r.count ≤ q.machine) × (p.doing < q.doing)
beyond_step r ins (Step.next {i} {m} a b) h = (h, omega arith)
beyond_step r ins (Step.letter l m) h = absurd (omega (arith, (ins l m).0))

beyond : (r : Run) → Inside r → (p : Place) (ps : List Place) (back : Place) → Walk (Step r) p ps back → r.count ≤ p.machine → p.doing < back.doing
beyond r ins p [] back w h = (beyond_step r ins w h).1
beyond r ins p (q ∷ qs) back w h =
    let z = beyond_step r ins w.0 h in
    omega (arith, z.1, beyond r ins q qs back w.1 z.0)

out_step : (r : Run) → Inside r → {p q : Place} → Step r p q → (1 ≤ p.doing) × (p.doing ≤ r.did p.machine)
out_step r ins (Step.next {i} {m} a b) = (a, omega arith)
out_step r ins (Step.letter l m) = let z = ins l m in (z.2, z.3)

out : (r : Run) → Inside r → (p : Place) (ps : List Place) (back : Place) → Walk (Step r) p ps back → (1 ≤ p.doing) × (p.doing ≤ r.did p.machine)
out r ins p [] back w = out_step r ins w
out r ins p (q ∷ qs) back w = out_step r ins w.0

pub done_first : (r : Run) → Inside r → (p : Place) (ps : List Place) → Walk (Step r) p ps p → Done r p
done_first r ins p ps w =
    let z = out r ins p ps p w in
    elim (le_or_lt r.count p.machine) [ inl h ↦ absurd (omega (arith, beyond r ins p ps p w h)) | inr h ↦ (h, z.0, z.1) ]
