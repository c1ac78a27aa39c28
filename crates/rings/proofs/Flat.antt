-- Doings as numbers in the order of their places, and the lowest ring from what the search among numbers found.
use Rattle.std.proofs.Common.{◌≡◌, ℕ, ◌+◌, ◌<◌, ◌≤◌, List, [], ◌∷◌, map, length, sym, refl, ap, ◌∙◌, subst, inl, inr, arith}
use lib.ListN.{length-map}
use Rattle.records.specs.declared.place.Place.{Place}
use Rattle.runs.specs.Run.{Run, Before}
use Rattle.rings.specs.Ring.{Step, Steps, Ring, NoLater, LowestRing}
use Rattle.runs.specs.Run.{Done as Inside}
use Rattle.rings.specs.RingSearch.{Done, Flat, Edge, Walk, Round, AtLeast, Found}
use Rattle.rings.proofs.Comparing.{le_or_lt}
use Rattle.rings.proofs.RingBefore.{to_round, ring_by_before}
use Rattle.rings.proofs.Done.{done_step, done_first}
use Rattle.rings.proofs.Table.{Lower, greedy_walk, found_fewest, found_lowest}
use Rattle.rings.proofs.Pigeons.{Below, none_within}

module _ (r : Run) (ins : Inside r) (n : ℕ) (place : ℕ → Place) (flat : Flat r n place) where
  to_places : (a : ℕ) (xs : List ℕ) (b : ℕ) → Walk (Edge r n place) a xs b → Steps r (place a) (map place xs) (place b)
  to_places a [] b w = w.2
  to_places a (c ∷ xs) b w = (w.0.2, to_places c xs b w.1)

  to_numbers : (p : Place) (ps : List Place) (back : Place) (a b : ℕ) → a < n → b < n → p ≡ place a → back ≡ place b → Done r p → Walk (Step r) p ps back → (xs : List ℕ) × (ps ≡ map place xs) × Walk (Edge r n place) a xs b
  to_numbers p [] back a b h k e f d w = ([], refl, (h, k, subst (λ z. Step r z (place b)) e (subst (λ z. Step r p z) f w)))
  to_numbers p (q ∷ qs) back a b h k e f d w =
      let dq = done_step r ins w.0 d in
      let c = flat.all q dq in
      let z = to_numbers q qs back c.0 b c.1 k c.2 f dq w.1 in
      (c.0 ∷ z.0, ap (λ x. q ∷ x) z.1 ∙ ap (λ x. x ∷ map place z.0) c.2, ((h, c.1, subst (λ x. Step r x (place c.0)) e (subst (λ x. Step r p x) c.2 w.0)), z.2))

  pub ring_numbers : (ps : List Place) → Ring r ps → (xs : List ℕ) × (ps ≡ map place xs) × Round (Edge r n place) xs
  ring_numbers [] w = absurd w
  ring_numbers (p ∷ ps) w =
      let v = to_round r (p ∷ ps) w in
      let d = done_first r ins p ps v in
      let c = flat.all p d in
      let z = to_numbers p ps p c.0 c.0 c.1 c.1 c.2 c.2 d v in
      (c.0 ∷ z.0, ap (λ x. p ∷ x) z.1 ∙ ap (λ x. x ∷ map place z.0) c.2, z.2)

  walk_below : (a : ℕ) (xs : List ℕ) (b : ℕ) → Walk (Edge r n place) a xs b → Below n (a ∷ xs)
  walk_below a [] b w = (w.0, tt)
  walk_below a (c ∷ xs) b w = (w.0.0, walk_below c xs b w.1)

  round_below : (xs : List ℕ) → Round (Edge r n place) xs → Below n xs
  round_below [] w = absurd w
  round_below (a ∷ xs) w = walk_below a xs a w

  no_later : {xs bs : List ℕ} → Lower xs bs → Below n bs → NoLater (map place xs) (map place bs)
  no_later Lower.same h = NoLater.same
  no_later (Lower.lower {p} {q} {ps} {qs} l) h = NoLater.lower (flat.up p q l h.0)
  no_later (Lower.equal {p} {ps} {qs} l) h = NoLater.equal (no_later l h.1)

  -- what was found is the lowest ring
  pub found_ring : (s : ℕ) (ws : List ℕ) → Found (Edge r n place) s ws → LowestRing r (map place (s ∷ ws))
  found_ring s ws x =
      record {
        ring = to_places s ws s (greedy_walk (Edge r n place) s x.d s ws x.goes);
        fewest = λ qs w. let z = ring_numbers qs w in
            omega (arith, ap length z.1, length-map z.0 place, length-map ws place, found_fewest (Edge r n place) s ws x z.0 z.2);
        lowest = λ qs w e. let z = ring_numbers qs w in
            subst (λ y. NoLater (map place (s ∷ ws)) y) (sym z.1)
            (no_later (found_lowest (Edge r n place) s ws x z.0 z.2 (omega (arith, e, ap length z.1, length-map z.0 place, length-map ws place))) (round_below z.0 z.2));
      }

  -- past the last number there is nothing
  pub past_last : (t m : ℕ) → n ≤ t → AtLeast (Edge r n place) t m
  past_last t m h [] f w = absurd (omega (arith, w.0))
  past_last t m h (q ∷ qs) f w = absurd (omega (arith, w.0.0))

  -- no ring of n numbers or fewer: nothing comes before itself
  pub none_found : ((t : ℕ) → t < n → AtLeast (Edge r n place) t (n + 1)) → (i m : ℕ) → Before r i m i m → ⊥
  none_found least i m b =
      let x = (ring_by_before r).0 (i, m, b) in
      let z = ring_numbers x.0 x.1 in
      none_within (Edge r n place) n (λ t. elim (le_or_lt n t) [ inl h ↦ past_last t (n + 1) h | inr h ↦ least t h ]) z.0 (round_below) z.2
