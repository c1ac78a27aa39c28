-- Going along the distances.
use Rattle.std.proofs.Common.{◌≡◌, ℕ, zero, suc, ◌+◌, ◌-◌, ◌<◌, ◌≤◌, List, [], ◌∷◌, ◌++◌, length, Some, None, Option, get_or, refl, inl, inr, subst, arith, length-append}
use Rattle.rings.specs.declared.links.Link.{Link}
use Rattle.rings.specs.RingSearch.{Greedy, Toward}
use Rattle.rings.specs.Links.{In, far_of, far, SomeNext, Lowest, Measured, Going}
use Rattle.std.specs.Option.{MatchOption}
use Rattle.rings.proofs.Comparing.{le_or_lt}
use Rattle.rings.proofs.Levels.{far_some}
use Rattle.rings.proofs.Search.{toward_more, toward_end, exact_next, exact_near, exact_back}

-- a distance below top is an entry
entry_is : (top n k : ℕ) → far_of top n ≡ k → k < top → n ≡ k
entry_is top zero k e lt = absurd (omega arith)
entry_is top (suc n) k e lt = e

-- the first number found is the lowest, and one is found
module _ (links : List Link) (table : List ℕ) (s v k : ℕ) where
  abbrev pub Is : ℕ → Type 0
  Is u = In links v u × (get_or table u 0 ≡ k)

  abbrev pub IsNot : ℕ → Type 0
  IsNot u = In links v u → get_or table u 0 ≡ k → ⊥

  pub found_next : (last : ℕ) (r : Option ℕ) → last ≡ length links → SomeNext links table s v k → MatchOption r ((u : ℕ) → s ≤ u → u < last → IsNot u) (λ i. (s ≤ i) × (i < last) × Is i × ((u : ℕ) → s ≤ u → u < i → IsNot u)) → (w : ℕ) × (r ≡ Some w) × Lowest links table s v k w
  found_next last None e some none = absurd (none some.0 some.1 (omega (arith, some.2.1)) some.2 some.3)
  found_next last (Some i) e some (a, b, c, d) =
      (i, refl, record { from = a; step = c.0; here = c.1; least = λ u h j f. elim (le_or_lt i u) [ inl le ↦ le | inr lt ↦ absurd (d u h lt j f) ] })

module _ (links : List Link) (table : List ℕ) (s top : ℕ) (m : Measured links s top table) where
  module _ (v k : ℕ) (xs : List ℕ) (g : Going links table s top v k xs) where
    pub going_some : 1 < k → SomeNext links table s v (k - 1)
    going_some h =
        let w = exact_next (In links) s top (far table top) m.exact v (k - 1 - 1) g.from (omega (arith, g.here)) (omega (arith, g.here, g.low)) in
        (w.0, w.1, w.2, entry_is top (get_or table w.0 0) (k - 1) (omega (arith, w.3)) (omega (arith, g.low)))

    pub going_more : 1 < k → (w : ℕ) → Lowest links table s v (k - 1) w → Going links table s top w (k - 1) (xs ++ (w ∷ []))
    going_more h w l =
        let e : k - 1 ≡ k - 1 - 1 + 1 = omega arith in
        record {
          inside = l.step.1;
          from = l.from;
          here = far_some table top w (k - 1) l.here (omega arith);
          low = omega (arith, g.low);
          one = omega arith;
          toward = toward_more (In links) s (far table top) xs v w (k - 1 - 1) (subst (λ z. Toward (In links) s (far table top) xs v z) e g.toward) l.step
              (λ u a o f. l.least u a o (entry_is top (get_or table u 0) (k - 1) (omega (arith, exact_near (In links) s top (far table top) m.exact v u (k - 1 - 1) g.from a o (omega (arith, g.here)) f)) (omega (arith, g.low))));
          long = omega (arith, g.long, length-append xs (w ∷ []));
        }

    pub going_end : k ≤ 1 → Greedy (In links) s (far table top) s xs × (1 + length xs ≡ far table top s)
    going_end h =
        let e : k - 1 ≡ 0 = omega arith in (
          toward_end (In links) s (far table top) xs v (subst (λ z. Toward (In links) s (far table top) xs v z) e g.toward) (exact_back (In links) s top (far table top) m.exact v g.from (omega (arith, g.here, g.one)) (omega (arith, g.here, g.low))),
          omega (arith, g.long, g.one),
        )
