-- A ring of more numbers than there are comes twice by one of them, so there is a shorter one.
use Rattle.std.proofs.Common.{◌≡◌, ℕ, zero, suc, ◌+◌, ◌<◌, ◌≤◌, ◌⊎◌, List, [], ◌∷◌, ◌++◌, length, ap, subst, inl, inr, append_assoc, arith, length-append}
use mathlib.Core.List.{Memᴰ}
use native.Mathlib.Decide.{ℕ_discrete}
use Rattle.rings.specs.RingSearch.{Walk, Round, AtLeast}
use Rattle.rings.proofs.Comparing.{le_or_lt}
use Rattle.rings.proofs.Walk.{part, turn, split}
use Rattle.rings.proofs.Table.{lowered}

abbrev pub Below : ℕ → List ℕ → Type 0
Below n [] = Unit {0}
Below n (q ∷ qs) = (q < n) × Below n qs

data Twice : List ℕ → Type 0 where
  here : {a : ℕ} {l : List ℕ} → Memᴰ a l → Twice (a ∷ l)
  there : {a : ℕ} {l : List ℕ} → Twice l → Twice (a ∷ l)

-- the highest is there, or all are lower
top : (n : ℕ) (l : List ℕ) → Below (suc n) l → Memᴰ n l ⊎ Below n l
top n [] h = inr tt
top n (a ∷ l) h =
    elim (ℕ_discrete n a) [
      | yes e ↦ inl (Memᴰ.head e)
      | no ne ↦ elim (top n l h.1) [ inl m ↦ inl (Memᴰ.tail m) | inr b ↦ inr (omega (arith, h.0), b) ]
    ]

-- without the highest
record Without (n : ℕ) (l bs : List ℕ) : Type 0 where
  below : Below n bs
  long : length l ≤ 1 + length bs
  among : (a : ℕ) → Memᴰ a bs → Memᴰ a l
  twice : Twice bs → Twice l

among_cons : (a : ℕ) (bs l : List ℕ) → ((x : ℕ) → Memᴰ x bs → Memᴰ x l) → {x : ℕ} → Memᴰ x (a ∷ bs) → Memᴰ x (a ∷ l)
among_cons a bs l f (Memᴰ.head e) = Memᴰ.head e
among_cons a bs l f (Memᴰ.tail m) = Memᴰ.tail (f _ m)

twice_cons : (a : ℕ) (bs l : List ℕ) → ((x : ℕ) → Memᴰ x bs → Memᴰ x l) → (Twice bs → Twice l) → Twice (a ∷ bs) → Twice (a ∷ l)
twice_cons a bs l f g (Twice.here m) = Twice.here (f a m)
twice_cons a bs l f g (Twice.there t) = Twice.there (g t)

without : (n : ℕ) (l : List ℕ) → Below (suc n) l → Twice l ⊎ ((bs : List ℕ) × Without n l bs)
without n [] h = inr ([], record { below = tt; long = omega arith; among = λ a m. m; twice = λ t. t })
without n (a ∷ l) h =
    elim (ℕ_discrete n a) [
      | yes e ↦
          elim (top n l h.1) [
            | inl m ↦ inl (Twice.here (subst (λ z. Memᴰ z l) e m))
            | inr b ↦ inr (l, record { below = b; long = omega arith; among = λ x m. Memᴰ.tail m; twice = λ t. Twice.there t })
          ]
      | no ne ↦
          elim (without n l h.1) [
            | inl t ↦ inl (Twice.there t)
            | inr x ↦ inr (
              a ∷ x.0,
              record {
                below = (omega (arith, h.0), x.1.below);
                long = omega (arith, x.1.long);
                among = λ y m. among_cons a x.0 l x.1.among m;
                twice = twice_cons a x.0 l x.1.among x.1.twice;
              },
            )
          ]
    ]

pigeons : (n : ℕ) (l : List ℕ) → Below n l → n < length l → Twice l
pigeons zero [] h k = absurd (omega arith)
pigeons zero (a ∷ l) h k = absurd (omega (arith, h.0))
pigeons (suc n) l h k =
    elim (without n l h) [ inl t ↦ t | inr x ↦ x.1.twice (pigeons n x.0 x.1.below (omega (arith, x.1.long))) ]

-- where it is twice
spots : {l : List ℕ} → Twice l → (a : ℕ) × (xs : List ℕ) × (ys : List ℕ) × (zs : List ℕ) × (l ≡ xs ++ (a ∷ (ys ++ (a ∷ zs))))
spots (Twice.here {a} {l} m) = let z = split l m in (a, [], z.0, z.1, ap (λ y. a ∷ y) z.2)
spots (Twice.there {a} {l} t) = let z = spots t in (z.0, a ∷ z.1, z.2, z.3, ap (λ y. a ∷ y) z.4)

module _ (E : ℕ → ℕ → Type 0) where
  shorter : (l : List ℕ) → Round E l → Twice l → (k : List ℕ) × Round E k × (length k < length l)
  shorter l w t =
      let z = spots t in
      let long : length l ≡ length z.1 + (1 + (length z.2 + (1 + length z.3))) = omega (arith, ap length z.4, length-append z.1 (z.0 ∷ (z.2 ++ (z.0 ∷ z.3))), length-append z.2 (z.0 ∷ z.3)) in
      let v = turn E z.1 (z.0 ∷ (z.2 ++ (z.0 ∷ z.3))) (subst (λ y. Round E y) z.4 w) in
      let u = subst (λ y. Walk E z.0 y z.0) (append_assoc z.2 (z.0 ∷ z.3) z.1) v in
      (z.0 ∷ z.2, (part E z.0 z.2 z.0 (z.3 ++ z.1) z.0 u).0, omega arith)

  -- from a ring to one of n numbers at most
  pub few : (n : ℕ) → ((l : List ℕ) → Round E l → Below n l) → (fuel : ℕ) (l : List ℕ) → length l < fuel → Round E l → (k : List ℕ) × Round E k × (length k ≤ n)
  few n below zero l h w = absurd (omega arith)
  few n below (suc fuel) l h w =
      elim (le_or_lt (length l) n) [
        | inl e ↦ (l, w, e)
        | inr e ↦ let z = shorter l w (pigeons n l (below l w) e) in few n below fuel z.0 (omega (arith, z.2)) z.1
      ]

  pub none_within : (n : ℕ) → ((t : ℕ) → AtLeast E t (n + 1)) → (l : List ℕ) → ((k : List ℕ) → Round E k → Below n k) → Round E l → ⊥
  none_within n least l below w =
      let z = few n below (suc (length l)) l (omega arith) w in
      let y = lowered E z.0 z.1 in
      omega (arith, z.2, y.3, least y.0 y.1 y.4 y.2)
