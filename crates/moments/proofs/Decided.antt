-- What is decided of each is decided of all: of the numbers below a bound, and of the elements of a list.
use Rattle.std.proofs.Common.{ℕ, zero, suc, ◌<◌, ◌⊎◌, List, [], ◌∷◌, sym, refl, subst, inl, inr, arith}
use mathlib.Core.List.{Memᴰ}
use Rattle.std.proofs.lemmas.Bool.{cases_eq}

-- one of two is known of each: then the one of all, or the other of some
pub each_below : (P Q : ℕ → Type 0) (n : ℕ) → ((i : ℕ) → i < n → P i ⊎ Q i) → ((i : ℕ) → i < n → P i) ⊎ ((i : ℕ) × (i < n) × Q i)
each_below P Q zero known = inl (λ i h. absurd (omega arith))
each_below P Q (suc n) known =
    elim (known n (omega arith)) [
      | inr q ↦ inr (n, omega arith, q)
      | inl p ↦
          elim (each_below P Q n (λ i h. known i (omega arith))) [
            | inl all ↦ inl (λ i h. elim (cases_eq i n) [ inl e ↦ subst P (sym e) p | inr ne ↦ all i (omega arith) ])
            | inr x ↦ inr (x.0, omega arith, x.2)
          ]
    ]

pub each_in : {A : Type 0} (P Q : A → Type 0) → ((a : A) → P a ⊎ Q a) → (l : List A) → ((a : A) → Memᴰ a l → P a) ⊎ ((a : A) × Memᴰ a l × Q a)
each_in P Q known [] = inl (λ a h. elim h [ ])
each_in {A} P Q known (b ∷ l) =
    elim (known b) [
      | inr q ↦ inr (b, Memᴰ.head refl, q)
      | inl p ↦ elim (each_in P Q known l) [ inl all ↦ inl (λ a m. more all p m) | inr x ↦ inr (x.0, Memᴰ.tail x.1, x.2) ]
    ]
  where
    more : ((a : A) → Memᴰ a l → P a) → P b → {a : A} → Memᴰ a (b ∷ l) → P a
    more all p (Memᴰ.head e) = subst P (sym e) p
    more all p (Memᴰ.tail m) = all _ m
