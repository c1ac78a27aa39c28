-- A function of numbers with another value at one of them.
use Rattle.std.proofs.Common.{◌≡◌, ℕ, zero, suc, ◌<◌, cond, eqb, ◌⊎◌, sym, refl, subst, inl, inr, arith}
use Rattle.std.proofs.lemmas.Bool.{cases_eq, eq-eqb, ne_eqb, cond-true, cond-false}

pub put : {A : Type 0} → (ℕ → A) → ℕ → A → ℕ → A
put f i v j = cond (eqb j i) v (f j)

pub puts : {A : Type 0} (f : ℕ → A) (i : ℕ) (v : A) (j : ℕ) → ((j ≡ i) × (put f i v j ≡ v)) ⊎ ((j ≡ i → ⊥) × (put f i v j ≡ f j))
unfolding put
puts f i v j =
    elim (cases_eq j i) [
      | inl e ↦ inl (e, cond-true (eqb j i) v (f j) (eq-eqb j i e))
      | inr ne ↦ inr (ne, cond-false (eqb j i) v (f j) (ne_eqb j i ne))
    ]

pub put_here : {A : Type 0} (f : ℕ → A) (i : ℕ) (v : A) → put f i v i ≡ v
put_here f i v = elim (puts f i v i) [ inl x ↦ x.1 | inr x ↦ absurd (x.0 refl) ]

pub put_else : {A : Type 0} (f : ℕ → A) (i : ℕ) (v : A) (j : ℕ) → (j ≡ i → ⊥) → put f i v j ≡ f j
put_else f i v j ne = elim (puts f i v j) [ inl x ↦ absurd (ne x.0) | inr x ↦ x.1 ]

-- a number for each below n
pub choose : (P : ℕ → ℕ → Type 0) (n : ℕ) → ((i : ℕ) → i < n → (m : ℕ) × P i m) → (g : ℕ → ℕ) × ((i : ℕ) → i < n → P i (g i))
choose P zero each = (λ i. 0, λ i h. absurd (omega arith))
choose P (suc n) each =
    let g = choose P n (λ i h. each i (omega arith)) in
    let here = each n (omega arith) in (
      put g.0 n here.0,
      λ i h. elim (puts g.0 n here.0 i) [
        | inl e ↦ subst (λ z. P z (put g.0 n here.0 i)) (sym e.0) (subst (λ z. P n z) (sym e.1) here.1)
        | inr e ↦ subst (λ z. P i z) (sym e.1) (g.1 i (omega (arith, e.0)))
      ],
    )
