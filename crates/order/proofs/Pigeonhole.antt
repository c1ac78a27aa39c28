-- More numbers than there are below a bound: two are the same.
use Rattle.std.proofs.Common.{◌≡◌, ℕ, zero, suc, ◌+◌, ◌<◌, cond, eqb, ◌⊎◌, sym, ap, ◌∙◌, inl, inr, ⊎_elim, arith}
use Rattle.std.proofs.lemmas.Bool.{cases_eq, cases_Bool, eqb-true, eqb-false}

-- the last of a list's values is among the others, or is not
look : (g : ℕ → ℕ) (x n : ℕ) → ((k : ℕ) × (k < n) × (g k ≡ x)) ⊎ ((k : ℕ) → k < n → g k ≡ x → ⊥)
look g x zero = inr (λ k h e. omega arith)
look g x (suc n) =
    ⊎_elim
    (λ found. inl (found.0, omega (arith, found.1), found.2))
    (λ none. ⊎_elim (λ e. inl (n, omega arith, e)) (λ ne. inr (λ k h e. ⊎_elim (λ same. ne (ap g (sym same) ∙ e)) (λ other. none k (omega arith) e) (cases_eq k n))) (cases_eq (g n) x))
    (look g x n)

swap : ℕ → ℕ → ℕ → ℕ
swap n last x = cond (eqb x n) last x

swapped : (n last x : ℕ) → ((x ≡ n) × (swap n last x ≡ last)) ⊎ ((x ≡ n → ⊥) × (swap n last x ≡ x))
unfolding swap
swapped n last x =
    ⊎_elim
    (λ e. inl (eqb-true x n e, ap (λ b. cond b last x) e))
    (λ e. inr (eqb-false x n e, ap (λ b. cond b last x) e))
    (cases_Bool (eqb x n))

pub twice : (n : ℕ) (g : ℕ → ℕ) → ((k : ℕ) → k < n + 1 → g k < n) → (a : ℕ) × (b : ℕ) × (a < b) × (b < n + 1) × (g a ≡ g b)
twice zero g low = absurd (omega (arith, low 0 (omega arith)))
twice (suc n) g low =
    ⊎_elim
    (λ found. (found.0, suc n, omega (arith, found.1), omega arith, found.2))
    (λ none.
    let rest = twice n (λ k. swap n (g (suc n)) (g k)) (λ k k<. below none k k<) in
    (rest.0, rest.1, rest.2, omega (arith, rest.3), same none rest.0 rest.1 (omega (arith, rest.2, rest.3)) (omega (arith, rest.3)) rest.4))
    (look g (g (suc n)) (suc n))
  where
    below : ((k : ℕ) → k < suc n → g k ≡ g (suc n) → ⊥) → (k : ℕ) → k < n + 1 → swap n (g (suc n)) (g k) < n
    below none k k< =
        ⊎_elim
        (λ hit.
        let ne : g (suc n) ≡ n → ⊥ = λ e. none k (omega arith) (hit.0 ∙ sym e) in
        omega (arith, hit.1, low (suc n) (omega arith), ne))
        (λ miss. omega (arith, miss.0, miss.1, low k (omega arith)))
        (swapped n (g (suc n)) (g k))

    same : ((k : ℕ) → k < suc n → g k ≡ g (suc n) → ⊥) → (a b : ℕ) → a < suc n → b < suc n → swap n (g (suc n)) (g a) ≡ swap n (g (suc n)) (g b) → g a ≡ g b
    same none a b a< b< e =
        ⊎_elim
        (λ x. ⊎_elim (λ y. omega (arith, x.0, y.0)) (λ y. absurd (none b b< (omega (arith, x.1, y.1)))) (swapped n (g (suc n)) (g b)))
        (λ x. ⊎_elim (λ y. absurd (none a a< (omega (arith, x.1, y.1)))) (λ y. omega (arith, x.1, y.1)) (swapped n (g (suc n)) (g b)))
        (swapped n (g (suc n)) (g a))
