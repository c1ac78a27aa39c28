-- Sums over machines: alike at cuts that agree, modular over the lower and the higher of two cuts.
use Rattle.std.proofs.Common.{◌≡◌, ℕ, zero, suc, ◌+◌, ◌<◌, min, max, refl, ap, ◌∙◌, inl, inr, add_comm, add-one, arith}
use Rattle.std.proofs.lemmas.Bool.{cases_eq, cases_lt}
use Rattle.runs.specs.Moment.{Cut}
use Rattle.order.proofs.Sizes.{size}
use Rattle.moments.specs.Cuts.{lower, upper}
use Rattle.moments.specs.Amounts.{Much, sum}

pub sum_alike : (n : ℕ) (w : Much) (c d : Cut) → ((i : ℕ) → i < n → c i ≡ d i) → sum n w c ≡ sum n w d
unfolding sum
sum_alike zero w c d e = omega arith
sum_alike (suc n) w c d e = omega (arith, ap (w n) (e n (omega arith)), sum_alike n w c d (λ i h. e i (omega arith)))

-- amounts that are the same at a cut
pub sum_same : (n : ℕ) (v w : Much) (c : Cut) → ((i : ℕ) → i < n → v i (c i) ≡ w i (c i)) → sum n v c ≡ sum n w c
unfolding sum
sum_same zero v w c e = omega arith
sum_same (suc n) v w c e = omega (arith, e n (omega arith), sum_same n v w c (λ i h. e i (omega arith)))

pub sum_none : (n : ℕ) (c : Cut) → sum n (λ i m. 0) c ≡ 0
unfolding sum
sum_none zero c = omega arith
sum_none (suc n) c = omega (arith, sum_none n c)

-- a sum of 0 is of nothing but 0, and one of nothing but 0 is 0
pub sum_zero : (n : ℕ) (w : Much) (c : Cut) → sum n w c ≡ 0 → (i : ℕ) → i < n → w i (c i) ≡ 0
unfolding sum
sum_zero zero w c z i lt = absurd (omega arith)
sum_zero (suc n) w c z i lt = elim (cases_eq i n) [ inl e ↦ omega (arith, ap (λ (k : ℕ). w k (c k)) e) | inr ne ↦ sum_zero n w c (omega arith) i (omega arith) ]

pub zero_sum : (n : ℕ) (w : Much) (c : Cut) → ((i : ℕ) → i < n → w i (c i) ≡ 0) → sum n w c ≡ 0
unfolding sum
zero_sum zero w c z = omega arith
zero_sum (suc n) w c z = omega (arith, z n (omega arith), zero_sum n w c (λ i h. z i (omega arith)))

one_modular : (f : ℕ → ℕ) (a b : ℕ) → f (min a b) + f (max a b) ≡ f a + f b
one_modular f a b =
    elim (cases_lt a b) [
      | inl h ↦ let e : min a b ≡ a = omega arith in let g : max a b ≡ b = omega arith in omega (arith, ap f e, ap f g)
      | inr h ↦ let e : min a b ≡ b = omega arith in let g : max a b ≡ a = omega arith in omega (arith, ap f e, ap f g)
    ]

pub modular : (n : ℕ) (w : Much) (c d : Cut) → sum n w (lower c d) + sum n w (upper c d) ≡ sum n w c + sum n w d
unfolding sum
modular zero w c d = omega arith
modular (suc n) w c d = omega (arith, one_modular (w n) (c n) (d n), modular n w c d)

-- none, and one machine more, as a program adds it up
pub sum_begin : (w : Much) (c : Cut) → sum 0 w c ≡ 0
unfolding sum
sum_begin w c = refl

pub sum_more : (n : ℕ) (w : Much) (c : Cut) → sum (n + 1) w c ≡ sum n w c + w n (c n)
unfolding sum
sum_more n w c = ap (λ (k : ℕ). sum k w c) (add-one n) ∙ add_comm (w n (c n)) (sum n w c)

-- how many doings are behind a cut, added up as amounts are
pub size_is : (n : ℕ) (c : Cut) → size n c ≡ sum n (λ i m. m) c
unfolding sum size
size_is zero c = refl
size_is (suc n) c = ap (λ (k : ℕ). c n + k) (size_is n c)
