-- Amounts, added up in order of machines.
use Rattle.std.proofs.Common.{◌≡◌, ℕ, zero, suc, ◌+◌, [], refl, ap, arith}
use Rattle.std.specs.List.{range_with_len, sum_by}
use Rattle.std.proofs.lemmas.List.Sums.{sum_by-cons}
use Rattle.runs.specs.Moment.{Cut}
use Rattle.moments.specs.Amounts.{Much, sum}

one_more : (h : ℕ → ℕ) (n a : ℕ) → sum_by h (range_with_len a (suc n)) ≡ sum_by h (range_with_len a n) + h (a + n)
one_more h zero a = let e : a + 0 ≡ a = omega arith in omega (arith, sum_by-cons h a [], ap h e)
one_more h (suc n) a =
    let e : a + 1 + n ≡ a + suc n = omega arith in
    omega (arith, sum_by-cons h a (range_with_len (a + 1) (suc n)), one_more h n (a + 1), sum_by-cons h a (range_with_len (a + 1) n), ap h e)

pub total_listed : (n : ℕ) (w : Much) (c : Cut) → sum_by (λ i. w i (c i)) (range_with_len 0 n) ≡ sum n w c
unfolding sum
total_listed zero w c = refl
total_listed (suc n) w c =
    let e : 0 + n ≡ n = omega arith in
    omega (arith, one_more (λ i. w i (c i)) n 0, total_listed n w c, ap (λ (i : ℕ). w i (c i)) e)
