-- How many doings are behind a cut, all machines together.
use Rattle.std.proofs.Common.{◌≡◌, ℕ, zero, suc, ◌+◌, ◌*◌, ◌<◌, ◌≤◌, ap, ⊎_elim, suc-mul, arith}
use Rattle.std.proofs.lemmas.Bool.{cases_eq, cases_lt}
use Rattle.runs.specs.Moment.{Cut}

unfoldable pub size : ℕ → Cut → ℕ
size zero c = 0
size (suc n) c = c n + size n c

pub size_le : (n : ℕ) (c d : Cut) → ((k : ℕ) → k < n → c k ≤ d k) → size n c ≤ size n d
unfolding size
size_le zero c d le = omega arith
size_le (suc n) c d le = omega (arith, le n (omega arith), size_le n c d (λ k h. le k (omega arith)))

pub size_less : (n : ℕ) (c d : Cut) (i : ℕ) → ((k : ℕ) → k < n → c k ≤ d k) → i < n → c i < d i → size n c < size n d
unfolding size
size_less zero c d i le i< lt = absurd (omega arith)
size_less (suc n) c d i le i< lt =
    ⊎_elim
    (λ e. omega (arith, ap c e, ap d e, size_le n c d (λ k h. le k (omega arith))))
    (λ ne. omega (arith, le n (omega arith), size_less n c d i (λ k h. le k (omega arith)) (omega arith) lt))
    (cases_eq i n)

-- one machine has gone on by one
pub size_on : (n : ℕ) (c d : Cut) (i : ℕ) → i < n → d i ≡ c i + 1 → ((k : ℕ) → (k ≡ i → ⊥) → d k ≡ c k) → size n c < size n d
size_on n c d i i< one rest =
    size_less n c d i (λ k k<. ⊎_elim (λ e. omega (arith, ap c e, ap d e)) (λ ne. omega (arith, rest k ne)) (cases_eq k i)) i< (omega arith)

-- a cut below another that has no fewer doings behind it is the other
pub size_tight : (n : ℕ) (c d : Cut) → ((k : ℕ) → k < n → c k ≤ d k) → size n d ≤ size n c → (i : ℕ) → i < n → d i ≤ c i
size_tight n c d le few i i< = ⊎_elim (λ lt. absurd (omega (arith, size_less n c d i le i< lt))) (λ ge. ge) (cases_lt (c i) (d i))

-- so many of each machine at most
pub size_most : (n most : ℕ) (c : Cut) → ((k : ℕ) → k < n → c k ≤ most) → size n c ≤ n * most
unfolding size
size_most zero most c few = omega arith
size_most (suc n) most c few = omega (arith, few n (omega arith), size_most n most c (λ k h. few k (omega arith)), suc-mul n most)
