-- The least and the most that there was of something, and the first moment of all yes, which has the fewest noes.
use Rattle.std.proofs.Common.{◌≡◌, ℕ, ◌+◌, ◌<◌, ◌≤◌, cond, ◌⊎◌, sym, ◌∙◌, inl, inr, arith}
use Rattle.std.proofs.lemmas.Bool.{cases_eq, cases_lt, cases_Bool, cond-true, cond-false}
use Rattle.runs.specs.Run.{Run, Done}
use Rattle.runs.specs.Moment.{Cut, Moment}
use Rattle.order.proofs.Sizes.{size, size_le, size_tight}
use Rattle.moments.specs.Cuts.{Below, lower, upper}
use Rattle.moments.specs.Signs.{Says, AllSay, MayDecided}
use Rattle.moments.specs.Amounts.{Much, total, LeastFound, MostFound}
use Rattle.moments.proofs.Laws.{lattice}
use Rattle.moments.proofs.Totals.{sum_alike, sum_none, sum_zero, zero_sum, modular}
use Rattle.moments.proofs.Best.{best}

-- the difference of two amounts is less, or as much with no more doings; a, b and z are the one amount, the other and the size
abbrev Less : (a b z p q y : ℕ) → Type 0
Less a b z p q y = (a + q < p + b) ⊎ ((a + q ≡ p + b) × (z ≤ y))

less_either : (a b z p q y : ℕ) → Less a b z p q y ⊎ Less p q y a b z
less_either a b z p q y = grind (arith, cases_lt (a + q) (p + b), cases_lt (p + b) (a + q), cases_lt z y)

less_trans : (a b z p q y u v x : ℕ) → Less a b z p q y → Less p q y u v x → Less a b z u v x
less_trans a b z p q y u v x (inl h) (inl k) = inl (omega arith)
less_trans a b z p q y u v x (inl h) (inr k) = inl (omega arith)
less_trans a b z p q y u v x (inr h) (inl k) = inl (omega arith)
less_trans a b z p q y u v x (inr h) (inr k) = inr (omega arith, omega arith)

module _ (r : Run) (done : Done r) (v w : Much) where
  abbrev Ahead : Cut → Cut → Type 0
  Ahead c d = Less (total r v c) (total r w c) (size r.count c) (total r v d) (total r w d) (size r.count d)

  ahead : (c : Cut) × Moment r c × ((d : Cut) → Moment r d → Ahead c d)
  ahead =
      best r done Ahead (λ c d. less_either _ _ _ _ _ _) (λ a b c. less_trans _ _ _ _ _ _ _ _ _)
      (λ c d e. inr (omega (arith, sum_alike r.count v c d e, sum_alike r.count w c d e), size_le r.count c d (λ i lt. omega (arith, e i lt))))

  -- of those that are as good, it is the lowest
  lowest : (c d : Cut) → Ahead c (lower c d) → Ahead c (upper c d) → total r v c + total r w d ≡ total r v d + total r w c → Below r c d
  lowest c d (inl h) up e = absurd (omega (arith, modular r.count v c d, modular r.count w c d))
  lowest c d (inr h) up e = λ i k. omega (arith, size_tight r.count (lower c d) c (λ j q. omega arith) h.1 i k)

  -- where the difference of the two is least, at the lowest of the moments that have it
  extent : (c : Cut) × Moment r c × ((d : Cut) → Moment r d → (total r v c + total r w d ≤ total r v d + total r w c) × (total r v c + total r w d ≡ total r v d + total r w c → Below r c d))
  extent =
      let z = ahead in (
        z.0,
        z.1,
        λ d md. (
          grind (arith, z.2 d md),
          lowest z.0 d (z.2 (lower z.0 d) (lattice r z.0 d z.1 md).0) (z.2 (upper z.0 d) (lattice r z.0 d z.1 md).1),
        ),
      )

pub least_found : LeastFound
least_found r done w =
    let z = extent r done w (λ i m. 0) in
    let none = sum_none r.count in (
      z.0,
      record {
        moment = z.1;
        least = λ d md. omega (arith, (z.2 d md).0, none z.0, none d);
        lowest = λ d md e. (z.2 d md).1 (omega (arith, none z.0, none d));
      },
    )

pub most_found : MostFound
most_found r done w =
    let z = extent r done (λ i m. 0) w in
    let none = sum_none r.count in (
      z.0,
      record {
        moment = z.1;
        most = λ d md. omega (arith, (z.2 d md).0, none z.0, none d);
        lowest = λ d md e. (z.2 d md).1 (omega (arith, none z.0, none d));
      },
    )

-- 1 for each no: none of them where all say yes
noes : Says → Much
noes s i m = cond (s i m) 0 1

no_noes : (r : Run) (s : Says) (c : Cut) → AllSay r s c → total r (noes s) c ≡ 0
unfolding noes
no_noes r s c all = zero_sum r.count (noes s) c (λ i lt. cond-true {A = ℕ} (s i (c i)) 0 1 (all i lt))

all_say : (r : Run) (s : Says) (c : Cut) → total r (noes s) c ≡ 0 → AllSay r s c
unfolding noes
all_say r s c z i lt =
    elim (cases_Bool (s i (c i))) [
      | inl e ↦ e
      | inr e ↦ absurd (omega (arith, sum_zero r.count (noes s) c z i lt, cond-false {A = ℕ} (s i (c i)) 0 1 e))
    ]

pub may_decided : MayDecided
may_decided r done s =
    let z = least_found r done (noes s) in
    elim (cases_eq (total r (noes s) z.0) 0) [
      | inl e ↦ inl (z.0, (z.1.moment, all_say r s z.0 e, λ d md all. z.1.lowest d md (no_noes r s d all ∙ sym e)))
      | inr ne ↦ inr (λ may. ne (omega (arith, z.1.least may.0 may.1, no_noes r s may.0 may.2)))
    ]
