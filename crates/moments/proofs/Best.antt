-- The best of all moments in an order, by going through all cuts: it shows that there is one.
use Rattle.std.proofs.Common.{◌≡◌, ℕ, zero, suc, ◌<◌, ◌≤◌, ◌⊎◌, sym, refl, ◌∙◌, subst, inl, inr, arith}
use Rattle.std.proofs.lemmas.Bool.{cases_eq, cases_lt}
use Rattle.runs.specs.Run.{Run, Done}
use Rattle.runs.specs.Moment.{Cut, Moment}
use Rattle.moments.specs.Cuts.{Alike, nothing}
use Rattle.moments.proofs.Decided.{each_below, each_in}
use Rattle.moments.proofs.Put.{put, puts}
use Rattle.moments.proofs.Laws.{moment_first, moment_alike}
use Rattle.moments.proofs.GoingOn.{Kept, Broken, kept_or_broken}

-- one no worse than one at hand, and than all of each of n classes
sweep :
    (A : Type 0) (B : A → A → Type 0) → ((a : A) → B a a) → ((a b c : A) → B a b → B b c → B a c) →
    (K : ℕ → A → Type 0) → ((v : ℕ) (a : A) → (b : A) × B b a × ((d : A) → K v d → B b d)) →
    (n : ℕ) (a : A) → (b : A) × B b a × ((v : ℕ) → v < n → (d : A) → K v d → B b d)
sweep A B same trans K each zero a = (a, same a, λ v h. absurd (omega arith))
sweep A B same trans K each (suc n) a =
    let x = sweep A B same trans K each n a in
    let y = each n x.0 in (
      y.0,
      trans y.0 x.0 a y.1 x.1,
      λ v h d k. elim (cases_eq v n) [
        | inl e ↦ y.2 d (subst (λ z. K z d) e k)
        | inr ne ↦ trans y.0 x.0 d y.1 (x.2 v (omega arith) d k)
      ],
    )

-- a cut is a moment, or not
pub moment_or_not : (r : Run) (c : Cut) → Moment r c ⊎ (Moment r c → ⊥)
moment_or_not r c =
    elim (each_below (λ i. c i ≤ r.did i) (λ i. r.did i < c i) r.count (λ i lt. elim (cases_lt (r.did i) (c i)) [ inl h ↦ inr h | inr h ↦ inl h ])) [
      | inr (i, lt, h) ↦ inr (λ m. omega (arith, m.inside i lt))
      | inl inside ↦
          elim (each_in (Kept c) (Broken c) (kept_or_broken c) r.letters) [
            | inl all ↦ inl (record { inside = inside; closed = all })
            | inr (l, mem, b) ↦ inr (λ m. omega (arith, m.closed l mem b.0, b.1))
          ]
    ]

module _ (r : Run) (done : Done r) (B : Cut → Cut → Type 0) (either : (c d : Cut) → B c d ⊎ B d c) (trans : (a b c : Cut) → B a b → B b c → B a c) (alike : (c d : Cut) → Alike r c d → B c d) where
  abbrev At : Type 0
  At = (c : Cut) × Moment r c

  -- the best of those that are as base is from n on
  bests : (n : ℕ) → n ≤ r.count → (base : Cut) (a : At) → (b : At) × B b.0 a.0 × ((d : At) → ((i : ℕ) → n ≤ i → i < r.count → base i ≡ d.0 i) → B b.0 d.0)
  bests zero h base a =
      elim (moment_or_not r base) [
        | inr bad ↦ (a, alike a.0 a.0 (λ i k. refl), λ d e. absurd (bad (moment_alike done d.0 base (λ i k. sym (e i (omega arith) k)) d.1)))
        | inl mb ↦
            elim (either base a.0) [
              | inl f ↦ ((base, mb), f, λ d e. alike base d.0 (λ i k. e i (omega arith) k))
              | inr f ↦ (a, alike a.0 a.0 (λ i k. refl), λ d e. trans a.0 base d.0 f (alike base d.0 (λ i k. e i (omega arith) k)))
            ]
      ]
  bests (suc n) h base a =
      let z = sweep At (λ x y. B x.0 y.0) (λ x. alike x.0 x.0 (λ i k. refl)) (λ x y z. trans x.0 y.0 z.0)
      (λ v d. (i : ℕ) → n ≤ i → i < r.count → put base n v i ≡ d.0 i) (λ v x. bests n (omega arith) (put base n v) x) (suc (r.did n)) a in (
        z.0,
        z.1,
        λ d e. z.2 (d.0 n) (omega (arith, d.1.inside n (omega arith))) d
            (λ i o k. elim (puts base n (d.0 n) i) [ inl q ↦ grind (arith, q.0, q.1) | inr q ↦ q.1 ∙ e i (omega (arith, q.0)) k ]),
      )

  pub best : (c : Cut) × Moment r c × ((d : Cut) → Moment r d → B c d)
  best =
      let z = bests r.count (omega arith) nothing (nothing, moment_first done) in
      (z.0.0, z.0.1, λ d md. z.2 (d, md) (λ i a b. absurd (omega arith)))
