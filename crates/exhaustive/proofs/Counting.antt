-- How many cuts are so, one after the other.
use Rattle.std.proofs.Common.{◌≡◌, ℕ, ◌+◌, ◌<◌, ◌⊎◌, sym, ap, ◌∙◌, subst, inl, inr, arith}
use Rattle.std.proofs.lemmas.Bool.{cases_eq, cases_order}
use Rattle.runs.specs.Run.{Run}
use Rattle.runs.specs.Moment.{Cut, Moment}
use Rattle.order.proofs.Pigeonhole.{twice}
use Rattle.moments.specs.Cuts.{Alike, nothing}
use Rattle.moments.proofs.Put.{put, put_here, put_else, choose}
use Rattle.exhaustive.specs.HowMany.{HowMany, OneNumber}

pub how_many_none : (r : Run) (P : Cut → Type 0) → ((c : Cut) → P c → ⊥) → HowMany r P 0
how_many_none r P none = record { at = λ k. nothing; each = λ k lt. absurd (omega arith); once = λ a b ab lt. absurd (omega arith); all = λ c p. absurd (none c p) }

-- the same cuts, said otherwise
pub how_many_same : (r : Run) (P Q : Cut → Type 0) (n : ℕ) → ((c : Cut) → P c → Q c) → ((c : Cut) → Q c → P c) → HowMany r P n → HowMany r Q n
how_many_same r P Q n to from many = record { at = many.at; each = λ k lt. to (many.at k) (many.each k lt); once = many.once; all = λ c q. many.all c (from c q) }

-- and one more, which was not among them
pub how_many_more :
    (r : Run) (P Q : Cut → Type 0) (n : ℕ) (c : Cut) → Q c → ((d : Cut) → P d → Q d) → ((d : Cut) → Q d → P d ⊎ Alike r c d) → ((d : Cut) → P d → Alike r d c → ⊥) →
    HowMany r P n → HowMany r Q (n + 1)
how_many_more r P Q n c new to from apart many = record { at = at; each = each; once = once; all = all }
  where
    at : ℕ → Cut
    at = put many.at n c

    old : (k : ℕ) → k < n → at k ≡ many.at k
    old k lt = put_else many.at n c k (λ e. omega (arith, e))

    last : at n ≡ c
    last = put_here many.at n c

    each : (k : ℕ) → k < n + 1 → Q (at k)
    each k lt =
        elim (cases_eq k n) [
          | inl e ↦ subst Q (sym (ap at e ∙ last)) new
          | inr ne ↦ let h : k < n = omega arith in subst Q (sym (old k h)) (to (many.at k) (many.each k h))
        ]

    once : (a b : ℕ) → a < b → b < n + 1 → Alike r (at a) (at b) → ⊥
    once a b ab lt same =
        let ha : a < n = omega arith in
        elim (cases_eq b n) [
          | inl e ↦ apart (many.at a) (many.each a ha) (subst (λ x. Alike r x c) (old a ha) (subst (λ x. Alike r (at a) x) (ap at e ∙ last) same))
          | inr ne ↦
              let hb : b < n = omega arith in
              many.once a b ab hb (subst (λ x. Alike r x (many.at b)) (old a ha) (subst (λ x. Alike r (at a) x) (old b hb) same))
        ]

    all : (d : Cut) → Q d → (k : ℕ) × (k < n + 1) × Alike r (at k) d
    all d q =
        elim (from d q) [
          | inr same ↦ (n, omega arith, subst (λ x. Alike r x d) (sym last) same)
          | inl p ↦
              let x = many.all d p in
              (x.0, omega (arith, x.1), subst (λ z. Alike r z d) (sym (old x.0 x.1)) x.2)
        ]

-- of two numberings one can't have more: two of its cuts would be alike one of the other's
no_more : (r : Run) (P : Cut → Type 0) (m n : ℕ) → m < n → HowMany r P m → HowMany r P n → ⊥
no_more r P m n lt few many =
    -- where each of the many stands among the few
    let place = choose (λ k p. (p < m) × Alike r (few.at p) (many.at k)) n (λ k h. let x = few.all (many.at k) (many.each k h) in (x.0, (x.1, x.2))) in
    let two = twice m place.0 (λ k h. (place.1 k (omega arith)).0) in
    let a = two.0 in
    let b = two.1 in
    let ha : a < n = omega (arith, two.2, two.3) in
    let hb : b < n = omega (arith, two.3) in
    many.once a b two.2 hb (λ i h. sym ((place.1 a ha).1 i h) ∙ ap (λ (k : ℕ). few.at k i) two.4 ∙ (place.1 b hb).1 i h)

pub one_number : OneNumber
one_number r m n a b =
    elim (cases_order m n) [
      | inl e ↦ e
      | inr (inl lt) ↦ absurd (no_more r (Moment r) m n lt a b)
      | inr (inr gt) ↦ absurd (no_more r (Moment r) n m gt b a)
    ]
