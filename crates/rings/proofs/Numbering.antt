-- How a program comes by the numbers of the places: it pushes them, machine by machine, doing by doing.
use Rattle.std.proofs.Common.{◌≡◌, ℕ, zero, suc, ◌+◌, ◌<◌, ◌≤◌, ◌⊎◌, sym, refl, ap, ◌∙◌, subst, inl, inr, arith}
use native.Mathlib.Decide.{ℕ_discrete}
use Rattle.records.specs.declared.place.Place.{Place}
use Rattle.records.specs.Refusal.{Earlier}
use Rattle.runs.specs.Run.{Run}
use Rattle.rings.specs.RingSearch.{Done, Flat, UpTo, Filled}
use Rattle.rings.proofs.Comparing.{le_or_lt}
use Rattle.letters.specs.Noting.{place as at}
use Rattle.rings.proofs.Places.{place_eq}

pub filled_none : (r : Run) (place : ℕ → Place) → Filled r place 0 0 0
filled_none r place =
    record {
      up = λ a b h k. absurd (omega arith);
      only = λ a h. absurd (omega arith);
      within = λ a h. absurd (omega arith);
      all = λ p d u. elim u [ inl h ↦ absurd (omega arith) | inr h ↦ absurd (omega (arith, h.1, d.1)) ];
    }

-- one more place, after those that there are
after : (i m : ℕ) (p : Place) → UpTo i m p → Earlier p (at i (m + 1))
after i m p (inl h) = inl h
after i m p (inr h) = inr (h.0, omega (arith, h.1))

pub filled_push : (r : Run) (f g : ℕ → Place) (size i m : ℕ) → Filled r f size i m → i < r.count → m + 1 ≤ r.did i → ((a : ℕ) → a < size → g a ≡ f a) → g size ≡ at i (m + 1) → Filled r g (size + 1) i (m + 1)
filled_push r f g size i m x in? did? same here =
    record {
      up = λ a b h k. elim (ℕ_discrete b size) [
        | no ne ↦ subst (λ z. Earlier z (g b)) (sym (same a (omega arith))) (subst (λ z. Earlier (f a) z) (sym (same b (omega arith))) (x.up a b h (omega arith)))
        | yes e ↦ subst (λ z. Earlier z (g b)) (sym (same a (omega arith))) (subst (λ z. Earlier (f a) z) (sym (ap g e ∙ here)) (after i m (f a) (x.within a (omega arith))))
      ];
      only = λ a h. elim (ℕ_discrete a size) [
        | no ne ↦ subst (λ z. Done r z) (sym (same a (omega arith))) (x.only a (omega arith))
        | yes e ↦ subst (λ z. Done r z) (sym (ap g e ∙ here)) (in?, omega arith, did?)
      ];
      within = λ a h. elim (ℕ_discrete a size) [
        | no ne ↦ subst (λ z. UpTo i (m + 1) z) (sym (same a (omega arith))) (elim (x.within a (omega arith)) [ inl y ↦ inl y | inr y ↦ inr (y.0, omega (arith, y.1)) ])
        | yes e ↦ subst (λ z. UpTo i (m + 1) z) (sym (ap g e ∙ here)) (inr (refl, omega arith))
      ];
      all = λ p d u. elim u [
        | inl h ↦ old p d (inl h)
        | inr h ↦
            elim (le_or_lt p.doing m) [
              | inl k ↦ old p d (inr (h.0, k))
              | inr k ↦ (size, omega arith, place_eq p (at i (m + 1)) h.0 (omega (arith, h.1)) ∙ sym here)
            ]
      ];
    }
  where
    old : (p : Place) → Done r p → UpTo i m p → (a : ℕ) × (a < size + 1) × (p ≡ g a)
    old p d u = let z = x.all p d u in (z.0, omega (arith, z.1), z.2 ∙ sym (same z.0 z.1))

-- on to the next machine
pub filled_machine : (r : Run) (f : ℕ → Place) (size i m : ℕ) → Filled r f size i m → r.did i ≤ m → Filled r f size (i + 1) 0
filled_machine r f size i m x h =
    record {
      up = x.up;
      only = x.only;
      within = λ a k. elim (x.within a k) [ inl y ↦ inl (omega arith) | inr y ↦ inl (omega (arith, y.0)) ];
      all = λ p d u. elim u [
        | inr y ↦ absurd (omega (arith, y.1, d.1))
        | inl y ↦ elim (ℕ_discrete p.machine i) [ yes e ↦ x.all p d (inr (e, under p d e)) | no ne ↦ x.all p d (inl (omega arith)) ]
      ];
    }
  where
    under : (p : Place) → Done r p → p.machine ≡ i → p.doing ≤ m
    under p d e = omega (arith, d.2, ap (λ z. r.did z) e)

pub filled_flat : (r : Run) (f : ℕ → Place) (size i : ℕ) → Filled r f size i 0 → r.count ≤ i → Flat r size f
filled_flat r f size i x h = record { up = x.up; only = x.only; all = λ p d. x.all p d (inl (omega (arith, d.0))) }

-- so each run has such numbers
pick : {P : Type 0} → Dec P → Place → Place → Place
pick (yes e) a b = a
pick (no ne) a b = b

put : (ℕ → Place) → ℕ → Place → ℕ → Place
put f i v j = pick (ℕ_discrete j i) v (f j)

puts : (f : ℕ → Place) (i : ℕ) (v : Place) (j : ℕ) → ((j ≡ i) × (put f i v j ≡ v)) ⊎ ((j ≡ i → ⊥) × (put f i v j ≡ f j))
unfolding put pick
puts f i v j = go (ℕ_discrete j i)
  where
    go : (d : Dec (j ≡ i)) → ((j ≡ i) × (pick d v (f j) ≡ v)) ⊎ ((j ≡ i → ⊥) × (pick d v (f j) ≡ f j))
    go (yes e) = inl (e, refl)
    go (no ne) = inr (ne, refl)

fill : (r : Run) (f : ℕ → Place) (size i : ℕ) → Filled r f size i 0 → i < r.count → (m : ℕ) → m ≤ r.did i → (g : ℕ → Place) × (n : ℕ) × Filled r g n i m
fill r f size i x k zero h = (f, size, x)
fill r f size i x k (suc m) h =
    let z = fill r f size i x k m (omega arith) in
    let g = put z.0 z.1 (at i (m + 1)) in
    let e : m + 1 ≡ suc m = omega arith in (
      g,
      z.1 + 1,
      subst (λ y. Filled r g (z.1 + 1) i y) e
          (filled_push r z.0 g z.1 i m z.2 k (omega arith)
          (λ a h. elim (puts z.0 z.1 (at i (m + 1)) a) [ inl y ↦ absurd (omega (arith, y.0)) | inr y ↦ y.1 ])
          (elim (puts z.0 z.1 (at i (m + 1)) z.1) [ inl y ↦ y.1 | inr y ↦ absurd (y.0 refl) ])),
    )

fills : (r : Run) (k : ℕ) → k ≤ r.count → (g : ℕ → Place) × (n : ℕ) × Filled r g n k 0
fills r zero h = (λ a. at 0 0, 0, filled_none r (λ a. at 0 0))
fills r (suc k) h =
    let z = fills r k (omega arith) in
    let y = fill r z.0 z.1 k z.2 (omega arith) (r.did k) (omega arith) in
    let e : k + 1 ≡ suc k = omega arith in
    (y.0, y.1, subst (λ x. Filled r y.0 y.1 x 0) e (filled_machine r y.0 y.1 k (r.did k) y.2 (omega arith)))

pub numbered : (r : Run) → (g : ℕ → Place) × (n : ℕ) × Flat r n g
numbered r = let z = fills r r.count (omega arith) in (z.0, z.1, filled_flat r z.0 z.1 r.count z.2 (omega arith))
