-- Which steps there are between the numbers: to the next number, if it's of the same machine, and by letters.
use Rattle.std.proofs.Common.{◌≡◌, ℕ, ◌+◌, ◌<◌, ◌⊎◌, sym, refl, ap, subst, inl, inr, arith}
use mathlib.Core.List.{Memᴰ}
use native.Mathlib.Decide.{ℕ_discrete}
use Rattle.records.specs.declared.place.Place.{Place}
use Rattle.records.specs.Refusal.{Earlier}
use Rattle.letters.specs.declared.letter.Letter.{Letter}
use Rattle.runs.specs.Run.{Run}
use Rattle.rings.specs.Ring.{Step}
use Rattle.rings.specs.RingSearch.{Done, Flat, Edge}
use Rattle.rings.proofs.Comparing.{le_or_lt}
use Rattle.letters.specs.Noting.{place as at}
use Rattle.rings.proofs.Places.{place_eq, earlier_trans, Next, cases, by_next}

pub not_before_itself : {p q : Place} → Earlier p q → p ≡ q → ⊥
not_before_itself (inl h) e = omega (arith, h, ap (λ z. z.machine) e)
not_before_itself (inr h) e = omega (arith, h.1, ap (λ z. z.doing) e)

module _ (r : Run) (n : ℕ) (place : ℕ → Place) (flat : Flat r n place) where
  -- numbers are in the order of their places
  pub down : (a b : ℕ) → a < n → b < n → Earlier (place a) (place b) → a < b
  down a b h k e =
      elim (le_or_lt b a) [
        | inr l ↦ l
        | inl l ↦
            elim (ℕ_discrete a b) [
              | yes f ↦ absurd (not_before_itself e (ap place f))
              | no ne ↦ absurd (not_before_itself (earlier_trans (place a) (place b) (place a) e (flat.up b a (omega arith) h)) refl)
            ]
      ]

  pub one_number : (a b : ℕ) → a < n → b < n → place a ≡ place b → a ≡ b
  one_number a b h k e =
      elim (ℕ_discrete a b) [
        | yes f ↦ f
        | no ne ↦ elim (le_or_lt a b) [ inl l ↦ absurd (not_before_itself (flat.up a b (omega arith) k) e) | inr l ↦ absurd (not_before_itself (flat.up b a l h) (sym e)) ]
      ]

  -- between a place and the same machine's next there is none
  none_between : (p q x : Place) → p.machine ≡ q.machine → p.doing + 1 ≡ q.doing → Earlier p x → Earlier x q → ⊥
  none_between p q x e f (inl a) (inl b) = omega arith
  none_between p q x e f (inl a) (inr b) = omega (arith, b.0)
  none_between p q x e f (inr a) (inl b) = omega (arith, a.0)
  none_between p q x e f (inr a) (inr b) = omega (arith, a.1, b.1)

  pub next_number : (v w : ℕ) → v < n → w < n → Next r (place v) (place w) → w ≡ v + 1
  next_number v w h k x =
      let l : v < w = down v w h k (inr (x.0, omega (arith, x.1))) in
      elim (ℕ_discrete w (v + 1)) [
        | yes e ↦ e
        | no ne ↦ absurd (none_between (place v) (place w) (place (v + 1)) x.0 x.1 (flat.up v (v + 1) (omega arith) (omega arith)) (flat.up (v + 1) w (omega arith) k))
      ]

  -- each step is to the next number, of the same machine, or by a letter
  pub edge_cases : (v w : ℕ) → Edge r n place v w → ((w ≡ v + 1) × ((place v).machine ≡ (place w).machine)) ⊎ ((l : Letter) × Memᴰ l r.letters × (at l.from l.sent ≡ place v) × (at l.to l.got ≡ place w))
  edge_cases v w (h, k, s) =
      elim (cases r s) [
        | inl x ↦ inl (next_number v w h k x, x.0)
        | inr (l, m, c) ↦ inr (l, m, place_eq (at l.from l.sent) (place v) c.0 c.1, place_eq (at l.to l.got) (place w) c.2 c.3)
      ]

  pub edge_letter : (v w : ℕ) → v < n → w < n → (l : Letter) → Memᴰ l r.letters → at l.from l.sent ≡ place v → at l.to l.got ≡ place w → Edge r n place v w
  edge_letter v w h k l m e f = (h, k, subst (λ z. Step r z (place w)) e (subst (λ z. Step r (at l.from l.sent) z) f (Step.letter l m)))

  pub edge_next : (v : ℕ) → v + 1 < n → (place v).machine ≡ (place (v + 1)).machine → Edge r n place v (v + 1)
  edge_next v h e = (omega arith, h, by_next r (place v) (place (v + 1)) (e, go (flat.up v (v + 1) (omega arith) h), dv.1, omega (arith, dw.2, go (flat.up v (v + 1) (omega arith) h), ap (λ z. r.did z) e)))
    where
      dv : Done r (place v)
      dv = flat.only v (omega arith)

      dw : Done r (place (v + 1))
      dw = flat.only (v + 1) h

      go : Earlier (place v) (place (v + 1)) → (place v).doing + 1 ≡ (place (v + 1)).doing
      go (inl a) = absurd (omega arith)
      go (inr a) =
          elim (ℕ_discrete ((place v).doing + 1) (place (v + 1)).doing) [
            | yes f ↦ f
            | no ne ↦
                let c = flat.all (at (place v).machine ((place v).doing + 1)) (dv.0, omega arith, omega (arith, a.1, dw.2, ap (λ z. r.did z) e)) in
                let i : v < c.0 = down v c.0 (omega arith) c.1 (subst (λ z. Earlier (place v) z) c.2 (inr (refl, omega arith))) in
                let j : c.0 < v + 1 = down c.0 (v + 1) c.1 h (subst (λ z. Earlier z (place (v + 1))) c.2 (inr (e, omega (arith, a.1)))) in
                absurd (omega arith)
          ]
