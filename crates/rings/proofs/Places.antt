-- The order of places, and the steps between them in equations.
use Rattle.std.proofs.Common.{◌≡◌, ◌+◌, ◌≤◌, ◌⊎◌, refl, ◌∙◌, subst, inl, inr, arith}
use mathlib.Core.List.{Memᴰ}
use Rattle.records.specs.declared.place.Place.{Place}
use Rattle.records.specs.Refusal.{Earlier}
use Rattle.letters.specs.declared.letter.Letter.{Letter}
use Rattle.runs.specs.Run.{Run}
use Rattle.rings.specs.Ring.{Step}
use Rattle.letters.specs.Noting.{place as at}

pub place_eq : (p q : Place) → p.machine ≡ q.machine → p.doing ≡ q.doing → p ≡ q
place_eq p q e f = subst (λ z. p ≡ at z q.doing) e (subst (λ z. p ≡ at p.machine z) f refl)

pub earlier_trans : (p q s : Place) → Earlier p q → Earlier q s → Earlier p s
earlier_trans p q s (inl a) (inl b) = inl (omega arith)
earlier_trans p q s (inl a) (inr b) = inl (omega (arith, b.0))
earlier_trans p q s (inr a) (inl b) = inl (omega (arith, a.0))
earlier_trans p q s (inr a) (inr b) = inr (a.0 ∙ b.0, omega (arith, a.1, b.1))

-- a step, in equations
abbrev pub Next : Run → Place → Place → Type 0
Next r p q = (p.machine ≡ q.machine) × (p.doing + 1 ≡ q.doing) × (1 ≤ p.doing) × (p.doing + 1 ≤ r.did p.machine)

abbrev Carries : Place → Place → Letter → Type 0
Carries p q l = (l.from ≡ p.machine) × (l.sent ≡ p.doing) × (l.to ≡ q.machine) × (l.got ≡ q.doing)

pub cases : (r : Run) {p q : Place} → Step r p q → Next r p q ⊎ ((l : Letter) × Memᴰ l r.letters × Carries p q l)
cases r (Step.next {i} {m} a b) = inl (refl, refl, a, b)
cases r (Step.letter l m) = inr (l, m, (refl, refl, refl, refl))

pub by_next : (r : Run) (p q : Place) → Next r p q → Step r p q
by_next r p q x = subst (λ z. Step r p z) (place_eq (at p.machine (p.doing + 1)) q x.0 x.1) (Step.next x.2 x.3)
