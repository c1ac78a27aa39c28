-- Where no machine can go on and one isn't at its end, some doing comes before itself.
use Rattle.std.proofs.Common.{◌≡◌, ℕ, zero, suc, ◌+◌, ◌<◌, Some, None, Option, sym, refl, subst, inl, inr, ⊎_elim, arith}
use Rattle.std.proofs.lemmas.Bool.{cases_lt, cases_eq}
use Rattle.records.specs.declared.place.Place.{Place}
use Rattle.runs.specs.Run.{Run, Before, letter, through}
use Rattle.runs.specs.Moment.{Cut}
use Rattle.order.specs.Steps.{UpTo}
use Rattle.runs.proofs.Linked.{Linked, Sending}
use Rattle.order.specs.Steps.{Ready, Waits}
use Rattle.order.proofs.Behind.{upto_own}
use Rattle.order.proofs.Pigeonhole.{twice}

module _ (r : Run) (sending : Sending) (c : Cut) (linked : Linked r sending) (waits : (j : ℕ) → j < r.count → Waits r sending c j) where
  -- a machine that isn't at its end waits for one that isn't either
  waits_for : (j : ℕ) → j < r.count → c j < r.did j → (o : Option Place) → sending j (c j + 1) ≡ o → (f : ℕ) × (f < r.count) × (c f < r.did f) × Before r f (c f + 1) j (c j + 1)
  waits_for j j< more None is = absurd (let P : Option Place → Type 0 = λ k. Ready k c in waits j j< more (subst P (sym is) tt))
  waits_for j j< more (Some p) is =
      let P : Option Place → Type 0 = λ k. Ready k c in
      let f = p.machine in
      let mem = linked.sent p j (c j + 1) j< (omega arith) (omega arith) is in
      let parts = linked.range _ mem in
      let late : c f < p.doing = ⊎_elim (λ lt. lt) (λ ge. absurd (waits j j< more (subst P (sym is) ge))) (cases_lt (c f) p.doing) in
      (f, parts.0, omega (arith, parts.3), strictly (upto_own (c f + 1) p.doing (omega arith) (omega arith) parts.3) (letter _ mem))
    where
      strictly : {a x i k b y : ℕ} → UpTo r a x i k → Before r i k b y → Before r a x b y
      strictly {a} {x} {i} {k} {b} {y} (inl (e, g)) q = subst (λ z. Before r z x b y) (sym e) (subst (λ z. Before r i z b y) (sym g) q)
      strictly {a} {x} {i} {k} {b} {y} (inr p) q = through i k p q

  walk : (j : ℕ) → j < r.count → c j < r.did j → ℕ → (f : ℕ) × (f < r.count) × (c f < r.did f)
  walk j j< more zero = (j, j<, more)
  walk j j< more (suc n) =
      let here = walk j j< more n in
      let on = waits_for here.0 here.1 here.2 (sending here.0 (c here.0 + 1)) refl in
      (on.0, on.1, on.2)

  walk_step : (j : ℕ) (j< : j < r.count) (more : c j < r.did j) (k : ℕ) → Before r (walk j j< more (suc k)).0 (c (walk j j< more (suc k)).0 + 1) (walk j j< more k).0 (c (walk j j< more k).0 + 1)
  unfolding walk
  walk_step j j< more k =
      let here = walk j j< more k in
      (waits_for here.0 here.1 here.2 (sending here.0 (c here.0 + 1)) refl).3

  walk_steps : (j : ℕ) (j< : j < r.count) (more : c j < r.did j) (a b : ℕ) → a < b → Before r (walk j j< more b).0 (c (walk j j< more b).0 + 1) (walk j j< more a).0 (c (walk j j< more a).0 + 1)
  walk_steps j j< more a zero lt = absurd (omega arith)
  walk_steps j j< more a (suc b) lt =
      ⊎_elim
      (λ e. subst (λ x. Before r (walk j j< more (suc b)).0 (c (walk j j< more (suc b)).0 + 1) (walk j j< more x).0 (c (walk j j< more x).0 + 1)) (sym e) (walk_step j j< more b))
      (λ ne. through _ _ (walk_step j j< more b) (walk_steps j j< more a b (omega arith)))
      (cases_eq a b)

  -- so some doing comes before itself
  pub ring : (j : ℕ) → j < r.count → c j < r.did j → (i : ℕ) × (m : ℕ) × Before r i m i m
  ring j j< more =
      let g : ℕ → ℕ = λ k. (walk j j< more k).0 in
      let two = twice r.count g (λ k k<. (walk j j< more k).1) in
      let x = g two.1 in
      (x, c x + 1, subst (λ y. Before r x (c x + 1) y (c y + 1)) two.4 (walk_steps j j< more two.0 two.1 two.2))
