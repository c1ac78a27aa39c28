-- One turn more.
use Rattle.std.proofs.Common.{◌≡◌, ℕ, ◌+◌, ◌<◌, ◌≤◌, cond, eqb, List, [], ◌∷◌, ◌++◌, length, take, sym, ap, ◌∙◌, subst, ⊎_elim, arith}
use lib.ListN.{get_or-append}
use Rattle.std.proofs.lemmas.List.{length_push, get_or_push, take_all, take-append-le}
use Rattle.std.proofs.lemmas.Bool.{cases_eq, cases_lt, cond-true, cond-false, eq-eqb, ne_eqb}
use Rattle.runs.specs.Run.{Run}
use Rattle.runs.specs.Moment.{Cut, Moment}
use Rattle.order.specs.Turns.{turns_of, InTurn}
use Rattle.order.specs.Steps.{LedTo}

turns_push : (js : List ℕ) (j i : ℕ) → turns_of (js ++ j ∷ []) i ≡ turns_of js i + cond (eqb i j) 1 0
turns_push [] j i = omega arith
turns_push (k ∷ js) j i = omega (arith, turns_push js j i)

moment_same : {r : Run} (c d : Cut) → ((i : ℕ) → d i ≡ c i) → Moment r c → Moment r d
moment_same c d same m = record {
  inside = λ i i<. omega (arith, same i, m.inside i i<);
  closed = λ l mem got. omega (arith, same l.from, m.closed l mem (omega (arith, same l.to)));
}

-- before any turn
pub turns_none : {r : Run} (js : List ℕ) (c : Cut) → js ≡ [] → ((i : ℕ) → c i ≡ 0) → Moment r c → LedTo r js c
turns_none {r} js c none zeros m = subst (λ (x : List ℕ). LedTo r x c) (sym none) (
  record { machines = λ n lt. absurd (omega arith); moments = λ n le. moment_same c (turns_of (take n [])) (λ i. ap (λ (x : List ℕ). turns_of x i) (take_all n [] (omega arith)) ∙ sym (zeros i)) m },
  λ i. sym (zeros i),
)

-- the cut after a turn of j
turns_on : (js : List ℕ) (j : ℕ) (c d : Cut) → ((i : ℕ) → turns_of js i ≡ c i) → d j ≡ c j + 1 → ((k : ℕ) → (k ≡ j → ⊥) → d k ≡ c k) → (i : ℕ) → turns_of (js ++ j ∷ []) i ≡ d i
turns_on js j c d so_far one others i =
    ⊎_elim
    (λ e. omega (arith, turns_push js j i, cond-true {A = ℕ} (eqb i j) 1 0 (eq-eqb i j e), so_far i, one, ap c e, ap d e))
    (λ ne. omega (arith, turns_push js j i, cond-false {A = ℕ} (eqb i j) 1 0 (ne_eqb i j ne), so_far i, others i ne))
    (cases_eq i j)

turns_in : {r : Run} (js : List ℕ) (j : ℕ) (d : Cut) → InTurn r js → j < r.count → ((i : ℕ) → turns_of (js ++ j ∷ []) i ≡ d i) → Moment r d → InTurn r (js ++ j ∷ [])
turns_in {r} js j d so_far j< at m = record {
  machines = λ n lt. ⊎_elim
      (λ (old : n < length js). omega (arith, get_or-append js (j ∷ []) 0 n old, so_far.machines n old))
      (λ (new : length js ≤ n). omega (arith, get_or_push js j 0 n (omega (arith, lt, length_push js j))))
      (cases_lt n (length js));
  moments = λ n le. ⊎_elim
      (λ (new : length js < n). moment_same d (turns_of (take n (js ++ j ∷ []))) (λ i. ap (λ (x : List ℕ). turns_of x i) (take_all n (js ++ j ∷ []) (omega (arith, length_push js j))) ∙ at i) m)
      (λ (old : n ≤ length js). subst (λ (x : List ℕ). Moment r (turns_of x)) (sym (take-append-le n js (j ∷ []) old)) (so_far.moments n old))
      (cases_lt (length js) n);
}

pub turns_more : {r : Run} (js ks : List ℕ) (j : ℕ) (c d : Cut) → LedTo r js c → ks ≡ js ++ j ∷ [] → j < r.count → d j ≡ c j + 1 → ((k : ℕ) → (k ≡ j → ⊥) → d k ≡ c k) → Moment r d → LedTo r ks d
turns_more {r} js ks j c d led on j< one others m =
    let at = turns_on js j c d led.1 one others in
    subst (λ (x : List ℕ). LedTo r x d) (sym on) (turns_in js j d led.0 j< at m, at)
