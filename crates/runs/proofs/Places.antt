-- No two states stand at one place, and a count is set for one machine only.
use Rattle.std.proofs.Common.{◌≡◌, ℕ, ◌<◌, ◌≤◌, List, get_or, set, ap, ◌∙◌, ⊎_elim, arith}
use Rattle.std.proofs.lemmas.List.{get_or-set_same, get_or-set_other}
use Rattle.std.proofs.lemmas.Bool.{cases_lt, cases_eq}
use Rattle.runs.specs.declared.counts.Counts.{Counts}
use Rattle.runs.specs.Shape.{Apart, index}
use Rattle.runs.specs.Model.{counts_of}

-- two states at one place are one machine's after as many doings
pub same_index : (count : ℕ) (did starts : Counts) → Apart count did starts → (i m j o : ℕ) → i < count → j < count → m ≤ get_or did.of i 0 → o ≤ get_or did.of j 0 → index starts i m ≡ index starts j o → (i ≡ j) × (m ≡ o)
same_index count did starts apart i m j o li lj lm lo e =
    ⊎_elim
    (λ same. (same, omega (arith, ap (λ (x : ℕ). get_or starts.of x 0) same)))
    (λ ne. absurd (⊎_elim (λ lt. omega (arith, apart i j lt lj)) (λ ge. omega (arith, ne, apart j i (omega (arith, ne)) li)) (cases_lt i j)))
    (cases_eq i j)

module _ (c d : Counts) (i n : ℕ) (lt : i < 40) (is : d.of ≡ set c.of i n) where
  pub set_here : counts_of d i ≡ n
  set_here = ap (λ (x : List ℕ). get_or x i 0) is ∙ get_or-set_same c.of i n 0 (omega (arith, c.wide))

  pub set_rest : (k : ℕ) → (k ≡ i → ⊥) → counts_of d k ≡ counts_of c k
  set_rest k ne = ap (λ (x : List ℕ). get_or x k 0) is ∙ get_or-set_other c.of i k n 0 ne
