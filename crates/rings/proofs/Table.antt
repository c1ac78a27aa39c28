-- The lowest ring among numbers, from tables of distances: what a program that searches for it has to have.
-- E v w: there is a step from v to w. Numbers stand for places, in their order.
use Rattle.std.proofs.Common.{◌≡◌, ℕ, ◌+◌, ◌<◌, ◌≤◌, List, [], ◌∷◌, length, sym, refl, subst, inl, inr, arith}
use mathlib.Core.List.Memᴰ
use mathlib.Core.List.{Memᴰ}
use native.Mathlib.Decide.{ℕ_discrete}
use Rattle.rings.specs.RingSearch.{Walk, Round, From, AtLeast, Table, Greedy, Found}
use Rattle.rings.proofs.Comparing.{le_or_lt}
use Rattle.rings.proofs.Walk.{turned}

-- the place from which a walk comes back
pub last : {A : Type 0} (E : A → A → Type 0) (p : A) (ps : List A) (back : A) → Walk E p ps back → (v : A) × Memᴰ v (p ∷ ps) × E v back
last E p [] back w = (p, Memᴰ.head refl, w)
last E p (q ∷ qs) back w = let z = last E q qs back w.1 in (z.0, Memᴰ.tail z.1, z.2)

-- one list no later than another, as long: the first number in which they differ is lower
pub data Lower : List ℕ → List ℕ → Type 0 where
  same : Lower [] []
  lower : {p q : ℕ} {ps qs : List ℕ} → p < q → Lower (p ∷ ps) (q ∷ qs)
  equal : {p : ℕ} {ps qs : List ℕ} → Lower ps qs → Lower (p ∷ ps) (p ∷ qs)

pub from_all : (s : ℕ) (qs : List ℕ) → ((q : ℕ) → Memᴰ q qs → s ≤ q) → From s qs
from_all s [] all = tt
from_all s (q ∷ qs) all = (all q (Memᴰ.head refl), from_all s qs (λ x m. all x (Memᴰ.tail m)))

pub all_from : (s : ℕ) (qs : List ℕ) → From s qs → {q : ℕ} → Memᴰ q qs → s ≤ q
all_from s [] f h = elim h [ ]
all_from s (x ∷ qs) f (Memᴰ.head e) = omega (arith, f.0, e)
all_from s (x ∷ qs) f (Memᴰ.tail m) = all_from s qs f.1 m

-- a list's lowest
pub bottom : (p : ℕ) (ps : List ℕ) → (t : ℕ) × Memᴰ t (p ∷ ps) × From t (p ∷ ps)
bottom p [] = (p, Memᴰ.head refl, (omega arith, tt))
bottom p (q ∷ qs) =
    let z = bottom q qs in
    elim (le_or_lt z.0 p) [
      | inl h ↦ (z.0, Memᴰ.tail z.1, (h, z.2))
      | inr h ↦ (p, Memᴰ.head refl, (omega arith, from_all p (q ∷ qs) (λ x m. omega (arith, h, all_from z.0 (q ∷ qs) z.2 m))))
    ]

module _ (E : ℕ → ℕ → Type 0) where
  pub table_under : (s : ℕ) (d : ℕ → ℕ) → Table E s d → (v : ℕ) (qs : List ℕ) → s ≤ v → From s qs → Walk E v qs s → d v ≤ 1 + length qs
  table_under s d t v [] h f w = t.close v h w
  table_under s d t v (q ∷ qs) h f w = omega (arith, t.on v q h f.0 w.0, table_under s d t q qs f.0 f.1 w.1)

  pub table_least : (s m : ℕ) (d : ℕ → ℕ) → Table E s d → m ≤ d s → AtLeast E s m
  table_least s m d t h qs f w = omega (arith, table_under s d t s qs (omega arith) f w)

  -- no step to t from t on: no ring has t as its lowest number
  pub never_entered : (t m : ℕ) → ((v : ℕ) → t ≤ v → E v t → ⊥) → AtLeast E t m
  never_entered t m none qs f w =
      let z = last E t qs t w in
      absurd (none z.0 (elim (Memᴰ.cases_cons z.1) [ inl e ↦ omega arith | inr k ↦ all_from t qs f k ]) z.2)

  pub greedy_walk : (s : ℕ) (d : ℕ → ℕ) (v : ℕ) (ws : List ℕ) → Greedy E s d v ws → Walk E v ws s
  greedy_walk s d v [] g = g
  greedy_walk s d v (w ∷ ws) g = (g.0, greedy_walk s d w ws g.2)

  -- each ring can be begun with its lowest number
  pub lowered : (l : List ℕ) → Round E l → (t : ℕ) × (rest : List ℕ) × Walk E t rest t × (length l ≡ 1 + length rest) × From t rest × From t l
  lowered [] w = absurd w
  lowered (p ∷ ps) w =
      let z = bottom p ps in
      let y = turned E (p ∷ ps) z.0 w z.1 in
      (z.0, y.0, y.1.round, y.1.long, from_all z.0 y.0 (λ q m. all_from z.0 (p ∷ ps) z.2 (y.1.only q (Memᴰ.tail m))), z.2)

  pub found_fewest : (s : ℕ) (ws : List ℕ) → Found E s ws → (qs : List ℕ) → Round E qs → 1 + length ws ≤ length qs
  found_fewest s ws x qs w =
      let z = lowered qs w in
      omega (arith, z.3, x.least z.0 z.1 z.4 z.2)

  greedy_lower : (s : ℕ) (d : ℕ → ℕ) → Table E s d → (v : ℕ) (ws qs : List ℕ) → Greedy E s d v ws → From s qs → Walk E v qs s → length qs ≡ length ws → Lower ws qs
  greedy_lower s d t v [] [] g f w e = Lower.same
  greedy_lower s d t v [] (q ∷ qs) g f w e = absurd (omega arith)
  greedy_lower s d t v (x ∷ ws) [] g f w e = absurd (omega arith)
  greedy_lower s d t v (x ∷ ws) (q ∷ qs) g f w e =
      let h : x ≤ q = g.1 q f.0 w.0 (omega (arith, table_under s d t q qs f.0 f.1 w.1)) in
      elim (ℕ_discrete x q) [
        | no ne ↦ Lower.lower (omega arith)
        | yes k ↦ subst (λ z. Lower (x ∷ ws) (z ∷ qs)) k (Lower.equal (greedy_lower s d t x ws qs g.2 f.1 (subst (λ z. Walk E z qs s) (sym k) w.1) (omega arith)))
      ]

  pub found_lowest : (s : ℕ) (ws : List ℕ) → Found E s ws → (qs : List ℕ) → Round E qs → length qs ≡ 1 + length ws → Lower (s ∷ ws) qs
  found_lowest s ws x [] w e = absurd w
  found_lowest s ws x (q ∷ qs) w e =
      let z = lowered (q ∷ qs) w in
      elim (le_or_lt s z.0) [
        | inr h ↦ absurd (omega (arith, z.3, x.first z.0 h z.1 z.4 z.2))
        | inl h ↦
            let f : From s (q ∷ qs) = from_all s (q ∷ qs) (λ y m. omega (arith, h, all_from z.0 (q ∷ qs) z.5 m)) in
            elim (ℕ_discrete s q) [
              | no ne ↦ Lower.lower (omega (arith, f.0))
              | yes k ↦ subst (λ y. Lower (s ∷ ws) (y ∷ qs)) k (Lower.equal (greedy_lower s x.d x.table s ws qs x.goes f.1 (subst (λ y. Walk E y qs y) (sym k) w) (omega arith)))
            ]
      ]
