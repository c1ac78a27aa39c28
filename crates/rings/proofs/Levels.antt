-- The loop of one level.
use Rattle.std.proofs.Common.{◌≡◌, ℕ, zero, suc, ◌+◌, ◌-◌, ◌<◌, ◌≤◌, true, ◌⊎◌, List, [], ◌∷◌, length, Some, None, Option, get_or, set, sym, refl, ap, ◌∙◌, subst, inl, inr, arith, length-set}
use mathlib.Core.List.{Memᴰ}
use native.Mathlib.Decide.{ℕ_discrete}
use lib.ListN.{get_or-eq_default}
use Rattle.std.proofs.lemmas.List.{get_or-set_same, get_or-set_other}
use Rattle.rings.specs.declared.links.Link.{Link}
use Rattle.rings.specs.RingSearch.{Level, Raising}
use Rattle.rings.specs.Links.{link_at, In, far_of, far, Below, Marked, SentFrom, Maybe, ByLetter, Into, Frontier, Leveled}
use Rattle.rings.proofs.Comparing.{le_or_lt}
use Rattle.rings.proofs.Search.{level_next}
use Rattle.rings.proofs.Raising.{raising_seen, raising_set, raising_more, raising_all, raising_said}

-- among the first j
abbrev pub Among : List ℕ → ℕ → ℕ → Type 0
Among cur j u = (i : ℕ) × (i < j) × (i < length cur) × (get_or cur i 0 ≡ u)

-- the distance that an entry says
far_of_some : (top n d : ℕ) → n ≡ d → 1 ≤ d → far_of top n ≡ d
far_of_some top zero d e h = absurd (omega arith)
far_of_some top (suc n) d e h = e

pub far_some : (table : List ℕ) (top v d : ℕ) → get_or table v 0 ≡ d → 1 ≤ d → far table top v ≡ d
far_some table top v d e h = far_of_some top (get_or table v 0) d e h

pub far_none : (table : List ℕ) (top v : ℕ) → get_or table v 0 ≡ 0 → far table top v ≡ top
far_none table top v e = ap (far_of top) e

-- a table in which v was given so many steps
module _ (table : List ℕ) (top v steps : ℕ) (inside : v < length table) where
  pub far_set : 1 ≤ steps → far (set table v steps) top v ≡ steps
  far_set some = far_some (set table v steps) top v steps (get_or-set_same table v steps 0 inside) some

  pub far_other : (u : ℕ) → (u ≡ v → ⊥) → far (set table v steps) top u ≡ far table top u
  far_other u ne = ap (far_of top) (get_or-set_other table v u steps 0 ne)

  pub below_set : (s : ℕ) → steps < top → Below s top table → Below s top (set table v steps)
  below_set s lt b u a =
      elim (ℕ_discrete u v) [
        | yes f ↦ omega (arith, ap (λ x. get_or (set table v steps) x 0) f, get_or-set_same table v steps 0 inside)
        | no ne ↦ omega (arith, b u a, get_or-set_other table v u steps 0 ne)
      ]

-- in the middle of a level: the steps into those in D were looked at
pub record Halfway (links : List Link) (s top k : ℕ) (d : ℕ → ℕ) (D : ℕ → Type 0) (table : List ℕ) (next : List ℕ) : Type 0 where
  pub raising : Raising (In links) s top k d D (far table top) next
  pub long : length table ≡ length links
  pub below : Below s top table

module _ (links : List Link) (s top k : ℕ) (d : ℕ → ℕ) (c : k + 1 < top) (le : Level (In links) s top k d) where
  abbrev Half : (ℕ → Type 0) → List ℕ → List ℕ → Type 0
  Half = Halfway links s top k d

  -- after a mark: still so, those in P are seen, and what was seen is
  record After (D P : ℕ → Type 0) (table table' : List ℕ) (next' : List ℕ) : Type 0 where
    still : Half D table' next'
    seen : (v : ℕ) → s ≤ v → P v → far table' top v ≤ k + 1
    kept : (u : ℕ) → far table top u ≤ k + 1 → far table' top u ≤ k + 1

  unchanged : (D P : ℕ → Type 0) (table table' : List ℕ) (next next' : List ℕ) → Half D table next → ((v : ℕ) → s ≤ v → P v → far table top v ≤ k + 1) → table' ≡ table → next' ≡ next → After D P table table' next'
  unchanged D P table table' next next' x see p q =
      let A : List ℕ → Type 0 = λ z. After D P table z next' in
      let B : List ℕ → Type 0 = λ z. After D P table table z in
      subst A (sym p) (subst B (sym q) (record { still = x; seen = see; kept = λ u i. i }))

  marked : (D : ℕ → Type 0) (v w : ℕ) (table table' : List ℕ) (next next' : List ℕ) → Half D table next → s ≤ v → s ≤ w → In links v w → d w ≡ k → Marked (k + 1) v table next table' next' → After D (λ u. u ≡ v) table table' next'
  marked D v w table table' next next' x a b e h (inr (n, p, q)) =
      let some : 1 ≤ get_or table v 0 = omega (arith, n) in
      let see : far table top v ≤ k + 1 = raising_seen (In links) s top k d c le D (far table top) next x.raising v a (λ f. omega (arith, f, far_some table top v (get_or table v 0) refl some, x.below v a)) in
      unchanged D (λ u. u ≡ v) table table' next next' x (λ u i f. subst (λ y. far table top y ≤ k + 1) (sym f) see) p q
  marked D v w table table' next next' x a b e h (inl (t, p, q)) =
      let inside : v < length table = omega (arith, e.0, x.long) in
      let new = set table v (k + 1) in
      let here : far new top v ≡ k + 1 = far_set table top v (k + 1) inside (omega arith) in
      let other : (u : ℕ) → (u ≡ v → ⊥) → far new top u ≡ far table top u = far_other table top v (k + 1) inside in
      let r = raising_set (In links) s top k d c le D (far table top) (far new top) next x.raising v w a b e h (far_none table top v t) here other in
      let A : List ℕ → Type 0 = λ y. After D (λ u. u ≡ v) table y next' in
      let B : List ℕ → Type 0 = λ y. After D (λ u. u ≡ v) table new y in
      subst A (sym p) (subst B (sym q) (record {
        still = record { raising = r; long = length-set table v (k + 1) ∙ x.long; below = below_set table top v (k + 1) inside s c x.below };
        seen = λ u i f. omega (arith, here, ap (far new top) f);
        kept = λ u i. elim (ℕ_discrete u v) [ yes f ↦ omega (arith, here, ap (far new top) f) | no ne ↦ omega (arith, i, other u ne) ];
      }))

  maybe : (D : ℕ → Type 0) (P : Type 0) (v w : ℕ) (table table' : List ℕ) (next next' : List ℕ) → Half D table next → (P → (s ≤ v) × In links v w) → s ≤ w → d w ≡ k → Maybe P (k + 1) v table next table' next' → After D (λ u. P × (u ≡ v)) table table' next'
  maybe D P v w table table' next next' x ok b h (inl (p, m)) =
      let z = marked D v w table table' next next' x (ok p).0 b (ok p).1 h m in
      record { still = z.still; seen = λ u i y. z.seen u i y.1; kept = z.kept }
  maybe D P v w table table' next next' x ok b h (inr (n, p, q)) = unchanged D (λ u. P × (u ≡ v)) table table' next next' x (λ u i y. absurd (n y.0)) p q

  by_letter : (D : ℕ → Type 0) (w : ℕ) (o : Option ℕ) (table table' : List ℕ) (next next' : List ℕ) → SentFrom links s w o → Half D table next → w < length links → s ≤ w → d w ≡ k → ByLetter o (k + 1) table next table' next' → After D (λ u. (link_at links w).letter ≡ Some u) table table' next'
  by_letter D w None table table' next next' none x i b h y =
      let z = unchanged D (λ u. ⊥) table table' next next' x (λ u i f. absurd f) y.0 y.1 in
      record { still = z.still; seen = λ u a m. absurd (omega (arith, none u m)); kept = z.kept }
  by_letter D w (Some v) table table' next next' sent x i b h y =
      let z = marked D v w table table' next next' x sent.1 b (sent.2, i, inr sent.0) h y in
      record { still = z.still; seen = λ u a m. let f : Some v ≡ Some u = sym sent.0 ∙ m in let g : u ≡ v = cc in z.seen u a g; kept = z.kept }

  pub into_more : (D : ℕ → Type 0) (w : ℕ) (table table' : List ℕ) (next next' : List ℕ) → Half D table next → w < length links → s ≤ w → d w ≡ k → Into links s (k + 1) w table next table' next' → Half (λ u. D u ⊎ (u ≡ w)) table' next'
  into_more D w table table' next next' x i b h y =
      let one = maybe D (((link_at links w).own ≡ true) × (s < w)) (w - 1) w table y.table₁ next y.next₁ x (λ p. (omega (arith, p.1), (omega (arith, p.1), i, inl (p.0, omega (arith, p.1))))) b h y.own in
      let two = by_letter D w y.sending y.table₁ table' y.next₁ next' y.sent one.still i b h y.letter in
      record {
        raising = raising_more (In links) s top k d c le D (far table' top) next' two.still.raising w
            (λ v a e. elim e.2 [
              | inl p ↦ two.kept v (one.seen v a ((p.0, omega (arith, p.1)), omega (arith, p.1)))
              | inr p ↦ two.seen v a p
            ]);
        long = two.still.long;
        below = two.still.below;
      }

  mem_at : (l : List ℕ) (a : ℕ) → a < length l → Memᴰ (get_or l a 0) l
  mem_at [] a p = absurd (omega arith)
  mem_at (b ∷ l) zero p = Memᴰ.head refl
  mem_at (b ∷ l) (suc a) p = Memᴰ.tail (mem_at l a (omega arith))

  -- the next of the frontier has been gone through
  pub level_more : (cur : List ℕ) (j : ℕ) (table table' : List ℕ) (next next' : List ℕ) → Frontier s k d cur → Half (Among cur j) table next → j < length cur → get_or cur j 0 < length links → Into links s (k + 1) (get_or cur j 0) table next table' next' → Half (Among cur (j + 1)) table' next'
  level_more cur j table table' next next' fr x h i y =
      let w = fr.right (get_or cur j 0) (mem_at cur j h) in
      let z = into_more (Among cur j) (get_or cur j 0) table table' next next' x i w.0 w.1 y in
      record {
        raising = raising_said (In links) s top k d c le (λ u. Among cur j u ⊎ (u ≡ get_or cur j 0)) (Among cur (j + 1)) (far table' top) next' z.raising
            (λ u m. elim (ℕ_discrete m.0 j) [
              | yes e ↦ inr (sym m.3 ∙ ap (λ o. get_or cur o 0) e)
              | no ne ↦ inl (m.0, omega (arith, m.1), m.2, m.3)
            ]);
        long = z.long;
        below = z.below;
      }

  pub level_done : (cur : List ℕ) (j : ℕ) (table : List ℕ) (next : List ℕ) → Frontier s k d cur → Half (Among cur j) table next → length cur ≤ j → Leveled links s top (k + 1) table next
  level_done cur j table next fr x h =
      record {
        long = x.long;
        below = x.below;
        level = level_next (In links) s top k d (far table top) c le (raising_all (In links) s top k d c le (Among cur j) (far table top) next x.raising
            (λ w b e. let z = place cur (fr.all w b e) in (z.0, omega (arith, z.1), z.1, z.2)));
        frontier = record { all = x.raising.noted; right = x.raising.right };
      }
    where
      place : (l : List ℕ) {w : ℕ} → Memᴰ w l → (i : ℕ) × (i < length l) × (get_or l i 0 ≡ w)
      place [] m = elim m [ ]
      place (b ∷ l) (Memᴰ.head e) = (0, omega arith, sym e)
      place (b ∷ l) (Memᴰ.tail m) = let z = place l m in (suc z.0, omega (arith, z.1), z.2)

  -- past its end a table has top
  pub frontier_inside : (table : List ℕ) (cur : List ℕ) (j : ℕ) → Frontier s k (far table top) cur → j < length cur → get_or cur j 0 < length table
  frontier_inside table cur j fr h =
      elim (le_or_lt (length table) (get_or cur j 0)) [
        | inr g ↦ g
        | inl g ↦ absurd (omega (arith, c, (fr.right (get_or cur j 0) (mem_at cur j h)).1, far_none table top (get_or cur j 0) (get_or-eq_default table 0 g)))
      ]
