-- One start after another.
use Rattle.std.proofs.Common.{◌≡◌, ℕ, ◌+◌, ◌-◌, ◌<◌, ◌≤◌, List, length, get_or, Some, None, Option, sym, subst, ⊎_elim, arith}
use native.Mathlib.Decide.{ℕ_discrete}
use Rattle.std.specs.Option.{option_map_or}
use Rattle.rings.specs.declared.finding.Best as best
use Rattle.rings.specs.declared.links.Link.{Link}
use Rattle.rings.specs.RingSearch.{AtLeast, Best, Greedy, Found}
use Rattle.rings.specs.Links.{In, far, SentFrom, Measured}
use Rattle.rings.specs.Shortest.{Known, Shortest}
use Rattle.rings.proofs.Table.{table_least, never_entered}
use Rattle.rings.proofs.Levels.{far_some, far_none}
use Rattle.rings.proofs.Search.{best_pass, best_take, exact_walk, best_again, best_found}

-- a better ring has fewer numbers than these
abbrev pub top_of : ℕ → Option best.Best → ℕ
top_of n o = option_map_or (λ (b : best.Best). b.fewest) o (n + 1)

module _ (links : List Link) where
  -- nothing leads to a number past the last
  past : (t m : ℕ) → length links ≤ t → AtLeast (In links) t m
  past t m ge = never_entered (In links) t m (λ v a e. omega (arith, e.1))

  module _ (t : ℕ) where
    so_far : (o : Option best.Best) → Shortest (In links) (length links) t o → (s : ℕ) × Best (In links) t s (top_of (length links) o)
    so_far None h = (0, record { before = omega arith; least = h; first = λ u i j. absurd (omega arith) })
    so_far (Some b) h = (b.start, h.fewest)

    top_few : (o : Option best.Best) → Shortest (In links) (length links) t o → top_of (length links) o ≤ length links + 1
    top_few None h = omega arith
    top_few (Some b) h = omega (arith, h.few)

    passed : (o : Option best.Best) → Shortest (In links) (length links) t o → AtLeast (In links) t (top_of (length links) o) → Shortest (In links) (length links) (t + 1) o
    passed None h least = λ u lt. elim (ℕ_discrete u t) [ yes e ↦ subst (λ z. AtLeast (In links) z (length links + 1)) (sym e) least | no ne ↦ h u (omega arith) ]
    passed (Some b) h least =
        record { fewest = best_pass (In links) t b.start b.fewest h.fewest least; before = omega (arith, h.before); few = h.few; ring = h.ring; from = h.from; walk = h.walk; long = h.long }

    pub pass_one : (o : Option best.Best) → Shortest (In links) (length links) t o → top_of (length links) o ≤ 1 → Shortest (In links) (length links) (t + 1) o
    pass_one o h le = passed o h (λ qs f w. omega arith)

    pub pass_unentered : (o : Option best.Best) → Shortest (In links) (length links) t o → SentFrom links t t None → Shortest (In links) (length links) (t + 1) o
    pass_unentered o h none = passed o h (never_entered (In links) t (top_of (length links) o) (λ v a e. ⊎_elim (λ x. omega (arith, x.1)) (λ x. omega (arith, none v x)) e.2))

    pub pass_far : (o : Option best.Best) → Shortest (In links) (length links) t o → (table : List ℕ) → Measured links t (top_of (length links) o) table → get_or table t 0 ≡ 0 → Shortest (In links) (length links) (t + 1) o
    pass_far o h table x none =
        let top = top_of (length links) o in
        passed o h (table_least (In links) t top (far table top) x.exact.table (omega (arith, far_none table top t none)))

    pub take_it : (o : Option best.Best) → Shortest (In links) (length links) t o → (table : List ℕ) (m : ℕ) → Measured links t (top_of (length links) o) table → get_or table t 0 ≡ m → 1 ≤ m → Known (In links) (length links) (t + 1) (record { start = t; fewest = m })
    take_it o h table m x is some =
        let top = top_of (length links) o in
        let z = so_far o h in
        let lt : m < top = omega (arith, is, x.below t (omega arith)) in
        let e : far table top t ≡ m = far_some table top t m is some in
        let one : 1 ≤ m = omega (arith, e, x.exact.some t (omega arith)) in
        let w = exact_walk (In links) t top (far table top) x.exact (m - 1) t (omega arith) (omega (arith, e, one)) (omega (arith, e, lt)) in
        record {
          fewest = best_take (In links) t z.0 top m z.1 lt (table_least (In links) t m (far table top) x.exact.table (omega (arith, e)));
          before = omega arith;
          few = omega (arith, lt, top_few o h);
          ring = w.0;
          from = w.1;
          walk = w.2;
          long = omega (arith, w.3, one);
        }

  module _ (b : best.Best) (h : Known (In links) (length links) (length links) b) (table : List ℕ) (x : Measured links b.start (b.fewest + 1) table) where
    pub distance_is : far table (b.fewest + 1) b.start ≡ b.fewest
    distance_is = best_again (In links) (length links) b.start b.fewest (far table (b.fewest + 1)) h.fewest h.before x.exact h.ring h.from h.walk h.long

    pub found : (ws : List ℕ) → Greedy (In links) b.start (far table (b.fewest + 1)) b.start ws → 1 + length ws ≡ far table (b.fewest + 1) b.start → Found (In links) b.start ws
    found ws goes long =
        let P : ℕ → Type 0 = λ l. Best (In links) (length links) b.start l in
        best_found (In links) (length links) b.start ws (far table (b.fewest + 1)) (λ t m ge. past t m ge) (subst P (omega (arith, long, distance_is)) h.fewest) h.before x.exact.table goes
