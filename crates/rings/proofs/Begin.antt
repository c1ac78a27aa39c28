-- The first level, and the last.
use Rattle.std.proofs.Common.{◌≡◌, ℕ, ◌+◌, ◌-◌, ◌<◌, ◌≤◌, ◌⊎◌, List, [], ◌∷◌, ◌++◌, length, Some, None, get_or, set, take, replicate, sym, ap, ◌∙◌, subst, inl, inr, arith, length-set}
use mathlib.Core.List.Memᴰ
use mathlib.Core.List.{Memᴰ}
use native.Mathlib.Decide.{ℕ_discrete}
use borrow.Rule.Slice.PartMut.{put_mid, mid_of, post_of, mid_len, same_len_mid}
use Rattle.std.proofs.lemmas.List.{get_or-append-add, get_or_append_left, get_or-replicate, length-replicate, length-take-le, get_or_past}
use Rattle.rings.specs.declared.links.Link.{Link}
use Rattle.rings.specs.Links.{In, SentFrom, far, Below, Marked, Leveled, Measured}
use Rattle.rings.proofs.Comparing.{le_or_lt}
use Rattle.rings.proofs.Levels.{far_none, far_set, far_other, below_set}
use Rattle.rings.proofs.Search.{level_first, level_last}

-- from s on nothing is known in a table that was emptied there
pub blank_from : (s : ℕ) (table part : List ℕ) → s ≤ length table → part ≡ replicate (length (mid_of s (length table - s) table)) 0 → (v : ℕ) → s ≤ v → get_or (put_mid s (length table - s) table part) v 0 ≡ 0
blank_from s table part le is v a =
    let B = post_of s (length table - s) table in
    let all : length part ≡ length (mid_of s (length table - s) table) = ap length is ∙ length-replicate (length (mid_of s (length table - s) table)) 0 in
    let long : length part ≡ length table - s = all ∙ mid_len s (length table) table (omega arith) in
    let front : length (take s table) ≡ s = length-take-le s table le in
    elim (le_or_lt (length table) v) [
      | inl ge ↦ get_or_past (put_mid s (length table - s) table part) v 0 (omega (arith, same_len_mid s (length table - s) table part all))
      | inr lt ↦
          let at : length (take s table) + (v - s) ≡ v = omega arith in
          ap (λ (x : ℕ). get_or (take s table ++ (part ++ B)) x 0) (sym at) ∙ get_or-append-add (take s table) (part ++ B) (v - s) 0 ∙ get_or_append_left part B 0 (v - s) (omega arith) ∙ ap (λ (x : List ℕ). get_or x (v - s) 0) is
          ∙ get_or-replicate (length (mid_of s (length table - s) table)) (v - s) 0 0 (omega arith)
    ]

module _ (links : List Link) (s top : ℕ) (table : List ℕ) (inside : s < length links) (low : 1 < top) (long : length table ≡ length links) (blank : (v : ℕ) → s ≤ v → get_or table v 0 ≡ 0) where
  none_below : Below s top table
  none_below v a = omega (arith, blank v a)

  -- nothing leads to s from s on
  pub begin_none : (first : List ℕ) → SentFrom links s s None → first ≡ [] → Leveled links s top 1 table first
  begin_none first none f =
      let same : (v : ℕ) → s ≤ v → far table top v ≡ top = λ v a. far_none table top v (blank v a) in
      record {
        long = long;
        below = none_below;
        level = level_first (In links) s top (far table top) low (λ v a. inr (same v a)) (λ v a i. absurd (elim i.2 [ inl x ↦ omega (arith, x.1) | inr x ↦ omega (arith, none v x) ]));
        frontier = record { all = λ w a i. absurd (omega (arith, same w a)); right = λ w m. absurd (Memᴰ.not-nil (subst (λ x. Memᴰ w x) f m)) };
      }

  -- one number does
  pub begin_one : (table' : List ℕ) (first first' : List ℕ) (u : ℕ) → SentFrom links s s (Some u) → first ≡ [] → Marked 1 u table first table' first' → Leveled links s top 1 table' first'
  begin_one table' first first' u (is, a, l) f (inr (n, p, q)) = absurd (n (blank u a))
  begin_one table' first first' u (is, a, l) f (inl (t, p, q)) =
      let ul : u < length table = omega arith in
      let new = set table u 1 in
      let here : far new top u ≡ 1 = far_set table top u 1 ul (omega arith) in
      let other : (v : ℕ) → s ≤ v → (v ≡ u → ⊥) → far new top v ≡ top = λ v b ne. far_other table top u 1 ul v ne ∙ far_none table top v (blank v b) in
      let A : List ℕ → Type 0 = λ z. Leveled links s top 1 z first' in
      let B : List ℕ → Type 0 = λ z. Leveled links s top 1 new z in
      subst A (sym p) (subst B (sym (q ∙ ap (λ (x : List ℕ). x ++ (u ∷ [])) f)) (record {
        long = length-set table u 1 ∙ long;
        below = below_set table top u 1 ul s low none_below;
        level = level_first (In links) s top (far new top) low
            (λ v b. elim (ℕ_discrete v u) [ yes g ↦ inl (ap (far new top) g ∙ here, (omega (arith, g), inside, inr (is ∙ ap (λ (x : ℕ). Some x) (sym g)))) | no ne ↦ inr (other v b ne) ])
            (λ v b i. elim i.2 [ inl x ↦ absurd (omega (arith, x.1)) | inr x ↦ let e : Some v ≡ Some u = sym x ∙ is in let g : v ≡ u = cc in ap (far new top) g ∙ here ]);
        frontier = record {
          all = λ w b i. elim (ℕ_discrete w u) [ yes g ↦ Memᴰ.head g | no ne ↦ absurd (omega (arith, other w b ne)) ];
          right = λ w m. let g : w ≡ u = Memᴰ.eq_of_singleton m in (omega (arith, g), ap (far new top) g ∙ here);
        };
      }))

-- no number is at the last level, or no further one is wanted
pub ended : (links : List Link) (s top k : ℕ) (table : List ℕ) (cur : List ℕ) → 1 ≤ k → k < top → Leveled links s top k table cur → (length cur ≡ 0) ⊎ (top ≤ k + 1) → Measured links s top table
ended links s top k table cur one lt x end =
    record {
      long = x.long;
      below = x.below;
      exact = level_last (In links) s top k (far table top) one lt x.level (elim end [ inl e ↦ inl (λ v a i. empty cur e (x.frontier.all v a i)) | inr h ↦ inr h ]);
    }
  where
    empty : (l : List ℕ) {v : ℕ} → length l ≡ 0 → Memᴰ v l → ⊥
    empty [] e m = Memᴰ.not-nil m
    empty (x ∷ xs) e m = omega arith
