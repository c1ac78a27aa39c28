-- The steps of the search among numbers: one breadth-first table by levels, the starts one after another, and the way along the table.
use Rattle.std.proofs.Common.{◌≡◌, ℕ, zero, suc, ◌+◌, ◌<◌, ◌≤◌, ◌⊎◌, List, [], ◌∷◌, ◌++◌, length, sym, refl, ◌∙◌, subst, inl, inr, append_assoc, append-nil, arith}
use native.Mathlib.Decide.{ℕ_discrete}
use Rattle.rings.specs.RingSearch.{Walk, From, AtLeast, Table, Attained, Exact, Level, Raised, Best, Greedy, Toward, Found}
use Rattle.rings.proofs.Comparing.{le_or_lt}
use Rattle.rings.proofs.Table.{table_under}

module _ (E : ℕ → ℕ → Type 0) where
  -- the first level: those with a step to s
  pub level_first : (s top : ℕ) (d : ℕ → ℕ) → 1 < top → ((v : ℕ) → s ≤ v → ((d v ≡ 1) × E v s) ⊎ (d v ≡ top)) → ((v : ℕ) → s ≤ v → E v s → d v ≡ 1) → Level E s top 1 d
  level_first s top d h known all =
      record {
        some = λ v a. elim (known v a) [ inl x ↦ omega (arith, x.0) | inr x ↦ omega arith ];
        most = λ v a. elim (known v a) [ inl x ↦ inl (omega (arith, x.0)) | inr x ↦ inr x ];
        close = λ v a e. omega (arith, all v a e);
        on = λ v w a b e l. elim (known w b) [ inl x ↦ absurd (omega (arith, x.0)) | inr x ↦ absurd (omega arith) ];
        attained = λ v a l. elim (known v a) [ inl x ↦ inl x | inr x ↦ absurd (omega arith) ];
      }

  kept : (s top k : ℕ) (d d' : ℕ → ℕ) → Raised E s top k d d' → (w : ℕ) → s ≤ w → d w < top → d' w ≡ d w
  kept s top k d d' ra w b h = elim (ra.changed w b) [ inl e ↦ e | inr x ↦ absurd (omega (arith, x.0)) ]

  -- numbers that are at k or less have not changed
  lowers : (s top k : ℕ) (d d' : ℕ → ℕ) → k + 1 < top → Raised E s top k d d' → (w : ℕ) → s ≤ w → d' w ≤ k → d' w ≡ d w
  lowers s top k d d' c ra w b h = elim (ra.changed w b) [ inl e ↦ e | inr x ↦ absurd (omega (arith, x.1)) ]

  pub level_next : (s top k : ℕ) (d d' : ℕ → ℕ) → k + 1 < top → Level E s top k d → Raised E s top k d d' → Level E s top (k + 1) d'
  level_next s top k d d' c le ra =
      record {
        some = λ v a. elim (ra.changed v a) [ inl e ↦ omega (arith, le.some v a) | inr x ↦ omega (arith, x.1) ];
        most = λ v a. elim (ra.changed v a) [
          | inl e ↦ elim (le.most v a) [ inl h ↦ inl (omega arith) | inr h ↦ inr (e ∙ h) ]
          | inr x ↦ inl (omega (arith, x.1))
        ];
        close = λ v a e. elim (ra.changed v a) [ inl f ↦ omega (arith, le.close v a e) | inr x ↦ absurd (omega (arith, x.0, le.close v a e)) ];
        on = on';
        attained = att;
      }
    where
      on' : (v w : ℕ) → s ≤ v → s ≤ w → E v w → d' w < k + 1 → d' v ≤ 1 + d' w
      on' v w a b e l =
          let z : d' w ≡ d w = lowers s top k d d' c ra w b (omega arith) in
          elim (ℕ_discrete (d w) k) [
            | yes f ↦ omega (arith, ra.all v w a b e f)
            | no ne ↦
                let y : d v ≤ 1 + d w = le.on v w a b e (omega arith) in
                omega (arith, kept s top k d d' ra v a (omega arith))
          ]

      att : (v : ℕ) → s ≤ v → d' v < top → Attained E s d' v
      att v a l =
          elim (ra.changed v a) [
            | inl e ↦
                elim (le.attained v a (omega arith)) [
                  | inl x ↦ inl (e ∙ x.0, x.1)
                  | inr (w, b, f, g) ↦ inr (w, b, f, omega (arith, kept s top k d d' ra w b (omega arith)))
                ]
            | inr (x, y, (w, b, f, g)) ↦ inr (w, b, f, omega (arith, kept s top k d d' ra w b (omega arith)))
          ]

  -- the last level: nobody is at it, or the next would be top
  pub level_last : (s top k : ℕ) (d : ℕ → ℕ) → 1 ≤ k → k < top → Level E s top k d → ((v : ℕ) → s ≤ v → d v ≡ k → ⊥) ⊎ (top ≤ k + 1) → Exact E s top d
  level_last s top k d p q le end =
      record { table = record { close = le.close; on = on' end }; some = le.some; attained = le.attained }
    where
      at_most : (v : ℕ) → s ≤ v → d v ≤ top
      at_most v a = elim (le.most v a) [ inl h ↦ omega arith | inr h ↦ omega arith ]

      on' : ((v : ℕ) → s ≤ v → d v ≡ k → ⊥) ⊎ (top ≤ k + 1) → (v w : ℕ) → s ≤ v → s ≤ w → E v w → d v ≤ 1 + d w
      on' end v w a b e =
          elim (le_or_lt k (d w)) [
            | inr h ↦ le.on v w a b e h
            | inl h ↦
                elim (le.most w b) [
                  | inr f ↦ omega (arith, at_most v a)
                  | inl f ↦ elim end [ inl none ↦ absurd (none w b (omega arith)) | inr c ↦ omega (arith, at_most v a) ]
                ]
          ]

  -- a number below top has a walk back that is as long as the table says
  attained_walk : (s top : ℕ) (d : ℕ → ℕ) → ((v : ℕ) → s ≤ v → 1 ≤ d v) → ((v : ℕ) → s ≤ v → d v < top → Attained E s d v) → (k v : ℕ) → s ≤ v → d v ≡ 1 + k → d v < top → (qs : List ℕ) × From s qs × Walk E v qs s × (length qs ≡ k)
  attained_walk s top d some att zero v a e l =
      elim (att v a l) [ inl y ↦ ([], tt, y.1, refl) | inr (w, b, f, g) ↦ absurd (omega (arith, some w b)) ]
  attained_walk s top d some att (suc k) v a e l =
      elim (att v a l) [
        | inl y ↦ absurd (omega (arith, y.0))
        | inr (w, b, f, g) ↦ let z = attained_walk s top d some att k w b (omega arith) (omega arith) in (w ∷ z.0, (b, z.1), (f, z.2), omega (arith, z.3))
      ]

  pub exact_walk : (s top : ℕ) (d : ℕ → ℕ) → Exact E s top d → (k v : ℕ) → s ≤ v → d v ≡ 1 + k → d v < top → (qs : List ℕ) × From s qs × Walk E v qs s × (length qs ≡ k)
  exact_walk s top d x = attained_walk s top d x.some x.attained

  -- start t has no ring of fewer: passed over
  pub best_pass : (t s l : ℕ) → Best E t s l → AtLeast E t l → Best E (t + 1) s l
  best_pass t s l b a =
      record {
        before = omega arith;
        least = λ u k. elim (ℕ_discrete u t) [ yes e ↦ subst (λ z. AtLeast E z l) (sym e) a | no ne ↦ b.least u (omega arith) ];
        first = λ u k j. b.first u (omega arith) j;
      }

  -- start t has one of fewer: it's the best now
  pub best_take : (t s l m : ℕ) → Best E t s l → m < l → AtLeast E t m → Best E (t + 1) t m
  best_take t s l m b h a =
      record {
        before = omega arith;
        least = λ u k qs f w. elim (ℕ_discrete u t) [ yes e ↦ subst (λ z. AtLeast E z m) (sym e) a qs f w | no ne ↦ omega (arith, b.least u (omega arith) qs f w) ];
        first = λ u k j qs f w. omega (arith, b.least u (omega arith) qs f w);
      }

  pub toward_start : (s : ℕ) (d : ℕ → ℕ) (k : ℕ) → Toward E s d [] s k
  toward_start s d k ws e g = g

  pub toward_more : (s : ℕ) (d : ℕ → ℕ) (xs : List ℕ) (v w k : ℕ) → Toward E s d xs v (k + 1) → E v w → ((u : ℕ) → s ≤ u → E v u → d u ≤ 1 + k → w ≤ u) → Toward E s d (xs ++ (w ∷ [])) w k
  toward_more s d xs v w k t e low ws h g =
      subst (λ z. Greedy E s d s z) (sym (append_assoc xs (w ∷ []) ws)) (t (w ∷ ws) (omega arith) (e, (λ u a b c. low u a b (omega arith)), g))

  pub toward_end : (s : ℕ) (d : ℕ → ℕ) (xs : List ℕ) (v : ℕ) → Toward E s d xs v 0 → E v s → Greedy E s d s xs
  toward_end s d xs v t e = subst (λ z. Greedy E s d s z) (append-nil xs) (t [] refl e)

  -- at v, with distance 2 + k: there is a next number with distance 1 + k, and no next number has less
  pub exact_next : (s top : ℕ) (d : ℕ → ℕ) → Exact E s top d → (v k : ℕ) → s ≤ v → d v ≡ 2 + k → d v < top → (w : ℕ) × (s ≤ w) × E v w × (d w ≡ 1 + k)
  exact_next s top d x v k a e l =
      elim (x.attained v a l) [ inl y ↦ absurd (omega (arith, y.0)) | inr (w, b, f, g) ↦ (w, b, f, omega arith) ]

  pub exact_near : (s top : ℕ) (d : ℕ → ℕ) → Exact E s top d → (v u k : ℕ) → s ≤ v → s ≤ u → E v u → d v ≡ 2 + k → d u ≤ 1 + k → d u ≡ 1 + k
  exact_near s top d x v u k a b e f g = omega (arith, x.table.on v u a b e)

  pub exact_back : (s top : ℕ) (d : ℕ → ℕ) → Exact E s top d → (v : ℕ) → s ≤ v → d v ≡ 1 → d v < top → E v s
  exact_back s top d x v a e l =
      elim (x.attained v a l) [ inl y ↦ y.1 | inr (w, b, f, g) ↦ absurd (omega (arith, x.some w b)) ]

  -- a table made anew at the best start, one level deeper: it has the ring that was known
  pub best_again : (n s l : ℕ) (d : ℕ → ℕ) → Best E n s l → s < n → Exact E s (l + 1) d → (qs : List ℕ) → From s qs → Walk E s qs s → 1 + length qs ≡ l → d s ≡ l
  best_again n s l d b h x qs f w e =
      let most : d s ≤ l = omega (arith, table_under E s d x.table s qs (omega arith) f w) in
      elim (ℕ_discrete (d s) 0) [
        | yes z ↦ absurd (omega (arith, x.some s (omega arith)))
        | no nz ↦
            let k = pred (d s) (omega arith) in
            let y = exact_walk s (l + 1) d x k.0 s (omega arith) k.1 (omega arith) in
            omega (arith, k.1, b.least s h y.0 y.1 y.2, y.3)
      ]
    where
      pred : (m : ℕ) → 1 ≤ m → (k : ℕ) × (m ≡ 1 + k)
      pred zero p = absurd (omega arith)
      pred (suc m) p = (m, omega arith)

  -- all together
  pub best_found : (n s : ℕ) (xs : List ℕ) (d : ℕ → ℕ) → ((t m : ℕ) → n ≤ t → AtLeast E t m) → Best E n s (1 + length xs) → s < n → Table E s d → Greedy E s d s xs → Found E s xs
  best_found n s xs d past b h t g =
      record {
        d = d;
        table = t;
        goes = g;
        least = λ u. elim (le_or_lt n u) [ inl k ↦ past u (1 + length xs) k | inr k ↦ b.least u k ];
        first = λ u k qs f w. omega (arith, b.first u (omega arith) k qs f w);
      }
