-- One level of the search, step by step: for each number w at level k, each v with a step to w that has no distance yet gets k + 1.
-- D w: the steps into w have been looked at.
use Rattle.std.proofs.Common.{◌≡◌, ℕ, ◌+◌, ◌<◌, ◌≤◌, ◌⊎◌, List, [], ◌∷◌, ◌++◌, sym, refl, ap, ◌∙◌, subst, inl, inr, arith}
use mathlib.Core.List.Memᴰ
use mathlib.Core.List.{Memᴰ}
use native.Mathlib.Decide.{ℕ_discrete}
use Rattle.rings.specs.RingSearch.{Level, Raised, Raising}

module _ (E : ℕ → ℕ → Type 0) (s top k : ℕ) (d : ℕ → ℕ) (c : k + 1 < top) (le : Level E s top k d) where
  pub raising_none : Raising E s top k d (λ w. ⊥) d []
  raising_none =
      record {
        changed = λ v a. inl refl;
        all = λ v w a b e x. absurd x;
        noted = λ v a e. elim (le.most v a) [ inl h ↦ absurd (omega arith) | inr h ↦ absurd (omega arith) ];
        right = λ v m. elim m [ ];
      }

  -- what has a distance has at most k + 1, so nothing is to be done there
  pub raising_seen : (D : ℕ → Type 0) (f : ℕ → ℕ) (next : List ℕ) → Raising E s top k d D f next → (v : ℕ) → s ≤ v → (f v ≡ top → ⊥) → f v ≤ k + 1
  raising_seen D f next x v a ne =
      elim (x.changed v a) [
        | inr y ↦ omega (arith, y.1)
        | inl e ↦ elim (le.most v a) [ inl h ↦ omega arith | inr h ↦ absurd (ne (e ∙ h)) ]
      ]

  -- v gets its distance; g is f but for v
  pub raising_set : (D : ℕ → Type 0) (f g : ℕ → ℕ) (next : List ℕ) → Raising E s top k d D f next → (v w : ℕ) → s ≤ v → s ≤ w → E v w → d w ≡ k → f v ≡ top → g v ≡ k + 1 → ((u : ℕ) → (u ≡ v → ⊥) → g u ≡ f u) → Raising E s top k d D g (next ++ (v ∷ []))
  raising_set D f g next x v w a b e h t here others =
      record {
        changed = λ u i. elim (ℕ_discrete u v) [
          | yes j ↦ inr (subst (λ z. d z ≡ top) (sym j) was, ap g j ∙ here, (w, b, subst (λ z. E z w) (sym j) e, h))
          | no ne ↦ elim (x.changed u i) [ inl y ↦ inl (others u ne ∙ y) | inr y ↦ inr (y.0, others u ne ∙ y.1, y.2) ]
        ];
        all = λ u o i j l m. elim (ℕ_discrete u v) [ yes q ↦ omega (arith, ap g q, here) | no ne ↦ omega (arith, others u ne, x.all u o i j l m) ];
        noted = λ u i j. elim (ℕ_discrete u v) [ yes q ↦ Memᴰ.append_right next (Memᴰ.head q) | no ne ↦ Memᴰ.append_left (v ∷ []) (x.noted u i (sym (others u ne) ∙ j)) ];
        right = λ u m. right' u m;
      }
    where
      was : d v ≡ top
      was = elim (x.changed v a) [ inl y ↦ sym y ∙ t | inr y ↦ y.0 ]

      right' : (u : ℕ) → Memᴰ u (next ++ (v ∷ [])) → (s ≤ u) × (g u ≡ k + 1)
      right' u m =
          elim (ℕ_discrete u v) [
            | yes q ↦ (omega arith, ap g q ∙ here)
            | no ne ↦
                elim (Memᴰ.append_cases next m) [
                  | inl i ↦ let z = x.right u i in (z.0, others u ne ∙ z.1)
                  | inr i ↦ absurd (ne (Memᴰ.eq_of_singleton i))
                ]
          ]

  -- all steps into w have been looked at
  pub raising_more : (D : ℕ → Type 0) (f : ℕ → ℕ) (next : List ℕ) → Raising E s top k d D f next → (w : ℕ) → ((v : ℕ) → s ≤ v → E v w → f v ≤ k + 1) → Raising E s top k d (λ u. D u ⊎ (u ≡ w)) f next
  raising_more D f next x w h =
      record {
        changed = x.changed;
        all = λ v u a b e y. elim y [ inl z ↦ x.all v u a b e z | inr z ↦ h v a (subst (λ o. E v o) z e) ];
        noted = x.noted;
        right = x.right;
      }

  -- all of level k have been gone through
  pub raising_all : (D : ℕ → Type 0) (f : ℕ → ℕ) (next : List ℕ) → Raising E s top k d D f next → ((w : ℕ) → s ≤ w → d w ≡ k → D w) → Raised E s top k d f
  raising_all D f next x h = record { changed = x.changed; all = λ v w a b e y. x.all v w a b e (h w b y) }

  -- D said otherwise
  pub raising_said : (D C : ℕ → Type 0) (f : ℕ → ℕ) (next : List ℕ) → Raising E s top k d D f next → ((u : ℕ) → C u → D u) → Raising E s top k d C f next
  raising_said D C f next x h =
      record { changed = x.changed; all = λ v w a b e y. x.all v w a b e (h w y); noted = x.noted; right = x.right }
