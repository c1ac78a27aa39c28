-- Every moment is on some way.
use Rattle.std.proofs.Common.{ℕ, zero, suc, ◌+◌, ◌-◌, ◌<◌, ◌≤◌, List, [], ◌∷◌, refl, ap, inl, inr, arith}
use mathlib.Core.List.{Memᴰ}
use Rattle.std.proofs.lemmas.Bool.{cases_eq}
use Rattle.runs.specs.Run.{Run, Sound}
use Rattle.runs.specs.Moment.{Cut, Moment}
use Rattle.moments.specs.Cuts.{Alike, Below, nothing}
use Rattle.moments.specs.Ways.{Next, Path, there, step, Way, OnAWay}
use Rattle.moments.proofs.Laws.{moment_first, moment_last}
use Rattle.moments.proofs.GoingOn.{next_up, toward}

-- how many doings of the first n machines one cut has and the other lacks
gap : ℕ → Cut → Cut → ℕ
gap zero x y = 0
gap (suc n) x y = (y n - x n) + gap n x y

gap_le : (n : ℕ) (x d y : Cut) → ((i : ℕ) → i < n → x i ≤ d i) → gap n d y ≤ gap n x y
unfolding gap
gap_le zero x d y up = omega arith
gap_le (suc n) x d y up = omega (arith, up n (omega arith), gap_le n x d y (λ i h. up i (omega arith)))

gap_less : (n : ℕ) (x d y : Cut) → ((i : ℕ) → i < n → x i ≤ d i) → (i : ℕ) → i < n → x i < d i → d i ≤ y i → gap n d y < gap n x y
unfolding gap
gap_less zero x d y up i h a b = absurd (omega arith)
gap_less (suc n) x d y up i h a b =
    elim (cases_eq i n) [
      | inl e ↦ omega (arith, ap x e, ap d e, ap y e, gap_le n x d y (λ j k. up j (omega arith)))
      | inr ne ↦ omega (arith, up n (omega arith), gap_less n x d y (λ j k. up j (omega arith)) i (omega arith) a b)
    ]

-- what holds where a moment is reached, and of a moment if it holds of a next one, holds of all moments below
climb :
    (r : Run) → Sound r → (G : Cut → Type 0) (y : Cut) → Moment r y →
    ((x : Cut) → Moment r x → Alike r x y → G x) →
    ((x d : Cut) → Moment r x → Next r x d → G d → G x) →
    (fuel : ℕ) (x : Cut) → Moment r x → Below r x y → gap r.count x y < fuel → G x
climb r sound G y my here on zero x mx under enough = absurd (omega arith)
climb r sound G y my here on (suc fuel) x mx under enough =
    elim (toward r sound x y mx my under) [
      | inl e ↦ here x mx e
      | inr z ↦
          on x z.0 mx z.2 (climb r sound G y my here on fuel z.0 z.1 z.3
          (omega (arith, gap_less r.count x z.0 y (next_up r x z.0 z.2) z.2.who z.2.inside (omega (arith, z.2.one)) (z.3 z.2.who z.2.inside))))
    ]

-- from each moment some way goes to the end
to_end : (r : Run) → Sound r → (x : Cut) → Moment r x → (cs : List Cut) × Way r x cs
to_end r sound x mx =
    climb r sound (λ c. (cs : List Cut) × Way r c cs) r.did (moment_last sound.letters)
    (λ c mc e. (c ∷ [], there mc e))
    (λ c d mc next w. (c ∷ w.0, step d mc next w.1))
    (suc (gap r.count x r.did)) x mx mx.inside (omega arith)

-- a path begins at its first moment
pub head_in : {r : Run} {d c : Cut} {cs : List Cut} → Path r d c cs → Memᴰ c cs
head_in (there m same) = Memᴰ.head refl
head_in (step e m next rest) = Memᴰ.head refl

pub on_a_way : OnAWay
on_a_way r sound c mc =
    climb r sound (λ x. (cs : List Cut) × Way r x cs × ((e : Cut) × Memᴰ e cs × Alike r e c)) c mc
    (λ x mx e. let w = to_end r sound x mx in (w.0, w.1, (x, head_in w.1, e)))
    (λ x d mx next w. (x ∷ w.0, step d mx next w.1, (w.2.0, Memᴰ.tail w.2.1, w.2.2)))
    (suc (gap r.count nothing c)) nothing (moment_first sound.letters) (λ i lt. omega arith) (omega arith)
