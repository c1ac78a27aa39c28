-- What `all` and `find_map` find over numbers that count up.
use Rattle.std.proofs.Common.{◌≡◌, ℕ, ◌+◌, ◌-◌, ◌<◌, ◌≤◌, Bool, true, false, Option, Some, None, IsTrue, Decides, IfSome, IsSomeAnd, refl, ap, ◌∙◌, subst, arith}
use denote.Param.Members.{Mut, Called}
use Rattle.std.specs.Bool.{MatchBool}
use Rattle.std.specs.Option.{option_map}
use Rattle.std.specs.declared.ops.Range.{Range}
use Rattle.std.specs.Iterator.Runs.{Run, SomeRun, ItemsCountUp, AllItemsGive, AnyItemGives}
use Rattle.std.proofs.iter.Yields.{nat_range_steps}
use Rattle.std.proofs.iter.runs.Sources.{range_runs}
use Rattle.std.proofs.lemmas.Bool.{both_ways}

-- what is so of an item that came is so of the number at its place
at : (o : Option ℕ) (x : ℕ) (Q : ℕ → Type 0) → option_map (λ y. y) o ≡ Some x → IfSome o Q → Q x
at None x Q e h = absurd (let z : ◌≡◌ {A = ℕ} 0 1 = cc in omega arith)
at (Some y) x Q e h = let is : y ≡ x = cc in subst Q is h

both : (o : Option ℕ) (P Q : ℕ → Type 0) → IsSomeAnd o P → IfSome o Q → (x : ℕ) × P x × Q x
both None P Q h i = absurd h
both (Some x) P Q h i = (x, h, i)

module _ {S F : Type 0} {steps : S → Option ℕ → S → Type 0} (p : Run steps) (a b : ℕ) (counts : ItemsCountUp p a b) (f : F) where
  place : p.whole ≡ true → (x : ℕ) → a ≤ x → x < b → option_map (λ y. y) (p.at (x - a)) ≡ Some x
  place whole x low high = let e : a + (x - a) ≡ x = omega arith in counts.3 (x - a) (omega (arith, counts.1 whole)) ∙ ap Some e

  -- a test of each that has P
  module _ {g : Mut F (ℕ × Unit {0}) Bool} (P : ℕ → Type 0) (told : (x : ℕ) (r : Bool) (q : F) → Called g f (x, tt) r q → (q ≡ f) × (a ≤ x → x < b → Decides r (P x))) where
    all_between : (r : Bool) → MatchBool r (IsTrue p.whole × AllItemsGive p g f true) (AnyItemGives p g f false) → Decides r ((x : ℕ) → a ≤ x → x < b → P x)
    all_between true ends =
        let yes = ends.1 (λ x r q k. (told x.0 r q k).0) in
        (λ _ x low high. ((told x true f (at (p.at (x - a)) x (λ y. Called g f (y, tt) true f) (place ends.0 x low high) (yes (x - a)))).1 low high).0 refl, λ _. refl)
    all_between false ends =
        let no = ends (λ x r q k. (told x.0 r q k).0) in
        let x = both (p.at no.0) (λ y. Called g f (y, tt) false f) _ no.2 (counts.2 no.0) in
        (λ e. absurd (both_ways false refl e), λ all. ((told x.0 false f x.1).1 (omega (arith, x.2.0)) x.2.1).1 (all x.0 (omega (arith, x.2.0)) x.2.1))

-- from a up to what is less than b
pub all_below : {F : Type 0} {g : Mut F (ℕ × Unit {0}) Bool} {s : Range ℕ} {f : F} (r : Bool) (P : ℕ → Type 0)
    → SomeRun nat_range_steps s (λ p. MatchBool r (IsTrue p.whole × AllItemsGive p g f true) (AnyItemGives p g f false))
    → ((x : ℕ) (t : Bool) (q : F) → Called g f (x, tt) t q → (q ≡ f) × (s.start ≤ x → x < s.end → Decides t (P x)))
    → Decides r ((x : ℕ) → s.start ≤ x → x < s.end → P x)
all_below {s} {f} r P run told =
    all_between run.0 s.start s.end (subst (λ (z : Range ℕ). ItemsCountUp run.0 z.start z.end) run.1 (range_runs run.0 run.0.seen)) f P told r run.2
