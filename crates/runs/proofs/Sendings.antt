-- What states hold once letters' sendings are written into them.
use Rattle.std.proofs.Common.{◌≡◌, ℕ, zero, suc, ◌<◌, ◌⊎◌, List, [], ◌∷◌, length, get_or, set, Some, sym, refl, ap, ◌∙◌, inl, inr, ⊎_elim, arith}
use mathlib.Core.List.Memᴰ
use mathlib.Core.List.{Memᴰ}
use Rattle.std.proofs.lemmas.List.{length-set, get_or-set_same, get_or-set_other}
use Rattle.std.proofs.lemmas.Bool.{cases_eq}
use Rattle.records.specs.declared.place.Place.{Place}
use Rattle.records.specs.Refusal.{Earlier}
use Rattle.letters.specs.declared.letter.Letter.{Letter}
use Rattle.letters.specs.Matching.{got_at, Rising}
use Rattle.runs.specs.declared.counts.Counts.{Counts}
use Rattle.runs.specs.declared.state.State.{State}
use Rattle.runs.specs.Shape.{still}
use Rattle.runs.specs.Making.{got_index, heard, linked}
use Rattle.runs.proofs.Linked.{came_from}

pub mem_at : (ls : List Letter) (k : ℕ) (d : Letter) → k < length ls → Memᴰ (get_or ls k d) ls
mem_at [] k d lt = absurd (omega arith)
mem_at (l ∷ ls) zero d lt = Memᴰ.head refl
mem_at (l ∷ ls) (suc k) d lt = Memᴰ.tail (mem_at ls k d (omega arith))

module _ (starts : Counts) where
  -- all letters' places are among so many
  abbrev pub AllWithin : List Letter → ℕ → Type 0
  AllWithin ls size = (l : Letter) → Memᴰ l ls → got_index starts l < size

  -- a letter that was got later stands later
  abbrev pub InOrder : List Letter → Type 0
  InOrder ls = (l x : Letter) → Memᴰ l ls → Memᴰ x ls → Earlier (got_at l) (got_at x) → got_index starts l < got_index starts x

  one : Letter → List State → List State
  one l ss = set ss (got_index starts l) (heard l (get_or ss (got_index starts l) still))

  one_is : (l : Letter) (ss : List State) (p : ℕ) → got_index starts l < length ss
      → ((p ≡ got_index starts l) × (get_or (one l ss) p still ≡ heard l (get_or ss p still))) ⊎ ((p ≡ got_index starts l → ⊥) × (get_or (one l ss) p still ≡ get_or ss p still))
  unfolding one
  one_is l ss p lt =
      ⊎_elim
      (λ e. inl (
        e,
        ap (λ (x : ℕ). get_or (set ss (got_index starts l) (heard l (get_or ss (got_index starts l) still))) x still) e
            ∙ get_or-set_same ss (got_index starts l) (heard l (get_or ss (got_index starts l) still)) still lt ∙ ap (λ (x : ℕ). heard l (get_or ss x still)) (sym e),
      ))
      (λ ne. inr (ne, get_or-set_other ss (got_index starts l) p (heard l (get_or ss (got_index starts l) still)) still ne))
      (cases_eq p (got_index starts l))

  one_long : (l : Letter) (ss : List State) → length (one l ss) ≡ length ss
  unfolding one
  one_long l ss = length-set ss (got_index starts l) (heard l (get_or ss (got_index starts l) still))

  linked_one : (l : Letter) (ls : List Letter) (ss : List State) → linked starts (l ∷ ls) ss ≡ linked starts ls (one l ss)
  unfolding one
  linked_one l ls ss = refl

  rest_within : (l : Letter) (ls : List Letter) (ss : List State) → AllWithin (l ∷ ls) (length ss) → AllWithin ls (length (one l ss))
  rest_within l ls ss inside x mem = omega (arith, inside x (Memᴰ.tail mem), one_long l ss)

  -- signs and amounts stay
  pub same_sign : (ls : List Letter) (ss : List State) (p : ℕ) → AllWithin ls (length ss) → ((get_or (linked starts ls ss) p still).sign ≡ (get_or ss p still).sign) × ((get_or (linked starts ls ss) p still).amount ≡ (get_or ss p still).amount)
  same_sign [] ss p inside = (refl, refl)
  same_sign (l ∷ ls) ss p inside =
      let rest = same_sign ls (one l ss) p (rest_within l ls ss inside) in
      let sign : (s : State) → get_or (one l ss) p still ≡ s → s.sign ≡ (get_or ss p still).sign → (get_or (linked starts (l ∷ ls) ss) p still).sign ≡ (get_or ss p still).sign =
      λ s e f. ap (λ (x : List State). (get_or x p still).sign) (linked_one l ls ss) ∙ rest.0 ∙ ap (λ (x : State). x.sign) e ∙ f in
      let amount : (s : State) → get_or (one l ss) p still ≡ s → s.amount ≡ (get_or ss p still).amount → (get_or (linked starts (l ∷ ls) ss) p still).amount ≡ (get_or ss p still).amount =
      λ s e f. ap (λ (x : List State). (get_or x p still).amount) (linked_one l ls ss) ∙ rest.1 ∙ ap (λ (x : State). x.amount) e ∙ f in
      ⊎_elim (λ h. (sign _ h.1 refl, amount _ h.1 refl)) (λ h. (sign _ h.1 refl, amount _ h.1 refl)) (one_is l ss p (inside l (Memᴰ.head refl)))

  -- where no letter was got nothing changes
  untouched : (ls : List Letter) (ss : List State) (p : ℕ) → AllWithin ls (length ss) → ((l : Letter) → Memᴰ l ls → p ≡ got_index starts l → ⊥) → get_or (linked starts ls ss) p still ≡ get_or ss p still
  untouched [] ss p inside apart = refl
  untouched (l ∷ ls) ss p inside apart =
      ap (λ (x : List State). get_or x p still) (linked_one l ls ss) ∙ untouched ls (one l ss) p (rest_within l ls ss inside) (λ x mem. apart x (Memᴰ.tail mem))
      ∙ ⊎_elim (λ h. absurd (apart l (Memᴰ.head refl) h.0)) (λ h. h.1) (one_is l ss p (inside l (Memᴰ.head refl)))

  -- where one was got its sending stands
  pub stands : (ls : List Letter) (ss : List State) (x : Letter) → AllWithin ls (length ss) → Rising ls → InOrder ls → Memᴰ x ls → (get_or (linked starts ls ss) (got_index starts x) still).sending ≡ Some (came_from x)
  stands [] ss x inside rising order mem = absurd (Memᴰ.not-nil mem)
  stands (l ∷ ls) ss x inside rising order mem =
      let p : ℕ = got_index starts x in
      ⊎_elim
      (λ e.
      let later : (y : Letter) → Memᴰ y ls → got_index starts l < got_index starts y = λ y my. order l y (Memᴰ.head refl) (Memᴰ.tail my) (rising.0 y my) in
      ap (λ (z : List State). (get_or z p still).sending) (linked_one l ls ss)
      ∙ ap (λ (s : State). s.sending) (untouched ls (one l ss) p (rest_within l ls ss inside) (λ y my same. omega (arith, later y my, ap (got_index starts) e)))
      ∙ ⊎_elim (λ h. ap (λ (s : State). s.sending) h.1 ∙ ap (λ (z : Letter). Some (came_from z)) (sym e)) (λ h. absurd (h.0 (ap (got_index starts) e))) (one_is l ss p (inside l (Memᴰ.head refl))))
      (λ more. ap (λ (z : List State). (get_or z p still).sending) (linked_one l ls ss) ∙ stands ls (one l ss) x (rest_within l ls ss inside) rising.1 (λ y z my mz. order y z (Memᴰ.tail my) (Memᴰ.tail mz)) more)
      (Memᴰ.cases_cons mem)

  -- and where a sending stands it was there before, or a letter was got
  pub from_letter : (ls : List Letter) (ss : List State) (p : ℕ) (q : Place) → AllWithin ls (length ss) → (get_or (linked starts ls ss) p still).sending ≡ Some q
      → ((get_or ss p still).sending ≡ Some q) ⊎ ((l : Letter) × Memᴰ l ls × (p ≡ got_index starts l) × (came_from l ≡ q))
  from_letter [] ss p q inside is = inl is
  from_letter (l ∷ ls) ss p q inside is =
      ⊎_elim
      (λ here. ⊎_elim
      (λ h. inr (l, Memᴰ.head refl, h.0, let e : Some (came_from l) ≡ Some q = sym (ap (λ (s : State). s.sending) h.1) ∙ here in cc))
      (λ h. inl (sym (ap (λ (s : State). s.sending) h.1) ∙ here))
      (one_is l ss p (inside l (Memᴰ.head refl))))
      (λ more. inr (more.0, Memᴰ.tail more.1, more.2, more.3))
      (from_letter ls (one l ss) p q (rest_within l ls ss inside) (sym (ap (λ (z : List State). (get_or z p still).sending) (linked_one l ls ss)) ∙ is))
