-- There is a way without a moment of all yes exactly if the run can come to its end without one.
use Rattle.std.proofs.Common.{◌≡◌, ℕ, zero, suc, ◌+◌, ◌<◌, true, false, ◌⊎◌, List, [], ◌∷◌, sym, refl, ap, ◌∙◌, subst, inl, inr, arith}
use mathlib.Core.List.{Memᴰ}
use Rattle.std.proofs.lemmas.Bool.{cases_lt, cases_Bool, both_ways}
use Rattle.runs.specs.Run.{Run, Done}
use Rattle.runs.specs.Moment.{Cut, Moment}
use Rattle.order.proofs.Sizes.{size, size_less}
use Rattle.moments.specs.Cuts.{Alike, nothing}
use Rattle.moments.specs.Ways.{there, step, Way}
use Rattle.moments.specs.Signs.{Says, AllSay, Must, Avoids, ComesTo, begins, goes, MustDecided}
use Rattle.moments.proofs.Decided.{each_below}
use Rattle.moments.proofs.Laws.{moment_first, moment_alike}
use Rattle.moments.proofs.GoingOn.{back, back_here, back_below, back_next, next_back}
use Rattle.moments.proofs.OnAWay.{head_in}
use Rattle.moments.proofs.Best.{moment_or_not}

pub all_or_not : (r : Run) (s : Says) (c : Cut) → AllSay r s c ⊎ (AllSay r s c → ⊥)
all_or_not r s c =
    elim (each_below (λ i. s i (c i) ≡ true) (λ i. s i (c i) ≡ false) r.count (λ i lt. cases_Bool (s i (c i)))) [
      | inl all ↦ inl all
      | inr (i, lt, no') ↦ inr (λ all. both_ways (s i (c i)) no' (all i lt))
    ]

pub all_alike : (r : Run) (s : Says) (c d : Cut) → Alike r c d → AllSay r s d → AllSay r s c
all_alike r s c d same all i lt = ap (s i) (same i lt) ∙ all i lt

module _ (r : Run) (done : Done r) (s : Says) where
  pub comes_moment : {c : Cut} → ComesTo r s c → Moment r c
  comes_moment (begins {c} same off) = moment_alike done nothing c (λ i lt. sym (same i lt)) (moment_first done)
  comes_moment (goes d from m next off) = m

  pub comes_off : {c : Cut} → ComesTo r s c → AllSay r s c → ⊥
  comes_off (begins same off) = off
  comes_off (goes d from m next off) = off

  pub comes_alike : {c : Cut} (d : Cut) → Alike r c d → ComesTo r s c → ComesTo r s d
  comes_alike d e (begins {c} same off) = begins (λ i lt. sym (e i lt) ∙ same i lt) (λ all. off (all_alike r s c d e all))
  comes_alike d e (goes c from m next off) =
      goes d from (moment_alike done c d e m)
      (record { who = next.who; inside = next.inside; one = sym (e next.who next.inside) ∙ next.one; others = λ i lt ne. sym (e i lt) ∙ next.others i lt ne })
      (λ all. off (all_alike r s c d e all))

  -- a way from some moment on, without one of all yes
  abbrev From : Cut → Type 0
  From c = (cs : List Cut) × Way r c cs × ((d : Cut) → Memᴰ d cs → AllSay r s d → ⊥)

  one_more : (c : Cut) (cs : List Cut) → (AllSay r s c → ⊥) → ((d : Cut) → Memᴰ d cs → AllSay r s d → ⊥) → {d : Cut} → Memᴰ d (c ∷ cs) → AllSay r s d → ⊥
  one_more c cs off rest (Memᴰ.head e) = subst (λ x. AllSay r s x → ⊥) (sym e) off
  one_more c cs off rest (Memᴰ.tail m) = rest _ m

  -- what begins where nothing is behind may as well begin with nothing
  from_nothing : {c : Cut} {cs : List Cut} → Alike r c nothing → (AllSay r s c → ⊥) → Way r c cs → ((d : Cut) → Memᴰ d cs → AllSay r s d → ⊥) → From nothing
  from_nothing {c} same off (there m end) rest =
      (nothing ∷ [], there (moment_first done) (λ i lt. sym (same i lt) ∙ end i lt), λ d mem. one_more nothing [] (λ all. off (all_alike r s c nothing same all)) (λ x h. elim h [ ]) mem)
  from_nothing same off (step {c} {cs} e m next way) rest = (
    nothing ∷ cs,
    step e (moment_first done) (record { who = next.who; inside = next.inside; one = next.one ∙ ap (λ (k : ℕ). k + 1) (same next.who next.inside); others = λ i lt ne. next.others i lt ne ∙ same i lt }) way,
    λ d mem. one_more nothing cs (λ all. off (all_alike r s c nothing same all)) (λ x h. rest x (Memᴰ.tail h)) mem,
  )

  from_start : {c : Cut} → ComesTo r s c → From c → From nothing
  from_start (begins same off) w = from_nothing same off w.1 w.2
  from_start (goes {c} d from m next off) w =
      from_start from (c ∷ w.0, step d (comes_moment from) next w.1, λ x mem. one_more c w.0 (comes_off from) w.2 mem)

  pub way_without : ComesTo r s r.did → (cs : List Cut) × Avoids r s cs
  way_without end =
      let w = from_start end (r.did ∷ [], there (comes_moment end) (λ i lt. refl), λ d mem. one_more r.did [] (comes_off end) (λ x h. elim h [ ]) mem) in
      (w.0, (w.1, w.2))

  -- along a way: a moment of all yes, or the end without one
  along : {c : Cut} {cs : List Cut} → ComesTo r s c → Way r c cs → ((d : Cut) × Memᴰ d cs × AllSay r s d) ⊎ ComesTo r s r.did
  along from (there m end) = inr (comes_alike r.did end from)
  along {c} from (step e m next way) =
      elim (all_or_not r s e) [
        | inl all ↦ inl (e, Memᴰ.tail (head_in way), all)
        | inr off ↦
            elim (along (goes e from (moment_of way) next off) way) [
              | inl (d, mem, all) ↦ inl (d, Memᴰ.tail mem, all)
              | inr end ↦ inr end
            ]
      ]
    where
      moment_of : {x : Cut} {xs : List Cut} → Way r x xs → Moment r x
      moment_of (there m' e') = m'
      moment_of (step e' m' n' w') = m'

  pub must_be : (ComesTo r s r.did → ⊥) → Must r s
  must_be never cs way =
      elim (all_or_not r s nothing) [
        | inl all ↦ (nothing, head_in way, all)
        | inr off ↦ elim (along (begins (λ i lt. refl) off) way) [ inl found ↦ found | inr end ↦ absurd (never end) ]
      ]

  pub must_not : ComesTo r s r.did → Must r s → ⊥
  must_not end must = let w = way_without end in let x = must w.0 w.1.0 in w.1.1 x.0 x.1 x.2

  back_less : (d : Cut) (i : ℕ) → i < r.count → 0 < d i → size r.count (back d i) < size r.count d
  back_less d i lt some = size_less r.count (back d i) d i (λ j _. back_below d i j) lt (omega (arith, back_here d i))

  comes_or_not : (fuel : ℕ) (d : Cut) → size r.count d < fuel → ComesTo r s d ⊎ (ComesTo r s d → ⊥)
  comes_or_not zero d enough = absurd (omega arith)
  comes_or_not (suc fuel) d enough =
      elim (moment_or_not r d) [
        | inr bad ↦ inr (λ x. bad (comes_moment x))
        | inl m ↦
            elim (all_or_not r s d) [
              | inl all ↦ inr (λ x. comes_off x all)
              | inr off ↦
                  elim (each_below (λ i. d i ≡ 0) (λ i. 0 < d i) r.count (λ i lt. elim (cases_lt 0 (d i)) [ inl h ↦ inr h | inr h ↦ inl (omega arith) ])) [
                    | inl none ↦ inl (begins none off)
                    | inr (k, k<, some) ↦
                        elim (each_below (λ i. 0 < d i → ComesTo r s (back d i) → ⊥) (λ i. (0 < d i) × ComesTo r s (back d i)) r.count (λ i lt.
                        elim (cases_lt 0 (d i)) [
                          | inr h ↦ inl (λ some x. absurd (omega arith))
                          | inl h ↦ elim (comes_or_not fuel (back d i) (omega (arith, back_less d i lt h))) [ inl x ↦ inr (h, x) | inr never ↦ inl (λ _. never) ]
                        ])) [
                          | inr (i, lt, (h, x)) ↦ inl (goes d x m (back_next r d i lt h) off)
                          | inl never ↦ inr (λ x. nowhere k k< some never x)
                        ]
                  ]
            ]
      ]
    where
      nowhere : (k : ℕ) → k < r.count → 0 < d k → ((i : ℕ) → i < r.count → 0 < d i → ComesTo r s (back d i) → ⊥) → ComesTo r s d → ⊥
      nowhere k k< some never (begins same off) = omega (arith, same k k<)
      nowhere k k< some never (goes {c} _ from m next off) = never next.who next.inside (omega (arith, next.one)) (comes_alike (back d next.who) (next_back r c d next) from)

pub must_decided : MustDecided
must_decided r done s =
    elim (comes_or_not r done s (suc (size r.count r.did)) r.did (omega arith)) [
      | inl end ↦ inr (way_without r done s end)
      | inr never ↦ inl (must_be r done s never)
    ]
