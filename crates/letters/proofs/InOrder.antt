-- Going through the doings in order, and noting each.
use Rattle.std.proofs.Common.{◌≡◌, ℕ, ◌+◌, ◌<◌, ◌≤◌, Bool, true, false, ◌⊎◌, List, length, is_some, Some, None, Option, sym, refl, ap, ◌∙◌, subst, inl, inr, true≢false, arith}
use native.Mathlib.Decide.{ℕ_discrete}
use Rattle.records.specs.declared.doing.Kind.{Kind}
use Rattle.records.specs.declared.doing.Kind.TheVariants.{Neither}
use Rattle.records.specs.Record.{Record, kind_of, did_of}
use Rattle.records.specs.Refusal.{Earlier, FirstPlace, Again}
use Rattle.records.specs.declared.place.Place.{Place}
use Rattle.letters.specs.declared.seen.Seen.{Seen}
use Rattle.letters.specs.Seen.{seen_at, Nothing, Put}
use Rattle.letters.specs.Noting.{place, Sofar, Noted}
use Rattle.records.proofs.KindEquality.{same_or_not}
use Rattle.letters.proofs.Machines.{within}

pub there : (o : Option Place) → is_some o ≡ true → (x : Place) × (o ≡ Some x)
there None h = absurd (true≢false (sym h))
there (Some x) h = (x, refl)

some_is : (x y : Place) → Some x ≡ Some y → x ≡ y
some_is x y e = cc

pub never : (x : Place) (A : Type 0) → ◌≡◌ {A = Option Place} None (Some x) → A
never x A e = absurd (true≢false (sym (ap is_some e)))

-- up to p means before p or at it
pub upto : (q : Place) (i m : ℕ) → Earlier q (place i (m + 1)) → Earlier q (place i m) ⊎ ((q.machine ≡ i) × (q.doing ≡ m))
upto q i m before = elim before [ inl h ↦ inl (inl h) | inr h ↦ elim (ℕ_discrete q.doing m) [ yes e ↦ inr (h.0, e) | no ne ↦ inl (inr (h.0, omega (arith, h.1))) ] ]

pub later : (q : Place) (i m : ℕ) → Earlier q (place i m) → Earlier q (place i (m + 1))
later q i m before = elim before [ inl h ↦ inl h | inr h ↦ inr (h.0, omega (arith, h.1)) ]

module _ (rs : List Record) where
  kind_at : (q : Place) (i m : ℕ) → q.machine ≡ i → q.doing ≡ m → kind_of rs q.machine q.doing ≡ kind_of rs i m
  kind_at q i m e f = ap (λ (j : ℕ). kind_of rs j q.doing) e ∙ ap (λ (n : ℕ). kind_of rs i n) f

  -- the doing at p does again what was noted
  pub again_here : (s t : Seen) (i m : ℕ) (x : Place) (b : Bool) → Sofar rs (place i m) s → Put s t (kind_of rs i m) x b → b ≡ true → Again rs (place i m)
  again_here s t i m x b so put yes-again =
      let old = there (seen_at s (kind_of rs i m)) (sym put.was ∙ yes-again) in
      let known = so.is (kind_of rs i m) old.0 old.1 in
      record {
        first = old.0;
        earlier = known.1;
        letter = λ e. never old.0 ⊥ (sym (ap (seen_at s) e) ∙ old.1);
        same = known.0;
      }

  pub first_again : (s t : Seen) (i m : ℕ) (x : Place) (b : Bool) → Sofar rs (place i m) s → Put s t (kind_of rs i m) x b → b ≡ true → FirstPlace (Again rs) (place i m)
  first_again s t i m x b so put yes-again = (again_here s t i m x b so put yes-again, λ q before h. so.once q before h)

  -- it doesn't: one more is noted
  not_here : (s t : Seen) (i m : ℕ) (x : Place) (b : Bool) → Sofar rs (place i m) s → Put s t (kind_of rs i m) x b → b ≡ false → Again rs (place i m) → ⊥
  not_here s t i m x b so put new a =
      let first = a.first in
      let seen : is_some (seen_at s (kind_of rs first.machine first.doing)) ≡ true = so.all first a.earlier (λ e. a.letter (sym a.same ∙ e)) in
      true≢false (sym seen ∙ ap (λ (k : Kind). is_some (seen_at s k)) a.same ∙ sym put.was ∙ new)

  pub one_more : (s t : Seen) (i m : ℕ) (x : Place) (b : Bool) → x.machine ≡ i → x.doing ≡ m → Sofar rs (place i m) s → Put s t (kind_of rs i m) x b → b ≡ false → Sofar rs (place i (m + 1)) t
  one_more s t i m x b e f so put new =
      let here_kind : kind_of rs x.machine x.doing ≡ kind_of rs i m = kind_at x i m e f in
      record {
        is = λ k y found. elim (same_or_not k (kind_of rs i m)) [
          | inl same ↦
              elim (same_or_not (kind_of rs i m) Neither) [
                | inl nothing ↦ never y _ (sym (ap (seen_at t) (same ∙ nothing)) ∙ found)
                | inr some ↦
                    let y_is : y ≡ x = some_is y x (sym found ∙ ap (seen_at t) same ∙ put.here some) in (
                      ap (λ (z : Place). kind_of rs z.machine z.doing) y_is ∙ here_kind ∙ sym same,
                      inr (ap (λ (z : Place). z.machine) y_is ∙ e, omega (arith, ap (λ (z : Place). z.doing) y_is)),
                    )
              ]
          | inr other ↦
              let known = so.is k y (sym (put.others k other) ∙ found) in (known.0, later y i m known.1)
        ];
        all = λ q before some. elim (upto q i m before) [
          | inl earlier ↦
              elim (same_or_not (kind_of rs q.machine q.doing) (kind_of rs i m)) [
                | inl same ↦ ap (λ (k : Kind). is_some (seen_at t k)) same ∙ ap is_some (put.here (λ z. some (same ∙ z)))
                | inr other ↦ ap is_some (put.others (kind_of rs q.machine q.doing) other) ∙ so.all q earlier some
              ]
          | inr at_it ↦
              let same : kind_of rs q.machine q.doing ≡ kind_of rs i m = kind_at q i m at_it.0 at_it.1 in
              ap (λ (k : Kind). is_some (seen_at t k)) same ∙ ap is_some (put.here (λ z. some (same ∙ z)))
        ];
        once = λ q before h. elim (upto q i m before) [
          | inl earlier ↦ so.once q earlier h
          | inr at_it ↦
              let P : Place → Type 0 = λ z. Again rs z in
              let q_is : q ≡ place i m = ap (λ (j : ℕ). place j q.doing) at_it.0 ∙ ap (λ (n : ℕ). place i n) at_it.1 in
              not_here s t i m x b so put new (subst P q_is h)
        ];
      }

  again_within : (q : Place) → Again rs q → (q.machine < length rs) × (1 ≤ q.doing) × (q.doing ≤ did_of rs q.machine)
  again_within q a = within rs q.machine q.doing a.letter

  -- on to the next machine
  pub crossed : (q : Place) (i n : ℕ) → did_of rs i ≤ n → 1 ≤ q.doing → q.doing ≤ did_of rs q.machine → Earlier q (place (i + 1) 1) → Earlier q (place i (n + 1))
  crossed q i n le pos fits before =
      elim before [
        | inl h ↦ elim (ℕ_discrete q.machine i) [ yes e ↦ inr (e, let same : did_of rs q.machine ≡ did_of rs i = ap (did_of rs) e in omega arith) | no ne ↦ inl (omega arith) ]
        | inr h ↦ absurd (omega (arith, h.1))
      ]

  pub next_machine : (s : Seen) (i n : ℕ) → did_of rs i ≤ n → Sofar rs (place i (n + 1)) s → Sofar rs (place (i + 1) 1) s
  next_machine s i n le so =
      record {
        is = λ k x found. let known = so.is k x found in (known.0, elim known.1 [ inl h ↦ inl (omega arith) | inr h ↦ inl (omega (arith, h.0)) ]);
        all = λ q before some. let w = within rs q.machine q.doing some in so.all q (crossed q i n le w.1 w.2 before) some;
        once = λ q before h. let w = again_within q h in so.once q (crossed q i n le w.1 w.2 before) h;
      }

  pub early : (q : Place) → Earlier q (place 0 1) → 1 ≤ q.doing → ⊥
  early q before pos = elim before [ inl h ↦ omega arith | inr h ↦ omega (arith, h.1) ]

  pub begun : (s : Seen) → Nothing s → Sofar rs (place 0 1) s
  begun s none =
      record {
        is = λ k x found. never x _ (sym (none k) ∙ found);
        all = λ q before some. absurd (early q before (within rs q.machine q.doing some).1);
        once = λ q before h. early q before (again_within q h).1;
      }

  pub over : (s : Seen) (n : ℕ) → length rs ≤ n → Sofar rs (place n 1) s → Noted rs s
  over s n le so =
      record {
        is = λ k x found. (so.is k x found).0;
        all = λ i m some. so.all (place i m) (inl (let w = within rs i m some in omega (arith, w.0))) some;
        once = λ q h. so.once q (inl (let w = again_within q h in omega (arith, w.0))) h;
      }
