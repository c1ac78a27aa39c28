-- From every moment below another the run can go on by one doing, and stay below the other.
use Rattle.std.proofs.Common.{◌≡◌, ℕ, zero, suc, ◌+◌, ◌-◌, ◌<◌, ◌≤◌, eqb, ◌⊎◌, sym, refl, ap, ◌∙◌, subst, inl, inr, arith}
use mathlib.Core.List.{Memᴰ}
use Rattle.std.proofs.lemmas.Bool.{cases_eq, cases_lt, eq-eqb, ne_eqb, cond-true, cond-false}
use Rattle.letters.specs.declared.letter.Letter.{Letter}
use Rattle.runs.specs.Run.{Run, Sound, Before, own, letter, through}
use Rattle.runs.specs.Moment.{Cut, Moment}
use Rattle.moments.specs.Cuts.{Alike, Below}
use Rattle.moments.specs.Ways.{Next, go_on, Toward, GoesOn}
use Rattle.moments.proofs.Decided.{each_below, each_in}
use Rattle.moments.proofs.Put.{put, puts, put_here, put_else}
use Rattle.moments.proofs.Laws.{moment_last, moment_alike}

-- the machine that goes on has one doing more, the others are as they were
pub on_cases : (c : Cut) (who i : ℕ) → ((i ≡ who) × (go_on c who i ≡ c i + 1)) ⊎ ((i ≡ who → ⊥) × (go_on c who i ≡ c i))
on_cases c who i =
    elim (cases_eq i who) [
      | inl e ↦ inl (e, cond-true (eqb i who) (c i + 1) (c i) (eq-eqb i who e))
      | inr ne ↦ inr (ne, cond-false (eqb i who) (c i + 1) (c i) (ne_eqb i who ne))
    ]

pub on_here : (c : Cut) (who : ℕ) → go_on c who who ≡ c who + 1
on_here c who = elim (on_cases c who who) [ inl x ↦ x.1 | inr x ↦ absurd (x.0 refl) ]

pub on_others : (c : Cut) (who i : ℕ) → (i ≡ who → ⊥) → go_on c who i ≡ c i
on_others c who i ne = elim (on_cases c who i) [ inl x ↦ absurd (ne x.0) | inr x ↦ x.1 ]

pub on_next : (r : Run) (c : Cut) (who : ℕ) → who < r.count → Next r c (go_on c who)
on_next r c who lt = record { who = who; inside = lt; one = on_here c who; others = λ i _ ne. on_others c who i ne }

pub next_up : (r : Run) (c d : Cut) → Next r c d → Below r c d
next_up r c d next i lt = elim (cases_eq i next.who) [ inl e ↦ omega (arith, ap c e, ap d e, next.one) | inr ne ↦ omega (arith, next.others i lt ne) ]

-- one doing of a machine less
pub back : Cut → ℕ → Cut
back d i = put d i (d i - 1)

pub back_here : (d : Cut) (i : ℕ) → back d i i ≡ d i - 1
unfolding back
back_here d i = put_here d i (d i - 1)

pub back_below : (d : Cut) (i j : ℕ) → back d i j ≤ d j
unfolding back
back_below d i j = grind (arith, puts d i (d i - 1) j)

pub back_else : (d : Cut) (i j : ℕ) → (j ≡ i → ⊥) → d j ≡ back d i j
unfolding back
back_else d i j ne = sym (put_else d i (d i - 1) j ne)

pub back_next : (r : Run) (d : Cut) (i : ℕ) → i < r.count → 0 < d i → Next r (back d i) d
back_next r d i lt some = record { who = i; inside = lt; one = omega (arith, back_here d i); others = λ j _ ne. back_else d i j ne }

pub next_back : (r : Run) (c d : Cut) (next : Next r c d) → Alike r c (back d next.who)
unfolding back
next_back r c d next i lt =
    let who = next.who in
    elim (puts d who (d who - 1) i) [
      | inl (e, is) ↦ omega (arith, is, ap c e, next.one)
      | inr (ne, is) ↦ sym (next.others i lt ne) ∙ sym is
    ]

-- Among finitely many, in an order in which nothing is before itself, one can go back only so often: back gives, of each below n in S, an answer or another in S before it.
module _ (A : Type 0) (S : ℕ → Type 0) (B : ℕ → ℕ → Type 0) (trans : (i j k : ℕ) → B i j → B j k → B i k) (apart : (i : ℕ) → B i i → ⊥) where
  abbrev Back : ℕ → Type 0
  Back n = (i : ℕ) → i < n → S i → A ⊎ ((k : ℕ) × (k < n) × S k × B k i)

  -- the last can be left out: who would go back to it goes on to where it goes back to
  fewer : (n : ℕ) → Back (suc n) → Back n
  fewer n back i h s =
      elim (back i (omega arith) s) [
        | inl a ↦ inl a
        | inr x ↦ elim (cases_eq x.0 n) [ inr ne ↦ inr (x.0, omega (arith, x.1), x.2, x.3) | inl e ↦ past x e ]
      ]
    where
      past : (x : (k : ℕ) × (k < suc n) × S k × B k i) → x.0 ≡ n → A ⊎ ((k : ℕ) × (k < n) × S k × B k i)
      past x e =
          elim (back x.0 x.1 x.2) [
            | inl a ↦ inl a
            | inr y ↦
                elim (cases_eq y.0 n) [
                  | inr ne ↦ inr (y.0, omega (arith, y.1), y.2, trans y.0 x.0 i y.3 x.3)
                  | inl f ↦ absurd (apart x.0 (subst (λ z. B z x.0) (f ∙ sym e) y.3))
                ]
          ]

  lowest : (n : ℕ) → Back n → (i : ℕ) → i < n → S i → A
  lowest zero back i h s = absurd (omega arith)
  lowest (suc n) back i h s =
      elim (cases_eq i n) [
        | inr ne ↦ lowest n (fewer n back) i (omega arith) s
        | inl e ↦
            elim (back i h s) [
              | inl a ↦ a
              | inr x ↦
                  elim (cases_eq x.0 n) [
                    | inr ne ↦ lowest n (fewer n back) x.0 (omega (arith, x.1)) x.2
                    | inl f ↦ absurd (apart i (subst (λ z. B z i) (f ∙ sym e) x.3))
                  ]
            ]
      ]

-- what a moment asks of one letter, and how it fails
abbrev pub Kept : Cut → Letter → Type 0
Kept d l = l.got ≤ d l.to → l.sent ≤ d l.from

abbrev pub Broken : Cut → Letter → Type 0
Broken d l = (l.got ≤ d l.to) × (d l.from < l.sent)

pub kept_or_broken : (d : Cut) (l : Letter) → Kept d l ⊎ Broken d l
kept_or_broken d l = grind (arith, cases_lt (d l.from) l.sent, cases_lt (d l.to) l.got)

-- an earlier doing of the machine comes before all that a later one comes before
earlier : (r : Run) {i m j n : ℕ} (o : ℕ) → 1 ≤ o → o ≤ m → m ≤ r.did i → Before r i m j n → Before r i o j n
earlier r {i} {m} {j} {n} o one le most b =
    elim (cases_eq o m) [ inl e ↦ subst (λ z. Before r i z j n) (sym e) b | inr ne ↦ through i m (own (omega arith) one most) b ]

module _ (r : Run) (sound : Sound r) (x y : Cut) (mx : Moment r x) (my : Moment r y) (under : Below r x y) where
  abbrev Onward : Type 0
  Onward = (d : Cut) × Moment r d × Next r x d × Below r d y

  -- machine i's next doing comes before machine j's next
  abbrev Earlier : ℕ → ℕ → Type 0
  Earlier i j = Before r i (x i + 1) j (x j + 1)

  below_on : (i : ℕ) → x i < y i → Below r (go_on x i) y
  below_on i h j lt = grind (arith, on_cases x i j)

  -- what the next doing gets has yet to be sent: then its sender has yet to go on
  waits : (l : Letter) → Memᴰ l r.letters → x l.to < y l.to → l.got ≡ x l.to + 1 → x l.from < l.sent → (k : ℕ) × (k < r.count) × (x k < y k) × Earlier k l.to
  waits l mem h e late = (
    l.from,
    (sound.letters l mem).0,
    omega (arith, my.closed l mem (omega arith)),
    earlier r (x l.from + 1) (omega arith) (omega arith) (sound.letters l mem).3 (subst (λ z. Before r l.from l.sent l.to z) e (letter l mem)),
  )

  blocked : (i : ℕ) → x i < y i → (l : Letter) → Memᴰ l r.letters → Broken (go_on x i) l → (k : ℕ) × (k < r.count) × (x k < y k) × Earlier k i
  blocked i h l mem z =
      let late : x l.from < l.sent = grind (arith, on_cases x i l.from, z.1) in
      let new : x l.to < l.got = grind (arith, mx.closed l mem) in
      elim (on_cases x i l.to) [
        | inl e ↦ subst (λ j. (k : ℕ) × (k < r.count) × (x k < y k) × Earlier k j) e.0 (waits l mem (subst (λ j. x j < y j) (sym e.0) h) (omega (arith, e.1, z.0)) late)
        | inr e ↦ absurd (omega (arith, e.1, z.0))
      ]

  tries : (i : ℕ) → i < r.count → x i < y i → Onward ⊎ ((k : ℕ) × (k < r.count) × (x k < y k) × Earlier k i)
  tries i lt h =
      elim (each_in (Kept (go_on x i)) (Broken (go_on x i)) (kept_or_broken (go_on x i)) r.letters) [
        | inl all ↦ inl (go_on x i, record { inside = λ j q. omega (arith, below_on i h j q, my.inside j q); closed = all }, on_next r x i lt, below_on i h)
        | inr z ↦ inr (blocked i h z.0 z.1 z.2)
      ]

  onward : (i : ℕ) → i < r.count → x i < y i → Onward
  onward = lowest Onward (λ i. x i < y i) Earlier (λ i j k p q. through j (x j + 1) p q) (λ i b. sound.no_ring i (x i + 1) b) r.count tries

pub toward : Toward
toward r sound x y mx my under =
    elim (each_below (λ i. y i ≤ x i) (λ i. x i < y i) r.count (λ i lt. elim (cases_lt (x i) (y i)) [ inl h ↦ inr h | inr h ↦ inl h ])) [
      | inl all ↦ inl (λ i lt. omega (arith, all i lt, under i lt))
      | inr z ↦ inr (onward r sound x y mx my under z.0 z.1 z.2)
    ]

pub goes_on : GoesOn
goes_on r sound c mc = elim (toward r sound c r.did mc (moment_last sound.letters) mc.inside) [ inl e ↦ inl e | inr z ↦ inr (z.0, z.1, z.2) ]

-- where no machine can go on toward a later moment, it has been come to
pub arrived : (r : Run) → Sound r → (c d : Cut) → Moment r c → Moment r d → Below r c d → ((k : ℕ) → k < r.count → c k < d k → Moment r (go_on c k) → ⊥) → Alike r c d
arrived r sound c d mc md under stuck =
    elim (toward r sound c d mc md under) [
      | inl same ↦ same
      | inr (e, me, next, low) ↦
          let who = next.who in
          absurd (stuck who next.inside (omega (arith, next.one, low who next.inside))
          (moment_alike sound.letters e (go_on c who) (λ i lt. elim (on_cases c who i) [ inl (q, is) ↦ omega (arith, is, ap c q, ap e q, next.one) | inr (ne, is) ↦ next.others i lt ne ∙ sym is ]) me))
    ]
