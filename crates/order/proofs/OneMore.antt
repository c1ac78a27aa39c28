-- One doing more is ordered.
use Rattle.std.proofs.Common.{◌≡◌, ℕ, ◌+◌, ◌<◌, ◌≤◌, max, ◌⊎◌, Some, None, Option, sym, refl, ap, ◌∙◌, subst, inl, inr, ⊎_elim, arith}
use mathlib.Core.List.{Memᴰ}
use Rattle.std.proofs.lemmas.Bool.{cases_lt, cases_eq}
use Rattle.letters.specs.declared.letter.Letter.{Letter}
use Rattle.records.specs.declared.place.Place.{Place}
use Rattle.runs.specs.Run.{Run, Sound, Before, own, letter, through}
use Rattle.runs.specs.Moment.{Moment, Cut}
use Rattle.order.specs.Vectors.{Vectors, VectorsOf}
use Rattle.order.specs.Steps.{UpTo}
use Rattle.runs.proofs.Linked.{Linked, Sending, came_from}
use Rattle.order.specs.Steps.{Ready, told, Row, Done}
use Rattle.order.proofs.Behind.{behind, upto_behind, upto_own, upto_trans, ready_up, moment_next}

-- what something comes before is a doing
pub after_one : {r : Run} {sending : Sending} {i m j n : ℕ} → Linked r sending → Before r i m j n → 1 ≤ n
after_one linked (own m<n one _) = omega arith
after_one linked (letter l mem) = (linked.range l mem).4
after_one linked (through k o first second) = after_one linked second

-- nothing behind, and no doing
pub moment_none : {r : Run} {sending : Sending} {c : Cut} → Linked r sending → ((i : ℕ) → i < r.count → c i ≡ 0) → Moment r c
moment_none linked none = record {
  inside = λ i i<. omega (arith, none i i<);
  closed = λ l mem h. absurd (omega (arith, none l.to (linked.range l mem).1, (linked.range l mem).4));
}

-- a row is behind each moment that has its doing behind it
pub row_low : {r : Run} {j m : ℕ} {w c : Cut} → Row r j m w → Moment r c → m ≤ c j → (i : ℕ) → i < r.count → w i ≤ c i
row_low {w = w} row moment h i i< = ⊎_elim (λ some. upto_behind moment (row.reached i i< some) h) (λ none. omega arith) (cases_lt 0 (w i))

-- what comes before the next doing, if that is ready, is behind
pub fresh : {r : Run} {sending : Sending} {c : Cut} {i k j m : ℕ} → Linked r sending → Moment r c → Before r i k j m → Ready (sending j m) c → m ≡ c j + 1 → k ≤ c i
fresh linked moment (own m<n _ _) ready next = omega arith
fresh {c = c} linked moment (letter l mem) ready next = let P : Option Place → Type 0 = λ k. Ready k c in subst P (linked.got l mem) ready
fresh linked moment (through k o first second) ready next = behind moment first (fresh linked moment second ready next)

-- what comes with a letter that has been sent: a moment, behind the cut
pub told_moment : {r : Run} {sending : Sending} {v : Vectors} {c : Cut} → Linked r sending → Done r v c → (j m : ℕ) → j < r.count → 1 ≤ m → m ≤ r.did j → (o : Option Place) → sending j m ≡ o → Ready o c
    → Moment r (told v o) × ((i : ℕ) → i < r.count → told v o i ≤ c i) × ((i : ℕ) → i < r.count → 1 ≤ told v o i → UpTo r i (told v o i) j m)
told_moment linked ordered j m j< one m≤ None is ready = (moment_none linked (λ i i<. refl), (λ i i<. omega arith), (λ i i< some. absurd (omega arith)))
told_moment linked ordered j m j< one m≤ (Some p) is ready =
    let mem = linked.sent p j m j< one m≤ is in
    let row = ordered.rows p.machine p.doing (linked.range _ mem).0 ready in
    (row.moment, row_low row ordered.moment ready, λ i i< some. upto_trans (row.reached i i< some) (inr (letter _ mem)))

-- the next doing's row
pub next_row : {r : Run} {sending : Sending} {v : Vectors} {c : Cut} → Linked r sending → Done r v c → (j n m : ℕ) → j < r.count → n ≡ c j → m ≡ n + 1 → m ≤ r.did j → Ready (sending j m) c
    → (w : Cut) → w j ≡ m → ((k : ℕ) → k < r.count → (k ≡ j → ⊥) → w k ≡ max (v j n k) (told v (sending j m) k)) → Row r j m w
next_row {r} {sending} {v} {c} linked ordered j n m j< n= m= m≤ ready w here there = record {
  own = omega arith;
  moment = record { inside = inner; closed = shut };
  reached = λ i i< some. ⊎_elim (λ e. inl (e, ap w e ∙ here)) (λ ne. far i i< ne some) (cases_eq i j);
}
  where
    one : 1 ≤ m
    one = omega arith

    old : Row r j n (v j n)
    old = ordered.rows j n j< (omega arith)

    new : Moment r (told v (sending j m)) × ((i : ℕ) → i < r.count → told v (sending j m) i ≤ c i) × ((i : ℕ) → i < r.count → 1 ≤ told v (sending j m) i → UpTo r i (told v (sending j m) i) j m)
    new = told_moment linked ordered j m j< one m≤ (sending j m) refl ready

    inner : (i : ℕ) → i < r.count → w i ≤ r.did i
    inner i i< =
        ⊎_elim
        (λ e. omega (arith, ap w e, ap r.did e))
        (λ ne. omega (arith, there i i< ne, old.moment.inside i i<, new.0.inside i i<))
        (cases_eq i j)

    -- what is behind a part of it is behind it
    wide : (i x : ℕ) → i < r.count → x ≤ c i → (x ≤ v j n i) ⊎ (x ≤ told v (sending j m) i) → x ≤ w i
    wide i x i< low parts =
        ⊎_elim
        (λ e. omega (arith, ap w e, ap c e))
        (λ ne. ⊎_elim (λ a. omega (arith, there i i< ne)) (λ b. omega (arith, there i i< ne)) parts)
        (cases_eq i j)

    by_old : (l : Letter) → Memᴰ l r.letters → l.got ≤ v j n l.to → l.sent ≤ w l.from
    by_old l mem h =
        let from< = (linked.range l mem).0 in
        let part = old.moment.closed l mem h in
        wide l.from l.sent from< (omega (arith, row_low old ordered.moment (omega arith) l.from from<)) (inl part)

    by_new : (l : Letter) → Memᴰ l r.letters → l.got ≤ told v (sending j m) l.to → l.sent ≤ w l.from
    by_new l mem h =
        let from< = (linked.range l mem).0 in
        let part = new.0.closed l mem h in
        wide l.from l.sent from< (omega (arith, new.1 l.from from<)) (inr part)

    by_own : (l : Letter) → Memᴰ l r.letters → l.to ≡ j → l.got ≡ m → l.sent ≤ w l.from
    by_own l mem e g =
        let from< = (linked.range l mem).0 in
        let is : sending j m ≡ Some (came_from l) = subst (λ a. sending a m ≡ Some (came_from l)) e (subst (λ b. sending l.to b ≡ Some (came_from l)) g (linked.got l mem)) in
        let low : l.sent ≤ c l.from = let P : Option Place → Type 0 = λ k. Ready k c in subst P is ready in
        let part : l.sent ≤ told v (sending j m) l.from = subst (λ k. l.sent ≤ told v k l.from) (sym is) (ordered.rows l.from l.sent from< low).own in
        wide l.from l.sent from< low (inr part)

    shut : (l : Letter) → Memᴰ l r.letters → l.got ≤ w l.to → l.sent ≤ w l.from
    shut l mem h =
        let to< = (linked.range l mem).1 in
        ⊎_elim
        (λ e. ⊎_elim (λ g. by_own l mem e g) (λ ne. by_old l mem (omega (arith, ap w e, ap (v j n) e, old.own))) (cases_eq l.got m))
        (λ ne. ⊎_elim (λ lt. by_new l mem (omega (arith, there l.to to< ne))) (λ ge. by_old l mem ge) (cases_lt (v j n l.to) l.got))
        (cases_eq l.to j)

    far : (i : ℕ) → i < r.count → (i ≡ j → ⊥) → 1 ≤ w i → UpTo r i (w i) j m
    far i i< ne some =
        ⊎_elim
        (λ lt.
        let is : w i ≡ told v (sending j m) i = omega (arith, there i i< ne) in
        subst (λ x. UpTo r i x j m) (sym is) (new.2 i i< (omega arith)))
        (λ ge.
        let is : w i ≡ v j n i = omega (arith, there i i< ne) in
        let step = old.reached i i< (omega arith) in
        subst (λ x. UpTo r i x j m) (sym is) (upto_trans step (inr (own (omega arith) (some_step i (v j n i) ne step) m≤))))
        (cases_lt (v j n i) (told v (sending j m) i))
      where
        some_step : (i x : ℕ) → (i ≡ j → ⊥) → UpTo r i x j n → 1 ≤ n
        some_step i x ne (inl (e, _)) = absurd (ne e)
        some_step i x ne (inr b) = after_one linked b

-- nothing is ordered at first
pub done_none : {r : Run} {sending : Sending} (v : ℕ → ℕ → Cut) (c : Cut) → Linked r sending → ((k : ℕ) → c k ≡ 0) → ((j k : ℕ) → j < r.count → v j 0 k ≡ 0) → Done r v c
done_none {r} v c linked none rows = record {
  moment = moment_none linked (λ i i<. none i);
  rows = λ j m j< m≤. let z : 0 ≡ m = omega (arith, none j) in subst (λ x. Row r j x (v j x)) z (first j j<);
  no_ring = λ j m j< m≤ ring. omega (arith, none j, after_one linked ring);
}
  where
    first : (j : ℕ) → j < r.count → Row r j 0 (v j 0)
    first j j< = record {
      own = omega arith;
      moment = moment_none linked (λ i i<. rows j i j<);
      reached = λ i i< some. absurd (omega (arith, rows j i j<));
    }

-- one more is, and the rest stays
pub done_next : {r : Run} {sending : Sending} {v : Vectors} {c : Cut} → Linked r sending → Done r v c → (j n m : ℕ) → j < r.count → n ≡ c j → m ≡ n + 1 → m ≤ r.did j → Ready (sending j m) c
    → (u : ℕ → ℕ → Cut) → u j m j ≡ m → ((k : ℕ) → k < r.count → (k ≡ j → ⊥) → u j m k ≡ max (v j n k) (told v (sending j m) k))
    → ((a b : ℕ) → a < r.count → b ≤ c a → u a b ≡ v a b)
    → (d : Cut) → d j ≡ m → ((k : ℕ) → (k ≡ j → ⊥) → d k ≡ c k) → Done r u d
done_next {r} {sending} {v} {c} linked ordered j n m j< n= m= m≤ ready u here there same d now rest = record {
  moment = moment_next linked ordered.moment j d (omega arith) rest (omega arith) (ready_up (sending j (d j)) c d up (subst (λ x. Ready (sending j x) c) (sym now) ready));
  rows = λ a b a< b≤. ⊎_elim (λ e. is_row a b a< e) (λ old. subst (λ w. Row r a b w) (sym (same a b a< old)) (ordered.rows a b a< old)) (place a b b≤);
  no_ring = λ a b a< b≤ ring. ⊎_elim (λ e. no_ring a b e ring) (λ old. ordered.no_ring a b a< old ring) (place a b b≤);
}
  where
    up : (k : ℕ) → c k ≤ d k
    up k = ⊎_elim (λ e. omega (arith, ap c e, ap d e)) (λ ne. omega (arith, rest k ne)) (cases_eq k j)

    place : (a b : ℕ) → b ≤ d a → ((a ≡ j) × (b ≡ m)) ⊎ (b ≤ c a)
    place a b b≤ =
        ⊎_elim
        (λ e. ⊎_elim (λ f. inl (e, f)) (λ ne. inr (omega (arith, ap c e, ap d e))) (cases_eq b m))
        (λ ne. inr (omega (arith, rest a ne)))
        (cases_eq a j)

    is_row : (a b : ℕ) → a < r.count → (a ≡ j) × (b ≡ m) → Row r a b (u a b)
    is_row a b a< (e, f) =
        subst (λ x. Row r x b (u x b)) (sym e) (subst (λ y. Row r j y (u j y)) (sym f) (next_row linked ordered j n m j< n= m= m≤ ready (u j m) here there))

    no_ring : (a b : ℕ) → (a ≡ j) × (b ≡ m) → Before r a b a b → ⊥
    no_ring a b (e, f) ring =
        let moved : Before r j m j m = subst (λ x. Before r x m x m) e (subst (λ y. Before r a y a y) f ring) in
        omega (arith, fresh linked ordered.moment moved ready (omega arith))

before_done : {r : Run} {sending : Sending} {i m j n : ℕ} → Linked r sending → Before r i m j n → m ≤ r.did i
before_done linked (own m<n _ n≤) = omega arith
before_done linked (letter l mem) = (linked.range l mem).3
before_done linked (through k o first second) = before_done linked first

outside : {r : Run} {sending : Sending} {i m j n : ℕ} → Linked r sending → Before r i m j n → r.count ≤ j → (i ≡ j) × (m < n)
outside linked (own m<n _ _) far = (refl, m<n)
outside linked (letter l mem) far = absurd (omega (arith, (linked.range l mem).1))
outside linked (through k o first second) far =
    let late = outside linked second far in
    let early = outside linked first (omega (arith, late.0)) in
    (early.0 ∙ late.0, omega (arith, early.1, late.1))

-- when all is ordered, nothing comes before itself, and the rows are what they are to be
pub done_all : {r : Run} {sending : Sending} {v : Vectors} {c : Cut} → Linked r sending → 1 ≤ r.count → Done r v c → ((k : ℕ) → k < r.count → r.did k ≤ c k) → Sound r × VectorsOf r v
done_all {r} {sending} {v} {c} linked some ordered end =
    (record { some = some; letters = linked.range; no_ring = none }, record { inside = λ j n i j< i< one n≤. (row j n j< n≤).moment.inside i i<; own = own_is; before = before; only = only; moment = λ j n j< one n≤. (row j n j< n≤).moment })
  where
    none : (i m : ℕ) → Before r i m i m → ⊥
    none i m ring =
        ⊎_elim
        (λ lt. ordered.no_ring i m lt (omega (arith, end i lt, before_done linked ring)) ring)
        (λ ge. omega (arith, (outside linked ring ge).1))
        (cases_lt i r.count)

    row : (j n : ℕ) → j < r.count → n ≤ r.did j → Row r j n (v j n)
    row j n j< n≤ = ordered.rows j n j< (omega (arith, end j j<))

    before : (i m j n : ℕ) → i < r.count → j < r.count → 1 ≤ m → 1 ≤ n → n ≤ r.did j → Before r i m j n → m ≤ v j n i
    before i m j n i< j< one some n≤ b = behind (row j n j< n≤).moment b (row j n j< n≤).own

    turned : {i m j n : ℕ} → UpTo r i m j n → Before r i m j n ⊎ ((i ≡ j) × (m ≡ n))
    turned (inl same) = inr same
    turned (inr b) = inl b

    only : (i m j n : ℕ) → i < r.count → j < r.count → 1 ≤ m → 1 ≤ n → n ≤ r.did j → m ≤ v j n i → Before r i m j n ⊎ ((i ≡ j) × (m ≡ n))
    only i m j n i< j< one some n≤ m≤ =
        let w = row j n j< n≤ in
        turned (upto_trans (upto_own m (v j n i) one m≤ (w.moment.inside i i<)) (w.reached i i< (omega arith)))

    own_is : (j n : ℕ) → j < r.count → 1 ≤ n → n ≤ r.did j → v j n j ≡ n
    own_is j n j< one n≤ =
        let w = row j n j< n≤ in
        ⊎_elim (λ same. same.1) (λ b. absurd (⊎_elim (λ lt. none j n (through j (v j n j) (own lt one (w.moment.inside j j<)) b)) (λ ge. let e : v j n j ≡ n = omega (arith, w.own) in none j n (let P : ℕ → Type 0 = λ x. Before r j x j n in subst P e b)) (cases_lt n (v j n j)))) (w.reached j j< (omega (arith, w.own)))
