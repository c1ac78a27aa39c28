-- What comes before doings that are behind a moment, and which doings lead from a moment to a moment.
use Rattle.std.proofs.Common.{◌≡◌, ℕ, ◌+◌, ◌<◌, ◌≤◌, Some, None, Option, sym, refl, ap, subst, inl, inr, ⊎_elim, arith}
use Rattle.std.proofs.lemmas.Bool.{cases_lt, cases_eq}
use Rattle.records.specs.declared.place.Place.{Place}
use Rattle.runs.specs.Run.{Run, Before, own, letter, through}
use Rattle.runs.specs.Moment.{Moment, Cut}
use Rattle.runs.proofs.Linked.{Linked, Sending}
use Rattle.order.specs.Steps.{UpTo, Ready}

-- what comes before a doing that is behind a moment is behind it
pub behind : {r : Run} {c : Cut} {i m j n : ℕ} → Moment r c → Before r i m j n → n ≤ c j → m ≤ c i
behind moment (own m<n _ _) h = omega arith
behind moment (letter l mem) h = moment.closed l mem h
behind moment (through k o first second) h = behind moment first (behind moment second h)

pub upto_behind : {r : Run} {c : Cut} {i m j n : ℕ} → Moment r c → UpTo r i m j n → n ≤ c j → m ≤ c i
upto_behind {c = c} moment (inl (i=j, m=n)) h = let e = ap c i=j in omega arith
upto_behind moment (inr b) h = behind moment b h

pub upto_own : {r : Run} {i : ℕ} (k m : ℕ) → 1 ≤ k → k ≤ m → m ≤ r.did i → UpTo r i k i m
upto_own k m one le most = ⊎_elim (λ lt. inr (own lt one most)) (λ ge. inl (refl, omega arith)) (cases_lt k m)

pub upto_trans : {r : Run} {a x i k j n : ℕ} → UpTo r a x i k → UpTo r i k j n → UpTo r a x j n
upto_trans {r} {a} {x} {i} {k} {j} {n} (inl (e, f)) b = subst (λ y. UpTo r y x j n) (sym e) (subst (λ y. UpTo r i y j n) (sym f) b)
upto_trans {r} {a} {x} {i} {k} {j} {n} (inr p) (inl (e, f)) = inr (subst (λ y. Before r a x y n) e (subst (λ y. Before r a x i y) f p))
upto_trans {i = i} {k = k} (inr p) (inr q) = inr (through i k p q)

-- what has been sent stays sent
pub ready_up : (o : Option Place) (c d : Cut) → ((i : ℕ) → c i ≤ d i) → Ready o c → Ready o d
ready_up None c d up ready = tt
ready_up (Some p) c d up ready = omega (arith, up p.machine)

-- a cut is a moment exactly if what the doings behind it got has been sent behind it
pub moment_ready : {r : Run} {sending : Sending} {c : Cut} → Linked r sending → Moment r c → (j m : ℕ) → j < r.count → 1 ≤ m → m ≤ c j → Ready (sending j m) c
moment_ready {r} {sending} {c} linked moment j m j< one m≤ = at (sending j m) refl
  where
    at : (o : Option Place) → sending j m ≡ o → Ready o c
    at None is = tt
    at (Some p) is = moment.closed _ (linked.sent p j m j< one (omega (arith, moment.inside j j<)) is) m≤

pub ready_moment : {r : Run} {sending : Sending} {c : Cut} → Linked r sending → ((i : ℕ) → i < r.count → c i ≤ r.did i) → ((j m : ℕ) → j < r.count → 1 ≤ m → m ≤ c j → Ready (sending j m) c) → Moment r c
ready_moment {c = c} linked inside ready = record {
  inside = inside;
  closed = λ l mem h.
      let P : Option Place → Type 0 = λ o. Ready o c in
      subst P (linked.got l mem) (ready l.to l.got (linked.range l mem).1 (linked.range l mem).4 h);
}

-- one doing more, of which that holds, leads to a moment
pub moment_next : {r : Run} {sending : Sending} {c : Cut} → Linked r sending → Moment r c → (j : ℕ) (d : Cut) → d j ≡ c j + 1 → ((k : ℕ) → (k ≡ j → ⊥) → d k ≡ c k) → d j ≤ r.did j → Ready (sending j (d j)) d → Moment r d
moment_next {r} {sending} {c} linked moment j d one rest most ready = ready_moment linked inside each
  where
    inside : (i : ℕ) → i < r.count → d i ≤ r.did i
    inside i i< = ⊎_elim (λ e. omega (arith, ap d e, ap r.did e)) (λ ne. omega (arith, rest i ne, moment.inside i i<)) (cases_eq i j)

    up : (i : ℕ) → c i ≤ d i
    up i = ⊎_elim (λ e. omega (arith, ap c e, ap d e)) (λ ne. omega (arith, rest i ne)) (cases_eq i j)

    new : (i m : ℕ) → (i ≡ j) × (m ≡ d j) → Ready (sending i m) d
    new i m (e, f) = subst (λ x. Ready (sending x m) d) (sym e) (subst (λ y. Ready (sending j y) d) (sym f) ready)

    each : (i m : ℕ) → i < r.count → 1 ≤ m → m ≤ d i → Ready (sending i m) d
    each i m i< some m≤ =
        ⊎_elim
        (λ old. ready_up (sending i m) c d up (moment_ready linked moment i m i< some old))
        (λ late.
        let e : i ≡ j = ⊎_elim (λ e. e) (λ ne. absurd (omega (arith, rest i ne))) (cases_eq i j) in
        new i m (e, omega (arith, ap c e, ap d e)))
        (⊎_elim inr inl (cases_lt (c i) m))
