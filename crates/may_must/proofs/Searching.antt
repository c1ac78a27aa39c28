-- What the search for the first moment keeps.
use Rattle.std.proofs.Common.{◌≡◌, ℕ, suc, ◌+◌, ◌*◌, ◌^◌, ◌<◌, ◌≤◌, max, true, false, ap, ◌∙◌, inl, inr, mul-le-mul, mul-le-mul_left, mul-one, mul-suc, mul-add, arith}
use Rattle.std.proofs.lemmas.Bool.{cases_eq, both_ways}
use Rattle.runs.specs.Run.{Run, Done}
use Rattle.runs.specs.Model.{counts_of}
use Rattle.runs.specs.Moment.{Cut, Moment}
use Rattle.order.specs.Vectors.{Vectors}
use Rattle.order.proofs.Sizes.{size, size_le, size_less, size_most}
use Rattle.moments.specs.Cuts.{Below, nothing, upper}
use Rattle.moments.specs.Vectors.{LowestWith}
use Rattle.moments.specs.Signs.{Says, AllSay}
use Rattle.moments.specs.Amounts.{doings}
use Rattle.moments.proofs.Laws.{lattice, moment_first, moment_alike}
use Rattle.moments.proofs.Totals.{size_is}
use Rattle.order.specs.declared.progress.Progress.{Progress}
use Rattle.may_must.specs.MaySearch.{Searched, begins, joins}

-- the cut is a moment, no moment of all yes is below it anywhere, and so much was compared
pub record SoFar (r : Run) (s : Says) (v : Vectors) (c : Cut) (pairs : ℕ) : Type 0 where
  pub moment : Moment r c
  pub low : (d : Cut) → Moment r d → AllSay r s d → Below r c d
  pub few : pairs ≤ r.count * size r.count c
  pub joins : ℕ
  pub searched : Searched r s v joins c
  pub each : pairs ≡ r.count * joins

-- the machines below n say yes, and none has gone on since the loop over them began
pub record Passed (r : Run) (s : Says) (v : Vectors) (begun now : Progress) (n : ℕ) : Type 0 where
  pub same : now ≡ begun
  pub so_far : SoFar r s v (counts_of now.cut) now.pairs
  pub below : (k : ℕ) → k < n → s k (counts_of now.cut k) ≡ true

pub begun : (r : Run) (s : Says) (v : Vectors) (c : Cut) → Done r → ((k : ℕ) → c k ≡ 0) → SoFar r s v c 0
begun r s v c done none = record {
  moment = moment_alike done nothing c (λ i lt. omega (arith, none i)) (moment_first done);
  low = λ d md all i lt. omega (arith, none i);
  few = omega arith;
  joins = 0;
  searched = begins (λ j lt. none j);
  each = omega arith;
}

-- a machine whose sign is no at the cut has gone on at every moment of all yes
past : {r : Run} {s : Says} {v : Vectors} {c : Cut} {p : ℕ} → SoFar r s v c p → (i : ℕ) → i < r.count → s i (c i) ≡ false → (d : Cut) → Moment r d → AllSay r s d → c i < d i
past {s = s} {c = c} so_far i lt off d md all =
    elim (cases_eq (c i) (d i)) [
      | inl e ↦ absurd (both_ways (s i (c i)) off (ap (s i) e ∙ all i lt))
      | inr ne ↦ omega (arith, so_far.low d md all i lt)
    ]

-- it goes on by one doing, and all others by what comes before that
module _ {r : Run} {s : Says} {v : Vectors} {c : Cut} {p : ℕ} (done : Done r) (so_far : SoFar r s v c p)
    (i m : ℕ) (lowest : LowestWith r i m (v i m)) (lt : i < r.count) (below : (j : ℕ) → j < i → s j (c j) ≡ true) (off : s i (c i) ≡ false) (next : m ≡ c i + 1) (most : m ≤ r.did i)
    (d : Cut) (is : (k : ℕ) → k < r.count → d k ≡ max (c k) (v i m k)) where
  there : Moment r d
  there = moment_alike done (upper c (v i m)) d (λ k h. omega (arith, is k h)) (lattice r c (v i m) so_far.moment lowest.moment).1

  lowly : (e : Cut) → Moment r e → AllSay r s e → Below r d e
  lowly e me all k h =
      let gone : m ≤ e i = omega (arith, past so_far i lt off e me all) in
      omega (arith, is k h, so_far.low e me all k h, lowest.lowest e me gone k h)

  more : size r.count c < size r.count d
  more = size_less r.count c d i (λ k h. omega (arith, is k h)) lt (omega (arith, is i lt, lowest.behind))

  pub on : (q : ℕ) → q ≡ p + r.count → SoFar r s v d q × (size r.count c < size r.count d) × (size r.count d ≤ size r.count r.did)
  on q is-q = (
    record {
      moment = there;
      low = lowly;
      few = omega (arith, so_far.few, mul-le-mul_left r.count more, mul-add r.count (size r.count c) 1, mul-one r.count);
      joins = suc so_far.joins;
      searched = joins i so_far.searched (record { inside = lt; below = below; here = off }) (omega arith) (λ j h. is j h ∙ ap (λ (x : ℕ). max (c j) (v i x j)) next);
      each = omega (arith, so_far.each, is-q, mul-suc r.count so_far.joins);
    },
    more,
    size_le r.count d r.did there.inside,
  )

pub few_pairs : {r : Run} {s : Says} {v : Vectors} {c : Cut} {p : ℕ} → SoFar r s v c p → p ≤ r.count * doings r
few_pairs {r} {c = c} so_far = omega (arith, so_far.few, mul-le-mul_left r.count (size_le r.count c r.did so_far.moment.inside), ap (λ (x : ℕ). r.count * x) (size_is r.count r.did))

pub room : {r : Run} {s : Says} {v : Vectors} {c : Cut} {p : ℕ} → SoFar r s v c p → r.count ≤ 40 → ((k : ℕ) → k < r.count → r.did k ≤ 500) → p + 40 < 2 ^ 64
room {r} {c = c} so_far forty short =
    let d : size r.count c ≤ 20000 = omega (arith, size_most r.count 500 c (λ k h. omega (arith, so_far.moment.inside k h, short k h))) in
    omega (arith, so_far.few, mul-le-mul forty d)
