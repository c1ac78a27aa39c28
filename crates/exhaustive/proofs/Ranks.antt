-- A cut's number among all.
use Rattle.std.proofs.Common.{◌≡◌, ℕ, zero, suc, ◌+◌, ◌*◌, ◌/◌, ◌%◌, ◌<◌, ◌≤◌, sym, refl, ap, ◌∙◌, inl, inr, mul-le-mul_right, mul_comm, add-mul, mul-pos, one-mul, add-one, arith}
use lib.Arith.{digits_lt, digits_div, digits_mod}
use Rattle.std.proofs.lemmas.Bool.{cases_eq, cases_order}
use Rattle.runs.specs.Run.{Run}
use Rattle.runs.specs.Moment.{Cut}
use Rattle.moments.specs.Cuts.{Below, nothing}
use Rattle.runs.specs.Moment.{LowestLeft}
use Rattle.exhaustive.specs.Counter.{weight, rank, cuts_of, rank_of, Numbering}

-- one more of what counts so much
one_more : (n w : ℕ) → (n + 1) * w ≡ n * w + w
one_more n w = omega (arith, add-mul n 1 w, one-mul w)

pub weight_suc : (did : Cut) (n : ℕ) → weight did (suc n) ≡ did n * weight did n + weight did n
unfolding weight
weight_suc did n = one_more (did n) (weight did n)

pub weight_some : (did : Cut) (n : ℕ) → 0 < weight did n
unfolding weight
weight_some did zero = omega arith
weight_some did (suc n) = mul-pos (omega arith) (weight_some did n)

-- as the program multiplies it up
weight_more : (did : Cut) (n : ℕ) → weight did (n + 1) ≡ weight did n * (did n + 1)
unfolding weight
weight_more did n = ap (weight did) (add-one n) ∙ more did n
  where
    more : (did : Cut) (n : ℕ) → weight did (suc n) ≡ weight did n * (did n + 1)
    more did n = mul_comm (did n + 1) (weight did n)

pub weight_step : (did : Cut) (n w m : ℕ) → w ≡ weight did n → m ≡ did n → w * (m + 1) ≡ weight did (n + 1)
weight_step did n w m is here = ap (λ (x : ℕ). x * (m + 1)) is ∙ ap (λ (x : ℕ). weight did n * (x + 1)) here ∙ sym (weight_more did n)

-- more machines have no fewer cuts
pub weight_up : (did : Cut) (m n : ℕ) → m ≤ n → weight did m ≤ weight did n
weight_up did m zero le = let e : m ≡ 0 = omega arith in omega (arith, ap (weight did) e)
weight_up did m (suc n) le =
    elim (cases_eq m (suc n)) [
      | inl e ↦ omega (arith, ap (weight did) e)
      | inr ne ↦ omega (arith, weight_up did m n (omega arith), weight_suc did n)
    ]

pub rank_within : (did : Cut) (n : ℕ) (c : Cut) → ((i : ℕ) → i < n → c i ≤ did i) → rank did n c < weight did n
unfolding weight rank
rank_within did zero c inside = omega arith
rank_within did (suc n) c inside = digits_lt (omega (arith, inside n (omega arith))) (rank_within did n c (λ i lt. inside i (omega arith)))

pub rank_alike : (did : Cut) (n : ℕ) (c d : Cut) → ((i : ℕ) → i < n → c i ≡ d i) → rank did n c ≡ rank did n d
unfolding rank
rank_alike did zero c d same = omega arith
rank_alike did (suc n) c d same = omega (arith, ap (λ (x : ℕ). x * weight did n) (same n (omega arith)), rank_alike did n c d (λ i lt. same i (omega arith)))

pub rank_once : (did : Cut) (n : ℕ) (c d : Cut) → ((i : ℕ) → i < n → c i ≤ did i) → ((i : ℕ) → i < n → d i ≤ did i) → rank did n c ≡ rank did n d → (i : ℕ) → i < n → c i ≡ d i
unfolding rank
rank_once did zero c d ic id e i lt = absurd (omega arith)
rank_once did (suc n) c d ic id e i lt =
    let w = weight did n in
    let a = rank_within did n c (λ j h. ic j (omega arith)) in
    let b = rank_within did n d (λ j h. id j (omega arith)) in
    let high : c n ≡ d n = sym (digits_div (c n) a) ∙ ap (λ (x : ℕ). x / w) e ∙ digits_div (d n) b in
    let low : rank did n c ≡ rank did n d = sym (digits_mod (c n) a) ∙ ap (λ (x : ℕ). x % w) e ∙ digits_mod (d n) b in
    elim (cases_eq i n) [
      | inl q ↦ omega (arith, ap c q, ap d q)
      | inr ne ↦ rank_once did n c d (λ j h. ic j (omega arith)) (λ j h. id j (omega arith)) low i (omega arith)
    ]

pub rank_up : (did : Cut) (n : ℕ) (c d : Cut) → ((i : ℕ) → i < n → c i ≤ d i) → rank did n c ≤ rank did n d
unfolding rank
rank_up did zero c d up = omega arith
rank_up did (suc n) c d up = omega (arith, mul-le-mul_right (weight did n) (up n (omega arith)), rank_up did n c d (λ i lt. up i (omega arith)))

-- one doing more of machine i
pub rank_next : (did : Cut) (n : ℕ) (c d : Cut) (i : ℕ) → i < n → d i ≡ c i + 1 → ((k : ℕ) → k < n → (k ≡ i → ⊥) → d k ≡ c k) → rank did n d ≡ rank did n c + weight did i
unfolding rank
rank_next did zero c d i lt one others = absurd (omega arith)
rank_next did (suc n) c d i lt one others =
    let w = weight did n in
    elim (cases_eq i n) [
      | inl e ↦
          let here : d n ≡ c n + 1 = omega (arith, ap c e, ap d e) in
          omega (arith, ap (λ (x : ℕ). x * w) here, one_more (c n) w, ap (weight did) e, rank_alike did n d c (λ k h. others k (omega arith) (λ q. omega (arith, q, e))))
      | inr ne ↦
          omega (arith, ap (λ (x : ℕ). x * w) (others n (omega arith) (λ q. ne (sym q))), rank_next did n c d i (omega arith) one (λ k h. others k (omega arith)))
    ]

pub rank_none : (did : Cut) (n : ℕ) (c : Cut) → ((i : ℕ) → i < n → c i ≡ 0) → rank did n c ≡ 0
unfolding rank
rank_none did zero c none = omega arith
rank_none did (suc n) c none = omega (arith, ap (λ (x : ℕ). x * weight did n) (none n (omega arith)), rank_none did n c (λ i lt. none i (omega arith)))

pub rank_zero : (did : Cut) (n : ℕ) (c : Cut) → ((i : ℕ) → i < n → c i ≤ did i) → rank did n c ≡ 0 → (i : ℕ) → i < n → c i ≡ 0
rank_zero did n c inside e i lt = rank_once did n c nothing inside (λ k h. omega arith) (e ∙ sym (rank_none did n nothing (λ k h. refl))) i lt

-- the machines below i, all at their ends, begin anew, and machine i goes on
pub rank_carry : (did : Cut) (n : ℕ) (c d : Cut) (i : ℕ) → i < n → rank did i c + 1 ≡ weight did i → d i ≡ c i + 1 → ((k : ℕ) → k < i → d k ≡ 0) → ((k : ℕ) → i < k → d k ≡ c k) → rank did n d ≡ rank did n c + 1
unfolding rank
rank_carry did zero c d i lt full one below above = absurd (omega arith)
rank_carry did (suc n) c d i lt full one below above =
    let w = weight did n in
    elim (cases_eq i n) [
      | inl e ↦
          let here : d n ≡ c n + 1 = omega (arith, ap c e, ap d e) in
          omega (arith, ap (λ (x : ℕ). x * w) here, one_more (c n) w, ap (weight did) e, ap (λ (x : ℕ). rank did x c) e, rank_none did n d (λ k h. below k (omega (arith, e))))
      | inr ne ↦
          omega (arith, ap (λ (x : ℕ). x * w) (above n (omega arith)), rank_carry did n c d i (omega arith) full one below above)
    ]

pub rank_last : (did : Cut) (n : ℕ) → rank did n did + 1 ≡ weight did n
unfolding rank weight
rank_last did zero = omega arith
rank_last did (suc n) = omega (arith, rank_last did n, one_more (did n) (weight did n))

-- machines that are all at their ends
pub rank_ends : (did : Cut) (n : ℕ) (c : Cut) → ((i : ℕ) → i < n → c i ≡ did i) → rank did n c + 1 ≡ weight did n
rank_ends did n c ends = omega (arith, rank_alike did n c did ends, rank_last did n)

-- the cut after c: the lowest machine that has a doing left goes on, and those below begin anew
module _ (r : Run) (c d : Cut) (i : ℕ) (inside : Below r c r.did) (low : LowestLeft r c i) (here : d i ≡ c i + 1) (anew : (k : ℕ) → k < i → d k ≡ 0) (still : (k : ℕ) → i < k → d k ≡ c k) where
  pub after_inside : Below r d r.did
  after_inside k h =
      elim (cases_order k i) [
        | inl e ↦ omega (arith, ap d e, ap r.did e, here, low.left)
        | inr (inl under) ↦ omega (arith, anew k under)
        | inr (inr over) ↦ omega (arith, still k over, inside k h)
      ]

  pub after_rank : rank_of r d ≡ rank_of r c + 1
  after_rank = rank_carry r.did r.count c d i low.inside (rank_ends r.did i c (λ k h. omega (arith, low.ends k h, inside k (omega (arith, low.inside))))) here anew still

-- the last one
pub last_rank : (r : Run) (c : Cut) → Below r c r.did → Below r r.did c → rank_of r c + 1 ≡ cuts_of r
last_rank r c inside ends = rank_ends r.did r.count c (λ k h. omega (arith, inside k h, ends k h))

pub numbering : (r : Run) → Numbering r
numbering r = record {
  within = λ c inside. rank_within r.did r.count c inside;
  once = λ c d ic id e. rank_once r.did r.count c d ic id e;
  later = λ c d next. omega (arith, rank_next r.did r.count c d next.who next.inside next.one next.others, weight_some r.did next.who);
}
