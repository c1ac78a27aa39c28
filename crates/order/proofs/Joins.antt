-- How many pairs of counts are joined.
use Rattle.std.proofs.Common.{◌≡◌, ℕ, zero, suc, ◌+◌, ◌*◌, ◌<◌, ◌≤◌, ◌++◌, length, Some, None, Option, sym, refl, ap, ◌∙◌, mul-le-mul, mul-zero, mul-one, mul-add, arith}
use Rattle.records.specs.declared.place.Place.{Place}
use Rattle.runs.specs.declared.run.Run.{Run}
use Rattle.runs.specs.Moment.{Cut, Moment}
use Rattle.runs.specs.Model.{sending_of, letters_by, letters_in, letter_to, run_of}
use Rattle.runs.proofs.Linked.{in_few, in_more}
use Rattle.order.specs.Steps.{joined_for, joined_behind}

for_one : (n j m : ℕ) (o : Option Place) → joined_for n o ≡ n * length (letter_to j m o)
for_one n j m None = sym (mul-zero n)
for_one n j m (Some p) = sym (mul-one n)

pub joined_more : (r : Run) (c d : Cut) (j m pairs more : ℕ) → j < r.count → d j ≡ c j + 1 → ((i : ℕ) → (i ≡ j → ⊥) → d i ≡ c i) → d j ≡ m → pairs ≡ joined_behind r c → more ≡ joined_for r.count (sending_of r j m) → pairs + more ≡ joined_behind r d
joined_more r c d j m pairs more lt one rest at-m e f =
    let before = length (letters_in (sending_of r) c r.count) in
    let here = length (letter_to j (d j) (sending_of r j (d j))) in
    let is : more ≡ r.count * here = f ∙ ap (λ (x : ℕ). joined_for r.count (sending_of r j x)) (sym at-m) ∙ for_one r.count j (d j) (sending_of r j (d j)) in
    let both : r.count * (before + here) ≡ r.count * before + r.count * here = mul-add r.count before here in
    let all : joined_behind r d ≡ r.count * (before + here) = ap (λ (x : ℕ). r.count * x) (in_more (sending_of r) c d r.count j lt one rest) in
    omega arith

pub joined_few : (r : Run) (c : Cut) (pairs more : ℕ) → Moment (run_of r) c → pairs ≡ joined_behind r c → more ≤ 40 → pairs + more < 1000000
joined_few r c pairs more moment e le =
    let few : length (letters_in (sending_of r) c r.count) ≤ 20000 = omega (arith, in_few (sending_of r) c r.count (λ i lt. omega (arith, moment.inside i lt, r.few i lt)), r.most) in
    omega (arith, mul-le-mul r.most few)

pub for_few : (n : ℕ) (o : Option Place) → joined_for n o ≤ n
for_few n None = omega arith
for_few n (Some p) = omega arith

pub joined_none : (r : Run) (c : Cut) → ((k : ℕ) → c k ≡ 0) → 0 ≡ joined_behind r c
joined_none r c none = sym (ap (λ (x : ℕ). r.count * x) (empty r.count) ∙ mul-zero r.count)
  where
    empty : (n : ℕ) → length (letters_in (sending_of r) c n) ≡ 0
    empty zero = refl
    empty (suc n) = ap (λ (m : ℕ). length (letters_by (sending_of r) n m ++ letters_in (sending_of r) c n)) (none n) ∙ empty n
