-- An answer's bytes taken apart, and that they are no other's.
use Rattle.std.proofs.Common.{◌≡◌, ℕ, ◌+◌, ◌-◌, ◌/◌, ◌%◌, ◌^◌, ◌≤◌, ◌⊎◌, List, [], ◌∷◌, ◌++◌, length, get_or, take, drop, sym, refl, ap, ◌∙◌, inl, inr, arith, length-append}
use Rattle.std.proofs.lemmas.List.{drop_at, take_at}
use Rattle.records.specs.Record.{bytes4}
use Rattle.answers.specs.Answer.{Answer, Counted, may_yes, may_no, must_yes, must_no}
use Rattle.answers.specs.Answer as said
use Rattle.answers.specs.Bytes.{bytes8, each2, answer_bytes, counted_bytes}
use Rattle.answers.specs.declared.answer.Answer as code
use Rattle.answers.specs.declared.answer.Answer.TheVariants as answers
use Rattle.answers.specs.Model.{answer_of, ToMay}
use Rattle.answers.proofs.Counts.{each2_length}

-- what stands at the beginning of an answer to may
pub begins : (fs : List ℕ) (a : Answer) → ToMay a → fs ≡ 77 ∷ answer_bytes a → (3 ≤ length fs) × (get_or fs 0 0 ≡ 77) × (get_or fs 1 0 ≡ 1) × (((get_or fs 2 0 ≡ 0) × (length fs ≡ 3)) ⊎ ((get_or fs 2 0 ≡ 1) × (length fs % 2 ≡ 1)))
begins fs (may_yes cut) to e =
    let n = ap length e in
    let l = each2_length cut in
    (omega (arith, n), ap (λ (x : List ℕ). get_or x 0 0) e, ap (λ (x : List ℕ). get_or x 1 0) e, inr (ap (λ (x : List ℕ). get_or x 2 0) e, omega (arith, n, l)))
begins fs may_no to e = (omega (arith, ap length e), ap (λ (x : List ℕ). get_or x 0 0) e, ap (λ (x : List ℕ). get_or x 1 0) e, inl (ap (λ (x : List ℕ). get_or x 2 0) e, ap length e))
begins fs (must_yes ts) to e = absurd to
begins fs (must_no way) to e = absurd to
begins fs (said.Answer.least sum cut flows) to e = absurd to
begins fs (said.Answer.most sum cut flows) to e = absurd to

-- what stands before the counts of steps, and the counts
pub split : (bs : List ℕ) (a : Counted) → bs ≡ counted_bytes a → (16 ≤ length bs) × (take (length bs - 16) bs ≡ 77 ∷ answer_bytes a.answer) × (drop (length bs - 16) bs ≡ bytes8 a.pairs ++ bytes8 a.ways)
split bs a e =
    let front = 77 ∷ answer_bytes a.answer in
    let steps = bytes8 a.pairs ++ bytes8 a.ways in
    let n : length bs ≡ length front + 16 = ap length e ∙ length-append front steps in
    let at : length front ≡ length bs - 16 = omega (arith, n) in
    (omega (arith, n), ap (λ (x : List ℕ). take (length bs - 16) x) e ∙ take_at front steps (length bs - 16) at, ap (λ (x : List ℕ). drop (length bs - 16) x) e ∙ drop_at front steps (length bs - 16) at)

-- bytes say one number only
two_same : (m n : ℕ) → m / 256 ≡ n / 256 → m % 256 ≡ n % 256 → m ≡ n
two_same m n high low = omega arith

four_same : (m n : ℕ) → bytes4 m ≡ bytes4 n → m ≡ n
four_same m n e =
    let a = ap (λ (x : List ℕ). get_or x 0 0) e in
    let b = ap (λ (x : List ℕ). get_or x 1 0) e in
    let c = ap (λ (x : List ℕ). get_or x 2 0) e in
    let d = ap (λ (x : List ℕ). get_or x 3 0) e in
    omega (arith, a, b, c, d)

eight_same : (m n : ℕ) → bytes8 m ≡ bytes8 n → m ≡ n
eight_same m n e =
    let high : m / 2 ^ 32 ≡ n / 2 ^ 32 = four_same (m / 2 ^ 32) (n / 2 ^ 32) (ap (λ (x : List ℕ). take 4 x) e) in
    let low : m % 2 ^ 32 ≡ n % 2 ^ 32 = four_same (m % 2 ^ 32) (n % 2 ^ 32) (ap (λ (x : List ℕ). drop 4 x) e) in
    omega (arith, high, low)

each2_same : (xs ys : List ℕ) → each2 xs ≡ each2 ys → xs ≡ ys
each2_same [] [] e = refl
each2_same [] (y ∷ ys) e = absurd (omega (arith, ap length e))
each2_same (x ∷ xs) [] e = absurd (omega (arith, ap length e))
each2_same (x ∷ xs) (y ∷ ys) e =
    let first : x ≡ y = two_same x y (ap (λ (z : List ℕ). get_or z 0 0) e) (ap (λ (z : List ℕ). get_or z 1 0) e) in
    let rest : xs ≡ ys = each2_same xs ys (ap (λ (z : List ℕ). drop 2 z) e) in
    cc

answer_same : (a b : Answer) → ToMay a → ToMay b → 77 ∷ answer_bytes a ≡ 77 ∷ answer_bytes b → a ≡ b
answer_same a (must_yes ts) ta tb e = absurd tb
answer_same a (must_no way) ta tb e = absurd tb
answer_same a (said.Answer.least sum cut flows) ta tb e = absurd tb
answer_same a (said.Answer.most sum cut flows) ta tb e = absurd tb
answer_same (must_yes ts) b ta tb e = absurd ta
answer_same (must_no way) b ta tb e = absurd ta
answer_same (said.Answer.least sum cut flows) b ta tb e = absurd ta
answer_same (said.Answer.most sum cut flows) b ta tb e = absurd ta
answer_same (may_yes xs) (may_yes ys) ta tb e = ap may_yes (each2_same xs ys (ap (λ (z : List ℕ). drop 3 z) e))
answer_same (may_yes xs) may_no ta tb e = absurd (omega (arith, ap (λ (z : List ℕ). get_or z 2 0) e))
answer_same may_no (may_yes ys) ta tb e = absurd (omega (arith, ap (λ (z : List ℕ). get_or z 2 0) e))
answer_same may_no may_no ta tb e = refl

pub counted_same : (a b : Counted) → ToMay a.answer → ToMay b.answer → counted_bytes a ≡ counted_bytes b → a ≡ b
counted_same a b ta tb e =
    let x = split (counted_bytes b) a (sym e) in
    let y = split (counted_bytes b) b refl in
    let answer : a.answer ≡ b.answer = answer_same a.answer b.answer ta tb (sym x.1 ∙ y.1) in
    let steps : bytes8 a.pairs ++ bytes8 a.ways ≡ bytes8 b.pairs ++ bytes8 b.ways = sym x.2 ∙ y.2 in
    let pairs : a.pairs ≡ b.pairs = eight_same a.pairs b.pairs (ap (λ (z : List ℕ). take 8 z) steps) in
    let ways : a.ways ≡ b.ways = eight_same a.ways b.ways (ap (λ (z : List ℕ). drop 8 z) steps) in
    λ i. record { answer = answer i; pairs = pairs i; ways = ways i }

-- whatever the program has is an answer to may
pub to_may : (a : code.Answer) → ToMay (answer_of a)
to_may (answers.MayYes cut) = tt
to_may answers.MayNo = tt
