-- No answer to may is judged in two ways.
use Rattle.std.proofs.Common.{◌≡◌, ℕ, List, Some, sym, refl, ap, ◌∙◌, subst, arith}
use Rattle.records.specs.Record.{Record, sign_of}
use Rattle.runs.specs.Run.{Run, Makes}
use Rattle.runs.specs.Moment.{Cut}
use Rattle.order.specs.Asked.{RecordedRun}
use Rattle.order.proofs.OneRun.{same_count, same_did, moment_made}
use Rattle.order.proofs.Recorded.{refused_or_run, one_refusal}
use Rattle.moments.specs.Signs.{Says, First, May}
use Rattle.answers.specs.Answer.{Answer, Counted, may}
use Rattle.answers.specs.Model.{ToMay}
use Rattle.answers.proofs.Fronts.{counted_same}
use Rattle.checker.specs.declared.verdict.Verdict.TheVariants as verdict
use Rattle.checker.specs.Verdict.{Fits, may_yes_fits, may_no_fits, Holds, may_yes_holds, may_no_holds, IsAnswer, Judged, OneVerdict}

-- what is asked of one run that the records make is asked of each
module _ (rs : List Record) (r q : Run) (made : Makes rs r) (also : Makes rs q) where
  first_made : (s : Says) (c : Cut) → First r s c → First q s c
  first_made s c (m, all, first) = (
    moment_made rs r q made also c m,
    λ i lt. all i (omega (arith, lt, same_count rs r q made also)),
    λ d md alld i lt. first d (moment_made rs q r also made d md) (λ j h. alld j (omega (arith, h, same_count rs r q made also))) i (omega (arith, lt, same_count rs r q made also)),
  )

  may_made : (s : Says) → May r s → May q s
  may_made s (c, m, all) = (c, moment_made rs r q made also c m, λ i lt. all i (omega (arith, lt, same_count rs r q made also)))

  fits_made : {a : Answer} → Fits rs r may a → Fits rs q may a
  fits_made (may_yes_fits {cut} h) = may_yes_fits (omega (arith, h.0, same_count rs r q made also), λ i lt. omega (arith, h.1 i (omega (arith, lt, same_count rs r q made also)), same_did rs r q made also i))
  fits_made may_no_fits = may_no_fits

  answer_made : (bytes : List ℕ) (a : Counted) → IsAnswer rs r may bytes a → IsAnswer rs q may bytes a
  answer_made bytes a h = record { written = h.written; form = fits_made h.form; pairs = h.pairs; ways = h.ways }

may_holds_made : (rs : List Record) (r q : Run) → Makes rs r → Makes rs q → {a : Answer} → Fits rs r may a → Holds rs r a → Holds rs q a
may_holds_made rs r q made also (may_yes_fits _) (may_yes_holds h) = may_yes_holds (first_made rs r q made also (sign_of rs) _ h)
may_holds_made rs r q made also may_no_fits (may_no_holds h) = may_no_holds (λ x. h (may_made rs q r also made (sign_of rs) x))

to_may : {rs : List Record} {r : Run} {a : Answer} → Fits rs r may a → ToMay a
to_may (may_yes_fits _) = tt
to_may may_no_fits = tt

-- the records that files are make the one run and the other
also_made : (fs : List (List ℕ)) (rs qs : List Record) (r q : Run) → RecordedRun fs rs r → RecordedRun fs qs q → qs ≡ rs
also_made fs rs qs r q one other = one.read.only qs other.read.read

module _ (fs : List (List ℕ)) (bytes : List ℕ) (rs : List Record) (r q : Run) (one : RecordedRun fs rs r) (other : RecordedRun fs rs q) where
  form_or_not : (a : Counted) → IsAnswer rs r may bytes a → ((b : Counted) → IsAnswer rs q may bytes b → ⊥) → ⊥
  form_or_not a is none = none a (answer_made rs r q one.makes other.makes bytes a is)

  shown_or_not : (a b : Counted) → IsAnswer rs r may bytes a → Holds rs r a.answer → IsAnswer rs q may bytes b → (Holds rs q b.answer → ⊥) → ⊥
  shown_or_not a b is holds too off =
      let same : a ≡ b = counted_same a b (to_may is.form) (to_may too.form) (sym is.written ∙ too.written) in
      let P : Counted → Type 0 = λ x. Holds rs q x.answer in
      off (subst P same (may_holds_made rs r q one.makes other.makes is.form holds))

-- the second, said of the records of the first
moved : (fs : List (List ℕ)) (rs qs : List Record) (r q : Run) (P : List Record → Type 0) → RecordedRun fs rs r → RecordedRun fs qs q → P qs → P rs
moved fs rs qs r q P one other h = subst P (also_made fs rs qs r q one other) h

shown_form : (fs : List (List ℕ)) (bytes : List ℕ) → Judged fs may bytes verdict.Shown → Judged fs may bytes verdict.NotItsForm → ⊥
shown_form fs bytes (rs, r, one, (a, is, holds)) (qs, q, other, none) =
    let P : List Record → Type 0 = λ x. RecordedRun fs x q × ((b : Counted) → IsAnswer x q may bytes b → ⊥) in
    let y = moved fs rs qs r q P one other (other, none) in
    form_or_not fs bytes rs r q one y.0 a is y.1

not_form : (fs : List (List ℕ)) (bytes : List ℕ) → Judged fs may bytes verdict.NotShown → Judged fs may bytes verdict.NotItsForm → ⊥
not_form fs bytes (rs, r, one, (a, is, off)) (qs, q, other, none) =
    let P : List Record → Type 0 = λ x. RecordedRun fs x q × ((b : Counted) → IsAnswer x q may bytes b → ⊥) in
    let y = moved fs rs qs r q P one other (other, none) in
    form_or_not fs bytes rs r q one y.0 a is y.1

shown_not : (fs : List (List ℕ)) (bytes : List ℕ) → Judged fs may bytes verdict.Shown → Judged fs may bytes verdict.NotShown → ⊥
shown_not fs bytes (rs, r, one, (a, is, holds)) (qs, q, other, (b, too, off)) =
    let P : List Record → Type 0 = λ x. RecordedRun fs x q × IsAnswer x q may bytes b × (Holds x q b.answer → ⊥) in
    let y = moved fs rs qs r q P one other (other, too, off) in
    shown_or_not fs bytes rs r q one y.0 a b is holds y.1 y.2

pub one_verdict : OneVerdict
one_verdict fs bytes verdict.Shown verdict.Shown a b = refl
one_verdict fs bytes verdict.NotItsForm verdict.NotItsForm a b = refl
one_verdict fs bytes verdict.NotShown verdict.NotShown a b = refl
one_verdict fs bytes (verdict.Refused m) (verdict.Refused n) a b = ap (λ (x : ℕ). Some x) (one_refusal fs m n a b)
one_verdict fs bytes (verdict.Refused m) verdict.Shown a (rs, r, run, x) = absurd (refused_or_run fs m rs r a run)
one_verdict fs bytes (verdict.Refused m) verdict.NotItsForm a (rs, r, run, x) = absurd (refused_or_run fs m rs r a run)
one_verdict fs bytes (verdict.Refused m) verdict.NotShown a (rs, r, run, x) = absurd (refused_or_run fs m rs r a run)
one_verdict fs bytes verdict.Shown (verdict.Refused n) (rs, r, run, x) b = absurd (refused_or_run fs n rs r b run)
one_verdict fs bytes verdict.NotItsForm (verdict.Refused n) (rs, r, run, x) b = absurd (refused_or_run fs n rs r b run)
one_verdict fs bytes verdict.NotShown (verdict.Refused n) (rs, r, run, x) b = absurd (refused_or_run fs n rs r b run)
one_verdict fs bytes verdict.Shown verdict.NotItsForm x y = absurd (shown_form fs bytes x y)
one_verdict fs bytes verdict.NotItsForm verdict.Shown x y = absurd (shown_form fs bytes y x)
one_verdict fs bytes verdict.NotShown verdict.NotItsForm x y = absurd (not_form fs bytes x y)
one_verdict fs bytes verdict.NotItsForm verdict.NotShown x y = absurd (not_form fs bytes y x)
one_verdict fs bytes verdict.Shown verdict.NotShown x y = absurd (shown_not fs bytes x y)
one_verdict fs bytes verdict.NotShown verdict.Shown x y = absurd (shown_not fs bytes y x)
