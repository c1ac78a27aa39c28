use Rattle.std.proofs.Common.{◌≡◌, ℕ, ◌<◌, Bool, List, length, get_or, vec_items, IsTrue, ◌↔◌, Option, sym, subst, arith}
use Rattle.runs.specs.declared.counts.Counts.{Counts}
use Rattle.runs.specs.Run.{Run, Done}
use Rattle.runs.proofs.Linked.{linked}
use Rattle.runs.specs.Model.{run_of, signs_of, counts_of}
use Rattle.moments.specs.Signs.{Says, First, FirstOrNone}
use Rattle.moments.proofs.Agreeing.{first_alike}
use Rattle.answers.specs.declared.answer.Answer.{Answer}
use Rattle.answers.specs.Model.{answer_of}
use Rattle.asking.specs.Shown.{cut_of}
use Rattle.checker.specs.Verdict.{CutFits}
use Rattle.checker.specs.Looking.{MayFits, MayHolds}
use Rattle.checker.proofs.looking.holds.Goals as goal

-- the first moment is the only one
is_first : (r : Run) → Done r → (s : Says) (counts : Counts) (cut : List ℕ) (b : Bool) → First r s (counts_of counts) → CutFits r cut → IsTrue b ↔ ((k : ℕ) → k < length cut → counts_of counts k ≡ get_or cut k 0) → IsTrue b ↔ (First r s (cut_of cut))
is_first r done s counts cut b first fits told = (
  λ e. first_alike r done s (counts_of counts) (cut_of cut) (λ i lt. told.0 e i (omega (arith, fits.0, lt))) first,
  λ other. told.1 (λ k lt. let h : k < r.count = omega (arith, fits.0, lt) in omega (arith, first.2 (cut_of cut) other.0 other.1 k h, other.2 (counts_of counts) first.0 first.1 k h)),
)

pub returns-in-Some : goal.returns-in-Some
returns-in-Some c =
    let run = c.args.ordered.now.run in
    let r = run_of run in
    let F : Option Counts → Type 0 = FirstOrNone r (signs_of run) in
    let P : Answer → Type 0 = λ a. IsTrue c.is_cut.result ↔ (MayHolds r (signs_of run) (answer_of a)) in
    let Q : Answer → Type 0 = λ a. MayFits r (answer_of a) in
    let R : List ℕ → Type 0 = λ xs. IsTrue c.is_cut.result ↔ ((k : ℕ) → k < length xs → counts_of c.in-Some.counts k ≡ get_or xs k 0) in
    subst P (sym c.in-MayYes.is) (is_first r (linked run).range (signs_of run) c.in-Some.counts (vec_items c.in-MayYes.cut) c.is_cut.result
    (subst F c.in-Some.is c.first_moment-first.ensures.first) (subst Q c.in-MayYes.is c.requires) (subst R c.deref.ensures.value c.is_cut.ensures))
