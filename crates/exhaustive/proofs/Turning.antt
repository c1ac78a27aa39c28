-- Cuts as the program has them, and their turns.
use Rattle.std.proofs.Common.{◌≡◌, ℕ, ◌+◌, ◌<◌, ◌≤◌, Some, None, Option, MatchOption, IsSomeAnd, sym, ap, ◌∙◌, subst, arith}
use Rattle.runs.specs.declared.run.Run as code
use Rattle.runs.specs.Model.{run_of, counts_of}
use Rattle.moments.specs.Cuts.{Below}
use Rattle.exhaustive.specs.declared.cut.Cut as held
use Rattle.exhaustive.specs.Counter.{cuts_of, rank_of}
use Rattle.exhaustive.specs.Turns.{Follows}
use Rattle.exhaustive.proofs.Ranks.{rank_within}

-- a cut as the program has it, in words of its run
pub record CutOf (run : code.Run) (cut : held.Cut) : Type 0 where
  pub inside : Below (run_of run) (counts_of cut.counts) (counts_of run.did)
  pub numbered : cut.number ≡ rank_of (run_of run) (counts_of cut.counts)
  pub few : cuts_of (run_of run) ≤ 1000000
  pub within : cut.number < cuts_of (run_of run)

pub cut_of : (run : code.Run) (cut : held.Cut) → cut.run.now ≡ run → CutOf run cut
cut_of run cut e =
    let r = run_of cut.run.now in
    let within : cut.number < cuts_of r = omega (arith, cut.numbered, rank_within r.did r.count (counts_of cut.counts) cut.inside) in
    subst (λ (x : code.Run). CutOf x cut) e (record { inside = cut.inside; numbered = cut.numbered; few = cut.few; within = within })

-- what holds of so many cuts holds of those before the next one, or of all
abbrev pub AtTurn : code.Run → ℕ → (ℕ → Type 0) → Option held.Cut → Type 0
AtTurn run count P o = MatchOption o (P count) (λ cut. (cut.run.now ≡ run) × P cut.number)

pub at_first : (run : code.Run) (count : ℕ) (P : ℕ → Type 0) (o : Option held.Cut) → IsSomeAnd o (λ cut. (cut.run.now ≡ run) × (cut.number ≡ 0)) → P 0 → AtTurn run count P o
at_first run count P None never begun = absurd never
at_first run count P (Some cut) (same, first) begun = (same, subst P (sym first) begun)

pub at_next : (run : code.Run) (count : ℕ) (P : ℕ → Type 0) (cut : held.Cut) (next : Option held.Cut) → count ≡ cuts_of (run_of run) → cut.run.now ≡ run → Follows cut next → P (cut.number + 1) → AtTurn run count P next
at_next run count P cut None all of last more = subst P (last ∙ ap (λ (x : code.Run). cuts_of (run_of x)) of ∙ sym all) more
at_next run count P cut (Some d) all of (same, one) more = (same ∙ of, subst P (sym one) more)
