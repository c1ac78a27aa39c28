use Rattle.std.proofs.Common.{Some, subst}
use Rattle.runs.specs.declared.run.Run as code
use Rattle.runs.specs.Model.{run_of, signs_of, amounts_of}
use Rattle.exhaustive.specs.Looked.{LookedAs}
use Rattle.exhaustive.proofs.Finding.{found_all}
use Rattle.exhaustive.proofs.looking.look_at_each.Goals as goal

pub returns : goal.returns
returns c =
    let f = c.in_ok-survey.field-0 in
    let P : code.Run → Type 0 = λ run. LookedAs (run_of run) (signs_of run) (amounts_of run) (Some f) in
    subst P c.in-Some.ensures (found_all c.in-Some.cuts f c.in_ok-survey.ensures.0 c.in_ok-survey.ensures.1)
