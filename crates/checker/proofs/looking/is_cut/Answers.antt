use Rattle.std.proofs.Common.{length, get_or, take, sym, ap, ◌∙◌, arith, length-take}
use Rattle.std.proofs.lemmas.List.{get_or-take}
use Rattle.std.proofs.lemmas.Grind.{same_number_lists}
use Rattle.std.proofs.lemmas.Slice.Eq.{slice_eq-Decides}
use Rattle.std.proofs.lemmas.Bool.Decides.{Decides-eqb}
use Rattle.checker.proofs.looking.is_cut.Goals as goal

pub returns : goal.returns
returns c =
    let of = c.args.counts.of in
    let cut = c.args.cut.now in
    let same = slice_eq-Decides Decides-eqb (take (length cut) of) cut c.eq.result c.eq.ensures in (
      λ yes k lt. sym (get_or-take (length cut) of k 0 lt) ∙ ap (λ xs. get_or xs k 0) (same.0 yes),
      λ each. same.1 (same_number_lists (take (length cut) of) cut (omega (arith, length-take (length cut) of, c.args.counts.wide)) (λ k lt. get_or-take (length cut) of k 0 (omega (arith, length-take (length cut) of)) ∙ each k (omega (arith, length-take (length cut) of)))),
    )
