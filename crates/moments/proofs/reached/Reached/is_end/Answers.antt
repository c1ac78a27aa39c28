use Rattle.std.proofs.Common.{◌≡◌, ℕ, ◌<◌, List, length, take, get_or, sym, ap, ◌∙◌, arith}
use Rattle.std.proofs.lemmas.List.{get_or-take, ext_get_or, length-take-le}
use Rattle.std.proofs.lemmas.Bool.Decides.{Decides-eqb}
use Rattle.std.proofs.lemmas.Slice.Eq.{slice_eq-Decides}
use Rattle.moments.proofs.reached.Reached.is_end.Goals as goal

pub returns : goal.returns
returns c =
    let run = c.args.self.now.run.now in
    let n = run.count in
    let xs = c.args.self.now.cut.of in
    let ys = run.did.of in
    let long : length (take n xs) ≡ n = length-take-le n xs (omega (arith, run.most, c.args.self.now.cut.wide)) in
    let same = slice_eq-Decides Decides-eqb (take n xs) (take n ys) c.eq.result c.eq.ensures in (
      λ e i lt. sym (get_or-take n xs i 0 lt) ∙ ap (λ (zs : List ℕ). get_or zs i 0) (same.0 e) ∙ get_or-take n ys i 0 lt,
      λ alike. same.1 (ext_get_or 0 (take n xs) (take n ys) (long ∙ sym (length-take-le n ys (omega (arith, run.most, run.did.wide))))
          (λ i lt. let in_n : i < n = omega (arith, lt, long) in get_or-take n xs i 0 in_n ∙ alike i in_n ∙ sym (get_or-take n ys i 0 in_n))),
    )
