use Rattle.std.proofs.Common.{◌≡◌, ℕ, Option, None, refl, get_or, subst, length, vec_items, arith, rules}
use Rattle.rings.specs.Links.{SentFrom, Measured}
use Rattle.rings.proofs.Starts.{top_of, pass_unentered, pass_one, pass_far, take_it}
use Rattle.rings.proofs.finding.better.Goals as goal
use Rattle.rings.proofs.finding.better.Goals.{then-top-le1-via-then-top-le1, then-top-le1-via-else-top-le1+then-is_none}

pub returns-then-top-le1 : goal.returns-then-top-le1
returns-then-top-le1 c =
    let links = vec_items c.args.links.now.of in
    let top : c.map_or-top.result ≡ top_of (length links) c.args.best = search rules in
    let S : Option ℕ → Type 0 = λ o. SentFrom links c.args.t c.args.t o in
    elim c.then-top-le1.branch [
      | then-top-le1-via-then-top-le1 w ↦ pass_one links c.args.t c.args.best c.requires.shortest (omega (arith, top, w.if-top-le1.true))
      | then-top-le1-via-else-top-le1+then-is_none w ↦
          let none : w.sent_from.result ≡ None = search rules in
          pass_unentered links c.args.t c.args.best c.requires.shortest (subst S none w.sent_from.ensures)
    ]

pub returns-in-0 : goal.returns-in-0
returns-in-0 c =
    let links = vec_items c.args.links.now.of in
    let top : c.map_or-top.result ≡ top_of (length links) c.args.best = search rules in
    let P : ℕ → Type 0 = λ z. Measured links c.args.t z c.measure.new.table in
    pass_far links c.args.t c.args.best c.requires.shortest c.measure.new.table (subst P top c.in_ok-measure.ensures) c.in-0.is

pub returns-in_default : goal.returns-in_default
returns-in_default c =
    let links = vec_items c.args.links.now.of in
    let top : c.map_or-top.result ≡ top_of (length links) c.args.best = search rules in
    let P : ℕ → Type 0 = λ z. Measured links c.args.t z c.measure.new.table in
    take_it links c.args.t c.args.best c.requires.shortest c.measure.new.table (get_or c.measure.new.table c.args.t 0) (subst P top c.in_ok-measure.ensures) refl (omega arith)
