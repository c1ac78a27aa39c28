use Rattle.std.proofs.Common.{◌≡◌, ℕ, ◌-◌, ◌≤◌, length, get_or, List, Option, Vec, Global, sym, ap, ◌∙◌, subst, vec_items, arith, rules}
use borrow.Rule.Slice.PartMut.{put_mid, same_len_mid}
use Rattle.rings.specs.Links.{SentFrom, Leveled}
use Rattle.rings.proofs.Begin.{blank_from, begin_none, begin_one}
use Rattle.rings.proofs.distances.Search.begin.Goals as goal
use Rattle.rings.proofs.distances.Search.begin.Goals.{in-Some+in_ok-mark, in_default}

pub returns : goal.returns
returns c =
    let s = c.args.self.now in
    let links = vec_items s.links.now.of in
    let table = c.args.table.now in
    let blanked = put_mid s.start (length table - s.start) table c.fill.new.self in
    let blank : (v : ℕ) → s.start ≤ v → get_or blanked v 0 ≡ 0 = blank_from s.start table c.fill.new.self (omega (arith, s.inside, c.requires.long)) (c.fill.ensures.after (λ y e. search rules)) in
    let long : length blanked ≡ length links = same_len_mid s.start (length table - s.start) table c.fill.new.self c.fill.ensures.len ∙ c.requires.long in
    let P : List ℕ → Type 0 = λ z. Leveled links s.start s.top 1 z (vec_items c.match-sent_from.first) in
    let S : Option ℕ → Type 0 = λ o. SentFrom links s.start s.start o in
    elim c.match-sent_from.branch [
      | in-Some+in_ok-mark w ↦
          let Q : Vec ℕ Global → Type 0 = λ z. Leveled links s.start s.top 1 w.mark.new.table (vec_items z) in
          subst P (sym w.table-is) (subst Q (sym w.first-is)
          (begin_one links s.start s.top blanked s.inside s.low long blank w.mark.new.table (vec_items c.new-first.result) (vec_items w.mark.new.next) w.in-Some.v (subst S w.in-Some.is c.sent_from.ensures) c.new-first.ensures.items w.in_ok-mark.ensures))
      | in_default w ↦
          subst P (sym w.table-is) (begin_none links s.start s.top blanked s.inside s.low long blank (vec_items c.match-sent_from.first) (subst S w.in_default.is c.sent_from.ensures) (ap (λ (z : Vec ℕ Global). vec_items z) w.first-is ∙ c.new-first.ensures.items))
    ]
