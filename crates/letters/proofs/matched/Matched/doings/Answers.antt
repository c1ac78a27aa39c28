use Rattle.std.proofs.Common.{vec_items, rules}
use Rattle.letters.proofs.Machines.{doings_added, few_doings}
use Rattle.letters.proofs.matched.Matched.doings.Goals as goal

pub sum-requires-clause-fits : goal.sum-requires-clause-fits
sum-requires-clause-fits c =
    let all = c.args.self.now.records in
    let few = few_doings (vec_items all.list) all.few all.short in
    search rules

pub returns : goal.returns
returns c =
    let same = doings_added (vec_items c.args.self.now.records.list) in
    search rules
