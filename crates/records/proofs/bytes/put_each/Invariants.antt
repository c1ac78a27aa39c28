use Rattle.std.proofs.Common.{◌≡◌, ◌++◌, take, vec_items}
use Rattle.std.specs.List.{flat_map}
use Rattle.records.proofs.bytes.put_each.Given as goal

abbrev pub invariant-loop-one : goal.invariant-loop-one
invariant-loop-one g l = vec_items l.out ≡ vec_items l.initial.out ++ flat_map (g.T.Bytes.bytes) (take l.one-index l.each)
