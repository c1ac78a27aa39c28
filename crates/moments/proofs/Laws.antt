-- Moments are a lattice, and closed under what comes before.
use Rattle.std.proofs.Common.{arith}
use Rattle.runs.specs.Run.{Run, Done, letter}
use Rattle.runs.specs.Moment.{Cut, Moment}
use Rattle.order.proofs.Behind.{behind}
use Rattle.moments.specs.Cuts.{Alike, nothing, Lattice, ByBefore}

pub lattice : Lattice
lattice r c d mc md = (
  record { inside = λ i lt. omega arith; closed = λ l mem h. omega arith },
  record { inside = λ i lt. omega arith; closed = λ l mem h. grind (arith, mc.closed l mem, md.closed l mem) },
)

pub by_before : ByBefore
by_before r c inside = (λ moment i m j n before h. behind moment before h, λ closed. record { inside = inside; closed = λ l mem h. closed l.from l.sent l.to l.got (letter l mem) h })

-- a moment is one by its machines' counts alone
pub moment_alike : {r : Run} → Done r → (c d : Cut) → Alike r c d → Moment r c → Moment r d
moment_alike done c d same m = record {
  inside = λ i lt. omega (arith, same i lt, m.inside i lt);
  closed = λ l mem h. omega (arith, same l.from (done l mem).0, same l.to (done l mem).1, m.closed l mem (omega (arith, same l.to (done l mem).1)));
}

-- nothing, and all
pub moment_first : {r : Run} → Done r → Moment r nothing
moment_first done = record { inside = λ i lt. omega arith; closed = λ l mem h. absurd (omega (arith, (done l mem).4)) }

pub moment_last : {r : Run} → Done r → Moment r r.did
moment_last done = record { inside = λ i lt. omega arith; closed = λ l mem h. (done l mem).3 }
