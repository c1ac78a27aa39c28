-- What an ordering says of a run.
-- Assumes nothing.
use Rattle.std.specs.Prelude.{◌≡◌, ℕ, ◌*◌, length, vec_items}
use Rattle.runs.specs.Run.{Run, Sound, Before}
use Rattle.runs.specs.Model.{run_of}
use Rattle.order.specs.declared.ordered.Ordered.{Ordered}
use Rattle.order.specs.Vectors.{Vectors, VectorsOf}
use Rattle.order.specs.Rows.{vectors_in}
use Rattle.order.specs.Turns.{Topological}

abbrev pub vectors_of : Ordered → Vectors
vectors_of o = vectors_in o.run (vec_items o.rows)

-- nothing comes before itself, the turns are a topological order, the vectors say what comes before what, and for each letter as many pairs were joined as there are machines
pub record InOrder (o : Ordered) : Type 0 where
  pub sound : Sound (run_of o.run)
  pub turns : Topological (run_of o.run) (vec_items o.turns)
  pub vectors : VectorsOf (run_of o.run) (vectors_of o)
  pub joined : o.pairs ≡ o.run.count * length (run_of o.run).letters

-- some doing comes before itself
abbrev pub ComesBeforeItself : Run → Type 0
ComesBeforeItself r = (i : ℕ) × (m : ℕ) × Before r i m i m
