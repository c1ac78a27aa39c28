-- What rows of counts in memory mean.
-- Assumes nothing.
use Rattle.std.specs.Prelude.{ℕ, List, replicate, slice_index_or, refl}
use Rattle.runs.specs.declared.counts.Counts.{Counts}
use Rattle.runs.specs.declared.run.Run.{Run}
use Rattle.runs.specs.Shape.{index}
use Rattle.runs.specs.Model.{counts_of}
use Rattle.order.specs.Vectors.{Vectors}

abbrev pub none : Counts
none = record { of = replicate 40 0; wide = refl }

abbrev pub rows_in : Run → List Counts → ℕ → ℕ → Counts
rows_in r rows j m = slice_index_or rows (index r.starts j m) none

abbrev pub vectors_in : Run → List Counts → Vectors
vectors_in r rows j m = counts_of (rows_in r rows j m)
