-- A doing's vector is the lowest moment that has the doing behind it.
use Rattle.std.proofs.Common.{ℕ, ◌<◌, ◌≤◌, inl, inr, arith}
use Rattle.std.proofs.lemmas.Bool.{cases_lt}
use Rattle.std.proofs.Math.Logic.{∥∥₁_elim}
use Rattle.std.proofs.Props.{props}
use Rattle.runs.specs.Model.{run_of, counts_of}
use Rattle.order.specs.declared.ordered.Ordered.{Ordered}
use Rattle.order.specs.Ordering.{vectors_of}
use Rattle.order.proofs.Behind.{upto_behind}
use Rattle.moments.specs.Vectors.{LowestWith, VectorsLowest}

pub vectors_lowest : VectorsLowest
vectors_lowest r v vectors j n j< one n≤ = record {
  moment = vectors.moment j n j< one n≤;
  behind = omega (arith, vectors.own j n j< one n≤);
  lowest = λ d md h i i<. elim (cases_lt 0 (v j n i)) [
    | inr none ↦ omega arith
    | inl some ↦
        elim (vectors.only i (v j n i) j n i< j< some one n≤ (omega arith)) [
          | inl b ↦ upto_behind md (inr b) h
          | inr same ↦ upto_behind md (inl same) h
        ]
  ];
}

pub rows_lowest : (o : Ordered) (j n : ℕ) → j < o.run.count → 1 ≤ n → n ≤ counts_of o.run.did j → LowestWith (run_of o.run) j n (vectors_of o j n)
rows_lowest o j n j< one n≤ = ∥∥₁_elim o.vectors (Prim.hlevel props) (λ vectors. vectors_lowest (run_of o.run) (vectors_of o) vectors j n j< one n≤)
