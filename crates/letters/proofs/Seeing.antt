-- What noting leaves, for the kind that the records have there.
use Rattle.std.proofs.Common.{◌≡◌, Bool, sym, subst}
use Rattle.records.specs.declared.doing.Kind.{Kind}
use Rattle.records.specs.declared.place.Place.{Place}
use Rattle.letters.specs.declared.seen.Seen.{Seen}
use Rattle.letters.specs.Seen.{Put}

pub put_at : (s t : Seen) (k k' : Kind) (p : Place) (again : Bool) → k ≡ k' → Put s t k' p again → Put s t k p again
put_at s t k k' p again e h = let P : Kind → Type 0 = λ x. Put s t x p again in subst P (sym e) h
