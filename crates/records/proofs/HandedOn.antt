-- What is refused in a call is refused by its caller.
use Rattle.std.proofs.Common.{◌≡◌, Result}
use Rattle.std.specs.Prelude.{IsErrAnd}
use Rattle.std.proofs.lemmas.Result.{err_from_is_err_and}
use Rattle.records.specs.declared.failure.Failure.{Failure}
use Rattle.records.specs.declared.failure.Failure.TheVariants.{Refused, NoMemory}
use Rattle.records.specs.declared.place.Place.{Place}
use Rattle.records.specs.declared.refusal.Refusal.{Refusal}
use Rattle.records.specs.declared.refusal.Refusal.TheVariants as why
use Rattle.records.specs.Failure.{OfRefused, IfRefused}
use Rattle.records.specs.Refusal.{IsForm}

pub weaker : {E : Type 0} (f : Failure E) (P Q : E → Type 0) → ((e : E) → P e → Q e) → OfRefused P f → OfRefused Q f
weaker (Refused e) P Q h p = h e p
weaker (NoMemory e) P Q h p = tt

pub handed_on : {A E : Type 0} (r : Result A (Failure E)) (f : Failure E) (P Q : E → Type 0) → IsErrAnd r (λ x. x ≡ f) → ((e : E) → P e → Q e) → OfRefused P f → IfRefused r Q
handed_on r f P Q is h p =
    let e = err_from_is_err_and r is in
    rw (e.1, e.2) (weaker f P Q h p)

pub form_weaker : (P Q : Place → Type 0) → ((p : Place) → P p → Q p) → (r : Refusal) → IsForm P r → IsForm Q r
form_weaker P Q h (why.Form p) is = h p is
form_weaker P Q h (why.Again p) is = is
form_weaker P Q h (why.Unsent p) is = is
form_weaker P Q h (why.Ring v) is = is
