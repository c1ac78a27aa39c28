-- What a call that may refuse, or run out of memory, says when it gives nothing.
-- Assumes nothing.
use Rattle.std.specs.Prelude.{Result, IfErr, ⊤}
use Rattle.records.specs.declared.failure.Failure.{Failure}
use Rattle.records.specs.declared.failure.Failure.TheVariants.{Refused, NoMemory}

-- of want of memory nothing is said
abbrev pub OfRefused : {E : Type 0} → (E → Type 0) → Failure E → Type 0
OfRefused P (Refused why) = P why
OfRefused P (NoMemory error) = ⊤

-- a fact of what is refused, if something is
abbrev pub IfRefused : {A E : Type 0} → Result A (Failure E) → (E → Type 0) → Type 0
IfRefused r P = IfErr r (OfRefused P)

abbrev pub IsNoMemory : {E : Type 0} → Failure E → Type 0
IsNoMemory (Refused why) = ⊥
IsNoMemory (NoMemory error) = ⊤
