-- Kinds are told apart by their byte and their letter.
use Rattle.std.proofs.Common.{◌≡◌, ◌⊎◌, refl, ap, inl, inr, arith}
use native.Mathlib.Decide.{ℕ_discrete}
use Rattle.records.specs.declared.doing.Kind.{Kind}
use Rattle.records.specs.declared.doing.Kind.TheVariants.{Neither, Sends, Gets}
use Rattle.records.specs.Record.{kind_code, letter_in}

pub same_kind : (a b : Kind) → kind_code a ≡ kind_code b → letter_in a ≡ letter_in b → a ≡ b
same_kind Neither Neither e f = refl
same_kind Neither (Sends m) e f = absurd (omega arith)
same_kind Neither (Gets m) e f = absurd (omega arith)
same_kind (Sends l) Neither e f = absurd (omega arith)
same_kind (Sends l) (Sends m) e f = ap Sends f
same_kind (Sends l) (Gets m) e f = absurd (omega arith)
same_kind (Gets l) Neither e f = absurd (omega arith)
same_kind (Gets l) (Sends m) e f = absurd (omega arith)
same_kind (Gets l) (Gets m) e f = ap Gets f

pub same_or_not : (a b : Kind) → (a ≡ b) ⊎ (a ≡ b → ⊥)
same_or_not a b = elim (ℕ_discrete (kind_code a) (kind_code b)) [
  | no ne ↦ inr (λ e. ne (ap kind_code e))
  | yes e ↦ elim (ℕ_discrete (letter_in a) (letter_in b)) [ yes f ↦ inl (same_kind a b e f) | no ne ↦ inr (λ f. ne (ap letter_in f)) ]
]
