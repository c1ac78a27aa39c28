-- Signs, and amounts, that are the same wherever a machine can be give the same answers.
use Rattle.std.proofs.Common.{◌≡◌, ℕ, ◌<◌, ◌≤◌, List, sym, ◌∙◌, subst, arith}
use mathlib.Core.List.{Memᴰ}
use Rattle.records.specs.Record.{Record, sign_of, amount_of}
use Rattle.runs.specs.declared.run.Run as code
use Rattle.runs.specs.Run.{Run, Done}
use Rattle.runs.specs.Model.{run_of, signs_of, amounts_of, RunOf}
use Rattle.runs.specs.Moment.{Cut, Moment}
use Rattle.moments.specs.Cuts.{Alike}
use Rattle.moments.specs.Ways.{Path, there, step}
use Rattle.moments.specs.Signs.{Says, AllSay, May, First, Must}
use Rattle.moments.specs.Amounts.{Much, total, Least, Most}
use Rattle.moments.proofs.Laws.{moment_alike}
use Rattle.moments.proofs.Totals.{sum_same}
use Rattle.moments.proofs.Avoiding.{all_alike}

-- the same after each number of doings that there is
abbrev pub Agree : {A : Type 0} → Run → (ℕ → ℕ → A) → (ℕ → ℕ → A) → Type 0
Agree r f g = (i m : ℕ) → i < r.count → m ≤ r.did i → f i m ≡ g i m

pub agree_back : {A : Type 0} (r : Run) (f g : ℕ → ℕ → A) → Agree r f g → Agree r g f
agree_back r f g same i m lt le = sym (same i m lt le)

-- each cut on a path is a moment
pub on_path : {r : Run} {d c : Cut} {cs : List Cut} → Path r d c cs → {x : Cut} → Memᴰ x cs → Moment r x
on_path {r} (there m same) (Memᴰ.head e) = subst (Moment r) (sym e) m
on_path (there m same) (Memᴰ.tail h) = elim h [ ]
on_path {r} (step y m next rest) (Memᴰ.head e) = subst (Moment r) (sym e) m
on_path (step y m next rest) (Memᴰ.tail h) = on_path rest h

module _ (r : Run) (s t : Says) (same : Agree r s t) where
  all_agree : (c : Cut) → Moment r c → AllSay r s c → AllSay r t c
  all_agree c m all i lt = sym (same i (c i) lt (m.inside i lt)) ∙ all i lt

  pub may_agree : May r s → May r t
  may_agree (c, m, all) = (c, m, all_agree c m all)

  pub must_agree : Must r s → Must r t
  must_agree must cs way = let x = must cs way in (x.0, x.1, all_agree x.0 (on_path way x.1) x.2)

pub first_agree : (r : Run) (s t : Says) → Agree r s t → (c : Cut) → First r s c → First r t c
first_agree r s t same c (m, all, first) = (m, all_agree r s t same c m all, λ d md alld. first d md (all_agree r t s (agree_back r s t same) d md alld))

module _ (r : Run) (v w : Much) (same : Agree r v w) where
  pub total_agree : (c : Cut) → Moment r c → total r v c ≡ total r w c
  total_agree c m = sum_same r.count v w c (λ i lt. same i (c i) lt (m.inside i lt))

  pub least_agree : (c : Cut) → Least r v c → Least r w c
  least_agree c l = record {
    moment = l.moment;
    least = λ d md. omega (arith, l.least d md, total_agree c l.moment, total_agree d md);
    lowest = λ d md e. l.lowest d md (omega (arith, e, total_agree c l.moment, total_agree d md));
  }

  pub most_agree : (c : Cut) → Most r v c → Most r w c
  most_agree c l = record {
    moment = l.moment;
    most = λ d md. omega (arith, l.most d md, total_agree c l.moment, total_agree d md);
    lowest = λ d md e. l.lowest d md (omega (arith, e, total_agree c l.moment, total_agree d md));
  }

-- a run's signs and amounts are those of the records that make it
pub signs_agree : (rs : List Record) (run : code.Run) → RunOf rs run → Agree (run_of run) (signs_of run) (sign_of rs)
signs_agree rs run made i m lt le = made.signs i m (omega (arith, lt, made.makes.count)) (omega (arith, le, made.makes.did i))

pub amounts_agree : (rs : List Record) (run : code.Run) → RunOf rs run → Agree (run_of run) (amounts_of run) (amount_of rs)
amounts_agree rs run made i m lt le = made.amounts i m (omega (arith, lt, made.makes.count)) (omega (arith, le, made.makes.did i))

-- and the first moment is one by its machines' counts alone
pub first_alike : (r : Run) → Done r → (s : Says) (c d : Cut) → Alike r c d → First r s c → First r s d
first_alike r done s c d same (m, all, first) = (moment_alike done c d same m, all_alike r s d c (λ i lt. sym (same i lt)) all, λ e me alle i lt. omega (arith, same i lt, first e me alle i lt))
