-- One machine's doings among the records.
use Rattle.std.proofs.Common.{◌≡◌, ℕ, zero, suc, ◌+◌, ◌<◌, ◌≤◌, List, [], ◌∷◌, length, get_or, take, vec_len, sym, refl, ap, ◌∙◌, add-one, arith}
use Rattle.std.specs.Prelude.{sum_by}
use Rattle.std.proofs.lemmas.List.{get_or-map, length-map}
use Rattle.std.proofs.lemmas.List.Sums.{sum_by-cons, sum_by-le}
use Rattle.records.specs.declared.doing.Kind.TheVariants.{Neither}
use Rattle.records.specs.declared.doing.Doing.{Doing}
use Rattle.records.specs.declared.record.Record as code
use Rattle.records.specs.Record.{Record, record_of, records_of, none, machine_of, did_of, doings_in, kind_in, kind_of}

-- of the program's values: machine i's record, as a loop over them all has it
pub record_at : (rs vs : List code.Record) (i : ℕ) (r : code.Record) → vs ≡ rs → i < length vs → r ≡ get_or vs i r → machine_of (records_of rs) i ≡ record_of r
record_at rs vs i r e lt is = ap (λ (xs : List code.Record). machine_of (records_of xs) i) (sym e) ∙ get_or-map record_of vs i r none lt ∙ ap record_of (sym is)

kind_in_lem : (ds : List Doing) (k : ℕ) (d : Doing) → k < length ds → kind_in ds (suc k) ≡ (get_or ds k d).kind
kind_in_lem [] k d lt = absurd (omega arith)
kind_in_lem (x ∷ xs) zero d lt = refl
kind_in_lem (x ∷ xs) (suc k) d lt = kind_in_lem xs k d (omega arith)

pub kind_is : (rs : List Record) (i k : ℕ) (ds : List Doing) (d : Doing) → (machine_of rs i).doings ≡ ds → k < length ds → kind_of rs i (k + 1) ≡ (get_or ds k d).kind
kind_is rs i k ds d part lt = ap (λ (x : List Doing). kind_in x (k + 1)) part ∙ ap (λ (n : ℕ). kind_in ds n) (add-one k) ∙ kind_in_lem ds k d lt

-- where there is a letter, there is a doing
kind_within : (ds : List Doing) (m : ℕ) → (kind_in ds m ≡ Neither → ⊥) → (1 ≤ m) × (m ≤ length ds)
kind_within [] m some = absurd (some refl)
kind_within (d ∷ ds) zero some = absurd (some refl)
kind_within (d ∷ ds) (suc zero) some = (omega arith, omega arith)
kind_within (d ∷ ds) (suc (suc m)) some = let h = kind_within ds (suc m) some in (omega arith, omega (arith, h.1))

machine_within : (rs : List Record) (i m : ℕ) → (kind_of rs i m ≡ Neither → ⊥) → i < length rs
machine_within [] i m some = absurd (some (no_kind i m))
  where
    no_kind : (j n : ℕ) → kind_of [] j n ≡ Neither
    no_kind zero n = refl
    no_kind (suc j) n = refl
machine_within (r ∷ rs) zero m some = omega arith
machine_within (r ∷ rs) (suc i) m some = let h = machine_within rs i m some in omega arith

pub within : (rs : List Record) (i m : ℕ) → (kind_of rs i m ≡ Neither → ⊥) → (i < length rs) × (1 ≤ m) × (m ≤ did_of rs i)
within rs i m some = let h = kind_within (machine_of rs i).doings m some in (machine_within rs i m some, h.0, h.1)

-- how many doings there are, machine by machine
pub did_is : (rs : List code.Record) (i : ℕ) (d : code.Record) → i < length rs → did_of (records_of rs) i ≡ vec_len (get_or rs i d).doings
did_is rs i d lt = ap (λ (r : Record). length r.doings) (get_or-map record_of rs i d none lt) ∙ sym (get_or rs i d).doings.ok.0

pub doings_more : (rs : List Record) (i : ℕ) → i < length rs → doings_in (take (i + 1) rs) ≡ doings_in (take i rs) + did_of rs i
doings_more rs i lt = rw add-one (go rs i lt)
  where
    go : (qs : List Record) (j : ℕ) → j < length qs → doings_in (take (suc j) qs) ≡ doings_in (take j qs) + did_of qs j
    go [] j lj = absurd (omega arith)
    go (q ∷ qs) zero lj = omega arith
    go (q ∷ qs) (suc j) lj = omega (arith, go qs j (omega arith))

-- how many there are in all, as the code adds them
pub doings_added : (rs : List code.Record) → doings_in (records_of rs) ≡ sum_by (λ (r : code.Record). vec_len r.doings) rs
doings_added [] = refl
doings_added (r ∷ rs) = omega (arith, r.doings.ok.0, doings_added rs, sum_by-cons (λ (q : code.Record). vec_len q.doings) r rs)

pub few_doings : (rs : List code.Record) → length (records_of rs) ≤ 40 → ((i : ℕ) → did_of (records_of rs) i ≤ 500) → sum_by (λ (r : code.Record). vec_len r.doings) rs ≤ 20000
few_doings rs few short = omega (arith, length-map rs record_of, sum_by-le (λ (r : code.Record). vec_len r.doings) 500 rs (λ k d lt. omega (arith, did_is rs k d lt, short k)))
