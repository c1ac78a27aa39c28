-- Paths by the machine of each next doing.
use Rattle.std.proofs.Common.{◌≡◌, ℕ, ◌+◌, ◌<◌, eqb, List, [], ◌∷◌, ◌++◌, length, get_or, drop, set, sym, refl, ap, ◌∙◌, subst, inl, inr, arith}
use mathlib.Core.Path.{fun_ext}
use Rattle.std.proofs.lemmas.List.{drop_more}
use Rattle.std.proofs.lemmas.Bool.{eq-eqb, ne_eqb, cond-true, cond-false, cases_eq}
use Rattle.runs.specs.declared.counts.Counts.{Counts}
use Rattle.runs.specs.Run.{Run, Done}
use Rattle.runs.specs.Moment.{Cut, Moment}
use Rattle.runs.specs.declared.run.Run as code
use Rattle.runs.specs.Model.{run_of, counts_of}
use Rattle.runs.proofs.Places.{set_here, set_rest}
use Rattle.order.specs.Turns.{turns_of}
use Rattle.moments.specs.declared.reached.Reached.{Reached}
use Rattle.moments.specs.Cuts.{Alike, Below, nothing}
use Rattle.moments.specs.Onward.{After}
use Rattle.moments.specs.Ways.{Next, Path, there, step, Way, go_on, cuts_along, Leads}
use Rattle.moments.proofs.Laws.{moment_alike, moment_first}
use Rattle.moments.proofs.GoingOn.{on_cases, on_next}

-- counts with one doing more of a machine
pub with_on : (c d : Counts) (j v : ℕ) → j < 40 → d.of ≡ set c.of j v → v ≡ counts_of c j + 1 → counts_of d ≡ go_on (counts_of c) j
with_on c d j v lt is next =
    fun_ext (λ k. elim (on_cases (counts_of c) j k) [
      | inl (e, on) ↦ omega (arith, on, ap (counts_of c) e, ap (counts_of d) e, set_here c d j v lt is)
      | inr (ne, on) ↦ set_rest c d j v lt is k ne ∙ sym on
    ])

-- by the machines, from c to d
pub data Trail (r : Run) (d : Cut) : Cut → List ℕ → Type 0 where
  here : {c : Cut} → Moment r c → Alike r c d → Trail r d c []
  on : {c : Cut} {js : List ℕ} (j : ℕ) → Moment r c → j < r.count → Trail r d (go_on c j) js → Trail r d c (j ∷ js)

pub trail_first : {r : Run} {d c : Cut} {js : List ℕ} → Trail r d c js → Moment r c
trail_first (here m same) = m
trail_first (on j m lt rest) = m

pub trail_path : {r : Run} {d c : Cut} {js : List ℕ} → Trail r d c js → Path r d c (cuts_along c js)
trail_path (here m same) = there m same
trail_path {r} (on {c} j m lt rest) = step (go_on c j) m (on_next r c j lt) (trail_path rest)

-- a path takes apart as its list does
path_head : {r : Run} {d c : Cut} {cs : List Cut} → Path r d c cs → (x : Cut) (xs : List Cut) → cs ≡ x ∷ xs → c ≡ x
path_head (there m same) x xs e = cc
path_head (step y m next rest) x xs e = cc

path_moment : {r : Run} {d c : Cut} {cs : List Cut} → Path r d c cs → Moment r c
path_moment (there m same) = m
path_moment (step y m next rest) = m

path_end : {r : Run} {d c : Cut} {cs : List Cut} → Path r d c cs → (x : Cut) → cs ≡ x ∷ [] → Alike r c d
path_end (there m same) x e = same
path_end {r} {d} (step {c} {cs} y m next rest) x e = absurd (never rest (cc))
  where
    never : {z : Cut} {zs : List Cut} → Path r d z zs → zs ≡ [] → ⊥
    never (there m' same') q = let z : ◌≡◌ {A = ℕ} 0 1 = cc in omega arith
    never (step y' m' n' r') q = let z : ◌≡◌ {A = ℕ} 0 1 = cc in omega arith

path_rest : {r : Run} {d c : Cut} {cs : List Cut} → Path r d c cs → (x y : Cut) (ys : List Cut) → cs ≡ x ∷ y ∷ ys → Next r c y × Path r d y (y ∷ ys)
path_rest (there m same) x y ys e = absurd (let z : ◌≡◌ {A = ℕ} 0 1 = cc in omega arith)
path_rest {r} {d} (step {c} {cs} z m next rest) x y ys e =
    let tail : cs ≡ y ∷ ys = cc in
    let is : z ≡ y = path_head rest y ys tail in
    (subst (λ w. Next r c w) is next, subst (λ w. Path r d y w) tail (subst (λ w. Path r d w cs) is rest))

-- the cuts after the first
beyond : Cut → List ℕ → List Cut
beyond c [] = []
beyond c (j ∷ js) = cuts_along (go_on c j) js

along_first : (c : Cut) (js : List ℕ) → cuts_along c js ≡ c ∷ beyond c js
unfolding beyond
along_first c [] = refl
along_first c (j ∷ js) = refl

-- who goes on is the machine named
who_goes : {r : Run} (c : Cut) (j : ℕ) → Next r c (go_on c j) → j < r.count
who_goes {r} c j next =
    elim (on_cases c j next.who) [
      | inl (e, _) ↦ subst (λ k. k < r.count) e next.inside
      | inr (_, same) ↦ absurd (omega (arith, next.one, same))
    ]

pub path_trail : {r : Run} {d : Cut} (js : List ℕ) (c : Cut) → Path r d c (cuts_along c js) → Trail r d c js
path_trail [] c p = here (path_moment p) (path_end p c refl)
path_trail {r} {d} (j ∷ js) c p =
    let parts = path_rest p c (go_on c j) (beyond (go_on c j) js) (ap (λ (xs : List Cut). c ∷ xs) (along_first (go_on c j) js)) in
    on j (path_moment p) (who_goes c j parts.0) (path_trail js (go_on c j) (subst (λ xs. Path r d (go_on c j) xs) (sym (along_first (go_on c j) js)) parts.1))

-- begun at a cut that is alike
on_alike : (r : Run) (c d : Cut) (j : ℕ) → Alike r c d → Alike r (go_on c j) (go_on d j)
on_alike r c d j same i lt = grind (arith, on_cases c j i, on_cases d j i, same i lt)

-- one doing more at the end
pub trail_on : {r : Run} → Done r → {d c : Cut} {js : List ℕ} → Trail r d c js → (j : ℕ) → j < r.count → Moment r (go_on d j) → Trail r (go_on d j) c (js ++ j ∷ [])
trail_on {r} done {d} (here {c} m same) j lt next =
    let up : Alike r (go_on c j) (go_on d j) = on_alike r c d j same in
    on j m lt (here (moment_alike done (go_on d j) (go_on c j) (λ i k. sym (up i k)) next) up)
trail_on done (on i m k rest) j lt next = on i m k (trail_on done rest j lt next)

-- to an end that is alike
pub trail_to : {r : Run} {d c : Cut} {js : List ℕ} → Trail r d c js → (e : Cut) → Alike r d e → Trail r e c js
trail_to (here m end) e same = here m (λ i lt. end i lt ∙ same i lt)
trail_to (on j m lt rest) e same = on j m lt (trail_to rest e same)

-- each doing between has its turn once
once : {r : Run} {d c : Cut} {js : List ℕ} → Trail r d c js → (i : ℕ) → i < r.count → c i + turns_of js i ≡ d i
once (here m end) i lt = omega (arith, end i lt)
once (on {c} {js} j m k rest) i lt =
    elim (cases_eq i j) [
      | inl e ↦ omega (arith, once rest i lt, cond-true {A = ℕ} (eqb i j) (c i + 1) (c i) (eq-eqb i j e), cond-true {A = ℕ} (eqb i j) 1 0 (eq-eqb i j e))
      | inr ne ↦ omega (arith, once rest i lt, cond-false {A = ℕ} (eqb i j) (c i + 1) (c i) (ne_eqb i j ne), cond-false {A = ℕ} (eqb i j) 1 0 (ne_eqb i j ne))
    ]

pub trail_leads : {r : Run} {d c : Cut} {js : List ℕ} → Trail r d c js → Leads r c d js
trail_leads trail = record { path = trail_path trail; once = once trail }

-- a trail takes apart as its list does
pub trail_parts : {r : Run} {d c : Cut} {j : ℕ} {js : List ℕ} → Trail r d c (j ∷ js) → (j < r.count) × Moment r (go_on c j) × Trail r d (go_on c j) js
trail_parts (on j m lt rest) = (lt, trail_first rest, rest)

pub trail_end : {r : Run} {d c : Cut} → Trail r d c [] → Alike r c d
trail_end (here m same) = same

-- the list is a way exactly if what is left of it leads from here to the end
pub record Left (r : Run) (js rest : List ℕ) (c : Cut) : Type 0 where
  pub moment : Moment r c
  pub leads : Way r nothing (cuts_along nothing js) → Trail r r.did c rest
  pub way : Trail r r.did c rest → Way r nothing (cuts_along nothing js)

pub all_left : {r : Run} → Done r → (js : List ℕ) → Left r js js nothing
all_left done js = record { moment = moment_first done; leads = path_trail js nothing; way = trail_path }

-- the machine whose turn it is
pub turn_left : {r : Run} {js : List ℕ} {c : Cut} (n : ℕ) → n < length js → Left r js (drop n js) c → Left r js (get_or js n 0 ∷ drop (n + 1) js) c
turn_left {r} {js} {c} n lt left = subst (λ rest. Left r js rest c) (drop_more js n 0 lt) left

pub goes : {r : Run} {js rest : List ℕ} {c : Cut} {j : ℕ} → Left r js (j ∷ rest) c → Way r nothing (cuts_along nothing js) → (j < r.count) × Moment r (go_on c j)
goes left way = let parts = trail_parts (left.leads way) in (parts.0, parts.1)

pub one_left : {r : Run} {js rest : List ℕ} {c : Cut} {j : ℕ} → Left r js (j ∷ rest) c → j < r.count → Moment r (go_on c j) → Left r js rest (go_on c j)
one_left {j} left lt next = record { moment = next; leads = λ way. (trail_parts (left.leads way)).2; way = λ trail. left.way (on j left.moment lt trail) }

pub none_left : {r : Run} {js : List ℕ} {c : Cut} → Left r js [] c → (Way r nothing (cuts_along nothing js) → Alike r c r.did) × (Alike r c r.did → Way r nothing (cuts_along nothing js))
none_left left = (λ way. trail_end (left.leads way), λ same. left.way (here left.moment same))

-- a moment of a run is one of the same run by another name, and so is the one after it
pub moment_same : {r s : code.Run} {c : Cut} → r ≡ s → Moment (run_of r) c → Moment (run_of s) c
moment_same {c = c} same moment = subst (λ (x : code.Run). Moment (run_of x) c) same moment

pub moment_after : {m n : Reached} {r : code.Run} {who : ℕ} → m.run.now ≡ r → After m who n → Moment (run_of r) (go_on (counts_of m.cut) who)
moment_after {n} {r} same after = subst (Moment (run_of r)) after.cut (moment_same (after.run ∙ same) n.moment)

-- so far the list leads from one cut to a moment of the run, no further than to another cut
pub record Led (r : code.Run) (from to : Cut) (m : Reached) (before now : List ℕ) : Type 0 where
  pub run : m.run.now ≡ r
  pub below : Below (run_of r) (counts_of m.cut) to
  pub turns : List ℕ
  pub added : now ≡ before ++ turns
  pub trail : Trail (run_of r) (counts_of m.cut) from turns
