-- One cut more is seen; and what all of them come to.
use Rattle.std.proofs.Common.{◌≡◌, ℕ, ◌+◌, ◌<◌, ◌≤◌, min, Bool, true, false, cond, ltb, ◌⊎◌, Some, None, Decides, Option, sym, refl, ap, ◌∙◌, subst, inl, inr, arith}
use Rattle.std.specs.Bool.{then_some}
use Rattle.std.specs.Option.{option_or}
use Rattle.std.proofs.lemmas.Bool.{cases_lt, both_ways, ltb-true, ltb-false}
use Rattle.runs.specs.Run.{Run, Done}
use Rattle.runs.specs.Moment.{Cut, Moment}
use Rattle.runs.specs.declared.counts.Counts.{Counts}
use Rattle.runs.specs.Model.{counts_of}
use Rattle.moments.specs.Cuts.{Alike, Below, nothing, lower, upper}
use Rattle.moments.specs.Signs.{Says, AllSay, FirstOrNone}
use Rattle.moments.specs.Amounts.{Much, total, Least, Most}
use Rattle.moments.proofs.Laws.{lattice, moment_alike, moment_first}
use Rattle.moments.proofs.Totals.{sum_alike, sum_none, modular}
use Rattle.moments.proofs.Avoiding.{all_alike}
use Rattle.exhaustive.specs.declared.extreme.Extreme.{Extreme}
use Rattle.exhaustive.specs.declared.findings.Findings.{Findings}
use Rattle.exhaustive.specs.Counter.{cuts_of, rank_of}
use Rattle.exhaustive.specs.HowMany.{HowMany}
use Rattle.exhaustive.specs.Survey.{Among, FirstAmong, Ahead, BestAmong, none, Surveyed}
use Rattle.exhaustive.proofs.Ranks.{rank_within, rank_once, rank_alike, rank_up, rank_zero}
use Rattle.exhaustive.proofs.Counting.{how_many_none, how_many_same, how_many_more}

-- a moment lies among all cuts
pub among_all : (r : Run) (d : Cut) → Moment r d → Among r (cuts_of r) d
among_all r d m = (m, rank_within r.did r.count d m.inside)

module _ (r : Run) (done : Done r) (c : Cut) (inside : Below r c r.did) where
  abbrev here : ℕ
  here = rank_of r c

  -- with one cut more, a moment that is among the cuts was so already, or is that one
  among_more : (d : Cut) → Among r (here + 1) d → Among r here d ⊎ Alike r c d
  among_more d (m, lt) =
      elim (cases_lt (rank_of r d) here) [
        | inl old ↦ inl (m, old)
        | inr late ↦ inr (rank_once r.did r.count c d inside m.inside (omega arith))
      ]

  -- where that one is no moment, nothing is new
  pub among_same : (Moment r c → ⊥) → (d : Cut) → Among r (here + 1) d → Among r here d
  among_same never d a = elim (among_more d a) [ inl old ↦ old | inr same ↦ absurd (never (moment_alike done d c (λ i lt. sym (same i lt)) a.0)) ]

  pub among_still : (d : Cut) → Among r here d → Among r (here + 1) d
  among_still d (m, lt) = (m, omega arith)

  pub count_same : (n : ℕ) → (Moment r c → ⊥) → HowMany r (Among r here) n → HowMany r (Among r (here + 1)) n
  count_same n never = how_many_same r (Among r here) (Among r (here + 1)) n among_still (among_same never)

  pub count_more : (n : ℕ) → Moment r c → HowMany r (Among r here) n → HowMany r (Among r (here + 1)) (n + 1)
  count_more n m = how_many_more r (Among r here) (Among r (here + 1)) n c (m, omega arith) among_still among_more (λ d a same. omega (arith, a.1, rank_alike r.did r.count d c same))

  pub first_same : (s : Says) (o : Option Counts) → (Moment r c → ⊥) → FirstAmong r s here o → FirstAmong r s (here + 1) o
  first_same s None never h = λ d a. h d (among_same never d a)
  first_same s (Some x) never h = ((h.0.0, omega (arith, h.0.1)), h.1, h.2)

  -- one that is there stays, and where there is none yet this one becomes it if all say yes
  pub first_more : (s : Says) (o : Option Counts) (k : Counts) (b : Bool) → counts_of k ≡ c → Moment r c → Decides b (AllSay r s c) → FirstAmong r s here o → FirstAmong r s (here + 1) (option_or o (then_some b k))
  first_more s (Some x) k b is m told h = ((h.0.0, omega (arith, h.0.1)), h.1, h.2)
  first_more s None k true is m told h =
      let P : Cut → Type 0 = λ x. Among r (here + 1) x × AllSay r s x × ((d : Cut) → Moment r d → AllSay r s d → rank_of r d < rank_of r x → ⊥) in
      subst P (sym is) ((m, omega arith), told.0 refl, λ d md all lt. h d (md, lt) all)
  first_more s None k false is m told h = λ d a all.
      elim (among_more d a) [
        | inl old ↦ h d old all
        | inr same ↦ absurd (both_ways false refl (told.1 (all_alike r s c d same all)))
      ]

  module _ (v w : Much) where
    ahead_alike : (x d : Cut) → Alike r c d → Ahead r v w x c → Ahead r v w x d
    ahead_alike x d same (inl h) = inl (omega (arith, sum_alike r.count v c d same, sum_alike r.count w c d same))
    ahead_alike x d same (inr h) = inr (omega (arith, h.0, sum_alike r.count v c d same, sum_alike r.count w c d same), omega (arith, h.1, rank_alike r.did r.count c d same))

    pub best_same : (x : Cut) → (Moment r c → ⊥) → BestAmong r v w here x → BestAmong r v w (here + 1) x
    best_same x never h = record { moment = h.moment; early = omega (arith, h.early); ahead = λ d a. h.ahead d (among_same never d a) }

    -- the one that was there stays unless the new one is less
    pub best_keep : (x : Cut) → total r v x + total r w c ≤ total r v c + total r w x → BestAmong r v w here x → BestAmong r v w (here + 1) x
    best_keep x le h = record {
      moment = h.moment;
      early = omega (arith, h.early);
      ahead = λ d a. elim (among_more d a) [
        | inl old ↦ h.ahead d old
        | inr same ↦ ahead_alike x d same (elim (cases_lt (total r v x + total r w c) (total r v c + total r w x)) [ inl lt ↦ inl lt | inr ge ↦ inr (omega arith, h.early) ])
      ];
    }

    pub best_take : (x : Cut) → total r v c + total r w x < total r v x + total r w c → Moment r c → BestAmong r v w here x → BestAmong r v w (here + 1) c
    best_take x lt m h = record {
      moment = m;
      early = omega arith;
      ahead = λ d a. elim (among_more d a) [
        | inl old ↦ inl (elim (h.ahead d old) [ inl less ↦ omega arith | inr (e, _) ↦ omega arith ])
        | inr same ↦ ahead_alike c d same (inr (refl, omega arith))
      ];
    }

-- the better of what was there and a new moment, as a test tells it
module _ (r : Run) (done : Done r) (k : Counts) (inside : Below r (counts_of k) r.did) where
  better : Moment r (counts_of k) → (v w t : Much) (x z : Extreme) (s : ℕ) (b : Bool) → z ≡ cond b (record { sum = s; at = k }) x
      → (b ≡ true → total r v (counts_of k) + total r w (counts_of x.at) < total r v (counts_of x.at) + total r w (counts_of k))
      → (b ≡ false → total r v (counts_of x.at) + total r w (counts_of k) ≤ total r v (counts_of k) + total r w (counts_of x.at))
      → s ≡ total r t (counts_of k) → x.sum ≡ total r t (counts_of x.at) → BestAmong r v w (rank_of r (counts_of k)) (counts_of x.at)
      → BestAmong r v w (rank_of r (counts_of k) + 1) (counts_of z.at) × (z.sum ≡ total r t (counts_of z.at))
  better m v w t x z s true is less more new old best =
      let P : Extreme → Type 0 = λ y. BestAmong r v w (rank_of r (counts_of k) + 1) (counts_of y.at) × (y.sum ≡ total r t (counts_of y.at)) in
      subst P (sym is) (best_take r done (counts_of k) inside v w (counts_of x.at) (less refl) m best, new)
  better m v w t x z s false is less more new old best =
      let P : Extreme → Type 0 = λ y. BestAmong r v w (rank_of r (counts_of k) + 1) (counts_of y.at) × (y.sum ≡ total r t (counts_of y.at)) in
      subst P (sym is) (best_keep r done (counts_of k) inside v w (counts_of x.at) (more refl) best, old)

  pub lesser : Moment r (counts_of k) → (w : Much) (x z : Extreme) (s : ℕ) → (b : Bool) × (b ≡ ltb s x.sum) × (z ≡ cond b (record { sum = s; at = k }) x) → s ≡ total r w (counts_of k) → x.sum ≡ total r w (counts_of x.at) → BestAmong r w none (rank_of r (counts_of k)) (counts_of x.at)
      → BestAmong r w none (rank_of r (counts_of k) + 1) (counts_of z.at) × (z.sum ≡ total r w (counts_of z.at))
  lesser m w x z s (b, tells, is) new old best =
      let a = sum_none r.count (counts_of k) in
      let o = sum_none r.count (counts_of x.at) in
      better m w none w x z s b is (λ e. omega (arith, ltb-true s x.sum (sym tells ∙ e), a, o)) (λ e. omega (arith, ltb-false s x.sum (sym tells ∙ e), a, o)) new old best

  pub greater : Moment r (counts_of k) → (w : Much) (x z : Extreme) (s : ℕ) → (b : Bool) × (b ≡ ltb x.sum s) × (z ≡ cond b (record { sum = s; at = k }) x) → s ≡ total r w (counts_of k) → x.sum ≡ total r w (counts_of x.at) → BestAmong r none w (rank_of r (counts_of k)) (counts_of x.at)
      → BestAmong r none w (rank_of r (counts_of k) + 1) (counts_of z.at) × (z.sum ≡ total r w (counts_of z.at))
  greater m w x z s (b, tells, is) new old best =
      let a = sum_none r.count (counts_of k) in
      let o = sum_none r.count (counts_of x.at) in
      better m none w w x z s b is (λ e. omega (arith, ltb-true x.sum s (sym tells ∙ e), a, o)) (λ e. omega (arith, ltb-false x.sum s (sym tells ∙ e), a, o)) new old best

  -- one cut more, by its number: one that is no moment changes nothing
  pub one_same : (s : Says) (w : Much) (n : ℕ) → n ≡ rank_of r (counts_of k) → (x : Findings) → (Moment r (counts_of k) → ⊥) → Surveyed r s w n x → Surveyed r s w (n + 1) x
  one_same s w n is x never seen =
      let P : ℕ → Type 0 = λ m. Surveyed r s w m x in
      let Q : ℕ → Type 0 = λ m. Surveyed r s w (m + 1) x in
      let seen' = subst P is seen in
      subst Q (sym is) (record {
        moments = count_same r done (counts_of k) inside x.moments never seen'.moments;
        few = omega (arith, seen'.few);
        first = first_same r done (counts_of k) inside s x.first never seen'.first;
        least = best_same r done (counts_of k) inside w none (counts_of x.least.at) never seen'.least;
        most = best_same r done (counts_of k) inside none w (counts_of x.most.at) never seen'.most;
        least_sum = seen.least_sum;
        most_sum = seen.most_sum;
      })

  -- and a moment is counted, and compared with what was there
  pub one_more :
      (s : Says) (w : Much) (n : ℕ) → n ≡ rank_of r (counts_of k) → (x z : Findings) (all : Bool) (sum : ℕ) → Moment r (counts_of k) → Decides all (AllSay r s (counts_of k)) → sum ≡ total r w (counts_of k) →
      z.moments ≡ x.moments + 1 → z.first ≡ option_or x.first (then_some all k) →
      (b : Bool) × (b ≡ ltb sum x.least.sum) × (z.least ≡ cond b (record { sum = sum; at = k }) x.least) → (b : Bool) × (b ≡ ltb x.most.sum sum) × (z.most ≡ cond b (record { sum = sum; at = k }) x.most) →
      Surveyed r s w n x → Surveyed r s w (n + 1) z
  one_more s w n is x z all sum m told total counted first less more seen =
      let P : ℕ → Type 0 = λ i. Surveyed r s w i x in
      let Q : ℕ → Type 0 = λ i. Surveyed r s w (i + 1) z in
      let C : ℕ → Type 0 = HowMany r (Among r (rank_of r (counts_of k) + 1)) in
      let F : Option Counts → Type 0 = FirstAmong r s (rank_of r (counts_of k) + 1) in
      let seen' = subst P is seen in
      let least = lesser m w x.least z.least sum less total seen.least_sum seen'.least in
      let most = greater m w x.most z.most sum more total seen.most_sum seen'.most in
      subst Q (sym is) (record {
        moments = subst C (sym counted) (count_more r done (counts_of k) inside x.moments m seen'.moments);
        few = omega (arith, seen'.few);
        first = subst F (sym first) (first_more r done (counts_of k) inside s x.first k all refl m told seen'.first);
        least = least.0;
        most = most.0;
        least_sum = least.1;
        most_sum = most.1;
      })

  -- where nothing has been seen yet, the first cut is the least and the most
  pub none_seen : (s : Says) (w : Much) (must : Bool) (sum : ℕ) → rank_of r (counts_of k) ≡ 0 → sum ≡ total r w (counts_of k)
      → Surveyed r s w 0 (record { moments = 0; first = None; must = must; least = record { sum = sum; at = k }; most = record { sum = sum; at = k } })
  none_seen s w must sum zero is =
      let m : Moment r (counts_of k) = moment_alike done nothing (counts_of k) (λ i lt. sym (rank_zero r.did r.count (counts_of k) inside zero i lt)) (moment_first done) in
      let best : (v u : Much) → BestAmong r v u 0 (counts_of k) = λ v u. record { moment = m; early = omega (arith, zero); ahead = λ d a. absurd (omega (arith, a.1)) } in
      record {
        moments = how_many_none r (Among r 0) (λ d a. omega (arith, a.1));
        few = omega arith;
        first = λ d a all. omega (arith, a.1);
        least = best w none;
        most = best none w;
        least_sum = is;
        most_sum = is;
      }

-- lower in each machine's count, or alike
lower_rank : (r : Run) (c d : Cut) → Below r c r.did → rank_of r c ≤ rank_of r (lower c d) → Below r c d
lower_rank r c d inside le i lt =
    let up = rank_up r.did r.count (lower c d) c (λ k h. omega arith) in
    let same = rank_once r.did r.count c (lower c d) inside (λ k h. omega (arith, inside k h)) (omega arith) i lt in
    omega (arith, same)

-- of all cuts: the first moment of all yes by number is the first
pub first_all : (r : Run) (s : Says) (o : Option Counts) → FirstAmong r s (cuts_of r) o → FirstOrNone r s o
first_all r s None h = λ may. h may.0 (among_all r may.0 may.1) may.2
first_all r s (Some k) h =
    let c = counts_of k in
    let m = h.0.0 in
    (m, h.1, λ d md all. lower_rank r c d m.inside (elim (cases_lt (rank_of r (lower c d)) (rank_of r c)) [ inl lt ↦ absurd (h.2 (lower c d) (lattice r c d m md).0 (both c d h.1 all) lt) | inr ge ↦ ge ]))
  where
    both : (c d : Cut) → AllSay r s c → AllSay r s d → AllSay r s (lower c d)
    both c d ac ad i lt =
        elim (cases_lt (c i) (d i)) [
          | inl h' ↦ let e : min (c i) (d i) ≡ c i = omega arith in ap (s i) e ∙ ac i lt
          | inr h' ↦ let e : min (c i) (d i) ≡ d i = omega arith in ap (s i) e ∙ ad i lt
        ]

module _ (r : Run) (v w : Much) (c : Cut) (best : BestAmong r v w (cuts_of r) c) where
  best_of : (d : Cut) → Moment r d → total r v c + total r w d ≤ total r v d + total r w c
  best_of d md = elim (best.ahead d (among_all r d md)) [ inl h ↦ omega arith | inr (e, _) ↦ omega arith ]

  -- of those that are as good, it is the lowest
  best_lowest : (d : Cut) → Moment r d → total r v c + total r w d ≡ total r v d + total r w c → Below r c d
  best_lowest d md e =
      let low = (lattice r c d best.moment md).0 in
      let high = best_of (upper c d) (lattice r c d best.moment md).1 in
      elim (best.ahead (lower c d) (among_all r (lower c d) low)) [
        | inl less ↦ absurd (omega (arith, less, high, e, modular r.count v c d, modular r.count w c d))
        | inr (_, le) ↦ lower_rank r c d best.moment.inside le
      ]

pub least_all : (r : Run) (w : Much) (c : Cut) → BestAmong r w none (cuts_of r) c → Least r w c
least_all r w c best = record {
  moment = best.moment;
  least = λ d md. omega (arith, best_of r w none c best d md, sum_none r.count c, sum_none r.count d);
  lowest = λ d md e. best_lowest r w none c best d md (omega (arith, e, sum_none r.count c, sum_none r.count d));
}

pub most_all : (r : Run) (w : Much) (c : Cut) → BestAmong r none w (cuts_of r) c → Most r w c
most_all r w c best = record {
  moment = best.moment;
  most = λ d md. omega (arith, best_of r none w c best d md, sum_none r.count c, sum_none r.count d);
  lowest = λ d md e. best_lowest r none w c best d md (omega (arith, e, sum_none r.count c, sum_none r.count d));
}

pub count_all : (r : Run) (n : ℕ) → HowMany r (Among r (cuts_of r)) n → HowMany r (Moment r) n
count_all r n = how_many_same r (Among r (cuts_of r)) (Moment r) n (λ d a. a.0) (among_all r)
