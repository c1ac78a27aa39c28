-- Marks on cuts, one after the other.
use Rattle.std.proofs.Common.{◌≡◌, ◌≢◌, ℕ, ◌+◌, ◌-◌, ◌<◌, ◌≤◌, Bool, false, List, length, replicate, get_or, set, Some, Decides, Option, sym, refl, ap, ◌∙◌, subst, inl, inr, arith}
use Rattle.std.proofs.lemmas.List.{get_or-set_same, get_or-set_other, get_or-replicate, get_or_past, length-replicate}
use Rattle.std.proofs.lemmas.Bool.{cases_lt, both_ways}
use Rattle.std.proofs.lemmas.Option.{MatchOption-at_some}
use Rattle.runs.specs.declared.run.Run as code
use Rattle.runs.specs.Run.{Run, Done}
use Rattle.runs.specs.Model.{run_of, signs_of, counts_of}
use Rattle.runs.proofs.Linked.{linked}
use Rattle.runs.specs.Moment.{Cut, Moment}
use Rattle.moments.specs.Cuts.{Alike, Below}
use Rattle.moments.specs.Signs.{Says, AllSay, ComesTo, begins, goes}
use Rattle.moments.proofs.GoingOn.{back, back_here, back_below, back_else, back_next, next_back}
use Rattle.moments.proofs.Avoiding.{comes_alike, comes_moment, comes_off}
use Rattle.exhaustive.specs.Counter.{weight, cuts_of, rank_of}
use Rattle.exhaustive.specs.Marks.{Marked, Came}
use Rattle.exhaustive.specs.Turns.{Follows}
use Rattle.exhaustive.specs.declared.cut.Cut as held
use Rattle.exhaustive.proofs.Ranks.{rank_next, rank_once, rank_none, rank_zero, weight_some}
use Rattle.exhaustive.proofs.Turning.{AtTurn, cut_of, at_next}

-- the number of the cut with one doing less
pub rank_back : (r : Run) (c : Cut) (i : ℕ) → i < r.count → 0 < c i → rank_of r c ≡ rank_of r (back c i) + weight r.did i
rank_back r c i lt some = rank_next r.did r.count (back c i) c i lt (omega (arith, back_here c i)) (λ k _ ne. back_else c i k ne)

module _ (r : Run) (done : Done r) (s : Says) (marks : List Bool) (c : Cut) (inside : Below r c r.did) (marked : Marked r s marks (rank_of r c)) where
  -- the mark of the cut with one doing less
  before : (i : ℕ) → i < r.count → 0 < c i → Decides (get_or marks (rank_of r c - weight r.did i) false) (ComesTo r s (back c i))
  before i lt some =
      let at = rank_back r c i lt some in
      let is : rank_of r c - weight r.did i ≡ rank_of r (back c i) = omega (arith, at) in
      let P : ℕ → Type 0 = λ n. Decides (get_or marks n false) (ComesTo r s (back c i)) in
      subst P (sym is) (marked (back c i) (λ j h. omega (arith, back_below c i j, inside j h)) (omega (arith, at, weight_some r.did i)))

  pub came_comes : Came r marks c (rank_of r c) → (AllSay r s c → ⊥) → Moment r c → ComesTo r s c
  came_comes (inl first) off m = begins (rank_zero r.did r.count c inside first) off
  came_comes (inr (i, lt, some, mark)) off m = goes c ((before i lt some).0 mark) m (back_next r c i lt some) off

  pub comes_came : ComesTo r s c → Came r marks c (rank_of r c)
  comes_came (begins same off) = inl (rank_none r.did r.count c same)
  comes_came (goes {c = x} _ from m next off) =
      let i = next.who in
      let some : 0 < c i = omega (arith, next.one) in
      inr (i, next.inside, some, (before i next.inside some).1 (comes_alike r done s (back c i) (next_back r x c next) from))

  -- one mark more, and those before it as they were
  pub mark_more : (b : Bool) (marks' : List Bool) → get_or marks' (rank_of r c) false ≡ b → ((k : ℕ) → k ≢ rank_of r c → get_or marks' k false ≡ get_or marks k false) → Decides b (ComesTo r s c) → Marked r s marks' (rank_of r c + 1)
  mark_more b marks' here others told d id h =
      let n = rank_of r c in
      let P : Bool → Type 0 = λ x. Decides x (ComesTo r s d) in
      elim (cases_lt (rank_of r d) n) [
        | inl old ↦ subst P (sym (others (rank_of r d) (λ e. omega (arith, e)))) (marked d id old)
        | inr late ↦
            let e : rank_of r d ≡ n = omega arith in
            let same : Alike r c d = rank_once r.did r.count c d inside id (sym e) in
            let is : get_or marks' (rank_of r d) false ≡ b = ap (λ (x : ℕ). get_or marks' x false) e ∙ here in
            subst P (sym is) (λ t. comes_alike r done s d same (told.0 t), λ x. told.1 (comes_alike r done s c (λ i k. sym (same i k)) x))
      ]

-- of the first n cuts just those are marked to which the run can have come, and none of the others is
pub record Sofar (run : code.Run) (marks : List Bool) (n : ℕ) : Type 0 where
  pub marked : Marked (run_of run) (signs_of run) marks n
  pub clear : (k : ℕ) → n ≤ k → get_or marks k false ≡ false

-- before the first, none is
pub unmarked : (run : code.Run) (n : ℕ) → Sofar run (replicate n false) 0
unmarked run n = record {
  marked = λ c id lt. absurd (omega arith);
  clear = λ k _. elim (cases_lt k n) [ inl lt ↦ get_or-replicate n k false false lt | inr ge ↦ get_or_past (replicate n false) k false (omega (arith, ge, length-replicate n false)) ];
}

-- one mark more, at the cut that the program is at
marked_more : (run : code.Run) (marks marks' : List Bool) (cut : held.Cut) (b : Bool) → cut.run.now ≡ run → get_or marks' cut.number false ≡ b → ((k : ℕ) → k ≢ cut.number → get_or marks' k false ≡ get_or marks k false)
    → Decides b (ComesTo (run_of cut.run.now) (signs_of cut.run.now) (counts_of cut.counts)) → Marked (run_of run) (signs_of run) marks cut.number → Marked (run_of run) (signs_of run) marks' (cut.number + 1)
marked_more run marks marks' cut b at here others told marked =
    let r = run_of run in
    let s = signs_of run in
    let c = counts_of cut.counts in
    let of = cut_of run cut at in
    let P : ℕ → Type 0 = Marked r s marks in
    let H : ℕ → Type 0 = λ n. get_or marks' n false ≡ b in
    let O : ℕ → Type 0 = λ n. (k : ℕ) → k ≢ n → get_or marks' k false ≡ get_or marks k false in
    let Q : ℕ → Type 0 = λ n. Marked r s marks' (n + 1) in
    let R : code.Run → Type 0 = λ x. Decides b (ComesTo (run_of x) (signs_of x) c) in
    subst Q (sym of.numbered) (mark_more r (linked run).range s marks c of.inside (subst P of.numbered marked) b marks' (subst H of.numbered here) (subst O of.numbered others) (subst R at told))

-- where a mark is set, those before the next turn are right if those before this one are, whatever the later ones are
pub mark_turn : (run : code.Run) (count : ℕ) (marks : List Bool) (now : Option held.Cut) (cut : held.Cut) (next : Option held.Cut) (b : Bool) → count ≡ cuts_of (run_of run) → length marks ≡ count → now ≡ Some cut → Follows cut next
    → Decides b (ComesTo (run_of cut.run.now) (signs_of cut.run.now) (counts_of cut.counts)) → AtTurn run count (Marked (run_of run) (signs_of run) marks) now → AtTurn run count (Marked (run_of run) (signs_of run) (set marks cut.number b)) next
mark_turn run count marks now cut next b all long is follows told marked =
    let old : (cut.run.now ≡ run) × Marked (run_of run) (signs_of run) marks cut.number = MatchOption-at_some _ _ cut is marked in
    let of = cut_of run cut old.0 in
    let here = get_or-set_same marks cut.number b false (omega (arith, of.within, long, all)) in
    at_next run count (Marked (run_of run) (signs_of run) (set marks cut.number b)) cut next all old.0 follows (marked_more run marks (set marks cut.number b) cut b old.0 here (λ k ne. get_or-set_other marks cut.number k b false ne) told old.1)

-- the marks at the next turn
pub sofar_turn : (run : code.Run) (count : ℕ) (marks marks' : List Bool) (now : Option held.Cut) (cut : held.Cut) (next : Option held.Cut) (b : Bool) → count ≡ cuts_of (run_of run)
    → get_or marks' cut.number false ≡ b → ((k : ℕ) → k ≢ cut.number → get_or marks' k false ≡ get_or marks k false) → now ≡ Some cut → Follows cut next
    → Decides b (ComesTo (run_of cut.run.now) (signs_of cut.run.now) (counts_of cut.counts)) → AtTurn run count (Sofar run marks) now → AtTurn run count (Sofar run marks') next
sofar_turn run count marks marks' now cut next b all here others is follows told sofar =
    let old : (cut.run.now ≡ run) × Sofar run marks cut.number = MatchOption-at_some _ _ cut is sofar in
    let sofar' : Sofar run marks' (cut.number + 1) = record {
      marked = marked_more run marks marks' cut b old.0 here others told old.1.marked;
      clear = λ k le. others k (λ e. omega (arith, e)) ∙ old.1.clear k (omega arith);
    } in
    at_next run count (Sofar run marks') cut next all old.0 follows sofar'

-- where a mark is set, no other changes
pub mark_set : (run : code.Run) (count : ℕ) (marks : List Bool) (now : Option held.Cut) (cut : held.Cut) (next : Option held.Cut) (b : Bool) → count ≡ cuts_of (run_of run) → length marks ≡ count → now ≡ Some cut → Follows cut next
    → Decides b (ComesTo (run_of cut.run.now) (signs_of cut.run.now) (counts_of cut.counts)) → AtTurn run count (Sofar run marks) now → AtTurn run count (Sofar run (set marks cut.number b)) next
mark_set run count marks now cut next b all long is follows told sofar =
    let old : (cut.run.now ≡ run) × Sofar run marks cut.number = MatchOption-at_some _ _ cut is sofar in
    let of = cut_of run cut old.0 in
    sofar_turn run count marks (set marks cut.number b) now cut next b all (get_or-set_same marks cut.number b false (omega (arith, of.within, long, all))) (λ k ne. get_or-set_other marks cut.number k b false ne) is follows told sofar

-- at a cut that is no moment none is set
pub mark_none : (run : code.Run) (count : ℕ) (marks : List Bool) (now : Option held.Cut) (cut : held.Cut) (next : Option held.Cut) → count ≡ cuts_of (run_of run) → now ≡ Some cut → Follows cut next
    → (Moment (run_of cut.run.now) (counts_of cut.counts) → ⊥) → AtTurn run count (Sofar run marks) now → AtTurn run count (Sofar run marks) next
mark_none run count marks now cut next all is follows never sofar =
    let old : (cut.run.now ≡ run) × Sofar run marks cut.number = MatchOption-at_some _ _ cut is sofar in
    sofar_turn run count marks marks now cut next false all (old.1.clear cut.number (omega arith)) (λ k ne. refl) is follows (λ e. absurd (both_ways false refl e), λ comes. absurd (never (comes_moment (run_of cut.run.now) (linked cut.run.now).range (signs_of cut.run.now) comes))) sofar

-- what the program looks at decides whether the run can have come to a cut
module _ (cut : held.Cut) (marks : List Bool) (marked : Marked (run_of cut.run.now) (signs_of cut.run.now) marks cut.number) where
  abbrev of : Run
  of = run_of cut.run.now

  abbrev signs : Says
  signs = signs_of cut.run.now

  abbrev at : Cut
  at = counts_of cut.counts

  before_it : Marked of signs marks (rank_of of at)
  before_it = let P : ℕ → Type 0 = Marked of signs marks in subst P cut.numbered marked

  pub does_come : Came of marks at cut.number → (AllSay of signs at → ⊥) → Moment of at → ComesTo of signs at
  does_come came off m =
      let P : ℕ → Type 0 = Came of marks at in
      came_comes of (linked cut.run.now).range signs marks at cut.inside before_it (subst P cut.numbered came) off m

  pub has_come : ComesTo of signs at → Came of marks at cut.number × (AllSay of signs at → ⊥) × Moment of at
  has_come comes =
      let P : ℕ → Type 0 = Came of marks at in
      let done = (linked cut.run.now).range in
      (subst P (sym cut.numbered) (comes_came of done signs marks at cut.inside before_it comes), comes_off of done signs comes, comes_moment of done signs comes)
