-- The links say just the run's steps.
use Rattle.std.proofs.Common.{◌≡◌, ℕ, zero, suc, ◌+◌, ◌-◌, ◌<◌, false, List, [], ◌∷◌, map, length, get_or, Some, None, Option, sym, refl, ap, ◌∙◌, subst, inl, inr, ⊎_elim, arith}
use mathlib.Core.List.{Memᴰ}
use lib.ListN.{length-map}
use Rattle.std.specs.Option.{option_map}
use Rattle.std.proofs.lemmas.Bool.{ltb-true, lt-ltb}
use Rattle.std.proofs.lemmas.List.{get_or-map, get_or_past}
use Rattle.records.specs.declared.place.Place.{Place}
use Rattle.letters.specs.declared.letter.Letter.{Letter}
use Rattle.runs.specs.declared.counts.Counts.{Counts}
use Rattle.runs.specs.declared.run.Run as code
use Rattle.runs.specs.Model.{counts_of, sending_of, run_of}
use Rattle.runs.proofs.Linked.{linked, came_from}
use Rattle.rings.specs.declared.links.Link.{Link}
use Rattle.rings.specs.RingSearch.{Edge, Walk, AtLeast, Greedy, Found}
use Rattle.rings.specs.Links.{link_at, Within, In}
use Rattle.rings.specs.Lowest.{AllBelow}
use Rattle.letters.specs.Noting.{place as at}
use Rattle.rings.specs.Numbers.{Numbered, place_of, number_of, link_of}
use Rattle.rings.proofs.Comparing.{le_or_lt}
use Rattle.rings.proofs.Places.{Next}
use Rattle.rings.proofs.Numbered.{flat, number_at}
use Rattle.rings.proofs.Edges.{one_number, edge_cases, edge_letter, edge_next, next_number}

module _ (r : code.Run) (places : List Place) (begins : Counts) (links : List Link) (numbered : Numbered r places begins) (is : links ≡ map (link_of r begins) places) where
  pub size : length links ≡ length places
  size = ap length is ∙ length-map places (link_of r begins)

  link_is : (w : ℕ) → w < length places → link_at links w ≡ link_of r begins (place_of places w)
  link_is w lt = ap (λ (z : List Link). link_at z w) is ∙ get_or-map (link_of r begins) places w (at 0 0) (record { own = false; letter = None }) lt

  -- where a letter was sent that w gets
  pub record Sent (w v : ℕ) : Type 0 where
    pub letter : Letter
    pub mem : Memᴰ letter (run_of r).letters
    pub below : v < length places
    pub from : at letter.from letter.sent ≡ place_of places v
    pub to : at letter.to letter.got ≡ place_of places w

  sent : (w v : ℕ) → w < length places → (link_at links w).letter ≡ Some v → Sent w v
  sent w v lt e = go (sending_of r (place_of places w).machine (place_of places w).doing) refl (sym (ap (λ (z : Link). z.letter) (link_is w lt)) ∙ e)
    where
      go : (o : Option Place) → sending_of r (place_of places w).machine (place_of places w).doing ≡ o → option_map (number_of begins) (sending_of r (place_of places w).machine (place_of places w).doing) ≡ Some v → Sent w v
      go None none f = let g : None ≡ Some v = sym (ap (option_map (number_of begins)) none) ∙ f in cc
      go (Some p) by f =
          let g : Some (number_of begins p) ≡ Some v = sym (ap (option_map (number_of begins)) by) ∙ f in
          let h : number_of begins p ≡ v = cc in
          let d = (flat r places begins numbered).only w lt in
          let m = (linked r).sent p (place_of places w).machine (place_of places w).doing d.0 d.1 d.2 by in
          let range = (linked r).range _ m in
          let k = number_at r places begins numbered p.machine p.doing range.0 range.2 range.3 in
          record { letter = _; mem = m; below = omega (arith, k.0, h); from = sym k.1 ∙ ap (place_of places) h; to = refl }

  -- each letter's sending has a number
  pub all_within : Within links
  all_within w v e =
      elim (le_or_lt (length links) w) [
        | inl ge ↦ let f : None ≡ Some v = sym (ap (λ (z : Link). z.letter) (get_or_past links w (record { own = false; letter = None }) ge)) ∙ e in cc
        | inr lt ↦ omega (arith, size, (sent w v (omega (arith, size)) e).below)
      ]

  -- the doing before it, of its machine
  before_it : (w : ℕ) → w < length places → 1 < (place_of places w).doing → (a : ℕ) × (a < length places) × (place_of places a ≡ at (place_of places w).machine ((place_of places w).doing - 1)) × (w ≡ a + 1)
  before_it w lw more =
      let f = flat r places begins numbered in
      let d = f.only w lw in
      let p = place_of places w in
      let k = number_at r places begins numbered p.machine (p.doing - 1) d.0 (omega arith) (omega (arith, d.2)) in
      let a = counts_of begins p.machine + (p.doing - 1) - 1 in
      let x : Next (run_of r) (place_of places a) p = (ap (λ (q : Place). q.machine) k.1, omega (arith, ap (λ (q : Place). q.doing) k.1), omega (arith, ap (λ (q : Place). q.doing) k.1), omega (arith, d.2, ap (λ (q : Place). q.doing) k.1, ap (λ (q : Place). (run_of r).did q.machine) k.1)) in
      (a, k.0, k.1, next_number (run_of r) (length places) (place_of places) f a w k.0 lw x)

  pub to_edge : (v w : ℕ) → In links v w → Edge (run_of r) (length places) (place_of places) v w
  to_edge v w (lv, lw, how) =
      let f = flat r places begins numbered in
      let vl : v < length places = omega (arith, size) in
      let wl : w < length places = omega (arith, size) in
      ⊎_elim
      (λ x.
      let more : 1 < (place_of places w).doing = ltb-true 1 (place_of places w).doing (sym (ap (λ (z : Link). z.own) (link_is w wl)) ∙ x.0) in
      let b = before_it w wl more in
      let a_is : b.0 ≡ v = omega (arith, b.3, x.1) in
      let P : ℕ → Type 0 = λ z. Edge (run_of r) (length places) (place_of places) v z in
      let same : (place_of places v).machine ≡ (place_of places (v + 1)).machine = ap (λ (z : ℕ). (place_of places z).machine) (sym a_is) ∙ ap (λ (q : Place). q.machine) b.2 ∙ ap (λ (z : ℕ). (place_of places z).machine) x.1 in
      subst P (sym x.1) (edge_next (run_of r) (length places) (place_of places) f v (omega (arith, x.1)) same))
      (λ x. let z = sent w v wl x in edge_letter (run_of r) (length places) (place_of places) f v w vl wl z.letter z.mem z.from z.to)
      how

  pub from_edge : (v w : ℕ) → Edge (run_of r) (length places) (place_of places) v w → In links v w
  from_edge v w e =
      let f = flat r places begins numbered in
      let d = f.only v e.0 in (
        omega (arith, e.0, size),
        omega (arith, e.1, size),
        ⊎_elim
            (λ x.
            let early = f.up v w (omega (arith, x.0)) e.1 in
            let more : 1 < (place_of places w).doing = ⊎_elim (λ lt. absurd (omega (arith, x.1))) (λ y. omega (arith, y.1, d.1)) early in
            inl (ap (λ (z : Link). z.own) (link_is w e.1) ∙ lt-ltb 1 (place_of places w).doing more, x.0))
            (λ x.
            let l = x.0 in
            let range = (linked r).range l x.1 in
            let k = number_at r places begins numbered l.from l.sent range.0 range.2 range.3 in
            let v_is : number_of begins (at l.from l.sent) ≡ v = one_number (run_of r) (length places) (place_of places) f _ v k.0 e.0 (k.1 ∙ x.2) in
            let got : sending_of r (place_of places w).machine (place_of places w).doing ≡ Some (came_from l) = ap (λ (q : Place). sending_of r q.machine q.doing) (sym x.3) ∙ (linked r).got l x.1 in
            inr (ap (λ (z : Link). z.letter) (link_is w e.1) ∙ ap (option_map (number_of begins)) got ∙ ap (λ (z : ℕ). Some z) v_is))
            (edge_cases (run_of r) (length places) (place_of places) f v w e),
      )

-- what was found along one relation was found along the same one
module _ (E F : ℕ → ℕ → Type 0) (to : (v w : ℕ) → E v w → F v w) (from : (v w : ℕ) → F v w → E v w) where
  same_walk : (v : ℕ) (qs : List ℕ) (b : ℕ) → Walk F v qs b → Walk E v qs b
  same_walk v [] b w = from v b w
  same_walk v (q ∷ qs) b w = (from v q w.0, same_walk q qs b w.1)

  pub same_least : (t m : ℕ) → AtLeast E t m → AtLeast F t m
  same_least t m h qs f w = h qs f (same_walk t qs t w)

  same_greedy : (s : ℕ) (d : ℕ → ℕ) (v : ℕ) (ws : List ℕ) → Greedy E s d v ws → Greedy F s d v ws
  same_greedy s d v [] g = to v s g
  same_greedy s d v (w ∷ ws) g = (to v w g.0, (λ u a e. g.1 u a (from v u e)), same_greedy s d w ws g.2)

  pub same_found : (s : ℕ) (ws : List ℕ) → Found E s ws → Found F s ws
  same_found s ws x =
      record {
        d = x.d;
        table = record { close = λ v a e. x.table.close v a (from v s e); on = λ v w a b e. x.table.on v w a b (from v w e) };
        goes = same_greedy s x.d s ws x.goes;
        least = λ t. same_least t _ (x.least t);
        first = λ t lt. same_least t _ (x.first t lt);
      }

-- the numbers of a way are below the count
pub greedy_below : (links : List Link) (s : ℕ) (d : ℕ → ℕ) (v : ℕ) (ws : List ℕ) → Greedy (In links) s d v ws → (v < length links) × AllBelow (length links) ws
greedy_below links s d v [] g = (g.0, λ k lt. absurd (omega arith))
greedy_below links s d v (w ∷ ws) g =
    let rest = greedy_below links s d w ws g.2 in
    (g.0.0, λ k lt. each k lt rest.0 rest.1)
  where
    each : (k : ℕ) → k < length (w ∷ ws) → w < length links → AllBelow (length links) ws → get_or (w ∷ ws) k 0 < length links
    each zero lt here more = here
    each (suc k) lt here more = more k (omega arith)
