-- Counts as the program reads and writes them.
use Rattle.std.proofs.Common.{◌≡◌, ℕ, ◌+◌, ◌-◌, ◌<◌, ◌≤◌, List, ◌++◌, length, get_or, set, ap, ◌∙◌, arith, length-append}
use Rattle.std.proofs.Math.ListN.{take, drop, replicate, get_or-append}
use Rattle.std.proofs.Math.Seq.{get_or-append_right}
use Rattle.std.proofs.lemmas.List.{get_or-take, get_or-drop, get_or-set_same, get_or-set_other, get_or-replicate, length-take, length-drop, length-replicate}
use Rattle.runs.specs.declared.counts.Counts.{Counts}
use Rattle.runs.specs.Model.{counts_of}

-- a count among those of the first n machines
pub taken : (c : Counts) (n i : ℕ) → i < length (take n c.of) → (i < n) × (get_or (take n c.of) i 0 ≡ counts_of c i)
taken c n i lt = let h : i < n = omega (arith, length-take n c.of) in (h, get_or-take n c.of i 0 h)

-- the first i begin anew, and the next goes on
module _ (xs zs : List ℕ) (i : ℕ) (lt : i < length xs) (fill : zs ≡ replicate (length (take i xs)) 0) where
  long : length zs ≡ i
  long = omega (arith, ap (λ (l : List ℕ). length l) fill, length-replicate {A = ℕ} (length (take i xs)) 0, length-take i xs)

  abbrev pub anew : List ℕ
  anew = zs ++ drop i xs

  abbrev pub carried : List ℕ
  carried = set anew i (get_or anew i 0 + 1)

  pub rest : (k : ℕ) → i ≤ k → get_or anew k 0 ≡ get_or xs k 0
  rest k le =
      let at : i + (k - length zs) ≡ k = omega (arith, long) in
      get_or-append_right zs (drop i xs) k 0 (omega (arith, long)) ∙ get_or-drop i xs (k - length zs) 0 ∙ ap (λ (x : ℕ). get_or xs x 0) at

  pub carried_here : get_or carried i 0 ≡ get_or xs i 0 + 1
  carried_here = get_or-set_same anew i (get_or anew i 0 + 1) 0 (omega (arith, long, length-append zs (drop i xs), length-drop i xs)) ∙ ap (λ (x : ℕ). x + 1) (rest i (omega arith))

  pub carried_below : (k : ℕ) → k < i → get_or carried k 0 ≡ 0
  carried_below k h =
      get_or-set_other anew i k (get_or anew i 0 + 1) 0 (λ e. omega (arith, e)) ∙ get_or-append zs (drop i xs) 0 k (omega (arith, long)) ∙ ap (λ (l : List ℕ). get_or l k 0) fill
      ∙ get_or-replicate (length (take i xs)) k 0 0 (omega (arith, length-take i xs))

  pub carried_above : (k : ℕ) → i < k → get_or carried k 0 ≡ get_or xs k 0
  carried_above k h = get_or-set_other anew i k (get_or anew i 0 + 1) 0 (λ e. omega (arith, e)) ∙ rest k (omega arith)
