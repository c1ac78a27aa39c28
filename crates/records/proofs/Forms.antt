-- Doings one after another, as bytes.
use Rattle.std.proofs.Common.{◌≡◌, ℕ, ◌+◌, ◌-◌, ◌*◌, ◌<◌, ◌≤◌, List, [], ◌∷◌, ◌++◌, length, take, drop, sym, ap, ◌∙◌, subst, append_assoc, append-nil, arith, length-append, length-drop, drop-drop}
use Rattle.std.proofs.lemmas.List.{take_rest}
use Rattle.std.proofs.lemmas.Grind.{flat_map-append}
use Rattle.records.specs.Record.{DoingFits, DoingsFit, doing_bytes, doings_bytes}
use Rattle.records.specs.declared.doing.Doing.{Doing}
use Rattle.records.specs.Reading.{Begin, IsDoing, NoDoing, NoDoingAt}

pub long : (ds : List Doing) → length (doings_bytes ds) ≡ 10 * length ds
long [] = omega arith
long (d ∷ ds) = omega (arith, long ds)

pub fit_more : (ds : List Doing) (d : Doing) → DoingsFit ds → DoingFits d → DoingsFit (ds ++ (d ∷ []))
fit_more [] d fs f = (f, tt)
fit_more (x ∷ xs) d fs f = (fs.0, fit_more xs d fs.1 f)

pub bytes_more : (ds : List Doing) (d : Doing) (bs : List ℕ) → doings_bytes (ds ++ (d ∷ [])) ++ bs ≡ doings_bytes ds ++ (doing_bytes d ++ bs)
bytes_more ds d bs = rw (flat_map-append doing_bytes ds (d ∷ [])) (append_assoc (doings_bytes ds) (doing_bytes d ++ []) bs ∙ ap (λ (x : List ℕ). doings_bytes ds ++ x) (ap (λ (x : List ℕ). x ++ bs) (append-nil (doing_bytes d))))

pub begin_long : (bs : List ℕ) (ds : List Doing) → Begin bs ds → 10 * length ds ≤ length bs
begin_long bs ds b = omega (arith, ap length b.1, length-append (doings_bytes ds) (drop (10 * length ds) bs), long ds, length-drop (10 * length ds) bs)

begin_next : (bs : List ℕ) (ds : List Doing) (d : Doing) → Begin bs ds → IsDoing (drop (10 * length ds) bs) d → Begin bs (ds ++ (d ∷ []))
begin_next bs ds d b is = (
  fit_more ds d b.0 is.0,
  b.1 ∙ ap (λ (x : List ℕ). doings_bytes ds ++ x) is.1 ∙ sym (bytes_more ds d (drop 10 (drop (10 * length ds) bs)))
      ∙ ap (λ (x : List ℕ). doings_bytes (ds ++ (d ∷ [])) ++ x) (drop-drop 10 (10 * length ds) bs ∙ ap (λ (n : ℕ). drop n bs) (omega (arith, length-append ds (d ∷ [])))),
)

-- m doings and one more
pub begin_more : (bs : List ℕ) (xs ys : List Doing) (x : Doing) (m : ℕ) → length xs ≡ m → ys ≡ xs ++ (x ∷ []) → Begin bs xs → IsDoing (take (length bs - 10 * m) (drop (10 * m) bs)) x → Begin bs ys
begin_more bs xs ys x m n e b is =
    let P : List ℕ → Type 0 = λ zs. IsDoing zs x in
    let Q : List Doing → Type 0 = λ ds. Begin bs ds in
    subst Q (sym e) (begin_next bs xs x b (subst P (take_rest bs (10 * m) ∙ ap (λ (k : ℕ). drop (10 * k) bs) (sym n)) is))

-- m doings and no more
pub fault : (bs : List ℕ) (xs : List Doing) (m count : ℕ) → length xs ≡ m → m < count → Begin bs xs → NoDoing (take (length bs - 10 * m) (drop (10 * m) bs)) → NoDoingAt bs count (m + 1)
fault bs xs m count n lt b none =
    let P : List ℕ → Type 0 = NoDoing in
    (xs, omega arith, omega arith, b, subst P (take_rest bs (10 * m) ∙ ap (λ (k : ℕ). drop (10 * k) bs) (sym n)) none)
