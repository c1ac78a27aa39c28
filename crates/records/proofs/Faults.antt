-- A file that is no record shows it at one doing only, and a record at none.
use Rattle.std.proofs.Common.{◌≡◌, ℕ, ◌+◌, ◌/◌, ◌%◌, ◌<◌, ◌≤◌, Bool, ◌⊎◌, List, [], ◌∷◌, ◌++◌, length, get_or, drop, sym, refl, ap, ◌∙◌, subst, inl, inr, append_assoc, append-nil, arith, length-append}
use Rattle.std.proofs.lemmas.Bool.{cases_order}
use Rattle.records.specs.declared.doing.Doing.{Doing}
use Rattle.records.specs.Record.{Record, DoingFits, DoingsFit, RecordFits, head_bytes, doing_bytes, doings_bytes, record_bytes}
use Rattle.records.specs.Refusal.{Begun, FileFault}

-- a head says one count, and has one end
pub head_rest : (i n m : ℕ) (s t : Bool) (a b : ℕ) (x y : List ℕ) → head_bytes i s a n ++ x ≡ head_bytes i t b m ++ y → x ≡ y
head_rest i n m s t a b x y e = ap (λ (l : List ℕ). drop 9 l) e

pub head_count : (i n m : ℕ) (s t : Bool) (a b : ℕ) (x y : List ℕ) → head_bytes i s a n ++ x ≡ head_bytes i t b m ++ y → n ≡ m
head_count i n m s t a b x y e =
    let high : n / 256 ≡ m / 256 = ap (λ (l : List ℕ). get_or l 7 0) e in
    let low : n % 256 ≡ m % 256 = ap (λ (l : List ℕ). get_or l 8 0) e in
    omega arith

-- of two lists of doings with the same bytes the shorter begins the longer
pub onward : (ds es : List Doing) (x y : List ℕ) → DoingsFit es → doings_bytes ds ++ x ≡ doings_bytes es ++ y → length ds ≤ length es
    → (more : List Doing) × DoingsFit more × (x ≡ doings_bytes more ++ y) × (length ds + length more ≡ length es)
onward [] es x y fs e le = (es, fs, e, omega arith)
onward (d ∷ ds) [] x y fs e le = absurd (omega arith)
onward (d ∷ ds) (g ∷ es) x y fs e le =
    let r = onward ds es x y fs.1 (ap (λ (l : List ℕ). drop 10 l) e) (omega arith) in
    (r.0, r.1, r.2, omega (arith, r.3))

module _ (i : ℕ) (f : List ℕ) where
  pub one_count : {n m : ℕ} {ds es : List Doing} {x y : List ℕ} → Begun i f n ds x → Begun i f m es y → n ≡ m
  one_count {n} {m} {ds} {es} {x} {y} b c = head_count i n m b.sign c.sign b.amount c.amount (doings_bytes ds ++ x) (doings_bytes es ++ y) (sym b.bytes ∙ c.bytes)

  pub goes : {n m : ℕ} {ds es : List Doing} {x y : List ℕ} → Begun i f n ds x → Begun i f m es y → length ds ≤ length es
      → (more : List Doing) × DoingsFit more × (x ≡ doings_bytes more ++ y) × (length ds + length more ≡ length es)
  goes {n} {m} {ds} {es} {x} {y} b c le =
      onward ds es x y c.fit (head_rest i n m b.sign c.sign b.amount c.amount (doings_bytes ds ++ x) (doings_bytes es ++ y) (sym b.bytes ∙ c.bytes)) le

  -- one doing more, then
  pub next : (more : List Doing) (x y : List ℕ) → DoingsFit more → x ≡ doings_bytes more ++ y → 0 < length more → ((d : Doing) (after : List ℕ) → DoingFits d → x ≡ doing_bytes d ++ after → ⊥) → ⊥
  next [] x y fs e lt none = omega arith
  next (d ∷ ds) x y fs e lt none = none d (doings_bytes ds ++ y) fs.0 (e ∙ append_assoc (doing_bytes d) (doings_bytes ds) y)

  pub no_next : {n m : ℕ} {ds es : List Doing} {x y : List ℕ} → Begun i f n ds x → Begun i f m es y → length ds < length es → ((d : Doing) (after : List ℕ) → DoingFits d → x ≡ doing_bytes d ++ after → ⊥) → ⊥
  no_next {n} {m} {ds} {es} {x} {y} b c lt none = let r = goes b c (omega arith) in next r.0 x y r.1 r.2 (omega (arith, r.3)) none

  pub front : {n : ℕ} {ds : List Doing} {x : List ℕ} → Begun i f n ds x → Begun i f n [] (doings_bytes ds ++ x)
  front b = record { sign = b.sign; amount = b.amount; amount_fits = b.amount_fits; few = b.few; within = omega arith; fit = tt; bytes = b.bytes }

  pub one_fault : {m n : ℕ} → FileFault i f m → FileFault i f n → m ≡ n
  one_fault (FileFault.head none) (FileFault.head others) = refl
  one_fault (FileFault.head none) (FileFault.doing b lt last) = absurd (none _ _ (front b))
  one_fault (FileFault.head none) (FileFault.too_long b e) = absurd (none _ _ (front b))
  one_fault (FileFault.doing b lt last) (FileFault.head none) = absurd (none _ _ (front b))
  one_fault (FileFault.doing {ds = ds} b lt last) (FileFault.doing {ds = es} c lt' last') =
      elim (cases_order (length ds) (length es)) [ inl h ↦ omega arith | inr (inl h) ↦ absurd (no_next b c h last) | inr (inr h) ↦ absurd (no_next c b h last') ]
  one_fault (FileFault.doing b lt last) (FileFault.too_long c e) = let same = one_count b c in absurd (no_next b c (omega arith) last)
  one_fault (FileFault.too_long b e) (FileFault.head none) = absurd (none _ _ (front b))
  one_fault (FileFault.too_long b e) (FileFault.doing c lt last) = let same = one_count b c in absurd (no_next c b (omega arith) last)
  one_fault (FileFault.too_long b e) (FileFault.too_long c e') = one_count b c

  -- all of it read
  pub no_fault : {n m : ℕ} {es : List Doing} → Begun i f n es [] → length es ≡ n → FileFault i f m → ⊥
  no_fault c e (FileFault.head none) = none _ _ (front c)
  no_fault c e (FileFault.doing b lt last) = let same = one_count b c in no_next b c (omega arith) last
  no_fault c e (FileFault.too_long {b = x} {rest = rest} b e') =
      let same = one_count b c in
      let r = goes c b (omega arith) in
      let long : ◌≡◌ {A = ℕ} 0 (length (doings_bytes r.0 ++ (x ∷ rest))) = ap length r.2 in
      omega (arith, length-append (doings_bytes r.0) (x ∷ rest))

pub whole_begun : (i : ℕ) (r : Record) → RecordFits r → Begun i (record_bytes i r) (length r.doings) r.doings []
whole_begun i r fits =
    record {
      sign = r.sign;
      amount = r.amount;
      amount_fits = fits.0;
      few = fits.1;
      within = omega arith;
      fit = fits.2;
      bytes = ap (λ (x : List ℕ). head_bytes i r.sign r.amount (length r.doings) ++ x) (sym (append-nil (doings_bytes r.doings)));
    }

pub no_fault_of : (i : ℕ) (f : List ℕ) {m : ℕ} (r : Record) → RecordFits r → f ≡ record_bytes i r → FileFault i f m → ⊥
no_fault_of i f {m} r fits e h = let P : List ℕ → Type 0 = λ x. FileFault i x m in no_fault i (record_bytes i r) (whole_begun i r fits) refl (subst P e h)
