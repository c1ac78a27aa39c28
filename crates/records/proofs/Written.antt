-- Bytes put one after another, up to a doing beyond the limits.
use Rattle.std.proofs.Common.{◌≡◌, ℕ, ◌+◌, ◌<◌, ◌≤◌, List, [], ◌∷◌, ◌++◌, length, get_or, take, drop, vec_items, sym, ap, ◌∙◌, subst, append_assoc, append-nil, add-one, arith, take-append-drop, length-take, drop-cons}
use Rattle.std.proofs.lemmas.List.{take_more}
use Rattle.std.proofs.lemmas.Grind.{flat_map-append}
use Rattle.records.specs.declared.doing.Doing.{Doing}
use Rattle.records.specs.declared.record.Record as code
use Rattle.records.specs.Record.{record_of, DoingFits, DoingsFit, RecordFits, head_bytes, doing_bytes, doings_bytes}
use Rattle.records.specs.declared.writing.Beyond as told
use Rattle.records.specs.declared.writing.Beyond.TheVariants as variant
use Rattle.records.specs.Writing.{FirstBeyond, Beyond, Form, AtDoing, IsBeyond}
use Rattle.records.proofs.Forms.{fit_more}
use Rattle.records.proofs.Faults.{no_fault_of}
use Rattle.records.proofs.OneForm.{same_record}

-- the first k doings are written
abbrev pub Put : List ℕ → List Doing → ℕ → List ℕ → Type 0
Put start ds k out = DoingsFit (take k ds) × (out ≡ start ++ doings_bytes (take k ds))

bytes_push : (ds : List Doing) (d : Doing) → doings_bytes (ds ++ (d ∷ [])) ≡ doings_bytes ds ++ doing_bytes d
bytes_push ds d = flat_map-append doing_bytes ds (d ∷ []) ∙ ap (λ (x : List ℕ). doings_bytes ds ++ x) (append-nil (doing_bytes d))

pub put_more : (start out out' bs : List ℕ) (ds : List Doing) (k : ℕ) (d : Doing) → k < length ds → Put start ds k out → DoingFits (get_or ds k d) → out' ≡ out ++ bs → bs ≡ doing_bytes (get_or ds k d) → Put start ds (k + 1) out'
put_more start out out' bs ds k d lt put fits e f =
    let P : List Doing → Type 0 = λ xs. DoingsFit xs × (out' ≡ start ++ doings_bytes xs) in
    subst P (sym (take_more ds k d lt)) (
      fit_more (take k ds) (get_or ds k d) put.0 fits,
      e ∙ ap (λ (x : List ℕ). x ++ bs) put.1 ∙ append_assoc start (doings_bytes (take k ds)) bs
          ∙ ap (λ (x : List ℕ). start ++ x) (ap (λ (x : List ℕ). doings_bytes (take k ds) ++ x) f ∙ sym (bytes_push (take k ds) (get_or ds k d))),
    )

pub first_beyond : (ds : List Doing) (k : ℕ) (d : Doing) → k < length ds → DoingsFit (take k ds) → (DoingFits (get_or ds k d) → ⊥) → FirstBeyond ds (k + 1)
first_beyond ds k d lt fit beyond =
    record {
      before = take k ds;
      doing = get_or ds k d;
      after = drop (k + 1) ds;
      parts = sym (take-append-drop k ds) ∙ ap (λ (x : List Doing). take k ds ++ x) (rw (add-one, drop-cons ds k d));
      number = omega (arith, length-take k ds);
      fit = fit;
      beyond = beyond;
    }

-- of the program's values
pub record_put : (start mid out hb : List ℕ) (ds : List Doing) (r : code.Record) (i n : ℕ) → start ≡ [] → mid ≡ start ++ hb → hb ≡ head_bytes i r.sign r.amount n → n ≡ length ds → ds ≡ vec_items r.doings
    → r.amount ≤ 1000000 → length ds ≤ 500 → DoingsFit ds × (out ≡ mid ++ doings_bytes ds) → Form i (record_of r) out
record_put start mid out hb ds r i n none e f g h amount few put =
    let P : List Doing → Type 0 = λ xs. (length xs ≤ 500) × DoingsFit xs × (out ≡ head_bytes i r.sign r.amount (length xs) ++ doings_bytes xs) in
    let q = subst P h (few, put.0, put.1 ∙ ap (λ (x : List ℕ). x ++ doings_bytes ds) (e ∙ ap (λ (x : List ℕ). x ++ hb) none ∙ f ∙ ap (λ (m : ℕ). head_bytes i r.sign r.amount m) g)) in
    let fits : RecordFits (record_of r) = (amount, q.0, q.1) in
    record { fits = fits; bytes = q.2; in_form = λ m fault. no_fault_of i out (record_of r) fits q.2 fault; only = λ p same. same_record i p (record_of r) (sym same ∙ q.2) }

pub beyond_put : (r : code.Record) (ds : List Doing) → ds ≡ vec_items r.doings → r.amount ≤ 1000000 → length ds ≤ 500 → (b : told.Beyond) → AtDoing b (FirstBeyond ds) → IsBeyond (record_of r) b
beyond_put r ds h amount few variant.Head is = absurd is
beyond_put r ds h amount few (variant.Doing m) beyond =
    let P : List Doing → Type 0 = λ xs. (length xs ≤ 500) × FirstBeyond xs m in
    let q = subst P h (few, beyond) in
    (omega (arith, beyond.number), Beyond.doing amount q.0 q.1)
