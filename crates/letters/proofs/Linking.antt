-- Letters that were got, each with its sending.
use Rattle.std.proofs.Common.{◌≡◌, ℕ, ◌+◌, ◌<◌, ◌≤◌, ◌⊎◌, List, [], ◌∷◌, ◌++◌, length, is_some, None, sym, refl, ap, ◌∙◌, subst, inl, inr, true≢false, arith}
use mathlib.Core.List.Memᴰ
use Rattle.std.proofs.lemmas.Bool.{cases_order}
use mathlib.Core.List.{Memᴰ}
use Rattle.records.specs.declared.doing.Kind.{Kind}
use Rattle.records.specs.declared.doing.Kind.TheVariants.{Neither, Sends, Gets}
use Rattle.records.specs.declared.place.Place.{Place}
use Rattle.records.specs.Record.{Record, letter_in, kind_of, did_of}
use Rattle.records.specs.Refusal.{Earlier, FirstPlace, Again, Unsent}
use Rattle.letters.specs.declared.letter.Letter.{Letter}
use Rattle.letters.specs.declared.seen.Seen.{Seen}
use Rattle.letters.specs.Seen.{seen_at}
use Rattle.letters.specs.Noting.{place, Noted}
use Rattle.letters.specs.Matching.{got_at, Rising, Linked, LettersOf}
use Rattle.letters.proofs.Machines.{within}
use Rattle.letters.proofs.InOrder.{upto, later, crossed, early}

pub not_neither : (k : Kind) (l : ℕ) → k ≡ Gets l → k ≡ Neither → ⊥
not_neither k l e f = let z : ◌≡◌ {A = ℕ} 0 1 = cc in omega arith

pub sends_some : (k : Kind) (l : ℕ) → k ≡ Sends l → k ≡ Neither → ⊥
sends_some k l e f = let z : ◌≡◌ {A = ℕ} 0 1 = cc in omega arith

pub not_gets : (r : Kind) → ((x : ℕ) → r ≡ Gets x → ⊥) → (l : ℕ) → r ≡ Gets l → ⊥
not_gets Neither h l e = let z : ◌≡◌ {A = ℕ} 0 1 = cc in omega arith
not_gets (Sends x) h l e = let z : ◌≡◌ {A = ℕ} 0 1 = cc in omega arith
not_gets (Gets x) h l e = h x refl

one_letter : (k : Kind) (a b : ℕ) → k ≡ Gets a → k ≡ Gets b → a ≡ b
one_letter k a b e f = ap letter_in (sym e ∙ f)

rising_push : (ls : List Letter) (l : Letter) → Rising ls → ((x : Letter) → Memᴰ x ls → Earlier (got_at x) (got_at l)) → Rising (ls ++ (l ∷ []))
rising_push [] l r h = (λ x mem. absurd (Memᴰ.not-nil mem), tt)
rising_push (y ∷ ys) l r h = (
  λ x mem. elim (Memᴰ.append_cases ys mem) [
    | inl old ↦ r.0 x old
    | inr new ↦ let P : Letter → Type 0 = λ z. Earlier (got_at y) (got_at z) in subst P (sym (Memᴰ.eq_of_singleton new)) (h y (Memᴰ.head refl))
  ],
  rising_push ys l r.1 (λ x mem. h x (Memᴰ.tail mem)),
)

module _ (rs : List Record) where
  pub skip : (ls : List Letter) (i m : ℕ) → Linked rs (place i m) ls → ((l : ℕ) → kind_of rs i m ≡ Gets l → ⊥) → Linked rs (place i (m + 1)) ls
  skip ls i m h none =
      record {
        known = h.known;
        before = λ l mem. later (got_at l) i m (h.before l mem);
        rising = h.rising;
        there = λ q k before got. elim (upto q i m before) [
          | inl earlier ↦ h.there q k earlier got
          | inr at_it ↦ absurd (none k (sym (ap (λ (j : ℕ). kind_of rs j q.doing) at_it.0 ∙ ap (λ (n : ℕ). kind_of rs i n) at_it.1) ∙ got))
        ];
      }

  pub link : (ls ls' : List Letter) (l : Letter) (i m k : ℕ) → Linked rs (place i m) ls → ls' ≡ ls ++ (l ∷ []) → kind_of rs l.from l.sent ≡ Sends k → l.to ≡ i → l.got ≡ m → kind_of rs i m ≡ Gets k → Linked rs (place i (m + 1)) ls'
  link ls ls' l i m k h e sent to got here =
      let P : List Letter → Type 0 = λ x. Linked rs (place i (m + 1)) x in
      let l_is : kind_of rs l.to l.got ≡ kind_of rs i m = ap (λ (j : ℕ). kind_of rs j l.got) to ∙ ap (λ (n : ℕ). kind_of rs i n) got in
      subst P (sym e) (record {
        known = λ x mem. elim (Memᴰ.append_cases ls mem) [
          | inl old ↦ h.known x old
          | inr new ↦ let same = Memᴰ.eq_of_singleton new in
              (k, ap (λ (y : Letter). kind_of rs y.from y.sent) same ∙ sent, ap (λ (y : Letter). kind_of rs y.to y.got) same ∙ l_is ∙ here)
        ];
        before = λ x mem. elim (Memᴰ.append_cases ls mem) [
          | inl old ↦ later (got_at x) i m (h.before x old)
          | inr new ↦ let same = Memᴰ.eq_of_singleton new in inr (ap (λ (y : Letter). y.to) same ∙ to, omega (arith, ap (λ (y : Letter). y.got) same))
        ];
        rising = rising_push ls l h.rising (λ x mem. let Q : Place → Type 0 = λ z. Earlier (got_at x) z in subst Q (sym (ap (λ (j : ℕ). place j l.got) to ∙ ap (λ (n : ℕ). place i n) got)) (h.before x mem));
        there = λ q j before gotten. elim (upto q i m before) [
          | inl earlier ↦ let old = h.there q j earlier gotten in (old.0, Memᴰ.append_left (l ∷ []) old.1, old.2, old.3)
          | inr at_it ↦ (l, Memᴰ.append_right ls (Memᴰ.head refl), to ∙ sym at_it.0, got ∙ sym at_it.1)
        ];
      })

  -- who got it earlier knows who sent it
  no_unsent : (ls : List Letter) (p q : Place) → Linked rs p ls → Earlier q p → Unsent rs q → ⊥
  no_unsent ls p q h before u =
      let old = h.there q u.number before u.got in
      let known = h.known old.0 old.1 in
      let at_it : kind_of rs old.0.to old.0.got ≡ Gets u.number = ap (λ (j : ℕ). kind_of rs j old.0.got) old.2 ∙ ap (λ (n : ℕ). kind_of rs q.machine n) old.3 ∙ u.got in
      u.nobody old.0.from old.0.sent (known.1 ∙ ap Sends (one_letter _ _ _ known.2 at_it))

  pub first_unsent : (s : Seen) (ls : List Letter) (i m k : ℕ) → Noted rs s → Linked rs (place i m) ls → kind_of rs i m ≡ Gets k → None ≡ seen_at s (Sends k) → FirstPlace (Unsent rs) (place i m)
  first_unsent s ls i m k noted h here none = (
    record {
      number = k;
      got = here;
      nobody = λ j n e. true≢false (sym (noted.all j n (sends_some _ k e)) ∙ ap (λ (x : Kind). is_some (seen_at s x)) e ∙ ap is_some (sym none));
    },
    λ q before u. no_unsent ls (place i m) q h before u,
  )

  gets_within : (q : Place) (k : ℕ) → kind_of rs q.machine q.doing ≡ Gets k → (q.machine < length rs) × (1 ≤ q.doing) × (q.doing ≤ did_of rs q.machine)
  gets_within q k e = within rs q.machine q.doing (not_neither _ k e)

  pub on : (ls : List Letter) (i n : ℕ) → did_of rs i ≤ n → Linked rs (place i (n + 1)) ls → Linked rs (place (i + 1) 1) ls
  on ls i n le h =
      record {
        known = h.known;
        before = λ l mem. elim (h.before l mem) [ inl x ↦ inl (omega arith) | inr x ↦ inl (omega (arith, x.0)) ];
        rising = h.rising;
        there = λ q k before got. let w = gets_within q k got in h.there q k (crossed rs q i n le w.1 w.2 before) got;
      }

  pub nothing_yet : (ls : List Letter) → ls ≡ [] → Linked rs (place 0 1) ls
  nothing_yet ls e =
      let P : List Letter → Type 0 = λ x. Linked rs (place 0 1) x in
      subst P (sym e) (record {
        known = λ l mem. absurd (Memᴰ.not-nil mem);
        before = λ l mem. absurd (Memᴰ.not-nil mem);
        rising = tt;
        there = λ q k before got. absurd (early rs q before (gets_within q k got).1);
      })

  -- two places, the same or one earlier
  which : (p q : Place) → Earlier p q ⊎ (Earlier q p ⊎ ((p.machine ≡ q.machine) × (p.doing ≡ q.doing)))
  which p q = elim (cases_order p.machine q.machine) [
    | inl e ↦ elim (cases_order p.doing q.doing) [ inl f ↦ inr (inr (e, f)) | inr (inl h) ↦ inl (inr (e, h)) | inr (inr h) ↦ inr (inl (inr (sym e, h))) ]
    | inr (inl h) ↦ inl (inl h)
    | inr (inr h) ↦ inr (inl (inl h))
  ]

  -- one doing sends it
  one_sender : ((q : Place) → Again rs q → ⊥) → (p q : Place) (k : ℕ) → kind_of rs p.machine p.doing ≡ Sends k → kind_of rs q.machine q.doing ≡ Sends k → (p.machine ≡ q.machine) × (p.doing ≡ q.doing)
  one_sender once p q k e f = elim (which p q) [
    | inl before ↦ absurd (once q (record { first = p; earlier = before; letter = sends_some _ k f; same = e ∙ sym f }))
    | inr (inl before) ↦ absurd (once p (record { first = q; earlier = before; letter = sends_some _ k e; same = f ∙ sym e }))
    | inr (inr same) ↦ same
  ]

  pub matched : (s : Seen) (ls : List Letter) (n : ℕ) → length rs ≤ n → Noted rs s → Linked rs (place n 1) ls → LettersOf rs ls
  matched s ls n le noted h =
      record {
        once = noted.once;
        sent = λ q u. no_unsent ls (place n 1) q h (inl (let w = gets_within q u.number u.got in omega (arith, w.0))) u;
        known = h.known;
        rising = h.rising;
        all = λ i m j o k sent got.
            let l = h.there (place j o) k (inl (let w = gets_within (place j o) k got in omega (arith, w.0))) got in
            let known = h.known l.0 l.1 in
            let at_it : kind_of rs l.0.to l.0.got ≡ Gets k = ap (λ (x : ℕ). kind_of rs x l.0.got) l.2 ∙ ap (λ (x : ℕ). kind_of rs j x) l.3 ∙ got in
            let same = one_sender noted.once (place l.0.from l.0.sent) (place i m) k (known.1 ∙ ap Sends (one_letter _ _ _ known.2 at_it)) sent in
            (l.0, l.1, same.0, same.1, l.2, l.3);
      }
