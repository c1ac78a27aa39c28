-- Walks along any relation, and rings of it: joined, parted and turned.
use Rattle.std.proofs.Common.{◌≡◌, ◌+◌, List, [], ◌∷◌, ◌++◌, length, sym, refl, ap, subst, inl, inr, append-nil, arith, length-append}
use mathlib.Core.List.Memᴰ
use mathlib.Core.List.{Memᴰ}
use Rattle.rings.specs.RingSearch.{Walk, Round}

pub join : {A : Type 0} (E : A → A → Type 0) (p : A) (ps : List A) (q : A) (qs : List A) (back : A) → Walk E p ps q → Walk E q qs back → Walk E p (ps ++ (q ∷ qs)) back
join E p [] q qs back a b = (a, b)
join E p (x ∷ ps) q qs back a b = (a.0, join E x ps q qs back a.1 b)

pub part : {A : Type 0} (E : A → A → Type 0) (p : A) (ps : List A) (q : A) (qs : List A) (back : A) → Walk E p (ps ++ (q ∷ qs)) back → Walk E p ps q × Walk E q qs back
part E p [] q qs back w = w
part E p (x ∷ ps) q qs back w = let z = part E x ps q qs back w.1 in ((w.0, z.0), z.1)

pub turn : {A : Type 0} (E : A → A → Type 0) (ps qs : List A) → Round E (ps ++ qs) → Round E (qs ++ ps)
turn E [] qs w = subst (λ z. Round E z) (sym (append-nil qs)) w
turn E (p ∷ ps) [] w = subst (λ z. Walk E p z p) (append-nil ps) w
turn E (p ∷ ps) (q ∷ qs) w = let z = part E p ps q qs p w in join E q qs p ps q z.1 z.0

-- where an element stands
pub split : {A : Type 0} {a : A} (l : List A) → Memᴰ a l → (xs : List A) × (ys : List A) × (l ≡ xs ++ (a ∷ ys))
split [] h = elim h [ ]
split (b ∷ l) (Memᴰ.head e) = ([], l, subst (λ z. b ∷ l ≡ z ∷ l) (sym e) refl)
split (b ∷ l) (Memᴰ.tail m) = let z = split l m in (b ∷ z.0, z.1, ap (λ y. b ∷ y) z.2)

-- a ring begun at one of its places: as long, and of the same places
pub record Turned {A : Type 0} (E : A → A → Type 0) (l : List A) (a : A) (rest : List A) : Type 0 where
  pub round : Walk E a rest a
  pub long : length l ≡ 1 + length rest
  pub only : (b : A) → Memᴰ b (a ∷ rest) → Memᴰ b l

swap : {A : Type 0} (b : A) (xs ys : List A) → Memᴰ b (ys ++ xs) → Memᴰ b (xs ++ ys)
swap b xs ys h = elim (Memᴰ.append_cases ys h) [ inl x ↦ Memᴰ.append_right xs x | inr x ↦ Memᴰ.append_left ys x ]

pub turned : {A : Type 0} (E : A → A → Type 0) (l : List A) (a : A) → Round E l → Memᴰ a l → (rest : List A) × Turned E l a rest
turned E l a w h =
    let z = split l h in (
      z.1 ++ z.0,
      record {
        round = turn E z.0 (a ∷ z.1) (subst (λ y. Round E y) z.2 w);
        long = omega (arith, ap length z.2, length-append z.0 (a ∷ z.1), length-append z.1 z.0);
        only = λ b k. subst (λ y. Memᴰ b y) (sym z.2) (swap b z.0 (a ∷ z.1) k);
      },
    )
