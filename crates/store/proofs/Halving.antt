-- Halving between two places. Assumes nothing.
use Rattle.std.proofs.Common.{◌≡◌, ℕ, zero, suc, ◌+◌, ◌-◌, ◌<◌, ◌≤◌, Bool, true, false, cond, ◌&&◌, eqb, ltb, List, [], ◌∷◌, length, get_or, Ok, Err, sym, refl, inl, inr, arith}
use mathlib.Core.Path.{fun_ext}
use Rattle.std.proofs.lemmas.Bool.{and_parts, eqb-true, eq-eqb, ne_eqb, cases_eq, cases_lt, lt-ltb, le-ltb}
use Rattle.store.specs.Faults.{missing}
use Rattle.store.specs.Sparse.{listed_at, middle, halved, sought, place_at, value_at, sparse_at}
use Rattle.store.specs.Slices.{short, rising, paired, if_taken}
use Rattle.store.proofs.Rising.{Rising, rising_sound}

-- more halvings than places change nothing
halved_enough : (n m : ℕ) (cs : List ℕ) (c low high : ℕ) → high - low ≤ n → high - low ≤ m
    → halved n cs c low high ≡ halved m cs c low high
unfolding halved
halved_enough zero zero cs c low high a b = refl
halved_enough zero (suc m) cs c low high a b = rw (le-ltb low high (omega arith))
halved_enough (suc n) zero cs c low high a b = rw (le-ltb low high (omega arith))
halved_enough (suc n) (suc m) cs c low high a b =
    elim (cases_lt low high) [
      | inl l ↦
          rw (
            halved_enough n m cs c (middle low high + 1) high (omega arith) (omega arith),
            halved_enough n m cs c low (middle low high) (omega arith) (omega arith),
          )
      | inr g ↦ rw (le-ltb low high g)
    ]

-- the most places that n halvings suffice for
abbrev room : ℕ → ℕ
room zero = 0
room (suc n) = 1 + (room n + room n)

halved-short : (n m : ℕ) (cs : List ℕ) (c low high : ℕ) → high - low ≤ room n → high - low ≤ m
    → halved n cs c low high ≡ halved m cs c low high
unfolding halved
halved-short zero zero cs c low high a b = refl
halved-short zero (suc m) cs c low high a b = rw (le-ltb low high (omega arith))
halved-short (suc n) zero cs c low high a b = rw (le-ltb low high (omega arith))
halved-short (suc n) (suc m) cs c low high a b =
    let r : high - low ≤ 1 + (room n + room n) = a in
    elim (cases_lt low high) [
      | inl l ↦
          rw (
            halved-short n m cs c (middle low high + 1) high (omega arith) (omega arith),
            halved-short n m cs c low (middle low high) (omega arith) (omega arith),
          )
      | inr g ↦ rw (le-ltb low high g)
    ]

pub fifteen_halvings : (cs : List ℕ) (c : ℕ) → length cs ≤ 16384 → halved 15 cs c 0 (length cs) ≡ sought cs c
fifteen_halvings cs c a = halved-short 15 (length cs) cs c 0 (length cs) (omega arith) (omega arith)

halved_step : (n : ℕ) (cs : List ℕ) (c low high : ℕ) → low < high
    → halved (suc n) cs c low high
    ≡ cond (ltb (get_or cs (middle low high) 0) c) (halved n cs c (middle low high + 1) high) (halved n cs c low (middle low high))
unfolding halved
halved_step n cs c low high l = rw (lt-ltb low high l)

pub halved_up : (cs : List ℕ) (c low high : ℕ) → low < high → get_or cs (middle low high) 0 < c
    → halved (high - (middle low high + 1)) cs c (middle low high + 1) high ≡ halved (high - low) cs c low high
halved_up cs c low high l g =
    let e : halved (high - low) cs c low high ≡ halved (suc (high - low)) cs c low high
    = halved_enough (high - low) (suc (high - low)) cs c low high (omega arith) (omega arith) in
    rw (e, halved_step (high - low) cs c low high l, lt-ltb (get_or cs (middle low high) 0) c g)
    (halved_enough (high - (middle low high + 1)) (high - low) cs c (middle low high + 1) high (omega arith) (omega arith))

pub halved_down : (cs : List ℕ) (c low high : ℕ) → low < high → c ≤ get_or cs (middle low high) 0
    → halved (middle low high - low) cs c low (middle low high) ≡ halved (high - low) cs c low high
halved_down cs c low high l g =
    let e : halved (high - low) cs c low high ≡ halved (suc (high - low)) cs c low high
    = halved_enough (high - low) (suc (high - low)) cs c low high (omega arith) (omega arith) in
    rw (e, halved_step (high - low) cs c low high l, le-ltb (get_or cs (middle low high) 0) c g)
    (halved_enough (middle low high - low) (high - low) cs c low (middle low high) (omega arith) (omega arith))

pub halved_end : (cs : List ℕ) (c low high : ℕ) → high ≤ low → halved (high - low) cs c low high ≡ low
unfolding halved
halved_end cs c low high l =
    halved_enough (high - low) 0 cs c low high (omega arith) (omega arith)

-- the place splits rising numbers: those below c before it, the others from it on
abbrev Splits : List ℕ → ℕ → ℕ → Type 0
Splits cs c i = ((k : ℕ) → k < i → get_or cs k 0 < c) × ((k : ℕ) → i ≤ k → k < length cs → c ≤ get_or cs k 0)

at_most : (cs : List ℕ) → Rising cs → (i j : ℕ) → i ≤ j → j < length cs → get_or cs i 0 ≤ get_or cs j 0
at_most cs r i j a b =
    elim (cases_lt i j) [
      | inl l ↦ let q = r i j l b in omega arith
      | inr g ↦ let e : i ≡ j = omega arith in rw e (omega arith)
    ]

halved_splits : (n : ℕ) (cs : List ℕ) (c low high : ℕ) → Rising cs → low ≤ high → high ≤ length cs → high - low ≤ n
    → ((k : ℕ) → k < low → get_or cs k 0 < c) → ((k : ℕ) → high ≤ k → k < length cs → c ≤ get_or cs k 0)
    → Splits cs c (halved n cs c low high)
unfolding halved
halved_splits zero cs c low high r a b d p q = (p, λ k x y. q k (omega arith) y)
halved_splits (suc n) cs c low high r a b d p q =
    elim (cases_lt low high) [
      | inl l ↦
          rw (lt-ltb low high l)
          (elim (cases_lt (get_or cs (middle low high) 0) c) [
            | inl x ↦
                rw (lt-ltb (get_or cs (middle low high) 0) c x)
                (halved_splits n cs c (middle low high + 1) high r (omega arith) b (omega arith)
                (λ k y. let z = at_most cs r k (middle low high) (omega arith) (omega arith) in omega arith)
                q)
            | inr x ↦
                rw (le-ltb (get_or cs (middle low high) 0) c x)
                (halved_splits n cs c low (middle low high) r (omega arith) (omega arith) (omega arith) p
                (λ k y z. let w = at_most cs r (middle low high) k y z in omega arith))
          ])
      | inr g ↦ rw (le-ltb low high g) (p, λ k x y. q k (omega arith) y)
    ]

sought_splits : (cs : List ℕ) (c : ℕ) → Rising cs → Splits cs c (sought cs c)
sought_splits cs c r =
    halved_splits (length cs) cs c 0 (length cs) r (omega arith) (omega arith) (omega arith)
    (λ k x. absurd (omega arith)) (λ k x y. absurd (omega arith))

listed_none : (cs vs : List ℕ) (c : ℕ) → ((k : ℕ) → k < length cs → get_or cs k 0 ≡ c → ⊥) → Err (missing c) ≡ listed_at cs vs c
listed_none [] vs c a = refl
listed_none (x ∷ cs) [] c a = refl
listed_none (x ∷ cs) (v ∷ vs) c a =
    rw (ne_eqb x c (a 0 (omega arith))) (listed_none cs vs c (λ k h. a (suc k) (omega arith)))

listed_in_place : (cs vs : List ℕ) (c i : ℕ) → length cs ≡ length vs → i < length cs → get_or cs i 0 ≡ c
    → ((k : ℕ) → k < i → get_or cs k 0 ≡ c → ⊥) → Ok (get_or vs i 0) ≡ listed_at cs vs c
listed_in_place [] vs c i l h e a = absurd (omega arith)
listed_in_place (x ∷ cs) [] c i l h e a = absurd (omega arith)
listed_in_place (x ∷ cs) (v ∷ vs) c zero l h e a = rw (eq-eqb x c e)
listed_in_place (x ∷ cs) (v ∷ vs) c (suc i) l h e a =
    rw (ne_eqb x c (a 0 (omega arith)))
    (listed_in_place cs vs c i (omega arith) (omega arith) e (λ k m. a (suc k) (omega arith)))

spot_lists : (cs vs : List ℕ) (c i : ℕ) → Rising cs → length cs ≡ length vs → Splits cs c i
    → value_at (place_at cs (length vs) c i) vs c ≡ listed_at cs vs c
spot_lists cs vs c i r l s =
    elim (cases_lt i (length cs)) [
      | inl a ↦
          elim (cases_eq (get_or cs i 0) c) [
            | inl e ↦
                let b : i < length vs = omega arith in
                rw (lt-ltb i (length cs) a, eq-eqb (get_or cs i 0) c e, lt-ltb i (length vs) b)
                (listed_in_place cs vs c i l a e (λ k h q. let z = s.0 k h in omega arith))
            | inr n ↦
                rw (lt-ltb i (length cs) a, ne_eqb (get_or cs i 0) c n)
                (listed_none cs vs c
                (λ k h q.
                elim (cases_lt k i) [
                  | inl x ↦ let z = s.0 k x in omega arith
                  | inr x ↦
                      let y = s.1 i (omega arith) a in
                      let z = at_most cs r i k x h in
                      omega arith
                ]))
          ]
      | inr a ↦
          rw (le-ltb i (length cs) a)
          (listed_none cs vs c (λ k h q. let z = s.0 k (omega arith) in omega arith))
    ]

-- over accepted lists the search finds what the lists say
pub sparse_lists : (cs vs : List ℕ) → Rising cs → length cs ≡ length vs → sparse_at cs vs ≡ listed_at cs vs
sparse_lists cs vs r l = fun_ext (λ c. spot_lists cs vs c (sought cs c) r l (sought_splits cs c r))

by_answer : (cs vs : List ℕ) (t : Bool) → paired cs vs ≡ t → if_taken t (sparse_at cs vs) ≡ if_taken t (listed_at cs vs)
by_answer cs vs false p = refl
by_answer cs vs true p =
    let q = and_parts (short cs && eqb (length cs) (length vs)) (rising cs) p in
    let r = and_parts (short cs) (eqb (length cs) (length vs)) q.0 in
    sparse_lists cs vs (rising_sound cs (sym q.1)) (eqb-true (length cs) (length vs) r.1)

-- slices that are taken list what the search finds
pub paired_finds : (cs vs : List ℕ) → if_taken (paired cs vs) (sparse_at cs vs) ≡ if_taken (paired cs vs) (listed_at cs vs)
paired_finds cs vs = by_answer cs vs (paired cs vs) refl
