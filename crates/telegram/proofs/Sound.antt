-- What every reading has: it goes forward, stays inside, depends on its own bytes, and places its refusals.
use Rattle.std.proofs.Common.{◌≡◌, ℕ, zero, suc, ◌+◌, ◌*◌, ◌<◌, ◌≤◌, Bool, true, false, cond, ◌&&◌, ◌||◌, eqb, ltb, leb, List, [], ◌∷◌, ◌++◌, length, get_or, sym, refl, ap, arith, ltb-false, ltb-true, le-leb, leb-true}
use Rattle.std.proofs.lemmas.List.{length_push}
use Rattle.std.specs.List.{AllByRecursion}
use Rattle.std.proofs.lemmas.Bool.Decides.{nat_tests}
use Rattle.order.specs.Cells.{has, different}
use Rattle.order.proofs.Lists.{different_push}
use Rattle.telegram.specs.declared.refusal.Refusal.{Refusal}
use Rattle.telegram.specs.declared.refusal.Refusal.TheVariants.{EndsEarly, LeftOver, TooManyOrders, BadMap, BadClass, BadListCount, RepeatedCell}
use Rattle.telegram.specs.Refusals.{number_of}
use Rattle.telegram.specs.Decode.{Read, got, refused, next, within, byte_at, cell_at, word_at, stands, map_at, class_at, entries_at, entry_list, list_at, field, list_field, writes_at, record_at, records_at, count_at, end_at, telegram_of, DecodedList, DecodedOrder}
use Rattle.telegram.specs.Laws.{Agree, Placed, SoundList, SoundOrder}

-- f read n bytes or more from p on, and its value has P; a is where the refusals' places begin
abbrev pub Good : {V : Type 0} → List ℕ → ℕ → ℕ → ℕ → (V → Type 0) → (List ℕ → Read V) → Read V → Type 0
Good t a p n P f (got v q) = (p + n ≤ q) × (q ≤ length t) × P v × ((u : List ℕ) → Agree t u p q → q ≤ length u → f u ≡ got v q)
Good t a p n P f (refused e r) = Placed t a e r

-- any value
abbrev pub Any : {V : Type 0} → V → Type 0
Any v = Unit {0}

front : (t u : List ℕ) (p q r : ℕ) → q ≤ r → Agree t u p r → Agree t u p q
front t u p q r h g i l m = g i l (omega arith)

back : (t u : List ℕ) (p q r : ℕ) → p ≤ q → Agree t u p r → Agree t u q r
back t u p q r h g i l m = g i (omega arith) m

pub good_next : {V W : Type 0} (t : List ℕ) (a p n m : ℕ) (P : V → Type 0) (Q : W → Type 0) (f : List ℕ → Read V) (g : List ℕ → V → ℕ → Read W) (r : Read V)
    → Good t a p n P f r → ((v : V) (q : ℕ) → P v → p + n ≤ q → q ≤ length t → Good t a q m Q (λ u. g u v q) (g t v q))
    → Good t a p n Q (λ u. next (f u) (g u)) (next r (g t))
good_next t a p n m P Q f g (refused e r) h k = h
good_next {W = W} t a p n m P Q f g (got v q) h k = onward (g t v q) (k v q h.2 h.0 h.1)
  where
    onward : (s : Read W) → Good t a q m Q (λ u. g u v q) s → Good t a p n Q (λ u. next (f u) (g u)) s
    onward (refused e r) j = j
    onward (got w z) j = (
      omega (arith, h.0, j.0),
      j.1,
      j.2,
      λ u ag l.
          let fu : f u ≡ got v q = h.3 u (front t u p q z (omega (arith, j.0)) ag) (omega (arith, j.0)) in
          let gu : g u v q ≡ got w z = j.3 u (back t u p q z (omega (arith, h.0)) ag) l in
          rw fu gu,
    )

pub good_cond : {V : Type 0} (t : List ℕ) (a p n : ℕ) (P : V → Type 0) (b : Bool) (f g : List ℕ → Read V)
    → (b ≡ true → Good t a p n P f (f t)) → (b ≡ false → Good t a p n P g (g t)) → Good t a p n P (λ u. cond b (f u) (g u)) (cond b (f t) (g t))
good_cond t a p n P true f g h k = h refl
good_cond t a p n P false f g h k = k refl

pub good_weaker : {V : Type 0} (t : List ℕ) (a p n m : ℕ) (P : V → Type 0) (f : List ℕ → Read V) (r : Read V) → m ≤ n → Good t a p n P f r → Good t a p m P f r
good_weaker t a p n m P f (refused e r) l g = g
good_weaker t a p n m P f (got v q) l g = (omega (arith, g.0), g.1, g.2, g.3)

pub good_value : {V : Type 0} (t : List ℕ) (a p n : ℕ) (P Q : V → Type 0) (f : List ℕ → Read V) (r : Read V) → ((v : V) → P v → Q v) → Good t a p n P f r → Good t a p n Q f r
good_value t a p n P Q f (refused e r) h g = g
good_value t a p n P Q f (got v q) h g = (g.0, g.1, h v g.2, g.3)

pub good_within : {V : Type 0} (t : List ℕ) (a p n : ℕ) (val : List ℕ → V) → a ≤ p → p ≤ length t → ((u : List ℕ) → Agree t u p (p + n) → val u ≡ val t)
    → Good t a p n Any (λ u. within u p n (val u)) (within t p n (val t))
good_within {V = V} t a p n val o l same = by_cases (leb (p + n) (length t)) (λ e. leb-true (p + n) (length t) e)
  where
    by_cases : (b : Bool) → (b ≡ true → p + n ≤ length t) → Good t a p n Any (λ u. within u p n (val u)) (cond b (got (val t) (p + n)) (refused EndsEarly (length t)))
    by_cases true h = (omega arith, h refl, tt, λ u ag k. rw (le-leb (p + n) (length u) k) (ap (λ v. got v (p + n)) (same u ag)))
    by_cases false h = (omega arith, λ _. refl, λ k. absurd (omega arith))

pub good_byte : (t : List ℕ) (a p : ℕ) → a ≤ p → p ≤ length t → Good t a p 1 Any (λ u. byte_at u p) (byte_at t p)
good_byte t a p o l = good_within t a p 1 (λ u. get_or u p 0) o l (λ u ag. sym (ag p (omega arith) (omega arith)))

pub good_cell : (t : List ℕ) (a p : ℕ) → a ≤ p → p ≤ length t → Good t a p 2 Any (λ u. cell_at u p) (cell_at t p)
good_cell t a p o l =
    good_within t a p 2 (λ u. get_or u p 0 * 256 + get_or u (p + 1) 0) o l
    (λ u ag. rw (ag p (omega arith) (omega arith), ag (p + 1) (omega arith) (omega arith)))

pub good_word : (t : List ℕ) (a p : ℕ) → a ≤ p → p ≤ length t → Good t a p 4 Any (λ u. word_at u p) (word_at t p)
good_word t a p o l =
    good_within t a p 4 (λ u. get_or u p 0 * 16777216 + get_or u (p + 1) 0 * 65536 + get_or u (p + 2) 0 * 256 + get_or u (p + 3) 0) o l
    (λ u ag. rw (ag p (omega arith) (omega arith), ag (p + 1) (omega arith) (omega arith), ag (p + 2) (omega arith) (omega arith), ag (p + 3) (omega arith) (omega arith)))

-- a byte that is tested
pub good_tested : (t : List ℕ) (a p : ℕ) (test : ℕ → Bool) (e : Refusal) (P : ℕ → Type 0) → a ≤ p → p ≤ length t → 1 < number_of e → ((v : ℕ) → test v ≡ false → P v)
    → Good t a p 1 P (λ u. next (byte_at u p) (λ v q. cond (test v) (refused e p) (got v q))) (next (byte_at t p) (λ v q. cond (test v) (refused e p) (got v q)))
good_tested t a p test e P o l big pass =
    good_next t a p 1 0 Any P (λ u. byte_at u p) (λ u v q. cond (test v) (refused e p) (got v q)) (byte_at t p) (good_byte t a p o l)
    (λ v q x far near. good_cond t a q 0 P (test v) (λ u. refused e p) (λ u. got v q)
    (λ y. (o, λ k. absurd (omega arith), λ k. omega arith))
    (λ y. (omega arith, near, pass v y, λ u ag k. refl)))

pub good_entries : (n : ℕ) (before t : List ℕ) (a p : ℕ) → a ≤ p → p ≤ length t → different before ≡ true
    → Good t a p 0 (λ cs. (length cs ≡ length before + n) × (different cs ≡ true)) (λ u. entries_at n before u p) (entries_at n before t p)
good_entries zero before t a p o l d = (omega arith, l, (omega arith, d), λ u ag k. refl)
good_entries (suc n) before t a p o l d =
    let P : List ℕ → Type 0 = λ cs. (length cs ≡ length before + suc n) × (different cs ≡ true) in
    let g : List ℕ → ℕ → ℕ → Read (List ℕ) = λ u c q. cond (has before c) (refused RepeatedCell p) (entries_at n (before ++ (c ∷ [])) u q) in
    good_weaker t a p 2 0 P (λ u. next (cell_at u p) (g u)) (next (cell_at t p) (g t)) (omega arith)
    (good_next t a p 2 0 Any P (λ u. cell_at u p) g (cell_at t p) (good_cell t a p o l)
    (λ c q x far near. good_cond t a q 0 P (has before c) (λ u. refused RepeatedCell p) (λ u. entries_at n (before ++ (c ∷ [])) u q)
    (λ y. (o, λ k. absurd (omega arith), λ k. omega arith))
    (λ y. good_value t a q 0 (λ cs. (length cs ≡ length (before ++ (c ∷ [])) + n) × (different cs ≡ true)) P (λ u. entries_at n (before ++ (c ∷ [])) u q) (entries_at n (before ++ (c ∷ [])) t q)
    (λ cs h. (omega (arith, h.0, length_push before c), h.1)) (good_entries n (before ++ (c ∷ [])) t a q (omega arith) near (different_push before c d y)))))

pub good_list : (t : List ℕ) (a p : ℕ) → a ≤ p → p ≤ length t → Good t a p 0 SoundList (λ u. list_at u p) (list_at t p)
good_list t a p o l =
    let g : List ℕ → ℕ → ℕ → Read DecodedList = λ u n q. cond (eqb n 0 || ltb 8 n) (refused BadListCount p) (entry_list n u q) in
    good_weaker t a p 1 0 SoundList (λ u. next (byte_at u p) (g u)) (next (byte_at t p) (g t)) (omega arith)
    (good_next t a p 1 0 Any SoundList (λ u. byte_at u p) g (byte_at t p) (good_byte t a p o l)
    (λ n q x far near. good_cond t a q 0 SoundList (eqb n 0 || ltb 8 n) (λ u. refused BadListCount p) (λ u. entry_list n u q)
    (λ y. (o, λ k. absurd (omega arith), λ k. omega arith))
    (λ y. let few : n ≤ 8 = grind (arith, nat_tests) in
    good_next t a q 0 0 (λ cs. (length cs ≡ length {A = ℕ} [] + n) × (different cs ≡ true)) SoundList (λ u. entries_at n [] u q) (λ u cs r. got (record { place = q; cells = cs }) r) (entries_at n [] t q)
    (good_entries n [] t a q (omega arith) near refl)
    (λ cs r h f k. (omega arith, k, (omega (arith, h.0), h.1), λ u ag m. refl)))))

pub good_field : {V : Type 0} (t : List ℕ) (a p m k : ℕ) (P : V → Type 0) (v : V) (f : List ℕ → ℕ → Read V) → p ≤ length t → P v → Good t a p 0 P (λ u. f u p) (f t p)
    → Good t a p 0 P (λ u. field m k v (f u) p) (field m k v (f t) p)
good_field t a p m k P v f l d g = good_cond t a p 0 P (stands m k) (λ u. f u p) (λ u. got v p) (λ y. g) (λ y. (omega arith, l, d, λ u ag j. refl))

pub good_list_field : (t : List ℕ) (a p m k : ℕ) → a ≤ p → p ≤ length t → Good t a p 0 SoundList (λ u. list_field u m k p) (list_field t m k p)
good_list_field t a p m k o l = good_field t a p m k SoundList (record { place = p; cells = [] }) list_at l (omega arith, refl) (good_list t a p o l)

pub good_writes : (t : List ℕ) (a p m : ℕ) (reads : DecodedList) → a ≤ p → p ≤ length t → SoundList reads → Good t a p 0 SoundList (λ u. writes_at u m reads p) (writes_at t m reads p)
good_writes t a p m reads o l s =
    good_cond t a p 0 SoundList (stands m 5) (λ u. got reads p) (λ u. list_field u m 4 p) (λ y. (omega arith, l, s, λ u ag j. refl)) (λ y. good_list_field t a p m 4 o l)

abbrev Low : ℕ → Type 0
Low c = c ≤ 7

-- the record from each field on
abbrev from_writes : ℕ → ℕ → ℕ → ℕ → List ℕ → DecodedList → ℕ → Read DecodedOrder
from_writes m class code argument t reads q4 = next (writes_at t m reads q4) (λ writes q5. got (record { class = class; code = code; argument = argument; reads = reads; writes = writes }) q5)

abbrev from_reads : ℕ → ℕ → ℕ → List ℕ → ℕ → ℕ → Read DecodedOrder
from_reads m class code t argument q3 = next (list_field t m 3 q3) (from_writes m class code argument t)

abbrev from_argument : ℕ → ℕ → List ℕ → ℕ → ℕ → Read DecodedOrder
from_argument m class t code q2 = next (field m 2 0 (word_at t) q2) (from_reads m class code t)

abbrev from_code : ℕ → List ℕ → ℕ → ℕ → Read DecodedOrder
from_code m t class q1 = next (field m 1 1 (byte_at t) q1) (from_argument m class t)

abbrev from_class : List ℕ → ℕ → ℕ → Read DecodedOrder
from_class t m q0 = next (field m 0 4 (class_at t) q0) (from_code m t)

-- refusals may be placed from an earlier byte on
good_from : {V : Type 0} (t : List ℕ) (a p n : ℕ) (P : V → Type 0) (f : List ℕ → Read V) (r : Read V) → a ≤ p → Good t p p n P f r → Good t a p n P f r
good_from t a p n P f (refused e r) o g = (omega (arith, g.0), g.1, g.2)
good_from t a p n P f (got v q) o g = g

pub good_record : (t : List ℕ) (p : ℕ) → p ≤ length t → Good t p p 1 SoundOrder (λ u. record_at u p) (record_at t p)
good_record t p l =
    good_next t p p 1 0 Any SoundOrder (λ u. map_at u p) from_class (map_at t p) (good_tested t p p (λ m. stands m 6 || stands m 7 || (stands m 4 && stands m 5)) BadMap Any (omega arith) l (omega arith) (λ v y. tt)) (λ m q0 x0 f0 n0.
    good_next t p q0 0 0 Low SoundOrder (λ u. field m 0 4 (class_at u) q0) (from_code m) (field m 0 4 (class_at t) q0)
    (good_field t p q0 m 0 Low 4 class_at n0 (omega arith) (good_weaker t p q0 1 0 Low (λ u. class_at u q0) (class_at t q0) (omega arith) (good_tested t p q0 (λ c. ltb 7 c) BadClass Low (omega arith) n0 (omega arith) (λ v y. ltb-false 7 v y)))) (λ class q1 low f1 n1.
    good_next t p q1 0 0 Any SoundOrder (λ u. field m 1 1 (byte_at u) q1) (from_argument m class) (field m 1 1 (byte_at t) q1)
    (good_field t p q1 m 1 Any 1 byte_at n1 tt (good_weaker t p q1 1 0 Any (λ u. byte_at u q1) (byte_at t q1) (omega arith) (good_byte t p q1 (omega arith) n1))) (λ code q2 x2 f2 n2.
    good_next t p q2 0 0 Any SoundOrder (λ u. field m 2 0 (word_at u) q2) (from_reads m class code) (field m 2 0 (word_at t) q2)
    (good_field t p q2 m 2 Any 0 word_at n2 tt (good_weaker t p q2 4 0 Any (λ u. word_at u q2) (word_at t q2) (omega arith) (good_word t p q2 (omega arith) n2))) (λ argument q3 x3 f3 n3.
    good_next t p q3 0 0 SoundList SoundOrder (λ u. list_field u m 3 q3) (from_writes m class code argument) (list_field t m 3 q3) (good_list_field t p q3 m 3 (omega arith) n3) (λ reads q4 sr f4 n4.
    good_next t p q4 0 0 SoundList SoundOrder (λ u. writes_at u m reads q4) (λ u writes q5. got (record { class = class; code = code; argument = argument; reads = reads; writes = writes }) q5) (writes_at t m reads q4) (good_writes t p q4 m reads (omega arith) n4 sr) (λ writes q5 sw f5 n5.
    (omega arith, n5, (low, sr, sw), λ u ag j. refl)))))))

-- as many sound orders as the count says
abbrev pub Counted : ℕ → List DecodedOrder → Type 0
Counted n ds = (length ds ≡ n) × AllByRecursion SoundOrder ds

pub good_records : (n : ℕ) (t : List ℕ) (a p : ℕ) → a ≤ p → p ≤ length t → Good t a p 0 (Counted n) (λ u. records_at n u p) (records_at n t p)
good_records zero t a p o l = (omega arith, l, (refl, tt), λ u ag j. refl)
good_records (suc n) t a p o l =
    let g : List ℕ → DecodedOrder → ℕ → Read (List DecodedOrder) = λ u d q. next (records_at n u q) (λ ds r. got (d ∷ ds) r) in
    good_weaker t a p 1 0 (Counted (suc n)) (λ u. next (record_at u p) (g u)) (next (record_at t p) (g t)) (omega arith)
    (good_next t a p 1 0 SoundOrder (Counted (suc n)) (λ u. record_at u p) g (record_at t p) (good_from t a p 1 SoundOrder (λ u. record_at u p) (record_at t p) o (good_record t p l))
    (λ d q s far near. good_next t a q 0 0 (Counted n) (Counted (suc n)) (λ u. records_at n u q) (λ u ds r. got (d ∷ ds) r) (records_at n t q) (good_records n t a q (omega arith) near)
    (λ ds r h f k. (omega arith, k, (ap suc h.0, (s, h.1)), λ u ag j. refl))))

pub good_got : {V : Type 0} (t : List ℕ) (a p n : ℕ) (P : V → Type 0) (f : List ℕ → Read V) (r : Read V) (v : V) (q : ℕ) → Good t a p n P f r → r ≡ got v q
    → (p + n ≤ q) × (q ≤ length t) × P v × ((u : List ℕ) → Agree t u p q → q ≤ length u → f u ≡ got v q)
good_got t a p n P f r v q g e = rw e at g

pub good_refused : {V : Type 0} (t : List ℕ) (a p n : ℕ) (P : V → Type 0) (f : List ℕ → Read V) (r : Read V) (e : Refusal) (z : ℕ) → Good t a p n P f r → r ≡ refused e z → Placed t a e z
good_refused t a p n P f r e z g h = rw h at g

-- what holds of an accepted record
pub got_record : (t : List ℕ) (p q : ℕ) (d : DecodedOrder) → p ≤ length t → record_at t p ≡ got d q
    → (p + 1 ≤ q) × (q ≤ length t) × SoundOrder d × ((u : List ℕ) → Agree t u p q → q ≤ length u → record_at u p ≡ got d q)
got_record t p q d l e = good_got t p p 1 SoundOrder (λ u. record_at u p) (record_at t p) d q (good_record t p l) e

-- what holds of a whole telegram
abbrev Whole : List ℕ → Read (List DecodedOrder) → Type 0
Whole t (got ds q) = (length ds ≤ 64) × AllByRecursion SoundOrder ds × (q ≡ length t)
Whole t (refused e r) = Placed t 0 e r

by_next : {V W : Type 0} (r : Read V) (f : V → ℕ → Read W) (Q : Read W → Type 0) → ((v : V) (q : ℕ) → r ≡ got v q → Q (f v q)) → ((e : Refusal) (z : ℕ) → r ≡ refused e z → Q (refused e z)) → Q (next r f)
by_next (got v q) f Q h k = h v q refl
by_next (refused e z) f Q h k = k e z refl

whole_end : (t : List ℕ) (ds : List DecodedOrder) (q : ℕ) (b : Bool) → q ≤ length t → (b ≡ true → q < length t) → (b ≡ false → length t ≤ q) → length ds ≤ 64 → AllByRecursion SoundOrder ds
    → Whole t (next (cond b (refused LeftOver q) (got (tt {0}) q)) (λ _ r. got ds r))
whole_end t ds q true l h k n s = (omega arith, λ x. absurd (omega arith), λ x. h refl)
whole_end t ds q false l h k n s = (n, s, omega (arith, k refl))

pub whole : (t : List ℕ) → Whole t (telegram_of t)
whole t =
    let Few : ℕ → Type 0 = λ n. n ≤ 64 in
    let count = good_tested t 0 0 (λ n. ltb 64 n) TooManyOrders Few (omega arith) (omega arith) (omega arith) (λ n y. ltb-false 64 n y) in
    let f : ℕ → ℕ → Read (List DecodedOrder) = λ n p. next (records_at n t p) (λ ds q. next (end_at t q) (λ _ r. got ds r)) in
    by_next (count_at t 0) f (Whole t)
    (λ n p e.
    let c = good_got t 0 0 1 Few (λ u. count_at u 0) (count_at t 0) n p count e in
    let records = good_records n t 0 p (omega arith) c.1 in
    by_next (records_at n t p) (λ ds q. next (end_at t q) (λ _ r. got ds r)) (Whole t)
    (λ ds q h.
    let g = good_got t 0 p 0 (Counted n) (λ u. records_at n u p) (records_at n t p) ds q records h in
    whole_end t ds q (ltb q (length t)) g.1 (λ y. ltb-true q (length t) y) (λ y. ltb-false q (length t) y) (omega (arith, g.2.0, c.2)) g.2.1)
    (λ e z h. good_refused t 0 p 0 (Counted n) (λ u. records_at n u p) (records_at n t p) e z records h))
    (λ e z h. good_refused t 0 0 1 Few (λ u. count_at u 0) (count_at t 0) e z count h)

pub whole_got : (t : List ℕ) (ds : List DecodedOrder) (q : ℕ) → telegram_of t ≡ got ds q → (length ds ≤ 64) × AllByRecursion SoundOrder ds × (q ≡ length t)
whole_got t ds q e = rw e at (whole t)

pub whole_refused : (t : List ℕ) (e : Refusal) (r : ℕ) → telegram_of t ≡ refused e r → Placed t 0 e r
whole_refused t e r h = rw h at (whole t)
