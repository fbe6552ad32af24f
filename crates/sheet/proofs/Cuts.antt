-- How the words of a line are cut from its front. Assumes nothing.
use Rattle.std.proofs.Common.{◌≡◌, ℕ, suc, ◌+◌, ◌-◌, ◌<◌, ◌≤◌, true, false, cond, List, [], ◌∷◌, ◌++◌, length, take, drop, nat_lt, sym, refl, ap, ◌∙◌, arith}
use Rattle.std.proofs.lemmas.List.{length-take-le, take_rest}
use Rattle.std.proofs.lemmas.List.Sums.{prefix_len-le-length}
use Rattle.std.proofs.lemmas.Bool.Decides.{nat_tests}
use Rattle.std.proofs.lemmas.List.Elements.{filter-append}
use Rattle.std.specs.List.{before_first, prefix_len, position_or_len, filter, slice_split, onto_first}
use Rattle.sheet.specs.Words.{is_blank, is_comment, BlanksPart, uncommented, plain_words, words, CommentsDropped}

-- a list one longer at its front
take_next : {X : Type 0} (x : X) (xs : List X) (n : ℕ) → take (1 + n) (x ∷ xs) ≡ x ∷ take n xs
take_next x xs n = let e : 1 + n ≡ suc n = omega arith in ap (λ k. take k (x ∷ xs)) e

drop_next : {X : Type 0} (x : X) (xs : List X) (n : ℕ) → drop (1 + n) (x ∷ xs) ≡ drop n xs
drop_next x xs n = let e : 1 + n ≡ suc n = omega arith in ap (λ k. drop k (x ∷ xs)) e

-- ---- comments

uncommented-cons : (b : ℕ) (bs : List ℕ) → uncommented (b ∷ bs) ≡ cond (is_comment b) [] (b ∷ uncommented bs)
uncommented-cons b bs = grind (arith, take_next)

uncommented_after : (xs ys zs : List ℕ) → uncommented (xs ++ (35 ∷ ys)) ≡ uncommented (xs ++ (35 ∷ zs))
uncommented_after [] ys zs = refl
uncommented_after (x ∷ xs) ys zs = grind (arith, uncommented-cons, uncommented_after xs ys zs)

pub comments_dropped : CommentsDropped
comments_dropped xs ys zs = ap plain_words (uncommented_after xs ys zs)

-- ---- the next word

abbrev pieces : List ℕ → List (List ℕ)
pieces bs = slice_split is_blank bs

abbrev filled : List (List ℕ) → List (List ℕ)
filled ps = filter (λ w. nat_lt 0 (length w)) ps

-- the pieces after the first blank
abbrev later : List ℕ → List (List ℕ)
later [] = []
later (b ∷ bs) = pieces bs

-- the first piece, and the others
pieces_cut : (t : List ℕ) → pieces t ≡ before_first is_blank t ∷ later (drop (position_or_len is_blank t) t)
pieces_cut [] = refl
pieces_cut (b ∷ bs) = grind (arith, pieces_cut bs, take_next, drop_next)

filled_later : (t : List ℕ) → filled (later (drop (position_or_len is_blank t) t)) ≡ plain_words (drop (position_or_len is_blank t) t)
filled_later [] = refl
filled_later (b ∷ bs) = grind (arith, filled_later bs, drop_next)

-- the blanks that a text begins with are no words
plain_words-trimmed : (t : List ℕ) → plain_words (drop (prefix_len is_blank t) t) ≡ plain_words t
plain_words-trimmed [] = refl
plain_words-trimmed (b ∷ bs) = grind (arith, plain_words-trimmed bs, drop_next)

-- no word begins where the blanks end: the text ends there
trimmed_empty : (t : List ℕ) → position_or_len is_blank (drop (prefix_len is_blank t) t) ≡ 0 → drop (prefix_len is_blank t) t ≡ []
trimmed_empty [] h = refl
trimmed_empty (b ∷ bs) h = grind (arith, trimmed_empty bs, drop_next)

filled_first : (w : List ℕ) (ps : List (List ℕ)) → 0 < length w → filled (w ∷ ps) ≡ w ∷ filled ps
filled_first w ps h = let some : nat_lt 0 (length w) ≡ true = grind (arith, nat_tests) in rw some

-- m is how many blanks a text begins with, and n how long the word after them is
pub next_some : (t w r : List ℕ) (m n : ℕ) → m ≡ prefix_len is_blank t → n ≡ position_or_len is_blank (take (length t - m) (drop m t))
    → w ≡ take n (take (length t - m) (drop m t)) → r ≡ drop n (take (length t - m) (drop m t)) → 0 < length w → plain_words t ≡ w ∷ plain_words r
next_some t w r m n em en ew er h =
    let s : take (length t - m) (drop m t) ≡ drop (prefix_len is_blank t) t = take_rest t m ∙ ap (λ k. drop k t) em in
    let cut : plain_words (drop (prefix_len is_blank t) t) ≡ filled (w ∷ later r) = rw (ew, er, en, s) (ap filled (pieces_cut (drop (prefix_len is_blank t) t))) in
    let rest : filled (later r) ≡ plain_words r = rw (er, en, s) (filled_later (drop (prefix_len is_blank t) t)) in
    sym (plain_words-trimmed t) ∙ cut ∙ filled_first w (later r) h ∙ ap (λ ws. w ∷ ws) rest

pub next_none : (t w r : List ℕ) (m n : ℕ) → m ≡ prefix_len is_blank t → n ≡ position_or_len is_blank (take (length t - m) (drop m t))
    → w ≡ take n (take (length t - m) (drop m t)) → r ≡ drop n (take (length t - m) (drop m t)) → length w ≡ 0 → (plain_words t ≡ []) × (plain_words r ≡ [])
next_none t w r m n em en ew er h =
    let s : take (length t - m) (drop m t) ≡ drop (prefix_len is_blank t) t = take_rest t m ∙ ap (λ k. drop k t) em in
    let within : n ≤ length (take (length t - m) (drop m t)) = rw en (prefix_len-le-length _ (take (length t - m) (drop m t))) in
    let none : n ≡ 0 = omega (arith, ap length ew, length-take-le n (take (length t - m) (drop m t)) within) in
    let empty : drop (prefix_len is_blank t) t ≡ [] = trimmed_empty t (rw (← s) (sym en ∙ none)) in
    let rest : r ≡ [] = rw (er, none, s) empty in
    (sym (plain_words-trimmed t) ∙ ap plain_words empty, rw rest)

-- ---- blanks

onto-append : (x : ℕ) (xs : List ℕ) (qs : List (List ℕ)) → onto_first x (pieces xs ++ qs) ≡ onto_first x (pieces xs) ++ qs
onto-append x xs qs = rw (pieces_cut xs)

pieces-append : (xs ys : List ℕ) (b : ℕ) → is_blank b ≡ true → pieces (xs ++ (b ∷ ys)) ≡ pieces xs ++ pieces ys
pieces-append [] ys b e = grind arith
pieces-append (x ∷ xs) ys b e = grind (arith, pieces-append xs ys b e, onto-append)

uncommented_before : (xs zs : List ℕ) → uncommented xs ≡ xs → uncommented (xs ++ zs) ≡ xs ++ uncommented zs
uncommented_before [] zs h = refl
uncommented_before (x ∷ xs) zs h = grind (arith, uncommented-cons, uncommented_before xs zs)

blank_no_comment : (b : ℕ) → is_blank b ≡ true → is_comment b ≡ false
blank_no_comment b e = grind (arith, nat_tests)

pub blanks_part : BlanksPart
blanks_part xs ys b h e =
    let line : uncommented (xs ++ (b ∷ ys)) ≡ xs ++ (b ∷ uncommented ys) =
    uncommented_before xs (b ∷ ys) h ∙ ap (λ l. xs ++ l) (uncommented-cons b ys ∙ rw (blank_no_comment b e)) in
    ap plain_words line ∙ ap filled (pieces-append xs (uncommented ys) b e) ∙ filter-append (λ w. nat_lt 0 (length w)) (pieces xs) (pieces (uncommented ys)) ∙ ap (λ l. plain_words l ++ words ys) (sym h)
