-- The words of a line. Assumes nothing.
use Rattle.std.specs.Prelude.{◌≡◌, ℕ, Bool, true, ◌||◌, List, [], ◌∷◌, ◌++◌, length, Some, None, Option, ◌==◌, nat_lt, filter}
use Rattle.std.specs.List.{before_first, slice_split}

-- a space or a tab, which parts words
abbrev pub is_blank : ℕ → Bool
is_blank b = b == 32 || b == 9

-- a `#`, which starts a comment
abbrev pub is_comment : ℕ → Bool
is_comment b = b == 35

-- what stands before the first `#`, or all where there is none
abbrev pub uncommented : List ℕ → List ℕ
uncommented bs = before_first is_comment bs

-- the words of a text that has no comment: the parts between its blanks that hold something
abbrev pub plain_words : List ℕ → List (List ℕ)
plain_words bs = filter (λ w. nat_lt 0 (length w)) (slice_split is_blank bs)

-- the words of a line
abbrev pub words : List ℕ → List (List ℕ)
words bs = plain_words (uncommented bs)

-- the end of a list, if nothing stands before it
abbrev pub end_of : List (List ℕ) → Option (Unit {0})
end_of [] = Some tt
end_of (w ∷ ws) = None

-- what stands after a `#` does not matter
abbrev pub CommentsDropped : Type 0
CommentsDropped = (xs ys zs : List ℕ) → words (xs ++ (35 ∷ ys)) ≡ words (xs ++ (35 ∷ zs))

-- a blank that stands in no comment parts the words before it from those after it
abbrev pub BlanksPart : Type 0
BlanksPart = (xs ys : List ℕ) (b : ℕ) → uncommented xs ≡ xs → is_blank b ≡ true → words (xs ++ (b ∷ ys)) ≡ words xs ++ words ys

-- the first in front of the others, if all are there
abbrev pub put_first : {V : Type 0} → Option V → Option (List V) → Option (List V)
put_first None vs = None
put_first (Some v) None = None
put_first (Some v) (Some vs) = Some (v ∷ vs)

-- what words say, each by one rule, if each says something
abbrev pub all_of : {V : Type 0} → (List ℕ → Option V) → List (List ℕ) → Option (List V)
all_of rule [] = Some []
all_of rule (w ∷ ws) = put_first (rule w) (all_of rule ws)
