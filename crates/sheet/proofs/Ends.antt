-- Facts on the last byte of a text. Assumes nothing.
use Rattle.std.proofs.Common.{◌≡◌, ℕ, ◌-◌, Bool, true, false, cond, List, [], ◌∷◌, ◌++◌, length, length-append, take, drop, Some, None, Option, sym, refl, ap, ◌∙◌, eq-eqb, arith}
use Rattle.std.specs.Option.{option_map}
use Rattle.std.specs.Str.{bytes_eq}
use Rattle.std.proofs.lemmas.List.{take-append-drop}
use Rattle.std.proofs.lemmas.Bool.Decides.{nat_tests}
use Rattle.std.proofs.lemmas.Slice.Eq.{bytes_eq-Decides}
use Rattle.std.proofs.Math.Seq.{drop-append_seam}
use Rattle.sheet.specs.Ends.{stripped}

stripped_push : (b : ℕ) (f : List ℕ) → stripped b (f ++ (b ∷ [])) ≡ Some f
stripped_push b [] = rw (eq-eqb b b refl)
stripped_push b (x ∷ []) = ap (option_map (λ t. x ∷ t)) (stripped_push b [])
stripped_push b (x ∷ y ∷ f) = ap (option_map (λ t. x ∷ t)) (stripped_push b (y ∷ f))

stripped_from : (b : ℕ) (s f : List ℕ) → stripped b s ≡ Some f → s ≡ f ++ (b ∷ [])
stripped_from b [] f e = absurd cc
stripped_from b (x ∷ []) f e = grind (arith, nat_tests)
stripped_from b (x ∷ y ∷ xs) f e = by_rest (stripped b (y ∷ xs)) refl (stripped_from b (y ∷ xs))
  where
    by_rest : (o : Option (List ℕ)) → stripped b (y ∷ xs) ≡ o → ((g : List ℕ) → stripped b (y ∷ xs) ≡ Some g → y ∷ xs ≡ g ++ (b ∷ [])) → x ∷ y ∷ xs ≡ f ++ (b ∷ [])
    by_rest None h next = let none : None ≡ Some f = rw h at e in absurd cc
    by_rest (Some g) h next = let front : Some (x ∷ g) ≡ Some f = rw h at e in let same : x ∷ g ≡ f = cc in rw (← same) (ap (λ t. x ∷ t) (next g h))

-- a text without its last byte, as `strip_suffix` tests and cuts it
pub stripped_by : (b : ℕ) (s : List ℕ) → stripped b s ≡ cond (bytes_eq (drop (length s - 1) s) (b ∷ [])) (Some (take (length s - 1) s)) None
stripped_by b s = by_test (bytes_eq (drop (length s - 1) s) (b ∷ [])) refl
  where
    by_test : (k : Bool) → bytes_eq (drop (length s - 1) s) (b ∷ []) ≡ k → stripped b s ≡ cond k (Some (take (length s - 1) s)) None
    by_test true e =
        let last : drop (length s - 1) s ≡ b ∷ [] = (bytes_eq-Decides (drop (length s - 1) s) (b ∷ [])).0 e in
        let whole : s ≡ take (length s - 1) s ++ (b ∷ []) = sym (take-append-drop (length s - 1) s) ∙ ap (λ l. take (length s - 1) s ++ l) last in
        ap (stripped b) whole ∙ stripped_push b (take (length s - 1) s)
    by_test false e = by_rest (stripped b s) refl
      where
        by_rest : (o : Option (List ℕ)) → stripped b s ≡ o → o ≡ None
        by_rest None h = refl
        by_rest (Some f) h =
            let whole : s ≡ f ++ (b ∷ []) = stripped_from b s f h in
            let n : length s - 1 ≡ length f = omega (arith, ap length whole, length-append f (b ∷ [])) in
            let last : drop (length s - 1) s ≡ b ∷ [] = ap (λ k. drop k s) n ∙ ap (drop (length f)) whole ∙ drop-append_seam f (b ∷ []) in
            let yes : bytes_eq (drop (length s - 1) s) (b ∷ []) ≡ true = (bytes_eq-Decides (drop (length s - 1) s) (b ∷ [])).1 last in
            absurd (let no : true ≡ false = sym yes ∙ e in cc)
