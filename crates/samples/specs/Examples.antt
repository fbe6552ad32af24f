-- Worked examples of the definitions, in one table.
use Rattle.std.specs.Prelude.{◌≡◌, ℕ, zero, suc, ◌+◌, List, [], ◌∷◌, ◌++◌, Some, Ok, Err}
use Rattle.store.specs.Faults.{missing, outside, passed_up, raised}
use Rattle.store.specs.Meaning.{Meaning}
use Rattle.store.specs.Dense.{dense_at}
use Rattle.store.specs.Sparse.{listed_at}
use Rattle.store.specs.Windows.{window_at}
use Rattle.write_buffer.specs.declared.entries.Entry.{Entry}
use Rattle.write_buffer.specs.Held.{entry, written, sent}
use Rattle.telegram.specs.declared.refusal.Refusal.{Refusal}
use Rattle.telegram.specs.Refusals.{number_of}
use Rattle.telegram.specs.Decode.{Read, got, refused}
use Rattle.telegram.specs.Whole.{orders_of}

-- refused with the number n at the place p
abbrev pub RefusedWith : {V : Type 0} → Read V → ℕ → ℕ → Type 0
RefusedWith r n p = (e : Refusal) × (r ≡ refused e p) × (number_of e ≡ n)

-- the entries of n cells from c on, each with its number and 100
abbrev pub numbered : ℕ → ℕ → List Entry
numbered zero c = []
numbered (suc n) c = entry c (100 + c) ∷ numbered n (c + 1)

-- what a buffer holds after writes one after another
abbrev pub held_after : List Entry → List Entry → List Entry
held_after es [] = es
held_after es (w ∷ ws) = held_after (written es w.cell w.value) ws

-- the cells 0 to 15 are written, and then cell 0 again
abbrev pub sixteen_and_a_rewrite : List Entry
sixteen_and_a_rewrite = held_after [] (numbered 16 0 ++ (entry 0 200 ∷ []))

pub record WorkedExamples : Type 0 where
  -- no bytes
  pub no_bytes : RefusedWith (orders_of []) 1 0
  -- 00 00
  pub byte_left_over : RefusedWith (orders_of (0 ∷ 0 ∷ [])) 2 1
  -- 41
  pub sixty_five_orders : RefusedWith (orders_of (65 ∷ [])) 3 0
  -- 00
  pub no_orders : orders_of (0 ∷ []) ≡ got [] 1
  -- 01 00
  pub plain_order : orders_of (1 ∷ 0 ∷ []) ≡ got (record { class = 4; code = 1; argument = 0; reads = []; writes = [] } ∷ []) 2
  -- 01 2C 00 00 00 07 01 00 05
  pub put_into_five : orders_of (1 ∷ 44 ∷ 0 ∷ 0 ∷ 0 ∷ 7 ∷ 1 ∷ 0 ∷ 5 ∷ []) ≡ got (record { class = 4; code = 1; argument = 7; reads = 5 ∷ []; writes = 5 ∷ [] } ∷ []) 9
  -- 01 08 03 00 0A 00 0A: the second entry repeats the first, though the third is missing
  pub repeat_before_cut : RefusedWith (orders_of (1 ∷ 8 ∷ 3 ∷ 0 ∷ 10 ∷ 0 ∷ 10 ∷ [])) 7 5
  -- a window with base 1 over three cells refuses its cell 3, which is cell 4 below
  pub window_past_the_store : window_at (dense_at (7 ∷ 8 ∷ 9 ∷ [])) 1 5 3 ≡ Err (passed_up (missing 4))
  -- at its end: cell 0 is cell 65,535 below, and cell 1 is refused by the window itself
  pub window_at_the_end : (f : Meaning) → (window_at f 65535 2 0 ≡ raised (f 65535)) × (window_at f 65535 2 1 ≡ Err (outside 1))
  -- a window of length 65,535 refuses cell 65,535
  pub longest_window : (f : Meaning) → window_at f 0 65535 65535 ≡ Err (outside 65535)
  -- of the cells 4, 9 and 12 the second has the second value, and 10 has none
  pub listed_cells : (listed_at (4 ∷ 9 ∷ 12 ∷ []) (1 ∷ 2 ∷ 3 ∷ []) 9 ≡ Ok 2) × (listed_at (4 ∷ 9 ∷ 12 ∷ []) (1 ∷ 2 ∷ 3 ∷ []) 10 ≡ Err (missing 10))
  -- a rewritten cell is still the one held longest: its second value goes when a seventeenth cell comes
  pub rewritten_first : sent sixteen_and_a_rewrite 16 ≡ Some (entry 0 200)
  pub seventeenth : written sixteen_and_a_rewrite 16 116 ≡ numbered 16 1
