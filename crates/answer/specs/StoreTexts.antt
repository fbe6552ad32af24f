-- The lines that answer for a store, as bytes. Assumes nothing.
use Rattle.std.specs.Prelude.{ℕ, List, [], ◌++◌, Some, None, Ok, Err, codes, decimal, Option, Result}
use Rattle.store.specs.declared.build.Refusal.{Refusal}
use Rattle.store.specs.declared.fault.Fault.{Fault}
use Rattle.store.specs.Faults.{cause_number}
use Rattle.store.specs.Slices.{refusal_number}

-- a fault, around the number of its cause
abbrev pub fault_around : ℕ → ℕ → Fault → List ℕ
fault_around c k f =
    codes "cell " ++ (decimal c
    ++ (codes ": refused 9, cause " ++ (decimal k
    ++ (codes ", cell " ++ (decimal f.cell
    ++ (codes ", depth " ++ (decimal f.depth ++ codes "\n")))))))

-- the cell c is refused with this fault
abbrev pub fault_text : ℕ → Fault → List ℕ
fault_text c f = fault_around c (cause_number f.cause) f

-- the answer to `cell`, by what the store says of the cell
abbrev pub cell_text : ℕ → Result ℕ Fault → List ℕ
cell_text c (Ok v) = codes "cell " ++ (decimal c ++ (codes ": " ++ (decimal v ++ codes "\n")))
cell_text c (Err f) = fault_text c f

abbrev pub refusal_text : ℕ → List ℕ
refusal_text n = codes "store: refused " ++ (decimal n ++ codes "\n")

-- the line of a refused store; of another nothing is said
abbrev pub build_text : Option Refusal → List ℕ
build_text None = []
build_text (Some r) = refusal_text (refusal_number r)
