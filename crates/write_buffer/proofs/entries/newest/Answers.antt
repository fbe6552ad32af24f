use denote.Ref.{Bor}
use Rattle.std.proofs.Common.{◌≡◌, ◌∙◌, ap, ℕ, eqb, reverse, rules, tests}
use Rattle.std.specs.List.{find}
use Rattle.std.specs.Option.{option_map}
use Rattle.std.proofs.lemmas.Iterator.Adapters.{YieldsList-from_rev_slice}
use Rattle.std.proofs.lemmas.Iterator.Search.{find_from_yields_List}
use Rattle.write_buffer.specs.declared.entries.Entry.{Entry}
use Rattle.write_buffer.proofs.Table.{held_reversed}
use Rattle.write_buffer.proofs.entries.newest.Goals as goal

pub returns : goal.returns
returns c =
    let es = c.args.entries.now in
    let cell = c.args.cell in
    let value : Entry → ℕ = λ e. e.value in
    let mapped : c.map.result ≡ option_map value (option_map (λ (y : Bor Entry). y.now) c.find.result) = search rules in
    let found : option_map (λ (y : Bor Entry). y.now) c.find.result ≡ find (λ (e : Entry). eqb e.cell cell) (reverse es)
    = find_from_yields_List (λ (e : Entry). eqb e.cell cell) _ _ c.find.result c.find.ensures.ran (YieldsList-from_rev_slice {s = c.rev.result} es (search rules))
    (λ x b q k. search (rules, tests)) in
    mapped ∙ ap (option_map value) found ∙ held_reversed es cell
