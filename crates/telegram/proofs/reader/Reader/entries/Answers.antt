use Rattle.std.proofs.Common.{◌≡◌, ◌+◌, ◌<◌, length, Ok, rules, sym, ap, ◌∙◌, arith}
use Rattle.std.proofs.lemmas.List.{length_push}
use Rattle.std.proofs.lemmas.Result.{err_from_is_err_and}
use Rattle.order.specs.Orders.{listed}
use Rattle.order.specs.Refusals.{addition}
use Rattle.order.proofs.Gather.{taken, repeated}
use Rattle.telegram.specs.declared.refusal.Refusal.TheVariants.{RepeatedCell}
use Rattle.telegram.specs.Refusals.{from_list}
use Rattle.telegram.specs.Decode.{refused, entry_list}
use Rattle.telegram.proofs.Entries.{within_tells, refused_beside, same_refusal, part_more, entries_cut, entries_repeat, entries_more}
use Rattle.telegram.proofs.reader.Reader.entries.Goals as goal

pub returns-in_err-cell : goal.returns-in_err-cell
returns-in_err-cell c =
    let i = c.loop.invariant in
    let p = err_from_is_err_and c.from_residual.result c.from_residual.ensures.1 in
    let before = listed c.loop.seen in
    let l : length before < c.args.count = omega (arith, i.seen_all) in
    let v = rw i.same at c.in_err-cell.ensures.1 in
    let d = entries_cut c.args.count before c.args.self.now.bytes.now c.loop.self.place _ _ _ l v i.rest in
    rw (p.1, p.2) (tt, (c.cell.ensures.0 ∙ i.same, sym (rw d)))

pub returns-in_err-map_err : goal.returns-in_err-map_err
returns-in_err-map_err c =
    let i = c.loop.invariant in
    let p = err_from_is_err_and c.from_residual-in_err-map_err.result c.from_residual-in_err-map_err.ensures.1 in
    let before = listed c.loop.seen in
    let l : length before < c.args.count = omega (arith, i.seen_all) in
    let v = rw i.same at c.in_ok-cell.ensures.1 in
    let s = refused_beside c.push.result c.map_err.result c.in_err-map_err.field-0.0 c.loop.self.place _ c.map_err.ensures.cases c.in_err-map_err.was (λ r z t. search rules) in
    let x = repeated before c.in_ok-cell.cell s.0 (omega (arith, c.requires)) (sym s.1 ∙ c.push.ensures.answer) in
    let d = entries_repeat c.args.count before c.args.self.now.bytes.now c.loop.self.place c.cell.new.self.place c.in_ok-cell.cell _ l v x.0 i.rest in
    let rest : refused RepeatedCell c.loop.self.place ≡ entry_list c.args.count c.args.self.now.bytes.now c.args.self.now.place = rw d in
    rw (p.1, p.2) (tt, (c.cell.ensures.0 ∙ i.same, same_refusal _ _ _ (s.2 ∙ ap from_list x.1) s.3 ∙ rest))

pub loop-preserved : goal.loop-preserved
loop-preserved c =
    let i = c.loop.invariant in
    let t = c.args.self.now.bytes.now in
    let from = c.args.self.now.place in
    let before = listed c.loop.seen in
    let x = c.in_ok-cell.cell in
    let l : length before < c.args.count = omega (arith, i.seen_all) in
    let ok : Ok tt ≡ addition before x = search rules in
    let a = c.push.ensures.after ∙ (taken before x ok).1 in
    let m : length (listed c.push.new.self) ≡ length before + 1 = ap length a ∙ length_push before x in
    let v = rw i.same at c.in_ok-cell.ensures.1 in
    let w = within_tells t c.loop.self.place 2 c.cell.new.self.place x _ v in record {
      same = c.cell.ensures.0 ∙ i.same;
      seen_all = omega (arith, i.seen_all);
      passed = omega (arith, w.1, i.passed);
      shows = part_more t from (length before) c.loop.self.place c.cell.new.self.place x before _ i.passed v i.shows a;
      rest = entries_more c.args.count before _ t c.loop.self.place c.cell.new.self.place x _ l v (taken before x ok).0 a i.rest;
    }
