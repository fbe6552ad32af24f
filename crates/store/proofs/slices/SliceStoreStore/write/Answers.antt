use Rattle.store.proofs.Places.{wrote_sets}
use Rattle.store.proofs.slices.SliceStoreStore.write.Goals as goal

pub returns-clause-sets : goal.returns-clause-sets
returns-clause-sets g c =
    wrote_sets g.L.Layout c.args.self.now c.set.new.self c.args.cell c.args.value g.met.L.Layout.within g.met.L.Layout.apart c.set.ensures.went
