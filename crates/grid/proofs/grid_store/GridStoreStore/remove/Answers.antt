use Rattle.std.proofs.Common.{is_some, Option, sym, refl, ap}
use Rattle.stores.specs.declared.context.Context.{Context}
use Rattle.grid.specs.Rows.{absent_at}
use Rattle.grid.proofs.Stores.{sound_of}
use Rattle.grid.proofs.Tells.{remove_tells}
use Rattle.grid.proofs.grid_store.GridStoreStore.remove.Goals as goal

pub returns-in_default : goal.returns-in_default
returns-in_default c =
    let s = c.args.self.now in
    let a = absent_at s.rows c.args.session.ue s.apart c.in_default.ensures c.args.session.id in
    record {
      removes = record { stood = sym (ap (λ (o : Option Context). is_some o) a); change = record { contexts = refl; rooms = λ u k. refl } };
      floor = refl;
    }

pub invariant_of-self : goal.invariant_of-self
invariant_of-self c =
    let s = c.args.self.now in
    let t = remove_tells s.rows c.in-Some.i c.index-rows-i.result (sound_of s) c.args.session.ue c.args.session.id c.remove.new.self c.remove.result c.in-Some.ensures c.remove.ensures.stood c.remove.ensures.change in
    record { size = t.sound.size; apart = t.sound.apart; bounds = t.sound.bounds }

pub returns-clause-removes : goal.returns-clause-removes
returns-clause-removes c =
    let s = c.args.self.now in
    let t = remove_tells s.rows c.in-Some.i c.index-rows-i.result (sound_of s) c.args.session.ue c.args.session.id c.remove.new.self c.remove.result c.in-Some.ensures c.remove.ensures.stood c.remove.ensures.change in
    t.removes
