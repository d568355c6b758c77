use Rattle.std.proofs.Common.{◌≡◌, false, sym, refl, rules, ◌∙◌}
use Rattle.std.specs.Result.{is_ok}
use Rattle.grid.proofs.Rooms.{put_room}
use Rattle.grid.proofs.Stores.{sound_of}
use Rattle.grid.proofs.Tells.{put_tells}
use Rattle.grid.proofs.grid_store.GridStoreStore.put.Goals as goal

pub returns-in_err-i-clause-room : goal.returns-in_err-i-clause-room
returns-in_err-i-clause-room c =
    let h = put_room c.args.self.now.rows c.args.context c.find_target.result (sym c.if-not-is_in_bounds.ensures) c.find_target.ensures in
    let e : is_ok c.from_residual.result ≡ false = search rules in
    e ∙ c.in_err-i.ensures.variant ∙ h

pub invariant_of-self : goal.invariant_of-self
invariant_of-self c =
    let s = c.args.self.now in
    let f = rw c.in_ok-i.ensures.ok_part at c.find_target.ensures in
    let t = put_tells s.rows c.in_ok-i.i c.index-rows-i.result (sound_of s) c.args.context c.put.new.self (sym c.if-not-is_in_bounds.ensures) f c.put.ensures in
    record { size = t.sound.size; apart = t.sound.apart; bounds = t.sound.bounds }

pub returns : goal.returns
returns c =
    let s = c.args.self.now in
    let f = rw c.in_ok-i.ensures.ok_part at c.find_target.ensures in
    let t = put_tells s.rows c.in_ok-i.i c.index-rows-i.result (sound_of s) c.args.context c.put.new.self (sym c.if-not-is_in_bounds.ensures) f c.put.ensures in
    record {
      room = c.in_ok-i.ensures.variant ∙ put_room s.rows c.args.context c.find_target.result (sym c.if-not-is_in_bounds.ensures) c.find_target.ensures;
      puts = t.stored;
      floor = refl;
    }
