use Rattle.std.proofs.Common.{refl}
use Rattle.paths.proofs.Frame.{stored}
use Rattle.paths.proofs.lent.FactsMut.store.Goals as goal

pub invariant_of-self : goal.invariant_of-self
invariant_of-self c =
    let h = c.args.self.now in
    let a = c.requires in
    record { shaped = rw c.set_field.ensures (stored _ _ _ _ _ c.args.v h.shaped a.0 a.1 a.2 a.3).shaped; fits = h.fits }

pub returns : goal.returns
returns c =
    let h = c.args.self.now in
    let a = c.requires in
    record {
      state = rw c.set_field.ensures (stored _ _ _ _ _ c.args.v h.shaped a.0 a.1 a.2 a.3).state;
      used = refl;
      same = record { records = refl; reference = refl };
    }
